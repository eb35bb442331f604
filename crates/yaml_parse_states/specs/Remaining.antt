-- What a call gives, in the words of what is still to come of a parser.
use Rattle.std.specs.Prelude.{◌≡◌, ℕ, Bool, reverse}
use Rattle.yaml_parse_model.specs.scan_types.Faults.{Fault}
use Rattle.yaml_parse_grammar.specs.Remaining.{ParserRemaining, FaultOf, is_between}
use Rattle.yaml_scan_model.specs.declared.tokens.Tokens.{Ghosts}
use Rattle.yaml_parse_states.specs.declared.parser.Parser.{Parser}
use Rattle.yaml_parse_states.specs.declared.parser.Refusal.{Refusal}
use Rattle.yaml_parse_states.specs.Coming.{Coming}
use Rattle.yaml_parse_states.specs.Views.{coming_of, stack}
use Rattle.yaml_parse_states.specs.Turned.{Means}
use Rattle.yaml_parse_states.specs.Standing.{Stands}
use Rattle.yaml_parse_states.specs.Utf8.{IsUtf8Held}

-- with that many tokens not asked for and that many held, no document half taken or one, and that fault answered
abbrev pub remaining : Coming → ℕ → ℕ → Bool → Fault → ParserRemaining
remaining c n h b a = record {
  events = c.events;
  ending = c.ending;
  ending_unasked = c.ending_unasked;
  unasked = n;
  held = h;
  between = b;
  answered = a;
}

-- of a parser, of whose tokens that many are held
abbrev pub remaining_of : {T P : Type 0} → Ghosts T P → (T → ℕ) → Parser T P → ℕ → Fault
    → ParserRemaining
remaining_of g held p n a = remaining (coming_of g p) n (held p.tokens)
    (is_between (stack (g.mark_of p.tokens) p.state (reverse p.levels.items))) a

-- the fault was that to come, or memory ran out
pub record ToldNext {T P : Type 0} (g : Ghosts T P) (held : T → ℕ) (n : ℕ) (a : Fault) (f : Fault)
    (old new : Parser T P) : Type 0 where
  pub unasked : ℕ
  pub left : g.unasked new.tokens ≡ unasked
  pub tells : FaultOf (remaining_of g held old n a) f (remaining_of g held new unasked f)

abbrev pub Told : {T P : Type 0} → Ghosts T P → Fault → Parser T P → Parser T P → Type 0
Told g f old new = (held : _ → ℕ) (n : ℕ) (a : Fault) → ToldNext g held n a f old new

-- it was reported by that refusal
pub record ToldBy {T P : Type 0} (g : Ghosts T P) (r : Refusal) (old new : Parser T P) : Type 0
  where
    pub fault : Fault
    pub means : Means g new.tokens r fault
    pub stands : Stands new
    pub utf8 : IsUtf8Held g new
    pub told : Told g fault old new

-- the tokens of a parser
abbrev pub tokens_of : {T P : Type 0} → Parser T P → T
tokens_of p = p.tokens
