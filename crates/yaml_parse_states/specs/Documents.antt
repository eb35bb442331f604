-- What the functions of documents and directives do.
use Rattle.std.specs.Prelude.{◌≡◌, ◌⊎◌, ◌++◌, ℕ, false, List, [], ◌∷◌}
use Rattle.yaml_parse_model.specs.declared.yaml_mark_t.{yaml_mark_t}
use Rattle.yaml_parse_model.specs.Source.{front_of, rest_of}
use Rattle.yaml_parse_model.specs.Events as event
use Rattle.yaml_parse_model.specs.scan_types.Faults.{Fault, memory_fault}
use Rattle.yaml_parse_model.specs.declared.yaml_origin_t.TheVariants.{Parser as ParserLayer}
use Rattle.yaml_parse_grammar.specs.States as grammar
use Rattle.yaml_parse_grammar.specs.Resolve.{Directives, Settled, noted, refused}
use Rattle.yaml_scan_model.specs.declared.tokens.Tokens.{Ghosts}
use Rattle.yaml_parse_states.specs.declared.parser.Parser.{Parser}
use Rattle.yaml_parse_states.specs.declared.parser.State.TheVariants as state
use Rattle.yaml_parse_states.specs.declared.parser.Turn.{Turn}
use Rattle.yaml_parse_states.specs.declared.parser.Turn.TheVariants as turn
use Rattle.yaml_parse_states.specs.Coming.{Coming}
use Rattle.yaml_parse_states.specs.Views.{coming_with, directives_of, event_in}
use Rattle.yaml_parse_states.specs.Turned.{IsRefused, IsTaken, LacksMemory, Refuses}

-- one more for tags
abbrev pub with_directive : List ℕ → List ℕ → Directives → Directives
with_directive handle prefix ds = record {
  version = ds.version;
  tags = ds.tags ++ (record { handle = handle; prefix = prefix } ∷ []);
}

-- what a directive comes to: a fault, or out of memory
pub record IsWrong {T P : Type 0} (g : Ghosts T P) (s : Settled) (old new : Parser T P) : Type 0
  where
    pub fault : Fault
    pub reason : (s ≡ refused fault) ⊎ (fault ≡ memory_fault ParserLayer)
    pub refuses : Refuses g fault old new

-- a directive comes to that: it is noted, or refused
abbrev pub Settles : {T P : Type 0} → Ghosts T P → Settled → Parser T P → Turn → Parser T P → Type 0
Settles g s old turn.Given new = (s ≡ noted (directives_of new.directives))
    × (new ≡ record old { directives = new.directives })
Settles g s old turn.Refused new = IsWrong g s old new
Settles g s old r new = ⊥

-- after directives, of which the first starts there, one more is noted, or the fault is reported
abbrev pub Noted : {T P : Type 0} → Ghosts T P → Coming → yaml_mark_t → Parser T P → Turn
    → Parser T P → Type 0
Noted g was from old turn.Given new = (was ≡ coming_with g (grammar.directives from ∷ []) new)
    × (g.mark_of new.tokens ≡ g.mark_of old.tokens)
    × (g.to_come new.tokens ≡ rest_of (g.to_come old.tokens))
Noted g was from old turn.Refused new = IsRefused g was new ⊎ LacksMemory g was new
Noted g was from old r new = ⊥

abbrev pub Notes : {T P : Type 0} → Ghosts T P → Parser T P → Turn → Parser T P → Type 0
Notes g old r new = (from : yaml_mark_t)
    → Noted g (coming_with g (grammar.directives from ∷ []) old) from old r new

-- the document's start that is next is taken, after directives of which the first starts there
pub record TakesStart {T P : Type 0} (g : Ghosts T P) (from : yaml_mark_t) (old new : Parser T P)
    : Type 0 where
  pub same : new ≡ record old {
    tokens = new.tokens;
    state = state.DocumentContent;
    event
        = new.event;
  }
  pub token : IsTaken g old.tokens new.tokens
  pub event : event_in g new ≡ record {
    body = event.document_start (directives_of old.directives).version
        (directives_of old.directives).tags false;
    start_mark = from;
    end_mark = (front_of (g.to_come old.tokens)).end_mark;
  }
