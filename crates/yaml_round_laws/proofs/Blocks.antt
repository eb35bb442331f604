-- A line comes first, and forgets the one before it; or a collection ends, and its surroundings go on.
use Rattle.std.proofs.Common.{◌≡◌, ℕ, Bool, true, false, true≢false, not, ◌&&◌, List, [], ◌∷◌, refl, sym, Option, Some, None}
use Rattle.yaml_round_laws.proofs.Words.{Cursor, Settings, LineBreak, Lf, Rest, Layout, line, nothing_more, TagDirective, Level, Problem, Phase, Items, Keys, Value, Event, document_end, alias, scalar, sequence_start, sequence_end, mapping_start, mapping_end, or_else, problem_by, place_problem, last_problem, before_item, before_key, closer, end_layout, State, among, piece, next, next_at, problem_at, opens_empty, text_at, depth_at, top_of, place_at, let_out, unless, laid, refused_at, is_between, are_between, BlocksStandByLevels}

-- both lines have text, after block scalars that both keep their breaks or both don't
record Lined (c d : Cursor) : Type 0 where
  first : c.bare ≡ false
  second : d.bare ≡ false
  kept : c.kept ≡ d.kept

line_same : (b : LineBreak) (n : ℕ) (c d : Cursor) (rest : Rest) → Lined c d
    → line b n c rest ≡ line b n d rest
unfolding line
line_same Lf n c d rest h = rw h.first (rw h.second (rw h.kept refl))
line_same _ n c d rest h = rw h.first (rw h.second (rw h.kept refl))

never : (p q : Option Problem) (x : Problem) → or_else p (or_else (Some x) q) ≡ None → ⊥
never None q x h = cc
never (Some y) q x h = cc

unless_same : (p : Option Problem) (a : Layout) (c d : Cursor)
    → (p ≡ None → a c nothing_more ≡ a d nothing_more)
    → unless p a c nothing_more ≡ unless p a d nothing_more
unless_same None a c d h = h refl
unless_same (Some x) a c d h = refl

-- what an event writes and leads to from a line is the same from another
abbrev Same : Settings → List TagDirective → List Level → Event → Bool → Cursor → Cursor
    → (State → Rest) → Type 0
Same s g ls e b c d k = piece s (among g ls) e b c (λ z. k (next s (among g ls) e b z) z) ≡ piece s (among g ls) e b d (λ z. k (next s (among g ls) e b z) z)

-- after the last collection only the document's end is right
root_same : (s : Settings) (g : List TagDirective) (e : Event) (b : Bool) (c d : Cursor)
    (k : State → Rest) → Lined c d → problem_at s (among g []) e ≡ None → Same s g [] e b c d k
unfolding problem_by place_problem text_at depth_at end_layout
root_same s g (document_end implicit) b c d k h p = line_same s.line_break 0 c d _ h
root_same s g e b c d k h p = absurd (never _ (last_problem e) _ p)

abbrev items : ℕ → Bool → Level
items n fresh = record { phase = Items fresh; flow = false; indent = n }

abbrev keys : ℕ → Bool → Level
keys n fresh = record { phase = Keys fresh; flow = false; indent = n }

items_same : (s : Settings) (g : List TagDirective) (n : ℕ) (fresh : Bool) (ls : List Level)
    (e : Event) (b : Bool) (c d : Cursor) (k : State → Rest) → Lined c d
    → k (among g ls) c ≡ k (among g ls) d
    → problem_at s (among g (items n fresh ∷ ls)) e ≡ None → Same s g (items n fresh ∷ ls) e b c d k
unfolding problem_by place_problem text_at depth_at next_at before_item closer
items_same s g n fresh ls (alias name) b c d k h r p = line_same s.line_break n c d _ h
items_same s g n fresh ls (scalar x) b c d k h r p = line_same s.line_break n c d _ h
items_same s g n fresh ls (sequence_start q) b c d k h r p = line_same s.line_break n c d _ h
items_same s g n fresh ls (mapping_start q) b c d k h r p = line_same s.line_break n c d _ h
items_same s g n fresh ls sequence_end b c d k h r p = r
items_same s g n fresh ls e b c d k h r p = absurd (never _ (last_problem e) _ p)

keys_same : (s : Settings) (g : List TagDirective) (n : ℕ) (fresh : Bool) (ls : List Level)
    (e : Event) (b : Bool) (c d : Cursor) (k : State → Rest) → Lined c d
    → k (among g ls) c ≡ k (among g ls) d
    → problem_at s (among g (keys n fresh ∷ ls)) e ≡ None → Same s g (keys n fresh ∷ ls) e b c d k
unfolding problem_by place_problem text_at depth_at next_at before_key closer
keys_same s g n fresh ls (alias name) b c d k h r p = line_same s.line_break n c d _ h
keys_same s g n fresh ls (scalar x) b c d k h r p = line_same s.line_break n c d _ h
keys_same s g n fresh ls (sequence_start q) b c d k h r p = line_same s.line_break n c d _ h
keys_same s g n fresh ls (mapping_start q) b c d k h r p = line_same s.line_break n c d _ h
keys_same s g n fresh ls mapping_end b c d k h r p = r
keys_same s g n fresh ls e b c d k h r p = absurd (never _ (last_problem e) _ p)

-- those after an event are laid out from the state that it leads to
later : Settings → List Event → State → Rest
later s es st z = laid s st es z nothing_more

first_same : (s : Settings) (g : List TagDirective) (ls : List Level) (e : Event) (es : List Event)
    (c d : Cursor)
    → (problem_at s (among g ls) e ≡ None → Same s g ls e (opens_empty e es) c d (later s es))
    → laid s (among g ls) (e ∷ es) c nothing_more ≡ laid s (among g ls) (e ∷ es) d nothing_more
unfolding laid later
first_same s g ls e es c d h = unless_same (problem_at s (among g ls) e) (λ z rest. piece s (among g ls) e (opens_empty e es) z (λ y. laid s (next s (among g ls) e (opens_empty e es) y) es y rest)) c d h

-- by the level, where those around it are the same
level_same : (s : Settings) (g : List TagDirective) (e : Event) (es : List Event) (ls : List Level)
    (c d : Cursor) → Lined c d
    → (are_between ls ≡ true → laid s (among g ls) es c nothing_more
    ≡ laid s (among g ls) es d nothing_more)
    → (phase : Phase) (flow : Bool) (n : ℕ)
    → (not flow && (is_between phase && are_between ls)) ≡ true
    → laid s (among g (record { phase = phase; flow = flow; indent = n } ∷ ls)) (e ∷ es) c
    nothing_more ≡ laid s (among g (record { phase = phase; flow = flow; indent = n } ∷ ls))
    (e ∷ es) d nothing_more
unfolding later
level_same s g e es ls c d h outer phase true n w = absurd (true≢false (sym w))
level_same s g e es ls c d h outer (Items fresh) false n w = first_same s g (items n fresh ∷ ls) e es c d (items_same s g n fresh ls e (opens_empty e es) c d (later s es) h (outer w))
level_same s g e es ls c d h outer (Keys fresh) false n w = first_same s g (keys n fresh ∷ ls) e es c d (keys_same s g n fresh ls e (opens_empty e es) c d (later s es) h (outer w))
level_same s g e es ls c d h outer (Value simple) false n w = absurd (true≢false (sym w))

laid_same : (s : Settings) (g : List TagDirective) (es : List Event) (ls : List Level)
    (c d : Cursor) → Lined c d → are_between ls ≡ true
    → laid s (among g ls) es c nothing_more ≡ laid s (among g ls) es d nothing_more
unfolding laid are_between
laid_same s g [] ls c d h w = refl
laid_same s g (e ∷ es) [] c d h w = first_same s g [] e es c d (root_same s g e (opens_empty e es) c d (later s es) h)
laid_same s g (e ∷ es) (l ∷ ls) c d h w = level_same s g e es ls c d h (λ v. laid_same s g es ls c d h v) l.phase l.flow l.indent w

open_same : (s : Settings) (g : List TagDirective) (ls : List Level) (es : List Event)
    (c d : Cursor) → laid s (among g ls) es c nothing_more ≡ laid s (among g ls) es d nothing_more
    → unless (refused_at (place_at (top_of ls))) (laid s (among g ls) es) c nothing_more
    ≡ unless (refused_at (place_at (top_of ls))) (laid s (among g ls) es) d nothing_more
open_same s g [] es c d h = h
open_same s g (l ∷ ls) es c d h = h

pub blocks : BlocksStandByLevels
blocks s g ls c d w x y k more = open_same s g ls (let_out more) c d (laid_same s g (let_out more) ls c d (record { first = x; second = y; kept = k }) w)
