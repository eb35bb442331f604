-- As the next event is given, or the fault is reported, no fewer tokens are asked for than are to come.
use Rattle.std.proofs.Common.{◌≤◌, ◌+◌, ℕ, List, [], ◌∷◌, ◌++◌, length, map, Option, Some, None, sym, subst, arith}
use Rattle.yaml_parse_model.specs.scan_types.Tokens.{Token, no_token}
use Rattle.yaml_parse_model.specs.scan_types.Faults.{Fault}
use Rattle.yaml_parse_model.specs.Source.{front_of, rest_of}
use Rattle.yaml_parse_grammar.specs.Items.{RawEvent}
use Rattle.yaml_parse_grammar.specs.States.{State}
use Rattle.yaml_parse_grammar.specs.Trees.{Given}
use Rattle.yaml_parse_grammar.specs.Machine.{Fed, stop, go, feed, Outcome, finished, carry, ending_at, run, left_where_stopped, unasked_at_stop}
use Rattle.yaml_parse_grammar.specs.Resolve.{Directives, Settled, noted, settle, Reading, read_on, reading, unasked_at_fault, unasked_on}
use Rattle.yaml_parse_grammar.specs.Remaining.{next_unasked}
use Rattle.yaml_scan_model.specs.declared.kind.Kind.{Kind}
use Rattle.yaml_scan_model.specs.Shows.{IsNext, left_behind}
use Rattle.yaml_parse_states.specs.Coming.{read}

-- ---- items

-- none goes with more than that many
abbrev Within : ℕ → List Given → Type 0
Within n [] = Unit {0}
Within n (g ∷ gs) = (g.1 ≤ n) × Within n gs

within_map : (is : List RawEvent) (left n : ℕ) (gs : List Given) → left ≤ n → Within n gs
    → Within n (map (λ (i : RawEvent). (i, left)) is ++ gs)
within_map [] left n gs l h = h
within_map (i ∷ is) left n gs l h = (l, within_map is left n gs l h)

within_last : (is : List RawEvent) (left n : ℕ) → left ≤ n
    → Within n (map (λ (i : RawEvent). (i, left)) is)
within_last [] left n l = tt
within_last (i ∷ is) left n l = (l, within_last is left n l)

within_carried : (left n : ℕ) (fed : Fed) (k : List State → Outcome) → left ≤ n
    → ((s : List State) → Within n (k s).items) → Within n (carry left fed k).items
within_carried left n (stop is f) k l h = within_last is left n l
within_carried left n (go is s) k l h = within_map is left n (k s).items l (h s)

within_ending : (s : List State) (e : Fault) (n : ℕ) → Within n (ending_at s e).items
within_ending [] e n = tt
within_ending (x ∷ s) e n = tt

within : (ts : List Token) (f : Option Fault) (s : List State) (n : ℕ) → length ts ≤ n + 1
    → Within n (run ts s f).items
unfolding run
within [] (Some e) s n h = within_ending s e n
within [] None s n h = within_carried 0 n (feed s no_token) (λ _. finished) (omega arith) (λ z. tt)
within (t ∷ ts) f s n h = within_carried (length ts) n (feed s t) (λ s'. run ts s' f) (omega arith) (λ z. within ts f z n (omega arith))

stop_on : (left n : ℕ) (fed : Fed) (k : List State → ℕ) → left ≤ n → ((s : List State) → k s ≤ n)
    → left_where_stopped left fed k ≤ n
stop_on left n (stop is f) k l h = l
stop_on left n (go is s) k l h = h s

stop_within : (ts : List Token) (s : List State) (n : ℕ) → length ts ≤ n + 1
    → unasked_at_stop ts s ≤ n
unfolding unasked_at_stop
stop_within [] s n h = omega arith
stop_within (t ∷ ts) s n h = stop_on (length ts) n (feed s t) (λ s'. unasked_at_stop ts s') (omega arith) (λ z. stop_within ts z n (omega arith))

-- ---- the next event

next_on : (c : Settled) (i : RawEvent) (left n : ℕ) (k : Directives → Reading) (u : Directives → ℕ)
    → left ≤ n → ((ds : Directives) → next_unasked (k ds).events (u ds) ≤ n)
    → next_unasked (read_on c i left k).events (unasked_on c left u) ≤ n
next_on (noted ds) i left n k u l h = h ds
next_on _ i left n k u l h = l

next_read : (gs : List Given) (f : Option Fault) (m n : ℕ) (ds : Directives) → Within n gs → m ≤ n
    → next_unasked (reading gs f ds).events (unasked_at_fault gs m ds) ≤ n
unfolding reading unasked_at_fault
next_read [] f m n ds h l = l
next_read (g ∷ gs) f m n ds h l = next_on (settle g.0 ds) g.0 g.1 n (λ d. reading gs f d) (λ d. unasked_at_fault gs m d) h.0 (λ d. next_read gs f m n d h.1 l)

-- when the next event is given, the first token was asked for
next_behind : (t : Token) (ts : List Token) (f : Option Fault) (s : List State) (ds : Directives)
    → next_unasked (read (t ∷ ts) f s ds).events (read (t ∷ ts) f s ds).ending_unasked ≤ length ts
unfolding read
next_behind t ts f s ds =
    next_read (run (t ∷ ts) s f).items (run (t ∷ ts) s f).ending (unasked_at_stop (t ∷ ts) s) (length ts) ds (within (t ∷ ts) f s (length ts) (omega arith)) (stop_within (t ∷ ts) s (length ts) (omega arith))

pub next_asked : (k : Kind) (ts : List Token) (f : Option Fault) (s : List State) (ds : Directives)
    → IsNext k ts
    → next_unasked (read ts f s ds).events (read ts f s ds).ending_unasked ≤ left_behind ts
next_asked k ts f s ds n =
    subst (λ (z : List Token). next_unasked (read z f s ds).events (read z f s ds).ending_unasked ≤ left_behind ts) (sym n.same) (next_behind (front_of ts) (rest_of ts) f s ds)
