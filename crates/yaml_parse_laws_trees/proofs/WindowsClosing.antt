-- A stack has a state for each bracket that is open.
use Rattle.std.proofs.Common.{◌≡◌, ℕ, ◌+◌, ◌-◌, true, false, ◌||◌, List, [], ◌∷◌, ◌++◌, arith, refl, sym, subst}
use Rattle.std.proofs.lemmas.Bool.{true≢false}
use Rattle.yaml_parse_laws_trees.proofs.WindowsWords.{no_directives, yaml_mark_t, Token, TokenBody, type_of, Refuse, Take, Leave, Open, Choice, Root, RawEvent, Directives, State, starts_node, choice_at, taken_at, Fed, stop, go, with_item, turn, feed}
use Rattle.yaml_parse_grammar.specs.declared.Wants.{Wants}
use Rattle.yaml_parse_grammar.specs.Items.{Properties}
use Rattle.yaml_parse_grammar.specs.States as state
use Rattle.yaml_parse_grammar.specs.Machine.{starts_content, joins, node_taken, with_properties_taken}
use Rattle.yaml_parse_laws_trees.specs.Depths.{depth_after}
use Rattle.yaml_parse_laws_trees.proofs.Grounding.{is_ground, Stands}
use Rattle.yaml_parse_laws_trees.proofs.Noting.{within_stands}

-- it is in brackets of its own
abbrev weight : State → ℕ
weight (state.items b opener) = 1
weight (state.more b opener) = 1
weight _ = 0

abbrev pub opened : List State → ℕ
opened [] = 0
opened (x ∷ s) = weight x + opened s

opened_on : (xs s : List State) → opened (xs ++ s) ≡ opened xs + opened s
opened_on [] s = none (opened s)
  where
    none : (a : ℕ) → a ≡ 0 + a
    none a = omega arith
opened_on (x ∷ xs) s = adds (weight x) (opened xs) (opened s) (opened (xs ++ s)) (opened_on xs s)
  where
    adds : (a b c m : ℕ) → m ≡ b + c → a + m ≡ (a + b) + c
    adds a b c m e = omega (arith, e)

-- ---- a state at a token

-- states that are in place of one, of that weight, after a token
abbrev Rises : List State → ℕ → TokenBody → Type 0
Rises above x b = (n : ℕ) → opened above + n ≡ depth_after b (x + n)

opens : (n : ℕ) → 1 + n ≡ (0 + n) + 1
opens n = omega arith

opens_within : (n : ℕ) → 2 + n ≡ (1 + n) + 1
opens_within n = omega arith

closes : (n : ℕ) → 0 + n ≡ (1 + n) - 1
closes n = omega arith

abbrev Levels : Choice → State → Token → Type 0
Levels (Refuse p o) x t = Unit {0}
Levels Take x t = Rises (taken_at x t).above (weight x) t.body
Levels Leave x t = (weight x ≡ 0) × (is_ground x ≡ false)
Levels Open x t = Rises (taken_at (state.optional Root t.start_mark) t).above (weight x) t.body

node_rises : (w : Wants) (b : TokenBody) (m e : yaml_mark_t) → starts_node w (type_of b) ≡ true
    → Rises (node_taken w m e b).above 0 b
node_rises w b m e h = grind (arith, opens, true≢false)

beside_rises : (w : Wants) (p : Properties) (b : TokenBody) (m e : yaml_mark_t)
    → (joins p (type_of b) || starts_content w (type_of b)) ≡ true
    → Rises (with_properties_taken w p m e b).above 0 b
beside_rises w p b m e h = grind (arith, opens, true≢false)

optional_levels : (place : _) (before : yaml_mark_t) (t : Token)
    → Levels (choice_at (state.optional place before) (type_of t.body)) (state.optional place before) t
optional_levels place before t = grind (arith, node_rises)

beside_levels : (w : Wants) (p : Properties) (t : Token)
    → Levels (choice_at (state.with_properties w p) (type_of t.body)) (state.with_properties w p) t
beside_levels w p t = grind (arith, beside_rises)

levels_at_by : (x : State) (start end : yaml_mark_t) (b : TokenBody)
    → Levels (choice_at x (type_of b)) x (record { body = b; start_mark = start; end_mark = end })
levels_at_by x start end b = grind (arith, opens, optional_levels, beside_levels, closes, opens_within)

levels_at : (x : State) (t : Token) → Levels (choice_at x (type_of t.body)) x t
levels_at x t = levels_at_by x t.start_mark t.end_mark t.body

-- ---- a stack at a token

-- what goes on has as many open as there are after the token, where n are open before it
abbrev pub IsLevel : Fed → TokenBody → ℕ → Type 0
IsLevel (stop is f) b n = Unit {0}
IsLevel (go is s) b n = opened s ≡ depth_after b n

item_level : (i : RawEvent) (x : Fed) (b : TokenBody) (n : ℕ) → IsLevel x b n
    → IsLevel (with_item i x) b n
item_level i x b n h = grind arith

none_in_front : (a n : ℕ) → a ≡ 0 → n ≡ a + n
none_in_front a n e = omega (arith, e)

turn_level : (c : Choice) (x : State) (t : Token) (s : List State) → Levels c x t
    → (is_ground x ≡ false → IsLevel (feed s t) t.body (opened s))
    → IsLevel (turn c x t s (feed s t)) t.body (weight x + opened s)
turn_level c x t s h below = grind (arith, opened_on, none_in_front, item_level)

-- A sound stack has a state for each bracket that is open, after each token that it takes.
pub feed_level : (s : List State) (ds : Directives) → Stands s ds → (t : Token)
    → IsLevel (feed s t) t.body (opened s)
unfolding feed
feed_level [] ds g t = absurd g
feed_level (state.stream ∷ s) ds g t = turn_level (choice_at state.stream (type_of t.body)) state.stream t s (levels_at state.stream t) (λ h. absurd (true≢false h))
feed_level (state.first ∷ s) ds g t = turn_level (choice_at state.first (type_of t.body)) state.first t s (levels_at state.first t) (λ h. absurd (true≢false h))
feed_level (state.documents ∷ s) ds g t = turn_level (choice_at state.documents (type_of t.body)) state.documents t s (levels_at state.documents t) (λ h. absurd (true≢false h))
feed_level (state.directives from ∷ s) ds g t = turn_level (choice_at (state.directives from) (type_of t.body)) (state.directives from) t s (levels_at (state.directives from) t) (λ h. absurd (true≢false h))
feed_level (state.document_end ∷ s) ds g t =
    turn_level (choice_at state.document_end (type_of t.body)) state.document_end t s (levels_at state.document_end t)
    (λ h. feed_level s no_directives (subst (λ z. Stands z no_directives) (sym g) (refl, refl)) t)
feed_level (x ∷ s) ds g t = turn_level (choice_at x (type_of t.body)) x t s (levels_at x t) (λ h. feed_level s ds (within_stands s ds g) t)
