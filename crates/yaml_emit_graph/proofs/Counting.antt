-- The numbers that were given.
use Rattle.std.proofs.Common.{◌≡◌, ℕ, ◌+◌, ◌<◌, ◌≤◌, List, [], ◌∷◌, ◌++◌, length, get_or, refl, sym, subst, ◌∙◌, ap, arith, add-one, append-nil, append_assoc}
use Rattle.std.proofs.lemmas.List.{get_or_default}
use Rattle.std.specs.Prelude.{zero, suc, replicate, set}
use Rattle.yaml_parse_model.specs.Nodes.{Node}
use Rattle.yaml_emit_graph.specs.declared.walk.Turn.{Turn}
use Rattle.yaml_emit_graph.specs.Graph.{Numbering, turns, numbers, numbered, numbered_by, none_numbered}
use Rattle.yaml_emit_graph.specs.Onward.{turns_onward}
use Rattle.yaml_emit_graph.specs.Numbers.{counted, IsNumbering}
use Rattle.yaml_emit_graph.proofs.Joining.{turns_joined}

counted_most : (t : List ℕ) → counted t ≤ length t
counted_most [] = omega arith
counted_most (zero ∷ t) = let e = counted_most t in omega arith
counted_most (suc n ∷ t) = let e = counted_most t in omega arith

-- a node without a number leaves room for one
pub room : (t : List ℕ) (k d : ℕ) → k < length t → get_or t k d ≡ 0 → counted t < length t
room [] k d h e = absurd (omega arith)
room (zero ∷ t) zero d h e = let m = counted_most t in omega arith
room (suc n ∷ t) zero d h e = absurd (cc)
room (zero ∷ t) (suc k) d h e = let m = room t k d (omega arith) e in omega arith
room (suc n ∷ t) (suc k) d h e = let m = room t k d (omega arith) e in omega arith

-- one number more is set
pub counted_set : (t : List ℕ) (k n : ℕ) → get_or t k 1 ≡ 0
    → counted (set t k (suc n)) ≡ suc (counted t)
counted_set [] k n e = absurd (omega arith)
counted_set (zero ∷ t) zero n e = refl
counted_set (suc m ∷ t) zero n e = absurd (omega arith)
counted_set (zero ∷ t) (suc k) n e = counted_set t k n e
counted_set (suc m ∷ t) (suc k) n e = ap suc (counted_set t k n e)

pub same_default : (t : List ℕ) (k d e : ℕ) → k < length t → get_or t k d ≡ get_or t k e
same_default t k d e h = get_or_default t k d e h

-- a node gets the next number
pub counted_next : (t : List ℕ) (k g r : ℕ) → k < length t → r ≡ get_or t k r → r ≡ 0
    → g ≡ counted t → g + 1 ≡ counted (set t k (g + 1))
counted_next t k g r h is z e =
    let a : get_or t k 1 ≡ 0 = same_default t k 1 r h ∙ sym is ∙ z in
    rw add-one (ap suc e ∙ sym (counted_set t k g a))

-- none is set at the beginning
pub none_counted : (n : ℕ) → counted (replicate n 0) ≡ 0
none_counted zero = refl
none_counted (suc n) = none_counted n

pub numbered_start : (a : Numbering) (count : ℕ) → a ≡ none_numbered count → IsNumbering a
numbered_start a count e = subst IsNumbering (sym e) (record { counts = sym (none_counted count) })

pub numbers_start : (nodes : List Node) (a : Numbering) (ts : List Turn) (count : ℕ)
    → a ≡ none_numbered count → count ≡ length nodes → ts ≡ turns_onward nodes
    → numbers nodes ≡ (numbered a ts).table
unfolding numbers
numbers_start nodes a ts count e n t = rw (e, n, t ∙ turns_joined nodes) refl

pub numbers_more : (table : List ℕ) (a b : Numbering) (t : Turn) (ts us : List Turn)
    → table ≡ (numbered a ts).table → ts ≡ t ∷ us → b ≡ numbered_by t a
    → table ≡ (numbered b us).table
unfolding numbered
numbers_more table a b t ts us h e n = h ∙ ap (λ z. (numbered a z).table) e ∙ ap (λ z. (numbered z us).table) (sym n)

pub numbers_done : (table : List ℕ) (a : Numbering) (ts : List Turn) → table ≡ (numbered a ts).table
    → ts ≡ [] → a.table ≡ table
unfolding numbered
numbers_done table a ts h e = sym (h ∙ ap (λ z. (numbered a z).table) e)

-- ---- the turns that were met, and those to come

pub turns_start : (nodes : List Node) (ts us : List Turn) → ts ≡ [] → us ≡ turns_onward nodes
    → turns nodes ≡ ts ++ us
turns_start nodes ts us e n = sym (turns_joined nodes) ∙ sym n ∙ ap (λ z. z ++ us) (sym e)

pub turns_more : (all ts us vs ws : List Turn) (t : Turn) → all ≡ ts ++ us → us ≡ t ∷ vs
    → ws ≡ ts ++ t ∷ [] → all ≡ ws ++ vs
turns_more all ts us vs ws t h e n = grind (arith, append_assoc)

pub turns_done : (all ts us : List Turn) → all ≡ ts ++ us → us ≡ [] → ts ≡ all
turns_done all ts us h e = sym (h ∙ ap (λ z. ts ++ z) e ∙ append-nil ts)
