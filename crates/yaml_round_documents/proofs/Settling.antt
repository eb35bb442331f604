-- Labels of all nodes of two documents.
use Rattle.std.proofs.Common.{◌≡◌, ℕ, zero, suc, ◌+◌, ◌<◌, ◌≤◌, ℤ, pos, negsuc, true, false, cond, List, length, get_or, set, refl, sym, ◌∙◌, ap, inl, inr, arith}
use Rattle.std.specs.Prelude.{◌==◌}
use Rattle.std.proofs.lemmas.Bool.{cases_eq}
use Rattle.std.proofs.lemmas.Bool.Decides.{nat_tests}
use Rattle.std.proofs.lemmas.List.{get_or-set_same, get_or-set_other, length-set}
use Rattle.yaml_parse_model.specs.Nodes.{Node}
use Rattle.yaml_parse_model.specs.Documents.{IsId}
use Rattle.yaml_emit_graph.specs.Graph.{number_at}
use Rattle.yaml_round_documents.specs.declared.ranks.Ranks.{Ranks}
use Rattle.yaml_round_documents.specs.declared.ranks.BothLabels.{BothLabels}
use Rattle.yaml_round_documents.specs.Ranks.{AreBothRanked, AreLabels, IsSettled, LabelsTell, TellBoth, label_of}
use Rattle.yaml_round_documents.proofs.Labels.{both_tell}

-- the label of the node at a place
abbrev label_at : List ℕ → ℕ → ℕ → ℕ
label_at t floor k = label_of t floor (pos (suc k))

-- the first ones are settled, the others are as they were
pub record SettledTo (old : List ℕ) (floor at : ℕ) (new : List ℕ) : Type 0 where
  pub sized : length new ≡ length old
  pub front : (k : ℕ) → k < at → k < length old → get_or new k 0 ≡ label_at old floor k
  pub left : (k : ℕ) → at ≤ k → get_or new k 0 ≡ get_or old k 0

pub none_settled : (old : List ℕ) (floor : ℕ) → SettledTo old floor 0 old
none_settled old floor = record { sized = refl; front = λ k w _. absurd (omega arith); left = λ k w. refl }

other : (n : ℕ) → (n ≡ 0 → ⊥) → (n == 0) ≡ false
other n h = grind (arith, nat_tests)

-- one that has a rank keeps it
pub settled_kept : (old new : List ℕ) (floor at : ℕ) → SettledTo old floor at new
    → (get_or new at 0 ≡ 0 → ⊥) → SettledTo old floor (at + 1) new
settled_kept old new floor at h some = record {
  sized = h.sized;
  front = λ k w v. elim (cases_eq k at) [
    | inl e ↦ let is : get_or new k 0 ≡ get_or old k 0 = h.left k (omega arith) in
        let n : (get_or old k 0 == 0) ≡ false = other (get_or old k 0) (λ z. some (ap (λ j. get_or new j 0) (sym e) ∙ is ∙ z)) in
        is ∙ sym (ap (λ b. cond b (floor + suc k) (get_or old k 0)) n)
    | inr ne ↦ h.front k (omega arith) v
  ];
  left = λ k w. h.left k (omega arith);
}

-- one that has none gets its number
pub settled_set : (old new : List ℕ) (floor at n : ℕ) → SettledTo old floor at new
    → at < length new → get_or new at 0 ≡ 0 → n ≡ floor + at + 1
    → SettledTo old floor (at + 1) (set new at n)
settled_set old new floor at n h w none is =
    let s = h.sized in record {
      sized = length-set new at n ∙ s;
      front = λ k v u. elim (cases_eq k at) [
        | inl e ↦ let z : get_or old k 0 ≡ 0 = sym (h.left k (omega arith)) ∙ ap (λ j. get_or new j 0) e ∙ none in
            let t : (get_or old k 0 == 0) ≡ true = ap (λ j. j == 0) z in
            let numbered : floor + at + 1 ≡ floor + suc k = omega arith in
            ap (λ j. get_or (set new at n) j 0) e ∙ get_or-set_same new at n 0 w ∙ is
            ∙ numbered ∙ sym (ap (λ b. cond b (floor + suc k) (get_or old k 0)) t)
        | inr ne ↦ get_or-set_other new at k n 0 ne ∙ h.front k (omega arith) u
      ];
      left = λ k v. get_or-set_other new at k n 0 (λ e. omega arith) ∙ h.left k (omega arith);
    }

pub all_settled : (old new : List ℕ) (floor at : ℕ) → SettledTo old floor at new → length new ≤ at
    → IsSettled old floor new
all_settled old new floor at h w = (h.sized, settled)
  where
    settled : (a : ℤ) → IsId (length old) a → number_at new a ≡ label_of old floor a
    settled (pos (suc k)) v = let s = h.sized in h.front k (omega arith) v
    settled (pos zero) v = absurd v
    settled (negsuc k) v = absurd v

-- numbers that agree for each node decide the same
told_by : (nodes others : List Node) (f g h j : ℤ → ℕ) → TellBoth nodes others f g
    → ((a : ℤ) → IsId (length nodes) a → h a ≡ f a) → ((a : ℤ) → IsId (length others) a → j a ≡ g a)
    → TellBoth nodes others h j
told_by nodes others f g h j t p q = record {
  own = λ a b v w. (λ e. (t.own a b v w).0 (sym (p a v) ∙ e ∙ p b w), λ s. p a v ∙ (t.own a b v w).1 s ∙ sym (p b w));
  other = λ a b v w. (λ e. (t.other a b v w).0 (sym (q a v) ∙ e ∙ q b w), λ s. q a v ∙ (t.other a b v w).1 s ∙ sym (q b w));
  across = λ a b v w. (λ e. (t.across a b v w).0 (sym (p a v) ∙ e ∙ q b w), λ s. p a v ∙ (t.across a b v w).1 s ∙ sym (q b w));
}

pub labels_tell : (nodes others : List Node) (table : List ℕ) (r : Ranks) (l : BothLabels)
    → AreBothRanked nodes others table r → AreLabels table r.table.items r.given l
    → LabelsTell nodes others l
labels_tell nodes others table r l b h =
    told_by nodes others (label_of table r.given) (label_of r.table.items (r.given + suc (length table)))
    (number_at l.first.items) (number_at l.second.items)
    (both_tell nodes others table r.table.items r.shapes r.given b.first b.second b.first_judged b.second_judged)
    (λ a v. h.first a (first a v))
    (λ a v. h.second a (second a v))
  where
    first : (a : ℤ) → IsId (length nodes) a → IsId (length table) a
    first (pos (suc k)) v = let s = b.first.sized in omega arith
    first (pos zero) v = absurd v
    first (negsuc k) v = absurd v

    second : (a : ℤ) → IsId (length others) a → IsId (length r.table.items) a
    second (pos (suc k)) v = let s = b.second.sized in omega arith
    second (pos zero) v = absurd v
    second (negsuc k) v = absurd v
