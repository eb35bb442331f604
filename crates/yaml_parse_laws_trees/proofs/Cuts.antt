-- Where a list of tokens is cut.
use Rattle.std.proofs.Common.{◌≡◌, ◌+◌, List, [], ◌∷◌, ◌++◌, length, refl, ap, sym, ◌∙◌, arith, zero-add}
use Rattle.yaml_parse_laws_trees.proofs.Words.{Token, followed_by}
use Rattle.yaml_parse_laws_trees.proofs.CountsFirst.{rest_same}

pub followed_on : (past ts us : List Token)
    → followed_by past ts ++ us ≡ followed_by past (ts ++ us)
followed_on [] ts us = refl
followed_on (t ∷ past) ts us = followed_on past (t ∷ ts) us

pub head_same : (a b : Token) (x y : List Token) → a ∷ x ≡ b ∷ y → a ≡ b
head_same a b x y h = cc

pub record SameCut (past other ts us : List Token) : Type 0 where
  pub before : past ≡ other
  pub behind : ts ≡ us

cons_same : (a b : Token) (x y : List Token) → a ≡ b → x ≡ y → a ∷ x ≡ b ∷ y
cons_same a b x y p q = cc

empty_length : (a : Token) (past : List Token) → length (a ∷ past) ≡ length {A = Token} [] → ⊥
empty_length a past h = omega arith

-- two cuts after as many tokens are the same
pub same_cut : (past other ts us : List Token) → followed_by past ts ≡ followed_by other us
    → length past ≡ length other → SameCut past other ts us
same_cut [] [] ts us h n = record { before = refl; behind = h }
same_cut [] (b ∷ other) ts us h n = absurd (empty_length b other (sym n))
same_cut (a ∷ past) [] ts us h n = absurd (empty_length a past n)
same_cut (a ∷ past) (b ∷ other) ts us h n =
    let c : SameCut past other (a ∷ ts) (b ∷ us) = same_cut past other (a ∷ ts) (b ∷ us) h (omega arith) in
    record { before = cons_same a b past other (head_same a b ts us c.behind) c.before; behind = rest_same a b ts us c.behind }

-- ---- a list whose front is another

-- no front of what was read is that list
abbrev pub IsNoFront : List Token → List Token → Type 0
IsNoFront list [] = [] ≡ list → ⊥
IsNoFront list (t ∷ past) = (followed_by (t ∷ past) [] ≡ list → ⊥) × IsNoFront list past

-- then the list goes on with what follows
pub record Reaches (past us list rest : List Token) : Type 0 where
  pub token : Token
  pub more : List Token
  pub same : list ≡ followed_by past (token ∷ more)
  pub behind : us ≡ token ∷ (more ++ rest)

moved : (x m : Token) (past us rest list : List Token) (more : List Token)
    → list ≡ followed_by past (m ∷ more) → x ∷ us ≡ m ∷ (more ++ rest)
    → (followed_by (x ∷ past) [] ≡ list → ⊥) → Reaches (x ∷ past) us list rest
moved x m past us rest list [] p q n = absurd (n (ap (λ (z : Token). followed_by past (z ∷ [])) (head_same x m us rest q) ∙ sym p))
moved x m past us rest list (y ∷ more) p q n = record {
  token = y;
  more = more;
  same = p ∙ ap (λ (z : Token). followed_by past (z ∷ y ∷ more)) (sym (head_same x m us (y ∷ (more ++ rest)) q));
  behind = rest_same x m us (y ∷ (more ++ rest)) q;
}

at_start : (us list rest : List Token) → us ≡ list ++ rest → ([] ≡ list → ⊥)
    → Reaches [] us list rest
at_start us [] rest p n = absurd (n refl)
at_start us (y ∷ list) rest p n = record { token = y; more = list; same = refl; behind = p }

pub reaches : (past us list rest : List Token) → followed_by past us ≡ list ++ rest
    → IsNoFront list past → Reaches past us list rest
reaches [] us list rest p n = at_start us list rest p n
reaches (x ∷ past) us list rest p n = let r : Reaches past (x ∷ us) list rest = reaches past (x ∷ us) list rest p n.1 in moved x r.token past us rest list r.more r.same r.behind n.0

pub followed_length : (past us : List Token)
    → length (followed_by past us) ≡ length past + length us
followed_length [] us = sym (zero-add (length us))
followed_length (t ∷ past) us = followed_length past (t ∷ us) ∙ counted
  where
    counted : length past + length (t ∷ us) ≡ length (t ∷ past) + length us
    counted = omega arith
