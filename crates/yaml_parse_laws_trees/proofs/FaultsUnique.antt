-- A list of tokens has one fault at most.
use Rattle.std.proofs.Common.{◌≡◌, ◌⊎◌, inl, inr, ℕ, ◌<◌, List, Option, Some, None, refl, ap, sym, arith}
use Rattle.yaml_parse_laws_trees.proofs.Words.{cases_order, Token, Fault, Rank, of_handle, of_token, ComesBefore, WrongToken, FaultAt, StandsIn, IsOfLeastPlace, with_end, IsOwn, FaultIsOne}
use Rattle.yaml_parse_laws_trees.proofs.Cuts.{same_cut, head_same}

pub same_some : (x : Option Fault) (e f : Fault) → x ≡ Some e → x ≡ Some f → e ≡ f
same_some x e f p q = cc

one_wrong : (past : List Token) (t : Token) (e f : Fault) → WrongToken past t e
    → WrongToken past t f → e ≡ f
one_wrong past t e f h4 h5 = grind (arith, same_some)

-- one fault at each place
pub one_at : (past : List Token) (t : Token) (r : Rank) (e f : Fault) → FaultAt past t r e
    → FaultAt past t r f → e ≡ f
one_at past t r e f p q = grind (arith, same_some, one_wrong)

one_standing : (ts : List Token) (n m : ℕ) (r : Rank) (e f : Fault) → n ≡ m
    → StandsIn ts (record { number = n; rank = r }) e
    → StandsIn ts (record { number = m; rank = r }) f → e ≡ f
one_standing ts n m r e f p x y = grind (arith, same_cut, one_at, head_same)

by_rank : (ts : List Token) (n m : ℕ) (r q : Rank) (e f : Fault) → n ≡ m
    → StandsIn ts (record { number = n; rank = r }) e
    → StandsIn ts (record { number = m; rank = q }) f
    → (ComesBefore (record { number = n; rank = r }) (record { number = m; rank = q }) → ⊥)
    → (ComesBefore (record { number = m; rank = q }) (record { number = n; rank = r }) → ⊥) → e ≡ f
by_rank ts n m of_handle of_handle e f p x y a b = one_standing ts n m of_handle e f p x y
by_rank ts n m of_token of_token e f p x y a b = one_standing ts n m of_token e f p x y
by_rank ts n m of_handle of_token e f p x y a b = absurd (a (inr (p, tt)))
by_rank ts n m of_token of_handle e f p x y a b = absurd (b (inr (sym p, tt)))

one_first : (ts : List Token) (e f : Fault) → IsOfLeastPlace (StandsIn ts) e
    → IsOfLeastPlace (StandsIn ts) f → e ≡ f
one_first ts e f x y = by_number (cases_order x.place.number y.place.number)
  where
    by_number : (x.place.number ≡ y.place.number)
        ⊎ ((x.place.number < y.place.number) ⊎ (y.place.number < x.place.number)) → e ≡ f
    by_number (inl p) = by_rank ts x.place.number y.place.number x.place.rank y.place.rank e f p x.stands y.stands (y.least x.place e x.stands) (x.least y.place f y.stands)
    by_number (inr (inl p)) = absurd (y.least x.place e x.stands (inl p))
    by_number (inr (inr p)) = absurd (x.least y.place f y.stands (inl p))

not_own : (ts : List Token) (own : Option Fault) (e f : Fault)
    → IsOfLeastPlace (StandsIn (with_end own ts)) e → IsOwn ts own f → ⊥
not_own ts None e f x y = cc_some y.same
  where
    cc_some : None ≡ Some f → ⊥
    cc_some h = cc
not_own ts (Some g) e f x y = y.free x.place e x.stands

one_refused : (ts : List Token) (own : Option Fault) (e f : Fault)
    → IsOfLeastPlace (StandsIn (with_end own ts)) e ⊎ IsOwn ts own e
    → IsOfLeastPlace (StandsIn (with_end own ts)) f ⊎ IsOwn ts own f → e ≡ f
one_refused ts own e f (inl x) (inl y) = one_first (with_end own ts) e f x y
one_refused ts own e f (inl x) (inr y) = absurd (not_own ts own e f x y)
one_refused ts own e f (inr x) (inl y) = absurd (not_own ts own f e y x)
one_refused ts own e f (inr x) (inr y) = same_some own e f x.same y.same

pub one_fault : FaultIsOne
one_fault ts own None None p q = refl
one_fault ts own None (Some f) p q = absurd (q.unfinished p)
one_fault ts own (Some e) None p q = absurd (p.unfinished q)
one_fault ts own (Some e) (Some f) p q = ap (λ (z : Fault). Some z) (one_refused ts own e f p.fault q.fault)
