-- A list of tokens has one fault of loading at most.
use Rattle.std.proofs.Common.{◌≡◌, ◌⊎◌, inl, inr, ℕ, ◌<◌, List, [], Option, Some, None, refl, ap, sym, subst, arith}
use Rattle.yaml_parse_laws_trees.proofs.Words.{cases_order, Token, Fault, spell, of_handle, of_token, BeginsWithSentence, with_end, LoadRank, of_parser, of_alias, LoadRanksBefore, LoadFaultAt, IsFirstIn, LoadStandsIn, FirstOf, LoadsSentence, IsLoadOwn, LoadsUnfinished, LoadFaultIsOne}
use Rattle.yaml_parse_laws_trees.proofs.CountsUnique.{one_tree}
use Rattle.yaml_parse_laws_trees.proofs.Cuts.{same_cut, head_same}
use Rattle.yaml_parse_laws_trees.proofs.Spelling.{spelled_before}
use Rattle.yaml_parse_laws_trees.proofs.FaultsUnique.{one_at, same_some}

-- one fault at each place
one_here : (past : List Token) (t : Token) (r : LoadRank) (e f : Fault) → LoadFaultAt past t r e
    → LoadFaultAt past t r f → e ≡ f
one_here past t r e f p q = grind (arith, one_at, same_some)

abbrev standing : List Token → ℕ → LoadRank → Fault → Type 0
standing ts n r e = LoadStandsIn ts (record { number = n; rank = r }) e

one_standing : (ts : List Token) (n m : ℕ) (r : LoadRank) (e f : Fault) → n ≡ m → standing ts n r e
    → standing ts m r f → e ≡ f
one_standing ts n m r e f p x y = grind (arith, same_cut, one_here, head_same)

-- two ranks of which neither comes first are one
by_rank : (ts : List Token) (n m : ℕ) (r q : LoadRank) (e f : Fault) → n ≡ m → standing ts n r e
    → standing ts m q f → (LoadRanksBefore r q → ⊥) → (LoadRanksBefore q r → ⊥) → e ≡ f
by_rank ts n m (of_parser of_handle) (of_parser of_handle) e f p x y a b = one_standing ts n m (of_parser of_handle) e f p x y
by_rank ts n m (of_parser of_token) (of_parser of_token) e f p x y a b = one_standing ts n m (of_parser of_token) e f p x y
by_rank ts n m (of_parser of_handle) (of_parser of_token) e f p x y a b = absurd (a tt)
by_rank ts n m (of_parser of_token) (of_parser of_handle) e f p x y a b = absurd (b tt)
by_rank ts n m (of_parser r) of_alias e f p x y a b = absurd (a tt)
by_rank ts n m of_alias (of_parser r) e f p x y a b = absurd (b tt)
by_rank ts n m of_alias of_alias e f p x y a b = one_standing ts n m of_alias e f p x y

one_first : (ts : List Token) (e f : Fault) → IsFirstIn ts e → IsFirstIn ts f → e ≡ f
one_first ts e f x y = by_number (cases_order x.place.number y.place.number)
  where
    by_number : (x.place.number ≡ y.place.number)
        ⊎ ((x.place.number < y.place.number) ⊎ (y.place.number < x.place.number)) → e ≡ f
    by_number (inl p) =
        by_rank ts x.place.number y.place.number x.place.rank y.place.rank e f p x.stands y.stands (λ r. y.least x.place e x.stands (inr (p, r))) (λ r. x.least y.place f y.stands (inr (sym p, r)))
    by_number (inr (inl p)) = absurd (y.least x.place e x.stands (inl p))
    by_number (inr (inr p)) = absurd (x.least y.place f y.stands (inl p))

-- ---- sentences

same_sentence : (ts : List Token) (b c : BeginsWithSentence ts) → spell b.tree [] ≡ spell c.tree []
same_sentence ts b c = grind (arith, one_tree, spelled_before)

one_of : (ts : List Token) (x y : Option Fault) → FirstOf ts x → FirstOf ts y → x ≡ y
one_of ts None None p q = refl
one_of ts None (Some f) p q = absurd (p q.place f q.stands)
one_of ts (Some e) None p q = absurd (q p.place e p.stands)
one_of ts (Some e) (Some f) p q = ap (λ (z : Fault). Some z) (one_first ts e f p q)

one_sentence : (ts : List Token) (x y : Option Fault) → LoadsSentence ts x → LoadsSentence ts y
    → x ≡ y
one_sentence ts x y p q = one_of (spell q.sentence.tree []) x y (subst (λ (us : List Token). FirstOf us x) (same_sentence ts p.sentence q.sentence) p.first) q.first

-- ---- other lists

not_own : (ts : List Token) (own : Option Fault) (e f : Fault) → IsFirstIn (with_end own ts) e
    → IsLoadOwn ts own f → ⊥
not_own ts None e f x y = cc_some y.same
  where
    cc_some : None ≡ Some f → ⊥
    cc_some h = cc
not_own ts (Some g) e f x y = y.free x.place e x.stands

one_refused : (ts : List Token) (own : Option Fault) (e f : Fault)
    → IsFirstIn (with_end own ts) e ⊎ IsLoadOwn ts own e
    → IsFirstIn (with_end own ts) f ⊎ IsLoadOwn ts own f → e ≡ f
one_refused ts own e f (inl x) (inl y) = one_first (with_end own ts) e f x y
one_refused ts own e f (inl x) (inr y) = absurd (not_own ts own e f x y)
one_refused ts own e f (inr x) (inl y) = absurd (not_own ts own f e y x)
one_refused ts own e f (inr x) (inr y) = same_some own e f x.same y.same

one_some : (ts : List Token) (own : Option Fault) (e f : Fault)
    → LoadsSentence ts (Some e) ⊎ LoadsUnfinished ts own e
    → LoadsSentence ts (Some f) ⊎ LoadsUnfinished ts own f → Some e ≡ Some f
one_some ts own e f (inl p) (inl q) = one_sentence ts (Some e) (Some f) p q
one_some ts own e f (inl p) (inr q) = absurd (q.unfinished p.sentence)
one_some ts own e f (inr p) (inl q) = absurd (p.unfinished q.sentence)
one_some ts own e f (inr p) (inr q) = ap (λ (z : Fault). Some z) (one_refused ts own e f p.fault q.fault)

not_sentence : (ts : List Token) (own : Option Fault) (e : Fault) → LoadsSentence ts None
    → LoadsSentence ts (Some e) ⊎ LoadsUnfinished ts own e → None ≡ Some e
not_sentence ts own e p (inl q) = one_sentence ts None (Some e) p q
not_sentence ts own e p (inr q) = absurd (q.unfinished p.sentence)

pub one_load_fault : LoadFaultIsOne
one_load_fault ts own None None p q = refl
one_load_fault ts own None (Some f) p q = not_sentence ts own f p q
one_load_fault ts own (Some e) None p q = sym (not_sentence ts own e q p)
one_load_fault ts own (Some e) (Some f) p q = one_some ts own e f p q
