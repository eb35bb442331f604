-- The first fault of a list, where nothing is wrong with the tokens that were read.
use Rattle.std.proofs.Common.{◌≡◌, ◌⊎◌, inl, inr, ℕ, ◌<◌, ◌+◌, List, [], ◌∷◌, length, Some, None, refl, ap, sym, subst, ◌∙◌, arith}
use Rattle.yaml_parse_laws_trees.proofs.Words.{cases_order, Token, Fault, followed_by, alias_fault, LoadRank, of_parser, of_alias, LoadRanksBefore, LoadFaultAt, IsFirstIn, IsLoadable}
use Rattle.yaml_parse_laws_trees.proofs.Cuts.{SameCut, same_cut, followed_length, head_same}
use Rattle.yaml_parse_laws_trees.proofs.Clean.{Clean, none_earlier, FirstAt, some_none}

-- each alias among the tokens has its anchor
abbrev pub Anchored : List Token → Type 0
Anchored [] = Unit {0}
Anchored (t ∷ past) = (alias_fault past t.body t.start_mark ≡ None) × Anchored past

anchored_cut : (past us other : List Token) (t : Token) (behind : List Token)
    → followed_by past us ≡ followed_by other (t ∷ behind) → length other < length past
    → Anchored past
    → alias_fault other t.body t.start_mark ≡ None
anchored_cut [] us other t behind p l c = absurd (none l)
  where
    none : length other < length {A = Token} [] → ⊥
    none l = omega arith
anchored_cut (x ∷ past) us other t behind p l c = by_length (λ e. anchored_cut past (x ∷ us) other t behind p e c.1) (cases_order (length other) (length past))
  where
    over : length past < length other → length other < length (x ∷ past) → ⊥
    over a b = omega arith

    here : SameCut past other (x ∷ us) (t ∷ behind) → alias_fault other t.body t.start_mark ≡ None
    here s = subst (λ (z : Token). alias_fault other z.body z.start_mark ≡ None) (head_same x t us behind s.behind) (subst (λ (z : List Token). alias_fault z x.body x.start_mark ≡ None) s.before c.0)

    by_length : (length other < length past → alias_fault other t.body t.start_mark ≡ None)
        → (length other ≡ length past) ⊎
        ((length other < length past) ⊎ (length past < length other))
        → alias_fault other t.body t.start_mark ≡ None
    by_length k (inl e) = here (same_cut past other (x ∷ us) (t ∷ behind) p (sym e))
    by_length k (inr (inl e)) = k e
    by_length k (inr (inr e)) = absurd (over e l)

no_alias_earlier : (past us ts : List Token) (n : ℕ) (other : List Token) (t : Token)
    (behind : List Token) (e : Fault) → ts ≡ followed_by past us → Anchored past
    → ts ≡ followed_by other (t ∷ behind) → length other ≡ n
    → alias_fault other t.body t.start_mark ≡ Some e → n < length past → ⊥
no_alias_earlier past us ts n other t behind e l a s q f h = grind (arith, some_none, anchored_cut)

-- nothing is before a place
nothing_earlier : (past us ts : List Token) (n : ℕ) (r : LoadRank) (other : List Token) (t : Token)
    (behind : List Token) (e : Fault) → ts ≡ followed_by past us → Clean past → Anchored past
    → ts ≡ followed_by other (t ∷ behind) → length other ≡ n → LoadFaultAt other t r e
    → n < length past → ⊥
nothing_earlier past us ts n (of_parser r) other t behind e l c a s q f h =
    none_earlier past us ts (record { number = n; rank = r }) e l c (record { past = other; token = t; behind = behind; list = s; number = q; fault = f }) h
nothing_earlier past us ts n of_alias other t behind e l c a s q f h = no_alias_earlier past us ts n other t behind e l a s q f h

pub loadable : (past : List Token) → Clean past → Anchored past → IsLoadable (followed_by past [])
loadable past c a p e s =
    nothing_earlier past [] (followed_by past []) p.number p.rank s.past s.token s.behind e refl c a s.list s.number s.fault
    (shorter (subst (λ (z : ℕ). z ≡ length past + length {A = Token} []) (followed_length s.past (s.token ∷ s.behind)) lengths) s.number)
  where
    lengths : length (followed_by s.past (s.token ∷ s.behind)) ≡ length past + length {A = Token} []
    lengths = ap length (sym s.list) ∙ followed_length past []

    shorter : length s.past + length (s.token ∷ s.behind) ≡ length past + length {A = Token} []
        → length s.past ≡ p.number → p.number < length past
    shorter a b = omega arith

-- ---- the first fault

-- what the parser finds wrong first, after tokens of which each alias has its anchor
pub parser_first : (past us ts : List Token) (e : Fault) → ts ≡ followed_by past us → Anchored past
    → FirstAt ts (length past) e → IsFirstIn ts e
parser_first past us ts e l a first = record {
  place = record { number = first.0.place.number; rank = of_parser first.0.place.rank };
  stands = record {
    past = first.0.stands.past;
    token = first.0.stands.token;
    behind = first.0.stands.behind;
    list = first.0.stands.list;
    number = first.0.stands.number;
    fault = first.0.stands.fault;
  };
  least = λ p f s b. earlier p.number p.rank f s.past s.token s.behind s.list s.number s.fault b;
}
  where
    earlier : (n : ℕ) (r : LoadRank) (f : Fault) (other : List Token) (t : Token)
        (behind : List Token) → ts ≡ followed_by other (t ∷ behind) → length other ≡ n
        → LoadFaultAt other t r f
        → (n < first.0.place.number) ⊎ ((n ≡ first.0.place.number)
        × LoadRanksBefore r (of_parser first.0.place.rank)) → ⊥
    earlier n (of_parser r) f other t behind s q x b = first.0.least (record { number = n; rank = r }) f (record { past = other; token = t; behind = behind; list = s; number = q; fault = x }) b
    earlier n of_alias f other t behind s q x (inl b) = no_alias_earlier past us ts n other t behind f l a s q x (subst (λ (z : ℕ). n < z) first.1 b)
    earlier n of_alias f other t behind s q x (inr b) = b.1

-- an alias without an anchor, of which the parser finds nothing wrong
pub alias_first : (past : List Token) (t : Token) (ts : List Token) (e : Fault) → Clean (t ∷ past)
    → Anchored past → alias_fault past t.body t.start_mark ≡ Some e
    → IsFirstIn (followed_by past (t ∷ ts)) e
alias_first past t ts e c a h = record {
  place = record { number = length past; rank = of_alias };
  stands = record { past = past; token = t; behind = ts; list = refl; number = refl; fault = h };
  least = λ p f s b. earlier p.number p.rank f s.past s.token s.behind s.list s.number s.fault b;
}
  where
    up_to : (n : ℕ) → (n < length past) ⊎ ((n ≡ length past) × Unit {0}) → n < length (t ∷ past)
    up_to n (inl b) = omega arith
    up_to n (inr b) = let k : n ≡ length past = b.0 in omega arith

    earlier : (n : ℕ) (r : LoadRank) (f : Fault) (other : List Token) (u : Token)
        (behind : List Token) → followed_by past (t ∷ ts) ≡ followed_by other (u ∷ behind)
        → length other ≡ n → LoadFaultAt other u r f
        → (n < length past) ⊎ ((n ≡ length past) × LoadRanksBefore r of_alias) → ⊥
    earlier n (of_parser r) f other u behind s q x b =
        none_earlier (t ∷ past) ts (followed_by past (t ∷ ts)) (record { number = n; rank = r }) f refl c (record { past = other; token = u; behind = behind; list = s; number = q; fault = x }) (up_to n b)
    earlier n of_alias f other u behind s q x (inl b) = no_alias_earlier past (t ∷ ts) (followed_by past (t ∷ ts)) n other u behind f refl a s q x b
    earlier n of_alias f other u behind s q x (inr b) = b.1
