-- Where no fault is at the tokens that were read.
use Rattle.std.proofs.Common.{◌≡◌, ◌⊎◌, inl, inr, ℕ, ◌<◌, ◌+◌, List, [], ◌∷◌, ◌++◌, length, Option, Some, None, refl, ap, sym, subst, ◌∙◌, arith}
use Rattle.yaml_parse_laws_trees.proofs.Words.{cases_order, Token, Fault, Stream, spell, GoesOn, followed_by, directive_fault, handle_fault, Rank, of_handle, of_token, ComesBefore, WrongToken, FaultAt, StandsIn, IsOfLeastPlace, BeginsWithSentence, FaultPlace, RanksBefore, IsFree}
use Rattle.yaml_parse_laws_trees.proofs.Cuts.{SameCut, same_cut, IsNoFront, Reaches, reaches, followed_length, head_same}

abbrev pub NoFault : List Token → Token → Type 0
NoFault past t = (r : Rank) (e : Fault) → FaultAt past t r e → ⊥

abbrev pub Clean : List Token → Type 0
Clean [] = Unit {0}
Clean (t ∷ past) = NoFault past t × Clean past

-- no tree is done at any of the tokens
abbrev pub Unfinished : List Token → Type 0
Unfinished past = (tree : Stream) → IsNoFront (spell tree []) past

pub some_none : (o : Option Fault) (e : Fault) → o ≡ None → o ≡ Some e → ⊥
some_none o e p q = cc

pub no_fault : (past : List Token) (t : Token) → handle_fault past t.body ≡ None
    → GoesOn (followed_by past (t ∷ [])) → directive_fault past t.body t.start_mark ≡ None
    → NoFault past t
no_fault past t h g d h5 e p = grind (arith, some_none)

clean_cut : (past us other : List Token) (t : Token) (behind : List Token)
    → followed_by past us ≡ followed_by other (t ∷ behind) → length other < length past → Clean past
    → NoFault other t
clean_cut [] us other t behind p l c = absurd (none l)
  where
    none : length other < length {A = Token} [] → ⊥
    none l = omega arith
clean_cut (x ∷ past) us other t behind p l c = by_length (λ e. clean_cut past (x ∷ us) other t behind p e c.1) (cases_order (length other) (length past))
  where
    over : length past < length other → length other < length (x ∷ past) → ⊥
    over a b = omega arith

    here : SameCut past other (x ∷ us) (t ∷ behind) → NoFault other t
    here s = subst (λ (z : Token). NoFault other z) (head_same x t us behind s.behind) (subst (λ (z : List Token). NoFault z x) s.before c.0)

    by_length : (length other < length past → NoFault other t)
        → (length other ≡ length past) ⊎
        ((length other < length past) ⊎ (length past < length other)) → NoFault other t
    by_length k (inl e) = here (same_cut past other (x ∷ us) (t ∷ behind) p (sym e))
    by_length k (inr (inl e)) = k e
    by_length k (inr (inr e)) = absurd (over e l)

-- nothing is before a place
pub none_earlier : (past us ts : List Token) (p : FaultPlace) (e : Fault) → ts ≡ followed_by past us
    → Clean past → StandsIn ts p e → p.number < length past → ⊥
none_earlier past us ts p e l c s n = grind (arith, clean_cut)

pub free : (past : List Token) → Clean past → IsFree (followed_by past [])
free past c p e s = none_earlier past [] (followed_by past []) p e refl c s (shorter (subst (λ (z : ℕ). z ≡ length past + length {A = Token} []) (followed_length s.past (s.token ∷ s.behind)) lengths) s.number)
  where
    lengths : length (followed_by s.past (s.token ∷ s.behind)) ≡ length past + length {A = Token} []
    lengths = ap length (sym s.list) ∙ followed_length past []

    shorter : length s.past + length (s.token ∷ s.behind) ≡ length past + length {A = Token} []
        → length s.past ≡ p.number → p.number < length past
    shorter a b = omega arith

-- ---- the first fault

handle_here : (past other : List Token) (t u : Token) (ts us : List Token) (e : Fault)
    → followed_by past (t ∷ ts) ≡ followed_by other (u ∷ us) → length past ≡ length other
    → handle_fault other u.body ≡ Some e → handle_fault past t.body ≡ Some e
handle_here past other t u ts us e p n h = grind (arith, same_cut, head_same)

abbrev placed : List Token → Rank → FaultPlace
placed past r = record { number = length past; rank = r }

-- the first fault of a list has that many tokens before it
abbrev pub FirstAt : List Token → ℕ → Fault → Type 0
FirstAt ts n e = (first : IsOfLeastPlace (StandsIn ts) e) × (first.place.number ≡ n)

pub handle_first : (past : List Token) (t : Token) (ts : List Token) (e : Fault) → Clean past
    → handle_fault past t.body ≡ Some e → FirstAt (followed_by past (t ∷ ts)) (length past) e
handle_first past t ts e c h = (
  record {
    place = placed past of_handle;
    stands = record { past = past; token = t; behind = ts; list = refl; number = refl; fault = h };
    least = earlier;
  },
  refl,
)
  where
    earlier : (p : FaultPlace) (f : Fault) → StandsIn (followed_by past (t ∷ ts)) p f
        → ComesBefore p (placed past of_handle) → ⊥
    earlier p f s (inl l) = none_earlier past (t ∷ ts) (followed_by past (t ∷ ts)) p f refl c s l
    earlier p f s (inr k) = no_rank p.rank k.1
      where
        no_rank : (r : Rank) → RanksBefore r of_handle → ⊥
        no_rank of_handle h = h
        no_rank of_token h = h

pub token_first : (past : List Token) (t : Token) (ts : List Token) (e : Fault) → Clean past
    → handle_fault past t.body ≡ None → WrongToken past t e
    → FirstAt (followed_by past (t ∷ ts)) (length past) e
token_first past t ts e c h w = (
  record {
    place = placed past of_token;
    stands = record { past = past; token = t; behind = ts; list = refl; number = refl; fault = w };
    least = earlier;
  },
  refl,
)
  where
    ranked : (r : Rank) (f : Fault) (other : List Token) (u : Token) (us : List Token)
        → RanksBefore r of_token → followed_by past (t ∷ ts) ≡ followed_by other (u ∷ us)
        → length past ≡ length other → FaultAt other u r f → ⊥
    ranked of_token f other u us k p n x = k
    ranked of_handle f other u us k p n x = some_none (handle_fault past t.body) f h (handle_here past other t u ts us f p n x)

    earlier : (p : FaultPlace) (f : Fault) → StandsIn (followed_by past (t ∷ ts)) p f
        → ComesBefore p (placed past of_token) → ⊥
    earlier p f s (inl l) = none_earlier past (t ∷ ts) (followed_by past (t ∷ ts)) p f refl c s l
    earlier p f s (inr k) = ranked p.rank f s.past s.token s.behind k.1 s.list (sym k.0 ∙ sym s.number) s.fault

-- ---- no sentence begins there

pub no_sentence : (past : List Token) (t : Token) (ts : List Token) (r : Rank) (e : Fault)
    → Unfinished past → FaultAt past t r e → BeginsWithSentence (followed_by past (t ∷ ts)) → ⊥
no_sentence past t ts r e u f b =
    let c : Reaches past (t ∷ ts) (spell b.tree []) b.rest = reaches past (t ∷ ts) (spell b.tree []) b.rest b.same (u b.tree) in
    b.free (placed past r) e (record {
      past = past;
      token = t;
      behind = c.more;
      list = c.same ∙ ap (λ (z : Token). followed_by past (z ∷ c.more)) (sym (head_same t c.token ts (c.more ++ b.rest) c.behind));
      number = refl;
      fault = f;
    })

pub no_whole_sentence : (past : List Token) → Unfinished past
    → BeginsWithSentence (followed_by past []) → ⊥
no_whole_sentence past u b = none (reaches past [] (spell b.tree []) b.rest b.same (u b.tree))
  where
    none : Reaches past [] (spell b.tree []) b.rest → ⊥
    none c = empty c.token (c.more ++ b.rest) c.behind
      where
        empty : (x : Token) (y : List Token) → [] ≡ x ∷ y → ⊥
        empty x y h = cc
