-- What a lexeme that is read next is made of.
use Rattle.std.proofs.Common.{◌≡◌, ℕ, Bool, true, false, cond, ltb, ◌&&◌, List, [], ◌∷◌, Option, Some, None, is_some, Result, Ok, Err, refl, sym, ap, subst, ◌∙◌, inl, inr}
use Rattle.yaml_scan_core.proofs.Words.{cases_Bool, yaml_mark_t, mark_at, Wrong, Gap, gap_at, Kind, Lexeme, is_end, may_be_key, candidate, fresh, reached, flow_depth, key_allowed, placed, WordText, lexeme_at, kind_at, Next, Read, kind_behind, coming, next, first_lexeme, allowed_behind, finished, misplaced, missed, lost_by, no_colon, unless_wrong, unless_lost, of_kind, unless_missed, stepwise}
use Rattle.yaml_scan_history.specs.Next.{begun}

-- what is between a history and the next lexeme
abbrev pub gap_of : List ℕ → List Lexeme → Gap
gap_of text h = gap_at (ltb 0 (flow_depth h)) (key_allowed h) text (reached h).index

-- a lexeme that starts after the gap
abbrev pub begun_at : List ℕ → List Lexeme → Kind → Lexeme
begun_at text h k = begun k (placed k (mark_at text (gap_of text h).place)) (allowed_behind h (gap_of text h)) h

-- the lexeme x is what was read
pub record IsNextRead (text : List ℕ) (h : List Lexeme) (x : Lexeme) : Type 0 where
  pub kind : kind_at (ltb 0 (flow_depth h)) text (gap_of text h).place ≡ Some x.kind
  pub word : WordText
  pub reads : lexeme_at x.kind (ltb 0 (flow_depth h)) (begun_at text h x.kind).level text
      (gap_of text h).place ≡ Ok word
  pub is : x ≡ finished text (begun_at text h x.kind) word
  pub tested : missed (candidate 0 (x ∷ h)) x.reached ≡ None

-- all but the end of a lexeme
pub record StartsAs (l x : Lexeme) : Type 0 where
  pub kind : x.kind ≡ l.kind
  pub start : x.start ≡ l.start
  pub depth : x.depth ≡ l.depth
  pub level : x.level ≡ l.level
  pub saved : x.saved ≡ l.saved
  pub required : x.required ≡ l.required

-- a lexeme with its end starts as without
pub ended_same : (l : Lexeme) (end reached : yaml_mark_t) (broke : Bool)
    → StartsAs l (cond (is_end l.kind) l record l { end = end; reached = reached; broke = broke })
ended_same l end reached broke = elim (is_end l.kind) as (λ b. StartsAs l (cond b l record l { end = end; reached = reached; broke = broke })) [
  | true ↦ record { kind = refl; start = refl; depth = refl; level = refl; saved = refl; required = refl }
  | false ↦ record { kind = refl; start = refl; depth = refl; level = refl; saved = refl; required = refl }
]

pub finished_same : (text : List ℕ) (l : Lexeme) (w : WordText) → StartsAs l (finished text l w)
finished_same text l w = ended_same l (mark_at text w.end) (mark_at text w.reached) w.broke

tested_from : (o : Option yaml_mark_t) (l x : Lexeme)
    → (elim o as (λ _. Next) [ Some start ↦ no_colon start l.reached | None ↦ Read l ]) ≡ Read x
    → (x ≡ l) × (o ≡ None)
tested_from (Some s) l x e = cc
tested_from None l x e = (cc, refl)

wrong_is : (r : Result WordText Wrong) (text : List ℕ) (l : Lexeme) (h : List Lexeme) (x : Lexeme)
    → unless_wrong r text l h ≡ Read x
    → (w : WordText) × (r ≡ Ok w) × (x ≡ finished text l w)
    × (missed (candidate 0 (x ∷ h)) x.reached ≡ None)
wrong_is (Err w) text l h x e = cc
wrong_is (Ok w) text l h x e =
    let (same, none) = tested_from (missed (candidate 0 (finished text l w ∷ h)) (finished text l w).reached) (finished text l w) x e in
    (w, refl, same, rw same none)

lost_is : (o : Option yaml_mark_t) (text : List ℕ) (p : ℕ) (l : Lexeme) (h : List Lexeme)
    (x : Lexeme) → unless_lost o text p l h ≡ Read x
    → unless_wrong (lexeme_at l.kind (ltb 0 l.depth) l.level text p) text l h ≡ Read x
lost_is (Some s) text p l h x e = cc
lost_is None text p l h x e = e

missed_is : (o : Option yaml_mark_t) (text : List ℕ) (gap : Gap) (h : List Lexeme) (x : Lexeme)
    → unless_missed o text gap h ≡ Read x
    → of_kind (kind_at (ltb 0 (flow_depth h)) text gap.place) text gap h ≡ Read x
missed_is (Some s) text gap h x e = cc
missed_is None text gap h x e = e

of_kind_is : (o : Option Kind) (text : List ℕ) (gap : Gap) (h : List Lexeme) (x : Lexeme)
    → of_kind o text gap h ≡ Read x
    → (k : Kind) × (o ≡ Some k) × (unless_wrong
    (lexeme_at k (ltb 0 (flow_depth h)) (begun k (placed k (mark_at text gap.place)) (allowed_behind h gap)
    h).level text gap.place) text (begun k (placed k (mark_at text gap.place))
    (allowed_behind h gap) h) h ≡ Read x)
of_kind_is None text gap h x e = cc
of_kind_is (Some k) text gap h x e =
    elim (cases_Bool (misplaced k (mark_at text gap.place) (allowed_behind h gap) h)) [
      | inl bad ↦ let no_way = rw bad at e in cc
      | inr good ↦
          let b = begun k (placed k (mark_at text gap.place)) (allowed_behind h gap) h in
          (k, refl, lost_is (lost_by b (fresh (candidate (flow_depth h) h) (mark_at text gap.place))) text gap.place b h x (rw good at e))
    ]

-- what is read next after a lexeme
pub next_is : (text : List ℕ) (y : Lexeme) (h : List Lexeme) (x : Lexeme)
    → next text (y ∷ h) ≡ Read x → IsNextRead text (y ∷ h) x
unfolding next
next_is text y h x e =
    elim (cases_Bool (is_end y.kind)) [
      | inl over ↦ let bad = rw over at e in cc
      | inr more ↦
          let all = y ∷ h in
          let gap = gap_of text all in
          let here : coming (kind_behind text all) text all ≡ Read x = rw more at e in
          let (k, some, rest) = of_kind_is (kind_at (ltb 0 (flow_depth all)) text gap.place) text gap all x (missed_is (missed (fresh (candidate 0 all) (reached all)) (mark_at text gap.place)) text gap all x (sym (stepwise text all) ∙ here)) in
          let (w, reads, same, none) = wrong_is _ text (begun_at text all k) all x rest in
          let kind : k ≡ x.kind = sym (ap (λ (y : Lexeme). y.kind) same ∙ (finished_same text (begun_at text all k) w).kind) in
          record {
            kind = some ∙ ap Some kind;
            word = w;
            reads = subst (λ (y : Kind). lexeme_at y (ltb 0 (flow_depth all)) (begun_at text all y).level text gap.place ≡ Ok w) kind reads;
            is = subst (λ (y : Kind). x ≡ finished text (begun_at text all y) w) kind same;
            tested = none;
          }
    ]

pub saved_is : (text : List ℕ) (y : Lexeme) (h : List Lexeme) (x : Lexeme)
    → IsNextRead text (y ∷ h) x
    → x.saved ≡ (allowed_behind (y ∷ h) (gap_of text (y ∷ h)) && may_be_key x.kind)
saved_is text y h x r = ap (λ (z : Lexeme). z.saved) r.is ∙ (finished_same text (begun_at text (y ∷ h) x.kind) r.word).saved

pub first_is : (text : List ℕ) (x : Lexeme) → next text [] ≡ Read x → x ≡ first_lexeme
unfolding next
first_is text x e = cc

-- what isn't open is none
pub none_open : (o : Option yaml_mark_t) → is_some o ≡ false → None ≡ o
none_open None h = refl
none_open (Some x) h = cc
