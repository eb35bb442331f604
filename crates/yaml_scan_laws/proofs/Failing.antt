-- A front with a fault: the whole has the same tokens, and a fault there.
use Rattle.std.proofs.Common.{◌≡◌, ◌≢◌, ℕ, ◌+◌, ◌<◌, ◌≤◌, ◌==◌, ◌&&◌, nat_le, not, Bool, true, false, List, [], ◌∷◌, ◌++◌, length, Option, Some, None, Result, Ok, Err, refl, sym, ap, subst, ◌∙◌, inl, inr, arith, ◌⊎◌}
use Rattle.yaml_scan_laws.proofs.Shared.{cases_Bool, cases_lt, nat_tests, none-some, same_Some, yaml_mark_t, ScanFault, byte, line_at, mark_at, Wrong, Kind, Lexeme, is_end, reached, flow_depth, in_flow, Candidate, candidate, fresh, placed, WordText, lexeme_at, Next, Read, Fails, gap_behind, place_behind, allowed_behind, kind_behind, begun_behind, word_behind, lexeme_behind, missed, lost_by, stale_before, indicator_misplaced, candidate_lost, wrong_in, text_wrong, stale_after, colon_missing_of, first_fault_or, coming, next, Stands, line_at-grows, IsCut, moved_scan_fault, moved_next, le-ltb}
use Rattle.yaml_scan_history.specs.declared.kind.Kind.TheVariants as kinds
use Rattle.yaml_scan_laws.proofs.Gaps.{moved_wrong, moved_by}
use Rattle.yaml_scan_laws.proofs.CutsWords.{moved_word, end_kind, WordCarried}
use Rattle.yaml_scan_laws.proofs.Coming.{moved_fault, mark_alike, Said, place_there, kind_there, stale_there, misplaced_there, lost_there, coming_there}
use Rattle.yaml_scan_laws.proofs.Fronts.{word_there, word_inside, clean, mark_zero, front_pair, next_open}
use Rattle.yaml_scan_laws.proofs.Turning.{IsMark, and_false, lost_none, mark_word, mark_lies, mark_stands, stands_there, free_of, colon_none, end_begun, end_mark_placed, mark_there}
use Rattle.yaml_scan_laws.proofs.NextForward.{placed_index}
use Rattle.yaml_scan_laws.specs.TextFronts.{IsFree}

-- ---- the stream's end

pub after_none : (a b c e f : Option ScanFault) (y l : Lexeme)
    → first_fault_or (a ∷ b ∷ c ∷ e ∷ f ∷ []) (Read y) ≡ Read l → f ≡ None
after_none a b c e f y l r = grind (arith, nat_tests)

near_before : (required : Bool) (x y p q s t : ℕ) → p ≤ x → q ≤ y
    → (required && not (nat_le x s && nat_le y (t + 1024))) ≡ false
    → (required && not (nat_le p s && nat_le q (t + 1024))) ≡ false
near_before required x y p q s t l k h = grind (arith, nat_tests)

pub some_none : {A : Type 0} {x : A} → Some x ≡ None → ⊥
some_none e = cc

-- what isn't missed at a place isn't missed before it
missed_before : (o : Option Candidate) (m n : yaml_mark_t) → m.line ≤ n.line → m.index ≤ n.index
    → missed o n ≡ None → missed o m ≡ None
missed_before o m n l k h = grind (arith, nat_tests, some_none, near_before)

-- the candidate of depth 0 after a lexeme that is deeper
pub outer_same : (l : Lexeme) (H : List Lexeme) → (l.depth == 0) ≡ false
    → candidate 0 (l ∷ H) ≡ candidate 0 H
unfolding candidate
outer_same l H deep = rw (deep, le-ltb l.depth 0 (omega arith)) refl

end_text : (t : List ℕ) (H : List Lexeme) → text_wrong kinds.StreamEnd t H ≡ None
unfolding lexeme_at
end_text t H = refl

end_misplaced : (t : List ℕ) (H : List Lexeme) → indicator_misplaced kinds.StreamEnd t H ≡ None
end_misplaced t H = rw (and_false (not (in_flow H) && not (allowed_behind H (gap_behind t H)))) refl

reads_end : (t : List ℕ) (H : List Lexeme) → stale_before t H ≡ None
    → candidate_lost kinds.StreamEnd t H ≡ None
    → stale_after (lexeme_behind kinds.StreamEnd t H) H ≡ None
    → coming (Some kinds.StreamEnd) t H ≡ Read (lexeme_behind kinds.StreamEnd t H)
reads_end t H a c f = rw (a, end_misplaced t H, c, end_text t H, f) refl

end_candidate : (t : List ℕ) (H : List Lexeme) → (flow_depth H == 0) ≡ true
    → candidate 0 (begun_behind kinds.StreamEnd t H ∷ H) ≡ None
unfolding candidate
end_candidate t H e = rw (e, and_false (allowed_behind H (gap_behind t H))) refl

-- where a mark is read in the whole, the front's end is read
end_reads : (a b : List ℕ) → IsCut a b → (H : List Lexeme)
    → (inside : (reached H).index ≤ length a)
    → (gap_behind a H).place ≡ length a → (l : Lexeme) → coming (kind_behind (a ++ b) H) (a ++ b) H ≡ Read l
    → coming (Some kinds.StreamEnd) a H ≡ Read (lexeme_behind kinds.StreamEnd a H)
end_reads a b cut H inside at l there =
    let W = a ++ b in
    let pair = front_pair a b cut H inside in
    let at_there : (gap_behind W H).place ≡ length a = omega (arith, pair.place, at) in
    let m = mark_stands b 0 cut.mark in
    let stands = stands_there a b cut H m.kind (m.stands (in_flow H)) at_there in
    let lies = mark_lies m.kind m.body m.is W H (length a) at_there in
    let reads = ap (λ o. coming o W H) (sym stands) ∙ there in
    let c = clean W H m.kind l reads in
    let after = after_none (stale_before W H) (indicator_misplaced m.kind W H) (candidate_lost m.kind W H) (text_wrong m.kind W H) (stale_after (lexeme_behind m.kind W H) H) (lexeme_behind m.kind W H) l reads in
    let place : place_behind W H ≡ place_behind a H = place_there a W 0 (length a) 0 0 H H pair ∙ mark_zero (place_behind a H) in
    let stale = none_moved (stale_before a H) (sym (stale_there a W 0 (length a) 0 0 H H pair) ∙ c.stale) in
    let free = free_of (begun_behind m.kind W H) (fresh (candidate (flow_depth H) H) (place_behind W H)) m.is.cancels m.is.value
    (colon_none (lost_by (begun_behind m.kind W H) (fresh (candidate (flow_depth H) H) (place_behind W H))) (begun_behind m.kind W H).start c.lost) in
    let mine : IsFree (fresh (candidate (flow_depth H) H) (place_behind a H)) = subst (λ q. IsFree (fresh (candidate (flow_depth H) H) q)) place free in
    let E = begun_behind kinds.StreamEnd a H in
    let lost : candidate_lost kinds.StreamEnd a H ≡ None = rw (lost_none E (fresh (candidate (flow_depth H) H) (place_behind a H)) mine) refl in
    let begins : E.reached ≡ mark_at W (length a) =
    ap (λ q. placed kinds.StreamEnd (mark_at a q)) at ∙ ap (placed kinds.StreamEnd) (mark_there a b cut) ∙ end_mark_placed a b cut in
    let lines : line_at W (length a) ≤ line_at W (length a + 3) = line_at-grows W (length a) (length a + 3) (omega arith) in
    let ended : stale_after E H ≡ None = elim (cases_Bool (flow_depth H == 0)) [
      | inl z ↦ rw (end_candidate a H z) refl
      | inr z ↦
          let there_is : candidate 0 (lexeme_behind m.kind W H ∷ H) ≡ candidate 0 H =
          outer_same (lexeme_behind m.kind W H) H (ap (λ n. n == 0) lies.deep ∙ z) in
          let here_is : candidate 0 (E ∷ H) ≡ candidate 0 H = outer_same E H z in
          let near : missed (candidate 0 H) (mark_at W (length a + 3)) ≡ None =
          ap (λ q. missed (candidate 0 H) q) (sym lies.reached) ∙ ap (λ o. missed o (lexeme_behind m.kind W H).reached) (sym there_is)
          ∙ colon_none (missed (candidate 0 (lexeme_behind m.kind W H ∷ H)) (lexeme_behind m.kind W H).reached) (lexeme_behind m.kind W H).reached after in
          let nearer : missed (candidate 0 H) (mark_at W (length a)) ≡ None = missed_before (candidate 0 H) (mark_at W (length a)) (mark_at W (length a + 3)) lines (omega arith) near in
          ap (λ o. colon_missing_of (missed o E.reached) E.reached) here_is
          ∙ ap (λ q. colon_missing_of (missed (candidate 0 H) q) q) begins
          ∙ ap (λ o. colon_missing_of o (mark_at W (length a))) nearer
    ] in
    reads_end a H stale lost (ap (λ y. stale_after y H) (end_begun a H) ∙ ended)
  where
    none_moved : (o : Option ScanFault) → moved_fault 0 0 o ≡ None → o ≡ None
    none_moved None e = refl
    none_moved (Some f) e = absurd (some_none e)

-- ---- a fault of the front is one of the whole

pub fails_not : {f : ScanFault} {l : Lexeme} → Fails f ≡ Read l → ⊥
fails_not e = cc

ok_not : {v : WordText} {w : Wrong} → Ok v ≡ Err w → ⊥
ok_not e = cc

err_same : {v w : Wrong} {r : Result WordText Wrong} → r ≡ Err v → r ≡ Err w → v ≡ w
err_same e f = cc

text_not : (t : List ℕ) (H : List Lexeme) (x : Kind) (w : Wrong) → word_behind x t H ≡ Err w
    → text_wrong x t H ≡ None → ⊥
text_not t H x w e none = some_none (ap (λ o. wrong_in t (begun_behind x t H).start o) (sym e) ∙ none)

-- what is said of a word that is read
said_read : (a b : List ℕ) (H : List Lexeme) → IsCut a b → (reached H).index ≤ length a
    → (gap_behind a H).place < length a → (x : Kind) → kind_behind a H ≡ Some x
    → (w : WordText) → word_behind x a H ≡ Ok w
    → Said a (a ++ b) 0 (length a) 0 x (word_behind x a H) (word_behind x (a ++ b) H)
said_read a b H cut inside on x e w is =
    let pair = front_pair a b cut H inside in
    record {
      same = elim (word_there a (a ++ b) 0 (length a) 0 0 H H pair on x e) [
        | inl same ↦ same
        | inr torn ↦ absurd (ok_not (sym is ∙ torn.mine))
      ];
      wrong = λ v bad. absurd (ok_not (sym is ∙ bad));
      ends = λ v k go. word_inside a H x e go v k;
    }

-- what comes is the same, or the whole's lexeme is wrong after the front's end as the front's is
record IsLate (a b : List ℕ) (H : List Lexeme) : Type 0 where
  pub kind : Kind
  pub mine : kind_behind a H ≡ Some kind
  pub others : kind_behind (a ++ b) H ≡ Some kind
  pub wrong : Wrong
  pub other : Wrong
  pub said : word_behind kind a H ≡ Err wrong
  pub says : word_behind kind (a ++ b) H ≡ Err other
  pub far : length a ≤ wrong.place
  pub further : length a ≤ other.place

meets : (a b : List ℕ) (H : List Lexeme) → IsCut a b → (reached H).index ≤ length a
    → (gap_behind a H).place < length a
    → (coming (kind_behind (a ++ b) H) (a ++ b) H ≡ moved_next 0 0 (coming (kind_behind a H) a H)) ⊎ IsLate a b H
meets a b H cut inside on = by (kind_behind a H) refl
  where
    Meets : Type 0
    Meets = (coming (kind_behind (a ++ b) H) (a ++ b) H ≡ moved_next 0 0 (coming (kind_behind a H) a H)) ⊎ IsLate a b H

    same_so : (y : Kind) → kind_behind a H ≡ Some y
        → Said a (a ++ b) 0 (length a) 0 y (word_behind y a H) (word_behind y (a ++ b) H) → Meets
    same_so y k said =
        inl (coming_there a (a ++ b) 0 (length a) 0 0 H H (front_pair a b cut H inside) on (Some y) k
        (λ z s. subst (λ v. Said a (a ++ b) 0 (length a) 0 v (word_behind v a H) (word_behind v (a ++ b) H)) (same_Some _ _ s) said))

    bad : (y : Kind) → kind_behind a H ≡ Some y → (w : Wrong) → word_behind y a H ≡ Err w
        → WordCarried (a ++ b) 0 (length a) (word_behind y a H) (word_behind y (a ++ b) H) → Meets
    bad y k w is (inr torn) =
        inr record {
          kind = y;
          mine = k;
          others = kind_there a (a ++ b) 0 (length a) 0 0 H H (front_pair a b cut H inside) on ∙ k;
          wrong = w;
          other = torn.other;
          said = is;
          says = torn.others;
          far = omega (arith, ap (λ (v : Wrong). v.place) (err_same torn.mine is), torn.place);
          further = omega (arith, torn.there);
        }
    bad y k w is (inl same) =
        let pair = front_pair a b cut H inside in
        elim (cases_lt w.place (length a)) [
          | inr far ↦ inr record {
            kind = y;
            mine = k;
            others = kind_there a (a ++ b) 0 (length a) 0 0 H H pair on ∙ k;
            wrong = w;
            other = moved_wrong 0 w;
            said = is;
            says = same ∙ ap (moved_by (moved_word 0) 0) is;
            far = far;
            further = omega (arith, far);
          }
          | inl near ↦ same_so y k record {
            same = same;
            wrong = λ v e.
                let place = ap (λ (z : Wrong). z.place) (err_same e is) in
                mark_alike a (a ++ b) 0 (length a) 0 v.place pair.alike pair.line (omega (arith, near, place));
            ends = λ v ok go. absurd (ok_not (sym ok ∙ is));
          }
        ]

    told : (y : Kind) → kind_behind a H ≡ Some y → (r : Result WordText Wrong) → word_behind y a H ≡ r → Meets
    told y k (Ok w) is = same_so y k (said_read a b H cut inside on y k w is)
    told y k (Err w) is = bad y k w is (word_there a (a ++ b) 0 (length a) 0 0 H H (front_pair a b cut H inside) on y k)

    by : (o : Option Kind) → kind_behind a H ≡ o → Meets
    by None k = inl (coming_there a (a ++ b) 0 (length a) 0 0 H H (front_pair a b cut H inside) on None k (λ z s. absurd (none-some _ s)))
    by (Some y) k = told y k (word_behind y a H) refl

-- after the last lexeme of the front comes its end
at_end : (a b : List ℕ) (H : List Lexeme) → IsCut a b → (reached H).index ≤ length a
    → length a ≤ (gap_behind a H).place
    → ((gap_behind a H).place ≡ length a) × (kind_behind a H ≡ Some kinds.StreamEnd)
at_end a b H cut inside past =
    let pair = front_pair a b cut H inside in
    let at : (gap_behind a H).place ≡ length a = omega (arith, past, pair.inside) in
    (at, end_kind (in_flow H) a (gap_behind a H).place (ap (λ q. byte a q) at ∙ pair.alike.edge))

pub reads_not : (a b : List ℕ) → IsCut a b → (x : Lexeme) (h : List Lexeme) → Stands a (x ∷ h)
    → (f : ScanFault) → next a (x ∷ h) ≡ Fails f → is_end x.kind ≡ false
    → (l : Lexeme) → next (a ++ b) (x ∷ h) ≢ Read l
reads_not a b cut x h stands f e more l r =
    let H = x ∷ h in
    let W = a ++ b in
    let here = sym (next_open a x h more) ∙ e in
    let there = sym (next_open W x h more) ∙ r in
    elim (cases_lt (gap_behind a H).place (length a)) [
      | inl on ↦ elim (meets a b H cut stands.inside on) [
        | inl same ↦ fails_not (ap (moved_next 0 0) (sym here) ∙ sym same ∙ there)
        | inr late ↦ text_not W H late.kind late.other late.says (clean W H late.kind l (ap (λ o. coming o W H) (sym late.others) ∙ there)).text
      ]
      | inr past ↦
          let (at, none) = at_end a b H cut stands.inside past in
          let reads = end_reads a b cut H stands.inside at l there in
          fails_not (sym here ∙ ap (λ o. coming o a H) none ∙ reads)
    ]

-- ---- it is the same one, where it is before the end

fault_zero : (f : ScanFault) → moved_scan_fault 0 0 f ≡ f
fault_zero f = rw (mark_zero f.problem_mark, mark_zero f.context_mark) refl

pub fails_same : {f g : ScanFault} → Fails f ≡ Fails g → f ≡ g
fails_same e = cc

pub colon_index : (o : Option yaml_mark_t) (m : yaml_mark_t) (f : ScanFault)
    → colon_missing_of o m ≡ Some f → f.problem_mark ≡ m
colon_index o m f e = grind (arith, nat_tests, some_none, same_Some)

-- what comes first in both, before a fault w of the first one's word
first_early : (a b c t e : Option ScanFault) (w f : ScanFault) (y z : Next)
    (p q o r s : Option ScanFault)
    → p ≡ moved_fault 0 0 a → q ≡ moved_fault 0 0 b → o ≡ moved_fault 0 0 c → t ≡ Some w
    → first_fault_or (a ∷ b ∷ c ∷ t ∷ e ∷ []) y ≡ Fails f
    → f.problem_mark.index < w.problem_mark.index
    → first_fault_or (p ∷ q ∷ o ∷ r ∷ s ∷ []) z ≡ Fails f
first_early a b c t e w f y z p q o r s h i j k is l = grind (arith, nat_tests, fault_zero, fails_same)

-- the fault of a mark is one of three
first_told : (a b c t f : Option ScanFault) (g : ScanFault) (y : Lexeme) (P : ScanFault → Type 0)
    → b ≡ None → t ≡ None → ((h : ScanFault) → a ≡ Some h → P h)
    → ((h : ScanFault) → c ≡ Some h → P h) → ((h : ScanFault) → f ≡ Some h → P h)
    → first_fault_or (a ∷ b ∷ c ∷ t ∷ f ∷ []) (Read y) ≡ Fails g → P g
first_told a b c t f g y P u v i j k e = grind (arith, nat_tests, fails_same, fails_not)

pub end_late : (t : List ℕ) (H : List Lexeme) (f : ScanFault)
    → coming (Some kinds.StreamEnd) t H ≡ Fails f
    → f.problem_mark.index ≡ (gap_behind t H).place
end_late t H f e =
    let E = begun_behind kinds.StreamEnd t H in
    let M = lexeme_behind kinds.StreamEnd t H in
    let begins : E.start.index ≡ (gap_behind t H).place = placed_index kinds.StreamEnd (place_behind t H) in
    first_told (stale_before t H) (indicator_misplaced kinds.StreamEnd t H) (candidate_lost kinds.StreamEnd t H) (text_wrong kinds.StreamEnd t H) (stale_after M H) f M
    (λ g. g.problem_mark.index ≡ (gap_behind t H).place) (end_misplaced t H) (end_text t H)
    (λ g is. ap (λ (m : yaml_mark_t). m.index) (colon_index (missed _ (place_behind t H)) (place_behind t H) g is))
    (λ g is. ap (λ (m : yaml_mark_t). m.index) (colon_index (lost_by E _) E.start g is) ∙ begins)
    (λ g is. ap (λ (m : yaml_mark_t). m.index) (colon_index (missed (candidate 0 (M ∷ H)) M.reached) M.reached g is) ∙ ap (λ (l : Lexeme). l.reached.index) (end_begun t H) ∙ begins)
    e

pub fails_there : (a b : List ℕ) → IsCut a b → (x : Lexeme) (h : List Lexeme) → Stands a (x ∷ h)
    → (f : ScanFault) → next a (x ∷ h) ≡ Fails f → is_end x.kind ≡ false
    → f.problem_mark.index < length a → next (a ++ b) (x ∷ h) ≡ Fails f
fails_there a b cut x h stands f e more low =
    let H = x ∷ h in
    let W = a ++ b in
    let pair = front_pair a b cut H stands.inside in
    let here = sym (next_open a x h more) ∙ e in
    next_open W x h more ∙ elim (cases_lt (gap_behind a H).place (length a)) [
      | inl on ↦ elim (meets a b H cut stands.inside on) [
        | inl same ↦ same ∙ ap (moved_next 0 0) here ∙ ap Fails (fault_zero f)
        | inr late ↦
            ap (λ o. coming o W H) late.others
            ∙ first_early (stale_before a H) (indicator_misplaced late.kind a H) (candidate_lost late.kind a H) (text_wrong late.kind a H) (stale_after (lexeme_behind late.kind a H) H) _ f (Read (lexeme_behind late.kind a H)) (Read (lexeme_behind late.kind W H)) _ _ _ (text_wrong late.kind W H) (stale_after (lexeme_behind late.kind W H) H)
            (stale_there a W 0 (length a) 0 0 H H pair) (misplaced_there a W 0 (length a) 0 0 H H pair late.kind) (lost_there a W 0 (length a) 0 0 H H pair late.kind)
            (ap (λ o. wrong_in a (begun_behind late.kind a H).start o) late.said) (ap (λ o. coming o a H) (sym late.mine) ∙ here) (omega (arith, late.far, low))
      ]
      | inr past ↦
          let (at, none) = at_end a b H cut stands.inside past in
          absurd (omega (arith, end_late a H f (ap (λ o. coming o a H) (sym none) ∙ here), at, low))
    ]

-- ---- and where that of the whole does

-- what comes first in the whole, before a fault w of its word
first_back : (a b c r e : Option ScanFault) (w f g : ScanFault) (y z : Next)
    (p q o t s : Option ScanFault)
    → p ≡ moved_fault 0 0 a → q ≡ moved_fault 0 0 b → o ≡ moved_fault 0 0 c → t ≡ Some w
    → first_fault_or (p ∷ q ∷ o ∷ t ∷ s ∷ []) z ≡ Fails g
    → g.problem_mark.index < w.problem_mark.index
    → first_fault_or (a ∷ b ∷ c ∷ r ∷ e ∷ []) y ≡ Fails f → g ≡ f
first_back a b c r e w f g y z p q o t s h i j k there l here = grind (arith, nat_tests, fails_same, fault_zero)

-- a fault of a mark is there or after it
mark_late : (K : Kind) (body : _) → IsMark K body → (t : List ℕ) (H : List Lexeme) (p : ℕ)
    → (gap_behind t H).place ≡ p → (g : ScanFault) → coming (Some K) t H ≡ Fails g
    → p ≤ g.problem_mark.index
mark_late K body m t H p at g e =
    let M = lexeme_behind K t H in
    let misplaced : indicator_misplaced K t H ≡ None = rw (m.start, and_false (not (in_flow H) && not (allowed_behind H (gap_behind t H)))) refl in
    let wrong : text_wrong K t H ≡ None = rw (mark_word K body m t H p at) refl in
    let begins : (begun_behind K t H).start.index ≡ p = placed_index K (place_behind t H) ∙ at in
    let lies = mark_lies K body m t H p at in
    first_told (stale_before t H) (indicator_misplaced K t H) (candidate_lost K t H) (text_wrong K t H) (stale_after M H) g M
    (λ h. p ≤ h.problem_mark.index) misplaced wrong
    (λ h is. let same = ap (λ (k : yaml_mark_t). k.index) (colon_index (missed _ (place_behind t H)) (place_behind t H) h is) in omega (arith, same, at))
    (λ h is. let same = ap (λ (k : yaml_mark_t). k.index) (colon_index (lost_by (begun_behind K t H) _) (begun_behind K t H).start h is) in omega (arith, same, begins))
    (λ h is. let same = ap (λ (k : yaml_mark_t). k.index) (colon_index (missed (candidate 0 (M ∷ H)) M.reached) M.reached h is ∙ lies.reached) in omega (arith, same))
    e

pub fails_back : (a b : List ℕ) → IsCut a b → (x : Lexeme) (h : List Lexeme) → Stands a (x ∷ h)
    → (f : ScanFault) → next a (x ∷ h) ≡ Fails f → is_end x.kind ≡ false
    → (g : ScanFault) → next (a ++ b) (x ∷ h) ≡ Fails g → g.problem_mark.index < length a → g ≡ f
fails_back a b cut x h stands f e more g r low =
    let H = x ∷ h in
    let W = a ++ b in
    let pair = front_pair a b cut H stands.inside in
    let here = sym (next_open a x h more) ∙ e in
    let there = sym (next_open W x h more) ∙ r in
    elim (cases_lt (gap_behind a H).place (length a)) [
      | inl on ↦ elim (meets a b H cut stands.inside on) [
        | inl same ↦ fails_same (sym there ∙ same ∙ ap (moved_next 0 0) here) ∙ fault_zero f
        | inr late ↦
            first_back (stale_before a H) (indicator_misplaced late.kind a H) (candidate_lost late.kind a H) (text_wrong late.kind a H) (stale_after (lexeme_behind late.kind a H) H) _ f g (Read (lexeme_behind late.kind a H)) (Read (lexeme_behind late.kind W H)) _ _ _ (text_wrong late.kind W H) (stale_after (lexeme_behind late.kind W H) H)
            (stale_there a W 0 (length a) 0 0 H H pair) (misplaced_there a W 0 (length a) 0 0 H H pair late.kind) (lost_there a W 0 (length a) 0 0 H H pair late.kind)
            (ap (λ o. wrong_in W (begun_behind late.kind W H).start o) late.says) (ap (λ o. coming o W H) (sym late.others) ∙ there) (omega (arith, late.further, low))
            (ap (λ o. coming o a H) (sym late.mine) ∙ here)
      ]
      | inr past ↦
          let (at, _) = at_end a b H cut stands.inside past in
          let there_at : (gap_behind W H).place ≡ length a = omega (arith, at, pair.place) in
          let m = mark_stands b 0 cut.mark in
          let mark = stands_there a b cut H m.kind (m.stands (in_flow H)) there_at in
          let late = mark_late m.kind m.body m.is W H (length a) there_at g (ap (λ o. coming o W H) (sym mark) ∙ there) in
          absurd (omega (arith, late, low))
    ]
