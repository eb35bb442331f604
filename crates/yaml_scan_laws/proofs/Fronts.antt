-- The next lexeme, in each part of a text; the lexemes of the front are the first ones of the whole.
use Rattle.std.proofs.Common.{◌≡◌, ◌≢◌, ℕ, ◌+◌, ◌<◌, ◌≤◌, nat_lt, false, List, [], ◌∷◌, length, Option, Some, None, Result, Ok, Err, refl, sym, ap, subst, ◌∙◌, inl, inr, arith, zero-add, zero, suc, true, ◌++◌}
use Rattle.yaml_scan_laws.proofs.Shared.{nat_tests, cases_Bool, cases_lt, true≢false, same_Some, ScanFault, byte, mark_at, is_document_indicator, Wrong, Kind, Lexeme, is_end, in_flow, WordText, lexeme_at, Read, Fails, gap_behind, kind_behind, begun_behind, word_behind, with_end, lexeme_behind, stale_before, indicator_misplaced, candidate_lost, wrong_in, text_wrong, stale_after, first_fault_or, coming, moved_mark, moved_lexeme, moved_next, yaml_mark_t, start_line, reached, ended, Candidate, candidate, Next, Ends, next, extended, step, history, Stands, history_stands, not_ended, stays_upto, IsCut}
use Rattle.yaml_scan_history.specs.declared.kind.Kind.TheVariants as kinds
use Rattle.yaml_scan_laws.proofs.WordForward.{Fits, FitsAny, kind_fits, LandsWord, IsWordFrom, word_lands}
use Rattle.yaml_scan_laws.proofs.CutsWords.{end_kind, kind_onward, kind_text, WordCarried, word_alike}
use Rattle.yaml_scan_laws.proofs.Coming.{Pair, begun_there, Said, coming_there, abreast}
use Rattle.yaml_scan_laws.proofs.Cutting.{front_alike}
use Rattle.yaml_scan_laws.proofs.Histories.{moved_found}
use Rattle.yaml_scan_laws.proofs.HistoryForward.{reads_same}

-- ---- the word there

pub word_there : (t u : List ℕ) (d m n k : ℕ) (H G : List Lexeme) → Pair t u d m n k H G
    → (gap_behind t H).place < m → (x : Kind) → kind_behind t H ≡ Some x
    → WordCarried u d m (word_behind x t H) (word_behind x u G)
word_there t u d m n k H G p l x e =
    let at = (gap_behind t H).place in
    let same = ap (lexeme_at x (in_flow G) (begun_behind x u G).level u) p.place
    ∙ ap (λ (y : Lexeme). lexeme_at x (in_flow G) y.level u (d + at)) (begun_there t u d m n k H G p x)
    ∙ ap (λ (y : ℕ). lexeme_at x (nat_lt 0 y) (begun_behind x t H).level u (d + at)) p.same_depth in
    subst (λ s. WordCarried u d m (word_behind x t H) s) (sym same)
    (word_alike x (in_flow H) (begun_behind x t H).level t u d m at p.alike l (λ go. kind_onward (in_flow H) t at x e go) (kind_text (in_flow H) t at x e))

-- what is read lies in the text
pub word_inside : (t : List ℕ) (H : List Lexeme) (x : Kind) → kind_behind t H ≡ Some x
    → is_end x ≡ false → (w : WordText) → word_behind x t H ≡ Ok w
    → (w.end ≤ length t) × (w.reached ≤ length t)
word_inside t H x e go w is =
    let at = (gap_behind t H).place in
    let fits : Fits x t at = subst (λ o. FitsAny o t at) e (kind_fits (in_flow H) t at) in
    let lands : LandsWord t at (Ok w) = subst (λ r. LandsWord t at r) is (word_lands x (in_flow H) (begun_behind x t H).level t at go fits) in
    bounds t at w lands
  where
    bounds : (t : List ℕ) (at : ℕ) (w : WordText) → IsWordFrom t at w → (w.end ≤ length t) × (w.reached ≤ length t)
    bounds t at w b = let place = b.place in let inside = b.inside in (omega (arith, place, inside), inside)

-- ---- in the rest

pub rest_said : (t u : List ℕ) (d m n k : ℕ) (H G : List Lexeme) → Pair t u d m n k H G
    → is_document_indicator u (d + m) ≡ false
    → ((q : ℕ) → mark_at u (d + q) ≡ moved_mark d n (mark_at t q))
    → (gap_behind t H).place < m → (x : Kind) → kind_behind t H ≡ Some x
    → Said t u d m n x (word_behind x t H) (word_behind x u G)
rest_said t u d m n k H G p none marks l x e =
    record {
      same = elim (word_there t u d m n k H G p l x e) [
        | inl same ↦ same
        | inr torn ↦ absurd (true≢false (sym torn.mark ∙ none))
      ];
      wrong = λ w bad. marks w.place;
      ends = λ w is go. let (end, place) = word_inside t H x e go w is in (omega (arith, end, p.alike.covers), omega (arith, place, p.alike.covers));
    }

-- What comes in the rest comes in the whole.
pub rest_comes : (t u : List ℕ) (d m n k : ℕ) (H G : List Lexeme) → Pair t u d m n k H G
    → is_document_indicator u (d + m) ≡ false
    → ((q : ℕ) → mark_at u (d + q) ≡ moved_mark d n (mark_at t q))
    → (gap_behind t H).place < m
    → coming (kind_behind u G) u G ≡ moved_next d n (coming (kind_behind t H) t H)
rest_comes t u d m n k H G p none marks l = coming_there t u d m n k H G p l (kind_behind t H) refl (λ x e. rest_said t u d m n k H G p none marks l x e)

-- ---- in the front

fails_not : (f : ScanFault) (l : Lexeme) → Fails f ≢ Read l
fails_not f l e = cc

-- nothing is wrong with what is read
pub record IsClean (t : List ℕ) (H : List Lexeme) (x : Kind) (l : Lexeme) : Type 0 where
  pub stale : stale_before t H ≡ None
  pub misplaced : indicator_misplaced x t H ≡ None
  pub lost : candidate_lost x t H ≡ None
  pub text : text_wrong x t H ≡ None
  pub is : lexeme_behind x t H ≡ l

clean_of : (t : List ℕ) (H : List Lexeme) (x : Kind) (l y : Lexeme) (a b c e f : Option ScanFault)
    → stale_before t H ≡ a → indicator_misplaced x t H ≡ b → candidate_lost x t H ≡ c
    → text_wrong x t H ≡ e → lexeme_behind x t H ≡ y
    → first_fault_or (a ∷ b ∷ c ∷ e ∷ f ∷ []) (Read y) ≡ Read l → IsClean t H x l
clean_of t H x l y a b c e f h i j o q r = grind (arith, fails_not, reads_same)

pub clean : (t : List ℕ) (H : List Lexeme) (x : Kind) (l : Lexeme)
    → coming (Some x) t H ≡ Read l → IsClean t H x l
clean t H x l r = clean_of t H x l (lexeme_behind x t H) (stale_before t H) (indicator_misplaced x t H) (candidate_lost x t H) (text_wrong x t H) (stale_after (lexeme_behind x t H) H) refl refl refl refl refl r

pub none_reads : (t : List ℕ) (H : List Lexeme) (l : Lexeme) → coming None t H ≢ Read l
none_reads t H l e = grind (arith, fails_not)

-- what is read has a kind, and a text
pub record HasRead (t : List ℕ) (H : List Lexeme) (l : Lexeme) : Type 0 where
  pub kind : Kind
  pub stands : kind_behind t H ≡ Some kind
  pub clean : IsClean t H kind l
  pub word : WordText
  pub reads : word_behind kind t H ≡ Ok word

pub has_read : (t : List ℕ) (H : List Lexeme) (l : Lexeme) → coming (kind_behind t H) t H ≡ Read l
    → HasRead t H l
has_read t H l r = go (kind_behind t H) refl
  where
    word_of : (x : Kind) → IsClean t H x l → (o : Result WordText Wrong) → word_behind x t H ≡ o → (w : WordText) × (word_behind x t H ≡ Ok w)
    word_of x c (Ok w) e = (w, e)
    word_of x c (Err w) e = absurd (some_not (ap (λ o. wrong_in t (begun_behind x t H).start o) (sym e) ∙ c.text))
      where
        some_not : {A : Type 0} {y : A} → Some y ≡ None → ⊥
        some_not e = cc

    go : (o : Option Kind) → kind_behind t H ≡ o → HasRead t H l
    go None e = absurd (none_reads t H l (ap (λ o. coming o t H) (sym e) ∙ r))
    go (Some x) e =
        let c = clean t H x l (ap (λ o. coming o t H) (sym e) ∙ r) in
        let (w, is) = word_of x c (word_behind x t H) refl in
        record { kind = x; stands = e; clean = c; word = w; reads = is }

-- nothing else of a lexeme changes by its end
pub record Kept (l y : Lexeme) : Type 0 where
  pub kind : y.kind ≡ l.kind
  pub start : y.start ≡ l.start
  pub deep : y.depth ≡ l.depth
  pub level : y.level ≡ l.level
  pub saved : y.saved ≡ l.saved

pub kept : (t : List ℕ) (l : Lexeme) (r : Result WordText Wrong) → Kept l (with_end t l r)
kept t l (Err w) = record { kind = refl; start = refl; deep = refl; level = refl; saved = refl }
kept t l (Ok w) =
    elim (cases_Bool (is_end l.kind)) [
      | inl e ↦ rw e record { kind = refl; start = refl; deep = refl; level = refl; saved = refl }
      | inr e ↦ rw e record { kind = refl; start = refl; deep = refl; level = refl; saved = refl }
    ]

-- the kind that is there is the lexeme's
pub read_kind : (t : List ℕ) (H : List Lexeme) (l : Lexeme) → (r : HasRead t H l) → l.kind ≡ r.kind
read_kind t H l r = grind (arith, nat_tests, clean, kept)

-- a lexeme but the end is before the end
pub read_within : (t u : List ℕ) (d m n k : ℕ) (H G : List Lexeme) → Pair t u d m n k H G
    → (l : Lexeme) → HasRead t H l → is_end l.kind ≡ false → (gap_behind t H).place < m
read_within t u d m n k H G p l r go =
    elim (cases_lt (gap_behind t H).place m) [
      | inl on ↦ on
      | inr past ↦
          let e : (gap_behind t H).place ≡ m = omega (arith, past, p.inside) in
          let zero : byte t (gap_behind t H).place ≡ 0 = ap (λ q. byte t q) e ∙ p.alike.edge in
          let same = same_Some kinds.StreamEnd r.kind (sym (end_kind (in_flow H) t (gap_behind t H).place zero) ∙ r.stands) in
          absurd (true≢false (ap is_end (same ∙ sym (read_kind t H l r)) ∙ go))
    ]

pub front_said : (t u : List ℕ) (d m n k : ℕ) (H G : List Lexeme) → Pair t u d m n k H G
    → (l : Lexeme) → (r : HasRead t H l) → is_end l.kind ≡ false
    → Said t u d m n r.kind (word_behind r.kind t H) (word_behind r.kind u G)
front_said t u d m n k H G p l r go =
    record {
      same = elim (word_there t u d m n k H G p (read_within t u d m n k H G p l r go) r.kind r.stands) [
        | inl same ↦ same
        | inr torn ↦ absurd (ok_not r.word torn.wrong (sym r.reads ∙ torn.mine))
      ];
      wrong = λ w bad. absurd (ok_not r.word w (sym r.reads ∙ bad));
      ends = λ w is go. let (end, place) = word_inside t H r.kind r.stands go w is in (omega (arith, end, p.alike.covers), omega (arith, place, p.alike.covers));
    }
  where
    ok_not : (v : WordText) (w : Wrong) → Ok v ≡ Err w → ⊥
    ok_not v w e = cc

-- What is read in the front is read in the whole.
pub front_comes : (t u : List ℕ) (d m n k : ℕ) (H G : List Lexeme) → Pair t u d m n k H G
    → (l : Lexeme) → coming (kind_behind t H) t H ≡ Read l → is_end l.kind ≡ false
    → coming (kind_behind u G) u G ≡ Read (moved_lexeme d n l)
front_comes t u d m n k H G p l e go =
    let r = has_read t H l e in
    coming_there t u d m n k H G p (read_within t u d m n k H G p l r go) (Some r.kind) r.stands
    (λ x s. subst (λ y. Said t u d m n y (word_behind y t H) (word_behind y u G)) (same_Some r.kind x s) (front_said t u d m n k H G p l r go))
    ∙ ap (moved_next d n) e

-- ---- what is moved by nothing

pub mark_zero : (m : yaml_mark_t) → moved_mark 0 0 m ≡ m
mark_zero m = grind (arith, nat_tests, zero-add)

pub lexeme_zero : (l : Lexeme) → moved_lexeme 0 0 l ≡ l
lexeme_zero l = rw (mark_zero l.start, mark_zero l.end, mark_zero l.reached) refl

found_zero : (o : Option Candidate) → moved_found 0 0 0 o ≡ o
found_zero o = grind (arith, nat_tests, zero-add, lexeme_zero)

-- the same lexemes are in both
pub front_pair : (a b : List ℕ) → IsCut a b → (H : List Lexeme) → (reached H).index ≤ length a
    → Pair a (a ++ b) 0 (length a) 0 0 H H
front_pair a b cut H inside = abreast a (a ++ b) 0 (length a) 0 0 H H record {
  alike = front_alike a b cut;
  line = sym (start_line (a ++ b));
  same_depth = refl;
  same_place = sym (mark_zero (reached H));
  same_allowed = refl;
  same_levels = refl;
  candidates = λ e. sym (found_zero (candidate e H));
  count = omega arith;
  within = inside;
}

-- ---- a step

pub next_open : (t : List ℕ) (x : Lexeme) (h : List Lexeme) → is_end x.kind ≡ false
    → next t (x ∷ h) ≡ coming (kind_behind t (x ∷ h)) t (x ∷ h)
unfolding next
next_open t x h e = rw e refl

pub next_over : (t : List ℕ) (x : Lexeme) (h : List Lexeme) → is_end x.kind ≡ true
    → next t (x ∷ h) ≡ Ends
unfolding next
next_over t x h e = rw e refl

first_same : (a b : List ℕ) (l : Lexeme) → next a [] ≡ Read l → next b [] ≡ Read l
unfolding next
first_same a b l e = e

pub front_next : (a b : List ℕ) → IsCut a b → (H : List Lexeme) → Stands a H → (l : Lexeme)
    → next a H ≡ Read l → is_end l.kind ≡ false → next (a ++ b) H ≡ Read l
front_next a b cut [] stands l e go = first_same a (a ++ b) l e
front_next a b cut (x ∷ h) stands l e go =
    let more = not_ended a x h l e in
    next_open (a ++ b) x h more
    ∙ front_comes a (a ++ b) 0 (length a) 0 0 (x ∷ h) (x ∷ h) (front_pair a b cut (x ∷ h) stands.inside) l (sym (next_open a x h more) ∙ e) go
    ∙ ap Read (lexeme_zero l)

-- ---- up to the end

read_not : (l : Lexeme) → Ends ≢ Read l
read_not l e = cc

-- the step that reads the end
pub record EndsAt (a : List ℕ) (n : ℕ) (E : Lexeme) : Type 0 where
  pub reads : next a (history a n) ≡ Read E
  pub ends : is_end E.kind ≡ true

pub history_more : (a : List ℕ) (j : ℕ) → history a (suc j) ≡ step a (history a j)
unfolding history
history_more a j = refl

-- before it each step reads a lexeme, and none is the end
pub reads_before : (a : List ℕ) (n j : ℕ) (E : Lexeme) → EndsAt a n E → j < n
    → (l : Lexeme) × (next a (history a j) ≡ Read l) × (is_end l.kind ≡ false)
reads_before a n j E at lt = go (next a (history a j)) refl
  where
    stuck : (m : ℕ) → m ≤ n → ((l : Lexeme) → next a (history a m) ≢ Read l) → ⊥
    stuck m le never = never E (ap (next a) (sym (stays_upto a m n never le)) ∙ at.reads)

    over : (l : Lexeme) → next a (history a j) ≡ Read l → is_end l.kind ≡ true → ⊥
    over l e end =
        let grown : history a (suc j) ≡ l ∷ history a j = history_more a j ∙ ap (λ x. extended x (history a j)) e in
        stuck (suc j) (omega (arith, lt)) (λ y f. read_not y (sym (ap (next a) grown ∙ next_over a l (history a j) end) ∙ f))

    go : (x : Next) → next a (history a j) ≡ x → (l : Lexeme) × (next a (history a j) ≡ Read l) × (is_end l.kind ≡ false)
    go (Read l) e = elim (cases_Bool (is_end l.kind)) [
      | inl end ↦ absurd (over l e end)
      | inr more ↦ (l, e, more)
    ]
    go (Fails f) e = absurd (stuck j (omega (arith, lt)) (λ l g. fails_not f l (sym e ∙ g)))
    go Ends e = absurd (stuck j (omega (arith, lt)) (λ l g. read_not l (sym e ∙ g)))

pub front_history : (a b : List ℕ) → IsCut a b → (n : ℕ) (E : Lexeme) → EndsAt a n E → (j : ℕ)
    → j ≤ n → history (a ++ b) j ≡ history a j
unfolding history
front_history a b cut n E at zero le = refl
front_history a b cut n E at (suc j) le =
    let (l, reads, more) = reads_before a n j E at (omega (arith, le)) in
    let before = front_history a b cut n E at j (omega (arith, le)) in
    let there = front_next a b cut (history a j) (history_stands a j) l reads more in
    ap (λ h. step (a ++ b) h) before ∙ ap (λ x. extended x (history a j)) (there ∙ sym reads)

-- an ended list of lexemes has such a step
pub end_step : (a : List ℕ) (n : ℕ) → ended (history a n) ≡ true
    → (m : ℕ) × (E : Lexeme) × EndsAt a m E × (history a n ≡ E ∷ history a m)
unfolding history
end_step a zero e = absurd (true≢false (sym e))
end_step a (suc n) e = go (next a (history a n)) refl (λ h. end_step a n h)
  where
    Found : List Lexeme → Type 0
    Found h = (m : ℕ) × (E : Lexeme) × EndsAt a m E × (h ≡ E ∷ history a m)

    go : (x : Next) → next a (history a n) ≡ x → (ended (history a n) ≡ true → Found (history a n))
        → Found (step a (history a n))
    go (Read l) f before =
        let grown : step a (history a n) ≡ l ∷ history a n = ap (λ x. extended x (history a n)) f in
        let end : is_end l.kind ≡ true = ap ended (sym grown) ∙ e in
        (n, l, record { reads = f; ends = end }, grown)
    go (Fails g) f before =
        let same : step a (history a n) ≡ history a n = ap (λ x. extended x (history a n)) f in
        let (m, E, at, is) = before (ap ended (sym same) ∙ e) in
        (m, E, at, same ∙ is)
    go Ends f before =
        let same : step a (history a n) ≡ history a n = ap (λ x. extended x (history a n)) f in
        let (m, E, at, is) = before (ap ended (sym same) ∙ e) in
        (m, E, at, same ∙ is)
