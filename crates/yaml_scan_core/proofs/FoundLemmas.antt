-- What the lexeme is of which a `:` makes a key.
use Rattle.std.proofs.Common.{◌≡◌, ◌≢◌, ℕ, zero, suc, ◌-◌, ◌<◌, true, false, cond, ltb, inl, inr, List, [], ◌∷◌, length, get_or, Some, Result, Ok, Err, refl, sym, ap, ◌∙◌, arith}
use Rattle.yaml_scan_core.proofs.Words.{and_parts, cases_Bool, cases_Option, nat_tests, get_or_append_left, get_or-append_right, Kind, Lexeme, Entry, Candidate, candidate, candidate_below, fresh_is, found_by, inside, finished_tokens, entry_of, keyed, mark_key, is_start, is_value, cancels, may_be_key, allowed_behind, length-entries, length-keyed, Wrong, lexeme_at, Read, next, history, SpelledText}
use Rattle.yaml_scan_model.specs.scan_types.Tokens as tokens
use Rattle.yaml_scan_model.specs.scan_types.Tokens.{TokenBody}
use Rattle.yaml_scan_history.specs.Tags.{TagText, tag_at}
use Rattle.yaml_scan_history.specs.Anchors.{anchor_at}
use Rattle.yaml_scan_history.specs.Quoted.{double_quoted_at, single_quoted_at}
use Rattle.yaml_scan_history.specs.Plain.{PlainText, plain_at}
use Rattle.yaml_scan_model.specs.declared.problem.Context.TheVariants as contexts
use Rattle.yaml_scan_model.specs.declared.name.yaml_scalar_style_t.TheVariants as styles
use Rattle.yaml_scan_history.specs.History.{marked}
use Rattle.yaml_scan_history.specs.Words.{plainly, tagged, valued}
use Rattle.yaml_scan_history.specs.Remaining.{body_by, body_of_word}
use Rattle.yaml_scan_history.specs.declared.kind.Kind.TheVariants as reads
use Rattle.yaml_scan_history.specs.declared.lexeme.Opens.TheVariants as opening
use Rattle.yaml_scan_core.proofs.ReadLemmas.{first_is, gap_of, saved_is, next_is}
use Rattle.yaml_scan_core.proofs.StepLemmas.{candidate_top, extends, start_is}
use Rattle.yaml_scan_core.proofs.NextLemmas.{candidate_depth}
use Rattle.yaml_scan_core.proofs.StandLemmas.{candidate_saved}

-- ---- no level opens before it

key_no_start : (k : Kind) → may_be_key k ≡ true → is_start k ≡ false
key_no_start reads.BlockEntry e = cc
key_no_start reads.KeyMark e = cc
key_no_start reads.ValueMark e = cc
key_no_start _ e = refl

value_no_key : (k : Kind) → is_value k ≡ true → (may_be_key k ≡ false) × (cancels k ≡ true)
value_no_key reads.ValueMark e = (refl, refl)
value_no_key _ e = cc

saved_may : (text : List ℕ) (h : List Lexeme) (l : Lexeme) → next text h ≡ Read l
    → l.saved ≡ true → may_be_key l.kind ≡ true
saved_may text [] l e saved = let bad = sym (ap (λ (x : Lexeme). x.saved) (first_is text l e)) ∙ saved in cc
saved_may text (y ∷ h) l e saved =
    let both = sym (saved_is text y h l (next_is text y h l e)) ∙ saved in
    (and_parts (allowed_behind (y ∷ h) (gap_of text (y ∷ h))) (may_be_key l.kind) both).1

mark_other : (ls : List ℕ) (es : List Entry) (k n : ℕ) (e : Entry) → k ≢ n
    → get_or (mark_key ls es k) n e ≡ get_or es n e
unfolding mark_key
mark_other ls [] k n e ne = refl
mark_other ls (x ∷ es) zero zero e ne = absurd (ne refl)
mark_other ls (x ∷ es) zero (suc n) e ne = refl
mark_other ls (x ∷ es) (suc k) zero e ne = refl
mark_other ls (x ∷ es) (suc k) (suc n) e ne = mark_other ls es k n e (λ s. ne (ap (λ m. suc m) s))

keyed_other : (l : Lexeme) (h : List Lexeme) (n : ℕ) (e : Entry)
    → (is_value l.kind ≡ true → (c : Candidate) → found_by l h ≡ Some c → c.number ≢ n)
    → get_or (keyed l h (finished_tokens h)) n e ≡ get_or (finished_tokens h) n e
keyed_other l h n e ne = elim (cases_Bool (is_value l.kind)) [
  | inr other ↦ ap (λ b. get_or (cond b (marked (found_by l h) (inside l h) (finished_tokens h)) (finished_tokens h)) n e) other
  | inl value ↦ ap (λ b. get_or (cond b (marked (found_by l h) (inside l h) (finished_tokens h)) (finished_tokens h)) n e) value ∙
      elim (cases_Option (found_by l h)) [
        | inl none ↦ ap (λ o. get_or (marked o (inside l h) (finished_tokens h)) n e) none
        | inr (c, some) ↦ ap (λ o. get_or (marked o (inside l h) (finished_tokens h)) n e) some ∙ mark_other (inside l h) (finished_tokens h) c.number n e (ne value c some)
      ]
]

entry_below : (l : Lexeme) (h : List Lexeme) (n : ℕ) (e : Entry) → n < length h
    → get_or (finished_tokens (l ∷ h)) n e ≡ get_or (keyed l h (finished_tokens h)) n e
unfolding finished_tokens
entry_below l h n e low = get_or_append_left (keyed l h (finished_tokens h)) (entry_of l h ∷ []) e n (omega (arith, low, length-keyed l h (finished_tokens h), length-entries h))

entry_top : (l : Lexeme) (h : List Lexeme) (n : ℕ) (e : Entry) → n ≡ length h
    → get_or (finished_tokens (l ∷ h)) n e ≡ entry_of l h
unfolding finished_tokens
entry_top l h n e top =
    let long : length (keyed l h (finished_tokens h)) ≡ n = omega (arith, length-keyed l h (finished_tokens h), length-entries h) in
    let z : n - n ≡ 0 = omega arith in
    get_or-append_right (keyed l h (finished_tokens h)) (entry_of l h ∷ []) n n e long (omega arith) ∙ ap (λ i. get_or (entry_of l h ∷ []) i e) z

-- two candidates of one number are of one depth
same_depth : (h : List Lexeme) (d e : ℕ) (c x : Candidate) (y : Entry) → candidate d h ≡ Some c
    → candidate e h ≡ Some x → x.number ≡ c.number → d ≡ e
same_depth h d e c x y ic ix same =
    let lc = start_is d h c y ic in
    let lx = start_is e h x y ix in
    let one : c.lexeme ≡ x.lexeme = sym lc ∙ ap (λ n. (get_or (finished_tokens h) n y).lexeme) (sym same) ∙ lx in
    sym (candidate_depth d h c ic) ∙ ap (λ (l : Lexeme). l.depth) one ∙ candidate_depth e h x ix

gone_by : (d : ℕ) (l : Lexeme) (h : List Lexeme) (c : Candidate) → l.depth ≡ d → l.saved ≡ false
    → cancels l.kind ≡ true → candidate d (l ∷ h) ≡ Some c → ⊥
unfolding candidate
gone_by d l h c at free stops e = grind (arith, nat_tests)

-- no level opens before a candidate
pub candidate_plain : (text : List ℕ) (n d : ℕ) (c : Candidate) (e : Entry)
    → candidate d (history text n) ≡ Some c
    → (get_or (finished_tokens (history text n)) c.number e).opens ≡ opening.Nothing
unfolding candidate history
candidate_plain text zero d c e is = cc
candidate_plain text (suc n) d c e is =
    let h = history text n in
    elim (extends (next text h) h) [
      | inr stays ↦ rw stays (candidate_plain text n d c e (rw stays at is))
      | inl (l, reads_it) ↦
          let there : candidate d (l ∷ h) ≡ Some c = rw reads_it at is in
          let goal : (get_or (finished_tokens (l ∷ h)) c.number e).opens ≡ opening.Nothing = elim (candidate_top d l h c there) [
            | inl (at, top, s) ↦
                let saved : l.saved ≡ true = ap (λ (x : Lexeme). x.saved) (sym s) ∙ candidate_saved d (l ∷ h) c there in
                let start = key_no_start l.kind (saved_may text h l reads_it saved) in
                ap (λ (x : Entry). x.opens) (entry_top l h c.number e top) ∙ (rw start refl)
            | inr was ↦
                let low = candidate_below d h c was in
                let others : is_value l.kind ≡ true → (x : Candidate) → found_by l h ≡ Some x → x.number ≢ c.number = λ value x found same.
                let ix = fresh_is (candidate l.depth h) l.start x found in
                let (plain, stops) = value_no_key l.kind value in
                let free : l.saved ≡ false = elim (cases_Bool l.saved) [ inr f ↦ f | inl t ↦ let bad = sym (saved_may text h l reads_it t) ∙ plain in cc ] in
                gone_by d l h c (sym (same_depth h d l.depth c x e was ix same)) free stops there in
                ap (λ (x : Entry). x.opens) (entry_below l h c.number e low ∙ keyed_other l h c.number e others) ∙ candidate_plain text n d c e was
          ] in
          rw reads_it goal
    ]

-- ---- it is no `?`

no_value : (f : List ℕ → TokenBody) (r : Result (List ℕ × ℕ) Wrong)
    → ((v : List ℕ) → f v ≡ tokens.key → ⊥)
    → body_of_word (valued f r) ≡ tokens.key → ⊥
no_value f (Ok x) no_one e = no_one x.0 e
no_value f (Err w) no_one e = cc

no_tag : (r : Result TagText Wrong) → body_of_word (tagged r) ≡ tokens.key → ⊥
no_tag (Ok t) e = cc
no_tag (Err w) e = cc

no_plain : (r : Result PlainText Wrong) → body_of_word (plainly r) ≡ tokens.key → ⊥
no_plain (Ok t) e = cc
no_plain (Err w) e = cc

pub no_mark : (k : Kind) (s : SpelledText) (l : Lexeme) → may_be_key k ≡ true
    → body_by k s l ≡ tokens.key → ⊥
unfolding lexeme_at
no_mark reads.FlowSequenceStart s l may e = cc
no_mark reads.FlowMappingStart s l may e = cc
no_mark reads.Alias s l may e = no_value tokens.alias (anchor_at contexts.Alias s.text l.start.index) (λ v x. cc) e
no_mark reads.Anchor s l may e = no_value tokens.anchor (anchor_at contexts.Anchor s.text l.start.index) (λ v x. cc) e
no_mark reads.Tag s l may e = no_tag (tag_at (ltb 0 l.depth) s.text l.start.index) e
no_mark reads.SingleQuoted s l may e = no_value (λ v. tokens.scalar v styles.YAML_SINGLE_QUOTED_SCALAR_STYLE) (single_quoted_at s.text l.start.index) (λ v x. cc) e
no_mark reads.DoubleQuoted s l may e = no_value (λ v. tokens.scalar v styles.YAML_DOUBLE_QUOTED_SCALAR_STYLE) (double_quoted_at s.text l.start.index) (λ v x. cc) e
no_mark reads.Plain s l may e = no_plain (plain_at (ltb 0 l.depth) l.level s.text l.start.index) e
no_mark _ s l may e = cc

-- a candidate may be a key
pub candidate_may : (text : List ℕ) (n d : ℕ) (c : Candidate)
    → candidate d (history text n) ≡ Some c
    → may_be_key c.lexeme.kind ≡ true
unfolding candidate history
candidate_may text zero d c is = cc
candidate_may text (suc n) d c is =
    let h = history text n in
    elim (extends (next text h) h) [
      | inr stays ↦ candidate_may text n d c (rw stays at is)
      | inl (l, reads_it) ↦
          let there : candidate d (l ∷ h) ≡ Some c = rw reads_it at is in
          elim (candidate_top d l h c there) [
            | inr was ↦ candidate_may text n d c was
            | inl (at, top, s) ↦
                let saved : l.saved ≡ true = ap (λ (x : Lexeme). x.saved) (sym s) ∙ candidate_saved d (l ∷ h) c there in
                ap (λ (x : Lexeme). may_be_key x.kind) s ∙ saved_may text h l reads_it saved
          ]
    ]
