-- What one more lexeme changes.
use Rattle.std.proofs.Common.{◌≡◌, ℕ, zero, suc, ◌+◌, ◌-◌, ◌<◌, ◌≤◌, Bool, true, false, cond, ◌&&◌, List, [], ◌∷◌, length, get_or, Some, None, refl, sym, ap, ◌∙◌, inl, inr, ◌⊎◌, arith}
use Rattle.yaml_scan_core.proofs.Words.{nat_tests, get_or_append_left, get_or-append_right, Kind, Lexeme, Entry, is_value, cancels, may_be_key, depth_after, Candidate, candidate, mark_key, keyed, finished_tokens, entry_of, found_by, inside, flow_depth, history, Next, Read, Fails, Ends, next, first_lexeme, allowed_behind, candidate_below, length-entries, length-keyed}
use Rattle.yaml_scan_history.specs.Next.{extended}
use Rattle.yaml_scan_history.specs.History.{marked}
use Rattle.yaml_scan_history.specs.declared.kind.Kind.TheVariants as kinds
use Rattle.yaml_scan_core.proofs.ReadLemmas.{next_is, saved_is, gap_of}

lexeme-as_key : (ls : List ℕ) (es : List Entry) (k n : ℕ) (e : Entry)
    → (get_or (mark_key ls es k) n e).lexeme ≡ (get_or es n e).lexeme
unfolding mark_key
lexeme-as_key ls [] k n e = refl
lexeme-as_key ls (x ∷ es) zero zero e = refl
lexeme-as_key ls (x ∷ es) zero (suc n) e = refl
lexeme-as_key ls (x ∷ es) (suc k) zero e = refl
lexeme-as_key ls (x ∷ es) (suc k) (suc n) e = lexeme-as_key ls es k n e

lexeme-keyed : (l : Lexeme) (h : List Lexeme) (es : List Entry) (n : ℕ) (e : Entry)
    → (get_or (keyed l h es) n e).lexeme ≡ (get_or es n e).lexeme
lexeme-keyed l h es n e =
    elim (is_value l.kind) as (λ b. (get_or (cond b (marked (found_by l h) (inside l h) es) es) n e).lexeme ≡ (get_or es n e).lexeme) [
      | true ↦ elim (found_by l h) as (λ o. (get_or (marked o (inside l h) es) n e).lexeme ≡ (get_or es n e).lexeme) [ Some c ↦ lexeme-as_key (inside l h) es c.number n e | None ↦ refl ]
      | false ↦ refl
    ]

lexeme-below : (l : Lexeme) (h : List Lexeme) (n : ℕ) (e : Entry) → n < length h
    → (get_or (finished_tokens (l ∷ h)) n e).lexeme ≡ (get_or (finished_tokens h) n e).lexeme
unfolding finished_tokens
lexeme-below l h n e below =
    let fits : n < length (keyed l h (finished_tokens h)) = omega (arith, length-keyed l h (finished_tokens h), length-entries h) in
    ap (λ (x : Entry). x.lexeme) (get_or_append_left (keyed l h (finished_tokens h)) _ e n fits) ∙ lexeme-keyed l h (finished_tokens h) n e

lexeme-top : (l : Lexeme) (h : List Lexeme) (n : ℕ) (e : Entry) → n ≡ length h
    → (get_or (finished_tokens (l ∷ h)) n e).lexeme ≡ l
unfolding finished_tokens
lexeme-top l h n e top =
    let here : length (keyed l h (finished_tokens h)) ≡ n = omega (arith, length-keyed l h (finished_tokens h), length-entries h) in
    let z : n - n ≡ 0 = omega arith in
    ap (λ (x : Entry). x.lexeme) (get_or-append_right (keyed l h (finished_tokens h)) _ n n e here (omega arith) ∙ ap (λ i. get_or (entry_of l h ∷ []) i e) z)

-- a candidate is the lexeme of its number
pub candidate_top : (d : ℕ) (l : Lexeme) (h : List Lexeme) (c : Candidate)
    → candidate d (l ∷ h) ≡ Some c
    → ((l.depth ≡ d) × (c.number ≡ length h) × (c.lexeme ≡ l)) ⊎ (candidate d h ≡ Some c)
unfolding candidate
candidate_top d l h c e = grind (arith, nat_tests)

pub start_is : (d : ℕ) (h : List Lexeme) (c : Candidate) (e : Entry) → candidate d h ≡ Some c
    → (get_or (finished_tokens h) c.number e).lexeme ≡ c.lexeme
unfolding candidate
start_is d [] c e is = cc
start_is d (l ∷ h) c e is = grind (arith, candidate_top d l h c is, lexeme-top l h c.number e, lexeme-below l h c.number e, candidate_below d h c, start_is d h c e)

no_two : (k : Kind) → (may_be_key k && cancels k) ≡ false
no_two kinds.Plain = refl
no_two _ = refl

no_both : (k : Kind) (b : Bool) → ((b && may_be_key k) && cancels k) ≡ false
no_both k b = grind (arith, no_two k)

closes_own : (k : Kind) (d : ℕ) → depth_after k d < d → cancels k ≡ true
closes_own kinds.FlowSequenceEnd d lt = grind arith
closes_own _ d lt = grind arith

at_least : (k : Kind) (d : ℕ) → d ≤ depth_after k d + 1
at_least kinds.FlowSequenceEnd d = omega arith
at_least _ d = omega arith

none_after : (l : Lexeme) (d : ℕ) (h : List Lexeme) → depth_after l.kind l.depth < d
    → (l.saved && cancels l.kind) ≡ false → candidate d (l ∷ h) ≡ None
unfolding candidate
none_after l d h deep both = grind (arith, nat_tests, at_least l.kind l.depth, closes_own l.kind l.depth)

-- a lexeme that is saved cancels no candidate
pub saved_keeps : (text : List ℕ) (h : List Lexeme) (l : Lexeme) → next text h ≡ Read l
    → (l.saved && cancels l.kind) ≡ false
unfolding next
saved_keeps text [] l e = let same : first_lexeme ≡ l = cc in ap (λ (x : Lexeme). x.saved && cancels x.kind) (sym same)
saved_keeps text (x ∷ h) l e =
    let r = next_is text x h l e in
    ap (λ b. b && cancels l.kind) (saved_is text x h l r) ∙ no_both l.kind (allowed_behind (x ∷ h) (gap_of text (x ∷ h)))

-- Inside no level there is no candidate of a deeper one.
none_deeper_next : (text : List ℕ) (h : List Lexeme) (l : Lexeme) (d : ℕ) → next text h ≡ Read l
    → flow_depth (l ∷ h) < d → candidate d (l ∷ h) ≡ None
unfolding next candidate
none_deeper_next text h l d e deep = none_after l d h deep (saved_keeps text h l e)

pub extends : (x : Next) (h : List Lexeme)
    → ((l : Lexeme) × (x ≡ Read l)) ⊎ (extended x h ≡ h)
extends (Read l) h = inl (l, refl)
extends (Fails p) h = inr refl
extends Ends h = inr refl

-- what holds before any lexeme, and after each that comes where it held before, holds of each history
pub each_history : (text : List ℕ) (P : List Lexeme → Type 0) → P []
    → ((h : List Lexeme) (l : Lexeme) → P h → next text h ≡ Read l → P (l ∷ h)) → (n : ℕ)
    → P (history text n)
unfolding history
each_history text P none more zero = none
each_history text P none more (suc n) =
    let h = history text n in
    let before = each_history text P none more n in
    elim (extends (next text h) h) [
      | inl (l, e) ↦ rw e (more h l before e)
      | inr stays ↦ rw stays before
    ]

pub none_deeper : (text : List ℕ) (n d : ℕ) → flow_depth (history text n) < d
    → candidate d (history text n) ≡ None
unfolding candidate
none_deeper text n = each_history text (λ h. (d : ℕ) → flow_depth h < d → candidate d h ≡ None) (λ d deep. refl) (λ h l before e d deep. none_deeper_next text h l d e deep) n
