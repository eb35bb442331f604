-- What a reader owes at the start of a line, where the emitter has written breaks and no text yet.
use Rattle.std.proofs.Common.{◌≡◌, ℕ, ◌<◌, Bool, true, false, not, ◌&&◌, List, [], ◌∷◌, ◌++◌, length, refl, sym, ap, ◌∙◌, arith, append-nil, append_assoc, if◌then◌else◌, true≢false}
use Rattle.yaml_emit_laws.proofs.ScalarWords.{is_feed, chomp_at, BlockLine, Words, texts_of, starts_blank, between, behind_text, value_with, stacked_with, space_or_some, Chomping, is_break, behind_breaks, chomp_of, cond_true, cond_false}
use Rattle.yaml_emit_layout.specs.declared.page.Chomp.TheVariants as chomping
use Rattle.yaml_emit_layout.specs.Style.{is_blank}

-- what the header says of the last breaks, by its byte, 0 where none is written
abbrev pub read_chomp : Chomping → ℕ
read_chomp chomping.Strip = 45
read_chomp chomping.Clip = 0
read_chomp chomping.Keep = 43

-- A text is before, whose line begins with a blank and ended in `feed`, or none; `empties` are the breaks since. One break more
-- was written, or none. `broken`: another break is before the last one.
pub record Waits (folded any blank more : Bool) (feed empties : List ℕ) (broken : Bool) (value : List ℕ) : Type 0 where
  pub first : any ≡ false → (feed ≡ []) × (broken ≡ true) × (more ≡ false)
  pub folds : more ≡ true
      → (folded ≡ true) × (blank ≡ false) × (is_feed feed ≡ true) × (0 < length empties)
      × (is_blank (behind_breaks value) ≡ false)
  pub stays : more ≡ false → any ≡ true
      → (folded && ((not blank && not (is_blank (behind_breaks value))) && is_feed feed)) ≡ false
  pub alone : broken ≡ false → more ≡ false → empties ≡ []

-- what the breaks come to
abbrev pub owed : Bool → List ℕ → List ℕ → List ℕ
owed more feed empties = if more then empties else feed ++ empties

abbrev pub stacked_so : Bool → Bool → Bool → List ℕ → List ℕ → ℕ → List BlockLine → List ℕ
stacked_so folded any blank feed empties k ls = stacked_with folded [] any blank feed empties (chomp_at k) (texts_of ls)

-- ---- the end

end_stays : (folded any blank : Bool) (feed empties : List ℕ) (broken : Bool)
    → Waits folded any blank false feed empties broken []
    → stacked_so folded any blank feed empties (read_chomp (chomp_of broken true)) [] ≡ feed
    ++ empties
unfolding stacked_with chomp_at
end_stays folded false blank feed empties broken w =
    let (none, e, n) = w.first refl in
    ap (λ (b : Bool). value_with folded (chomp_at (read_chomp (chomp_of b true))) (empties ++ []) []) e ∙ append-nil empties ∙ ap (λ (f : List ℕ). f ++ empties) (sym none)
end_stays folded true blank feed empties true w = ap (λ (t : List ℕ). feed ++ t) (append-nil empties)
end_stays folded true blank feed empties false w = sym (append-nil feed) ∙ ap (λ (t : List ℕ). feed ++ t) (sym (w.alone refl refl))

no_end : (folded any blank : Bool) (feed empties : List ℕ) (broken : Bool)
    → Waits folded any blank true feed empties broken [] → ⊥
unfolding behind_breaks
no_end folded any blank feed empties broken w = let (a, b, c, d, e) = w.folds refl in true≢false e

pub waits_end : (folded any blank more : Bool) (feed empties : List ℕ) (broken : Bool)
    → Waits folded any blank more feed empties broken []
    → stacked_so folded any blank feed empties (read_chomp (chomp_of broken true)) []
    ≡ owed more feed empties
waits_end folded any blank false feed empties broken w = end_stays folded any blank feed empties broken w
waits_end folded any blank true feed empties broken w = absurd (no_end folded any blank feed empties broken w)

-- ---- a text

-- what is read where a text comes
abbrev from_text : Bool → Bool → Bool → Bool → List ℕ → List ℕ → List ℕ → List ℕ → List ℕ
from_text folded any blank after feed empties words behind = if any then between folded (not blank && not after) feed (empties ++ []) ++ (words ++ behind) else (empties ++ []) ++ (words ++ behind)

text_is : (folded any blank : Bool) (feed empties : List ℕ) (k : ℕ) (words next : List ℕ)
    (ls : List BlockLine) (after : Bool) → starts_blank words ≡ after
    → stacked_so folded any blank feed empties k (Words words next ∷ ls)
    ≡ from_text folded any blank after feed empties words
    (behind_text folded (chomp_at k) after next (texts_of ls).lead (texts_of ls).lines)
unfolding stacked_with
text_is folded true blank feed empties k words next ls after e =
    ap (λ (b : Bool). between folded (not blank && not b) feed (empties ++ []) ++ (words ++ behind_text folded (chomp_at k) b next (texts_of ls).lead (texts_of ls).lines)) e
text_is folded false blank feed empties k words next ls after e =
    ap (λ (b : Bool). (empties ++ []) ++ (words ++ behind_text folded (chomp_at k) b next (texts_of ls).lead (texts_of ls).lines)) e

text_owed : (folded any blank more after : Bool) (feed empties words behind : List ℕ)
    (broken : Bool) (value : List ℕ) → Waits folded any blank more feed empties broken value
    → is_blank (behind_breaks value) ≡ after
    → from_text folded any blank after feed empties words behind ≡ owed more feed empties
    ++ (words ++ behind)
unfolding between
text_owed folded any blank more after feed empties words behind broken value w e = grind (arith, append-nil, cond_false, space_or_some)

pub waits_text : (folded any blank more : Bool) (feed empties : List ℕ) (broken : Bool) (x : ℕ)
    (xs : List ℕ) (k : ℕ) (words next : List ℕ) (ls : List BlockLine)
    → Waits folded any blank more feed empties broken (x ∷ xs) → is_break x ≡ false
    → starts_blank words ≡ is_blank x
    → stacked_so folded any blank feed empties k (Words words next ∷ ls)
    ≡ owed more feed empties ++ (words
    ++ behind_text folded (chomp_at k) (is_blank x) next (texts_of ls).lead (texts_of ls).lines)
unfolding behind_breaks
waits_text folded any blank more feed empties broken x xs k words next ls w e s =
    text_is folded any blank feed empties k words next ls (is_blank x) s
    ∙ text_owed folded any blank more (is_blank x) feed empties words (behind_text folded (chomp_at k) (is_blank x) next (texts_of ls).lead (texts_of ls).lines) broken (x ∷ xs) w
    (ap (λ (y : ℕ). is_blank y) (cond_false (is_break x) _ _ e))

-- ---- another break

longer : (xs ys : List ℕ) → 0 < length xs → 0 < length (xs ++ ys)
longer [] ys h = absurd (omega (arith, h))
longer (x ∷ xs) ys h = omega arith

pub waits_break : (folded any blank more : Bool) (feed empties e : List ℕ) (broken : Bool) (x : ℕ)
    (xs : List ℕ) → is_break x ≡ true → Waits folded any blank more feed empties broken (x ∷ xs)
    → Waits folded any blank more feed (empties ++ e) true xs
unfolding behind_breaks
waits_break folded any blank more feed empties e broken x xs h w = grind (arith, cond_true, longer)

owed_break : (more : Bool) (feed empties e : List ℕ)
    → owed more feed (empties ++ e) ≡ owed more feed empties ++ e
owed_break true feed empties e = refl
owed_break false feed empties e = sym (append_assoc feed empties e)

pub break_owed : (more : Bool) (feed empties e rest : List ℕ)
    → owed more feed (empties ++ e) ++ rest ≡ owed more feed empties ++ (e ++ rest)
break_owed more feed empties e rest = ap (λ (t : List ℕ). t ++ rest) (owed_break more feed empties e) ∙ append_assoc (owed more feed empties) e rest
