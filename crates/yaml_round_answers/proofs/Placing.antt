-- A text that was put stays where it is, whatever follows.
use Rattle.std.proofs.Common.{◌≡◌, ◌∙◌, ◌+◌, ap, sym, subst, refl, ℕ, List, [], ◌++◌, length, true, Some, append_assoc, arith}
use Rattle.std.specs.Prelude.{slice_range, nat_le}
use Rattle.std.proofs.lemmas.Grind.{common_steps}
use Rattle.std.proofs.lemmas.List.{append-nil}
use Rattle.yaml_round_answers.specs.declared.record.yaml_c_span.{yaml_c_span}
use Rattle.yaml_round_answers.specs.Records.{part_at}
use Rattle.yaml_round_answers.specs.Listing.{Grows, PutsText, HoldsText}

-- a text after another
pub put_on : (old mid new a b : List ℕ) → mid ≡ old ++ a → new ≡ mid ++ b → new ≡ old ++ (a ++ b)
put_on old mid new a b p q = q ∙ ap (λ z. z ++ b) p ∙ append_assoc old a b

-- likewise for texts that are known by other names
pub put_two : (old mid new a b c d : List ℕ) → mid ≡ old ++ a → new ≡ mid ++ b → a ≡ c → b ≡ d
    → new ≡ old ++ (c ++ d)
put_two old mid new a b c d p q e f = put_on old mid new a b p q ∙ ap (λ z. old ++ (z ++ b)) e ∙ ap (λ z. old ++ (c ++ z)) f

pub grows_itself : {X : Type 0} → (xs : List X) → Grows xs xs
grows_itself xs = record { more = []; is = sym (append-nil xs) }

pub grows_on : {X : Type 0} → (xs ys zs : List X) → Grows xs ys → Grows ys zs → Grows xs zs
grows_on xs ys zs g h = record { more = g.more ++ h.more; is = h.is ∙ ap (λ z. z ++ h.more) g.is ∙ append_assoc xs g.more h.more }

middle : {X : Type 0} (old text more : List X)
    → slice_range ((old ++ text) ++ more) (length old) (length old + length text) ≡ text
middle old text more = grind (arith, common_steps)

long : {X : Type 0} (old text more : List X)
    → nat_le (length old + length text) (length ((old ++ text) ++ more)) ≡ true
long old text more = grind (arith, common_steps)

-- a part that is after the first one
pub part_stands : {X : Type 0} (old text more : List X) (s : yaml_c_span) → s.at ≡ length old
    → s.len ≡ length text
    → part_at ((old ++ text) ++ more) s ≡ Some text
unfolding part_at
part_stands old text more s at len = rw (at, len, long old text more, middle old text more) refl

pub puts_holds : (old text new : List ℕ) (s : yaml_c_span) → PutsText old text new s
    → HoldsText new s text
puts_holds old text new s p more = rw p.bytes (part_stands old text more s (ap (λ z. z.at) p.span) (ap (λ z. z.len) p.span))

pub puts_grows : (old text new : List ℕ) (s : yaml_c_span) → PutsText old text new s → Grows old new
puts_grows old text new s p = record { more = text; is = p.bytes }

pub regrouped : {X : Type 0} (old new more : List X) → (g : Grows old new)
    → new ++ more ≡ old ++ (g.more ++ more)
regrouped old new more g = ap (λ z. z ++ more) g.is ∙ append_assoc old g.more more

pub holds_on : (old new : List ℕ) (s : yaml_c_span) (text : List ℕ) → Grows old new
    → HoldsText old s text → HoldsText new s text
holds_on old new s text g h more = subst (λ z. part_at z s ≡ Some text) (sym (regrouped old new more g)) (h (g.more ++ more))
