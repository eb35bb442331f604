-- What an emitter finds in a value whose style it allows.
use Rattle.std.proofs.Common.{◌≡◌, ℕ, Bool, true, false, ◌&&◌, ◌==◌, List, [], ◌∷◌}
use Rattle.yaml_emit_laws.proofs.ScalarWords.{and_parts, not-true, or_parts, all_scalars, is_break, first, somewhere, is_special, is_break_space, allowed, shown_first}
use lib.Utf8.{scalar}
use Rattle.yaml_emit_laws.proofs.Letters.{AllShow}

pub all_show : (unicode : Bool) (before : ℕ) (xs : List ℕ)
    → somewhere (is_special unicode) before xs ≡ false → somewhere is_break_space before xs ≡ false
    → all_scalars xs ≡ true → AllShow xs
unfolding somewhere
all_show unicode before [] e b g = tt
all_show unicode before (x ∷ xs) e b g =
    let here = (or_parts (is_special unicode before x (first xs)) _ e).0 in (
      record {
        scalar = (and_parts (scalar x) (all_scalars xs) g).0;
        printable = shown_first unicode before x (first xs) here;
        space = (or_parts _ (x == 32 && is_break (first xs)) here).1;
        broken = (or_parts (is_break_space before x (first xs)) _ b).0;
      },
      all_show unicode x xs (or_parts (is_special unicode before x (first xs)) _ e).1 (or_parts (is_break_space before x (first xs)) _ b).1 (and_parts (scalar x) (all_scalars xs) g).1,
    )

pub single_show : (unicode : Bool) (xs : List ℕ) → (allowed unicode xs).single ≡ true
    → all_scalars xs ≡ true → AllShow xs
unfolding allowed
single_show unicode [] e g = tt
single_show unicode (x ∷ xs) e g =
    let a = not-true _ e in
    all_show unicode 32 (x ∷ xs) (or_parts _ (somewhere is_break_space 32 (x ∷ xs)) a).0 (or_parts (somewhere (is_special unicode) 32 (x ∷ xs)) _ a).1 g
