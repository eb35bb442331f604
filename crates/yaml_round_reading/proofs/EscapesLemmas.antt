-- Runs of bytes that are pushed as they are.
use Rattle.std.proofs.Common.{◌≡◌, ℕ, ◌-◌, ◌<◌, false, List, [], ◌∷◌, ◌++◌, take, drop, length, slice_index, refl, sym, ap, ◌∙◌, subst, arith, append_assoc, suc, length-drop}
use Rattle.std.proofs.lemmas.Bool.Decides.{nat_tests}
use Rattle.std.proofs.lemmas.List.{take-append-drop, take_all}
use Rattle.std.proofs.lemmas.Grind.{flat_map-append}
use Rattle.yaml_round_reading.specs.Escapes.{may_escape, IsPlainTo}
use Rattle.yaml_round_reading.specs.EventLine.{escaped_byte, escaped}

-- a byte that is none of these isn't escaped
plain_byte : (b : ℕ) → may_escape b ≡ false → escaped_byte b ≡ b ∷ []
unfolding may_escape escaped_byte
plain_byte b h = grind (arith, nat_tests)

-- nor is a run
plain_run : (end : ℕ) (text : List ℕ)
    → ((k : ℕ) → k < end → may_escape (slice_index text k) ≡ false)
    → escaped (take end text) ≡ take end text
plain_run Prim.Native.Nat.zero text h = refl
plain_run (suc end) [] h = refl
plain_run (suc end) (b ∷ bs) h =
    rw (plain_byte b (h 0 (omega arith)), plain_run end bs (λ k i. h (suc k) (omega (arith, i)))) refl

-- a run is pushed, and the rest is left
pub run_pushed : (end : ℕ) (line new text : List ℕ) → IsPlainTo text end → new ≡ line ++ take end text
    → new ++ escaped (take (length text - end) (drop end text)) ≡ line ++ escaped text
run_pushed end line new text h g =
    let size = length-drop end text in
    let front : escaped text ≡ take end text ++ escaped (drop end text) =
    ap escaped (sym (take-append-drop end text)) ∙ flat_map-append escaped_byte (take end text) (drop end text) ∙ ap (λ (xs : List ℕ). xs ++ escaped (drop end text)) (plain_run end text h.plain) in
    rw (g, front, take_all (length text - end) (drop end text) (omega (arith, size, h.within)))
    (append_assoc line (take end text) (escaped (drop end text)))

-- the byte after it is pushed
pub byte_pushed : (line mid new text left rest : List ℕ) (b : ℕ)
    → mid ++ escaped left ≡ line ++ escaped text → left ≡ b ∷ rest
    → new ≡ mid ++ escaped_byte b → new ++ escaped rest ≡ line ++ escaped text
byte_pushed line mid new text left rest b h is g =
    rw g (append_assoc mid (escaped_byte b) (escaped rest)) ∙ subst (λ (z : List ℕ). mid ++ escaped z ≡ line ++ escaped text) is h
