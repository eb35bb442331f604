-- A text is its front and its end, which may have bytes in common.
use Rattle.std.proofs.Common.{◌≡◌, ℕ, ◌+◌, ◌-◌, ◌≤◌, List, ◌++◌, take, drop, length, refl, sym, ap, ◌∙◌, arith}
use Rattle.std.proofs.lemmas.List.{take_at, take-take, take-append-drop, take-append-le, length-take-le, append_assoc}
use borrow.Rule.Slice.PartMut.{put_mid, post_of}

-- A front and an end of that many bytes each, the end put last, are the text.
pub ends_are : (text old front end : List ℕ) (size k : ℕ) → size ≤ length text
    → length text ≤ size + size → front ≡ take size text → end ≡ drop (length text - size) text
    → take (length text) (put_mid (length text - size) k (front ++ drop size old) end) ≡ text
ends_are text old front end size k least most is_front is_end =
    let m : ℕ = length text - size in
    let xs : List ℕ = front ++ drop size old in
    let long : m ≤ length front = omega (arith, ap length is_front, length-take-le size text least) in
    let before : take m xs ≡ take m text =
    take-append-le m front (drop size old) long ∙ ap (take m) is_front ∙ take-take m size text (omega arith) in
    let whole : take m xs ++ end ≡ text =
    ap (λ (z : List ℕ). z ++ end) before ∙ ap (λ (z : List ℕ). take m text ++ z) is_end ∙ take-append-drop m text in
    ap (take (length text)) (sym (append_assoc (take m xs) end (post_of m k xs)))
    ∙ ap (λ (z : List ℕ). take (length text) (z ++ post_of m k xs)) whole
    ∙ take_at text (post_of m k xs) (length text) refl
