-- Texts in UTF-8 that are put as they are: each character takes a column.
use Rattle.std.proofs.Common.{◌≡◌, ℕ, suc, ◌+◌, ◌-◌, ◌*◌, ◌/◌, ◌%◌, ◌<◌, ◌≤◌, List, [], ◌∷◌, ◌++◌, length, Bool, true, false, cond, IsUtf8, refl, sym, subst, ◌∙◌, ap, arith, length-append}
use Rattle.std.specs.Prelude.{nat_lt, nat_le, ◌==◌, ◌&&◌}
use Rattle.std.specs.List.{count_by, slice_range}
use Rattle.std.specs.Str.{chars, IsAscii}
use Rattle.std.proofs.lemmas.Bool.{cond_both, eqb-true, ltb-true, ltb-false}
use Rattle.std.proofs.lemmas.Bool.Decides.{nat_tests}
use Rattle.std.proofs.lemmas.List.{take_rest, append-nil, nil_from_length}
use Rattle.std.proofs.lemmas.List.Sums.{sum_by-append}
use Rattle.std.proofs.lemmas.Str.{encodes-chars, chars-IsAscii, chars-nil, chars_past_char}
use lib.Utf8.{encode as encoded, encodes}
use Rattle.yaml_scan_runs.specs.Runs.{is_continuing}
use Rattle.yaml_emit_layout.specs.declared.cursor.Cursor.{Cursor}
use Rattle.yaml_emit_layout.specs.Appends.{lettered}
use Rattle.yaml_emit_layout.specs.Layout.{stay, char, letters}
use Rattle.yaml_emit_layout.proofs.Sinks.{owes_same}
use Rattle.yaml_emit_output.specs.Draft.{Page, Lays}
use Rattle.yaml_emit_output.proofs.Puts.{few_bytes}
use Rattle.yaml_emit_output.proofs.Goes.{Goes, at, behind, behind_some, goes_none, goes_then, goes_to, goes_wide}

low_leads : (b : ℕ) → b < 128 → is_continuing b ≡ false
low_leads b h = grind (arith, nat_tests, h)

high_leads : (b : ℕ) → 192 ≤ b → is_continuing b ≡ false
high_leads b h = grind (arith, nat_tests, h)

continues : (b : ℕ) → is_continuing (128 + b % 64) ≡ true
continues b = grind (arith, nat_tests)

-- of a character's bytes all but the first continue it
one_counted : (c : ℕ) → length (encoded c) ≡ 1 + count_by is_continuing (encoded c)
unfolding encoded
one_counted c =
    let P : List ℕ → Type 0 = λ bs. length bs ≡ 1 + count_by is_continuing bs in
    cond_both (nat_lt c 128) _ _ P (λ low. rw (low_leads c (ltb-true c 128 low)) refl)
    (λ _. cond_both (nat_lt c 2048) _ _ P (λ _. rw (high_leads (192 + c / 64) (omega arith), continues c) refl)
    (λ _. cond_both (nat_lt c 65536) _ _ P (λ _. rw (high_leads (224 + c / 4096) (omega arith), continues (c / 64), continues c) refl)
    (λ _. rw (high_leads (240 + c / 262144) (omega arith), continues (c / 4096), continues (c / 64), continues c) refl)))

-- of a text's bytes as many continue a character as it has more bytes than characters
counted : (cs : List ℕ) → length (encodes cs) ≡ length cs + count_by is_continuing (encodes cs)
counted [] = refl
counted (c ∷ cs) =
    let both = length-append (encoded c) (encodes cs) in
    let sums = sum_by-append (λ x. cond (is_continuing x) 1 0) (encoded c) (encodes cs) in
    omega (arith, both, sums, one_counted c, counted cs)

pub all_counted : (bs : List ℕ) (n : ℕ) → IsUtf8 bs
    → n ≡ count_by is_continuing (slice_range bs 0 (length bs))
    → length bs ≡ length (chars bs) + n
all_counted bs n u e =
    let whole = ap (count_by is_continuing) (take_rest bs 0) in
    let is = encodes-chars bs u in
    let P : List ℕ → Type 0 = λ t. length t ≡ length (chars bs) + count_by is_continuing t in
    let all = subst P is (counted (chars bs)) in
    omega (arith, e, whole, all)

pub none_counted : (bs : List ℕ) → IsAscii bs → length bs ≡ length (chars bs) + 0
none_counted bs a = let e = ap length (chars-IsAscii bs a) in omega (arith, e)

goes_parts : (cs : List ℕ) (c : Cursor) → Goes (letters cs) c (behind cs c) (encodes cs)
unfolding letters behind
goes_parts [] c = goes_none c
goes_parts (x ∷ xs) c = goes_then (char x) (letters xs) c (lettered 1 c) (behind xs (lettered 1 c)) (encoded x) (encodes xs) (goes_wide x (lettered 1) c) (goes_parts xs (lettered 1 c))

part_goes : (cs : List ℕ) (c : Cursor) → 0 < length cs
    → Goes (letters cs) c (at (c.column + length cs) false false c.kept) (encodes cs)
part_goes [] c h = absurd (omega (arith, h))
part_goes (x ∷ xs) c h = goes_to (letters (x ∷ xs)) c _ _ _ (behind_some x xs c) (goes_parts (x ∷ xs) c)

-- a text, by the number of its bytes that continue a character
pub part_placed : (column n : ℕ) (bs : List ℕ) (c : Cursor) → 0 < length bs → IsUtf8 bs
    → length bs ≡ length (chars bs) + n
    → n < length bs → column ≡ c.column + (length bs - n) → Goes (letters (chars bs)) c (at column false false c.kept) bs
part_placed column n bs c some u size less e =
    let there : c.column + length (chars bs) ≡ column = omega (arith, e, size) in
    let P : List ℕ → Type 0 = λ t. Goes (letters (chars bs)) c (at column false false c.kept) t in
    subst P (encodes-chars bs u) (goes_to (letters (chars bs)) c _ _ _ (ap (λ z. at z false false c.kept) there) (part_goes (chars bs) c (omega (arith, size, less))))

has_letters : (cs bs : List ℕ) (n : ℕ) → 0 < length bs → encodes cs ≡ bs
    → length bs ≡ length cs + n → n < length bs
has_letters [] bs n some e size = absurd (let none = ap length e in omega (arith, none, some))
has_letters (c ∷ cs) bs n some e size = omega (arith, size)

-- a text that isn't empty has a character
pub some_leads : (bs : List ℕ) (n : ℕ) → 0 < length bs → IsUtf8 bs
    → length bs ≡ length (chars bs) + n → n < length bs
some_leads bs n some u size = has_letters (chars bs) bs n some (encodes-chars bs u) size

-- the bytes of one character
pub one_letter : (x : ℕ) (bs : List ℕ) → IsUtf8 bs → bs ≡ encoded x → chars bs ≡ x ∷ []
one_letter x bs u e = chars_past_char bs [] x u (e ∙ sym (append-nil (encoded x))) ∙ ap (λ (t : List ℕ). x ∷ t) chars-nil

pub one_size : (x : ℕ) (bs : List ℕ) → IsUtf8 bs → bs ≡ encoded x
    → length bs ≡ length (chars bs) + (length bs - 1)
one_size x bs u e =
    let few = (few_bytes x).0 in
    let size = ap length e in
    let one = ap length (one_letter x bs u e) in
    omega (arith, few, size, one)

-- of no text nothing is put
pub lays_none : (a : Page) (bs : List ℕ) → (length bs == 0) ≡ true
    → Lays a a (letters (chars bs)) stay
unfolding letters
lays_none a bs h =
    let e : chars bs ≡ [] = ap chars (nil_from_length bs (eqb-true (length bs) 0 h)) ∙ chars-nil in
    let P : List ℕ → Type 0 = λ t. Lays a a (letters t) stay in
    subst P (sym e) (record { owes = owes_same a.output stay; line_break = refl; width = refl })
