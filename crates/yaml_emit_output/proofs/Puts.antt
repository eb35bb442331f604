-- What a draft puts, by the bytes that were placed.
use Rattle.std.proofs.Common.{◌≡◌, ℕ, ◌+◌, ◌<◌, ◌≤◌, List, [], ◌∷◌, ◌++◌, length, Bool, true, false, refl, sym, subst, ◌∙◌, ap, append_assoc, arith, length-append, encode_utf8, IsUtf8}
use lib.Utf8.{encode as encoded}
use Rattle.std.specs.Prelude.{zero, suc, replicate, ◌==◌, ◌&&◌, ◌||◌, not}
use Rattle.std.specs.Str.{IsAscii}
use Rattle.std.proofs.lemmas.List.{length-replicate, append-nil}
use Rattle.std.proofs.lemmas.Str.{IsAscii-append, IsUtf8-from_ascii, IsUtf8-encode, len_utf8_bounds, length-encode}
use Rattle.std.proofs.lemmas.Str.Ascii.{IsAscii-nil}
use Rattle.yaml_emit_layout.specs.LineStarts.{mark_word}
use Rattle.yaml_emit_layout.specs.declared.cursor.Cursor.{Cursor}
use Rattle.yaml_emit_layout.specs.declared.settings.LineBreak.TheVariants.{Lf, Cr, CrLf}
use Rattle.yaml_emit_layout.specs.declared.settings.LineBreak.{LineBreak}
use Rattle.yaml_emit_layout.specs.Text.{letter}
use Rattle.yaml_emit_layout.specs.Layout.{opener, new_line, break, Layout, ◌▹◌, stay, when, char, letters, gap, line, must_break, after_text}
use Rattle.yaml_emit_layout.specs.Appends.{lettered}
use Rattle.yaml_scan_runs.specs.Placed.{due_byte}
use Rattle.yaml_emit_output.specs.Placed.{break_bytes, broken_bytes, due_blanks, mark_bytes, sign_bytes}
use Rattle.yaml_emit_output.specs.Draft.{line_mark}
use Rattle.yaml_emit_output.proofs.Goes.{Goes, at, home, goes_wide, goes_then, goes_to, goes_due, goes_broken, goes_joined, goes_mark, goes_gap, goes_text, goes_letters, behind_some, goes_stroke, goes_new_line, goes_none, goes_as, goes_char, lettered_if, is_none, none_is}

line_bytes : (k : LineBreak) (breaks comma : Bool) (n : ℕ) (c : Cursor)
    → breaks ≡ (comma || must_break n c)
    → Goes (line k n) (lettered_if comma c) (at n true true c.kept) (broken_bytes breaks k ++ replicate (due_blanks breaks n c.column) 32)
line_bytes k true true n c e = goes_broken k n (lettered 1 c) refl
line_bytes k false true n c e = absurd (cc)
line_bytes k true false n c e = goes_broken k n c (sym e)
line_bytes k false false n c e = goes_joined k n c (sym e)

-- a line that begins so
pub line_goes : (k : LineBreak) (comma breaks block : Bool) (n m : ℕ) (c : Cursor) → m < 0x80
    → breaks ≡ (comma || must_break n c)
    → Goes (when comma (char 44) ▹ (line k n ▹ line_mark m block)) c (at (n + length (mark_bytes m)) (m == 0) ((m == 0) || block) c.kept)
    (((due_byte comma 44 ++ broken_bytes breaks k) ++ replicate (due_blanks breaks n c.column) 32) ++ mark_bytes m)
line_goes k comma breaks block n m c h e =
    let blanks : List ℕ = replicate (due_blanks breaks n c.column) 32 in
    let front : List ℕ = due_byte comma 44 in
    let feed : List ℕ = broken_bytes breaks k in
    let whole = goes_then (when comma (char 44)) (line k n ▹ line_mark m block) c (lettered_if comma c) _ front ((feed ++ blanks) ++ mark_bytes m)
    (goes_due comma 44 c (omega arith))
    (goes_then (line k n) (line_mark m block) (lettered_if comma c) (at n true true c.kept) _ (feed ++ blanks) (mark_bytes m) (line_bytes k breaks comma n c e) (goes_mark m n block c.kept h)) in
    let same : front ++ ((feed ++ blanks) ++ mark_bytes m) ≡ ((front ++ feed) ++ blanks) ++ mark_bytes m =
    sym (append_assoc front (feed ++ blanks) (mark_bytes m)) ∙ ap (λ (t : List ℕ). t ++ mark_bytes m) (sym (append_assoc front feed blanks)) in
    let P : List ℕ → Type 0 = λ t. Goes (when comma (char 44) ▹ (line k n ▹ line_mark m block)) c (at (n + length (mark_bytes m)) (m == 0) ((m == 0) || block) c.kept) t in
    subst P same (goes_to _ _ _ _ _ (ap (λ z. at (n + length (mark_bytes m)) z (z || block) c.kept) (sym (none_is m))) whole)

-- the same, by the numbers that the code has
pub line_placed : (k : LineBreak) (comma breaks block : Bool) (n m count column : ℕ) (c : Cursor)
    → m < 0x80 → breaks ≡ (comma || must_break n c)
    → count ≡ due_blanks breaks n c.column → column ≡ n + length (mark_bytes m)
    → Goes (when comma (char 44) ▹ (line k n ▹ line_mark m block)) c (at column (m == 0) ((m == 0) || block) c.kept)
    (((due_byte comma 44 ++ broken_bytes breaks k) ++ replicate count 32) ++ mark_bytes m)
line_placed k comma breaks block n m count column c h e b l = rw (b, l) (line_goes k comma breaks block n m c h e)

-- marks are one byte at most
pub few_mark : (m : ℕ) → length (mark_bytes m) ≤ 1
few_mark zero = omega arith
few_mark (suc m) = omega arith

pub few_due : (b : Bool) (x : ℕ) → length (due_byte b x) ≤ 1
few_due true x = omega arith
few_due false x = omega arith

pub few_broken : (b : Bool) (k : LineBreak) → length (broken_bytes b k) ≤ 2
few_broken true Lf = omega arith
few_broken true Cr = omega arith
few_broken true CrLf = omega arith
few_broken false k = omega arith

pub few_blanks : (b : Bool) (n k : ℕ) → due_blanks b n k ≤ n
few_blanks true n k = omega arith
few_blanks false n k = omega arith

pub line_length : (k : LineBreak) (comma breaks : Bool) (n m count column : ℕ)
    → count ≡ due_blanks breaks n column
    → length (((due_byte comma 44 ++ broken_bytes breaks k) ++ replicate count 32) ++ mark_bytes m) ≤ n + 4
line_length k comma breaks n m count column b =
    let blanks : List ℕ = replicate count 32 in
    let front = due_byte comma 44 in
    let feed = broken_bytes breaks k in
    let a = length-append ((front ++ feed) ++ blanks) (mark_bytes m) in
    let d = length-append (front ++ feed) blanks in
    let e = length-append front feed in
    let r : length (replicate {A = ℕ} count 32) ≡ count = length-replicate count 32 in
    omega (arith, a, d, e, r, few_due comma 44, few_broken breaks k, few_mark m, few_blanks breaks n column, b)

IsAscii-one : (x : ℕ) → x < 0x80 → IsAscii (x ∷ [])
IsAscii-one x h zero = h
IsAscii-one x h (suc i) = omega arith

ascii_mark : (m : ℕ) → m < 0x80 → IsAscii (mark_bytes m)
ascii_mark zero h = IsAscii-nil
ascii_mark (suc m) h = IsAscii-one (suc m) h

ascii_sign : (b : Bool) → IsAscii (sign_bytes b)
ascii_sign true = IsAscii-append (33 ∷ []) (32 ∷ []) (IsAscii-one 33 (omega arith)) (IsAscii-one 32 (omega arith))
ascii_sign false = IsAscii-nil

few_sign : (b : Bool) → length (sign_bytes b) ≤ 2
few_sign true = omega arith
few_sign false = omega arith

-- a word, with what is around it
pub word_placed : (marked : Bool) (first last column : ℕ) (text : List ℕ) (c : Cursor)
    → first < 0x80 → last < 0x80 → IsAscii text
    → column ≡ c.column + length ((((due_byte (not c.white) 32 ++ sign_bytes marked) ++ mark_bytes first) ++ text) ++ mark_bytes last)
    → Goes (gap ▹ (letters (((sign_bytes marked ++ mark_bytes first) ++ text) ++ mark_bytes last) ▹ after_text)) c (at column false false c.kept)
    ((((due_byte (not c.white) 32 ++ sign_bytes marked) ++ mark_bytes first) ++ text) ++ mark_bytes last)
word_placed marked first last column text c f l a e =
    let s = sign_bytes marked in
    let m = mark_bytes first in
    let n = mark_bytes last in
    let d : List ℕ = due_byte (not c.white) 32 in
    let whole : List ℕ = ((s ++ m) ++ text) ++ n in
    let ascii : IsAscii whole = IsAscii-append ((s ++ m) ++ text) n (IsAscii-append (s ++ m) text (IsAscii-append s m (ascii_sign marked) (ascii_mark first f)) a) (ascii_mark last l) in
    let same : d ++ (whole ++ []) ≡ (((d ++ s) ++ m) ++ text) ++ n =
    ap (λ (t : List ℕ). d ++ t) (append-nil whole) ∙ sym (append_assoc d ((s ++ m) ++ text) n)
    ∙ ap (λ (t : List ℕ). t ++ n) (sym (append_assoc d (s ++ m) text)) ∙ ap (λ (t : List ℕ). (t ++ text) ++ n) (sym (append_assoc d s m)) in
    let there : c.column + length d + length whole ≡ column = omega (arith, e, ap length same, length-append d (whole ++ []), ap length (append-nil whole)) in
    let y : Layout = gap ▹ (letters whole ▹ after_text) in
    let P : List ℕ → Type 0 = λ t. Goes y c (at column false false c.kept) t in
    subst P same (goes_to y c _ _ _ (ap (λ z. at z false false c.kept) there)
    (goes_then gap (letters whole ▹ after_text) c (at (c.column + length d) true c.bare c.kept) _ d (whole ++ []) (goes_gap c) (goes_text whole (at (c.column + length d) true c.bare c.kept) ascii)))

pub word_length : (white marked : Bool) (first last : ℕ) (text : List ℕ)
    → length ((((due_byte white 32 ++ sign_bytes marked) ++ mark_bytes first) ++ text) ++ mark_bytes last) ≤ length text + 5
word_length white marked first last text =
    let s = sign_bytes marked in
    let m = mark_bytes first in
    let n = mark_bytes last in
    let d : List ℕ = due_byte white 32 in
    omega (arith, length-append (((d ++ s) ++ m) ++ text) n, length-append ((d ++ s) ++ m) text, length-append (d ++ s) m, length-append d s, few_due white 32, few_sign marked, few_mark first, few_mark last)

-- a comma, and a mark in the same line
mark_goes : (m : ℕ) (column : ℕ) (white bare kept : Bool) → m < 0x80
    → Goes (mark_word m) (at column white bare kept) (at (column + length (due_byte (not (is_none m || white)) 32 ++ mark_bytes m)) (is_none m && white) (is_none m && bare) kept)
    (due_byte (not (is_none m || white)) 32 ++ mark_bytes m)
unfolding is_none letters
mark_goes zero column white bare kept h = let e : column ≡ column + 0 = omega arith in goes_to stay _ _ _ _ (ap (λ z. at z white bare kept) e) (goes_none (at column white bare kept))
mark_goes (suc m) column true bare kept h = goes_as (mark_word (suc m)) (char (suc m)) (at column true bare kept) (at (column + 1) false false kept) (suc m ∷ []) (λ rest. refl) (goes_char (suc m) (at column true bare kept) h)
mark_goes (suc m) column false bare kept h =
    let e : column + 1 + 1 ≡ column + 2 = omega arith in
    goes_to (mark_word (suc m)) _ _ _ _ (ap (λ z. at z false false kept) e)
    (goes_then gap (char (suc m)) (at column false bare kept) (at (column + 1) true bare kept) (at (column + 1 + 1) false false kept) (32 ∷ []) (suc m ∷ []) (goes_gap (at column false bare kept)) (goes_char (suc m) (at (column + 1) true bare kept) h))

inline_goes : (comma : Bool) (m k : ℕ) (white bare kept : Bool) → m < 0x80
    → Goes (when comma (char 44) ▹ mark_word m) (at k white bare kept)
    (at (k + length (due_byte comma 44 ++ (due_byte (not (is_none m || (not comma && white))) 32 ++ mark_bytes m))) (is_none m && (not comma && white)) (is_none m && (not comma && bare)) kept)
    (due_byte comma 44 ++ (due_byte (not (is_none m || (not comma && white))) 32 ++ mark_bytes m))
inline_goes true m k white bare kept h =
    let more : List ℕ = due_byte (not (is_none m || false)) 32 ++ mark_bytes m in
    let e : k + 1 + length more ≡ k + length (44 ∷ more) = omega arith in
    goes_to (char 44 ▹ mark_word m) _ _ _ _ (ap (λ z. at z (is_none m && false) (is_none m && false) kept) e)
    (goes_then (char 44) (mark_word m) (at k white bare kept) (at (k + 1) false false kept) _ (44 ∷ []) more (goes_char 44 (at k white bare kept) (omega arith)) (mark_goes m (k + 1) false false kept h))
inline_goes false m k white bare kept h = mark_goes m k white bare kept h

pub inline_placed : (comma : Bool) (m column : ℕ) (c : Cursor) → m < 0x80
    → column ≡ c.column + length ((due_byte comma 44 ++ due_byte (not ((m == 0) || (not comma && c.white))) 32) ++ mark_bytes m)
    → Goes (when comma (char 44) ▹ mark_word m) c (at column ((m == 0) && (not comma && c.white)) ((m == 0) && (not comma && c.bare)) c.kept)
    ((due_byte comma 44 ++ due_byte (not ((m == 0) || (not comma && c.white))) 32) ++ mark_bytes m)
inline_placed comma m column c h e = rw (e, none_is m, append_assoc) (inline_goes comma m c.column c.white c.bare c.kept h)

pub inline_length : (comma space : Bool) (m : ℕ)
    → length ((due_byte comma 44 ++ due_byte space 32) ++ mark_bytes m) ≤ 3
inline_length comma space m =
    let a : List ℕ = due_byte comma 44 in
    let b : List ℕ = due_byte space 32 in
    omega (arith, length-append (a ++ b) (mark_bytes m), length-append a b, few_due comma 44, few_due space 32, few_mark m)

pub opener_placed : (x column : ℕ) (c : Cursor) → x < 0x80
    → column ≡ c.column + length (due_byte (not c.white) 32 ++ x ∷ [])
    → Goes (opener x) c (at column true false c.kept) (due_byte (not c.white) 32 ++ x ∷ [])
opener_placed x column c h e =
    let d : List ℕ = due_byte (not c.white) 32 in
    let there : c.column + length d + 1 ≡ column = omega (arith, e, length-append d (x ∷ [])) in
    goes_to (opener x) _ _ _ _ (ap (λ z. at z true false c.kept) there)
    (goes_then gap (λ k rest. letter x ∷ rest (at (k.column + 1) true false k.kept)) c (at (c.column + length d) true c.bare c.kept) _ d (x ∷ []) (goes_gap c)
    (goes_stroke x (λ k. at (k.column + 1) true false k.kept) (at (c.column + length d) true c.bare c.kept) h))

pub opener_length : (white : Bool) (x : ℕ) → length (due_byte white 32 ++ x ∷ []) ≤ 2
opener_length white x = omega (arith, length-append (due_byte white 32) (x ∷ []), few_due white 32)

pub letters_placed : (column : ℕ) (text : List ℕ) (c : Cursor) → 0 < length text → IsAscii text
    → column ≡ c.column + length text
    → Goes (letters text) c (at column false false c.kept) text
letters_placed column [] c p a e = absurd (omega (arith, p))
letters_placed column (x ∷ xs) c p a e = rw e (goes_to (letters (x ∷ xs)) c _ _ _ (behind_some x xs c) (goes_letters (x ∷ xs) c a))

pub few_break : (k : LineBreak) → length (break_bytes k) ≤ 2
few_break Lf = omega arith
few_break Cr = omega arith
few_break CrLf = omega arith

pub break_placed : (k : LineBreak) (column : ℕ) (c : Cursor) → column ≡ 0
    → Goes (new_line k) c (at column true true c.kept) (break_bytes k)
break_placed k column c e = rw e (goes_new_line k c)

pub char_placed : (x column : ℕ) (c : Cursor) → column ≡ c.column + 1
    → Goes (char x) c (at column false false c.kept) (encode_utf8 x)
char_placed x column c e = rw e (goes_wide x (lettered 1) c)

pub ending_placed : (x column : ℕ) (c : Cursor) → column ≡ 0
    → Goes (break x) c (at column true true c.kept) (encode_utf8 x)
ending_placed x column c e = rw e (goes_wide x home c)

pub few_bytes : (x : ℕ) → (1 ≤ length (encode_utf8 x)) × (length (encode_utf8 x) ≤ 4)
few_bytes x = let b = len_utf8_bounds x in let n = length-encode x in (omega (arith, b.0, n), omega (arith, b.1, n))

pub gap_placed : (column : ℕ) (c : Cursor) → column ≡ c.column + length (due_byte (not c.white) 32)
    → Goes gap c (at column true c.bare c.kept) (due_byte (not c.white) 32)
gap_placed column c e = rw e (goes_gap c)

-- what is placed is UTF-8

ascii_due : (b : Bool) (x : ℕ) → x < 0x80 → IsAscii (due_byte b x)
ascii_due true x h = IsAscii-one x h
ascii_due false x h = IsAscii-nil

ascii_break : (k : LineBreak) → IsAscii (break_bytes k)
ascii_break Lf = IsAscii-one 10 (omega arith)
ascii_break Cr = IsAscii-one 13 (omega arith)
ascii_break CrLf = IsAscii-append (13 ∷ []) (10 ∷ []) (IsAscii-one 13 (omega arith)) (IsAscii-one 10 (omega arith))

ascii_broken : (b : Bool) (k : LineBreak) → IsAscii (broken_bytes b k)
ascii_broken true k = ascii_break k
ascii_broken false k = IsAscii-nil

ascii_blanks : (n : ℕ) → IsAscii (replicate n 32)
ascii_blanks zero = IsAscii-nil
ascii_blanks (suc n) = IsAscii-append (32 ∷ []) (replicate n 32) (IsAscii-one 32 (omega arith)) (ascii_blanks n)

pub utf8_line : (k : LineBreak) (comma breaks : Bool) (count m : ℕ) → m < 0x80
    → IsUtf8 (((due_byte comma 44 ++ broken_bytes breaks k) ++ replicate count 32) ++ mark_bytes m)
utf8_line k comma breaks count m h =
    let a : List ℕ = due_byte comma 44 in
    let b : List ℕ = broken_bytes breaks k in
    let c : List ℕ = replicate count 32 in
    IsUtf8-from_ascii (((a ++ b) ++ c) ++ mark_bytes m) (IsAscii-append ((a ++ b) ++ c) (mark_bytes m)
    (IsAscii-append (a ++ b) c (IsAscii-append a b (ascii_due comma 44 (omega arith)) (ascii_broken breaks k)) (ascii_blanks count)) (ascii_mark m h))

pub utf8_inline : (comma space : Bool) (m : ℕ) → m < 0x80
    → IsUtf8 ((due_byte comma 44 ++ due_byte space 32) ++ mark_bytes m)
utf8_inline comma space m h =
    let a : List ℕ = due_byte comma 44 in
    let b : List ℕ = due_byte space 32 in
    IsUtf8-from_ascii ((a ++ b) ++ mark_bytes m) (IsAscii-append (a ++ b) (mark_bytes m) (IsAscii-append a b (ascii_due comma 44 (omega arith)) (ascii_due space 32 (omega arith))) (ascii_mark m h))

pub utf8_word : (white marked : Bool) (first last : ℕ) (text : List ℕ) → first < 0x80 → last < 0x80
    → IsAscii text
    → IsUtf8 ((((due_byte white 32 ++ sign_bytes marked) ++ mark_bytes first) ++ text) ++ mark_bytes last)
utf8_word white marked first last text f l t =
    let d : List ℕ = due_byte white 32 in
    let s = sign_bytes marked in
    let m = mark_bytes first in
    let n = mark_bytes last in
    IsUtf8-from_ascii ((((d ++ s) ++ m) ++ text) ++ n) (IsAscii-append (((d ++ s) ++ m) ++ text) n
    (IsAscii-append ((d ++ s) ++ m) text (IsAscii-append (d ++ s) m (IsAscii-append d s (ascii_due white 32 (omega arith)) (ascii_sign marked)) (ascii_mark first f)) t) (ascii_mark last l))

pub utf8_opener : (white : Bool) (x : ℕ) → x < 0x80 → IsUtf8 (due_byte white 32 ++ x ∷ [])
utf8_opener white x h = let d : List ℕ = due_byte white 32 in IsUtf8-from_ascii (d ++ x ∷ []) (IsAscii-append d (x ∷ []) (ascii_due white 32 (omega arith)) (IsAscii-one x h))

pub utf8_gap : (white : Bool) → IsUtf8 (due_byte white 32)
utf8_gap white = let d : List ℕ = due_byte white 32 in IsUtf8-from_ascii d (ascii_due white 32 (omega arith))

pub utf8_break : (k : LineBreak) → IsUtf8 (break_bytes k)
utf8_break k = IsUtf8-from_ascii (break_bytes k) (ascii_break k)

-- the byte order mark takes no column
pub mark_placed : (column : ℕ) (c : Cursor) → column ≡ c.column
    → Goes (λ k rest. letter 0xFEFF ∷ rest k) c (at column c.white c.bare c.kept) (0xEF ∷ 0xBB ∷ 0xBF ∷ [])
unfolding encoded
mark_placed column c e = rw e (goes_wide 0xFEFF (λ k. k) c)

pub utf8_order_mark : IsUtf8 (0xEF ∷ 0xBB ∷ 0xBF ∷ [])
unfolding encoded
utf8_order_mark = IsUtf8-encode 0xFEFF refl
