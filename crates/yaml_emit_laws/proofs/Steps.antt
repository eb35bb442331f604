-- Gaps, lines and words, one after another.
use Rattle.std.proofs.Common.{◌≡◌, ◌≢◌, ℕ, zero, suc, ◌+◌, ◌-◌, ◌==◌, ◌&&◌, ◌||◌, nat_lt, Bool, true, false, List, [], ◌∷◌, ◌++◌, length, Some, Ok, refl, ap, subst, ◌∙◌, arith, add-zero, if◌then◌else◌}
use Rattle.yaml_emit_laws.proofs.Shared.{nat_tests, and-false, byte, break_of, ends_of, Gap, is_document_start, is_document_end, are_gap, begins_lexeme, GapReads, Kind, depth_after, is_end, reached, flow_depth, key_allowed, WordText, indicator_of, kind_at, lexeme_at, Word, lexemes, WordsStand, word_kinds, TokenBody, Cursor, LineBreak, Lf, Cr, CrLf, Item, letter, encode, char_bytes, Layout, Rest, ◌▹◌, gap, line, blanks, new_line, indent_to, must_break, checked, deep_if, MOST, Left, Starts, WordStage, bytes, GoesBehindWords, Walks, column_end}
use Rattle.yaml_scan_laws.specs.KeysLaws.{gap_in, end_in}
use Rattle.yaml_emit_laws.proofs.Places.{has_at, left_first, left_more}
use Rattle.yaml_scan_laws.proofs.NamesWords.{has_both}

-- ---- a byte of a gap

gap_more : (xs : List ℕ) (b : ℕ) → are_gap xs ≡ true → (b == 32 || (b == 10 || b == 13)) ≡ true
    → are_gap (xs ++ b ∷ []) ≡ true
gap_more [] b e f = rw f refl
gap_more (x ∷ xs) b e f =
    let front = and_left (x == 32 || (x == 10 || x == 13)) (are_gap xs) e in
    rw front (gap_more xs b (and_right (x == 32 || (x == 10 || x == 13)) (are_gap xs) e) f)
  where
    and_left : (a b : Bool) → (a && b) ≡ true → a ≡ true
    and_left true b e = refl
    and_left false b e = absurd (cc)

    and_right : (a b : Bool) → (a && b) ≡ true → b ≡ true
    and_right true b e = e
    and_right false b e = absurd (cc)

-- A byte more is one more.
pub length_more : (xs : List ℕ) (b : ℕ) → length (xs ++ b ∷ []) ≡ length xs + 1
length_more [] b = refl
length_more (x ∷ xs) b = let e = length_more xs b in omega arith

pub gap_byte : (text : List ℕ) (c e : Cursor) (p b : ℕ) (ws : List Word) (d : ℕ)
    → (b == 32 || (b == 10 || b == 13)) ≡ true → byte text p ≡ b
    → (e.column ≡ 0 → Starts text (p + 1)) → e.kept ≡ c.kept → WordStage text c p ws d
    → WordStage text e (p + 1) ws d
gap_byte text c e p b ws d k h column same s =
    let r = (reached (lexemes text ws)).index in
    let from = s.from in
    let here : byte text (r + length s.gap) ≡ b = ap (λ q. byte text q) from ∙ h in
    record {
      stand = s.stand;
      gap = s.gap ++ b ∷ [];
      from = let l = length_more s.gap b in omega arith;
      stands = has_both text r s.gap (b ∷ []) s.stands (here, tt);
      blank = gap_more s.gap b s.blank k;
      deep = s.deep;
      column = column;
      plain = same ∙ s.plain;
    }

-- A letter of ASCII is one byte.
pub letter_low : (x : ℕ) (t : List Item) → nat_lt x 128 ≡ true → bytes (letter x ∷ t) ≡ x ∷ bytes t
unfolding encode char_bytes
letter_low x t e = rw e refl

-- A letter of ASCII that is left is its byte, and the rest.
pub left_letter : (text : List ℕ) (p x : ℕ) (t : List Item) → nat_lt x 128 ≡ true
    → Left text p (bytes (letter x ∷ t)) → Left text p (x ∷ bytes t)
left_letter text p x t e l = subst (λ (bs : List ℕ). Left text p bs) (letter_low x t e) l

-- a place: words up to it, what is left of the text, and where the layout is
pub record Here (text : List ℕ) (rest : Rest) (ws : List Word) (d : ℕ) : Type 0 where
  pub cursor : Cursor
  pub place : ℕ
  pub stage : WordStage text cursor place ws d
  pub left : Left text place (bytes (rest cursor))

-- A place after another one is not the start.
pub not_start : (n : ℕ) → n + 1 ≡ 0 → ⊥
not_start n e = omega arith

-- ---- layouts of gaps

-- a space, where one is due
pub gap_here : (text : List ℕ) (c : Cursor) (p : ℕ) (ws : List Word) (d : ℕ) (rest : Rest)
    → WordStage text c p ws d → Left text p (bytes (gap c rest)) → Here text rest ws d
gap_here text c p ws d rest s l = grind (arith, nat_tests, left_letter, gap_byte, left_first, not_start, left_more)

-- spaces
pub blanks_here : (n : ℕ) (text : List ℕ) (c : Cursor) (p : ℕ) (ws : List Word) (d : ℕ)
    (rest : Rest) → WordStage text c p ws d → Left text p (bytes (blanks n c rest))
    → Here text rest ws d
unfolding blanks
blanks_here zero text c p ws d rest s l = record { cursor = c; place = p; stage = s; left = l }
blanks_here (suc n) text c p ws d rest s l =
    let m = left_letter text p 32 _ refl l in
    let t = gap_byte text c (record { column = c.column + 1; white = true; bare = c.bare; kept = c.kept }) p 32 ws d refl (left_first text p 32 _ m) (λ z. absurd (not_start c.column z)) refl s in
    blanks_here n text _ (p + 1) ws d rest t (left_more text p 32 _ m)

return_ends : (x y c : ℕ) → c ≢ 10 → ends_of x y 13 c ≡ true
unfolding ends_of
return_ends x y c h = let e : (c == 10) ≡ false = grind (arith, nat_tests) in rw e refl

-- A line starts after a line feed.
pub behind_feed : (text : List ℕ) (p : ℕ) → byte text p ≡ 10 → Starts text (p + 1)
unfolding ends_of
behind_feed text p h n = column_end text p (rw h refl)

-- A line starts after a carriage return.
pub behind_return : (text : List ℕ) (p : ℕ) → byte text p ≡ 13 → Starts text (p + 1)
behind_return text p h n = column_end text p (rw h (return_ends _ _ (byte text (p + 1)) n))

-- the break that is set
pub new_line_here : (b : LineBreak) (text : List ℕ) (c : Cursor) (p : ℕ) (ws : List Word) (d : ℕ)
    (rest : Rest) → WordStage text c p ws d → Left text p (bytes (new_line b c rest))
    → Here text rest ws d
new_line_here Lf text c p ws d rest s l =
    let m = left_letter text p 10 _ refl l in
    let h = left_first text p 10 _ m in
    record {
      cursor = record { column = 0; white = true; bare = true; kept = c.kept };
      place = p + 1;
      stage = gap_byte text c _ p 10 ws d refl h (λ z. behind_feed text p h) refl s;
      left = left_more text p 10 _ m;
    }
new_line_here Cr text c p ws d rest s l =
    let m = left_letter text p 13 _ refl l in
    let h = left_first text p 13 _ m in
    record {
      cursor = record { column = 0; white = true; bare = true; kept = c.kept };
      place = p + 1;
      stage = gap_byte text c _ p 13 ws d refl h (λ z. behind_return text p h) refl s;
      left = left_more text p 13 _ m;
    }
new_line_here CrLf text c p ws d rest s l =
    let m = left_letter text p 13 _ refl l in
    let t = gap_byte text c (record { column = c.column + 1; white = false; bare = false; kept = c.kept }) p 13 ws d refl (left_first text p 13 _ m) (λ z. absurd (not_start c.column z)) refl s in
    let k = left_letter text (p + 1) 10 _ refl (left_more text p 13 _ m) in
    let h = left_first text (p + 1) 10 _ k in
    record {
      cursor = record { column = 0; white = true; bare = true; kept = c.kept };
      place = p + 1 + 1;
      stage = gap_byte text _ _ (p + 1) 10 ws d refl h (λ z. behind_feed text (p + 1) h) refl t;
      left = left_more text (p + 1) 10 _ k;
    }

-- a line, where the last one is not bare
pub line_here : (b : LineBreak) (n : ℕ) (text : List ℕ) (c : Cursor) (p : ℕ) (ws : List Word)
    (d : ℕ) (rest : Rest) → c.bare ≡ false → WordStage text c p ws d
    → Left text p (bytes (line b n c rest)) → Here text rest ws d
unfolding line
line_here b n text c p ws d rest e s l =
    let must : must_break n c ≡ true = rw e refl in
    let k : Rest = λ k. indent_to n k rest in
    let h = new_line_here b text c p ws d k s (subst (λ (t : Bool). Left text p (bytes (if t then new_line b c k else k c))) must l) in
    blanks_here (n - h.cursor.column) text h.cursor h.place ws d rest h.stage h.left

-- what follows a gap walks from there
pub from_here : (a : Layout) (K : List Kind → List Kind) (B : List TokenBody → List TokenBody)
    (d e : ℕ) (rest : Rest) (text : List ℕ) (ws : List Word) → Here text (λ c. a c rest) ws d
    → ((c : Cursor) → Walks a K B d e c rest)
    → GoesBehindWords text rest e (K (word_kinds ws)) B ws
from_here a K B d e rest text ws h w = w h.cursor text h.place ws h.stage h.left

pub walks_gap : (a : Layout) (K : List Kind → List Kind) (B : List TokenBody → List TokenBody)
    (d e : ℕ) (c : Cursor) (rest : Rest) → ((c : Cursor) → Walks a K B d e c rest)
    → Walks (gap ▹ a) K B d e c rest
walks_gap a K B d e c rest w text p ws s l = from_here a K B d e rest text ws (gap_here text c p ws d (λ k. a k rest) s l) w

pub walks_line : (b : LineBreak) (n : ℕ) (a : Layout) (K : List Kind → List Kind)
    (B : List TokenBody → List TokenBody) (d e : ℕ) (c : Cursor) (rest : Rest) → c.bare ≡ false
    → ((c : Cursor) → Walks a K B d e c rest)
    → Walks (line b n ▹ a) K B d e c rest
walks_line b n a K B d e c rest bare w text p ws s l = from_here a K B d e rest text ws (line_here b n text c p ws d (λ k. a k rest) bare s l) w

-- The note that a line is too deep has no bytes.
pub deep_bytes : (b : Bool) (t : List Item) → bytes (deep_if b t) ≡ bytes t
unfolding encode
deep_bytes true t = refl
deep_bytes false t = refl

-- the mark of an indentation that is too deep takes no byte
pub walks_checked : (n : ℕ) (a : Layout) (K : List Kind → List Kind)
    (B : List TokenBody → List TokenBody) (d e : ℕ) (c : Cursor) (rest : Rest)
    → Walks a K B d e c rest → Walks (checked n ▹ a) K B d e c rest
walks_checked n a K B d e c rest w text p ws s l = w text p ws s (subst (λ (bs : List ℕ). Left text p bs) (deep_bytes (nat_lt MOST n) (a c rest)) l)

-- one after the other
pub both : (a b : Layout) (K L : List Kind → List Kind) (B C : List TokenBody → List TokenBody)
    (d e f : ℕ) (c : Cursor) (rest : Rest) → Walks a K B d e c (λ k. b k rest)
    → ((k : Cursor) → k.bare ≡ false → Walks b L C e f k rest)
    → Walks (a ▹ b) (λ ks. L (K ks)) (λ bs. B (C bs)) d f c rest
both a b K L B C d e f c rest w v text p ws s l =
    let g = w text p ws s l in
    let h = v g.behind g.bare text g.place g.words g.stage g.left in
    record {
      behind = h.behind;
      place = h.place;
      words = h.words;
      stage = h.stage;
      left = h.left;
      kinds = h.kinds ∙ ap (λ (ks : List Kind). L ks) g.kinds;
      bodies = λ bs. h.bodies bs ∙ g.bodies (C bs);
      bare = h.bare;
    }

-- ---- a word

abbrev pub word_of : Kind → ℕ → WordText → Word
word_of k p said = record { kind = k; place = p; said = said }

reached_index : (text : List ℕ) (k : Kind) (start end : ℕ) → is_end k ≡ false
    → (end_in text k start end).index ≡ end
reached_index text k start end e = rw e refl

-- a word after which a line may start
pub push_to : GapReads
    → (text : List ℕ) (c e : Cursor) (p : ℕ) (ws : List Word) (d : ℕ) (k : Kind) (said : WordText)
    → WordStage text c p ws d → begins_lexeme text p ≡ true → kind_at (nat_lt 0 d) text p ≡ Some k
    → lexeme_at k (nat_lt 0 d) 0 text p ≡ Ok said → is_end k ≡ false
    → (e.column ≡ 0 → Starts text said.reached) → e.kept ≡ c.kept
    → WordStage text e said.reached (word_of k p said ∷ ws) (depth_after k d)
unfolding lexemes WordsStand
push_to law text c e p ws d k said s begins kind reads more column same =
    let h = lexemes text ws in
    let g = law (nat_lt 0 (flow_depth h)) (key_allowed h) text (reached h).index s.gap (has_at text (reached h).index s.gap s.stands) s.blank (ap (λ q. begins_lexeme text q) s.from ∙ begins) in
    let r = reached_index text k (gap_in text h).place said.reached more in
    record {
      stand = (
        record {
          place = ap (λ (x : Gap). x.place) g ∙ s.from;
          kind = ap (λ n. kind_at (nat_lt 0 n) text p) s.deep ∙ kind;
          said = ap (λ n. lexeme_at k (nat_lt 0 n) 0 text p) s.deep ∙ reads;
        },
        s.stand,
      );
      gap = [];
      from = let z : (end_in text k (gap_in text h).place said.reached).index + 0 ≡ said.reached = rw (add-zero, r) refl in z;
      stands = tt;
      blank = refl;
      deep = ap (λ n. depth_after k n) s.deep;
      column = column;
      plain = same ∙ s.plain;
    }

-- one in the midst of a line
pub push : GapReads
    → (text : List ℕ) (c e : Cursor) (p : ℕ) (ws : List Word) (d : ℕ) (k : Kind) (said : WordText)
    → WordStage text c p ws d → begins_lexeme text p ≡ true → kind_at (nat_lt 0 d) text p ≡ Some k
    → lexeme_at k (nat_lt 0 d) 0 text p ≡ Ok said → is_end k ≡ false → (e.column ≡ 0 → ⊥)
    → e.kept ≡ c.kept → WordStage text e said.reached (word_of k p said ∷ ws) (depth_after k d)
push law text c e p ws d k said s begins kind reads more column same = push_to law text c e p ws d k said s begins kind reads more (λ z. absurd (column z)) same

-- ---- signs

-- a byte with which a word begins, and which shows its kind wherever it is
pub record Sign (b : ℕ) : Type 0 where
  pub low : nat_lt b 128 ≡ true
  pub some : (b == 0) ≡ false
  pub tab : (b == 9) ≡ false
  pub space : (b == 32) ≡ false
  pub hash : (b == 35) ≡ false
  pub percent : (b == 37) ≡ false
  pub dash : (b == 45) ≡ false
  pub dot : (b == 46) ≡ false
  pub order : (b == 0xEF) ≡ false
  pub calm : (c d : ℕ) → break_of b c d ≡ 0

-- A lexeme begins at a sign.
pub sign_begins : (text : List ℕ) (p b : ℕ) → Sign b → byte text p ≡ b → begins_lexeme text p ≡ true
sign_begins text p b s h = rw (h, s.tab, s.space, s.hash, s.order, s.calm, and-false) refl

-- A lexeme begins at a byte that is neither white, nor `#`, nor a mark of byte order, nor a break.
pub sign_starts : (text : List ℕ) (p x : ℕ) → byte text p ≡ x → (x == 32) ≡ false → (x == 9) ≡ false
    → (x == 35) ≡ false → (x == 0xEF) ≡ false → ((c d : ℕ) → break_of x c d ≡ 0)
    → begins_lexeme text p ≡ true
sign_starts text p x h a b c d e = rw (h, a, b, c, d, e, and-false) refl

-- A sign's kind is its indicator's.
pub sign_kind : (flow : Bool) (text : List ℕ) (p b : ℕ) (k : Kind) → Sign b → byte text p ≡ b
    → ((alone : Bool) → indicator_of flow alone b ≡ Some k) → kind_at flow text p ≡ Some k
unfolding kind_at is_document_start is_document_end
sign_kind flow text p b k s h is = rw (h, s.some, s.percent, s.dash, s.dot, and-false, is) refl
