-- The body of a block scalar is lines, and they are read as the value: by its characters.
use Rattle.std.proofs.Common.{◌≡◌, ℕ, Bool, true, false, not, ◌&&◌, ◌==◌, List, [], ◌∷◌, ◌++◌, replicate, refl, sym, ap, subst, ◌∙◌, arith, append-nil, append_assoc, encode_utf8, encode_utf8_all}
use Rattle.yaml_emit_laws.proofs.ScalarWords.{nat_tests, encode_ascii, false≢true, true≢false, and_from, and_parts, ne_eqb, chomp_at, BlockLine, Words, texts_of, starts_blank, between, at_end, behind_text, stacked_with, stack_empty, Cursor, letter, is_break, Rest, is_past, is_printable, first, last_or, adds_break, cuts_block, line_blank, block_body, chomp, in_front, break_text, front_append, moved_by, LineMark, own, mark_char, mark_text, mark_means, BodyLine, bare, full, body_text, read_lines, are_inside, AreInside, closing, bool_cases, after_blanks, at_line}
use Rattle.yaml_emit_layout.specs.declared.page.Page.{Page}
use Rattle.yaml_emit_layout.specs.Style.{is_blank}
use Rattle.yaml_emit_laws.proofs.BlockHeader.{mark_breaks, mark_encodes, mark_some, mark_feed, mark_of, text_blank}
use Rattle.yaml_emit_laws.proofs.BlockLayouts.{break_is, none_added, first_is, char_is, cut_is, blank_break, blank_first, blank_in}
use Rattle.yaml_emit_laws.proofs.BlockWaiting.{read_chomp, Waits, owed, stacked_so, waits_end, waits_text, waits_break, break_owed}
use Rattle.yaml_emit_laws.proofs.Lines.{blanks_kept}

-- ---- characters of a value

-- printable, and no space before a break
abbrev pub AreGood : List ℕ → Type 0
AreGood [] = Unit {0}
AreGood (x ∷ xs) = (is_printable x ≡ true) × ((x == 32 && is_break (first xs)) ≡ false) × AreGood xs

pub not_printed : (x k : ℕ) → is_printable x ≡ true → is_printable k ≡ false → (x == k) ≡ false
not_printed x k s n = ne_eqb x k (λ e. cc (sym s ∙ ap (λ t. is_printable t) e ∙ n))

inside_one : (x : ℕ) → is_printable x ≡ true → is_break x ≡ false
    → (not (is_break x) && not (x == 0)) ≡ true
inside_one x s e = rw (e, (not_printed x 0 s refl)) refl

-- ---- what is after

pub record Ends (kept : Bool) (behind : Cursor) (broke : Bool) : Type 0 where
  pub at_start : broke ≡ true → behind ≡ at_line kept
  pub in_line : broke ≡ false → behind.bare ≡ false
  pub same : behind.kept ≡ kept

-- The rest of a line of a text, and what follows: what is written, and what it is read as.
pub record Goes (page : Page) (folded blank : Bool) (k : ℕ) (before : ℕ) (value : List ℕ) (kept : Bool) (c : Cursor) : Type 0 where
  pub head : List ℕ
  pub mark : LineMark
  pub lines : List BodyLine
  pub letters : List ℕ
  pub behind : Cursor
  pub text : (rest : Rest)
      → block_body page folded blank before value c rest ≡ in_front letters (rest behind)
  pub whole : letters ++ closing page.line_break (is_break (last_or before value)) ≡ head
      ++ (mark_text page.line_break mark ++ body_text page.line_break page.indentation lines)
  pub inside : are_inside head ≡ true
  pub sound : AreInside lines
  pub means : encode_utf8_all head ++ behind_text folded (chomp_at k) blank (mark_means mark)
      (texts_of (read_lines lines)).lead (texts_of (read_lines lines)).lines ≡ encode_utf8_all value
  pub ends : Ends kept behind (is_break (last_or before value))

-- the first line has a text that begins with this character
abbrev pub HasFirst : ℕ → List BodyLine → Type 0
HasFirst x [] = ⊥
HasFirst x (bare m ∷ ls) = ⊥
HasFirst x (full y ys m ∷ ls) = x ≡ y

-- a value that begins with a text begins the first line with it
abbrev pub Begins : List ℕ → List BodyLine → Type 0
Begins [] ls = Unit {0}
Begins (x ∷ xs) ls = is_break x ≡ false → HasFirst x ls

-- The same from the start of a line on.
pub record Starts (page : Page) (folded any blank more : Bool) (feed empties : List ℕ) (k : ℕ) (before : ℕ) (value : List ℕ) (kept : Bool) : Type 0 where
  pub lines : List BodyLine
  pub letters : List ℕ
  pub behind : Cursor
  pub text : (rest : Rest)
      → block_body page folded blank before value (at_line kept) rest
      ≡ in_front letters (rest behind)
  pub whole : letters ++ closing page.line_break (is_break (last_or before value))
      ≡ body_text page.line_break page.indentation lines
  pub sound : AreInside lines
  pub begins : Begins value lines
  pub means : stacked_so folded any blank feed empties k (read_lines lines) ≡ owed more feed empties
      ++ encode_utf8_all value
  pub ends : Ends kept behind (is_break (last_or before value))

-- ---- the end

goes_none : (page : Page) (folded blank broken : Bool) (k before : ℕ) (kept : Bool) (c : Cursor)
    → k ≡ read_chomp (chomp broken false []) → is_break before ≡ false → c.bare ≡ false
    → c.kept ≡ kept
    → Goes page folded blank k before [] kept c
unfolding block_body body_text in_front chomp chomp_at last_or
goes_none page folded blank broken k before kept c e f g h = record {
  head = [];
  mark = own;
  lines = [];
  letters = [];
  behind = c;
  text = λ rest. refl;
  whole = ap (λ (b : Bool). closing page.line_break b) f ∙ sym (append-nil (break_text page.line_break));
  inside = refl;
  sound = tt;
  means = ap (λ (j : ℕ). at_end (chomp_at j) (10 ∷ []) []) e;
  ends = record { at_start = λ t. absurd (true≢false (sym t ∙ f)); in_line = λ t. g; same = h };
}

starts_none : (page : Page) (folded any blank more : Bool) (feed empties : List ℕ) (broken : Bool)
    (k before : ℕ) (kept : Bool) → k ≡ read_chomp (chomp broken true []) → is_break before ≡ true
    → Waits folded any blank more feed empties broken []
    → Starts page folded any blank more feed empties k before [] kept
unfolding block_body body_text in_front chomp last_or
starts_none page folded any blank more feed empties broken k before kept e f w = record {
  lines = [];
  letters = [];
  behind = at_line kept;
  text = λ rest. refl;
  whole = ap (λ (b : Bool). closing page.line_break b) f;
  sound = tt;
  begins = tt;
  means = ap (λ (j : ℕ). stacked_so folded any blank feed empties j []) e ∙ waits_end folded any blank more feed empties broken w ∙ sym (append-nil (owed more feed empties));
  ends = record { at_start = λ t. refl; in_line = λ t. absurd (true≢false (sym f ∙ t)); same = refl };
}

-- ---- breaks

break_rest : (page : Page) (folded blank : Bool) (before x : ℕ) (xs : List ℕ) (was kept : Bool)
    (rest : Rest) → is_break x ≡ true → was ≡ kept
    → block_body page folded (line_blank blank before x) x xs (at_line was) rest
    ≡ block_body page folded blank x xs (at_line kept) rest
break_rest page folded blank before x xs was kept rest e f = grind (arith, nat_tests, at_line, blank_break)

goes_added : (page : Page) (folded blank : Bool) (k before : ℕ) (m : LineMark) (xs : List ℕ)
    (kept : Bool) (c : Cursor) → c.kept ≡ kept
    → adds_break folded blank before (mark_char m) xs ≡ true
    → Starts page folded true blank true (10 ∷ []) (mark_means m) k (mark_char m) xs kept
    → Goes page folded blank k before (mark_char m ∷ xs) kept c
unfolding block_body body_text last_or stacked_with
goes_added page folded blank k before m xs kept c h a s =
    let b = page.line_break in
    let front = break_text b ++ mark_text b m in
    let body = body_text b page.indentation s.lines in
    record {
      head = [];
      mark = own;
      lines = bare m ∷ s.lines;
      letters = front ++ s.letters;
      behind = s.behind;
      text = λ rest.
          break_is page folded blank before m xs true c (λ d. block_body page folded (line_blank blank before (mark_char m)) (mark_char m) xs d rest) a
          ∙ ap (in_front front) (break_rest page folded blank before (mark_char m) xs c.kept kept rest (mark_breaks m) h ∙ s.text rest) ∙ sym (front_append front s.letters (rest s.behind));
      whole = append_assoc front s.letters _ ∙ ap (λ (t : List ℕ). front ++ t) s.whole ∙ append_assoc (break_text b) (mark_text b m) body;
      inside = refl;
      sound = s.sound;
      means = s.means ∙ ap (λ (t : List ℕ). t ++ encode_utf8_all xs) (sym (mark_encodes m));
      ends = s.ends;
    }

goes_plain : (page : Page) (folded blank : Bool) (k before : ℕ) (m : LineMark) (xs : List ℕ)
    (kept : Bool) (c : Cursor) → c.kept ≡ kept
    → adds_break folded blank before (mark_char m) xs ≡ false
    → Starts page folded true blank false (mark_means m) [] k (mark_char m) xs kept
    → Goes page folded blank k before (mark_char m ∷ xs) kept c
unfolding block_body body_text last_or stacked_with
goes_plain page folded blank k before m xs kept c h a s =
    let b = page.line_break in
    record {
      head = [];
      mark = m;
      lines = s.lines;
      letters = mark_text b m ++ s.letters;
      behind = s.behind;
      text = λ rest.
          break_is page folded blank before m xs false c (λ d. block_body page folded (line_blank blank before (mark_char m)) (mark_char m) xs d rest) a
          ∙ ap (in_front (mark_text b m)) (break_rest page folded blank before (mark_char m) xs c.kept kept rest (mark_breaks m) h ∙ s.text rest) ∙ sym (front_append (mark_text b m) s.letters (rest s.behind));
      whole = append_assoc (mark_text b m) s.letters _ ∙ ap (λ (t : List ℕ). mark_text b m ++ t) s.whole;
      inside = refl;
      sound = s.sound;
      means = s.means ∙ ap (λ (t : List ℕ). t ++ encode_utf8_all xs) (append-nil (mark_means m) ∙ sym (mark_encodes m));
      ends = s.ends;
    }

starts_break : (page : Page) (folded any blank more : Bool) (feed empties : List ℕ) (k before : ℕ)
    (m : LineMark) (xs : List ℕ) (kept : Bool) → is_break before ≡ true
    → Starts page folded any blank more feed (empties ++ mark_means m) k (mark_char m) xs kept
    → Starts page folded any blank more feed empties k before (mark_char m ∷ xs) kept
unfolding block_body body_text last_or
starts_break page folded any blank more feed empties k before m xs kept e s =
    let b = page.line_break in
    record {
      lines = bare m ∷ s.lines;
      letters = mark_text b m ++ s.letters;
      behind = s.behind;
      text = λ rest.
          break_is page folded blank before m xs false (at_line kept) (λ d. block_body page folded (line_blank blank before (mark_char m)) (mark_char m) xs d rest)
          (none_added folded blank before (mark_char m) xs e)
          ∙ ap (in_front (mark_text b m)) (break_rest page folded blank before (mark_char m) xs kept kept rest (mark_breaks m) refl ∙ s.text rest) ∙ sym (front_append (mark_text b m) s.letters (rest s.behind));
      whole = append_assoc (mark_text b m) s.letters _ ∙ ap (λ (t : List ℕ). mark_text b m ++ t) s.whole;
      sound = s.sound;
      begins = λ h. absurd (true≢false (sym (mark_breaks m) ∙ h));
      means = sym (stack_empty folded [] any blank feed empties (mark_means m) (chomp_at k) (read_lines s.lines)) ∙ s.means ∙ break_owed more feed empties (mark_means m) (encode_utf8_all xs)
          ∙ ap (λ (t : List ℕ). owed more feed empties ++ (t ++ encode_utf8_all xs)) (sym (mark_encodes m));
      ends = s.ends;
    }

-- ---- characters

goes_char : (page : Page) (folded blank : Bool) (k before x : ℕ) (xs : List ℕ) (kept : Bool)
    (c : Cursor) → is_printable x ≡ true → is_break x ≡ false → is_break before ≡ false
    → (cuts_block folded blank before x xs && is_past page.width c) ≡ false
    → Goes page folded blank k x xs kept (moved_by c)
    → Goes page folded blank k before (x ∷ xs) kept c
unfolding block_body in_front last_or
goes_char page folded blank k before x xs kept c s e f u g = record {
  head = x ∷ g.head;
  mark = g.mark;
  lines = g.lines;
  letters = x ∷ g.letters;
  behind = g.behind;
  text = λ rest.
      char_is page folded blank before x xs c (λ d. block_body page folded (line_blank blank before x) x xs d rest) e f u
      ∙ ap (λ t. letter x ∷ t) (ap (λ t. block_body page folded t x xs (moved_by c) rest) (blank_in blank before x e f) ∙ g.text rest);
  whole = ap (λ (t : List ℕ). x ∷ t) g.whole;
  inside = and_from (not (is_break x) && not (x == 0)) (are_inside g.head) (inside_one x s e) g.inside;
  sound = g.sound;
  means = append_assoc (encode_utf8 x) (encode_utf8_all g.head) _ ∙ ap (λ (t : List ℕ). encode_utf8 x ++ t) g.means;
  ends = g.ends;
}

starts_text : (page : Page) (folded any blank more : Bool) (feed empties : List ℕ) (broken : Bool)
    (k before x : ℕ) (xs : List ℕ) (kept : Bool) → is_printable x ≡ true → is_break x ≡ false
    → is_break before ≡ true
    → Waits folded any blank more feed empties broken (x ∷ xs)
    → Goes page folded (is_blank x) k x xs kept
    (moved_by (after_blanks page.indentation (at_line kept)))
    → Starts page folded any blank more feed empties k before (x ∷ xs) kept
unfolding block_body body_text last_or
starts_text page folded any blank more feed empties broken k before x xs kept s e f w g =
    let b = page.line_break in
    let spaces = replicate page.indentation 32 in
    let body = body_text b page.indentation g.lines in
    let rest_of = mark_text b g.mark ++ body in
    let words = encode_utf8_all (x ∷ g.head) in
    record {
      lines = full x g.head g.mark ∷ g.lines;
      letters = (spaces ++ x ∷ []) ++ g.letters;
      behind = g.behind;
      text = λ rest.
          first_is page folded blank before x xs kept (λ d. block_body page folded (line_blank blank before x) x xs d rest) e f
          ∙ ap (in_front (spaces ++ x ∷ []))
          (ap (λ t. block_body page folded t x xs (moved_by (after_blanks page.indentation (at_line kept))) rest) (blank_first blank before x e f) ∙ g.text rest)
          ∙ sym (front_append (spaces ++ x ∷ []) g.letters (rest g.behind));
      whole =
          append_assoc (spaces ++ x ∷ []) g.letters _ ∙ ap (λ (t : List ℕ). (spaces ++ x ∷ []) ++ t) g.whole ∙ append_assoc spaces (x ∷ []) (g.head ++ rest_of)
          ∙ ap (λ (t : List ℕ). spaces ++ t) (sym (append_assoc (x ∷ g.head) (mark_text b g.mark) body)) ∙ sym (append_assoc spaces ((x ∷ g.head) ++ mark_text b g.mark) body);
      sound = (and_from (not (is_break x) && not (x == 0)) (are_inside g.head) (inside_one x s e) g.inside, g.sound);
      begins = λ h. refl;
      means =
          waits_text folded any blank more feed empties broken x xs k words (mark_means g.mark) (read_lines g.lines) w e (text_blank x g.head)
          ∙ ap (λ (t : List ℕ). owed more feed empties ++ t) (append_assoc (encode_utf8 x) (encode_utf8_all g.head) _ ∙ ap (λ (t : List ℕ). encode_utf8 x ++ t) g.means);
      ends = g.ends;
    }

-- ---- a cut

-- what a cut needs
record Cuts (folded blank : Bool) (x : ℕ) (xs : List ℕ) : Type 0 where
  folds : folded ≡ true
  space : x ≡ 32
  text : blank ≡ false
  next : (first xs == 32) ≡ false

cuts_need : (folded blank : Bool) (before x : ℕ) (xs : List ℕ)
    → cuts_block folded blank before x xs ≡ true → Cuts folded blank x xs
cuts_need folded blank before x xs e = grind arith

no_cuts : (a b c d e p : Bool) → b ≡ false → ((a && (b && (c && (d && e)))) && p) ≡ false
no_cuts a b c d e p h = grind (arith, nat_tests)

pub unblank : (x : ℕ) → is_printable x ≡ true → (x == 32) ≡ false → is_blank x ≡ false
unblank x s e = rw (e, (not_printed x 9 s refl)) refl

-- a line feed that a reader folds
cut_means : (folded blank : Bool) (k : ℕ) (words next : List ℕ) (ls : List BlockLine)
    → folded ≡ true → blank ≡ false → starts_blank words ≡ false
    → behind_text folded (chomp_at k) blank (10 ∷ []) (texts_of (Words words next ∷ ls)).lead
    (texts_of (Words words next ∷ ls)).lines
    ≡ 32 ∷ (words ++ behind_text folded (chomp_at k) blank next (texts_of ls).lead
    (texts_of ls).lines)
unfolding between
cut_means folded blank k words next ls e f g = grind (arith, nat_tests, false≢true, true≢false)

abbrev behind_cut : Page → Bool → Cursor
behind_cut page kept = after_blanks page.indentation (at_line kept)

cut_rest : (page : Page) (folded blank : Bool) (before x y : ℕ) (ys : List ℕ) (was kept : Bool)
    (rest : Rest) → is_break x ≡ false → is_break before ≡ false → is_break y ≡ false
    → (y == 32) ≡ false → was ≡ kept
    → block_body page folded (line_blank blank before x) x (y ∷ ys) (behind_cut page was) rest
    ≡ letter y ∷ block_body page folded blank y ys (moved_by (behind_cut page kept)) rest
unfolding block_body
cut_rest page folded blank before x y ys was kept rest e f g h i = grind (arith, blank_in, char_is, no_cuts)

goes_cut : (page : Page) (folded blank : Bool) (k before x y : ℕ) (ys : List ℕ) (kept : Bool)
    (c : Cursor) → is_break x ≡ false → is_break before ≡ false → is_printable y ≡ true
    → is_break y ≡ false
    → cuts_block folded blank before x (y ∷ ys) ≡ true → is_past page.width c ≡ true
    → c.bare ≡ false → c.kept ≡ kept
    → Goes page folded blank k y ys kept (moved_by (behind_cut page kept))
    → Goes page folded blank k before (x ∷ y ∷ ys) kept c
unfolding block_body body_text in_front last_or
goes_cut page folded blank k before x y ys kept c e f s i t p bar same g =
    let n = cuts_need folded blank before x (y ∷ ys) t in
    let b = page.line_break in
    let spaces = replicate page.indentation 32 in
    let front = break_text b ++ spaces in
    let body = body_text b page.indentation g.lines in
    let rest_of = mark_text b g.mark ++ body in
    let words = encode_utf8_all (y ∷ g.head) in
    record {
      head = [];
      mark = own;
      lines = full y g.head g.mark ∷ g.lines;
      letters = front ++ y ∷ g.letters;
      behind = g.behind;
      text = λ rest.
          cut_is page folded blank before x (y ∷ ys) c (λ d. block_body page folded (line_blank blank before x) x (y ∷ ys) d rest) e f t p bar
          ∙ ap (in_front front) (cut_rest page folded blank before x y ys c.kept kept rest e f i n.next same ∙ ap (λ u. letter y ∷ u) (g.text rest))
          ∙ sym (front_append front (y ∷ g.letters) (rest g.behind));
      whole =
          append_assoc front (y ∷ g.letters) _ ∙ ap (λ (u : List ℕ). front ++ y ∷ u) g.whole ∙ append_assoc (break_text b) spaces (y ∷ (g.head ++ rest_of))
          ∙ ap (λ (u : List ℕ). break_text b ++ (spaces ++ u)) (sym (append_assoc (y ∷ g.head) (mark_text b g.mark) body))
          ∙ ap (λ (u : List ℕ). break_text b ++ u) (sym (append_assoc spaces ((y ∷ g.head) ++ mark_text b g.mark) body));
      inside = refl;
      sound = (and_from (not (is_break y) && not (y == 0)) (are_inside g.head) (inside_one y s i) g.inside, g.sound);
      means =
          cut_means folded blank k words (mark_means g.mark) (read_lines g.lines) n.folds n.text (text_blank y g.head ∙ unblank y s n.next)
          ∙ ap (λ (u : List ℕ). 32 ∷ u) (append_assoc (encode_utf8 y) (encode_utf8_all g.head) _ ∙ ap (λ (u : List ℕ). encode_utf8 y ++ u) g.means)
          ∙ ap (λ (u : List ℕ). u ++ (encode_utf8 y ++ encode_utf8_all ys)) (sym (ap (λ y. encode_utf8 y) n.space ∙ encode_ascii 32 (omega arith)));
      ends = g.ends;
    }

-- ---- what waits after the end of a line

adds_waits : (folded blank : Bool) (before : ℕ) (m : LineMark) (xs : List ℕ)
    → adds_break folded blank before (mark_char m) xs ≡ true
    → Waits folded true blank true (10 ∷ []) (mark_means m) false xs
adds_waits folded blank before m xs e = grind (arith, mark_some)

stays_by : (f t b p q : Bool) → b ≡ false → (f && (t && (not b && (p && q)))) ≡ false
    → (f && ((p && q) && t)) ≡ false
stays_by f t b p q h e = grind arith

plain_waits : (folded blank : Bool) (before : ℕ) (m : LineMark) (xs : List ℕ)
    → is_break before ≡ false → adds_break folded blank before (mark_char m) xs ≡ false
    → Waits folded true blank false (mark_means m) [] false xs
plain_waits folded blank before m xs f e = grind (arith, mark_feed, stays_by)

-- ---- all characters

chomp_to : (broken last b : Bool) (x : ℕ) (xs : List ℕ) (k : ℕ)
    → k ≡ read_chomp (chomp broken last (x ∷ xs)) → is_break x ≡ b
    → k ≡ read_chomp (chomp last b xs)
unfolding chomp
chomp_to broken last b x xs k e h = e ∙ ap (λ (t : Bool). read_chomp (chomp last t xs)) h

no_last : (before x : ℕ) → x ≡ 32 → (last_or before (x ∷ []) == 32) ≡ false → ⊥
unfolding last_or
no_last before x e h = true≢false (sym (ap (λ (y : ℕ). y == 32) e) ∙ h)

last_next : (before x : ℕ) (xs : List ℕ) → (last_or before (x ∷ xs) == 32) ≡ false
    → (last_or x xs == 32) ≡ false
unfolding last_or
last_next before x xs h = h

unbroken : (x y : ℕ) → x ≡ 32 → (x == 32 && is_break y) ≡ false → is_break y ≡ false
unbroken x y e h = ap (λ (z : ℕ). z == 32 && is_break y) (sym e) ∙ h

-- where a line ends
goes_break : (page : Page) (folded blank : Bool) (k before x : ℕ) (xs : List ℕ) (kept : Bool)
    (c : Cursor) → is_printable x ≡ true → is_break x ≡ true → is_break before ≡ false
    → c.kept ≡ kept
    → ((more : Bool) (feed empties : List ℕ) → Waits folded true blank more feed empties false xs
    → Starts page folded true blank more feed empties k x xs kept)
    → Goes page folded blank k before (x ∷ xs) kept c
goes_break page folded blank k before x xs kept c s e f same starts =
    let m = mark_of x s e in
    let from : (y : ℕ) → mark_char m.mark ≡ y → ((more : Bool) (feed empties : List ℕ) → Waits folded true blank more feed empties false xs → Starts page folded true blank more feed empties k y xs kept) → Goes page folded blank k before (y ∷ xs) kept c =
    λ y h. subst (λ (z : ℕ). ((more : Bool) (feed empties : List ℕ) → Waits folded true blank more feed empties false xs → Starts page folded true blank more feed empties k z xs kept) → Goes page folded blank k before (z ∷ xs) kept c) h
    (λ go. bool_cases (adds_break folded blank before (mark_char m.mark) xs)
    (λ a. goes_added page folded blank k before m.mark xs kept c same a (go true (10 ∷ []) (mark_means m.mark) (adds_waits folded blank before m.mark xs a)))
    (λ a. goes_plain page folded blank k before m.mark xs kept c same a (go false (mark_means m.mark) [] (plain_waits folded blank before m.mark xs f a)))) in
    from x m.is starts

starts_more : (page : Page) (folded any blank more : Bool) (feed empties : List ℕ) (broken : Bool)
    (k before x : ℕ) (xs : List ℕ) (kept : Bool) → is_printable x ≡ true → is_break x ≡ true
    → is_break before ≡ true
    → Waits folded any blank more feed empties broken (x ∷ xs)
    → ((es : List ℕ) → Waits folded any blank more feed es true xs
    → Starts page folded any blank more feed es k x xs kept)
    → Starts page folded any blank more feed empties k before (x ∷ xs) kept
starts_more page folded any blank more feed empties broken k before x xs kept s e f w starts =
    let m = mark_of x s e in
    let from : (y : ℕ) → mark_char m.mark ≡ y → Starts page folded any blank more feed (empties ++ mark_means m.mark) k y xs kept → Starts page folded any blank more feed empties k before (y ∷ xs) kept =
    λ y h. subst (λ (z : ℕ). Starts page folded any blank more feed (empties ++ mark_means m.mark) k z xs kept → Starts page folded any blank more feed empties k before (z ∷ xs) kept) h
    (λ go. starts_break page folded any blank more feed empties k before m.mark xs kept f go) in
    from x m.is (starts (empties ++ mark_means m.mark) (waits_break folded any blank more feed empties (mark_means m.mark) broken x xs e w))

mutual
  pub goes : (page : Page) (folded blank broken : Bool) (k before : ℕ) (value : List ℕ)
      (kept : Bool) (c : Cursor) → k ≡ read_chomp (chomp broken false value)
      → is_break before ≡ false → AreGood value
      → (last_or before value == 32) ≡ false → c.bare ≡ false → c.kept ≡ kept
      → Goes page folded blank k before value kept c
  goes page folded blank broken k before [] kept c e f g l bar same = goes_none page folded blank broken k before kept c e f bar same
  goes page folded blank broken k before (x ∷ []) kept c e f (s, n, g) l bar same =
      bool_cases (is_break x)
      (λ h. goes_break page folded blank k before x [] kept c s h f same
      (λ more feed empties w. starts page folded true blank more feed empties false k x [] kept (chomp_to broken false true x [] k e h) h g (last_next before x [] l) w))
      (λ h. goes_char page folded blank k before x [] kept c s h f
      (bool_cases (cuts_block folded blank before x [] && is_past page.width c)
      (λ t. absurd (no_last before x (cuts_need folded blank before x [] (and_parts (cuts_block folded blank before x []) (is_past page.width c) t).0).space l)) (λ t. t))
      (goes page folded blank false k x [] kept (moved_by c) (chomp_to broken false false x [] k e h) h g (last_next before x [] l) refl same))
  goes page folded blank broken k before (x ∷ y ∷ ys) kept c e f (s, n, (t, o, g)) l bar same =
      bool_cases (is_break x)
      (λ h. goes_break page folded blank k before x (y ∷ ys) kept c s h f same
      (λ more feed empties w. starts page folded true blank more feed empties false k x (y ∷ ys) kept (chomp_to broken false true x (y ∷ ys) k e h) h (t, o, g) (last_next before x (y ∷ ys) l) w))
      (λ h. bool_cases (cuts_block folded blank before x (y ∷ ys) && is_past page.width c)
      (λ u. let cuts = (and_parts (cuts_block folded blank before x (y ∷ ys)) (is_past page.width c) u).0 in
      let i = unbroken x y (cuts_need folded blank before x (y ∷ ys) cuts).space n in
      goes_cut page folded blank k before x y ys kept c h f t i cuts (and_parts (cuts_block folded blank before x (y ∷ ys)) (is_past page.width c) u).1 bar same
      (goes page folded blank false k y ys kept (moved_by (behind_cut page kept)) (chomp_to false false false y ys k (chomp_to broken false false x (y ∷ ys) k e h) i) i g
      (last_next x y ys (last_next before x (y ∷ ys) l)) refl (blanks_kept page.indentation (at_line kept))))
      (λ u. goes_char page folded blank k before x (y ∷ ys) kept c s h f u
      (goes page folded blank false k x (y ∷ ys) kept (moved_by c) (chomp_to broken false false x (y ∷ ys) k e h) h (t, o, g) (last_next before x (y ∷ ys) l) refl same)))

  pub starts : (page : Page) (folded any blank more : Bool) (feed empties : List ℕ) (broken : Bool)
      (k before : ℕ) (value : List ℕ) (kept : Bool) → k ≡ read_chomp (chomp broken true value)
      → is_break before ≡ true → AreGood value
      → (last_or before value == 32) ≡ false → Waits folded any blank more feed empties broken value
      → Starts page folded any blank more feed empties k before value kept
  starts page folded any blank more feed empties broken k before [] kept e f g l w = starts_none page folded any blank more feed empties broken k before kept e f w
  starts page folded any blank more feed empties broken k before (x ∷ xs) kept e f (s, n, g) l w =
      bool_cases (is_break x)
      (λ h. starts_more page folded any blank more feed empties broken k before x xs kept s h f w
      (λ es v. starts page folded any blank more feed es true k x xs kept (chomp_to broken true true x xs k e h) h g (last_next before x xs l) v))
      (λ h. starts_text page folded any blank more feed empties broken k before x xs kept s h f w
      (goes page folded (is_blank x) true k x xs kept (moved_by (after_blanks page.indentation (at_line kept))) (chomp_to broken true false x xs k e h) h g (last_next before x xs l) refl
      (blanks_kept page.indentation (at_line kept))))
