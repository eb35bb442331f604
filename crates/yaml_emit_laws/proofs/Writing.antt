-- What is written for a value inside a plain or single quoted scalar is a spelling of it.
use Rattle.std.proofs.Common.{◌≡◌, ℕ, zero, suc, ◌<◌, Bool, true, false, not, ◌&&◌, ◌==◌, List, [], ◌∷◌, ◌++◌, replicate, refl, sym, ap, ◌∙◌, inl, inr, arith, append-nil, append_assoc, encode_utf8, encode_utf8_all}
use Rattle.yaml_emit_laws.proofs.ScalarWords.{true≢false, lt-ltb, eqb-true, and_parts, eqb-false, encode_ascii, encodes-append, and-false, Cursor, LineBreak, is_break, Layout, Rest, when, new_line, line, Page, is_printable, first, value_break, flow_char, flow_body, in_front, break_text, LineEnd, end_bytes, end_means, is_return, is_feed_end, LineTurn, turn_bytes, turn_means, may_turn, QuotedPart, fold, MayStand, spelled, meant, spelling, meaning, is_raw_blank, is_turn, may_be_next, IsSpelling, is_one_line, cond_true, cond_false, end_of, space_encodes, front_append, new_line_is, fold_follows, bool_cases, after_blanks, line_start}
use Rattle.yaml_emit_laws.proofs.Lines.{blanks_column, blanks_kept, Starts, start_is, break_is, own_fits, own_means, own_bytes}
use Rattle.yaml_emit_laws.proofs.PlainParts.{Spells}
use Rattle.yaml_emit_laws.proofs.Letters.{AllShow, quote_byte, seat, Step, step, Behind}

-- ---- all characters

-- after a character that ends no line
pub record Left (page : Page) (quote : Bool) (before : ℕ) (c : Cursor) (last : QuotedPart) (value : List ℕ) : Type 0 where
  pub parts : List QuotedPart
  pub letters : List ℕ
  pub behind : Cursor
  pub right : IsSpelling (quote_byte quote) parts
  pub next : may_be_next last parts ≡ true
  pub text : (rest : Rest)
      → flow_body page quote before value c rest ≡ in_front letters (rest behind)
  pub bytes : encode_utf8_all letters ≡ spelling parts
  pub means : meaning parts ≡ encode_utf8_all value
  pub ones : quote ≡ false → is_one_line value ≡ true → Spells page.indentation parts value
  pub column : behind.column ≡ 0 → (c.column ≡ 0) × (value ≡ [])
  pub kept : behind.kept ≡ c.kept

-- after a break, where a line starts: spaces first, and further breaks
record Run (page : Page) (quote : Bool) (before : ℕ) (c : Cursor) (value : List ℕ) : Type 0 where
  spaces : ℕ
  turns : List LineTurn
  parts : List QuotedPart
  letters : List ℕ
  behind : Cursor
  right : IsSpelling (quote_byte quote) parts
  next : (t : LineTurn) (ts : List LineTurn) → may_be_next (fold t ts) parts ≡ true
  may : (e : LineEnd) → (is_return e && is_feed_end (end_of page.line_break)) ≡ false
      → may_turn (record { end = e; spaces = spaces }) turns ≡ true
  text : (rest : Rest) → flow_body page quote before value c rest ≡ in_front letters (rest behind)
  bytes : encode_utf8_all letters ≡ replicate spaces 32 ++ (turn_bytes turns ++ spelling parts)
  means : turn_means turns ++ meaning parts ≡ encode_utf8_all value
  column : behind.column ≡ 0 → ⊥
  kept : behind.kept ≡ c.kept

pub spaces_low : (n : ℕ) → encode_utf8_all (replicate n 32) ≡ replicate n 32
spaces_low zero = refl
spaces_low (suc n) = ap (λ t. encode_utf8 32 ++ t) (spaces_low n) ∙ ap (λ t. t ++ replicate n 32) space_encodes

-- the layout of a character, by whether a line ends
char_is : (page : Page) (quote : Bool) (before x : ℕ) (xs : List ℕ) (c : Cursor) (rest : Rest)
    → is_break x ≡ false → is_break before ≡ false
    → flow_char page quote before x xs c rest ≡ seat page quote before x xs c rest
unfolding flow_char
char_is page quote before x xs c rest e f =
    ap (λ (a : Layout). a c rest) (cond_false (is_break x) _ _ e) ∙ ap (λ t. when t (line page.line_break page.indentation) c (λ d. seat page quote before x xs d rest)) f

lined_is : (page : Page) (quote : Bool) (before x : ℕ) (xs : List ℕ) (c : Cursor) (rest : Rest)
    → is_break x ≡ false → is_break before ≡ true
    → flow_char page quote before x xs c rest
    ≡ line page.line_break page.indentation c (λ d. seat page quote before x xs d rest)
unfolding flow_char
lined_is page quote before x xs c rest e f =
    ap (λ (a : Layout). a c rest) (cond_false (is_break x) _ _ e) ∙ ap (λ t. when t (line page.line_break page.indentation) c (λ d. seat page quote before x xs d rest)) f

break_char : (page : Page) (quote : Bool) (before x : ℕ) (xs : List ℕ) (c : Cursor) (rest : Rest)
    → is_break x ≡ true
    → flow_char page quote before x xs c rest
    ≡ when (x == 10 && not (is_break before)) (new_line page.line_break) c
    (λ d. value_break page.line_break x d rest)
unfolding flow_char
break_char page quote before x xs c rest e = ap (λ (a : Layout). a c rest) (cond_true (is_break x) _ _ e)

-- a first break
one_more : (page : Page) (quote : Bool) (before x : ℕ) (xs : List ℕ) (c : Cursor) (rest : Rest)
    → is_break x ≡ true → is_break before ≡ false → (x == 10) ≡ true
    → flow_char page quote before x xs c rest
    ≡ new_line page.line_break c (λ d. value_break page.line_break x d rest)
one_more page quote before x xs c rest e f g = grind (arith, break_char)

none_more : (page : Page) (quote : Bool) (before x : ℕ) (xs : List ℕ) (c : Cursor) (rest : Rest)
    → is_break x ≡ true → (x == 10 && not (is_break before)) ≡ false
    → flow_char page quote before x xs c rest ≡ value_break page.line_break x c rest
none_more page quote before x xs c rest e f = break_char page quote before x xs c rest e ∙ ap (λ t. when t (new_line page.line_break) c (λ d. value_break page.line_break x d rest)) f

end_is : (page : Page) (quote : Bool) (before : ℕ) (c : Cursor) (rest : Rest) (b : Bool)
    → is_break before ≡ b
    → flow_body page quote before [] c rest ≡ when b (line page.line_break page.indentation) c rest
unfolding flow_body
end_is page quote before c rest b e = ap (λ t. when t (line page.line_break page.indentation) c rest) e

body_is : (page : Page) (quote : Bool) (before x : ℕ) (xs : List ℕ) (c : Cursor) (rest : Rest)
    → flow_body page quote before (x ∷ xs) c rest
    ≡ flow_char page quote before x xs c (λ d. flow_body page quote x xs d rest)
unfolding flow_body
body_is page quote before x xs c rest = refl

front_more : (xs ys : List ℕ) (t : Cursor) (rest : Rest)
    → in_front xs (in_front ys (rest t)) ≡ in_front (xs ++ ys) (rest t)
front_more xs ys t rest = sym (front_append xs ys (rest t))

-- the spelling of a first break and what follows
turn_one : (t : LineTurn) (ts : List LineTurn) (ps : List QuotedPart)
    → spelling (fold t ts ∷ ps) ≡ end_bytes t.end
    ++ (replicate t.spaces 32 ++ (turn_bytes ts ++ spelling ps))
unfolding spelling turn_bytes
turn_one t ts ps =
    append_assoc (end_bytes t.end) (replicate t.spaces 32 ++ turn_bytes ts) (spelling ps)
    ∙ ap (λ (xs : List ℕ). end_bytes t.end ++ xs) (append_assoc (replicate t.spaces 32) (turn_bytes ts) (spelling ps))

turn_two : (e : LineEnd) (u : LineTurn) (ts : List LineTurn) (ps : List QuotedPart)
    → spelling (fold (record { end = e; spaces = 0 }) (u ∷ ts) ∷ ps) ≡ end_bytes e
    ++ (end_bytes u.end ++ (replicate u.spaces 32 ++ (turn_bytes ts ++ spelling ps)))
unfolding turn_bytes
turn_two e u ts ps = grind (arith, turn_one, append_assoc)

turns_more : (u : LineTurn) (ts : List LineTurn) (ps : List QuotedPart)
    → turn_bytes (u ∷ ts) ++ spelling ps ≡ end_bytes u.end
    ++ (replicate u.spaces 32 ++ (turn_bytes ts ++ spelling ps))
unfolding turn_bytes
turns_more u ts ps =
    append_assoc (end_bytes u.end) (replicate u.spaces 32 ++ turn_bytes ts) (spelling ps)
    ∙ ap (λ (xs : List ℕ). end_bytes u.end ++ xs) (append_assoc (replicate u.spaces 32) (turn_bytes ts) (spelling ps))

means_more : (u : LineTurn) (ts : List LineTurn) (ps : List QuotedPart)
    → turn_means (u ∷ ts) ++ meaning ps ≡ end_means u.end ++ (turn_means ts ++ meaning ps)
unfolding turn_means
means_more u ts ps = append_assoc (end_means u.end) (turn_means ts) (meaning ps)

meaning_more : (q : QuotedPart) (ps : List QuotedPart) → meaning (q ∷ ps) ≡ meant q ++ meaning ps
unfolding meaning
meaning_more q ps = refl

spelling_more : (q : QuotedPart) (ps : List QuotedPart)
    → spelling (q ∷ ps) ≡ spelled q ++ spelling ps
unfolding spelling
spelling_more q ps = refl

-- a line feed before others is lost
feed_lost : (e : LineEnd) (u : LineTurn) (ts : List LineTurn) → end_means e ≡ 10 ∷ []
    → end_means u.end ≡ 10 ∷ []
    → meant (fold (record { end = e; spaces = 0 }) (u ∷ ts)) ≡ 10 ∷ turn_means ts
unfolding turn_means
feed_lost e u ts a b = rw (a, b) refl

right_more : (k : ℕ) (q : QuotedPart) (ps : List QuotedPart) → MayStand k q
    → may_be_next q ps ≡ true → IsSpelling k ps → IsSpelling k (q ∷ ps)
unfolding IsSpelling
right_more k q ps a b c = (a, b, c)

right_none : (k : ℕ) → IsSpelling k []
unfolding IsSpelling
right_none k = tt

may_one : (e : LineEnd) (n : ℕ) → 0 < n → may_turn (record { end = e; spaces = n }) [] ≡ true
unfolding may_turn
may_one e n some = lt-ltb 0 n some

may_more : (e : LineEnd) (n : ℕ) (u : LineTurn) (us : List LineTurn)
    → (is_return e && is_feed_end u.end) ≡ false → may_turn u us ≡ true
    → may_turn (record { end = e; spaces = n }) (u ∷ us) ≡ true
unfolding may_turn
may_more e n u us a b = grind arith

no_spellings : (quote : Bool) → spelling [] ≡ []
unfolding spelling
no_spellings quote = refl

no_meaning : (quote : Bool) → meaning [] ≡ []
unfolding meaning
no_meaning quote = refl

no_turns : (quote : Bool) → turn_bytes [] ≡ []
unfolding turn_bytes
no_turns quote = refl

no_turn_means : (quote : Bool) → turn_means [] ≡ []
unfolding turn_means
no_turn_means quote = refl

fold_stands : (quote : Bool) (t : LineTurn) (ts : List LineTurn) → may_turn t ts ≡ true
    → MayStand (quote_byte quote) (fold t ts)
fold_stands quote t ts h = h

fold_next : (last : QuotedPart) (t : LineTurn) (ts : List LineTurn) (ps : List QuotedPart)
    → is_raw_blank last ≡ false → is_turn last ≡ false → may_be_next last (fold t ts ∷ ps) ≡ true
fold_next last t ts ps a b = fold_follows last (fold t ts) refl refl a b

-- after what a break is written as
behind_run : (x : ℕ) (c : Cursor) (value : List ℕ) (t : LineTurn) (ts : List LineTurn)
    → is_break x ≡ true → (first value == 32) ≡ false → Behind x c (fold t ts) value
behind_run x c value t ts b f = record { blank = λ h. absurd (true≢false (sym h)); turn = λ h. (inr b, f); bare = λ g h. absurd (true≢false (sym b ∙ h)) }

starts_line : (c : Cursor) → Starts (line_start c)
starts_line c = record { column = refl; white = refl; bare = refl }

any_turn : LineBreak → LineTurn
any_turn b = record { end = end_of b; spaces = 0 }

-- a run ends at the end
run_end : (page : Page) (quote : Bool) (before : ℕ) (c : Cursor) → 0 < page.indentation
    → is_break before ≡ true → Starts c → Run page quote before c []
run_end page quote before c some b st =
    let n = page.indentation in
    record {
      spaces = n;
      turns = [];
      parts = [];
      letters = replicate n 32;
      behind = after_blanks n c;
      right = right_none (quote_byte quote);
      next = λ t ts. refl;
      may = λ e f. may_one e n some;
      text = λ rest. end_is page quote before c rest true b ∙ start_is page.line_break n c rest st;
      bytes = spaces_low n ∙ sym (ap (λ (xs : List ℕ). replicate n 32 ++ xs) (ap (λ (xs : List ℕ). xs ++ spelling []) (no_turns quote) ∙ no_spellings quote) ∙ append-nil (replicate n 32));
      means = ap (λ (xs : List ℕ). xs ++ meaning []) (no_turn_means quote) ∙ no_meaning quote;
      column = λ z. let e = blanks_column n c in omega (arith, some, z, e);
      kept = blanks_kept n c;
    }

-- a run ends before a character
run_char : (page : Page) (quote : Bool) (before x : ℕ) (xs : List ℕ) (c : Cursor)
    → 0 < page.indentation → is_break before ≡ true → is_break x ≡ false → Starts c
    → (one : (last : QuotedPart) → Behind before (after_blanks page.indentation c) last (x ∷ xs)
    → Step page quote before x xs (after_blanks page.indentation c) last)
    → ((first (x ∷ xs)) == 32) ≡ false
    → (more : (s : Step page quote before x xs (after_blanks page.indentation c)
    (fold (any_turn page.line_break) [])) → Left page quote x s.after s.part xs)
    → Run page quote before c (x ∷ xs)
run_char page quote before x xs c some b inside st one space more =
    let n = page.indentation in
    let d = after_blanks n c in
    let s = one (fold (any_turn page.line_break) []) (behind_run before d (x ∷ xs) (any_turn page.line_break) [] b space) in
    let m = more s in
    record {
      spaces = n;
      turns = [];
      parts = s.part ∷ m.parts;
      letters = replicate n 32 ++ (s.letters ++ m.letters);
      behind = m.behind;
      right = right_more (quote_byte quote) s.part m.parts s.stand m.next m.right;
      next = λ t ts. s.follow;
      may = λ e f. may_one e n some;
      text = λ rest.
          body_is page quote before x xs c rest
          ∙ lined_is page quote before x xs c (λ k. flow_body page quote x xs k rest) inside b
          ∙ start_is page.line_break n c (λ k. seat page quote before x xs k (λ j. flow_body page quote x xs j rest)) st
          ∙ ap (in_front (replicate n 32)) (s.text (λ j. flow_body page quote x xs j rest) ∙ ap (in_front s.letters) (m.text rest) ∙ front_more s.letters m.letters m.behind rest)
          ∙ front_more (replicate n 32) (s.letters ++ m.letters) m.behind rest;
      bytes =
          encodes-append (replicate n 32) (s.letters ++ m.letters)
          ∙ ap (λ (ys : List ℕ). ys ++ encode_utf8_all (s.letters ++ m.letters)) (spaces_low n)
          ∙ ap (λ (ys : List ℕ). replicate n 32 ++ ys) (encodes-append s.letters m.letters ∙ ap (λ (ys : List ℕ). ys ++ encode_utf8_all m.letters) s.bytes ∙ ap (λ (ys : List ℕ). spelled s.part ++ ys) m.bytes ∙ sym (spelling_more s.part m.parts) ∙ sym (ap (λ (ys : List ℕ). ys ++ spelling (s.part ∷ m.parts)) (no_turns quote)));
      means =
          ap (λ (ys : List ℕ). ys ++ meaning (s.part ∷ m.parts)) (no_turn_means quote) ∙ meaning_more s.part m.parts
          ∙ ap (λ (ys : List ℕ). ys ++ meaning m.parts) s.means ∙ ap (λ (ys : List ℕ). encode_utf8 x ++ ys) m.means;
      column = λ z. s.column (m.column z).0;
      kept = m.kept ∙ s.kept ∙ blanks_kept n c;
    }

-- a run goes on
run_more : (page : Page) (quote : Bool) (before x : ℕ) (xs : List ℕ) (c : Cursor)
    → is_break before ≡ true → is_break x ≡ true → is_printable x ≡ true
    → Run page quote x (line_start c) xs → Run page quote before c (x ∷ xs)
run_more page quote before x xs c b ends p r =
    let k = break_is page.line_break x ends p in
    let u : LineTurn = record { end = k.end; spaces = r.spaces } in
    record {
      spaces = 0;
      turns = u ∷ r.turns;
      parts = r.parts;
      letters = k.letters ++ r.letters;
      behind = r.behind;
      right = r.right;
      next = r.next;
      may = λ e f. may_more e 0 u r.turns (k.apart e f) (r.may k.end k.fits);
      text = λ rest.
          body_is page quote before x xs c rest
          ∙ none_more page quote before x xs c (λ j. flow_body page quote x xs j rest) ends (not_first (x == 10) (is_break before) b)
          ∙ k.writes c (λ j. flow_body page quote x xs j rest)
          ∙ ap (in_front k.letters) (r.text rest) ∙ front_more k.letters r.letters r.behind rest;
      bytes = encodes-append k.letters r.letters ∙ ap (λ (ys : List ℕ). ys ++ encode_utf8_all r.letters) k.bytes ∙ ap (λ (ys : List ℕ). end_bytes k.end ++ ys) r.bytes ∙ sym (turns_more u r.turns r.parts);
      means = means_more u r.turns r.parts ∙ ap (λ (ys : List ℕ). ys ++ (turn_means r.turns ++ meaning r.parts)) k.means ∙ ap (λ (ys : List ℕ). encode_utf8 x ++ ys) r.means;
      column = r.column;
      kept = r.kept;
    }
  where
    not_first : (a b : Bool) → b ≡ true → (a && not b) ≡ false
    not_first true b e = rw e refl
    not_first false b e = refl

-- a run begins with LF
left_feed : (page : Page) (quote : Bool) (before x : ℕ) (xs : List ℕ) (c : Cursor)
    (last : QuotedPart) → is_break before ≡ false → is_raw_blank last ≡ false → is_turn last ≡ false
    → is_break x ≡ true → is_printable x ≡ true → (x == 10) ≡ true
    → Run page quote x (line_start (line_start c)) xs
    → Left page quote before c last (x ∷ xs)
left_feed page quote before x xs c last inside no_blank no_turn ends p feed r =
    let k = break_is page.line_break x ends p in
    let e = end_of page.line_break in
    let u : LineTurn = record { end = k.end; spaces = r.spaces } in
    let t : LineTurn = record { end = e; spaces = 0 } in
    let x10 = eqb-true x 10 feed in
    let ten : encode_utf8 x ≡ 10 ∷ [] = ap (λ i. encode_utf8 i) x10 ∙ encode_ascii 10 (omega arith) in
    record {
      parts = fold t (u ∷ r.turns) ∷ r.parts;
      letters = break_text page.line_break ++ (k.letters ++ r.letters);
      behind = r.behind;
      right = right_more (quote_byte quote) (fold t (u ∷ r.turns)) r.parts (fold_stands quote t (u ∷ r.turns) (may_more e 0 u r.turns (k.apart e (own_fits page.line_break)) (r.may k.end k.fits))) (r.next t (u ∷ r.turns)) r.right;
      next = fold_next last t (u ∷ r.turns) r.parts no_blank no_turn;
      text = λ rest.
          body_is page quote before x xs c rest
          ∙ one_more page quote before x xs c (λ j. flow_body page quote x xs j rest) ends inside feed
          ∙ new_line_is page.line_break c (λ d. value_break page.line_break x d (λ j. flow_body page quote x xs j rest))
          ∙ ap (in_front (break_text page.line_break)) (k.writes (line_start c) (λ j. flow_body page quote x xs j rest) ∙ ap (in_front k.letters) (r.text rest) ∙ front_more k.letters r.letters r.behind rest)
          ∙ front_more (break_text page.line_break) (k.letters ++ r.letters) r.behind rest;
      bytes =
          encodes-append (break_text page.line_break) (k.letters ++ r.letters)
          ∙ ap (λ (ys : List ℕ). ys ++ encode_utf8_all (k.letters ++ r.letters)) (own_bytes page.line_break)
          ∙ ap (λ (ys : List ℕ). end_bytes e ++ ys) (encodes-append k.letters r.letters ∙ ap (λ (ys : List ℕ). ys ++ encode_utf8_all r.letters) k.bytes ∙ ap (λ (ys : List ℕ). end_bytes k.end ++ ys) r.bytes)
          ∙ sym (turn_two e u r.turns r.parts);
      means =
          meaning_more (fold t (u ∷ r.turns)) r.parts
          ∙ ap (λ (ys : List ℕ). ys ++ meaning r.parts) (feed_lost e u r.turns (own_means page.line_break) (k.means ∙ ten))
          ∙ ap (λ (ys : List ℕ). 10 ∷ ys) r.means ∙ ap (λ (ys : List ℕ). ys ++ encode_utf8_all xs) (sym ten);
      ones = λ f l. absurd (true≢false (sym l ∙ ap (λ b. not b && is_one_line xs) ends));
      column = λ z. absurd (r.column z);
      kept = r.kept;
    }

-- a run begins with LS or PS
left_other : (page : Page) (quote : Bool) (before x : ℕ) (xs : List ℕ) (c : Cursor)
    (last : QuotedPart) → is_raw_blank last ≡ false → is_turn last ≡ false → is_break x ≡ true
    → is_printable x ≡ true → (x == 10) ≡ false → Run page quote x (line_start c) xs
    → Left page quote before c last (x ∷ xs)
left_other page quote before x xs c last no_blank no_turn ends p other r =
    let k = break_is page.line_break x ends p in
    let t : LineTurn = record { end = k.end; spaces = r.spaces } in
    record {
      parts = fold t r.turns ∷ r.parts;
      letters = k.letters ++ r.letters;
      behind = r.behind;
      right = right_more (quote_byte quote) (fold t r.turns) r.parts (fold_stands quote t r.turns (r.may k.end k.fits)) (r.next t r.turns) r.right;
      next = fold_next last t r.turns r.parts no_blank no_turn;
      text = λ rest.
          body_is page quote before x xs c rest
          ∙ none_more page quote before x xs c (λ j. flow_body page quote x xs j rest) ends (ap (λ b. b && not (is_break before)) other)
          ∙ k.writes c (λ j. flow_body page quote x xs j rest)
          ∙ ap (in_front k.letters) (r.text rest) ∙ front_more k.letters r.letters r.behind rest;
      bytes = encodes-append k.letters r.letters ∙ ap (λ (ys : List ℕ). ys ++ encode_utf8_all r.letters) k.bytes ∙ ap (λ (ys : List ℕ). end_bytes k.end ++ ys) r.bytes ∙ sym (turn_one t r.turns r.parts);
      means =
          meaning_more (fold t r.turns) r.parts
          ∙ ap (λ (ys : List ℕ). ys ++ meaning r.parts) (k.stays other (turn_means r.turns)) ∙ append_assoc (end_means k.end) (turn_means r.turns) (meaning r.parts)
          ∙ ap (λ (ys : List ℕ). ys ++ (turn_means r.turns ++ meaning r.parts)) k.means ∙ ap (λ (ys : List ℕ). encode_utf8 x ++ ys) r.means;
      ones = λ f l. absurd (true≢false (sym l ∙ ap (λ b. not b && is_one_line xs) ends));
      column = λ z. absurd (r.column z);
      kept = r.kept;
    }

left_end : (page : Page) (quote : Bool) (before : ℕ) (c : Cursor) (last : QuotedPart)
    → is_break before ≡ false → Left page quote before c last []
unfolding in_front
left_end page quote before c last inside = record {
  parts = [];
  letters = [];
  behind = c;
  right = right_none (quote_byte quote);
  next = refl;
  text = λ rest. end_is page quote before c rest false inside ∙ sym refl;
  bytes = sym (no_spellings quote);
  means = no_meaning quote;
  ones = λ f l. tt;
  column = λ z. (z, refl);
  kept = refl;
}

left_char : (page : Page) (quote : Bool) (before x : ℕ) (xs : List ℕ) (c : Cursor)
    (last : QuotedPart) → is_break before ≡ false → is_break x ≡ false
    → (s : Step page quote before x xs c last) → Left page quote x s.after s.part xs
    → Left page quote before c last (x ∷ xs)
left_char page quote before x xs c last inside here s m = record {
  parts = s.part ∷ m.parts;
  letters = s.letters ++ m.letters;
  behind = m.behind;
  right = right_more (quote_byte quote) s.part m.parts s.stand m.next m.right;
  next = s.follow;
  text = λ rest.
      body_is page quote before x xs c rest
      ∙ char_is page quote before x xs c (λ k. flow_body page quote x xs k rest) here inside
      ∙ s.text (λ j. flow_body page quote x xs j rest) ∙ ap (in_front s.letters) (m.text rest) ∙ front_more s.letters m.letters m.behind rest;
  bytes = encodes-append s.letters m.letters ∙ ap (λ (ys : List ℕ). ys ++ encode_utf8_all m.letters) s.bytes ∙ ap (λ (ys : List ℕ). spelled s.part ++ ys) m.bytes ∙ sym (spelling_more s.part m.parts);
  means = meaning_more s.part m.parts ∙ ap (λ (ys : List ℕ). ys ++ meaning m.parts) s.means ∙ ap (λ (ys : List ℕ). encode_utf8 x ++ ys) m.means;
  ones = λ f l. (s.one f, m.ones f (and_parts (not (is_break x)) (is_one_line xs) l).1);
  column = λ z. absurd (s.column (m.column z).0);
  kept = m.kept ∙ s.kept;
}

-- the indentation that is due
pub record Deep (page : Page) (value : List ℕ) : Type 0 where
  pub cuts : page.cuts ≡ true → 0 < page.indentation
  pub lines : is_one_line value ≡ false → 0 < page.indentation

deep_more : (page : Page) (x : ℕ) (xs : List ℕ) → Deep page (x ∷ xs) → Deep page xs
deep_more page x xs d = record { cuts = d.cuts; lines = λ e. d.lines (ap (λ b. not (is_break x) && b) e ∙ and-false (not (is_break x))) }

pub deep_all : (page : Page) (value : List ℕ) → 0 < page.indentation → Deep page value
deep_all page value h = record { cuts = λ e. h; lines = λ e. h }

behind_step : (page : Page) (quote : Bool) (before x : ℕ) (xs : List ℕ) (c : Cursor)
    (last : QuotedPart) → (s : Step page quote before x xs c last) → Behind x s.after s.part xs
behind_step page quote before x xs c last s = record { blank = s.blank; turn = λ t. (inl (s.turn t).0, (s.turn t).1); bare = λ f g. s.bare f }

no_space : (before x : ℕ) → is_break before ≡ false → (is_break before && x == 32) ≡ false
no_space before x e = ap (λ b. b && x == 32) e

-- where a break follows, the last part is neither white nor a fold
abbrev pub Free : QuotedPart → List ℕ → Type 0
Free last value = is_break (first value) ≡ true → (is_raw_blank last ≡ false) × (is_turn last ≡ false)

free_step : (page : Page) (quote : Bool) (before x : ℕ) (xs : List ℕ) (c : Cursor)
    (last : QuotedPart) → (s : Step page quote before x xs c last)
    → (x == 32 && is_break (first xs)) ≡ false → Free s.part xs
free_step page quote before x xs c last s eqb-false ends = grind arith

mutual
  -- the character before ends no line, and is no space where a break follows
  pub left : (page : Page) (quote : Bool) (before : ℕ) (c : Cursor) (last : QuotedPart)
      (value : List ℕ) → Deep page value → AllShow value → Behind before c last value
      → Free last value → is_break before ≡ false → Left page quote before c last value
  left page quote before c last [] deep a h eqb-false inside = left_end page quote before c last inside
  left page quote before c last (x ∷ xs) deep (s, a) h eqb-false inside =
      bool_cases (is_break x)
      (λ ends.
      let (no_blank, no_turn) = eqb-false ends in
      let some = deep.lines (ap (λ b. not b && is_one_line xs) ends) in
      let next : (first xs == 32) ≡ false = sym (ap (λ b. b && first xs == 32) ends) ∙ s.broken in
      bool_cases (x == 10)
      (λ feed. left_feed page quote before x xs c last inside no_blank no_turn ends s.printable feed (run page quote x (line_start (line_start c)) xs some a ends next (starts_line (line_start c))))
      (λ other. left_other page quote before x xs c last no_blank no_turn ends s.printable other (run page quote x (line_start c) xs some a ends next (starts_line c))))
      (λ here.
      let one = step page quote before x xs c last deep.cuts s here h (no_space before x inside) in
      left_char page quote before x xs c last inside here one (left page quote x one.after one.part xs (deep_more page x xs deep) a (behind_step page quote before x xs c last one) (free_step page quote before x xs c last one s.space) here))

  -- the character before is a break
  run : (page : Page) (quote : Bool) (before : ℕ) (c : Cursor) (value : List ℕ)
      → 0 < page.indentation → AllShow value → is_break before ≡ true → (first value == 32) ≡ false
      → Starts c → Run page quote before c value
  run page quote before c [] some a b space st = run_end page quote before c some b st
  run page quote before c (x ∷ xs) some (s, a) b space st =
      bool_cases (is_break x)
      (λ ends. run_more page quote before x xs c b ends s.printable (run page quote x (line_start c) xs some a ends (sym (ap (λ t. t && first xs == 32) ends) ∙ s.broken) (starts_line c)))
      (λ here.
      run_char page quote before x xs c some b here st
      (λ last h. step page quote before x xs (after_blanks page.indentation c) last (λ e. some) s here h (ap (λ t. is_break before && t) space ∙ and-false (is_break before)))
      space
      (λ one. left page quote x one.after one.part xs (deep_all page xs some) a (behind_step page quote before x xs (after_blanks page.indentation c) (fold (any_turn page.line_break) []) one) (free_step page quote before x xs (after_blanks page.indentation c) (fold (any_turn page.line_break) []) one s.space) here))
