-- What follows nodes in brackets, and what they begin with.
use Rattle.std.proofs.Common.{◌≡◌, ℕ, ◌+◌, ◌==◌, ◌||◌, nat_lt, Bool, true, false, List, [], ◌∷◌, ◌++◌, refl, sym, ap, subst, ◌∙◌, inl, inr, arith, replicate, None, Some, if◌then◌else◌, Option, ◌-◌, ◌&&◌, not, length, zero, suc, append_assoc}
use Rattle.yaml_emit_laws.proofs.NodeWords.{cases_Bool, or_left, or_right, false≢true, nat_tests, is_bracket, Cursor, LineBreak, Settings, Page, Style, Layout, Rest, ◌▹◌, when, gap, blank, char, letters, word, line, wrap, is_past, new_line, after_text, after_block, break_text, scalar_text, flow_body, block_body, digit_mark, chomp_mark, chomp, quoted_body, TagDirective, Nodes, no_nodes, node, Pairs, no_pairs, pair, Context, checked, MOST, properties_text, items_layout, pairs_layout, before_item, before_key, closer, bytes, first, Left, letter_low, deep_bytes, left_letter, stops_plain_at, begins_white, behind_lines, what_stops, blanks_white, no_comment, ends_name, FollowsIn, IsClear, PartedBehind, lettered_on, after_blanks, line_start, pretty, yaml_encoding_t, TokenBody, column_at, indent, are_gap, has_break, has_at, has_front, left_rest, IsRight, sign, WalkState, WalkReads, Outside, behind, signs_come, words_leave, walk_white, walk_word, walk_asks, walk_answers, deeper_leaves, blanks_kept}
use Rattle.yaml_emit_layout.specs.declared.Style.TheVariants as style
use Rattle.yaml_emit_laws.proofs.Following.{line_bytes, line_calm}
use Rattle.yaml_emit_laws.proofs.DocStarts.{break_white}
use Rattle.yaml_emit_layout.specs.scan_types.Tokens as tokens
use Rattle.yaml_scan_history.specs.declared.kind.Kind.TheVariants as kinds
use Rattle.yaml_emit_laws.proofs.Lining.{sign_next}
use Rattle.yaml_emit_laws.proofs.FlowSteps.{leave_clear, off_or}
use Rattle.yaml_emit_laws.proofs.Stopping.{white_next}

abbrev pub prettily : Settings → List TagDirective → Context
prettily s ds = record { settings = pretty s; directives = ds }

-- ---- a comma or a closing bracket follows

-- its first byte is a comma or a closing bracket
pub record Bracketed (rest : Rest) : Type 0 where
  pub byte : ℕ
  pub is : (byte == 44 || (byte == 93 || byte == 125)) ≡ true
  pub more : Cursor → List ℕ
  pub same : (e : Cursor) → bytes (rest e) ≡ byte ∷ more e

bracket_calm : (b : ℕ) (bs : List ℕ) → (b == 44 || (b == 93 || b == 125)) ≡ true
    → no_comment (b ∷ bs) ≡ true
unfolding no_comment
bracket_calm b bs e = grind (arith, nat_tests)

pub bracket_follows : (rest : Rest) → Bracketed rest → FollowsIn rest
unfolding is_bracket
bracket_follows rest b = record {
  stops = λ level e bare white. ap (λ bs. stops_plain_at true level None bs) (b.same e) ∙ (what_stops true level None).1 b.byte (b.more e) (grind (arith, nat_tests));
  calm = λ e bare white. ap (λ bs. no_comment bs) (b.same e) ∙ bracket_calm b.byte (b.more e) b.is;
  name = λ e bare white. ap (λ bs. ends_name bs) (b.same e) ∙ or_right (begins_white (b.byte ∷ b.more e)) (b.byte == 44 || (b.byte == 93 || b.byte == 125)) b.is;
}

pub items_follow_in : (s : Settings) (ds : List TagDirective) (n : ℕ) (xs : Nodes) (rest : Rest)
    → FollowsIn (λ c. items_layout (prettily s ds) true n false xs c rest)
unfolding items_layout before_item closer
items_follow_in s ds n no_nodes rest = bracket_follows (λ c. char 93 c rest) (record { byte = 93; is = refl; more = λ e. bytes (rest (lettered_on e)); same = λ e. letter_low 93 (rest (lettered_on e)) refl })
items_follow_in s ds n (node x xs) rest =
    let after : Rest = λ d. items_layout (prettily s ds) true n true (node x xs) d rest in
    bracket_follows (λ c. char 44 c after) (record { byte = 44; is = refl; more = λ e. bytes (after (lettered_on e)); same = λ e. letter_low 44 (after (lettered_on e)) refl })

pub pairs_follow_in : (s : Settings) (ds : List TagDirective) (n : ℕ) (ps : Pairs) (rest : Rest)
    → FollowsIn (λ c. pairs_layout (prettily s ds) true n false ps c rest)
unfolding pairs_layout before_key closer
pairs_follow_in s ds n no_pairs rest = bracket_follows (λ c. char 125 c rest) (record { byte = 125; is = refl; more = λ e. bytes (rest (lettered_on e)); same = λ e. letter_low 125 (rest (lettered_on e)) refl })
pairs_follow_in s ds n (pair k v ps) rest =
    let after : Rest = λ d. pairs_layout (prettily s ds) true n true (pair k v ps) d rest in
    bracket_follows (λ c. char 44 c after) (record { byte = 44; is = refl; more = λ e. bytes (after (lettered_on e)); same = λ e. letter_low 44 (after (lettered_on e)) refl })

-- ---- the `:` of a `?` follows

pub colon_calm : (bs : List ℕ) → no_comment (58 ∷ bs) ≡ true
unfolding no_comment
colon_calm bs = refl

-- after white
colon_bytes : (d : Cursor) (after : Rest) → d.white ≡ true
    → bytes (word (58 ∷ []) d after) ≡ 58 ∷ bytes (after (lettered_on d))
unfolding letters
colon_bytes d after white = ap (λ (b : Bool). bytes (if b then char 58 d after else blank d (λ k. char 58 k after))) white ∙ letter_low 58 (after (lettered_on d)) refl

-- after text
spaced_bytes : (d : Cursor) (after : Rest) → d.white ≡ false
    → bytes (word (58 ∷ []) d after) ≡ 32 ∷ 58
    ∷ bytes (after (lettered_on (record
    { column = d.column + 1; white = true; bare = d.bare; kept = d.kept })))
unfolding letters
spaced_bytes d after white = grind (arith, nat_tests, letter_low)

pub record AnswerBytes (bs : List ℕ) : Type 0 where
  pub stops : (level : ℕ) → stops_plain_at true level None bs ≡ true
  pub calm : no_comment bs ≡ true
  pub name : ends_name bs ≡ true

pub white_ends : (bs : List ℕ) → begins_white bs ≡ true → ends_name bs ≡ true
white_ends bs e = grind (arith, nat_tests)

answer_line : (b : LineBreak) (n : ℕ) (e : Cursor) (after : Rest) → PartedBehind after
    → e.bare ≡ false → AnswerBytes (bytes (line b n e (λ d. word (58 ∷ []) d after)))
answer_line b n e after parted bare =
    let d = after_blanks n (line_start e) in
    let tail = bytes (after (lettered_on d)) in
    let colon = colon_bytes d after (blanks_white n (line_start e) refl) in
    let same = line_bytes b n e (λ k. word (58 ∷ []) k after) bare ∙ ap (λ (bs : List ℕ). break_text b ++ (replicate n 32 ++ bs)) colon in
    record {
      stops = λ level. ap (λ bs. stops_plain_at true level None bs) same ∙ (behind_lines true level n (58 ∷ tail)).0 b None ∙ (what_stops true level (Some n)).2 tail (parted (lettered_on d) refl refl);
      calm = ap (λ bs. no_comment bs) same ∙ line_calm b n (58 ∷ tail) ∙ colon_calm tail;
      name = white_ends (bytes (line b n e (λ k. word (58 ∷ []) k after))) (ap (λ bs. begins_white bs) same ∙ break_white b (replicate n 32 ++ (58 ∷ tail)));
    }

answer_here : (e : Cursor) (after : Rest) → PartedBehind after → e.white ≡ false
    → AnswerBytes (bytes (word (58 ∷ []) e after))
unfolding no_comment
answer_here e after parted white =
    let d : Cursor = record { column = e.column + 1; white = true; bare = e.bare; kept = e.kept } in
    let tail = bytes (after (lettered_on d)) in
    let same = spaced_bytes e after white in
    record {
      stops = λ level. ap (λ bs. stops_plain_at true level None bs) same ∙ (behind_lines true level 1 (58 ∷ tail)).1 ∙ (what_stops true level None).2 tail (parted (lettered_on d) refl refl);
      calm = ap (λ bs. no_comment bs) same;
      name = ap (λ bs. ends_name bs) same;
    }

answer_bytes : (width : ℕ) (b : LineBreak) (n : ℕ) (e : Cursor) (after : Rest) → PartedBehind after
    → e.bare ≡ false → e.white ≡ false
    → AnswerBytes (bytes (wrap width b n e (λ d. word (58 ∷ []) d after)))
answer_bytes width b n e after parted bare white =
    let k : Rest = λ d. word (58 ∷ []) d after in
    elim (cases_Bool (is_past width e)) [
      | inl h ↦ subst (λ (t : Bool). AnswerBytes (bytes (if t then line b n e k else k e))) (sym h) (answer_line b n e after parted bare)
      | inr h ↦ subst (λ (t : Bool). AnswerBytes (bytes (if t then line b n e k else k e))) (sym h) (answer_here e after parted white)
    ]

pub answer_follows : (width : ℕ) (b : LineBreak) (n : ℕ) (after : Rest) → PartedBehind after
    → FollowsIn (λ e. wrap width b n e (λ d. word (58 ∷ []) d after))
answer_follows width b n after parted = record {
  stops = λ level e bare white. (answer_bytes width b n e after parted bare white).stops level;
  calm = λ e bare white. (answer_bytes width b n e after parted bare white).calm;
  name = λ e bare white. (answer_bytes width b n e after parted bare white).name;
}

-- ---- what a node begins with

-- a space, where white wasn't last
abbrev pub Spaced : Rest → Type 0
Spaced rest = (e : Cursor) → e.white ≡ false → first (bytes (rest e)) ≡ 32

pub space_parts : (bs : List ℕ) → first bs ≡ 32 → begins_white bs ≡ true
space_parts bs e = grind (arith, nat_tests)

pub gap_spaced : (a : Layout) (rest : Rest) → Spaced (λ e. (gap ▹ a) e rest)
gap_spaced a rest e white = grind (arith, nat_tests, letter_low)

pub checked_spaced : (n : ℕ) (a : Layout) (rest : Rest) → Spaced (λ e. a e rest)
    → Spaced (λ e. (checked n ▹ a) e rest)
checked_spaced n a rest h e white = ap (λ (bs : List ℕ). first bs) (deep_bytes (nat_lt MOST n) (a e rest)) ∙ h e white

pub tag_spaced : (p : Context) (tag : Option (List ℕ)) (a : Layout) (rest : Rest)
    → Spaced (λ e. a e rest) → Spaced (λ e. (properties_text p None tag ▹ a) e rest)
tag_spaced p tag a rest h = grind (arith, nat_tests, gap_spaced)

pub properties_spaced : (p : Context) (anchor tag : Option (List ℕ)) (a : Layout) (rest : Rest)
    → Spaced (λ e. a e rest) → Spaced (λ e. (properties_text p anchor tag ▹ a) e rest)
properties_spaced p anchor tag a rest h = grind (arith, nat_tests, tag_spaced, gap_spaced)

pub mark_spaced : (b : Bool) (a : Layout) (rest : Rest) → Spaced (λ e. a e rest)
    → Spaced (λ e. (when b (word (33 ∷ [])) ▹ a) e rest)
mark_spaced b a rest h = grind (arith, nat_tests, gap_spaced)

abbrev from_sign : Page → ℕ → Bool → List ℕ → Layout
from_sign page digit folded value = (char (if folded then 62 else 124) ▹ (digit_mark digit value ▹ chomp_mark (chomp true true value))) ▹ (new_line page.line_break ▹ (block_body page folded true 10 value ▹ after_block))

-- in brackets a space is before a scalar of every style
pub text_spaced : (page : Page) (digit : ℕ) (s : Style) (value : List ℕ) (rest : Rest)
    → Spaced (λ e. scalar_text page digit true s value e rest)
unfolding scalar_text
text_spaced page digit style.Plain value rest = gap_spaced (flow_body page false 32 value ▹ after_text) rest
text_spaced page digit style.Single value rest = gap_spaced (char 39 ▹ (flow_body page true 32 value ▹ char 39)) rest
text_spaced page digit style.Double value rest = gap_spaced (char 34 ▹ (quoted_body page 32 value ▹ char 34)) rest
text_spaced page digit style.Literal value rest = gap_spaced (from_sign page digit false value) rest
text_spaced page digit style.Folded value rest = gap_spaced (from_sign page digit true value) rest

-- ==== Lines, commas, brackets, `?` and its `:` in brackets.

-- ---- lines

-- After white in brackets.
pub record Turned (x : yaml_encoding_t) (text : List ℕ) (rest : Rest) (kept : Bool) (o : WalkState) (cs ls : List ℕ) (T : List TokenBody → List TokenBody) : Type 0 where
  pub cursor : Cursor
  pub place : WalkState
  pub reads : WalkReads x text place cs ls [] T
  pub deep : place.depth ≡ o.depth
  pub now : o.now ≡ true → place.now ≡ true
  pub left : Left text place.at (bytes (rest cursor))
  pub same : cursor.kept ≡ kept

spaces_gap : (n : ℕ) → are_gap (replicate n 32) ≡ true
spaces_gap zero = refl
spaces_gap (suc n) = spaces_gap n

break_gap : (b : LineBreak) (n : ℕ) → are_gap (break_text b ++ replicate n 32) ≡ true
break_gap b n = grind (arith, nat_tests, spaces_gap)

line_in : (b : LineBreak) (n : ℕ) (x : yaml_encoding_t) (text : List ℕ) (c : Cursor) (rest : Rest)
    (o : WalkState) (cs ls : List ℕ) (T : List TokenBody → List TokenBody) → c.bare ≡ false
    → WalkReads x text o cs ls [] T → Left text o.at (bytes (line b n c rest))
    → Turned x text rest c.kept o cs ls T
line_in b n x text c rest o cs ls T bare r l =
    let e = after_blanks n (line_start c) in
    let white = break_text b ++ replicate n 32 in
    let m = subst (λ (bs : List ℕ). Left text o.at bs) (line_bytes b n c rest bare ∙ sym (append_assoc (break_text b) (replicate n 32) (bytes (rest e)))) l in
    record {
      cursor = e;
      place = record { at = o.at + length white; line = o.line; depth = o.depth; now = o.now || (has_break white && o.broken); broken = o.broken };
      reads = walk_white x text o cs ls [] T white r (has_at text o.at white (has_front text o.at white (bytes (rest e)) m.has)) (break_gap b n);
      deep = refl;
      now = λ h. or_left o.now (has_break white && o.broken) h;
      left = left_rest text o.at white (bytes (rest e)) m;
      same = blanks_kept n (line_start c);
    }

-- past the width a line, else nothing
pub wrap_in : (width : ℕ) (b : LineBreak) (n : ℕ) (x : yaml_encoding_t) (text : List ℕ) (c : Cursor)
    (rest : Rest) (o : WalkState) (cs ls : List ℕ) (T : List TokenBody → List TokenBody) → c.bare
    ≡ false → WalkReads x text o cs ls [] T → Left text o.at (bytes (wrap width b n c rest))
    → Turned x text rest c.kept o cs ls T
wrap_in width b n x text c rest o cs ls T bare r l =
    elim (cases_Bool (is_past width c)) [
      | inl e ↦ line_in b n x text c rest o cs ls T bare r (subst (λ (t : Bool). Left text o.at (bytes (if t then line b n c rest else rest c))) e l)
      | inr e ↦ record {
        cursor = c;
        place = o;
        reads = r;
        deep = refl;
        now = λ h. h;
        left = subst (λ (t : Bool). Left text o.at (bytes (if t then line b n c rest else rest c))) e l;
        same = refl;
      }
    ]

-- ---- a space that is due

abbrev pub behind_gap : Bool → Cursor → Cursor
behind_gap true c = c
behind_gap false c = record { column = c.column + 1; white = true; bare = c.bare; kept = c.kept }

pub gap_left : (text : List ℕ) (p : ℕ) (b : Bool) (c : Cursor) (rest : Rest)
    → Left text p (bytes (if b then rest c else blank c rest))
    → Left text p (if not b then 32 ∷ bytes (rest (behind_gap b c)) else bytes
    (rest (behind_gap b c)))
gap_left text p b c rest l = grind (arith, nat_tests, left_letter)

pub gap_kept : (b : Bool) (c : Cursor) → (behind_gap b c).kept ≡ c.kept
gap_kept b c = grind (arith, nat_tests)

-- ---- commas and brackets

-- After a sign in brackets, of which d are open.
pub record Signed (x : yaml_encoding_t) (text bs : List ℕ) (d : ℕ) (now : Bool) (cs ls : List ℕ) (T : List TokenBody → List TokenBody) : Type 0 where
  pub place : WalkState
  pub reads : WalkReads x text place cs ls [] T
  pub deep : place.depth ≡ d
  pub begin : place.now ≡ now
  pub broken : place.broken ≡ not (nat_lt 0 d)
  pub left : Left text place.at bs

signed : (x : yaml_encoding_t) (text bs : List ℕ) (q e d : ℕ) (now : Bool) (cs ls : List ℕ)
    (T : List TokenBody → List TokenBody) → e ≡ d → Left text (q + 1) bs
    → WalkReads x text (behind text q (q + 1) e now (not (nat_lt 0 e))) cs ls [] T
    → Signed x text bs d now cs ls T
signed x text bs q e d now cs ls T less left reads = record { place = behind text q (q + 1) e now (not (nat_lt 0 e)); reads = reads; deep = less; begin = refl; broken = ap (λ (n : ℕ). not (nat_lt 0 n)) less; left = left }

pub comma_on : (x : yaml_encoding_t) (text bs : List ℕ) (o : WalkState) (cs ls : List ℕ)
    (T : List TokenBody → List TokenBody) → WalkReads x text o cs ls [] T → nat_lt 0 o.depth ≡ true
    → Outside o.depth cs → Left text o.at (44 ∷ bs)
    → Signed x text bs o.depth true cs ls (λ ds. T (tokens.flow_entry ∷ ds))
comma_on x text bs o cs ls T r deep out l =
    let q = o.at + 0 in
    let s = sign_next text o.at 44 bs (omega arith) (omega arith) (λ h. omega (arith, h)) l in
    signed x text bs q o.depth o.depth true cs ls (λ ds. T (tokens.flow_entry ∷ ds)) refl s.left
    (walk_word x text o cs ls T kinds.FlowEntry [] (sign tokens.flow_entry (q + 1)) (q + 1) true (not (nat_lt 0 o.depth)) r (deeper_leaves kinds.FlowEntry o.depth (o.now || (false && o.broken)) cs out)
    (signs_come.comma text o.at o.depth (indent ls) [] s.none s.at) (or_right (nat_lt 0 o.depth) true refl) (inl deep) (λ v. absurd (false≢true v)) (words_leave.all text o.depth true (sign tokens.flow_entry (q + 1)) refl))

-- an opening bracket, by whether it is a mapping's
abbrev pub opening_of : Bool → ℕ
opening_of true = 123
opening_of false = 91

abbrev pub closing_of : Bool → ℕ
closing_of true = 125
closing_of false = 93

abbrev pub opens : Bool → TokenBody
opens true = tokens.flow_mapping_start
opens false = tokens.flow_sequence_start

abbrev pub closes : Bool → TokenBody
closes true = tokens.flow_mapping_end
closes false = tokens.flow_sequence_end

pub opener_on : (mapping : Bool) (x : yaml_encoding_t) (text bs : List ℕ) (o : WalkState)
    (cs ls : List ℕ) (T : List TokenBody → List TokenBody) → WalkReads x text o cs ls [] T
    → IsRight o.depth ls (column_at text o.at) → IsClear o cs
    → Left text o.at (opening_of mapping ∷ bs)
    → Signed x text bs (o.depth + 1) true cs ls (λ ds. T (opens mapping ∷ ds))
opener_on true x text bs o cs ls T r right clear l =
    let q = o.at + 0 in
    let d = o.depth in
    let z : o.at + 0 ≡ o.at = omega arith in
    let s = sign_next text o.at 123 bs (omega arith) (omega arith) (λ h. omega (arith, h)) l in
    signed x text bs q (d + 1) (d + 1) true cs ls (λ ds. T (tokens.flow_mapping_start ∷ ds)) refl s.left
    (walk_word x text o cs ls T kinds.FlowMappingStart [] (sign tokens.flow_mapping_start (q + 1)) (q + 1) true (not (nat_lt 0 (d + 1))) r (leave_clear kinds.FlowMappingStart o (o.now || (false && o.broken)) cs refl (off_or o.now o.broken) clear)
    (signs_come.mapping text o.at d (indent ls) [] s.none s.at) (or_right (nat_lt 0 d) true refl) (subst (λ (n : ℕ). IsRight d ls (column_at text n)) (sym z) right) (λ v. absurd (false≢true v)) (words_leave.all text (d + 1) true (sign tokens.flow_mapping_start (q + 1)) refl))
opener_on false x text bs o cs ls T r right clear l =
    let q = o.at + 0 in
    let d = o.depth in
    let z : o.at + 0 ≡ o.at = omega arith in
    let s = sign_next text o.at 91 bs (omega arith) (omega arith) (λ h. omega (arith, h)) l in
    signed x text bs q (d + 1) (d + 1) true cs ls (λ ds. T (tokens.flow_sequence_start ∷ ds)) refl s.left
    (walk_word x text o cs ls T kinds.FlowSequenceStart [] (sign tokens.flow_sequence_start (q + 1)) (q + 1) true (not (nat_lt 0 (d + 1))) r (leave_clear kinds.FlowSequenceStart o (o.now || (false && o.broken)) cs refl (off_or o.now o.broken) clear)
    (signs_come.sequence text o.at d (indent ls) [] s.none s.at) (or_right (nat_lt 0 d) true refl) (subst (λ (n : ℕ). IsRight d ls (column_at text n)) (sym z) right) (λ v. absurd (false≢true v)) (words_leave.all text (d + 1) true (sign tokens.flow_sequence_start (q + 1)) refl))

pub closer_on : (mapping : Bool) (x : yaml_encoding_t) (text bs : List ℕ) (o : WalkState) (d : ℕ)
    (cs ls : List ℕ) (T : List TokenBody → List TokenBody) → WalkReads x text o cs ls [] T
    → o.depth ≡ d + 1 → Outside (d + 1) cs → Left text o.at (closing_of mapping ∷ bs)
    → Signed x text bs d false cs ls (λ ds. T (closes mapping ∷ ds))
closer_on true x text bs o d cs ls T r deep out l =
    let q = o.at + 0 in
    let f = o.depth - 1 in
    let inside : nat_lt 0 o.depth ≡ true = grind (arith, nat_tests) in
    let s = sign_next text o.at 125 bs (omega arith) (omega arith) (λ h. omega (arith, h)) l in
    signed x text bs q f d false cs ls (λ ds. T (tokens.flow_mapping_end ∷ ds)) (omega (arith, deep)) s.left
    (walk_word x text o cs ls T kinds.FlowMappingEnd [] (sign tokens.flow_mapping_end (q + 1)) (q + 1) false (not (nat_lt 0 f)) r (deeper_leaves kinds.FlowMappingEnd o.depth (o.now || (false && o.broken)) cs (subst (λ (n : ℕ). Outside n cs) (sym deep) out))
    (signs_come.mapping_end text o.at o.depth (indent ls) [] s.none s.at) (or_right (nat_lt 0 o.depth) true refl) (inl inside) (λ v. absurd (false≢true v)) (words_leave.all text f false (sign tokens.flow_mapping_end (q + 1)) refl))
closer_on false x text bs o d cs ls T r deep out l =
    let q = o.at + 0 in
    let f = o.depth - 1 in
    let inside : nat_lt 0 o.depth ≡ true = grind (arith, nat_tests) in
    let s = sign_next text o.at 93 bs (omega arith) (omega arith) (λ h. omega (arith, h)) l in
    signed x text bs q f d false cs ls (λ ds. T (tokens.flow_sequence_end ∷ ds)) (omega (arith, deep)) s.left
    (walk_word x text o cs ls T kinds.FlowSequenceEnd [] (sign tokens.flow_sequence_end (q + 1)) (q + 1) false (not (nat_lt 0 f)) r (deeper_leaves kinds.FlowSequenceEnd o.depth (o.now || (false && o.broken)) cs (subst (λ (n : ℕ). Outside n cs) (sym deep) out))
    (signs_come.sequence_end text o.at o.depth (indent ls) [] s.none s.at) (or_right (nat_lt 0 o.depth) true refl) (inl inside) (λ v. absurd (false≢true v)) (words_leave.all text f false (sign tokens.flow_sequence_end (q + 1)) refl))

-- ---- a `?` and its `:`

pub question_on : (x : yaml_encoding_t) (text bs : List ℕ) (o : WalkState) (cs ls : List ℕ)
    (T : List TokenBody → List TokenBody) → WalkReads x text o cs ls [] T → nat_lt 0 o.depth ≡ true
    → Outside o.depth cs → begins_white bs ≡ true → Left text o.at (63 ∷ bs)
    → Signed x text bs o.depth false (o.depth ∷ cs) ls (λ ds. T (tokens.key ∷ ds))
question_on x text bs o cs ls T r deep out white l =
    let q = o.at + 0 in
    let s = sign_next text o.at 63 bs (omega arith) (omega arith) (λ h. omega (arith, h)) l in
    signed x text bs q o.depth o.depth false _ ls (λ ds. T (tokens.key ∷ ds)) refl s.left
    (walk_asks x text o cs ls T [] (sign tokens.key (q + 1)) (q + 1) false (not (nat_lt 0 o.depth)) r (deeper_leaves kinds.KeyMark o.depth (o.now || (false && o.broken)) cs out) deep
    (signs_come.question text o.at o.depth (indent ls) [] s.none s.at (white_next text (q + 1) bs s.left white)) (words_leave.all text o.depth false (sign tokens.key (q + 1)) refl))

pub answer_on : (x : yaml_encoding_t) (text bs : List ℕ) (o : WalkState) (cs ls : List ℕ)
    (T : List TokenBody → List TokenBody) → WalkReads x text o (o.depth ∷ cs) ls [] T
    → nat_lt 0 o.depth ≡ true → Outside o.depth cs → begins_white bs ≡ true
    → Left text o.at (58 ∷ bs)
    → Signed x text bs o.depth false cs ls (λ ds. T (tokens.value ∷ ds))
answer_on x text bs o cs ls T r deep out white l =
    let q = o.at + 0 in
    let s = sign_next text o.at 58 bs (omega arith) (omega arith) (λ h. omega (arith, h)) l in
    signed x text bs q o.depth o.depth false _ ls (λ ds. T (tokens.value ∷ ds)) refl s.left
    (walk_answers x text o cs ls T [] (sign tokens.value (q + 1)) (q + 1) false (not (nat_lt 0 o.depth)) r (deeper_leaves kinds.ValueMark o.depth (o.now || (false && o.broken)) cs out) deep
    (signs_come.colon text o.at o.depth (indent ls) [] s.none s.at (white_next text (q + 1) bs s.left white)) (words_leave.all text o.depth false (sign tokens.value (q + 1)) refl))
