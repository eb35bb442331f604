-- Keys are near their `:`.
use Rattle.std.proofs.Common.{◌≡◌, ℕ, ◌+◌, ◌<◌, ◌≤◌, ◌==◌, ◌&&◌, ◌||◌, not, Bool, true, false, List, [], ◌∷◌, ◌++◌, length, refl, sym, ap, subst, arith, append-nil, encode_utf8_all, ◌-◌, nat_lt, Some, Result, Ok, ◌∙◌, inl, inr, ◌⊎◌, append_assoc, if◌then◌else◌, true≢false}
use Rattle.yaml_round_laws.proofs.JsonWords.{list_all, or_parts, and_parts, nat_tests, mark_at, byte, column_at, is_blank_or_end, HasAt, begins_lexeme, is_fresh, margin_at, indent, is_white, are_white, Letter, string_bytes, AreLetters, is_break, has_break, are_kept, is_near, or-true, TokenBody, Wrong, is_document_start, is_document_end, PlainText, starts_plain, Has, has, has_front, WordText, indicator_of, kind_at, lexeme_at, valued, plainly, Comes, WordLeaves, WalkState, WalkReads, LeaveClear, behind, printed_begins, chain, no_start, no_end, no_percent, walk_word, walk_key_starts, walk_key_stops, Left, left_first, left_more, left_rest, end_begins, is_plain_value, letters_mean}
use Rattle.yaml_emit_layout.specs.declared.Cursor.{Cursor}
use Rattle.yaml_emit_layout.specs.Text.{is_break as ends}
use Rattle.yaml_emit_layout.specs.Layout.{Layout}
use Rattle.yaml_emit_layout.specs.Spelling.{in_front}
use Rattle.yaml_emit_laws.specs.ReadBack.{is_one_line}
use Rattle.yaml_emit_laws.specs.KeysLaws.{StaysNear}
use Rattle.yaml_emit_laws.proofs.Words.{front_encodes, quote_kind}
use Rattle.yaml_emit_laws.proofs.OneLine.{near_fresh}
use Rattle.yaml_round_laws.proofs.Strings.{Spelled, Passes, no_bytes, string_before, white_before, string_reads, is_solid, begins_solid}
use Rattle.std.proofs.lemmas.List.{length-append, get_or_past}
use Rattle.yaml_scan_history.specs.scan_model.declared.name.yaml_encoding_t.{yaml_encoding_t}
use Rattle.yaml_scan_history.specs.scan_model.declared.name.yaml_scalar_style_t.TheVariants.{YAML_PLAIN_SCALAR_STYLE, YAML_DOUBLE_QUOTED_SCALAR_STYLE}
use Rattle.yaml_round_content.specs.scan_types.Tokens as tokens
use Rattle.yaml_scan_history.specs.declared.kind.Kind.{Kind}
use Rattle.yaml_scan_history.specs.declared.kind.Kind.TheVariants as kinds
use Rattle.yaml_scan_history.specs.declared.lexeme.Opens.TheVariants as opening
use Rattle.yaml_scan_history.specs.Kinds.{depth_after, allows_key, is_value}
use Rattle.yaml_scan_laws.specs.Pushes.{IsRight, stays_level}
use Rattle.yaml_scan_laws.specs.Signs.{sign}
use Rattle.yaml_scan_laws.proofs.Slotting.{near_before, level_opens}
use Rattle.yaml_emit_laws.proofs.Places as places
use Rattle.yaml_round_laws.proofs.Whites.{tabs_fit, may_then, white_leaves, word_leaves}
use Rattle.yaml_round_laws.proofs.Plains.{IsStop, stops_at, plain_read, plain_begins}
use Rattle.yaml_emit_laws.proofs.Lining.{no_gap}

-- a character that ends no line
abbrev goes_on : ℕ → Bool
goes_on c = not (ends c)

passes : Passes goes_on
passes = record { printed = (λ b l h. grind (arith, nat_tests)); kept = λ c s h k. (grind (arith, nat_tests)) }

blank_on : (b : ℕ) → is_white b ≡ true → is_break b ≡ false → goes_on b ≡ true
blank_on b h k = grind (arith, nat_tests)

white_on : (ws : List ℕ) → are_white ws ≡ true → has_break ws ≡ false → list_all goes_on ws ≡ true
white_on [] h k = refl
white_on (w ∷ ws) h k =
    let (here, rest) = and_parts (is_white w) (are_white ws) h in
    let (calm, more) = or_parts (is_break w) (has_break ws) k in
    rw (blank_on w here calm) (white_on ws rest more)

one_line : (cs : List ℕ) → list_all goes_on cs ≡ true → is_one_line cs ≡ true
one_line [] h = refl
one_line (c ∷ cs) h = let (here, rest) = and_parts (goes_on c) (list_all goes_on cs) h in rw here (one_line cs rest)

-- a cursor, whichever
start : Cursor
start = record { column = 0; white = false; bare = false; kept = false }

near_parts : (ls : List Letter) (ws : List ℕ) → is_near ls ws ≡ true
    → (has_break ws ≡ false) × (length (string_bytes ls ++ ws) ≤ 1024)
near_parts ls ws h = (grind (arith, nat_tests), grind (arith, nat_tests))

-- few characters that end no line
line_near : (cs text : List ℕ) (p : ℕ) → is_one_line cs ≡ true → length (encode_utf8_all cs) ≤ 1024
    → HasAt text p (encode_utf8_all cs)
    → is_fresh (mark_at text p) (mark_at text (p + length (encode_utf8_all cs))) ≡ true
line_near cs text p inside few at =
    let a : Layout = λ c rest. in_front cs (rest c) in
    let stays : StaysNear a start 1024 = record { shown = cs; behind = start; written = λ rest. front_encodes cs (rest start); inside = inside; few = few } in
    let z : p + 0 ≡ p = omega arith in
    let F : ℕ → Type 0 = λ i. is_fresh (mark_at text i) (mark_at text (p + length (encode_utf8_all cs))) ≡ true in
    subst F z (near_fresh a start 1024 (omega arith) stays text p at 0)

pub key_near : (ls : List Letter) (ws : List ℕ) (text : List ℕ) (p : ℕ) → AreLetters ls
    → are_kept ls ≡ true → are_white ws ≡ true → is_near ls ws ≡ true
    → HasAt text p (string_bytes ls ++ ws)
    → is_fresh (mark_at text p) (mark_at text (p + length (string_bytes ls ++ ws))) ≡ true
key_near ls ws text p h k white near at =
    let key = string_bytes ls ++ ws in
    let (calm, few) = near_parts ls ws near in
    let tail : Spelled goes_on ws = subst (λ (bs : List ℕ). Spelled goes_on bs) (append-nil ws) (white_before goes_on ws [] white (white_on ws white calm) (no_bytes goes_on)) in
    let s = string_before goes_on passes ls ws h k tail in
    let size : length (encode_utf8_all s.characters) ≡ length key = ap (λ (bs : List ℕ). length bs) s.is in
    let F : List ℕ → Type 0 = λ bs. is_fresh (mark_at text p) (mark_at text (p + length bs)) ≡ true in
    subst F s.is (line_near s.characters text p (one_line s.characters s.all) (omega (arith, size, few)) (subst (λ (bs : List ℕ). HasAt text p bs) (sym s.is) at))

-- ==== A walk over a JSON text, word by word: each word goes with the white after it, up to the next word.

abbrev pub Tell : Type 0
Tell = List TokenBody → List TokenBody

-- ---- what begins a lexeme

solid_parts : (b : ℕ) → is_solid b ≡ true → (32 < b) × (b < 127)
solid_parts b h = (grind (arith, nat_tests), grind (arith, nat_tests))

solid_hash : (b : ℕ) → is_solid b ≡ true → b ≡ 35 → ⊥
solid_hash b h e = true≢false (sym (ap (λ (c : ℕ). is_solid c) (sym e) ∙ h))

pub solid_starts : (text : List ℕ) (p b : ℕ) → byte text p ≡ b → is_solid b ≡ true
    → begins_lexeme text p ≡ true
solid_starts text p b e h = let (low, high) = solid_parts b h in printed_begins text p b e low high (solid_hash b h)

pub left_starts : (text : List ℕ) (p : ℕ) (bs : List ℕ) → Left text p bs → begins_solid bs ≡ true
    → begins_lexeme text p ≡ true
left_starts text p bs l h = grind (arith, nat_tests, true≢false, solid_starts, left_first)

-- ---- what is after a value and its white

-- in brackets a comma or a closing one; outside the end
abbrev pub Behind : ℕ → List ℕ → Type 0
Behind d [] = d ≡ 0
Behind d (b ∷ bs) = (nat_lt 0 d ≡ true) × ((b ≡ 44) ⊎ ((b ≡ 93) ⊎ (b ≡ 125)))

pub nothing_left : (text : List ℕ) (p : ℕ) → Left text p [] → byte text p ≡ 0
nothing_left text p l = let e = l.ends in get_or_past text p 0 (omega (arith, e))

pub behind_stops : (d : ℕ) (bs text : List ℕ) (p : ℕ) → Behind d bs → Left text p bs
    → IsStop (nat_lt 0 d) (byte text p)
behind_stops d bs text p h l = grind (arith, nat_tests, nothing_left, left_first)

pub behind_starts : (d : ℕ) (bs text : List ℕ) (p : ℕ) → Behind d bs → Left text p bs
    → begins_lexeme text p ≡ true
behind_starts d bs text p h l = grind (arith, nat_tests, end_begins, nothing_left, solid_starts, left_first)

-- ---- places

-- At a word, or at the end: that many brackets are open, and these bytes are left.
pub record At (x : yaml_encoding_t) (text bs : List ℕ) (d : ℕ) (T : Tell) : Type 0 where
  pub place : WalkState
  pub reads : WalkReads x text place [] [] [] T
  pub deep : place.depth ≡ d
  pub left : Left text place.at bs

-- And a key may begin.
pub record Ready (x : yaml_encoding_t) (text bs : List ℕ) (d : ℕ) (T : Tell) : Type 0 where
  pub at : At x text bs d T
  pub now : at.place.now ≡ true

has_of : (text : List ℕ) (p : ℕ) (ws bs : List ℕ) → Left text p (ws ++ bs) → Has text p ws
has_of text p ws bs l = has text p ws (places.has_at text p ws (places.has_front text p ws bs l.has))

-- ---- a word

leave_none : (k : Kind) (f : ℕ) (a : Bool) → LeaveClear k f a []
unfolding LeaveClear
leave_none k f a = tt

pub indent_none : indent [] ≡ 0
unfolding indent
indent_none = refl

right_none : (d c : ℕ) → IsRight d [] c
right_none d c = inr (let z = indent_none in omega (arith, z))

-- a lexeme is at the place
record Stands (text : List ℕ) (p d : ℕ) (k : Kind) (w : WordText) : Type 0 where
  starts : begins_lexeme text p ≡ true
  kind : kind_at (nat_lt 0 d) text p ≡ Some k
  word : lexeme_at k (nat_lt 0 d) 0 text p ≡ Ok w

comes_of : (text : List ℕ) (p d : ℕ) (k : Kind) (w : WordText) (e : ℕ) → Stands text p d k w → p ≤ e
    → Comes text p d (indent []) k [] w e
comes_of text p d k w e s up =
    let z : p + 0 ≡ p = omega arith in
    record {
      behind = no_gap text p s.starts;
      kind = ap (λ n. kind_at (nat_lt 0 d) text n) z ∙ s.kind;
      word = ap (λ n. lexeme_at k (nat_lt 0 d) (indent []) text n) z ∙ ap (λ n. lexeme_at k (nat_lt 0 d) n text p) indent_none ∙ s.word;
      up = omega (arith, up);
    }

-- a word that is no key, up to the next one
step : (x : yaml_encoding_t) (text bs : List ℕ) (d f : ℕ) (T : Tell) (k : Kind) (w : WordText)
    (e : ℕ) (may : Bool) (o : WalkState) → WalkReads x text o [] [] [] T
    → Stands text o.at o.depth k w
    → o.at ≤ e → stays_level k o.depth ≡ true → is_value k ≡ false
    → WordLeaves text (depth_after k o.depth) (allows_key k (o.depth == 0) false) w e may false
    → depth_after k o.depth ≡ f → Left text e bs
    → (may ≡ true → Ready x text bs f (λ es. T (w.body ∷ es)))
    × At x text bs f (λ es. T (w.body ∷ es))
step x text bs d f T k w e may o r s up stays plain leaves deep left =
    let c = comes_of text o.at o.depth k w e s up in
    let q = o.at + 0 in
    let next = walk_word x text o [] [] T k [] w e may false r (leave_none k o.depth _) c stays (right_none o.depth (column_at text q)) (λ v. absurd (true≢false (sym v ∙ plain))) leaves in
    let at : At x text bs f (λ es. T (w.body ∷ es)) = record { place = behind text q e (depth_after k o.depth) may false; reads = next; deep = deep; left = left } in
    (λ h. record { at = at; now = h }, at)

-- ---- kinds of lexemes

kind_by : (flow : Bool) (text : List ℕ) (p b : ℕ) (k : Kind) → byte text p ≡ b → (b == 0) ≡ false
    → (b == 37) ≡ false → (b == 45) ≡ false → (b == 46) ≡ false
    → indicator_of flow (is_blank_or_end text (p + 1)) b ≡ Some k → kind_at flow text p ≡ Some k
unfolding kind_at
kind_by flow text p b k h z pc ds de o =
    chain (byte text p == 0) (byte text p == 37 && column_at text p == 0) (is_document_start text p) (is_document_end text p) (starts_plain flow text p) (indicator_of flow (is_blank_or_end text (p + 1)) (byte text p)) k
    (ap (λ (x : ℕ). x == 0) h ∙ z) (no_percent (byte text p == 37) (column_at text p == 0) (ap (λ (x : ℕ). x == 37) h ∙ pc)) (no_start text p b h ds) (no_end text p b h de)
    (ap (λ (x : ℕ). indicator_of flow (is_blank_or_end text (p + 1)) x) h ∙ o)

-- ---- signs

-- what a sign is: its byte, its kind, and its token
record IsSign (b : ℕ) (k : Kind) (body : TokenBody) (d : ℕ) : Type 0 where
  solid : is_solid b ≡ true
  kind : (text : List ℕ) (p : ℕ) → byte text p ≡ b → kind_at (nat_lt 0 d) text p ≡ Some k
  word : (text : List ℕ) (p : ℕ) → lexeme_at k (nat_lt 0 d) 0 text p ≡ Ok (sign body (p + 1))

sign_stands : (b : ℕ) (k : Kind) (body : TokenBody) (d : ℕ) → IsSign b k body d
    → (text : List ℕ) (p : ℕ) → byte text p ≡ b → Stands text p d k (sign body (p + 1))
sign_stands b k body d is text p h = record { starts = solid_starts text p b h is.solid; kind = is.kind text p h; word = is.word text p }

-- in brackets a `:` is alone whatever follows
colon_kind : (flow alone : Bool) → flow ≡ true → indicator_of flow alone 58 ≡ Some kinds.ValueMark
unfolding indicator_of
colon_kind flow alone e = grind (arith, nat_tests)

opener_sign : (mapping : Bool) (d : ℕ)
    → IsSign (if mapping then 123 else 91)
    (if mapping then kinds.FlowMappingStart else kinds.FlowSequenceStart)
    (if mapping then tokens.flow_mapping_start else tokens.flow_sequence_start) d
unfolding lexeme_at indicator_of
opener_sign true d = record { solid = refl; kind = λ text p h. kind_by (nat_lt 0 d) text p 123 kinds.FlowMappingStart h refl refl refl refl refl; word = λ text p. refl }
opener_sign false d = record { solid = refl; kind = λ text p h. kind_by (nat_lt 0 d) text p 91 kinds.FlowSequenceStart h refl refl refl refl refl; word = λ text p. refl }

closer_sign : (mapping : Bool) (d : ℕ)
    → IsSign (if mapping then 125 else 93)
    (if mapping then kinds.FlowMappingEnd else kinds.FlowSequenceEnd)
    (if mapping then tokens.flow_mapping_end else tokens.flow_sequence_end) d
unfolding lexeme_at indicator_of
closer_sign true d = record { solid = refl; kind = λ text p h. kind_by (nat_lt 0 d) text p 125 kinds.FlowMappingEnd h refl refl refl refl refl; word = λ text p. refl }
closer_sign false d = record { solid = refl; kind = λ text p h. kind_by (nat_lt 0 d) text p 93 kinds.FlowSequenceEnd h refl refl refl refl refl; word = λ text p. refl }

comma_sign : (d : ℕ) → IsSign 44 kinds.FlowEntry tokens.flow_entry d
unfolding lexeme_at indicator_of
comma_sign d = record { solid = refl; kind = λ text p h. kind_by (nat_lt 0 d) text p 44 kinds.FlowEntry h refl refl refl refl refl; word = λ text p. refl }

colon_sign : (d : ℕ) → nat_lt 0 d ≡ true → IsSign 58 kinds.ValueMark tokens.value d
unfolding lexeme_at
colon_sign d deep = record { solid = refl; kind = λ text p h. kind_by (nat_lt 0 d) text p 58 kinds.ValueMark h refl refl refl refl (colon_kind (nat_lt 0 d) (is_blank_or_end text (p + 1)) deep); word = λ text p. refl }

-- a sign and the white after it
sign_step : (x : yaml_encoding_t) (text : List ℕ) (b f : ℕ) (T : Tell) (k : Kind) (body : TokenBody)
    (ws bs : List ℕ) (o : WalkState) → WalkReads x text o [] [] [] T → IsSign b k body o.depth
    → stays_level k o.depth ≡ true → is_value k ≡ false → depth_after k o.depth ≡ f
    → are_white ws ≡ true
    → tabs_fit (nat_lt 0 (depth_after k o.depth)) (allows_key k (o.depth == 0) false || false) ws
    ≡ true → Left text o.at (b ∷ (ws ++ bs))
    → ((q : ℕ) → Left text q bs → begins_lexeme text q ≡ true)
    → let may = may_then text (depth_after k o.depth) (allows_key k (o.depth == 0) false)
    (sign body (o.at + 1)) in
    (may ≡ true → Ready x text bs f (λ es. T (body ∷ es))) × At x text bs f (λ es. T (body ∷ es))
sign_step x text b f T k body ws bs o r is stays plain deep white fits l starts =
    let p = o.at in
    let w = sign body (p + 1) in
    let more = left_more text p b (ws ++ bs) l in
    let left = left_rest text (p + 1) ws bs more in
    let leaves = white_leaves text (depth_after k o.depth) (allows_key k (o.depth == 0) false) w ws (has_of text (p + 1) ws bs more) white fits (starts (p + 1 + length ws) left) in
    step x text bs o.depth f T k w (p + 1 + length ws) _ o r (sign_stands b k body o.depth is text p (left_first text p b (ws ++ bs) l)) (omega arith) stays plain leaves deep left

deeper : (d : ℕ) → nat_lt 0 (d + 1) ≡ true
deeper d = grind (arith, nat_tests)

flow_fits : (flow allowed : Bool) (ws : List ℕ) → flow ≡ true → tabs_fit flow allowed ws ≡ true
flow_fits flow allowed ws e = grind (arith, nat_tests)

-- ---- brackets and commas

pub opener_step : (mapping : Bool) (x : yaml_encoding_t) (text ws bs : List ℕ) (d : ℕ) (T : Tell)
    → At x text ((if mapping then 123 else 91) ∷ (ws ++ bs)) d T → are_white ws ≡ true
    → begins_solid bs ≡ true
    → Ready x text bs (d + 1) (λ es. T
    ((if mapping then tokens.flow_mapping_start else tokens.flow_sequence_start) ∷ es))
opener_step true x text ws bs d T a white solid =
    let o = a.place in
    let same = a.deep in
    (sign_step x text 123 (d + 1) T kinds.FlowMappingStart tokens.flow_mapping_start ws bs o a.reads (opener_sign true o.depth) (or-true (nat_lt 0 o.depth)) refl (ap (λ (n : ℕ). n + 1) same) white
    (flow_fits (nat_lt 0 (o.depth + 1)) true ws (deeper o.depth)) a.left (λ q l. left_starts text q bs l solid)).0 refl
opener_step false x text ws bs d T a white solid =
    let o = a.place in
    let same = a.deep in
    (sign_step x text 91 (d + 1) T kinds.FlowSequenceStart tokens.flow_sequence_start ws bs o a.reads (opener_sign false o.depth) (or-true (nat_lt 0 o.depth)) refl (ap (λ (n : ℕ). n + 1) same) white
    (flow_fits (nat_lt 0 (o.depth + 1)) true ws (deeper o.depth)) a.left (λ q l. left_starts text q bs l solid)).0 refl

fits_so : (n d : ℕ) (ws : List ℕ) → n ≡ d → tabs_fit (nat_lt 0 d) false ws ≡ true
    → tabs_fit (nat_lt 0 n) false ws ≡ true
fits_so n d ws e h = ap (λ (m : ℕ). tabs_fit (nat_lt 0 m) false ws) e ∙ h

pub closer_step : (mapping : Bool) (x : yaml_encoding_t) (text ws bs : List ℕ) (d : ℕ) (T : Tell)
    → At x text ((if mapping then 125 else 93) ∷ (ws ++ bs)) (d + 1) T → are_white ws ≡ true
    → tabs_fit (nat_lt 0 d) false ws ≡ true → Behind d bs
    → At x text bs d (λ es. T ((if mapping then tokens.flow_mapping_end else
    tokens.flow_sequence_end) ∷ es))
closer_step true x text ws bs d T a white fits next =
    let o = a.place in
    let same = a.deep in
    let less : o.depth - 1 ≡ d = omega (arith, same) in
    (sign_step x text 125 d T kinds.FlowMappingEnd tokens.flow_mapping_end ws bs o a.reads (closer_sign true o.depth) (or-true (nat_lt 0 o.depth)) refl less white
    (fits_so (o.depth - 1) d ws less fits) a.left (λ q l. behind_starts d bs text q next l)).1
closer_step false x text ws bs d T a white fits next =
    let o = a.place in
    let same = a.deep in
    let less : o.depth - 1 ≡ d = omega (arith, same) in
    (sign_step x text 93 d T kinds.FlowSequenceEnd tokens.flow_sequence_end ws bs o a.reads (closer_sign false o.depth) (or-true (nat_lt 0 o.depth)) refl less white
    (fits_so (o.depth - 1) d ws less fits) a.left (λ q l. behind_starts d bs text q next l)).1

pub comma_step : (x : yaml_encoding_t) (text ws bs : List ℕ) (d : ℕ) (T : Tell)
    → At x text (44 ∷ (ws ++ bs)) d T → nat_lt 0 d ≡ true → are_white ws ≡ true
    → begins_solid bs ≡ true → Ready x text bs d (λ es. T (tokens.flow_entry ∷ es))
comma_step x text ws bs d T a deep white solid =
    let o = a.place in
    (sign_step x text 44 d T kinds.FlowEntry tokens.flow_entry ws bs o a.reads (comma_sign o.depth) (or-true (nat_lt 0 o.depth)) refl a.deep white
    (flow_fits (nat_lt 0 o.depth) true ws (ap (λ (n : ℕ). nat_lt 0 n) a.deep ∙ deep)) a.left (λ q l. left_starts text q bs l solid)).0 refl

-- ---- literals and numbers

pub plain_step : (x : yaml_encoding_t) (text value ws bs : List ℕ) (d : ℕ) (T : Tell)
    → is_plain_value value ≡ true → At x text (value ++ (ws ++ bs)) d T → are_white ws ≡ true
    → Behind d bs
    → At x text bs d (λ es. T (tokens.scalar value YAML_PLAIN_SCALAR_STYLE ∷ es))
unfolding lexeme_at
plain_step x text value ws bs d T is a white next =
    let o = a.place in
    let p = o.at in
    let flow = nat_lt 0 o.depth in
    let n : flow ≡ nat_lt 0 d = ap (λ (n : ℕ). nat_lt 0 n) a.deep in
    let both = has_of text p (value ++ ws) bs (subst (λ (ys : List ℕ). Left text p ys) (sym (append_assoc value ws bs)) a.left) in
    let left = left_rest text (p + length value) ws bs (left_rest text p value (ws ++ bs) a.left) in
    let e = p + length value + length ws in
    let stop : IsStop flow (byte text e) = subst (λ (f : Bool). IsStop f (byte text e)) (sym n) (behind_stops d bs text e next left) in
    let (starts, kind) = plain_begins flow text p value is (has_front text p value ws both) in
    let w : WordText = record { body = tokens.scalar value YAML_PLAIN_SCALAR_STYLE; end = p + length value; reached = e; broke = has_break ws } in
    let stands : Stands text p o.depth kinds.Plain w = record { starts = starts; kind = kind; word = (ap (λ (y : Result PlainText Wrong). plainly y) (plain_read flow text p value ws is both white (stops_at flow text e stop))) } in
    (step x text bs o.depth d T kinds.Plain w e _ o a.reads stands (omega arith) (or-true (nat_lt 0 o.depth)) refl (word_leaves text o.depth false w (behind_starts d bs text e next left)) a.deep left).1

-- ---- strings

string_stands : (ls : List Letter) (text rest : List ℕ) (p d : ℕ) → AreLetters ls
    → are_kept ls ≡ true → Left text p (string_bytes ls ++ rest)
    → Stands text p d kinds.DoubleQuoted
    (sign (tokens.scalar (letters_mean ls) YAML_DOUBLE_QUOTED_SCALAR_STYLE)
    (p + length (string_bytes ls)))
unfolding lexeme_at
string_stands ls text rest p d h k l =
    let first = left_first text p 34 _ l in
    record {
      starts = solid_starts text p 34 first refl;
      kind = kind_by (nat_lt 0 d) text p 34 kinds.DoubleQuoted first refl refl refl refl (quote_kind (nat_lt 0 d) (is_blank_or_end text (p + 1)));
      word = ap (λ (r : Result (List ℕ × ℕ) Wrong). valued (λ v. tokens.scalar v YAML_DOUBLE_QUOTED_SCALAR_STYLE) r) (string_reads ls text p h k (places.has_at text p (string_bytes ls) (places.has_front text p (string_bytes ls) rest l.has)));
    }

pub string_step : (x : yaml_encoding_t) (text : List ℕ) (ls : List Letter) (ws bs : List ℕ) (d : ℕ)
    (T : Tell) → AreLetters ls → are_kept ls ≡ true → At x text (string_bytes ls ++ (ws ++ bs)) d T
    → are_white ws ≡ true → tabs_fit (nat_lt 0 d) false ws ≡ true → Behind d bs
    → At x text bs d (λ es. T (tokens.scalar (letters_mean ls) YAML_DOUBLE_QUOTED_SCALAR_STYLE
    ∷ es))
string_step x text ls ws bs d T h k a white fits next =
    let o = a.place in
    let p = o.at in
    let q = p + length (string_bytes ls) in
    let w = sign (tokens.scalar (letters_mean ls) YAML_DOUBLE_QUOTED_SCALAR_STYLE) q in
    let more = left_rest text p (string_bytes ls) (ws ++ bs) a.left in
    let left = left_rest text q ws bs more in
    let leaves = white_leaves text o.depth false w ws (has_of text q ws bs more) white (fits_so o.depth d ws a.deep fits) (behind_starts d bs text (q + length ws) next left) in
    (step x text bs o.depth d T kinds.DoubleQuoted w (q + length ws) _ o a.reads (string_stands ls text (ws ++ bs) p o.depth h k a.left) (omega arith) (or-true (nat_lt 0 o.depth)) refl leaves a.deep left).1

-- ---- keys

-- a key, white, its `:`, and white
pub key_step : (x : yaml_encoding_t) (text : List ℕ) (ls : List Letter) (us ws bs : List ℕ) (d : ℕ)
    (T : Tell) → AreLetters ls → are_kept ls ≡ true → is_near ls us ≡ true → nat_lt 0 d ≡ true
    → Ready x text (string_bytes ls ++ (us ++ 58 ∷ (ws ++ bs))) d T
    → are_white us ≡ true → are_white ws ≡ true → begins_solid bs ≡ true
    → At x text bs d (λ es. T (tokens.key
    ∷ tokens.scalar (letters_mean ls) YAML_DOUBLE_QUOTED_SCALAR_STYLE ∷ tokens.value ∷ es))
key_step x text ls us ws bs d T h k near deep ready front back solid =
    let a = ready.at in
    let o = a.place in
    let p = o.at in
    let inside : nat_lt 0 o.depth ≡ true = ap (λ (n : ℕ). nat_lt 0 n) a.deep ∙ deep in
    let z : p + 0 ≡ p = omega arith in
    let key = string_bytes ls in
    let q = p + length key in
    let e = q + length us in
    let body = tokens.scalar (letters_mean ls) YAML_DOUBLE_QUOTED_SCALAR_STYLE in
    let w = sign body q in
    let rest = 58 ∷ (ws ++ bs) in
    let more = left_rest text p key (us ++ rest) a.left in
    let left = left_rest text q us rest more in
    let whole = subst (λ (ys : List ℕ). Left text p ys) (sym (append_assoc key us rest)) a.left in
    let size = length-append key us in
    let far : p + length (key ++ us) ≡ e = omega (arith, size) in
    let fresh : is_fresh (mark_at text p) (mark_at text e) ≡ true = subst (λ (n : ℕ). is_fresh (mark_at text p) (mark_at text n) ≡ true) far (key_near ls us text p h k front near (places.has_at text p (key ++ us) (places.has_front text p (key ++ us) rest whole.has))) in
    let start = mark_at text (p + 0) in
    let F : ℕ → ℕ → Type 0 = λ i n. is_fresh (mark_at text i) (mark_at text n) ≡ true in
    let fresh_colon : F (p + 0) e = subst (λ (i : ℕ). F i e) (sym z) fresh in
    let fresh_end : F (p + 0) q = near_before text start q e (omega arith) fresh_colon in
    let first = left_first text e 58 (ws ++ bs) left in
    let leaves = white_leaves text o.depth false w us (has_of text q us rest more) front (flow_fits (nat_lt 0 o.depth) false us inside) (solid_starts text e 58 first refl) in
    let may = may_then text o.depth false w in
    let c = comes_of text p o.depth kinds.DoubleQuoted w e (string_stands ls text (us ++ rest) p o.depth h k a.left) (omega arith) in
    let r = walk_key_starts x text o [] [] [] T kinds.DoubleQuoted [] w e may false a.reads (leave_none kinds.DoubleQuoted o.depth true) c refl (or_now o.now o.broken ready.now) (inl (inside, refl)) fresh_end leaves in
    let o2 = behind text (p + 0) e o.depth may false in
    let v = sign tokens.value (e + 1) in
    let colon_more = left_more text e 58 (ws ++ bs) left in
    let last = left_rest text (e + 1) ws bs colon_more in
    let there = left_starts text (e + 1 + length ws) bs last solid in
    let after = white_leaves text o.depth false v ws (has_of text (e + 1) ws bs colon_more) back (flow_fits (nat_lt 0 o.depth) false ws inside) there in
    let d2 = comes_of text e o.depth kinds.ValueMark v (e + 1 + length ws) (sign_stands 58 kinds.ValueMark tokens.value o.depth (colon_sign o.depth inside) text e first) (omega arith) in
    let y : e + 0 ≡ e = omega arith in
    let (same, none) = level_opens.inside o.depth (margin_at start.column) [] opening.Mapping inside in
    let s = walk_key_stops x text o2 start [] [] [] opening.Nothing T (λ es. body ∷ es) [] v (e + 1 + length ws) (may_then text o.depth false v) false r (leave_none kinds.ValueMark o.depth _) d2 (right_none o.depth (column_at text (e + 0)))
    (subst (λ (n : ℕ). F (p + 0) n) (sym y) fresh_colon) same none after in
    record { place = behind text (e + 0) (e + 1 + length ws) o.depth (may_then text o.depth false v) false; reads = s; deep = a.deep; left = last }
  where
    or_now : (now broken : Bool) → now ≡ true → (now || (false && broken)) ≡ true
    or_now now broken e = rw e refl
