-- A block scalar and the line after it.
use Rattle.std.proofs.Common.{◌≡◌, ℕ, ◌+◌, ◌-◌, ◌<◌, ◌≤◌, ◌&&◌, ◌||◌, not, nat_lt, Bool, true, false, List, [], ◌∷◌, length, suc, Option, Some, None, Ok, refl, sym, ap, subst, ◌∙◌, inl, inr, arith, if◌then◌else◌, IsUtf8, chars}
use Rattle.yaml_emit_laws.proofs.NodeWords.{nat_tests, cases_Bool, cases_lt, false≢true, or_left, yaml_encoding_t, TokenBody, byte, line_at, column_at, indent, depth_after, allows_key, is_end, is_value, WordText, kind_at, lexeme_at, Kind, Cursor, Page, Rest, ◌▹◌, gap, blank, line, Layout, when, word, char, chomp, scalar_text, Part, Scalar, Opening, alias_node, scalar_node, Context, style_of, deeper, page_at, context_of, MOST, checked, is_plain, is_simple_part, properties_text, anchor_text, tag_text, alias_layout, scalar_layout, node_layout, Left, bytes, first, has_at, left_first, left_more, left_letter, letter_low, deep_bytes, from_indicator, keeps_all, read_style, margin_round, block_style, behind_line, BlockPassed, line_at-grows, stays_level, Comes, WordLeaves, WalkState, WalkReads, LeaveClear, behind, printed_begins, letter_columns, words_leave, walk_white, walk_word, is_keep, style_at, takes_mark, scalar_bodies, scalar_kept, node_bodies, node_kept, NodeStage, LinedUp, PlainIsWalked, SingleIsWalked, Ending, block_position, column_round, NodeWalks, IsPretty, LeavesAreWalked, BlockScalarsAreWalked, is_block, low_starts, LineBreak, Settings, Style, quoted_text, has, scalar_tag, anchor_bodies, tag_bodies, mark_bodies, QuotedIsReadBack, between_quotes, between_single, IsWritable, anchor_is_read, begins_white, PlainHasGap, StylesAreAllowed, kept_writable}
use Rattle.yaml_emit_layout.specs.scan_types.Tokens as tokens
use Rattle.yaml_scan_history.specs.declared.kind.Kind.TheVariants as kinds
use Rattle.yaml_emit_layout.specs.declared.Chomp.{Chomp}
use Rattle.yaml_emit_laws.proofs.BlockWhole.{block_back, block_at_position}
use Rattle.yaml_emit_laws.proofs.BlockHeader.{block_is_passed}
use Rattle.yaml_scan_laws.proofs.WordForward.{Fits, word_lands}
use Rattle.yaml_emit_laws.proofs.Lining.{no_gap, line_ends, up_says, word_begins_white}
use Rattle.yaml_emit_laws.proofs.KeySteps.{columns_grow}
use Rattle.yaml_emit_layout.specs.declared.Style.TheVariants as style
use Rattle.yaml_emit_laws.proofs.Following.{line_bytes}
use Rattle.yaml_emit_laws.proofs.SpokenWords.{plain_walks, plain_white, alias_word, double_word}
use Rattle.yaml_emit_laws.proofs.SpokenLayouts.{alias_says, double_says}
use Rattle.yaml_emit_laws.proofs.LeafProps.{dressed, word_walks}
use Rattle.yaml_emit_laws.proofs.FlowSigns.{white_ends, space_parts, behind_gap}
use Rattle.yaml_emit_laws.proofs.DocStarts.{break_white}

-- ---- the space before it

record Gapped (x : yaml_encoding_t) (text : List ℕ) (ls : List ℕ) (T : List TokenBody → List TokenBody) (rest : Rest) : Type 0 where
  cursor : Cursor
  place : WalkState
  stage : NodeStage x text cursor place ls [] T
  right : indent ls ≤ column_at text place.at
  left : Left text place.at (bytes (rest cursor))

gap_on : (x : yaml_encoding_t) (text : List ℕ) (c : Cursor) (o : WalkState) (ls : List ℕ)
    (T : List TokenBody → List TokenBody) (rest : Rest) → NodeStage x text c o ls [] T
    → indent ls ≤ column_at text o.at → Left text o.at (bytes (gap c rest))
    → Gapped x text ls T rest
gap_on x text c o ls T rest s right l =
    elim (cases_Bool c.white) [
      | inl e ↦ record { cursor = c; place = o; stage = s; right = right; left = subst (λ (b : Bool). Left text o.at (bytes (if b then rest c else blank c rest))) e l }
      | inr e ↦
          let d : Cursor = record { column = c.column + 1; white = true; bare = c.bare; kept = c.kept } in
          let m = left_letter text o.at 32 (rest d) refl (subst (λ (b : Bool). Left text o.at (bytes (if b then rest c else blank c rest))) e l) in
          let here = left_first text o.at 32 _ m in
          let r = walk_white x text o [] ls [] T (32 ∷ []) s.reads (has_at text o.at (32 ∷ []) (here, tt)) refl in
          let (next, line_same) = letter_columns text o.at 32 here (omega arith) (omega arith) in
          let low = s.line in
          record {
            cursor = d;
            place = record { at = o.at + 1; line = o.line; depth = o.depth; now = o.now || (false && o.broken); broken = o.broken };
            stage = record {
              reads = r;
              flat = s.flat;
              broken = s.broken;
              bare = λ b. let (now, column) = s.bare b in (or_left o.now (false && o.broken) now, next ∙ ap (λ k. k + 1) column);
              line = omega (arith, low, line_same);
            };
            right = omega (arith, next, right);
            left = left_more text o.at 32 _ m;
          }
    ]

-- ---- the word

-- what holds of both kinds
record IsBlock (k : Kind) : Type 0 where
  flat : depth_after k 0 ≡ 0
  stays : stays_level k 0 ≡ true
  allows : allows_key k true false ≡ true
  value : is_value k ≡ true → ⊥

folded_is : IsBlock kinds.Folded
folded_is = record { flat = refl; stays = refl; allows = refl; value = λ e. false≢true e }

literal_is : IsBlock kinds.Literal
literal_is = record { flat = refl; stays = refl; allows = refl; value = λ e. false≢true e }

-- text in a line takes a column at least
same_line : (text : List ℕ) (p e b m : ℕ) → byte text p ≡ b → b < 127 → p < e
    → line_at text e ≤ line_at text p → column_at text e ≡ m → m ≤ column_at text p → ⊥
same_line text p e b m here high far u column left_of =
    let k = e - (p + 1) in
    let is : e ≡ p + suc k = omega (arith, far) in
    let grows = columns_grow text p k (subst (λ n. line_at text n ≤ line_at text p) is u) (low_starts (byte text p) (omega (arith, here, high))) in
    let same : column_at text e ≡ column_at text (p + suc k) = ap (λ n. column_at text n) is in
    omega (arith, grows, same, column, left_of)

-- from an indicator on, up to a place on a later line, where there are only spaces
word_on : (k : Kind) → IsBlock k
    → (x : yaml_encoding_t) (text : List ℕ) (c d : Cursor) (o : WalkState) (ls : List ℕ)
    (T : List TokenBody → List TokenBody) (b e : ℕ) (w : WordText) (m : ℕ) (rest : Rest)
    → NodeStage x text c o ls [] T → indent ls ≤ column_at text o.at
    → byte text o.at ≡ b → 32 < b → b < 127 → (b ≡ 35 → ⊥) → kind_at false text o.at ≡ Some k
    → lexeme_at k false (indent ls) text o.at ≡ Ok w → w.reached ≡ e → w.broke ≡ false → o.at < e
    → column_at text e ≡ m → m ≤ column_at text o.at
    → d.column ≡ m → d.bare ≡ true → d.white ≡ true → (kept : Bool) → d.kept ≡ kept
    → Left text e (bytes (rest d)) → LinedUp x text rest m kept ls (λ bs. T (w.body ∷ bs))
unfolding LeaveClear
word_on k is x text c d o ls T b e w m rest s right here low high hash kind word reached broke far column left_of at_column at_bare at_white kept same l =
    let p = o.at in
    let z : p + 0 ≡ p = omega arith in
    let flat : WalkReads x text (record { at = o.at; line = o.line; depth = 0; now = o.now; broken = o.broken }) [] ls [] T =
    subst (λ (i : ℕ). WalkReads x text (record { at = o.at; line = o.line; depth = i; now = o.now; broken = o.broken }) [] ls [] T) s.flat s.reads in
    let comes : Comes text p 0 (indent ls) k [] w e = record {
      behind = no_gap text p (printed_begins text p b here low high hash);
      kind = ap (λ n. kind_at false text n) z ∙ kind;
      word = ap (λ n. lexeme_at k false (indent ls) text n) z ∙ word;
      up = omega (arith, far);
    } in
    let leaves = words_leave.all text (depth_after k 0) (allows_key k true false) w broke in
    let leaves_at = subst (λ (n : ℕ). WordLeaves text (depth_after k 0) (allows_key k true false) w n (allows_key k true false) (not (nat_lt 0 (depth_after k 0)))) reached leaves in
    let r = walk_word x text (record { at = o.at; line = o.line; depth = 0; now = o.now; broken = o.broken }) [] ls T k [] w e (allows_key k true false) (not (nat_lt 0 (depth_after k 0))) flat tt comes is.stays
    (inr (subst (λ n. indent ls ≤ column_at text n) (sym z) right)) (λ v. absurd (is.value v)) leaves_at in
    let later : line_at text p < line_at text e = elim (cases_lt (line_at text p) (line_at text e)) [
      | inl u ↦ u
      | inr u ↦ absurd (same_line text p e b m here high far u column left_of)
    ] in
    record {
      more = [];
      lined = record {
        cursor = d;
        place = behind text (p + 0) e (depth_after k 0) (allows_key k true false) (not (nat_lt 0 (depth_after k 0)));
        stage = record {
          reads = r;
          flat = is.flat;
          broken = ap (λ n. not (nat_lt 0 n)) is.flat;
          bare = λ f. (is.allows, column ∙ sym at_column);
          line = line_at-grows text (p + 0) e (omega (arith, far));
        };
        left = l;
        bare = at_bare;
        white = at_white;
        column = at_column;
        same = same;
      };
      later = subst (λ n. line_at text n < line_at text e) (sym z) later;
    }

-- ---- the scalar

keep_same : (c : Chomp) → keeps_all c ≡ is_keep c
keep_same c = grind (arith, nat_tests)

below : (p : Context) (around : Option ℕ) (m : ℕ) → m ≤ column_round around → 0 < p.settings.indent
    → m < deeper p.settings around
below p None m low some = omega (arith, low, some)
below p (Some n) m low some = omega (arith, low, some)

not_right : (around : Option ℕ) (m level column : ℕ) → m ≤ column_round around
    → level ≡ margin_round around → level ≤ column → m ≤ column
not_right around m level column low same right = grind (arith, nat_tests)

inside : (text : List ℕ) (p b : ℕ) (bs : List ℕ) → Left text p (b ∷ bs) → p < length text
inside text p b bs l = let e = l.ends in omega (arith, e)

-- it is after its start
lands : (k : Kind) (text : List ℕ) (p level : ℕ) (w : WordText) → is_end k ≡ false → Fits k text p
    → lexeme_at k false level text p ≡ Ok w → p < w.reached
lands k text p level w no_end fits e = grind (arith, word_lands)

block_from : (folded : Bool) (page : Page) (digit : ℕ) (x : yaml_encoding_t) (text : List ℕ)
    (c : Cursor) (o : WalkState) (ls : List ℕ) (T : List TokenBody → List TokenBody)
    (value : List ℕ)
    (m : ℕ) (rest k : Rest) → NodeStage x text c o ls [] T → indent ls ≤ column_at text o.at
    → m ≤ column_at text o.at
    → Left text o.at (bytes (from_indicator page digit folded (chars value) c k))
    → BlockPassed folded (indent ls) text o.at value m (bytes (rest (behind_line m value)))
    → LinedUp x text rest m (is_keep (chomp true true (chars value))) ls
    (λ bs. T (tokens.scalar value (read_style folded) ∷ bs))
block_from true page digit x text c o ls T value m rest k s right low l passed =
    let sign = left_letter text o.at 62 _ refl l in
    let e = passed.end + m in
    let w : WordText = record { body = tokens.scalar value (read_style true); end = passed.end; reached = e; broke = false } in
    let far = lands kinds.Folded text o.at (indent ls) w refl (inside text o.at 62 _ sign) passed.stands.word in
    word_on kinds.Folded folded_is x text c (behind_line m value) o ls T 62 e w m rest s right (left_first text o.at 62 _ sign) (omega arith) (omega arith) (λ y. omega (arith, y)) passed.stands.kind passed.stands.word refl refl far passed.stands.column low refl refl refl
    (is_keep (chomp true true (chars value))) (keep_same (chomp true true (chars value))) passed.left
block_from false page digit x text c o ls T value m rest k s right low l passed =
    let sign = left_letter text o.at 124 _ refl l in
    let e = passed.end + m in
    let w : WordText = record { body = tokens.scalar value (read_style false); end = passed.end; reached = e; broke = false } in
    let far = lands kinds.Literal text o.at (indent ls) w refl (inside text o.at 124 _ sign) passed.stands.word in
    word_on kinds.Literal literal_is x text c (behind_line m value) o ls T 124 e w m rest s right (left_first text o.at 124 _ sign) (omega arith) (omega arith) (λ y. omega (arith, y)) passed.stands.kind passed.stands.word refl refl far passed.stands.column low refl refl refl
    (is_keep (chomp true true (chars value))) (keep_same (chomp true true (chars value))) passed.left

-- A block scalar with the space before it and the line after it, at each position where a layout
-- chooses its style.
pub block_line : (p : Context) (around : Option ℕ) (q : Part) (v : Scalar) (folded : Bool)
    → 0 < p.settings.indent → p.settings.indent < 10 → IsUtf8 v.value
    → style_of p (block_position around q) v ≡ block_style folded
    → (ls : List ℕ) (c : Cursor) (m : ℕ) (after : Rest)
    → indent ls ≡ margin_round around → m ≤ column_round around
    → Ending p.settings.line_break m (indent ls) after
    → (x : yaml_encoding_t) (text : List ℕ) (o : WalkState) (T : List TokenBody → List TokenBody)
    → NodeStage x text c o ls [] T → indent ls ≤ column_at text o.at
    → Left text o.at (bytes ((gap ▹ from_indicator (page_at p.settings (block_position around q))
    p.settings.indent folded (chars v.value)) c (λ e. line p.settings.line_break m e after)))
    → LinedUp x text after m (is_keep (chomp true true (chars v.value))) ls
    (λ bs. T (tokens.scalar v.value (read_style folded) ∷ bs))
block_line p around q v folded some few utf8 chosen ls c m after level low ending x text o T s right l =
    let at = block_position around q in
    let page = page_at p.settings at in
    let line_on : Rest = λ e. line p.settings.line_break m e after in
    let g = gap_on x text c o ls T (λ d. from_indicator page p.settings.indent folded (chars v.value) d line_on) s right l in
    let passed = block_is_passed (block_at_position block_back) p at v folded g.cursor m after utf8 some few chosen (below p around m low some) (ending.solid (behind_line m v.value) refl refl refl) text g.place.at g.left in
    block_from folded page p.settings.indent x text g.cursor g.place ls T v.value m after line_on g.stage g.right (not_right around m (indent ls) (column_at text g.place.at) low level g.right) g.left
    (subst (λ (n : ℕ). BlockPassed folded n text g.place.at v.value m (bytes (after (behind_line m v.value)))) (sym level) passed)

-- ==== Aliases and scalars in a block, up to the line after them.

-- ---- white

-- after text a line begins with a break
text_line_white : (b : LineBreak) (m : ℕ) (after : Rest) (e : Cursor) → e.bare ≡ false
    → begins_white (bytes (line b m e after)) ≡ true
text_line_white b m after e bare = ap (λ bs. begins_white bs) (line_bytes b m e after bare) ∙ break_white b _

gap_bytes : (a : Layout) (e : Cursor) (R : Rest) → e.white ≡ false
    → bytes ((gap ▹ a) e R) ≡ 32 ∷ bytes
    (a (record { column = e.column + 1; white = true; bare = e.bare; kept = e.kept }) R)
gap_bytes a e R white = grind (arith, nat_tests, letter_low)

-- all but plain scalars have a space before them, where one is due
spaced_text : (page : Page) (digit : ℕ) (v : List ℕ) (st : Style) → is_plain st ≡ false
    → (e : Cursor) (R : Rest) → e.white ≡ false
    → first (bytes (scalar_text page digit false st v e R)) ≡ 32
unfolding scalar_text
spaced_text page digit v style.Plain some e R white = absurd (false≢true (sym some))
spaced_text page digit v style.Single some e R white = ap (λ (bs : List ℕ). first bs) (gap_bytes (between_single page v) e R white)
spaced_text page digit v style.Double some e R white = ap (λ (bs : List ℕ). first bs) (gap_bytes (between_quotes page v) e R white)
spaced_text page digit v style.Literal some e R white = ap (λ (bs : List ℕ). first bs) (gap_bytes (from_indicator page digit false v) e R white)
spaced_text page digit v style.Folded some e R white = ap (λ (bs : List ℕ). first bs) (gap_bytes (from_indicator page digit true v) e R white)

text_white : PlainHasGap → (page : Page) (digit : ℕ) (v : List ℕ) → IsUtf8 v → (st : Style)
    → (b : LineBreak) (m : ℕ) (after : Rest) (e : Cursor) → e.white ≡ false
    → begins_white (bytes (scalar_text page digit false st (chars v) e (λ i. line b m i after)))
    ≡ true
unfolding scalar_text
text_white gaps page digit v u st b m after e white = grind (arith, nat_tests, plain_white, text_line_white, space_parts, spaced_text)

-- ---- pages

page_deep : (s : Settings) → 2 ≤ s.indent → (around : Option ℕ)
    → (0 < deeper s around) × (margin_round around ≤ deeper s around)
page_deep s least around = grind (arith, nat_tests)

-- ---- what a scalar is laid out as, and read as

abbrev marked : Context → Part → Scalar → Bool
marked p q v = not (has (scalar_tag false v)) && takes_mark v.quoted (style_at p false q v)

position_style : (p : Context) (around : Option ℕ) (q : Part) (v : Scalar)
    → style_of p (block_position around q) v ≡ style_at p false q v
unfolding style_of
position_style p around q v = refl

scalar_shape : (s : Settings) (o : Opening) → s.canonical ≡ false
    → (around : Option ℕ) (q : Part) (v : Scalar) (c : Cursor) (R : Rest)
    → let p = context_of s o.directives in let at = block_position around q in
    let st = style_at p false q v in
    node_layout p at (scalar_node v) c R ≡ (anchor_text v.anchor ▹ (tag_text p (scalar_tag false v) ▹ when (marked p q v) (word (33 ∷ [])))) c (λ e. (checked (deeper s around) ▹ scalar_text (page_at s at) s.indent false st (chars v.value)) e R)
unfolding node_layout scalar_layout
scalar_shape s o pretty around q v c R =
    let p = context_of s o.directives in
    let at = block_position around q in
    let body : Style → Layout = λ t. checked (deeper s around) ▹ scalar_text (page_at s at) s.indent false t (chars v.value) in
    let all : Bool → Style → Layout = λ b t. properties_text p v.anchor (scalar_tag b v) ▹ (when (not (has (scalar_tag b v)) && (not v.quoted && not (is_plain t))) (word (33 ∷ [])) ▹ body t) in
    ap (λ (b : Bool). all b (style_of p at v) c R) pretty ∙ ap (λ (t : Style). all false t c R) (position_style p around q v)

-- ---- the text of a scalar, up to the line after it

-- after its properties
abbrev TextLines : Settings → Opening → Option ℕ → Part → Scalar → Style → Type 0
TextLines s o around q v st = (ls : List ℕ) (c : Cursor) (m : ℕ) (after : Rest) → indent ls ≡ margin_round around → m ≤ column_round around → Ending s.line_break m (indent ls) after
    → (x : yaml_encoding_t) (text : List ℕ) (w : WalkState) (T : List TokenBody → List TokenBody) → NodeStage x text c w ls [] T → indent ls ≤ column_at text w.at
    → Left text w.at (bytes (scalar_text (page_at s (block_position around q)) s.indent false st (chars v.value) c (λ e. line s.line_break m e after)))
    → LinedUp x text after m (scalar_kept st v.value c.kept) ls (λ bs. T (scalar_bodies false st v.value bs))

plain_lines : PlainIsWalked → StylesAreAllowed → (s : Settings) (o : Opening) → IsPretty s o
    → (around : Option ℕ) (q : Part) (v : Scalar) → IsUtf8 v.value
    → style_at (context_of s o.directives) false q v ≡ style.Plain
    → TextLines s o around q v style.Plain
unfolding scalar_text
plain_lines law styles s o pretty around q v u is ls c m after level up ending x text w T st right l =
    let p = context_of s o.directives in
    let at = block_position around q in
    let (deep, far) = page_deep s pretty.least around in
    line_ends s.line_break m x text c.kept ls (λ bs. T (scalar_bodies false style.Plain v.value bs)) after ending.feed
    (plain_walks law (page_at s at) ls c v.value (λ e. line s.line_break m e after) u ((styles p at v).0 (position_style p around q v ∙ is)) deep (omega (arith, level, far)) ending.follows x text w T st right l)

single_lines : SingleIsWalked → StylesAreAllowed → (s : Settings) (o : Opening) → IsPretty s o
    → (around : Option ℕ) (q : Part) (v : Scalar) → IsUtf8 v.value
    → style_at (context_of s o.directives) false q v ≡ style.Single
    → TextLines s o around q v style.Single
unfolding scalar_text
single_lines law styles s o pretty around q v u is ls c m after level up ending x text w T st right l =
    let p = context_of s o.directives in
    let at = block_position around q in
    let (deep, far) = page_deep s pretty.least around in
    line_ends s.line_break m x text c.kept ls (λ bs. T (scalar_bodies false style.Single v.value bs)) after ending.feed
    (law (page_at s at) ls c v.value (λ e. line s.line_break m e after) u ((styles p at v).1 (position_style p around q v ∙ is)) deep ending.follows x text w T st right l)

double_lines : QuotedIsReadBack → (s : Settings) (o : Opening) → IsPretty s o
    → (around : Option ℕ) (q : Part) (v : Scalar) → IsUtf8 v.value
    → TextLines s o around q v style.Double
unfolding scalar_text
double_lines law s o pretty around q v u ls c m after level up ending x text w T st right l =
    let page = page_at s (block_position around q) in
    let (deep, far) = page_deep s pretty.least around in
    let says = double_says law false (indent ls) page v.value u deep c in
    line_ends s.line_break m x text c.kept ls (λ bs. T (scalar_bodies false style.Double v.value bs)) after ending.feed
    (word_walks (quoted_text page (chars v.value)) c ls (double_word false (indent ls) (not c.white) page (behind_gap c.white c) v.value (law page (behind_gap c.white c) v.value u (λ cuts. deep))) says (λ e. line s.line_break m e after) tt x text w T st right l)

block_lines : (s : Settings) (o : Opening) → IsPretty s o
    → (around : Option ℕ) (q : Part) (v : Scalar) → IsUtf8 v.value → (st : Style)
    → is_block st ≡ true → style_at (context_of s o.directives) false q v ≡ st
    → TextLines s o around q v st
unfolding scalar_text
block_lines s o pretty around q v u style.Literal some is ls c m after level up ending x text w T st right l =
    let p = context_of s o.directives in
    let least = pretty.least in
    let most = pretty.most in
    block_line p around q v false (omega (arith, least)) (omega (arith, most)) u (position_style p around q v ∙ is) ls c m after level up ending x text w T st right l
block_lines s o pretty around q v u style.Folded some is ls c m after level up ending x text w T st right l =
    let p = context_of s o.directives in
    let least = pretty.least in
    let most = pretty.most in
    block_line p around q v true (omega (arith, least)) (omega (arith, most)) u (position_style p around q v ∙ is) ls c m after level up ending x text w T st right l
block_lines s o pretty around q v u _ some is ls c m after level up ending x text w T st right l = absurd (false≢true some)

-- ---- scalars with their properties

mark_plain : (a b : Bool) (st : Style) → (a && (b && not (is_plain st))) ≡ true
    → is_plain st ≡ false
mark_plain a b st e = grind arith

dress_white : (p : Context) (a t : Option (List ℕ)) (m : Bool) (c : Cursor) (rest : Rest)
    → c.white ≡ false → begins_white (bytes (rest c)) ≡ true
    → begins_white (bytes ((anchor_text a ▹ (tag_text p t ▹ when m (word (33 ∷ [])))) c rest))
    ≡ true
dress_white p a t m c rest white next = grind (arith, word_begins_white)

scalar_walks : PlainHasGap → (s : Settings) (o : Opening) → IsPretty s o
    → (around : Option ℕ) (q : Part) (bare : Bool) (v : Scalar) → IsWritable (scalar_node v)
    → TextLines s o around q v (style_at (context_of s o.directives) false q v)
    → NodeWalks (context_of s o.directives) around q bare (scalar_node v)
unfolding node_bodies node_kept
scalar_walks gaps s o pretty around q bare v (anchor, tag, u) lines = record {
  walks = λ ls c m after is level up ending x text w T st right l.
      let p = context_of s o.directives in
      let chosen = style_at p false q v in
      let n = deeper s around in
      let page = page_at s (block_position around q) in
      let R : Rest = λ e. line s.line_break m e after in
      let a : Layout = scalar_text page s.indent false chosen (chars v.value) in
      let body : Rest = λ e. (checked n ▹ a) e R in
      let t = scalar_tag false v in
      let k = marked p q v in
      let deep : (e : Cursor) → bytes (body e) ≡ bytes (a e R) = λ e. deep_bytes (nat_lt MOST n) (a e R) in
      let h = dressed s o pretty v.anchor t k anchor (kept_writable (false || not (v.plain || v.quoted)) v.tag tag) ls c body (λ e b f. ap (λ bs. begins_white bs) (deep e) ∙ text_white gaps page s.indent v.value u chosen s.line_break m after e f)
      (λ is e b f. ap (λ (bs : List ℕ). first bs) (deep e) ∙ spaced_text page s.indent (chars v.value) chosen (mark_plain (not (has t)) (not v.quoted) chosen is) e R f) x text w T st right
      (subst (λ ts. Left text w.at (bytes ts)) (scalar_shape s o pretty.pretty around q v c R) l) in
      let U : List TokenBody → List TokenBody = λ bs. T (anchor_bodies v.anchor (tag_bodies o.directives t (mark_bodies k bs))) in
      let all = lines ls h.cursor m after level up ending x text h.place U h.stage h.right (subst (λ bs. Left text h.place.at bs) (deep h.cursor) h.left) in
      let told = up_says x text after m (scalar_kept chosen v.value h.cursor.kept) ls _ (λ bs. T (node_bodies p false q bare (scalar_node v) bs)) all (λ bs. ap (λ ts. T ts) refl) in
      subst (λ b. LinedUp x text after m b ls (λ bs. T (node_bodies p false q bare (scalar_node v) bs))) (ap (λ b. scalar_kept chosen v.value b) h.same) told;
  white = λ c m after white.
      let p = context_of s o.directives in
      let chosen = style_at p false q v in
      let n = deeper s around in
      let page = page_at s (block_position around q) in
      let R : Rest = λ e. line s.line_break m e after in
      let a : Layout = scalar_text page s.indent false chosen (chars v.value) in
      ap (λ ts. begins_white (bytes ts)) (scalar_shape s o pretty.pretty around q v c R)
      ∙ dress_white p v.anchor (scalar_tag false v) (marked p q v) c (λ e. (checked n ▹ a) e R) white (ap (λ bs. begins_white bs) (deep_bytes (nat_lt MOST n) (a c R)) ∙ text_white gaps page s.indent v.value u chosen s.line_break m after c white);
}

-- ---- aliases

alias_shape : (p : Context) (around : Option ℕ) (q : Part) (name : List ℕ)
    → is_simple_part q ≡ false → (c : Cursor) (R : Rest)
    → node_layout p (block_position around q) (alias_node name) c R ≡ word (42 ∷ name) c R
unfolding node_layout alias_layout
alias_shape p around q name whole c R = ap (λ (b : Bool). (word (42 ∷ name) ▹ when b (char 32)) c R) whole

alias_walks : (s : Settings) (o : Opening) → IsPretty s o
    → (around : Option ℕ) (q : Part) (bare : Bool) (name : List ℕ) → IsWritable (alias_node name)
    → is_simple_part q ≡ false
    → NodeWalks (context_of s o.directives) around q bare (alias_node name)
unfolding node_bodies node_kept
alias_walks s o pretty around q bare name good whole = record {
  walks = λ ls c m after is level up ending x text w T st right l.
      let p = context_of s o.directives in
      let R : Rest = λ e. line s.line_break m e after in
      let says = alias_says anchor_is_read false (indent ls) name good c in
      let g = word_walks (word (42 ∷ name)) c ls (alias_word anchor_is_read false (indent ls) (not c.white) name good) says R (white_ends (bytes (R says.behind)) (ending.follows.white says.behind says.bare)) x text w T st right
      (subst (λ ts. Left text w.at (bytes ts)) (alias_shape p around q name whole c R) l) in
      let all = line_ends s.line_break m x text c.kept ls (λ bs. T (tokens.alias name ∷ bs)) after ending.feed g in
      subst (λ b. LinedUp x text after m b ls (λ bs. T (node_bodies p false q bare (alias_node name) bs))) refl
      (up_says x text after m c.kept ls (λ bs. T (tokens.alias name ∷ bs)) (λ bs. T (node_bodies p false q bare (alias_node name) bs)) all (λ bs. ap (λ ts. T ts) refl));
  white = λ c m after white. ap (λ ts. begins_white (bytes ts)) (alias_shape (context_of s o.directives) around q name whole c (λ e. line s.line_break m e after)) ∙ word_begins_white (42 ∷ name) c (λ e. line s.line_break m e after) white;
}

-- ---- both

style_lines : PlainIsWalked → SingleIsWalked → QuotedIsReadBack → StylesAreAllowed
    → (s : Settings) (o : Opening) → IsPretty s o → (around : Option ℕ) (q : Part) (v : Scalar)
    → IsUtf8 v.value → (st : Style) → style_at (context_of s o.directives) false q v ≡ st
    → is_block st ≡ false → TextLines s o around q v st
style_lines plains singles doubles styles s o pretty around q v u style.Plain is none = plain_lines plains styles s o pretty around q v u is
style_lines plains singles doubles styles s o pretty around q v u style.Single is none = single_lines singles styles s o pretty around q v u is
style_lines plains singles doubles styles s o pretty around q v u style.Double is none = double_lines doubles s o pretty around q v u
style_lines plains singles doubles styles s o pretty around q v u _ is none = absurd (false≢true (sym none))

pub leaves_on : PlainIsWalked → SingleIsWalked → QuotedIsReadBack → StylesAreAllowed → PlainHasGap
    → LeavesAreWalked
leaves_on plains singles doubles styles gaps s o pretty (alias_node name) fine around q bare whole leaf none = alias_walks s o pretty around q bare name fine whole
leaves_on plains singles doubles styles gaps s o pretty (scalar_node v) (anchor, tag, u) around q bare whole leaf none =
    scalar_walks gaps s o pretty around q bare v (anchor, tag, u) (style_lines plains singles doubles styles s o pretty around q v u (style_at (context_of s o.directives) false q v) refl none)
leaves_on plains singles doubles styles gaps s o pretty _ fine around q bare whole leaf none = absurd (false≢true leaf)

pub blocks_on : PlainHasGap → BlockScalarsAreWalked
blocks_on gaps s o pretty v (anchor, tag, u) around q bare whole some =
    scalar_walks gaps s o pretty around q bare v (anchor, tag, u) (block_lines s o pretty around q v u (style_at (context_of s o.directives) false q v) some refl)
