-- Plain scalars as content, empty ones too.
use Rattle.std.proofs.Common.{◌≡◌, ℕ, ◌+◌, ◌<◌, ◌≤◌, Bool, true, false, List, [], ◌∷◌, refl, ap, subst, ◌∙◌, arith, if◌then◌else◌, IsUtf8, ◌==◌, ◌&&◌, ◌||◌, not, nat_lt, length, suc, sym, inl, inr, ◌++◌, Some, Result, Ok, encode_utf8, encode_utf8_all}
use Rattle.yaml_emit_laws.proofs.NodeWords.{chars, false≢true, cases_Bool, or_left, or_right, yaml_encoding_t, TokenBody, indent, Cursor, Page, Layout, Rest, ◌▹◌, blank, after_text, gap, Item, flow_body, plain, Left, bytes, first, letter_low, left_letter, Sign, sign_begins, sign_kind, walk_says, walk_white, walk_word, begins_white, white_of, is_gap_byte, PlainHasGap, PlainStands, ScalarsAreWords, SingleStands, may_be_plain, PlainIsBack, scalar_bodies, GoesBehindNode, Walks, Follows, PlainIsWalked, NodeStage, no_comment, SingleIsWalked, byte, column_at, is_blank, break_width, is_blank_or_end, depth_after, WordText, kind_at, lexeme_at, indicator_of, valued, tagged, has_break, begins_lexeme, has_at, left_first, left_more, has_front, left_rest, nat_tests, is_bom, line_at-grows, Comes, WordLeaves, WalkState, LeaveClear, behind, WalkReads, letter_columns, words_leave, stops_end, goes_on, single_kind, left_byte, encode_ascii, AnchorReads, double_quoted_at, Kind, ValueIsReadBack, between_quotes, between_single, Wrong, Split, spelled, split_tag, Opening, tag_body, SplitTagsAreRead, WrittenTagsAreReadable, IsReadable, ReadableTagsAreAscii, LoneMarkReads, IsWritableName, IsWritableOpening, IsWritableTag, named, quote_sign, quote_kind, quote_first, alias_kind, anchor_kind, SingleIsBack, Spoken, Behind, WordStands, Fits, is_text, ends_name, mark_kind, said_tag, text_is, allowed}
use Rattle.yaml_emit_layout.specs.declared.Style.TheVariants as style
use Rattle.yaml_emit_layout.specs.scan_model.declared.name.yaml_scalar_style_t.TheVariants.{YAML_PLAIN_SCALAR_STYLE, YAML_SINGLE_QUOTED_SCALAR_STYLE, YAML_DOUBLE_QUOTED_SCALAR_STYLE}
use Rattle.yaml_emit_layout.specs.scan_types.Tokens as tokens
use Rattle.yaml_scan_history.specs.declared.kind.Kind.TheVariants as kinds
use Rattle.yaml_scan_laws.specs.PlainLaws.{ends_plain}
use Rattle.yaml_emit_laws.proofs.Lining.{line_on_to, no_gap}
use Rattle.yaml_emit_layout.specs.scan_model.declared.problem.Context.{Context}
use Rattle.yaml_emit_layout.specs.scan_model.declared.problem.Context.TheVariants as contexts
use Rattle.yaml_scan_history.specs.Anchors.{anchor_at, may_end_name}
use Rattle.yaml_scan_history.specs.Tags.{TagText, tag_at, may_end_tag}
use Rattle.yaml_emit_laws.proofs.Words.{sign}
use Rattle.yaml_emit_laws.proofs.Stopping.{white_next}

-- ---- the same tokens, the same layout

says_as : (x : yaml_encoding_t) (text : List ℕ) (rest : Rest) (kept : Bool) (ls : List ℕ)
    (T U : List TokenBody → List TokenBody) → GoesBehindNode x text rest kept ls T
    → ((bs : List TokenBody) → T bs ≡ U bs) → GoesBehindNode x text rest kept ls U
says_as x text rest kept ls T U g e = grind (arith, nat_tests, walk_says)

walks_as : (a b : Layout) (B C : List TokenBody → List TokenBody) (ls : List ℕ) (c : Cursor)
    (rest : Rest) → a c rest ≡ b c rest → ((bs : List TokenBody) → B bs ≡ C bs)
    → Walks b B ls c rest → Walks a C ls c rest
walks_as a b B C ls c rest same e w x text o T s right l =
    says_as x text rest c.kept ls (λ bs. T (B bs)) (λ bs. T (C bs)) (w x text o T s right (subst (λ (t : List Item). Left text o.at (bytes t)) same l)) (λ bs. ap (λ ds. T ds) (e bs))

-- ---- plain scalars

-- an empty one is nothing
pub empty_layout : (page : Page) (c : Cursor) (rest : Rest)
    → plain page false (chars []) c rest ≡ after_text c rest
unfolding flow_body chars
empty_layout page c rest = refl

empty_walks : (ls : List ℕ) (c : Cursor) (rest : Rest) → Walks after_text (λ bs. bs) ls c rest
empty_walks ls c rest x text o T s right l = grind (arith, nat_tests)

-- any one, empty or not
pub plain_walks : PlainIsWalked
    → (page : Page) (ls : List ℕ) (c : Cursor) (value : List ℕ) (rest : Rest) → IsUtf8 value
    → may_be_plain page.unicode false (chars value) ≡ true → 0 < page.indentation
    → indent ls ≤ page.indentation
    → Follows (indent ls) rest
    → Walks (plain page false (chars value)) (λ bs. scalar_bodies false style.Plain value bs) ls c
    rest
plain_walks law page ls c [] rest u may deep far follows = walks_as (plain page false (chars [])) after_text (λ bs. bs) (λ bs. bs) ls c rest (empty_layout page c rest) (λ bs. refl) (empty_walks ls c rest)
plain_walks law page ls c (b ∷ bs) rest u may deep far follows = law page ls c (b ∷ bs) rest u (omega arith) may deep far follows

pub plain_white : PlainHasGap → (page : Page) (c : Cursor) (value : List ℕ) (rest : Rest)
    → IsUtf8 value → c.white ≡ false
    → ((e : Cursor) → e.bare ≡ false → begins_white (bytes (rest e)) ≡ true)
    → begins_white (bytes (plain page false (chars value) c rest)) ≡ true
plain_white law page c [] rest u white f = ap (λ t. begins_white (bytes t)) (empty_layout page c rest) ∙ f (record { column = c.column; white = false; bare = false; kept = c.kept }) refl
plain_white law page c (b ∷ bs) rest u white f =
    let body : Layout = flow_body page false 32 (chars (b ∷ bs)) ▹ after_text in
    let d : Cursor = record { column = c.column + 1; white = true; bare = c.bare; kept = c.kept } in
    ap (λ (a : Layout). begins_white (bytes (a c rest))) (law page false (b ∷ bs) u (omega arith))
    ∙ ap (λ (w : Bool). begins_white (bytes (if w then body c rest else blank c (λ k. body k rest)))) white ∙ ap (λ xs. begins_white xs) (letter_low 32 (body d rest) refl)

-- ==== A plain scalar as content.

-- a space, where one is due
pub walks_gap : (a : Layout) (B : List TokenBody → List TokenBody) (ls : List ℕ) (c : Cursor)
    (rest : Rest) → ((c : Cursor) → Walks a B ls c rest) → Walks (gap ▹ a) B ls c rest
walks_gap a B ls c rest w x text o T s right l =
    elim (cases_Bool c.white) [
      | inl e ↦ w c x text o T s right (subst (λ (b : Bool). Left text o.at (bytes (if b then a c rest else blank c (λ k. a k rest)))) e l)
      | inr e ↦
          let d : Cursor = record { column = c.column + 1; white = true; bare = c.bare; kept = c.kept } in
          let m = left_letter text o.at 32 (a d rest) refl (subst (λ (b : Bool). Left text o.at (bytes (if b then a c rest else blank c (λ k. a k rest)))) e l) in
          let here = left_first text o.at 32 _ m in
          let r = walk_white x text o [] ls [] T (32 ∷ []) s.reads (has_at text o.at (32 ∷ []) (here, tt)) refl in
          let (next, line_same) = letter_columns text o.at 32 here (omega arith) (omega arith) in
          let u : WalkState = record { at = o.at + 1; line = o.line; depth = o.depth; now = o.now || (false && o.broken); broken = o.broken } in
          let t : NodeStage x text d u ls [] T = record { reads = r; flat = s.flat; broken = s.broken; bare = λ b. let (now, column) = s.bare b in (or_left o.now (false && o.broken) now, next ∙ ap (λ k. k + 1) column); line = line_on_to text o.at (o.at + 1) o.line s.line (omega arith) } in
          w d x text u T t (omega (arith, next, right)) (left_more text o.at 32 _ m)
    ]

-- ---- a lexeme begins after the white

pub no_hash : (text : List ℕ) (p : ℕ) (bs : List ℕ) → Left text p bs → no_comment bs ≡ true
    → byte text (p + length (white_of bs)) ≡ 35 → ⊥
unfolding no_comment white_of
no_hash text p [] l h e =
    let z : p + 0 ≡ p = omega arith in
    let f : 0 ≡ 35 = sym (left_byte text p [] l) ∙ (sym (ap (λ q. byte text q) z) ∙ e) in
    omega (arith, f)
no_hash text p (b ∷ bs) l h e = elim (cases_Bool (is_gap_byte b)) [
  | inl g ↦
      let k : no_comment bs ≡ true = subst (λ (t : Bool). (if t then no_comment bs else not (b == 35)) ≡ true) g h in
      let far : p + 1 + length (white_of bs) ≡ p + suc (length (white_of bs)) = omega arith in
      let f : byte text (p + suc (length (white_of bs))) ≡ 35 = subst (λ (t : Bool). byte text (p + length (if t then b ∷ white_of bs else [])) ≡ 35) g e in
      no_hash text (p + 1) bs (left_more text p b bs l) k (ap (λ q. byte text q) far ∙ f)
  | inr g ↦
      let k : not (b == 35) ≡ true = subst (λ (t : Bool). (if t then no_comment bs else not (b == 35)) ≡ true) g h in
      let z : p + 0 ≡ p = omega arith in
      let f : byte text (p + 0) ≡ 35 = subst (λ (t : Bool). byte text (p + length (if t then b ∷ white_of bs else [])) ≡ 35) g e in
      let same : b ≡ 35 = sym (left_first text p b bs l) ∙ (sym (ap (λ q. byte text q) z) ∙ f) in
      differs b same k
]
  where
    differs : (b : ℕ) → b ≡ 35 → not (b == 35) ≡ true → ⊥
    differs b e f = grind (arith, nat_tests)

pub begins_by : (text : List ℕ) (q : ℕ) → (is_blank (byte text q)) ≡ false
    → nat_lt 0 (break_width text q) ≡ false → (byte text q == 35) ≡ false
    → (q == 0 && is_bom text q) ≡ false → begins_lexeme text q ≡ true
begins_by text q blank wide hash bom = grind (arith, nat_tests)

-- What may end a plain scalar begins a lexeme, where the scalar begins one.
pub ends_begins : (flow : Bool) (level : ℕ) (text : List ℕ) (p q : ℕ)
    → ends_plain flow level text q ≡ true → begins_lexeme text p ≡ true → (byte text q ≡ 35 → ⊥)
    → p ≤ q → begins_lexeme text q ≡ true
unfolding ends_plain
ends_begins flow level text p q h begins hash up = grind (arith, nat_tests, begins_by)

body_walks : PlainStands → ScalarsAreWords
    → (page : Page) (ls : List ℕ) (value : List ℕ) (rest : Rest) → IsUtf8 value → 0 < length value
    → may_be_plain page.unicode false (chars value) ≡ true → 0 < page.indentation
    → indent ls ≤ page.indentation → Follows (indent ls) rest
    → (c : Cursor)
    → Walks (flow_body page false 32 (chars value) ▹ after_text)
    (λ bs. tokens.scalar value YAML_PLAIN_SCALAR_STYLE ∷ bs) ls c rest
unfolding LeaveClear
body_walks stands are_words page ls value rest u some may deep far follows c x text o T s right l =
    let p = o.at in
    let level = indent ls in
    let at = stands page false level c value u some may deep far rest (λ e f. follows.stops level (omega arith) e f.bare) text p l in
    let g = at.goes in
    let left = bytes (rest g.behind) in
    let white = white_of left in
    let e = p + length g.own in
    let z : p + 0 ≡ p = omega arith in
    let w : WordText = record { body = tokens.scalar value YAML_PLAIN_SCALAR_STYLE; end = e; reached = e + length white; broke = has_break white } in
    let word = (are_words false level text p value).0 g.own white at.says in
    let comes : Comes text p 0 level kinds.Plain [] w e = record {
      behind = no_gap text p at.says.begins;
      kind = ap (λ n. kind_at false text n) z ∙ at.says.kind;
      word = ap (λ n. lexeme_at kinds.Plain false level text n) z ∙ word;
      up = omega arith;
    } in
    let (has, blank, ends) = stops_end false level text e left g.left (follows.stops level (omega arith) g.behind g.fine.bare) in
    let starts = ends_begins false level text p (e + length white) ends at.says.begins (no_hash text e left g.left (follows.calm g.behind g.fine.bare)) (omega arith) in
    let leaves = words_leave.none text (depth_after kinds.Plain o.depth) w e white (record { has = has; blank = blank; ends = starts }) refl refl in
    let r = walk_word x text o [] ls T kinds.Plain [] w e false true s.reads tt
    (subst (λ d. Comes text p d level kinds.Plain [] w e) (sym s.flat) comes) (stays o.depth)
    (inr (subst (λ n. level ≤ column_at text n) (sym z) right)) (λ v. absurd cc) leaves in
    record {
      behind = g.behind;
      place = behind text (p + 0) e o.depth false true;
      more = [];
      stage = record { reads = r; flat = s.flat; broken = refl; bare = λ b. absurd (false≢true (sym g.fine.bare ∙ b)); line = line_at-grows text (p + 0) e (omega arith) };
      left = g.left;
      bare = g.fine.bare;
      same = g.fine.kept;
    }
  where
    stays : (d : ℕ) → (true && (nat_lt 0 d || true)) ≡ true
    stays d = or_right (nat_lt 0 d) true refl

pub plain_on : PlainHasGap → PlainStands → ScalarsAreWords → PlainIsWalked
plain_on has_gap stands are_words page ls c value rest u some may deep far follows =
    let B : List TokenBody → List TokenBody = λ bs. tokens.scalar value YAML_PLAIN_SCALAR_STYLE ∷ bs in
    subst (λ (a : Layout). Walks a B ls c rest) (sym (has_gap page false value u some))
    (walks_gap (flow_body page false 32 (chars value) ▹ after_text) B ls c rest (body_walks stands are_words page ls value rest u some may deep far follows))

-- ==== The words of a node: each is read wherever its bytes are before what fits.

-- a word that takes no white
in_line : (flow : Bool) (level : ℕ) (k : Kind) (body : TokenBody) (text : List ℕ) (p e : ℕ)
    (bs : List ℕ) → begins_lexeme text p ≡ true → kind_at flow text p ≡ Some k
    → lexeme_at k flow level text p ≡ Ok (record { body = body; end = e; reached = e; broke = false })
    → WordStands flow level k body text p e bs
in_line flow level k body text p e bs begins kind word =
    let w : WordText = record { body = body; end = e; reached = e; broke = false } in
    record {
      begins = begins;
      kind = kind;
      end = e;
      reached = e;
      broke = false;
      word = word;
      near = λ h. refl;
      wide = not flow;
      block = λ e. ap (λ (b : Bool). not b) e;
      leaves = λ d same. subst (λ (b : Bool). WordLeaves text d false w e false (not b)) same (words_leave.all text d false w refl);
    }

-- a word by its parts
abbrev pub spoken : {flow : Bool} {level : ℕ} (spaced : Bool) (own : List ℕ) (k : Kind)
    (body : TokenBody) (wants : Behind) → is_text k ≡ true
    → ((text : List ℕ) (p : ℕ) (bs : List ℕ) → Left text p (own ++ bs) → Fits wants flow level bs
    → WordStands flow level k body text p (p + length own) bs)
    → Spoken flow level
spoken spaced own k body wants plain stands = record { spaced = spaced; own = own; kind = k; body = body; wants = wants; plain = plain; stands = stands }

-- ---- names

anchor_sign : Sign 38
anchor_sign = sign 38 refl refl refl refl refl refl refl refl refl refl

alias_sign : Sign 42
alias_sign = sign 42 refl refl refl refl refl refl refl refl refl refl

mark_sign : Sign 33
mark_sign = sign 33 refl refl refl refl refl refl refl refl refl refl

single_sign : Sign 39
single_sign = sign 39 refl refl refl refl refl refl refl refl refl refl

white_ends : (text : List ℕ) (p : ℕ) (bs : List ℕ) → Left text p bs → begins_white bs ≡ true
    → may_end_name text p ≡ true
unfolding may_end_name
white_ends text p bs l e = or_left (is_blank_or_end text p) _ (white_next text p bs l e)

bracket_ends : (text : List ℕ) (p b : ℕ) → byte text p ≡ b
    → (b == 44 || (b == 93 || b == 125)) ≡ true → may_end_name text p ≡ true
unfolding may_end_name
bracket_ends text p b h e = grind (arith, nat_tests)

name_ends : (text : List ℕ) (p : ℕ) (bs : List ℕ) → Left text p bs → ends_name bs ≡ true
    → may_end_name text p ≡ true
name_ends text p bs l e = grind (arith, nat_tests, white_ends, bracket_ends, left_first)

-- an anchor or an alias, before what ends its name
name_stands : AnchorReads → (flow : Bool) (level b : ℕ) → Sign b → (k : Kind) (x : Context)
    (f : List ℕ → TokenBody) → ((alone : Bool) → indicator_of flow alone b ≡ Some k)
    → (name : List ℕ) → IsWritableName name → (text : List ℕ) (p : ℕ) (bs : List ℕ)
    → lexeme_at k flow level text p ≡ valued f (anchor_at x text p) → Left text p (b ∷ name ++ bs)
    → may_end_name text (p + 1 + length name) ≡ true
    → WordStands flow level k (f name) text p (p + length (b ∷ name)) bs
name_stands names flow level b s k x f kind name (some, are) text p bs word l ends =
    let h = left_first text p b (name ++ bs) l in
    let n = left_more text p b (name ++ bs) l in
    let q = p + 1 + length name in
    let reads = names x text p name (has_at text (p + 1) name (has_front text (p + 1) name bs n.has)) some are ends in
    let far : q ≡ p + suc (length name) = omega arith in
    subst (λ (e : ℕ). WordStands flow level k (f name) text p e bs) far
    (in_line flow level k (f name) text p q bs (sign_begins text p b s h) (sign_kind flow text p b k s h kind) (word ∙ named f (anchor_at x text p) name q reads))

-- where it ends
name_left : (text : List ℕ) (p b : ℕ) (name bs : List ℕ) → Left text p (b ∷ name ++ bs)
    → Left text (p + 1 + length name) bs
name_left text p b name bs l = left_rest text (p + 1) name bs (left_more text p b (name ++ bs) l)

pub anchor_stands : AnchorReads → (flow : Bool) (level : ℕ) (name : List ℕ) → IsWritableName name
    → (text : List ℕ) (p : ℕ) (bs : List ℕ) → Left text p (38 ∷ name ++ bs)
    → Fits Behind.white flow level bs
    → WordStands flow level kinds.Anchor (tokens.anchor name) text p (p + length (38 ∷ name)) bs
unfolding lexeme_at
anchor_stands names flow level name good text p bs l fits = name_stands names flow level 38 anchor_sign kinds.Anchor contexts.Anchor tokens.anchor (λ a. anchor_kind flow a) name good text p bs refl l (white_ends text (p + 1 + length name) bs (name_left text p 38 name bs l) fits)

abbrev pub anchor_word : AnchorReads → (flow : Bool) (level : ℕ) (spaced : Bool) (name : List ℕ)
    → IsWritableName name → Spoken flow level
anchor_word names flow level spaced name good = spoken spaced (38 ∷ name) kinds.Anchor (tokens.anchor name) Behind.white refl (anchor_stands names flow level name good)

pub alias_stands : AnchorReads → (flow : Bool) (level : ℕ) (name : List ℕ) → IsWritableName name
    → (text : List ℕ) (p : ℕ) (bs : List ℕ) → Left text p (42 ∷ name ++ bs)
    → Fits Behind.name_end flow level bs
    → WordStands flow level kinds.Alias (tokens.alias name) text p (p + length (42 ∷ name)) bs
unfolding lexeme_at
alias_stands names flow level name good text p bs l fits = name_stands names flow level 42 alias_sign kinds.Alias contexts.Alias tokens.alias (λ a. alias_kind flow a) name good text p bs refl l (name_ends text (p + 1 + length name) bs (name_left text p 42 name bs l) fits)

abbrev pub alias_word : AnchorReads → (flow : Bool) (level : ℕ) (spaced : Bool) (name : List ℕ)
    → IsWritableName name → Spoken flow level
alias_word names flow level spaced name good = spoken spaced (42 ∷ name) kinds.Alias (tokens.alias name) Behind.name_end refl (alias_stands names flow level name good)

-- ---- tags

tag_at_word : (flow : Bool) (level : ℕ) (text : List ℕ) (p : ℕ)
    → lexeme_at kinds.Tag flow level text p ≡ tagged (tag_at flow text p)
unfolding lexeme_at
tag_at_word flow level text p = refl

tag_ends : (flow : Bool) (text : List ℕ) (p : ℕ) (bs : List ℕ) → Left text p bs
    → begins_white bs ≡ true → may_end_tag flow text p ≡ true
tag_ends flow text p bs l e = or_left (is_blank_or_end text p) (flow && byte text p == 44) (white_next text p bs l e)

-- a tag that can be read, in its spelling
pub split_stands : SplitTagsAreRead → ReadableTagsAreAscii → (flow : Bool) (level : ℕ) (s : Split)
    → IsReadable s → (text : List ℕ) (p : ℕ) (bs : List ℕ) → Left text p (spelled s ++ bs)
    → Fits Behind.white flow level bs
    → WordStands flow level kinds.Tag (tag_body s) text p (p + length (spelled s)) bs
split_stands split ascii flow level s may text p bs l fits =
    let x = ascii s may in
    let q = p + length (spelled s) in
    let o = left_rest text p (spelled s) bs l in
    let h = left_first text p 33 (x.more ++ bs) (subst (λ (ys : List ℕ). Left text p (ys ++ bs)) x.begins l) in
    let read = split s may flow text p (has_at text p (spelled s) (has_front text p (spelled s) bs l.has)) (tag_ends flow text q bs o fits) in
    in_line flow level kinds.Tag (tag_body s) text p q bs (sign_begins text p 33 mark_sign h) (sign_kind flow text p 33 kinds.Tag mark_sign h (λ a. mark_kind flow a))
    (tag_at_word flow level text p ∙ ap (λ (r : Result TagText Wrong). tagged r) read ∙ text_is s q)

abbrev pub split_word : SplitTagsAreRead → ReadableTagsAreAscii
    → (flow : Bool) (level : ℕ) (spaced : Bool) (s : Split) → IsReadable s → Spoken flow level
split_word split ascii flow level spaced s may = spoken spaced (spelled s) kinds.Tag (tag_body s) Behind.white refl (split_stands split ascii flow level s may)

abbrev pub tag_word : SplitTagsAreRead → ReadableTagsAreAscii → WrittenTagsAreReadable
    → (flow : Bool) (level : ℕ) (spaced : Bool) (o : Opening) → IsWritableOpening o → (t : List ℕ)
    → IsWritableTag (Some t) → Spoken flow level
tag_word split ascii readable flow level spaced o fine t good = split_word split ascii flow level spaced (split_tag o.directives t) (readable o fine.0 fine.1 t good.1 good.0)

-- the `!` of an untagged scalar
pub mark_stands : LoneMarkReads → (flow : Bool) (level : ℕ) → (text : List ℕ) (p : ℕ) (bs : List ℕ)
    → Left text p (33 ∷ [] ++ bs) → Fits Behind.space flow level bs
    → WordStands flow level kinds.Tag (tokens.tag [] (33 ∷ [])) text p (p + 1) bs
mark_stands lone flow level text p bs l fits =
    let h = left_first text p 33 bs l in
    let o = left_more text p 33 bs l in
    let next : byte text (p + 1) ≡ 32 = left_byte text (p + 1) bs o ∙ fits in
    in_line flow level kinds.Tag (tokens.tag [] (33 ∷ [])) text p (p + 1) bs (sign_begins text p 33 mark_sign h) (sign_kind flow text p 33 kinds.Tag mark_sign h (λ a. mark_kind flow a))
    (tag_at_word flow level text p ∙ said_tag (tag_at flow text p) (record { handle = []; suffix = 33 ∷ []; end = p + 1 }) (lone flow text p h next))

abbrev pub mark_word : LoneMarkReads → (flow : Bool) (level : ℕ) (spaced : Bool) → Spoken flow level
mark_word lone flow level spaced = spoken spaced (33 ∷ []) kinds.Tag (tokens.tag [] (33 ∷ [])) Behind.space refl (mark_stands lone flow level)

-- ---- quotes

pub double_stands : (flow : Bool) (level : ℕ) (page : Page) (c : Cursor) (value : List ℕ)
    (r : ValueIsReadBack double_quoted_at (between_quotes page (chars value)) c value)
    → (text : List ℕ) (p : ℕ) (bs : List ℕ) → Left text p (encode_utf8_all r.letters ++ bs)
    → Fits Behind.anything flow level bs
    → WordStands flow level kinds.DoubleQuoted (tokens.scalar value YAML_DOUBLE_QUOTED_SCALAR_STYLE)
    text p (p + length (encode_utf8_all r.letters)) bs
unfolding lexeme_at
double_stands flow level page c value r text p bs l fits =
    let own = encode_utf8_all r.letters in
    let begins : own ≡ 34 ∷ encode_utf8_all r.inside = ap (λ (ys : List ℕ). encode_utf8_all ys) r.begins ∙ quote_first r.inside in
    let h = left_first text p 34 (encode_utf8_all r.inside ++ bs) (subst (λ (x : List ℕ). Left text p (x ++ bs)) begins l) in
    let q = p + length own in
    in_line flow level kinds.DoubleQuoted (tokens.scalar value YAML_DOUBLE_QUOTED_SCALAR_STYLE) text p q bs (sign_begins text p 34 quote_sign h) (sign_kind flow text p 34 kinds.DoubleQuoted quote_sign h (λ a. quote_kind flow a))
    (refl ∙ named (λ v. tokens.scalar v YAML_DOUBLE_QUOTED_SCALAR_STYLE) (double_quoted_at text p) value q (r.read text p (has_at text p own (has_front text p own bs l.has))))

abbrev pub double_word : (flow : Bool) (level : ℕ) (spaced : Bool) (page : Page) (c : Cursor)
    (value : List ℕ) → ValueIsReadBack double_quoted_at (between_quotes page (chars value)) c value
    → Spoken flow level
double_word flow level spaced page c value r = spoken spaced (encode_utf8_all r.letters) kinds.DoubleQuoted (tokens.scalar value YAML_DOUBLE_QUOTED_SCALAR_STYLE) Behind.anything refl (double_stands flow level page c value r)

single_first : (xs : List ℕ) → encode_utf8_all (39 ∷ xs) ≡ 39 ∷ encode_utf8_all xs
single_first xs = let e : encode_utf8 39 ≡ 39 ∷ [] = encode_ascii 39 (omega arith) in rw e refl

pub single_stands : ScalarsAreWords
    → (flow : Bool) (level : ℕ) (page : Page) (c : Cursor) (value : List ℕ)
    (r : SingleIsBack (between_single page (chars value)) c value)
    → (text : List ℕ) (p : ℕ) (bs : List ℕ) → Left text p (encode_utf8_all r.letters ++ bs)
    → Fits Behind.unquoted flow level bs
    → WordStands flow level kinds.SingleQuoted (tokens.scalar value YAML_SINGLE_QUOTED_SCALAR_STYLE)
    text p (p + length (encode_utf8_all r.letters)) bs
single_stands words flow level page c value r text p bs l fits =
    let own = encode_utf8_all r.letters in
    let begins : own ≡ 39 ∷ encode_utf8_all r.inside = ap (λ (ys : List ℕ). encode_utf8_all ys) r.begins ∙ single_first r.inside in
    let h = left_first text p 39 (encode_utf8_all r.inside ++ bs) (subst (λ (x : List ℕ). Left text p (x ++ bs)) begins l) in
    let q = p + length own in
    let o = left_rest text p own bs l in
    in_line flow level kinds.SingleQuoted (tokens.scalar value YAML_SINGLE_QUOTED_SCALAR_STYLE) text p q bs (sign_begins text p 39 single_sign h) (sign_kind flow text p 39 kinds.SingleQuoted single_sign h (λ a. single_kind flow a))
    ((words flow level text p value).1 q (r.read text p (has_at text p own (has_front text p own bs l.has)) (λ e. fits (sym (left_byte text q bs o) ∙ e))))

abbrev pub single_word : ScalarsAreWords
    → (flow : Bool) (level : ℕ) (spaced : Bool) (page : Page) (c : Cursor) (value : List ℕ)
    → SingleIsBack (between_single page (chars value)) c value → Spoken flow level
single_word words flow level spaced page c value r = spoken spaced (encode_utf8_all r.letters) kinds.SingleQuoted (tokens.scalar value YAML_SINGLE_QUOTED_SCALAR_STYLE) Behind.unquoted refl (single_stands words flow level page c value r)

-- ---- plain scalars

pub plain_stands : ScalarsAreWords
    → (flow : Bool) (level : ℕ) (page : Page) (c : Cursor) (value : List ℕ)
    (r : PlainIsBack flow level (flow_body page false 32 (chars value) ▹ after_text) c value)
    → (text : List ℕ) (p : ℕ) (bs : List ℕ) → Left text p (encode_utf8_all r.letters ++ bs)
    → Fits Behind.stop flow level bs
    → WordStands flow level kinds.Plain (tokens.scalar value YAML_PLAIN_SCALAR_STYLE) text p
    (p + length (encode_utf8_all r.letters)) bs
plain_stands words flow level page c value r text p bs l fits =
    let own = encode_utf8_all r.letters in
    let (stops, calm) = fits in
    let e = p + length own in
    let gap = white_of bs in
    let says = goes_on flow level (flow_body page false 32 (chars value) ▹ after_text) c value r text p bs l stops in
    let o = left_rest text p own bs l in
    let (has, blank, ends) = stops_end flow level text e bs o stops in
    let starts = ends_begins flow level text p (e + length gap) ends says.begins (no_hash text e bs o calm) (omega arith) in
    let w : WordText = record { body = tokens.scalar value YAML_PLAIN_SCALAR_STYLE; end = e; reached = e + length gap; broke = has_break gap } in
    record {
      begins = says.begins;
      kind = says.kind;
      end = e;
      reached = e + length gap;
      broke = has_break gap;
      word = (words flow level text p value).0 own gap says;
      near = λ h. none_more e gap (h refl);
      wide = true;
      block = λ e. refl;
      leaves = λ d same. words_leave.none text d w e gap (record { has = has; blank = blank; ends = starts }) refl refl;
    }
  where
    none_more : (e : ℕ) (gap : List ℕ) → gap ≡ [] → e + length gap ≡ e
    none_more e gap h = let z : length gap ≡ 0 = ap (λ (xs : List ℕ). length xs) h in omega (arith, z)

abbrev pub plain_word : ScalarsAreWords
    → (flow : Bool) (level : ℕ) (spaced : Bool) (page : Page) (c : Cursor) (value : List ℕ)
    → PlainIsBack flow level (flow_body page false 32 (chars value) ▹ after_text) c value
    → Spoken flow level
plain_word words flow level spaced page c value r = spoken spaced (encode_utf8_all r.letters) kinds.Plain (tokens.scalar value YAML_PLAIN_SCALAR_STYLE) Behind.stop refl (plain_stands words flow level page c value r)

-- ==== A single quoted scalar as content.

no_quote : (bs : List ℕ) → begins_white bs ≡ true → first bs ≡ 39 → ⊥
no_quote bs h e = grind (arith, nat_tests, false≢true)

pub bare_off : (b : Bool) → b ≡ false → b ≡ true → ⊥
bare_off b e f = false≢true (sym e ∙ f)

quotes_walk : SingleStands → ScalarsAreWords
    → (page : Page) (ls : List ℕ) (value : List ℕ) (rest : Rest) → IsUtf8 value
    → (allowed page.unicode (chars value)).single ≡ true → 0 < page.indentation
    → Follows (indent ls) rest
    → (c : Cursor)
    → Walks (between_single page (chars value))
    (λ bs. tokens.scalar value YAML_SINGLE_QUOTED_SCALAR_STYLE ∷ bs) ls c rest
unfolding LeaveClear
quotes_walk stands words page ls value rest u may deep follows c x text o T s right l =
    let p = o.at in
    let level = indent ls in
    let at = stands page c value u deep may rest (λ e f. no_quote (bytes (rest e)) (follows.white e f.bare)) text p l in
    let g = at.goes in
    let e = p + length g.own in
    let z : p + 0 ≡ p = omega arith in
    let w : WordText = record { body = tokens.scalar value YAML_SINGLE_QUOTED_SCALAR_STYLE; end = e; reached = e; broke = false } in
    let comes : Comes text p 0 level kinds.SingleQuoted [] w e = record {
      behind = no_gap text p at.begins;
      kind = ap (λ n. kind_at false text n) z ∙ at.kind false;
      word = ap (λ n. lexeme_at kinds.SingleQuoted false level text n) z ∙ (words false level text p value).1 e at.read;
      up = omega arith;
    } in
    let u0 : WalkState = record { at = p; line = o.line; depth = 0; now = o.now; broken = o.broken } in
    let reads : WalkReads x text u0 [] ls [] T = subst (λ i. WalkReads x text (record { at = p; line = o.line; depth = i; now = o.now; broken = o.broken }) [] ls [] T) s.flat s.reads in
    let r = walk_word x text u0 [] ls T kinds.SingleQuoted [] w e false true reads tt comes refl (inr (subst (λ n. level ≤ column_at text n) (sym z) right)) (λ v. absurd (false≢true v)) (words_leave.all text 0 false w refl) in
    record {
      behind = g.behind;
      place = behind text (p + 0) e 0 false true;
      more = [];
      stage = record { reads = r; flat = refl; broken = refl; bare = λ b. absurd (bare_off g.behind.bare g.fine.bare b); line = line_at-grows text (p + 0) e (omega arith) };
      left = g.left;
      bare = g.fine.bare;
      same = g.fine.kept;
    }

pub single_on : SingleStands → ScalarsAreWords → SingleIsWalked
single_on stands words page ls c value rest u may deep follows =
    walks_gap (between_single page (chars value)) (λ bs. tokens.scalar value YAML_SINGLE_QUOTED_SCALAR_STYLE ∷ bs) ls c rest (quotes_walk stands words page ls value rest u may deep follows)
