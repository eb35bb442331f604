-- The start of a line outside of all levels, and what may be there after a root.
use Rattle.std.proofs.Common.{◌≡◌, ◌⊎◌, ℕ, ◌&&◌, ◌||◌, Bool, true, false, List, [], ◌∷◌, ◌++◌, Some, None, refl, sym, ap, subst, ◌∙◌, inl, inr, arith, if◌then◌else◌, not, Option, ◌+◌, nat_lt}
use Rattle.yaml_emit_laws.proofs.NodeWords.{false≢true, yaml_encoding_t, TokenBody, column_at, break_of, byte, is_blank_or_end, Cursor, LineBreak, Lf, Cr, CrLf, Rest, line, blanks, must_break, new_line, indent_to, when, nothing_more, word, break_text, Left, bytes, first, letter_low, WalkState, WalkReads, behind, begins_white, begins_mark, stops_plain_at, begins_blank, NodeStage, Lined, NoFeed, no_comment, Ending, NodeWalks, at_line, yaml_version_directive_t, TagDirective, Settings, encode, Opening, Document, Node, dots, dashes, context_of, root_position, node_layout, directives_text, start_layout, end_layout, stop_layout, documents_layout, IsWritable, IsWritableOpening, AreWritable, three, behind_three, Thrice, thrice_dash, thrice_dot, line_blank, pretty, Kind, allows_key, is_outside, is_end, WordText, kind_at, lexeme_at, left_first, left_more, line_at-grows, Comes, words_leave, walk_outer}
use Rattle.yaml_emit_laws.proofs.Lining.{line_on, no_gap}
use Rattle.yaml_emit_layout.specs.declared.level.Part.TheVariants as part
use Rattle.yaml_emit_layout.specs.scan_types.Tokens as tokens
use Rattle.yaml_scan_history.specs.declared.kind.Kind.TheVariants as kinds

pub at_start : (e : Cursor) (kept : Bool) → e.bare ≡ true → e.white ≡ true → e.column ≡ 0
    → e.kept ≡ kept → e ≡ at_line kept
at_start e kept bare white column same = grind arith

-- At the start of a line outside of all levels but those that are left to whoever closes them.
pub record AtLine (x : yaml_encoding_t) (text : List ℕ) (after : Rest) (kept : Bool) (T : List TokenBody → List TokenBody) : Type 0 where
  pub place : WalkState
  pub more : List ℕ
  pub stage : NodeStage x text (at_line kept) place [] more T
  pub left : Left text place.at (bytes (after (at_line kept)))

pub from_lined : (x : yaml_encoding_t) (text : List ℕ) (after : Rest) (kept : Bool) (more : List ℕ)
    (T : List TokenBody → List TokenBody) → Lined x text after 0 kept [] more T
    → AtLine x text after kept T
from_lined x text after kept more T h = grind (arith, at_start)

-- the same, whatever broke the line
pub record OnLine (x : yaml_encoding_t) (text : List ℕ) (rest : Rest) (kept : Bool) (T : List TokenBody → List TokenBody) : Type 0 where
  pub place : WalkState
  pub more : List ℕ
  pub reads : WalkReads x text place [] [] more T
  pub flat : place.depth ≡ 0
  pub column : column_at text place.at ≡ 0
  pub left : Left text place.at (bytes (rest (at_line kept)))

pub on_from : (x : yaml_encoding_t) (text : List ℕ) (rest : Rest) (kept : Bool)
    (T : List TokenBody → List TokenBody) → AtLine x text rest kept T → OnLine x text rest kept T
on_from x text rest kept T a =
    let (now, column) = a.stage.bare refl in
    record { place = a.place; more = a.more; reads = a.stage.reads; flat = a.stage.flat; column = column; left = a.left }

-- nothing, or a document's mark with white or the end after it
abbrev pub is_outer : List ℕ → Bool
is_outer [] = true
is_outer (b ∷ bs) = begins_mark b bs

-- At the start of the line after a root nothing comes, or a document's mark.
abbrev pub EndsRoot : Rest → Type 0
EndsRoot after = (kept : Bool) → is_outer (bytes (after (at_line kept))) ≡ true

-- ---- a mark's first byte

pick : (p q r u v w : Bool) → (((p && q) && r) || ((u && v) && w)) ≡ true → (p ≡ true) ⊎ (u ≡ true)
pick true q r u v w h = inl refl
pick false q r true v w h = inr refl
pick false q r false v w h = absurd (false≢true h)

pub mark_first : (a : ℕ) (bs : List ℕ) → begins_mark a bs ≡ true → (a ≡ 45) ⊎ (a ≡ 46)
mark_first a bs h = grind (arith, pick)

pub outer_calm : (bs : List ℕ) → is_outer bs ≡ true → first bs ≡ 10 → ⊥
outer_calm bs h e = grind (arith, mark_first)

-- ---- what such a line does to what is before it

stops_so : (level b : ℕ) (bs : List ℕ) → (b ≡ 45) ⊎ (b ≡ 46) → begins_mark b bs ≡ true
    → stops_plain_at false level (Some 0) (b ∷ bs) ≡ true
unfolding stops_plain_at break_of
stops_so level b bs (inl e) h = let k = subst (λ x. begins_mark x bs ≡ true) e h in subst (λ x. stops_plain_at false level (Some 0) (x ∷ bs) ≡ true) (sym e) (rw k refl)
stops_so level b bs (inr e) h = let k = subst (λ x. begins_mark x bs ≡ true) e h in subst (λ x. stops_plain_at false level (Some 0) (x ∷ bs) ≡ true) (sym e) (rw k refl)

outer_stops : (level : ℕ) (bs : List ℕ) → is_outer bs ≡ true
    → stops_plain_at false level (Some 0) bs ≡ true
unfolding stops_plain_at
outer_stops level [] h = refl
outer_stops level (b ∷ bs) h = stops_so level b bs (mark_first b bs h) h

outer_no_comment : (bs : List ℕ) → is_outer bs ≡ true → no_comment bs ≡ true
unfolding no_comment
outer_no_comment bs h = grind (arith, mark_first)

outer_solid : (bs : List ℕ) → is_outer bs ≡ true → begins_blank bs ≡ false
unfolding break_of
outer_solid bs h = grind (arith, mark_first)

-- a line after text, in bytes
new_line_bytes : (b : LineBreak) (c : Cursor) (rest : Rest)
    → bytes (new_line b c (λ k. indent_to 0 k rest)) ≡ break_text b
    ++ bytes (rest (at_line c.kept))
unfolding blanks
new_line_bytes Lf c rest = letter_low 10 _ refl
new_line_bytes Cr c rest = letter_low 13 _ refl
new_line_bytes CrLf c rest = letter_low 13 _ refl ∙ ap (λ (bs : List ℕ). 13 ∷ bs) (letter_low 10 _ refl)

line_bytes : (b : LineBreak) (c : Cursor) (rest : Rest) → c.bare ≡ false
    → bytes (line b 0 c rest) ≡ break_text b ++ bytes (rest (at_line c.kept))
unfolding line
line_bytes b c rest bare =
    let must : must_break 0 c ≡ true = rw bare refl in
    let k : Rest = λ x. indent_to 0 x rest in
    ap (λ (t : Bool). bytes (if t then new_line b c k else k c)) must ∙ new_line_bytes b c rest

break_stops : (level : ℕ) (b : LineBreak) (bs : List ℕ)
    → stops_plain_at false level None (break_text b ++ bs) ≡ stops_plain_at false level (Some 0) bs
unfolding stops_plain_at
break_stops level Lf bs = refl
break_stops level _ bs = refl

break_calm : (b : LineBreak) (bs : List ℕ) → no_comment (break_text b ++ bs) ≡ no_comment bs
unfolding no_comment
break_calm Lf bs = refl
break_calm _ bs = refl

pub break_white : (b : LineBreak) (bs : List ℕ) → begins_white (break_text b ++ bs) ≡ true
break_white Lf bs = refl
break_white _ bs = refl

pub line_white : (b : LineBreak) (c : Cursor) (rest : Rest) → c.bare ≡ false
    → begins_white (bytes (line b 0 c rest)) ≡ true
line_white b c rest bare = ap (λ bs. begins_white bs) (line_bytes b c rest bare) ∙ break_white b (bytes (rest (at_line c.kept)))

pub outer_feed : (after : Rest) → EndsRoot after → NoFeed 0 after
outer_feed after ends e bare white column f = outer_calm (bytes (after (at_line e.kept))) (ends e.kept) (sym (ap (λ (c : Cursor). first (bytes (after c))) (at_start e e.kept bare white column refl)) ∙ f)

-- what follows a root ends it
pub root_ending : (b : LineBreak) (after : Rest) → EndsRoot after → Ending b 0 0 after
root_ending b after ends = record {
  follows = record {
    stops = λ level low e bare. ap (λ bs. stops_plain_at false level None bs) (line_bytes b e after bare) ∙ break_stops level b (bytes (after (at_line e.kept))) ∙ outer_stops level (bytes (after (at_line e.kept))) (ends e.kept);
    calm = λ e bare. ap (λ bs. no_comment bs) (line_bytes b e after bare) ∙ break_calm b (bytes (after (at_line e.kept))) ∙ outer_no_comment (bytes (after (at_line e.kept))) (ends e.kept);
    white = λ e bare. line_white b e after bare;
  };
  feed = outer_feed after ends;
  solid = λ e bare white column. ap (λ (c : Cursor). begins_blank (bytes (after c))) (at_start e e.kept bare white column refl) ∙ outer_solid (bytes (after (at_line e.kept))) (ends e.kept);
}

-- ---- the line after text

pub line_lands : (b : LineBreak) (x : yaml_encoding_t) (text : List ℕ) (c : Cursor) (o : WalkState)
    (more : List ℕ) (T : List TokenBody → List TokenBody) (rest : Rest) → NodeStage x text c o [] more T
    → NoFeed 0 rest
    → Left text o.at (bytes (line b 0 c rest)) → AtLine x text rest c.kept T
line_lands b x text c o more T rest s calm l = from_lined x text rest c.kept more T (line_on b 0 x text c o [] more T rest s calm l)

-- ==== What is after a root: a document's mark, or nothing.

-- ---- marks

pub dots_outer : (s : Settings) (kept : Bool) (rest : Rest)
    → is_outer (bytes (dots s (at_line kept) rest)) ≡ true
dots_outer s kept rest =
    let after : Rest = λ e. line s.line_break 0 e rest in
    ap (λ bs. is_outer bs) (three 46 refl kept after) ∙ line_white s.line_break (behind_three kept) rest refl

pub dashes_are : (s : Settings) (kept : Bool) (rest : Rest)
    → bytes (dashes (pretty s) (at_line kept) rest) ≡ 45 ∷ 45 ∷ 45
    ∷ bytes (rest (behind_three kept))
unfolding line blanks
dashes_are s kept rest = three 45 refl kept rest

-- ---- what follows a document

pub nothing_outer : is_outer (bytes []) ≡ true
unfolding encode
nothing_outer = refl

stop_outer : (s : Settings) (kept : Bool)
    → is_outer (bytes (stop_layout s true (at_line kept) nothing_more)) ≡ true
unfolding stop_layout
stop_outer s true = dots_outer s true nothing_more
stop_outer s false = nothing_outer

start_outer : (s : Settings) (version : Option yaml_version_directive_t)
    (directives : List TagDirective) (implicit kept : Bool) (rest : Rest)
    → begins_white (bytes (rest (behind_three false))) ≡ true
    → is_outer (bytes (start_layout (pretty s) false true
    (record { version = version; directives = directives; implicit = implicit }) (at_line kept)
    rest)) ≡ true
unfolding start_layout directives_text
start_outer s (Some v) directives implicit kept rest white = dots_outer (pretty s) kept _
start_outer s None (d ∷ ds) implicit kept rest white = dots_outer (pretty s) kept _
start_outer s None [] implicit kept rest white = ap (λ bs. is_outer bs) (dashes_are s false rest) ∙ white

-- all roots of documents are walked
abbrev pub RootsWalk : Settings → Type 0
RootsWalk s = (o : Opening) → IsWritableOpening o → (n : Node) → IsWritable n → (bare : Bool) → NodeWalks (context_of s o.directives) None part.Item bare n

abbrev pub behind_root : Settings → Bool → List Document → Rest
behind_root s implicit ds e = when (not implicit) (dots s) e (λ k. documents_layout s false implicit ds k nothing_more)

-- a root, and the line after it
abbrev pub from_root : Settings → Document → List Document → Rest
from_root s d ds e = node_layout (context_of s d.opening.directives) root_position d.root e (λ k. line s.line_break 0 k (behind_root s d.implicit_end ds))

pub root_white : (s : Settings) → RootsWalk (pretty s) → (d : Document)
    → IsWritableOpening d.opening → IsWritable d.root → (ds : List Document)
    → begins_white (bytes (from_root (pretty s) d ds (behind_three false))) ≡ true
root_white s roots d right root ds = (roots d.opening right d.root root true).white (behind_three false) 0 (behind_root (pretty s) d.implicit_end ds) refl

documents_outer : (s : Settings) → RootsWalk (pretty s) → (ds : List Document) → AreWritable ds
    → (kept : Bool)
    → is_outer (bytes (documents_layout (pretty s) false true ds (at_line kept) nothing_more))
    ≡ true
unfolding documents_layout end_layout
documents_outer s roots [] good kept = stop_outer (pretty s) kept
documents_outer s roots (d ∷ ds) (right, root, good) kept = start_outer s d.opening.version d.opening.directives d.opening.implicit kept (from_root (pretty s) d ds) (root_white s roots d right root ds)

pub root_ends : (s : Settings) → RootsWalk (pretty s) → (implicit : Bool) (ds : List Document)
    → AreWritable ds → EndsRoot (behind_root (pretty s) implicit ds)
root_ends s roots false ds good kept = dots_outer (pretty s) kept _
root_ends s roots true ds good kept = documents_outer s roots ds good kept

-- ==== Document marks.

-- what is left of the text after three equal signs at the start of a line
record Threes (text : List ℕ) (p x : ℕ) (kept : Bool) (rest : Rest) : Type 0 where
  first : byte text p ≡ x
  second : byte text (p + 1) ≡ x
  third : byte text (p + 2) ≡ x
  left : Left text (p + 3) (bytes (rest (behind_three kept)))

threes : (text : List ℕ) (p x : ℕ) → nat_lt x 128 ≡ true → (kept : Bool) (rest : Rest)
    → Left text p (bytes (word (x ∷ x ∷ x ∷ []) (at_line kept) rest)) → Threes text p x kept rest
threes text p x low kept rest l = grind (arith, three, left_more, left_first)

-- After a document's mark.
pub record Marked (x : yaml_encoding_t) (text : List ℕ) (rest : Rest) (kept : Bool) (T : List TokenBody → List TokenBody) : Type 0 where
  pub place : WalkState
  pub stage : NodeStage x text (behind_three kept) place [] [] T
  pub left : Left text place.at (bytes (rest (behind_three kept)))

three_walks : (s : ℕ) (k : Kind) (body : TokenBody) → Thrice s k body
    → (is_outside k && not (is_end k)) ≡ true
    → (x : yaml_encoding_t) (text : List ℕ) (rest : Rest) (kept : Bool)
    (T : List TokenBody → List TokenBody)
    → ((q : ℕ) → Left text q (bytes (rest (behind_three kept))) → is_blank_or_end text q ≡ true)
    → OnLine x text (λ e. word (s ∷ s ∷ s ∷ []) e rest) kept T
    → Marked x text rest kept (λ bs. T (body ∷ bs))
three_walks s k body t outer x text rest kept T alone h =
    let o = h.place in
    let p = o.at in
    let m = threes text p s t.low kept rest h.left in
    let z : p + 0 ≡ p = omega arith in
    let w : WordText = record { body = body; end = p + 3; reached = p + 3; broke = false } in
    let comes : Comes text p 0 0 k [] w (p + 3) = record {
      behind = no_gap text p (t.begins text p m.first);
      kind = ap (λ n. kind_at false text n) z ∙ t.kind text p m.first m.second m.third (alone (p + 3) m.left) h.column;
      word = ap (λ n. lexeme_at k false 0 text n) z ∙ t.said text p;
      up = omega arith;
    } in
    let r = walk_outer x text o h.more T k [] w (p + 3) (allows_key k true false) true h.reads h.flat comes outer (words_leave.all text 0 (allows_key k true false) w refl) in
    record {
      place = behind text (p + 0) (p + 3) 0 (allows_key k true false) true;
      stage = record { reads = r; flat = refl; broken = refl; bare = λ b. absurd (false≢true b); line = line_at-grows text (p + 0) (p + 3) (omega arith) };
      left = m.left;
    }

pub dashes_walk : (x : yaml_encoding_t) (text : List ℕ) (rest : Rest) (kept : Bool)
    (T : List TokenBody → List TokenBody)
    → ((q : ℕ) → Left text q (bytes (rest (behind_three kept))) → is_blank_or_end text q ≡ true)
    → OnLine x text (λ e. word (45 ∷ 45 ∷ 45 ∷ []) e rest) kept T
    → Marked x text rest kept (λ bs. T (tokens.document_start ∷ bs))
dashes_walk = three_walks 45 kinds.DocumentStart tokens.document_start thrice_dash refl

-- with its line
pub dots_walk : (s : Settings) (x : yaml_encoding_t) (text : List ℕ) (rest : Rest) (kept : Bool)
    (T : List TokenBody → List TokenBody) → NoFeed 0 rest
    → AtLine x text (λ e. dots s e rest) kept T
    → AtLine x text rest kept (λ bs. T (tokens.document_end ∷ bs))
dots_walk s x text rest kept T calm a =
    let after : Rest = λ e. line s.line_break 0 e rest in
    let m = three_walks 46 kinds.DocumentEnd tokens.document_end thrice_dot refl x text after kept T (λ q l. line_blank s.line_break text (behind_three kept) q rest refl l)
    (on_from x text (λ e. dots s e rest) kept T a) in
    line_lands s.line_break x text (behind_three kept) m.place [] (λ bs. T (tokens.document_end ∷ bs)) rest m.stage calm m.left
