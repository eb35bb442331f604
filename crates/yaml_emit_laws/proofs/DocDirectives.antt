-- The lines of directives are walked.
use Rattle.std.proofs.Common.{◌≡◌, ◌⊎◌, ℕ, ◌+◌, ◌<◌, ◌||◌, nat_lt, Bool, true, false, List, [], ◌∷◌, ◌++◌, length, Option, Some, None, refl, sym, ap, subst, ◌∙◌, inl, inr, arith, ℤ, pos, codes, if◌then◌else◌, int_eq, ◌&&◌, not}
use Rattle.std.specs.Cmp.{signed_Decides}
use Rattle.yaml_emit_laws.proofs.NodeWords.{cases_Bool, lt-ltb, and_parts, true≢false, false≢true, yaml_encoding_t, byte, break_width, column_at, is_break, HasAt, are_gap, begins_lexeme, WordText, kind_at, lexeme_at, body_said, TokenBody, yaml_version_directive_t, TagDirective, Cursor, Settings, LineBreak, Lf, Cr, CrLf, letter, encode, char_bytes, Layout, Rest, ◌▹◌, letters, word, line, blanks, new_line, keep, when, nothing_more, uri_text, Opening, Document, Node, alias_node, is_version, version_problem, directives_problem, version_word, version_text, directive_text, directives_text, is_directed, is_marked, dots, dashes, start_layout, Context, context_of, root_position, node_layout, end_layout, stop_layout, documents_layout, version_bodies, directives_bodies, end_bodies, VersionReads, IsReadableDirective, AreReadable, WrittenDirectivesAreReadable, ReadableDirectivesAreAscii, DirectivesAreRead, IsWritableOpening, AreWritable, Left, bytes, first, has_front, has_at, left_first, left_more, left_rest, left_letter, behind_feed, behind_return, IsGap, Comes, behind, WalkState, Done, printed_begins, marks_come, words_leave, walk_white, walk_outer, walk_starts, walk_stops, walk_says, return_width, both_width, feed_width, left_byte, none_all, at_line, behind_three, end_zero, end_begins, has_all, pretty, same_settings, begins_white, opening_bodies, node_bodies, node_kept, root_bodies, is_root_kept, documents_bodies, stream_bodies, NodeStage, NoFeed, indent, DocumentsAreRead}
use Rattle.yaml_scan_history.specs.Directives as directives
use Rattle.yaml_scan_history.specs.Directives.{Said, directive_at}
use Rattle.yaml_scan_history.specs.declared.kind.Kind.TheVariants as kinds
use Rattle.yaml_emit_layout.specs.scan_types.Tokens as tokens
use Rattle.yaml_emit_laws.proofs.Lining.{no_gap}
use Rattle.yaml_emit_laws.proofs.DocStarts.{OnLine, at_start, AtLine, from_lined, outer_calm, root_ending, dashes_walk, dots_walk, dashes_are, RootsWalk, behind_root, from_root, root_white, root_ends, nothing_outer}
use Rattle.yaml_emit_laws.proofs.Resolving.{or_first}
use Rattle.yaml_emit_laws.proofs.Directives.{percent_kind, directive_word, percent_begins, ReadsLine, version_line, said_directive, WritesLine, version_writes, tag_front, tag_writes}
use Rattle.yaml_emit_laws.specs.PrettyBodies.{start_bodies}
use Rattle.yaml_emit_layout.specs.declared.level.Part.TheVariants as part
use Rattle.yaml_emit_laws.specs.TextLaws.{text_of_documents, IsReadAs}
use Rattle.yaml_emit_laws.proofs.Stopping.{white_next}

-- ---- the break that ends a directive

-- what follows a directive's line begins with `%` or with `-`
abbrev pub IsNext : ℕ → Type 0
IsNext b = (b ≡ 37) ⊎ (b ≡ 45)

next_begins : (text : List ℕ) (p b : ℕ) → byte text p ≡ b → IsNext b → begins_lexeme text p ≡ true
next_begins text p b h (inl e) = printed_begins text p 37 (h ∙ e) (omega arith) (omega arith) (λ y. omega (arith, y))
next_begins text p b h (inr e) = printed_begins text p 45 (h ∙ e) (omega arith) (omega arith) (λ y. omega (arith, y))

pub next_calm : (b : ℕ) → IsNext b → b ≡ 10 → ⊥
next_calm b (inl e) f = omega (arith, e, f)
next_calm b (inr e) f = omega (arith, e, f)

-- A break is there, and after it the rest of the text is at the start of a line.
record Broken (text : List ℕ) (q : ℕ) (rest : Rest) (kept : Bool) : Type 0 where
  white : List ℕ
  has : HasAt text q white
  blank : are_gap white ≡ true
  width : break_width text q ≡ length white
  some : 0 < length white
  column : column_at text (q + length white) ≡ 0
  left : Left text (q + length white) (bytes (rest (at_line kept)))

new_line_broken : (b : LineBreak) (text : List ℕ) (c : Cursor) (q : ℕ) (rest : Rest)
    → IsNext (first (bytes (rest (at_line c.kept)))) → Left text q (bytes (new_line b c rest))
    → Broken text q rest c.kept
new_line_broken Lf text c q rest next l =
    let m = left_letter text q 10 (rest (at_line c.kept)) refl l in
    let h = left_first text q 10 (bytes (rest (at_line c.kept))) m in
    let n = left_more text q 10 (bytes (rest (at_line c.kept))) m in
    let calm : byte text (q + 1) ≡ 10 → ⊥ = λ e. next_calm (first (bytes (rest (at_line c.kept)))) next (sym (left_byte text (q + 1) (bytes (rest (at_line c.kept))) n) ∙ e) in
    record { white = 10 ∷ []; has = has_at text q (10 ∷ []) (h, tt); blank = refl; width = feed_width text q h; some = omega arith; column = behind_feed text q h calm; left = n }
new_line_broken Cr text c q rest next l =
    let m = left_letter text q 13 (rest (at_line c.kept)) refl l in
    let h = left_first text q 13 (bytes (rest (at_line c.kept))) m in
    let n = left_more text q 13 (bytes (rest (at_line c.kept))) m in
    let calm : byte text (q + 1) ≡ 10 → ⊥ = λ e. next_calm (first (bytes (rest (at_line c.kept)))) next (sym (left_byte text (q + 1) (bytes (rest (at_line c.kept))) n) ∙ e) in
    record { white = 13 ∷ []; has = has_at text q (13 ∷ []) (h, tt); blank = refl; width = return_width text q h calm; some = omega arith; column = behind_return text q h calm; left = n }
new_line_broken CrLf text c q rest next l =
    let m = left_letter text q 13 (letter 10 ∷ rest (at_line c.kept)) refl l in
    let h = left_first text q 13 _ m in
    let k = left_letter text (q + 1) 10 (rest (at_line c.kept)) refl (left_more text q 13 _ m) in
    let g = left_first text (q + 1) 10 (bytes (rest (at_line c.kept))) k in
    let n = left_more text (q + 1) 10 (bytes (rest (at_line c.kept))) k in
    let calm : byte text (q + 1 + 1) ≡ 10 → ⊥ = λ e. next_calm (first (bytes (rest (at_line c.kept)))) next (sym (left_byte text (q + 1 + 1) (bytes (rest (at_line c.kept))) n) ∙ e) in
    let two : q + 1 + 1 ≡ q + 2 = omega arith in
    record {
      white = 13 ∷ 10 ∷ [];
      has = has_at text q (13 ∷ 10 ∷ []) (h, (g, tt));
      blank = refl;
      width = both_width text q h g;
      some = omega arith;
      column = subst (λ n. column_at text n ≡ 0) two (behind_feed text (q + 1) g calm);
      left = subst (λ n. Left text n (bytes (rest (at_line c.kept)))) two n;
    }

line_broken : (b : LineBreak) (text : List ℕ) (c : Cursor) (q : ℕ) (rest : Rest) → c.bare ≡ false
    → IsNext (first (bytes (rest (at_line c.kept)))) → Left text q (bytes (line b 0 c rest))
    → Broken text q rest c.kept
unfolding line blanks
line_broken b text c q rest e next l = grind (arith, new_line_broken)

-- ---- a directive and its line

-- At the start of a line a layout is walked with these tokens, up to the start of a line.
abbrev pub WalksOver : Layout → (List TokenBody → List TokenBody) → Rest → Type 0
WalksOver a B rest = (x : yaml_encoding_t) (text : List ℕ) (T : List TokenBody → List TokenBody) → OnLine x text (λ e. a e rest) false T → OnLine x text rest false (λ bs. T (B bs))

line_walks : (a : Layout) (b : LineBreak) (xs : List ℕ) (said : Said) → WritesLine a b xs false
    → ReadsLine xs said → (rest : Rest) → IsNext (first (bytes (rest (at_line false))))
    → WalksOver a (λ bs. body_said said ∷ bs) rest
line_walks a b xs said w reads rest next x text T s =
    let o = s.place in
    let p = o.at in
    let tail = bytes (line b 0 w.behind rest) in
    let m = subst (λ (bs : List ℕ). Left text p bs) (w.same rest) s.left in
    let h = left_first text p 37 (xs ++ tail) m in
    let q = p + length (37 ∷ xs) in
    let l : Left text q tail = left_rest text p (37 ∷ xs) tail m in
    let there = subst (λ (k : Bool). IsNext (first (bytes (rest (at_line k))))) (sym w.still) next in
    let broken = line_broken b text w.behind q rest w.bare there l in
    let is : is_break text q ≡ true = lt-ltb 0 (break_width text q) (subst (λ n. 0 < n) (sym broken.width) broken.some) in
    let place = q + break_width text q in
    let read = reads text p (has_front text p (37 ∷ xs) tail m.has) is in
    let here : WordText = record { body = body_said said; end = q; reached = place; broke = false } in
    let same = directive_word text p ∙ said_directive (directive_at text p) (record { said = said; end = q; place = place }) read in
    let z : p + 0 ≡ p = omega arith in
    let comes : Comes text p 0 0 kinds.Directive [] here q = record {
      behind = no_gap text p (percent_begins text p h);
      kind = ap (λ n. kind_at false text n) z ∙ percent_kind text p h s.column;
      word = ap (λ n. lexeme_at kinds.Directive false 0 text n) z ∙ same;
      up = omega arith;
    } in
    let begins = next_begins text (q + length broken.white) _ (left_byte text (q + length broken.white) _ broken.left) there in
    let gap : IsGap text q broken.white = record { has = broken.has; blank = broken.blank; ends = begins } in
    let leaves = words_leave.over text 0 false here q broken.white gap (ap (λ n. q + n) broken.width) refl in
    let r = walk_outer x text o s.more T kinds.Directive [] here q false false s.reads s.flat comes refl leaves in
    let white = walk_white x text (behind text (p + 0) q 0 false false) [] [] [] (λ bs. T (body_said said ∷ bs)) broken.white r broken.has broken.blank in
    record {
      place = _;
      more = [];
      reads = white;
      flat = refl;
      column = broken.column;
      left = subst (λ (k : Bool). Left text (q + length broken.white) (bytes (rest (at_line k)))) w.still broken.left;
    }

nothing_walks : (rest : Rest) → WalksOver (λ e k. k e) (λ bs. bs) rest
nothing_walks rest x text T s = s

-- ---- versions

version_line_walks : VersionReads → (b : LineBreak) (n : ℕ) → n < 10 → nat_lt (48 + n) 128 ≡ true
    → (rest : Rest) → IsNext (first (bytes (rest (at_line false))))
    → WalksOver (version_line b (49 ∷ 46 ∷ (48 + n) ∷ []))
    (λ bs. tokens.version_directive (pos 1) (pos n) ∷ bs) rest
version_line_walks versions b n small low rest next =
    line_walks (version_line b (49 ∷ 46 ∷ (48 + n) ∷ [])) b (89 ∷ 65 ∷ 77 ∷ 76 ∷ 32 ∷ 49 ∷ 46 ∷ (48 + n) ∷ []) (directives.version 1 n) (version_writes b (48 + n) low false)
    (λ text p has stop. versions text p n small (has_at text p (37 ∷ 89 ∷ 65 ∷ 77 ∷ 76 ∷ 32 ∷ 49 ∷ 46 ∷ (48 + n) ∷ []) has) stop) rest next

version_so : VersionReads → (b : LineBreak) (v : yaml_version_directive_t) (n : ℕ) → n < 10
    → nat_lt (48 + n) 128 ≡ true → v.major ≡ pos 1 → v.minor ≡ pos n
    → version_word v ≡ 49 ∷ 46 ∷ (48 + n) ∷ [] → (rest : Rest)
    → IsNext (first (bytes (rest (at_line false))))
    → WalksOver (version_line b (version_word v))
    (λ bs. tokens.version_directive v.major v.minor ∷ bs) rest
version_so versions b v n small low major minor says rest next =
    let P : List ℕ → ℤ → ℤ → Type 0 = λ (t : List ℕ) (x y : ℤ). WalksOver (version_line b t) (λ bs. tokens.version_directive x y ∷ bs) rest in
    let base : P (49 ∷ 46 ∷ (48 + n) ∷ []) (pos 1) (pos n) = version_line_walks versions b n small low rest next in
    let one : P (version_word v) (pos 1) (pos n) = subst (λ (t : List ℕ). P t (pos 1) (pos n)) (sym says) base in
    let two : P (version_word v) v.major (pos n) = subst (λ (x : ℤ). P (version_word v) x (pos n)) (sym major) one in
    subst (λ (y : ℤ). P (version_word v) v.major y) (sym minor) two

version_walks : VersionReads → (s : Settings) (version : Option yaml_version_directive_t)
    → version_problem version ≡ None → (rest : Rest)
    → IsNext (first (bytes (rest (at_line false))))
    → WalksOver (version_text s version) (λ bs. version_bodies version bs) rest
version_walks versions s None right rest next = nothing_walks rest
version_walks versions s (Some v) right rest next =
    let is = none_all (is_version v) _ right in
    let major = (signed_Decides v.major (pos 1)).0 (and_parts (int_eq v.major (pos 1)) (int_eq v.minor (pos 1) || int_eq v.minor (pos 2)) is).0 in
    let either = (and_parts (int_eq v.major (pos 1)) (int_eq v.minor (pos 1) || int_eq v.minor (pos 2)) is).1 in
    elim (cases_Bool (int_eq v.minor (pos 1))) [
      | inl e ↦ version_so versions s.line_break v 1 (omega arith) refl major ((signed_Decides v.minor (pos 1)).0 e) (ap (λ (t : Bool). if t then codes "1.1" else codes "1.2") e) rest next
      | inr e ↦
          let second : int_eq v.minor (pos 2) ≡ true = rw e at either in
          version_so versions s.line_break v 2 (omega arith) refl major ((signed_Decides v.minor (pos 2)).0 second) (ap (λ (t : Bool). if t then codes "1.1" else codes "1.2") e) rest next
    ]

version_front : (kept : Bool) (rest : Rest)
    → bytes (letters (codes "%YAML") (at_line kept) rest) ≡ 37 ∷ 89 ∷ 65 ∷ 77 ∷ 76
    ∷ bytes (rest (record { column = 5; white = false; bare = false; kept = kept }))
unfolding letters encode char_bytes
version_front kept rest = refl

version_next : (s : Settings) (version : Option yaml_version_directive_t) (rest : Rest)
    → IsNext (first (bytes (rest (at_line false))))
    → IsNext (first (bytes (version_text s version (at_line false) rest)))
version_next s None rest next = next
version_next s (Some v) rest next = inl (ap (λ (bs : List ℕ). first bs) (version_front false (λ c. (word (version_word v) ▹ line s.line_break 0) c rest)))

-- ---- tags

tag_walks : DirectivesAreRead → ReadableDirectivesAreAscii → (s : Settings) (d : TagDirective)
    → IsReadableDirective d → (rest : Rest) → IsNext (first (bytes (rest (at_line false))))
    → WalksOver (directive_text s d) (λ bs. tokens.tag_directive d.handle d.prefix ∷ bs) rest
tag_walks reads ascii s d may rest next =
    let (marked, low) = ascii d may in
    let xs = 84 ∷ 65 ∷ 71 ∷ 32 ∷ (d.handle ++ (32 ∷ uri_text true d.prefix)) in
    line_walks (directive_text s d) s.line_break xs (directives.tag d.handle d.prefix) (tag_writes s.line_break d.handle (uri_text true d.prefix) marked low false)
    (λ text p has stop. reads d may text p (has_at text p (37 ∷ xs) has) stop) rest next

tag_next : (s : Settings) (d : TagDirective) (rest : Rest)
    → IsNext (first (bytes (directive_text s d (at_line false) rest)))
tag_next s d rest = inl (ap (λ (bs : List ℕ). first bs) (tag_front false (λ c. (word d.handle ▹ (word (uri_text true d.prefix) ▹ line s.line_break 0)) c rest)))

tags_next : (s : Settings) (ds : List TagDirective) (rest : Rest)
    → IsNext (first (bytes (rest (at_line false))))
    → IsNext (first (bytes (directives_text s ds (at_line false) rest)))
unfolding directives_text
tags_next s [] rest next = next
tags_next s (d ∷ ds) rest next = tag_next s d (λ c. directives_text s ds c rest)

tags_walk : DirectivesAreRead → ReadableDirectivesAreAscii → (s : Settings) (ds : List TagDirective)
    → AreReadable ds → (rest : Rest) → IsNext (first (bytes (rest (at_line false))))
    → WalksOver (directives_text s ds) (λ bs. directives_bodies ds bs) rest
unfolding directives_text directives_bodies
tags_walk reads ascii s [] may rest next x text T st = st
tags_walk reads ascii s (d ∷ ds) (own, may) rest next x text T st =
    let after : Rest = λ c. directives_text s ds c rest in
    let g = tag_walks reads ascii s d own after (tags_next s ds rest next) x text T st in
    tags_walk reads ascii s ds may rest next x text (λ bs. T (tokens.tag_directive d.handle d.prefix ∷ bs)) g

-- they begin as directives do, or as what follows
pub directives_next : (s : Settings) (o : Opening) (rest : Rest)
    → IsNext (first (bytes (rest (at_line false))))
    → IsNext (first (bytes ((version_text s o.version ▹ directives_text s o.directives)
    (at_line false) rest)))
directives_next s o rest next = version_next s o.version (λ c. directives_text s o.directives c rest) (tags_next s o.directives rest next)

-- the lines of a document's directives
pub directives_walk : VersionReads → DirectivesAreRead → ReadableDirectivesAreAscii
    → WrittenDirectivesAreReadable → (s : Settings) (o : Opening) → IsWritableOpening o
    → (rest : Rest) → IsNext (first (bytes (rest (at_line false))))
    → WalksOver (version_text s o.version ▹ directives_text s o.directives)
    (λ bs. version_bodies o.version (directives_bodies o.directives bs)) rest
directives_walk versions reads ascii readable s o (right, utf8) rest next x text T st =
    let known = or_first (version_problem o.version) (directives_problem [] o.directives) right in
    let may = readable o right utf8 in
    let after : Rest = λ c. directives_text s o.directives c rest in
    let g = version_walks versions s o.version known after (tags_next s o.directives rest next) x text T st in
    tags_walk reads ascii s o.directives may rest next x text (λ bs. T (version_bodies o.version bs)) g

-- ==== What opens a document is walked.

-- Where a root begins.
pub record Opens (x : yaml_encoding_t) (text : List ℕ) (rest : Rest) (T : List TokenBody → List TokenBody) : Type 0 where
  pub cursor : Cursor
  pub kept : cursor.kept ≡ false
  pub place : WalkState
  pub stage : NodeStage x text cursor place [] [] T
  pub left : Left text place.at (bytes (rest cursor))

-- the laws of directives
pub record Directing : Type 0 where
  pub versions : VersionReads
  pub reads : DirectivesAreRead
  pub ascii : ReadableDirectivesAreAscii
  pub readable : WrittenDirectivesAreReadable

pub feed_at : (rest : Rest) → ((kept : Bool) → first (bytes (rest (at_line kept))) ≡ 10 → ⊥)
    → NoFeed 0 rest
feed_at rest calm e bare white column f = calm e.kept (sym (ap (λ (c : Cursor). first (bytes (rest c))) (at_start e e.kept bare white column refl)) ∙ f)

dots_if : (s : Settings) (b : Bool) (x : yaml_encoding_t) (text : List ℕ) (rest : Rest)
    (kept : Bool) (T : List TokenBody → List TokenBody) → NoFeed 0 rest
    → AtLine x text (λ e. when b (dots s) e rest) kept T
    → AtLine x text rest kept (λ bs. T (end_bodies b bs))
dots_if s true x text rest kept T calm a = dots_walk s x text rest kept T calm a
dots_if s false x text rest kept T calm a = a

-- ---- with `---`

pub dashes_next : (s : Settings) (rest : Rest)
    → IsNext (first (bytes (dashes (pretty s) (at_line false) rest)))
dashes_next s rest = inr (ap (λ (bs : List ℕ). first bs) (dashes_are s false rest))

dashed : (s : Settings) (x : yaml_encoding_t) (text : List ℕ) (rest : Rest)
    (T : List TokenBody → List TokenBody) → OnLine x text (λ e. dashes (pretty s) e rest) false T
    → begins_white (bytes (rest (behind_three false))) ≡ true
    → Opens x text rest (λ bs. T (tokens.document_start ∷ bs))
unfolding line blanks
dashed s x text rest T h white =
    let m = dashes_walk x text rest false T (λ q l. white_next text q (bytes (rest (behind_three false))) l white) (record { place = h.place; more = h.more; reads = h.reads; flat = h.flat; column = h.column; left = h.left }) in
    record { cursor = behind_three false; kept = refl; place = m.place; stage = m.stage; left = m.left }

marked_opens : Directing → (s : Settings) (o : Opening) → IsWritableOpening o
    → (dotted : Bool) (x : yaml_encoding_t) (text : List ℕ) (rest : Rest) (kept : Bool)
    (T : List TokenBody → List TokenBody)
    → AtLine x text (λ e. (when dotted (dots (pretty s)) ▹ keep false ▹ version_text (pretty s)
    o.version ▹ directives_text (pretty s) o.directives ▹ dashes (pretty s)) e rest) kept T
    → begins_white (bytes (rest (behind_three false))) ≡ true
    → Opens x text rest (λ bs. T (end_bodies dotted
    (version_bodies o.version (directives_bodies o.directives (tokens.document_start ∷ bs)))))
marked_opens laws s o right dotted x text rest kept T a white =
    let z = pretty s in
    let after : Rest = λ e. dashes z e rest in
    let lines : Layout = version_text z o.version ▹ directives_text z o.directives in
    let next = dashes_next s rest in
    let calm = next_calm (first (bytes (lines (at_line false) after))) (directives_next z o after next) in
    let unkept : Rest = λ e. keep false e (λ k. lines k after) in
    let b = dots_if z dotted x text unkept kept T (feed_at unkept (λ k. calm)) a in
    let U : List TokenBody → List TokenBody = λ bs. T (end_bodies dotted bs) in
    let (now, column) = b.stage.bare refl in
    let h : OnLine x text (λ e. lines e after) false U = record { place = b.place; more = b.more; reads = b.stage.reads; flat = b.stage.flat; column = column; left = b.left } in
    let d = directives_walk laws.versions laws.reads laws.ascii laws.readable z o right after next x text U h in
    dashed s x text rest (λ bs. U (version_bodies o.version (directives_bodies o.directives bs))) d white

-- ---- without

-- the first document alone, without directives
plain_opens : (s : Settings) (fresh : Bool) (version : Option yaml_version_directive_t)
    (directives : List TagDirective) (implicit : Bool)
    → is_marked (pretty s) fresh (record
    { version = version; directives = directives; implicit = implicit }) ≡ false
    → (x : yaml_encoding_t) (text : List ℕ) (rest : Rest) (kept : Bool)
    (T : List TokenBody → List TokenBody) (place : WalkState)
    → NodeStage x text (at_line kept) place [] [] T
    → Left text place.at (bytes (start_layout (pretty s) fresh false
    (record { version = version; directives = directives; implicit = implicit }) (at_line kept)
    rest))
    → Opens x text rest (λ bs. T (opening_bodies (pretty s) fresh
    (record { version = version; directives = directives; implicit = implicit }) bs))
unfolding start_layout directives_text directives_bodies
plain_opens s fresh version directives implicit e x text rest kept T place st l = grind arith

-- ---- either

-- where no document went before, no level is open, and none ended implicitly
pub record Fresh (more : List ℕ) (unended : Bool) : Type 0 where
  pub none : more ≡ []
  pub ended : unended ≡ false

unmarked_fresh : (s : Settings) (fresh : Bool) (o : Opening) → is_marked (pretty s) fresh o ≡ false
    → fresh ≡ true
unmarked_fresh s true o e = refl
unmarked_fresh s false o e = absurd (true≢false e)

pub opening_walks : Directing → (s : Settings) (o : Opening) → IsWritableOpening o
    → (fresh unended : Bool) (x : yaml_encoding_t) (text : List ℕ) (rest : Rest) (kept : Bool)
    (T : List TokenBody → List TokenBody) (place : WalkState) (more : List ℕ)
    → (fresh ≡ true → Fresh more unended) → NodeStage x text (at_line kept) place [] more T
    → Left text place.at (bytes (start_layout (pretty s) fresh unended o (at_line kept) rest))
    → begins_white (bytes (rest (behind_three false))) ≡ true
    → Opens x text rest (λ bs. T (end_bodies (unended && is_directed o)
    (opening_bodies (pretty s) fresh o bs)))
unfolding start_layout
opening_walks laws s o right fresh unended x text rest kept T place more first st l white =
    let z = pretty s in
    let dotted = unended && is_directed o in
    elim (cases_Bool (is_marked z fresh o)) [
      | inl e ↦
          let m = subst (λ (b : Bool). Left text place.at (bytes ((when dotted (dots z) ▹ keep false ▹ version_text z o.version ▹ directives_text z o.directives ▹ when b (dashes z)) (at_line kept) rest))) e l in
          subst (λ (b : Bool). Opens x text rest (λ bs. T (end_bodies dotted (version_bodies o.version (directives_bodies o.directives (start_bodies (not b) bs)))))) (sym e)
          (marked_opens laws s o right dotted x text rest kept T (record { place = place; more = more; stage = st; left = m }) white)
      | inr e ↦
          let f = first (unmarked_fresh s fresh o e) in
          subst (λ (u : Bool). Left text place.at (bytes (start_layout z fresh u o (at_line kept) rest)) → Opens x text rest (λ bs. T (end_bodies (u && is_directed o) (opening_bodies z fresh o bs)))) (sym f.ended)
          (λ k. plain_opens s fresh o.version o.directives o.implicit e x text rest kept T place (subst (λ ms. NodeStage x text (at_line kept) place [] ms T) f.none st) k) l
    ]

-- ==== Documents are walked, and so is their whole text.

-- ---- the end

ended : (x : yaml_encoding_t) (text : List ℕ) (c : Cursor) (o : WalkState) (more : List ℕ)
    (T : List TokenBody → List TokenBody) → NodeStage x text c o [] more T → Left text o.at (bytes [])
    → Done x text (T (tokens.stream_end ∷ []))
ended x text c o more T s l =
    let p = o.at in
    let z : p + 0 ≡ p = omega arith in
    let zero_byte = end_zero text p l in
    let comes = marks_come.stops text p 0 [] (no_gap text p (end_begins text p zero_byte)) (ap (λ n. byte text n) z ∙ zero_byte) in
    walk_stops x text o more T [] _ _ s.reads s.flat comes

stop_walks : (s : Settings) (unended kept : Bool) (x : yaml_encoding_t) (text : List ℕ)
    (o : WalkState)
    (more : List ℕ) (T : List TokenBody → List TokenBody)
    → NodeStage x text (at_line kept) o [] more T
    → Left text o.at (bytes (stop_layout s unended (at_line kept) nothing_more))
    → Done x text (T (end_bodies (unended && kept) (tokens.stream_end ∷ [])))
unfolding stop_layout
stop_walks s false kept x text o more T st l = ended x text (at_line kept) o more T st l
stop_walks s true false x text o more T st l = ended x text (at_line false) o more T st l
stop_walks s true true x text o more T st l =
    let h = dots_walk s x text nothing_more true T (feed_at nothing_more (λ k. outer_calm (bytes []) nothing_outer)) (record { place = o; more = more; stage = st; left = l }) in
    ended x text (at_line true) h.place h.more (λ bs. T (tokens.document_end ∷ bs)) h.stage h.left

-- ---- a document

-- whether its line is bare decides nothing of an item
item_bodies_same : (p : Context) (flow bare : Bool) (n : Node) (bs : List TokenBody)
    → node_bodies p flow part.Item bare n bs ≡ node_bodies p flow part.Item true n bs
unfolding node_bodies
item_bodies_same p flow bare (alias_node name) bs = refl
item_bodies_same p flow bare _ bs = refl

says_as : (x : yaml_encoding_t) (text : List ℕ) (after : Rest) (kept : Bool)
    (T U : List TokenBody → List TokenBody) → ((bs : List TokenBody) → T bs ≡ U bs)
    → AtLine x text after kept T → AtLine x text after kept U
says_as x text after kept T U e a = grind (arith, walk_says)

-- its root and the line after it
root_walks : (s : Settings) → RootsWalk (pretty s) → (d : Document) (ds : List Document)
    → AreWritable (d ∷ ds)
    → (x : yaml_encoding_t) (text : List ℕ) (c : Cursor) (o : WalkState)
    (T : List TokenBody → List TokenBody) → c.kept ≡ false → NodeStage x text c o [] [] T
    → Left text o.at (bytes (from_root (pretty s) d ds c))
    → AtLine x text (behind_root (pretty s) d.implicit_end ds) (is_root_kept (pretty s) d)
    (λ bs. T (root_bodies (pretty s) d bs))
unfolding indent
root_walks s roots d ds (right, root, good) x text c o T kept st l =
    let z = pretty s in
    let p = context_of z d.opening.directives in
    let after = behind_root z d.implicit_end ds in
    let ends = root_ends s roots d.implicit_end ds good in
    let walk = (roots d.opening right d.root root c.bare).walks [] c 0 after refl refl (omega arith) (root_ending z.line_break after ends) x text o T st (omega arith) l in
    let h = from_lined x text after (node_kept p false part.Item d.root c.kept) walk.more (λ bs. T (node_bodies p false part.Item c.bare d.root bs)) walk.lined in
    let k = says_as x text after (node_kept p false part.Item d.root c.kept) (λ bs. T (node_bodies p false part.Item c.bare d.root bs)) (λ bs. T (root_bodies z d bs)) (λ bs. ap (λ xs. T xs) (item_bodies_same p false c.bare d.root bs)) h in
    subst (λ (b : Bool). AtLine x text after (node_kept p false part.Item d.root b) (λ bs. T (root_bodies z d bs))) kept k

-- after `...` comes nothing, a directive or `---`
explicit_calm : (s : Settings) (ds : List Document) (kept : Bool)
    → first (bytes (documents_layout (pretty s) false false ds (at_line kept) nothing_more)) ≡ 10
    → ⊥
unfolding documents_layout start_layout stop_layout
explicit_calm s [] kept = outer_calm (bytes []) nothing_outer
explicit_calm s (d ∷ ds) kept =
    let z = pretty s in
    let o = d.opening in
    let rest : Rest = λ e. node_layout (context_of z o.directives) root_position d.root e (λ k. end_layout z d.implicit_end k (λ h. documents_layout z false d.implicit_end ds h nothing_more)) in
    next_calm _ (directives_next z o (λ e. dashes z e rest) (dashes_next s rest))

-- an explicit end
end_walks : (s : Settings) (implicit : Bool) (ds : List Document) (x : yaml_encoding_t)
    (text : List ℕ) (kept : Bool) (T : List TokenBody → List TokenBody)
    → AtLine x text (behind_root (pretty s) implicit ds) kept T
    → AtLine x text (λ e. documents_layout (pretty s) false implicit ds e nothing_more) kept
    (λ bs. T (end_bodies (not implicit) bs))
end_walks s true ds x text kept T a = a
end_walks s false ds x text kept T a =
    let rest : Rest = λ e. documents_layout (pretty s) false false ds e nothing_more in
    dots_walk (pretty s) x text rest kept T (feed_at rest (explicit_calm s ds)) a

-- ---- documents

documents_walk : Directing → (s : Settings) → RootsWalk (pretty s) → (ds : List Document)
    → AreWritable ds
    → (fresh unended kept : Bool) (x : yaml_encoding_t) (text : List ℕ) (place : WalkState)
    (more : List ℕ) (T : List TokenBody → List TokenBody)
    → (fresh ≡ true → Fresh more unended) → NodeStage x text (at_line kept) place [] more T
    → Left text place.at (bytes (documents_layout (pretty s) fresh unended ds (at_line kept)
    nothing_more))
    → Done x text (T (documents_bodies (pretty s) fresh unended kept ds))
unfolding documents_layout end_layout documents_bodies
documents_walk laws s roots [] good fresh unended kept x text place more T first st l = stop_walks (pretty s) unended kept x text place more T st l
documents_walk laws s roots (d ∷ ds) (right, root, good) fresh unended kept x text place more T first st l =
    let z = pretty s in
    let o = d.opening in
    let U : List TokenBody → List TokenBody = λ bs. T (end_bodies (unended && is_directed o) (opening_bodies z fresh o bs)) in
    let begin = opening_walks laws s o right fresh unended x text (from_root z d ds) kept T place more first st l (root_white s roots d right root ds) in
    let r = root_walks s roots d ds (right, root, good) x text begin.cursor begin.place U begin.kept begin.stage begin.left in
    let V : List TokenBody → List TokenBody = λ bs. U (root_bodies z d bs) in
    let e = end_walks s d.implicit_end ds x text (is_root_kept z d) V r in
    documents_walk laws s roots ds good false d.implicit_end (is_root_kept z d) x text e.place e.more (λ bs. V (end_bodies (not d.implicit_end) bs)) (λ f. absurd (false≢true f)) e.stage e.left

-- ---- the whole text

text_done : Directing → (s : Settings) → RootsWalk (pretty s)
    → (x : yaml_encoding_t) (ds : List Document) → AreWritable ds
    → Done x (text_of_documents (pretty s) ds) (tokens.stream_start x ∷ stream_bodies (pretty s) ds)
unfolding column_at
text_done laws s roots x ds good =
    let text = text_of_documents (pretty s) ds in
    documents_walk laws s roots ds good true false false x text (record { at = 0; line = 0; depth = 0; now = true; broken = true }) [] (λ bs. tokens.stream_start x ∷ bs) (λ f. record { none = refl; ended = refl }) (record { reads = walk_starts x text; flat = refl; broken = refl; bare = λ b. (refl, refl); line = omega arith })
    (record { has = has_all text [] text refl; ends = omega arith })

pub documents_read : Directing → DocumentsAreRead
documents_read laws nodes s canonical least most x ds good =
    let roots : RootsWalk (pretty s) = λ o right n fine bare. nodes (pretty s) o (record { pretty = refl; least = least; most = most; fine = right }) n fine None part.Item bare refl in
    let done = text_done laws s roots x ds good in
    subst (λ (z : Settings). IsReadAs (record { encoding = x; text = text_of_documents z ds }) (tokens.stream_start x ∷ stream_bodies z ds)) (same_settings s canonical)
    (record { tokens = done.tokens; read = done.read; same = done.same })
