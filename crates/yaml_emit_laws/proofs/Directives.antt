-- The lines of directives are words.
use Rattle.std.proofs.Common.{◌≡◌, ℕ, ◌+◌, ◌<◌, ◌||◌, nat_lt, Bool, true, false, List, [], ◌∷◌, ◌++◌, length, Option, Some, None, Result, Ok, refl, sym, ap, subst, ◌∙◌, inl, inr, arith, append_assoc, ℤ, pos, codes, if◌then◌else◌, int_eq}
use Rattle.std.specs.Cmp.{signed_Decides}
use Rattle.yaml_emit_laws.proofs.Shared.{cases_Bool, and_parts, byte, break_of, break_width, column_at, is_break, Wrong, Said, DirectiveText, directive_at, begins_lexeme, GapReads, Kind, WordText, kind_at, lexeme_at, body_said, directed, yaml_version_directive_t, TagDirective, Cursor, Settings, LineBreak, encode, char_bytes, Layout, Rest, ◌▹◌, blank, letters, word, line, uri_text, Opening, is_version, version_problem, directives_problem, version_word, version_text, directive_text, directives_text, version_kinds, directives_kinds, version_bodies, directives_bodies, VersionReads, are_ascii, IsMarked, IsReadableDirective, AreReadable, WrittenDirectivesAreReadable, ReadableDirectivesAreAscii, DirectivesAreRead, IsWritableOpening, Has, Left, bytes}
use Rattle.yaml_scan_history.specs.Directives as directives
use Rattle.yaml_scan_history.specs.declared.kind.Kind.TheVariants as kinds
use Rattle.yaml_emit_layout.specs.scan_types.Tokens as tokens
use Rattle.yaml_emit_laws.proofs.Forms.{at_line, LinesWalkTo, NoFeed, DirectivesWalk}
use Rattle.yaml_emit_laws.proofs.Places.{has_front, has_at, left_first, left_rest}
use Rattle.yaml_emit_laws.proofs.Steps.{sign_starts, letter_low, push_to, word_of}
use Rattle.yaml_emit_laws.proofs.Words.{lettered_on}
use Rattle.yaml_emit_laws.proofs.Tags.{letters_are}
use Rattle.yaml_emit_laws.proofs.TextLines.{line_broken}
use Rattle.yaml_emit_laws.proofs.Resolving.{or_first}
use Rattle.yaml_emit_laws.proofs.Joining.{none_all}
use Rattle.yaml_emit_laws.proofs.Back.{spaced_by}

-- ---- a directive and its line

-- A `%` begins a lexeme.
pub percent_begins : (text : List ℕ) (p : ℕ) → byte text p ≡ 37 → begins_lexeme text p ≡ true
unfolding break_of
percent_begins text p h = sign_starts text p 37 h refl refl refl refl (λ c d. refl)

-- A `%` at a line's start begins a directive.
pub percent_kind : (text : List ℕ) (p : ℕ) → byte text p ≡ 37 → column_at text p ≡ 0
    → kind_at false text p ≡ Some kinds.Directive
unfolding kind_at
percent_kind text p h z = rw (h, z) refl

-- The word of a directive is what is read there.
pub directive_word : (text : List ℕ) (p : ℕ)
    → lexeme_at kinds.Directive false 0 text p ≡ directed (directive_at text p)
unfolding lexeme_at
directive_word text p = refl

-- What is read of a directive is its word.
pub said_directive : (r : Result DirectiveText Wrong) (d : DirectiveText) → r ≡ Ok d
    → directed r ≡ Ok (record {
      body = body_said d.said;
      end = d.end;
      reached = d.place;
      broke =
          false;
    })
said_directive r d e = rw e refl

-- From a line's start the layout writes `%`, these bytes and the line's end.
pub record WritesLine (a : Layout) (b : LineBreak) (xs : List ℕ) (kept : Bool) : Type 0 where
  pub behind : Cursor
  pub same : (rest : Rest) → bytes (a (at_line kept) rest) ≡ 37 ∷ (xs ++ bytes (line b 0 behind rest))
  pub bare : behind.bare ≡ false
  pub still : behind.kept ≡ kept

-- Such bytes are read as what is said, with the break after them.
abbrev pub ReadsLine : List ℕ → Said → Type 0
ReadsLine xs said = (text : List ℕ) (p : ℕ) → Has text p (37 ∷ xs) → is_break text (p + length (37 ∷ xs)) ≡ true
    → let end = p + length (37 ∷ xs) in directive_at text p ≡ Ok (record { said = said; end = end; place = end + break_width text end })

line_lands : GapReads → (a : Layout) (b : LineBreak) (xs : List ℕ) (said : Said)
    → ((kept : Bool) → WritesLine a b xs kept) → ReadsLine xs said → (rest : Rest) → NoFeed rest
    → LinesWalkTo rest a (λ ks. kinds.Directive ∷ ks) (λ bs. body_said said ∷ bs)
line_lands law a b xs said written reads rest calm kept text p ws s l =
    let w = written kept in
    let tail = bytes (line b 0 w.behind rest) in
    let m = subst (λ (bs : List ℕ). Left text p bs) (w.same rest) l in
    let h = left_first text p 37 (xs ++ tail) m in
    let q = p + length (37 ∷ xs) in
    let o : Left text q tail = left_rest text p (37 ∷ xs) tail m in
    let broken = line_broken b text w.behind q rest w.bare calm o in
    let column = s.column refl (λ e. (omega (arith, h, e))) in
    let place = q + break_width text q in
    let read = reads text p (has_front text p (37 ∷ xs) tail m.has) broken.is in
    let here : WordText = record { body = body_said said; end = q; reached = place; broke = false } in
    let same = directive_word text p ∙ said_directive (directive_at text p) (record { said = said; end = q; place = place }) read in
    let stage = push_to law text (at_line kept) (at_line kept) p ws 0 kinds.Directive here s (percent_begins text p h) (percent_kind text p h column) same refl (λ z. broken.starts) refl in
    record {
      kept = kept;
      place = place;
      words = word_of kinds.Directive p here ∷ ws;
      stage = stage;
      left = subst (λ (k : Bool). Left text place (bytes (rest (at_line k)))) w.still broken.left;
      kinds = refl;
      bodies = λ bs. refl;
    }

-- ---- versions

abbrev pub version_line : LineBreak → List ℕ → Layout
version_line b t = word (codes "%YAML") ▹ (word t ▹ line b 0)

-- The line of a version, from its start.
pub version_writes : (b : LineBreak) (x : ℕ) → nat_lt x 128 ≡ true → (kept : Bool)
    → WritesLine (version_line b (49 ∷ 46 ∷ x ∷ [])) b (89 ∷ 65 ∷ 77 ∷ 76 ∷ 32 ∷ 49 ∷ 46 ∷ x ∷ [])
    kept
unfolding letters encode char_bytes
version_writes b x low kept = record { behind = record { column = 9; white = false; bare = false; kept = kept }; same = λ rest. rw low refl; bare = refl; still = refl }

version_line_lands : GapReads → VersionReads → (b : LineBreak) (n : ℕ) → n < 10
    → nat_lt (48 + n) 128 ≡ true → (rest : Rest) → NoFeed rest
    → LinesWalkTo rest (version_line b (49 ∷ 46 ∷ (48 + n) ∷ [])) (λ ks. kinds.Directive ∷ ks)
    (λ bs. tokens.version_directive (pos 1) (pos n) ∷ bs)
version_line_lands law versions b n small low rest calm =
    line_lands law (version_line b (49 ∷ 46 ∷ (48 + n) ∷ [])) b (89 ∷ 65 ∷ 77 ∷ 76 ∷ 32 ∷ 49 ∷ 46 ∷ (48 + n) ∷ []) (directives.version 1 n) (λ kept. version_writes b (48 + n) low kept)
    (λ text p has stop. versions text p n small (has_at text p (37 ∷ 89 ∷ 65 ∷ 77 ∷ 76 ∷ 32 ∷ 49 ∷ 46 ∷ (48 + n) ∷ []) has) stop) rest calm

version_so : GapReads → VersionReads → (b : LineBreak) (v : yaml_version_directive_t) (n : ℕ)
    → n < 10 → nat_lt (48 + n) 128 ≡ true → v.major ≡ pos 1 → v.minor ≡ pos n
    → version_word v ≡ 49 ∷ 46 ∷ (48 + n) ∷ [] → (rest : Rest) → NoFeed rest
    → LinesWalkTo rest (version_line b (version_word v)) (λ ks. kinds.Directive ∷ ks)
    (λ bs. tokens.version_directive v.major v.minor ∷ bs)
version_so law versions b v n small low major minor says rest calm =
    let P : List ℕ → ℤ → ℤ → Type 0 = λ (t : List ℕ) (x y : ℤ). LinesWalkTo rest (version_line b t) (λ ks. kinds.Directive ∷ ks) (λ bs. tokens.version_directive x y ∷ bs) in
    let base : P (49 ∷ 46 ∷ (48 + n) ∷ []) (pos 1) (pos n) = version_line_lands law versions b n small low rest calm in
    let one : P (version_word v) (pos 1) (pos n) = subst (λ (t : List ℕ). P t (pos 1) (pos n)) (sym says) base in
    let two : P (version_word v) v.major (pos n) = subst (λ (x : ℤ). P (version_word v) x (pos n)) (sym major) one in
    subst (λ (y : ℤ). P (version_word v) v.major y) (sym minor) two

version_lands : GapReads → VersionReads → (s : Settings) (version : Option yaml_version_directive_t)
    → version_problem version ≡ None → (rest : Rest) → NoFeed rest
    → LinesWalkTo rest (version_text s version) (λ ks. version_kinds version ks)
    (λ bs. version_bodies version bs)
version_lands law versions s None right rest calm = λ kept text p ws st l. record { kept = kept; place = p; words = ws; stage = st; left = l; kinds = refl; bodies = λ bs. refl }
version_lands law versions s (Some v) right rest calm =
    let is = none_all (is_version v) _ right in
    let major = (signed_Decides v.major (pos 1)).0 (and_parts (int_eq v.major (pos 1)) (int_eq v.minor (pos 1) || int_eq v.minor (pos 2)) is).0 in
    let either = (and_parts (int_eq v.major (pos 1)) (int_eq v.minor (pos 1) || int_eq v.minor (pos 2)) is).1 in
    elim (cases_Bool (int_eq v.minor (pos 1))) [
      | inl e ↦ version_so law versions s.line_break v 1 (omega arith) refl major ((signed_Decides v.minor (pos 1)).0 e) (ap (λ (t : Bool). if t then codes "1.1" else codes "1.2") e) rest calm
      | inr e ↦
          let second : int_eq v.minor (pos 2) ≡ true = rw e at either in
          version_so law versions s.line_break v 2 (omega arith) refl major ((signed_Decides v.minor (pos 2)).0 second) (ap (λ (t : Bool). if t then codes "1.1" else codes "1.2") e) rest calm
    ]

-- ---- tags

-- A line of `%TAG` begins with that.
pub tag_front : (kept : Bool) (rest : Rest)
    → bytes (letters (codes "%TAG") (at_line kept) rest) ≡ 37 ∷ 84 ∷ 65 ∷ 71
    ∷ bytes (rest (record { column = 4; white = false; bare = false; kept = kept }))
unfolding letters encode char_bytes
tag_front kept rest = refl

-- a space and letters, after a cursor that isn't white
record Spaces (xs : List ℕ) (c : Cursor) : Type 0 where
  behind : Cursor
  same : (rest : Rest) → bytes (word xs c rest) ≡ 32 ∷ (xs ++ bytes (rest behind))
  bare : behind.bare ≡ false
  kept : behind.kept ≡ c.kept

-- A word after another one has a space before it.
pub space_here : (xs : List ℕ) (c : Cursor) → c.white ≡ false → (rest : Rest)
    → bytes (word xs c rest) ≡ 32 ∷ bytes (letters xs (spaced_by c) rest)
space_here xs c white rest =
    ap (λ (t : Bool). bytes (if t then letters xs c rest else blank c (λ e. letters xs e rest))) white ∙ letter_low 32 (letters xs (spaced_by c) rest) refl

spaces : (xs : List ℕ) → are_ascii xs ≡ true → (c : Cursor) → c.white ≡ false → c.bare ≡ false
    → Spaces xs c
spaces xs low c white bare =
    let r = letters_are xs low (spaced_by c) in
    record { behind = r.behind; same = λ rest. space_here xs c white rest ∙ ap (λ (t : List ℕ). 32 ∷ t) (r.same rest); bare = r.bare bare; kept = r.kept }

-- the same, with a letter at least: the cursor after isn't white
record Handles (xs : List ℕ) (c : Cursor) : Type 0 where
  behind : Cursor
  same : (rest : Rest) → bytes (word xs c rest) ≡ 32 ∷ (xs ++ bytes (rest behind))
  white : behind.white ≡ false
  bare : behind.bare ≡ false
  kept : behind.kept ≡ c.kept

handle_spaced : (more : List ℕ) → are_ascii more ≡ true → (c : Cursor) → c.white ≡ false
    → Handles (33 ∷ more) c
unfolding letters
handle_spaced more low c white =
    let r = letters_are more low (lettered_on (spaced_by c)) in
    record {
      behind = r.behind;
      same = λ rest. space_here (33 ∷ more) c white rest ∙ ap (λ (t : List ℕ). 32 ∷ t) (letter_low 33 (letters more (lettered_on (spaced_by c)) rest) refl ∙ ap (λ (t : List ℕ). 33 ∷ t) (r.same rest));
      white = r.white refl;
      bare = r.bare refl;
      kept = r.kept;
    }

abbrev pub tag_line : LineBreak → List ℕ → List ℕ → Layout
tag_line b handle uri = word (codes "%TAG") ▹ (word handle ▹ (word uri ▹ line b 0))

-- The line of a tag directive, from its start.
pub tag_writes : (b : LineBreak) (handle uri : List ℕ) → IsMarked handle → are_ascii uri ≡ true
    → (kept : Bool)
    → WritesLine (tag_line b handle uri) b (84 ∷ 65 ∷ 71 ∷ 32 ∷ (handle ++ (32 ∷ uri))) kept
tag_writes b handle uri marked low kept =
    let c : Cursor = record { column = 4; white = false; bare = false; kept = kept } in
    let h = subst (λ (ys : List ℕ). Handles ys c) (sym marked.begins) (handle_spaced marked.more marked.ascii c refl) in
    let u = spaces uri low h.behind h.white h.bare in
    record {
      behind = u.behind;
      same = λ rest.
          let tail = bytes (line b 0 u.behind rest) in
          let inner : bytes ((word handle ▹ (word uri ▹ line b 0)) c rest) ≡ 32 ∷ (handle ++ (32 ∷ (uri ++ tail))) =
          h.same (λ e. (word uri ▹ line b 0) e rest) ∙ ap (λ (t : List ℕ). 32 ∷ (handle ++ t)) (u.same (λ e. line b 0 e rest)) in
          tag_front kept (λ e. (word handle ▹ (word uri ▹ line b 0)) e rest) ∙ ap (λ (t : List ℕ). 37 ∷ 84 ∷ 65 ∷ 71 ∷ t) inner
          ∙ ap (λ (t : List ℕ). 37 ∷ 84 ∷ 65 ∷ 71 ∷ 32 ∷ t) (sym (append_assoc handle (32 ∷ uri) tail));
      bare = u.bare;
      still = u.kept ∙ h.kept;
    }

tag_lands : GapReads → DirectivesAreRead → ReadableDirectivesAreAscii
    → (s : Settings) (d : TagDirective) → IsReadableDirective d → (rest : Rest) → NoFeed rest
    → LinesWalkTo rest (directive_text s d) (λ ks. kinds.Directive ∷ ks)
    (λ bs. tokens.tag_directive d.handle d.prefix ∷ bs)
tag_lands law reads ascii s d may rest calm =
    let (marked, low) = ascii d may in
    let xs = 84 ∷ 65 ∷ 71 ∷ 32 ∷ (d.handle ++ (32 ∷ uri_text true d.prefix)) in
    line_lands law (directive_text s d) s.line_break xs (directives.tag d.handle d.prefix) (λ kept. tag_writes s.line_break d.handle (uri_text true d.prefix) marked low kept)
    (λ text p has stop. reads d may text p (has_at text p (37 ∷ xs) has) stop) rest calm

-- ---- one after the other

tag_first : (s : Settings) (d : TagDirective) (rest : Rest)
    → NoFeed (λ c. directive_text s d c rest)
tag_first s d rest kept e = grind (arith, tag_front)

tags_first : (s : Settings) (ds : List TagDirective) (rest : Rest) → NoFeed rest
    → NoFeed (λ c. directives_text s ds c rest)
unfolding directives_text
tags_first s [] rest calm = calm
tags_first s (d ∷ ds) rest calm = tag_first s d (λ c. directives_text s ds c rest)

tags_land : GapReads → DirectivesAreRead → ReadableDirectivesAreAscii
    → (s : Settings) (ds : List TagDirective) → AreReadable ds → (rest : Rest) → NoFeed rest
    → LinesWalkTo rest (directives_text s ds) (λ ks. directives_kinds ds ks)
    (λ bs. directives_bodies ds bs)
unfolding directives_text directives_kinds directives_bodies
tags_land law reads ascii s [] may rest calm kept text p ws st l = record { kept = kept; place = p; words = ws; stage = st; left = l; kinds = refl; bodies = λ bs. refl }
tags_land law reads ascii s (d ∷ ds) (own, may) rest calm kept text p ws st l =
    let g = tag_lands law reads ascii s d own (λ c. directives_text s ds c rest) (tags_first s ds rest calm) kept text p ws st l in
    let h = tags_land law reads ascii s ds may rest calm g.kept text g.place g.words g.stage g.left in
    record { kept = h.kept; place = h.place; words = h.words; stage = h.stage; left = h.left; kinds = h.kinds ∙ ap (λ (ks : List Kind). directives_kinds ds ks) g.kinds; bodies = λ bs. h.bodies bs ∙ g.bodies (directives_bodies ds bs) }

-- the lines of a document's directives
pub directives_walk : GapReads → VersionReads → DirectivesAreRead → ReadableDirectivesAreAscii
    → WrittenDirectivesAreReadable → (s : Settings) (o : Opening) → IsWritableOpening o
    → DirectivesWalk s o
directives_walk law versions reads ascii readable s o (right, utf8) rest calm kept text p ws st l =
    let known = or_first (version_problem o.version) (directives_problem [] o.directives) right in
    let may = readable o right utf8 in
    let g = version_lands law versions s o.version known (λ c. directives_text s o.directives c rest) (tags_first s o.directives rest calm) kept text p ws st l in
    let h = tags_land law reads ascii s o.directives may rest calm g.kept text g.place g.words g.stage g.left in
    record { kept = h.kept; place = h.place; words = h.words; stage = h.stage; left = h.left; kinds = h.kinds ∙ ap (λ (ks : List Kind). directives_kinds o.directives ks) g.kinds; bodies = λ bs. h.bodies bs ∙ g.bodies (directives_bodies o.directives bs) }
