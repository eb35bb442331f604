-- The words of documents.
use Rattle.std.proofs.Common.{◌≡◌, ℕ, ◌+◌, ◌<◌, ◌&&◌, not, nat_lt, Bool, true, false, List, [], ◌∷◌, ◌++◌, length, map, reverse, Some, Ok, refl, sym, ap, subst, ◌∙◌, arith, get_or, append_assoc, append-nil, if◌then◌else◌}
use Rattle.yaml_emit_laws.proofs.Shared.{nat_tests, get_or_past, reverse-append, yaml_encoding_t, Token, TokenBody, byte, break_of, column_at, is_blank_or_end, Gap, is_document_start, is_document_end, begins_lexeme, GapReads, AnchorReads, Kind, depth_after, is_end, reached, flow_depth, key_allowed, WordText, kind_at, lexeme_at, SpelledText, Word, lexemes, WordsStand, word_kinds, token_of, first_token, Cursor, Settings, LineBreak, Lf, Cr, CrLf, letter, encode, char_bytes, Layout, Rest, ◌▹◌, keep, when, letters, word, line, blanks, new_line, must_break, indent_to, nothing_more, Opening, Document, Node, is_directed, dots, dashes, root_position, context_of, version_text, directives_text, start_layout, end_layout, stop_layout, documents_layout, node_layout, QuotedIsReadBack, put_if, node_kinds, version_kinds, directives_kinds, opening_kinds, documents_kinds, node_bodies, version_bodies, directives_bodies, end_bodies, opening_bodies, documents_bodies, Has, Left, WordStage, told, bytes, IsWritable, IsWritableOpening, AreWritable, text_of_documents, IsReadAs}
use Rattle.yaml_emit_layout.specs.scan_types.Tokens as tokens
use Rattle.yaml_scan_history.specs.declared.kind.Kind.TheVariants as kinds
use Rattle.yaml_emit_laws.specs.CanonicalLaws.{CanonicalWordsAreRead}
use Rattle.yaml_emit_laws.proofs.Forms.{canonical_settings, TagWalks, MarkWalks, at_line, LinesWalk, NoFeed, DirectivesWalk}
use Rattle.yaml_emit_laws.proofs.Places.{has_at, left_first, left_more}
use Rattle.yaml_emit_laws.proofs.Steps.{gap_byte, left_letter, behind_feed, behind_return, sign_starts, push, word_of}
use Rattle.yaml_emit_laws.proofs.Words.{some_break, line_break}
use Rattle.yaml_emit_laws.proofs.Nodes.{nodes_read, line_parts}

-- ---- the start of the next line

pub record Lined (text : List ℕ) (rest : Rest) (kept : Bool) (ws : List Word) (d : ℕ) : Type 0 where
  pub place : ℕ
  pub stage : WordStage text (at_line kept) place ws d
  pub left : Left text place (bytes (rest (at_line kept)))

new_line_lined : (b : LineBreak) (text : List ℕ) (c : Cursor) (p : ℕ) (ws : List Word) (d : ℕ)
    (rest : Rest) → WordStage text c p ws d → Left text p (bytes (new_line b c rest))
    → Lined text rest c.kept ws d
new_line_lined Lf text c p ws d rest s l =
    let m = left_letter text p 10 (rest (at_line c.kept)) refl l in
    let h = left_first text p 10 (bytes (rest (at_line c.kept))) m in
    record { place = p + 1; stage = gap_byte text c (at_line c.kept) p 10 ws d refl h (λ z. behind_feed text p h) refl s; left = left_more text p 10 (bytes (rest (at_line c.kept))) m }
new_line_lined Cr text c p ws d rest s l =
    let m = left_letter text p 13 (rest (at_line c.kept)) refl l in
    let h = left_first text p 13 (bytes (rest (at_line c.kept))) m in
    record { place = p + 1; stage = gap_byte text c (at_line c.kept) p 13 ws d refl h (λ z. behind_return text p h) refl s; left = left_more text p 13 (bytes (rest (at_line c.kept))) m }
new_line_lined CrLf text c p ws d rest s l =
    let e : Cursor = record { column = c.column + 1; white = false; bare = false; kept = c.kept } in
    let m = left_letter text p 13 (letter 10 ∷ rest (at_line c.kept)) refl l in
    let t = gap_byte text c e p 13 ws d refl (left_first text p 13 _ m) (λ z. absurd (not_start c.column z)) refl s in
    let k = left_letter text (p + 1) 10 (rest (at_line c.kept)) refl (left_more text p 13 _ m) in
    let h = left_first text (p + 1) 10 (bytes (rest (at_line c.kept))) k in
    record { place = p + 1 + 1; stage = gap_byte text e (at_line c.kept) (p + 1) 10 ws d refl h (λ z. behind_feed text (p + 1) h) refl t; left = left_more text (p + 1) 10 (bytes (rest (at_line c.kept))) k }
  where
    not_start : (n : ℕ) → n + 1 ≡ 0 → ⊥
    not_start n e = omega arith

pub line_lined : (b : LineBreak) (text : List ℕ) (c : Cursor) (p : ℕ) (ws : List Word) (d : ℕ)
    (rest : Rest) → c.bare ≡ false → WordStage text c p ws d → Left text p (bytes (line b 0 c rest))
    → Lined text rest c.kept ws d
unfolding line blanks
line_lined b text c p ws d rest e s l =
    let must : must_break 0 c ≡ true = rw e refl in
    let k : Rest = λ x. indent_to 0 x rest in
    let h = new_line_lined b text c p ws d k s (subst (λ (t : Bool). Left text p (bytes (if t then new_line b c k else k c))) must l) in
    record { place = h.place; stage = h.stage; left = h.left }

-- ---- `---` and `...`

-- Three times a character at a line's start: the bytes, and the cursor at column 3.
pub three : (x : ℕ) → nat_lt x 128 ≡ true → (kept : Bool) (rest : Rest)
    → bytes (letters (x ∷ x ∷ x ∷ []) (at_line kept) rest) ≡ x ∷ x ∷ x
    ∷ bytes (rest (record { column = 3; white = false; bare = false; kept = kept }))
unfolding letters encode char_bytes
three x e kept rest = rw e refl

abbrev pub behind_three : Bool → Cursor
behind_three kept = record { column = 3; white = false; bare = false; kept = kept }

return_blank : (text : List ℕ) (q : ℕ) → byte text q ≡ 13 → is_blank_or_end text q ≡ true
return_blank text q h = rw (h, some_break) refl

broken_blank : (b : LineBreak) (text : List ℕ) (c : Cursor) (q : ℕ) (k : Rest)
    → Left text q (bytes (new_line b c k)) → is_blank_or_end text q ≡ true
broken_blank Lf text c q k l = rw ((left_first text q 10 _ (left_letter text q 10 (k (at_line c.kept)) refl l)), line_break) refl
broken_blank Cr text c q k l = return_blank text q (left_first text q 13 _ (left_letter text q 13 (k (at_line c.kept)) refl l))
broken_blank CrLf text c q k l = return_blank text q (left_first text q 13 _ (left_letter text q 13 (letter 10 ∷ k (at_line c.kept)) refl l))

-- Where a line ends a blank, a break or the end is found.
pub line_blank : (b : LineBreak) (text : List ℕ) (c : Cursor) (q : ℕ) (rest : Rest) → c.bare ≡ false
    → Left text q (bytes (line b 0 c rest)) → is_blank_or_end text q ≡ true
unfolding line
line_blank b text c q rest e l = grind (arith, broken_blank)

-- a word of three equal signs at the start of a line
pub record Thrice (x : ℕ) (k : Kind) (body : TokenBody) : Type 0 where
  pub low : nat_lt x 128 ≡ true
  pub begins : (text : List ℕ) (p : ℕ) → byte text p ≡ x → begins_lexeme text p ≡ true
  pub kind : (text : List ℕ) (p : ℕ) → byte text p ≡ x → byte text (p + 1) ≡ x
      → byte text (p + 2) ≡ x → is_blank_or_end text (p + 3) ≡ true → column_at text p ≡ 0
      → kind_at false text p ≡ Some k
  pub said : (text : List ℕ) (p : ℕ)
      → lexeme_at k false 0 text p ≡ Ok (record
      { body = body; end = p + 3; reached = p + 3; broke = false })
  pub more : is_end k ≡ false
  pub flat : depth_after k 0 ≡ 0
  pub no_feed : x ≡ 10 → ⊥

-- `---` at a line's start is DOCUMENT-START.
pub thrice_dash : Thrice 45 kinds.DocumentStart tokens.document_start
unfolding break_of lexeme_at kind_at is_document_start
thrice_dash = grind (arith, sign_starts)

-- `...` at a line's start is DOCUMENT-END.
pub thrice_dot : Thrice 46 kinds.DocumentEnd tokens.document_end
unfolding break_of lexeme_at kind_at is_document_start is_document_end
thrice_dot = grind (arith, sign_starts)

thrice_lands : GapReads → (x : ℕ) (k : Kind) (body : TokenBody) → Thrice x k body → (b : LineBreak)
    → LinesWalk (word (x ∷ x ∷ x ∷ []) ▹ line b 0) (λ ks. k ∷ ks) (λ bs. body ∷ bs)
thrice_lands law x k body t b rest kept text p ws s l =
    let r : Rest = λ c. line b 0 c rest in
    let m = subst (λ (bs : List ℕ). Left text p bs) (three x t.low kept r) l in
    let h0 = left_first text p x _ m in
    let m1 = left_more text p x _ m in
    let h1 = left_first text (p + 1) x _ m1 in
    let m2 = left_more text (p + 1) x _ m1 in
    let h2 = left_first text (p + 1 + 1) x _ m2 in
    let m3 = left_more text (p + 1 + 1) x _ m2 in
    let two : p + 1 + 1 ≡ p + 2 = omega arith in
    let far : p + 1 + 1 + 1 ≡ p + 3 = omega arith in
    let n = subst (λ (q : ℕ). Left text q (bytes (line b 0 (behind_three kept) rest))) far m3 in
    let column = s.column refl (λ e. t.no_feed (sym h0 ∙ e)) in
    let said : WordText = record { body = body; end = p + 3; reached = p + 3; broke = false } in
    let kind = t.kind text p h0 h1 (ap (λ q. byte text q) (sym two) ∙ h2) (line_blank b text (behind_three kept) (p + 3) rest refl n) column in
    let stage = push law text (at_line kept) (behind_three kept) p ws 0 k said s (t.begins text p h0) kind (t.said text p) t.more (λ e. omega arith) refl in
    let g = line_lined b text (behind_three kept) (p + 3) (word_of k p said ∷ ws) 0 rest refl (subst (λ (d : ℕ). WordStage text (behind_three kept) (p + 3) (word_of k p said ∷ ws) d) t.flat stage) n in
    record { kept = kept; place = g.place; words = word_of k p said ∷ ws; stage = g.stage; left = g.left; kinds = refl; bodies = λ bs. refl }

-- ---- lines one after another

both_land : (a b : Layout) (K L : List Kind → List Kind) (B C : List TokenBody → List TokenBody)
    → LinesWalk a K B → LinesWalk b L C → LinesWalk (a ▹ b) (λ ks. L (K ks)) (λ bs. B (C bs))
both_land a b K L B C w v rest kept text p ws s l =
    let g = w (λ c. b c rest) kept text p ws s l in
    let h = v rest g.kept text g.place g.words g.stage g.left in
    record { kept = h.kept; place = h.place; words = h.words; stage = h.stage; left = h.left; kinds = h.kinds ∙ ap (λ (ks : List Kind). L ks) g.kinds; bodies = λ bs. h.bodies bs ∙ g.bodies (C bs) }

-- a line at the start of a line is none
no_line_lands : (b : LineBreak) → LinesWalk (line b 0) (λ ks. ks) (λ bs. bs)
unfolding line blanks
no_line_lands b rest kept text p ws s l = record { kept = kept; place = p; words = ws; stage = s; left = l; kinds = refl; bodies = λ bs. refl }

dots_if : GapReads → (s : Settings) (b : Bool)
    → LinesWalk (when b (dots s)) (λ ks. put_if b kinds.DocumentEnd ks) (λ bs. end_bodies b bs)
dots_if law s true = thrice_lands law 46 kinds.DocumentEnd tokens.document_end thrice_dot s.line_break
dots_if law s false = λ rest kept text p ws s l. record { kept = kept; place = p; words = ws; stage = s; left = l; kinds = refl; bodies = λ bs. refl }

dashes_land : GapReads → (s : Settings)
    → LinesWalk (dashes (canonical_settings s)) (λ ks. kinds.DocumentStart ∷ ks)
    (λ bs. tokens.document_start ∷ bs)
dashes_land law s =
    both_land (line s.line_break 0) (word (45 ∷ 45 ∷ 45 ∷ []) ▹ line s.line_break 0) (λ ks. ks) (λ ks. kinds.DocumentStart ∷ ks) (λ bs. bs) (λ bs. tokens.document_start ∷ bs) (no_line_lands s.line_break)
    (thrice_lands law 45 kinds.DocumentStart tokens.document_start thrice_dash s.line_break)

dash_first : (s : Settings) (rest : Rest) → NoFeed (λ c. dashes (canonical_settings s) c rest)
unfolding line blanks
dash_first s rest kept e = grind (arith, three, line_break)

unkept : (a : Layout) (K : List Kind → List Kind) (B : List TokenBody → List TokenBody)
    → LinesWalk a K B → LinesWalk (keep false ▹ a) K B
unkept a K B w rest kept text p ws s l =
    w rest false text p ws (record { stand = s.stand; gap = s.gap; from = s.from; stands = s.stands; blank = s.blank; deep = s.deep; column = s.column; plain = refl }) l

opening_lands : GapReads → (s : Settings) (o : Opening) (fresh unended : Bool)
    → DirectivesWalk (canonical_settings s) o
    → LinesWalk (start_layout (canonical_settings s) fresh unended o)
    (λ ks. opening_kinds unended o ks) (λ bs. opening_bodies unended o bs)
unfolding start_layout
opening_lands law s o fresh unended directed =
    let z = canonical_settings s in
    let lines = version_text z o.version ▹ directives_text z o.directives in
    let KD : List Kind → List Kind = λ ks. directives_kinds o.directives (version_kinds o.version ks) in
    let BD : List TokenBody → List TokenBody = λ bs. version_bodies o.version (directives_bodies o.directives bs) in
    let KS : List Kind → List Kind = λ ks. kinds.DocumentStart ∷ ks in
    let BS : List TokenBody → List TokenBody = λ bs. tokens.document_start ∷ bs in
    let inner : LinesWalk (lines ▹ dashes z) (λ ks. KS (KD ks)) (λ bs. BD (BS bs)) =
    λ rest kept text p ws st l.
    let g = directed (λ c. dashes z c rest) (dash_first s rest) kept text p ws st l in
    let h = dashes_land law s rest g.kept text g.place g.words g.stage g.left in
    record { kept = h.kept; place = h.place; words = h.words; stage = h.stage; left = h.left; kinds = h.kinds ∙ ap (λ (ks : List Kind). KS ks) g.kinds; bodies = λ bs. h.bodies bs ∙ g.bodies (BS bs) } in
    both_land (when (unended && is_directed o) (dots z)) (keep false ▹ (lines ▹ dashes z)) (λ ks. put_if (unended && is_directed o) kinds.DocumentEnd ks) (λ ks. kinds.DocumentStart ∷ KD ks)
    (λ bs. end_bodies (unended && is_directed o) bs) (λ bs. BD (tokens.document_start ∷ bs)) (dots_if law z (unended && is_directed o)) (unkept (lines ▹ dashes z) (λ ks. kinds.DocumentStart ∷ KD ks) (λ bs. BD (tokens.document_start ∷ bs)) inner)

-- ---- a root, and its document's end

root_lands : GapReads → AnchorReads → QuotedIsReadBack → MarkWalks → (s : Settings) → 0 < s.indent
    → (o : Opening) → TagWalks o.directives → (n : Node) → IsWritable n → (implicit : Bool)
    → LinesWalk (node_layout (context_of (canonical_settings s) o.directives) root_position n ▹
    end_layout (canonical_settings s) implicit)
    (λ ks. put_if (not implicit) kinds.DocumentEnd (node_kinds n ks))
    (λ bs. node_bodies o.directives n (end_bodies (not implicit) bs))
unfolding end_layout
root_lands law names quoted mark s some o tags n good implicit rest kept text p ws stage l =
    let z = canonical_settings s in
    let after : Rest = λ c. when (not implicit) (dots z) c rest in
    let k : Rest = λ c. line s.line_break 0 c after in
    let g = nodes_read law names quoted mark s o.directives tags some n good root_position refl 0 (at_line kept) k (line_parts s.line_break 0 (when (not implicit) (dots z)) rest) text p ws stage l in
    let h = line_lined s.line_break text g.behind g.place g.words 0 after g.bare g.stage g.left in
    let e = dots_if law z (not implicit) rest g.behind.kept text h.place g.words h.stage h.left in
    record { kept = e.kept; place = e.place; words = e.words; stage = e.stage; left = e.left; kinds = e.kinds ∙ ap (λ (ks : List Kind). put_if (not implicit) kinds.DocumentEnd ks) g.kinds; bodies = λ bs. e.bodies bs ∙ g.bodies (end_bodies (not implicit) bs) }

-- ---- the end

record Ended (text : List ℕ) (ks : List Kind) (ws : List Word) (B : List TokenBody) : Type 0 where
  words : List Word
  stand : WordsStand text words
  kinds : word_kinds words ≡ ks
  bodies : told words [] ≡ told ws B

-- Where no bytes are left is the end.
pub end_zero : (text : List ℕ) (p : ℕ) → Left text p (bytes []) → byte text p ≡ 0
unfolding encode
end_zero text p l = let e = l.ends in get_or_past text p 0 (omega (arith, e))

pub end_kind : (text : List ℕ) (p : ℕ) → byte text p ≡ 0
    → kind_at false text p ≡ Some kinds.StreamEnd
unfolding kind_at
end_kind text p h = rw h refl

-- A lexeme begins where the text ends: STREAM-END.
pub end_begins : (text : List ℕ) (p : ℕ) → byte text p ≡ 0 → begins_lexeme text p ≡ true
unfolding break_of
end_begins text p h = sign_starts text p 0 h refl refl refl refl (λ c d. refl)

ended : GapReads → (text : List ℕ) (c : Cursor) (p : ℕ) (ws : List Word) → WordStage text c p ws 0
    → Left text p (bytes [])
    → Ended text (kinds.StreamEnd ∷ word_kinds ws) ws (tokens.stream_end ∷ [])
unfolding WordsStand lexeme_at
ended law text c p ws s l =
    let h = lexemes text ws in
    let zero_byte = end_zero text p l in
    let said : WordText = record { body = tokens.stream_end; end = p; reached = p; broke = false } in
    let g = law (nat_lt 0 (flow_depth h)) (key_allowed h) text (reached h).index s.gap (has_at text (reached h).index s.gap s.stands) s.blank (ap (λ q. begins_lexeme text q) s.from ∙ end_begins text p zero_byte) in
    record {
      words = word_of kinds.StreamEnd p said ∷ ws;
      stand = (
        record {
          place = ap (λ (x : Gap). x.place) g ∙ s.from;
          kind = ap (λ n. kind_at (nat_lt 0 n) text p) s.deep ∙ end_kind text p zero_byte;
          said = ap (λ n. lexeme_at kinds.StreamEnd (nat_lt 0 n) 0 text p) s.deep;
        },
        s.stand,
      );
      kinds = refl;
      bodies = refl;
    }

kept_stop : (s : Settings) (unended kept : Bool) → kept ≡ false → (text : List ℕ) (p : ℕ)
    → Left text p (bytes (stop_layout s unended (at_line kept) nothing_more))
    → Left text p (bytes [])
unfolding stop_layout
kept_stop s unended kept e text p l = grind (arith, nat_tests)

-- ---- documents

abbrev pub OpeningsWalk : Settings → Type 0
OpeningsWalk s = (o : Opening) → IsWritableOpening o → DirectivesWalk s o × TagWalks o.directives

documents_end : GapReads → AnchorReads → QuotedIsReadBack → MarkWalks → (s : Settings)
    → 0 < s.indent → OpeningsWalk (canonical_settings s) → (ds : List Document) → AreWritable ds
    → (fresh unended kept : Bool) (text : List ℕ) (p : ℕ) (ws : List Word)
    → WordStage text (at_line kept) p ws 0
    → Left text p (bytes (documents_layout (canonical_settings s) fresh unended ds (at_line kept)
    nothing_more))
    → Ended text (kinds.StreamEnd ∷ documents_kinds unended ds (word_kinds ws)) ws
    (documents_bodies unended ds)
unfolding documents_layout documents_kinds documents_bodies
documents_end law names quoted mark s some opens [] good fresh unended kept text p ws stage l = ended law text (at_line kept) p ws stage (kept_stop (canonical_settings s) unended kept stage.plain text p l)
documents_end law names quoted mark s some opens (d ∷ ds) (right, root, good) fresh unended kept text p ws stage l =
    let z = canonical_settings s in
    let o = d.opening in
    let (directed, tags) = opens o right in
    let whole = both_land (start_layout z fresh unended o) (node_layout (context_of z o.directives) root_position d.root ▹ end_layout z d.implicit_end) (λ ks. opening_kinds unended o ks)
    (λ ks. put_if (not d.implicit_end) kinds.DocumentEnd (node_kinds d.root ks)) (λ bs. opening_bodies unended o bs) (λ bs. node_bodies o.directives d.root (end_bodies (not d.implicit_end) bs))
    (opening_lands law s o fresh unended directed) (root_lands law names quoted mark s some o tags d.root root d.implicit_end) in
    let g = whole (λ c. documents_layout z false d.implicit_end ds c nothing_more) kept text p ws stage l in
    let e = documents_end law names quoted mark s some opens ds good false d.implicit_end g.kept text g.place g.words g.stage g.left in
    record { words = e.words; stand = e.stand; kinds = e.kinds ∙ ap (λ (ks : List Kind). kinds.StreamEnd ∷ documents_kinds d.implicit_end ds ks) g.kinds; bodies = e.bodies ∙ g.bodies (documents_bodies d.implicit_end ds) }

-- ---- the whole text

-- What is after a front is found at the front's length.
pub has_all : (text : List ℕ) (before rest : List ℕ) → text ≡ before ++ rest
    → Has text (length before) rest
has_all text before [] e = tt
has_all text before (x ∷ rest) e =
    let P : List ℕ → Type 0 = λ (t : List ℕ). byte t (length before) ≡ x in
    let next = has_all text (before ++ x ∷ []) rest (e ∙ sym (append_assoc before (x ∷ []) rest)) in
    (subst P (sym e) (get_or_behind before x rest), subst (λ (q : ℕ). Has text q rest) (length_one before x) next)
  where
    get_or_behind : (xs : List ℕ) (x : ℕ) (ys : List ℕ) → get_or (xs ++ x ∷ ys) (length xs) 0 ≡ x
    get_or_behind [] x ys = refl
    get_or_behind (y ∷ xs) x ys = get_or_behind xs x ys

    length_one : (xs : List ℕ) (x : ℕ) → length (xs ++ x ∷ []) ≡ length xs + 1
    length_one [] x = refl
    length_one (y ∷ xs) x = let e = length_one xs x in omega arith

told_reversed : (text : List ℕ) (ws : List Word) (bs : List TokenBody)
    → told ws bs ≡ map (λ (t : Token). t.body) (map (token_of text) (reverse ws)) ++ bs
told_reversed text [] bs = refl
told_reversed text (w ∷ ws) bs =
    told_reversed text ws (w.said.body ∷ bs) ∙ sym (ap (λ (xs : List Word). map (λ (t : Token). t.body) (map (token_of text) xs) ++ bs) (reverse-append (w ∷ []) ws) ∙ ap (λ (ts : List TokenBody). ts ++ bs) (map_more (reverse ws) w) ∙ append_assoc (map (λ (t : Token). t.body) (map (token_of text) (reverse ws))) (w.said.body ∷ []) bs)
  where
    map_more : (xs : List Word) (w : Word)
        → map (λ (t : Token). t.body) (map (token_of text) (xs ++ w ∷ []))
        ≡ map (λ (t : Token). t.body) (map (token_of text) xs) ++ w.said.body ∷ []
    map_more [] w = refl
    map_more (x ∷ xs) w = ap (λ (ts : List TokenBody). x.said.body ∷ ts) (map_more xs w)

same_settings : (s : Settings) → s.canonical ≡ true → canonical_settings s ≡ s
same_settings s e = ap (λ (c : Bool). record { encoding = s.encoding; canonical = c; indent = s.indent; width = s.width; unicode = s.unicode; line_break = s.line_break }) (sym e)

text_walked : CanonicalWordsAreRead → GapReads → AnchorReads → QuotedIsReadBack → MarkWalks
    → (s : Settings) → 0 < s.indent → OpeningsWalk (canonical_settings s)
    → (x : yaml_encoding_t) (ds : List Document) → AreWritable ds
    → IsReadAs (record { encoding = x; text = text_of_documents (canonical_settings s) ds })
    (tokens.stream_start x ∷ documents_bodies false ds)
unfolding WordsStand lexemes column_at
text_walked words law names quoted mark s some opens x ds good =
    let text = text_of_documents (canonical_settings s) ds in
    let whole : Left text 0 text = record { has = has_all text [] text refl; ends = omega arith } in
    let e = documents_end law names quoted mark s some opens ds good true false false text 0 [] (record { stand = tt; gap = []; from = refl; stands = tt; blank = refl; deep = refl; column = λ z n. refl; plain = refl }) whole in
    let stream : SpelledText = record { encoding = x; text = text } in
    record {
      tokens = first_token stream ∷ map (token_of text) (reverse e.words);
      read = words stream ds e.words e.stand e.kinds;
      same = ap (λ (ts : List TokenBody). tokens.stream_start x ∷ ts) (sym (told_reversed text e.words [] ∙ append-nil _) ∙ e.bodies);
    }

pub text_read : CanonicalWordsAreRead → GapReads → AnchorReads → QuotedIsReadBack → MarkWalks
    → ((s : Settings) → OpeningsWalk s) → (s : Settings) → s.canonical ≡ true → 0 < s.indent
    → (x : yaml_encoding_t) (ds : List Document) → AreWritable ds
    → IsReadAs (record { encoding = x; text = text_of_documents s ds })
    (tokens.stream_start x ∷ documents_bodies false ds)
text_read words law names quoted mark opens s canonical some x ds good =
    subst (λ (z : Settings). IsReadAs (record { encoding = x; text = text_of_documents z ds }) (tokens.stream_start x ∷ documents_bodies false ds)) (same_settings s canonical)
    (text_walked words law names quoted mark s some (opens (canonical_settings s)) x ds good)
