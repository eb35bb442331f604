-- What layouts of single words say: names, tags, and scalars in the three styles of a line.
use Rattle.std.proofs.Common.{◌≡◌, ℕ, ◌<◌, ◌≤◌, not, nat_lt, Bool, true, false, List, [], ◌∷◌, ◌++◌, length, Some, refl, sym, ap, subst, ◌∙◌, encode_utf8_all, if◌then◌else◌, IsUtf8, chars, append-nil, arith}
use Rattle.yaml_emit_laws.proofs.NodeWords.{and_parts, AnchorReads, double_quoted_at, Cursor, Page, Item, letter, Layout, Rest, ◌▹◌, letters, word, gap, blank, after_text, quoted_text, flow_body, plain, single_quoted, allowed, in_front, tag_spelling, split_tag, Opening, ValueIsReadBack, between_quotes, between_single, QuotedIsReadBack, SplitTagsAreRead, WrittenTagsAreReadable, ReadableTagsAreAscii, are_ascii, LoneMarkReads, bytes, IsWritableName, IsWritableOpening, IsWritableTag, letter_low, front_encodes, lettered_on, PlainIsReadBack, may_be_plain, SingleLinesAreReadBack, PlainHasGap, ScalarsAreWords, Spoken, SaysTokens, letters_are, alphas_ascii}
use Rattle.yaml_emit_laws.proofs.SpokenWords.{anchor_word, alias_word, tag_word, mark_word, double_word, single_word, plain_word}
use Rattle.yaml_emit_laws.proofs.FlowSigns.{behind_gap}

-- a layout writes these bytes from a cursor on, whatever follows
pub record Wrote (a : Layout) (c : Cursor) (own : List ℕ) : Type 0 where
  pub behind : Cursor
  pub written : (rest : Rest) → bytes (a c rest) ≡ own ++ bytes (rest behind)
  pub bare : behind.bare ≡ false
  pub white : behind.white ≡ false
  pub kept : behind.kept ≡ c.kept

-- ---- the space before it

gap_case : (flow : Bool) (level : ℕ) (a : Layout) (make : Bool → Cursor → Spoken flow level)
    → ((b : Bool) (d : Cursor) → (make b d).spaced ≡ b)
    → ((b : Bool) (d : Cursor) → Wrote a d (make b d).own) → (c : Cursor) (b : Bool)
    → SaysTokens flow level (λ e rest. if b then a e rest else blank e (λ d. a d rest)) c
    (make (not b) (behind_gap b c) ∷ [])
gap_case flow level a make spaced wrote c b = grind (arith, append-nil, letter_low)

-- a word after the space that is due
pub gap_says : (flow : Bool) (level : ℕ) (a : Layout) (make : Bool → Cursor → Spoken flow level)
    → ((b : Bool) (d : Cursor) → (make b d).spaced ≡ b)
    → ((b : Bool) (d : Cursor) → Wrote a d (make b d).own) → (c : Cursor)
    → SaysTokens flow level (gap ▹ a) c (make (not c.white) (behind_gap c.white c) ∷ [])
gap_says flow level a make spaced wrote c =
    let r = gap_case flow level a make spaced wrote c c.white in
    record { behind = r.behind; written = λ rest. r.written rest; bare = r.bare; white = r.white; kept = r.kept }

-- ---- letters

letters_wrote : (x : ℕ) (xs : List ℕ) → are_ascii (x ∷ xs) ≡ true → (c : Cursor)
    → Wrote (letters (x ∷ xs)) c (x ∷ xs)
unfolding letters
letters_wrote x xs low c =
    let r = letters_are xs (and_parts (nat_lt x 128) (are_ascii xs) low).1 (lettered_on c) in
    record {
      behind = r.behind;
      written = λ rest. letter_low x (letters xs (lettered_on c) rest) (and_parts (nat_lt x 128) (are_ascii xs) low).0 ∙ ap (λ (t : List ℕ). x ∷ t) (r.same rest);
      bare = r.bare refl;
      white = r.white refl;
      kept = r.kept;
    }

pub anchor_says : (names : AnchorReads) (flow : Bool) (level : ℕ) (name : List ℕ)
    (good : IsWritableName name) (c : Cursor)
    → SaysTokens flow level (word (38 ∷ name)) c
    (anchor_word names flow level (not c.white) name good ∷ [])
anchor_says names flow level name good c = gap_says flow level (letters (38 ∷ name)) (λ b d. anchor_word names flow level b name good) (λ b d. refl) (λ b d. letters_wrote 38 name (alphas_ascii name good.1) d) c

pub alias_says : (names : AnchorReads) (flow : Bool) (level : ℕ) (name : List ℕ)
    (good : IsWritableName name) (c : Cursor)
    → SaysTokens flow level (word (42 ∷ name)) c
    (alias_word names flow level (not c.white) name good ∷ [])
alias_says names flow level name good c = gap_says flow level (letters (42 ∷ name)) (λ b d. alias_word names flow level b name good) (λ b d. refl) (λ b d. letters_wrote 42 name (alphas_ascii name good.1) d) c

pub mark_says : (lone : LoneMarkReads) (flow : Bool) (level : ℕ) (c : Cursor)
    → SaysTokens flow level (word (33 ∷ [])) c (mark_word lone flow level (not c.white) ∷ [])
mark_says lone flow level c = gap_says flow level (letters (33 ∷ [])) (λ b d. mark_word lone flow level b) (λ b d. refl) (λ b d. letters_wrote 33 [] refl d) c

pub tag_says : (split : SplitTagsAreRead) (ascii : ReadableTagsAreAscii)
    (readable : WrittenTagsAreReadable) (flow : Bool) (level : ℕ) (o : Opening)
    (fine : IsWritableOpening o) (t : List ℕ) (good : IsWritableTag (Some t)) (c : Cursor)
    → SaysTokens flow level (word (tag_spelling o.directives t)) c
    (tag_word split ascii readable flow level (not c.white) o fine t good ∷ [])
tag_says split ascii readable flow level o fine t good c =
    let s = split_tag o.directives t in
    let x = ascii s (readable o fine.0 fine.1 t good.1 good.0) in
    gap_says flow level (letters (tag_spelling o.directives t)) (λ b d. tag_word split ascii readable flow level b o fine t good) (λ b d. refl)
    (λ b d. subst (λ (ys : List ℕ). Wrote (letters ys) d ys) (sym x.begins) (letters_wrote 33 x.more x.ascii d)) c

-- ---- scalars

-- after a character no white was last
cancelled : (xs : List ℕ) (s t : List Item) → in_front xs s ≡ in_front xs t → s ≡ t
unfolding in_front
cancelled [] s t e = e
cancelled (x ∷ xs) s t e = cancelled xs s t (ap (λ (ys : List Item). behind ys) e)
  where
    behind : List Item → List Item
    behind [] = []
    behind (y ∷ ys) = ys

not_white : (b : Bool) → (if b then letter 1 ∷ [] else []) ≡ [] → b ≡ false
not_white true e = absurd (cc)
not_white false e = refl

double_white : (page : Page) (c : Cursor) (value : List ℕ)
    (r : ValueIsReadBack double_quoted_at (between_quotes page (chars value)) c value)
    → r.behind.white ≡ false
double_white page c value r =
    let probe : Rest = λ e. if e.white then letter 1 ∷ [] else [] in
    let none : Rest = λ e. [] in
    not_white r.behind.white (cancelled r.letters (probe r.behind) (none r.behind) (sym (r.written probe) ∙ r.written none))

double_wrote : (page : Page) (c : Cursor) (value : List ℕ)
    (r : ValueIsReadBack double_quoted_at (between_quotes page (chars value)) c value)
    → Wrote (between_quotes page (chars value)) c (encode_utf8_all r.letters)
double_wrote page c value r = record {
  behind = r.behind;
  written = λ rest. ap (λ (t : List Item). bytes t) (r.written rest) ∙ front_encodes r.letters (rest r.behind);
  bare = r.bare;
  white = double_white page c value r;
  kept = r.kept;
}

pub double_says : (quoted : QuotedIsReadBack) (flow : Bool) (level : ℕ) (page : Page)
    (value : List ℕ) (u : IsUtf8 value) (deep : 0 < page.indentation) (c : Cursor)
    → SaysTokens flow level (quoted_text page (chars value)) c
    (double_word flow level (not c.white) page (behind_gap c.white c) value
    (quoted page (behind_gap c.white c) value u (λ cuts. deep)) ∷ [])
double_says quoted flow level page value u deep c =
    gap_says flow level (between_quotes page (chars value)) (λ b d. double_word flow level b page d value (quoted page d value u (λ cuts. deep))) (λ b d. refl) (λ b d. double_wrote page d value (quoted page d value u (λ cuts. deep))) c

pub single_says : (singles : SingleLinesAreReadBack) (words : ScalarsAreWords) (flow : Bool)
    (level : ℕ) (page : Page) (value : List ℕ) (u : IsUtf8 value) (deep : 0 < page.indentation)
    (may : (allowed page.unicode (chars value)).single ≡ true) (c : Cursor)
    → SaysTokens flow level (single_quoted page (chars value)) c
    (single_word words flow level (not c.white) page (behind_gap c.white c) value
    (singles page (behind_gap c.white c) value u (λ cuts. deep) (λ lines. deep) may) ∷ [])
single_says singles words flow level page value u deep may c =
    gap_says flow level (between_single page (chars value)) (λ b d. single_word words flow level b page d value (singles page d value u (λ cuts. deep) (λ lines. deep) may)) (λ b d. refl)
    (λ b d. let r = singles page d value u (λ cuts. deep) (λ lines. deep) may in
    record { behind = r.behind; written = λ rest. ap (λ (t : List Item). bytes t) (r.written rest) ∙ front_encodes r.letters (rest r.behind); bare = r.bare; white = r.white; kept = r.kept }) c

pub plain_says : (gaps : PlainHasGap) (plains : PlainIsReadBack) (words : ScalarsAreWords)
    (flow : Bool) (level : ℕ) (page : Page) (value : List ℕ) (u : IsUtf8 value)
    (some : 0 < length value) (may : may_be_plain page.unicode flow (chars value) ≡ true)
    (deep : 0 < page.indentation) (far : level ≤ page.indentation) (c : Cursor)
    → SaysTokens flow level (plain page flow (chars value)) c
    (plain_word words flow level (not c.white) page (behind_gap c.white c) value
    (plains page flow level (behind_gap c.white c) value u some may deep far) ∷ [])
plain_says gaps plains words flow level page value u some may deep far c =
    subst (λ (a : Layout). SaysTokens flow level a c (plain_word words flow level (not c.white) page (behind_gap c.white c) value (plains page flow level (behind_gap c.white c) value u some may deep far) ∷ [])) (sym (gaps page flow value u some))
    (gap_says flow level (flow_body page false 32 (chars value) ▹ after_text) (λ b d. plain_word words flow level b page d value (plains page flow level d value u some may deep far)) (λ b d. refl)
    (λ b d. let r = plains page flow level d value u some may deep far in
    record { behind = r.behind; written = λ rest. ap (λ (t : List Item). bytes t) (r.written rest) ∙ front_encodes r.letters (rest r.behind); bare = r.bare; white = r.white; kept = r.kept }) c)
