-- The words of canonical layout.
use Rattle.std.proofs.Common.{◌≡◌, ℕ, suc, ◌+◌, ◌-◌, ◌<◌, ◌==◌, nat_lt, Bool, true, false, List, [], ◌∷◌, ◌++◌, length, Some, Result, Ok, refl, sym, ap, subst, ◌∙◌, inl, inr, ◌⊎◌, arith, append_assoc, IsUtf8, encode_utf8, encode_utf8_all, chars}
use Rattle.yaml_emit_laws.proofs.Shared.{cases_Bool, and_parts, nat_tests, encode_ascii, byte, break_of, Wrong, are_alphas, GapReads, AnchorReads, double_quoted_at, Kind, depth_after, is_end, WordText, indicator_of, lexeme_at, YAML_DOUBLE_QUOTED_SCALAR_STYLE, TokenBody, Cursor, Item, letter, encode, char_bytes, Layout, Rest, ◌▹◌, char, letters, word, opener, quoted_text, in_front, are_ascii, between_quotes, QuotedIsReadBack, Has, Left, WordStage, bytes, Walks, first, parts, Parts}
use lib.Utf8.{encode as encode_char}
use Rattle.yaml_emit_layout.specs.scan_model.declared.problem.Context.TheVariants as contexts
use Rattle.yaml_scan_history.specs.Anchors.{anchor_at, may_end_name}
use Rattle.yaml_scan_history.specs.declared.kind.Kind.TheVariants as kinds
use Rattle.yaml_scan_history.specs.Words.{valued}
use Rattle.yaml_emit_layout.specs.scan_types.Tokens as tokens
use Rattle.yaml_emit_layout.specs.declared.Page.{Page}
use Rattle.yaml_emit_laws.proofs.Forms.{BeginsBlank}
use Rattle.yaml_emit_laws.proofs.Places.{has_front, has_at, left_first, left_more, left_rest}
use Rattle.yaml_emit_laws.proofs.Steps.{Sign, sign_begins, sign_kind, push, word_of, left_letter, walks_gap, letter_low}
use Rattle.yaml_emit_laws.proofs.Ascii.{alphas_ascii}
pub use Rattle.yaml_emit_layout.proofs.Spelled.{moved_by as lettered_on}

-- ---- words of one byte

-- A byte of ASCII is a sign unless it is the end, white, `#`, `%`, `-`, `.` or a break.
pub sign : (b : ℕ) → nat_lt b 128 ≡ true → (b == 0) ≡ false → (b == 9) ≡ false → (b == 32) ≡ false
    → (b == 35) ≡ false → (b == 37) ≡ false → (b == 45) ≡ false → (b == 46) ≡ false
    → (b == 10) ≡ false → (b == 13) ≡ false → Sign b
unfolding break_of
sign b low some tab space hash percent dash dot feed return = grind (arith, nat_tests)

abbrev one_byte : TokenBody → ℕ → WordText
one_byte body p = record { body = body; end = p + 1; reached = p + 1; broke = false }

-- a character that is a word
pub letter_walks : GapReads → (b : ℕ) (k : Kind) (body : TokenBody) (d : ℕ) (e : Cursor → Cursor)
    → Sign b → ((alone : Bool) → indicator_of (nat_lt 0 d) alone b ≡ Some k)
    → ((text : List ℕ) (p : ℕ) → lexeme_at k (nat_lt 0 d) 0 text p ≡ Ok (one_byte body p))
    → is_end k ≡ false → ((c : Cursor) → (e c).column ≡ 0 → ⊥) → ((c : Cursor) → (e c).bare ≡ false)
    → ((c : Cursor) → (e c).kept ≡ c.kept) → (c : Cursor) (rest : Rest)
    → Walks (λ c rest. letter b ∷ rest (e c)) (λ ks. k ∷ ks) (λ bs. body ∷ bs) d (depth_after k d) c
    rest
letter_walks law b k body d e s is reads more column bare kept c rest text p ws stage l =
    let m = left_letter text p b (rest (e c)) s.low l in
    let h = left_first text p b (bytes (rest (e c))) m in
    record {
      behind = e c;
      place = p + 1;
      words = word_of k p (one_byte body p) ∷ ws;
      stage = push law text c (e c) p ws d k (one_byte body p) stage (sign_begins text p b s h) (sign_kind (nat_lt 0 d) text p b k s h is) (reads text p) more (column c) (kept c);
      left = left_more text p b (bytes (rest (e c))) m;
      kinds = refl;
      bodies = λ bs. refl;
      bare = bare c;
    }

pub more_than : (n : ℕ) → n + 1 ≡ 0 → ⊥
more_than n e = omega arith

abbrev opened : Cursor → Cursor
opened c = record { column = c.column + 1; white = true; bare = false; kept = c.kept }

comma_sign : Sign 44
comma_sign = sign 44 refl refl refl refl refl refl refl refl refl refl

pub comma_walks : GapReads → (d : ℕ) (c : Cursor) (rest : Rest)
    → Walks (char 44) (λ ks. kinds.FlowEntry ∷ ks) (λ bs. tokens.flow_entry ∷ bs) d d c rest
unfolding indicator_of lexeme_at
comma_walks law d c rest = letter_walks law 44 kinds.FlowEntry tokens.flow_entry d lettered_on comma_sign (λ a. refl) (λ t p. refl) refl (λ c z. more_than c.column z) (λ c. refl) (λ c. refl) c rest

down : (d : ℕ) → suc d - 1 ≡ d
down d = omega arith

up : (d : ℕ) → d + 1 ≡ suc d
up d = omega arith

to_depth : (a : Layout) (K : List Kind → List Kind) (B : List TokenBody → List TokenBody)
    (d e f : ℕ) (c : Cursor) (rest : Rest) → e ≡ f → Walks a K B d e c rest → Walks a K B d f c rest
to_depth a K B d e f c rest same w = subst (λ (n : ℕ). Walks a K B d n c rest) same w

pub sequence_closes : GapReads → (d : ℕ) (c : Cursor) (rest : Rest)
    → Walks (char 93) (λ ks. kinds.FlowSequenceEnd ∷ ks) (λ bs. tokens.flow_sequence_end ∷ bs)
    (suc d) d c rest
unfolding indicator_of lexeme_at
sequence_closes law d c rest =
    to_depth (char 93) (λ ks. kinds.FlowSequenceEnd ∷ ks) (λ bs. tokens.flow_sequence_end ∷ bs) (suc d) (suc d - 1) d c rest (down d)
    (letter_walks law 93 kinds.FlowSequenceEnd tokens.flow_sequence_end (suc d) lettered_on (sign 93 refl refl refl refl refl refl refl refl refl refl) (λ a. refl) (λ t p. refl) refl (λ c z. more_than c.column z) (λ c. refl) (λ c. refl) c rest)

pub mapping_closes : GapReads → (d : ℕ) (c : Cursor) (rest : Rest)
    → Walks (char 125) (λ ks. kinds.FlowMappingEnd ∷ ks) (λ bs. tokens.flow_mapping_end ∷ bs)
    (suc d) d c rest
unfolding indicator_of lexeme_at
mapping_closes law d c rest =
    to_depth (char 125) (λ ks. kinds.FlowMappingEnd ∷ ks) (λ bs. tokens.flow_mapping_end ∷ bs) (suc d) (suc d - 1) d c rest (down d)
    (letter_walks law 125 kinds.FlowMappingEnd tokens.flow_mapping_end (suc d) lettered_on (sign 125 refl refl refl refl refl refl refl refl refl refl) (λ a. refl) (λ t p. refl) refl (λ c z. more_than c.column z) (λ c. refl) (λ c. refl) c rest)

pub sequence_opens : GapReads → (d : ℕ) (c : Cursor) (rest : Rest)
    → Walks (opener 91) (λ ks. kinds.FlowSequenceStart ∷ ks) (λ bs. tokens.flow_sequence_start ∷ bs)
    d (suc d) c rest
unfolding indicator_of lexeme_at
sequence_opens law d c rest =
    to_depth (opener 91) (λ ks. kinds.FlowSequenceStart ∷ ks) (λ bs. tokens.flow_sequence_start ∷ bs) d (d + 1) (suc d) c rest (up d)
    (walks_gap (λ c rest. letter 91 ∷ rest (opened c)) (λ ks. kinds.FlowSequenceStart ∷ ks) (λ bs. tokens.flow_sequence_start ∷ bs) d (d + 1) c rest
    (λ c. letter_walks law 91 kinds.FlowSequenceStart tokens.flow_sequence_start d opened (sign 91 refl refl refl refl refl refl refl refl refl refl) (λ a. refl) (λ t p. refl) refl (λ c z. more_than c.column z) (λ c. refl) (λ c. refl) c rest))

pub mapping_opens : GapReads → (d : ℕ) (c : Cursor) (rest : Rest)
    → Walks (opener 123) (λ ks. kinds.FlowMappingStart ∷ ks) (λ bs. tokens.flow_mapping_start ∷ bs)
    d (suc d) c rest
unfolding indicator_of lexeme_at
mapping_opens law d c rest =
    to_depth (opener 123) (λ ks. kinds.FlowMappingStart ∷ ks) (λ bs. tokens.flow_mapping_start ∷ bs) d (d + 1) (suc d) c rest (up d)
    (walks_gap (λ c rest. letter 123 ∷ rest (opened c)) (λ ks. kinds.FlowMappingStart ∷ ks) (λ bs. tokens.flow_mapping_start ∷ bs) d (d + 1) c rest
    (λ c. letter_walks law 123 kinds.FlowMappingStart tokens.flow_mapping_start d opened (sign 123 refl refl refl refl refl refl refl refl refl refl) (λ a. refl) (λ t p. refl) refl (λ c z. more_than c.column z) (λ c. refl) (λ c. refl) c rest))

pub inside : (d : ℕ) → nat_lt 0 (suc d) ≡ true
inside d = grind (arith, nat_tests)

pub key_walks : GapReads → (d : ℕ) (c : Cursor) (rest : Rest)
    → Walks (word (63 ∷ [])) (λ ks. kinds.KeyMark ∷ ks) (λ bs. tokens.key ∷ bs) (suc d) (suc d) c
    rest
unfolding lexeme_at letters indicator_of
key_walks law d c rest =
    walks_gap (char 63) (λ ks. kinds.KeyMark ∷ ks) (λ bs. tokens.key ∷ bs) (suc d) (suc d) c rest
    (λ c. letter_walks law 63 kinds.KeyMark tokens.key (suc d) lettered_on (sign 63 refl refl refl refl refl refl refl refl refl refl) (λ a. (rw (inside d) refl)) (λ t p. refl) refl (λ c z. more_than c.column z) (λ c. refl) (λ c. refl) c rest)

pub value_walks : GapReads → (d : ℕ) (c : Cursor) (rest : Rest)
    → Walks (word (58 ∷ [])) (λ ks. kinds.ValueMark ∷ ks) (λ bs. tokens.value ∷ bs) (suc d) (suc d)
    c rest
unfolding lexeme_at letters indicator_of
value_walks law d c rest =
    walks_gap (char 58) (λ ks. kinds.ValueMark ∷ ks) (λ bs. tokens.value ∷ bs) (suc d) (suc d) c rest
    (λ c. letter_walks law 58 kinds.ValueMark tokens.value (suc d) lettered_on (sign 58 refl refl refl refl refl refl refl refl refl refl) (λ a. (rw (inside d) refl)) (λ t p. refl) refl (λ c z. more_than c.column z) (λ c. refl) (λ c. refl) c rest)

-- ---- names

-- letters in ASCII, and the cursor after them
pub record Letters (xs : List ℕ) (c : Cursor) : Type 0 where
  pub behind : Cursor
  pub same : (rest : Rest) → bytes (letters xs c rest) ≡ xs ++ bytes (rest behind)
  pub white : c.white ≡ false → behind.white ≡ false
  pub bare : c.bare ≡ false → behind.bare ≡ false
  pub column : (c.column ≡ 0 → ⊥) → behind.column ≡ 0 → ⊥
  pub kept : behind.kept ≡ c.kept

-- Letters in ASCII are written as they are.
pub letters_are : (xs : List ℕ) → are_ascii xs ≡ true → (c : Cursor) → Letters xs c
unfolding letters
letters_are [] are c = record { behind = c; same = λ rest. refl; white = λ e. e; bare = λ e. e; column = λ h z. h z; kept = refl }
letters_are (x ∷ xs) are c = grind (arith, nat_tests, letter_low, more_than, letters_are xs (and_parts (nat_lt x 128) (are_ascii xs) are).1 (lettered_on c))

part_cases : (b : ℕ) → parts b ≡ true → (b ≡ 44) ⊎ ((b ≡ 10) ⊎ (b ≡ 13))
part_cases b h = grind (arith, nat_tests)

pub some_break : (c d : ℕ) → nat_lt 0 (break_of 13 c d) ≡ true
unfolding break_of
some_break c d = elim (cases_Bool (c == 10)) [ inl e ↦ rw e refl | inr e ↦ rw e refl ]

pub line_break : (c d : ℕ) → nat_lt 0 (break_of 10 c d) ≡ true
unfolding break_of
line_break c d = refl

-- a comma or a break ends a name
parts_end : (text : List ℕ) (p b : ℕ) → byte text p ≡ b → parts b ≡ true
    → may_end_name text p ≡ true
unfolding may_end_name
parts_end text p b h e = grind (arith, nat_tests, part_cases, line_break, some_break)

left_zero : (text : List ℕ) (p : ℕ) (bs : List ℕ) → Left text p bs → parts (first bs) ≡ true
    → byte text p ≡ first bs
left_zero text p [] l e = absurd (cc)
left_zero text p (b ∷ bs) l e = left_first text p b bs l

-- A name that is read is a lexeme's body, which ends where the name does.
pub named : (f : List ℕ → TokenBody) (r : Result (List ℕ × ℕ) Wrong) (name : List ℕ) (q : ℕ)
    → r ≡ Ok (name, q)
    → valued f r ≡ Ok (record { body = f name; end = q; reached = q; broke = false })
named f r name q e = rw e refl

alias_sign : Sign 42
alias_sign = sign 42 refl refl refl refl refl refl refl refl refl refl

-- A `*` begins an alias.
pub alias_kind : (flow alone : Bool) → indicator_of flow alone 42 ≡ Some kinds.Alias
unfolding indicator_of
alias_kind flow alone = refl

-- an alias, before a comma or a break
pub alias_walks : GapReads → AnchorReads → (name : List ℕ) → 0 < length name
    → are_alphas name ≡ true → (d : ℕ) (c : Cursor) (rest : Rest) → Parts rest
    → Walks (word (42 ∷ name)) (λ ks. kinds.Alias ∷ ks) (λ bs. tokens.alias name ∷ bs) d d c rest
unfolding letters lexeme_at
alias_walks law names name some are d c rest ends =
    walks_gap (letters (42 ∷ name)) (λ ks. kinds.Alias ∷ ks) (λ bs. tokens.alias name ∷ bs) d d c rest
    (λ c text p ws stage l.
    let r = letters_are name (alphas_ascii name are) (lettered_on c) in
    let m = left_letter text p 42 (letters name (lettered_on c) rest) refl l in
    let h = left_first text p 42 (bytes (letters name (lettered_on c) rest)) m in
    let n = subst (λ (bs : List ℕ). Left text (p + 1) bs) (r.same rest) (left_more text p 42 (bytes (letters name (lettered_on c) rest)) m) in
    let o = left_rest text (p + 1) name (bytes (rest r.behind)) n in
    let e = ends r.behind (r.bare refl) in
    let stop = parts_end text (p + 1 + length name) (first (bytes (rest r.behind))) (left_zero text (p + 1 + length name) (bytes (rest r.behind)) o e) e in
    let q = p + 1 + length name in
    let said : WordText = record { body = tokens.alias name; end = q; reached = q; broke = false } in
    let reads = names contexts.Alias text p name (has_at text (p + 1) name (has_front text (p + 1) name (bytes (rest r.behind)) n.has)) some are stop in
    record {
      behind = r.behind;
      place = q;
      words = word_of kinds.Alias p said ∷ ws;
      stage = push law text c r.behind p ws d kinds.Alias said stage (sign_begins text p 42 alias_sign h) (sign_kind (nat_lt 0 d) text p 42 kinds.Alias alias_sign h (λ a. alias_kind (nat_lt 0 d) a))
          (refl ∙ named tokens.alias (anchor_at contexts.Alias text p) name q reads) refl (r.column (λ z. more_than c.column z)) r.kept;
      left = o;
      kinds = refl;
      bodies = λ bs. refl;
      bare = r.bare refl;
    })

anchor_sign : Sign 38
anchor_sign = sign 38 refl refl refl refl refl refl refl refl refl refl

anchor_word : (flow : Bool) (text : List ℕ) (p : ℕ)
    → lexeme_at kinds.Anchor flow 0 text p ≡ valued tokens.anchor (anchor_at contexts.Anchor text p)
unfolding lexeme_at
anchor_word flow text p = refl

-- A `&` begins an anchor.
pub anchor_kind : (flow alone : Bool) → indicator_of flow alone 38 ≡ Some kinds.Anchor
unfolding indicator_of
anchor_kind flow alone = refl

space_ends : (text : List ℕ) (p : ℕ) → byte text p ≡ 32 → may_end_name text p ≡ true
unfolding may_end_name
space_ends text p h = rw h refl

-- A word in ASCII that its first byte shows is before a space.
pub word_walks : GapReads → (byte0 : ℕ) → Sign byte0 → (kind : Kind) → is_end kind ≡ false
    → ((d : ℕ) → depth_after kind d ≡ d)
    → ((flow alone : Bool) → indicator_of flow alone byte0 ≡ Some kind)
    → (more : List ℕ) → are_ascii more ≡ true → (body : TokenBody)
    → ((flow : Bool) (text : List ℕ) (p : ℕ) → Has text p (byte0 ∷ more)
    → byte text (p + length (byte0 ∷ more)) ≡ 32
    → lexeme_at kind flow 0 text p
    ≡ Ok (record {
      body = body;
      end = p + length (byte0 ∷ more);
      reached = p + length (byte0 ∷ more);
      broke = false;
    }))
    → (b : Layout) (K : List Kind → List Kind) (B : List TokenBody → List TokenBody) (d e : ℕ)
    (rest : Rest) → BeginsBlank b rest → ((c : Cursor) → Walks b K B d e c rest) → (c : Cursor)
    → Walks (word (byte0 ∷ more) ▹ b) (λ ks. K (kind ∷ ks)) (λ bs. body ∷ B bs) d e c rest
unfolding letters
word_walks law byte0 s kind goes level is more low body reads b K B d e rest spaced w c =
    walks_gap (letters (byte0 ∷ more) ▹ b) (λ ks. K (kind ∷ ks)) (λ bs. body ∷ B bs) d e c rest
    (λ c text p ws stage l.
    let xs = byte0 ∷ more in
    let r = letters_are more low (lettered_on c) in
    let k : Rest = λ x. b x rest in
    let same : bytes (letters xs c k) ≡ xs ++ bytes (k r.behind) = letter_low byte0 (letters more (lettered_on c) k) s.low ∙ ap (λ (t : List ℕ). byte0 ∷ t) (r.same k) in
    let m = subst (λ (bs : List ℕ). Left text p bs) same l in
    let h = left_first text p byte0 (more ++ bytes (k r.behind)) m in
    let o = left_rest text p xs (bytes (k r.behind)) m in
    let blank = spaced r.behind (r.white refl) in
    let q = p + length xs in
    let space = left_first text q 32 blank.more (subst (λ (bs : List ℕ). Left text q bs) blank.same o) in
    let said : WordText = record { body = body; end = q; reached = q; broke = false } in
    let next = push law text c r.behind p ws d kind said stage (sign_begins text p byte0 s h) (sign_kind (nat_lt 0 d) text p byte0 kind s h (λ a. is (nat_lt 0 d) a))
    (reads (nat_lt 0 d) text p (has_front text p xs (bytes (k r.behind)) m.has) space) goes (r.column (λ z. more_than c.column z)) r.kept in
    let g = w r.behind text q (word_of kind p said ∷ ws) (subst (λ (i : ℕ). WordStage text r.behind q (word_of kind p said ∷ ws) i) (level d) next) o in
    record { behind = g.behind; place = g.place; words = g.words; stage = g.stage; left = g.left; kinds = g.kinds; bodies = λ bs. g.bodies bs; bare = g.bare })

-- an anchor before what begins with a space
pub anchor_walks : GapReads → AnchorReads → (name : List ℕ) → 0 < length name
    → are_alphas name ≡ true
    → (b : Layout) (K : List Kind → List Kind) (B : List TokenBody → List TokenBody) (d e : ℕ)
    (rest : Rest)
    → BeginsBlank b rest → ((c : Cursor) → Walks b K B d e c rest) → (c : Cursor)
    → Walks (word (38 ∷ name) ▹ b) (λ ks. K (kinds.Anchor ∷ ks)) (λ bs. tokens.anchor name ∷ B bs) d
    e c rest
anchor_walks law names name some are b K B d e rest spaced w c =
    word_walks law 38 anchor_sign kinds.Anchor refl (λ d. refl) anchor_kind name (alphas_ascii name are) (tokens.anchor name)
    (λ flow text p has space.
    let (h, inner) = has in
    let q = p + 1 + length name in
    let far : p + suc (length name) ≡ q = omega arith in
    let reads = names contexts.Anchor text p name (has_at text (p + 1) name inner) some are (space_ends text q (subst (λ (i : ℕ). byte text i ≡ 32) far space)) in
    subst (λ (i : ℕ). lexeme_at kinds.Anchor flow 0 text p ≡ Ok (record { body = tokens.anchor name; end = i; reached = i; broke = false })) (sym far)
    (anchor_word flow text p ∙ named tokens.anchor (anchor_at contexts.Anchor text p) name q reads)) b K B d e rest spaced w c

-- ---- double quoted scalars

-- A double quote is a sign.
pub quote_sign : Sign 34
quote_sign = sign 34 refl refl refl refl refl refl refl refl refl refl

-- A double quote begins a double quoted scalar.
pub quote_kind : (flow alone : Bool) → indicator_of flow alone 34 ≡ Some kinds.DoubleQuoted
unfolding indicator_of
quote_kind flow alone = refl

-- A text before a layout's items is its UTF-8.
pub front_encodes : (xs : List ℕ) (t : List Item)
    → bytes (in_front xs t) ≡ encode_utf8_all xs ++ bytes t
unfolding in_front encode char_bytes encode_char
front_encodes [] t = refl
front_encodes (x ∷ xs) t =
    refl ∙ ap (λ b. encode_utf8 x ++ b) (front_encodes xs t) ∙ sym (append_assoc (encode_utf8 x) (encode_utf8_all xs) (bytes t))

-- A double quote before a text is its own byte.
pub quote_first : (xs : List ℕ) → encode_utf8_all (34 ∷ xs) ≡ 34 ∷ encode_utf8_all xs
quote_first xs = let e : encode_utf8 34 ≡ 34 ∷ [] = encode_ascii 34 (omega arith) in rw e refl

pub quoted_walks : GapReads → QuotedIsReadBack → (page : Page) (value : List ℕ) → IsUtf8 value
    → 0 < page.indentation → (d : ℕ) (c : Cursor) (rest : Rest)
    → Walks (quoted_text page (chars value)) (λ ks. kinds.DoubleQuoted ∷ ks)
    (λ bs. tokens.scalar value YAML_DOUBLE_QUOTED_SCALAR_STYLE ∷ bs) d d c rest
unfolding lexeme_at
quoted_walks law quoted page value utf8 deep d c rest =
    walks_gap (between_quotes page (chars value)) (λ ks. kinds.DoubleQuoted ∷ ks) (λ bs. tokens.scalar value YAML_DOUBLE_QUOTED_SCALAR_STYLE ∷ bs) d d c rest
    (λ c text p ws stage l.
    let r = quoted page c value utf8 (λ cuts. deep) in
    let xs = r.letters in
    let bs = encode_utf8_all xs in
    let m = subst (λ (x : List ℕ). Left text p x) (ap (λ (t : List Item). bytes t) (r.written rest) ∙ front_encodes xs (rest r.behind)) l in
    let begins : bs ≡ 34 ∷ encode_utf8_all r.inside = ap (λ (ys : List ℕ). encode_utf8_all ys) r.begins ∙ quote_first r.inside in
    let h = left_first text p 34 (encode_utf8_all r.inside ++ bytes (rest r.behind)) (subst (λ (x : List ℕ). Left text p (x ++ bytes (rest r.behind))) begins m) in
    let q = p + length bs in
    let said : WordText = record { body = tokens.scalar value YAML_DOUBLE_QUOTED_SCALAR_STYLE; end = q; reached = q; broke = false } in
    record {
      behind = r.behind;
      place = q;
      words = word_of kinds.DoubleQuoted p said ∷ ws;
      stage = push law text c r.behind p ws d kinds.DoubleQuoted said stage (sign_begins text p 34 quote_sign h) (sign_kind (nat_lt 0 d) text p 34 kinds.DoubleQuoted quote_sign h (λ a. quote_kind (nat_lt 0 d) a))
          (refl ∙ named (λ v. tokens.scalar v YAML_DOUBLE_QUOTED_SCALAR_STYLE) (double_quoted_at text p) value q (r.read text p (has_at text p bs (has_front text p bs (bytes (rest r.behind)) m.has)))) refl r.column r.kept;
      left = left_rest text p bs (bytes (rest r.behind)) m;
      kinds = refl;
      bodies = λ bs. refl;
      bare = r.bare;
    })
