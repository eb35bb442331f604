-- Simple keys, with their properties, stay in their line.
use Rattle.std.proofs.Common.{◌≡◌, ℕ, suc, ◌+◌, ◌-◌, ◌*◌, ◌<◌, ◌≤◌, Bool, true, false, not, ◌&&◌, ◌||◌, ◌==◌, nat_le, nat_lt, List, [], ◌∷◌, ◌++◌, length, Option, Some, None, refl, sym, ap, subst, ◌∙◌, inl, inr, arith, encode_utf8_all, IsUtf8, if◌then◌else◌, length-append, chars}
use Rattle.yaml_emit_laws.proofs.ScalarWords.{cases_Bool, true≢false, and_parts, not-true, ne_eqb, nat_tests, scalars-chars, encodes-chars, and-false, is_alpha_byte, is_digit_byte, are_alphas, yaml_scalar_style_t, Cursor, Page, Settings, Allowed, Style, is_break, Layout, ◌▹◌, stay, when, char, gap, word, opener, after_text, line, is_empty, quoted_body, flow_body, scalar_text, allowed, taken, plain_fits, single_or, Scalar, Start, alias_node, scalar_node, sequence_node, mapping_node, no_nodes, node, no_pairs, pair, Opening, kept_if, scalar_tag, start_tag, Context, context_of, position, deeper, checked, anchor_text, tag_text, properties_text, is_plain, style_of, page_at, scalar_layout, alias_layout, text_size, written_size, properties_size, is_simple_scalar, is_simple_alias, is_simple_start, is_simple, is_flow, indent_of, indented, closer, node_layout, items_layout, pairs_layout, is_one_line, cond_true, cond_false, AreCalm, calm_from, StaysNear, SimpleKeysAreNear, bool_cases}
use Rattle.yaml_emit_layout.specs.scan_types.Classes.{has_break}
use Rattle.yaml_emit_layout.specs.declared.Style.TheVariants as style
use Rattle.yaml_emit_layout.specs.Hex.{hex_digit}
use Rattle.yaml_emit_layout.specs.Tags.{suffix_keeps, keeps_byte, uri_byte, uri_text, Split, spelled, split_tag, tag_spelling, split_size}
use Rattle.yaml_emit_layout.specs.declared.level.Part.TheVariants as part
use Rattle.yaml_emit_layout.specs.Grammar.{has}
use Rattle.yaml_emit_layout.specs.Nodes.{mark_text}
use Rattle.yaml_emit_laws.specs.TagsLaws.{IsShaped, IsReadable, are_ascii, IsMarked}
use Rattle.yaml_emit_laws.specs.Writable.{IsWritableName, IsWritableAnchor, IsWritableTag, IsWritableOpening}
use Rattle.yaml_emit_laws.proofs.Joining.{written_readable}
use Rattle.yaml_emit_laws.proofs.Ascii.{spelled_ascii}
use Rattle.yaml_emit_laws.proofs.Near.{near_on, near_most, near_to, near_when, near_sign, near_gap, near_word, near_checked, near_after, near_opener, near_flow, near_body}
use Rattle.yaml_emit_laws.proofs.OneLine.{no_breaks}

-- ---- bytes above the controls

abbrev pub Above : List ℕ → Type 0
Above [] = Unit {0}
Above (b ∷ bs) = (13 < b) × Above bs

-- Bytes above the control characters, and more of them after.
pub above_append : (xs ys : List ℕ) → Above xs → Above ys → Above (xs ++ ys)
above_append [] ys h k = k
above_append (x ∷ xs) ys (a, h) k = (a, above_append xs ys h k)

-- Bytes in ASCII above the control characters are calm.
pub calm_all : (xs : List ℕ) → Above xs → are_ascii xs ≡ true → AreCalm xs
calm_all [] h a = tt
calm_all (x ∷ xs) (b, h) a = grind (arith, nat_tests, calm_from, calm_all xs h (and_parts (nat_lt x 128) (are_ascii xs) a).1)

pub alpha_above : (b : ℕ) → is_alpha_byte b ≡ true → (13 < b) × (b < 128)
unfolding is_alpha_byte is_digit_byte
alpha_above b h = (grind (arith, nat_tests), grind (arith, nat_tests))

pub alphas_above : (name : List ℕ) → are_alphas name ≡ true → Above name
alphas_above [] h = tt
alphas_above (b ∷ bs) h = ((alpha_above b (and_parts (is_alpha_byte b) (are_alphas bs) h).0).0, alphas_above bs (and_parts (is_alpha_byte b) (are_alphas bs) h).1)

-- Letters and digits are calm.
pub alphas_calm : (name : List ℕ) → are_alphas name ≡ true → AreCalm name
alphas_calm [] h = tt
alphas_calm (b ∷ bs) h = let a = alpha_above b (and_parts (is_alpha_byte b) (are_alphas bs) h).0 in (calm_from b a.0 a.1, alphas_calm bs (and_parts (is_alpha_byte b) (are_alphas bs) h).1)

-- A byte that a tag keeps is no control character.
pub kept_above : (flow : Bool) (b : ℕ) → keeps_byte flow b ≡ true → 13 < b
unfolding suffix_keeps
kept_above flow b h = grind (arith, nat_tests)

-- A hexadecimal digit's byte is no control character.
pub digit_above : (d : ℕ) → 13 < hex_digit d
unfolding hex_digit
digit_above d = bool_cases (nat_lt d 10) (λ e. rw e (omega arith)) (λ e. rw e (omega arith))

byte_above : (flow : Bool) (b : ℕ) → Above (uri_byte flow b) × (length (uri_byte flow b) ≤ 3)
byte_above flow b = grind (arith, nat_tests, cond_true, kept_above, cond_false, digit_above)

uri_above : (flow : Bool) (bs : List ℕ)
    → Above (uri_text flow bs) × (length (uri_text flow bs) ≤ 3 * length bs)
unfolding uri_text
uri_above flow [] = (tt, omega arith)
uri_above flow (b ∷ bs) = grind (arith, nat_tests, byte_above, length-append, above_append, uri_above flow bs)

-- No control character is in a handle.
pub handle_above : (handle : List ℕ) → IsShaped handle → Above handle
handle_above handle h1 = grind (arith, nat_tests, above_append, alphas_above)

split_above : (split : Split) → IsReadable split
    → Above (spelled split) × (length (spelled split) ≤ 3 * split_size split + 3)
unfolding spelled
split_above split u = grind (arith, nat_tests, uri_above, length-append, above_append, handle_above)

-- A handle is in ASCII.
pub marked_ascii : (xs : List ℕ) → IsMarked xs → are_ascii xs ≡ true
marked_ascii xs m = subst (λ (ys : List ℕ). are_ascii ys ≡ true) (sym m.begins) m.ascii

-- ---- properties

near_anchor : (anchor : Option (List ℕ)) (c : Cursor) → IsWritableAnchor anchor
    → StaysNear (anchor_text anchor) c (2 + text_size anchor)
near_anchor None c h = near_to stay c c (λ rest. refl) (2 + 0)
near_anchor (Some name) c (some, are) = near_most (word (38 ∷ name)) c (1 + suc (length name)) (2 + length name) (omega arith) (near_word (38 ∷ name) c (calm_from 38 (omega arith) (omega arith), alphas_calm name are))

near_tag : (s : Settings) (o : Opening) → IsWritableOpening o → (tag : Option (List ℕ)) (c : Cursor)
    → IsWritableTag tag
    → StaysNear (tag_text (context_of s o.directives) tag) c
    (4 + 3 * written_size (context_of s o.directives) tag)
near_tag s o good None c h = near_to stay c c (λ rest. refl) (4 + 3 * 0)
near_tag s o (fine, u) (Some t) c (some, utf8) =
    let ds = o.directives in
    let readable = written_readable o fine u t utf8 some in
    let a = split_above (split_tag ds t) readable in
    let l = a.1 in
    let calm = calm_all (spelled (split_tag ds t)) a.0 (marked_ascii (spelled (split_tag ds t)) (spelled_ascii (split_tag ds t) readable)) in
    near_most (word (tag_spelling ds t)) c (1 + length (spelled (split_tag ds t))) (4 + 3 * split_size (split_tag ds t)) (omega (arith, l)) (near_word (spelled (split_tag ds t)) c calm)

near_properties : (s : Settings) (o : Opening) → IsWritableOpening o
    → (anchor tag : Option (List ℕ)) (c : Cursor) → IsWritableAnchor anchor → IsWritableTag tag
    → StaysNear (properties_text (context_of s o.directives) anchor tag) c
    ((2 + text_size anchor) + (4 + 3 * written_size (context_of s o.directives) tag))
near_properties s o good anchor tag c a t =
    let one = near_anchor anchor c a in
    near_on (anchor_text anchor) (tag_text (context_of s o.directives) tag) c (2 + text_size anchor) (4 + 3 * written_size (context_of s o.directives) tag) one (near_tag s o good tag one.behind t)

-- A tag that is kept, or left out, may be written.
pub kept_writable : (b : Bool) (tag : Option (List ℕ)) → IsWritableTag tag
    → IsWritableTag (kept_if b tag)
kept_writable b tag h = grind (arith, nat_tests)

-- ---- styles of keys

abbrev is_key_style : Style → Bool
is_key_style style.Literal = false
is_key_style style.Folded = false
is_key_style _ = true

single_key : (a : Allowed) → is_key_style (single_or a) ≡ true
single_key a = elim (cases_Bool a.single) [ inl e ↦ rw e refl | inr e ↦ rw e refl ]

plain_key : (a : Allowed) (untagged flow empty : Bool)
    → is_key_style (if plain_fits a untagged flow true empty then style.Plain else single_or a)
    ≡ true
plain_key a untagged flow empty = elim (cases_Bool (plain_fits a untagged flow true empty)) [ inl e ↦ rw e refl | inr e ↦ rw e (single_key a) ]

block_key : (b flow : Bool) (s : Style)
    → is_key_style (if b && not (flow || true) then s else style.Double) ≡ true
block_key b flow s = grind (arith, nat_tests)

taken_key : (a : Allowed) (s : yaml_scalar_style_t) (untagged flow empty : Bool)
    → is_key_style (taken a s untagged flow true empty) ≡ true
unfolding taken
taken_key a s untagged flow empty = grind (arith, nat_tests, single_key, block_key, plain_key)

style_key : (p : Context) (flow : Bool) (n : ℕ) (x : Scalar)
    → is_key_style (style_of p (position flow n part.SimpleKey) x) ≡ true
unfolding style_of
style_key p flow n x = elim (cases_Bool p.settings.canonical) [ inl e ↦ rw e refl | inr e ↦ rw e (taken_key (allowed p.settings.unicode (chars x.value)) x.style _ flow (length x.value == 0)) ]

-- ---- scalars

low_inside : (q : ℕ) → q < 128 → 13 < q → is_break q ≡ false
low_inside q l h = rw (ne_eqb q 10 (λ e. omega (arith, e, h)), ne_eqb q 13 (λ e. omega (arith, e, h)), ne_eqb q 0x85 (λ e. omega (arith, e, l)), ne_eqb q 0x2028 (λ e. omega (arith, e, l)), ne_eqb q 0x2029 (λ e. omega (arith, e, l))) refl

near_between : (body : Layout) (q : ℕ) (c : Cursor) (n : ℕ) → q < 128 → 13 < q
    → ((d : Cursor) → StaysNear body d n) → StaysNear (gap ▹ (char q ▹ (body ▹ char q))) c (n + 3)
near_between body q c n low high f =
    let g = near_gap c in
    let inside = low_inside q low high in
    let one = near_sign q g.behind inside low in
    let b = f one.behind in
    let last = near_sign q b.behind inside low in
    near_most (gap ▹ (char q ▹ (body ▹ char q))) c (1 + (1 + (n + 1))) (n + 3) (omega arith)
    (near_on gap (char q ▹ (body ▹ char q)) c 1 (1 + (n + 1)) g (near_on (char q) (body ▹ char q) g.behind 1 (n + 1) one (near_on body (char q) one.behind n 1 b last)))

near_text : (page : Page) (digit : ℕ) (flow : Bool) (s : Style) (value : List ℕ) (c : Cursor)
    → is_key_style s ≡ true → page.cuts ≡ false → IsUtf8 value → is_one_line (chars value) ≡ true
    → StaysNear (scalar_text page digit flow s (chars value)) c (4 * length value + 3)
unfolding scalar_text
near_text page digit flow style.Plain value c k g u l =
    let cs = chars value in
    let same : length (encode_utf8_all cs) ≡ length value = ap (λ (bs : List ℕ). length bs) (encodes-chars value u) in
    let one = near_when (flow || not (is_empty cs)) gap c 1 (λ e. near_gap c) in
    let body = near_flow page false 32 cs one.behind g refl l in
    near_most _ c (1 + (2 * length (encode_utf8_all cs) + 0)) (4 * length value + 3) (omega (arith, same))
    (near_on (when (flow || not (is_empty cs)) gap) (flow_body page false 32 cs ▹ after_text) c 1 (2 * length (encode_utf8_all cs) + 0) one (near_on (flow_body page false 32 cs) after_text one.behind (2 * length (encode_utf8_all cs)) 0 body (near_after body.behind)))
near_text page digit flow style.Single value c k g u l =
    let cs = chars value in
    let same : length (encode_utf8_all cs) ≡ length value = ap (λ (bs : List ℕ). length bs) (encodes-chars value u) in
    near_most _ c (2 * length (encode_utf8_all cs) + 3) (4 * length value + 3) (omega (arith, same)) (near_between (flow_body page true 32 cs) 39 c (2 * length (encode_utf8_all cs)) (omega arith) (omega arith) (λ d. near_flow page true 32 cs d g refl l))
near_text page digit flow style.Double value c k g u l =
    let cs = chars value in
    let same : length (encode_utf8_all cs) ≡ length value = ap (λ (bs : List ℕ). length bs) (encodes-chars value u) in
    near_most _ c (4 * length (encode_utf8_all cs) + 3) (4 * length value + 3) (omega (arith, same)) (near_between (quoted_body page 32 cs) 34 c (4 * length (encode_utf8_all cs)) (omega arith) (omega arith) (λ d. near_body page 32 cs d g (scalars-chars value u)))
near_text page digit flow _ value c k g u l = absurd (true≢false (sym k))

near_mark : (p : Context) (x : Scalar) (s : Style) (c : Cursor) → StaysNear (mark_text p x s) c 2
near_mark p x s c = near_when (not (has (scalar_tag p.settings.canonical x)) && (not x.quoted && not (is_plain s))) (word (33 ∷ [])) c 2 (λ e. near_word (33 ∷ []) c (calm_from 33 (omega arith) (omega arith), tt))

-- what a simple scalar is
record Simply (p : Context) (x : Scalar) : Type 0 where
  canonical : p.settings.canonical ≡ false
  breaks : has_break x.value ≡ false
  few : properties_size p x.anchor (scalar_tag false x) + length x.value ≤ 128

at_most : (a b : ℕ) → nat_le a b ≡ true → a ≤ b
at_most a b h = grind (arith, nat_tests)

simply : (p : Context) (x : Scalar) → is_simple_scalar p x ≡ true → Simply p x
unfolding is_simple_scalar
simply p x h = grind (arith, nat_tests, at_most)

near_scalar : (s : Settings) (o : Opening) → IsWritableOpening o → (x : Scalar)
    → IsWritableAnchor x.anchor → IsWritableTag x.tag → IsUtf8 x.value
    → is_simple_scalar (context_of s o.directives) x ≡ true → (flow : Bool) (n : ℕ) (c : Cursor)
    → StaysNear (scalar_layout (context_of s o.directives) (position flow n part.SimpleKey) x) c 530
unfolding scalar_layout
near_scalar s o good x a t u simple flow n c =
    let p = context_of s o.directives in
    let at = position flow n part.SimpleKey in
    let k = simply p x simple in
    let tag = scalar_tag s.canonical x in
    let chosen = style_of p at x in
    let few = k.few in
    let same : scalar_tag false x ≡ tag = ap (λ b. scalar_tag b x) (sym k.canonical) in
    let fits : properties_size p x.anchor tag + length x.value ≤ 128 = subst (λ (t : Option (List ℕ)). properties_size p x.anchor t + length x.value ≤ 128) same few in
    let l = near_properties s o good x.anchor tag c a (kept_writable (s.canonical || not (x.plain || x.quoted)) x.tag t) in
    let m = near_mark p x chosen l.behind in
    let d = near_checked (deeper s at.around) m.behind in
    let v = near_text (page_at s at) s.indent flow chosen x.value d.behind (style_key p flow n x) refl u (no_breaks x.value u k.breaks) in
    let i = (2 + text_size x.anchor) + (4 + 3 * written_size p tag) in
    let j = 4 * length x.value + 3 in
    near_most _ c (i + (2 + (0 + j))) 530 (omega (arith, fits))
    (near_on (properties_text p x.anchor tag) (mark_text p x chosen ▹ checked (deeper s at.around) ▹ scalar_text (page_at s at) s.indent flow chosen (chars x.value)) c i (2 + (0 + j)) l
    (near_on (mark_text p x chosen) (checked (deeper s at.around) ▹ scalar_text (page_at s at) s.indent flow chosen (chars x.value)) l.behind 2 (0 + j) m
    (near_on (checked (deeper s at.around)) (scalar_text (page_at s at) s.indent flow chosen (chars x.value)) m.behind 0 j d v)))

-- ---- aliases and empty collections

near_alias : (p : Context) (name : List ℕ) → IsWritableName name → is_simple_alias p name ≡ true
    → (flow : Bool) (n : ℕ) (c : Cursor)
    → StaysNear (alias_layout (position flow n part.SimpleKey) name) c 530
unfolding alias_layout is_simple_alias
near_alias p name (some, are) simple flow n c =
    let few = at_most (length name) 128 (and_parts (not p.settings.canonical) (nat_le (length name) 128) simple).1 in
    let one = near_word (42 ∷ name) c (calm_from 42 (omega arith) (omega arith), alphas_calm name are) in
    near_most _ c (1 + suc (length name) + 1) 530 (omega (arith, few)) (near_on (word (42 ∷ name)) (char 32) c (1 + suc (length name)) 1 one (near_sign 32 one.behind refl (omega arith)))

-- ASCII above the controls
abbrev is_sign : ℕ → Bool
is_sign b = nat_lt 13 b && nat_lt b 128

sign_is : (b : ℕ) → is_sign b ≡ true → (13 < b) × (b < 128)
sign_is b h = (grind (arith, nat_tests), grind (arith, nat_tests))

near_sign_char : (x : ℕ) (c : Cursor) → is_sign x ≡ true → StaysNear (char x) c 1
near_sign_char x c h = let s = sign_is x h in near_sign x c (low_inside x s.1 s.0) s.1

near_sign_opener : (x : ℕ) (c : Cursor) → is_sign x ≡ true → StaysNear (opener x) c 2
near_sign_opener x c h = let s = sign_is x h in near_opener x c (low_inside x s.1 s.0) s.1

-- an empty collection between brackets
near_empty : (s : Settings) (o : Opening) → IsWritableOpening o → (q : Start)
    → IsWritableAnchor q.anchor → IsWritableTag q.tag
    → is_simple_start (context_of s o.directives) q true ≡ true → (op x : ℕ) (flow : Bool)
    → flow ≡ true → (f : Cursor → ℕ) (close : ℕ → Layout)
    → ((n : ℕ) (d : Cursor) → s.canonical ≡ false → StaysNear (close n) d 1) → is_sign op ≡ true
    → (c : Cursor)
    → StaysNear (properties_text (context_of s o.directives) q.anchor (start_tag s.canonical q) ▹
    when flow (opener op) ▹ indented f (λ n. checked n ▹ close n)) c 530
unfolding is_simple_start
near_empty s o good q a t simple op x flow is f close ends sign c =
    let p = context_of s o.directives in
    let plain = not-true s.canonical (and_parts (not s.canonical) _ simple).0 in
    let few = at_most (properties_size p q.anchor (start_tag false q)) 128 (and_parts (not s.canonical) (nat_le (properties_size p q.anchor (start_tag false q)) 128) simple).1 in
    let tag = start_tag s.canonical q in
    let same : start_tag false q ≡ tag = ap (λ b. start_tag b q) (sym plain) in
    let fits : properties_size p q.anchor tag ≤ 128 = subst (λ (t : Option (List ℕ)). properties_size p q.anchor t ≤ 128) same few in
    let l = near_properties s o good q.anchor tag c a (kept_writable (s.canonical || not q.implicit) q.tag t) in
    let b = near_when flow (opener op) l.behind 2 (λ e. near_sign_opener op l.behind sign) in
    let n = f b.behind in
    let d = near_checked n b.behind in
    let r = near_on (checked n) (close n) b.behind 0 1 d (ends n d.behind plain) in
    let inner : StaysNear (indented f (λ n. checked n ▹ close n)) b.behind 1 = record { shown = r.shown; behind = r.behind; written = r.written; inside = r.inside; few = r.few } in
    let i = (2 + text_size q.anchor) + (4 + 3 * written_size p tag) in
    near_most _ c (i + (2 + 1)) 530 (omega (arith, fits))
    (near_on (properties_text p q.anchor tag) (when flow (opener op) ▹ indented f (λ n. checked n ▹ close n)) c i (2 + 1) l
    (near_on (when flow (opener op)) (indented f (λ n. checked n ▹ close n)) l.behind 2 1 b inner))

near_close : (s : Settings) (n x : ℕ) (c : Cursor) → is_sign x ≡ true
    → StaysNear (closer s true n true x) c 1
unfolding closer
near_close s n x c sign =
    let one = near_when (s.canonical && not true) (char 44 ▹ line s.line_break (n - s.indent)) c 0 (λ e. absurd (true≢false (sym e ∙ and-false s.canonical))) in
    near_on (when (s.canonical && not true) (char 44 ▹ line s.line_break (n - s.indent))) (char x) c 0 1 one (near_sign_char x one.behind sign)

empty_flow : (s : Settings) (flow : Bool) (n : ℕ) (q : Start)
    → is_flow s (position flow n part.SimpleKey) q true ≡ true
empty_flow s flow n q = grind (arith, nat_tests)

in_brackets : (b : Bool) (P : Bool → Type 0) → b ≡ true → P true → P b
in_brackets true P e h = h
in_brackets false P e h = absurd (true≢false (sym e))

some_start : (p : Context) (q : Start) → is_simple_start p q false ≡ true → ⊥
unfolding is_simple_start
some_start p q h = true≢false (sym (and_parts (not p.settings.canonical) _ h).1)

pub keys_near : SimpleKeysAreNear
unfolding is_simple node_layout items_layout pairs_layout
keys_near s o good (alias_node name) w simple flow n c = near_alias (context_of s o.directives) name w simple flow n c
keys_near s o good (scalar_node x) (a, t, u) simple flow n c = near_scalar s o good x a t u simple flow n c
keys_near s o good (sequence_node q no_nodes) (a, t, w) simple flow n c =
    let p = context_of s o.directives in
    let at = position flow n part.SimpleKey in
    let is = empty_flow s flow n q in
    near_empty s o good q a t simple 91 93 (is_flow s at q true) is (indent_of s at true (is_flow s at q true)) (λ m. items_layout p (is_flow s at q true) m true no_nodes) (λ m d e. (in_brackets (is_flow s at q true) (λ k. StaysNear (items_layout p k m true no_nodes) d 1) is (near_close p.settings m 93 d refl))) refl c
keys_near s o good (sequence_node q (node x xs)) w simple flow n c = absurd (some_start (context_of s o.directives) q simple)
keys_near s o good (mapping_node q no_pairs) (a, t, w) simple flow n c =
    let p = context_of s o.directives in
    let at = position flow n part.SimpleKey in
    let is = empty_flow s flow n q in
    near_empty s o good q a t simple 123 125 (is_flow s at q true) is (indent_of s at false (is_flow s at q true)) (λ m. pairs_layout p (is_flow s at q true) m true no_pairs) (λ m d e. (in_brackets (is_flow s at q true) (λ k. StaysNear (pairs_layout p k m true no_pairs) d 1) is (near_close p.settings m 125 d refl))) refl c
keys_near s o good (mapping_node q (pair k v ps)) w simple flow n c = absurd (some_start (context_of s o.directives) q simple)
