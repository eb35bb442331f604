-- Simple keys of every kind: scalars in the three styles that a key can have, aliases, and empty collections, with their properties.
use Rattle.std.proofs.Common.{◌≡◌, ◌⊎◌, ℕ, ◌+◌, ◌<◌, ◌≤◌, ◌==◌, ◌&&◌, ◌||◌, not, nat_lt, Bool, true, false, List, [], ◌∷◌, ◌++◌, length, Some, None, refl, sym, ap, subst, ◌∙◌, inl, inr, arith, encode_utf8_all, IsUtf8, if◌then◌else◌, chars}
use Rattle.yaml_emit_laws.proofs.NodeWords.{nat_tests, cases_Bool, false≢true, encode_ascii, and-false, TokenBody, starts, kind_at, Cursor, Settings, Style, Layout, Rest, ◌▹◌, when, char, word, blank, opener, letter, scalar_text, allowed, taken, plain_fits, single_or, Part, Opening, Scalar, Start, Node, alias_node, scalar_node, sequence_node, mapping_node, Nodes, no_nodes, node, Pairs, no_pairs, pair, has, scalar_tag, start_tag, Context, context_of, position, style_of, is_plain, is_flow, is_simple, is_simple_start, anchor_text, tag_text, properties_text, page_at, deeper, checked, MOST, indented, indent_of, scalar_layout, alias_layout, closer, node_layout, items_layout, pairs_layout, anchor_bodies, tag_bodies, mark_bodies, Left, bytes, first, IsWritable, IsWritableAnchor, IsWritableTag, quoted_is_back, letter_low, deep_bytes, anchor_is_read, begins_white, may_be_plain, SingleLinesAreReadBack, PlainHasGap, ScalarsAreWords, StylesAreAllowed, plain_back, what_stops, IsGap, signs_come, printed_begins, style_at, is_empty, is_nothing, style_named, takes_mark, value_bodies, scalar_bodies, node_bodies, items_bodies, pairs_bodies, IsPretty, Spoken, Fits, all_bytes, kept_writable, low_starts}
use Rattle.yaml_emit_layout.specs.scan_types.Tokens as tokens
use Rattle.yaml_emit_layout.specs.scan_model.declared.name.yaml_scalar_style_t.{yaml_scalar_style_t}
use Rattle.yaml_scan_history.specs.declared.kind.Kind.TheVariants as kinds
use Rattle.yaml_emit_layout.specs.declared.Allowed.{Allowed}
use Rattle.yaml_emit_layout.specs.declared.Style.TheVariants as style
use Rattle.yaml_emit_layout.specs.declared.level.NodePosition.{NodePosition}
use Rattle.yaml_emit_layout.specs.declared.level.Part.TheVariants as part
use Rattle.yaml_emit_laws.proofs.Lining.{no_gap}
use Rattle.yaml_emit_laws.proofs.SpokenWords.{alias_word, double_word, single_word, plain_word}
use Rattle.yaml_emit_laws.proofs.SpokenLayouts.{alias_says, double_says, single_says, plain_says}
use Rattle.yaml_emit_laws.proofs.KeySteps.{letters_start}
use Rattle.yaml_emit_laws.proofs.KeyForms.{KeyForm, KeyEnd, spaced, squares, curlies, end_bytes, end_bodies, LeadsKey, plains_none, calm_starts, fits_moved, form_words, form_as, LastWord}
use Rattle.yaml_emit_laws.proofs.LeafProps.{Dress, Moved, Leads, has_some, dress_all}
use Rattle.yaml_emit_laws.proofs.FlowSigns.{opening_of, colon_calm, behind_gap}

-- ---- scalars

-- one that is left out plain has no `!`
abbrev pub marked_as : Scalar → Style → Bool
marked_as x chosen = not (has (scalar_tag false x)) && (not x.quoted && not (is_plain chosen))

pub scalar_laid : (p : Context) (at : NodePosition) (x : Scalar) (chosen : Style)
    → p.settings.canonical ≡ false → style_of p at x ≡ chosen
    → node_layout p at (scalar_node x)
    ≡ ((anchor_text x.anchor ▹ (tag_text p (scalar_tag false x) ▹ when (marked_as x chosen)
    (word (33 ∷ [])))) ▹ (checked (deeper p.settings at.around) ▹ scalar_text
    (page_at p.settings at) p.settings.indent at.flow chosen (chars x.value)))
unfolding node_layout scalar_layout
scalar_laid p at x chosen pretty same =
    let last : Style → Layout = λ s. checked (deeper p.settings at.around) ▹ scalar_text (page_at p.settings at) p.settings.indent at.flow s (chars x.value) in
    ap (λ (b : Bool). properties_text p x.anchor (scalar_tag b x) ▹ (when (not (has (scalar_tag b x)) && (not x.quoted && not (is_plain (style_of p at x)))) (word (33 ∷ [])) ▹ last (style_of p at x))) pretty
    ∙ ap (λ (s : Style). properties_text p x.anchor (scalar_tag false x) ▹ (when (not (has (scalar_tag false x)) && (not x.quoted && not (is_plain s))) (word (33 ∷ [])) ▹ last s)) same

pub scalar_says : (p : Context) (flow : Bool) (q : Part) (bare : Bool) (x : Scalar) (chosen : Style)
    → style_at p flow q x ≡ chosen → (bs : List TokenBody)
    → node_bodies p flow q bare (scalar_node x) bs
    ≡ anchor_bodies x.anchor (tag_bodies p.directives (scalar_tag false x)
    (mark_bodies (marked_as x chosen) (scalar_bodies flow chosen x.value bs)))
unfolding node_bodies
scalar_says p flow q bare x chosen same bs =
    ap (λ (s : Style). anchor_bodies x.anchor (tag_bodies p.directives (scalar_tag false x) (mark_bodies (not (has (scalar_tag false x)) && takes_mark x.quoted s) (scalar_bodies flow s x.value bs)))) same

last_checked : (flow : Bool) (level n : ℕ) (a : Layout) (c : Cursor) (w : Spoken flow level)
    → LastWord flow level a c w → LastWord flow level (checked n ▹ a) c w
last_checked flow level n a c w l = grind (arith, deep_bytes)

quote_some : (q : ℕ) (letters inside : List ℕ) → q < 128 → letters ≡ q ∷ inside
    → 0 < length (encode_utf8_all letters)
quote_some q letters inside low e =
    let same : encode_utf8_all letters ≡ (q ∷ []) ++ encode_utf8_all inside = ap (λ (xs : List ℕ). encode_utf8_all xs) e ∙ ap (λ (bs : List ℕ). bs ++ encode_utf8_all inside) (encode_ascii q low) in
    let l = ap (λ (bs : List ℕ). length bs) same in
    omega (arith, l)

-- what the three styles' laws are
pub record Scalars : Type 0 where
  pub gaps : PlainHasGap
  pub words : ScalarsAreWords
  pub singles : SingleLinesAreReadBack
  pub styles : StylesAreAllowed

-- the last word of a scalar's layout
record LastOf (flow : Bool) (level : ℕ) (a : Layout) (c : Cursor) (x : Scalar) (chosen : Style) : Type 0 where
  word : Spoken flow level
  last : LastWord flow level a c word
  body : word.body ≡ tokens.scalar x.value (style_named chosen)
  some : is_nothing flow chosen x.value ≡ false

some_of : (xs : List ℕ) → (xs ≡ [] → ⊥) → 0 < length xs
some_of [] f = absurd (f refl)
some_of (x ∷ xs) f = omega arith

self_colon : (own : List ℕ) → own ≡ [] → Left (58 ∷ []) 0 (own ++ (58 ∷ []))
self_colon own e = subst (λ (bs : List ℕ). Left (58 ∷ []) 0 (bs ++ (58 ∷ []))) (sym e) (record { has = (refl, tt); ends = refl })

colon_begins : IsGap (58 ∷ []) 0 []
colon_begins = no_gap (58 ∷ []) 0 (printed_begins (58 ∷ []) 0 58 refl (omega arith) (omega arith) (λ h. omega (arith, h)))

colon_kind : (flow : Bool) → kind_at flow (58 ∷ []) 0 ≡ Some kinds.ValueMark
colon_kind false = (signs_come.colon (58 ∷ []) 0 0 0 [] colon_begins refl refl).kind
colon_kind true = (signs_come.colon (58 ∷ []) 0 1 0 [] colon_begins refl refl).kind

not_colon : Some kinds.Plain ≡ Some kinds.ValueMark → ⊥
not_colon e = cc

not_empty : (flow : Bool) (b : ℕ) (bs : List ℕ) → (not flow && false) ≡ false
not_empty flow b bs = grind (arith, nat_tests)

last_plain : Scalars
    → (flow : Bool) (level : ℕ) (s : Settings) (at : NodePosition) (x : Scalar) (c : Cursor) (b : ℕ)
    (bs : List ℕ) → x.value ≡ b ∷ bs → IsUtf8 x.value
    → may_be_plain s.unicode flow (chars x.value) ≡ true → 0 < deeper s at.around
    → level ≤ deeper s at.around
    → LastOf flow level (scalar_text (page_at s at) s.indent flow style.Plain (chars x.value)) c x
    style.Plain
unfolding scalar_text
last_plain law flow level s at x c b bs same u may deep far =
    let page = page_at s at in
    let v = x.value in
    let some : 0 < length v = subst (λ (ys : List ℕ). 0 < length ys) (sym same) (omega arith) in
    let r = plain_back page flow level (behind_gap c.white c) v u some may deep far in
    let w = plain_word law.words flow level (not c.white) page (behind_gap c.white c) v r in
    let own = encode_utf8_all r.letters in
    let fits : (tail : List ℕ) → begins_white tail ≡ true → Fits w.wants flow level (58 ∷ tail) = λ tail h. ((what_stops flow level None).2 tail h, colon_calm tail) in
    let full : 0 < length own = some_of own (λ e. let st = w.stands (58 ∷ []) 0 (58 ∷ []) (self_colon own e) (fits [] refl) in not_colon (sym st.kind ∙ colon_kind flow)) in
    record {
      word = w;
      last = record { says = plain_says law.gaps plain_back law.words flow level page v u some may deep far c; spaced = refl; some = full; starts = λ text p h. letters_start text p r.letters full h; fits = fits };
      body = refl;
      some = ap (λ (ys : List ℕ). not flow && is_empty ys) same ∙ not_empty flow b bs;
    }

no_plain : (flow : Bool) → (not flow && false) ≡ false
no_plain flow = grind (arith, nat_tests)

last_single : Scalars
    → (flow : Bool) (level : ℕ) (s : Settings) (at : NodePosition) (x : Scalar) (c : Cursor)
    → IsUtf8 x.value → (allowed s.unicode (chars x.value)).single ≡ true → 0 < deeper s at.around
    → LastOf flow level (scalar_text (page_at s at) s.indent flow style.Single (chars x.value)) c x
    style.Single
unfolding scalar_text
last_single law flow level s at x c u may deep =
    let page = page_at s at in
    let v = x.value in
    let r = law.singles page (behind_gap c.white c) v u (λ cuts. deep) (λ lines. deep) may in
    let full = quote_some 39 r.letters r.inside (omega arith) r.begins in
    record {
      word = single_word law.words flow level (not c.white) page (behind_gap c.white c) v r;
      last = record { says = single_says law.singles law.words flow level page v u deep may c; spaced = refl; some = full; starts = λ text p h. letters_start text p r.letters full h; fits = λ tail h. (λ e. omega (arith, e)) };
      body = refl;
      some = no_plain flow;
    }

last_double : (flow : Bool) (level : ℕ) (s : Settings) (at : NodePosition) (x : Scalar) (c : Cursor)
    → IsUtf8 x.value → 0 < deeper s at.around
    → LastOf flow level (scalar_text (page_at s at) s.indent flow style.Double (chars x.value)) c x
    style.Double
unfolding scalar_text
last_double flow level s at x c u deep =
    let page = page_at s at in
    let v = x.value in
    let r = quoted_is_back page (behind_gap c.white c) v u (λ cuts. deep) in
    let full = quote_some 34 r.letters r.inside (omega arith) r.begins in
    record {
      word = double_word flow level (not c.white) page (behind_gap c.white c) v r;
      last = record { says = double_says quoted_is_back flow level page v u deep c; spaced = refl; some = full; starts = λ text p h. letters_start text p r.letters full h; fits = λ tail h. tt };
      body = refl;
      some = no_plain flow;
    }

-- ---- an empty key isn't plain

is_plain_single : (a : Allowed) → is_plain (single_or a) ≡ false
is_plain_single a = elim (cases_Bool a.single) [ inl e ↦ rw e refl | inr e ↦ rw e refl ]

plain_empty : (a : Allowed) (untagged flow : Bool)
    → is_plain (if plain_fits a untagged flow true true then style.Plain else single_or a) ≡ false
plain_empty a untagged flow = rw (and-false (if flow then a.flow_plain else a.plain)) (is_plain_single a)

block_empty : (b flow : Bool) (s : Style) → is_plain s ≡ false
    → is_plain (if b && not (flow || true) then s else style.Double) ≡ false
block_empty b flow s e = grind (arith, nat_tests)

taken_empty : (a : Allowed) (s : yaml_scalar_style_t) (untagged flow : Bool)
    → is_plain (taken a s untagged flow true true) ≡ false
unfolding taken
taken_empty a s untagged flow = grind (arith, is_plain_single, block_empty, plain_empty)

empty_style : (p : Context) (flow : Bool) (n : ℕ) (x : Scalar) → p.settings.canonical ≡ false
    → x.value ≡ [] → style_of p (position flow n part.SimpleKey) x ≡ style.Plain → ⊥
unfolding style_of
empty_style p flow n x pretty none same =
    let a = allowed p.settings.unicode (chars x.value) in
    let untagged = has (scalar_tag false x) || x.plain in
    let e : is_plain (style_of p (position flow n part.SimpleKey) x) ≡ false =
    ap (λ (b : Bool). is_plain (if b then style.Double else taken a x.style untagged flow true (length x.value == 0))) pretty
    ∙ ap (λ (v : List ℕ). is_plain (taken a x.style untagged flow true (length v == 0))) none ∙ taken_empty a x.style untagged flow in
    false≢true (sym e ∙ ap is_plain same)

last_of : Scalars
    → (flow : Bool) (level : ℕ) (p : Context) (n : ℕ) (x : Scalar) (c : Cursor) (chosen : Style)
    → p.settings.canonical ≡ false → style_of p (position flow n part.SimpleKey) x ≡ chosen
    → IsUtf8 x.value → 0 < n + p.settings.indent → level ≤ n + p.settings.indent
    → LastOf flow level (scalar_text (page_at p.settings (position flow n part.SimpleKey))
    p.settings.indent flow chosen (chars x.value)) c x chosen
last_of law flow level p n x c style.Plain pretty same u deep far = plain_by x.value refl
  where
    plain_by : (v : List ℕ) → x.value ≡ v
        → LastOf flow level (scalar_text (page_at p.settings (position flow n part.SimpleKey))
        p.settings.indent flow style.Plain (chars x.value)) c x style.Plain
    plain_by [] e = absurd (empty_style p flow n x pretty e same)
    plain_by (b ∷ bs) e = last_plain law flow level p.settings (position flow n part.SimpleKey) x c b bs e u ((law.styles p (position flow n part.SimpleKey) x).0 same) deep far
last_of law flow level p n x c style.Single pretty same u deep far = last_single law flow level p.settings (position flow n part.SimpleKey) x c u ((law.styles p (position flow n part.SimpleKey) x).1 same) deep
last_of law flow level p n x c style.Double pretty same u deep far = last_double flow level p.settings (position flow n part.SimpleKey) x c u deep
last_of law flow level p n x c style.Literal pretty same u deep far = let (may, out, whole) = (law.styles p (position flow n part.SimpleKey) x).2 same in absurd (false≢true (sym whole))
last_of law flow level p n x c style.Folded pretty same u deep far = let (may, out, whole) = (law.styles p (position flow n part.SimpleKey) x).3 same in absurd (false≢true (sym whole))

value_is : (b : Bool) (s : Style) (value : List ℕ) (bs : List TokenBody) → b ≡ false
    → value_bodies b s value bs ≡ tokens.scalar value (style_named s) ∷ bs
value_is b s value bs e = grind (arith, nat_tests, false≢true)

scalar_form : Scalars → (s : Settings) (d : Opening) → IsPretty s d → (x : Scalar)
    → IsWritable (scalar_node x) → (flow : Bool) (level n : ℕ) → level ≤ n + s.indent → (c : Cursor)
    → KeyForm flow level (node_layout (context_of s d.directives) (position flow n part.SimpleKey)
    (scalar_node x)) c (node_bodies (context_of s d.directives) flow part.SimpleKey false
    (scalar_node x))
unfolding style_of
scalar_form law s d good x (wa, wt, u) flow level n far c =
    let p = context_of s d.directives in
    let at = position flow n part.SimpleKey in
    let chosen = style_of p at x in
    let m = marked_as x chosen in
    let r = dress_all flow level d good.fine s x.anchor (scalar_tag false x) wa (kept_writable (not (x.plain || x.quoted)) x.tag wt) m c in
    let least = good.least in
    let l = last_of law flow level p n x r.behind chosen good.pretty refl u (omega (arith, least)) far in
    let N = deeper s at.around in
    let body = scalar_text (page_at s at) s.indent flow chosen (chars x.value) in
    let D : List TokenBody → List TokenBody = λ bs. anchor_bodies x.anchor (tag_bodies d.directives (scalar_tag false x) (mark_bodies m bs)) in
    form_as flow level (node_layout p at (scalar_node x)) ((anchor_text x.anchor ▹ (tag_text p (scalar_tag false x) ▹ when m (word (33 ∷ [])))) ▹ (checked N ▹ body)) c (λ bs. D (l.word.body ∷ bs)) (node_bodies p flow part.SimpleKey false (scalar_node x))
    (scalar_laid p at x chosen good.pretty refl)
    (λ bs. ap (λ (t : TokenBody). D (t ∷ bs)) l.body ∙ sym (ap (λ (ds : List TokenBody). D ds) (value_is (is_nothing flow chosen x.value) chosen x.value bs l.some)) ∙ sym (scalar_says p flow part.SimpleKey false x chosen (sym refl) bs))
    (form_words flow level (anchor_text x.anchor ▹ (tag_text p (scalar_tag false x) ▹ when m (word (33 ∷ [])))) (checked N ▹ body) c (has_some x.anchor (has_some (scalar_tag false x) m)) m D r l.word (last_checked flow level N body r.behind l.word l.last))

-- ---- aliases

alias_form : (p : Context) (name : List ℕ) → IsWritable (alias_node name)
    → (flow : Bool) (level n : ℕ) (c : Cursor)
    → KeyForm flow level (node_layout p (position flow n part.SimpleKey) (alias_node name)) c
    (node_bodies p flow part.SimpleKey false (alias_node name))
unfolding node_layout alias_layout node_bodies
alias_form p name good flow level n c =
    let says = alias_says anchor_is_read flow level name good c in
    let w = alias_word anchor_is_read flow level (not c.white) name good in
    let e : Cursor = record { column = says.behind.column + 1; white = false; bare = false; kept = says.behind.kept } in
    record {
      words = w ∷ [];
      end = spaced;
      behind = e;
      written = λ rest. says.written (λ d. char 32 d rest) ∙ ap (λ (bs : List ℕ). all_bytes (w ∷ []) ++ bs) (letter_low 32 (rest e) refl);
      bodies = λ bs. refl;
      fits = λ tail h. (refl, tt);
      plains = λ tail. (λ e. absurd (no_alias e), tt);
      leads = (refl, omega arith, λ text p h. ap (λ n. starts n) h.0 ∙ low_starts 42 (omega arith));
      kept = says.kept;
    }
  where
    no_alias : kinds.Alias ≡ kinds.Plain → ⊥
    no_alias e = cc

-- ---- empty collections

ends_white : (b : Bool) (k : KeyEnd) (tail : List ℕ) → (k ≡ squares (not b)) ⊎ (k ≡ curlies (not b))
    → b ≡ false → (begins_white (end_bytes k ++ tail) ≡ true) × (first (end_bytes k ++ tail) ≡ 32)
ends_white b k tail h3 f = grind (arith, nat_tests, squares)

leads_ends : (flow : Bool) (level : ℕ) (ws : List (Spoken flow level)) (k : KeyEnd) (c e : Cursor)
    → Leads ws c → Moved ws c e → (k ≡ squares (not e.white)) ⊎ (k ≡ curlies (not e.white))
    → LeadsKey ws k (not c.white)
leads_ends flow level ws k c e leads m same = grind (arith, nat_tests, calm_starts)

-- an opener and a closer, after properties
record Closed (a : Layout) (c : Cursor) (k : KeyEnd) : Type 0 where
  behind : Cursor
  written : (rest : Rest) → bytes (a c rest) ≡ end_bytes k ++ bytes (rest behind)
  kept : behind.kept ≡ c.kept

form_ends : (flow : Bool) (level : ℕ) (a b : Layout) (c : Cursor) (has : Bool)
    (B : List TokenBody → List TokenBody) (r : Dress flow level a c has false B) (k : KeyEnd)
    → (k ≡ squares (not r.behind.white)) ⊎ (k ≡ curlies (not r.behind.white)) → Closed b r.behind k
    → KeyForm flow level (a ▹ b) c (λ bs. B (end_bodies k bs))
form_ends flow level a b c has B r k same s = record {
  words = r.words;
  end = k;
  behind = s.behind;
  written = λ rest. r.written (λ d. b d rest) ∙ ap (λ (bs : List ℕ). all_bytes r.words ++ bs) (s.written rest);
  bodies = λ bs. r.bodies (end_bodies k bs);
  fits = λ tail h. fits_moved flow level r.words c r.behind (end_bytes k ++ (58 ∷ tail)) r.moved (λ e. let (pale, gap) = ends_white r.behind.white k (58 ∷ tail) same e in r.fits (end_bytes k ++ (58 ∷ tail)) pale (λ m. gap));
  plains = λ tail. plains_none flow level r.words (end_bytes k ++ (58 ∷ tail)) r.named;
  leads = leads_ends flow level r.words k c r.behind r.leads r.moved same;
  kept = s.kept ∙ r.kept;
}

empty_flow : (s : Settings) (at : NodePosition) (q : Start) → is_flow s at q true ≡ true
empty_flow s at q = grind arith

-- an opener and a closer directly after it
closed_by : (first last : ℕ) → nat_lt first 128 ≡ true → (body : Layout)
    → ((d : Cursor) (rest : Rest) → bytes (body d rest) ≡ last
    ∷ bytes (rest (record { column = d.column + 1; white = false; bare = false; kept = d.kept })))
    → (c : Cursor) (k : KeyEnd)
    → end_bytes k ≡ (if not c.white then 32 ∷ (first ∷ last ∷ []) else first ∷ last ∷ [])
    → Closed (opener first ▹ body) c k
closed_by first last low body closes c k same = elim (cases_Bool c.white) [
  | inl e ↦
      let d : Cursor = record { column = c.column + 1; white = true; bare = false; kept = c.kept } in
      record {
        behind = record { column = d.column + 1; white = false; bare = false; kept = d.kept };
        written = λ rest. let K : Rest = λ f. letter first ∷ body (record { column = f.column + 1; white = true; bare = false; kept = f.kept }) rest in
            ap (λ (b : Bool). bytes (if b then K c else blank c K)) e ∙ letter_low first (body d rest) low ∙ ap (λ (bs : List ℕ). first ∷ bs) (closes d rest)
            ∙ sym (ap (λ (bs : List ℕ). bs ++ bytes (rest (record { column = d.column + 1; white = false; bare = false; kept = d.kept }))) (same ∙ ap (λ (b : Bool). if not b then 32 ∷ (first ∷ last ∷ []) else first ∷ last ∷ []) e));
        kept = refl;
      }
  | inr e ↦
      let g : Cursor = record { column = c.column + 1; white = true; bare = c.bare; kept = c.kept } in
      let d : Cursor = record { column = g.column + 1; white = true; bare = false; kept = g.kept } in
      record {
        behind = record { column = d.column + 1; white = false; bare = false; kept = d.kept };
        written = λ rest. let K : Rest = λ f. letter first ∷ body (record { column = f.column + 1; white = true; bare = false; kept = f.kept }) rest in
            ap (λ (b : Bool). bytes (if b then K c else blank c K)) e ∙ letter_low 32 (K g) refl ∙ ap (λ (bs : List ℕ). 32 ∷ bs) (letter_low first (body d rest) low ∙ ap (λ (bs : List ℕ). first ∷ bs) (closes d rest))
            ∙ sym (ap (λ (bs : List ℕ). bs ++ bytes (rest (record { column = d.column + 1; white = false; bare = false; kept = d.kept }))) (same ∙ ap (λ (b : Bool). if not b then 32 ∷ (first ∷ last ∷ []) else first ∷ last ∷ []) e));
        kept = refl;
      }
]

-- the closer of nothing
closer_bytes : (s : Settings) (n x : ℕ) → s.canonical ≡ false → nat_lt x 128 ≡ true
    → (d : Cursor) (rest : Rest)
    → bytes (closer s true n true x d rest) ≡ x
    ∷ bytes (rest (record { column = d.column + 1; white = false; bare = false; kept = d.kept }))
unfolding closer
closer_bytes s n x pretty low d rest = grind (arith, nat_tests, letter_low)

-- ---- by whether it is a mapping

abbrev empty_node : Bool → Start → Node
empty_node true q = mapping_node q no_pairs
empty_node false q = sequence_node q no_nodes

abbrev empty_layout : Bool → Context → ℕ → Layout
empty_layout true p n = pairs_layout p true n true no_pairs
empty_layout false p n = items_layout p true n true no_nodes

-- after its properties
abbrev empty_rest : Bool → Context → NodePosition → Layout
empty_rest mapping p at = opener (opening_of mapping) ▹ indented (indent_of p.settings at (not mapping) true) (λ n. checked n ▹ empty_layout mapping p n)

abbrev ends_of : Bool → Bool → KeyEnd
ends_of true b = curlies b
ends_of false b = squares b

either_end : (mapping b : Bool) → (ends_of mapping b ≡ squares b) ⊎ (ends_of mapping b ≡ curlies b)
either_end mapping b = grind (arith, nat_tests)

empty_laid : (mapping : Bool) (p : Context) (at : NodePosition) (q : Start)
    → p.settings.canonical ≡ false → node_layout p at (empty_node mapping q)
    ≡ ((anchor_text q.anchor ▹ (tag_text p (start_tag false q) ▹ when false (word (33 ∷ [])))) ▹
    empty_rest mapping p at)
unfolding node_layout
empty_laid true p at q pretty =
    let rest : Bool → Layout = λ b. when b (opener 123) ▹ indented (indent_of p.settings at false b) (λ n. checked n ▹ pairs_layout p b n true no_pairs) in
    ap (λ (b : Bool). properties_text p q.anchor (start_tag b q) ▹ rest (is_flow p.settings at q true)) pretty ∙ ap (λ (b : Bool). properties_text p q.anchor (start_tag false q) ▹ rest b) (empty_flow p.settings at q)
empty_laid false p at q pretty =
    let rest : Bool → Layout = λ b. when b (opener 91) ▹ indented (indent_of p.settings at true b) (λ n. checked n ▹ items_layout p b n true no_nodes) in
    ap (λ (b : Bool). properties_text p q.anchor (start_tag b q) ▹ rest (is_flow p.settings at q true)) pretty ∙ ap (λ (b : Bool). properties_text p q.anchor (start_tag false q) ▹ rest b) (empty_flow p.settings at q)

empty_closed : (mapping : Bool) (p : Context) (at : NodePosition) → p.settings.canonical ≡ false
    → (c : Cursor) → Closed (empty_rest mapping p at) c (ends_of mapping (not c.white))
unfolding items_layout pairs_layout
empty_closed true p at pretty c =
    let N = deeper p.settings at.around in
    closed_by 123 125 refl (indented (indent_of p.settings at false true) (λ n. checked n ▹ pairs_layout p true n true no_pairs))
    (λ d rest. deep_bytes (nat_lt MOST N) (pairs_layout p true N true no_pairs d rest) ∙ closer_bytes p.settings N 125 pretty refl d rest) c (curlies (not c.white)) refl
empty_closed false p at pretty c =
    let N = deeper p.settings at.around in
    closed_by 91 93 refl (indented (indent_of p.settings at true true) (λ n. checked n ▹ items_layout p true n true no_nodes))
    (λ d rest. deep_bytes (nat_lt MOST N) (items_layout p true N true no_nodes d rest) ∙ closer_bytes p.settings N 93 pretty refl d rest) c (squares (not c.white)) refl

empty_tokens : (mapping : Bool) (p : Context) (flow : Bool) (q : Start) (bs : List TokenBody)
    → node_bodies p flow part.SimpleKey false (empty_node mapping q) bs
    ≡ anchor_bodies q.anchor (tag_bodies p.directives (start_tag false q)
    (end_bodies (ends_of mapping false) bs))
unfolding node_bodies items_bodies pairs_bodies
empty_tokens mapping p flow q bs = grind (arith, empty_flow)

end_same : (mapping b : Bool) (bs : List TokenBody)
    → end_bodies (ends_of mapping false) bs ≡ end_bodies (ends_of mapping b) bs
end_same mapping b bs = grind (arith, nat_tests)

empty_form : (mapping : Bool) (s : Settings) (d : Opening) → IsPretty s d → (q : Start)
    → IsWritableAnchor q.anchor → IsWritableTag q.tag → (flow : Bool) (level n : ℕ) (c : Cursor)
    → KeyForm flow level (node_layout (context_of s d.directives) (position flow n part.SimpleKey)
    (empty_node mapping q)) c (node_bodies (context_of s d.directives) flow part.SimpleKey false
    (empty_node mapping q))
empty_form mapping s d good q wa wt flow level n c =
    let p = context_of s d.directives in
    let at = position flow n part.SimpleKey in
    let r = dress_all flow level d good.fine s q.anchor (start_tag false q) wa (kept_writable (not q.implicit) q.tag wt) false c in
    let front = anchor_text q.anchor ▹ (tag_text p (start_tag false q) ▹ when false (word (33 ∷ []))) in
    let D : List TokenBody → List TokenBody = λ bs. anchor_bodies q.anchor (tag_bodies d.directives (start_tag false q) bs) in
    let k = ends_of mapping (not r.behind.white) in
    form_as flow level (node_layout p at (empty_node mapping q)) (front ▹ empty_rest mapping p at) c (λ bs. D (end_bodies k bs)) (node_bodies p flow part.SimpleKey false (empty_node mapping q))
    (empty_laid mapping p at q good.pretty) (λ bs. ap (λ (ts : List TokenBody). D ts) (sym (end_same mapping (not r.behind.white) bs)) ∙ sym (empty_tokens mapping p flow q bs))
    (form_ends flow level front (empty_rest mapping p at) c (has_some q.anchor (has_some (start_tag false q) false)) D r k (either_end mapping (not r.behind.white)) (empty_closed mapping p at good.pretty r.behind))

-- ---- all

not_simple : (a : Bool) → (a && false) ≡ true → ⊥
not_simple a e = grind (arith, nat_tests, false≢true)

pub some_items : (p : Context) (q : Start) (x : Node) (xs : Nodes)
    → is_simple p (sequence_node q (node x xs)) ≡ true → ⊥
unfolding is_simple is_simple_start
some_items p q x xs e = not_simple (not p.settings.canonical) e

pub some_pairs : (p : Context) (q : Start) (k v : Node) (ps : Pairs)
    → is_simple p (mapping_node q (pair k v ps)) ≡ true → ⊥
unfolding is_simple is_simple_start
some_pairs p q k v ps e = not_simple (not p.settings.canonical) e

-- what each simple key writes, in brackets or not
pub key_form : Scalars → (s : Settings) (d : Opening) → IsPretty s d → (k : Node) → IsWritable k
    → is_simple (context_of s d.directives) k ≡ true → (flow : Bool) (level n : ℕ)
    → level ≤ n + s.indent → (c : Cursor)
    → KeyForm flow level
    (node_layout (context_of s d.directives) (position flow n part.SimpleKey) k) c
    (node_bodies (context_of s d.directives) flow part.SimpleKey false k)
key_form law s d good (alias_node name) w simple flow level n far c = alias_form (context_of s d.directives) name w flow level n c
key_form law s d good (scalar_node x) w simple flow level n far c = scalar_form law s d good x w flow level n far c
key_form law s d good (sequence_node q no_nodes) (wa, wt, all) simple flow level n far c = empty_form false s d good q wa wt flow level n c
key_form law s d good (sequence_node q (node x xs)) w simple flow level n far c = absurd (some_items (context_of s d.directives) q x xs simple)
key_form law s d good (mapping_node q no_pairs) (wa, wt, all) simple flow level n far c = empty_form true s d good q wa wt flow level n c
key_form law s d good (mapping_node q (pair k v ps)) w simple flow level n far c = absurd (some_pairs (context_of s d.directives) q k v ps simple)
