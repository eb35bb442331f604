-- A plain key begins with neither white nor a comment: the text that it writes is read as a plain scalar, so a lexeme begins with it.
use Rattle.std.proofs.Common.{◌≡◌, ℕ, ◌+◌, ◌==◌, ◌&&◌, ◌||◌, not, nat_lt, Bool, true, false, List, [], ◌∷◌, ◌++◌, length, refl, subst, arith, append_assoc, if◌then◌else◌, ◌<◌, ◌≤◌, Some, sym, ap, ◌∙◌, inl, inr, length-append}
use Rattle.yaml_emit_laws.proofs.NodeWords.{nat_tests, not-true, and_parts, false≢true, byte, break_of, column_at, line_at, begins_lexeme, Has, Left, bytes, begins_solid, is_gap_byte, no_comment, Lined, length_more, letter_low, yaml_encoding_t, TokenBody, indent, margin_at, opened, start_of, Opens, Cursor, Settings, Style, Rest, ◌▹◌, char, Opening, Scalar, Node, scalar_node, sequence_node, mapping_node, node, pair, Context, context_of, position, style_of, is_simple, node_layout, IsWritable, line_at-grows, Rises, start_bodies, WalkReads, ClosesAt, Outside, printed_begins, level_opens, keys_near, node_bodies, node_kept, items_kept, pairs_kept, scalar_kept, style_at, KeysAreWalkedIn, IsPretty, PartedBehind, SimpleKeysAreWalked, block_position, Spoken, spoken_bytes, all_bytes, AllFit}
use Rattle.yaml_emit_layout.specs.scan_types.Tokens as tokens
use Rattle.yaml_scan_history.specs.declared.lexeme.Opens.TheVariants as opening
use Rattle.yaml_emit_layout.specs.declared.Style.TheVariants as style
use Rattle.yaml_emit_layout.specs.declared.level.Part.TheVariants as part
use Rattle.yaml_emit_laws.specs.KeyLaws.{Keyed}
use Rattle.yaml_emit_laws.proofs.KeyForms.{KeyForm, KeyEnd, at_once, spaced, squares, curlies, end_bytes, LeadsKey, behind_colon, key_done}
use Rattle.yaml_emit_laws.proofs.KeyKinds.{Scalars, key_form, some_items, some_pairs}
use Rattle.yaml_emit_laws.proofs.KeySteps.{front, spot_at}

byte_here : (pre : List ℕ) (x : ℕ) (xs : List ℕ) → byte (pre ++ x ∷ xs) (length pre) ≡ x
byte_here [] x xs = refl
byte_here (y ∷ pre) x xs = byte_here pre x xs

has_self : (pre xs : List ℕ) → Has (pre ++ xs) (length pre) xs
has_self pre [] = tt
has_self pre (x ∷ xs) =
    let h = has_self (pre ++ x ∷ []) xs in
    (byte_here pre x xs, subst (λ n. Has (pre ++ x ∷ xs) n xs) (length_more pre x) (subst (λ (t : List ℕ). Has t (length (pre ++ x ∷ [])) xs) (append_assoc pre (x ∷ []) xs) h))

-- bytes are left of themselves
pub left_self : (bs : List ℕ) → Left bs 0 bs
left_self bs = record { has = has_self [] bs; ends = omega arith }

solid_by : (b c d : ℕ) (rest : Bool)
    → (not (b == 32) && (not (b == 9)
    && (not (b == 35) && (not (nat_lt 0 (break_of b c d)) && rest)))) ≡ true
    → (not (b == 32 || (b == 10 || b == 13)) && (not (b == 9) && break_of b c d == 0)) ≡ true
unfolding break_of
solid_by b c d rest h = grind (arith, nat_tests)

-- bytes with which a lexeme begins are solid
pub lexeme_solid : (b : ℕ) (bs : List ℕ) → begins_lexeme (b ∷ bs) 0 ≡ true
    → begins_solid (b ∷ bs) ≡ true
lexeme_solid b [] h = solid_by b 0 0 _ h
lexeme_solid b (c ∷ []) h = solid_by b c 0 _ h
lexeme_solid b (c ∷ d ∷ ds) h = solid_by b c d _ h

calm_by : (g : Bool) (b : ℕ) (m : Bool) → g ≡ false → not (b == 35) ≡ true
    → (if g then m else not (b == 35)) ≡ true
calm_by true b m e h = absurd (cc)
calm_by false b m e h = h

-- and no comment
pub lexeme_calm : (b : ℕ) (bs : List ℕ) → begins_lexeme (b ∷ bs) 0 ≡ true
    → no_comment (b ∷ bs) ≡ true
unfolding no_comment
lexeme_calm b bs h =
    let (gap, more) = and_parts (not (is_gap_byte b)) _ (lexeme_solid b bs h) in
    let (s, h1) = and_parts (not (b == 32)) _ h in
    let (t, h2) = and_parts (not (b == 9)) _ h1 in
    let (k, h3) = and_parts (not (b == 35)) _ h2 in
    calm_by (is_gap_byte b) b (no_comment bs) (not-true (is_gap_byte b) gap) k

-- ==== Simple keys of every kind and their `:` are walked, in a block and in brackets.

-- ---- in a block

key_walks : Scalars → (s : Settings) (d : Opening) → IsPretty s d → (k : Node) → IsWritable k
    → is_simple (context_of s d.directives) k ≡ true
    → (x : yaml_encoding_t) (text : List ℕ) (n : ℕ) (kept : Bool) (ls more new : List ℕ)
    (what : Opens) (T : List TokenBody → List TokenBody) (rest : Rest)
    → Lined x text (λ e. (node_layout (context_of s d.directives)
    (block_position (Some n) part.SimpleKey) k ▹ char 58) e rest) n kept ls more T
    → indent ls ≤ n + 1
    → Rises (n + 1) more → opened true (n + 1) ls ≡ new
    → start_of 0 (n + 1) ls opening.Mapping ≡ what → PartedBehind rest
    → Keyed x text rest n kept new (λ bs. T
    (start_bodies what (tokens.key ∷ node_bodies (context_of s d.directives) false part.SimpleKey
    false k (tokens.value ∷ bs))))
unfolding Outside
key_walks law s d good k w simple x text n kept ls more new what T rest here low rises opens begins parted =
    let p = context_of s d.directives in
    let c = here.cursor in
    let o = here.place in
    let st = here.stage in
    let L = node_layout p (position false n part.SimpleKey) k in
    let B = node_bodies p false part.SimpleKey false k in
    let least = good.least in
    let form = key_form law s d good k w simple false (indent ls) n (omega (arith, low, least)) c in
    let near = keys_near s d good.fine k w simple false n c in
    let (now, at_column) = st.bare here.bare in
    let flat : WalkReads x text (spot_at o.at o.line 0 o.now o.broken) [] ls more T = subst (λ i. WalkReads x text (spot_at o.at o.line i o.now o.broken) [] ls more T) st.flat st.reads in
    let reads : WalkReads x text (spot_at o.at o.line 0 true o.broken) [] ls more T = subst (λ b. WalkReads x text (spot_at o.at o.line 0 b o.broken) [] ls more T) now flat in
    let z : o.at + 0 ≡ o.at = omega arith in
    let from : column_at text (o.at + front (not c.white)) ≡ n = ap (λ (b : Bool). column_at text (o.at + front (not b))) here.white ∙ ap (λ i. column_at text i) z ∙ at_column ∙ here.column in
    let margin : margin_at (column_at text (o.at + front (not c.white))) ≡ n + 1 = ap (λ i. i + 1) from in
    let closes : ClosesAt 0 (column_at text (o.at + front (not c.white))) ls more = inr (refl, omega (arith, margin, low), subst (λ i. Rises i more) (sym margin) rises) in
    let done = key_done 0 ls L c B form near x text o.at o.line o.broken [] more new what T rest reads tt
    (closes, inr (omega (arith, from, low)), ap (λ i. opened true i ls) margin ∙ opens, ap (λ i. start_of 0 i ls opening.Mapping) margin ∙ begins) parted here.left in
    let up = done.grown in
    record {
      cursor = behind_colon done.behind;
      place = spot_at (done.at + 1) (line_at text done.at) 0 false true;
      stage = record { reads = done.reads; flat = refl; broken = refl; bare = λ b. absurd (false≢true b); line = line_at-grows text done.at (done.at + 1) (omega arith) };
      left = done.left;
      bare = refl;
      white = refl;
      right = omega (arith, up, from);
      same = done.kept ∙ here.same;
    }

-- ---- what a key writes on a bare line

both_of : (bs : List ℕ) → 0 < length bs → begins_lexeme bs 0 ≡ true
    → (begins_solid bs ≡ true) × (no_comment bs ≡ true)
both_of [] some h = absurd (omega (arith, some))
both_of (b ∷ bs) some h = (lexeme_solid b bs h, lexeme_calm b bs h)

sign_shows : (b : ℕ) (bs : List ℕ) → 32 < b → b < 127 → (b ≡ 35 → ⊥)
    → (begins_solid (b ∷ bs) ≡ true) × (no_comment (b ∷ bs) ≡ true)
sign_shows b bs low high hash = both_of (b ∷ bs) (omega arith) (printed_begins (b ∷ bs) 0 b refl low high hash)

form_shows : (level : ℕ) (words : List (Spoken false level)) (k : KeyEnd) (tail : List ℕ)
    → LeadsKey words k false → AllFit words (end_bytes k ++ tail)
    → let bs = all_bytes words ++ (end_bytes k ++ tail) in
    (begins_solid bs ≡ true) × (no_comment bs ≡ true)
form_shows level [] at_once tail leads fits = absurd leads
form_shows level [] spaced tail leads fits = absurd leads
form_shows level [] (squares b) tail leads fits = let (solid, calm) = sign_shows 91 (93 ∷ tail) (omega arith) (omega arith) (λ h. omega (arith, h)) in
    (ap (λ (t : Bool). begins_solid (end_bytes (squares t) ++ tail)) leads ∙ solid, ap (λ (t : Bool). no_comment (end_bytes (squares t) ++ tail)) leads ∙ calm)
form_shows level [] (curlies b) tail leads fits = let (solid, calm) = sign_shows 123 (125 ∷ tail) (omega arith) (omega arith) (λ h. omega (arith, h)) in
    (ap (λ (t : Bool). begins_solid (end_bytes (curlies t) ++ tail)) leads ∙ solid, ap (λ (t : Bool). no_comment (end_bytes (curlies t) ++ tail)) leads ∙ calm)
form_shows level (w ∷ ws) k tail (gap, some, begins) (fit, fits) =
    let more = all_bytes ws ++ (end_bytes k ++ tail) in
    let bs = w.own ++ more in
    let laid : all_bytes (w ∷ ws) ++ (end_bytes k ++ tail) ≡ bs = append_assoc (spoken_bytes w) (all_bytes ws) (end_bytes k ++ tail) ∙ ap (λ (t : Bool). (if t then 32 ∷ w.own else w.own) ++ more) gap in
    let s = w.stands bs 0 more (left_self bs) fit in
    let e = length-append w.own more in
    let (solid, calm) = both_of bs (omega (arith, e, some)) s.begins in
    (ap (λ ys. begins_solid ys) laid ∙ solid, ap (λ ys. no_comment ys) laid ∙ calm)

key_shows : Scalars → (s : Settings) (d : Opening) → IsPretty s d → (k : Node) → IsWritable k
    → is_simple (context_of s d.directives) k ≡ true → (n : ℕ) (rest : Rest) → PartedBehind rest
    → (e : Cursor) → e.white ≡ true
    → let bs = bytes
    ((node_layout (context_of s d.directives) (block_position (Some n) part.SimpleKey)
    k ▹ char 58) e rest) in (begins_solid bs ≡ true) × (no_comment bs ≡ true)
key_shows law s d good k w simple n rest parted e pale =
    let p = context_of s d.directives in
    let form = key_form law s d good k w simple false 0 n (omega arith) e in
    let f = behind_colon form.behind in
    let tail = bytes (rest f) in
    let laid : bytes ((node_layout p (position false n part.SimpleKey) k ▹ char 58) e rest) ≡ all_bytes form.words ++ (end_bytes form.end ++ (58 ∷ tail)) =
    form.written (λ b. char 58 b rest) ∙ ap (λ (bs : List ℕ). all_bytes form.words ++ (end_bytes form.end ++ bs)) (letter_low 58 (rest f) refl) in
    let (solid, calm) = form_shows 0 form.words form.end (58 ∷ tail) (subst (λ (b : Bool). LeadsKey form.words form.end (not b)) pale form.leads) (form.fits tail (parted f refl refl)) in
    (ap (λ bs. begins_solid bs) laid ∙ solid, ap (λ bs. no_comment bs) laid ∙ calm)

-- ---- no block scalar is a key

position_style : (p : Context) (n : ℕ) (x : Scalar)
    → style_of p (position false n part.SimpleKey) x ≡ style_at p false part.SimpleKey x
unfolding style_of
position_style p n x = refl

style_kept : Scalars → (p : Context) (x : Scalar) (kept : Bool) (chosen : Style)
    → style_at p false part.SimpleKey x ≡ chosen → scalar_kept chosen x.value kept ≡ kept
style_kept law p x kept style.Literal same = let (may, out, whole) = (law.styles p (position false 0 part.SimpleKey) x).2 (position_style p 0 x ∙ same) in absurd (false≢true (sym whole))
style_kept law p x kept style.Folded same = let (may, out, whole) = (law.styles p (position false 0 part.SimpleKey) x).3 (position_style p 0 x ∙ same) in absurd (false≢true (sym whole))
style_kept law p x kept _ same = refl

key_kept : Scalars → (p : Context) (k : Node) → is_simple p k ≡ true → (kept : Bool)
    → node_kept p false part.SimpleKey k kept ≡ kept
unfolding node_kept items_kept pairs_kept
key_kept law p (scalar_node x) simple kept = style_kept law p x kept (style_at p false part.SimpleKey x) refl
key_kept law p (sequence_node q (node x xs)) simple kept = absurd (some_items p q x xs simple)
key_kept law p (mapping_node q (pair k v ps)) simple kept = absurd (some_pairs p q k v ps simple)
key_kept law p _ simple kept = refl

pub keys_walk : Scalars → SimpleKeysAreWalked
keys_walk law s d good k w simple = record {
  walks = key_walks law s d good k w simple;
  shows = λ n rest parted. record {
    solid = λ e bare pale column. (key_shows law s d good k w simple n rest parted e pale).0;
    calm = λ e bare pale column. (key_shows law s d good k w simple n rest parted e pale).1;
  };
  same = key_kept law (context_of s d.directives) k simple;
}

-- ---- in brackets

pub keys_walk_in : Scalars → KeysAreWalkedIn
keys_walk_in law s d good k w simple n ls c rest low parted x text o cs T reads deep now out l =
    let p = context_of s d.directives in
    let L = node_layout p (position true n part.SimpleKey) k in
    let B = node_bodies p true part.SimpleKey false k in
    let form : KeyForm (nat_lt 0 o.depth) (indent ls) L c B = subst (λ (f : Bool). KeyForm f (indent ls) L c B) (sym deep) (key_form law s d good k w simple true (indent ls) n (omega (arith, low)) c) in
    let near = keys_near s d good.fine k w simple true n c in
    let fresh : WalkReads x text (spot_at o.at o.line o.depth true o.broken) cs ls [] T = subst (λ b. WalkReads x text (spot_at o.at o.line o.depth b o.broken) cs ls [] T) now reads in
    let inside = level_opens.inside o.depth (margin_at (column_at text (o.at + front (not c.white)))) ls opening.Mapping deep in
    let done = key_done o.depth ls L c B form near x text o.at o.line o.broken cs [] ls opening.Nothing T rest fresh out (inl (deep, refl), inl deep, inside.0, inside.1) parted l in
    record {
      behind = behind_colon done.behind;
      place = spot_at (done.at + 1) (line_at text done.at) o.depth false (not (nat_lt 0 o.depth));
      reads = done.reads;
      deep = refl;
      now = refl;
      left = done.left;
      bare = refl;
      white = refl;
      same = done.kept;
    }
