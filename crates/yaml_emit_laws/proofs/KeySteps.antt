-- Columns don't fall in a line, and rise after text.
use Rattle.std.proofs.Common.{◌≡◌, ℕ, ◌+◌, ◌-◌, ◌<◌, ◌≤◌, Bool, true, false, List, [], ◌∷◌, length, zero, suc, refl, sym, ap, subst, ◌∙◌, inl, inr, arith, encode_utf8, encode_utf8_all, add-zero, if◌then◌else◌, ◌==◌, ◌&&◌, ◌||◌, not, nat_lt, ◌++◌, append_assoc, length-append}
use Rattle.yaml_emit_laws.proofs.NodeWords.{false≢true, or_right, byte, column_at, line_at, starts, mark_at, Has, Left, AreCalm, calm_end, line_more, has_front, has_at, left_first, left_more, left_rest, line_at-grows, high_starts, low_starts, nat_tests, yaml_encoding_t, TokenBody, indent, is_fresh, margin_at, opened, start_of, depth_after, may_be_key, cancels, is_value, allows_key, WordText, kind_at, lexeme_at, Kind, Opens, IsRight, stays_level, Comes, WordLeaves, SignComes, sign, start_bodies, WalkState, WalkReads, ReadsKey, ClosesAt, Outside, behind, signs_come, words_leave, walk_white, walk_key_starts, walk_key_goes, walk_key_stops, walk_says, deeper_leaves, begins_white, white_of, is_text, Fits, WordStands, Spoken, spoken_bytes, all_bytes, all_bodies, AllFit}
use Rattle.yaml_emit_laws.proofs.Chars.{encode_1, encode_2, encode_3, encode_4}
use Rattle.yaml_emit_layout.specs.scan_types.Tokens as tokens
use Rattle.yaml_scan_history.specs.declared.kind.Kind.TheVariants as kinds
use Rattle.yaml_scan_history.specs.declared.lexeme.Opens.TheVariants as opening
use Rattle.yaml_emit_laws.proofs.Lining.{no_gap, sign_next}
use Rattle.yaml_emit_laws.proofs.Stopping.{white_next}

column_step : (text : List ℕ) (q : ℕ) → line_at text (suc q) ≤ line_at text q
    → column_at text q ≤ column_at text (suc q)
unfolding column_at line_at
column_step text q h = grind (arith, nat_tests)

pub columns_rise : (text : List ℕ) (p k : ℕ) → line_at text (p + k) ≤ line_at text p
    → column_at text p ≤ column_at text (p + k)
columns_rise text p zero h = let z : p + 0 ≡ p = omega arith in subst (λ q. column_at text p ≤ column_at text q) (sym z) (omega arith)
columns_rise text p (suc k) h =
    let far : p + suc k ≡ suc (p + k) = omega arith in
    let h1 : line_at text (suc (p + k)) ≤ line_at text p = subst (λ q. line_at text q ≤ line_at text p) far h in
    let up = line_at-grows text (p + k) (suc (p + k)) (omega arith) in
    let low = line_at-grows text p (p + k) (omega arith) in
    let before = columns_rise text p k (omega (arith, h1, up)) in
    let step = column_step text (p + k) (omega (arith, h1, low)) in
    subst (λ q. column_at text p ≤ column_at text q) (sym far) (omega (arith, before, step))

column_first : (text : List ℕ) (q : ℕ) → line_at text (suc q) ≤ line_at text q
    → starts (byte text q) ≡ true → column_at text (suc q) ≡ column_at text q + 1
unfolding column_at line_at
column_first text q h s = grind (arith, nat_tests)

-- after what begins with a character's first byte the column is greater
pub columns_grow : (text : List ℕ) (p k : ℕ) → line_at text (p + suc k) ≤ line_at text p
    → starts (byte text p) ≡ true → column_at text p + 1 ≤ column_at text (p + suc k)
columns_grow text p k h s =
    let far : p + suc k ≡ suc p + k = omega arith in
    let h1 : line_at text (suc p + k) ≤ line_at text p = subst (λ q. line_at text q ≤ line_at text p) far h in
    let up = line_at-grows text p (suc p) (omega arith) in
    let more = line_at-grows text (suc p) (suc p + k) (omega arith) in
    let one = column_first text p (omega (arith, h1, more)) s in
    let rest = columns_rise text (suc p) k (omega (arith, h1, up)) in
    subst (λ q. column_at text p + 1 ≤ column_at text q) (sym far) (omega (arith, one, rest))

char_starts : (text : List ℕ) (p x : ℕ) → Has text p (encode_utf8 x) → starts (byte text p) ≡ true
char_starts text p x h = grind (arith, nat_tests, encode_1, low_starts, encode_2, high_starts, encode_3, encode_4)

-- text begins with a character's first byte
pub letters_start : (text : List ℕ) (p : ℕ) (cs : List ℕ) → 0 < length (encode_utf8_all cs)
    → Has text p (encode_utf8_all cs) → starts (byte text p) ≡ true
letters_start text p [] some h = absurd (omega (arith, some))
letters_start text p (x ∷ xs) some h = char_starts text p x (has_front text p (encode_utf8 x) (encode_utf8_all xs) h)

-- bytes that end no line
pub calm_line : (text : List ℕ) (p : ℕ) (xs : List ℕ) → AreCalm xs → Has text p xs
    → line_at text (p + length xs) ≡ line_at text p
calm_line text p [] a h = rw add-zero refl
calm_line text p (x ∷ xs) (c, a) (e, h) = grind (arith, nat_tests, calm_end, line_more, calm_line text (p + 1) xs a h)

-- up to their end the columns are those of their start or right of it
pub calm_columns : (text : List ℕ) (p : ℕ) (xs : List ℕ) → AreCalm xs → Has text p xs → (q : ℕ)
    → p ≤ q → q ≤ p + length xs → column_at text p ≤ column_at text q
calm_columns text p xs a h q up low =
    let all = calm_line text p xs a h in
    let one = line_at-grows text q (p + length xs) low in
    let far : p + (q - p) ≡ q = omega (arith, up) in
    subst (λ i. column_at text p ≤ column_at text i) far (columns_rise text p (q - p) (subst (λ i. line_at text i ≤ line_at text p) (sym far) (omega (arith, all, one))))

-- ==== Words of a simple key, one after the other, and its `:`: at any depth.

pub both : (a b : Bool) → a ≡ true → b ≡ false → (a && not b) ≡ true
both true false e f = refl
both true true e f = absurd (false≢true (sym f))
both false b e f = absurd (false≢true e)

-- ---- kinds of text

-- what the walk asks of a kind
pub record Texty (k : Kind) : Type 0 where
  pub begins : may_be_key k ≡ true
  pub stays : (d : ℕ) → stays_level k d ≡ true
  pub calm : cancels k ≡ false
  pub lone : is_value k ≡ false
  pub same : (d : ℕ) → depth_after k d ≡ d
  pub quiet : (b : Bool) → allows_key k b false ≡ false

stay : (d : ℕ) → (true && (nat_lt 0 d || true)) ≡ true
stay d = or_right (nat_lt 0 d) true refl

pub texty : (k : Kind) → is_text k ≡ true → Texty k
texty k e = grind (arith, nat_tests, stay)

-- ---- places

abbrev pub spot_at : ℕ → ℕ → ℕ → Bool → Bool → WalkState
spot_at p line d now broken = record { at = p; line = line; depth = d; now = now; broken = broken }

-- ---- a word that is there comes

pub stands_comes : (d level : ℕ) (k : Kind) (body : TokenBody) (text : List ℕ) (p e : ℕ)
    (bs : List ℕ) → p ≤ e → (s : WordStands (nat_lt 0 d) level k body text p e bs)
    → Comes text p d level k [] (record
    { body = body; end = s.end; reached = s.reached; broke = s.broke }) e
stands_comes d level k body text p e bs up s =
    let z : p + 0 ≡ p = omega arith in
    record {
      behind = no_gap text p s.begins;
      kind = ap (λ q. kind_at (nat_lt 0 d) text q) z ∙ s.kind;
      word = ap (λ q. lexeme_at k (nat_lt 0 d) level text q) z ∙ s.word;
      up = omega (arith, up);
    }

pub stands_leaves : (d level : ℕ) (k : Kind) (body : TokenBody) (text : List ℕ) (p e : ℕ)
    (bs : List ℕ) → Texty k → (s : WordStands (nat_lt 0 d) level k body text p e bs)
    → WordLeaves text (depth_after k d) (allows_key k (d == 0) false)
    (record { body = body; end = s.end; reached = s.reached; broke = s.broke }) e false s.wide
stands_leaves d level k body text p e bs t s =
    let said : WordText = record { body = body; end = s.end; reached = s.reached; broke = s.broke } in
    subst (λ i. WordLeaves text i (allows_key k (d == 0) false) said e false s.wide) (sym (t.same d)) (subst (λ a. WordLeaves text d a said e false s.wide) (sym (t.quiet (d == 0))) (s.leaves d refl))

-- ---- in a key

-- Within a key of that depth that began at p, after a word of text.
pub record KeyRuns (x : yaml_encoding_t) (text : List ℕ) (e d p : ℕ) (cs ls : List ℕ) (T K : List TokenBody → List TokenBody) : Type 0 where
  pub line : ℕ
  pub wide : Bool
  pub reads : ReadsKey x text (spot_at e line d false wide) d (mark_at text p) cs ls T K

-- the first word
pub key_first : (d : ℕ) (ls : List ℕ) (w : Spoken (nat_lt 0 d) (indent ls)) (bs : List ℕ)
    (x : yaml_encoding_t) (text : List ℕ) (p line : ℕ) (broken : Bool) (cs more : List ℕ)
    (T : List TokenBody → List TokenBody)
    → WalkReads x text (spot_at p line d true broken) cs ls more T → Outside d cs
    → ClosesAt d (column_at text p) ls more → Left text p (w.own ++ bs)
    → Fits w.wants (nat_lt 0 d) (indent ls) bs → (w.kind ≡ kinds.Plain → white_of bs ≡ [])
    → is_fresh (mark_at text p) (mark_at text (p + length w.own)) ≡ true
    → KeyRuns x text (p + length w.own) d p cs ls T (λ bs. w.body ∷ bs)
key_first d ls w bs x text p line broken cs more T reads out closes l fits plain near =
    let e = p + length w.own in
    let s = w.stands text p bs l fits in
    let t = texty w.kind w.plain in
    let z : p + 0 ≡ p = omega arith in
    let said : WordText = record { body = w.body; end = s.end; reached = s.reached; broke = s.broke } in
    let fresh : is_fresh (mark_at text (p + 0)) (mark_at text s.reached) ≡ true = subst (λ r. is_fresh (mark_at text (p + 0)) (mark_at text r) ≡ true) (sym (s.near plain)) (subst (λ q. is_fresh (mark_at text q) (mark_at text e) ≡ true) (sym z) near) in
    let r = walk_key_starts x text (spot_at p line d true broken) cs ls more T w.kind [] said e false s.wide reads (deeper_leaves w.kind d true cs out)
    (stands_comes d (indent ls) w.kind w.body text p e bs (omega arith) s) t.begins refl (subst (λ q. ClosesAt d (column_at text q) ls more) (sym z) closes) fresh
    (stands_leaves d (indent ls) w.kind w.body text p e bs t s) in
    record {
      line = line_of (p + 0) text;
      wide = s.wide;
      reads = subst (λ q. ReadsKey x text (spot_at e (line_of (p + 0) text) d false s.wide) d (mark_at text q) cs ls T (λ bs. w.body ∷ bs)) z
          (subst (λ i. ReadsKey x text (spot_at e (line_of (p + 0) text) i false s.wide) d (mark_at text (p + 0)) cs ls T (λ bs. w.body ∷ bs)) (t.same d) r);
    }
  where
    line_of : ℕ → List ℕ → ℕ
    line_of q text = (mark_at text q).line

-- a further one
pub key_more : (d : ℕ) (ls : List ℕ) (w : Spoken (nat_lt 0 d) (indent ls)) (bs : List ℕ)
    (x : yaml_encoding_t) (text : List ℕ) (p q line : ℕ) (wide : Bool) (cs : List ℕ)
    (T K : List TokenBody → List TokenBody)
    → ReadsKey x text (spot_at q line d false wide) d (mark_at text p) cs ls T K → Outside d cs
    → IsRight d ls (column_at text q) → Left text q (w.own ++ bs)
    → Fits w.wants (nat_lt 0 d) (indent ls) bs → (w.kind ≡ kinds.Plain → white_of bs ≡ [])
    → is_fresh (mark_at text p) (mark_at text q) ≡ true
    → is_fresh (mark_at text p) (mark_at text (q + length w.own)) ≡ true
    → KeyRuns x text (q + length w.own) d p cs ls T (λ bs. K (w.body ∷ bs))
key_more d ls w bs x text p q line wide cs T K reads out right l fits plain here near =
    let e = q + length w.own in
    let s = w.stands text q bs l fits in
    let t = texty w.kind w.plain in
    let z : q + 0 ≡ q = omega arith in
    let said : WordText = record { body = w.body; end = s.end; reached = s.reached; broke = s.broke } in
    let fresh : is_fresh (mark_at text p) (mark_at text s.reached) ≡ true = subst (λ r. is_fresh (mark_at text p) (mark_at text r) ≡ true) (sym (s.near plain)) near in
    let r = walk_key_goes x text (spot_at q line d false wide) d (mark_at text p) cs ls T K w.kind [] said e false s.wide reads (deeper_leaves w.kind d false cs out)
    (stands_comes d (indent ls) w.kind w.body text q e bs (omega arith) s) (both (stays_level w.kind d) (is_value w.kind) (t.stays d) t.lone)
    (subst (λ i. IsRight d ls (column_at text i)) (sym z) right) (inl (refl, refl, t.calm)) (subst (λ i. is_fresh (mark_at text p) (mark_at text i) ≡ true) (sym z) here) fresh
    (stands_leaves d (indent ls) w.kind w.body text q e bs t s) in
    record {
      line = line_of (q + 0) text;
      wide = s.wide;
      reads = subst (λ i. ReadsKey x text (spot_at e (line_of (q + 0) text) i false s.wide) d (mark_at text p) cs ls T (λ bs. K (w.body ∷ bs))) (t.same d) r;
    }
  where
    line_of : ℕ → List ℕ → ℕ
    line_of q text = (mark_at text q).line

-- the space before a word
pub key_space : (x : yaml_encoding_t) (text : List ℕ) (p e line d : ℕ) (now wide : Bool)
    (cs ls bs : List ℕ) (T K : List TokenBody → List TokenBody)
    → ReadsKey x text (spot_at e line d false wide) d (mark_at text p) cs ls T K
    → Left text e (32 ∷ bs)
    → ReadsKey x text (spot_at (e + 1) line d false wide) d (mark_at text p) cs ls T K
key_space x text p e line d now wide cs ls bs T K reads l =
    walk_says.white x text (spot_at e line d false wide) d (mark_at text p) cs ls T K (32 ∷ []) reads (has_at text e (32 ∷ []) (left_first text e 32 bs l, tt)) refl

-- ---- several words

-- what holds of the places of a key, up to its end
pub record Frame (text : List ℕ) (d p end : ℕ) (cs ls : List ℕ) : Type 0 where
  pub near : (q : ℕ) → q ≤ end → is_fresh (mark_at text p) (mark_at text q) ≡ true
  pub right : (q : ℕ) → p < q → q ≤ end → IsRight d ls (column_at text q)
  pub out : Outside d cs

-- a plain scalar is the last word, before the `:`
abbrev pub KeyFit : {flow : Bool} {level : ℕ} → List (Spoken flow level) → List ℕ → Type 0
KeyFit {flow} {level} [] bs = Unit {0}
KeyFit {flow} {level} (w ∷ ws) bs = (w.kind ≡ kinds.Plain → white_of (all_bytes ws ++ bs) ≡ []) × KeyFit ws bs

abbrev pub front : Bool → ℕ
front b = if b then 1 else 0

-- after the space before a word, if any
pub record Fronted (x : yaml_encoding_t) (text : List ℕ) (q d p : ℕ) (cs ls : List ℕ) (T K : List TokenBody → List TokenBody) (spaced : Bool) (own bs : List ℕ) : Type 0 where
  pub at : ℕ
  pub up : q ≤ at
  pub far : at + length own ≡ q + length (if spaced then 32 ∷ own else own)
  pub runs : KeyRuns x text at d p cs ls T K
  pub left : Left text at (own ++ bs)

pub key_front : (x : yaml_encoding_t) (text : List ℕ) (q d p : ℕ) (cs ls : List ℕ)
    (T K : List TokenBody → List TokenBody) (spaced : Bool) (own bs : List ℕ)
    → KeyRuns x text q d p cs ls T K → Left text q ((if spaced then 32 ∷ own else own) ++ bs)
    → Fronted x text q d p cs ls T K spaced own bs
key_front x text q d p cs ls T K false own bs r l = record { at = q; up = omega arith; far = refl; runs = r; left = l }
key_front x text q d p cs ls T K true own bs r l = record {
  at = q + 1;
  up = omega arith;
  far = omega arith;
  runs = record { line = r.line; wide = r.wide; reads = key_space x text p q r.line d false r.wide cs ls (own ++ bs) T K r.reads l };
  left = left_more text q 32 (own ++ bs) l;
}

pub key_list : (d : ℕ) (ls : List ℕ) (ws : List (Spoken (nat_lt 0 d) (indent ls))) (bs : List ℕ)
    (x : yaml_encoding_t) (text : List ℕ) (p q end : ℕ) (cs : List ℕ)
    (T K : List TokenBody → List TokenBody)
    → Frame text d p end cs ls → p < q → q + length (all_bytes ws) ≤ end
    → KeyRuns x text q d p cs ls T K → Left text q (all_bytes ws ++ bs) → AllFit ws bs
    → KeyFit ws bs
    → KeyRuns x text (q + length (all_bytes ws)) d p cs ls T (λ bs. K (all_bodies ws bs))
key_list d ls [] bs x text p q end cs T K f more few r l fits plains = let z : q ≡ q + 0 = omega arith in subst (λ i. KeyRuns x text i d p cs ls T K) z r
key_list d ls (w ∷ ws) bs x text p q end cs T K f more few r l (fit, fits) (plain, plains) =
    let rest = all_bytes ws in
    let m = subst (λ ys. Left text q ys) (append_assoc (spoken_bytes w) rest bs) l in
    let g = key_front x text q d p cs ls T K w.spaced w.own (rest ++ bs) r m in
    let up = g.up in
    let far = g.far in
    let all = length-append (spoken_bytes w) rest in
    let e = g.at + length w.own in
    let one = key_more d ls w (rest ++ bs) x text p g.at g.runs.line g.runs.wide cs T K g.runs.reads f.out (f.right g.at (omega (arith, more, up)) (omega (arith, few, far, all))) g.left fit plain
    (f.near g.at (omega (arith, few, far, all))) (f.near e (omega (arith, few, far, all))) in
    let tail = key_list d ls ws bs x text p e end cs T (λ bs. K (w.body ∷ bs)) f (omega (arith, more, up)) (omega (arith, few, far, all)) one (left_rest text g.at w.own (rest ++ bs) g.left) fits plains in
    let same : e + length rest ≡ q + length (spoken_bytes w ++ rest) = omega (arith, far, all) in
    subst (λ i. KeyRuns x text i d p cs ls T (λ bs. K (w.body ∷ all_bodies ws bs))) same tail

-- after the space before the first word, if any
pub record Begun (x : yaml_encoding_t) (text : List ℕ) (p line d : ℕ) (cs ls more : List ℕ) (T : List TokenBody → List TokenBody) (bs : List ℕ) : Type 0 where
  pub broken : Bool
  pub reads : WalkReads x text (spot_at p line d true broken) cs ls more T
  pub left : Left text p bs

pub key_begun : (x : yaml_encoding_t) (text : List ℕ) (o line d : ℕ) (broken : Bool)
    (cs ls more : List ℕ) (T : List TokenBody → List TokenBody) (spaced : Bool) (own bs : List ℕ)
    → WalkReads x text (spot_at o line d true broken) cs ls more T
    → Left text o ((if spaced then 32 ∷ own else own) ++ bs)
    → Begun x text (o + front spaced) line d cs ls more T (own ++ bs)
key_begun x text o line d broken cs ls more T false own bs r l = let z : o ≡ o + 0 = omega arith in subst (λ i. Begun x text i line d cs ls more T (own ++ bs)) z (record { broken = broken; reads = r; left = l })
key_begun x text o line d broken cs ls more T true own bs r l = record {
  broken = broken;
  reads = walk_white x text (spot_at o line d true broken) cs ls more T (32 ∷ []) r (has_at text o (32 ∷ []) (left_first text o 32 (own ++ bs) l, tt)) refl;
  left = left_more text o 32 (own ++ bs) l;
}

pub key_words : (d : ℕ) (ls : List ℕ) (w : Spoken (nat_lt 0 d) (indent ls))
    (ws : List (Spoken (nat_lt 0 d) (indent ls))) (bs : List ℕ) (x : yaml_encoding_t)
    (text : List ℕ) (o line end : ℕ) (broken : Bool) (cs more : List ℕ)
    (T : List TokenBody → List TokenBody)
    → WalkReads x text (spot_at o line d true broken) cs ls more T
    → ClosesAt d (column_at text (o + front w.spaced)) ls more
    → Frame text d (o + front w.spaced) end cs ls → 0 < length w.own
    → o + length (all_bytes (w ∷ ws)) ≤ end → Left text o (all_bytes (w ∷ ws) ++ bs)
    → AllFit (w ∷ ws) bs → KeyFit (w ∷ ws) bs
    → KeyRuns x text (o + length (all_bytes (w ∷ ws))) d (o + front w.spaced) cs ls T
    (λ bs. w.body ∷ all_bodies ws bs)
key_words d ls w ws bs x text o line end broken cs more T reads closes f some few l (fit, fits) (plain, plains) =
    let rest = all_bytes ws in
    let m = subst (λ ys. Left text o ys) (append_assoc (spoken_bytes w) rest bs) l in
    let p = o + front w.spaced in
    let b = key_begun x text o line d broken cs ls more T w.spaced w.own (rest ++ bs) reads m in
    let all = length-append (spoken_bytes w) rest in
    let far = fronted w.spaced o w.own in
    let e = p + length w.own in
    let one = key_first d ls w (rest ++ bs) x text p line b.broken cs more T b.reads f.out closes b.left fit plain (f.near e (omega (arith, few, far, all))) in
    let tail = key_list d ls ws bs x text p e end cs T (λ bs. w.body ∷ bs) f (omega (arith, some)) (omega (arith, few, far, all)) one (left_rest text p w.own (rest ++ bs) b.left) fits plains in
    let same : e + length rest ≡ o + length (spoken_bytes w ++ rest) = omega (arith, far, all) in
    subst (λ i. KeyRuns x text i d p cs ls T (λ bs. w.body ∷ all_bodies ws bs)) same tail
  where
    fronted : (b : Bool) (o : ℕ) (own : List ℕ)
        → o + front b + length own ≡ o + length (if b then 32 ∷ own else own)
    fronted true o own = omega arith
    fronted false o own = omega arith

-- ---- the `:`

pub key_colon : (d : ℕ) (ls new : List ℕ) (what : Opens) (tail : List ℕ) (x : yaml_encoding_t)
    (text : List ℕ) (p e end : ℕ) (cs : List ℕ) (T K : List TokenBody → List TokenBody)
    → Frame text d p end cs ls → p < e → e ≤ end → KeyRuns x text e d p cs ls T K
    → Left text e (58 ∷ tail) → begins_white tail ≡ true
    → opened (not (nat_lt 0 d)) (margin_at (column_at text p)) ls ≡ new
    → start_of d (margin_at (column_at text p)) ls opening.Mapping ≡ what
    → WalkReads x text (behind text e (e + 1) d false (not (nat_lt 0 d))) cs new []
    (λ bs. T (start_bodies what (tokens.key ∷ K (tokens.value ∷ bs))))
key_colon d ls new what tail x text p e end cs T K f some few r l white opens starts =
    let z : e + 0 ≡ e = omega arith in
    let y = sign_next text e 58 tail (omega arith) (omega arith) (λ h. omega (arith, h)) l in
    let comes = signs_come.colon text e d (indent ls) [] y.none y.at (white_next text (e + 0 + 1) tail y.left white) in
    let w = sign tokens.value (e + 0 + 1) in
    let r = walk_key_stops x text (spot_at e r.line d false r.wide) (mark_at text p) cs ls new what T K [] w (e + 0 + 1) false (not (nat_lt 0 d)) r.reads (deeper_leaves kinds.ValueMark d false cs f.out) comes
    (subst (λ i. IsRight d ls (column_at text i)) (sym z) (f.right e some few)) (subst (λ i. is_fresh (mark_at text p) (mark_at text i) ≡ true) (sym z) (f.near e few)) opens starts
    (words_leave.all text d false w refl) in
    subst (λ i. WalkReads x text (behind text i (i + 1) d false (not (nat_lt 0 d))) cs new [] (λ bs. T (start_bodies what (tokens.key ∷ K (tokens.value ∷ bs))))) z r

-- ---- an empty collection in brackets

-- what a pair of brackets gives
pub record Brackets (first last : ℕ) (k l : Kind) (opens closes : TokenBody) : Type 0 where
  pub opening : SignComes first k opens
  pub closing : SignComes last l closes
  pub begins : may_be_key k ≡ true
  pub stays : (d : ℕ) → stays_level k d ≡ true
  pub stays_last : (d : ℕ) → stays_level l d ≡ true
  pub calm : cancels k ≡ false
  pub lone : is_value k ≡ false
  pub lone_last : is_value l ≡ false
  pub up : (d : ℕ) → depth_after k d ≡ d + 1
  pub down : (d : ℕ) → depth_after l d ≡ d - 1
  pub quiet : (b : Bool) → allows_key l b false ≡ false
  pub shown : (32 < first) × (first < 127) × (first ≡ 35 → ⊥)
  pub shown_last : (32 < last) × (last < 127) × (last ≡ 35 → ⊥)

pub square : Brackets 91 93 kinds.FlowSequenceStart kinds.FlowSequenceEnd tokens.flow_sequence_start
    tokens.flow_sequence_end
square = grind (arith, nat_tests, signs_come, stay)

pub curly : Brackets 123 125 kinds.FlowMappingStart kinds.FlowMappingEnd tokens.flow_mapping_start
    tokens.flow_mapping_end
curly = grind (arith, nat_tests, signs_come, stay)

-- after the opener
record Opened (x : yaml_encoding_t) (text : List ℕ) (e d p : ℕ) (cs ls : List ℕ) (T K : List TokenBody → List TokenBody) : Type 0 where
  line : ℕ
  now : Bool
  wide : Bool
  reads : ReadsKey x text (spot_at e line (d + 1) now wide) d (mark_at text p) cs ls T K

pub deeper_out : (d : ℕ) (cs : List ℕ) → Outside d cs → Outside (d + 1) cs
unfolding Outside
deeper_out d [] o = tt
deeper_out d (c ∷ cs) (a, o) = (omega (arith, a), deeper_out d cs o)

-- the closer
bracket_closes : (first last : ℕ) (k l : Kind) (opens closes : TokenBody)
    → Brackets first last k l opens closes
    → (d : ℕ) (ls bs : List ℕ) (x : yaml_encoding_t) (text : List ℕ) (p q end : ℕ) (cs : List ℕ)
    (T K : List TokenBody → List TokenBody)
    → Frame text d p end cs ls → q + 1 ≤ end → Opened x text q d p cs ls T K
    → Left text q (last ∷ bs) → KeyRuns x text (q + 1) d p cs ls T (λ bs. K (closes ∷ bs))
bracket_closes first last k l opens closes b d ls bs x text p q end cs T K f few r left =
    let z : q + 0 ≡ q = omega arith in
    let y = sign_next text q last bs b.shown_last.0 b.shown_last.1 b.shown_last.2 left in
    let w = sign closes (q + 0 + 1) in
    let leaves : WordLeaves text (depth_after l (d + 1)) (allows_key l (d + 1 == 0) false) w (q + 0 + 1) false (not (nat_lt 0 (depth_after l (d + 1)))) =
    subst (λ a. WordLeaves text (depth_after l (d + 1)) a w (q + 0 + 1) false (not (nat_lt 0 (depth_after l (d + 1))))) (sym (b.quiet (d + 1 == 0))) (words_leave.all text (depth_after l (d + 1)) false w refl) in
    let s = walk_key_goes x text (spot_at q r.line (d + 1) r.now r.wide) d (mark_at text p) cs ls T K l [] w (q + 0 + 1) false (not (nat_lt 0 (depth_after l (d + 1)))) r.reads (deeper_leaves l (d + 1) (r.now || (false && r.wide)) cs (deeper_out d cs f.out))
    (b.closing text q (d + 1) (indent ls) [] y.none y.at) (both (stays_level l (d + 1)) (is_value l) (b.stays_last (d + 1)) b.lone_last) (inl (grind (arith, nat_tests))) (inr (omega arith))
    (subst (λ i. is_fresh (mark_at text p) (mark_at text i) ≡ true) (sym z) (f.near q (omega (arith, few)))) (subst (λ i. is_fresh (mark_at text p) (mark_at text (i + 1)) ≡ true) (sym z) (f.near (q + 1) few)) leaves in
    let shallow : depth_after l (d + 1) ≡ d = b.down (d + 1) ∙ omega arith in
    let wide = not (nat_lt 0 (depth_after l (d + 1))) in
    subst (λ i. KeyRuns x text (i + 1) d p cs ls T (λ bs. K (closes ∷ bs))) z
    (record {
      line = (mark_at text (q + 0)).line;
      wide = wide;
      reads = subst (λ i. ReadsKey x text (spot_at (q + 0 + 1) (mark_at text (q + 0)).line i false wide) d (mark_at text p) cs ls T (λ bs. K (closes ∷ bs))) shallow s;
    })

-- as the first words
pub brackets_first : (first last : ℕ) (k l : Kind) (opens closes : TokenBody)
    → Brackets first last k l opens closes
    → (d : ℕ) (ls bs : List ℕ) (x : yaml_encoding_t) (text : List ℕ) (p line end : ℕ)
    (broken : Bool) (cs more : List ℕ) (T : List TokenBody → List TokenBody)
    → WalkReads x text (spot_at p line d true broken) cs ls more T
    → ClosesAt d (column_at text p) ls more → Frame text d p end cs ls → p + 2 ≤ end
    → Left text p (first ∷ last ∷ bs)
    → KeyRuns x text (p + 2) d p cs ls T (λ bs. opens ∷ closes ∷ bs)
brackets_first first last k l opens closes b d ls bs x text p line end broken cs more T reads close f few left =
    let z : p + 0 ≡ p = omega arith in
    let y = sign_next text p first (last ∷ bs) b.shown.0 b.shown.1 b.shown.2 left in
    let w = sign opens (p + 0 + 1) in
    let now = allows_key k (d == 0) false in
    let wide = not (nat_lt 0 (depth_after k d)) in
    let s = walk_key_starts x text (spot_at p line d true broken) cs ls more T k [] w (p + 0 + 1) now wide reads (deeper_leaves k d true cs f.out) (b.opening text p d (indent ls) [] y.none y.at) b.begins refl
    (subst (λ q. ClosesAt d (column_at text q) ls more) (sym z) close) (subst (λ i. is_fresh (mark_at text i) (mark_at text (i + 1)) ≡ true) (sym z) (f.near (p + 1) (omega (arith, few))))
    (words_leave.all text (depth_after k d) now w refl) in
    let o : Opened x text (p + 1) d p cs ls T (λ bs. opens ∷ bs) = subst (λ i. Opened x text (i + 1) d i cs ls T (λ bs. opens ∷ bs)) z
    (record { line = (mark_at text (p + 0)).line; now = now; wide = wide; reads = subst (λ i. ReadsKey x text (spot_at (p + 0 + 1) (mark_at text (p + 0)).line i now wide) d (mark_at text (p + 0)) cs ls T (λ bs. opens ∷ bs)) (b.up d) s }) in
    let two : p + 1 + 1 ≡ p + 2 = omega arith in
    subst (λ i. KeyRuns x text i d p cs ls T (λ bs. opens ∷ closes ∷ bs)) two
    (bracket_closes first last k l opens closes b d ls bs x text p (p + 1) end cs T (λ bs. opens ∷ bs) f (omega (arith, few)) o (left_more text p first (last ∷ bs) left))

-- after properties
pub brackets_more : (first last : ℕ) (k l : Kind) (opens closes : TokenBody)
    → Brackets first last k l opens closes
    → (d : ℕ) (ls bs : List ℕ) (x : yaml_encoding_t) (text : List ℕ) (p q end : ℕ) (cs : List ℕ)
    (T K : List TokenBody → List TokenBody)
    → KeyRuns x text q d p cs ls T K → Frame text d p end cs ls → p < q → q + 2 ≤ end
    → Left text q (first ∷ last ∷ bs)
    → KeyRuns x text (q + 2) d p cs ls T (λ bs. K (opens ∷ closes ∷ bs))
brackets_more first last k l opens closes b d ls bs x text p q end cs T K r f more few left =
    let z : q + 0 ≡ q = omega arith in
    let y = sign_next text q first (last ∷ bs) b.shown.0 b.shown.1 b.shown.2 left in
    let w = sign opens (q + 0 + 1) in
    let now = allows_key k (d == 0) false in
    let wide = not (nat_lt 0 (depth_after k d)) in
    let s = walk_key_goes x text (spot_at q r.line d false r.wide) d (mark_at text p) cs ls T K k [] w (q + 0 + 1) now wide r.reads (deeper_leaves k d false cs f.out) (b.opening text q d (indent ls) [] y.none y.at)
    (both (stays_level k d) (is_value k) (b.stays d) b.lone) (subst (λ i. IsRight d ls (column_at text i)) (sym z) (f.right q more (omega (arith, few)))) (inl (refl, refl, b.calm))
    (subst (λ i. is_fresh (mark_at text p) (mark_at text i) ≡ true) (sym z) (f.near q (omega (arith, few)))) (subst (λ i. is_fresh (mark_at text p) (mark_at text (i + 1)) ≡ true) (sym z) (f.near (q + 1) (omega (arith, few))))
    (words_leave.all text (depth_after k d) now w refl) in
    let o : Opened x text (q + 1) d p cs ls T (λ bs. K (opens ∷ bs)) = subst (λ i. Opened x text (i + 1) d p cs ls T (λ bs. K (opens ∷ bs))) z
    (record { line = (mark_at text (q + 0)).line; now = now; wide = wide; reads = subst (λ i. ReadsKey x text (spot_at (q + 0 + 1) (mark_at text (q + 0)).line i now wide) d (mark_at text p) cs ls T (λ bs. K (opens ∷ bs))) (b.up d) s }) in
    let two : q + 1 + 1 ≡ q + 2 = omega arith in
    subst (λ i. KeyRuns x text i d p cs ls T (λ bs. K (opens ∷ closes ∷ bs))) two
    (bracket_closes first last k l opens closes b d ls bs x text p (q + 1) end cs T (λ bs. K (opens ∷ bs)) f (omega (arith, few)) o (left_more text q first (last ∷ bs) left))
