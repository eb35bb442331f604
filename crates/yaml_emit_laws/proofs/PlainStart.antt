-- Where a text has a plain scalar's parts, a plain scalar begins.
use Rattle.std.proofs.Common.{◌≡◌, ◌≢◌, ℕ, suc, ◌+◌, ◌<◌, ◌≤◌, Bool, true, false, not, ◌&&◌, ◌||◌, ◌==◌, nat_lt, List, [], ◌∷◌, ◌++◌, length, replicate, Some, None, refl, sym, ap, subst, ◌∙◌, inl, inr, ◌⊎◌, nat_le, arith, append_assoc, encode_utf8, ◌-◌, Result, Ok, encode_utf8_all}
use Rattle.yaml_emit_laws.proofs.ScalarWords.{true≢false, and_parts, eqb-true, or_parts, ne_eqb, eq-eqb, or_right, not-true, eqb-false, nat_tests, or-true, and-false, byte, break_width, ends_break, is_blank, is_blank_or_end, is_bom, are_gap, begins_lexeme, HasAt, has_break, is_thrice, is_document_start, is_document_end, is_bracket, is_indicator_byte, starts_plain, after_white, PlainText, indicator_of, kind_at, Has, has_front, has_rest, has, first, behind, is_indicator, ends_word, somewhere, is_special, is_break_space, is_not_plain, is_not_flow, last_or, ends_in_space, starts_badly, allowed, LineEnd, end_bytes, LineTurn, turn_bytes, QuotedPart, raw, doubled, fold, spelling, meaning, IsSpelling, encode_1, encode_2, encode_3, encode_4, calm_end, calm_from, column_start, bool_cases, encodes-chars, scalars-chars, all_scalars, chars, Wrong, ends_plain, Cursor, Page, is_break, ◌▹◌, after_text, flow_body, is_one_line}
use Rattle.yaml_scan_history.specs.declared.kind.Kind.TheVariants as kinds
use Rattle.yaml_emit_laws.proofs.Standing.{InLine, stand_behind, Stays, not_ended, char_at, Stops, Plainly, stops}
use Rattle.yaml_emit_laws.proofs.PlainParts.{is_plain_end, Spells, AreGood, firm, when_is, colon_next, Good, said, gap_read, scalar_read}
use lib.Utf8.{scalar}
use Rattle.yaml_emit_laws.specs.PlainLaws.{IsReadPlain, PlainIsBack, may_be_plain, PlainIsReadBack}
use Rattle.yaml_emit_laws.proofs.Letters.{Shows, AllShow}
use Rattle.yaml_emit_laws.proofs.Writing.{deep_all, left}
use Rattle.yaml_emit_laws.proofs.Shown.{all_show}
use Rattle.yaml_emit_laws.proofs.SingleWritten.{start_behind}
use Rattle.yaml_emit_laws.proofs.BlockHeader.{not_printed}

-- ---- what the first character isn't

pub bracket_45 : is_bracket 45 ≡ false
unfolding is_bracket
bracket_45 = refl

pub bracket_46 : is_bracket 46 ≡ false
unfolding is_bracket
bracket_46 = refl

-- b is one of `- .`, and is there; then it doesn't are after the scalar
no_stop : (flow : Bool) (level : ℕ) (text : List ℕ) (r b : ℕ) → (b ≡ 45) ⊎ (b ≡ 46)
    → byte text r ≡ b → Stops flow level text (r + 1) → byte text (r + 1) ≡ b → ⊥
no_stop flow level text r b which here stop next =
    let calm = calm_from b (some which) (small which) in
    let ends : ends_break text r ≡ false = rw here (calm_end _ _ b _ calm) in
    let st : InLine level text (r + 1) 0 = stand_behind level text r 0 (ap (λ k. is_blank k) here ∙ no_blank which) ends (column_start text r ends (ap (λ k. nat_lt k 128 || nat_le 192 k) here ∙ low which)) in
    let k : Stays flow text (r + 1) = record {
      some = ap (λ k. k == 0) next ∙ none which 0 (λ e. omega (arith, e)) (λ e. omega (arith, e));
      hash = ap (λ k. k == 35 && after_white text (r + 1)) next ∙ ap (λ t. t && after_white text (r + 1)) (none which 35 (λ e. omega (arith, e)) (λ e. omega (arith, e)));
      colon = ap (λ k. k == 58 && is_blank_or_end text (r + 1 + 1)) next ∙ ap (λ t. t && is_blank_or_end text (r + 1 + 1)) (none which 58 (λ e. omega (arith, e)) (λ e. omega (arith, e)));
      bracket = ap (λ k. flow && is_bracket k) next ∙ ap (λ t. flow && t) (no_bracket which) ∙ and-false flow;
      odd = ap (λ k. flow && k == 58) next ∙ ap (λ t. flow && t) (none which 58 (λ e. omega (arith, e)) (λ e. omega (arith, e))) ∙ and-false flow;
    } in
    true≢false (sym stop.ends ∙ not_ended flow level text (r + 1) 0 st k)
  where
    some : (b ≡ 45) ⊎ (b ≡ 46) → 13 < b
    some (inl e) = omega (arith, e)
    some (inr e) = omega (arith, e)

    small : (b ≡ 45) ⊎ (b ≡ 46) → b < 128
    small (inl e) = omega (arith, e)
    small (inr e) = omega (arith, e)

    no_blank : (b ≡ 45) ⊎ (b ≡ 46) → is_blank b ≡ false
    no_blank (inl e) = rw e refl
    no_blank (inr e) = rw e refl

    low : (b ≡ 45) ⊎ (b ≡ 46) → (nat_lt b 128 || nat_le 192 b) ≡ true
    low (inl e) = rw e refl
    low (inr e) = rw e refl

    none : (b ≡ 45) ⊎ (b ≡ 46) → (k : ℕ) → 45 ≢ k → 46 ≢ k → (b == k) ≡ false
    none (inl e) k m n = ne_eqb b k (λ f. m (sym e ∙ f))
    none (inr e) k m n = ne_eqb b k (λ f. n (sym e ∙ f))

    no_bracket : (b ≡ 45) ⊎ (b ≡ 46) → is_bracket b ≡ false
    no_bracket (inl e) = rw e bracket_45
    no_bracket (inr e) = rw e bracket_46

-- after the scalar comes a gap, and then what ends it
pub record Ended (flow : Bool) (level : ℕ) (text : List ℕ) (q : ℕ) (gap : List ℕ) : Type 0 where
  pub has : Has text q gap
  pub blank : are_gap gap ≡ true
  pub stop : Stops flow level text (q + length gap)

gap_byte : (b : ℕ) → (b == 32 || (b == 10 || b == 13)) ≡ true → b < 33
gap_byte b h = grind (arith, nat_tests)

no_end : (flow : Bool) (level : ℕ) (text : List ℕ) (r b : ℕ) (gap : List ℕ) → (b ≡ 45) ⊎ (b ≡ 46)
    → byte text r ≡ b → Ended flow level text (r + 1) gap → byte text (r + 1) ≡ b → ⊥
no_end flow level text r b [] which here e next = let z : r + 1 + 0 ≡ r + 1 = omega arith in no_stop flow level text r b which here (subst (λ q. Stops flow level text q) z e.stop) next
no_end flow level text r b (g ∷ gap) which here e next =
    let low = gap_byte g (and_parts (g == 32 || (g == 10 || g == 13)) (are_gap gap) e.blank).0 in
    let h = e.has.0 in
    elim which [ inl w ↦ absurd (omega (arith, low, h, next, w)) | inr w ↦ absurd (omega (arith, low, h, next, w)) ]

end_low : (text : List ℕ) (q : ℕ) (e : LineEnd) (xs : List ℕ) → is_plain_end e ≡ true
    → Has text q (end_bytes e ++ xs) → byte text q < 14
end_low text q e xs good h = grind (arith, nat_tests, true≢false)

fold_low : (text : List ℕ) (q : ℕ) (t : LineTurn) (ts : List LineTurn) (xs : List ℕ)
    → is_plain_end t.end ≡ true → Has text q (turn_bytes (t ∷ ts) ++ xs) → byte text q < 14
unfolding turn_bytes
fold_low text q t ts xs good h = end_low text q t.end ((replicate t.spaces 32 ++ turn_bytes ts) ++ xs) good (subst (λ (ys : List ℕ). Has text q ys) (append_assoc (end_bytes t.end) (replicate t.spaces 32 ++ turn_bytes ts) xs) h)

dash_small : (b : ℕ) → (b ≡ 45) ⊎ (b ≡ 46) → (b < 128) × (14 ≤ b)
dash_small b h1 = grind (arith, nat_tests)

-- where the byte is there twice, the value has it there
next_is : (flow : Bool) (level n : ℕ) (text : List ℕ) (r b before : ℕ) (ps : List QuotedPart)
    (xs gap : List ℕ) → (b ≡ 45) ⊎ (b ≡ 46) → byte text r ≡ b → Spells n ps xs
    → AreGood flow before xs → Has text (r + 1) (spelling ps)
    → Ended flow level text (r + 1 + length (spelling ps)) gap → byte text (r + 1) ≡ b
    → first xs ≡ b
unfolding spelling
next_is flow level n text r b before [] [] gap which here s g h e next = let z : r + 1 + 0 ≡ r + 1 = omega arith in absurd (no_end flow level text r b gap which here (subst (λ q. Ended flow level text q gap) z e) next)
next_is flow level n text r b before [] (x ∷ xs) gap which here s g h e next = absurd s
next_is flow level n text r b before (p ∷ ps) [] gap which here s g h e next = absurd s
next_is flow level n text r b before (raw c ∷ ps) (x ∷ xs) gap which here (i, s) (g, gs) h e next =
    let at = char_at flow level text (r + 1) x g.plainly (subst (λ k. Has text (r + 1) (encode_utf8 k)) i (has_front text (r + 1) (encode_utf8 c) (spelling ps) h)) in
    let f = firm flow level text (r + 1) x (encode_utf8 x) at in
    f.same b (dash_small b which).0 next
next_is flow level n text r b before (fold t ts ∷ ps) (x ∷ xs) gap which here (i, s) g h e next = grind (arith, nat_tests, fold_low, dash_small)
next_is flow level n text r b before _ (x ∷ xs) gap which here (i, s) g h e next = absurd i

-- a part of a character that is no space
pub record RawFirst (n x : ℕ) (ps : List QuotedPart) (xs : List ℕ) : Type 0 where
  pub rest : List QuotedPart
  pub is : ps ≡ raw x ∷ rest
  pub spells : Spells n rest xs

pub raw_first : (n x : ℕ) (ps : List QuotedPart) (xs : List ℕ) → x ≢ 32 → Spells n ps (x ∷ xs)
    → RawFirst n x ps xs
raw_first n x [] xs m s = absurd s
raw_first n x (raw c ∷ ps) xs m (e, s) = record { rest = ps; is = ap (λ k. raw k ∷ ps) e; spells = s }
raw_first n x (fold t ts ∷ ps) xs m (e, s) = absurd (m e.0)
raw_first n x _ xs m (e, s) = absurd e

raw_spelling : (x : ℕ) (ps : List QuotedPart) → spelling (raw x ∷ ps) ≡ encode_utf8 x ++ spelling ps
unfolding spelling
raw_spelling x ps = refl

-- so it is with three
third_is : (flow : Bool) (level n : ℕ) (text : List ℕ) (r b before : ℕ) (ps : List QuotedPart)
    (xs gap : List ℕ) → (b ≡ 45) ⊎ (b ≡ 46) → byte text r ≡ b → Spells n ps xs
    → AreGood flow before xs → Has text (r + 1) (spelling ps)
    → Ended flow level text (r + 1 + length (spelling ps)) gap → byte text (r + 1) ≡ b
    → byte text (r + 1 + 1) ≡ b → (first xs ≡ b) × (first (behind xs) ≡ b)
third_is flow level n text r b before ps [] gap which here s g h e next last = let z = next_is flow level n text r b before ps [] gap which here s g h e next in absurd (let d = (dash_small b which).1 in omega (arith, z, d))
third_is flow level n text r b before ps (y ∷ ys) gap which here s (g, gs) h e next last =
    let is = next_is flow level n text r b before ps (y ∷ ys) gap which here s (g, gs) h e next in
    let d = dash_small b which in
    let f = raw_first n y ps ys (λ k. no_32 which (sym is ∙ k)) s in
    let one : encode_utf8 y ≡ y ∷ [] = encode_1 y (let l = d.0 in omega (arith, is, l)) in
    let bytes : spelling ps ≡ y ∷ spelling f.rest = ap (λ (qs : List QuotedPart). spelling qs) f.is ∙ raw_spelling y f.rest ∙ ap (λ (bs : List ℕ). bs ++ spelling f.rest) one in
    let h2 = subst (λ (bs : List ℕ). Has text (r + 1) bs) bytes h in
    let far : r + 1 + suc (length (spelling f.rest)) ≡ r + 1 + 1 + length (spelling f.rest) = omega arith in
    let e2 = subst (λ q. Ended flow level text q gap) far (subst (λ (bs : List ℕ). Ended flow level text (r + 1 + length bs) gap) bytes e) in
    (is, next_is flow level n text (r + 1) b y f.rest ys gap which next f.spells gs h2.1 e2 last)
  where
    no_32 : (b ≡ 45) ⊎ (b ≡ 46) → b ≡ 32 → ⊥
    no_32 (inl e) f = omega (arith, e, f)
    no_32 (inr e) f = omega (arith, e, f)

-- ---- the kind

-- what the first character isn't
pub record Begun (flow : Bool) (x : ℕ) (xs : List ℕ) : Type 0 where
  pub indicator : is_indicator x ≡ false
  pub alone : (x ≡ 45) ⊎ ((x ≡ 63) ⊎ (x ≡ 58)) → (first xs ≢ 0) × (first xs ≢ 32) × (first xs ≢ 9)
  pub thrice : (b : ℕ) → (b ≡ 45) ⊎ (b ≡ 46) → x ≡ b → first xs ≡ b → first (behind xs) ≡ b → ⊥
  pub mark : x ≢ 0xFEFF

not_thrice : (text : List ℕ) (p b : ℕ)
    → (byte text p ≡ b → byte text (p + 1) ≡ b → byte text (p + 1 + 1) ≡ b → ⊥)
    → is_thrice b text p ≡ false
not_thrice text p b f = grind (arith, nat_tests, when_is, ne_eqb)

-- of bytes that begin no plain scalar but `- ? :`
no_indicator : (x : ℕ) (k : ℕ) → is_indicator k ≡ true → is_indicator x ≡ false → x ≢ k
no_indicator x k h i e = true≢false (sym h ∙ ap (λ t. is_indicator t) (sym e) ∙ i)

none_is : (flow alone : Bool) (b : ℕ)
    → ((k : ℕ) → k < 128 → is_indicator k ≡ true → (b == k) ≡ false) → (b == 45 && alone) ≡ false
    → (b == 63 && (flow || alone)) ≡ false → (b == 58 && (flow || alone)) ≡ false
    → indicator_of flow alone b ≡ None
unfolding indicator_of
none_is flow alone b none dash ask colon = grind (arith, nat_tests)

other_byte : (b : ℕ) → ((k : ℕ) → k < 128 → is_indicator k ≡ true → (b == k) ≡ false)
    → (b == 45) ≡ false → (b == 63) ≡ false → (b == 58) ≡ false → is_indicator_byte b ≡ false
unfolding is_indicator_byte is_bracket
other_byte b none d a c = grind (arith, nat_tests)

blank_of : (a b c : Bool) → ((a || b) || c) ≡ false → a ≡ false
blank_of a b c e = grind (arith, nat_tests, true≢false)

begins : (flow : Bool) (text : List ℕ) (p : ℕ) → is_blank_or_end text p ≡ false
    → ((k : ℕ) → k < 128 → is_indicator k ≡ true → (byte text p == k) ≡ false)
    → (byte text p ≡ 45 → is_blank_or_end text (p + 1) ≡ false)
    → (byte text p ≡ 63 → (flow ≡ false) × (is_blank_or_end text (p + 1) ≡ false))
    → (byte text p ≡ 58 → (flow ≡ false) × (is_blank_or_end text (p + 1) ≡ false))
    → starts_plain flow text p ≡ true
unfolding starts_plain
begins flow text p white none dash ask colon =
    bool_cases (byte text p == 45)
    (λ e. rw (white, e, blank_of (is_blank (byte text (p + 1))) (byte text (p + 1) == 0) (nat_lt 0 (break_width text (p + 1))) (dash (eqb-true (byte text p) 45 e))) (by_dash (is_indicator_byte (byte text p)) _))
    (λ d. bool_cases (byte text p == 63)
    (λ e. let k = ask (eqb-true (byte text p) 63 e) in rw (white, e, k.0, k.1) (or-true _))
    (λ a. bool_cases (byte text p == 58)
    (λ e. let k = colon (eqb-true (byte text p) 58 e) in rw (white, a, e, k.0, k.1) (or-true _))
    (λ c. rw (white, other_byte (byte text p) none d a c) refl)))
  where
    by_dash : (i x : Bool) → ((not i || true) || x) ≡ true
    by_dash true x = refl
    by_dash false x = refl

in_flow : (flow : Bool) (b k : ℕ) → (flow && b == k) ≡ false → b ≡ k → flow ≡ false
in_flow false b k h e = refl
in_flow true b k h e = absurd (true≢false (sym (same b k e) ∙ h))
  where
    same : (b k : ℕ) → b ≡ k → (b == k) ≡ true
    same b k e = grind (arith, nat_tests)

-- no mark of byte order
no_bom : (text : List ℕ) (p x : ℕ) → x ≢ 0xFEFF → x < 1114112 → Has text p (encode_utf8 x)
    → is_bom text p ≡ false
no_bom text p x m top h = grind (arith, nat_tests, when_is, ne_eqb, encode_1, encode_2, encode_3, encode_4)

pub record Opens (flow : Bool) (text : List ℕ) (p : ℕ) : Type 0 where
  pub begins : begins_lexeme text p ≡ true
  pub kind : kind_at flow text p ≡ Some kinds.Plain

begun_by : (text : List ℕ) (p : ℕ) → (byte text p == 32) ≡ false → (byte text p == 9) ≡ false
    → (byte text p == 35) ≡ false → break_width text p ≡ 0 → is_bom text p ≡ false
    → begins_lexeme text p ≡ true
begun_by text p a b d w m = rw (a, b, d, w, m) (no_and (p == 0))
  where
    no_and : (t : Bool) → not (t && false) ≡ true
    no_and true = refl
    no_and false = refl

pub opens : (flow : Bool) (level n : ℕ) (text : List ℕ) (p x : ℕ) (ps : List QuotedPart)
    (xs gap : List ℕ) → Begun flow x xs → AreGood flow 32 (x ∷ xs) → x ≢ 32 → Spells n ps xs
    → Has text p (spelling (raw x ∷ ps))
    → Ended flow level text (p + length (spelling (raw x ∷ ps))) gap → Opens flow text p
unfolding kind_at is_document_start is_document_end
opens flow level n text p x ps xs gap b (g, gs) space s h e =
    let h1 = subst (λ (bs : List ℕ). Has text p bs) (raw_spelling x ps) h in
    let own = has_front text p (encode_utf8 x) (spelling ps) h1 in
    let behind_it = has_rest text p (encode_utf8 x) (spelling ps) h1 in
    let at = char_at flow level text p x g.plainly own in
    let f = firm flow level text p x (encode_utf8 x) at in
    let none : (k : ℕ) → k < 128 → is_indicator k ≡ true → (byte text p == k) ≡ false = λ k small i. ne_eqb (byte text p) k (λ j. no_indicator x k i b.indicator (f.same k small j)) in
    let one : x < 128 → encode_utf8 x ≡ x ∷ [] = λ l. encode_1 x l in
    let at_next : x < 128 → Has text (p + 1) (spelling ps) = λ l. subst (λ k. Has text (p + k) (spelling ps)) (ap (λ (bs : List ℕ). length bs) (one l)) behind_it in
    let end_next : x < 128 → Ended flow level text (p + 1 + length (spelling ps)) gap = λ l.
    let all : spelling (raw x ∷ ps) ≡ x ∷ spelling ps = raw_spelling x ps ∙ ap (λ (bs : List ℕ). bs ++ spelling ps) (one l) in
    let far : p + suc (length (spelling ps)) ≡ p + 1 + length (spelling ps) = omega arith in
    subst (λ q. Ended flow level text q gap) far (subst (λ (bs : List ℕ). Ended flow level text (p + length bs) gap) all e) in
    let alone : (k : ℕ) → k < 128 → (k ≡ 45) ⊎ ((k ≡ 63) ⊎ (k ≡ 58)) → byte text p ≡ k → is_blank_or_end text (p + 1) ≡ false = λ k small w j.
    let same = f.same k small j in
    colon_next flow level n text (p + 1) x ps xs s gs (at_next (subst (λ t. t < 128) (sym same) small)) (b.alone (subst (λ t. (t ≡ 45) ⊎ ((t ≡ 63) ⊎ (t ≡ 58))) (sym same) w)) in
    let three : (k : ℕ) → (k ≡ 45) ⊎ (k ≡ 46) → is_thrice k text p ≡ false = λ k w. not_thrice text p k (λ i j l.
    let same = f.same k (dash_small k w).0 i in
    let low = subst (λ t. t < 128) (sym same) (dash_small k w).0 in
    let t = third_is flow level n text p k x ps xs gap w i s gs (at_next low) (end_next low) j l in
    b.thrice k w same t.0 t.1) in
    let a45 = alone 45 (omega arith) (inl refl) in
    let a63 = alone 63 (omega arith) (inr (inl refl)) in
    let a58 = alone 58 (omega arith) (inr (inr refl)) in
    let f63 : byte text p ≡ 63 → flow ≡ false = λ j. in_flow flow x 63 g.ask (f.same 63 (omega arith) j) in
    let f58 : byte text p ≡ 58 → flow ≡ false = λ j. in_flow flow x 58 g.odd (f.same 58 (omega arith) j) in
    let off : (k : ℕ) → (byte text p ≡ k → flow ≡ false) → (byte text p ≡ k → is_blank_or_end text (p + 1) ≡ false) → (byte text p == k && (flow || is_blank_or_end text (p + 1))) ≡ false = λ k u v. when_is (byte text p) k (flow || is_blank_or_end text (p + 1)) (λ j. rw (u j, v j) refl) in
    let nothing = none_is flow (is_blank_or_end text (p + 1)) (byte text p) none (when_is (byte text p) 45 (is_blank_or_end text (p + 1)) a45) (off 63 f63 a63) (off 58 f58 a58) in
    let white : is_blank_or_end text p ≡ false = rw (f.blank space g.tab, f.some g.some, at.width) refl in
    record {
      begins = begun_by text p (none 32 (omega arith) refl) (or_parts (byte text p == 32) (byte text p == 9) (f.blank space g.tab)).1 (none 35 (omega arith) refl) at.width (no_bom text p x b.mark (g.plainly.top) own);
      kind = rw ((f.some g.some), (none 37 (omega arith) refl), (three 45 (inl refl)), (three 46 (inr refl)), and-false, nothing, (begins flow text p white none a45 (λ j. (f63 j, a63 j)) (λ j. (f58 j, a58 j)))) refl;
    }

-- ==== What an emitter writes for a plain value is read back.

-- ---- what is allowed

pub record MayBe (unicode flow : Bool) (value : List ℕ) : Type 0 where
  pub special : somewhere (is_special unicode) 32 value ≡ false
  pub broken : somewhere is_break_space 32 value ≡ false
  pub ends : ends_in_space value ≡ false
  pub starts : starts_badly value ≡ false
  pub plain : somewhere is_not_plain 32 value ≡ false
  pub flow_too : flow ≡ true → somewhere is_not_flow 32 value ≡ false

by_flow : (unicode flow : Bool) (x : ℕ) (xs : List ℕ) → may_be_plain unicode flow (x ∷ xs) ≡ true
    → ((allowed unicode (x ∷ xs)).plain ≡ true)
    × (flow ≡ true → somewhere is_not_flow 32 (x ∷ xs) ≡ false)
unfolding allowed
by_flow unicode flow x xs h = grind (arith, nat_tests, and_parts, not-true, true≢false)

pub may_be : (unicode flow : Bool) (x : ℕ) (xs : List ℕ) → may_be_plain unicode flow (x ∷ xs) ≡ true
    → MayBe unicode flow (x ∷ xs)
unfolding allowed
may_be unicode flow x xs h =
    let (p, f) = by_flow unicode flow x xs h in
    let a = not-true _ p in
    let b = (or_parts _ (somewhere is_not_plain 32 (x ∷ xs)) a).0 in
    let c = (or_parts _ (starts_badly (x ∷ xs)) b).0 in
    let d = (or_parts _ (ends_in_space (x ∷ xs)) c).0 in
    record {
      special = (or_parts _ (somewhere is_break_space 32 (x ∷ xs)) d).0;
      broken = (or_parts (somewhere (is_special unicode) 32 (x ∷ xs)) _ d).1;
      ends = (or_parts _ (ends_in_space (x ∷ xs)) c).1;
      starts = (or_parts _ (starts_badly (x ∷ xs)) b).1;
      plain = (or_parts _ (somewhere is_not_plain 32 (x ∷ xs)) a).1;
      flow_too = f;
    }

one_line : (before : ℕ) (xs : List ℕ) → somewhere is_not_plain before xs ≡ false
    → is_one_line xs ≡ true
unfolding somewhere
one_line before [] h = refl
one_line before (x ∷ xs) h =
    let here = (or_parts (is_not_plain before x (first xs)) _ h).0 in
    let inside : is_break x ≡ false = (or_parts (is_break x) _ (or_parts _ (x == 35 && ends_word before) here).0).0 in
    both (is_break x) (is_one_line xs) inside (one_line x xs (or_parts (is_not_plain before x (first xs)) _ h).1)
  where
    both : (a b : Bool) → a ≡ false → b ≡ true → (not a && b) ≡ true
    both a b p q = rw (p, q) refl

plainly_is : (x : ℕ) → is_break x ≡ false → scalar x ≡ true → Plainly x
plainly_is x h s = grind (arith, nat_tests, eqb-false)

-- no end of a word
word_on : (c : ℕ) → ends_word c ≡ false → (c ≢ 0) × (c ≢ 32) × (c ≢ 9)
word_on c h = grind (arith, nat_tests, eqb-false)

on_and : (a b : Bool) → (a && b) ≡ false → a ≡ true → b ≡ false
on_and a b h e = grind (arith, nat_tests, true≢false)

flow_is : (flow : Bool) (b : Bool) → (flow ≡ true → b ≡ false) → (flow && b) ≡ false
flow_is flow b h = grind (arith, nat_tests)

not_flow : (before x next : ℕ) → is_not_flow before x next ≡ false
    → (is_bracket x ≡ false) × ((x == 58) ≡ false) × ((x == 63) ≡ false)
unfolding is_bracket
not_flow before x next h =
    let h125 = (or_parts _ (x == 125) h).1 in
    let a = (or_parts _ (x == 125) h).0 in
    let h123 = (or_parts _ (x == 123) a).1 in
    let b = (or_parts _ (x == 123) a).0 in
    let h93 = (or_parts _ (x == 93) b).1 in
    let c = (or_parts _ (x == 93) b).0 in
    let h91 = (or_parts _ (x == 91) c).1 in
    let d = (or_parts _ (x == 91) c).0 in
    let h58 = (or_parts _ (x == 58) d).1 in
    let e = (or_parts _ (x == 58) d).0 in
    let h63 = (or_parts _ (x == 63) e).1 in
    let h44 = (or_parts (x == 44) _ e).0 in
    (rw (h44, h91, h93, h123, h125) refl, h58, h63)

pub are_good : (flow : Bool) (before : ℕ) (xs : List ℕ) → AllShow xs
    → somewhere is_not_plain before xs ≡ false
    → (flow ≡ true → somewhere is_not_flow before xs ≡ false) → AreGood flow before xs
unfolding somewhere
are_good flow before [] a h f = tt
are_good flow before (x ∷ xs) (s, a) h f =
    let here = (or_parts (is_not_plain before x (first xs)) _ h).0 in
    let hash = (or_parts _ (x == 35 && ends_word before) here).1 in
    let more = (or_parts _ (x == 35 && ends_word before) here).0 in
    let colon = (or_parts (is_break x) (x == 58 && ends_word (first xs)) more).1 in
    let there : flow ≡ true → is_not_flow before x (first xs) ≡ false = λ e. (or_parts (is_not_flow before x (first xs)) _ (f e)).0 in (
      record {
        plainly = plainly_is x (or_parts (is_break x) _ more).0 s.scalar;
        some = not_printed x 0 s.printable refl;
        tab = not_printed x 9 s.printable refl;
        colon = λ e. word_on (first xs) (on_and (x == 58) (ends_word (first xs)) colon (eq-eqb x 58 e));
        hash = λ e. (word_on before (on_and (x == 35) (ends_word before) hash (eq-eqb x 35 e))).1;
        bracket = flow_is flow (is_bracket x) (λ e. (not_flow before x (first xs) (there e)).0);
        odd = flow_is flow (x == 58) (λ e. (not_flow before x (first xs) (there e)).1);
        ask = flow_is flow (x == 63) (λ e. (not_flow before x (first xs) (there e)).2);
      },
      are_good flow x xs a (or_parts (is_not_plain before x (first xs)) _ h).1 (λ e. (or_parts (is_not_flow before x (first xs)) _ (f e)).1),
    )

begun_is : (flow : Bool) (x : ℕ) (xs : List ℕ) → starts_badly (x ∷ xs) ≡ false → Shows x (first xs)
    → Good flow 32 x (first xs) → Begun flow x xs
begun_is flow x xs h s g =
    let y = first xs in
    let z = first (behind xs) in
    let dots = (or_parts _ (x == 46 && y == 46 && z == 46) h).1 in
    let a = (or_parts _ (x == 46 && y == 46 && z == 46) h).0 in
    let dashes = (or_parts _ (x == 45 && y == 45 && z == 45) a).1 in
    let b = (or_parts _ (x == 45 && y == 45 && z == 45) a).0 in
    let alone = (or_parts (is_indicator x) ((x == 45 || x == 63) && ends_word y) b).1 in
    record {
      indicator = (or_parts (is_indicator x) _ b).0;
      alone = λ w. lone w alone;
      thrice = λ k w e i j. elim w [
        | inl is ↦ true≢false (sym (rw (eq-eqb x 45 (e ∙ is), eq-eqb y 45 (i ∙ is), eq-eqb z 45 (j ∙ is)) refl) ∙ dashes)
        | inr is ↦ true≢false (sym (rw (eq-eqb x 46 (e ∙ is), eq-eqb y 46 (i ∙ is), eq-eqb z 46 (j ∙ is)) refl) ∙ dots)
      ];
      mark = not_printed x 0xFEFF s.printable refl;
    }
  where
    lone : (x ≡ 45) ⊎ ((x ≡ 63) ⊎ (x ≡ 58)) → ((x == 45 || x == 63) && ends_word (first xs)) ≡ false
        → (first xs ≢ 0) × (first xs ≢ 32) × (first xs ≢ 9)
    lone (inl e) h = word_on (first xs) (on_and (x == 45 || x == 63) (ends_word (first xs)) h (rw (eq-eqb x 45 e) refl))
    lone (inr (inl e)) h = word_on (first xs) (on_and (x == 45 || x == 63) (ends_word (first xs)) h (or_right (x == 45) (x == 63) (eq-eqb x 63 e)))
    lone (inr (inr e)) h = g.colon e

-- ---- the law

space_no : (x : ℕ) → is_indicator x ≡ false → x ≢ 32
space_no x h e = true≢false (sym (ap (λ t. is_indicator t) e) ∙ h)

last_is : (x : ℕ) (xs : List ℕ) → ends_in_space (x ∷ xs) ≡ false → (last_or x xs == 32) ≡ false
unfolding last_or
last_is x xs h = h

abbrev Goal : Bool → ℕ → List ℕ → List ℕ → Type 0
Goal flow level value bs = (text : List ℕ) (p : ℕ) (gap : List ℕ) → HasAt text p (bs ++ gap) → are_gap gap ≡ true → ends_plain flow level text (p + length bs + length gap) ≡ true → IsReadPlain flow level value bs gap text p

parts_back : (flow : Bool) (level m x : ℕ) (xs value : List ℕ) (ps : List QuotedPart)
    → level ≤ suc m → IsSpelling 0 (raw x ∷ ps) → Spells (suc m) ps xs → x ≢ 32
    → AreGood flow 32 (x ∷ xs) → Begun flow x xs → (last_or x xs == 32) ≡ false
    → meaning (raw x ∷ ps) ≡ value
    → Goal flow level value (spelling (raw x ∷ ps))
parts_back flow level m x xs value ps deep right s space good b last means text p gap h are ends =
    let bs = spelling (raw x ∷ ps) in
    let all = has text p (bs ++ gap) h in
    let own = has_front text p bs gap all in
    let after = has_rest text p bs gap all in
    let q = p + length bs in
    let stop = stops flow level text (q + length gap) ends in
    let o = opens flow level (suc m) text p x ps xs gap b good space s own (record { has = after; blank = are; stop = stop }) in
    record {
      begins = o.begins;
      kind = o.kind;
      read = scalar_read flow level m 0 text p x ps xs (q + length gap) (has_break gap) deep right s space good last own (gap_read flow level text q gap after are stop)
          ∙ ap (λ (v : List ℕ). let y : Result PlainText Wrong = Ok (said v q (q + length gap) (has_break gap)) in y) means;
    }

plain_by : (page : Page) (flow : Bool) (level : ℕ) (c : Cursor) (value cs : List ℕ)
    → encode_utf8_all cs ≡ value → all_scalars cs ≡ true → 0 < length value
    → may_be_plain page.unicode flow cs ≡ true → 0 < page.indentation → level ≤ page.indentation
    → PlainIsBack flow level (flow_body page false 32 cs ▹ after_text) c value
plain_by page flow level c value [] e g some may deep far = let z : length value ≡ 0 = ap (λ (bs : List ℕ). length bs) (sym e) in absurd (omega (arith, some, z))
plain_by page flow level c value (x ∷ xs) e g some may deep far =
    let f = may_be page.unicode flow x xs may in
    let show = all_show page.unicode 32 (x ∷ xs) f.special f.broken g in
    let good = are_good flow 32 (x ∷ xs) show f.plain f.flow_too in
    let b = begun_is flow x xs f.starts show.0 good.0 in
    let space = space_no x b.indicator in
    let l = left page false 32 c doubled (x ∷ xs) (deep_all page (x ∷ xs) deep) show (start_behind c (x ∷ xs)) (λ i. (refl, refl)) refl in
    let m = page.indentation - 1 in
    let n : page.indentation ≡ suc m = omega (arith, deep) in
    let spells = subst (λ k. Spells k l.parts (x ∷ xs)) n (l.ones refl (one_line 32 (x ∷ xs) f.plain)) in
    let r = raw_first (suc m) x l.parts xs space spells in
    let bytes : encode_utf8_all l.letters ≡ spelling (raw x ∷ r.rest) = l.bytes ∙ ap (λ (ps : List QuotedPart). spelling ps) r.is in
    let means : meaning (raw x ∷ r.rest) ≡ value = ap (λ (ps : List QuotedPart). meaning ps) (sym r.is) ∙ l.means ∙ e in
    let right = subst (λ (ps : List QuotedPart). IsSpelling 0 ps) r.is l.right in
    record {
      letters = l.letters;
      behind = record { column = l.behind.column; white = false; bare = false; kept = l.behind.kept };
      written = λ rest. l.text (λ d. after_text d rest);
      read = subst (λ (bs : List ℕ). Goal flow level value bs) (sym bytes) (parts_back flow level m x xs value r.rest (subst (λ k. level ≤ k) n far) right r.spells space good b (last_is x xs f.ends) means);
      bare = refl;
      white = refl;
      column = λ z. some_more (l.column z).1;
      kept = l.kept;
    }
  where
    some_more : x ∷ xs ≡ [] → ⊥
    some_more i = cc

pub plain_back : PlainIsReadBack
plain_back page flow level c value u some may deep far = plain_by page flow level c value (chars value) (encodes-chars value u) (scalars-chars value u) some may deep far
