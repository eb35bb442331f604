-- All parts of a spelling are read, and what they mean.
use Rattle.std.proofs.Common.{◌≡◌, ℕ, zero, suc, ◌+◌, ◌<◌, ◌≤◌, true, false, List, [], ◌∷◌, ◌++◌, length, Result, Ok, Err, refl, sym, ap, subst, ◌∙◌, inl, inr, arith, append_assoc, encode_utf8, length-append}
use Rattle.yaml_emit_laws.proofs.Shared.{cases_Bool, ne_eqb, nat_tests, byte, starts, column_at, is_blank, is_document_indicator, Wrong, Piece, Kept, Blank, value, QuotedSpot, Closing, Pieces, Bad, quote_at, standing_at, with_front, followed, pieces, valued, quoted_at, double_quoted_at, single_quoted_at, QuotedPart, raw, doubled, named, numbered, joint, spelling, meaning, may_be_raw, MayStand, IsSpelling, quoted, within, has_rest, has_front}
use Rattle.yaml_emit_laws.specs.Stands.{HasAt}
use Rattle.yaml_emit_laws.specs.Spelling.{fold, spelled}
use Rattle.yaml_emit_laws.proofs.Chars.{encode_1}
use Rattle.yaml_emit_laws.proofs.Values.{read_as, all_read_as, read_blank, read_kept, spelling_value}
use Rattle.yaml_emit_laws.proofs.Bytes.{same_test, IsQuote, quote_some, calm_end, calm_from}
use Rattle.yaml_scan_history.proofs.HasLemmas.{has, Has}
use Rattle.yaml_emit_laws.proofs.QuotedReading.{Read, Through, through_one, in_line, column_more, column_start, blank_through, Raw, raw_through}
use Rattle.yaml_emit_laws.proofs.Turns.{named_through, numbered_through, fold_through, joint_through}
use Rattle.yaml_emit_laws.proofs.Pieces.{top_of}

-- ---- characters

raw_is : (quote c : ℕ) → may_be_raw quote c ≡ true → Raw quote c
raw_is quote c h = grind (arith, nat_tests, top_of)

raw_part : (quote : ℕ) (text : List ℕ) (p c : ℕ) → IsQuote quote → may_be_raw quote c ≡ true
    → 0 < column_at text p → Has text p (encode_utf8 c)
    → Through quote text p (read_as (raw c)) (p + length (encode_utf8 c))
raw_part quote text p c q s col h =
    elim (cases_Bool (is_blank c)) [
      | inr k ↦ subst (λ (qs : List Piece). Through quote text p qs (p + length (encode_utf8 c))) (sym (read_kept c k)) (raw_through quote text p c q col (raw_is quote c s) k h)
      | inl k ↦
          let P : List ℕ → Type 0 = λ bs. Has text p bs → Through quote text p (Blank c ∷ []) (p + length bs) in
          subst (λ (qs : List Piece). Through quote text p qs (p + length (encode_utf8 c))) (sym (read_blank c k))
          (subst P (sym (encode_1 c (grind (arith, nat_tests)))) (λ t. blank_through quote text p c q col k t.0) h)
    ]

-- two single quotes
doubled_standing : (text : List ℕ) (p : ℕ) → is_document_indicator text p ≡ false → byte text p ≡ 39
    → byte text (p + 1) ≡ 39 → standing_at 39 text p ≡ Pieces (Kept (39 ∷ []) ∷ []) (p + 2)
unfolding standing_at quote_at
doubled_standing text p i e f = rw (i, e, f) refl

doubled_through : (text : List ℕ) (p : ℕ) → 0 < column_at text p → Has text p (39 ∷ 39 ∷ [])
    → Through 39 text p (Kept (39 ∷ []) ∷ []) (p + 2)
doubled_through text p c (e, (f, u)) =
    let calm = calm_from 39 (omega arith) (omega arith) in
    let one = column_more text p (rw e (calm_end _ _ 39 _ calm)) c in
    let two = column_more text (p + 1) (rw f (calm_end _ _ 39 _ calm)) one in
    let same : p + 1 + 1 ≡ p + 2 = omega arith in
    through_one 39 text p (p + 2) (Kept (39 ∷ []) ∷ []) (doubled_standing text p (in_line text p c) e f) (omega arith) (subst (λ q. 0 < column_at text q) same two)

-- ---- parts

part_through : (quote : ℕ) (text : List ℕ) (p : ℕ) (x : QuotedPart) → IsQuote quote
    → MayStand quote x → 0 < column_at text p → Has text p (spelled x)
    → Through quote text p (read_as x) (p + length (spelled x))
part_through quote text p (raw c) q s col h = raw_part quote text p c q s col h
part_through quote text p doubled q s col h = subst (λ k. Through k text p (Kept (39 ∷ []) ∷ []) (p + 2)) (sym s) (doubled_through text p col h)
part_through quote text p (named b bs) q (s, n) col h = subst (λ k. Through k text p (Kept bs ∷ []) (p + 2)) (sym s) (named_through text p b bs col n h)
part_through quote text p (numbered b ds c) q (s, some, l, n, good) col h =
    subst (λ k. Through k text p (Kept (encode_utf8 c) ∷ []) (p + length (92 ∷ b ∷ ds))) (sym s) (numbered_through text p b c ds col some l n good h)
part_through quote text p (fold t ts) q s col h = fold_through quote text p t ts q s h
part_through quote text p (joint t ts) q (s, m) col h =
    subst (λ k. Through k text p (read_as (joint t ts)) (p + length (spelled (joint t ts)))) (sym s) (joint_through text p t ts col m h)

read_at : (quote : ℕ) (text : List ℕ) (p d e : ℕ) (qs : List Piece) → d ≡ e → Read quote text p qs d
    → Read quote text p qs e
read_at quote text p d e qs same r = subst (λ k. Read quote text p qs k) same r

close_standing : (quote : ℕ) (text : List ℕ) (p : ℕ) → IsQuote quote → 0 < column_at text p
    → byte text p ≡ quote → quote_at quote text p ≡ Closing → standing_at quote text p ≡ Closing
unfolding standing_at
close_standing quote text p q c e k = rw (in_line text p c, e, quote_some quote q, same_test quote, k) refl

read_close : (quote : ℕ) (text : List ℕ) (p : ℕ) → standing_at quote text p ≡ Closing
    → Read quote text p [] (p + 1)
unfolding pieces
read_close quote text p s = record { fuel = 1; few = omega arith; gives = rw s refl }

-- a spelling and a closing quote
parts_read : (quote : ℕ) (ps : List QuotedPart) (text : List ℕ) (p : ℕ) → IsQuote quote
    → IsSpelling quote ps → 0 < column_at text p → Has text p (spelling ps ++ quote ∷ [])
    → quote_at quote text (p + length (spelling ps)) ≡ Closing
    → Read quote text p (all_read_as ps) (p + length (spelling ps) + 1)
unfolding IsSpelling all_read_as spelling
parts_read quote [] text p q s c h k =
    let same : p + 0 ≡ p = omega arith in
    read_at quote text p (p + 1) (p + 0 + 1) [] (omega arith) (read_close quote text p (close_standing quote text p q c h.0 (subst (λ n. quote_at quote text n ≡ Closing) same k)))
parts_read quote (x ∷ ps) text p q (stand, follow, more) c h k =
    let whole : Has text p (spelled x ++ (spelling ps ++ quote ∷ [])) = subst (λ (t : List ℕ). Has text p t) (append_assoc (spelled x) (spelling ps) (quote ∷ [])) h in
    let part = part_through quote text p x q stand c (has_front text p (spelled x) _ whole) in
    let all : length (spelled x ++ spelling ps) ≡ length (spelled x) + length (spelling ps) = length-append (spelled x) (spelling ps) in
    let same : p + length (spelled x ++ spelling ps) ≡ p + length (spelled x) + length (spelling ps) = omega (arith, all) in
    let rest = parts_read quote ps text (p + length (spelled x)) q more part.column (has_rest text p (spelled x) _ whole) (subst (λ n. quote_at quote text n ≡ Closing) same k) in
    read_at quote text p (p + length (spelled x) + length (spelling ps) + 1) _ _ (omega (arith, all)) (part.reads (all_read_as ps) _ rest)

-- ---- as many steps as the text has bytes

front_more : (qs : List Piece) (r s : Result (List Piece × ℕ) Wrong) (x : List Piece × ℕ)
    → ((y : List Piece × ℕ) → r ≡ Ok y → s ≡ Ok y) → with_front qs r ≡ Ok x → with_front qs s ≡ Ok x
front_more qs (Ok y) s x h e = rw (h y refl) e
front_more qs (Err w) s x h e = absurd (cc)

followed_more : (f g : ℕ → Result (List Piece × ℕ) Wrong) (p : ℕ) (st : QuotedSpot)
    (x : List Piece × ℕ) → ((q : ℕ) (y : List Piece × ℕ) → f q ≡ Ok y → g q ≡ Ok y)
    → followed f p st ≡ Ok x → followed g p st ≡ Ok x
followed_more f g p Closing x h e = e
followed_more f g p (Pieces qs q) x h e = front_more qs (f q) (g q) x (h q) e
followed_more f g p (Bad w) x h e = absurd (cc)

more_fuel : (n m quote : ℕ) (text : List ℕ) (p : ℕ) (x : List Piece × ℕ) → n ≤ m
    → pieces n quote text p ≡ Ok x → pieces m quote text p ≡ Ok x
unfolding pieces
more_fuel zero m quote text p x l e = absurd (cc)
more_fuel (suc n) zero quote text p x l e = absurd (omega arith)
more_fuel (suc n) (suc m) quote text p x l e = followed_more (pieces n quote text) (pieces m quote text) p (standing_at quote text p) x (λ q y k. more_fuel n m quote text q y (omega arith) k) e

valued_ok : (r : Result (List Piece × ℕ) Wrong) (qs : List Piece) (v : List ℕ) (d e : ℕ)
    → r ≡ Ok (qs, d) → value qs ≡ v → d ≡ e → valued value r ≡ Ok (v, e)
valued_ok r qs v d e a b c = rw (a, b, c) refl

quote_low : (quote : ℕ) → IsQuote quote → (0 < quote) × (13 < quote) × (quote < 128)
quote_low quote (inl e) = (omega arith, omega arith, omega arith)
quote_low quote (inr e) = (omega arith, omega arith, omega arith)

quote_starts : (quote : ℕ) → IsQuote quote → starts quote ≡ true
quote_starts quote (inl e) = rw e refl
quote_starts quote (inr e) = rw e refl

quoted_reads : (quote : ℕ) (ps : List QuotedPart) (text : List ℕ) (p : ℕ) → IsQuote quote
    → IsSpelling quote ps → HasAt text p (quoted quote ps)
    → quote_at quote text (p + 1 + length (spelling ps)) ≡ Closing
    → quoted_at quote text p ≡ Ok (meaning ps, p + length (quoted quote ps))
quoted_reads quote ps text p q s at k =
    let (first, h) = has text p (quoted quote ps) at in
    let low = quote_low quote q in
    let c = column_start text p (rw first (calm_end _ _ quote _ (calm_from quote low.1 low.2))) (rw first (quote_starts quote q)) in
    let r = parts_read quote ps text (p + 1) q s c h k in
    let last = (has_rest text (p + 1) (spelling ps) (quote ∷ []) h).0 in
    let inside = within text (p + 1 + length (spelling ps)) (rw last low.0) in
    let few = r.few in
    let all : length (spelling ps ++ quote ∷ []) ≡ length (spelling ps) + 1 = length-append (spelling ps) (quote ∷ []) in
    valued_ok (pieces (length text) quote text (p + 1)) (all_read_as ps) (meaning ps) _ _ (more_fuel r.fuel (length text) quote text (p + 1) _ (omega arith) r.gives) (spelling_value quote ps s) (omega (arith, all))

-- A spelling between double quotes reads back as what its parts mean.
pub spelling_reads : (parts : List QuotedPart) (text : List ℕ) (p : ℕ) → IsSpelling 34 parts
    → HasAt text p (quoted 34 parts)
    → double_quoted_at text p ≡ Ok (meaning parts, p + length (quoted 34 parts))
unfolding quote_at
spelling_reads parts text p s at = quoted_reads 34 parts text p (inl refl) s at refl

-- A spelling between single quotes reads back as what its parts mean, unless one quote more follows.
pub single_spelling_reads : (parts : List QuotedPart) (text : List ℕ) (p : ℕ) → IsSpelling 39 parts
    → HasAt text p (quoted 39 parts)
    → (byte text (p + length (quoted 39 parts)) ≡ 39 → ⊥)
    → single_quoted_at text p ≡ Ok (meaning parts, p + length (quoted 39 parts))
unfolding quote_at
single_spelling_reads parts text p s at n =
    let all : length (spelling parts ++ 39 ∷ []) ≡ length (spelling parts) + 1 = length-append (spelling parts) (39 ∷ []) in
    let same : p + 1 + length (spelling parts) + 1 ≡ p + length (quoted 39 parts) = omega (arith, all) in
    quoted_reads 39 parts text p (inr refl) s at (rw (ne_eqb _ 39 (λ e. n (sym (ap (λ k. byte text k) same) ∙ e))) refl)
