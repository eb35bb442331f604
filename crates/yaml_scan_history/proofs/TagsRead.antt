-- Tags that are written.
use Rattle.std.proofs.Common.{◌≡◌, ◌≢◌, ℕ, suc, ◌+◌, ◌<◌, ◌≤◌, ◌==◌, ◌&&◌, ◌||◌, Bool, true, false, not, List, [], ◌∷◌, ◌++◌, length, slice_range, Ok, refl, sym, ◌∙◌, inl, inr, append_assoc, arith, length-append, rules}
use Rattle.yaml_scan_history.proofs.Words.{and_right, cases_Bool, true≢false, eqb-false, false_from_ne_true, not-true, no_break_between, or_cases, or_from, and_parts, ne_eqb, nat_tests, byte, is_alpha_byte, is_digit_byte, within, belongs, run_within, is_punctuation, is_wide_punctuation, is_uri, name_end, parts_at, may_end_tag, tag_at, HasAt, are_alphas, UriPiece, raw, escape, uri_text, uri_bytes, is_kept, IsUri, has_no_mark}
use Rattle.yaml_scan_model.specs.declared.problem.Context.TheVariants as contexts
use Rattle.yaml_scan_history.specs.declared.run.Run.TheVariants as runs
use Rattle.yaml_scan_history.proofs.WordsRunsLemmas.{alpha_range, run_more, run_stop}
use Rattle.yaml_scan_history.proofs.UrisLemmas.{kept_parts, uri_range}
use Rattle.yaml_scan_history.proofs.HasLemmas.{Has, has, has_front, has_rest, range_reads}
use Rattle.yaml_scan_history.proofs.NamesRead.{alpha_at, no_alpha_at, alphas_run}
use Rattle.yaml_scan_history.proofs.UrisRead.{uri_is_read}

kept_comma : (b : ℕ) → is_kept false b ≡ true → b ≢ 44
kept_comma b h =
    elim (or_cases (is_alpha_byte b) (is_punctuation b || false) h) [
      | inl a ↦ let (low, high, angle) = alpha_range b a in omega arith
      | inr more ↦ elim (or_cases (is_punctuation b) false more) [
        | inl s ↦ unfold is_punctuation in grind (arith, nat_tests)
        | inr w ↦ absurd (true≢false (sym w))
      ]
    ]

-- a printed character that is no `,` ends no tag
goes_on : (flow : Bool) (text : List ℕ) (p : ℕ) → 32 < byte text p → byte text p < 127
    → byte text p ≢ 44 → may_end_tag flow text p ≡ false
goes_on flow text p low high comma = search (rules, and_right, ne_eqb, no_break_between)

pub ends_other : (flow : Bool) (text : List ℕ) (p : ℕ) → may_end_tag flow text p ≡ true
    → 32 < byte text p → byte text p < 127 → byte text p ≢ 44 → ⊥
ends_other flow text p h low high comma = true≢false (sym h ∙ goes_on flow text p low high comma)

uri_stops : (flow : Bool) (text : List ℕ) (p : ℕ) → may_end_tag flow text p ≡ true
    → (byte text p == 37 || is_uri false text p) ≡ false
uri_stops flow text p h =
    or_from _ _ (ne_eqb _ _ (λ e. ends_other flow text p h (omega arith) (omega arith) (omega arith))) (false_from_ne_true _ (λ u.
    let (low, high) = uri_range false text p u in
    ends_other flow text p h low high (kept_comma (byte text p) u)))

alpha_stops : (flow : Bool) (text : List ℕ) (p : ℕ) → may_end_tag flow text p ≡ true
    → belongs runs.Alphas text p ≡ false
alpha_stops flow text p h = search (rules, alpha_range, ends_other, false_from_ne_true, no_alpha_at)

mark_alpha : is_alpha_byte 33 ≡ false
unfolding is_alpha_byte is_digit_byte
mark_alpha = refl

-- no `!` is after the alphas of a URI without one
unmarked : (pieces : List UriPiece) (n : ℕ) (text : List ℕ) (p : ℕ) → Has text p (uri_text pieces)
    → has_no_mark pieces ≡ true
    → byte text (p + length (uri_text pieces)) ≢ 33
    → belongs runs.Alphas text (p + length (uri_text pieces)) ≡ false → length text ≤ p + n
    → byte text (run_within n runs.Alphas text p) ≢ 33
unmarked [] n text p h free mark stop room =
    let z : p + 0 ≡ p = omega arith in
    let here : belongs runs.Alphas text p ≡ false = rw z at stop in
    rw (run_stop n runs.Alphas text p here) (rw z at mark)
unmarked (raw b ∷ pieces) n text p (e, h) free mark stop room =
    let (first, rest) = and_parts (not (b == 33)) (has_no_mark pieces) free in
    let end : p + suc (length (uri_text pieces)) ≡ p + 1 + length (uri_text pieces) = omega arith in
    elim (cases_Bool (is_alpha_byte b)) [
      | inl a ↦
          let (m, more, same) = run_more n runs.Alphas text p (alpha_at text p b e a) room in
          rw same (unmarked pieces m text (p + 1) h rest (rw end at mark) (rw end at stop) more)
      | inr a ↦
          let none : belongs runs.Alphas text p ≡ false = no_alpha_at text p (rw e a) in
          rw (run_stop n runs.Alphas text p none, e) (eqb-false b 33 (not-true _ first))
    ]
unmarked (escape b ∷ pieces) n text p (e, h) free mark stop room =
    let none : belongs runs.Alphas text p ≡ false = no_alpha_at text p (rw e (unfold is_alpha_byte is_digit_byte in refl)) in
    rw (run_stop n runs.Alphas text p none, e) (omega arith)

some_bytes : (pieces : List UriPiece) → 0 < length pieces → (length (uri_bytes pieces) == 0) ≡ false
some_bytes [] h = absurd (omega arith)
some_bytes (piece ∷ pieces) h = ne_eqb (suc (length (uri_bytes pieces))) 0 (omega arith)

no_angle : (pieces : List UriPiece) (text : List ℕ) (p : ℕ) → 0 < length pieces
    → Has text p (uri_text pieces) → IsUri false 0 pieces → byte text p ≢ 60
no_angle [] text p some h is = absurd (omega arith)
no_angle (raw b ∷ pieces) text p some (e, h) (none, kept, is) = let (low, high, mark, angle) = kept_parts false b kept in rw e angle
no_angle (escape b ∷ pieces) text p some (e, h) is = rw e (omega arith)

-- A tag with the primary handle reads back.
pub bare_is_read : (flow : Bool) (text : List ℕ) (p : ℕ) (pieces : List UriPiece)
    → HasAt text p (33 ∷ uri_text pieces) → 0 < length pieces → IsUri false 0 pieces
    → has_no_mark pieces ≡ true
    → may_end_tag flow text (p + 1 + length (uri_text pieces)) ≡ true
    → tag_at flow text p ≡ Ok record {
      handle = 33
          ∷ [];
      suffix = uri_bytes pieces;
      end = p + 1 + length (uri_text pieces);
    }
unfolding parts_at
bare_is_read flow text p pieces h some is free stop =
    let (mark, all) = has text p (33 ∷ uri_text pieces) h in
    let e = p + 1 + length (uri_text pieces) in
    let angle : (byte text (p + 1) == 60) ≡ false = ne_eqb _ _ (no_angle pieces text (p + 1) some all is) in
    let last : byte text (p + 1 + length (uri_text pieces)) ≢ 33 = λ m. ends_other flow text e stop (omega (arith, m)) (omega (arith, m)) (omega (arith, m)) in
    let here = within text p (omega (arith, mark)) in
    let name : (byte text (name_end text p) == 33) ≡ false = ne_eqb _ _ (unmarked pieces (length text) text (p + 1) all free last (alpha_stops flow text e stop) (omega arith)) in
    let read = uri_is_read contexts.TagUri false text (p + 1) pieces all is (uri_stops flow text e stop) in
    rw (angle, name, read, some_bytes pieces some, stop) refl

bracket_plain : (62 == 37 || (is_alpha_byte 62
    || (is_punctuation 62 || (true && is_wide_punctuation 62)))) ≡ false
unfolding is_alpha_byte is_digit_byte is_punctuation is_wide_punctuation
bracket_plain = refl

-- A verbatim tag reads back.
pub verbatim_is_read : (flow : Bool) (text : List ℕ) (p : ℕ) (pieces : List UriPiece)
    → HasAt text p (33 ∷ (60 ∷ (uri_text pieces ++ (62 ∷ [])))) → 0 < length pieces
    → IsUri true 0 pieces
    → may_end_tag flow text (p + 3 + length (uri_text pieces)) ≡ true
    → tag_at flow text p ≡ Ok record {
      handle = [];
      suffix = uri_bytes pieces;
      end = p + 3 + length
          (uri_text pieces);
    }
unfolding parts_at
verbatim_is_read flow text p pieces h some is stop =
    let (mark, (angle, all)) = has text p (33 ∷ (60 ∷ (uri_text pieces ++ (62 ∷ [])))) h in
    let two : p + 1 + 1 ≡ p + 2 = omega arith in
    let there : Has text (p + 2) (uri_text pieces ++ (62 ∷ [])) = rw two at all in
    let body = has_front text (p + 2) (uri_text pieces) (62 ∷ []) there in
    let (close, none) = has_rest text (p + 2) (uri_text pieces) (62 ∷ []) there in
    let plain : (byte text (p + 2 + length (uri_text pieces)) == 37 || is_uri true text (p + 2 + length (uri_text pieces))) ≡ false = rw close bracket_plain in
    let read = uri_is_read contexts.TagUri true text (p + 2) pieces body is plain in
    let end : p + 2 + length (uri_text pieces) + 1 ≡ p + 3 + length (uri_text pieces) = omega arith in
    rw (angle, read, some_bytes pieces some, close, end, stop) refl

no_angle_name : (name rest : List ℕ) (text : List ℕ) (p : ℕ) → Has text p (name ++ (33 ∷ rest))
    → are_alphas name ≡ true → byte text p ≢ 60
no_angle_name [] rest text p (e, h) are = rw e (omega arith)
no_angle_name (b ∷ bs) rest text p (e, h) are = search (rules, alpha_range, and_parts)

-- A tag with a named handle reads back.
pub named_is_read : (flow : Bool) (text : List ℕ) (p : ℕ) (name : List ℕ) (pieces : List UriPiece)
    → HasAt text p (33 ∷ (name ++ (33 ∷ uri_text pieces))) → are_alphas name ≡ true
    → 0 < length pieces → IsUri false 0 pieces
    → may_end_tag flow text (p + 2 + length name + length (uri_text pieces)) ≡ true
    → tag_at flow text p ≡ Ok record {
      handle = 33
          ∷ (name ++ (33 ∷ []));
      suffix = uri_bytes pieces;
      end = p + 2 + length name + length
          (uri_text pieces);
    }
unfolding parts_at
named_is_read flow text p name pieces h are some is stop =
    let (mark, all) = has text p (33 ∷ (name ++ (33 ∷ uri_text pieces))) h in
    let q = p + 1 + length name in
    let here = within text p (omega (arith, mark)) in
    let front = has_front text (p + 1) name (33 ∷ uri_text pieces) all in
    let (close, body) = has_rest text (p + 1) name (33 ∷ uri_text pieces) all in
    let none : belongs runs.Alphas text (p + 1 + length name) ≡ false = no_alpha_at text q (rw close mark_alpha) in
    let name_is : name_end text p ≡ p + 1 + length name = alphas_run name (length text) text (p + 1) front are none (omega arith) in
    let angle : (byte text (p + 1) == 60) ≡ false = ne_eqb _ _ (no_angle_name name (uri_text pieces) text (p + 1) all are) in
    let inside = within text q (omega (arith, close)) in
    let regroup : (name ++ (33 ∷ [])) ++ uri_text pieces ≡ name ++ (33 ∷ uri_text pieces) = append_assoc name (33 ∷ []) (uri_text pieces) in
    let handle : Has text (p + 1) (name ++ (33 ∷ [])) = has_front text (p + 1) (name ++ (33 ∷ [])) (uri_text pieces) (rw regroup all) in
    let count : length (name ++ (33 ∷ [])) ≡ length name + 1 = length-append name (33 ∷ []) in
    let to : p + suc (length (name ++ (33 ∷ []))) ≡ p + 1 + length name + 1 = omega (arith, count) in
    let slice : slice_range text p (p + 1 + length name + 1) ≡ 33 ∷ (name ++ (33 ∷ [])) = rw to at (range_reads text p (33 ∷ (name ++ (33 ∷ []))) (mark, handle) (omega (arith, count, inside))) in
    let end : p + 1 + length name + 1 + length (uri_text pieces) ≡ p + 2 + length name + length (uri_text pieces) = omega arith in
    let stops : may_end_tag flow text (p + 1 + length name + 1 + length (uri_text pieces)) ≡ true = rw end stop in
    let read = uri_is_read contexts.TagUri false text (p + 1 + length name + 1) pieces body is (uri_stops flow text _ stops) in
    rw (angle, name_is, close, slice, read, some_bytes pieces some, end, stop) refl
