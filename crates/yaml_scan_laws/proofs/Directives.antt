-- Directives that are written.
use Rattle.std.proofs.Common.{◌≡◌, ℕ, suc, ◌+◌, ◌-◌, ◌<◌, ◌==◌, true, false, List, [], ◌∷◌, ◌++◌, length, slice_range, Ok, Err, refl, sym, ap, subst, ◌∙◌, arith, add-zero, length-append}
use Rattle.std.specs.Prelude.{codes, if◌then◌else◌}
use Rattle.yaml_scan_laws.proofs.TextWords.{nat_tests, byte, break_width, is_alpha_byte, is_digit_byte, is_digit, is_break, within, belongs, run_end, version, tag, then_at, decimal, number_between, number_at, minor_at, version_at, handle_at, prefix_ended, prefix_at, with_prefix, tag_directive_at, value_at, directive_at, is_uri, some_uri_at, Has, has_front, has_rest, range_reads, run_stop, alphas_run, no_alpha_at, uri_range, uri_is_read}
use Rattle.yaml_scan_history.specs.scan_model.declared.problem.Context.TheVariants as contexts
use Rattle.yaml_scan_history.specs.scan_model.declared.problem.Problem.TheVariants as problems
use Rattle.yaml_scan_history.specs.scan_types.Classes.{is_blank}
use Rattle.yaml_scan_history.specs.Written.{HasAt, are_alphas, UriPiece, raw, escape, uri_text, uri_bytes, IsUri}
use Rattle.yaml_scan_history.proofs.HasLemmas.{has}
use Rattle.yaml_scan_laws.specs.WordsLaws.{IsHandle, directive_text}
use Rattle.yaml_scan_laws.proofs.Lines.{one_run, blank_is, no_blank, digit_is, dot_no_digit, space_no_alpha, space_ends, break_ends, break_no_digit, break_no_uri, line_ends}

-- ---- names

are_yaml : are_alphas (89 ∷ 65 ∷ 77 ∷ 76 ∷ []) ≡ true
unfolding is_alpha_byte is_digit_byte
are_yaml = refl

are_tag : are_alphas (84 ∷ 65 ∷ 71 ∷ []) ≡ true
unfolding is_alpha_byte is_digit_byte
are_tag = refl

-- after `%YAML` there is a version
yaml_value : (text : List ℕ) (p : ℕ) → Has text (p + 1) (89 ∷ 65 ∷ 77 ∷ 76 ∷ 32 ∷ [])
    → value_at text p ≡ version_at text (p + 5)
yaml_value text p h =
    let (y, (a, (m, (l, (space, none))))) = h in
    let front = has_front text (p + 1) (89 ∷ 65 ∷ 77 ∷ 76 ∷ []) (32 ∷ []) h in
    let far : p + 1 + 4 ≡ p + 5 = omega arith in
    let close : byte text (p + 1 + 4) ≡ 32 = ap (λ q. byte text q) (omega arith) ∙ space in
    let run = alphas_run (89 ∷ 65 ∷ 77 ∷ 76 ∷ []) (length text) text (p + 1) front are_yaml (no_alpha_at text (p + 1 + 4) (space_no_alpha text (p + 1 + 4) close)) (omega arith) in
    let b2 : byte text (p + 1 + 2) ≡ 77 = ap (λ q. byte text q) (omega arith) ∙ m in
    let b3 : byte text (p + 1 + 3) ≡ 76 = ap (λ q. byte text q) (omega arith) ∙ l in
    let some : (p + 1 == p + 1 + 4) ≡ false = grind (arith, nat_tests) in
    let count : p + 1 + 4 - (p + 1) ≡ 4 = omega arith in
    let whole : value_at text p ≡ version_at text (p + 1 + 4) = rw (run, some, space_ends text (p + 1 + 4) close, y, a, b2, b3, count) refl in
    whole ∙ ap (λ q. version_at text q) far

-- after `%TAG` a handle and a prefix
tag_value : (text : List ℕ) (p : ℕ) → Has text (p + 1) (84 ∷ 65 ∷ 71 ∷ 32 ∷ [])
    → value_at text p ≡ tag_directive_at text (p + 4)
tag_value text p h =
    let (t, (a, (g, (space, none)))) = h in
    let front = has_front text (p + 1) (84 ∷ 65 ∷ 71 ∷ []) (32 ∷ []) h in
    let far : p + 1 + 3 ≡ p + 4 = omega arith in
    let close : byte text (p + 1 + 3) ≡ 32 = ap (λ q. byte text q) (omega arith) ∙ space in
    let run = alphas_run (84 ∷ 65 ∷ 71 ∷ []) (length text) text (p + 1) front are_tag (no_alpha_at text (p + 1 + 3) (space_no_alpha text (p + 1 + 3) close)) (omega arith) in
    let b2 : byte text (p + 1 + 2) ≡ 71 = ap (λ q. byte text q) (omega arith) ∙ g in
    let some : (p + 1 == p + 1 + 3) ≡ false = grind (arith, nat_tests) in
    let count : p + 1 + 3 - (p + 1) ≡ 3 = omega arith in
    let whole : value_at text p ≡ tag_directive_at text (p + 1 + 3) = rw (run, some, space_ends text (p + 1 + 3) close, t, a, b2, count) refl in
    whole ∙ ap (λ q. tag_directive_at text q) far

-- ---- versions

number_by : (run : _) (text : List ℕ) (p : ℕ) → belongs run text p ≡ true
    → belongs run text (p + 1) ≡ false
    → number_between text p (run_end run text p) ≡ Ok (decimal text p 1, p + 1)
number_by run text p here stop = grind (arith, nat_tests, one_run)

one_digit : (text : List ℕ) (p d : ℕ) → d < 10 → byte text p ≡ 48 + d
    → is_digit text (p + 1) ≡ false → number_at text p ≡ Ok (d, p + 1)
unfolding belongs
one_digit text p d small h stop =
    let first : number_at text p ≡ Ok (decimal text p 1, p + 1) = number_by _ text p (digit_is text p (48 + d) h (omega arith) (omega (arith, small))) stop in
    let one : decimal text p 1 ≡ d = unfold decimal in rw (add-zero, h) (omega arith) in
    first ∙ ap (λ n. Ok (n, p + 1)) one

version_by : (run : _) (text : List ℕ) (p : ℕ) → belongs run text p ≡ true
    → belongs run text (p + 1) ≡ false
    → then_at (minor_at text) (number_at text (run_end run text p))
    ≡ then_at (minor_at text) (number_at text (p + 1))
version_by run text p here stop = ap (λ q. then_at (minor_at text) (number_at text q)) (one_run run text p here stop)

version_spaced : (text : List ℕ) (p : ℕ) → byte text p ≡ 32 → is_blank text (p + 1) ≡ false
    → version_at text p ≡ then_at (minor_at text) (number_at text (p + 1))
unfolding belongs
version_spaced text p space stop = version_by _ text p (blank_is text p space) stop

version_here : (text : List ℕ) (p minor : ℕ) → minor < 10 → byte text p ≡ 32
    → byte text (p + 1) ≡ 49 → byte text (p + 2) ≡ 46 → byte text (p + 3) ≡ 48 + minor
    → is_break text (p + 4) ≡ true
    → version_at text p ≡ Ok record { said = version 1 minor; end = p + 4 }
version_here text p minor small space one dot digit stop =
    let e2 : p + 1 + 1 ≡ p + 2 = omega arith in
    let e3 : p + 2 + 1 ≡ p + 3 = omega arith in
    let e4 : p + 3 + 1 ≡ p + 4 = omega arith in
    let major : number_at text (p + 1) ≡ Ok (1, p + 1 + 1) = one_digit text (p + 1) 1 (omega arith) one (rw e2 (dot_no_digit text (p + 2) dot)) in
    let last : number_at text (p + 3) ≡ Ok (minor, p + 3 + 1) = one_digit text (p + 3) minor small digit (rw e4 (break_no_digit text (p + 4) stop)) in
    let front = version_spaced text p space (no_blank text (p + 1) 49 one (omega arith) (omega arith)) in
    front ∙ rw (major, e2, dot, e3, last, e4) refl

-- A `%YAML` line reads back as its version.
pub version_is_read : (text : List ℕ) (p minor : ℕ) → minor < 10
    → HasAt text p (codes "%YAML 1." ++ ((48 + minor) ∷ [])) → is_break text (p + 9) ≡ true
    → directive_at text p ≡ Ok record
    { said = version 1 minor; end = p + 9; place = p + 9 + break_width text (p + 9) }
version_is_read text p minor small h stop =
    let (mark, (y, (a, (m, (l, (space, (one, (dot, (digit, none))))))))) = has text p (37 ∷ 89 ∷ 65 ∷ 77 ∷ 76 ∷ 32 ∷ 49 ∷ 46 ∷ (48 + minor) ∷ []) h in
    let named = yaml_value text p (y, (a, (m, (l, (space, tt))))) in
    let s : byte text (p + 5) ≡ 32 = ap (λ q. byte text q) (omega arith) ∙ space in
    let o : byte text (p + 5 + 1) ≡ 49 = ap (λ q. byte text q) (omega arith) ∙ one in
    let d : byte text (p + 5 + 2) ≡ 46 = ap (λ q. byte text q) (omega arith) ∙ dot in
    let n : byte text (p + 5 + 3) ≡ 48 + minor = ap (λ q. byte text q) (omega arith) ∙ digit in
    let far : p + 5 + 4 ≡ p + 9 = omega arith in
    let value = version_here text (p + 5) minor small s o d n (rw far stop) in
    rw (named, value, far, line_ends text (p + 9) stop) refl

-- ---- tags

mark_alpha : is_alpha_byte 33 ≡ false
unfolding is_alpha_byte is_digit_byte
mark_alpha = refl

lone_read : (text : List ℕ) (p : ℕ) → byte text p ≡ 33 → byte text (p + 1) ≡ 32
    → handle_at text p ≡ Ok (33 ∷ [], p + 1)
lone_read text p mark space =
    let run = run_stop (length text) _ text (p + 1) (no_alpha_at text (p + 1) (space_no_alpha text (p + 1) space)) in
    let inside = within text p (omega (arith, mark)) in
    let slice : slice_range text p (p + 1) ≡ 33 ∷ [] = range_reads text p (33 ∷ []) (mark, tt) (omega (arith, inside)) in
    let same : (p + 1 == p + 1) ≡ true = grind (arith, nat_tests) in
    rw (mark, run, space, same, slice) refl

named_read : (text : List ℕ) (p : ℕ) (name : List ℕ) → Has text p (33 ∷ (name ++ (33 ∷ [])))
    → are_alphas name ≡ true
    → handle_at text p ≡ Ok (33 ∷ (name ++ (33 ∷ [])), p + 1 + length name + 1)
named_read text p name h are =
    let (mark, all) = h in
    let front = has_front text (p + 1) name (33 ∷ []) all in
    let (close, none) = has_rest text (p + 1) name (33 ∷ []) all in
    let q = p + 1 + length name in
    let run = alphas_run name (length text) text (p + 1) front are (no_alpha_at text q (rw close mark_alpha)) (omega arith) in
    let inside = within text q (omega (arith, close)) in
    let count : length (name ++ (33 ∷ [])) ≡ length name + 1 = length-append name (33 ∷ []) in
    let to : p + suc (length (name ++ (33 ∷ []))) ≡ p + 1 + length name + 1 = omega (arith, count) in
    let slice : slice_range text p (p + 1 + length name + 1) ≡ 33 ∷ (name ++ (33 ∷ [])) = rw to at (range_reads text p (33 ∷ (name ++ (33 ∷ []))) h (omega (arith, count, inside))) in
    rw (mark, run, close, slice) refl

handle_read : (text : List ℕ) (p : ℕ) (handle : List ℕ) → IsHandle handle → Has text p handle
    → byte text (p + length handle) ≡ 32 → handle_at text p ≡ Ok (handle, p + length handle)
handle_read text p handle h3 h space = grind (arith, nat_tests, lone_read, length-append, named_read)

some_bytes : (pieces : List UriPiece) → 0 < length pieces → (length (uri_bytes pieces) == 0) ≡ false
some_bytes [] h = absurd (omega arith)
some_bytes (piece ∷ pieces) h = grind (arith, nat_tests)

-- a URI begins with no blank
no_blank_first : (text : List ℕ) (p : ℕ) (pieces : List UriPiece) → 0 < length pieces
    → Has text p (uri_text pieces) → IsUri true 0 pieces → is_blank text p ≡ false
no_blank_first text p [] some h is = absurd (omega arith)
no_blank_first text p (raw b ∷ pieces) some (e, h) (none, kept, is) =
    let here : is_uri true text p ≡ true = rw e kept in
    let (low, high) = uri_range true text p here in
    no_blank text p (byte text p) refl (omega (arith, low)) (omega (arith, low))
no_blank_first text p (escape b ∷ pieces) some (e, h) is = no_blank text p 37 e (omega arith) (omega arith)

prefix_by : (run : _) (text : List ℕ) (p : ℕ) → belongs run text p ≡ true
    → belongs run text (p + 1) ≡ false
    → (if belongs run text p then prefix_ended text
    (some_uri_at contexts.TagDirectiveUri true text (run_end run text p))
    else Err record { problem = problems.NoWhitespace; context = contexts.TagDirective; place = p })
    ≡ prefix_ended text (some_uri_at contexts.TagDirectiveUri true text (p + 1))
prefix_by run text p here stop = rw (here, one_run run text p here stop) refl

prefix_spaced : (text : List ℕ) (p : ℕ) → byte text p ≡ 32 → is_blank text (p + 1) ≡ false
    → prefix_at text p ≡ prefix_ended text (some_uri_at contexts.TagDirectiveUri true text (p + 1))
prefix_spaced text p space stop = prefix_by _ text p (unfold belongs in blank_is text p space) (unfold belongs in stop)

prefix_read : (text : List ℕ) (p : ℕ) (pieces : List UriPiece) → byte text p ≡ 32
    → 0 < length pieces → Has text (p + 1) (uri_text pieces) → IsUri true 0 pieces
    → is_break text (p + 1 + length (uri_text pieces)) ≡ true
    → prefix_at text p ≡ Ok (uri_bytes pieces, p + 1 + length (uri_text pieces))
prefix_read text p pieces space some h is stop =
    let e = p + 1 + length (uri_text pieces) in
    let read = uri_is_read contexts.TagDirectiveUri true text (p + 1) pieces h is (break_no_uri text e stop) in
    prefix_spaced text p space (no_blank_first text (p + 1) pieces some h is) ∙ rw (read, some_bytes pieces some, break_ends text e stop) refl

handle_first : (text : List ℕ) (p : ℕ) (handle rest : List ℕ) → IsHandle handle
    → Has text p (handle ++ rest) → byte text p ≡ 33
handle_first text p handle rest v4 h = grind (arith, nat_tests, has)

handle_by : (run : _) (text : List ℕ) (p : ℕ) → belongs run text p ≡ true
    → belongs run text (p + 1) ≡ false
    → then_at (λ handle q. with_prefix handle (prefix_at text q))
    (handle_at text (run_end run text p))
    ≡ then_at (λ handle q. with_prefix handle (prefix_at text q)) (handle_at text (p + 1))
handle_by run text p here stop = ap (λ k. then_at (λ handle q. with_prefix handle (prefix_at text q)) (handle_at text k)) (one_run run text p here stop)

handle_spaced : (text : List ℕ) (p : ℕ) → byte text p ≡ 32 → is_blank text (p + 1) ≡ false
    → tag_directive_at text p ≡ then_at (λ handle q. with_prefix handle (prefix_at text q))
    (handle_at text (p + 1))
unfolding belongs
handle_spaced text p space stop = handle_by _ text p (blank_is text p space) stop

tag_here : (text : List ℕ) (p : ℕ) (handle : List ℕ) (pieces : List UriPiece) → byte text p ≡ 32
    → Has text (p + 1) (handle ++ (32 ∷ uri_text pieces)) → IsHandle handle → 0 < length pieces
    → IsUri true 0 pieces
    → is_break text (p + 1 + length handle + 1 + length (uri_text pieces)) ≡ true
    → tag_directive_at text p ≡ Ok record {
      said = tag handle (uri_bytes pieces);
      end = p + 1 + length handle + 1 + length
          (uri_text pieces);
    }
tag_here text p handle pieces space h shaped some is stop =
    let mark = handle_first text (p + 1) handle (32 ∷ uri_text pieces) shaped h in
    let spaced = handle_spaced text p space (no_blank text (p + 1) 33 mark (omega arith) (omega arith)) in
    let front = has_front text (p + 1) handle (32 ∷ uri_text pieces) h in
    let (part, uri) = has_rest text (p + 1) handle (32 ∷ uri_text pieces) h in
    let last = prefix_read text (p + 1 + length handle) pieces part some uri is stop in
    spaced ∙ rw (handle_read text (p + 1) handle shaped front part, last) refl

-- A `%TAG` line reads back as its handle and prefix.
pub tag_directive_is_read : (text : List ℕ) (p : ℕ) (handle : List ℕ) (pieces : List UriPiece)
    → HasAt text p (directive_text handle pieces) → IsHandle handle → 0 < length pieces
    → IsUri true 0 pieces
    → is_break text (p + length (directive_text handle pieces)) ≡ true
    → let end = p + length (directive_text handle pieces) in
    directive_at text p ≡ Ok record {
      said = tag handle (uri_bytes pieces);
      end = end;
      place = end +
          break_width text end;
    }
tag_directive_is_read text p handle pieces h shaped some is stop =
    let rest = handle ++ (32 ∷ uri_text pieces) in
    let (mark, (t, (a, (g, (space, all))))) = has text p (37 ∷ 84 ∷ 65 ∷ 71 ∷ 32 ∷ rest) h in
    let named = tag_value text p (t, (a, (g, (space, tt)))) in
    let s : byte text (p + 4) ≡ 32 = ap (λ q. byte text q) (omega arith) ∙ space in
    let five : p + 1 + 1 + 1 + 1 + 1 ≡ p + 4 + 1 = omega arith in
    let there : Has text (p + 4 + 1) rest = subst (λ q. Has text q rest) five all in
    let count : length (handle ++ (32 ∷ uri_text pieces)) ≡ length handle + suc (length (uri_text pieces)) = length-append handle (32 ∷ uri_text pieces) in
    let far : p + length (directive_text handle pieces) ≡ p + 4 + 1 + length handle + 1 + length (uri_text pieces) = omega (arith, count) in
    let stops : is_break text (p + 4 + 1 + length handle + 1 + length (uri_text pieces)) ≡ true = subst (λ q. is_break text q ≡ true) far stop in
    let value = tag_here text (p + 4) handle pieces s there shaped some is stops in
    let e = p + 4 + 1 + length handle + 1 + length (uri_text pieces) in
    let whole : directive_at text p ≡ Ok record { said = tag handle (uri_bytes pieces); end = e; place = e + break_width text e } = rw (named, value, line_ends text e stops) refl in
    whole ∙ ap (λ q. Ok record { said = tag handle (uri_bytes pieces); end = q; place = q + break_width text q }) (sym far)
