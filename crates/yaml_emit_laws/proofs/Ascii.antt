-- What is written for tags and directives is ASCII.
use Rattle.std.proofs.Common.{◌≡◌, inl, inr, ℕ, ◌<◌, Bool, true, false, nat_lt, List, [], ◌∷◌, ◌++◌, refl, ap, subst, arith, IsUtf8}
use Rattle.yaml_emit_laws.proofs.Shared.{nat_tests, is_alpha_byte, is_digit_byte, is_punctuation, is_wide_punctuation, are_alphas, UriPiece, escape, capital, is_kept, IsUri, and_from, and_parts, TagDirective, Split, shorthand, verbatim, spelled, uri_text, IsShaped, IsReadable, are_ascii, IsMarked, IsReadableDirective}
use Rattle.yaml_scan_history.specs.Written as written
use Rattle.yaml_scan_history.specs.Written.{raw}
use Rattle.yaml_emit_laws.proofs.Pieces.{pieces_of, text_is, text_uri}

append_ascii : (xs ys : List ℕ) → are_ascii xs ≡ true → are_ascii ys ≡ true
    → are_ascii (xs ++ ys) ≡ true
append_ascii [] ys e f = f
append_ascii (x ∷ xs) ys e f = and_from (nat_lt x 128) (are_ascii (xs ++ ys)) (and_parts (nat_lt x 128) (are_ascii xs) e).0 (append_ascii xs ys (and_parts (nat_lt x 128) (are_ascii xs) e).1 f)

kept_ascii : (wide : Bool) (b : ℕ) → is_kept wide b ≡ true → nat_lt b 128 ≡ true
unfolding is_alpha_byte is_digit_byte is_punctuation is_wide_punctuation
kept_ascii true b h = grind (arith, nat_tests)
kept_ascii false b h = grind (arith, nat_tests)

capital_ascii : (d : ℕ) → d < 16 → nat_lt (capital d) 128 ≡ true
unfolding capital
capital_ascii d h = grind (arith, nat_tests)

pieces_ascii : (wide : Bool) (due : ℕ) (pieces : List UriPiece) → IsUri wide due pieces
    → are_ascii (written.uri_text pieces) ≡ true
pieces_ascii wide due [] is = refl
pieces_ascii wide due (raw b ∷ pieces) (none, kept, is) = and_from (nat_lt b 128) (are_ascii (written.uri_text pieces)) (kept_ascii wide b kept) (pieces_ascii wide 0 pieces is)
pieces_ascii wide due (escape b ∷ pieces) (small, (next, due_is, is)) = grind (arith, nat_tests, capital_ascii, pieces_ascii wide next pieces is)

pub uri_ascii : (wide : Bool) (bs : List ℕ) → IsUtf8 bs → are_ascii (uri_text wide bs) ≡ true
uri_ascii wide bs u = subst (λ (t : List ℕ). are_ascii t ≡ true) (text_is wide bs) (pieces_ascii wide 0 (pieces_of wide bs) (text_uri wide bs u))

pub alpha_ascii : (b : ℕ) → is_alpha_byte b ≡ true → nat_lt b 128 ≡ true
unfolding is_alpha_byte is_digit_byte
alpha_ascii b h = grind (arith, nat_tests)

-- Letters and digits are in ASCII.
pub alphas_ascii : (name : List ℕ) → are_alphas name ≡ true → are_ascii name ≡ true
alphas_ascii [] e = refl
alphas_ascii (b ∷ bs) e =
    and_from (nat_lt b 128) (are_ascii bs) (alpha_ascii b (and_parts (is_alpha_byte b) (are_alphas bs) e).0) (alphas_ascii bs (and_parts (is_alpha_byte b) (are_alphas bs) e).1)

pub handle_ascii : (handle : List ℕ) → IsShaped handle → IsMarked handle
handle_ascii handle (inl e) = record { more = []; begins = e; ascii = refl }
handle_ascii handle (inr (name, e, are)) = record { more = name ++ (33 ∷ []); begins = e; ascii = append_ascii name (33 ∷ []) (alphas_ascii name are) refl }

-- A tag that is written by handle and suffix begins with a mark and is ASCII.
pub spelled_ascii : (split : Split) → IsReadable split → IsMarked (spelled split)
unfolding spelled
spelled_ascii (shorthand handle suffix) (shaped, utf8, some) =
    let h = handle_ascii handle shaped in
    record {
      more = h.more ++ uri_text false suffix;
      begins = ap (λ (t : List ℕ). t ++ uri_text false suffix) h.begins;
      ascii = append_ascii h.more (uri_text false suffix) h.ascii (uri_ascii false suffix utf8);
    }
spelled_ascii (verbatim tag) (utf8, some) = record {
  more = 60 ∷ (uri_text true tag ++ 62 ∷ []);
  begins = refl;
  ascii = append_ascii (uri_text true tag) (62 ∷ []) (uri_ascii true tag utf8) refl;
}

-- A readable directive's line is ASCII, and its handle is between marks.
pub directive_ascii : (d : TagDirective) → IsReadableDirective d
    → IsMarked d.handle × (are_ascii (uri_text true d.prefix) ≡ true)
directive_ascii d (shaped, utf8, some) = (handle_ascii d.handle shaped, uri_ascii true d.prefix utf8)
