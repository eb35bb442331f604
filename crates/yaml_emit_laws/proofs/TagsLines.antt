-- Directives that are written are read.
use Rattle.std.proofs.Common.{◌≡◌, ℕ, ◌+◌, true, List, ◌∷◌, ◌++◌, length, Ok, ap, subst, ◌∙◌, arith, codes}
use Rattle.yaml_emit_laws.proofs.Shared.{break_width, is_break, directive_at, HasAt, tag_directive_is_read, TagDirective, IsReadableDirective, directive_bytes}
use Rattle.yaml_scan_history.specs.Directives as directives
use Rattle.yaml_scan_history.specs.Written as written
use Rattle.yaml_emit_laws.proofs.Pieces.{pieces_of, text_is, bytes_are, many_are, text_uri}

-- A readable directive's line reads back as its handle and prefix.
pub directive_read : (d : TagDirective) → IsReadableDirective d → (text : List ℕ) (p : ℕ)
    → HasAt text p (directive_bytes d) → is_break text (p + length (directive_bytes d)) ≡ true
    → let end = p + length (directive_bytes d) in
    directive_at text p ≡ Ok record {
      said = directives.tag d.handle d.prefix;
      end = end;
      place =
          end + break_width text end;
    }
directive_read d (shaped, utf8, some) text p h stop =
    let pieces = pieces_of true d.prefix in
    let P : List ℕ → Type 0 =
    λ (u : List ℕ). HasAt text p (codes "%TAG " ++ (d.handle ++ (32 ∷ u))) → is_break text (p + length (codes "%TAG " ++ (d.handle ++ (32 ∷ u)))) ≡ true
    → let end = p + length (codes "%TAG " ++ (d.handle ++ (32 ∷ u))) in directive_at text p ≡ Ok record { said = directives.tag d.handle d.prefix; end = end; place = end + break_width text end } in
    let e = p + length (codes "%TAG " ++ (d.handle ++ (32 ∷ written.uri_text pieces))) in
    let read : P (written.uri_text pieces) =
    λ has break. tag_directive_is_read text p d.handle pieces has shaped (omega (arith, some, many_are true d.prefix)) (text_uri true d.prefix utf8) break
    ∙ ap (λ (bs : List ℕ). Ok record { said = directives.tag d.handle bs; end = e; place = e + break_width text e }) (bytes_are true d.prefix) in
    subst P (text_is true d.prefix) read h stop
