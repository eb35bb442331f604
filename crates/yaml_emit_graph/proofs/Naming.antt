-- Names, which are UTF-8.
use Rattle.std.proofs.Common.{◌≡◌, ℕ, ◌<◌, ◌^◌, List, ◌++◌, length, refl, sym, subst, decimal, rules}
use Rattle.std.specs.Prelude.{◌==◌, codes}
use Rattle.std.specs.Str.{IsUtf8, IsAscii}
use Rattle.std.proofs.lemmas.Bool.{cond_both}
use Rattle.std.proofs.lemmas.Str.{IsUtf8-append, IsUtf8-from_ascii}
use Rattle.std.proofs.lemmas.Fmt.{IsAscii-decimal}
use Rattle.yaml_emit_graph.specs.Graph.{lead, decimal_text, name_of}
use Rattle.yaml_emit_graph.proofs.Decimals.{written}

lead_utf8 : (n : ℕ) → IsUtf8 (lead n)
lead_utf8 n = cond_both (n == 1) _ _ IsUtf8 (λ _. IsUtf8-from_ascii (codes "id00") (search rules)) (λ _. cond_both (n == 2) _ _ IsUtf8 (λ _. IsUtf8-from_ascii (codes "id0") (search rules)) (λ _. IsUtf8-from_ascii (codes "id") (search rules)))

pub name_utf8 : (number : ℕ) → number < 2 ^ 64 → IsUtf8 (name_of number)
unfolding name_of
name_utf8 number h = IsUtf8-append (lead (length (decimal_text number))) (decimal_text number) (lead_utf8 (length (decimal_text number))) (IsUtf8-from_ascii (decimal_text number) (subst IsAscii (sym (written number h)) (IsAscii-decimal number h)))

pub name_made : (number size : ℕ) (items digits front : List ℕ) → number < 2 ^ 64
    → digits ≡ decimal number → size ≡ length digits → front ≡ lead size → items ≡ front ++ digits
    → items ≡ name_of number
unfolding name_of
name_made number size items digits front h d n f e = rw (e, f, n, d, written number h) refl
