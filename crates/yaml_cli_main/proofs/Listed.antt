-- Differences as they are shown, one after another.
use Rattle.std.proofs.Common.{◌≡◌, ◌∙◌, ℕ, ◌+◌, ◌<◌, ◌≤◌, ◌==◌, true, false, true≢false, List, [], ◌∷◌, ◌++◌, length, get_or, take, map, Option, Some, sym, subst, ap, arith}
use Rattle.std.proofs.lemmas.Bool.Decides.{nat_tests}
use Rattle.std.proofs.lemmas.List.{map-append, nil_from_length, take_all, take_more}
use Rattle.yaml_round.specs.declared.yaml_difference_t.{yaml_difference_t}
use Rattle.yaml_round.specs.declared.yaml_document_difference_t.{yaml_document_difference_t}
use Rattle.yaml_cli_program.specs.declared.Difference.{Difference}
use Rattle.yaml_cli_main.specs.Asked.{AreShown, TellsDifference, cause_of, shown_cause}

-- one more is shown, with the cause of what comes next
pub listed_next : (told : List yaml_document_difference_t) (at : ℕ)
    (d : yaml_document_difference_t) (shown : List Difference) (x : Difference)
    → map shown_cause shown ≡ map cause_of (take at told) → at < length told
    → x.cause ≡ cause_of (get_or told at d)
    → map shown_cause (shown ++ x ∷ []) ≡ map cause_of (take (at + 1) told)
listed_next told at d shown x h w e =
    map-append shown_cause shown (x ∷ [])
    ∙ ap (λ z. z ++ shown_cause x ∷ []) h ∙ ap (λ z. map cause_of (take at told) ++ z ∷ []) e
    ∙ sym (map-append cause_of (take at told) (get_or told at d ∷ []))
    ∙ ap (map cause_of) (sym (take_more told at d w))

pub all_listed : (told : List yaml_document_difference_t) (at : ℕ) (shown : List Difference)
    → map shown_cause shown ≡ map cause_of (take at told) → length told ≤ at
    → map shown_cause shown ≡ map cause_of told
all_listed told at shown h w = h ∙ ap (map cause_of) (take_all at told w)

-- one is shown
pub one_shown : (x : yaml_difference_t) (d : Difference) (before after : List Difference)
    → before ≡ [] → after ≡ before ++ d ∷ [] → TellsDifference d x → AreShown [] (Some x) after
one_shown x d before after e a t = (d, a ∙ ap (λ z. z ++ d ∷ []) e, t)

-- where documents differ
pub some_shown : (told : List yaml_document_difference_t) (content : Option yaml_difference_t)
    (shown : List Difference) → (length told == 0) ≡ false
    → map shown_cause shown ≡ map cause_of told → AreShown told content shown
some_shown [] content shown some e = absurd (true≢false some)
some_shown (t ∷ told) content shown some e = e

is_zero : (n : ℕ) → (n == 0) ≡ true → n ≡ 0
is_zero n h = grind (arith, nat_tests)

-- where they don't
pub none_shown : (told : List yaml_document_difference_t) (content : Option yaml_difference_t)
    (shown : List Difference) → (length told == 0) ≡ true → AreShown [] content shown
    → AreShown told content shown
none_shown told content shown none h =
    subst (λ x. AreShown x content shown) (sym (nil_from_length told (is_zero (length told) none))) h
