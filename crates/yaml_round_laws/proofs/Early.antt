-- A front that is refused before its end is refused so in the whole.
use Rattle.std.proofs.Common.{◌≡◌, ◌≢◌, ℕ, ◌<◌, true, List, [], ◌∷◌, ◌++◌, length, Option, Some, None, refl, sym, ap, subst, ◌∙◌, inl, inr, arith}
use Rattle.yaml_round_laws.proofs.WindowsWords.{append-nil, yaml_encoding_t, Fault, Remaining, is_document_start, parser_fault, Reading, spells_text, cut, IsCut, scan_of, refused_fronts_are_scanned, begun, stream_ends, parse_of, refused_fronts_stay, refused_tokens_stay, tokens_in, reading_in, EarlyFaultsAreRead}
use Rattle.yaml_parse_grammar.specs.declared.ParseProblem.TheVariants.{NoDocumentStart}
use Rattle.yaml_parse_laws_trees.specs.WindowsLaws as parse
use Rattle.yaml_round_laws.proofs.WindowsJoining.{AllSpell, cut_same, cut_behind, behind_tokens, passed, go_on, read_to, cut_marked, spell_push, spell_or}

-- it is refused so, after the same events
abbrev ReadSo : yaml_encoding_t → List ℕ → List ℕ → Fault → Type 0
ReadSo x a b f =
    (parse.events_in (reading_in x (a ++ b)) ≡ parse.events_in (reading_in x a))
    × ((reading_in x (a ++ b)).ending ≡ Some f)

same_reading : (x : yaml_encoding_t) (a b : List ℕ) (f : Fault) → (reading_in x a).ending ≡ Some f
    → tokens_in x (a ++ b) ≡ tokens_in x a → ReadSo x a b f
same_reading x a b f refused same =
    (ap (λ r. parse.events_in (read_to r)) same, ap (λ r. (read_to r).ending) same ∙ refused)

-- where the scanner refuses it
scanned_early : (x : yaml_encoding_t) (a b : List ℕ) → IsCut a b → (f : Fault)
    → (reading_in x a).ending ≡ Some f → f.problem_mark.index < length a
    → (g : Fault) → (scan_of x a).fault ≡ Some g → ReadSo x a b f
scanned_early x a b at f refused low g fault =
    let c = scan_of x a in
    let T = c.tokens in
    let (h, whole, same) = refused_fronts_are_scanned x a b at g fault in
    let there : tokens_in x (a ++ b) ≡ cut (Some h) T = ap (λ (y : Remaining). cut y.fault y.tokens) whole in
    let here : tokens_in x a ≡ cut (Some g) T = ap (λ y. cut y T) fault in
    elim (spell_or T) [
      | inr stops ↦
          let nothing = append-nil T in
          same_reading x a b f refused (there ∙ ap (cut (Some h)) (sym nothing) ∙ stops (Some h) (Some g) [] [] ∙ ap (cut (Some g)) nothing ∙ sym here)
      | inl spell ↦
          let mine : reading_in x a ≡ parse_of T (Some g) = ap read_to (here ∙ cut_same (Some g) T spell) in
          let others : reading_in x (a ++ b) ≡ parse_of T (Some h) = ap read_to (there ∙ cut_same (Some h) T spell) in
          elim (refused_tokens_stay T g f (ap (λ (r : Reading). r.ending) (sym mine) ∙ refused)) [
            | inl own ↦
                let one : h ≡ g = same (inl (subst (λ (z : Fault). z.problem_mark.index < length a) own low)) in
                same_reading x a b f refused (there ∙ ap (λ z. cut (Some z) T) one ∙ sym here)
            | inr stays ↦
                let (events, ending) = stays [] (Some h) in
                let list = ap (λ ts. parse_of ts (Some h)) (append-nil T) in (
                  ap parse.events_in (others ∙ sym list) ∙ events ∙ ap parse.events_in (sym mine),
                  ap (λ (r : Reading). r.ending) (others ∙ sym list) ∙ ending,
                )
          ]
    ]

-- where the parser alone does
parsed_early : (x : yaml_encoding_t) (a b : List ℕ) → IsCut a b → is_document_start b 0 ≡ true
    → (f : Fault)
    → (reading_in x a).ending ≡ Some f → f.problem_mark.index < length a
    → (scan_of x a).fault ≡ None → ReadSo x a b f
parsed_early x a b at begins f refused low clean =
    let c = scan_of x a in
    let w = scan_of x (a ++ b) in
    let (front, last, are, ends, others) = stream_ends (record { encoding = x; text = a }) clean in
    let p = begun x a b at begins clean front last are in
    let there : tokens_in x (a ++ b) ≡ cut w.fault (front ++ p.mark ∷ p.behind) = ap (cut w.fault) p.are in
    elim (spell_or front) [
      | inr stops ↦ same_reading x a b f refused (there ∙ stops w.fault c.fault (p.mark ∷ p.behind) (last ∷ []) ∙ ap (cut c.fault) (sym are))
      | inl spell ↦
          let all : AllSpell c.tokens = subst AllSpell (sym are) (spell_push front last spell (ap spells_text ends)) in
          let none : (tokens_in x a).fault ≡ None = ap (λ (r : Remaining). r.fault) (cut_same c.fault c.tokens all) ∙ clean in
          let pa = passed x a none in
          let B = cut w.fault p.behind in
          let mine : reading_in x a ≡ parse_of (front ++ last ∷ []) None = pa.reads ∙ ap (λ ts. parse_of ts None) are in
          let whole : reading_in x (a ++ b) ≡ parse_of (front ++ p.mark ∷ B.tokens) B.fault =
          ap read_to (there ∙ cut_behind w.fault front (p.mark ∷ p.behind) spell ∙ ap (behind_tokens front) (cut_marked w.fault p.mark p.behind p.begins)) in
          let place = p.place in
          let other : f ≢ parser_fault NoDocumentStart last.start_mark last.start_mark =
          λ e. let at_end = ap (λ (z : Fault). z.problem_mark.index) e in omega (arith, at_end, place, low) in
          let (events, ending) = refused_fronts_stay front last (go_on front others) ends f (ap (λ (r : Reading). r.ending) (sym mine) ∙ refused)
          other p.mark p.begins p.there B.tokens B.fault in
          (ap parse.events_in whole ∙ events ∙ ap parse.events_in (sym mine), ap (λ (r : Reading). r.ending) whole ∙ ending)
    ]

pub early_faults_are_read : EarlyFaultsAreRead
early_faults_are_read x a b at begins f refused low = by (scan_of x a).fault refl
  where
    by : (o : Option Fault) → (scan_of x a).fault ≡ o → ReadSo x a b f
    by (Some g) e = scanned_early x a b at f refused low g e
    by None e = parsed_early x a b at begins f refused low e
