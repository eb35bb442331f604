-- A front that ends in a line `...` and is refused before it is refused so in the whole.
use Rattle.std.proofs.Common.{◌≡◌, ℕ, ◌+◌, ◌<◌, List, [], ◌∷◌, ◌++◌, length, Option, Some, None, refl, sym, ap, subst, ◌∙◌, inl, inr, arith}
use Rattle.yaml_round_laws.proofs.WindowsWords.{nat_tests, append-nil, append_assoc, length-append, yaml_encoding_t, Fault, mark_at, Token, Remaining, Reading, spells_text, cut, EndsIn, IsCut, IsEndLine, scan_of, refused_fronts_are_scanned, begun_over, TailSo, line_tail, stream_ends, parse_of, GoOn, ended_fronts_stay, refused_tokens_stay, tokens_in, reading_in, EndedFaultsAreRead}
use Rattle.yaml_round_content.specs.scan_types.Tokens as token
use Rattle.yaml_scan_laws.proofs.BehindBreak.{front_mark}
use Rattle.yaml_scan_laws.proofs.CutsEnding.{line_long, whole_end, line_cut}
use Rattle.yaml_parse_laws_trees.specs.WindowsLaws as parse
use Rattle.yaml_round_laws.proofs.WindowsJoining.{AllSpell, cut_same, cut_behind, go_on, read_to, spell_push, spell_or}

-- one text is refused as another one is, after the same events
abbrev SameRefusal : yaml_encoding_t → List ℕ → List ℕ → Fault → Type 0
SameRefusal x t w f =
    (parse.events_in (reading_in x w) ≡ parse.events_in (reading_in x t))
    × ((reading_in x w).ending ≡ Some f)

same_tokens : (x : yaml_encoding_t) (t w : List ℕ) (f : Fault) → (reading_in x t).ending ≡ Some f
    → tokens_in x w ≡ tokens_in x t → SameRefusal x t w f
same_tokens x t w f refused same = grind (arith, nat_tests)

-- the same tokens, and a fault each
same_front : (x : yaml_encoding_t) (t w : List ℕ) (f g h : Fault) (T : List Token)
    → scan_of x t ≡ record { tokens = T; fault = Some g }
    → scan_of x w ≡ record { tokens = T; fault = Some h }
    → (reading_in x t).ending ≡ Some f → (f ≡ g → h ≡ g) → SameRefusal x t w f
same_front x t w f g h T t_is w_is refused same =
    let here : tokens_in x t ≡ cut (Some g) T = ap (λ (y : Remaining). cut y.fault y.tokens) t_is in
    let there : tokens_in x w ≡ cut (Some h) T = ap (λ (y : Remaining). cut y.fault y.tokens) w_is in
    elim (spell_or T) [
      | inr stops ↦
          let nothing = append-nil T in
          same_tokens x t w f refused (there ∙ ap (cut (Some h)) (sym nothing) ∙ stops (Some h) (Some g) [] [] ∙ ap (cut (Some g)) nothing ∙ sym here)
      | inl spell ↦
          let mine : reading_in x t ≡ parse_of T (Some g) = ap read_to (here ∙ cut_same (Some g) T spell) in
          let others : reading_in x w ≡ parse_of T (Some h) = ap read_to (there ∙ cut_same (Some h) T spell) in
          elim (refused_tokens_stay T g f (ap (λ (r : Reading). r.ending) (sym mine) ∙ refused)) [
            | inl own ↦ same_tokens x t w f refused (there ∙ ap (λ z. cut (Some z) T) (same own) ∙ sym here)
            | inr stays ↦
                let (events, ending) = stays [] (Some h) in
                let list = ap (λ ts. parse_of ts (Some h)) (append-nil T) in (
                  ap parse.events_in (others ∙ sym list) ∙ events ∙ ap parse.events_in (sym mine),
                  ap (λ (r : Reading). r.ending) (others ∙ sym list) ∙ ending,
                )
          ]
    ]

token_is : (t u : Token) → t.body ≡ u.body → t.start_mark ≡ u.start_mark
    → t.end_mark ≡ u.end_mark → t ≡ u
token_is t u e f g = grind (arith, nat_tests)

feeds : (a line : List ℕ) → EndsIn line 10 → EndsIn (a ++ line) 10
feeds a line (xs, is) = (a ++ xs, ap (λ z. a ++ z) is ∙ sym (append_assoc a xs (10 ∷ [])))

-- what both texts are said to have, and what is read of it
told_both : (x : yaml_encoding_t) (a : List ℕ) (t w : List ℕ) (f : Fault)
    → (front : List Token) (mark : Token)
    → GoOn front → mark.body ≡ token.document_end
    → (tail behind : List Token) → (scan_of x t).tokens ≡ front ++ mark ∷ tail
    → (scan_of x w).tokens ≡ front ++ mark ∷ behind → TailSo a tail (scan_of x t).fault
    → (reading_in x t).ending ≡ Some f → f.problem_mark.index < length a → SameRefusal x t w f
told_both x a t w f front mark goes over tail behind mine others so refused low =
    let c = scan_of x t in
    let v = scan_of x w in
    let here : tokens_in x t ≡ cut c.fault (front ++ mark ∷ tail) = ap (cut c.fault) mine in
    let there : tokens_in x w ≡ cut v.fault (front ++ mark ∷ behind) = ap (cut v.fault) others in
    elim (spell_or front) [
      | inr stops ↦ same_tokens x t w f refused (there ∙ stops v.fault c.fault (mark ∷ behind) (mark ∷ tail) ∙ sym here)
      | inl spell ↦
          let all = spell_push front mark spell (ap spells_text over) in
          let B = cut v.fault behind in
          let whole : reading_in x w ≡ parse_of ((front ++ mark ∷ []) ++ B.tokens) B.fault =
          ap read_to (there ∙ ap (cut v.fault) (sym (append_assoc front (mark ∷ []) behind)) ∙ cut_behind v.fault (front ++ mark ∷ []) behind all) in
          elim so [
            | inl (last, are, ends, none) ↦
                let list = ap (λ ts. front ++ mark ∷ ts) are in
                let every : AllSpell (front ++ mark ∷ last ∷ []) = subst AllSpell (append_assoc front (mark ∷ []) (last ∷ [])) (spell_push (front ++ mark ∷ []) last all (ap spells_text ends)) in
                let alone : reading_in x t ≡ parse_of (front ++ mark ∷ last ∷ []) None =
                ap read_to (here ∙ ap (cut c.fault) list ∙ ap (λ z. cut z (front ++ mark ∷ last ∷ [])) none ∙ cut_same None (front ++ mark ∷ last ∷ []) every) in
                let (events, ending) = ended_fronts_stay front mark last goes over ends f (ap (λ (r : Reading). r.ending) (sym alone) ∙ refused) B.tokens B.fault in
                let both = whole ∙ ap (λ ts. parse_of ts B.fault) (append_assoc front (mark ∷ []) B.tokens) in
                (ap parse.events_in both ∙ events ∙ ap parse.events_in (sym alone), ap (λ (r : Reading). r.ending) both ∙ ending)
            | inr (g, are, own, late) ↦
                let alone : reading_in x t ≡ parse_of (front ++ mark ∷ []) (Some g) =
                ap read_to (here ∙ ap (λ ts. cut c.fault (front ++ mark ∷ ts)) are ∙ ap (λ z. cut z (front ++ mark ∷ [])) own ∙ cut_same (Some g) (front ++ mark ∷ []) all) in
                elim (refused_tokens_stay (front ++ mark ∷ []) g f (ap (λ (r : Reading). r.ending) (sym alone) ∙ refused)) [
                  | inl same ↦ let at = ap (λ (z : Fault). z.problem_mark.index) same in absurd (omega (arith, at, late, low))
                  | inr stays ↦
                      let (events, ending) = stays B.tokens B.fault in
                      (ap parse.events_in whole ∙ events ∙ ap parse.events_in (sym alone), ap (λ (r : Reading). r.ending) whole ∙ ending)
                ]
          ]
    ]

-- by what the scanner says of what is before the line
by_front : (x : yaml_encoding_t) (a line b : List ℕ) → IsCut a line → IsCut a (line ++ b)
    → IsEndLine line
    → (f : Fault) → (reading_in x (a ++ line)).ending ≡ Some f → f.problem_mark.index < length a
    → (o : Option Fault) → (scan_of x a).fault ≡ o → SameRefusal x (a ++ line) (a ++ (line ++ b)) f
by_front x a line b cut over e f refused low (Some g) fault =
    let c = scan_of x a in
    let (g1, mine, same) = refused_fronts_are_scanned x a line cut g fault in
    let (g2, others, too) = refused_fronts_are_scanned x a (line ++ b) over g fault in
    same_front x (a ++ line) (a ++ (line ++ b)) f g1 g2 c.tokens mine others refused
    (λ own.
    let early : g1.problem_mark.index < length a = subst (λ (z : Fault). z.problem_mark.index < length a) own low in
    let one : g1 ≡ g = same (inr early) in
    too (inl (subst (λ (z : Fault). z.problem_mark.index < length a) one early)) ∙ sym one)
by_front x a line b cut over e f refused low None clean =
    let t = a ++ line in
    let w = a ++ (line ++ b) in
    let (front, last, are, ends, others) = stream_ends (record { encoding = x; text = a }) clean in
    let r = begun_over x a line cut e.mark clean front last are in
    let s = begun_over x a (line ++ b) over (whole_end line b e) clean front last are in
    let long = line_long line e in
    let size = length-append a line in
    let same_end : mark_at w (length a + 3) ≡ mark_at t (length a + 3) =
    ap (λ z. mark_at z (length a + 3)) (sym (append_assoc a line b)) ∙ front_mark t b (feeds a line e.feed) (length a + 3) (omega (arith, long, size)) in
    let mark : s.mark ≡ r.mark = token_is s.mark r.mark (s.begins ∙ sym r.begins) (s.there ∙ sym r.there) (s.end ∙ same_end ∙ sym r.end) in
    let (tail, mine, so) = line_tail x a line e front last r in
    told_both x a t w f front r.mark (go_on front others) r.begins tail s.behind mine (s.are ∙ ap (λ z. front ++ z ∷ s.behind) mark) so refused low

pub ended_faults_are_read : EndedFaultsAreRead
ended_faults_are_read x front rest at f refused low =
    let a = at.before in
    let line = at.line in
    let e = at.ends in
    let parts = at.parts in
    let whole : a ++ (line ++ rest) ≡ front ++ rest = sym (append_assoc a line rest) ∙ ap (λ t. t ++ rest) (sym parts) in
    let (events, ending) = by_front x a line rest (line_cut a line at.lines at.some e.mark) (line_cut a (line ++ rest) at.lines at.some (whole_end line rest e)) e f
    (ap (λ t. (reading_in x t).ending) (sym parts) ∙ refused) low (scan_of x a).fault refl in (
      ap (λ t. parse.events_in (reading_in x t)) (sym whole) ∙ events ∙ ap (λ t. parse.events_in (reading_in x t)) (sym parts),
      ap (λ t. (reading_in x t).ending) (sym whole) ∙ ending,
    )
