-- What is asked of a token that was shown, and what is left after it.
use Rattle.std.proofs.Common.{◌≡◌, ◌≢◌, ◌∙◌, ℕ, ◌<◌, Bool, true, false, true≢false, List, length, Option, Some, None, refl, sym, ap, subst, inl, inr, IsUtf8, arith, le-ltb}
use Rattle.std.specs.Prelude.{is_some}
use Rattle.yaml_parse_model.specs.declared.yaml_fault_t.{yaml_fault_t}
use Rattle.yaml_parse_model.specs.scan_types.Tokens.{TokenBody, no_token, zero_mark}
use Rattle.yaml_parse_model.specs.scan_types.Tokens as token
use Rattle.yaml_parse_model.specs.scan_types.Faults.{fault_of}
use Rattle.yaml_parse_model.specs.Source.{front_of, rest_of, HasUtf8}
use Rattle.yaml_scan_laws.specs.scan_types.Marks.{column_at, line_at}
use Rattle.yaml_scan_laws.specs.scan_history.Remaining.{Remaining, nothing}
use Rattle.yaml_scan_model.specs.declared.kind.Kind.{Kind}
use Rattle.yaml_scan_model.specs.declared.kind.Kind.TheVariants as kinds
use Rattle.yaml_scan_model.specs.Kinds.{is_fault}
use Rattle.yaml_scan_model.specs.Shows.{IsNext}
use Rattle.yaml_scan_model.specs.Texts.{style_in}
use Rattle.yaml_scan_core.specs.declared.scanner.Scanner.{Scanner}
use Rattle.yaml_scan_core.specs.Asked.{HasTaken, IsFront, ShowsKind, Waits, behind_first, front_lexeme, store_in}
use Rattle.yaml_scan_core.specs.Handed.{to_come}
use Rattle.yaml_scan_core.specs.Shown.{end_at, place_mark}
use Rattle.yaml_scan_core.specs.Told.{fault_told}
use Rattle.yaml_round_content.specs.Adapted.{adapted, spells_text, tag_fault}
use Rattle.yaml_round_reading.specs.declared.scanned.Standing.{Standing}
use Rattle.yaml_round_reading.specs.declared.scanned.Standing.TheVariants as standing
use Rattle.yaml_round_reading.specs.Coming.{Knows, Stands, behind, coming, is_failed, is_none, is_over, texts_by, told_by, unasked_in}
use Rattle.yaml_round_reading.proofs.Telling.{Leaves, Told, ToldAgain, cut_bad, front_comes, front_spells, has_told, knows_front, knows_told, no_lead_own, none_kind, own_carries, own_or_lead, passes, shows_told, some_fault, some_kind, told_kind, told_utf8}

-- what comes where a token's kind was shown
told_open : (k : Kind) (r : Remaining) (s : Scanner) → is_none k ≡ false
    → coming None (standing.Told k) r s ≡ adapted (to_come s)
told_open kinds.Failed r s n = absurd (true≢false n)
told_open kinds.Nothing r s n = absurd (true≢false n)
told_open _ r s n = refl

nothing_left : (r : Remaining) (s : Scanner) → to_come s ≡ nothing
    → Leaves (coming None (standing.Told kinds.Nothing) r s) (adapted (to_come s)) (texts_by standing.Unasked s)
nothing_left r s none = record { rest = ap (λ m. (adapted m).tokens) none; fault = ap (λ m. (adapted m).fault) none; texts = tt }

-- What is left where no token was shown.
pub none_skipped : (kind : Kind) (o : Option yaml_fault_t) (st : Standing) (r : Remaining)
    (s : Scanner)
    → Waits s → Stands o st r s → told_by st ≡ Some false → IsNext kind (coming o st r s).tokens
    → is_none kind ≡ true
    → Leaves (coming o st r s) (coming o standing.Unasked r s) (texts_by standing.Unasked s)
none_skipped kind (Some f) st r s w h e next none = absurd (let bad : Some f ≡ None = (has_told (Some f) st r s h e).text in cc)
none_skipped kind None standing.Unasked r s w h e next none = absurd (let bad : None ≡ Some false = e in cc)
none_skipped kind None standing.Taken r s w h e next none = absurd (let bad : None ≡ Some false = e in cc)
none_skipped kind None (standing.Told k) r s w h e next none =
    let n : is_fault k ≡ false = cc in
    let is : k ≡ kinds.Nothing = told_kind k kind r s w h n next ∙ none_kind kind none in
    subst (λ j. Leaves (coming None (standing.Told j) r s) (adapted (to_come s)) (texts_by standing.Unasked s)) (sym is) (nothing_left r s (subst (λ j. Knows j s) is h))

-- What is left after a token, and how the scanner is there.
pub some_skipped : (kind : Kind) (o : Option yaml_fault_t) (st : Standing)
    (r : Remaining) (s new : Scanner)
    → Waits s → Stands o st r s → told_by st ≡ Some false → IsNext kind (coming o st r s).tokens
    → is_none kind ≡ false → to_come new ≡ behind_first (to_come s)
    → ((front_lexeme s).front ≡ (front_lexeme s).kind
    → HasTaken new (front_of (to_come s).tokens).body)
    → Leaves (coming o st r s) (coming o (behind kind) r new) (texts_by (behind kind) new)
    × Stands o (behind kind) r new
some_skipped kind (Some f) st r s new w h e next some left taken = absurd (let bad : Some f ≡ None = (has_told (Some f) st r s h e).text in cc)
some_skipped kind None standing.Unasked r s new w h e next some left taken = absurd (let bad : None ≡ Some false = e in cc)
some_skipped kind None standing.Taken r s new w h e next some left taken = absurd (let bad : None ≡ Some false = e in cc)
some_skipped kind None (standing.Told k) r s new w h e next some left taken =
    let n : is_fault k ≡ false = cc in
    let is : k ≡ kind = told_kind k kind r s w h n next ∙ some_kind kind some in
    let f : IsFront kind s = knows_front kind s some (subst (λ j. Knows j s) is h) in
    let whole : coming None (standing.Told k) r s ≡ adapted (to_come s) = told_open k r s (ap is_none is ∙ some) in
    subst (λ (c : Remaining). Leaves c (coming None (behind kind) r new) (texts_by (behind kind) new) × Stands None (behind kind) r new) (sym whole) (passes kind r s new w f (some_fault kind some) left taken)

-- ---- what is asked of the token that was shown

-- it comes where it is next
pub comes_told : (kind : Kind) (o : Option yaml_fault_t) (st : Standing) (r : Remaining)
    (s : Scanner)
    → Waits s → Stands o st r s → told_by st ≡ Some false → IsNext kind (coming o st r s).tokens
    → is_none kind ≡ false → (f : IsFront kind s) × (front_of (coming o st r s).tokens ≡ f.token)
comes_told kind (Some f) st r s w h e next some = absurd (let bad : Some f ≡ None = (has_told (Some f) st r s h e).text in cc)
comes_told kind None standing.Unasked r s w h e next some = absurd (let bad : None ≡ Some false = e in cc)
comes_told kind None standing.Taken r s w h e next some = absurd (let bad : None ≡ Some false = e in cc)
comes_told kind None (standing.Told k) r s w h e next some =
    let n : is_fault k ≡ false = cc in
    let is : k ≡ kind = told_kind k kind r s w h n next ∙ some_kind kind some in
    let f : IsFront kind s = knows_front kind s some (subst (λ j. Knows j s) is h) in
    let whole : coming None (standing.Told k) r s ≡ adapted (to_come s) = told_open k r s (ap is_none is ∙ some) in
    (f, ap (λ (c : Remaining). front_of c.tokens) (whole ∙ front_comes s kind w f (some_fault kind some)))

-- or it is the empty one
pub none_told : (kind : Kind) (o : Option yaml_fault_t) (st : Standing) (r : Remaining)
    (s : Scanner)
    → Waits s → Stands o st r s → told_by st ≡ Some false → IsNext kind (coming o st r s).tokens
    → is_none kind ≡ true → front_of (coming o st r s).tokens ≡ no_token
none_told kind (Some f) st r s w h e next none = absurd (let bad : Some f ≡ None = (has_told (Some f) st r s h e).text in cc)
none_told kind None standing.Unasked r s w h e next none = absurd (let bad : None ≡ Some false = e in cc)
none_told kind None standing.Taken r s w h e next none = absurd (let bad : None ≡ Some false = e in cc)
none_told kind None (standing.Told k) r s w h e next none =
    let n : is_fault k ≡ false = cc in
    let is : k ≡ kinds.Nothing = told_kind k kind r s w h n next ∙ none_kind kind none in
    subst (λ j. front_of (coming None (standing.Told j) r s).tokens ≡ no_token) (sym is) refl

-- where it ends
pub end_told : (kind : Kind) (s : Scanner) (end : ℕ) → Waits s → (f : IsFront kind s)
    → ((front_lexeme s).front ≡ (front_lexeme s).kind → end ≡ end_at (store_in s) (front_lexeme s))
    → ((front_lexeme s).front ≢ (front_lexeme s).kind → end ≡ (front_lexeme s).start)
    → place_mark s.text.now end ≡ f.token.end_mark
end_told kind s end w f own lead = elim (own_or_lead s kind w f) [
  | inl is ↦ ap (place_mark s.text.now) (own is) ∙ f.own_end is
  | inr is ↦ ap (place_mark s.text.now) (lead is) ∙ f.start ∙ sym (f.lead_end is)
]

pub style_told : (s : Scanner) → Waits s → (f : IsFront kinds.Scalar s)
    → (front_lexeme s).style ≡ style_in f.token.body
style_told s w f =
    let (v, holds, e) = own_carries s kinds.Scalar f (no_lead_own s kinds.Scalar w f refl) in
    sym (ap style_in e)

-- where the next token starts
pub starts_over : (o : Option yaml_fault_t) (st : Standing) (r : Remaining) (s : Scanner)
    → Stands o st r s → is_over st ≡ true → front_of (coming o st r s).tokens ≡ no_token
starts_over (Some f) (standing.Told k) r s h e = refl
starts_over None (standing.Told kinds.Nothing) r s h e = refl
starts_over o _ r s h e = absurd (true≢false (sym e))

pub starts_told : (o : Option yaml_fault_t) (st : Standing) (r : Remaining) (s : Scanner)
    → Waits s → Stands o st r s → told_by st ≡ Some false → is_over st ≡ false
    → (s.row.next < length s.row.lexemes.items)
    × (place_mark s.text.now (front_lexeme s).start ≡ (front_of (coming o st r s).tokens).start_mark)
starts_told (Some f) st r s w h e some = absurd (let bad : Some f ≡ None = (has_told (Some f) st r s h e).text in cc)
starts_told None standing.Unasked r s w h e some = absurd (let bad : None ≡ Some false = e in cc)
starts_told None standing.Taken r s w h e some = absurd (let bad : None ≡ Some false = e in cc)
starts_told None (standing.Told k) r s w h e some =
    let n : is_fault k ≡ false = cc in
    let none = some_named k n some in
    let f : IsFront k s = knows_front k s none h in
    (f.some, f.start ∙ sym (ap (λ (c : Remaining). (front_of c.tokens).start_mark) (told_open k r s none ∙ front_comes s k w f n)))
  where
    some_named : (k : Kind) → is_fault k ≡ false → is_over (standing.Told k) ≡ false → is_none k ≡ false
    some_named kinds.Failed n o = absurd (true≢false n)
    some_named kinds.BadTag n o = absurd (true≢false n)
    some_named kinds.BadPrefix n o = absurd (true≢false n)
    some_named kinds.Nothing n o = absurd (true≢false o)
    some_named _ n o = refl

-- the fault that was reported
pub refused_fault : (f : yaml_fault_t) (st : Standing) (r : Remaining) (s : Scanner)
    → told_by st ≡ Some true → (coming (Some f) st r s).fault ≡ Some (fault_of f)
refused_fault f (standing.Told k) r s e = refl
refused_fault f standing.Unasked r s e = absurd (let bad : None ≡ Some true = e in cc)
refused_fault f standing.Taken r s e = absurd (let bad : None ≡ Some true = e in cc)

pub failed_fault : (st : Standing) (r : Remaining) (s : Scanner) → is_failed st ≡ true
    → (coming None st r s).fault ≡ Some (fault_told s.text.now s.fault)
failed_fault (standing.Told kinds.Failed) r s e = refl
failed_fault _ r s e = absurd (true≢false (sym e))

bad_fault : (k : Kind) (s : Scanner) → (f : IsFront k s) → spells_text f.token.body ≡ false
    → (s.row.next < length s.row.lexemes.items)
    × ((adapted (to_come s)).fault ≡ Some (tag_fault (place_mark s.text.now (front_lexeme s).start)))
bad_fault k s f bad = (f.some, ap (λ (c : Remaining). c.fault) (cut_bad (to_come s).fault (to_come s).tokens f.token f.rest f.first bad) ∙ ap (λ m. Some (tag_fault m)) (sym f.start))

pub tag_fault_told : (st : Standing) (r : Remaining) (s : Scanner) → Waits s → Stands None st r s
    → told_by st ≡ Some true → is_failed st ≡ false
    → (s.row.next < length s.row.lexemes.items)
    × ((coming None st r s).fault ≡ Some (tag_fault (place_mark s.text.now (front_lexeme s).start)))
tag_fault_told standing.Unasked r s w h e some = absurd (let bad : None ≡ Some true = e in cc)
tag_fault_told standing.Taken r s w h e some = absurd (let bad : None ≡ Some true = e in cc)
tag_fault_told (standing.Told kinds.Failed) r s w h e some = absurd (true≢false some)
tag_fault_told (standing.Told kinds.BadTag) r s w f e some = bad_fault kinds.BadTag s f (front_spells s kinds.BadTag w f)
tag_fault_told (standing.Told kinds.BadPrefix) r s w f e some = bad_fault kinds.BadPrefix s f (front_spells s kinds.BadPrefix w f)
tag_fault_told (standing.Told _) r s w h e some = absurd (let bad : false ≡ true = unsome e in true≢false (sym bad))
  where
    unsome : Some false ≡ Some true → false ≡ true
    unsome e = cc

-- ---- a scanner that is asked

pub no_refusal : (o : Option yaml_fault_t) (b : Bool) → b ≡ is_some o → b ≡ false → o ≡ None
no_refusal None b e n = refl
no_refusal (Some f) b e n = absurd (true≢false (sym e ∙ n))

pub kind_shown : (k : Kind) (o : Option yaml_fault_t) (st : Standing) (r : Remaining)
    (old new : Scanner)
    → o ≡ None → Stands o st r old → Waits new → ShowsKind k (to_come old) new → ToldAgain k old new
    → Told k (coming o st r old) (coming o (standing.Told k) r new)
kind_shown k None st r old new e h w s again = shows_told k st r old new h w s again
kind_shown k (Some f) st r old new e h w s again = absurd (let bad : Some f ≡ None = e in cc)

pub kind_knows : (k : Kind) (o : Option yaml_fault_t) (r m : Remaining) (s : Scanner) → o ≡ None
    → ShowsKind k m s → Stands o (standing.Told k) r s
kind_knows k None r m s e h = knows_told k m s h
kind_knows k (Some f) r m s e h = absurd (let bad : Some f ≡ None = e in cc)

pub kind_utf8 : (k : Kind) (o : Option yaml_fault_t) (r : Remaining) (s : Scanner) → o ≡ None
    → IsUtf8 s.text.now → HasUtf8 (front_of (coming o (standing.Told k) r s).tokens).body
kind_utf8 k None r s e t = told_utf8 k r s t
kind_utf8 k (Some f) r s e t = tt

-- as many tokens weren't asked for as are after the first
pub kind_unasked : (k : Kind) (c d : Remaining) → Told k c d
    → unasked_in (Some (is_fault k)) d ≡ length (rest_of d.tokens)
kind_unasked kinds.Failed c d h = ap length h.none ∙ sym (ap (λ ts. length (rest_of ts)) h.none)
kind_unasked kinds.BadTag c d h = ap length h.none ∙ sym (ap (λ ts. length (rest_of ts)) h.none)
kind_unasked kinds.BadPrefix c d h = ap length h.none ∙ sym (ap (λ ts. length (rest_of ts)) h.none)
kind_unasked _ c d h = refl

held_of : (o : Option yaml_fault_t) (r : Remaining) (s : Scanner) → Stands o standing.Taken r s
    → (b : TokenBody) × HasTaken s b
held_of (Some f) r s h = absurd h
held_of None r s h = h

-- the token was a lexeme's own
pub taken_held : (o : Option yaml_fault_t) (st : Standing) (r : Remaining) (s : Scanner)
    → Stands o st r s → st ≡ standing.Taken → (b : TokenBody) × HasTaken s b
taken_held o st r s h e = held_of o r s (subst (λ x. Stands o x r s) e h)

pub origin_mark : (text : List ℕ) → place_mark text 0 ≡ zero_mark
unfolding line_at column_at
origin_mark text = rw (le-ltb (length text) 0 (omega arith)) refl
