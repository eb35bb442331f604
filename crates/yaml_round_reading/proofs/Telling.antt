-- What a scanner says of the token that is next is what is to come of its input's tokens.
use Rattle.std.proofs.Common.{◌≡◌, ◌≢◌, ◌∙◌, ◌⊎◌, ◌+◌, ◌-◌, ◌<◌, Bool, true, false, true≢false, List, [], ◌∷◌, length, take, ltb, Option, Some, None, refl, sym, ap, subst, inl, inr, IsUtf8, All, arith}
use Rattle.std.specs.Str.{is_utf8}
use Rattle.std.proofs.lemmas.Bool.{cases_Bool, cases_lt}
use Rattle.std.proofs.lemmas.List.{get_or-take, length-take-le}
use Rattle.std.proofs.lemmas.List.Elements.{All-head}
use Rattle.yaml_parse_model.specs.declared.yaml_fault_t.{yaml_fault_t}
use Rattle.yaml_parse_model.specs.scan_types.Tokens.{Token, TokenBody, no_token}
use Rattle.yaml_parse_model.specs.scan_types.Tokens as token
use Rattle.yaml_parse_model.specs.scan_types.Faults.{Fault, fault_of, IsMemoryFault, scan_layers}
use Rattle.yaml_parse_model.specs.Source.{front_of, rest_of, HasUtf8}
use Rattle.yaml_scan_laws.specs.scan_history.declared.lexeme.Entry.{Entry}
use Rattle.yaml_scan_laws.specs.scan_history.Remaining.{Remaining, SpelledText, nothing}
use Rattle.yaml_scan_model.specs.declared.kind.Kind.{Kind}
use Rattle.yaml_scan_model.specs.declared.kind.Kind.TheVariants as kinds
use Rattle.yaml_scan_model.specs.Kinds.{IsOf, is_fault}
use Rattle.yaml_scan_model.specs.Shows.{IsNext, Shows, ShowsFault, ShowsToken}
use Rattle.yaml_scan_model.specs.Texts.{AreTextsOf, Texts, suffix_in}
use Rattle.yaml_scan_core.specs.declared.lexeme.Lexeme.{Lexeme}
use Rattle.yaml_scan_core.specs.declared.scanner.Scanner.{Scanner}
use Rattle.yaml_scan_core.specs.Asked.{HasTaken, IsFront, ShowsKind, Waits, behind_first, front_lexeme, store_in}
use Rattle.yaml_scan_core.specs.Handed.{given_in, to_come}
use Rattle.yaml_scan_core.specs.Rows.{RowView, first_kind, row_lexeme, may_lead, no_lexeme, row_of}
use Rattle.yaml_scan_core.specs.Scanning.{Rests, but_last, stream_of}
use Rattle.yaml_scan_core.specs.Shown.{Carries, ShowsRow, Store}
use Rattle.yaml_scan_core.specs.Told.{fault_told}
use Rattle.yaml_scan_core.proofs.TextsOfLemmas.{texts_are}
use Rattle.yaml_scan_core.proofs.TokensLemmas.{lead_kinds, leads_by}
use Rattle.yaml_round_content.proofs.AdaptedLemmas.{adapted_utf8}
use Rattle.yaml_round_content.specs.Adapted.{adapted, cut, spells_text, tag_fault, with_token}
use Rattle.yaml_round_reading.specs.declared.scanned.Standing.{Standing}
use Rattle.yaml_round_reading.specs.declared.scanned.Standing.TheVariants as standing
use Rattle.yaml_round_reading.specs.Coming.{Knows, Stands, behind, coming, ended_by, is_none, texts_by, told_by}

-- ---- what a token's kind says of its body

-- what is said of a tag's suffix and a directive's prefix: whether it is UTF-8
abbrev Spells : Kind → TokenBody → Type 0
Spells kinds.Tag b = is_utf8 (suffix_in b) ≡ true
Spells kinds.TagDirective b = is_utf8 (suffix_in b) ≡ true
Spells kinds.BadTag b = spells_text b ≡ false
Spells kinds.BadPrefix b = spells_text b ≡ false
Spells k b = Unit {0}

own_is : (s : Store) (t : SpelledText) (x : Lexeme) (k : Kind) (b : TokenBody) → Carries s t x k b
    → is_fault k ≡ false → IsOf k b
own_is s t x kinds.StreamStart b (bare, e) n = rw e refl
own_is s t x kinds.StreamEnd b (bare, e) n = rw e refl
own_is s t x kinds.VersionDirective b (m, l, holds, e, small) n = rw e refl
own_is s t x kinds.TagDirective b (h, p, holds, e, good) n = rw e refl
own_is s t x kinds.DocumentStart b (bare, e) n = rw e refl
own_is s t x kinds.DocumentEnd b (bare, e) n = rw e refl
own_is s t x kinds.FlowSequenceStart b (bare, e) n = rw e refl
own_is s t x kinds.FlowSequenceEnd b (bare, e) n = rw e refl
own_is s t x kinds.FlowMappingStart b (bare, e) n = rw e refl
own_is s t x kinds.FlowMappingEnd b (bare, e) n = rw e refl
own_is s t x kinds.BlockEntry b (bare, e) n = rw e refl
own_is s t x kinds.FlowEntry b (bare, e) n = rw e refl
own_is s t x kinds.Key b (bare, e, plain) n = rw e refl
own_is s t x kinds.Value b (bare, e) n = rw e refl
own_is s t x kinds.Alias b (v, holds, e) n = rw e refl
own_is s t x kinds.Anchor b (v, holds, e) n = rw e refl
own_is s t x kinds.Tag b (h, v, holds, e, good) n = rw e refl
own_is s t x kinds.Scalar b (v, holds, e) n = rw e refl
own_is s t x kinds.BadTag b h n = absurd (true≢false n)
own_is s t x kinds.BadPrefix b h n = absurd (true≢false n)
own_is s t x kinds.Failed b h n = absurd h
own_is s t x kinds.Nothing b h n = absurd h
own_is s t x kinds.BlockSequenceStart b h n = absurd h
own_is s t x kinds.BlockMappingStart b h n = absurd h
own_is s t x kinds.BlockEnd b h n = absurd h

own_spells : (s : Store) (t : SpelledText) (x : Lexeme) (k : Kind) (b : TokenBody)
    → Carries s t x k b → Spells k b
own_spells s t x kinds.TagDirective b (h, p, holds, e, good) = rw e good
own_spells s t x kinds.BadPrefix b (h, p, holds, e, bad) = rw e bad
own_spells s t x kinds.Tag b (h, v, holds, e, good) = rw e good
own_spells s t x kinds.BadTag b (h, v, holds, e, bad) = rw e bad
own_spells s t x _ b c = tt

lead_spells : (k : Kind) (b : TokenBody) → may_lead k ≡ true → Spells k b
lead_spells kinds.TagDirective b lead = absurd (true≢false (sym lead))
lead_spells kinds.BadPrefix b lead = absurd (true≢false (sym lead))
lead_spells kinds.Tag b lead = absurd (true≢false (sym lead))
lead_spells kinds.BadTag b lead = absurd (true≢false (sym lead))
lead_spells _ b lead = tt

-- a token's body is UTF-8 where its kind says so
spells_as : (k : Kind) (b : TokenBody) → IsOf k b → Spells k b → spells_text b ≡ true
spells_as kinds.Tag b e good = ap spells_text e ∙ good
spells_as kinds.TagDirective b e good = ap spells_text e ∙ good
spells_as _ b e good = ap spells_text e

-- ---- the lexeme that is first

lost_own : (x : Lexeme) → x.flags ≡ 0 → x.front ≡ first_kind x → may_lead x.front ≡ false
    → x.front ≡ x.kind
lost_own x plain first no_lead = elim (cases_Bool (ltb 0 x.ends)) [
  | inl some ↦
      let is : first_kind x ≡ kinds.BlockEnd = rw some refl in
      absurd (true≢false (sym (ap may_lead (first ∙ is)) ∙ no_lead))
  | inr none ↦
      let is : first_kind x ≡ x.kind = rw (none, plain) refl in
      first ∙ is
]

shown_own : (t : SpelledText) (r : RowView) (es : List Entry) → ShowsRow t r es
    → r.next < length r.lexemes → may_lead (row_lexeme r r.next).front ≡ false
    → (row_lexeme r r.next).front ≡ (row_lexeme r r.next).kind
shown_own t r es h some no_lead = leads_by (row_lexeme r r.next) (lead_kinds (ltb r.next r.settled) (row_lexeme r r.next) (h.front some).front) no_lead

-- the first lexeme's own token is next, unless such a token leads
front_own : (s : Scanner) → Rests s → s.row.next < length s.row.lexemes.items
    → may_lead (front_lexeme s).front ≡ false → (front_lexeme s).front ≡ (front_lexeme s).kind
front_own s (inl g) some no_lead = shown_own (stream_of s) (row_of s.row) _ g.shows.holds.row some no_lead
front_own s (inr (inl o)) some no_lead = shown_own (stream_of s) (row_of s.row) _ o.row some no_lead
front_own s (inr (inr (n, f))) some no_lead = elim (cases_lt (s.row.next + 1) s.row.settled) [
  | inl low ↦
      let same : row_lexeme (but_last (row_of s.row)) s.row.next ≡ front_lexeme s = get_or-take (length s.row.lexemes.items - 1) s.row.lexemes.items s.row.next no_lexeme (omega (arith, low, f.all)) in
      let inside : s.row.next < length (take (length s.row.lexemes.items - 1) s.row.lexemes.items) = omega (arith, low, f.all, length-take-le (length s.row.lexemes.items - 1) s.row.lexemes.items (omega arith)) in
      let own = shown_own (stream_of s) (but_last (row_of s.row)) _ f.row inside (ap (λ (x : Lexeme). may_lead x.front) same ∙ no_lead) in
      subst (λ (x : Lexeme). x.front ≡ x.kind) same own
  | inr last ↦
      let at : s.row.settled - 1 ≡ s.row.next = omega (arith, last, some, f.all, f.some) in
      let plain = subst (λ i. (row_lexeme (row_of s.row) i).flags ≡ 0) at f.lost.plain in
      let first = subst (λ i. (row_lexeme (row_of s.row) i).front ≡ first_kind (row_lexeme (row_of s.row) i)) at f.lost.front in
      lost_own (front_lexeme s) plain first no_lead
]

-- what the first lexeme carries, where its own token is next
pub own_carries : (s : Scanner) (k : Kind) → (f : IsFront k s)
    → (front_lexeme s).front ≡ (front_lexeme s).kind
    → Carries (store_in s) (stream_of s) (front_lexeme s) k f.token.body
own_carries s k f own = subst (λ j. Carries (store_in s) (stream_of s) (front_lexeme s) j f.token.body) (sym (f.kind ∙ own)) (f.own own)

pub no_lead_own : (s : Scanner) (k : Kind) → Waits s → IsFront k s → may_lead k ≡ false
    → (front_lexeme s).front ≡ (front_lexeme s).kind
no_lead_own s k w f no_lead = front_own s w.rests f.some (ap may_lead (sym f.kind) ∙ no_lead)

-- what is said of the token that is next, by its kind
pub front_spells : (s : Scanner) (k : Kind) → Waits s → (f : IsFront k s) → Spells k f.token.body
front_spells s k w f = elim (cases_Bool (may_lead k)) [
  | inl lead ↦ lead_spells k f.token.body lead
  | inr no_lead ↦ own_spells (store_in s) (stream_of s) (front_lexeme s) k f.token.body (own_carries s k f (no_lead_own s k w f no_lead))
]

abbrev is_key : Kind → Bool
is_key kinds.Key = true
is_key _ = false

key_is : (j : Kind) → is_key j ≡ true → kinds.Key ≡ j
key_is kinds.Key h = refl
key_is _ h = absurd (true≢false (sym h))

-- The token that is next is the first lexeme's own, or is before that.
lead_or_own : (s : Scanner) (k : Kind) → IsFront k s → may_lead k ≡ true
    → ((front_lexeme s).front ≡ (front_lexeme s).kind) ⊎ ((front_lexeme s).front ≢ (front_lexeme s).kind)
lead_or_own s kinds.BlockEnd f lead = inr (λ own. own_carries s kinds.BlockEnd f own)
lead_or_own s kinds.BlockSequenceStart f lead = inr (λ own. own_carries s kinds.BlockSequenceStart f own)
lead_or_own s kinds.BlockMappingStart f lead = inr (λ own. own_carries s kinds.BlockMappingStart f own)
lead_or_own s kinds.Key f lead = elim (cases_Bool (is_key (front_lexeme s).kind)) [
  | inl key ↦ inl (sym f.kind ∙ key_is (front_lexeme s).kind key)
  | inr other ↦ inr (λ own. true≢false (ap is_key (f.kind ∙ own) ∙ other))
]
lead_or_own s _ f lead = absurd (true≢false (sym lead))

pub own_or_lead : (s : Scanner) (k : Kind) → Waits s → IsFront k s
    → ((front_lexeme s).front ≡ (front_lexeme s).kind) ⊎ ((front_lexeme s).front ≢ (front_lexeme s).kind)
own_or_lead s k w f = elim (cases_Bool (may_lead k)) [
  | inl lead ↦ lead_or_own s k f lead
  | inr no_lead ↦ inl (no_lead_own s k w f no_lead)
]

-- it is of that kind
front_is : (s : Scanner) (k : Kind) → Waits s → (f : IsFront k s) → is_fault k ≡ false
    → IsOf k f.token.body
front_is s k w f n = elim (own_or_lead s k w f) [
  | inl own ↦ own_is (store_in s) (stream_of s) (front_lexeme s) k f.token.body (own_carries s k f own) n
  | inr lead ↦ f.lead lead
]

-- ---- what comes, up to the first tag that isn't UTF-8

-- the first token is UTF-8
cut_front : (f : Option Fault) (ts : List Token) (t : Token) (us : List Token) → ts ≡ t ∷ us
    → spells_text t.body ≡ true → cut f ts ≡ with_token t (cut f us)
cut_front f ts t us e good = rw (e, good) refl

pub cut_bad : (f : Option Fault) (ts : List Token) (t : Token) (us : List Token) → ts ≡ t ∷ us
    → spells_text t.body ≡ false → cut f ts ≡ ended_by (tag_fault t.start_mark)
cut_bad f ts t us e bad = rw (e, bad) refl

-- what is to come of a scanner, by what was shown
data Was (c : Remaining) (s : Scanner) : Type 0 where
  was_open : c ≡ adapted (to_come s) → Was c s
  was_over : c ≡ record { tokens = no_token ∷ []; fault = None } → to_come s ≡ nothing → Was c s
  was_failed : c ≡ ended_by (fault_told s.text.now s.fault) → s.row.next < s.row.settled → (front_lexeme s).front ≡ kinds.Failed → Was c s

was_of : (st : Standing) (r : Remaining) (s : Scanner) → Stands None st r s
    → Was (coming None st r s) s
was_of standing.Unasked r s h = was_open refl
was_of standing.Taken r s h = was_open refl
was_of (standing.Told kinds.Failed) r s (low, front) = was_failed refl low front
was_of (standing.Told kinds.Nothing) r s h = was_over refl h
was_of (standing.Told _) r s h = was_open refl

-- a token that is settled is shown again
abbrev pub ToldAgain : Kind → Scanner → Scanner → Type 0
ToldAgain k old new = old.row.next < old.row.settled
    → (new ≡ old) × (k ≡ (front_lexeme old).front)

not_failed : (k : Kind) (old new : Scanner) → ToldAgain k old new → old.row.next < old.row.settled
    → (front_lexeme old).front ≡ kinds.Failed → k ≡ kinds.Failed
not_failed k old new again low front = (again low).1 ∙ front

-- nothing is to come where a token is
no_first : (m : Remaining) (t : Token) (us : List Token) → m ≡ nothing → m.tokens ≡ t ∷ us → ⊥
no_first m t us none e = let bad : [] ≡ t ∷ us = sym (ap (λ (x : Remaining). x.tokens) none) ∙ e in cc

abbrev pub Told : Kind → Remaining → Remaining → Type 0
Told k c d = Shows k c.tokens c.fault d.tokens d.fault

token_shown : (k : Kind) (c : Remaining) (old new : Scanner) → Was c old → Waits new
    → (f : IsFront k new) → to_come new ≡ to_come old → ToldAgain k old new → is_fault k ≡ false
    → ShowsToken k c.tokens c.fault (adapted (to_come new)).tokens (adapted (to_come new)).fault
token_shown k c old new (was_open e) w f same again n =
    let m = to_come new in
    let is = front_is new k w f n in
    let good = spells_as k f.token.body is (front_spells new k w f) in
    let front = cut_front m.fault m.tokens f.token f.rest f.first good in
    let was : c ≡ with_token f.token (cut m.fault f.rest) = e ∙ ap adapted (sym same) ∙ front in
    rw (was, front) record { front = refl; same = refl; may = tt; next = record { same = refl; is = is } }
token_shown k c old new (was_over e none) w f same again n = absurd (no_first (to_come new) f.token f.rest (same ∙ none) f.first)
token_shown k c old new (was_failed e low front) w f same again n = absurd (true≢false (sym (ap is_fault (not_failed k old new again low front)) ∙ n))

bad_shown : (k : Kind) (c : Remaining) (old new : Scanner) → Was c old
    → (f : IsFront k new) → to_come new ≡ to_come old → ToldAgain k old new → k ≢ kinds.Failed
    → spells_text f.token.body ≡ false
    → ShowsFault c.tokens c.fault (adapted (to_come new)).tokens (adapted (to_come new)).fault
bad_shown k c old new (was_open e) f same again other bad =
    let m = to_come new in
    let front = cut_bad m.fault m.tokens f.token f.rest f.first bad in
    let was : c ≡ ended_by (tag_fault f.token.start_mark) = e ∙ ap adapted (sym same) ∙ front in
    rw (was, front) record { told = tag_fault f.token.start_mark; none = refl; ends = refl; reason = inr (refl, refl) }
bad_shown k c old new (was_over e none) f same again other bad = absurd (no_first (to_come new) f.token f.rest (same ∙ none) f.first)
bad_shown k c old new (was_failed e low front) f same again other bad = absurd (other (not_failed k old new again low front))

-- memory ran out, or nothing but that fault was to come
ended_shown : (c : Remaining) (f : Fault) → IsMemoryFault scan_layers f ⊎ (c ≡ ended_by f)
    → ShowsFault c.tokens c.fault [] (Some f)
ended_shown c f (inl memory) = record { told = f; none = refl; ends = refl; reason = inl memory }
ended_shown c f (inr e) = rw e record { told = f; none = refl; ends = refl; reason = inr (refl, refl) }

same_remaining : (m : Remaining) (f : Fault) → m.tokens ≡ [] → m.fault ≡ Some f → m ≡ ended_by f
same_remaining m f e g = let h : record { tokens = m.tokens; fault = m.fault } ≡ ended_by f = rw (e, g) refl in h

failed_shown : (c : Remaining) (old new : Scanner) → Was c old
    → ShowsKind kinds.Failed (to_come old) new → ToldAgain kinds.Failed old new
    → ShowsFault c.tokens c.fault [] (Some (fault_told new.text.now new.fault))
failed_shown c old new was (inl none, low, front) again = ended_shown c (fault_told new.text.now new.fault) (inl (inl (ap (fault_told new.text.now) none)))
failed_shown c old new (was_open e) (inr (empty, (f, kept, told)), low, front) again =
    let is : (to_come old).fault ≡ Some (fault_told new.text.now new.fault) = told ∙ ap (λ o. Some (fault_told new.text.now o)) (sym kept) in
    ended_shown c (fault_told new.text.now new.fault) (inr (e ∙ ap adapted (same_remaining (to_come old) (fault_told new.text.now new.fault) empty is)))
failed_shown c old new (was_over e none) (inr (empty, (f, kept, told)), low, front) again =
    absurd (let bad : None ≡ Some _ = sym (ap (λ (x : Remaining). x.fault) none) ∙ told in cc)
failed_shown c old new (was_failed e below first) (inr (empty, (f, kept, told)), low, front) again =
    let same = (again below).0 in
    ended_shown c (fault_told new.text.now new.fault) (inr (e ∙ ap (λ (s : Scanner). ended_by (fault_told s.text.now s.fault)) (sym same)))

nothing_shown : (c : Remaining) (old new : Scanner) → Was c old
    → ShowsKind kinds.Nothing (to_come old) new → ToldAgain kinds.Nothing old new
    → ShowsToken kinds.Nothing c.tokens c.fault (no_token ∷ []) None
nothing_shown c old new (was_open e) (none, left) again =
    let was : c ≡ nothing = e ∙ ap adapted none in
    rw was record { front = refl; same = refl; may = refl; next = record { same = refl; is = refl } }
nothing_shown c old new (was_over e none) (now, left) again = rw e record { front = refl; same = refl; may = tt; next = record { same = refl; is = refl } }
nothing_shown c old new (was_failed e low front) (none, left) again = absurd (let bad : kinds.Nothing ≡ kinds.Failed = not_failed kinds.Nothing old new again low front in cc)

-- What a scanner's kind shows is what is to come.
pub shows_told : (k : Kind) (st : Standing) (r : Remaining) (old new : Scanner)
    → Stands None st r old → Waits new → ShowsKind k (to_come old) new → ToldAgain k old new
    → Told k (coming None st r old) (coming None (standing.Told k) r new)
shows_told kinds.Failed st r old new h w s again = failed_shown (coming None st r old) old new (was_of st r old h) s again
shows_told kinds.Nothing st r old new h w s again = nothing_shown (coming None st r old) old new (was_of st r old h) s again
shows_told kinds.BadTag st r old new h w (f, same) again = bad_shown kinds.BadTag (coming None st r old) old new (was_of st r old h) f same again (λ e. let bad : kinds.BadTag ≡ kinds.Failed = e in cc) (front_spells new kinds.BadTag w f)
shows_told kinds.BadPrefix st r old new h w (f, same) again = bad_shown kinds.BadPrefix (coming None st r old) old new (was_of st r old h) f same again (λ e. let bad : kinds.BadPrefix ≡ kinds.Failed = e in cc) (front_spells new kinds.BadPrefix w f)
shows_told k st r old new h w (f, same) again = token_shown k (coming None st r old) old new (was_of st r old h) w f same again refl

-- where there is no text, the fault is reported
pub shows_refused : (f : yaml_fault_t) (st : Standing) (r : Remaining) (s : Scanner)
    → Stands (Some f) st r s → Told kinds.Failed (coming (Some f) st r s) (ended_by (fault_of f))
shows_refused f standing.Taken r s h = absurd h
shows_refused f (standing.Told k) r s h = ended_shown (ended_by (fault_of f)) (fault_of f) (inr refl)
shows_refused f standing.Unasked r s (inl memory) = ended_shown (adapted r) (fault_of f) (inl memory)
shows_refused f standing.Unasked r s (inr e) = ended_shown (adapted r) (fault_of f) (inr (ap adapted e))

pub knows_told : (k : Kind) (r : Remaining) (s : Scanner) → ShowsKind k r s → Knows k s
knows_told kinds.Failed r s h = (h.1, h.2)
knows_told kinds.Nothing r s h = h.1
knows_told k r s h = h.0

front_utf8 : (ts : List Token) → All (λ t. HasUtf8 t.body) ts → HasUtf8 (front_of ts).body
front_utf8 [] h = tt
front_utf8 (t ∷ ts) h = All-head (λ t. HasUtf8 t.body) t ts h

-- the texts of the token that is shown are UTF-8
pub told_utf8 : (k : Kind) (r : Remaining) (s : Scanner) → IsUtf8 s.text.now
    → HasUtf8 (front_of (coming None (standing.Told k) r s).tokens).body
told_utf8 kinds.Failed r s t = tt
told_utf8 kinds.Nothing r s t = tt
told_utf8 k r s t = front_utf8 (adapted (to_come s)).tokens (adapted_utf8 (stream_of s) t (s.row.dropped + s.row.next) (given_in s.text.now (row_of s.row)))

-- ---- the token that was shown

abbrev kind_in : TokenBody → Kind
kind_in token.no = kinds.Nothing
kind_in (token.stream_start e) = kinds.StreamStart
kind_in token.stream_end = kinds.StreamEnd
kind_in (token.version_directive a b) = kinds.VersionDirective
kind_in (token.tag_directive a b) = kinds.TagDirective
kind_in token.document_start = kinds.DocumentStart
kind_in token.document_end = kinds.DocumentEnd
kind_in token.block_sequence_start = kinds.BlockSequenceStart
kind_in token.block_mapping_start = kinds.BlockMappingStart
kind_in token.block_end = kinds.BlockEnd
kind_in token.flow_sequence_start = kinds.FlowSequenceStart
kind_in token.flow_sequence_end = kinds.FlowSequenceEnd
kind_in token.flow_mapping_start = kinds.FlowMappingStart
kind_in token.flow_mapping_end = kinds.FlowMappingEnd
kind_in token.block_entry = kinds.BlockEntry
kind_in token.flow_entry = kinds.FlowEntry
kind_in token.key = kinds.Key
kind_in token.value = kinds.Value
kind_in (token.alias a) = kinds.Alias
kind_in (token.anchor a) = kinds.Anchor
kind_in (token.tag a b) = kinds.Tag
kind_in (token.scalar a st) = kinds.Scalar

-- faults have no token, nor has what comes after the last one
abbrev unless_none : Kind → Kind
unless_none kinds.Failed = kinds.Nothing
unless_none kinds.BadTag = kinds.Nothing
unless_none kinds.BadPrefix = kinds.Nothing
unless_none k = k

named : (k : Kind) (b : TokenBody) → IsOf k b → kind_in b ≡ unless_none k
named kinds.Failed b e = ap kind_in e
named kinds.BadTag b e = ap kind_in e
named kinds.BadPrefix b e = ap kind_in e
named k b e = ap kind_in e

pub some_kind : (k : Kind) → is_none k ≡ false → unless_none k ≡ k
some_kind kinds.Failed n = absurd (true≢false n)
some_kind kinds.BadTag n = absurd (true≢false n)
some_kind kinds.BadPrefix n = absurd (true≢false n)
some_kind k n = refl

pub none_kind : (k : Kind) → is_none k ≡ true → unless_none k ≡ kinds.Nothing
none_kind kinds.Failed n = refl
none_kind kinds.BadTag n = refl
none_kind kinds.BadPrefix n = refl
none_kind kinds.Nothing n = refl
none_kind k n = absurd (true≢false (sym n))

pub some_fault : (k : Kind) → is_none k ≡ false → is_fault k ≡ false
some_fault kinds.Failed n = absurd (true≢false n)
some_fault kinds.BadTag n = absurd (true≢false n)
some_fault kinds.BadPrefix n = absurd (true≢false n)
some_fault k n = refl

-- the token that is next comes
pub front_comes : (s : Scanner) (k : Kind) → Waits s → (f : IsFront k s) → is_fault k ≡ false
    → adapted (to_come s) ≡ with_token f.token (cut (to_come s).fault f.rest)
front_comes s k w f n = cut_front (to_come s).fault (to_come s).tokens f.token f.rest f.first (spells_as k f.token.body (front_is s k w f n) (front_spells s k w f))

front_named : (k : Kind) (r : Remaining) (s : Scanner) → Waits s → Knows k s → is_fault k ≡ false
    → kind_in (front_of (coming None (standing.Told k) r s).tokens).body ≡ k
front_named kinds.Failed r s w h n = absurd (true≢false n)
front_named kinds.BadTag r s w h n = absurd (true≢false n)
front_named kinds.BadPrefix r s w h n = absurd (true≢false n)
front_named kinds.Nothing r s w h n = refl
front_named k r s w f n = ap (λ (c : Remaining). kind_in (front_of c.tokens).body) (front_comes s k w f n) ∙ named k f.token.body (front_is s k w f n)

-- of the kind that is named
pub told_kind : (k kind : Kind) (r : Remaining) (s : Scanner) → Waits s → Knows k s
    → is_fault k ≡ false → IsNext kind (coming None (standing.Told k) r s).tokens
    → k ≡ unless_none kind
told_kind k kind r s w h n next = sym (front_named k r s w h n) ∙ named kind (front_of (coming None (standing.Told k) r s).tokens).body next.is

pub knows_front : (k : Kind) (s : Scanner) → is_none k ≡ false → Knows k s → IsFront k s
knows_front kinds.Failed s n h = absurd (true≢false n)
knows_front kinds.Nothing s n h = absurd (true≢false n)
knows_front k s n h = h

-- the state of a scanner whose next token's kind was shown
pub record HasTold (o : Option yaml_fault_t) (st : Standing) (s : Scanner) : Type 0 where
  pub kind : Kind
  pub is : st ≡ standing.Told kind
  pub text : o ≡ None
  pub token : is_fault kind ≡ false
  pub knows : Knows kind s

pub has_told : (o : Option yaml_fault_t) (st : Standing) (r : Remaining) (s : Scanner)
    → Stands o st r s → told_by st ≡ Some false → HasTold o st s
has_told (Some f) (standing.Told k) r s h e = absurd (let bad : is_fault k ≡ false = cc in true≢false (sym (ap is_fault h) ∙ bad))
has_told None (standing.Told k) r s h e = record { kind = k; is = refl; text = refl; token = (let n : is_fault k ≡ false = cc in n); knows = h }
has_told o standing.Unasked r s h e = absurd (let bad : None ≡ Some false = e in cc)
has_told o standing.Taken r s h e = absurd (let bad : None ≡ Some false = e in cc)

-- a token of that kind is next
pub front_told : (kind : Kind) (o : Option yaml_fault_t) (st : Standing) (r : Remaining)
    (s : Scanner)
    → Waits s → HasTold o st s → IsNext kind (coming o st r s).tokens → is_none kind ≡ false
    → IsFront kind s
front_told kind o st r s w t next some =
    let next : IsNext kind (coming None (standing.Told t.kind) r s).tokens = subst (λ x. IsNext kind (coming None x r s).tokens) t.is (subst (λ x. IsNext kind (coming x st r s).tokens) t.text next) in
    knows_front kind s some (subst (λ j. Knows j s) (told_kind t.kind kind r s w t.knows t.token next ∙ some_kind kind some) t.knows)

-- ---- after the token that was shown

-- the rest is left, and the token's texts are these
pub record Leaves (old new : Remaining) (u : Texts) : Type 0 where
  pub rest : new.tokens ≡ rest_of old.tokens
  pub fault : new.fault ≡ old.fault
  pub texts : AreTextsOf (front_of old.tokens).body u

lead_texts : (k : Kind) (b : TokenBody) (u : Texts) → may_lead k ≡ true → IsOf k b → AreTextsOf b u
lead_texts kinds.BlockEnd b u lead e = rw e tt
lead_texts kinds.BlockSequenceStart b u lead e = rw e tt
lead_texts kinds.BlockMappingStart b u lead e = rw e tt
lead_texts kinds.Key b u lead e = rw e tt
lead_texts _ b u lead e = absurd (true≢false (sym lead))

behind_lead : (k : Kind) → may_lead k ≡ true → behind k ≡ standing.Unasked
behind_lead kinds.BlockEnd lead = refl
behind_lead kinds.BlockSequenceStart lead = refl
behind_lead kinds.BlockMappingStart lead = refl
behind_lead kinds.Key lead = refl
behind_lead _ lead = absurd (true≢false (sym lead))

behind_own : (k : Kind) → may_lead k ≡ false → behind k ≡ standing.Taken
behind_own kinds.BlockEnd own = absurd (true≢false own)
behind_own kinds.BlockSequenceStart own = absurd (true≢false own)
behind_own kinds.BlockMappingStart own = absurd (true≢false own)
behind_own kinds.Key own = absurd (true≢false own)
behind_own _ own = refl

-- what is left of a scanner whose first token was taken
rest_left : (s new : Scanner) (k : Kind) → Waits s → IsFront k s → is_fault k ≡ false
    → to_come new ≡ behind_first (to_come s)
    → ((adapted (to_come new)).tokens ≡ rest_of (adapted (to_come s)).tokens)
    × ((adapted (to_come new)).fault ≡ (adapted (to_come s)).fault)
rest_left s new k w f n left =
    let front = front_comes s k w f n in
    let is : adapted (to_come new) ≡ cut (to_come s).fault f.rest = ap adapted left ∙ ap (λ ts. cut (to_come s).fault (rest_of ts)) f.first in
    rw (is, front) (refl, refl)

taken_is : (s : Scanner) (k : Kind) → (f : IsFront k s) → front_of (to_come s).tokens ≡ f.token
taken_is s k f = ap front_of f.first

-- The state of the scanner after its first token.
abbrev pub Passes : Kind → Remaining → Scanner → Scanner → Type 0
Passes k r s new = Leaves (adapted (to_come s)) (coming None (behind k) r new) (texts_by (behind k) new)
    × Stands None (behind k) r new

pub passes : (k : Kind) (r : Remaining) (s new : Scanner) → Waits s → (f : IsFront k s)
    → is_fault k ≡ false → to_come new ≡ behind_first (to_come s)
    → ((front_lexeme s).front ≡ (front_lexeme s).kind
    → HasTaken new (front_of (to_come s).tokens).body)
    → Passes k r s new
passes k r s new w f n left taken =
    let same : front_of (adapted (to_come s)).tokens ≡ f.token = ap (λ (c : Remaining). front_of c.tokens) (front_comes s k w f n) in
    let rest = rest_left s new k w f n left in
    elim (cases_Bool (may_lead k)) [
      | inl lead ↦
          let texts : AreTextsOf (front_of (adapted (to_come s)).tokens).body (texts_by standing.Unasked new) = lead_texts k (front_of (adapted (to_come s)).tokens).body (texts_by standing.Unasked new) lead (rw same (front_is s k w f n)) in
          let all : Leaves (adapted (to_come s)) (coming None standing.Unasked r new) (texts_by standing.Unasked new) = record { rest = rest.0; fault = rest.1; texts = texts } in
          subst (λ st. Leaves (adapted (to_come s)) (coming None st r new) (texts_by st new) × Stands None st r new) (sym (behind_lead k lead)) (all, tt)
      | inr own ↦
          let held : HasTaken new f.token.body = subst (λ (t : Token). HasTaken new t.body) (taken_is s k f) (taken (no_lead_own s k w f own)) in
          let texts : AreTextsOf (front_of (adapted (to_come s)).tokens).body (texts_by standing.Taken new) = rw same (texts_are new f.token.body held) in
          let all : Leaves (adapted (to_come s)) (coming None standing.Taken r new) (texts_by standing.Taken new) = record { rest = rest.0; fault = rest.1; texts = texts } in
          subst (λ st. Leaves (adapted (to_come s)) (coming None st r new) (texts_by st new) × Stands None st r new) (sym (behind_own k own)) (all, (f.token.body, held))
    ]
