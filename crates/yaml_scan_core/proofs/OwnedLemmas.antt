-- A token that is given with texts of its own.
use Rattle.std.proofs.Common.{◌≡◌, ◌≢◌, ◌∙◌, true, inl, inr, ◌∷◌, Some, refl, sym, ap, subst, arith}
use Rattle.std.specs.Prelude.{ℕ, pos, IfOk, Result, Ok, Err}
use Rattle.yaml_scan_core.proofs.Words.{cases_Bool, Remaining, SpelledText, yaml_mark_t}
use Rattle.yaml_scan_model.specs.Coming.{MayAnswer, front_of}
use Rattle.yaml_scan_model.specs.declared.fault.yaml_origin_t.TheVariants.{Scanner as OfScanner}
use Rattle.yaml_scan_model.specs.scan_types.Faults.{memory_fault}
use Rattle.yaml_scan_model.specs.Problems.{scanner_fault}
use Rattle.yaml_scan_model.specs.declared.fault.yaml_fault_t.{yaml_fault_t}
use Rattle.yaml_scan_model.specs.declared.name.yaml_scalar_style_t.{yaml_scalar_style_t}
use Rattle.yaml_scan_model.specs.declared.token.yaml_token_t.{yaml_token_t}
use Rattle.yaml_scan_model.specs.scan_types.Tokens.{Token, TokenBody}
use Rattle.yaml_scan_model.specs.scan_types.Tokens as tokens
use Rattle.yaml_scan_model.specs.Kinds.{IsOf}
use Rattle.yaml_scan_model.specs.Texts.{AreTextsOf, Texts}
use Rattle.yaml_scan_model.specs.declared.kind.Kind.{Kind}
use Rattle.yaml_scan_model.specs.declared.kind.Kind.TheVariants as kinds
use Rattle.yaml_scan_core.specs.declared.lexeme.Lexeme.{Lexeme}
use Rattle.yaml_scan_core.specs.declared.scanner.Scanner.{Scanner}
use Rattle.yaml_scan_core.specs.Asked.{HasTaken, IsFront, ShowsKind, TellsFault, Waits, behind_first, front_lexeme, store_in}
use Rattle.yaml_scan_core.specs.Handed.{to_come}
use Rattle.yaml_scan_core.specs.Owned.{GivesOwned, IsRefused, OwnedNeeded, TellsOwned, bare_with, body_with}
use Rattle.yaml_scan_core.specs.Rows.{may_lead}
use Rattle.yaml_scan_core.specs.Shown.{Carries, Store, end_at, number_of, place_mark}
use Rattle.yaml_scan_core.specs.Told.{fault_told, texts_of}
use Rattle.yaml_scan_core.specs.Scanning.{fault_in, stream_of}
use Rattle.yaml_scan_core.proofs.AskedLemmas.{first_by, own_skipped}
use Rattle.yaml_scan_core.proofs.TextsOfLemmas.{texts_are}
use Rattle.yaml_scan_core.specs.Waiting.{ReadsNeeded, TakesNeeded, TellsNeeded}

-- what a lexeme carries, by its texts
pub own_spelled : (k : Kind) (o : Store) (t : SpelledText) (x : Lexeme) (b : TokenBody) (u : Texts)
    → Carries o t x k b → AreTextsOf b u → b ≡ body_with k x.style u
own_spelled kinds.StreamStart o t x b u (bare, is) a =
    let same : u.encoding ≡ t.encoding = subst (λ y. AreTextsOf y u) is a in
    is ∙ ap (λ e. tokens.stream_start e) (sym same)
own_spelled kinds.VersionDirective o t x b u (m, n, h, is, small) a =
    let (one, two) = subst (λ y. AreTextsOf y u) is a in
    is ∙ ap (λ i. tokens.version_directive i (pos (number_of 0 n))) (sym one) ∙ ap (λ j. tokens.version_directive u.major j) (sym two)
own_spelled kinds.TagDirective o t x b u (m, n, h, is, good) a =
    let (one, two) = subst (λ y. AreTextsOf y u) is a in
    is ∙ ap (λ i. tokens.tag_directive i n) (sym one) ∙ ap (λ j. tokens.tag_directive u.handle j) (sym two)
own_spelled kinds.BadPrefix o t x b u (m, n, h, is, good) a =
    let (one, two) = subst (λ y. AreTextsOf y u) is a in
    is ∙ ap (λ i. tokens.tag_directive i n) (sym one) ∙ ap (λ j. tokens.tag_directive u.handle j) (sym two)
own_spelled kinds.Tag o t x b u (m, n, h, is, good) a =
    let (one, two) = subst (λ y. AreTextsOf y u) is a in
    is ∙ ap (λ i. tokens.tag i n) (sym one) ∙ ap (λ j. tokens.tag u.handle j) (sym two)
own_spelled kinds.BadTag o t x b u (m, n, h, is, good) a =
    let (one, two) = subst (λ y. AreTextsOf y u) is a in
    is ∙ ap (λ i. tokens.tag i n) (sym one) ∙ ap (λ j. tokens.tag u.handle j) (sym two)
own_spelled kinds.Alias o t x b u (v, h, is) a = let same : u.value ≡ v = subst (λ y. AreTextsOf y u) is a in is ∙ ap (λ w. tokens.alias w) (sym same)
own_spelled kinds.Anchor o t x b u (v, h, is) a = let same : u.value ≡ v = subst (λ y. AreTextsOf y u) is a in is ∙ ap (λ w. tokens.anchor w) (sym same)
own_spelled kinds.Scalar o t x b u (v, h, is) a = let same : u.value ≡ v = subst (λ y. AreTextsOf y u) is a in is ∙ ap (λ w. tokens.scalar w x.style) (sym same)
own_spelled kinds.Key o t x b u (bare, is, free) a = is
own_spelled kinds.Failed o t x b u c a = absurd c
own_spelled kinds.Nothing o t x b u c a = absurd c
own_spelled kinds.BlockSequenceStart o t x b u c a = absurd c
own_spelled kinds.BlockMappingStart o t x b u c a = absurd c
own_spelled kinds.BlockEnd o t x b u c a = absurd c
own_spelled kinds.StreamEnd o t x b u (bare, is) a = is
own_spelled kinds.DocumentStart o t x b u (bare, is) a = is
own_spelled kinds.DocumentEnd o t x b u (bare, is) a = is
own_spelled kinds.FlowSequenceStart o t x b u (bare, is) a = is
own_spelled kinds.FlowSequenceEnd o t x b u (bare, is) a = is
own_spelled kinds.FlowMappingStart o t x b u (bare, is) a = is
own_spelled kinds.FlowMappingEnd o t x b u (bare, is) a = is
own_spelled kinds.BlockEntry o t x b u (bare, is) a = is
own_spelled kinds.FlowEntry o t x b u (bare, is) a = is
own_spelled kinds.Value o t x b u (bare, is) a = is

-- what a token is that is before a lexeme's own one
pub lead_spelled : (k : Kind) (b : TokenBody) → may_lead k ≡ true → IsOf k b → b ≡ bare_with k
lead_spelled kinds.BlockEnd b lead is = is
lead_spelled kinds.BlockSequenceStart b lead is = is
lead_spelled kinds.BlockMappingStart b lead is = is
lead_spelled kinds.Key b lead is = is
lead_spelled _ b lead is = cc

-- the fault that is reported where one is next
pub told_refused : (r : Remaining) (s : Scanner) → TellsFault r s
    → IsRefused r (fault_told s.text.now s.fault)
told_refused r s (inl none) = let is : fault_told s.text.now s.fault ≡ memory_fault OfScanner = ap (λ o. fault_told s.text.now o) none in inl is
told_refused r s (inr (none, (f, some, told))) =
    let is : fault_told s.text.now s.fault ≡ scanner_fault (fault_in s.text.now f) = ap (λ o. fault_told s.text.now o) some in
    inr (none, told ∙ ap (λ x. Some x) (sym is))

-- a kind that isn't that of a fault, nor nothing, is that of the token that is next
pub front_shown : (k : Kind) (r : Remaining) (s : Scanner) → k ≢ kinds.Failed → k ≢ kinds.Nothing
    → ShowsKind k r s → IsFront k s × (to_come s ≡ r)
front_shown kinds.Failed r s a b h = absurd (a refl)
front_shown kinds.Nothing r s a b h = absurd (b refl)
front_shown _ r s a b h = h

-- what was taken after its kind was shown
pub owned_needed : (old mid new : Scanner) (k : Kind) → k ≢ kinds.Failed → TellsNeeded k old mid
    → TakesNeeded mid new → OwnedNeeded old new
owned_needed old mid new k other t n =
    let r : ReadsNeeded old mid = elim t.reads [ inl (was, r) ↦ r | inr (failed, f) ↦ absurd (other failed) ] in
    record {
      fixed = n.fixed ∙ t.fixed;
      taken = omega (arith, t.taken, n.taken);
      short = λ few. n.short (t.short few);
      few = λ few. omega (arith, t.short few, t.taken, n.count);
      reads = record {
        read = n.read r.read;
        further = omega (arith, r.further, n.count);
        needed = λ i low high. r.needed i low (omega (arith, high, n.count));
      };
    }

pub owned_none : (old mid : Scanner) (k : Kind) → k ≢ kinds.Failed → TellsNeeded k old mid
    → OwnedNeeded old mid
owned_none old mid k other t = record {
  fixed = t.fixed;
  taken = omega (arith, t.taken);
  short = t.short;
  few = λ few. omega (arith, t.short few, t.taken);
  reads = elim t.reads [ inl (was, r) ↦ r | inr (failed, f) ↦ absurd (other failed) ];
}

-- ---- the token that is given

abbrev made : TokenBody → yaml_mark_t → yaml_mark_t → Token
made b s e = record { body = b; start_mark = s; end_mark = e }

lead_bare : (k : Kind) (style : yaml_scalar_style_t) (u : Texts) → may_lead k ≡ true
    → body_with k style u ≡ bare_with k
lead_bare kinds.BlockEnd style u lead = refl
lead_bare kinds.BlockSequenceStart style u lead = refl
lead_bare kinds.BlockMappingStart style u lead = refl
lead_bare kinds.Key style u lead = refl
lead_bare _ style u lead = cc

-- what it carries
body_given : (s new : Scanner) (k : Kind) → Waits s → (f : IsFront k s)
    → ((front_lexeme s).front ≡ (front_lexeme s).kind → HasTaken new (front_of (to_come s).tokens).body)
    → body_with k (front_lexeme s).style (texts_of new) ≡ f.token.body
body_given s new k w f taken =
    let x = front_lexeme s in
    let u = texts_of new in
    let same : (front_of (to_come s).tokens).body ≡ f.token.body = ap (λ ts. (front_of ts).body) f.first in
    elim (first_by s k w.rests f).way [
      | inl own ↦
          let texts : AreTextsOf f.token.body u = subst (λ b. AreTextsOf b u) same (texts_are new (front_of (to_come s).tokens).body (taken own)) in
          sym (own_spelled x.kind (store_in s) (stream_of s) x f.token.body u (f.own own) texts ∙ ap (λ j. body_with j x.style u) (sym own ∙ sym f.kind))
      | inr other ↦ elim (cases_Bool (may_lead k)) [
        | inl lead ↦ lead_bare k x.style u lead ∙ sym (lead_spelled k f.token.body lead (f.lead other))
        | inr plain ↦ absurd (other (own_skipped s k w f plain))
      ]
    ]

-- the token that is made of a kind, its texts and places is the first to come
pub token_given : (s new : Scanner) (k : Kind) (style : yaml_scalar_style_t) (b : TokenBody)
    (start end_mark : yaml_mark_t) (from to : ℕ) → Waits s → IsFront k s
    → ((front_lexeme s).front ≡ (front_lexeme s).kind → HasTaken new (front_of (to_come s).tokens).body)
    → style ≡ (front_lexeme s).style → b ≡ body_with k style (texts_of new)
    → start ≡ place_mark s.text.now from → from ≡ (front_lexeme s).start → end_mark ≡ place_mark s.text.now to
    → ((front_lexeme s).front ≡ (front_lexeme s).kind → to ≡ end_at (store_in s) (front_lexeme s))
    → ((front_lexeme s).front ≢ (front_lexeme s).kind → to ≡ (front_lexeme s).start)
    → made b start end_mark ≡ front_of (to_come s).tokens
token_given s new k style b start end_mark from to w f taken styled body begins at ends own_end lead_end =
    let text = s.text.now in
    let carries : b ≡ f.token.body = body ∙ ap (λ y. body_with k y (texts_of new)) styled ∙ body_given s new k w f taken in
    let first : start ≡ f.token.start_mark = begins ∙ ap (λ p. place_mark text p) at ∙ f.start in
    let last : end_mark ≡ f.token.end_mark = ends ∙ elim (first_by s k w.rests f).way [
      | inl own ↦ ap (λ p. place_mark text p) (own_end own) ∙ f.own_end own
      | inr other ↦ ap (λ p. place_mark text p) (lead_end other) ∙ f.start ∙ sym (f.lead_end other)
    ] in
    ap (λ y. made y start end_mark) carries ∙ ap (λ m. made f.token.body m end_mark) first ∙ ap (λ m. made f.token.body f.token.start_mark m) last ∙ sym (ap front_of f.first)

pub owned_told : (k : Kind) (r : Remaining) (mid new : Scanner)
    (result : Result yaml_token_t yaml_fault_t) → to_come mid ≡ r → IsFront k mid → GivesOwned (to_come mid) result
    → to_come new ≡ behind_first (to_come mid) → TellsOwned r new result
owned_told k r mid new (Ok t) same f gives rest =
    let some : r.tokens ≡ f.token ∷ f.rest = ap (λ (c : Remaining). c.tokens) (sym same) ∙ f.first in
    (gives ∙ ap (λ (c : Remaining). front_of c.tokens) same, rest ∙ ap (λ (c : Remaining). behind_first c) same, subst (λ ts. MayAnswer ts r.fault) (sym some) tt)
owned_told k r mid new (Err e) same f gives rest = inl gives

pub if_ok : (r : Result yaml_token_t yaml_fault_t) (old new : Scanner) → OwnedNeeded old new
    → IfOk r (λ t. OwnedNeeded old new)
if_ok (Ok t) old new n = n
if_ok (Err e) old new n = tt
