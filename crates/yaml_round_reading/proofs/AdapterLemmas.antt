-- The token that an adapter gives, and the texts of what is left.
use Rattle.std.proofs.Common.{◌≡◌, ◌≤◌, ◌<◌, ℕ, true, false, true≢false, List, [], ◌∷◌, Option, Some, None, Result, Ok, Err, refl, sym, subst, inl, inr, IfOk, IfErr, All, ap, ◌∙◌, arith}
use Rattle.std.proofs.lemmas.Bool.{cases_lt}
use Rattle.std.proofs.lemmas.List.Elements.{All-nil, All-head, All-tail}
use Rattle.yaml_scan.specs.declared.yaml_encoding_t.{yaml_encoding_t}
use Rattle.yaml_scan.specs.scan_types.Tokens.{Token, no_token, token_of}
use Rattle.yaml_scan.specs.declared.yaml_mark_t.{yaml_mark_t}
use Rattle.yaml_scan.specs.declared.yaml_token_t.{yaml_token_t}
use Rattle.yaml_scan.specs.declared.yaml_fault_t.{yaml_fault_t}
use Rattle.yaml_parse_model.specs.Source.{front_of, rest_of, MayAnswer, HasMore, GivesToken, GivesFault, answer_of}
use Rattle.yaml_scan.specs.scan_types.Faults.{Fault, fault_of}
use Rattle.yaml_scan.specs.scan_decode.declared.offence.Offence.{Offence}
use Rattle.yaml_scan.specs.scan_decode.Encodings.{encoding_of}
use Rattle.yaml_scan.specs.scan_decode.Decoding.{decoded_text}
use Rattle.yaml_scan_decode.proofs.DecodeLemmas.{AreBytes}
use Rattle.yaml_scan_decode.proofs.CompleteLemmas.{decoded_spells}
use Rattle.yaml_scan_laws.specs.Utf8Texts.{HasTexts}
use Rattle.yaml_scan_laws.proofs.Decoded.{spelled_utf8}
use Rattle.yaml_scan_laws.proofs.TokensUtf8.{remaining_sound}
use Rattle.yaml_scan.specs.scan_history.Remaining.{Remaining, nothing}
use Rattle.yaml_scan.specs.Scanned.{scanned_in, scanned}
use Rattle.yaml_scan.specs.Settled.{settles}
use Rattle.yaml_scan.specs.Session as session
use Rattle.yaml_scan.specs.Session.{View, Takes, Lends, Refuses, Scans, HoldsLittle, IsKnown, EndsAnswered, ReadsNeeded, begun, ended, first_of, others_of, behind_first}
use Rattle.yaml_round_content.specs.Adapted.{adapted, spells_text, tag_fault}
use Rattle.yaml_round_reading.specs.Adapter.{IsStep, IsTag, Looked, TakesText, Stops}
use Rattle.yaml_round_content.proofs.AdaptedLemmas.{taken, refused, failed}

abbrev pub HaveTexts : Remaining → Type 0
HaveTexts c = All (λ t. HasTexts t.body) c.tokens

in_texts : (s : yaml_encoding_t) (bytes : List ℕ) (r : Result (List ℕ) Offence) → AreBytes bytes
    → decoded_text s bytes ≡ r → HaveTexts (scanned_in (encoding_of s bytes) r)
in_texts s bytes (Ok text) are h = remaining_sound record { encoding = encoding_of s bytes; text = text } (spelled_utf8 s bytes text (decoded_spells s bytes text are h)) 0 0
in_texts s bytes (Err o) are h = All-nil (λ t. HasTexts t.body)

-- the tokens of an input
pub scanned_texts : (s : yaml_encoding_t) (bytes : List ℕ) → AreBytes bytes
    → HaveTexts (scanned s bytes)
scanned_texts s bytes are = in_texts s bytes (decoded_text s bytes) are refl

-- a session of which nothing was read
pub begun_little : (s : yaml_encoding_t) (bytes : List ℕ) → HoldsLittle (begun s bytes)
begun_little s bytes = omega arith

others_texts : (ts : List Token) → All (λ t. HasTexts t.body) ts
    → All (λ t. HasTexts t.body) (others_of ts)
others_texts [] h = h
others_texts (t ∷ ts) h = All-tail (λ t. HasTexts t.body) t ts h

first_texts : (ts : List Token) → All (λ t. HasTexts t.body) ts → HasTexts (first_of ts).body
first_texts [] h = tt
first_texts (t ∷ ts) h = All-head (λ t. HasTexts t.body) t ts h

-- what is left after the first token
pub texts_left : (old new : Remaining) → new ≡ behind_first old → HaveTexts old → HaveTexts new
texts_left old new e h = rw e (others_texts old.tokens h)

first_front : (ts : List Token) → first_of ts ≡ front_of ts
first_front [] = refl
first_front (t ∷ ts) = refl

others_rest : (ts : List Token) → others_of ts ≡ rest_of ts
others_rest [] = refl
others_rest (t ∷ ts) = refl

same_may : (ts : List Token) (fault : Option Fault) → session.MayAnswer ts fault
    → MayAnswer ts fault
same_may [] fault may = may
same_may (t ∷ ts) fault may = tt

same_more : (ts : List Token) (fault : Option Fault) → session.HasMore ts fault → HasMore ts fault
same_more [] None more = more
same_more [] (Some f) more = tt
same_more (t ∷ ts) fault more = tt

-- a token whose tag is UTF-8 is given
pub gives_text : (old new : View) (t : Token) → HaveTexts old.remaining → TakesText old t new
    → GivesToken (adapted old.remaining).tokens (adapted old.remaining).fault t
    (adapted new.remaining).tokens (adapted new.remaining).fault
gives_text old new t texts g =
    taken old.remaining new.remaining t
    (g.takes.token ∙ first_front old.remaining.tokens)
    (ap (λ (c : Remaining). c.tokens) g.takes.rest ∙ others_rest old.remaining.tokens)
    (ap (λ (c : Remaining). c.fault) g.takes.rest)
    (same_may old.remaining.tokens old.remaining.fault g.takes.may)
    (let own : HasTexts (first_of old.remaining.tokens).body = first_texts old.remaining.tokens texts in rw g.takes.token own)
    g.text

-- Where a token's tag isn't UTF-8 no fault was answered: after one comes the empty token, which has none.
unanswered : (old : View) (t : Token) (a : Option Fault) → old.answered ≡ a → EndsAnswered old
    → t ≡ first_of old.remaining.tokens → spells_text t.body ≡ false → old.answered ≡ None
unanswered old t None e over first bytes = e
unanswered old t (Some f) e over first bytes =
    let empty : t ≡ no_token = first ∙ ap (λ (c : Remaining). first_of c.tokens) (over f e) in
    absurd (true≢false (sym (ap (λ (x : Token). spells_text x.body) empty) ∙ bytes))

-- A token that was looked at is taken: both calls are one step.
needed_both : (old mid new : View) → ReadsNeeded old mid → ReadsNeeded mid new
    → mid.remaining ≡ old.remaining → (n : ℕ) → old.read ≤ n → n < new.read
    → settles old.setting old.bytes old.remaining.tokens n ≡ false
needed_both old mid new first second all n low high = elim (cases_lt n mid.read) [
  | inl before ↦ first.needed n low before
  | inr further ↦ let tokens : mid.remaining.tokens ≡ old.remaining.tokens = ap (λ (c : Remaining). c.tokens) all in rw (← first.setting, ← first.bytes, ← tokens) (second.needed n further high)
]

reads_both : (old mid new : View) → ReadsNeeded old mid → ReadsNeeded mid new
    → mid.remaining ≡ old.remaining → ReadsNeeded old new
reads_both old mid new first second all = record {
  setting = second.setting ∙ first.setting;
  bytes = second.bytes ∙ first.bytes;
  further = omega (arith, first.further, second.further);
  needed = needed_both old mid new first second all;
}

takes_looked : (old mid new : View) (t u : Token) → Lends old t mid → Takes mid u new
    → Takes old u new
takes_looked old mid new t u looked takes = record {
  token = takes.token ∙ ap (λ (c : Remaining). first_of c.tokens) looked.all;
  rest = takes.rest ∙ ap (λ (c : Remaining). behind_first c) looked.all;
  may = looked.may;
  same = takes.same ∙ looked.same;
  reads = reads_both old mid new looked.reads takes.reads looked.all;
  over = looked.over;
  still = λ f h. takes.still f (looked.same ∙ h) ∙ looked.still f h;
}

-- it is the one that was looked at
token_looked : (old mid new : View) (t u : Token) → Lends old t mid → Takes mid u new → u ≡ t
token_looked old mid new t u looked takes = takes.token ∙ ap (λ (c : Remaining). first_of c.tokens) looked.all ∙ sym looked.token

-- and isn't refused
looked_stays : (old mid new : View) (t : Token) (f : Fault) → Lends old t mid
    → Refuses mid f new → ⊥
looked_stays old mid new t f looked r = pick looked.known
  where
    pick : IsKnown mid → ⊥
    pick (inl settled) = true≢false (sym settled ∙ r.sought)
    pick (inr none) = subst (λ (c : Remaining). session.HasMore c.tokens c.fault) none r.more

-- a token whose tag isn't UTF-8, and the session that its fault ended
pub other_bytes : (old looked new : View) (t : Token) (f : Fault) → Lends old t looked
    → (spells_text t.body ≡ false) × (f ≡ tag_fault t.start_mark) → new ≡ ended looked f
    → Stops old f new
other_bytes old looked new t f g (bytes, told) ends = inr record {
  token = t;
  looked = looked;
  lends = g;
  bytes = bytes;
  told = told;
  once = unanswered old t old.answered refl g.over g.token bytes;
  ends = ends;
}

-- after a fault nothing is left
stopped : (old new : View) (f : Fault) → Stops old f new → new.remaining ≡ nothing
stopped old new f (inl r) = r.over
stopped old new f (inr b) = ap (λ (v : View). v.remaining) b.ends

-- where nothing is left
pub no_texts : (c : Remaining) → c ≡ nothing → HaveTexts c
no_texts c e = subst HaveTexts (sym e) (All-nil (λ t. HasTexts t.body))

-- the session's own fault is given, or that of the next token's tag
gives_stop : (old new : View) (f : Fault) → Stops old f new
    → GivesFault (adapted old.remaining).tokens (adapted old.remaining).fault f [] None
gives_stop old new f (inl r) = failed old.remaining f (same_more old.remaining.tokens old.remaining.fault r.more) r.told
gives_stop old new f (inr b) = rw b.told (refused old.remaining b.token (b.lends.token ∙ first_front old.remaining.tokens) b.bytes)

pub gives_fault : (old new : View) (f : Fault) → Stops old f new
    → GivesFault (adapted old.remaining).tokens (adapted old.remaining).fault f
    (adapted new.remaining).tokens (adapted new.remaining).fault
gives_fault old new f s = subst (λ (c : Remaining). GivesFault (adapted old.remaining).tokens (adapted old.remaining).fault f (adapted c).tokens (adapted c).fault) (sym (stopped old new f s)) (gives_stop old new f s)

-- ---- a scan after a look

pub record ScansLooked (old : View) (x : Result yaml_token_t yaml_fault_t) (new : View) : Type 0
  where
    pub texts : HaveTexts new.remaining
    pub ok : IfOk x (λ u. GivesToken (adapted old.remaining).tokens (adapted old.remaining).fault
        (token_of u) (adapted new.remaining).tokens (adapted new.remaining).fault)
    pub err : IfErr x (λ f. GivesFault (adapted old.remaining).tokens (adapted old.remaining).fault
        (fault_of f) (adapted new.remaining).tokens (adapted new.remaining).fault)
    pub own : IsStep old (answer_of x) new

pub scans_looked : (old mid new : View) (found : Option yaml_mark_t)
    (x : Result yaml_token_t yaml_fault_t) → found ≡ None → HaveTexts old.remaining
    → Looked old found mid → Scans mid new x → HoldsLittle new
    → ScansLooked old x new
scans_looked old mid new found (Ok u) none texts looked takes little =
    let both : Takes old (token_of u) new = takes_looked old mid new looked.token (token_of u) looked.lends takes in
    let same : token_of u ≡ looked.token = token_looked old mid new looked.token (token_of u) looked.lends takes in
    let text : TakesText old (token_of u) new = record { takes = both; text = ap (λ (t : Token). spells_text t.body) same ∙ subst (λ (o : Option yaml_mark_t). IsTag o looked.token) none looked.tag } in
    record {
      texts = texts_left old.remaining new.remaining both.rest texts;
      ok = gives_text old new (token_of u) texts text;
      err = tt;
      own = (text, little);
    }
scans_looked old mid new found (Err f) none texts looked refuses little =
    absurd (looked_stays old mid new looked.token (fault_of f) looked.lends refuses)
