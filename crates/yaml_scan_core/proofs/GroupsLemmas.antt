-- Lexemes that carry nothing, by what they do to keys and levels.
use Rattle.std.proofs.Common.{◌≡◌, ℕ, ◌+◌, ◌-◌, ◌<◌, ◌≤◌, ◌^◌, Bool, true, false, cond, ltb, eqb, ◌&&◌, ◌||◌, inl, inr, List, ◌∷◌, length, Option, None, Result, Ok, Err, refl, sym, ap, subst, ◌∙◌, arith}
use Rattle.yaml_scan_core.proofs.Words.{cases_lt, nat_tests, yaml_mark_t, column_at, byte, Kind, Lexeme, candidate, reached, flow_depth, depth_after, key_allowed, is_value, is_start, is_end, has, found_by, cancels, allows_key, may_be_key, lexeme_at, Upto, SpelledText, AreKeys, AreKeysTo, KeyStack, inner, key_at, stack_of, given_up, key_closed, no_key, index_in, length-entries}
use Rattle.std.proofs.lemmas.List.{get_or-take}
use Rattle.yaml_scan_model.specs.scan_types.Tokens as tokens
use Rattle.yaml_scan_model.specs.scan_types.Marks.{is_blank_or_end}
use Rattle.yaml_scan_history.specs.Indicators.{is_document_start, is_document_end}
use Rattle.std.specs.Prelude.{◌==◌}
use Rattle.yaml_scan_model.specs.scan_types.Tokens.{TokenBody}
use Rattle.yaml_scan_history.specs.declared.kind.Kind.TheVariants as reads
use Rattle.yaml_scan_laws.proofs.WordForward.{Tells}
use Rattle.yaml_scan_laws.proofs.HistoryForward.{are_few}
use Rattle.yaml_scan_core.proofs.ReadLemmas.{begun_at}
use Rattle.yaml_scan_core.specs.declared.fault.Fault.{Fault}
use Rattle.yaml_scan_core.specs.declared.fault.Refused.{Refused}
use Rattle.yaml_scan_core.specs.declared.row.Row.{Row}
use Rattle.yaml_scan_core.specs.declared.keys.Keys.{Keys}
use Rattle.yaml_scan_core.specs.declared.scanner.Scanner.{Scanner}
use Rattle.yaml_scan_model.specs.declared.kind.Kind.{Kind as Token}
use Rattle.yaml_scan_model.specs.declared.kind.Kind.TheVariants as kinds
use Rattle.yaml_scan_core.specs.declared.lexeme.Lexeme.{Lexeme as Held}
use Rattle.yaml_scan_core.specs.Candidates.{cancelled_at, left}
use Rattle.yaml_scan_core.specs.Rows.{HasRoom, row_of, pushed, bare}
use Rattle.yaml_scan_core.specs.Shown.{Carries, Store}
use Rattle.yaml_scan_core.specs.Scanning.{Holds, IsCloser, IsMark, IsOpener, IsPlace, Reads, StandsAs, Takes, Tests, fixed_of, read_as, read_by, stream_of}
use Rattle.yaml_scan_core.proofs.CandidatesLemmas.{cancelled_turns, closed_turns, cond_zero, inner_is, lower, upto_on}
use Rattle.yaml_scan_core.proofs.ComesLemmas.{word_here}
use Rattle.yaml_scan_core.proofs.StandLemmas.{takes_place}
use Rattle.yaml_scan_core.proofs.PlacesLemmas.{byte_place}
use Rattle.yaml_scan_core.proofs.TakesLemmas.{falls_memory, falls_put, falls_same, reads_err}
use Rattle.yaml_scan_core.proofs.KindsLemmas.{Goes, bare_goes, bare_word, cancelling_takes, goes_leaves, goes_takes, goes_upto, keeps_all, loses, not_wrong, place_cancels, put_at, puts_by, stands_told}

-- ---- a kind that carries nothing

-- a lexeme of a kind and of that width carries nothing, and opens no block level; whether it cancels its level's candidate, and may be a key
pub record Plain (k : Kind) (t : Token) (b : TokenBody) (width : ℕ) (allowed stop key : Bool) : Type 0 where
  pub flat : is_end k ≡ false
  pub other : k ≡ reads.StreamStart → ⊥
  pub colon : is_value k ≡ false
  pub starts : is_start k ≡ false
  pub stops : cancels k ≡ stop
  pub idle : may_be_key k ≡ key
  pub word : (text : List ℕ) (h : List Lexeme) → word_here k text h ≡ Ok (bare_word b width text h)
  pub carries : (o : Store) (s : SpelledText) (n p q : ℕ) → Carries o s (bare t n p q 0) t b
  pub place : (text : List ℕ) (at line wide : ℕ) → IsPlace text at line wide → Tells text at k
      → IsPlace text (at + width) line wide
  pub allows : (block found : Bool) → allows_key k block found ≡ allowed

-- a required candidate is lost
pub plain_falls : (k : Kind) (t : Token) (b : TokenBody) (width : ℕ) (allowed : Bool)
    (old new : Scanner) (h : List Lexeme) (n : ℕ) (r : Result (Unit {0}) Refused) (e d : Refused)
    → Plain k t b width allowed true false → StandsAs k old h n
    → new ≡ record old { fault = new.fault }
    → Tests (index_in (cancelled_at old.text.now (stack_of old.keys))) old.at new.fault (Err d)
    → r ≡ Err e → Reads old new h r
plain_falls k t b width allowed old new h n r e d p a same tests is =
    reads_err old new h r e is (falls_same old new h a.behind.holds same
    (loses k old h n new.fault d a (place_cancels k old.text.now h p.stops p.colon) p.flat (not_wrong k old.text.now h p.starts) tests))

-- a candidate that is required is replaced
pub key_falls : (k : Kind) (b : Bool) (old new : Scanner) (h : List Lexeme) (n : ℕ)
    (r : Result (Unit {0}) Refused) (e d : Refused) → StandsAs k old h n → is_end k ≡ false
    → is_start k ≡ false → takes_place (begun_at old.text.now h k) ≡ b
    → new ≡ record old { fault = new.fault }
    → Tests (cond b (index_in (cancelled_at old.text.now (stack_of old.keys))) None) old.at new.fault (Err d)
    → r ≡ Err e → Reads old new h r
key_falls k true old new h n r e d a flat starts place same tests is =
    reads_err old new h r e is (falls_same old new h a.behind.holds same
    (loses k old h n new.fault d a place flat (not_wrong k old.text.now h starts) tests))
key_falls k false old new h n r e d a flat starts place same tests is = absurd tests

-- memory ran out, where nothing but the levels has changed
pub late_falls : (old mid : Scanner) (keys : Keys) (row : Row) (h : List Lexeme)
    (r : Result (Unit {0}) Refused) (e : Refused) → Holds old h
    → mid ≡ record old { levels = mid.levels } → stack_of keys ≡ stack_of mid.keys
    → row_of row ≡ row_of mid.row → (HasRoom mid.row → HasRoom row) → r ≡ Err e
    → Reads old (record mid { keys = keys; row = row }) h r
late_falls old mid keys row h r e o same kept put room is =
    reads_err old (record mid { keys = keys; row = row }) h r e is
    (falls_memory old (record mid { keys = keys; row = row }) h o (ap (λ (s : Scanner). s.text.now) same) (ap (λ (s : Scanner). s.encoding) same)
    (kept ∙ ap (λ (s : Scanner). stack_of s.keys) same) (put ∙ ap (λ (s : Scanner). row_of s.row) same)
    (room (subst HasRoom (sym (ap (λ (s : Scanner). s.row) same)) o.room)) (ap (λ (s : Scanner). s.fault) same) (ap (λ (s : Scanner). fixed_of s) same))

pub same_but : (old mid : Scanner) → mid ≡ old → mid ≡ record old { levels = mid.levels }
same_but old mid e = subst (λ (m : Scanner). m ≡ record old { levels = m.levels }) (sym e) refl

-- lexemes are few
pub counts : (s : Scanner) (h : List Lexeme) (k : Kind) (n : ℕ) → StandsAs k s h n
    → s.row.dropped + length s.row.lexemes.items < 2 ^ 64
counts s h k n a =
    let few : length h ≤ length s.text.now + 2 = subst (λ (x : List Lexeme). length x ≤ length s.text.now + 2) (sym a.behind.is) (are_few s.text.now (read_by s)) in
    omega (arith, few, a.behind.holds.row.count, length-entries h, a.behind.holds.long)

pub put_falls : (k : Kind) (old mid : Scanner) (row : Row) (h : List Lexeme) (n : ℕ)
    (r : Result (Unit {0}) Refused) (e : Refused) → StandsAs k old h n → mid ≡ old
    → row_of row ≡ row_of mid.row → (HasRoom mid.row → HasRoom row) → r ≡ Err e
    → Reads old (record mid { row = row }) h r
put_falls k old mid row h n r e a same kept room is =
    reads_err old (record mid { row = row }) h r e is (falls_put old mid row h a.behind.holds same kept room)

-- what the code leaves
abbrev pub leaves_it : Scanner → ℕ → Bool → Keys → Row → Scanner
leaves_it mid width allowed keys row = record mid { at = mid.at + width; key_allowed = allowed; keys = keys; row = row }

or_false : (b : Bool) → (b || false) ≡ b
or_false true = refl
or_false false = refl

pub plain_goes : (k : Kind) (t : Token) (b : TokenBody) (width : ℕ) (allowed stop key : Bool)
    (old mid : Scanner) (keys : Keys) (row : Row) (x : Held) (h : List Lexeme) (n : ℕ)
    → Plain k t b width allowed stop key → StandsAs k old h n → mid ≡ old
    → x ≡ bare t n mid.at (mid.at + width) 0 → row_of row ≡ pushed x (row_of mid.row)
    → HasRoom row → Goes k (bare_word b width old.text.now h) old (leaves_it mid width allowed keys row) h
plain_goes k t b width allowed stop key old mid keys row x h n p a same is put room =
    let text = old.text.now in
    let w = bare_word b width text h in
    let puts = puts_by t n width 0 old mid row keys mid.levels allowed x same is put room in
    let place = p.place text old.at old.line old.wide a.behind.place (stands_told k old h n a) in
    let allows : allowed ≡ key_allowed (put_at k w text h ∷ h) = sym (rw (p.allows (eqb (flow_depth h) 0) (has (found_by (put_at k w text h) h))) (or_false allowed)) in
    bare_goes k t b width old (leaves_it mid width allowed keys row) h n a p.flat p.other p.colon p.starts (p.word text h)
    (λ o. p.carries o (stream_of old) n old.at (old.at + width)) puts (ap (λ (s : Scanner). s.levels) same) place allows

-- a lexeme that stays at its depth
pub plain_takes : (k : Kind) (t : Token) (b : TokenBody) (width : ℕ) (allowed : Bool)
    (old mid : Scanner) (keys : Keys) (row : Row) (x : Held) (h : List Lexeme) (n : ℕ)
    (f : Option Fault) (u : Unit {0})
    → Plain k t b width allowed true false → ((d : ℕ) → depth_after k d ≡ d) → StandsAs k old h n → mid ≡ old
    → Tests (index_in (cancelled_at old.text.now (stack_of old.keys))) old.at f (Ok u)
    → x ≡ bare t n mid.at (mid.at + width) 0 → row_of row ≡ pushed x (row_of mid.row)
    → HasRoom row → stack_of keys ≡ given_up (stack_of mid.keys)
    → Takes old (leaves_it mid width allowed keys row) h
plain_takes k t b width allowed old mid keys row x h n f u p deep a same tests is put room given =
    let text = old.text.now in
    cancelling_takes k (bare_word b width text h) old (leaves_it mid width allowed keys row) h n a p.stops p.idle p.flat (deep (flow_depth h))
    (not_wrong k text h p.starts) (keeps_all k old h n f u a (place_cancels k text h p.stops p.colon) tests) (p.word text h)
    (plain_goes k t b width allowed true false old mid keys row x h n p a same is put room)
    (given ∙ ap (λ (s : Scanner). given_up (stack_of s.keys)) same)

-- ---- closers

closed_outer : (n : ℕ) (text : List ℕ) (s : KeyStack) (l : Lexeme) (h : List Lexeme)
    (p : yaml_mark_t) → AreKeysTo n text s h p → l.depth ≡ n → 0 < n
    → (key_at (key_closed s) 0 ≡ key_at s 0) × (candidate 0 (l ∷ h) ≡ candidate 0 h)
closed_outer n text s l h p a at some =
    (get_or-take (inner s) s.levels 0 no_key (omega (arith, inner_is n s a.long, some)), lower 0 l h (omega (arith, at, some)))

given_outer : (n : ℕ) (text : List ℕ) (s : KeyStack) (h : List Lexeme)
    (p : yaml_mark_t) → AreKeysTo n text s h p → n ≡ 0 → (given_up s).required ≡ false
given_outer n text s h p a flat = cond_zero (inner s) false s.required (inner_is n s a.long ∙ flat)

pub closing_takes : (k : Kind) (t : Token) (b : TokenBody) (old mid : Scanner) (keys : Keys)
    (row : Row) (x : Held) (h : List Lexeme) (n : ℕ) (f : Option Fault) (u : Unit {0})
    → Plain k t b 1 false true false → ((d : ℕ) → depth_after k d ≡ d - 1) → StandsAs k old h n → mid ≡ old
    → Tests (index_in (cancelled_at old.text.now (stack_of old.keys))) old.at f (Ok u)
    → x ≡ bare t n mid.at (mid.at + 1) 0 → row_of row ≡ pushed x (row_of mid.row) → HasRoom row
    → stack_of keys ≡ left (stack_of mid.keys) → Takes old (leaves_it mid 1 false keys row) h
closing_takes k t b old mid keys row x h n f u p less a same tests is put room leaves =
    let text = old.text.now in
    let w = bare_word b 1 text h in
    let l = put_at k w text h in
    let s = stack_of old.keys in
    let new = leaves_it mid 1 false keys row in
    let o = a.behind.holds.keys in
    let goes = plain_goes k t b 1 false true false old mid keys row x h n p a same is put room in
    let (further, forward) = goes_upto k w old new h n a goes in
    let on : Upto (reached h) l.reached = upto_on (reached h) l.start l.reached further forward in
    let free : l.saved ≡ false = rw p.idle (grind arith) in
    let all : stack_of keys ≡ left s = leaves ∙ ap (λ (q : Scanner). left (stack_of q.keys)) same in
    let good = not_wrong k text h p.starts in
    let kept = keeps_all k old h n f u a (place_cancels k text h p.stops p.colon) tests in
    elim (cases_lt 0 (flow_depth h)) [
      | inl some ↦
          let deep : ltb 0 (inner s) ≡ true = let e = inner_is (flow_depth h) s o.long in grind (arith, nat_tests) in
          let now : stack_of keys ≡ key_closed s = all ∙ (rw deep refl) in
          let turned = closed_turns (flow_depth h) text s l h (reached h) o on refl some in
          let (key, stays) = closed_outer (flow_depth h) text s l h (reached h) o refl some in
          goes_takes k w old new h n a p.flat good kept (p.word text h) (goes_leaves k w old new h n a goes p.flat
          (subst (λ q. AreKeys text q (l ∷ h) l.reached) (sym now) (subst (λ d. AreKeysTo d text (key_closed s) (l ∷ h) l.reached) (sym (less (flow_depth h))) turned))
          (λ must. inl (ap (λ q. key_at q 0) now ∙ key, stays))
          (omega (arith, ap (λ (q : KeyStack). q.passed) now)))
      | inr low ↦
          let flat : flow_depth h ≡ 0 = omega (arith, low) in
          let none : ltb 0 (inner s) ≡ false = let e = inner_is (flow_depth h) s o.long in grind (arith, nat_tests) in
          let now : stack_of keys ≡ given_up s = all ∙ (rw none refl) in
          let turned = cancelled_turns (flow_depth h) text s l h (reached h) o on refl free p.stops in
          let same_depth : flow_depth h ≡ depth_after k (flow_depth h) = omega (arith, flat, less (flow_depth h)) in
          goes_takes k w old new h n a p.flat good kept (p.word text h) (goes_leaves k w old new h n a goes p.flat
          (subst (λ q. AreKeys text q (l ∷ h) l.reached) (sym now) (subst (λ d. AreKeysTo d text (given_up s) (l ∷ h) l.reached) same_depth turned))
          (λ must. let bad = sym (ap (λ (q : KeyStack). q.required) now ∙ given_outer (flow_depth h) text s h (reached h) o flat) ∙ must in cc)
          (omega (arith, ap (λ (q : KeyStack). q.passed) now)))
    ]

-- ---- which kinds

pub byte_on : (b : ℕ) → 13 < b → b < 128 → (text : List ℕ) (at line wide : ℕ)
    → IsPlace text at line wide
    → byte text at ≡ b → IsPlace text (at + 1) line wide
byte_on b low high text at line wide p is = byte_place text at line wide b p is low high

pub comma : Plain reads.FlowEntry kinds.FlowEntry tokens.flow_entry 1 true true false
unfolding lexeme_at
comma = record {
  flat = refl;
  other = λ e. cc;
  colon = refl;
  starts = refl;
  stops = refl;
  idle = refl;
  word = λ text h. refl;
  carries = λ o s n p q. (record { plain = refl }, refl);
  place = byte_on 44 (omega arith) (omega arith);
  allows = λ block found. refl;
}

-- a closer's token
abbrev pub closer_body : Token → TokenBody
closer_body kinds.FlowSequenceEnd = tokens.flow_sequence_end
closer_body _ = tokens.flow_mapping_end

pub closer : (t : Token) → IsCloser t → Plain (read_as t) t (closer_body t) 1 false true false
unfolding lexeme_at
closer kinds.FlowSequenceEnd c = record {
  flat = refl;
  other = λ e. cc;
  colon = refl;
  starts = refl;
  stops = refl;
  idle = refl;
  word = λ text h. refl;
  carries = λ o s n p q. (record { plain = refl }, refl);
  place = byte_on 93 (omega arith) (omega arith);
  allows = λ block found. refl;
}
closer kinds.FlowMappingEnd c = record {
  flat = refl;
  other = λ e. cc;
  colon = refl;
  starts = refl;
  stops = refl;
  idle = refl;
  word = λ text h. refl;
  carries = λ o s n p q. (record { plain = refl }, refl);
  place = byte_on 125 (omega arith) (omega arith);
  allows = λ block found. refl;
}
closer _ c = absurd (elim c [ inl e ↦ cc | inr e ↦ cc ])

pub closer_depth : (t : Token) → IsCloser t → (d : ℕ) → depth_after (read_as t) d ≡ d - 1
closer_depth kinds.FlowSequenceEnd c d = refl
closer_depth kinds.FlowMappingEnd c d = refl
closer_depth _ c d = absurd (elim c [ inl e ↦ cc | inr e ↦ cc ])

-- ---- documents' marks

thrice : (text : List ℕ) (at line wide b : ℕ) → IsPlace text at line wide → 13 < b → b < 128
    → byte text at ≡ b → byte text (at + 1) ≡ b → byte text (at + 2) ≡ b
    → IsPlace text (at + 3) line wide
thrice text at line wide b p low high one two three =
    let e : at + 1 + 1 ≡ at + 2 = omega arith in
    let d : at + 2 + 1 ≡ at + 3 = omega arith in
    let q = byte_place text at line wide b p one low high in
    let r : IsPlace text (at + 2) line wide = subst (λ i. IsPlace text i line wide) e (byte_place text (at + 1) line wide b q two low high) in
    subst (λ i. IsPlace text i line wide) d (byte_place text (at + 2) line wide b r three low high)

three_bytes : (a b c d x : ℕ) (last : Bool)
    → ((a == 0 && (b == x && (c == x && d == x))) && last) ≡ true → (b ≡ x) × (c ≡ x) × (d ≡ x)
three_bytes a b c d x last h = (grind (arith, nat_tests), grind (arith, nat_tests), grind (arith, nat_tests))

start_place : (text : List ℕ) (at line wide : ℕ) → IsPlace text at line wide
    → is_document_start text at ≡ true → IsPlace text (at + 3) line wide
unfolding is_document_start
start_place text at line wide p h =
    let (a, b, c) = three_bytes (column_at text at) (byte text at) (byte text (at + 1)) (byte text (at + 2)) 45 (is_blank_or_end text (at + 3)) h in
    thrice text at line wide 45 p (omega arith) (omega arith) a b c

end_place : (text : List ℕ) (at line wide : ℕ) → IsPlace text at line wide
    → is_document_end text at ≡ true → IsPlace text (at + 3) line wide
unfolding is_document_end
end_place text at line wide p h =
    let (a, b, c) = three_bytes (column_at text at) (byte text at) (byte text (at + 1)) (byte text (at + 2)) 46 (is_blank_or_end text (at + 3)) h in
    thrice text at line wide 46 p (omega arith) (omega arith) a b c

-- a mark's token
abbrev pub mark_body : Token → TokenBody
mark_body kinds.DocumentStart = tokens.document_start
mark_body _ = tokens.document_end

pub mark : (t : Token) → IsMark t → Plain (read_as t) t (mark_body t) 3 false true false
unfolding lexeme_at
mark kinds.DocumentStart c = record {
  flat = refl;
  other = λ e. cc;
  colon = refl;
  starts = refl;
  stops = refl;
  idle = refl;
  word = λ text h. refl;
  carries = λ o s n p q. (record { plain = refl }, refl);
  place = start_place;
  allows = λ block found. refl;
}
mark kinds.DocumentEnd c = record {
  flat = refl;
  other = λ e. cc;
  colon = refl;
  starts = refl;
  stops = refl;
  idle = refl;
  word = λ text h. refl;
  carries = λ o s n p q. (record { plain = refl }, refl);
  place = end_place;
  allows = λ block found. refl;
}
mark _ c = absurd (elim c [ inl e ↦ cc | inr e ↦ cc ])

pub mark_depth : (t : Token) → IsMark t → (d : ℕ) → depth_after (read_as t) d ≡ d
mark_depth kinds.DocumentStart c d = refl
mark_depth kinds.DocumentEnd c d = refl
mark_depth _ c d = absurd (elim c [ inl e ↦ cc | inr e ↦ cc ])

-- ---- openers

abbrev pub opener_body : Token → TokenBody
opener_body kinds.FlowSequenceStart = tokens.flow_sequence_start
opener_body _ = tokens.flow_mapping_start

pub opener : (t : Token) → IsOpener t → Plain (read_as t) t (opener_body t) 1 true false true
unfolding lexeme_at
opener kinds.FlowSequenceStart c = record {
  flat = refl;
  other = λ e. cc;
  colon = refl;
  starts = refl;
  stops = refl;
  idle = refl;
  word = λ text h. refl;
  carries = λ o s n p q. (record { plain = refl }, refl);
  place = byte_on 91 (omega arith) (omega arith);
  allows = λ block found. refl;
}
opener kinds.FlowMappingStart c = record {
  flat = refl;
  other = λ e. cc;
  colon = refl;
  starts = refl;
  stops = refl;
  idle = refl;
  word = λ text h. refl;
  carries = λ o s n p q. (record { plain = refl }, refl);
  place = byte_on 123 (omega arith) (omega arith);
  allows = λ block found. refl;
}
opener _ c = absurd (elim c [ inl e ↦ cc | inr e ↦ cc ])

pub opener_depth : (t : Token) → IsOpener t → (d : ℕ) → depth_after (read_as t) d ≡ d + 1
opener_depth kinds.FlowSequenceStart c d = refl
opener_depth kinds.FlowMappingStart c d = refl
opener_depth _ c d = absurd (elim c [ inl e ↦ cc | inr e ↦ cc ])
