-- What the tokens of a text cost, by the lengths of what they carry: so much for each byte of the text, and once more.
use Rattle.std.proofs.Common.{◌≡◌, ℕ, zero, suc, ◌+◌, ◌-◌, ◌*◌, ◌<◌, ◌≤◌, Bool, true, false, true≢false, not, nat_lt, List, [], ◌∷◌, length, Option, Some, None, Result, Ok, Err, refl, sym, ap, subst, ◌∙◌, arith, inl, inr, le_refl, mul-le-mul_left, mul-le-mul_right, mul-add}
use Rattle.yaml_round_laws.proofs.SizesWords.{nat_tests, cases_Bool, ScanFault, TokenBody, Wrong, is_blank_or_end, Kind, Lexeme, is_end, start_of, Next, Read, Fails, Ends, first_lexeme, begun_behind, with_end, place_behind, kind_behind, word_behind, lexeme_behind, first_fault_or, stale_before, no_start, faults, coming, next, extended, history, WordText, lexeme_at, SpelledText, body_of_word, body_by, body_in, all, offline, Stands, history_stands, stand_in, not_ended, first_is, takes_bytes, placed_index}
use Rattle.yaml_scan_history.specs.scan_types.Tokens as token
use Rattle.yaml_scan_history.specs.declared.kind.Kind.TheVariants as kinds
use Rattle.yaml_scan_history.specs.declared.lexeme.Opens.TheVariants as opening
use Rattle.yaml_scan_laws.specs.Standing.{Takes}
use Rattle.yaml_round_laws.proofs.Leads.{one_if}
use Rattle.yaml_round_laws.proofs.Lexemes.{outside, apart, apart_least}
use Rattle.yaml_round_laws.proofs.Paying.{Telling, Tells, next_tells, no_blank, ended_keeps}
use Rattle.yaml_round_laws.proofs.Spans.{Spans, WordSpans, word_spans}
use Rattle.yaml_round_laws.proofs.Weights.{Weight, weigh, start_weight, outer, mapping_most, taken, opens_by, ArePaid, prices, tokens_weigh}

-- ---- what is known of a lexeme

-- it takes a byte at least, but at the stream's start and end
abbrev TakesSome : Kind → ℕ → ℕ → Type 0
TakesSome kinds.StreamStart p q = Unit {0}
TakesSome kinds.StreamEnd p q = Unit {0}
TakesSome _ p q = p < q

takes_some : (k : Kind) (p q : ℕ) → (is_end k ≡ false → p < q) → TakesSome k p q
takes_some k p q f = grind (arith, nat_tests)

-- where its text is reached, and that what it carries spans it
record Known (s : SpelledText) (l : Lexeme) : Type 0 where
  pub some : TakesSome l.kind l.start.index l.reached.index
  pub spans : Spans l.start.index l.reached.index (body_in s l)

abbrev reached_or : Result WordText Wrong → ℕ → ℕ
reached_or (Ok w) p = w.reached
reached_or (Err e) p = p

abbrev word_of : List ℕ → Lexeme → Result WordText Wrong
word_of text l = lexeme_at l.kind (nat_lt 0 l.depth) l.level text l.start.index

carried : (p q : ℕ) (r : Result WordText Wrong) → WordSpans p r → q ≡ reached_or r p
    → Spans p q (body_of_word r)
carried p q r f e = grind (arith, nat_tests)

end_spans : (s : SpelledText) (l : Lexeme) (q : ℕ)
    → Spans l.start.index q (body_by kinds.StreamEnd s l)
unfolding lexeme_at
end_spans s l q = tt

body_spans : (k : Kind) (s : SpelledText) (l : Lexeme) (q : ℕ)
    → (is_end k ≡ false → q ≡ reached_or
    (lexeme_at k (nat_lt 0 l.depth) l.level s.text l.start.index)
    l.start.index)
    → Spans l.start.index q (body_by k s l)
body_spans kinds.StreamStart s l q f = tt
body_spans kinds.StreamEnd s l q f = end_spans s l q
body_spans _ s l q f = carried l.start.index q _ (word_spans _ (nat_lt 0 l.depth) l.level s.text l.start.index) (f refl)

-- the place that a lexeme reaches is that after its word
ended_reach : (text : List ℕ) (b : Lexeme) (r : Result WordText Wrong) → is_end b.kind ≡ false
    → (with_end text b r).reached.index ≡ reached_or r b.reached.index
ended_reach text b r e = grind (arith, nat_tests)

ended_word : (text : List ℕ) (b : Lexeme) (r : Result WordText Wrong)
    → word_of text (with_end text b r) ≡ word_of text b
ended_word text b r = grind (arith, nat_tests, cases_Bool)

reach_is : (k : Kind) (text : List ℕ) (h : List Lexeme) → is_end k ≡ false
    → (lexeme_behind k text h).reached.index
    ≡ reached_or (word_of text (lexeme_behind k text h)) (lexeme_behind k text h).start.index
reach_is k text h e = grind (arith, nat_tests, word_of, ended_word, placed_index, ended_keeps, ended_reach)

lexeme_spans : (k : Kind) (s : SpelledText) (h : List Lexeme)
    → Spans (lexeme_behind k s.text h).start.index (lexeme_behind k s.text h).reached.index
    (body_in s (lexeme_behind k s.text h))
lexeme_spans k s h =
    let l = lexeme_behind k s.text h in
    let kind : l.kind ≡ k = (ended_keeps s.text (begun_behind k s.text h) (word_behind k s.text h)).kind in
    body_spans l.kind s l l.reached.index (λ e. reach_is k s.text h (ap is_end (sym kind) ∙ e))

abbrev SpansNext : SpelledText → Next → Type 0
SpansNext s (Read l) = Spans l.start.index l.reached.index (body_in s l)
SpansNext s (Fails p) = Unit {0}
SpansNext s Ends = Unit {0}

first_spans : (s : SpelledText) (ps : List (Option ScanFault)) (x : Next) → SpansNext s x
    → SpansNext s (first_fault_or ps x)
first_spans s [] x t = t
first_spans s (Some p ∷ ps) x t = tt
first_spans s (None ∷ ps) x t = first_spans s ps x t

coming_spans : (o : Option Kind) (s : SpelledText) (h : List Lexeme)
    → SpansNext s (coming o s.text h)
coming_spans None s h = first_spans s (stale_before s.text h ∷ []) (Fails (no_start (place_behind s.text h))) tt
coming_spans (Some k) s h = first_spans s (faults k s.text h) (Read (lexeme_behind k s.text h)) (lexeme_spans k s h)

next_spans : (s : SpelledText) (x : Lexeme) (h : List Lexeme) → is_end x.kind ≡ false
    → SpansNext s (next s.text (x ∷ h))
unfolding next
next_spans s x h more = rw more (coming_spans (kind_behind s.text (x ∷ h)) s (x ∷ h))

-- ---- how many bytes lexemes take, and the blanks after those that need one

abbrev pub taking : Lexeme → ℕ
taking l = (l.reached.index - l.start.index) + apart l.kind l.depth

record Taken (s : SpelledText) (l : Lexeme) (h : List Lexeme) : Type 0 where
  known : Known s l
  count : is_end l.kind ≡ false → prices taking (l ∷ h) ≤ l.reached.index + apart l.kind l.depth
  blank : apart l.kind l.depth ≤ one_if (is_blank_or_end s.text l.reached.index)
  total : prices taking (l ∷ h) ≤ length s.text + 1

abbrev AreTaken : SpelledText → List Lexeme → Type 0
AreTaken s [] = Unit {0}
AreTaken s (l ∷ h) = Taken s l h × AreTaken s h

first_taken : (s : SpelledText) → Taken s first_lexeme []
first_taken s = record { known = record { some = tt; spans = tt }; count = λ e. omega arith; blank = omega arith; total = omega arith }

end_apart : (k : Kind) (d : ℕ) → is_end k ≡ true → apart k d ≡ 0
end_apart k d e = grind (arith, nat_tests)

end_none : (text : List ℕ) (l : Lexeme) (p : ℕ) → l.reached ≡ l.start
    → l.reached.index - l.start.index ≡ 0
end_none text l p e = rw e (omega arith)

-- from the place that one reaches to the start of the next one
stepped : (text : List ℕ) (p q : ℕ) → p ≤ q → is_blank_or_end text q ≡ false
    → p + one_if (is_blank_or_end text p) ≤ q
stepped text p q w n =
    elim (cases_Bool (is_blank_or_end text p)) [
      | inl e ↦
          let differ : p ≡ q → ⊥ = λ s. let u : is_blank_or_end text q ≡ true = subst (λ i. is_blank_or_end text i ≡ true) s e in cc in
          rw e (omega (arith, differ))
      | inr e ↦ rw e (omega (arith, w))
    ]

ended_none : (text : List ℕ) (l : Lexeme) (ended : Bool) → ended ≡ true → Takes ended text l
    → l.reached.index - l.start.index ≡ 0
ended_none text l ended e s = grind (arith, nat_tests, end_none)

read_taken : (s : SpelledText) (x : Lexeme) (h : List Lexeme) (l : Lexeme) → Stands s.text (x ∷ h)
    → Taken s x h → next s.text (x ∷ h) ≡ Read l → Taken s l (x ∷ h)
read_taken s x h l st paid e =
    let text = s.text in
    let more = not_ended text x h l e in
    let t : Telling text l = subst (Tells text) e (next_tells text x h more) in
    let sp : Spans l.start.index l.reached.index (body_in s l) = subst (SpansNext s) e (next_spans s x h more) in
    let (f, stands) = stand_in text (x ∷ h) l (omega arith) st e in
    let before = paid.count more in
    let old = paid.blank in
    let behind = t.behind in
    elim (cases_Bool (is_end l.kind)) [
      | inl y ↦
          let a = end_apart l.kind l.depth y in
          let n = ended_none text l (is_end l.kind) y stands in
          let total = paid.total in
          record {
            known = record { some = takes_some l.kind l.start.index l.reached.index (λ m. absurd (true≢false (sym y ∙ m))); spans = sp };
            count = λ m. absurd (true≢false (sym y ∙ m));
            blank = behind;
            total = omega (arith, a, n, total);
          }
      | inr n ↦
          let b = takes_bytes text l stands n in
          let q = l.start.index in
          let bare : 1 + one_if (is_blank_or_end text q) ≤ 1 = subst (λ z. one_if (not z) + one_if (is_blank_or_end text q) ≤ 1) n t.bare in
          let a = stepped text x.reached.index q f (no_blank (is_blank_or_end text q) bare) in
          let some : q < l.reached.index = omega (arith, b.some, b.order) in
          let k : prices taking (l ∷ x ∷ h) ≤ l.reached.index + apart l.kind l.depth = omega (arith, before, old, a, some) in
          record {
            known = record { some = takes_some l.kind q l.reached.index (λ m. some); spans = sp };
            count = λ m. k;
            blank = behind;
            total = omega (arith, k, b.inside, apart_least l.kind l.depth);
          }
    ]

step_taken : (s : SpelledText) (h : List Lexeme) (x : Next) → Stands s.text h → AreTaken s h
    → next s.text h ≡ x → AreTaken s (extended x h)
step_taken s [] (Read l) st p e = rw (← first_is s.text l e) (first_taken s, tt)
step_taken s (y ∷ h) (Read l) st p e = (read_taken s y h l st p.0 e, p)
step_taken s h _ st p e = p

history_taken : (s : SpelledText) (n : ℕ) → AreTaken s (history s.text n)
unfolding history
history_taken s zero = tt
history_taken s (suc n) = step_taken s (history s.text n) (next s.text (history s.text n)) (history_stands s.text n) (history_taken s n) refl

taken_total : (s : SpelledText) (h : List Lexeme) → AreTaken s h
    → prices taking h ≤ length s.text + 1
taken_total s [] p = omega arith
taken_total s (l ∷ h) p = p.0.total

all_taken : (s : SpelledText) → AreTaken s (all s.text)
unfolding all
all_taken s = history_taken s (length s.text + 2)

-- ---- weights by lengths

-- A character of ASCII has u bytes, and a line b.
abbrev pub by_length : ℕ → ℕ → Weight
by_length u b token.document_start = 39 * u
by_length u b (token.tag_directive handle prefix) = 9 * u + 4 * u * length handle + 3 * u * length prefix
by_length u b token.block_sequence_start = b
by_length u b token.block_mapping_start = b
by_length u b token.block_entry = b + b
by_length u b token.key = b + b
by_length u b token.flow_sequence_start = b
by_length u b token.flow_mapping_start = b
by_length u b token.flow_sequence_end = b + b
by_length u b token.flow_mapping_end = b + b
by_length u b token.flow_entry = b + b
by_length u b (token.alias name) = 3 * u + 4 * u * length name
by_length u b (token.anchor name) = 7 * u + 4 * u * length name
by_length u b (token.tag handle suffix) = 5 * u + 3 * u * length handle + 3 * u * length suffix
by_length u b (token.scalar value style) = 5 * u + b * length value
by_length u b _ = 0

-- each tag, and what directives say, byte for byte
abbrev pub marks : Weight
marks (token.tag handle suffix) = 1
marks (token.tag_directive handle prefix) = length handle + length prefix
marks _ = 0

-- ---- what a lexeme's own token costs

-- texts of k bytes at most, of a lexeme that takes a byte at least
texts_pay : (u b c n k : ℕ) → 10 * u ≤ b → c ≤ 9 → n ≤ k → 1 ≤ k → c * u + 4 * u * n ≤ (b + b) * k
texts_pay u b c n k wide few in_it some =
    let a : (10 * u) * k ≤ b * k = mul-le-mul_right k wide in
    let d : 4 * u * n ≤ 4 * u * k = mul-le-mul_left (4 * u) in_it in
    let e : c * u ≤ 9 * u = mul-le-mul_right u few in
    let f : (9 * u) * 1 ≤ (9 * u) * k = mul-le-mul_left (9 * u) some in
    omega (arith, a, d, e, f)

-- values of one and a half times k bytes at most
value_pays : (u b v k : ℕ) → 10 * u ≤ b → 2 * v ≤ 3 * k → 1 ≤ k → 5 * u + b * v ≤ (b + b) * k
value_pays u b v k wide in_it some =
    let a : b * (2 * v) ≤ b * (3 * k) = mul-le-mul_left b in_it in
    let c : b * 1 ≤ b * k = mul-le-mul_left b some in
    omega (arith, wide, a, c)

-- marks of documents
dashes_pay : (u b k : ℕ) → 10 * u ≤ b → 3 ≤ k → 39 * u ≤ (b + b) * k
dashes_pay u b k wide some = grind (arith, nat_tests, mul-le-mul_left)

-- that many lines
one_pays : (b k : ℕ) → 1 ≤ k → b + b ≤ (b + b) * k
one_pays b k some = let a : (b + b) * 1 ≤ (b + b) * k = mul-le-mul_left (b + b) some in omega (arith, a)

body_pays : (u b : ℕ) → 10 * u ≤ b → (body : TokenBody) (p q : ℕ) → p < q → Spans p q body
    → by_length u b body ≤ (b + b) * (q - p)
body_pays u b wide (token.alias name) p q some f = texts_pay u b 3 (length name) (q - p) wide (omega arith) (omega (arith, f)) (omega (arith, some))
body_pays u b wide (token.anchor name) p q some f = texts_pay u b 7 (length name) (q - p) wide (omega arith) (omega (arith, f)) (omega (arith, some))
body_pays u b wide (token.tag handle suffix) p q some f =
    let a = texts_pay u b 5 (length handle + length suffix) (q - p) wide (omega arith) (omega (arith, f)) (omega (arith, some)) in
    omega (arith, a)
body_pays u b wide (token.tag_directive handle prefix) p q some f =
    let a = texts_pay u b 9 (length handle + length prefix) (q - p) wide (omega arith) (omega (arith, f)) (omega (arith, some)) in
    omega (arith, a)
body_pays u b wide (token.scalar v style) p q some f = value_pays u b (length v) (q - p) wide (omega (arith, f, some)) (omega (arith, some))
body_pays u b wide token.document_start p q some f = dashes_pay u b (q - p) wide (omega (arith, f))
body_pays u b wide token.block_sequence_start p q some f = omega (arith, one_pays b (q - p) (omega (arith, some)))
body_pays u b wide token.block_mapping_start p q some f = omega (arith, one_pays b (q - p) (omega (arith, some)))
body_pays u b wide token.block_entry p q some f = omega (arith, one_pays b (q - p) (omega (arith, some)))
body_pays u b wide token.key p q some f = omega (arith, one_pays b (q - p) (omega (arith, some)))
body_pays u b wide token.flow_sequence_start p q some f = omega (arith, one_pays b (q - p) (omega (arith, some)))
body_pays u b wide token.flow_mapping_start p q some f = omega (arith, one_pays b (q - p) (omega (arith, some)))
body_pays u b wide token.flow_sequence_end p q some f = omega (arith, one_pays b (q - p) (omega (arith, some)))
body_pays u b wide token.flow_mapping_end p q some f = omega (arith, one_pays b (q - p) (omega (arith, some)))
body_pays u b wide token.flow_entry p q some f = omega (arith, one_pays b (q - p) (omega (arith, some)))
body_pays u b wide _ p q some f = omega arith

-- ---- and what it opens

more_pays : (b o x k n : ℕ) → x ≤ (b + b) * k → o ≤ b * n → o + x ≤ (b + b) * (k + n)
more_pays b o x k n w v = omega (arith, w, v)

-- a mapping opens outside of brackets, where a blank is after what opens it
key_pays : (b d o x k : ℕ) → x ≤ (b + b) * k → o ≤ outer d b → o + x ≤ (b + b) * (k + outside d)
key_pays b d o x k w v = grind (arith, nat_tests)

sequence_most : (u b d margin : ℕ) (levels : List ℕ)
    → start_weight (by_length u b) (start_of d margin levels opening.Sequence) ≤ b
sequence_most u b d margin levels = grind (arith, nat_tests, cases_Bool, le_refl)

first_body : (u b : ℕ) (s : SpelledText) (l : Lexeme)
    → by_length u b (body_by kinds.StreamStart s l) ≡ 0
first_body u b s l = refl

end_body : (u b : ℕ) (s : SpelledText) (l : Lexeme)
    → by_length u b (body_by kinds.StreamEnd s l) ≡ 0
unfolding lexeme_at
end_body u b s l = refl

value_body : (u b : ℕ) (s : SpelledText) (l : Lexeme)
    → by_length u b (body_by kinds.ValueMark s l) ≡ 0
unfolding lexeme_at
value_body u b s l = refl

lexeme_pays : (u b : ℕ) → 10 * u ≤ b
    → (k : Kind) (s : SpelledText) (l : Lexeme) (d margin p q : ℕ) (found : Bool) (levels : List ℕ)
    → TakesSome k p q → Spans p q (body_by k s l)
    → start_weight (by_length u b) (opens_by k d margin found levels) + by_length u b
    (body_by k s l) + taken (by_length u b) k found d ≤ (b + b) * ((q - p) + apart k d)
lexeme_pays u b wide k s l d margin p q found levels some f = grind (arith, nat_tests, first_body, end_body, body_pays, more_pays, sequence_most, key_pays, mapping_most, one_pays, le_refl, value_body)

abbrev price : ℕ → Lexeme → ℕ
price b l = (b + b) * taking l

all_pay : (u b : ℕ) → 10 * u ≤ b → (s : SpelledText) (h : List Lexeme) → AreTaken s h
    → ArePaid (by_length u b) s (price b) h
all_pay u b wide s [] t = tt
all_pay u b wide s (l ∷ h) t = grind (arith, nat_tests, lexeme_pays, all_pay u b wide s h t.1)

prices_are : (b : ℕ) (h : List Lexeme) → prices (price b) h ≡ (b + b) * prices taking h
prices_are b [] = omega arith
prices_are b (l ∷ h) = let a = mul-add (b + b) (taking l) (prices taking h) in omega (arith, prices_are b h, a)

-- what the tokens of a text cost, twice a line for each of its bytes, and once more
pub tokens_cost : (u b : ℕ) → 10 * u ≤ b → (s : SpelledText)
    → weigh (by_length u b) (offline s).tokens ≤ (b + b) * (length s.text + 1)
tokens_cost u b wide s =
    let h = all s.text in
    let a = tokens_weigh (by_length u b) refl s (price b) (all_pay u b wide s h (all_taken s)) in
    let c : (b + b) * prices taking h ≤ (b + b) * (length s.text + 1) = mul-le-mul_left (b + b) (taken_total s h (all_taken s)) in
    omega (arith, a, prices_are b h, c)

-- ---- tags and directives

body_marks : (body : TokenBody) (p q : ℕ) → p < q → Spans p q body → marks body ≤ q - p
body_marks body p q some f = grind (arith, nat_tests)

no_start_marks : (k : Kind) (d margin : ℕ) (found : Bool) (levels : List ℕ)
    → start_weight marks (opens_by k d margin found levels) ≡ 0
no_start_marks k d margin found levels = grind (arith, nat_tests)

no_key_marks : (k : Kind) (found : Bool) (d : ℕ) → taken marks k found d ≡ 0
no_key_marks k found d = grind (arith, nat_tests, cases_Bool)

end_marks : (s : SpelledText) (l : Lexeme) → marks (body_by kinds.StreamEnd s l) ≡ 0
unfolding lexeme_at
end_marks s l = refl

kind_marks : (k : Kind) (s : SpelledText) (l : Lexeme) (p q : ℕ) → TakesSome k p q
    → Spans p q (body_by k s l) → marks (body_by k s l) ≤ q - p
kind_marks k s l p q some f = grind (arith, nat_tests, end_marks, body_marks)

all_mark : (s : SpelledText) (h : List Lexeme) → AreTaken s h → ArePaid marks s taking h
all_mark s [] t = tt
all_mark s (l ∷ h) t = grind (arith, nat_tests, no_start_marks, no_key_marks, kind_marks, all_mark s h t.1)

pub tokens_mark : (s : SpelledText) → weigh marks (offline s).tokens ≤ length s.text + 1
tokens_mark s = omega (arith, tokens_weigh marks refl s taking (all_mark s (all s.text) (all_taken s)), taken_total s (all s.text) (all_taken s))
