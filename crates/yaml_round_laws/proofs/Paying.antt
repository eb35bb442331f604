-- The lexemes of a text are worth no more than the characters that begin in it, and one.
use Rattle.std.proofs.Common.{◌≡◌, ℕ, zero, suc, ◌+◌, ◌<◌, ◌≤◌, Bool, true, false, not, List, [], ◌∷◌, length, Option, Some, None, Result, refl, ap, subst, ◌∙◌, arith, inl, inr}
use Rattle.yaml_round_laws.proofs.SizesWords.{nat_tests, cases_Bool, ScanFault, Wrong, byte, starts, is_blank_or_end, Kind, Lexeme, is_end, flow_depth, in_flow, Next, Read, Fails, Ends, first_lexeme, begun_behind, with_end, gap_behind, place_behind, kind_behind, word_behind, lexeme_behind, first_fault_or, stale_before, no_start, faults, coming, next, extended, history, WordText, lexeme_at, all, Stands, history_stands, stand_in, not_ended, first_is, takes_bytes, placed_index}
use Rattle.yaml_scan_history.specs.scan_model.declared.record.yaml_mark_t.{yaml_mark_t}
use Rattle.yaml_round_laws.proofs.Leads.{one_if, leads, leads_grow}
use Rattle.yaml_round_laws.proofs.Lexemes.{own, apart, apart_least, worth, worths, white_starts, blank_white, begins, followed, not_blank}

-- what is known of a lexeme that was read
pub record Telling (text : List ℕ) (l : Lexeme) : Type 0 where
  pub begins : own l.kind ≤ one_if (starts (byte text l.start.index))
  pub bare : one_if (not (is_end l.kind)) + one_if (is_blank_or_end text l.start.index) ≤ 1
  pub behind : apart l.kind l.depth ≤ one_if (is_blank_or_end text l.reached.index)

abbrev pub Tells : List ℕ → Next → Type 0
Tells text (Read l) = Telling text l
Tells text (Fails p) = Unit {0}
Tells text Ends = Unit {0}

first_tells : (text : List ℕ) (ps : List (Option ScanFault)) (x : Next) → Tells text x
    → Tells text (first_fault_or ps x)
first_tells text [] x t = t
first_tells text (Some p ∷ ps) x t = tt
first_tells text (None ∷ ps) x t = first_tells text ps x t

-- A lexeme that ends where its word does is what it was.
pub record Keeps (a b : Lexeme) : Type 0 where
  pub kind : a.kind ≡ b.kind
  pub depth : a.depth ≡ b.depth
  pub start : a.start ≡ b.start

pub ended_keeps : (text : List ℕ) (l : Lexeme) (r : Result WordText Wrong)
    → Keeps (with_end text l r) l
ended_keeps text l r = grind (arith, nat_tests)

-- the place after an indicator of blocks is the next one
behind_of : (k : Kind) (text : List ℕ) (h : List Lexeme)
    → apart k (flow_depth h) ≤ one_if (is_blank_or_end text ((gap_behind text h).place + 1))
    → apart k (flow_depth h) ≤ one_if (is_blank_or_end text (lexeme_behind k text h).reached.index)
unfolding lexeme_at
behind_of k text h w = grind (arith, nat_tests)

coming_tells : (o : Option Kind) (text : List ℕ) (h : List Lexeme) → kind_behind text h ≡ o
    → Tells text (coming o text h)
coming_tells None text h e = first_tells text (stale_before text h ∷ []) (Fails (no_start (place_behind text h))) tt
coming_tells (Some k) text h e =
    let q = (gap_behind text h).place in
    let l = lexeme_behind k text h in
    let same = ended_keeps text (begun_behind k text h) (word_behind k text h) in
    let at : l.start.index ≡ q = ap (λ (m : yaml_mark_t). m.index) same.start ∙ placed_index k (place_behind text h) in
    let a : own k ≤ one_if (starts (byte text q)) = begins (in_flow h) text q k e in
    let b : one_if (not (is_end k)) + one_if (is_blank_or_end text q) ≤ 1 = not_blank (in_flow h) text q k e in
    let c : apart k (flow_depth h) ≤ one_if (is_blank_or_end text l.reached.index) = behind_of k text h (followed (flow_depth h) text q k e) in
    first_tells text (faults k text h) (Read l) (record {
      begins = rw same.kind (rw at a);
      bare = rw same.kind (rw at b);
      behind = rw same.kind (rw same.depth c);
    })

pub next_tells : (text : List ℕ) (x : Lexeme) (h : List Lexeme) → is_end x.kind ≡ false
    → Tells text (next text (x ∷ h))
unfolding next
next_tells text x h more = rw more (coming_tells (kind_behind text (x ∷ h)) text (x ∷ h) refl)

-- ---- what lexemes are worth

record Paid (text : List ℕ) (l : Lexeme) (h : List Lexeme) : Type 0 where
  count : is_end l.kind ≡ false → worths (l ∷ h) ≤ leads text l.reached.index + apart l.kind l.depth
  blank : apart l.kind l.depth ≤ one_if (is_blank_or_end text l.reached.index)
  total : worths (l ∷ h) ≤ leads text (length text) + 1

abbrev ArePaid : List ℕ → List Lexeme → Type 0
ArePaid text [] = Unit {0}
ArePaid text (l ∷ h) = Paid text l h

first_paid : (text : List ℕ) → Paid text first_lexeme []
first_paid text = record { count = λ e. omega arith; blank = omega arith; total = omega arith }

end_worth : (l : Lexeme) → is_end l.kind ≡ true → worth l ≡ 0
end_worth l e = grind (arith, nat_tests)

-- from the place that one reaches to the start of the next one
gone : (text : List ℕ) (p q : ℕ) → p ≤ q → is_blank_or_end text q ≡ false
    → leads text p + one_if (is_blank_or_end text p) ≤ leads text q
gone text p q w n =
    elim (cases_Bool (is_blank_or_end text p)) [
      | inl e ↦
          let differ : p ≡ q → ⊥ = λ s. let u : is_blank_or_end text q ≡ true = subst (λ i. is_blank_or_end text i ≡ true) s e in cc in
          let less : p < q = omega (arith, differ) in
          let s : one_if (starts (byte text p)) ≡ 1 = ap one_if (white_starts (byte text p) (blank_white text p e)) in
          let a : leads text (suc p) ≤ leads text q = leads_grow text (suc p) q (omega arith) in
          rw e (omega (arith, s, a))
      | inr e ↦ let a = leads_grow text p q w in rw e (omega (arith, a))
    ]

pub no_blank : (b : Bool) → 1 + one_if b ≤ 1 → b ≡ false
no_blank b w = grind (arith, nat_tests)

read_paid : (text : List ℕ) (x : Lexeme) (h : List Lexeme) (l : Lexeme) → Stands text (x ∷ h)
    → Paid text x h → next text (x ∷ h) ≡ Read l → Paid text l (x ∷ h)
read_paid text x h l s paid e =
    let more = not_ended text x h l e in
    let t : Telling text l = subst (Tells text) e (next_tells text x h more) in
    let (f, stands) = stand_in text (x ∷ h) l (omega arith) s e in
    let before = paid.count more in
    let old = paid.blank in
    let none = t.begins in
    elim (cases_Bool (is_end l.kind)) [
      | inl y ↦
          let w = end_worth l y in
          let total = paid.total in
          record { count = λ n. cc; blank = t.behind; total = omega (arith, w, total) }
      | inr n ↦
          let b = takes_bytes text l stands n in
          let q = l.start.index in
          let bare : 1 + one_if (is_blank_or_end text q) ≤ 1 = subst (λ z. one_if (not z) + one_if (is_blank_or_end text q) ≤ 1) n t.bare in
          let a = gone text x.reached.index q f (no_blank (is_blank_or_end text q) bare) in
          let c : leads text (suc q) ≤ leads text l.reached.index = leads_grow text (suc q) l.reached.index (omega (arith, b.some, b.order)) in
          let d = leads_grow text l.reached.index (length text) b.inside in
          let k : worths (l ∷ x ∷ h) ≤ leads text l.reached.index + apart l.kind l.depth = omega (arith, before, old, none, a, c) in
          record { count = λ n. k; blank = t.behind; total = omega (arith, k, d, apart_least l.kind l.depth) }
    ]

step_paid : (text : List ℕ) (h : List Lexeme) (x : Next) → Stands text h → ArePaid text h
    → next text h ≡ x → ArePaid text (extended x h)
step_paid text [] (Read l) s p e = rw (← first_is text l e) (first_paid text)
step_paid text (y ∷ h) (Read l) s p e = read_paid text y h l s p e
step_paid text h _ s p e = p

history_paid : (text : List ℕ) (n : ℕ) → ArePaid text (history text n)
unfolding history
history_paid text zero = tt
history_paid text (suc n) = step_paid text (history text n) (next text (history text n)) (history_stands text n) (history_paid text n) refl

paid_total : (text : List ℕ) (h : List Lexeme) → ArePaid text h
    → worths h ≤ leads text (length text) + 1
paid_total text h p = grind (arith, nat_tests)

pub all_paid : (text : List ℕ) → worths (all text) ≤ leads text (length text) + 1
unfolding all
all_paid text = paid_total text (history text (length text + 2)) (history_paid text (length text + 2))
