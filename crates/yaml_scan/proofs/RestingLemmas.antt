-- A scanner that rests without its text.
use Rattle.std.proofs.Common.{◌≡◌, ℕ, true, false, List, Result, Ok, Err, sym, ap, subst, ◌∙◌}
use Rattle.yaml_scan_model.specs.declared.fault.yaml_fault_t.{yaml_fault_t}
use Rattle.yaml_scan_types.specs.Faults.{Fault, fault_of}
use Rattle.yaml_scan_core.specs.declared.scanner.Scanner.{Scanner}
use Rattle.std.specs.Prelude.{IfOk}
use Rattle.yaml_scan_history.specs.Remaining.{SpelledText}
use Rattle.yaml_scan_core.specs.declared.place.Locator.{Locator}
use Rattle.yaml_scan_core.specs.Told.{Locates}
use Rattle.yaml_scan_core.specs.Waiting.{knows}
use Rattle.yaml_scan.specs.declared.known.Known.{Known}
use Rattle.yaml_scan.specs.Known.{Fails, Fills, Gives, GivesAll, IsReady, over}
use Rattle.yaml_scan.proofs.PlacedLemmas.{placed, read_placed, waits_placed}

pub ready_placed : (p : ℕ × ℕ) (s : Scanner) → IsReady s → IsReady (placed p s)
ready_placed p s r = record {
  waits = waits_placed p s r.waits;
  read = read_placed p s r.read;
  one = r.one;
  short = r.short;
  long = r.long;
}

-- ---- it is put over its text

-- it is what it was over the text
on_is : (z r : Scanner) (t : List ℕ) → r ≡ record z { text = r.text } → r.text.now ≡ t
    → placed r.text.ref_ptr (over t z) ≡ r
on_is z r t same text = ap (λ n. record z { text = record { ref_ptr = r.text.ref_ptr; now = n } }) (sym text) ∙ sym same

pub ready_on : (z r : Scanner) (t : List ℕ) → r ≡ record z { text = r.text } → r.text.now ≡ t
    → IsReady (over t z) → IsReady r
ready_on z r t same text ready = subst IsReady (on_is z r t same text) (ready_placed r.text.ref_ptr (over t z) ready)

pub idle_on : (z r : Scanner) (t : List ℕ) → r ≡ record z { text = r.text } → r.text.now ≡ t
    → (z.ended ≡ true → knows (over t z) ≡ false) → r.ended ≡ true → knows r ≡ false
idle_on z r t same text idle = subst (λ (s : Scanner). s.ended ≡ true → knows s ≡ false) (on_is z r t same text) idle

-- ---- and is put aside again

fails_placed : (p : ℕ × ℕ) (s : Scanner) (f : Fault) → Fails s f → Fails (placed p s) f
fails_placed p s f x = record { more = x.more; told = x.told }

gives_placed : (p q : ℕ × ℕ) (a b : Scanner) (ks : List Known) → Gives a b ks
    → Gives (placed p a) (placed q b) ks
gives_placed p q a b ks g = record {
  ready = ready_placed q b g.ready;
  stream = g.stream;
  come = g.come;
  last = g.last;
  few = g.few;
  later = g.later;
  reads = record { read = read_placed q b g.reads.read; further = g.reads.further; needed = g.reads.needed };
}

all_placed : (p q : ℕ × ℕ) (a b : Scanner) (ks : List Known) → GivesAll a b ks
    → GivesAll (placed p a) (placed q b) ks
all_placed p q a b ks g = record { gives = gives_placed p q a b ks g.gives; idle = g.idle; some = g.some }

-- before, over the text
was_over : (z r : Scanner) (t : List ℕ) → r ≡ record z { text = r.text } → r.text.now ≡ t
    → placed (0, 0) r ≡ over t z
was_over z r t same text = ap (λ (s : Scanner). over r.text.now s) same ∙ ap (λ n. over n z) text

-- afterwards
pub is_over : (s q : Scanner) (t : List ℕ) → q ≡ record s { text = q.text } → s.text.now ≡ t
    → placed (0, 0) s ≡ over t q
is_over s q t same text = ap (λ n. over n s) text ∙ sym (ap (λ (x : Scanner). over t x) same)

pub fills_over : (z r s q : Scanner) (t : List ℕ) (ks : List Known)
    (answer : Result (Unit {0}) yaml_fault_t) → r ≡ record z { text = r.text } → r.text.now ≡ t
    → q ≡ record s { text = q.text } → Fills r s ks answer → Fills (over t z) (over t q) ks answer
fills_over z r s q t ks (Ok done) on text rest g =
    let kept : s.text.now ≡ r.text.now = ap (λ (x : SpelledText). x.text) g.gives.stream in
    let first : GivesAll (over t z) (placed (0, 0) s) ks = subst (λ (x : Scanner). GivesAll x (placed (0, 0) s) ks) (was_over z r t on text) (all_placed (0, 0) (0, 0) r s ks g) in
    subst (λ (x : Scanner). GivesAll (over t z) x ks) (is_over s q t rest (kept ∙ text)) first
fills_over z r s q t ks (Err f) on text rest x = subst (λ (a : Scanner). Fails a (fault_of f)) (was_over z r t on text) (fails_placed (0, 0) r (fault_of f) x)

pub locates_over : (r s : Scanner) (t : List ℕ) (ks : List Known) (l : Locator)
    (answer : Result (Unit {0}) yaml_fault_t) → r.text.now ≡ t → Fills r s ks answer
    → Locates s.text.now l → IfOk answer (λ done. Locates t l)
locates_over r s t ks l (Ok done) text g there = subst (λ n. Locates n l) (ap (λ (x : SpelledText). x.text) g.gives.stream ∙ text) there
locates_over r s t ks l (Err f) text x there = tt
