-- A scanner stays what it is where its text lies elsewhere.
use Rattle.std.proofs.Common.{ℕ, List, inl, inr}
use Rattle.yaml_scan_history.specs.declared.lexeme.Lexeme.{Lexeme as Read}
use Rattle.yaml_scan_core.specs.declared.scanner.Scanner.{Scanner}
use Rattle.yaml_scan_core.specs.Asked.{Waits}
use Rattle.yaml_scan_core.specs.Scanning.{HasFailed, Holds, IsGoing, IsOver, Rests, Shows, history_of}
use Rattle.yaml_scan_core.specs.Waiting.{IsRead}

-- the same, of a text at another place
abbrev pub placed : ℕ × ℕ → Scanner → Scanner
placed p s = record s { text = record { ref_ptr = p; now = s.text.now } }

holds_placed : (p : ℕ × ℕ) (s : Scanner) (h : List Read) → Holds s h → Holds (placed p s) h
holds_placed p s h x = record { long = x.long; row = x.row; room = x.room; settled = x.settled; keys = x.keys; few = x.few; fault = x.fault; bytes = x.bytes }

shows_placed : (p : ℕ × ℕ) (s : Scanner) (h : List Read) → Shows s h → Shows (placed p s) h
shows_placed p s h x = record { holds = holds_placed p s h x.holds; over = x.over; place = x.place; mark = x.mark; allowed = x.allowed; margins = x.margins }

going_placed : (p : ℕ × ℕ) (s : Scanner) → IsGoing s → IsGoing (placed p s)
going_placed p s x = record { shows = shows_placed p s (history_of s) x.shows; some = x.some; going = x.going; first = x.first }

over_placed : (p : ℕ × ℕ) (s : Scanner) → IsOver s → IsOver (placed p s)
over_placed p s x = record { over = x.over; end = x.end; row = x.row; all = x.all; fault = x.fault }

failed_placed : (p : ℕ × ℕ) (s : Scanner) (h : List Read) → HasFailed s h → HasFailed (placed p s) h
failed_placed p s h x = record { over = x.over; row = x.row; some = x.some; all = x.all; lost = x.lost; none = x.none; told = x.told }

rests_placed : (p : ℕ × ℕ) (s : Scanner) → Rests s → Rests (placed p s)
rests_placed p s (inl x) = inl (going_placed p s x)
rests_placed p s (inr (inl x)) = inr (inl (over_placed p s x))
rests_placed p s (inr (inr (n, x))) = inr (inr (n, failed_placed p s _ x))

pub waits_placed : (p : ℕ × ℕ) (s : Scanner) → Waits s → Waits (placed p s)
waits_placed p s w = record { rests = rests_placed p s w.rests; some = w.some }

pub read_placed : (p : ℕ × ℕ) (s : Scanner) → IsRead s → IsRead (placed p s)
read_placed p s (inl x) = inl (going_placed p s x)
read_placed p s (inr x) = inr (over_placed p s x)
