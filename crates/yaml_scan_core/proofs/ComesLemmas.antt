-- What comes where a lexeme of a kind is after the gap: the lexeme, or what is wrong.
use Rattle.std.proofs.Common.{◌≡◌, ℕ, ◌<◌, Bool, true, false, ltb, List, length, Option, Some, None, Result, Ok, Err, refl, ap, ◌∙◌}
use Rattle.yaml_scan_core.proofs.Words.{yaml_mark_t, mark_at, Wrong, Kind, Lexeme, candidate, fresh, reached, flow_depth, ended, WordText, lexeme_at, kind_at, Fails, allowed_behind, finished, misplaced, missed, lost_by, no_colon, unless_wrong, unless_lost, of_kind, unless_missed, next, history}
use Rattle.yaml_scan_model.specs.Wrong.{scan_fault}
use Rattle.yaml_scan_history.specs.Stepwise.{no_token, not_allowed, tested}
use Rattle.yaml_scan_core.proofs.ReadLemmas.{gap_of, begun_at}
use Rattle.yaml_scan_core.proofs.NextLemmas.{next_at, unmissed, missed_fresh}

-- the place after the gap
abbrev pub here : List ℕ → List Lexeme → yaml_mark_t
here text h = mark_at text (gap_of text h).place

-- the kind that is there
abbrev pub kind_here : List ℕ → List Lexeme → Option Kind
kind_here text h = kind_at (ltb 0 (flow_depth h)) text (gap_of text h).place

-- a further lexeme or a fault comes
pub record GoesOn (text : List ℕ) (n : ℕ) (h : List Lexeme) : Type 0 where
  pub is : h ≡ history text n
  pub some : 0 < length h
  pub more : ended h ≡ false

missed_here : (text : List ℕ) (n : ℕ) (h : List Lexeme) (p : yaml_mark_t) → GoesOn text n h
    → missed (fresh (candidate 0 h) (reached h)) p ≡ missed (candidate 0 h) p
missed_here text n h p g =
    let calm : missed (candidate 0 h) (reached h) ≡ None = rw g.is (unmissed text n) in
    missed_fresh (candidate 0 h) (reached h) p calm

comes_by : (text : List ℕ) (n : ℕ) (h : List Lexeme) → GoesOn text n h
    → next text h ≡ unless_missed (missed (candidate 0 h) (here text h)) text (gap_of text h) h
comes_by text n h g = next_at text h g.some g.more ∙ ap (λ o. unless_missed o text (gap_of text h) h) (missed_here text n h (here text h) g)

-- a required candidate is stale there
pub comes_late : (text : List ℕ) (n : ℕ) (h : List Lexeme) (start : yaml_mark_t) → GoesOn text n h
    → missed (candidate 0 h) (here text h) ≡ Some start → next text h ≡ no_colon start (here text h)
comes_late text n h start g e = comes_by text n h g ∙ ap (λ o. unless_missed o text (gap_of text h) h) e

comes_kind : (text : List ℕ) (n : ℕ) (h : List Lexeme) (o : Option Kind) → GoesOn text n h
    → missed (candidate 0 h) (here text h) ≡ None → kind_here text h ≡ o
    → next text h ≡ of_kind o text (gap_of text h) h
comes_kind text n h o g early kind = comes_by text n h g ∙ ap (λ m. unless_missed m text (gap_of text h) h) early ∙ ap (λ x. of_kind x text (gap_of text h) h) kind

-- none is there
pub comes_none : (text : List ℕ) (n : ℕ) (h : List Lexeme) → GoesOn text n h
    → missed (candidate 0 h) (here text h) ≡ None → kind_here text h ≡ None
    → next text h ≡ no_token (here text h)
comes_none text n h g early kind = comes_kind text n h None g early kind

-- one of a kind is there
pub record IsAt (k : Kind) (text : List ℕ) (n : ℕ) (h : List Lexeme) : Type 0 where
  pub on : GoesOn text n h
  pub early : missed (candidate 0 h) (here text h) ≡ None
  pub kind : kind_here text h ≡ Some k

-- what it is tested for before its word
abbrev pub is_wrong : Kind → List ℕ → List Lexeme → Bool
is_wrong k text h = misplaced k (here text h) (allowed_behind h (gap_of text h)) h

abbrev pub lost_at : Kind → List ℕ → List Lexeme → Option yaml_mark_t
lost_at k text h = lost_by (begun_at text h k) (fresh (candidate (flow_depth h) h) (here text h))

abbrev pub word_here : Kind → List ℕ → List Lexeme → Result WordText Wrong
word_here k text h = lexeme_at k (ltb 0 (flow_depth h)) (begun_at text h k).level text (gap_of text h).place

pub comes_misplaced : (k : Kind) (text : List ℕ) (n : ℕ) (h : List Lexeme) → IsAt k text n h
    → is_wrong k text h ≡ true → next text h ≡ not_allowed k (here text h)
comes_misplaced k text n h a bad = comes_kind text n h (Some k) a.on a.early a.kind ∙ rw bad refl

unless_it : (k : Kind) (text : List ℕ) (n : ℕ) (h : List Lexeme) → IsAt k text n h
    → is_wrong k text h ≡ false
    → next text h ≡ unless_lost (lost_at k text h) text (gap_of text h).place (begun_at text h k) h
unless_it k text n h a good = comes_kind text n h (Some k) a.on a.early a.kind ∙ rw good refl

pub comes_lost : (k : Kind) (text : List ℕ) (n : ℕ) (h : List Lexeme) (start : yaml_mark_t)
    → IsAt k text n h → is_wrong k text h ≡ false → lost_at k text h ≡ Some start
    → next text h ≡ no_colon start (begun_at text h k).start
comes_lost k text n h start a good lost = unless_it k text n h a good ∙ ap (λ o. unless_lost o text (gap_of text h).place (begun_at text h k) h) lost

unless_none : (k : Kind) (text : List ℕ) (n : ℕ) (h : List Lexeme) (r : Result WordText Wrong)
    → IsAt k text n h → is_wrong k text h ≡ false → lost_at k text h ≡ None
    → word_here k text h ≡ r → next text h ≡ unless_wrong r text (begun_at text h k) h
unless_none k text n h r a good lost word = unless_it k text n h a good ∙ ap (λ o. unless_lost o text (gap_of text h).place (begun_at text h k) h) lost ∙ ap (λ x. unless_wrong x text (begun_at text h k) h) word

pub comes_wrong : (k : Kind) (text : List ℕ) (n : ℕ) (h : List Lexeme) (w : Wrong)
    → IsAt k text n h → is_wrong k text h ≡ false → lost_at k text h ≡ None
    → word_here k text h ≡ Err w
    → next text h ≡ Fails (scan_fault text (begun_at text h k).start w)
comes_wrong k text n h w a good lost word = unless_none k text n h (Err w) a good lost word

-- the lexeme that is read there
abbrev pub read_at : Kind → WordText → List ℕ → List Lexeme → Lexeme
read_at k w text h = finished text (begun_at text h k) w

pub comes_word : (k : Kind) (text : List ℕ) (n : ℕ) (h : List Lexeme) (w : WordText)
    → IsAt k text n h → is_wrong k text h ≡ false → lost_at k text h ≡ None
    → word_here k text h ≡ Ok w → next text h ≡ tested (read_at k w text h) h
comes_word k text n h w a good lost word = unless_none k text n h (Ok w) a good lost word
