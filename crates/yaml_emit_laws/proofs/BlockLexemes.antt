-- A block scalar that is after the gap is the next lexeme.
use Rattle.std.proofs.Common.{◌≡◌, ℕ, ◌+◌, ◌<◌, Bool, true, false, not, ◌&&◌, nat_lt, List, [], ◌∷◌, length, Option, None, Ok, refl, ap, ◌∙◌, arith}
use Rattle.yaml_emit_laws.proofs.ScalarWords.{and-false, mark_at, WordText, lexeme_at, cond_false, kind_of, read_style, BlockStands}
use Rattle.yaml_emit_layout.specs.scan_types.Tokens.{scalar}
use Rattle.yaml_emit_layout.specs.scan_model.declared.problem.ScanFault.{ScanFault}
use Rattle.yaml_scan_history.specs.declared.lexeme.Lexeme.{Lexeme}
use Rattle.yaml_scan_history.specs.Kinds.{is_end}
use Rattle.yaml_scan_history.specs.History.{flow_depth, in_flow, ended, candidate, open_levels, finished_tokens}
use Rattle.yaml_scan_history.specs.Next.{Next, Read, next, gap_behind, place_behind, kind_behind, allowed_behind, level_in, begun_behind, word_behind, with_end, misplaced, stale_before, indicator_misplaced, candidate_lost, first_fault_or, coming}
use Rattle.yaml_scan_history.specs.Remaining.{body_of_word}
use Rattle.yaml_emit_laws.specs.BlockLexemes.{BlockIsNext}

-- the lexeme
abbrev block_lexeme : Bool → List ℕ → List Lexeme → ℕ → ℕ → Lexeme
block_lexeme folded text h end k = record {
  kind = kind_of folded;
  start = place_behind text h;
  end = mark_at text end;
  reached = mark_at text (end + k);
  depth = flow_depth h;
  level = level_in (kind_of folded) (place_behind text h).column h;
  saved = false;
  required = false;
  broke = false;
}

abbrev block_word : Bool → List ℕ → ℕ → ℕ → WordText
block_word folded value end k = record { body = scalar value (read_style folded); end = end; reached = end + k; broke = false }

-- it is no key
begun_is : (folded : Bool) (text : List ℕ) (h : List Lexeme) (value : List ℕ) (end k : ℕ)
    → with_end text (begun_behind (kind_of folded) text h) (Ok (block_word folded value end k))
    ≡ block_lexeme folded text h end k
begun_is folded text h value end k = grind arith

level_is : (folded : Bool) (text : List ℕ) (h : List Lexeme)
    → (begun_behind (kind_of folded) text h).level
    ≡ level_in (kind_of folded) (place_behind text h).column h
level_is true text h = refl
level_is false text h = refl

word_is : (folded : Bool) (text : List ℕ) (h : List Lexeme) (value : List ℕ) (end k : ℕ)
    → flow_depth h ≡ 0
    → BlockStands folded (level_in (kind_of folded) (place_behind text h).column h) text
    (gap_behind text h).place value end k
    → word_behind (kind_of folded) text h ≡ Ok (block_word folded value end k)
word_is folded text h value end k o s =
    ap (λ (d : ℕ). lexeme_at (kind_of folded) (nat_lt 0 d) (begun_behind (kind_of folded) text h).level text (gap_behind text h).place) o
    ∙ ap (λ (n : ℕ). lexeme_at (kind_of folded) false n text (gap_behind text h).place) (level_is folded text h) ∙ s.word

not_misplaced : (folded : Bool) (text : List ℕ) (h : List Lexeme)
    → indicator_misplaced (kind_of folded) text h ≡ None
not_misplaced true text h = cond_false (misplaced (kind_of true) (place_behind text h) (allowed_behind h (gap_behind text h)) h) _ None (and-false (not (in_flow h) && not (allowed_behind h (gap_behind text h))))
not_misplaced false text h = cond_false (misplaced (kind_of false) (place_behind text h) (allowed_behind h (gap_behind text h)) h) _ None (and-false (not (in_flow h) && not (allowed_behind h (gap_behind text h))))

block_clear : (folded : Bool) (text : List ℕ) (h : List Lexeme) (end k : ℕ) → flow_depth h ≡ 0
    → candidate 0 (block_lexeme folded text h end k ∷ h) ≡ None
unfolding candidate
block_clear true text h end k o = rw o refl
block_clear false text h end k o = rw o refl

all_none : (a b c d e : Option ScanFault) (x : Next) → a ≡ None → b ≡ None → c ≡ None → d ≡ None
    → e ≡ None → first_fault_or (a ∷ b ∷ c ∷ d ∷ e ∷ []) x ≡ x
all_none a b c d e x f g h i j = grind arith

next_is : (text : List ℕ) (h : List Lexeme) → 0 < length h → ended h ≡ false
    → next text h ≡ coming (kind_behind text h) text h
unfolding next
next_is text [] some e = absurd (omega (arith, some))
next_is text (l ∷ h) some e = cond_false (is_end l.kind) _ (coming (kind_behind text (l ∷ h)) text (l ∷ h)) e

block_comes : (folded : Bool) (text : List ℕ) (h : List Lexeme) (value : List ℕ) (end k : ℕ)
    → 0 < length h → ended h ≡ false → flow_depth h ≡ 0 → stale_before text h ≡ None
    → candidate_lost (kind_of folded) text h ≡ None
    → BlockStands folded (level_in (kind_of folded) (place_behind text h).column h) text
    (gap_behind text h).place value end k → next text h ≡ Read (block_lexeme folded text h end k)
block_comes folded text h value end k some e o stale lost s = grind (arith, word_is, begun_is, block_clear, next_is, all_none, not_misplaced)

block_body_is : (folded : Bool) (text : List ℕ) (h : List Lexeme) (value : List ℕ) (end k : ℕ)
    → flow_depth h ≡ 0
    → (s : BlockStands folded (level_in (kind_of folded) (place_behind text h).column h) text
    (gap_behind text h).place value end k)
    → body_of_word (lexeme_at (kind_of folded) (nat_lt 0 (flow_depth h))
    (level_in (kind_of folded) (place_behind text h).column h) text (gap_behind text h).place)
    ≡ scalar value (read_style folded)
block_body_is folded text h value end k o s =
    ap (λ (d : ℕ). body_of_word (lexeme_at (kind_of folded) (nat_lt 0 d) (level_in (kind_of folded) (place_behind text h).column h) text (gap_behind text h).place)) o ∙ ap (λ r. body_of_word r) s.word

pub block_is_next : BlockIsNext
unfolding open_levels finished_tokens
block_is_next true text h value end k some e o stale lost s = record {
  lexeme = block_lexeme true text h end k;
  comes = block_comes true text h value end k some e o stale lost s;
  body = λ encoding. block_body_is true text h value end k o s;
  kind = refl;
  start = refl;
  reached = refl;
  outside = o;
  levels_are = refl;
  opens = refl;
  entries_are = refl;
  clear = block_clear true text h end k o;
  allowed = refl;
}
block_is_next false text h value end k some e o stale lost s = record {
  lexeme = block_lexeme false text h end k;
  comes = block_comes false text h value end k some e o stale lost s;
  body = λ encoding. block_body_is false text h value end k o s;
  kind = refl;
  start = refl;
  reached = refl;
  outside = o;
  levels_are = refl;
  opens = refl;
  entries_are = refl;
  clear = block_clear false text h end k o;
  allowed = refl;
}
