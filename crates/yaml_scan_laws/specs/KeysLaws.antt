-- What key-free lexemes become.
use Rattle.std.specs.Prelude.{◌≡◌, ℕ, suc, ◌&&◌, nat_lt, true, false, if◌then◌else◌, List, ◌∷◌, map, reverse, drop, Some, None, Ok}
use Rattle.std.specs.List.{flat_map}
use Rattle.yaml_scan_history.specs.scan_model.declared.record.yaml_mark_t.{yaml_mark_t}
use Rattle.yaml_scan_history.specs.scan_types.Marks.{mark_at}
use Rattle.yaml_scan_history.specs.Between.{Gap, gap_at}
use Rattle.yaml_scan_history.specs.declared.kind.Kind.{Kind}
use Rattle.yaml_scan_history.specs.declared.lexeme.Lexeme.{Lexeme}
use Rattle.yaml_scan_history.specs.Kinds.{may_be_key, is_end}
use Rattle.yaml_scan_history.specs.History.{flow_depth, reached, ended, candidate, fresh, key_allowed, placed, finished_tokens}
use Rattle.yaml_scan_history.specs.Words.{WordText, kind_at, lexeme_at}
use Rattle.yaml_scan_history.specs.Next.{Read, Ends, allowed_behind, missed, lost_by, next, history}
use Rattle.yaml_scan_history.specs.Remaining.{SpelledText, token_in, spell, all, remaining}
use Rattle.yaml_scan_laws.specs.KeyFree.{innermost, asked, is_key_free, is_level_free, kinds_of}

-- After a `?` in brackets, with only nodes after it, no candidate is at its depth.
abbrev pub AskedHaveNoCandidate : Type 0
AskedHaveNoCandidate = (text : List ℕ) (n : ℕ) → let h = history text n in
    is_key_free (kinds_of h) ≡ true → innermost (asked (kinds_of h)) ≡ true
    → candidate (flow_depth h) h
    ≡ None

-- The tokens of key-free lexemes are their own, in order.
abbrev pub KeyFreeTokensAreOwn : Type 0
KeyFreeTokensAreOwn = (s : SpelledText) (n : ℕ) → let h = history s.text n in
    is_key_free (kinds_of h) ≡ true
    → flat_map (spell s) (finished_tokens h) ≡ map (token_in s) (reverse h)

-- What comes of a key-free text that no fault ends is its lexemes' own tokens.
abbrev pub KeyFreeTextsAreBare : Type 0
KeyFreeTextsAreBare = (s : SpelledText) → is_key_free (kinds_of (all s.text)) ≡ true
    → next s.text (all s.text) ≡ Ends
    → (dropped given : ℕ) → remaining s dropped given
    ≡ record {
      tokens = drop given (map (token_in s) (drop dropped (reverse (all s.text))));
      fault = None;
    }

-- After key-free lexemes no level is open.
abbrev pub KeyFreeIsLevelFree : Type 0
KeyFreeIsLevelFree = (ks : List Kind) → is_key_free ks ≡ true → is_level_free ks ≡ true

-- Where no level opens, no candidate is missed or lost, wherever it goes stale and whatever is in
-- its place.
abbrev pub NoneIsRequired : Type 0
NoneIsRequired = (text : List ℕ) (n d : ℕ) (l : Lexeme) (at to : yaml_mark_t)
    → let h = history text n in
    is_level_free (kinds_of h) ≡ true → (missed (fresh (candidate d h) at) to ≡ None)
    × (lost_by l (fresh (candidate d h) at) ≡ None)

-- ---- one step

-- what is after lexemes
abbrev pub gap_in : List ℕ → List Lexeme → Gap
gap_in text h = gap_at (nat_lt 0 (flow_depth h)) (key_allowed h) text (reached h).index

-- a lexeme's end; the stream's stays where it starts
abbrev pub end_in : List ℕ → Kind → ℕ → ℕ → yaml_mark_t
end_in text k start end = if is_end k then placed k (mark_at text start) else mark_at text end

-- the lexeme of that kind after a gap, where no level is open
abbrev pub lexeme_of : List ℕ → List Lexeme → Gap → Kind → WordText → Lexeme
lexeme_of text h gap k w = record {
  kind = k;
  start = placed k (mark_at text gap.place);
  end = end_in text k gap.place w.end;
  reached = end_in text k gap.place w.reached;
  depth = flow_depth h;
  level = 0;
  saved = allowed_behind h gap && may_be_key k;
  required = false;
  broke = w.broke;
}

-- Where no level opens, the next lexeme is what its kind and its text say.
abbrev pub WordIsRead : Type 0
WordIsRead = (text : List ℕ) (n : ℕ) (k : Kind) (w : WordText) → let h = history text (suc n) in
    is_level_free (k ∷ kinds_of h) ≡ true → ended h ≡ false → let gap = gap_in text h in
    kind_at (nat_lt 0 (flow_depth h)) text gap.place ≡ Some k
    → lexeme_at k (nat_lt 0 (flow_depth h)) 0 text
    gap.place ≡ Ok w
    → next text h ≡ Read (lexeme_of text h gap k w)
