-- A mark of documents is read outside of all levels; where the front ends, the whole goes on with the rest's mark.
use Rattle.std.proofs.Common.{◌≡◌, ℕ, ◌+◌, ◌&&◌, nat_le, Bool, true, false, List, [], ◌∷◌, filter, Option, Some, None, refl, ap, ◌∙◌, inl, inr, arith, add-zero, suc, ◌≤◌, ◌==◌, ◌||◌, ◌++◌, length, sym, ◌⊎◌}
use Rattle.yaml_scan_laws.proofs.Shared.{cases_Bool, nat_tests, TokenBody, column_at, mark_at, Kind, Lexeme, depth_after, may_be_key, cancels, is_value, is_start, is_outside, is_end, allows_key, flow_depth, in_flow, Candidate, candidate, fresh, indent, left_by, opens_at, open_levels, carrying, lexeme_at, SpelledText, body_by, Read, gap_behind, place_behind, allowed_behind, begun_behind, word_behind, lexeme_behind, lost_by, stale_before, stale_after, coming, and_parts, eqb-true, true≢false, yaml_mark_t, byte, is_blank_or_end, is_document_indicator, is_document_start, is_document_end, reached, placed, kind_at, kind_behind, colon_missing_of, start_line, gap_place, IsCut, moved_mark, none-some}
use Rattle.std.proofs.lemmas.List.Elements.{filter-append}
use Rattle.yaml_scan_history.specs.scan_types.Tokens as tokens
use Rattle.yaml_scan_history.specs.declared.kind.Kind.TheVariants as kinds
use Rattle.yaml_scan_laws.proofs.CutsWords.{kind_alike}
use Rattle.yaml_scan_laws.proofs.Cutting.{cut_column, front_alike, rest_alike}
use Rattle.yaml_scan_laws.proofs.Coming.{mark_alike}
use Rattle.yaml_scan_laws.proofs.Fronts.{mark_zero}
use Rattle.yaml_scan_laws.specs.TextFronts.{IsFree}
use Rattle.yaml_scan_laws.proofs.WordForward.{Tells, kind_told}

-- `---` or `...`
pub record IsMark (K : Kind) (body : TokenBody) : Type 0 where
  pub outside : is_outside K ≡ true
  pub cancels : cancels K ≡ true
  pub key : may_be_key K ≡ false
  pub start : is_start K ≡ false
  pub value : is_value K ≡ false
  pub end : is_end K ≡ false
  pub deep : (d : ℕ) → depth_after K d ≡ d
  pub allows : (x y : Bool) → allows_key K x y ≡ false
  pub told : (s : SpelledText) (l : Lexeme) → body_by K s l ≡ body
  pub word : (flow : Bool) (level : ℕ) (text : List ℕ) (p : ℕ)
      → lexeme_at K flow level text p ≡ carrying body (p + 3)

pub start_mark : IsMark kinds.DocumentStart tokens.document_start
unfolding lexeme_at
start_mark = grind (arith, nat_tests)

pub end_mark : IsMark kinds.DocumentEnd tokens.document_end
unfolding lexeme_at
end_mark = grind (arith, nat_tests)

-- ---- no level is left by what is outside

abbrev is_left : ℕ → Bool
is_left x = nat_le x 0

none_of : (q : ℕ → Bool) (xs : List ℕ) → filter is_left xs ≡ [] → filter is_left (filter q xs) ≡ []
none_of q [] e = refl
none_of q (x ∷ xs) e =
    elim (cases_Bool (is_left x)) [
      | inl h ↦ absurd (some_not (rw h at e))
      | inr h ↦
          let rest : filter is_left xs ≡ [] = rw h at e in
          elim (cases_Bool (q x)) [
            | inl i ↦ rw (i, h) (none_of q xs rest)
            | inr i ↦ rw i (none_of q xs rest)
          ]
    ]
  where
    some_not : {x : ℕ} {xs : List ℕ} → x ∷ xs ≡ [] → ⊥
    some_not e = cc

over : (c : ℕ) → nat_le (c + 1) 0 ≡ false
over c = grind (arith, nat_tests)

margin_left : (o : Option Candidate) (k : Kind) (column : ℕ) → is_left (opens_at o k column) ≡ false
margin_left o k column = grind (arith, nat_tests, over)

pub none_left : (h : List Lexeme) → filter is_left (open_levels h) ≡ []
unfolding open_levels
none_left [] = refl
none_left (l ∷ h) = grind (arith, nat_tests, none_of, filter-append, margin_left, none_left h)

-- ---- the lexeme of a mark

abbrev pub mark_lexeme : Kind → List ℕ → ℕ → Lexeme
mark_lexeme K text p = record {
  kind = K;
  start = mark_at text p;
  end = mark_at text (p + 3);
  reached = mark_at text (p + 3);
  depth = 0;
  level = 0;
  saved = false;
  required = false;
  broke = false;
}

pub and_false : (x : Bool) → (x && false) ≡ false
and_false x = grind (arith, nat_tests)

mark_begun : (K : Kind) (body : TokenBody) → IsMark K body
    → (text : List ℕ) (H : List Lexeme) (p : ℕ)
    → (gap_behind text H).place ≡ p → flow_depth H ≡ 0
    → begun_behind K text H ≡ record {
      kind = K;
      start = mark_at text p;
      end = mark_at text p;
      reached = mark_at text p;
      depth = 0;
      level = 0;
      saved = false;
      required = false;
      broke = false;
    }
unfolding indent
mark_begun K body m text H p e z =
    let level : left_by K (flow_depth H) (column_at text p) (open_levels H) ≡ [] = rw (z, m.outside) (none_left H) in
    rw (e, m.end, m.key, and_false (allowed_behind H (gap_behind text H)), level, z) refl

-- what is free is not lost
pub lost_none : (l : Lexeme) (o : Option Candidate) → IsFree o → lost_by l o ≡ None
lost_none l o f = grind (arith, nat_tests)

pub mark_word : (K : Kind) (body : TokenBody) → IsMark K body
    → (text : List ℕ) (H : List Lexeme) (p : ℕ)
    → (gap_behind text H).place ≡ p → word_behind K text H ≡ carrying body (p + 3)
mark_word K body m text H p e = m.word (in_flow H) (begun_behind K text H).level text (gap_behind text H).place ∙ ap (λ q. carrying body (q + 3)) e

pub mark_behind : (K : Kind) (body : TokenBody) → IsMark K body → (text : List ℕ) (H : List Lexeme)
    (p : ℕ) → (gap_behind text H).place ≡ p → flow_depth H ≡ 0
    → lexeme_behind K text H ≡ mark_lexeme K text p
mark_behind K body m text H p e z =
    rw (mark_begun K body m text H p e z, mark_word K body m text H p e, m.end) refl

no_candidate : (K : Kind) (body : TokenBody) → IsMark K body → (text : List ℕ) (p : ℕ)
    (H : List Lexeme) → candidate 0 (mark_lexeme K text p ∷ H) ≡ None
unfolding candidate
no_candidate K body m text p H = rw m.cancels refl

-- where a mark is read, and at which depth
pub record MarkLies (K : Kind) (t : List ℕ) (H : List Lexeme) (p : ℕ) (l : Lexeme) : Type 0 where
  pub kind : l.kind ≡ K
  pub start : l.start ≡ mark_at t p
  pub end : l.end ≡ mark_at t (p + 3)
  pub reached : l.reached ≡ mark_at t (p + 3)
  pub deep : l.depth ≡ flow_depth H
  pub saved : l.saved ≡ false

pub mark_lies : (K : Kind) (body : TokenBody) → IsMark K body → (t : List ℕ) (H : List Lexeme)
    (p : ℕ) → (gap_behind t H).place ≡ p → MarkLies K t H p (lexeme_behind K t H)
mark_lies K body m t H p e = grind (arith, nat_tests, and_false, mark_word)

-- a mark is read, where no candidate is lost or missed
pub mark_comes : (K : Kind) (body : TokenBody) → IsMark K body → (t : List ℕ) (H : List Lexeme)
    (p : ℕ) → (gap_behind t H).place ≡ p → stale_before t H ≡ None
    → IsFree (fresh (candidate (flow_depth H) H) (place_behind t H))
    → stale_after (lexeme_behind K t H) H ≡ None
    → coming (Some K) t H ≡ Read (lexeme_behind K t H)
mark_comes K body m t H p e stale free after = grind (arith, nat_tests, and_false, lost_none, mark_word)

-- the mark is read there
pub mark_reads : (K : Kind) (body : TokenBody) → IsMark K body → (text : List ℕ) (H : List Lexeme)
    (p : ℕ) → (gap_behind text H).place ≡ p → flow_depth H ≡ 0 → stale_before text H ≡ None
    → IsFree (fresh (candidate (flow_depth H) H) (place_behind text H))
    → coming (Some K) text H ≡ Read (mark_lexeme K text p)
mark_reads K body m text H p e z stale free =
    let is = mark_behind K body m text H p e z in
    let after : stale_after (lexeme_behind K text H) H ≡ None = rw (is, no_candidate K body m text p H) refl in
    mark_comes K body m text H p e stale free after ∙ ap Read is

-- ---- the stream's end is where the text ends

pub end_byte : (flow : Bool) (t : List ℕ) (p : ℕ) (k : Kind) → kind_at flow t p ≡ Some k
    → is_end k ≡ true
    → byte t p ≡ 0
end_byte flow t p k e end = by t p k end (kind_told flow t p k e)
  where
    by : (t : List ℕ) (p : ℕ) (k : Kind) → is_end k ≡ true → Tells t p k → byte t p ≡ 0
    by t p kinds.StreamEnd end h = h
    by t p _ end h = absurd (true≢false (sym end))

pub end_is : (k : Kind) → is_end k ≡ true → k ≡ kinds.StreamEnd
end_is k h = grind (arith, nat_tests, true≢false)

-- ---- the mark of the rest

-- a mark is there
pub record MarkStands (t : List ℕ) (p : ℕ) : Type 0 where
  pub kind : Kind
  pub body : TokenBody
  pub is : IsMark kind body
  pub stands : (flow : Bool) → kind_at flow t p ≡ Some kind

mark_parts : (c z x y : Bool) → ((c && (x || y)) && z) ≡ true
    → (((c && x) && z) ≡ true) ⊎ (((c && y) && z) ≡ true)
mark_parts c z x y h = grind (arith, nat_tests)

shift : (a b c : Bool) → (a && (b && c)) ≡ ((a && b) && c)
shift a b c = grind (arith, nat_tests)

indicator_cases : (t : List ℕ) (p : ℕ) → is_document_indicator t p ≡ true
    → (is_document_start t p ≡ true) ⊎ (is_document_end t p ≡ true)
unfolding is_document_indicator is_document_start is_document_end
indicator_cases t p h = grind (arith, nat_tests, mark_parts, shift)

first_byte : (c z x y : Bool) (b n : ℕ) → ((c && (b == n && (x && y))) && z) ≡ true → b ≡ n
first_byte c z x y b n h = grind (arith, nat_tests, eqb-true, and_parts, true≢false)

start_byte : (t : List ℕ) (p : ℕ) → is_document_start t p ≡ true → byte t p ≡ 45
unfolding is_document_start
start_byte t p h = first_byte (column_at t p == 0) (is_blank_or_end t (p + 3)) (byte t (p + 1) == 45) (byte t (p + 2) == 45) (byte t p) 45 h

finish_byte : (t : List ℕ) (p : ℕ) → is_document_end t p ≡ true → byte t p ≡ 46
unfolding is_document_end
finish_byte t p h = first_byte (column_at t p == 0) (is_blank_or_end t (p + 3)) (byte t (p + 1) == 46) (byte t (p + 2) == 46) (byte t p) 46 h

no_start : (t : List ℕ) (p : ℕ) → byte t p ≡ 46 → is_document_start t p ≡ false
no_start t p b = grind (arith, nat_tests, start_byte)

pub starts : (flow : Bool) (t : List ℕ) (p : ℕ) → is_document_start t p ≡ true
    → kind_at flow t p ≡ Some kinds.DocumentStart
unfolding kind_at
starts flow t p h = grind (arith, nat_tests, start_byte)

pub finishes : (flow : Bool) (t : List ℕ) (p : ℕ) → is_document_end t p ≡ true
    → kind_at flow t p ≡ Some kinds.DocumentEnd
unfolding kind_at
finishes flow t p h = grind (arith, nat_tests, finish_byte, no_start)

abbrev pub start_stands : (t : List ℕ) (p : ℕ) → is_document_start t p ≡ true → MarkStands t p
start_stands t p e = record { kind = kinds.DocumentStart; body = tokens.document_start; is = start_mark; stands = λ flow. starts flow t p e }

abbrev pub end_stands : (t : List ℕ) (p : ℕ) → is_document_end t p ≡ true → MarkStands t p
end_stands t p e = record { kind = kinds.DocumentEnd; body = tokens.document_end; is = end_mark; stands = λ flow. finishes flow t p e }

pub mark_stands : (t : List ℕ) (p : ℕ) → is_document_indicator t p ≡ true → MarkStands t p
mark_stands t p h = grind (arith, nat_tests, indicator_cases, start_stands, end_stands)

-- ---- the turn

pub free_of : (l : Lexeme) (o : Option Candidate) → cancels l.kind ≡ true → is_value l.kind ≡ false
    → lost_by l o ≡ None → IsFree o
free_of l o c v e = grind (arith, nat_tests)

pub colon_none : (o : Option yaml_mark_t) (m : yaml_mark_t) → colon_missing_of o m ≡ None → o ≡ None
colon_none o m e = grind (arith, nat_tests, none-some)

pub end_begun : (t : List ℕ) (H : List Lexeme)
    → lexeme_behind kinds.StreamEnd t H ≡ begun_behind kinds.StreamEnd t H
unfolding lexeme_at
end_begun t H = refl

pub end_place : (a b : List ℕ) → IsCut a b → (H : List Lexeme) → (reached H).index ≤ length a
    → byte a (gap_behind a H).place ≡ 0 → (gap_behind a H).place ≡ length a
end_place a b cut H inside none = grind (arith, nat_tests, gap_place)

pub mark_there : (a b : List ℕ) → IsCut a b → mark_at a (length a) ≡ mark_at (a ++ b) (length a)
mark_there a b cut =
    let alike = front_alike a b cut in
    let e : 0 + length a ≡ length a = omega arith in
    let there : mark_at (a ++ b) (0 + length a) ≡ moved_mark 0 0 (mark_at a (length a)) =
    mark_alike a (a ++ b) 0 (length a) 0 (length a) alike (sym (start_line (a ++ b))) (omega arith) in
    sym (ap (mark_at (a ++ b)) (sym e) ∙ there ∙ mark_zero (mark_at a (length a)))

pub end_mark_placed : (a b : List ℕ) → IsCut a b
    → placed kinds.StreamEnd (mark_at (a ++ b) (length a)) ≡ mark_at (a ++ b) (length a)
end_mark_placed a b cut = rw (cut_column a b cut) refl

-- where the front's lexemes end, the rest's mark is in the whole
pub stands_there : (a b : List ℕ) → IsCut a b → (H : List Lexeme) (K : Kind)
    → kind_at (in_flow H) b 0 ≡ Some K → (gap_behind (a ++ b) H).place ≡ length a
    → kind_behind (a ++ b) H ≡ Some K
stands_there a b cut H K is at =
    ap (kind_at (in_flow H) (a ++ b)) (at ∙ sym (add-zero (length a)))
    ∙ kind_alike b (a ++ b) (length a) (suc (length b)) 0 (in_flow H) (rest_alike a b cut) (omega arith) ∙ is
