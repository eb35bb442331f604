-- The `:` of a key.
use Rattle.std.proofs.Common.{◌≡◌, ℕ, ◌+◌, ◌<◌, ◌≤◌, ◌^◌, List, length, Option, Some, None, refl, sym, ap, subst, ◌∙◌, arith}
use Rattle.yaml_scan_core.proofs.Words.{yaml_mark_t, mark_at, column_at, Kind, Lexeme, Candidate, candidate, fresh, reached, flow_depth, length-entries, candidate_below, fresh_is, fresh_before, KeyView, SimpleKey, inner, key_at, key_mark, key_view, fresh_key, view_of, stack_of}
use Rattle.yaml_scan_history.proofs.HistoryLemmas.{first_open-least}
use Rattle.yaml_scan_model.proofs.MarksLemmas.{column_at-le}
use Rattle.yaml_scan_core.specs.declared.scanner.Scanner.{Scanner}
use Rattle.yaml_scan_core.specs.Scanning.{FindsKey, StandsAs, read_by}
use Rattle.yaml_scan_core.proofs.CandidatesLemmas.{inner_is}
use Rattle.yaml_scan_core.proofs.StandLemmas.{candidate_stands}

view_some : (o : Option Candidate) (v : KeyView) → view_of o ≡ Some v
    → (c : Candidate) × (o ≡ Some c) × (c.number ≡ v.number) × (c.lexeme.start ≡ v.start)
view_some None v e = cc
view_some (Some c) v e =
    let same : v ≡ record { number = c.number; start = c.lexeme.start } = cc in
    (c, refl, ap (λ (x : KeyView). x.number) (sym same), ap (λ (x : KeyView). x.start) (sym same))

-- the candidate that a `:` finds is the key
pub record FoundOne (s : Scanner) (h : List Lexeme) (key : SimpleKey) : Type 0 where
  pub one : Candidate
  pub here : fresh (candidate (flow_depth h) h) (mark_at s.text.now s.at) ≡ Some one
  pub number : one.number ≡ key.number
  pub start : one.lexeme.start ≡ key_mark s.text.now key

pub found_one : (k : Kind) (s : Scanner) (h : List Lexeme) (n : ℕ) (key : SimpleKey)
    → StandsAs k s h n → FindsKey key s h → FoundOne s h key
found_one k s h n key a f =
    let text = s.text.now in
    let o = a.behind.holds.keys in
    let q = mark_at text s.at in
    let same : inner (stack_of s.keys) ≡ flow_depth h = inner_is (flow_depth h) (stack_of s.keys) o.long in
    let own : key_at (stack_of s.keys) (flow_depth h) ≡ key = ap (λ d. key_at (stack_of s.keys) d) (sym same) ∙ sym f.own in
    let view : view_of (fresh (candidate (flow_depth h) h) q) ≡ Some (key_view text key) =
    sym (o.agrees (flow_depth h) (omega arith) q a.behind.further) ∙ ap (λ x. fresh_key text x q) own ∙ f.fresh in
    let (c, some, number, start) = view_some (fresh (candidate (flow_depth h) h) q) (key_view text key) view in
    record { one = c; here = some; number = number; start = start }

pub key_column : (k : Kind) (s : Scanner) (h : List Lexeme) (n : ℕ) (key : SimpleKey)
    → StandsAs k s h n → FindsKey key s h → key.column < 2 ^ 63
key_column k s h n key a f =
    let text = s.text.now in
    let x = found_one k s h n key a f in
    let is : candidate (flow_depth h) h ≡ Some x.one = fresh_is (candidate (flow_depth h) h) (mark_at text s.at) x.one x.here in
    let st = candidate_stands text (read_by s) (flow_depth h) x.one (subst (λ (y : List Lexeme). candidate (flow_depth h) y ≡ Some x.one) a.behind.is is) in
    let col : key.column ≡ column_at text x.one.lexeme.start.index = ap (λ (m : yaml_mark_t). m.column) (sym x.start) ∙ ap (λ (m : yaml_mark_t). m.column) st.mark in
    omega (arith, col, column_at-le text x.one.lexeme.start.index, st.inside, a.behind.holds.long)

-- it isn't dropped, and was read
pub key_held : (k : Kind) (s : Scanner) (h : List Lexeme) (n : ℕ) (key : SimpleKey)
    → StandsAs k s h n → FindsKey key s h
    → (s.row.dropped + s.row.settled ≤ key.number) × (key.number < s.row.dropped + length s.row.lexemes.items)
key_held k s h n key a f =
    let text = s.text.now in
    let x = found_one k s h n key a f in
    let o = candidate (flow_depth h) h in
    let before : fresh o (reached h) ≡ Some x.one = fresh_before o (reached h) (mark_at text s.at) x.one x.here a.behind.further in
    let below = candidate_below (flow_depth h) h x.one (fresh_is o (mark_at text s.at) x.one x.here) in
    let least = first_open-least h (flow_depth h) x.one.number (x.one, before, refl) below in
    (omega (arith, a.behind.holds.settled, least, x.number), omega (arith, below, x.number, a.behind.holds.row.count, length-entries h))
