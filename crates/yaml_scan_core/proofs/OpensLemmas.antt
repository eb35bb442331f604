-- Brackets that open.
use Rattle.std.proofs.Common.{◌≡◌, ℕ, ◌+◌, true, false, cond, ltb, eqb, ◌&&◌, not, inl, inr, List, [], ◌∷◌, length, Option, None, Ok, refl, sym, ap, subst, ◌∙◌, arith}
use Rattle.yaml_scan_core.proofs.Words.{cases_lt, nat_tests, mark_at, line_at, Kind, Lexeme, reached, flow_depth, depth_after, is_fresh, Upto, AreKeys, AreKeysTo, KeyStack, SimpleKey, inner, key_at, stack_of, saved, key_opened, index_in, no_key, get_or_append_left, get_or_past, get_or_at}
use Rattle.yaml_scan_model.specs.scan_types.Tokens.{TokenBody}
use Rattle.yaml_scan_core.specs.declared.fault.Fault.{Fault}
use Rattle.yaml_scan_core.specs.declared.row.Row.{Row}
use Rattle.yaml_scan_core.specs.declared.keys.Keys.{Keys}
use Rattle.yaml_scan_core.specs.declared.scanner.Scanner.{Scanner}
use Rattle.yaml_scan_model.specs.declared.kind.Kind.{Kind as Token}
use Rattle.yaml_scan_core.specs.declared.lexeme.Lexeme.{Lexeme as Held}
use Rattle.yaml_scan_core.specs.Candidates.{cancelled_at}
use Rattle.yaml_scan_core.specs.Rows.{HasRoom, row_of, pushed, bare}
use Rattle.yaml_scan_core.specs.Scanning.{IsPlace, StandsAs, Takes, Tests, candidate_in, required_in_column}
use Rattle.yaml_scan_core.proofs.CandidatesLemmas.{opened_turns, upto_on}
use Rattle.yaml_scan_core.proofs.KindsLemmas.{bare_word, goes_leaves, goes_takes, goes_upto, not_wrong, put_at, stands_told}
use Rattle.yaml_scan_core.proofs.SavesLemmas.{keeps_if, place_keys, saves, saves_keys}
use Rattle.yaml_scan_core.proofs.GroupsLemmas.{Plain, leaves_it, plain_goes}

-- what the code saves is that
pub saves_by : (old mid : Scanner) (k : Keys) (row : Row) (key : SimpleKey) (t : KeyStack)
    → mid ≡ old → stack_of k ≡ stack_of mid.keys → key ≡ candidate_in mid
    → t ≡ cond key.possible
    (saved key (required_in_column key.column (record mid { keys = k; row = row })) (stack_of k)) (stack_of k)
    → t ≡ saves old
saves_by old mid k row key t same kept is e =
    e ∙ ap (λ (s : KeyStack). cond key.possible (saved key (not (ltb 0 (inner s)) && eqb mid.levels.margin (key.column + 1)) s) s) kept
    ∙ ap (λ (x : SimpleKey). cond x.possible (saved x (not (ltb 0 (inner (stack_of mid.keys))) && eqb mid.levels.margin (x.column + 1)) (stack_of mid.keys)) (stack_of mid.keys)) is
    ∙ ap (λ (s : Scanner). saves s) same

opened_key : (s : KeyStack) → key_at (key_opened s) 0 ≡ key_at s 0
opened_key s = elim (cases_lt 0 (length s.levels)) [
  | inl some ↦ get_or_append_left s.levels (no_key ∷ []) no_key 0 some
  | inr none ↦ get_or_at s.levels no_key [] no_key 0 (omega (arith, none)) ∙ sym (get_or_past s.levels 0 no_key (omega (arith, none)))
]

-- a byte further on the same line a key is fresh
pub fresh_next : (text : List ℕ) (at line wide : ℕ) → IsPlace text at line wide
    → IsPlace text (at + 1) line wide → is_fresh (mark_at text at) (mark_at text (at + 1)) ≡ true
fresh_next text at line wide p q =
    let same : line_at text (at + 1) ≡ line_at text at = sym q.begins.same ∙ p.begins.same in
    rw same (grind (arith, nat_tests))

pub opening_takes : (k : Kind) (t : Token) (b : TokenBody) (old mid : Scanner) (keys saving : Keys)
    (row : Row) (x : Held) (h : List Lexeme) (n : ℕ) (f : Option Fault) (u : Unit {0})
    → Plain k t b 1 true false true → ((d : ℕ) → depth_after k d ≡ d + 1) → StandsAs k old h n
    → mid ≡ old
    → Tests (cond old.key_allowed (index_in (cancelled_at old.text.now (stack_of old.keys))) None) old.at f (Ok u)
    → x ≡ bare t n mid.at (mid.at + 1) 0 → row_of row ≡ pushed x (row_of mid.row) → HasRoom row
    → stack_of saving ≡ saves old → stack_of keys ≡ key_opened (stack_of saving)
    → Takes old (leaves_it mid 1 true keys row) h
opening_takes k t b old mid keys saving row x h n f u p more a same tests is put room saved_is opened_is =
    let text = old.text.now in
    let w = bare_word b 1 text h in
    let l = put_at k w text h in
    let new = leaves_it mid 1 true keys row in
    let goes = plain_goes k t b 1 true false true old mid keys row x h n p a same is put room in
    let (further, forward) = goes_upto k w old new h n a goes in
    let on : Upto (reached h) l.reached = upto_on (reached h) l.start l.reached further forward in
    let place = p.place text old.at old.line old.wide a.behind.place (stands_told k old h n a) in
    let next : is_fresh l.start l.reached ≡ true =
    ap (λ q. is_fresh (mark_at text q) (mark_at text (q + 1))) (sym a.behind.gap) ∙ fresh_next text old.at old.line old.wide a.behind.place place in
    let sv = saves_keys k w old h n a p.idle p.stops on (λ may must. next) in
    let all : stack_of keys ≡ key_opened (saves old) = opened_is ∙ ap key_opened saved_is in
    let turned = opened_turns (flow_depth h) text (saves old) l h l.reached sv.keys refl in
    goes_takes k w old new h n a p.flat (not_wrong k text h p.starts) (keeps_if k old.key_allowed old h n f u a (place_keys k old h n a p.idle p.stops) tests) (p.word text h)
    (goes_leaves k w old new h n a goes p.flat
    (subst (λ q. AreKeys text q (l ∷ h) l.reached) (sym all) (subst (λ d. AreKeysTo d text (key_opened (saves old)) (l ∷ h) l.reached) (sym (more (flow_depth h))) turned))
    (λ must. elim (sv.outer (ap (λ (q : KeyStack). q.required) (sym all) ∙ must)) [
      | inl (key, stays) ↦ inl (ap (λ q. key_at q 0) all ∙ opened_key (saves old) ∙ key, stays)
      | inr none ↦ inr none
    ])
    (omega (arith, ap (λ (q : KeyStack). q.passed) all, sv.passed)))
