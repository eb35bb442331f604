-- A text that leads to a directive has its token first, or a fault in its place.
use Rattle.std.proofs.Common.{◌≡◌, ◌≢◌, ℕ, suc, ◌+◌, nat_lt, false, List, [], ◌∷◌, ◌++◌, length, Option, Some, None, Result, Ok, refl, sym, ap, subst, ◌∙◌, arith}
use Rattle.yaml_scan_laws.proofs.Shared.{nat_tests, flat_map, same_Some, and-false, yaml_encoding_t, ScanFault, Fault, Token, TokenBody, Wrong, Said, DirectiveText, directive_at, Lexeme, candidate, open_levels, finished_tokens, first_open, WordText, body_said, directed, kind_at, lexeme_at, Next, Read, Fails, Ends, first_lexeme, gap_behind, allowed_behind, kind_behind, begun_behind, word_behind, next, extended, history, SpelledText, body_of_word, body_by, body_in, token_in, spell, all, fault_in, all_ends, last_is_all, history_grows, LeadsToDirective, scan_of, fault_next, cancels}
use Rattle.yaml_scan_history.specs.scan_types.Tokens as tokens
use Rattle.yaml_scan_history.specs.declared.kind.Kind.TheVariants as kinds
use Rattle.yaml_scan_laws.proofs.Fronts.{HasRead, has_read, read_kind, kept, lexeme_zero, next_open, history_more}
use Rattle.yaml_scan_laws.proofs.Histories.{Bases}
use Rattle.yaml_scan_laws.proofs.Depths.{read_deep}
use Rattle.yaml_scan_laws.proofs.Rests.{word_of, AllCarry, no_candidates}
use Rattle.yaml_scan_laws.proofs.CutsJoining.{told, offline_told, parted}
use Rattle.yaml_scan_laws.proofs.Opening.{coming_goes, all_is}
use Rattle.yaml_scan_laws.proofs.Windows.{uncons}
use Rattle.yaml_scan_laws.proofs.CutsEnding.{start_history}
use Rattle.yaml_scan_laws.proofs.Failing.{some_none, fails_not}

-- ---- the token of a directive

-- the token of a directive
abbrev pub IsDirective : TokenBody → Type 0
IsDirective (tokens.version_directive major minor) = Unit {0}
IsDirective (tokens.tag_directive handle prefix) = Unit {0}
IsDirective _ = ⊥

-- it is first, or a fault does
abbrev pub LeadsSo : List Token → Option Fault → Type 0
LeadsSo [] own = own ≢ None
LeadsSo (t ∷ ts) own = IsDirective t.body

said_directive : (s : Said) → IsDirective (body_said s)
said_directive s = grind (arith, nat_tests)

directed_body : (r : Result DirectiveText Wrong) (w : WordText) → directed r ≡ Ok w
    → IsDirective w.body
directed_body r w e = grind (arith, said_directive)

lead_kind : (b : List ℕ) → LeadsToDirective b
    → kind_behind b (first_lexeme ∷ []) ≡ Some kinds.Directive
unfolding kind_at candidate
lead_kind b lead = grind (arith, nat_tests)

-- ---- the lexemes of both

lead_told : (s : SpelledText) (l : Lexeme) → l.kind ≡ kinds.Directive → l.depth ≡ 0
    → flat_map (spell s) (finished_tokens (l ∷ first_lexeme ∷ []))
    ≡ token_in s first_lexeme ∷ token_in s l ∷ []
unfolding finished_tokens open_levels candidate
lead_told s l k z = rw (k, z) refl

self_carry : (x : yaml_encoding_t) (t : List ℕ) (h : List Lexeme) → AllCarry x t t 0 0 h
self_carry x t [] = tt
self_carry x t (l ∷ h) = (ap (body_in (record { encoding = x; text = t })) (lexeme_zero l), self_carry x t h)

failed_told : (s : SpelledText) (f : ScanFault)
    → told s (Fails f) (first_lexeme ∷ []) ≡ token_in s first_lexeme ∷ []
unfolding finished_tokens open_levels candidate first_open
failed_told s f = refl

lead_body : (x : yaml_encoding_t) (b : List ℕ) (l : Lexeme) → (r : HasRead b (first_lexeme ∷ []) l)
    → r.kind ≡ kinds.Directive → IsDirective (body_in (record { encoding = x; text = b }) l)
unfolding lexeme_at
lead_body x b l r kind =
    let s : SpelledText = record { encoding = x; text = b } in
    let H = first_lexeme ∷ [] in
    let is : l.kind ≡ kinds.Directive = read_kind b H l r ∙ kind in
    let reads : directed (directive_at b (gap_behind b H).place) ≡ Ok r.word = ap (λ k. word_behind k b H) (sym kind) ∙ r.reads in
    let same = ap (λ k. lexeme_at k (nat_lt 0 l.depth) l.level b l.start.index) (sym kind) ∙ word_of r.kind b H l r.clean.is ∙ r.reads in
    let body : body_in s l ≡ r.word.body = ap (λ k. body_by k s l) is ∙ ap body_of_word same in
    subst IsDirective (sym body) (directed_body (directive_at b (gap_behind b H).place) r.word reads)

-- the rest's first lexeme is that of the directive
lead_reads : (x : yaml_encoding_t) (b : List ℕ) → LeadsToDirective b → (l : Lexeme)
    → next b (first_lexeme ∷ []) ≡ Read l
    → (first : Token) (behind : List Token) → (scan_of x b).tokens ≡ first ∷ behind
    → LeadsSo behind (scan_of x b).fault
lead_reads x b lead l e first behind come =
    let s : SpelledText = record { encoding = x; text = b } in
    let H = first_lexeme ∷ [] in
    let r = has_read b H l (sym (next_open b first_lexeme [] refl) ∙ e) in
    let kind : r.kind ≡ kinds.Directive = same_Some _ _ (sym r.stands ∙ lead_kind b lead) in
    let is : l.kind ≡ kinds.Directive = read_kind b H l r ∙ kind in
    let deep : l.depth ≡ 0 = read_deep b H l e in
    let saved : l.saved ≡ false = ap (λ (y : Lexeme). y.saved) (sym r.clean.is) ∙ (kept b (begun_behind r.kind b H) (word_behind r.kind b H)).saved
    ∙ ap (λ k. (begun_behind k b H).saved) kind ∙ and-false (allowed_behind H (gap_behind b H)) in
    let B = l ∷ H in
    let begins : history b 2 ≡ B = history_more b 1 ∙ ap (λ z. extended (next b z) z) (start_history b) ∙ ap (λ y. extended y H) e in
    let (h, grows) = history_grows b 2 (suc (suc (length b))) (omega arith) in
    let is_all : all b ≡ h ++ B = all_is b ∙ grows ∙ ap (λ z. h ++ z) begins in
    let none = no_candidates l H deep saved (ap cancels is) in
    let bases : Bases 0 0 0 B B = record { depth = refl; mine = none; others = none; levels = refl; count = refl_count (length B) } in
    let y = next b (all b) in
    let p = parted x b b 0 0 0 h B B bases (self_carry x b h) y (all_ends b) in
    let told_all : (scan_of x b).tokens ≡ token_in s first_lexeme ∷ token_in s l ∷ p.behind =
    offline_told s ∙ ap (λ z. told s y z) is_all ∙ p.mine ∙ ap (λ z. z ++ p.behind) (lead_told s l is deep) in
    let rest : behind ≡ token_in s l ∷ p.behind = uncons first (token_in s first_lexeme) behind (token_in s l ∷ p.behind) (sym come ∙ told_all) in
    subst (λ z. LeadsSo z (scan_of x b).fault) (sym rest) (lead_body x b l r kind)
  where
    refl_count : (n : ℕ) → n ≡ 0 + n
    refl_count n = omega arith

lead_fails : (x : yaml_encoding_t) (b : List ℕ) (f : ScanFault)
    → next b (first_lexeme ∷ []) ≡ Fails f
    → (first : Token) (behind : List Token) → (scan_of x b).tokens ≡ first ∷ behind
    → LeadsSo behind (scan_of x b).fault
lead_fails x b f e first behind come =
    let s : SpelledText = record { encoding = x; text = b } in
    let start = start_history b in
    let is_all : all b ≡ first_lexeme ∷ [] = last_is_all b 1 (λ l r. fails_not (sym (ap (next b) start ∙ e) ∙ r)) ∙ start in
    let fails : next b (all b) ≡ Fails f = ap (next b) is_all ∙ e in
    let told_all : (scan_of x b).tokens ≡ token_in s first_lexeme ∷ [] =
    offline_told s ∙ ap (λ y. told s y (all b)) fails ∙ ap (told s (Fails f)) is_all ∙ failed_told s f in
    let rest : behind ≡ [] = uncons first (token_in s first_lexeme) behind [] (sym come ∙ told_all) in
    let fault = fault_next s ∙ ap fault_in fails in
    subst (λ z. LeadsSo z (scan_of x b).fault) (sym rest) (λ none. some_none (sym fault ∙ none))

-- what comes first of a text that leads to a directive
pub leads_so : (x : yaml_encoding_t) (b : List ℕ) → LeadsToDirective b
    → (first : Token) (behind : List Token) → (scan_of x b).tokens ≡ first ∷ behind
    → LeadsSo behind (scan_of x b).fault
leads_so x b lead first behind come = by (next b (first_lexeme ∷ [])) refl
  where
    by : (y : Next) → next b (first_lexeme ∷ []) ≡ y → LeadsSo behind (scan_of x b).fault
    by (Read l) e = lead_reads x b lead l e first behind come
    by (Fails f) e = lead_fails x b f e first behind come
    by Ends e = absurd (coming_goes (kind_behind b (first_lexeme ∷ [])) b (first_lexeme ∷ []) (sym (next_open b first_lexeme [] refl) ∙ e))
