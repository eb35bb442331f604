-- Each lexeme is at the depth that those before it leave.
use Rattle.std.proofs.Common.{◌≡◌, ℕ, zero, suc, ◌+◌, List, [], ◌∷◌, length, refl, sym, ap, ◌∙◌, arith}
use Rattle.yaml_scan_laws.proofs.Shared.{nat_tests, Lexeme, flow_depth, Next, Read, begun_behind, word_behind, next, extended, history, all, first_is, not_ended}
use Rattle.yaml_scan_laws.proofs.Fronts.{has_read, kept, next_open}

abbrev pub AllDeep : List Lexeme → Type 0
AllDeep [] = Unit {0}
AllDeep (l ∷ h) = (l.depth ≡ flow_depth h) × AllDeep h

-- A lexeme that is read is at the depth of those before it.
pub read_deep : (t : List ℕ) (h : List Lexeme) (l : Lexeme) → next t h ≡ Read l
    → l.depth ≡ flow_depth h
read_deep t [] l e = ap (λ (y : Lexeme). y.depth) (sym (first_is t l e))
read_deep t (x ∷ h) l e =
    let H = x ∷ h in
    let r = has_read t H l (sym (next_open t x h (not_ended t x h l e)) ∙ e) in
    ap (λ (y : Lexeme). y.depth) (sym r.clean.is) ∙ (kept t (begun_behind r.kind t H) (word_behind r.kind t H)).deep

step_deep : (t : List ℕ) (h : List Lexeme) (x : Next) → next t h ≡ x → AllDeep h
    → AllDeep (extended x h)
step_deep t h x e a = grind (arith, nat_tests, read_deep)

history_deep : (t : List ℕ) (n : ℕ) → AllDeep (history t n)
unfolding history
history_deep t zero = tt
history_deep t (suc n) = step_deep t (history t n) (next t (history t n)) refl (history_deep t n)

-- So do all of a text.
pub all_deep : (t : List ℕ) → AllDeep (all t)
unfolding all
all_deep t = history_deep t (length t + 2)
