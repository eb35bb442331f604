-- What is settled stays so, whatever follows.
use Rattle.std.proofs.Common.{◌≡◌, ℕ, zero, suc, ◌+◌, ◌-◌, ◌<◌, ◌≤◌, List, [], ◌∷◌, ◌++◌, length, take, drop, get_or, refl, sym, ap, ◌∙◌, inl, inr, arith, append_assoc}
use Rattle.yaml_scan_core.proofs.Words.{cases_lt, flat_map, Token, block_end, Entry, finished_tokens, next, history, SpelledText, all, handed, before, body_in, end_tokens, spell, front_ends, remaining, offline, length-entries, tokens_is, ends_token}
use Rattle.std.proofs.lemmas.List.{take-append-drop, drop_more}
use Rattle.std.proofs.lemmas.List.Concat.{flat_map-append}
use Rattle.std.proofs.lemmas.List.Elements.{All-head, All-tail, All-take}
use Rattle.std.proofs.Math.ListN.{drop_of_length-le}
use Rattle.std.specs.Prelude.{replicate, All}
use Rattle.yaml_scan_history.specs.Remaining.{kept_of}
use Rattle.yaml_scan_core.specs.Settled.{settled_behind, settled_in, settled_tokens}
use Rattle.yaml_scan_core.specs.Shown.{no_entry}
use Rattle.yaml_scan_core.proofs.KnowsLemmas.{known_upto, settled_open}

-- the BLOCK-END tokens before a lexeme come first
ends_first : (s : SpelledText) (n j : ℕ) → let h = history s.text n in let f = settled_in h in
    f < length h → let x = get_or (finished_tokens h) f no_entry in j ≤ x.ends
    → (remaining s f (x.ends - j)).tokens
    ≡ replicate j (before block_end x.lexeme) ++ (remaining s f x.ends).tokens
ends_first s n zero low most =
    let h = history s.text n in
    let x = get_or (finished_tokens h) (settled_in h) no_entry in
    ap (λ g. (remaining s (settled_in h) g).tokens) {x = x.ends - 0} {y = x.ends} (omega arith)
ends_first s n (suc j) low most =
    let h = history s.text n in
    let f = settled_in h in
    let x = get_or (finished_tokens h) f no_entry in
    let opens = settled_open h low in
    let (tokens, fault) = ends_token s n f (x.ends - suc j) no_entry (omega (arith, opens)) low (omega (arith, most)) in
    tokens ∙ ap (λ g. before block_end x.lexeme ∷ (remaining s f g).tokens) {x = x.ends - suc j + 1} {y = x.ends - j} (omega (arith, most)) ∙ ap (λ ts. before block_end x.lexeme ∷ ts) (ends_first s n j low (omega (arith, most)))

-- so what comes before the first lexeme that isn't settled does
fronts_first : (s : SpelledText) (n : ℕ) → let h = history s.text n in let f = settled_in h in
    (rest : List Token) × ((remaining s f 0).tokens ≡ front_ends (drop f (finished_tokens h)) ++ rest)
fronts_first s n =
    let h = history s.text n in
    let f = settled_in h in
    elim (cases_lt f (length h)) [
      | inr past ↦
          let none : drop f (finished_tokens h) ≡ [] = drop_of_length-le (finished_tokens h) (omega (arith, past, length-entries h)) in
          ((remaining s f 0).tokens, ap (λ es. front_ends es ++ (remaining s f 0).tokens) (sym none))
      | inl low ↦
          let x = get_or (finished_tokens h) f no_entry in
          let here : front_ends (drop f (finished_tokens h)) ≡ end_tokens x = ap front_ends (drop_more (finished_tokens h) f no_entry (omega (arith, low, length-entries h))) in
          let first = ends_first s n x.ends low (omega arith) in
          ((remaining s f x.ends).tokens, ap (λ g. (remaining s f g).tokens) {x = 0} {y = x.ends - x.ends} (omega arith) ∙ first ∙ ap (λ ts. ts ++ (remaining s f x.ends).tokens) (sym here))
    ]

-- the settled ones come first
own_first : (s : SpelledText) (n : ℕ)
    → (rest : List Token) × ((offline s).tokens ≡ settled_behind s (history s.text n) ++ rest)
own_first s n =
    let h = history s.text n in
    let f = settled_in h in
    let known = known_upto s.text n f (omega arith) in
    let (rest, fronts) = fronts_first s n in
    let kept = kept_of (next s.text (all s.text)) (all s.text) in
    let front = flat_map (spell s) (take f (finished_tokens h)) in
    let behind = flat_map (spell s) (drop f (handed s.text)) in
    let split : flat_map (spell s) (handed s.text) ≡ front ++ behind = ap (λ es. flat_map (spell s) es) (sym (take-append-drop f (handed s.text))) ∙ flat_map-append (spell s) (take f (handed s.text)) (drop f (handed s.text)) ∙ ap (λ es. flat_map (spell s) es ++ behind) known.same in
    let last : behind ++ kept ≡ front_ends (drop f (finished_tokens h)) ++ rest = sym (tokens_is s f 0) ∙ fronts in
    (rest, tokens_is s 0 0 ∙ ap (λ ts. ts ++ kept) split ∙ append_assoc front behind kept ∙ ap (λ ts. front ++ ts) last ∙ sym (append_assoc front (front_ends (drop f (finished_tokens h))) rest))

-- Entries whose lexemes carry the same are spelled out in the same tokens.
spelled_same : (s t : SpelledText) (es : List Entry)
    → All (λ e. body_in t e.lexeme ≡ body_in s e.lexeme) es
    → flat_map (spell t) es ≡ flat_map (spell s) es
spelled_same s t [] h = refl
spelled_same s t (e ∷ es) h = rw (All-head (λ e. body_in t e.lexeme ≡ body_in s e.lexeme) e es h, spelled_same s t es (All-tail (λ e. body_in t e.lexeme ≡ body_in s e.lexeme) e es h)) refl

-- whatever follows, what that many lexemes settle comes first
pub whatever_follows : (s t : SpelledText) (n : ℕ) → history t.text n ≡ history s.text n
    → All (λ e. body_in t e.lexeme ≡ body_in s e.lexeme) (finished_tokens (history s.text n))
    → (rest : List Token) × ((offline t).tokens ≡ settled_tokens s n ++ rest)
unfolding settled_tokens
whatever_follows s t n read carry =
    let h = history s.text n in
    let f = settled_in h in
    let (rest, own) = own_first t n in
    let told : settled_behind t (history t.text n) ≡ settled_behind t h = ap (λ g. settled_behind t g) read in
    let same = spelled_same s t (take f (finished_tokens h)) (All-take (λ e. body_in t e.lexeme ≡ body_in s e.lexeme) f (finished_tokens h) carry) in
    (rest, own ∙ ap (λ ts. ts ++ rest) (told ∙ ap (λ ts. ts ++ front_ends (drop f (finished_tokens h))) same))
