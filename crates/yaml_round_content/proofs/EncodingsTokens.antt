-- The tokens of one text in two encodings: those that start a stream name the encoding, and the others are the same.
use Rattle.std.proofs.Common.{◌≡◌, ◌⊎◌, inl, inr, ℕ, Bool, true, false, if◌then◌else◌, List, [], ◌∷◌, ◌++◌, Option, Some, refl, sym, ap, subst, ◌∙◌}
use Rattle.yaml_round_content.proofs.Words.{flat_map, yaml_encoding_t, yaml_mark_t, Token, Fault, Remaining, offline, spells_text, cut, stream_start, SpelledText, body_by, token_in, before, start_tokens, end_tokens, own_tokens, spell, all, handed, kept_of, remaining, tag_fault, with_token}
use Rattle.yaml_parse_model.specs.scan_types.Tokens as token
use Rattle.yaml_scan_laws.specs.scan_history.declared.Kind.{Kind}
use Rattle.yaml_scan_laws.specs.scan_history.declared.Kind.TheVariants as kinds
use Rattle.yaml_scan_laws.specs.scan_history.declared.Lexeme.{Lexeme}
use Rattle.yaml_scan_laws.specs.scan_history.declared.Entry.{Entry}
use Rattle.yaml_scan_laws.specs.scan_history.Next.{next}

-- ---- alike

abbrev pub start : yaml_encoding_t → yaml_mark_t → yaml_mark_t → Token
start x from to = record { body = stream_start x; start_mark = from; end_mark = to }

-- both start a stream, at the same place
pub record BothStart (t u : Token) : Type 0 where
  pub one : yaml_encoding_t
  pub two : yaml_encoding_t
  pub from : yaml_mark_t
  pub to : yaml_mark_t
  pub first : t ≡ start one from to
  pub second : u ≡ start two from to

abbrev pub IsAlike : Token → Token → Type 0
IsAlike t u = (t ≡ u) ⊎ BothStart t u

abbrev pub AreAlike : List Token → List Token → Type 0
AreAlike [] [] = Unit {0}
AreAlike [] (u ∷ us) = ⊥
AreAlike (t ∷ ts) [] = ⊥
AreAlike (t ∷ ts) (u ∷ us) = IsAlike t u × AreAlike ts us

all_same : (ts : List Token) → AreAlike ts ts
all_same [] = tt
all_same (t ∷ ts) = (inl refl, all_same ts)

both_alike : (ms ns ts us : List Token) → AreAlike ms ns → AreAlike ts us
    → AreAlike (ms ++ ts) (ns ++ us)
both_alike [] [] ts us h k = k
both_alike [] (n ∷ ns) ts us h k = absurd h
both_alike (m ∷ ms) [] ts us h k = absurd h
both_alike (m ∷ ms) (n ∷ ns) ts us (h, hs) k = (h, both_alike ms ns ts us hs k)

-- ---- of a text

abbrev pub spelled : yaml_encoding_t → List ℕ → SpelledText
spelled x text = record { encoding = x; text = text }

by_kind : (k : Kind) (x y : yaml_encoding_t) (text : List ℕ) (l : Lexeme) (from to : yaml_mark_t)
    → IsAlike (record { body = body_by k (spelled x text) l; start_mark = from; end_mark = to })
    (record { body = body_by k (spelled y text) l; start_mark = from; end_mark = to })
by_kind kinds.StreamStart x y text l from to = inr record { one = x; two = y; from = from; to = to; first = refl; second = refl }
by_kind k x y text l from to = inl refl

keyed_alike : (key : Bool) (k t u : Token) → IsAlike t u
    → AreAlike (if key then k ∷ t ∷ [] else t ∷ []) (if key then k ∷ u ∷ [] else u ∷ [])
keyed_alike true k t u h = (inl refl, (h, tt))
keyed_alike false k t u h = (h, tt)

spell_alike : (x y : yaml_encoding_t) (text : List ℕ) (e : Entry)
    → AreAlike (spell (spelled x text) e) (spell (spelled y text) e)
spell_alike x y text e =
    let front = end_tokens e ++ start_tokens e.opens e.lexeme in
    let l = e.lexeme in
    both_alike front front (own_tokens (spelled x text) e) (own_tokens (spelled y text) e) (all_same front)
    (keyed_alike e.key (before token.key l) (token_in (spelled x text) l) (token_in (spelled y text) l) (by_kind l.kind x y text l l.start l.end))

pool_alike : (x y : yaml_encoding_t) (text : List ℕ) (es : List Entry)
    → AreAlike (flat_map (spell (spelled x text)) es) (flat_map (spell (spelled y text)) es)
pool_alike x y text [] = tt
pool_alike x y text (e ∷ es) =
    both_alike (spell (spelled x text) e) (spell (spelled y text) e) (flat_map (spell (spelled x text)) es) (flat_map (spell (spelled y text)) es) (spell_alike x y text e) (pool_alike x y text es)

-- the tokens are alike, and the fault that ends them is the same
abbrev pub Resembles : Remaining → Remaining → Type 0
Resembles c d = AreAlike c.tokens d.tokens × (c.fault ≡ d.fault)

offline_alike : (x y : yaml_encoding_t) (text : List ℕ)
    → Resembles (offline (spelled x text)) (offline (spelled y text))
unfolding remaining
offline_alike x y text =
    let kept = kept_of (next text (all text)) (all text) in
    (both_alike (flat_map (spell (spelled x text)) (handed text)) (flat_map (spell (spelled y text)) (handed text)) kept kept (pool_alike x y text (handed text)) (all_same kept), refl)

-- ---- of a parser

same_texts : (t u : Token) → IsAlike t u → spells_text t.body ≡ spells_text u.body
same_texts t u (inl e) = ap (λ (v : Token). spells_text v.body) e
same_texts t u (inr b) = ap (λ (v : Token). spells_text v.body) b.first ∙ sym (ap (λ (v : Token). spells_text v.body) b.second)

same_place : (t u : Token) → IsAlike t u → t.start_mark ≡ u.start_mark
same_place t u (inl e) = ap (λ (v : Token). v.start_mark) e
same_place t u (inr b) = ap (λ (v : Token). v.start_mark) b.first ∙ sym (ap (λ (v : Token). v.start_mark) b.second)

abbrev stopped : yaml_mark_t → Remaining
stopped m = record { tokens = []; fault = Some (tag_fault m) }

one_alike : (b c : Bool) (t u : Token) (m n : yaml_mark_t) (p q : Remaining) → b ≡ c → m ≡ n
    → IsAlike t u → Resembles p q
    → Resembles (if b then with_token t p else stopped m) (if c then with_token u q else stopped n)
one_alike true true t u m n p q e f h k = ((h, k.0), k.1)
one_alike true false t u m n p q e f h k = absurd (cc)
one_alike false true t u m n p q e f h k = absurd (cc)
one_alike false false t u m n p q e f h k = (tt, ap (λ (z : yaml_mark_t). Some (tag_fault z)) f)

cut_alike : (f : Option Fault) (ts us : List Token) → AreAlike ts us
    → Resembles (cut f ts) (cut f us)
cut_alike f [] [] h = (tt, refl)
cut_alike f [] (u ∷ us) h = absurd h
cut_alike f (t ∷ ts) [] h = absurd h
cut_alike f (t ∷ ts) (u ∷ us) (h, hs) =
    one_alike (spells_text t.body) (spells_text u.body) t u t.start_mark u.start_mark (cut f ts) (cut f us) (same_texts t u h) (same_place t u h) h (cut_alike f ts us hs)

pub adapted_alike : (x y : yaml_encoding_t) (text : List ℕ) → let c = offline (spelled x text) in
    let d = offline (spelled y text) in Resembles (cut c.fault c.tokens) (cut d.fault d.tokens)
adapted_alike x y text =
    let c = offline (spelled x text) in
    let d = offline (spelled y text) in
    let (h, e) = offline_alike x y text in
    subst (λ (f : Option Fault). Resembles (cut c.fault c.tokens) (cut f d.tokens)) e (cut_alike c.fault c.tokens d.tokens h)
