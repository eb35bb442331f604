-- The tokens that come first.
use Rattle.std.proofs.Common.{◌≡◌, ◌≢◌, ℕ, ◌+◌, ◌<◌, ◌≤◌, Bool, true, false, List, [], ◌∷◌, ◌++◌, length, get_or, length-append, refl, sym, ap, subst, ◌∙◌, inl, inr, arith}
use Rattle.std.proofs.lemmas.List.{get_or-replicate, length-replicate}
use Rattle.yaml_scan_core.proofs.Words.{cases_Bool, get_or_append_left, get_or-append_right, get_or_at, Entry, Lexeme as Read, finished_tokens, first_open, history, next, Ends, SpelledText, Opens}
use Rattle.yaml_scan_model.specs.scan_types.Tokens.{Token, TokenBody, block_end, block_mapping_start, block_sequence_start, key, no_token}
use Rattle.yaml_scan_history.specs.declared.lexeme.Opens.TheVariants as opening
use Rattle.yaml_scan_history.specs.Remaining.{Remaining, before, body_in, end_tokens, own_tokens, remaining, spell, start_tokens, token_in}
use Rattle.yaml_scan_laws.specs.Fronts.{GivesFirst}
use Rattle.yaml_scan_laws.proofs.RemainingForward.{ends_token, last_comes, settled_comes}
use Rattle.yaml_scan_model.specs.declared.kind.Kind.{Kind}
use Rattle.yaml_scan_model.specs.declared.kind.Kind.TheVariants as kinds
use Rattle.yaml_scan_model.specs.Kinds.{IsOf}
use Rattle.yaml_scan_core.specs.declared.lexeme.Lexeme.{Lexeme}
use Rattle.yaml_scan_core.specs.Rows.{RowView, is_set, row_lexeme}
use Rattle.yaml_scan_core.specs.Shown.{Carries, ShowsEntry, ShowsFront, Store, end_at, entry_at, no_entry, opens_in, place_mark, store_of}
use Rattle.yaml_scan_core.specs.Handed.{TakesLead, TakesOwn, come_of, ends_in, given_in, given_of, keys_in, left_from, starts_in, tokens_in}
use Rattle.yaml_scan_core.proofs.DropsLemmas.{lead_zero}
use Rattle.yaml_scan_core.proofs.HandedLemmas.{given_is}
use Rattle.yaml_scan_core.proofs.TokensLemmas.{IsOwn, LeadKind, ShowsNext, lead_ends, lead_key, lead_kinds, lead_mapping, lead_own, lead_sequence, own_kind, own_left, own_plain}

-- ---- how many tokens a lexeme is spelled as

start_long : (x : Lexeme) (l : Read) → length (start_tokens (opens_in x) l) ≡ starts_in x
start_long x l = elim (cases_Bool (is_set 1 x)) [
  | inl a ↦ rw a refl
  | inr a ↦ elim (cases_Bool (is_set 2 x)) [
    | inl b ↦ rw (a, b) refl
    | inr b ↦ rw (a, b) refl
  ]
]

own_long : (t : SpelledText) (x : Lexeme) (e : Entry) → is_set 4 x ≡ e.key
    → length (own_tokens t e) ≡ keys_in x + 1
own_long t x e same = elim (cases_Bool e.key) [
  | inl k ↦ let set : is_set 4 x ≡ true = same ∙ k in rw (k, set) refl
  | inr k ↦ let unset : is_set 4 x ≡ false = same ∙ k in rw (k, unset) refl
]

-- how long the parts of its spelling are
record Parts (t : SpelledText) (x : Lexeme) (e : Entry) : Type 0 where
  ends : length (end_tokens e) ≡ e.ends
  start : length (start_tokens e.opens e.lexeme) ≡ starts_in x
  own : length (own_tokens t e) ≡ keys_in x + 1
  lead : length (end_tokens e ++ start_tokens e.opens e.lexeme) ≡ e.ends + starts_in x

parts : (s : Store) (t : SpelledText) (x : Lexeme) (e : Entry) → ShowsEntry s t x e → Parts t x e
parts s t x e h =
    let ends : length (end_tokens e) ≡ e.ends = length-replicate e.ends (before block_end e.lexeme) in
    let start : length (start_tokens e.opens e.lexeme) ≡ starts_in x = ap (λ o. length (start_tokens o e.lexeme)) (sym h.opens) ∙ start_long x e.lexeme in
    record {
      ends = ends;
      start = start;
      own = own_long t x e h.key;
      lead = length-append (end_tokens e) (start_tokens e.opens e.lexeme) ∙ omega (arith, ends, start);
    }

pub spell_long : (s : Store) (t : SpelledText) (x : Lexeme) (e : Entry) → ShowsEntry s t x e
    → length (spell t e) ≡ e.ends + starts_in x + keys_in x + 1
spell_long s t x e h =
    let p = parts s t x e h in
    omega (arith, length-append (end_tokens e ++ start_tokens e.opens e.lexeme) (own_tokens t e), p.lead, p.own)

left_some : (k : Kind) (x : Lexeme) → 0 < left_from k x
left_some kinds.BlockEnd x = omega arith
left_some kinds.BlockSequenceStart x = omega arith
left_some kinds.BlockMappingStart x = omega arith
left_some kinds.Key x = omega arith
left_some _ x = omega arith

pub given_less : (n : ℕ) (x : Lexeme) → given_of n x < n + starts_in x + keys_in x + 1
given_less n x = let some = left_some x.front x in omega (arith, some)

-- ---- the token that a lexeme's front means

-- It is that token: one that is before the lexeme's own, or that one, with what it carries.
pub record ShowsToken (s : Store) (t : SpelledText) (x : Lexeme) (it : Token) : Type 0 where
  pub start : place_mark s.text x.start ≡ it.start_mark
  pub lead_end : x.front ≢ x.kind → it.end_mark ≡ it.start_mark
  pub own_end : x.front ≡ x.kind → place_mark s.text (end_at s x) ≡ it.end_mark
  pub lead : x.front ≢ x.kind → IsOf x.front it.body
  pub own : x.front ≡ x.kind → Carries s t x x.kind it.body

pub lead_token : (s : Store) (t : SpelledText) (x : Lexeme) (l : Read) (b : TokenBody)
    → place_mark s.text x.start ≡ l.start → x.front ≢ x.kind → IsOf x.front b
    → ShowsToken s t x (before b l)
lead_token s t x l b start other is = record {
  start = start;
  lead_end = λ o. refl;
  own_end = λ e. absurd (other e);
  lead = λ o. is;
  own = λ e. absurd (other e);
}

own_token : (s : Store) (t : SpelledText) (x : Lexeme) (e : Entry) → ShowsEntry s t x e
    → x.front ≡ x.kind → ShowsToken s t x (token_in t e.lexeme)
own_token s t x e h own = record {
  start = h.start;
  lead_end = λ other. absurd (other own);
  own_end = λ o. h.end;
  lead = λ other. absurd (other own);
  own = λ o. h.body;
}

own_last : (t : SpelledText) (x : Lexeme) (e : Entry) → is_set 4 x ≡ e.key
    → get_or (own_tokens t e) (keys_in x) no_token ≡ token_in t e.lexeme
own_last t x e same = elim (cases_Bool e.key) [
  | inl k ↦ let set : is_set 4 x ≡ true = same ∙ k in rw (k, set) refl
  | inr k ↦ let unset : is_set 4 x ≡ false = same ∙ k in rw (k, unset) refl
]

-- the token of a number, and the parts it is in
front_end : (t : SpelledText) (e : Entry) (i : ℕ) → i < e.ends
    → get_or (spell t e) i no_token ≡ before block_end e.lexeme
front_end t e i lt =
    let a = end_tokens e in
    let b = start_tokens e.opens e.lexeme in
    let long : length a ≡ e.ends = length-replicate e.ends (before block_end e.lexeme) in
    get_or_append_left (a ++ b) (own_tokens t e) no_token i (omega (arith, lt, long, length-append a b))
    ∙ get_or_append_left a b no_token i (omega (arith, lt, long)) ∙ get_or-replicate e.ends i (before block_end e.lexeme) no_token lt

front_start : (t : SpelledText) (e : Entry) (x : Token) (o : Opens) → e.opens ≡ o
    → start_tokens o e.lexeme ≡ x ∷ [] → (i : ℕ) → i ≡ e.ends → get_or (spell t e) i no_token ≡ x
front_start t e x o opens one i at =
    let a = end_tokens e in
    let b = start_tokens e.opens e.lexeme in
    let is : b ≡ x ∷ [] = ap (λ p. start_tokens p e.lexeme) opens ∙ one in
    let long : length a ≡ i = length-replicate e.ends (before block_end e.lexeme) ∙ sym at in
    let some : length b ≡ 1 = ap (λ (ts : List Token). length ts) is in
    get_or_append_left (a ++ b) (own_tokens t e) no_token i (omega (arith, long, some, length-append a b))
    ∙ ap (λ ts. get_or (a ++ ts) i no_token) is ∙ get_or_at a x [] no_token i long

front_own : (t : SpelledText) (e : Entry) (n i k : ℕ)
    → length (end_tokens e ++ start_tokens e.opens e.lexeme) ≡ n → i ≡ n + k
    → get_or (spell t e) i no_token ≡ get_or (own_tokens t e) k no_token
front_own t e n i k long at =
    get_or-append_right (end_tokens e ++ start_tokens e.opens e.lexeme) (own_tokens t e) n i no_token long (omega (arith, at))
    ∙ ap (λ j. get_or (own_tokens t e) j no_token) (omega (arith, at))

opens_sequence : (x : Lexeme) → is_set 1 x ≡ true → opens_in x ≡ opening.Sequence
opens_sequence x a = rw a refl

opens_mapping : (x : Lexeme) → is_set 1 x ≡ false → is_set 2 x ≡ true → opens_in x ≡ opening.Mapping
opens_mapping x u a = rw (u, a) refl

key_first : (t : SpelledText) (e : Entry) → e.key ≡ true
    → get_or (own_tokens t e) 0 no_token ≡ before key e.lexeme
key_first t e k = rw k refl

-- of which the front is after as many as are taken
module _ (b : Bool) (s : Store) (t : SpelledText) (x : Lexeme) (e : Entry) (f : ShowsFront b s t x e) where
  own : IsOwn x.kind
  own = own_kind s t x x.kind (body_in t e.lexeme) f.shows.body

  abbrev at_front : ℕ
  at_front = given_of e.ends x

  none : x.front ≢ kinds.BlockEnd → x.ends ≡ 0
  none = lead_zero b x f.front

  token_by : LeadKind x → ShowsToken s t x (get_or (spell t e) at_front no_token)
  token_by (lead_ends front more) =
      let left : left_from x.front x ≡ starts_in x + keys_in x + 1 = ap (λ k. left_from k x) front in
      let is = front_end t e at_front (omega (arith, left, more, f.ends)) in
      subst (λ it. ShowsToken s t x it) (sym is)
      (lead_token s t x e.lexeme block_end f.shows.start (λ same. own.ends (sym same ∙ front)) (subst (λ k. IsOf k block_end) (sym front) refl))
  token_by (lead_sequence front set) =
      let left : left_from x.front x ≡ starts_in x + keys_in x + 1 = ap (λ k. left_from k x) front in
      let no_ends = none (λ same. (let bad = sym front ∙ same in cc)) in
      let is = front_start t e (before block_sequence_start e.lexeme) opening.Sequence (sym f.shows.opens ∙ opens_sequence x set) refl at_front (omega (arith, left, no_ends)) in
      subst (λ it. ShowsToken s t x it) (sym is)
      (lead_token s t x e.lexeme block_sequence_start f.shows.start (λ same. own.sequence (sym same ∙ front)) (subst (λ k. IsOf k block_sequence_start) (sym front) refl))
  token_by (lead_mapping front unset set) =
      let left : left_from x.front x ≡ starts_in x + keys_in x + 1 = ap (λ k. left_from k x) front in
      let no_ends = none (λ same. (let bad = sym front ∙ same in cc)) in
      let is = front_start t e (before block_mapping_start e.lexeme) opening.Mapping (sym f.shows.opens ∙ opens_mapping x unset set) refl at_front (omega (arith, left, no_ends)) in
      subst (λ it. ShowsToken s t x it) (sym is)
      (lead_token s t x e.lexeme block_mapping_start f.shows.start (λ same. own.mapping (sym same ∙ front)) (subst (λ k. IsOf k block_mapping_start) (sym front) refl))
  token_by (lead_key front set) =
      let left : left_from x.front x ≡ keys_in x + 1 = ap (λ k. left_from k x) front in
      let no_ends = none (λ same. (let bad = sym front ∙ same in cc)) in
      let p = parts s t x e f.shows in
      let other : x.front ≢ x.kind = λ same. (let unset = own_plain s t x (body_in t e.lexeme) f.shows.body (sym same ∙ front) in let bad = sym set ∙ unset in cc) in
      let is = front_own t e (e.ends + starts_in x) at_front 0 p.lead (omega (arith, left, no_ends)) ∙ key_first t e (sym f.shows.key ∙ set) in
      subst (λ it. ShowsToken s t x it) (sym is) (lead_token s t x e.lexeme key f.shows.start other (subst (λ k. IsOf k key) (sym front) refl))
  token_by (lead_own same) =
      let plain : x.kind ≡ kinds.Key → keys_in x ≡ 0 = λ k. (let unset = own_plain s t x (body_in t e.lexeme) f.shows.body k in rw unset refl) in
      let left : left_from x.front x ≡ 1 = ap (λ k. left_from k x) same ∙ own_left x.kind x own plain in
      let no_ends = none (λ end. own.ends (sym same ∙ end)) in
      let p = parts s t x e f.shows in
      let is = front_own t e (e.ends + starts_in x) at_front (keys_in x) p.lead (omega (arith, left, no_ends)) ∙ own_last t x e f.shows.key in
      subst (λ it. ShowsToken s t x it) (sym is) (own_token s t x e f.shows same)

  pub front_token : ShowsToken s t x (get_or (spell t e) (given_of e.ends x) no_token)
  front_token = token_by (lead_kinds b x f.front)

-- ---- what comes of a lexeme that is known

-- the tokens of the lexeme of that number come, one after another, and then those of the next one
abbrev pub Comes : SpelledText → ℕ → ℕ → Type 0
Comes t n k = (given : ℕ) → let x = get_or (finished_tokens (history t.text n)) k no_entry in
    (given < length (spell t x) → GivesFirst (remaining t k given) (get_or (spell t x) given no_token) (remaining t k (given + 1)))
    × (given ≡ length (spell t x) → remaining t k given ≡ remaining t (k + 1) 0)

pub settled_come : (t : SpelledText) (n k : ℕ)
    → k < first_open (history t.text n) (history t.text n) → Comes t n k
settled_come t n k low = λ given. settled_comes t n k given no_entry no_token low

pub over_come : (t : SpelledText) (n k : ℕ) → next t.text (history t.text n) ≡ Ends
    → k < length (history t.text n) → Comes t n k
over_come t n k over low = λ given. last_comes t n k given no_entry no_token over low

-- the entry of that number
abbrev pub entry_in : SpelledText → ℕ → RowView → Entry
entry_in t n r = entry_at (finished_tokens (history t.text n)) (r.dropped + r.next)

-- what is to come after the first token
abbrev pub behind_one : SpelledText → RowView → Remaining
behind_one t r = remaining t (r.dropped + r.next) (given_in t.text r + 1)

-- where a token that isn't a lexeme's own is taken
pub lead_rest : (t : SpelledText) (r q : RowView) → TakesLead t.text r q
    → come_of t q ≡ behind_one t r
lead_rest t r q k = ap (λ p. remaining t p (given_in t.text q)) k.place ∙ ap (λ g. remaining t (r.dropped + r.next) g) k.given

-- where the front shows what the history has there
module _ (t : SpelledText) (n : ℕ) (r : RowView) (w : ShowsNext t r (entry_in t n r)) (comes : Comes t n (r.dropped + r.next)) where
  long : length (spell t (entry_in t n r)) ≡ tokens_in t.text r
  long =
      let x = row_lexeme r r.next in
      spell_long (store_of t.text r) t x (entry_in t n r) w.front.shows ∙ omega (arith, w.ends)

  low : given_in t.text r < length (spell t (entry_in t n r))
  low = omega (arith, long, given_is t.text r w.some, given_less (ends_in t.text r) (row_lexeme r r.next))

  pub first_comes : GivesFirst (come_of t r) (get_or (spell t (entry_in t n r)) (given_in t.text r) no_token) (behind_one t r)
  first_comes = (comes (given_in t.text r)).0 low

  pub own_rest : (q : RowView) → TakesOwn t.text r q → come_of t q ≡ behind_one t r
  own_rest q k =
      let done = (comes (given_in t.text r + 1)).1 (k.last ∙ sym long) in
      ap (λ p. remaining t p (given_in t.text q)) k.place ∙ ap (λ g. remaining t (r.dropped + r.next + 1) g) k.given ∙ sym done

-- A BLOCK-END comes before it is known whether its lexeme is a key, or lost.
pub end_comes_first : (t : SpelledText) (n : ℕ) (r : RowView) → r.next < length r.lexemes
    → r.dropped + r.next ≤ first_open (history t.text n) (history t.text n)
    → r.dropped + r.next < length (history t.text n)
    → (row_lexeme r r.next).front ≡ kinds.BlockEnd → 0 < (row_lexeme r r.next).ends
    → (row_lexeme r r.next).ends ≤ (entry_in t n r).ends → (entry_in t n r).ends ≡ ends_in t.text r
    → GivesFirst (come_of t r) (before block_end (entry_in t n r).lexeme) (behind_one t r)
end_comes_first t n r some low inside front ends fewer known =
    let x = row_lexeme r r.next in
    let left : left_from x.front x ≡ starts_in x + keys_in x + 1 = ap (λ j. left_from j x) front in
    let less : given_in t.text r < (entry_in t n r).ends = omega (arith, given_is t.text r some, left, ends, fewer, known) in
    ends_token t n (r.dropped + r.next) (given_in t.text r) no_entry low inside less
