-- What each lexeme carries, each token that is handed out says.
use Rattle.std.proofs.Common.{ℕ, zero, suc, ◌+◌, List, [], ◌∷◌, ◌++◌, length, take, drop, replicate, Option, Some, None, inl, inr, flat_map}
use Rattle.yaml_scan_laws.proofs.TextWords.{cases_Bool, Token, block_end, block_sequence_start, block_mapping_start, key, TokenBody, is_value, Candidate, first_open, found_by, inside, entry_of, mark_key, marked, keyed, finished_tokens, Next, Read, Fails, Ends, next, history, SpelledText, body_in, before, start_tokens, end_tokens, own_tokens, spell, all, handed_out, handed, front_ends, kept_of, remaining}
use Rattle.yaml_scan_history.specs.declared.Lexeme.{Lexeme}
use Rattle.yaml_scan_history.specs.declared.Entry.{Entry}
use Rattle.yaml_scan_history.specs.declared.Opens.{Opens}
use Rattle.yaml_scan_history.specs.declared.Opens.TheVariants as opening

-- each of the lexemes carries so
abbrev pub Carry : (TokenBody → Type 0) → SpelledText → List Lexeme → Type 0
Carry Q s [] = Unit {0}
Carry Q s (l ∷ h) = Q (body_in s l) × Carry Q s h

-- each of the tokens says so
abbrev pub Say : (TokenBody → Type 0) → List Token → Type 0
Say Q [] = Unit {0}
Say Q (t ∷ ts) = Q t.body × Say Q ts

abbrev Has : (TokenBody → Type 0) → SpelledText → List Entry → Type 0
Has Q s [] = Unit {0}
Has Q s (e ∷ es) = Q (body_in s e.lexeme) × Has Q s es

module _ (Q : TokenBody → Type 0) (s : SpelledText) where
  has_append : (xs ys : List Entry) → Has Q s xs → Has Q s ys → Has Q s (xs ++ ys)
  has_append [] ys a b = b
  has_append (x ∷ xs) ys (a, rest) b = (a, has_append xs ys rest b)

  has_take : (n : ℕ) (xs : List Entry) → Has Q s xs → Has Q s (take n xs)
  has_take zero xs a = tt
  has_take (suc n) [] a = tt
  has_take (suc n) (x ∷ xs) (a, rest) = (a, has_take n xs rest)

  has_drop : (n : ℕ) (xs : List Entry) → Has Q s xs → Has Q s (drop n xs)
  has_drop zero xs a = a
  has_drop (suc n) [] a = tt
  has_drop (suc n) (x ∷ xs) (a, rest) = has_drop n xs rest

  key_has : (levels : List ℕ) (es : List Entry) (n : ℕ) → Has Q s es → Has Q s (mark_key levels es n)
  unfolding mark_key
  key_has levels [] n a = tt
  key_has levels (e ∷ es) zero a = a
  key_has levels (e ∷ es) (suc n) (a, rest) = (a, key_has levels es n rest)

  marked_has : (o : Option Candidate) (levels : List ℕ) (es : List Entry) → Has Q s es
      → Has Q s (marked o levels es)
  marked_has None levels es a = a
  marked_has (Some c) levels es a = key_has levels es c.number a

  keyed_has : (l : Lexeme) (h : List Lexeme) (es : List Entry) → Has Q s es → Has Q s (keyed l h es)
  keyed_has l h es a =
      elim (cases_Bool (is_value l.kind)) [
        | inl e ↦ rw e (marked_has (found_by l h) (inside l h) es a)
        | inr e ↦ rw e a
      ]

  entries_have : (h : List Lexeme) → Carry Q s h → Has Q s (finished_tokens h)
  unfolding finished_tokens
  entries_have [] c = tt
  entries_have (l ∷ h) (c, cs) = has_append (keyed l h (finished_tokens h)) (entry_of l h ∷ []) (keyed_has l h (finished_tokens h) (entries_have h cs)) (c, tt)

  handed_has : (x : Next) (h : List Lexeme) → Carry Q s h → Has Q s (handed_out x h)
  handed_has (Fails p) h c = has_take (first_open h h) (finished_tokens h) (entries_have h c)
  handed_has Ends h c = entries_have h c
  handed_has (Read l) h c = entries_have h c

-- so do the tokens that carry nothing
pub record IsBare (Q : TokenBody → Type 0) : Type 0 where
  pub end : Q block_end
  pub sequence : Q block_sequence_start
  pub mapping : Q block_mapping_start
  pub key_mark : Q key

module _ (Q : TokenBody → Type 0) where
  say_append : (xs ys : List Token) → Say Q xs → Say Q ys → Say Q (xs ++ ys)
  say_append [] ys a b = b
  say_append (x ∷ xs) ys (own, a) b = (own, say_append xs ys a b)

  say_drop : (n : ℕ) (ts : List Token) → Say Q ts → Say Q (drop n ts)
  say_drop zero ts h = h
  say_drop (suc n) [] h = tt
  say_drop (suc n) (t ∷ ts) (own, h) = say_drop n ts h

  say_replicate : (n : ℕ) (t : Token) → Q t.body → Say Q (replicate n t)
  say_replicate zero t h = tt
  say_replicate (suc n) t h = (h, say_replicate n t h)

module _ (Q : TokenBody → Type 0) (s : SpelledText) (bare : IsBare Q) where
  ends_say : (e : Entry) → Say Q (end_tokens e)
  ends_say e = say_replicate Q e.ends (before block_end e.lexeme) bare.end

  starts_say : (o : Opens) (l : Lexeme) → Say Q (start_tokens o l)
  starts_say opening.Nothing l = tt
  starts_say opening.Sequence l = (bare.sequence, tt)
  starts_say opening.Mapping l = (bare.mapping, tt)

  own_says : (e : Entry) → Q (body_in s e.lexeme) → Say Q (own_tokens s e)
  own_says e own =
      elim (cases_Bool e.key) [
        | inl k ↦ rw k (bare.key_mark, (own, tt))
        | inr k ↦ rw k (own, tt)
      ]

  spelled_say : (es : List Entry) → Has Q s es → Say Q (flat_map (spell s) es)
  spelled_say [] a = tt
  spelled_say (e ∷ es) (own, a) =
      say_append Q (spell s e) (flat_map (spell s) es) (say_append Q (end_tokens e ++ start_tokens e.opens e.lexeme) (own_tokens s e)
      (say_append Q (end_tokens e) (start_tokens e.opens e.lexeme) (ends_say e) (starts_say e.opens e.lexeme)) (own_says e own)) (spelled_say es a)

  front_says : (es : List Entry) → Say Q (front_ends es)
  front_says [] = tt
  front_says (e ∷ es) = ends_say e

  kept_says : (x : Next) (h : List Lexeme) → Say Q (kept_of x h)
  kept_says (Fails p) h = front_says (drop (first_open h h) (finished_tokens h))
  kept_says Ends h = tt
  kept_says (Read l) h = tt

  -- what is still to come
  pub remaining_says : ((n : ℕ) → Carry Q s (history s.text n)) → (dropped given : ℕ)
      → Say Q (remaining s dropped given).tokens
  unfolding remaining handed all
  remaining_says carry dropped given =
      let h = history s.text (length s.text + 2) in
      let x = next s.text h in
      let es = handed_has Q s x h (carry (length s.text + 2)) in
      say_drop Q given _ (say_append Q (flat_map (spell s) (drop dropped (handed_out x h))) (kept_of x h)
      (spelled_say (drop dropped (handed_out x h)) (has_drop Q s dropped (handed_out x h) es)) (kept_says x h))
