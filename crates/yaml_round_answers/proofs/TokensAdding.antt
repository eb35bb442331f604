-- Tokens that are listed one after another.
use Rattle.std.proofs.Common.{◌≡◌, ◌∙◌, ap, sym, subst, ℕ, ◌+◌, List, [], ◌∷◌, ◌++◌, length, append_assoc, arith}
use Rattle.std.proofs.lemmas.List.{append-nil, length-append}
use Rattle.yaml_scan.specs.scan_types.Tokens.{Token}
use Rattle.yaml_scan.specs.Remaining.{Remaining}
use Rattle.yaml_scan.specs.Session.{HasFirst, first_of, others_of, behind_first}
use Rattle.yaml_round_answers.specs.declared.token_listing.TokenListing.{TokenListing}
use Rattle.yaml_round_answers.specs.TokensListed.{body_texts, record_at, records_from, all_texts, ListsTokens, Adds}

-- one more token's record, after the others
records_snoc : (n : ℕ) (ts : List Token) (t : Token)
    → records_from n (ts ++ t ∷ []) ≡ records_from n ts ++ record_at (n + length (all_texts ts)) t
    ∷ []
unfolding records_from all_texts
records_snoc n [] t = ap (λ m. record_at m t ∷ []) (omega arith)
records_snoc n (x ∷ ts) t =
    ap (λ z. record_at n x ∷ z) (records_snoc (n + length (body_texts x.body)) ts t ∙ ap (λ m. records_from (n + length (body_texts x.body)) ts ++ record_at m t ∷ []) (
    (omega (arith, length-append (body_texts x.body) (all_texts ts)))))

texts_snoc : (ts : List Token) (t : Token)
    → all_texts (ts ++ t ∷ []) ≡ all_texts ts ++ body_texts t.body
unfolding all_texts
texts_snoc [] t = append-nil (body_texts t.body)
texts_snoc (x ∷ ts) t = ap (λ z. body_texts x.body ++ z) (texts_snoc ts t) ∙ sym (append_assoc (body_texts x.body) (all_texts ts) (body_texts t.body))

-- one more token is listed
pub lists_on : (old new : TokenListing) (ts : List Token) (t : Token) → ListsTokens ts old
    → Adds old t new → ListsTokens (ts ++ t ∷ []) new
lists_on old new ts t l a = record {
  tokens = a.tokens ∙ ap (λ z. z ++ record_at (length old.bytes.items) t ∷ []) l.tokens
      ∙ ap (λ b. records_from 0 ts ++ record_at (length b) t ∷ []) l.bytes ∙ sym (records_snoc 0 ts t ∙ ap (λ m. records_from 0 ts ++ record_at m t ∷ []) (omega arith));
  bytes = a.bytes ∙ ap (λ z. z ++ body_texts t.body) l.bytes ∙ sym (texts_snoc ts t);
}

-- ---- a session's tokens

-- the tokens that were taken are listed, and the others follow
pub record Listed (start now : Remaining) (l : TokenListing) : Type 0 where
  pub given : List Token
  pub split : start.tokens ≡ given ++ now.tokens
  pub fault : now.fault ≡ start.fault
  pub lists : ListsTokens given l

moved : (all given ts : List Token) → HasFirst ts → all ≡ given ++ ts
    → all ≡ (given ++ first_of ts ∷ []) ++ others_of ts
moved all given [] h e = absurd h
moved all given (t ∷ ts) h e = e ∙ sym (append_assoc given (t ∷ []) ts)

one_more : (start now next : Remaining) (old new : TokenListing) → Listed start now old
    → HasFirst now.tokens
    → Adds old (first_of now.tokens) new × (next ≡ behind_first now) → Listed start next new
one_more start now next old new l h a = record {
  given = l.given ++ first_of now.tokens ∷ [];
  split = subst (λ (c : Remaining). start.tokens ≡ (l.given ++ first_of now.tokens ∷ []) ++ c.tokens) (sym a.1)
      (moved start.tokens l.given now.tokens h l.split);
  fault = ap (λ (c : Remaining). c.fault) a.1 ∙ l.fault;
  lists = lists_on old new l.given (first_of now.tokens) l.lists a.0;
}

-- one more token is listed, of a session that was looked at
pub one_listed : (start now peeked next : Remaining) (old new : TokenListing) → Listed start now old
    → peeked ≡ now → HasFirst peeked.tokens
    → Adds old (first_of peeked.tokens) new × (next ≡ behind_first peeked) → Listed start next new
one_listed start now peeked next old new l same h a =
    one_more start peeked next old new (subst (λ c. Listed start c old) (sym same) l) h a
