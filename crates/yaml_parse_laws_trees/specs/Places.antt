-- The fault of a list of tokens: the one of the least place.
use Rattle.std.specs.Prelude.{◌≡◌, ◌⊎◌, ℕ, suc, ◌<◌, ◌-◌, List, [], ◌∷◌, ◌++◌, length, Option, Some, None}
use Rattle.yaml_parse_model.specs.scan_types.Tokens.{Token, no_token}
use Rattle.yaml_parse_model.specs.scan_types.Faults.{Fault}
use Rattle.yaml_parse_laws_trees.specs.parse_grammar.Trees.{Stream, spell}
use Rattle.yaml_parse_laws_trees.specs.SoundLaws.{GoesOn}
use Rattle.yaml_parse_laws_trees.specs.LookBack.{followed_by}
use Rattle.yaml_parse_laws_trees.specs.Wrong.{grammar_fault, directive_fault, handle_fault}

-- ---- places

-- At a token the fault of a handle comes first: the node before the token has it.
-- Then comes the token's own.
pub data Rank : Type 0 where
  of_handle : Rank
  of_token : Rank

-- how many tokens are before a token, and a rank
pub record FaultPlace : Type 0 where
  pub number : ℕ
  pub rank : Rank

abbrev pub RanksBefore : Rank → Rank → Type 0
RanksBefore of_handle of_token = Unit {0}
RanksBefore _ _ = ⊥

abbrev pub ComesBefore : FaultPlace → FaultPlace → Type 0
ComesBefore p q = (p.number < q.number) ⊎ ((p.number ≡ q.number) × RanksBefore p.rank q.rank)

-- ---- which faults are in a list

-- No tree goes on with the token, or one does, and the token is a directive that isn't in order.
pub data WrongToken (past : List Token) (t : Token) (e : Fault) : Type 0 where
  grammar : (GoesOn (followed_by past (t ∷ [])) → ⊥) → e ≡ grammar_fault past t.start_mark
      → WrongToken past t e
  directive : GoesOn (followed_by past (t ∷ []))
      → directive_fault past t.body t.start_mark ≡ Some e → WrongToken past t e

abbrev pub FaultAt : List Token → Token → Rank → Fault → Type 0
FaultAt past t of_handle e = handle_fault past t.body ≡ Some e
FaultAt past t of_token e = WrongToken past t e

-- the fault is in the list, at that place
pub record StandsIn (ts : List Token) (p : FaultPlace) (e : Fault) : Type 0 where
  pub past : List Token
  pub token : Token
  pub behind : List Token
  pub list : ts ≡ followed_by past (token ∷ behind)
  pub number : length past ≡ p.number
  pub fault : FaultAt past token p.rank e

-- of the faults that are at places, the one of the least place
pub record IsOfLeastPlace (Stands : FaultPlace → Fault → Type 0) (e : Fault) : Type 0 where
  pub place : FaultPlace
  pub stands : Stands place e
  pub least : (p : FaultPlace) (f : Fault) → Stands p f → ComesBefore p place → ⊥

abbrev pub IsFree : List Token → Type 0
IsFree ts = (p : FaultPlace) (e : Fault) → StandsIn ts p e → ⊥

-- ---- the fault of a list

-- The list begins with a sentence: the tokens of a tree without a fault.
pub record BeginsWithSentence (ts : List Token) : Type 0 where
  pub tree : Stream
  pub rest : List Token
  pub same : ts ≡ spell tree [] ++ rest
  pub free : IsFree (spell tree [])

-- A list without a fault of its own ends in the empty token.
abbrev pub with_end : Option Fault → List Token → List Token
with_end None ts = ts ++ no_token ∷ []
with_end (Some own) ts = ts

-- the list's own fault, where no other is in it
pub record IsOwn (ts : List Token) (own : Option Fault) (e : Fault) : Type 0 where
  pub same : own ≡ Some e
  pub free : IsFree ts

pub record TokensAreRefused (ts : List Token) (own : Option Fault) (e : Fault) : Type 0 where
  pub unfinished : BeginsWithSentence ts → ⊥
  pub fault : IsOfLeastPlace (StandsIn (with_end own ts)) e ⊎ IsOwn ts own e

-- The fault of a list of tokens that ends in a fault of its own, or in none.
-- A list that begins with a sentence has no fault.
-- Another has the one of the least place in it, and where there is none, its own.
abbrev pub FaultOfTokens : List Token → Option Fault → Option Fault → Type 0
FaultOfTokens ts own None = BeginsWithSentence ts
FaultOfTokens ts own (Some e) = TokensAreRefused ts own e

-- ---- the tokens that are asked for

-- The fault is reported as its place is reached: the tokens after that place aren't asked for.
pub record IsToldAtPlace (ts : List Token) (own : Option Fault) (e : Fault)
    (unasked : ℕ) : Type 0 where
  pub first : IsOfLeastPlace (StandsIn (with_end own ts)) e
  pub behind : unasked ≡ length ts - suc first.place.number

-- How many of a list's tokens are not asked for as its fault is reported; for a fault of its own all are.
abbrev pub IsToldWith : List Token → Option Fault → Fault → ℕ → Type 0
IsToldWith ts own e unasked = IsToldAtPlace ts own e unasked ⊎ (IsOwn ts own e × (unasked ≡ 0))
