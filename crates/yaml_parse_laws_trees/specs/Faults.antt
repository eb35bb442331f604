-- The fault that loading a list of tokens ends in: the one of the least place, of the parser's and of the aliases'.
use Rattle.std.specs.Prelude.{◌≡◌, ◌⊎◌, ℕ, ◌<◌, List, [], ◌∷◌, length, Option, Some, None}
use Rattle.yaml_parse_model.specs.scan_types.Tokens.{Token}
use Rattle.yaml_parse_model.specs.scan_types.Faults.{Fault}
use Rattle.yaml_parse_laws_trees.specs.parse_grammar.Trees.{spell}
use Rattle.yaml_parse_laws_trees.specs.LookBack.{followed_by}
use Rattle.yaml_parse_laws_trees.specs.Places.{Rank, RanksBefore, FaultAt, BeginsWithSentence, with_end}
use Rattle.yaml_parse_laws_trees.specs.Aliases.{alias_fault}

-- ---- places

-- At a token what the parser finds wrong comes first, then that the token is an alias without an anchor.
pub data LoadRank : Type 0 where
  of_parser : Rank → LoadRank
  of_alias : LoadRank

-- how many tokens are before a token, and a rank
pub record LoadPlace : Type 0 where
  pub number : ℕ
  pub rank : LoadRank

abbrev pub LoadRanksBefore : LoadRank → LoadRank → Type 0
LoadRanksBefore (of_parser r) (of_parser q) = RanksBefore r q
LoadRanksBefore (of_parser r) of_alias = Unit {0}
LoadRanksBefore of_alias q = ⊥

abbrev pub LoadsBefore : LoadPlace → LoadPlace → Type 0
LoadsBefore p q = (p.number < q.number)
    ⊎ ((p.number ≡ q.number) × LoadRanksBefore p.rank q.rank)

-- ---- which faults are in a list

abbrev pub LoadFaultAt : List Token → Token → LoadRank → Fault → Type 0
LoadFaultAt past t (of_parser r) e = FaultAt past t r e
LoadFaultAt past t of_alias e = alias_fault past t.body t.start_mark ≡ Some e

-- the fault is in the list, at that place
pub record LoadStandsIn (ts : List Token) (p : LoadPlace) (e : Fault) : Type 0 where
  pub past : List Token
  pub token : Token
  pub behind : List Token
  pub list : ts ≡ followed_by past (token ∷ behind)
  pub number : length past ≡ p.number
  pub fault : LoadFaultAt past token p.rank e

-- of the faults that are in the list, the one of the least place
pub record IsFirstIn (ts : List Token) (e : Fault) : Type 0 where
  pub place : LoadPlace
  pub stands : LoadStandsIn ts place e
  pub least : (p : LoadPlace) (f : Fault) → LoadStandsIn ts p f → LoadsBefore p place → ⊥

abbrev pub IsLoadable : List Token → Type 0
IsLoadable ts = (p : LoadPlace) (e : Fault) → LoadStandsIn ts p e → ⊥

-- ---- the fault of a list

-- the first fault that is in the tokens, if any
abbrev pub FirstOf : List Token → Option Fault → Type 0
FirstOf ts None = IsLoadable ts
FirstOf ts (Some e) = IsFirstIn ts e

-- the list begins with a sentence, and what is in that counts
pub record LoadsSentence (ts : List Token) (fault : Option Fault) : Type 0 where
  pub sentence : BeginsWithSentence ts
  pub first : FirstOf (spell sentence.tree []) fault

-- the list's own fault, where no other is in it
pub record IsLoadOwn (ts : List Token) (own : Option Fault) (e : Fault) : Type 0 where
  pub same : own ≡ Some e
  pub free : IsLoadable ts

-- the list begins with no sentence
pub record LoadsUnfinished (ts : List Token) (own : Option Fault) (e : Fault) : Type 0 where
  pub unfinished : BeginsWithSentence ts → ⊥
  pub fault : IsFirstIn (with_end own ts) e ⊎ IsLoadOwn ts own e

-- The fault that loading ends in, of a list of tokens that ends in a fault of its own, or in none.
-- Of a list that begins with a sentence it is the first that is in this: an alias without an anchor.
-- Of another it is the one of the least place in the list, and where there is none, the list's own.
abbrev pub FaultOfLoading : List Token → Option Fault → Option Fault → Type 0
FaultOfLoading ts own None = LoadsSentence ts None
FaultOfLoading ts own (Some e) = LoadsSentence ts (Some e) ⊎ LoadsUnfinished ts own e
