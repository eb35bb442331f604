-- The events of a list of tokens, said of trees: those that come before its fault too.
use Rattle.std.specs.Prelude.{◌≡◌, ℕ, ◌+◌, ◌-◌, nat_le, Bool, true, false, if◌then◌else◌, ◌||◌, List, [], ◌∷◌, ◌++◌, length, Option, Some, None}
use Rattle.yaml_parse_laws_trees.specs.parse_grammar.parse_model.declared.yaml_mark_t.{yaml_mark_t}
use Rattle.yaml_parse_model.specs.scan_types.Tokens.{Token, TokenBody}
use Rattle.yaml_parse_model.specs.scan_types.Tokens as token
use Rattle.yaml_parse_model.specs.scan_types.Faults.{Fault}
use Rattle.yaml_parse_laws_trees.specs.parse_grammar.Trees.{Stream, spell, Given, next}
use Rattle.yaml_parse_laws_trees.specs.parse_grammar.TreeEvents.{given_of}
use Rattle.yaml_parse_laws_trees.specs.parse_grammar.Resolve.{Told, reading, no_directives}
use Rattle.yaml_parse_laws_trees.specs.SoundLaws.{GoesOn, BeginsWithTree}
use Rattle.yaml_parse_laws_trees.specs.LookBack.{asks_for_node, is_directive}

-- ---- the longest front

-- no tree goes on with one token more
abbrev pub IsLongest : List Token → List Token → Type 0
IsLongest front [] = Unit {0}
IsLongest front (t ∷ ts) = GoesOn (front ++ t ∷ []) → ⊥

-- A tree that goes on with the longest front of the tokens with which one does; it has tokens of its own after that.
pub record LongestFront (ts : List Token) : Type 0 where
  pub front : List Token
  pub behind : List Token
  pub list : ts ≡ front ++ behind
  pub longest : IsLongest front behind
  pub tree : Stream
  pub more : List Token
  pub same : front ++ more ≡ spell tree []

-- ---- what is given

-- The first events of a tree, up to one that is given with fewer tokens unasked for than that many. The tree has that many tokens after the
-- front, and the list that many: of those it is counted how many are unasked for.
abbrev pub first_items : ℕ → ℕ → ℕ → List Given → List Given
first_items fewest more behind [] = []
first_items fewest more behind (g ∷ gs) =
    if nat_le fewest g.1
    then (g.0, (g.1 + behind) - more) ∷ first_items fewest more behind gs
    else []

-- what they mean, up to the first fault of a directive or of a tag handle
abbrev pub events_of : List Given → List Told
events_of gs = (reading gs None no_directives).events

-- What a tree gives with no token asked for after the front.
abbrev pub events_of_front : {ts : List Token} → LongestFront ts → List Told
events_of_front l = events_of
    (first_items (length l.more) (length l.more) (length l.behind) (given_of l.tree 0))

abbrev pub but_last : List Given → List Given
but_last [] = []
but_last (g ∷ []) = []
but_last (g ∷ h ∷ gs) = g ∷ but_last (h ∷ gs)

-- What a tree gives with one token asked for after the front, except for the last of it.
abbrev pub events_at_next : {ts : List Token} → LongestFront ts → List Told
events_at_next l = events_of
    (but_last (first_items (length l.more - 1) (length l.more) (length l.behind)
    (given_of l.tree 0)))

-- ---- where the first token after the front gives something though no tree goes on with it

-- it ends a collection or the stream, and gives that end: one event of its own, the last that comes with it
abbrev pub is_end : TokenBody → Bool
is_end token.block_end = true
is_end token.flow_sequence_end = true
is_end token.flow_mapping_end = true
is_end token.stream_end = true
is_end _ = false

-- such a token is first, and begins at that mark
abbrev pub EndsAt : yaml_mark_t → List Token → Type 0
EndsAt at [] = ⊥
EndsAt at (t ∷ ts) = (is_end t.body ≡ true) × (t.start_mark ≡ at)

-- After the token a node may come or be left out, or a document must come: so far nothing is given
-- by what doesn't fit.
abbrev pub leaves_open : TokenBody → Bool
leaves_open b = asks_for_node b || is_directive b

-- whether the last of the tokens leaves that open, and where there is none, what is before
abbrev pub last_leaves_open : Bool → List Token → Bool
last_leaves_open before [] = before
last_leaves_open before (t ∷ ts) = last_leaves_open (leaves_open t.body) ts

-- the source's own fault is there, in a token's place
abbrev pub has_fault : List Token → Option Fault → Bool
has_fault [] (Some own) = true
has_fault _ _ = false

-- nothing is given after the front
abbrev pub gives_no_more : {ts : List Token} → LongestFront ts → Option Fault → Bool
gives_no_more l own = last_leaves_open true l.front || has_fault l.behind own

abbrev pub GivesAt : {ts : List Token} → Bool → LongestFront ts → List Told → Type 0
GivesAt true l events = events ≡ events_of_front l
GivesAt false l events = EndsAt (next l.behind) l.more → events ≡ events_at_next l

-- The events of tokens that don't begin with those of a tree: what every tree gives that goes on with their longest front, with
-- no token asked for after it. Where the token after the front, or the list's end, is looked at and a node is whole by then,
-- they are what every tree gives that has a token in its place which ends something, except for that end.
abbrev pub GivesFront : List Token → Option Fault → List Told → Type 0
GivesFront ts own events = (l : LongestFront ts) → GivesAt (gives_no_more l own) l events

-- events that begin with others
pub record BeginsWith (first events : List Told) : Type 0 where
  pub others : List Told
  pub same : events ≡ first ++ others

-- Each event comes that a tree gives with no token asked for after the front.
abbrev pub GivesLeast : List Token → List Told → Type 0
GivesLeast ts events = (l : LongestFront ts) → BeginsWith (events_of_front l) events

-- ---- the events of a list

-- Those of the tree with whose tokens it begins, or else those of its longest front.
pub record EventsOfTokens (ts : List Token) (own : Option Fault) (events : List Told) : Type 0 where
  pub tree : (t : Stream) (rest : List Token) → ts ≡ spell t rest
      → events ≡ (reading (given_of t (length rest)) None no_directives).events
  pub front : (BeginsWithTree ts → ⊥) → GivesFront ts own events
