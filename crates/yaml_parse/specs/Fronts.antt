-- What comes of a list of tokens that begins with those of no tree.
use Rattle.std.specs.Prelude.{◌≡◌, List, [], ◌++◌, None}
use Rattle.yaml_scan_model.specs.scan_types.Tokens.{Token}
use Rattle.yaml_parse_grammar.specs.Trees.{Stream, spell}
use Rattle.yaml_parse_grammar.specs.TreeEvents.{given_of}
use Rattle.yaml_parse_grammar.specs.Resolve.{Told, reading, no_directives}
use Rattle.yaml_parse_laws_trees.specs.SoundLaws.{told, BeginsWithEvents}
use Rattle.yaml_parse_laws_trees.specs.Given.{IsLongest}

-- The events begin those of a tree that goes on with the longest front of the tokens with which one does.
pub record BeginsTree (ts : List Token) (events : List Told) : Type 0 where
  pub front : List Token
  pub behind : List Token
  pub list : ts ≡ front ++ behind
  pub longest : IsLongest front behind
  pub tree : Stream
  pub more : List Token
  pub same : front ++ more ≡ spell tree []
  pub begins : BeginsWithEvents (told events)
      (told (reading (given_of tree 0) None no_directives).events)
