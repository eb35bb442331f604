-- The making of marks leaves what a parser has to come.
use Rattle.std.proofs.Common.{◌∙◌}
use Rattle.yaml_parse.proofs.Gives.{stays_seen}
use Rattle.yaml_parse.proofs.token_parser.TokenParser.marks.Goals as goal

pub returns-clause-same : goal.returns-clause-same
returns-clause-same g c =
    stays_seen g.T.Tokens c.self.inside.fault c.self.inside.parser c.marks.new.self c.marks.ensures.stays ∙ c.self.view_is
