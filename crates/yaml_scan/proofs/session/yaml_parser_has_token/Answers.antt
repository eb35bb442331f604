use Rattle.std.proofs.Common.{ap, not, sym, ◌∙◌}
use Rattle.yaml_scan.proofs.ReadingLemmas.{first_comes, settled_is}
use Rattle.yaml_scan.proofs.session.yaml_parser_has_token.Goals as goal

pub returns : goal.returns
returns c =
    let r = c.parser.inside.reading in
    let known = ap not c.is_empty.ensures in
    record {
      settled = rw (← c.parser.view_is) (known ∙ settled_is r c.parser.invariant);
      first = λ is. rw (← c.parser.view_is) (first_comes r c.parser.invariant (sym known ∙ is));
    }
