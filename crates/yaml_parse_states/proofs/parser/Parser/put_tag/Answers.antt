use Rattle.std.proofs.Common.{rules}
use Rattle.yaml_parse_states.proofs.TextsKept.{put_utf8}
use Rattle.yaml_parse_states.proofs.parser.Parser.put_tag.Goals as goal

pub returns-in_ok-extend_from_slice-in-Some-clause-utf8 :
    goal.returns-in_ok-extend_from_slice-in-Some-clause-utf8
returns-in_ok-extend_from_slice-in-Some-clause-utf8 g c =
    let p = c.args.self.now in
    let u = g.T.Tokens.texts p.tokens in
    put_utf8 c.extend_from_slice-in-Some.result p.directives.tags u.handle c.in-Some.prefix.now u.suffix c.clear.new.self.items c.extend_from_slice.new.self.items c.extend_from_slice-in-Some.new.self.items
    (search rules) c.clear.ensures.items c.in_ok-extend_from_slice-in-Some.ensures.items (search rules)
