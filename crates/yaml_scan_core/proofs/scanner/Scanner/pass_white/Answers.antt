use Rattle.std.proofs.Common.{rules, subst}
use Rattle.yaml_scan_core.specs.Scanning.{MayBreak}
use Rattle.yaml_scan_core.proofs.GapsLemmas.{Other, one_calm}
use Rattle.yaml_scan_core.proofs.scanner.Scanner.pass_white.Goals as goal

pub pass_break-requires-clause-byte : goal.pass_break-requires-clause-byte
pass_break-requires-clause-byte c = subst (λ b. MayBreak b) c.byte.ensures c.in-10.is

pub returns-in_default : goal.returns-in_default
returns-in_default c =
    let other : Other c.byte.result = search rules in
    one_calm c.args.self.now c.byte.result c.requires.place c.byte.ensures other
