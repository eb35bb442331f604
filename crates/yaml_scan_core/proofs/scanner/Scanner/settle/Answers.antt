use Rattle.std.proofs.Common.{◌∙◌, sym, subst}
use Rattle.yaml_scan_core.specs.Candidates.{AreStale, stack_of}
use Rattle.yaml_scan_core.proofs.SettlesLemmas.{tells, told_late, settled_none, settled_some, stale_there}
use Rattle.yaml_scan_core.proofs.scanner.Scanner.settle.Goals as goal
use Rattle.yaml_scan_core.proofs.scanner.Scanner.settle.Goals.{in-Some, in-None}

pub overflow_sub-self : goal.overflow_sub-self
overflow_sub-self c =
    let (n, m) = c.requires in
    let s = c.args.self.now in
    let e = c.earliest.ensures in
    let told = tells s c.args.at c.args.line n (stack_of c.earliest.new.self) c.earliest.result m e.same e.few (e.stale s.text.now m.begins (stale_there s c.args.at c.args.line n m)) (e.value s.text.now m.begins) e.last in
    told_late s n c.in-Some.number c.earliest.result c.in-Some.is told m.dropped

pub returns-clause-settled : goal.returns-clause-settled
returns-clause-settled c = λ n m.
    let s = c.args.self.now in
    let e = c.earliest.ensures in
    let told = tells s c.args.at c.args.line n (stack_of c.earliest.new.self) c.earliest.result m e.same e.few (e.stale s.text.now m.begins (stale_there s c.args.at c.args.line n m)) (e.value s.text.now m.begins) e.last in
    record {
      first = elim c.match-earliest.branch [
        | in-Some w ↦ settled_some s n w.in-Some.number c.match-earliest.self c.earliest.result w.in-Some.is told m.dropped w.self-is
        | in-None w ↦ settled_none s n c.match-earliest.self c.earliest.result w.in-None.is told (w.self-is ∙ w.len-self.ensures ∙ c.args.self.now.row.lexemes.ok.0)
      ];
      few = e.few;
      stale = subst (λ q. AreStale s.text.now (stack_of c.earliest.new.self) q) (sym m.mark) (e.stale s.text.now m.begins (stale_there s c.args.at c.args.line n m));
    }
