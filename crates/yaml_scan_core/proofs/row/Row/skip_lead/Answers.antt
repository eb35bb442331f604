use Rattle.std.proofs.Common.{arith, ◌≡◌, ◌-◌, subst, slice_set}
use Rattle.std.proofs.lemmas.Grind.{common_steps}
use Rattle.yaml_scan_core.specs.declared.lexeme.Lexeme.{Lexeme}
use Rattle.yaml_scan_core.specs.Rows.{RowView, led, row_of}
use Rattle.yaml_scan_core.specs.Shown.{ShowsRow}
use Rattle.yaml_scan_core.proofs.DropsLemmas.{shown_led}
use Rattle.yaml_scan_core.proofs.row.Row.skip_lead.Goals as goal

pub returns-then-eq-2-clause-shows : goal.returns-then-eq-2-clause-shows
returns-then-eq-2-clause-shows c = λ t es h ready.
    let old : RowView = row_of c.args.self.now in
    let x : Lexeme = record c.index_mut-lexeme.result.now { ends = c.index_mut-lexeme.result.now.ends - 1; front = c.first-lexeme.result } in
    let is : led old ≡ record old { lexemes = slice_set old.lexemes old.next x } = grind (arith, common_steps) in
    subst (λ (r : RowView). ShowsRow t r es) is (shown_led t old es c.requires.some ready h)

pub returns-else-eq-3-clause-shows : goal.returns-else-eq-3-clause-shows
returns-else-eq-3-clause-shows c = λ t es h ready.
    let old : RowView = row_of c.args.self.now in
    let x : Lexeme = record c.index_mut-lexeme.result.now { front = c.behind_start-lexeme.result } in
    let is : led old ≡ record old { lexemes = slice_set old.lexemes old.next x } = grind (arith, common_steps) in
    subst (λ (r : RowView). ShowsRow t r es) is (shown_led t old es c.requires.some ready h)
