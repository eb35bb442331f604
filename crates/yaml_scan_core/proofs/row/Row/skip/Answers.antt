use Rattle.std.proofs.Common.{◌≡◌, ◌∙◌, false, ap, sym}
use Rattle.yaml_scan_core.specs.Rows.{row_lexeme, may_lead, row_of}
use Rattle.yaml_scan_core.proofs.DropsLemmas.{shown_own}
use Rattle.yaml_scan_core.proofs.TokensLemmas.{no_end}
use Rattle.yaml_scan_core.proofs.row.Row.skip.Goals as goal

pub returns-clause-lead : goal.returns-clause-lead
returns-clause-lead c = λ other. absurd (other (c.requires.own (sym c.may_lead.ensures ∙ c.if-may_lead.false)))

pub returns-clause-shows : goal.returns-clause-shows
returns-clause-shows c = λ t es h ready.
    let r = row_of c.args.self.now in
    let no_lead : may_lead (row_lexeme r r.next).front ≡ false = ap may_lead (sym c.requires.kind) ∙ sym c.may_lead.ensures ∙ c.if-may_lead.false in
    shown_own t r es (ready (no_end (row_lexeme r r.next).front no_lead)) h
