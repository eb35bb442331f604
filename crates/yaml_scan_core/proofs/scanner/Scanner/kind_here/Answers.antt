use Rattle.std.proofs.Common.{◌≡◌, ◌∙◌, Bool, Some, ltb, eqb, not, ap, arith, refl, subst, sym}
use Rattle.std.specs.Bool.{then_some}
use Rattle.yaml_scan_history.specs.declared.kind.Kind.TheVariants as reads
use Rattle.yaml_scan_core.proofs.Words.{Kind, column_at, indicator_of, inner, stack_of}
use Rattle.yaml_scan_core.specs.declared.scanner.Scanner.{Scanner}
use Rattle.yaml_scan_core.proofs.FirstLemmas.{Breaks, Shut, bar_at, break_at, colon_at, end_at, greater_at, none_at, percent_at, question_at, shows}
use Rattle.yaml_scan_core.proofs.scanner.Scanner.kind_here.Goals as goal

abbrev flow_of : Scanner → Bool
flow_of s = ltb 0 (inner (stack_of s.keys))

pub returns-in-0 : goal.returns-in-0
returns-in-0 c =
    let s = c.args.self.now in
    sym (end_at (flow_of s) s.text.now s.at (sym c.byte.ensures ∙ c.in-0.is))

pub returns-in-91 : goal.returns-in-91
unfolding indicator_of
returns-in-91 c =
    let s = c.args.self.now in
    shows (flow_of s) s.text.now s.at c.byte.result 91 reads.FlowSequenceStart c.byte.ensures c.in-91.is refl

pub returns-in-123 : goal.returns-in-123
unfolding indicator_of
returns-in-123 c =
    let s = c.args.self.now in
    shows (flow_of s) s.text.now s.at c.byte.result 123 reads.FlowMappingStart c.byte.ensures c.in-123.is refl

pub returns-in-93 : goal.returns-in-93
unfolding indicator_of
returns-in-93 c =
    let s = c.args.self.now in
    shows (flow_of s) s.text.now s.at c.byte.result 93 reads.FlowSequenceEnd c.byte.ensures c.in-93.is refl

pub returns-in-125 : goal.returns-in-125
unfolding indicator_of
returns-in-125 c =
    let s = c.args.self.now in
    shows (flow_of s) s.text.now s.at c.byte.result 125 reads.FlowMappingEnd c.byte.ensures c.in-125.is refl

pub returns-in-44 : goal.returns-in-44
unfolding indicator_of
returns-in-44 c =
    let s = c.args.self.now in
    shows (flow_of s) s.text.now s.at c.byte.result 44 reads.FlowEntry c.byte.ensures c.in-44.is refl

pub returns-in-42 : goal.returns-in-42
unfolding indicator_of
returns-in-42 c =
    let s = c.args.self.now in
    shows (flow_of s) s.text.now s.at c.byte.result 42 reads.Alias c.byte.ensures c.in-42.is refl

pub returns-in-38 : goal.returns-in-38
unfolding indicator_of
returns-in-38 c =
    let s = c.args.self.now in
    shows (flow_of s) s.text.now s.at c.byte.result 38 reads.Anchor c.byte.ensures c.in-38.is refl

pub returns-in-33 : goal.returns-in-33
unfolding indicator_of
returns-in-33 c =
    let s = c.args.self.now in
    shows (flow_of s) s.text.now s.at c.byte.result 33 reads.Tag c.byte.ensures c.in-33.is refl

pub returns-in-39 : goal.returns-in-39
unfolding indicator_of
returns-in-39 c =
    let s = c.args.self.now in
    shows (flow_of s) s.text.now s.at c.byte.result 39 reads.SingleQuoted c.byte.ensures c.in-39.is refl

pub returns-in-34 : goal.returns-in-34
unfolding indicator_of
returns-in-34 c =
    let s = c.args.self.now in
    shows (flow_of s) s.text.now s.at c.byte.result 34 reads.DoubleQuoted c.byte.ensures c.in-34.is refl

pub returns-in-63 : goal.returns-in-63
returns-in-63 c =
    let s = c.args.self.now in
    ap (λ (k : Kind). Some k) c.mark_kind.ensures ∙ sym (question_at (flow_of s) s.text.now s.at (sym c.byte.ensures ∙ c.in-63.is))

pub returns-in-58 : goal.returns-in-58
returns-in-58 c =
    let s = c.args.self.now in
    ap (λ (k : Kind). Some k) c.mark_kind-in-58.ensures ∙ sym (colon_at (flow_of s) s.text.now s.at (sym c.byte.ensures ∙ c.in-58.is))

pub returns-in-124 : goal.returns-in-124
returns-in-124 c =
    let s = c.args.self.now in
    c.then_some.ensures ∙ ap (λ b. then_some (not b) reads.Literal) c.in_flow.ensures ∙ sym (bar_at (flow_of s) s.text.now s.at (sym c.byte.ensures ∙ c.in-124.is))

pub returns-in-62 : goal.returns-in-62
returns-in-62 c =
    let s = c.args.self.now in
    c.then_some-in-62.ensures ∙ ap (λ b. then_some (not b) reads.Folded) c.in_flow-in-62.ensures ∙ sym (greater_at (flow_of s) s.text.now s.at (sym c.byte.ensures ∙ c.in-62.is))

pub returns-in-37 : goal.returns-in-37
returns-in-37 c =
    let s = c.args.self.now in
    let column : c.column.result ≡ column_at s.text.now s.at = omega (arith, c.column.ensures, c.requires.place.column) in
    c.then_some-in-37.ensures ∙ ap (λ n. then_some (eqb n 0) reads.Directive) column ∙ sym (percent_at (flow_of s) s.text.now s.at (sym c.byte.ensures ∙ c.in-37.is))

pub returns-in-9 : goal.returns-in-9
returns-in-9 c =
    let s = c.args.self.now in
    sym (none_at (flow_of s) s.text.now s.at (subst (λ b. Shut b) c.byte.ensures c.in-9.is))

pub returns-in-10 : goal.returns-in-10
returns-in-10 c =
    let s = c.args.self.now in
    c.then_some-in-10.ensures ∙ ap (λ n. then_some (eqb n 0) reads.Plain) c.break_width.ensures ∙ sym (break_at (flow_of s) s.text.now s.at (subst (λ b. Breaks b) c.byte.ensures c.in-10.is))
