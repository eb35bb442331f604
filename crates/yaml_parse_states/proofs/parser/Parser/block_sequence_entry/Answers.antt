use Rattle.std.proofs.Common.{◌∙◌, true, false, refl, ap}
use Rattle.yaml_parse_grammar.specs.Machine.{follows}
use Rattle.yaml_parse_grammar.specs.declared.name.Site.TheVariants.{Entry}
use Rattle.yaml_parse_grammar.specs.declared.problem.ParseProblem.TheVariants as problem
use Rattle.yaml_scan_model.specs.declared.kind.Kind.TheVariants as kind
use Rattle.yaml_scan_model.specs.Kinds.{is_fault, type_by}
use Rattle.yaml_parse_states.specs.declared.parser.State.TheVariants as state
use Rattle.yaml_parse_states.specs.declared.parser.Turn.TheVariants as turn
use Rattle.yaml_parse_states.specs.Views.{below_of, blank_event}
use Rattle.yaml_parse_states.proofs.Parts.{Passed, left_out, awaited, refused_here, turned_by}
use Rattle.yaml_parse_states.proofs.Indicators.{dash_of_entries, one_of_two, entry_stays, entries_refuse}
use Rattle.yaml_parse_states.proofs.parser.Parser.block_sequence_entry.Goals as goal

pub returns-in-BlockEntry-pass-clause-turned : goal.returns-in-BlockEntry-pass-clause-turned
returns-in-BlockEntry-pass-clause-turned g c =
    let t = g.T.Tokens in
    let p : Passed t kind.BlockEntry c.pass.result c.args.self.now.tokens c.kind.new.self c.pass.new.self =
    record { first = c.in-BlockEntry.ensures.shows; second = c.pass.ensures.shows; unasked = c.pass.ensures.unasked; places = c.pass.ensures.places ∙ c.kind.ensures.places } in
    left_out t kind.BlockEntry c.pass.result c.kind.new.self c.pass.new.self _ Entry _ (below_of t c.args.self.now) state.BlockSequenceEntry c.empty_at.result _ c.args.self.now c.empty_at.new.self
    p (dash_of_entries _)
    (one_of_two is_fault false c.pass.result kind.BlockEntry kind.BlockEnd c.in-BlockEntry-pass.is refl refl)
    (one_of_two (λ k. follows Entry (type_by k)) true c.pass.result kind.BlockEntry kind.BlockEnd c.in-BlockEntry-pass.is refl refl)
    refl (ap blank_event (ap (λ at. at c.end-end.result) c.pass.ensures.places ∙ c.end-end.ensures)) c.empty_at.ensures.given c.empty_at.ensures.gives

pub returns-in_default-pass-clause-turned : goal.returns-in_default-pass-clause-turned
returns-in_default-pass-clause-turned g c =
    let t = g.T.Tokens in
    let p : Passed t kind.BlockEntry c.pass.result c.args.self.now.tokens c.kind.new.self c.pass.new.self =
    record { first = c.in-BlockEntry.ensures.shows; second = c.pass.ensures.shows; unasked = c.pass.ensures.unasked; places = c.pass.ensures.places ∙ c.kind.ensures.places } in
    turned_by t _ c.awaits.result turn.BlockNode c.awaits.new.self _ c.awaits.ensures.node c.awaits.ensures.same
    (awaited t kind.BlockEntry c.pass.result c.kind.new.self c.pass.new.self _ Entry _ (below_of t c.args.self.now) state.BlockSequenceEntry c.args.self.now
    p (dash_of_entries _) (λ e. entry_stays c.pass.result c.in_default-pass.not-BlockEntry c.in_default-pass.not-BlockEnd) refl)

pub returns-in_default-clause-turned : goal.returns-in_default-clause-turned
returns-in_default-clause-turned g c =
    refused_here g.T.Tokens c.kind.result c.kind.new.self _ (below_of g.T.Tokens c.args.self.now) problem.NoDash _ c.refuse.result c.args.self.now c.refuse.new.self c.kind.ensures.shows
    (λ e. entries_refuse c.kind.result _ c.in_default.not-BlockEntry c.in_default.not-BlockEnd) (λ m. refl) c.kind.ensures.places c.refuse.ensures.refused c.refuse.ensures.next
