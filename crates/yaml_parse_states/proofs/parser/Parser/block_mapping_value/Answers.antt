use Rattle.std.proofs.Common.{◌∙◌, [], true, false, refl, sym, ap}
use Rattle.yaml_parse_grammar.specs.Machine.{follows}
use Rattle.yaml_parse_grammar.specs.declared.name.Site.TheVariants.{BlockPair}
use Rattle.yaml_parse_grammar.specs.declared.name.Side.TheVariants.{Value}
use Rattle.yaml_parse_grammar.specs.declared.problem.ParseProblem.TheVariants as problem
use Rattle.yaml_scan_model.specs.declared.kind.Kind.TheVariants as kind
use Rattle.yaml_scan_model.specs.Kinds.{is_fault, type_by}
use Rattle.yaml_parse_states.specs.declared.parser.State.TheVariants as state
use Rattle.yaml_parse_states.specs.declared.parser.Turn.TheVariants as turn
use Rattle.yaml_parse_states.specs.Views.{blank_body, blank_event}
use Rattle.yaml_parse_states.proofs.Parts.{Passed, left_out, awaited, failed_here, left_here, turned_by}
use Rattle.yaml_parse_states.proofs.Indicators.{colon_of, one_of_two, pair_value_stays, colon_leaves}
use Rattle.yaml_parse_states.proofs.parser.Parser.block_mapping_value.Goals as goal

pub returns-in-Key-clause-turned : goal.returns-in-Key-clause-turned
returns-in-Key-clause-turned g c =
    let t = g.T.Tokens in
    let p : Passed t kind.Value c.pass.result c.args.self.now.tokens c.kind.new.self c.pass.new.self =
    record { first = c.in-Value.ensures.shows; second = c.pass.ensures.shows; unasked = c.pass.ensures.unasked; places = c.pass.ensures.places ∙ c.kind.ensures.places } in
    left_out t kind.Value c.pass.result c.kind.new.self c.pass.new.self _ (BlockPair Value) [] _ state.BlockMappingKey c.empty_at.result _ c.args.self.now c.empty_at.new.self
    p (colon_of _)
    (one_of_two is_fault false c.pass.result kind.Key kind.BlockEnd c.in-Key.is refl refl)
    (one_of_two (λ k. follows (BlockPair Value) (type_by k)) true c.pass.result kind.Key kind.BlockEnd c.in-Key.is refl refl)
    refl (ap blank_event (ap (λ at. at c.end-end.result) c.pass.ensures.places ∙ c.end-end.ensures)) c.empty_at.ensures.given c.empty_at.ensures.gives

pub returns-in_default-pass-clause-turned : goal.returns-in_default-pass-clause-turned
returns-in_default-pass-clause-turned g c =
    let t = g.T.Tokens in
    let p : Passed t kind.Value c.pass.result c.args.self.now.tokens c.kind.new.self c.pass.new.self =
    record { first = c.in-Value.ensures.shows; second = c.pass.ensures.shows; unasked = c.pass.ensures.unasked; places = c.pass.ensures.places ∙ c.kind.ensures.places } in
    turned_by t _ c.awaits.result turn.IndentlessNode c.awaits.new.self _ c.awaits.ensures.node c.awaits.ensures.same
    (awaited t kind.Value c.pass.result c.kind.new.self c.pass.new.self _ (BlockPair Value) [] _ state.BlockMappingKey c.args.self.now
    p (colon_of _) (λ e. pair_value_stays c.pass.result c.in_default-pass.not-Key c.in_default-pass.not-BlockEnd) refl)

pub returns-in_default-clause-turned : goal.returns-in_default-clause-turned
returns-in_default-clause-turned g c =
    failed_here g.T.Tokens c.kind.result c.kind.new.self _ _ problem.NoKey c.refuse.result c.args.self.now c.refuse.new.self c.kind.ensures.shows
    (sym c.is_fault.ensures ∙ c.if-is_fault.true) c.refuse.ensures.refused c.refuse.ensures.next

pub returns-in_default-2-clause-turned : goal.returns-in_default-2-clause-turned
returns-in_default-2-clause-turned g c =
    left_here g.T.Tokens c.kind.result c.kind.new.self _ _ blank_body state.BlockMappingKey c.empty_here.result _ c.args.self.now c.empty_here.new.self c.kind.ensures.shows c.kind.ensures.unasked c.kind.ensures.places
    (sym c.is_fault.ensures ∙ c.if-is_fault.false) (colon_leaves c.kind.result (BlockPair Value) c.in_default-2.not-Value) refl refl refl c.empty_here.ensures.given c.empty_here.ensures.gives
