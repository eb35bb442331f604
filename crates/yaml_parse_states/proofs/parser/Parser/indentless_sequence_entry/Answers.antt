use Rattle.std.proofs.Common.{◌≡◌, ◌∙◌, true, false, reverse, refl, sym, ap, subst}
use Rattle.yaml_parse_grammar.specs.Machine.{follows}
use Rattle.yaml_parse_grammar.specs.declared.name.Site.TheVariants.{IndentlessEntry}
use Rattle.yaml_parse_grammar.specs.declared.problem.ParseProblem.TheVariants as problem
use Rattle.yaml_parse_model.specs.Events.{sequence_end}
use Rattle.yaml_scan_model.specs.declared.kind.Kind.TheVariants as kind
use Rattle.yaml_scan_model.specs.Kinds.{is_fault, type_by}
use Rattle.yaml_parse_states.specs.declared.parser.State.TheVariants as state
use Rattle.yaml_parse_states.specs.declared.parser.Turn.TheVariants as turn
use Rattle.yaml_parse_states.specs.Views.{bare_event, behind, below_of, side_of, blank_event}
use Rattle.yaml_parse_states.specs.Turned.{Gives}
use Rattle.yaml_parse_states.specs.declared.event.EventKind.TheVariants as event
use Rattle.yaml_parse_states.specs.contracts.parser.State.{the_type}
use denote.Enum.Bare.{sameb}
use Rattle.yaml_parse_model.specs.Source.{front_of}
use Rattle.yaml_parse_states.proofs.Parts.{Passed, left_out, awaited, failed_here, left_here, turned_by}
use Rattle.yaml_parse_states.proofs.Indicators.{dash_of_others, one_of_three, loose_stays, loose_value, others_leave}
use Rattle.yaml_parse_states.proofs.parser.Parser.indentless_sequence_entry.Goals.{in_default-pass-via-in-Value+else-eq, in_default-pass-via-in_default-pass}
use Rattle.yaml_parse_states.proofs.parser.Parser.indentless_sequence_entry.Goals as goal

pub returns-in-BlockEntry-pass-clause-turned : goal.returns-in-BlockEntry-pass-clause-turned
returns-in-BlockEntry-pass-clause-turned g c =
    let t = g.T.Tokens in
    let x = side_of (behind (reverse c.args.self.now.levels.items)) in
    let p : Passed t kind.BlockEntry c.pass.result c.args.self.now.tokens c.kind.new.self c.pass.new.self =
    record { first = c.in-BlockEntry.ensures.shows; second = c.pass.ensures.shows; unasked = c.pass.ensures.unasked; places = c.pass.ensures.places ∙ c.kind.ensures.places } in
    left_out t kind.BlockEntry c.pass.result c.kind.new.self c.pass.new.self _ (IndentlessEntry x) _ (below_of t c.args.self.now) state.IndentlessSequenceEntry c.empty_at.result _ c.args.self.now c.empty_at.new.self
    p (dash_of_others x)
    (one_of_three is_fault false c.pass.result kind.BlockEntry kind.Key kind.BlockEnd c.in-BlockEntry-pass.is refl refl refl)
    (one_of_three (λ k. follows (IndentlessEntry x) (type_by k)) true c.pass.result kind.BlockEntry kind.Key kind.BlockEnd c.in-BlockEntry-pass.is refl refl refl)
    refl (ap blank_event (ap (λ at. at c.end-end.result) c.pass.ensures.places ∙ c.end-end.ensures)) c.empty_at.ensures.given c.empty_at.ensures.gives

pub returns-in-Value-clause-turned : goal.returns-in-Value-clause-turned
returns-in-Value-clause-turned g c =
    let t = g.T.Tokens in
    let x = side_of (behind (reverse c.args.self.now.levels.items)) in
    let p : Passed t kind.BlockEntry c.pass.result c.args.self.now.tokens c.kind.new.self c.pass.new.self =
    record { first = c.in-BlockEntry.ensures.shows; second = c.pass.ensures.shows; unasked = c.pass.ensures.unasked; places = c.pass.ensures.places ∙ c.kind.ensures.places } in
    left_out t kind.BlockEntry c.pass.result c.kind.new.self c.pass.new.self _ (IndentlessEntry x) _ (below_of t c.args.self.now) state.IndentlessSequenceEntry c.empty_at-in-Value.result _ c.args.self.now c.empty_at-in-Value.new.self
    p (dash_of_others x)
    (ap is_fault c.in-Value.is)
    (ap (λ k. follows (IndentlessEntry x) (type_by k)) c.in-Value.is ∙ loose_value (behind (reverse c.args.self.now.levels.items)) ∙ ap (λ z. sameb the_type z state.BlockMappingValue) (sym c.behind.ensures) ∙ sym c.eq.ensures ∙ c.if-eq.true)
    refl (ap blank_event (ap (λ at. at c.end-end.result) c.pass.ensures.places ∙ c.end-end.ensures)) c.empty_at-in-Value.ensures.given c.empty_at-in-Value.ensures.gives

pub returns-in_default-pass-clause-turned : goal.returns-in_default-pass-clause-turned
returns-in_default-pass-clause-turned g c =
    let t = g.T.Tokens in
    let x = side_of (behind (reverse c.args.self.now.levels.items)) in
    let p : Passed t kind.BlockEntry c.pass.result c.args.self.now.tokens c.kind.new.self c.pass.new.self =
    record { first = c.in-BlockEntry.ensures.shows; second = c.pass.ensures.shows; unasked = c.pass.ensures.unasked; places = c.pass.ensures.places ∙ c.kind.ensures.places } in
    let stays : follows (IndentlessEntry x) (type_by c.pass.result) ≡ false = elim c.in_default-pass.branch [
      | in_default-pass-via-in-Value+else-eq w ↦ ap (λ k. follows (IndentlessEntry x) (type_by k)) w.in-Value.is ∙ loose_value (behind (reverse c.args.self.now.levels.items)) ∙ ap (λ z. sameb the_type z state.BlockMappingValue) (sym w.behind.ensures) ∙ sym w.eq.ensures ∙ w.if-eq.false
      | in_default-pass-via-in_default-pass w ↦ loose_stays x c.pass.result w.in_default-pass.not-BlockEntry w.in_default-pass.not-Key w.in_default-pass.not-BlockEnd w.in_default-pass.not-Value
    ] in
    turned_by t _ c.awaits.result turn.BlockNode c.awaits.new.self _ c.awaits.ensures.node c.awaits.ensures.same
    (awaited t kind.BlockEntry c.pass.result c.kind.new.self c.pass.new.self _ (IndentlessEntry x) _ (below_of t c.args.self.now) state.IndentlessSequenceEntry c.args.self.now
    p (dash_of_others x) (λ e. stays) refl)

pub returns-in_default-clause-turned : goal.returns-in_default-clause-turned
returns-in_default-clause-turned g c =
    failed_here g.T.Tokens c.kind.result c.kind.new.self _ _ problem.NoDash c.refuse.result c.args.self.now c.refuse.new.self c.kind.ensures.shows
    (sym c.is_fault.ensures ∙ c.if-is_fault.true) c.refuse.ensures.refused c.refuse.ensures.next

pub returns-in_default-2-clause-turned : goal.returns-in_default-2-clause-turned
returns-in_default-2-clause-turned g c =
    let t = g.T.Tokens in
    let old = c.args.self.now in
    left_here t c.kind.result c.kind.new.self _ (below_of t old) sequence_end c.leave-next.result c.give_here.result _ (record old { levels = c.leave-next.new.self.levels }) c.give_here.new.self c.kind.ensures.shows c.kind.ensures.unasked c.kind.ensures.places
    (sym c.is_fault.ensures ∙ c.if-is_fault.false) (others_leave c.kind.result (side_of (behind (reverse old.levels.items))) c.in_default-2.not-BlockEntry) refl refl (c.leave-next.ensures.states (t.mark_of old.tokens)) c.give_here.ensures.given
    (subst (λ z. Gives t c.leave-next.result (bare_event event.SequenceEnd (t.texts z.tokens) (front_of (t.to_come z.tokens)).start_mark (front_of (t.to_come z.tokens)).start_mark z) z c.give_here.new.self) c.leave-next.ensures.same c.give_here.ensures.gives)
