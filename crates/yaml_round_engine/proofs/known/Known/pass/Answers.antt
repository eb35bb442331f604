-- Each kind of event, as the loader takes it.
use Rattle.std.proofs.Common.{refl, sym, subst, option_map}
use Rattle.yaml_parse.specs.declared.yaml_mark_t.{yaml_mark_t}
use Rattle.yaml_parse.specs.declared.EventRef.{EventRef}
use Rattle.yaml_parse.specs.Events.{borrowed_body}
use Rattle.yaml_parse.specs.Loading.{Loading, step_body, next}
use Rattle.yaml_round_engine.specs.declared.known.Known.{Known}
use Rattle.yaml_round_engine.specs.declared.known.Passed.{Passed}
use Rattle.yaml_round_engine.specs.declared.known.Passed.TheVariants as passed
use Rattle.yaml_round_engine.specs.Knowing.{IsKnown, Follows}
use Rattle.yaml_round_engine.proofs.Knowing.{unknown, noted, appended, ended_known}
use Rattle.yaml_round_engine.proofs.known.Known.pass.Goals as goal

-- what an event comes to
abbrev Comes : Known → Passed → Known → EventRef → Type 0
Comes old r new e = (l : Loading) (from to : yaml_mark_t) → IsKnown old l
    → Follows (step_body (borrowed_body e) from to l) from r new

pub returns-in-DocumentStart : goal.returns-in-DocumentStart
returns-in-DocumentStart c =
    subst (Comes c.args.self.now passed.On c.forget.new.self) (sym c.in-DocumentStart.is) (λ l from to h. unknown c.forget.new.self _ c.forget.ensures refl refl)

pub returns-in-DocumentEnd : goal.returns-in-DocumentEnd
returns-in-DocumentEnd c =
    subst (Comes c.args.self.now c.end.result c.end.new.self) (sym c.in-DocumentEnd.is) (λ l from to h. ended_known c.args.self.now c.end.new.self c.end.result l c.in-DocumentEnd.implicit from to c.end.ensures h)

pub returns-in-Scalar : goal.returns-in-Scalar
returns-in-Scalar c =
    subst (Comes c.args.self.now c.note.result c.note.new.self) (sym c.in-Scalar.is) (λ l from to h. noted (option_map (λ t. t.now) c.in-Scalar.anchor) (next l) c.args.self.now c.note.new.self c.note.result l _ from c.note.ensures h (appended l.document.nodes _) refl)

pub returns-in-SequenceStart : goal.returns-in-SequenceStart
returns-in-SequenceStart c =
    subst (Comes c.args.self.now c.note-in-SequenceStart.result c.note-in-SequenceStart.new.self) (sym c.in-SequenceStart.is) (λ l from to h. noted (option_map (λ t. t.now) c.in-SequenceStart.anchor) (next l) c.args.self.now c.note-in-SequenceStart.new.self c.note-in-SequenceStart.result l _ from c.note-in-SequenceStart.ensures h (appended l.document.nodes _) refl)

pub returns-in-MappingStart : goal.returns-in-MappingStart
returns-in-MappingStart c =
    subst (Comes c.args.self.now c.note-in-MappingStart.result c.note-in-MappingStart.new.self) (sym c.in-MappingStart.is) (λ l from to h. noted (option_map (λ t. t.now) c.in-MappingStart.anchor) (next l) c.args.self.now c.note-in-MappingStart.new.self c.note-in-MappingStart.result l _ from c.note-in-MappingStart.ensures h (appended l.document.nodes _) refl)
