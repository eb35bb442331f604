-- The offsets of the fields of what a call answers.
use Rattle.yaml_round_answers.specs.EventOffsets.{LiesAt}
use Rattle.yaml_round_answers.specs.contracts.answer.yaml_c_answer as answer
use Rattle.yaml_round_answers.specs.contracts.parsing.yaml_c_parsed as parsed
use Rattle.yaml_round_answers.specs.contracts.scanning.yaml_c_scanned as scanned
use Rattle.yaml_round_answers.specs.contracts.parting.yaml_c_parting as parting
use Rattle.yaml_round_answers.specs.contracts.serializing.yaml_c_turns as turns
use Rattle.yaml_round_answers.specs.contracts.composing.yaml_c_spots as spots
use Rattle.yaml_round_answers.specs.contracts.graph_record.yaml_c_step as step
use Rattle.yaml_round_answers.specs.contracts.graph_record.yaml_c_spot as spot
use Rattle.yaml_round_answers.specs.contracts.graph_record.yaml_c_node as node
use Rattle.yaml_round_answers.specs.contracts.graph_record.yaml_c_graph as graph
use Rattle.yaml_round_answers.specs.contracts.graph_record.yaml_c_turn as turn

-- ---- the layouts, which are those that the header asserts: a list is a pointer with its length after it

pub record AnswerLies : Type 0 where
  pub kind : LiesAt answer.the_type 0 (λ d. d.kind) 0
  pub is : LiesAt answer.the_type 1 (λ d. d.is) 4
  pub second : LiesAt answer.the_type 2 (λ d. d.second) 8
  pub value : LiesAt answer.the_type 3 (λ d. d.value) 12
  pub offset : LiesAt answer.the_type 4 (λ d. d.offset) 16
  pub problem_mark : LiesAt answer.the_type 5 (λ d. d.problem_mark) 24
  pub context_mark : LiesAt answer.the_type 6 (λ d. d.context_mark) 56
  pub problem : LiesAt answer.the_type 7 (λ d. d.problem) 88
  pub context : LiesAt answer.the_type 8 (λ d. d.context) 104
  pub text : LiesAt answer.the_type 9 (λ d. d.text) 120
  pub line : LiesAt answer.the_type 10 (λ d. d.line) 136

pub record ParsedLies : Type 0 where
  pub events : LiesAt parsed.the_type 0 (λ d. d.events) 0
  pub directives : LiesAt parsed.the_type 1 (λ d. d.directives) 16
  pub bytes : LiesAt parsed.the_type 2 (λ d. d.bytes) 32

pub record ScannedLies : Type 0 where
  pub tokens : LiesAt scanned.the_type 0 (λ d. d.tokens) 0
  pub bytes : LiesAt scanned.the_type 1 (λ d. d.bytes) 16

pub record PartingLies : Type 0 where
  pub answer : LiesAt parting.the_type 0 (λ d. d.answer) 0
  pub document : LiesAt parting.the_type 1 (λ d. d.document) 152
  pub first_kind : LiesAt parting.the_type 2 (λ d. d.first_kind) 160
  pub second_kind : LiesAt parting.the_type 3 (λ d. d.second_kind) 164
  pub first_mark : LiesAt parting.the_type 4 (λ d. d.first_mark) 168
  pub second_mark : LiesAt parting.the_type 5 (λ d. d.second_mark) 200

pub record NodeLies : Type 0 where
  pub kind : LiesAt node.the_type 0 (λ d. d.kind) 0
  pub first : LiesAt node.the_type 1 (λ d. d.first) 8
  pub count : LiesAt node.the_type 2 (λ d. d.count) 16

pub record GraphLies : Type 0 where
  pub nodes : LiesAt graph.the_type 0 (λ d. d.nodes) 0
  pub held : LiesAt graph.the_type 1 (λ d. d.held) 16

pub record TurnLies : Type 0 where
  pub kind : LiesAt turn.the_type 0 (λ d. d.kind) 0
  pub node : LiesAt turn.the_type 1 (λ d. d.node) 4
  pub number : LiesAt turn.the_type 2 (λ d. d.number) 8

pub record TurnsLie : Type 0 where
  pub turns : LiesAt turns.the_type 0 (λ d. d.turns) 0

pub record StepLies : Type 0 where
  pub kind : LiesAt step.the_type 0 (λ d. d.kind) 0
  pub has_name : LiesAt step.the_type 1 (λ d. d.has_name) 4
  pub first : LiesAt step.the_type 2 (λ d. d.first) 8
  pub count : LiesAt step.the_type 3 (λ d. d.count) 16

pub record SpotLies : Type 0 where
  pub node : LiesAt spot.the_type 0 (λ d. d.node) 0
  pub into : LiesAt spot.the_type 1 (λ d. d.into) 4

pub record SpotsLie : Type 0 where
  pub spots : LiesAt spots.the_type 0 (λ d. d.spots) 0
