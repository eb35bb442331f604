use Rattle.yaml_round_laws.proofs.Layouts.{streams_are_layouts, fronts_are_of_layouts, all_is_of_layouts, wrong_add_nothing}
use Rattle.yaml_round_laws.proofs.pieces_laws.texts_are_of_layouts.Goals as goal

pub returns : goal.returns
returns c = record {
  streams = streams_are_layouts;
  fronts = fronts_are_of_layouts;
  all = all_is_of_layouts;
  wrong = wrong_add_nothing;
}
