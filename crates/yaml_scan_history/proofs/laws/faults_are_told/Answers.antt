use Rattle.yaml_scan_history.proofs.Rules.{names_are_told, tags_are_told, directives_are_told, quotes_are_told, plains_are_told, blocks_are_told, places_are_told}
use Rattle.yaml_scan_history.proofs.laws.faults_are_told.Goals as goal

pub returns : goal.returns
returns c = record {
  names = names_are_told;
  tags = tags_are_told;
  directives = directives_are_told;
  quotes = quotes_are_told;
  plains = plains_are_told;
  blocks = blocks_are_told;
  places = places_are_told;
}
