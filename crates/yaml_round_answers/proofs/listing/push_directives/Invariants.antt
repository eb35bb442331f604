-- The directives so far are at the end of the list.
use Rattle.std.proofs.Common.{◌≡◌, length, map, take}
use Rattle.yaml_parse.specs.Events.{directive_of}
use Rattle.yaml_round_answers.specs.Listing.{AddsDirectives}
use Rattle.yaml_round_answers.proofs.listing.push_directives.Given as goal

abbrev pub invariant-loop-directive : goal.invariant-loop-directive
invariant-loop-directive l = record {
  at : l.at ≡ length l.fn.listing.directives.items;
  adds : AddsDirectives l.fn.listing (map directive_of (take l.directive-index l.fn.directives))
      l.listing;
}
