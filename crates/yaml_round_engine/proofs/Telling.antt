-- A place says of the events that it was given.
use Rattle.std.proofs.Common.{◌≡◌, ◌∙◌, ap}
use Rattle.yaml_parse.specs.Events.{Event}
use Rattle.yaml_round_engine.specs.declared.difference.yaml_difference_t.{yaml_difference_t}
use Rattle.yaml_round_engine.specs.declared.front.Front.{Front}
use Rattle.yaml_round_engine.specs.declared.seen.Seen.{Seen}
use Rattle.yaml_round_engine.specs.Places.{path_of}
use Rattle.yaml_round_engine.specs.Dumps.{IsSeen, TellsBehind}

pub placed_tells : (front : Front) (result : yaml_difference_t) (x y : Seen) (e f : Event)
    → result ≡ record front.trail.place {
      first_mark = x.start;
      first_end = x.end;
      first_type = x.kind;
      second_mark = y.start;
      second_end = y.end;
      second_type =
          y.kind;
    } → IsSeen x e → IsSeen y f → TellsBehind e f front result
placed_tells front result x y e f r p q = record {
  tells = record {
    first_mark = ap (λ (d : yaml_difference_t). d.first_mark) r ∙ p.start;
    first_end = ap (λ (d : yaml_difference_t). d.first_end) r ∙ p.end;
    first_type = ap (λ (d : yaml_difference_t). d.first_type) r ∙ p.kind;
    second_mark = ap (λ (d : yaml_difference_t). d.second_mark) r ∙ q.start;
    second_end = ap (λ (d : yaml_difference_t). d.second_end) r ∙ q.end;
    second_type = ap (λ (d : yaml_difference_t). d.second_type) r ∙ q.kind;
  };
  path = ap (λ (d : yaml_difference_t). path_of d) r;
  cause = ap (λ (d : yaml_difference_t). d.cause) r;
}
