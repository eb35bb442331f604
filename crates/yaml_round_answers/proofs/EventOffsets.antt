-- Each field lies where the header says.
use Rattle.std.proofs.Common.{refl}
use Rattle.yaml_round_answers.specs.EventOffsets.{MarkLies, SpanLies, DirectiveLies, EventLies, SettingsLie, LevelLies, PlaceLies, StandLies}

pub mark_lies : MarkLies
mark_lies = record {
  index = record { is = λ d. refl; begins = refl };
  line = record { is = λ d. refl; begins = refl };
  column = record { is = λ d. refl; begins = refl };
  character = record { is = λ d. refl; begins = refl };
}

pub span_lies : SpanLies
span_lies = record {
  at = record { is = λ d. refl; begins = refl };
  len = record { is = λ d. refl; begins = refl };
}

pub directive_lies : DirectiveLies
directive_lies = record {
  handle = record { is = λ d. refl; begins = refl };
  prefix = record { is = λ d. refl; begins = refl };
}

pub event_lies : EventLies
event_lies = record {
  kind = record { is = λ d. refl; begins = refl };
  style = record { is = λ d. refl; begins = refl };
  encoding = record { is = λ d. refl; begins = refl };
  implicit = record { is = λ d. refl; begins = refl };
  quoted_implicit = record { is = λ d. refl; begins = refl };
  has_anchor = record { is = λ d. refl; begins = refl };
  has_tag = record { is = λ d. refl; begins = refl };
  has_version = record { is = λ d. refl; begins = refl };
  major = record { is = λ d. refl; begins = refl };
  minor = record { is = λ d. refl; begins = refl };
  directives = record { is = λ d. refl; begins = refl };
  anchor = record { is = λ d. refl; begins = refl };
  tag = record { is = λ d. refl; begins = refl };
  value = record { is = λ d. refl; begins = refl };
  start = record { is = λ d. refl; begins = refl };
  end = record { is = λ d. refl; begins = refl };
}

pub settings_lie : SettingsLie
settings_lie = record {
  encoding = record { is = λ d. refl; begins = refl };
  canonical = record { is = λ d. refl; begins = refl };
  indent = record { is = λ d. refl; begins = refl };
  width = record { is = λ d. refl; begins = refl };
  unicode = record { is = λ d. refl; begins = refl };
  line_break = record { is = λ d. refl; begins = refl };
  limit = record { is = λ d. refl; begins = refl };
}

pub level_lies : LevelLies
level_lies = record {
  state = record { is = λ d. refl; begins = refl };
  indent = record { is = λ d. refl; begins = refl };
}

pub place_lies : PlaceLies
place_lies = record {
  state = record { is = λ d. refl; begins = refl };
  encoding = record { is = λ d. refl; begins = refl };
  implicit = record { is = λ d. refl; begins = refl };
  white = record { is = λ d. refl; begins = refl };
  bare = record { is = λ d. refl; begins = refl };
  kept = record { is = λ d. refl; begins = refl };
  column = record { is = λ d. refl; begins = refl };
  waiting = record { is = λ d. refl; begins = refl };
  innermost = record { is = λ d. refl; begins = refl };
}

pub stand_lies : StandLies
stand_lies = record {
  place = record { is = λ d. refl; begins = refl };
  levels = record { is = λ d. refl; begins = refl };
  directives = record { is = λ d. refl; begins = refl };
  bytes = record { is = λ d. refl; begins = refl };
}
