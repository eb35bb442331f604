-- Records of an input's tokens with the characters before their marks.
use Rattle.std.specs.Prelude.{ℕ, List}
use Rattle.yaml_round_answers.specs.Counted.{mark_counted}
use Rattle.yaml_round_answers.specs.declared.token_record.yaml_c_token.{yaml_c_token}

abbrev pub token_counted : List ℕ → yaml_c_token → yaml_c_token
token_counted text r = record r {
  start = mark_counted text r.start;
  end = mark_counted text r.end;
}
