-- The settings that C's record means.
use Rattle.std.specs.Prelude.{ℤ, pos, List, [], ◌∷◌, Option, None, Some}
use Rattle.yaml_parse.specs.declared.yaml_break_t.{yaml_break_t}
use Rattle.yaml_round.specs.declared.yaml_settings_t.{yaml_settings_t}
use Rattle.yaml_round.specs.declared.yaml_output_encoding_t.{yaml_output_encoding_t}
use Rattle.yaml_round.specs.declared.yaml_output_encoding_t.TheVariants as output
use Rattle.yaml_round_answers.specs.declared.record.yaml_c_settings.{yaml_c_settings}
use Rattle.yaml_round_answers.specs.Numbers.{is_set, break_meant, numbered}
-- the engine's own, which those of C are compared with
pub use Rattle.yaml_round.specs.Settings.{default_settings}

-- in the order of libyaml's enum
abbrev pub outputs : List yaml_output_encoding_t
outputs = output.Utf8 ∷ output.Utf8 ∷ output.Utf16Le ∷ output.Utf16Be ∷ []

-- the encoding of an answer: any means UTF-8
unfoldable pub output_meant : ℤ → Option yaml_output_encoding_t
output_meant n = numbered outputs n

abbrev pub settings_by : Option yaml_output_encoding_t → Option yaml_break_t → yaml_c_settings
    → Option yaml_settings_t
settings_by None b given = None
settings_by (Some x) None given = None
settings_by (Some x) (Some b) given = Some
    (record {
      encoding = x;
      canonical = is_set given.canonical;
      indent = given.indent;
      width = given.width;
      unicode = is_set given.unicode;
      line_break = b;
      limit = given.limit;
    })

-- The numbers are the settings themselves; where `encoding` or `line_break` means nothing, there
-- are none.
abbrev pub settings_meant : yaml_c_settings → Option yaml_settings_t
settings_meant given = settings_by (output_meant given.encoding) (break_meant given.line_break)
    given

-- What the header names: UTF-8, canonical form, indent 2, the default width, unicode on, LF, and 2^40 bytes.
abbrev pub default_record : yaml_c_settings
default_record = record {
  encoding = pos 1;
  canonical = pos 1;
  indent = default_settings.indent;
  width = default_settings.width;
  unicode = pos 1;
  line_break = pos 2;
  limit = default_settings.limit;
}
