-- The settings that are used where none are chosen.
use Rattle.std.specs.Prelude.{ℕ, pos, true}
use Rattle.yaml_scan_types.specs.Widths.{default_width}
use Rattle.yaml_scan_types.specs.Indents.{default_indent}
use Rattle.yaml_scan_types.specs.declared.event_name.yaml_break_t.TheVariants.{YAML_LN_BREAK}
use Rattle.yaml_round_device.specs.declared.settings.yaml_settings_t.{yaml_settings_t}
use Rattle.yaml_round_device.specs.declared.form.yaml_output_encoding_t.TheVariants.{Utf8}

-- how many bytes an answer may have: 2 to the power of 40
abbrev pub default_limit : ℕ
default_limit = 1099511627776

abbrev pub default_settings : yaml_settings_t
default_settings = record {
  encoding = Utf8;
  canonical = true;
  indent = pos default_indent;
  width = pos default_width;
  unicode = true;
  line_break = YAML_LN_BREAK;
  limit = default_limit;
}
