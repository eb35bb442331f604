-- Settings: those that an emitter was asked for, and those in force.
use Rattle.std.specs.Prelude.{ℕ, ◌*◌, ◌&&◌, nat_le, if◌then◌else◌, ℤ, pos, negsuc}
use Rattle.yaml_scan_types.specs.declared.name.yaml_encoding_t.{yaml_encoding_t}
use Rattle.yaml_scan_types.specs.declared.name.yaml_encoding_t.TheVariants as coding
use Rattle.yaml_scan_types.specs.declared.event_name.yaml_break_t.{yaml_break_t}
use Rattle.yaml_scan_types.specs.declared.event_name.yaml_break_t.TheVariants as ending
use Rattle.yaml_scan_types.specs.Widths.{default_width}
use Rattle.yaml_scan_types.specs.Indents.{least_indent, most_indent, default_indent}
use Rattle.yaml_emit_layout.specs.declared.settings.Encoding.{Encoding}
use Rattle.yaml_emit_layout.specs.declared.settings.Encoding.TheVariants.{Utf8, Utf16Le, Utf16Be}
use Rattle.yaml_emit_layout.specs.declared.settings.LineBreak.{LineBreak}
use Rattle.yaml_emit_layout.specs.declared.settings.LineBreak.TheVariants.{Lf, Cr, CrLf}
use Rattle.yaml_emit_layout.specs.declared.settings.Settings.{Settings}
use Rattle.yaml_emit_layout.specs.declared.settings.RequestedSettings.{RequestedSettings}

-- 2 to 9, any other number means 2
abbrev pub settled_indent : ℤ → ℕ
settled_indent (pos n) =
    if nat_le least_indent n && nat_le n most_indent then n else default_indent
settled_indent (negsuc n) = default_indent

-- a negative width means no end of lines, and one up to twice the indent the default
abbrev pub settled_width : ℤ → ℕ → ℕ
settled_width (pos n) indent = if nat_le n (2 * indent) then default_width else n
settled_width (negsuc n) indent = 2147483647

abbrev pub settled_break : yaml_break_t → LineBreak
settled_break ending.YAML_ANY_BREAK = Lf
settled_break ending.YAML_CR_BREAK = Cr
settled_break ending.YAML_LN_BREAK = Lf
settled_break ending.YAML_CRLN_BREAK = CrLf

abbrev pub encoding_or : Encoding → yaml_encoding_t → Encoding
encoding_or x coding.YAML_ANY_ENCODING = x
encoding_or x coding.YAML_UTF8_ENCODING = Utf8
encoding_or x coding.YAML_UTF16LE_ENCODING = Utf16Le
encoding_or x coding.YAML_UTF16BE_ENCODING = Utf16Be

-- the encoding that was set, or else that of the stream's start, or else UTF-8
abbrev pub settled_encoding : yaml_encoding_t → yaml_encoding_t → Encoding
settled_encoding requested stream = encoding_or (encoding_or Utf8 stream) requested

-- what is in force, with the encoding of the stream's start
abbrev pub settled : RequestedSettings → yaml_encoding_t → Settings
settled w stream = record {
  encoding = settled_encoding w.encoding stream;
  canonical = w.canonical;
  indent = settled_indent w.indent;
  width = settled_width w.width (settled_indent w.indent);
  unicode = w.unicode;
  line_break = settled_break w.line_break;
}
