-- Settings in pretty form.
use Rattle.std.proofs.Common.{◌≡◌, Bool, false, sym, ap}
use Rattle.yaml_emit_layout.specs.declared.Settings.{Settings}

-- the settings with canonical form off
abbrev pub pretty : Settings → Settings
pretty s = record { encoding = s.encoding; canonical = false; indent = s.indent; width = s.width; unicode = s.unicode; line_break = s.line_break }

-- In pretty form these settings are the form's own.
pub same_settings : (s : Settings) → s.canonical ≡ false → pretty s ≡ s
same_settings s e = ap (λ (c : Bool). record { encoding = s.encoding; canonical = c; indent = s.indent; width = s.width; unicode = s.unicode; line_break = s.line_break }) (sym e)
