-- Laws of the definitions.
use Rattle.std.specs.Prelude.{◌≡◌, List, encode_utf8_all}
use Rattle.yaml_emit_layout.specs.declared.settings.Encoding.TheVariants.{Utf8}
use Rattle.yaml_emit_layout.specs.Text.{Item, encode, shown}

-- In UTF-8 the bytes of a text are those of its characters.
abbrev pub Utf8Encodes : Type 0
Utf8Encodes = (t : List Item) → encode Utf8 t ≡ encode_utf8_all (shown t)
