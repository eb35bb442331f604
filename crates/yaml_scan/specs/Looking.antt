-- The tokens of a session by looking back from its lexemes.
use Rattle.std.specs.Prelude.{◌≡◌, ℕ, List}
use Rattle.yaml_scan_model.specs.declared.name.yaml_encoding_t.{yaml_encoding_t}
use Rattle.yaml_scan_decode.specs.Encodings.{encoding_of}
use Rattle.yaml_scan_decode.specs.Spelling.{Spells}
use Rattle.yaml_scan_laws.specs.LookBack.{looked_back}
use Rattle.yaml_scan.specs.Session.{begun}

-- Of the text that an input's bytes spell, the tokens of a session that begins are those that looking back gives: KEY is
-- before a lexeme exactly if a later `:` finds it (`is_key`), and a level is opened and closed likewise.
abbrev pub TokensLookBack : Type 0
TokensLookBack = (setting : yaml_encoding_t) (bytes text : List ℕ) → Spells setting bytes text
    → (begun setting bytes).remaining
    ≡ looked_back (record { encoding = encoding_of setting bytes; text = text })
