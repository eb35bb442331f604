-- The law of double quoted text, joined.
use Rattle.yaml_emit_layout.proofs.Spelled.{quoted-spells}
use Rattle.yaml_emit_laws.specs.QuotedLaws.{QuotedIsReadBack}
use Rattle.yaml_emit_laws.proofs.Back.{quoted_back}

pub quoted_is_back : QuotedIsReadBack
quoted_is_back = quoted_back quoted-spells
