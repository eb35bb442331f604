-- What a clause sees of an adapter.
use Rattle.std.specs.Prelude.{All}
use Rattle.yaml_scan.specs.Session.{View, HoldsLittle}
use Rattle.yaml_scan_laws.specs.Utf8Texts.{HasTexts}
use Rattle.yaml_round_reading.specs.declared.adapter.yaml_adapter_t.TheInside.{Inside}

abbrev pub adapter_view : Inside → View
adapter_view a = a.session

-- Its session holds little, and all texts of the tokens to come are UTF-8, but those that escapes spell byte by byte.
pub record IsAdapter (a : Inside) : Type 0 where
  pub little : HoldsLittle a.session
  pub texts : All (λ t. HasTexts t.body) a.session.remaining.tokens
