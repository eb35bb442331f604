-- What a clause sees of an input's tokens.
use Rattle.std.specs.Prelude.{◌≡◌, IsUtf8}
use Rattle.yaml_scan_core.specs.Asked.{Waits}
use Rattle.yaml_scan_core.specs.Told.{Locates}
use Rattle.yaml_round_reading.specs.Coming.{Stands, coming, texts_by, told_by}
use Rattle.yaml_round_reading.specs.Input.{scanned_of}
use Rattle.yaml_round_reading.specs.ScannedValue.{ScannedValue}
use Rattle.yaml_round_reading.specs.declared.scanned.ScannedTokens.TheInside.{Inside}

abbrev pub scanned_view : Inside → ScannedValue
scanned_view a = record {
  coming = coming a.refusal a.standing (scanned_of a.source.now) a.scanner;
  told = told_by a.standing;
  texts = texts_by a.standing a.scanner;
  text = a.text.now;
}

-- The scanner waits for a call, over the text; its marks are counted there.
pub record IsScanned (a : Inside) : Type 0 where
  pub waits : Waits a.scanner
  pub text : a.scanner.text.now ≡ a.text.now
  pub utf8 : IsUtf8 a.text.now
  pub stands : Stands a.refusal a.standing (scanned_of a.source.now) a.scanner
  pub locates : Locates a.text.now a.locator
