-- A reading as it is seen.
use Rattle.yaml_round_reading.specs.ReadingView.{ReadingView}
use Rattle.yaml_round_reading.specs.declared.reading.Reading.TheInside.{Inside}

abbrev pub reading_view : Inside → ReadingView
reading_view r = record { parser = r.parser.remaining; given = r.parser.given }
