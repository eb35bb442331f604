-- What distinguishes one table of anchors from another.
use Rattle.std.specs.Coded.{Coded, coded_ℕ, coded_ℤ, coded_list}
use Rattle.std.specs.FinMap as map
use Rattle.yaml_parse_loader.specs.Anchors.{Anchors}

abbrev pub anchors_code : Coded Anchors
anchors_code = map.code (coded_list coded_ℕ) coded_ℤ
