-- What a clause sees of a loader.
use Rattle.yaml_parse_loader.specs.declared.loader.Loader.TheInside.{Inside}
use Rattle.yaml_parse_loader.specs.Loading.{Loading}
use Rattle.yaml_parse_loader.specs.Sound.{IsLoading}
use Rattle.yaml_parse_loader.specs.Sizes.{IsSizedLoading}
use Rattle.yaml_parse_loader.specs.Views.{loading_of}

abbrev pub loader_view : Inside → Loading
loader_view a = loading_of a.making

abbrev pub IsLoader : Inside → Type 0
IsLoader a = IsLoading (loading_of a.making) × IsSizedLoading (loading_of a.making)
