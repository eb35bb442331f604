-- A draft of a scalar's page.
use Rattle.std.specs.Prelude.{◌≡◌, ◌<◌, ◌^◌}
use Rattle.yaml_emit_layout.specs.declared.page.Page.{Page}
use Rattle.yaml_emit_output.specs.Draft.{Page as Paper}

pub record IsOn (page : Page) (paper : Paper) : Type 0 where
  pub line_break : paper.line_break ≡ page.line_break
  pub width : paper.width ≡ page.width
  pub narrow : page.indentation < 2 ^ 32
