-- What a clause sees of an emitter, by the state of the code, and what is true of that state.
use Rattle.std.specs.Prelude.{◌≡◌, ◌<◌, ◌^◌, false, Option, Some, None}
use Rattle.yaml_emit_layout.specs.declared.Status.TheVariants.{Going}
use Rattle.yaml_emit_layout.specs.declared.level.Expected.{Expected}
use Rattle.yaml_emit_layout.specs.declared.level.Expected.TheVariants as at
use Rattle.yaml_emit_layout.specs.declared.problem.Problem.{Problem}
use Rattle.yaml_emit_output.specs.Sheet.{Holds, IsWritten, output_of}
use Rattle.yaml_emit_core.specs.declared.emitter.Core.TheInside.{Inside}
use Rattle.yaml_emit_core.specs.Levels.{place_of}
use Rattle.yaml_emit_core.specs.Pages.{IsOf}
use Rattle.yaml_emit_core.specs.Steps.{Core}

-- a rejected event replaces what is expected
abbrev pub place_by : Option Problem → Expected → Expected
place_by None p = p
place_by (Some q) p = at.Refused q

abbrev pub core_of : Inside → Core
core_of c = record {
  settings = c.settings;
  sink = output_of c.output c.draft.output;
  place = place_by c.refused (place_of c.levels.state c.unended);
  levels = c.levels.levels;
  directives = c.directives;
  starved = c.starved;
}

-- the draft is of the settings, and while the output goes on all of its text is there
pub record IsCore (c : Inside) : Type 0 where
  pub on : IsOf c.settings c.draft
  pub encoding : c.settings.encoding ≡ c.output.encoding
  pub step : c.settings.indent < 2 ^ 31
  pub written : (output_of c.output c.draft.output).status ≡ Going
      → IsWritten c.output c.draft.output
  pub holds : c.output.full ≡ false → Holds c.output c.draft.output.bytes
