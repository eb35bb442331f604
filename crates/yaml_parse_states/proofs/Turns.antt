-- What a step comes to: the state's turn, and the node that it awaits.
use Rattle.std.proofs.Common.{◌≡◌, ◌⊎◌, refl}
use Rattle.yaml_scan_model.specs.declared.tokens.Tokens.{Ghosts}
use Rattle.yaml_parse_states.specs.declared.parser.Parser.{Parser}
use Rattle.yaml_parse_states.specs.declared.parser.Turn.{Turn}
use Rattle.yaml_parse_states.specs.declared.parser.Turn.TheVariants as turn
use Rattle.yaml_parse_states.specs.Coming.{Coming}
use Rattle.yaml_parse_states.specs.Views.{coming_of}
use Rattle.yaml_parse_states.specs.Turned.{AwaitsNode, IsRefused, LacksMemory}
use Rattle.yaml_parse_states.specs.Nodes.{Found, wants_by}
use Rattle.yaml_parse_states.specs.Steps.{Turns}

pub awaits_of : {T P : Type 0} (g : Ghosts T P) (r : Turn) (old mid : Parser T P)
    → Turns g old r mid
    → (r ≡ turn.Given → ⊥) → (r ≡ turn.Refused → ⊥) → (r ≡ turn.End → ⊥)
    → AwaitsNode g (wants_by r mid.state) (coming_of g old) mid
awaits_of g turn.Given old mid h a b c = absurd (a refl)
awaits_of g turn.Refused old mid h a b c = absurd (b refl)
awaits_of g turn.End old mid h a b c = absurd (c refl)
awaits_of g r old mid h a b c = h

pub found_refusal : {T P : Type 0} (g : Ghosts T P) (was : Coming) (r : Turn) (new : Parser T P)
    → (r ≡ turn.Given → ⊥) → Found g was r new → IsRefused g was new ⊎ LacksMemory g was new
found_refusal g was turn.Given new n h = absurd (n refl)
found_refusal g was turn.Refused new n h = h
found_refusal g was r new n h = absurd h
