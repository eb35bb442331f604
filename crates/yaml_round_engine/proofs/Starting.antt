-- Before the first event it is the input that begins with nothing.
use Rattle.std.proofs.Common.{◌≡◌, ◌&&◌, not, List, [], ◌∷◌, refl}
use Rattle.std.proofs.Math.Bool.{and-false}
use Rattle.yaml_scan_model.specs.declared.name.yaml_encoding_t.{yaml_encoding_t}
use Rattle.yaml_emit_layout.specs.Content.{Event, Opening, no_event, stream_start, stream_end, document_start, document_end, alias, scalar, sequence_start, sequence_end, mapping_start, mapping_end}
use Rattle.yaml_emit_layout.specs.Nodes.{is_directed}
use Rattle.yaml_round_content.specs.Flags.{begins_with_nothing}
use Rattle.yaml_round_engine.specs.declared.beginning.Beginning.TheVariants as known
use Rattle.yaml_round_engine.specs.Beginning.{nothing_comes}

behind_opening : (x : yaml_encoding_t) (o : Opening) (es : List Event)
    → nothing_comes known.Start (stream_start x ∷ document_start o ∷ es)
    ≡ begins_with_nothing (stream_start x ∷ document_start o ∷ es)
behind_opening x o [] = and-false (o.implicit && not (is_directed o))
behind_opening x o (scalar v ∷ es) = refl
behind_opening x o (no_event ∷ es) = and-false (o.implicit && not (is_directed o))
behind_opening x o (stream_start y ∷ es) = and-false (o.implicit && not (is_directed o))
behind_opening x o (stream_end ∷ es) = and-false (o.implicit && not (is_directed o))
behind_opening x o (document_start d ∷ es) = and-false (o.implicit && not (is_directed o))
behind_opening x o (document_end b ∷ es) = and-false (o.implicit && not (is_directed o))
behind_opening x o (alias name ∷ es) = and-false (o.implicit && not (is_directed o))
behind_opening x o (sequence_start q ∷ es) = and-false (o.implicit && not (is_directed o))
behind_opening x o (sequence_end ∷ es) = and-false (o.implicit && not (is_directed o))
behind_opening x o (mapping_start q ∷ es) = and-false (o.implicit && not (is_directed o))
behind_opening x o (mapping_end ∷ es) = and-false (o.implicit && not (is_directed o))

behind_start : (x : yaml_encoding_t) (es : List Event)
    → nothing_comes known.Start (stream_start x ∷ es) ≡ begins_with_nothing (stream_start x ∷ es)
behind_start x [] = refl
behind_start x (document_start o ∷ es) = behind_opening x o es
behind_start x (scalar v ∷ es) = refl
behind_start x (no_event ∷ es) = refl
behind_start x (stream_start y ∷ es) = refl
behind_start x (stream_end ∷ es) = refl
behind_start x (document_end b ∷ es) = refl
behind_start x (alias name ∷ es) = refl
behind_start x (sequence_start q ∷ es) = refl
behind_start x (sequence_end ∷ es) = refl
behind_start x (mapping_start q ∷ es) = refl
behind_start x (mapping_end ∷ es) = refl

-- Whether nothing is written at the beginning, found by events one after another, is what the
-- content's first events say.
pub from_start : (es : List Event) → nothing_comes known.Start es ≡ begins_with_nothing es
from_start [] = refl
from_start (stream_start x ∷ es) = behind_start x es
from_start (no_event ∷ es) = refl
from_start (stream_end ∷ es) = refl
from_start (document_start o ∷ es) = refl
from_start (document_end b ∷ es) = refl
from_start (alias name ∷ es) = refl
from_start (scalar v ∷ es) = refl
from_start (sequence_start q ∷ es) = refl
from_start (sequence_end ∷ es) = refl
from_start (mapping_start q ∷ es) = refl
from_start (mapping_end ∷ es) = refl
