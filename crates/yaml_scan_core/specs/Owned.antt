-- Tokens with texts of their own.
use Rattle.std.specs.Prelude.{◌+◌, ◌≡◌, ◌≤◌, ◌⊎◌, [], Some, Result, Ok, Err}
use Rattle.yaml_scan_model.specs.declared.fault.yaml_fault_t.{yaml_fault_t}
use Rattle.yaml_scan_model.specs.declared.fault.yaml_origin_t.TheVariants.{Scanner as OfScanner}
use Rattle.yaml_scan_model.specs.declared.name.yaml_scalar_style_t.{yaml_scalar_style_t}
use Rattle.yaml_scan_model.specs.declared.token.yaml_token_t.{yaml_token_t}
use Rattle.yaml_scan_model.specs.Coming.{MayAnswer, front_of}
use Rattle.yaml_scan_model.specs.scan_types.Faults.{Fault, fault_of, memory_fault}
use Rattle.yaml_scan_model.specs.scan_types.Tokens.{TokenBody, token_of}
use Rattle.yaml_scan_model.specs.scan_types.Tokens as tokens
use Rattle.yaml_scan_history.specs.History.{most_waiting}
use Rattle.yaml_scan_history.specs.Remaining.{Remaining}
use Rattle.yaml_scan_model.specs.Texts.{Texts}
use Rattle.yaml_scan_model.specs.declared.kind.Kind.{Kind}
use Rattle.yaml_scan_model.specs.declared.kind.Kind.TheVariants as kinds
use Rattle.yaml_scan_core.specs.declared.scanner.Scanner.{Scanner}
use Rattle.yaml_scan_core.specs.Asked.{behind_first}
use Rattle.yaml_scan_core.specs.Handed.{to_come}
use Rattle.yaml_scan_core.specs.Scanning.{fixed_of, read_by, taken_by}
use Rattle.yaml_scan_core.specs.Waiting.{IsShort, ReadsNeeded}

-- what a token of that kind carries, where it has no text
abbrev pub bare_with : Kind → TokenBody
bare_with kinds.StreamEnd = tokens.stream_end
bare_with kinds.DocumentStart = tokens.document_start
bare_with kinds.DocumentEnd = tokens.document_end
bare_with kinds.BlockSequenceStart = tokens.block_sequence_start
bare_with kinds.BlockMappingStart = tokens.block_mapping_start
bare_with kinds.BlockEnd = tokens.block_end
bare_with kinds.FlowSequenceStart = tokens.flow_sequence_start
bare_with kinds.FlowSequenceEnd = tokens.flow_sequence_end
bare_with kinds.FlowMappingStart = tokens.flow_mapping_start
bare_with kinds.FlowMappingEnd = tokens.flow_mapping_end
bare_with kinds.BlockEntry = tokens.block_entry
bare_with kinds.FlowEntry = tokens.flow_entry
bare_with kinds.Key = tokens.key
bare_with kinds.Value = tokens.value
bare_with _ = tokens.no

-- the same, with that style and those texts
abbrev pub body_with : Kind → yaml_scalar_style_t → Texts → TokenBody
body_with kinds.StreamStart style u = tokens.stream_start u.encoding
body_with kinds.VersionDirective style u = tokens.version_directive u.major u.minor
body_with kinds.TagDirective style u = tokens.tag_directive u.handle u.suffix
body_with kinds.BadPrefix style u = tokens.tag_directive u.handle u.suffix
body_with kinds.Alias style u = tokens.alias u.value
body_with kinds.Anchor style u = tokens.anchor u.value
body_with kinds.Tag style u = tokens.tag u.handle u.suffix
body_with kinds.BadTag style u = tokens.tag u.handle u.suffix
body_with kinds.Scalar style u = tokens.scalar u.value style
body_with k style u = bare_with k

-- the first token is given, or memory ran out
abbrev pub GivesOwned : Remaining → Result yaml_token_t yaml_fault_t → Type 0
GivesOwned r (Ok t) = token_of t ≡ front_of r.tokens
GivesOwned r (Err f) = fault_of f ≡ memory_fault OfScanner

-- memory ran out, or no token is to come, and that fault is
abbrev pub IsRefused : Remaining → Fault → Type 0
IsRefused r f = (f ≡ memory_fault OfScanner) ⊎ ((r.tokens ≡ []) × (r.fault ≡ Some f))

-- The first token was given, and is taken: after the last the empty one, where no fault is to come. Or it was refused.
abbrev pub TellsOwned : Remaining → Scanner → Result yaml_token_t yaml_fault_t → Type 0
TellsOwned r new (Ok t) = (token_of t ≡ front_of r.tokens) × (to_come new ≡ behind_first r)
    × MayAnswer r.tokens r.fault
TellsOwned r new (Err f) = IsRefused r (fault_of f)

-- What giving a token came to where one lexeme is read at once: few wait, also while the token isn't taken, and none was read before
-- it was needed.
pub record OwnedNeeded (old new : Scanner) : Type 0 where
  pub fixed : fixed_of new ≡ fixed_of old
  pub taken : taken_by old ≤ taken_by new
  pub short : IsShort old → IsShort new
  pub few : IsShort old → read_by new ≤ taken_by old + most_waiting
  pub reads : ReadsNeeded old new
