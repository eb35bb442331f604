-- What a lexeme's kind decides.
use Rattle.std.specs.Prelude.{ℕ, ◌+◌, ◌-◌, Bool, true, false, not, ◌&&◌}
use Rattle.yaml_scan_history.specs.declared.kind.Kind.{Kind}
use Rattle.yaml_scan_history.specs.declared.kind.Kind.TheVariants as kinds

-- how many brackets are open after it: a closer at depth 0 closes none
abbrev pub depth_after : Kind → ℕ → ℕ
depth_after kinds.FlowSequenceStart d = d + 1
depth_after kinds.FlowMappingStart d = d + 1
depth_after kinds.FlowSequenceEnd d = d - 1
depth_after kinds.FlowMappingEnd d = d - 1
depth_after _ d = d

-- a simple key may begin with it
abbrev pub may_be_key : Kind → Bool
may_be_key kinds.FlowSequenceStart = true
may_be_key kinds.FlowMappingStart = true
may_be_key kinds.Alias = true
may_be_key kinds.Anchor = true
may_be_key kinds.Tag = true
may_be_key kinds.SingleQuoted = true
may_be_key kinds.DoubleQuoted = true
may_be_key kinds.Plain = true
may_be_key _ = false

-- it ends its depth's candidate; a `:` takes it, or finds none
abbrev pub cancels : Kind → Bool
cancels kinds.StreamEnd = true
cancels kinds.Directive = true
cancels kinds.DocumentStart = true
cancels kinds.DocumentEnd = true
cancels kinds.FlowSequenceEnd = true
cancels kinds.FlowMappingEnd = true
cancels kinds.FlowEntry = true
cancels kinds.BlockEntry = true
cancels kinds.KeyMark = true
cancels kinds.ValueMark = true
cancels kinds.Literal = true
cancels kinds.Folded = true
cancels _ = false

abbrev pub is_value : Kind → Bool
is_value kinds.ValueMark = true
is_value _ = false

-- it may open a block level
abbrev pub is_start : Kind → Bool
is_start kinds.BlockEntry = true
is_start kinds.KeyMark = true
is_start kinds.ValueMark = true
is_start _ = false

-- it is outside all block levels
abbrev pub is_outside : Kind → Bool
is_outside kinds.StreamEnd = true
is_outside kinds.Directive = true
is_outside kinds.DocumentStart = true
is_outside kinds.DocumentEnd = true
is_outside _ = false

abbrev pub is_end : Kind → Bool
is_end kinds.StreamEnd = true
is_end _ = false

-- a key may begin after it, without a break between them
abbrev pub allows_key : Kind → Bool → Bool → Bool
allows_key kinds.StreamStart block found = true
allows_key kinds.FlowSequenceStart block found = true
allows_key kinds.FlowMappingStart block found = true
allows_key kinds.FlowEntry block found = true
allows_key kinds.BlockEntry block found = true
allows_key kinds.Literal block found = true
allows_key kinds.Folded block found = true
allows_key kinds.KeyMark block found = block
allows_key kinds.ValueMark block found = block && not found
allows_key _ block found = false
