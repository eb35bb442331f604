-- The fault that a parser shows in its fields.
use Rattle.std.specs.Prelude.{pos, None, option_map, ◌≡◌, []}
use Rattle.yaml_scan_model.specs.declared.fault.yaml_fault_t.{yaml_fault_t}
use Rattle.yaml_scan_model.specs.declared.name.yaml_error_type_t.TheVariants.{YAML_NO_ERROR}
use Rattle.yaml_scan_model.specs.declared.fault.yaml_origin_t.TheVariants.{Parser}
use Rattle.yaml_scan_model.specs.scan_types.Tokens.{zero_mark}
use Rattle.yaml_scan_model.specs.scan_types.Faults.{Fault, fault_of}
use Rattle.yaml_parse_model.specs.declared.prefix.yaml_parser_t_prefix.{yaml_parser_t_prefix}

-- the fields, texts as bytes
abbrev pub prefix_of : yaml_parser_t_prefix → Fault
prefix_of p = record {
  kind = p.kind;
  problem = p.problem.now;
  offset = p.offset;
  number = p.value;
  problem_mark = p.problem_mark;
  context = option_map (λ t. t.now) p.context;
  context_mark = p.context_mark;
  origin = p.origin;
}

-- what is before any fault
abbrev pub no_fault : Fault
no_fault = record {
  kind = YAML_NO_ERROR;
  problem = [];
  offset = 0;
  number = pos 0;
  problem_mark = zero_mark;
  context = None;
  context_mark = zero_mark;
  origin = Parser;
}

abbrev pub IsPrefixOf : yaml_parser_t_prefix → yaml_fault_t → Type 0
IsPrefixOf p f = prefix_of p ≡ fault_of f
