-- The tokens of a session as a parser takes them: up to the first tag that isn't UTF-8.
use Rattle.std.specs.Prelude.{if◌then◌else◌, pos, codes, List, [], ◌∷◌, Option, Some, None}
use Rattle.yaml_parse_model.specs.declared.yaml_mark_t.{yaml_mark_t}
use Rattle.yaml_parse_model.specs.declared.yaml_error_type_t.TheVariants.{YAML_SCANNER_ERROR}
use Rattle.yaml_parse_model.specs.declared.yaml_origin_t.TheVariants.{Adapter}
use Rattle.yaml_parse_model.specs.scan_types.Tokens.{Token}
use Rattle.yaml_parse_model.specs.scan_types.Faults.{Fault}
pub use Rattle.yaml_parse_model.specs.Source.{spells_text}
use Rattle.yaml_scan_laws.specs.scan_history.Remaining.{Remaining}

-- the fault of a token whose tag isn't UTF-8, at its start
abbrev pub tag_fault : yaml_mark_t → Fault
tag_fault mark = record {
  kind = YAML_SCANNER_ERROR;
  problem = codes "found a tag that is not UTF-8";
  offset = 0;
  number = pos 0;
  problem_mark = mark;
  context = None;
  context_mark = mark;
  origin = Adapter;
}

abbrev pub with_token : Token → Remaining → Remaining
with_token t c = record { tokens = t ∷ c.tokens; fault = c.fault }

-- the tokens up to the first tag that isn't UTF-8, which its fault takes the place of
abbrev pub cut : Option Fault → List Token → Remaining
cut fault [] = record { tokens = []; fault = fault }
cut fault (t ∷ ts) = if spells_text t.body then with_token t (cut fault ts)
    else record { tokens = []; fault = Some (tag_fault t.start_mark) }

abbrev pub adapted : Remaining → Remaining
adapted c = cut c.fault c.tokens
