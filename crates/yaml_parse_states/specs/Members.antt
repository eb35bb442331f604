-- The ghost members of a source's tokens, by those of the source.
use Rattle.std.specs.Prelude.{List, length, Option}
use Rattle.yaml_scan_model.specs.declared.record.yaml_mark_t.{yaml_mark_t}
use Rattle.yaml_scan_model.specs.scan_types.Tokens.{Token, token_of, body_of}
use Rattle.yaml_scan_model.specs.scan_types.Faults.{Fault}
use Rattle.yaml_scan_model.specs.declared.tokens.Tokens.{Ghosts}
use Rattle.yaml_scan_model.specs.Texts.{texts_in}
use Rattle.yaml_parse_states.specs.declared.source.SourceTokens.{SourceTokens}
use Rattle.yaml_parse_states.specs.SourceComing.{coming, fault_coming, held_if, left_of, Tells}

abbrev pub members_of : {S : Type 0} → (S → List Token) → (S → Option Fault)
    → Ghosts (SourceTokens S) yaml_mark_t
members_of to_come fault_to_come = record {
  to_come = λ s. coming s.fault s.is_next (token_of s.token) (to_come s.source);
  fault_to_come = λ s. fault_coming s.fault (fault_to_come s.source);
  mark_of = λ s p. p;
  texts = λ s. texts_in (body_of s.token.body);
  tells = λ s b. Tells s.fault s.is_next b;
  unasked = λ s. length (left_of s.fault (to_come s.source));
  held = λ s. held_if s.fault s.is_next;
}
