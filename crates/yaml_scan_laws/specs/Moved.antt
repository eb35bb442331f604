-- What is read of a text, as it is read of that text after others: d bytes and n lines further on.
use Rattle.std.specs.Prelude.{ℕ, ◌+◌}
use Rattle.yaml_scan_history.specs.scan_model.declared.record.yaml_mark_t.{yaml_mark_t}
use Rattle.yaml_scan_history.specs.scan_model.declared.problem.ScanFault.{ScanFault}
use Rattle.yaml_scan_history.specs.scan_types.Tokens.{Token}
use Rattle.yaml_scan_history.specs.scan_types.Faults.{Fault}
use Rattle.yaml_scan_history.specs.declared.lexeme.Lexeme.{Lexeme}
use Rattle.yaml_scan_history.specs.Next.{Next, Read, Fails, Ends}

abbrev pub moved_mark : ℕ → ℕ → yaml_mark_t → yaml_mark_t
moved_mark d n m = record { index = d + m.index; line = n + m.line; column = m.column }

abbrev pub moved_token : ℕ → ℕ → Token → Token
moved_token d n t = record {
  body = t.body;
  start_mark = moved_mark d n t.start_mark;
  end_mark = moved_mark d n t.end_mark;
}

abbrev pub moved_lexeme : ℕ → ℕ → Lexeme → Lexeme
moved_lexeme d n l = record {
  kind = l.kind;
  start = moved_mark d n l.start;
  end = moved_mark d n l.end;
  reached = moved_mark d n l.reached;
  depth = l.depth;
  level = l.level;
  saved = l.saved;
  required = l.required;
  broke = l.broke;
}

abbrev pub moved_scan_fault : ℕ → ℕ → ScanFault → ScanFault
moved_scan_fault d n f = record {
  problem = f.problem;
  context = f.context;
  context_mark = moved_mark d n f.context_mark;
  problem_mark = moved_mark d n f.problem_mark;
}

abbrev pub moved_fault : ℕ → ℕ → Fault → Fault
moved_fault d n f = record {
  kind = f.kind;
  problem = f.problem;
  offset = f.offset;
  number = f.number;
  problem_mark = moved_mark d n f.problem_mark;
  context = f.context;
  context_mark = moved_mark d n f.context_mark;
  origin = f.origin;
}

abbrev pub moved_next : ℕ → ℕ → Next → Next
moved_next d n (Read l) = Read (moved_lexeme d n l)
moved_next d n (Fails f) = Fails (moved_scan_fault d n f)
moved_next d n Ends = Ends
