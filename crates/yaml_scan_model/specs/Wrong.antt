-- Why no lexeme is at a place, and the refusal that says it.
use Rattle.std.specs.Prelude.{ℕ, List}
use Rattle.yaml_scan_types.specs.declared.record.yaml_mark_t.{yaml_mark_t}
use Rattle.yaml_scan_model.specs.declared.problem.Problem.{Problem}
use Rattle.yaml_scan_model.specs.declared.problem.Context.{Context}
use Rattle.yaml_scan_model.specs.declared.problem.ScanFault.{ScanFault}
use Rattle.yaml_scan_types.specs.Marks.{mark_at}

-- a problem, what was being read, and the place of the first character that doesn't fit
pub record Wrong : Type 0 where
  pub problem : Problem
  pub context : Context
  pub place : ℕ

-- the fault of a lexeme that starts at that mark
abbrev pub scan_fault : List ℕ → yaml_mark_t → Wrong → ScanFault
scan_fault text start w = record {
  problem = w.problem;
  context = w.context;
  context_mark = start;
  problem_mark = mark_at text w.place;
}
