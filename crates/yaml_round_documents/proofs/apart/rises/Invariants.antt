use Rattle.std.proofs.Common.{ℕ, ◌+◌, ◌<◌, get_or}
use Rattle.yaml_round_documents.proofs.apart.rises.Given as goal

-- the first numbers rise
abbrev pub invariant-loop-at : goal.invariant-loop-at
invariant-loop-at l = (k : ℕ) → k + 1 < l.at → get_or l.numbers k 0 < get_or l.numbers (k + 1) 0
