use Rattle.std.proofs.Common.{sym, ◌∙◌, true≢false}
use Rattle.yaml_emit_laws.proofs.SingleWritten.{single_back}
use Rattle.yaml_emit_laws.proofs.Parts.{single_spelling_reads}
use Rattle.yaml_emit_laws.proofs.scalar_laws.single_is_read_back.Goals as goal

-- a value of one line has no lines to indent
pub returns : goal.returns
returns c page cursor value u cuts a one =
    let r = single_back single_spelling_reads page cursor value u cuts (λ e. absurd (true≢false (sym one ∙ e))) a in
    record { letters = r.letters; behind = r.behind; written = r.written; read = r.read }
