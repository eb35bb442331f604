use Rattle.yaml_emit_laws.proofs.BlockWhole.{block_back, block_before_line, block_at_position, block_laid_out}
use Rattle.yaml_emit_laws.proofs.BlockLexemes.{block_is_next}
use Rattle.yaml_emit_laws.proofs.BlockHeader.{block_is_passed}
use Rattle.yaml_emit_laws.proofs.block_laws.laws_of_block_scalars.Goals as goal

pub returns-clause-block_is_read_back : goal.returns-clause-block_is_read_back
returns-clause-block_is_read_back c = block_back

pub returns-clause-block_before_line : goal.returns-clause-block_before_line
returns-clause-block_before_line c = block_before_line block_back

pub returns-clause-block_at_position : goal.returns-clause-block_at_position
returns-clause-block_at_position c = block_at_position block_back

pub returns-clause-block_is_laid_out : goal.returns-clause-block_is_laid_out
returns-clause-block_is_laid_out c = block_laid_out

pub returns-clause-block_is_next : goal.returns-clause-block_is_next
returns-clause-block_is_next c = block_is_next

pub returns-clause-block_is_passed : goal.returns-clause-block_is_passed
returns-clause-block_is_passed c = block_is_passed (block_at_position block_back)
