use Rattle.yaml_emit_laws.proofs.ColumnsDepths.{by_depth}
use Rattle.yaml_emit_laws.proofs.ColumnsEvents.{events_tell}
use Rattle.yaml_emit_laws.proofs.ColumnsRows.{rows_hold}
use Rattle.yaml_emit_laws.proofs.ColumnsForgetting.{forget}
use Rattle.yaml_emit_laws.proofs.ColumnsValues.{values}
use Rattle.yaml_emit_laws.proofs.SizesLaid.{by_content}
use Rattle.yaml_emit_laws.proofs.SizesEscapes.{short}
use Rattle.yaml_emit_laws.proofs.columns_laws.laws_of_columns.Goals as goal

pub returns-clause-columns_are_by_depth : goal.returns-clause-columns_are_by_depth
returns-clause-columns_are_by_depth c = by_depth

pub returns-clause-events_tell_columns : goal.returns-clause-events_tell_columns
returns-clause-events_tell_columns c = events_tell

pub returns-clause-rows_of_columns_hold : goal.returns-clause-rows_of_columns_hold
returns-clause-rows_of_columns_hold c = rows_hold

pub returns-clause-blocks_forget_columns : goal.returns-clause-blocks_forget_columns
returns-clause-blocks_forget_columns c = forget

pub returns-clause-values_stand_by_keys : goal.returns-clause-values_stand_by_keys
returns-clause-values_stand_by_keys c = values

pub returns-clause-sizes_are_by_content : goal.returns-clause-sizes_are_by_content
returns-clause-sizes_are_by_content c = by_content

pub returns-clause-escapes_are_short : goal.returns-clause-escapes_are_short
returns-clause-escapes_are_short c = short
