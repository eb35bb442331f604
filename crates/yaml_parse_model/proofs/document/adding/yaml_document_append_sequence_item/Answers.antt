use Rattle.std.proofs.Common.{w32, sym, subst, refl, ◌∙◌, ap}
use Rattle.std.proofs.lemmas.Int.{to_z-of_z}
use Rattle.yaml_parse_model.specs.Documents.{item_count, with_item, IsSequenceBody}
use Rattle.yaml_parse_model.proofs.Sizing.{Keeps, appended_keeps, item_sized}
use Rattle.yaml_parse_model.proofs.Sound.{appended, item_sound, some_id}
use Rattle.yaml_parse_model.proofs.document.adding.yaml_document_append_sequence_item.Goals as goal

pub returns-clause-appends : goal.returns-clause-appends
returns-clause-appends c =
    (appended IsSequenceBody _ (with_item c.args.item) item_count _ _ _ _ _ _ _ _ (ap with_item (to_z-of_z w32 c.args.item c.ranges.item)) c.document.view_is
    (sym (to_z-of_z w32 c.args.sequence c.ranges.sequence) ∙ c.node_place.ensures) c.requires.sequence c.index_mut.ensures.value refl c.push_item.ensures).0

pub invariant_of-document : goal.invariant_of-document
invariant_of-document c =
    appended_keeps (with_item c.args.item) item_count c.args.document.now _ c.args.sequence _
    (appended IsSequenceBody _ (with_item c.args.item) item_count _ _ _ _ _ _ _ _ (ap with_item (to_z-of_z w32 c.args.item c.ranges.item)) c.document.view_is
    (sym (to_z-of_z w32 c.args.sequence c.ranges.sequence) ∙ c.node_place.ensures) c.requires.sequence c.index_mut.ensures.value refl c.push_item.ensures)
    (item_sound _ _ (some_id _ _ c.requires.item)) (item_sized _) (subst Keeps c.document.view_is c.document.invariant)

pub returns-clause-room : goal.returns-clause-room
returns-clause-room c =
    (appended IsSequenceBody _ (with_item c.args.item) item_count _ _ _ _ _ _ c.push_item.new.node _ (ap with_item (to_z-of_z w32 c.args.item c.ranges.item)) c.document.view_is
    (sym (to_z-of_z w32 c.args.sequence c.ranges.sequence) ∙ c.node_place.ensures) c.requires.sequence c.index_mut.ensures.value refl c.push_item.ensures).1
