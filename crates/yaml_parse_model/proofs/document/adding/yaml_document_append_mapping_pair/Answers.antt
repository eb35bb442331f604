use Rattle.std.proofs.Common.{w32, sym, subst, refl, ◌∙◌}
use Rattle.std.proofs.lemmas.Int.{to_z-of_z}
use Rattle.yaml_parse_model.specs.Documents.{pair_count, with_pair, IsMappingBody}
use Rattle.yaml_parse_model.proofs.Sizing.{Keeps, appended_keeps, pair_sized}
use Rattle.yaml_parse_model.proofs.Sound.{pair_of, same_pair, appended, pair_sound, some_id}
use Rattle.yaml_parse_model.proofs.document.adding.yaml_document_append_mapping_pair.Goals as goal

pub returns-clause-appends : goal.returns-clause-appends
returns-clause-appends c =
    (appended IsMappingBody _ (with_pair (pair_of c.args.key c.args.value)) pair_count _ _ _ _ _ _ _ _ (same_pair (to_z-of_z w32 c.args.key c.ranges.key) (to_z-of_z w32 c.args.value c.ranges.value)) c.document.view_is
    (sym (to_z-of_z w32 c.args.mapping c.ranges.mapping) ∙ c.node_place.ensures) c.requires.mapping c.index_mut.ensures.value refl c.push_pair.ensures).0

pub invariant_of-document : goal.invariant_of-document
invariant_of-document c =
    appended_keeps (with_pair (pair_of c.args.key c.args.value)) pair_count c.args.document.now _ c.args.mapping _
    (appended IsMappingBody _ (with_pair (pair_of c.args.key c.args.value)) pair_count _ _ _ _ _ _ _ _ (same_pair (to_z-of_z w32 c.args.key c.ranges.key) (to_z-of_z w32 c.args.value c.ranges.value)) c.document.view_is
    (sym (to_z-of_z w32 c.args.mapping c.ranges.mapping) ∙ c.node_place.ensures) c.requires.mapping c.index_mut.ensures.value refl c.push_pair.ensures)
    (pair_sound _ _ (some_id _ _ c.requires.key, some_id _ _ c.requires.value)) (pair_sized _) (subst Keeps c.document.view_is c.document.invariant)

pub returns-clause-room : goal.returns-clause-room
returns-clause-room c =
    (appended IsMappingBody _ (with_pair (pair_of c.args.key c.args.value)) pair_count _ _ _ _ _ _ c.push_pair.new.node _ (same_pair (to_z-of_z w32 c.args.key c.ranges.key) (to_z-of_z w32 c.args.value c.ranges.value)) c.document.view_is
    (sym (to_z-of_z w32 c.args.mapping c.ranges.mapping) ∙ c.node_place.ensures) c.requires.mapping c.index_mut.ensures.value refl c.push_pair.ensures).1
