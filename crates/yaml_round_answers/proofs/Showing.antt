-- What records show of nodes.
use Rattle.std.proofs.Common.{◌≡◌, ℕ, Bool, true, false, List, refl, sym, subst, ap, ◌∙◌, Option, None, Some, map}
use Rattle.std.specs.Prelude.{zero, suc, ℤ, pos, negsuc, slice_get, option_map}
use Rattle.std.proofs.lemmas.Option.{slice_get-map}
use Rattle.yaml_parse_model.specs.Nodes.{NodeBody}
use Rattle.yaml_parse_model.specs.Nodes as node
use Rattle.yaml_emit_graph.specs.Graph.{place_at, child_ids, is_collection, body_of_id, body_at}
use Rattle.yaml_emit_graph.specs.Walk.{NextHeld}
use Rattle.yaml_round_answers.specs.declared.graph_record.yaml_c_node.{yaml_c_node}
use Rattle.yaml_round_answers.specs.Graphs.{part, holds, held_if, held_by, body_if, stand_in, record_in}

-- ---- the node under a number

abbrev body_in : List ℤ → Option yaml_c_node → NodeBody
body_in list None = node.no
body_in list (Some r) = body_if (holds r.kind) (held_by list r)

body_of_option : (list : List ℤ) (o : Option yaml_c_node)
    → body_at (option_map (stand_in list) o) ≡ body_in list o
body_of_option list None = refl
body_of_option list (Some r) = refl

body_there : (list : List ℤ) (rs : List yaml_c_node) (id : ℤ)
    → body_of_id (map (stand_in list) rs) id ≡ body_in list (record_in rs (place_at id))
body_there list rs (pos zero) = refl
body_there list rs (pos (suc k)) = ap body_at (slice_get-map (stand_in list) rs k) ∙ body_of_option list (slice_get rs k)
body_there list rs (negsuc n) = refl

-- the node under a number, where a record was found or not
body_found : (list : List ℤ) (rs : List yaml_c_node) (id : ℤ) (o : Option yaml_c_node)
    → o ≡ record_in rs (place_at id) → body_of_id (map (stand_in list) rs) id ≡ body_in list o
body_found list rs id o is = body_there list rs id ∙ ap (body_in list) (sym is)

-- whether what is held makes a collection
pub is_held : (b : Bool) (held : List ℤ) → is_collection (body_if b held) ≡ b
is_held true held = refl
is_held false held = refl

ids_if : (b : Bool) (o : Option (List ℤ)) → child_ids (body_if b (held_if b o)) ≡ held_if b o
ids_if true o = refl
ids_if false o = refl

pub ids_held : (list : List ℤ) (r : yaml_c_node)
    → child_ids (body_if (holds r.kind) (held_by list r)) ≡ held_by list r
unfolding held_by
ids_held list r = ids_if (holds r.kind) (part list r.first r.count)

pub child_of : (list : List ℤ) (rs : List yaml_c_node) (id : ℤ) (i : ℕ) (o : Option yaml_c_node)
    (r : yaml_c_node) (held : List ℤ) (next : Option ℤ)
    → o ≡ record_in rs (place_at id) → o ≡ Some r → held ≡ held_by list r → NextHeld held i next
    → NextHeld (child_ids (body_of_id (map (stand_in list) rs) id)) i next
child_of list rs id i o r held next is there h n =
    let P : List ℤ → Type 0 = λ z. NextHeld z i next in
    subst P (h ∙ sym (ids_held list r) ∙ sym (ap child_ids (body_found list rs id o is ∙ ap (body_in list) there))) n
