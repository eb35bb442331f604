-- What is known of a document in the making, event for event.
use Rattle.std.proofs.Common.{◌≡◌, ◌∙◌, refl, ap, sym, ℕ, ℤ, List, [], ◌∷◌, ◌++◌, Bool, true, false, cond, Option, None, Some, is_some, Vec}
use Rattle.std.specs.Prelude.{◌||◌}
use Rattle.std.specs.Global.{Global}
use Rattle.std.specs.BTreeSet.{insert_key}
use Rattle.std.specs.declared.cmp.Ordering.{Ordering}
use Rattle.std.specs.Ordering.{nat_cmp, is_eq}
use Rattle.std.specs.Cmp.Lexicographic.{slice_cmp, nat_list_cmp_total}
use Rattle.std.proofs.Math.Bool.{true≢false}
use Rattle.std.specs.FinMap.{FinMap, slice_cmp-IsAntisymmetric, nat_cmp-IsAntisymmetric}
use Rattle.std.specs.FinMap as map
use Rattle.std.specs.List.{list_any}
use Rattle.yaml_parse.specs.declared.yaml_mark_t.{yaml_mark_t}
use Rattle.yaml_parse.specs.Nodes.{Node}
use Rattle.yaml_parse.specs.Numbering.{is_same}
use Rattle.yaml_emit.proofs.Seeing.{any_inserted}
use Rattle.yaml_parse.specs.Loading.{Loading, goes_on, loaded, nothing_loaded, aliased, named, ended}
use Rattle.yaml_round_engine.specs.declared.known.Known.{Known}
use Rattle.yaml_round_engine.specs.declared.known.Passed.{Passed}
use Rattle.yaml_round_engine.specs.declared.known.Passed.TheVariants as passed
use Rattle.yaml_round_engine.specs.Knowing.{has_nodes, is_called, has_name, IsKnown, Follows, is_name, Names, Notes, IsUnknown, Ends, Asks}

abbrev Text : Type 0
Text = Vec ℕ Global

abbrev Anchors : Type 0
Anchors = FinMap (slice_cmp nat_cmp) ℤ

-- ---- names as they grow

abbrev order : Text → Text → Ordering
order a b = slice_cmp nat_cmp a.items b.items

-- a name more in the set
set_more : (name : List ℕ) (ks more : List Text) (k : Text) → more ≡ insert_key order ks k
    → list_any (is_called name) more ≡ (is_same name k.items || list_any (is_called name) ks)
set_more name ks more k e =
    ap (list_any (is_called name)) e
    ∙ any_inserted order (is_called name) k (λ x same. ap (λ z. is_eq (slice_cmp nat_cmp name z)) (sym (slice_cmp-IsAntisymmetric nat_cmp-IsAntisymmetric k.items x.items same))) ks

-- ---- nodes

pub appended : (ns : List Node) (n : Node) → has_nodes (ns ++ n ∷ []) ≡ true
appended [] n = refl
appended (m ∷ ns) n = refl

-- ---- the parts of an event

pub unknown : (k : Known) (l : Loading) → IsUnknown k → l.document.nodes ≡ []
    → l.anchors ≡ map.empty → IsKnown k l
unknown k l u n a = record {
  rooted = ap has_nodes n ∙ sym u.rooted;
  names = λ name.
      ap (λ (m : Anchors). is_some (map.get m name)) a
      ∙ ap is_some (map.get-empty (slice_cmp nat_cmp) name)
      ∙ sym (ap (list_any (is_called name)) u.names);
}

either : (b : Bool) (n : ℤ) (o : Option ℤ) → is_some (cond b (Some n) o) ≡ (b || is_some o)
either true n o = refl
either false n o = refl

anchored : (anchor : Option (List ℕ)) (n : ℤ) (ks : Anchors) (name : List ℕ)
    → is_some (map.get (named anchor n ks) name)
    ≡ (is_name name anchor || is_some (map.get ks name))
anchored None n ks name = refl
anchored (Some met) n ks name =
    ap (λ (o : Option ℤ). is_some o) (map.get-insert nat_list_cmp_total ks met n name) ∙ either (is_same name met) n (map.get ks name)

pub noted : (anchor : Option (List ℕ)) (n : ℤ) (old new : Known) (r : Passed) (l m : Loading)
    (at : yaml_mark_t) → Notes anchor old r new → IsKnown old l
    → has_nodes m.document.nodes ≡ true → m.anchors ≡ named anchor n l.anchors
    → Follows (goes_on m) at r new
noted anchor n old new passed.Starved l m at h k d e = tt
noted anchor n old new passed.On l m at h k d e = record {
  rooted = d ∙ sym h.0;
  names = λ name.
      ap (λ (ks : Anchors). is_some (map.get ks name)) e
      ∙ anchored anchor n l.anchors name
      ∙ ap (λ (b : Bool). is_name name anchor || b) (k.names name)
      ∙ sym (h.1 name);
}
noted anchor n old new passed.Over l m at h k d e = absurd h
noted anchor n old new passed.Undefined l m at h k d e = absurd h

pub ended_known : (old new : Known) (r : Passed) (l : Loading) (implicit : Bool)
    (at to : yaml_mark_t) → Ends old r new → IsKnown old l
    → Follows (loaded (ended l implicit to)) at r new
ended_known old new passed.Starved l implicit at to e h = tt
ended_known old new passed.On l implicit at to e h = (h.rooted ∙ e.0, unknown new nothing_loaded e.1 refl refl)
ended_known old new passed.Over l implicit at to e h = h.rooted ∙ e
ended_known old new passed.Undefined l implicit at to e h = absurd e

answered : (o : Option ℤ) (b : Bool) (k : Known) (r : Passed) (l : Loading) (at : yaml_mark_t)
    → is_some o ≡ b → Asks b r → IsKnown k l → Follows (aliased o at l) at r k
answered (Some n) b k passed.On l at e a h = record { rooted = h.rooted; names = h.names }
answered None b k passed.On l at e a h = absurd (true≢false (sym (e ∙ a)))
answered (Some n) b k passed.Undefined l at e a h = absurd (true≢false (e ∙ a))
answered None b k passed.Undefined l at e a h = refl
answered o b k passed.Over l at e a h = absurd a
answered o b k passed.Starved l at e a h = absurd a

pub asked : (name : List ℕ) (k : Known) (r : Passed) (l : Loading) (at : yaml_mark_t)
    → Asks (has_name name k) r → IsKnown k l
    → Follows (aliased (map.get l.anchors name) at l) at r k
asked name k r l at a h = answered (map.get l.anchors name) (has_name name k) k r l at (h.names name) a h

-- a name more in the set
pub put : (old new : Known) (anchor : List ℕ) (k : Text) → new.rooted ≡ old.rooted
    → k.items ≡ anchor → new.names.keys ≡ insert_key order old.names.keys k → Names anchor old new
put old new anchor k same items keys = (
  same,
  λ name.
      set_more name old.names.keys new.names.keys k keys
      ∙ ap (λ (x : List ℕ). is_same name x || has_name name old) items,
)
