-- Every event leaves a document in the making sound, and the document that it ends is sound.
use Rattle.std.proofs.Common.{◌≡◌, ◌≤◌, ℕ, suc, ℤ, List, [], ◌∷◌, ◌++◌, length, Option, Some, None, IsUtf8, IfSome, sym, subst, arith}
use Rattle.std.proofs.lemmas.Bool.{cond_both}
use Rattle.std.proofs.lemmas.Option.{IfSome_then}
use Rattle.std.specs.Ordering.{nat_cmp, eq_by_cmp}
use Rattle.std.specs.Cmp.Lexicographic.{slice_cmp, nat_list_cmp_total}
use Rattle.std.specs.FinMap as map
use Rattle.yaml_parse_model.specs.declared.yaml_mark_t.{yaml_mark_t}
use Rattle.yaml_parse_model.specs.Events.{EventBody}
use Rattle.yaml_parse_model.specs.Events as event
use Rattle.yaml_parse_model.specs.Constructors.{IsUtf8Option, HasUtf8}
use Rattle.yaml_parse_model.specs.Nodes.{Node, NodeBody}
use Rattle.yaml_parse_model.specs.Documents.{IsDocument, IsId, IsSoundBody, IsSoundNode, AreSound, change_place, str_tag, seq_tag, map_tag}
use Rattle.yaml_parse_model.proofs.Sound.{wider_id, wider_ids, wider_pairs, with_node_sound, length_push, length_change, sound_change, sound_ids_push, sound_pairs_push, str_utf8, seq_utf8, map_utf8}
use Rattle.yaml_parse_loader.specs.Anchors.{Anchors}
use Rattle.yaml_parse_loader.specs.Numbering.{is_bang, loaded_tag}
use Rattle.yaml_parse_loader.specs.Loading.{Open, Loading, nothing_loaded, attached, attach, next, with_leaf, with_open, filled, filled_body, place_of, closed, LoadStep, goes_on, loaded, refused, aliased, named, step_body}
use Rattle.yaml_parse_loader.specs.Sound.{IsSoundOpen, AreSoundOpen, AreAnchors, IsLoading}

abbrev pub FedSound : LoadStep → Type 0
FedSound (goes_on l) = IsLoading l
FedSound (loaded d) = IsDocument d
FedSound (refused f) = Unit {0}

-- ---- more nodes

wider_open : (m n : ℕ) (o : Open) → m ≤ n → IsSoundOpen m o → IsSoundOpen n o
wider_open m n o h s = grind (arith, wider_ids, wider_pairs, wider_id)

wider_levels : (m n : ℕ) (os : List Open) → m ≤ n → AreSoundOpen m os → AreSoundOpen n os
wider_levels m n [] h s = tt
wider_levels m n (o ∷ os) h s = (wider_open m n o h s.0, wider_levels m n os h s.1)

-- ---- numbers put where they belong

attached_sound : (m : ℕ) (id : ℤ) (o : Open) → IsId m id → IsSoundOpen m o
    → IsSoundOpen m (attached id o)
attached_sound m id o h s = grind (arith, sound_ids_push, sound_pairs_push)

attach_sound : (m : ℕ) (id : ℤ) (os : List Open) → IsId m id → AreSoundOpen m os
    → AreSoundOpen m (attach id os)
attach_sound m id os h s = grind (arith, attached_sound)

-- ---- a node more

leaf_sound : (l : Loading) (n : Node) (known : Anchors) → IsLoading l
    → IsSoundNode (length l.document.nodes) n → AreAnchors (suc (length l.document.nodes)) known
    → IsLoading (with_leaf l n known)
leaf_sound l n known s h a =
    let grown : suc (length l.document.nodes) ≡ length (l.document.nodes ++ n ∷ []) = sym (length_push l.document.nodes n) in
    record {
      document = with_node_sound l.document n s.document h;
      levels = subst (λ (k : ℕ). AreSoundOpen k (attach (next l) l.levels)) grown
          (attach_sound _ (next l) l.levels (omega arith) (wider_levels _ _ l.levels (omega arith) s.levels));
      anchors = subst (λ (k : ℕ). AreAnchors k known) grown a;
    }

open_sound : (l : Loading) (n : Node) (o : Open) (known : Anchors) → ((m : ℕ) → IsSoundOpen m o)
    → IsLoading (with_leaf l n known) → IsLoading (with_open l n o known)
open_sound l n o known empty s = record { document = s.document; levels = (empty _, s.levels); anchors = s.anchors }

-- ---- anchors

named_sound : (m : ℕ) (anchor : Option (List ℕ)) (new : ℤ) (known : Anchors) → AreAnchors m known
    → IsId m new → AreAnchors m (named anchor new known)
named_sound m None new known s h = s
named_sound m (Some name) new known s h = λ q.
    subst (λ (o : Option ℤ). IfSome o (λ i. IsId m i)) (sym (map.get-insert nat_list_cmp_total known name new q))
    (cond_both (eq_by_cmp (slice_cmp nat_cmp) q name) (Some new) (map.get known q) (λ o. IfSome o (λ i. IsId m i)) (λ _. h) (λ _. s q))

-- the anchors after one node more
next_sound : (l : Loading) (anchor : Option (List ℕ)) → IsLoading l
    → AreAnchors (suc (length l.document.nodes)) (named anchor (next l) l.anchors)
next_sound l anchor s = grind (arith, named_sound, IfSome_then, wider_id)

-- ---- tags

loaded_utf8 : (tag : Option (List ℕ)) (default : List ℕ) → IsUtf8 default → IsUtf8Option tag
    → IsUtf8 (loaded_tag tag default)
loaded_utf8 None default d h = d
loaded_utf8 (Some tag) default d h = cond_both (is_bang tag) default tag IsUtf8 (λ _. d) (λ _. h)

-- ---- a collection's end

filled_sound : (m : ℕ) (o : Open) (b : NodeBody) → IsSoundOpen m o → IsSoundBody m b
    → IsSoundBody m (filled_body o b)
filled_sound m o b s h = grind arith

closed_sound : (to : yaml_mark_t) (l : Loading) (os : List Open) → IsLoading l
    → AreSoundOpen (length l.document.nodes) os → IsLoading (closed to l os)
closed_sound to l [] s h = s
closed_sound to l (o ∷ os) s h =
    let same : length l.document.nodes ≡ length (change_place (filled o to) (place_of o) l.document.nodes) = sym (length_change _ _ _) in
    record {
      document = record {
        directives = s.document.directives;
        nodes = subst (λ (k : ℕ). AreSound k (change_place (filled o to) (place_of o) l.document.nodes)) same
            (sound_change _ (filled o to) (place_of o) l.document.nodes (λ x t. (t.0, filled_sound _ o x.body h.0 t.1)) s.document.nodes);
      };
      levels = subst (λ (k : ℕ). AreSoundOpen k os) same h.1;
      anchors = subst (λ (k : ℕ). AreAnchors k l.anchors) same s.anchors;
    }

-- ---- each event

aliased_sound : (o : Option ℤ) (from : yaml_mark_t) (l : Loading) → IsLoading l
    → IfSome o (λ i. IsId (length l.document.nodes) i) → FedSound (aliased o from l)
aliased_sound o from l s h = grind (arith, attach_sound)

pub no_anchors : (m : ℕ) → AreAnchors m map.empty
no_anchors m name = subst (λ (o : Option ℤ). IfSome o (λ i. IsId m i)) (sym (map.get-empty (slice_cmp nat_cmp) name)) tt

pub nothing_sound : IsLoading nothing_loaded
nothing_sound = record { document = record { directives = tt; nodes = tt }; levels = tt; anchors = no_anchors 0 }

pub step_sound : (b : EventBody) (from to : yaml_mark_t) (l : Loading) → IsLoading l → HasUtf8 b
    → FedSound (step_body b from to l)
step_sound (event.document_start version directives implicit) from to l s h =
    record { document = record { directives = h; nodes = tt }; levels = tt; anchors = no_anchors 0 }
step_sound (event.document_end implicit) from to l s h = record { directives = s.document.directives; nodes = s.document.nodes }
step_sound (event.alias name) from to l s h = aliased_sound (map.get l.anchors name) from l s (s.anchors name)
step_sound (event.scalar anchor tag value plain quoted style) from to l s h =
    leaf_sound l _ _ s (loaded_utf8 tag str_tag str_utf8 h.1, h.2) (next_sound l anchor s)
step_sound (event.sequence_start anchor tag implicit style) from to l s h =
    open_sound l _ _ _ (λ m. tt) (leaf_sound l _ _ s (loaded_utf8 tag seq_tag seq_utf8 h.1, tt) (next_sound l anchor s))
step_sound event.sequence_end from to l s h = closed_sound to l l.levels s s.levels
step_sound (event.mapping_start anchor tag implicit style) from to l s h =
    open_sound l _ _ _ (λ m. (tt, tt)) (leaf_sound l _ _ s (loaded_utf8 tag map_tag map_utf8 h.1, tt) (next_sound l anchor s))
step_sound event.mapping_end from to l s h = closed_sound to l l.levels s s.levels
step_sound _ from to l s h = s
