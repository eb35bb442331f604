-- What becomes of open collections, seen by views.
use Rattle.std.proofs.Common.{◌≡◌, ◌+◌, ◌≤◌, ℕ, zero, suc, ℤ, List, [], ◌∷◌, ◌++◌, map, length, reverse, take, Option, Some, Result, Ok, Err, refl, ap, sym, subst, ◌∙◌, arith, get_or}
use Rattle.std.specs.Prelude.{OnOk}
use Rattle.std.proofs.Math.ListN.{set}
use Rattle.std.proofs.lemmas.List.{length-set, map-append, reverse-append, take_all, take_more, take_more_set}
use Rattle.yaml_parse_model.specs.declared.yaml_mark_t.{yaml_mark_t}
use Rattle.yaml_parse_model.specs.declared.yaml_node_t.{yaml_node_t}
use Rattle.yaml_parse_model.specs.declared.yaml_text_fault_t.{yaml_text_fault_t}
use Rattle.yaml_parse_model.specs.Nodes.{Node, node_of}
use Rattle.yaml_parse_model.specs.Documents.{Document, change_place}
pub use Rattle.yaml_parse_model.proofs.Sound.{set_changes}
use Rattle.yaml_parse_loader.specs.declared.making.Level.{Level}
use Rattle.yaml_parse_loader.specs.declared.making.Fed.{Fed}
use Rattle.yaml_parse_loader.specs.Anchors.{Anchors}
use Rattle.yaml_parse_loader.specs.Loading.{Open, Loading, aliased, attached, attach, closed, filled, place_of}
use Rattle.yaml_parse_loader.specs.Sizes.{HasRoom, HaveRoom}
use Rattle.yaml_parse_loader.specs.Views.{level_of, levels_of, taken_by, Applies}

popped : (rest : List Level) (level : Level)
    → levels_of (rest ++ level ∷ []) ≡ level_of level ∷ levels_of rest
popped rest level = ap reverse (map-append level_of rest (level ∷ [])) ∙ reverse-append (map level_of rest) (level_of level ∷ [])

-- the last of a list changes: what is before it, and itself
last_set : (ls : List Level) (k : ℕ) (x : Level) → suc k ≡ length ls
    → set ls k x ≡ take k ls ++ x ∷ []
last_set ls k x h =
    sym (take_all (k + 1) (set ls k x) (omega (arith, h, length-set ls k x))) ∙ take_more_set ls k x (omega (arith, h))

last_is : (ls : List Level) (k : ℕ) (x : Level) → suc k ≡ length ls → x ≡ get_or ls k x
    → ls ≡ take k ls ++ x ∷ []
last_is ls k x h e = grind (arith, take_all, take_more)

pub attaches : (n m : ℤ) (ls : List Level) (k : ℕ) (old new : Level)
    (r : Result Unit yaml_text_fault_t) → m ≡ n → suc k ≡ length ls → old ≡ get_or ls k old
    → OnOk r ((level_of new ≡ attached m (level_of old)) × HasRoom (level_of old))
    → OnOk r ((levels_of (set ls k new) ≡ attach n (levels_of ls)) × HaveRoom (levels_of ls))
attaches n m ls k old new (Err f) i h e p = tt
attaches n m ls k old new (Ok u) i h e p =
    let before : levels_of ls ≡ level_of old ∷ levels_of (take k ls) = ap levels_of (last_is ls k old h e) ∙ popped (take k ls) old in
    let behind : levels_of (set ls k new) ≡ level_of new ∷ levels_of (take k ls) = ap levels_of (last_set ls k new h) ∙ popped (take k ls) new in (
      behind ∙ ap (λ o. o ∷ levels_of (take k ls)) (p.0 ∙ ap (λ (z : ℤ). attached z (level_of old)) i) ∙ sym (ap (attach n) before),
      subst HaveRoom (sym before) p.1,
    )

pub outside : (f : Node → Node) (items : List yaml_node_t) (k : ℕ) → length items ≤ k
    → change_place f k (map node_of items) ≡ map node_of items
outside f [] k h = refl
outside f (x ∷ items) zero h = absurd (omega arith)
outside f (x ∷ items) (suc k) h = ap (λ ns. node_of x ∷ ns) (outside f items k (omega arith))

abbrev pub at_levels : Document → List Node → List Open → Anchors → Loading
at_levels d ns ls known = record { document = record d { nodes = ns }; levels = ls; anchors = known }

-- A collection that is closed changes the node in its place, where one is there.
pub closes : (d : Document) (known : Anchors) (items : List yaml_node_t)
    (levels rest : List Level) (level : Level) (to : yaml_mark_t) (k : ℕ) (ns : List Node)
    → levels ≡ rest ++ level ∷ [] → k ≡ place_of (level_of level)
    → ns ≡ change_place (filled (level_of level) to) k (map node_of items)
    → at_levels d ns (levels_of rest) known
    ≡ closed to (at_levels d (map node_of items) (levels_of levels) known) (levels_of levels)
closes d known items levels rest level to k ns split h changed = grind (arith, popped, at_levels)

-- ---- what an event came to

pub takes_alias : (l : Loading) (found : Option ℤ) (n m : ℤ) (levels : List Open) (at : yaml_mark_t)
    (r : Result Unit yaml_text_fault_t) (v : Fed) → found ≡ Some n → m ≡ n → v ≡ taken_by r
    → OnOk r ((levels ≡ attach m l.levels) × HaveRoom l.levels)
    → Applies (aliased found at l) at (HaveRoom l.levels) v (record l { levels = levels })
takes_alias l found n m levels h r v f i e p = grind arith
