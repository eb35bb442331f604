-- Stands that an emitter may have.
use Rattle.std.proofs.Common.{◌≡◌, ◌<◌, ◌^◌, List, [], ◌∷◌, ◌++◌, reverse, true, refl, sym, subst, arith, Option, Some, None}
use Rattle.std.specs.List.{list_all}
use Rattle.std.proofs.lemmas.List.{reverse-append}
use Rattle.std.proofs.lemmas.Bool.{and_parts, leb-true}
use Rattle.yaml_emit_layout.specs.declared.Level.{Level}
use Rattle.yaml_emit_layout.specs.declared.Expected.{Expected}
use Rattle.yaml_emit_layout.specs.declared.Expected.TheVariants as at
use Rattle.yaml_emit_layout.specs.declared.Problem.{Problem}
use Rattle.yaml_emit_layout.specs.Nodes.{MOST}
use Rattle.yaml_emit_core.specs.Levels.{AreNarrow, stack}
use Rattle.yaml_emit_core.specs.Standing.{IsPlaced, IsStand}
use Rattle.yaml_emit_core.specs.declared.yaml_emitter_stand_t.{yaml_emitter_stand_t}
use Rattle.yaml_emit_machine.specs.Resuming.{is_narrow}

narrow_one : (l : Level) → is_narrow l ≡ true → l.indent < 2 ^ 31
narrow_one l h = let few = leb-true l.indent MOST h in omega (arith, few)

none_narrow : AreNarrow []
unfolding AreNarrow
none_narrow = tt

narrow_more : (l : Level) (ls : List Level) → is_narrow l ≡ true → AreNarrow ls → AreNarrow (l ∷ ls)
unfolding AreNarrow
narrow_more l ls h k = (narrow_one l h, k)

narrow_behind : (xs : List Level) (l : Level) → AreNarrow xs → is_narrow l ≡ true
    → AreNarrow (xs ++ l ∷ [])
unfolding AreNarrow
narrow_behind [] l h k = (narrow_one l k, tt)
narrow_behind (x ∷ xs) l h k = (h.0, narrow_behind xs l h.1 k)

-- the innermost first
narrow_round : (ls : List Level) → list_all is_narrow ls ≡ true → AreNarrow (reverse ls)
narrow_round [] h = none_narrow
narrow_round (l ∷ ls) h =
    let p = and_parts (is_narrow l) (list_all is_narrow ls) h in
    subst AreNarrow (sym (reverse-append (l ∷ []) ls)) (narrow_behind (reverse ls) l (narrow_round ls p.1) p.0)

none_placed : (place : Expected) → IsPlaced place None
none_placed at.StreamStart = refl
none_placed (at.Documents first unended) = refl
none_placed at.Node = tt
none_placed at.DocumentEnd = refl
none_placed at.End = refl
none_placed (at.Refused p) = tt

pub node_placed : (innermost : Option Level) → IsPlaced at.Node innermost
node_placed innermost = tt

pub refused_placed : (p : Problem) (innermost : Option Level) → IsPlaced (at.Refused p) innermost
refused_placed p innermost = tt

pub stands_outside : (stand : yaml_emitter_stand_t) (outer : List Level) → stand.innermost ≡ None
    → IsStand stand outer
stands_outside stand outer none = record {
  place = subst (IsPlaced stand.place) (sym none) (none_placed stand.place);
  narrow = subst (λ (o : Option Level). AreNarrow (stack o outer)) (sym none) none_narrow;
}

pub stands_inside : (stand : yaml_emitter_stand_t) (l : Level) (outer : List Level)
    → stand.innermost ≡ Some l → IsPlaced stand.place (Some l) → is_narrow l ≡ true
    → list_all is_narrow outer ≡ true → IsStand stand outer
stands_inside stand l outer some placed h k = record {
  place = subst (IsPlaced stand.place) (sym some) placed;
  narrow = subst (λ (o : Option Level). AreNarrow (stack o outer)) (sym some) (narrow_more l (reverse outer) h (narrow_round outer k));
}
