-- What the borrowed parts of an event say.
use Rattle.std.proofs.Common.{◌≡◌, ℕ, List, Bool, true, false, refl, subst, ◌∙◌}
use Rattle.std.specs.Prelude.{Option, Some, None, option_map, ◌||◌}
use Rattle.std.specs.Option.{is_some}
use Rattle.yaml_scan_types.specs.declared.name.yaml_scalar_style_t.{yaml_scalar_style_t}
use Rattle.yaml_emit_layout.specs.Content as said
use Rattle.yaml_emit_layout.specs.Grammar.{has}
use Rattle.yaml_emit_core.specs.Levels.{opening}
use Rattle.yaml_emit_core.specs.Steps.{Core, LaysOut}

has_is : {X : Type 0} (f : X → List ℕ) (t : Option X) → is_some t ≡ has (option_map f t)
has_is f None = refl
has_is f (Some x) = refl

-- a scalar has a tag or may be untagged
pub flagged : {X : Type 0} (f : X → List ℕ) (t : Option X) (b flags : Bool) → b ≡ is_some t
    → (b || flags) ≡ (has (option_map f t) || flags)
flagged f t b flags e = λ i. (e ∙ has_is f t) i || flags

-- an event in other words
pub start_same : (sequence : Bool) (old new : Core) (empty : Bool) (a b t u : Option (List ℕ))
    (m x y : Bool) → a ≡ b → t ≡ u → x ≡ y
    → LaysOut old new (opening sequence (record { anchor = a; tag = t; implicit = m; flow = x })) empty
    → LaysOut old new (opening sequence (record { anchor = b; tag = u; implicit = m; flow = y })) empty
start_same sequence old new empty a b t u m x y e f g h =
    let P : said.Start → Type 0 = λ z. LaysOut old new (opening sequence z) empty in
    subst P (λ i. record { anchor = e i; tag = f i; implicit = m; flow = g i }) h
