-- With the sides turned the cause is turned.
use Rattle.std.proofs.Common.{◌≡◌, ◌∙◌, ap, refl, ℕ, List, Bool, true, false, if◌then◌else◌, Option, Some, None, nat_eq}
use Rattle.std.specs.Cmp.Lexicographic.{pointwise, nat_list_eq_equiv}
use Rattle.yaml_round.specs.declared.yaml_cause_t.{yaml_cause_t}
use Rattle.yaml_round.specs.declared.yaml_cause_t.TheVariants.{Anchor, Tag, Value}
use Rattle.yaml_round.specs.parse_model.Events.{EventBody}
use Rattle.yaml_round.specs.parse_model.Events as event
use Rattle.yaml_round_engine.specs.Causes.{cause_of, next_cause, quotes_or_anchor, same_tag, tag_or}
use Rattle.yaml_round_laws.specs.Partings.{turned_cause}

tags_turned : (t u : Option (List ℕ)) → same_tag u t ≡ same_tag t u
tags_turned None None = refl
tags_turned None (Some u) = refl
tags_turned (Some t) None = refl
tags_turned (Some t) (Some u) = nat_list_eq_equiv.symm u t

chosen : (b : Bool) (c d : yaml_cause_t)
    → (if b then turned_cause c else turned_cause d) ≡ turned_cause (if b then c else d)
chosen true c d = refl
chosen false c d = refl

-- what is left where texts or tags are the same
either_turned : (b e : Bool) (c d f : yaml_cause_t) → e ≡ b → d ≡ turned_cause c
    → f ≡ turned_cause f → (if e then d else f) ≡ turned_cause (if b then c else f)
either_turned b e c d f p q r =
    ap (λ (z : Bool). if z then d else f) p ∙ ap (λ (z : yaml_cause_t). if b then z else f) q ∙ ap (λ (z : yaml_cause_t). if b then turned_cause c else z) r ∙ chosen b c f

plain_turned : (p q : Bool) → quotes_or_anchor q p ≡ turned_cause (quotes_or_anchor p q)
plain_turned true true = refl
plain_turned true false = refl
plain_turned false true = refl
plain_turned false false = refl

tag_or_turned : (t u : Option (List ℕ)) (c d : yaml_cause_t) → d ≡ turned_cause c
    → tag_or u t d ≡ turned_cause (tag_or t u c)
tag_or_turned t u c d q = either_turned (same_tag t u) (same_tag u t) c d Tag (tags_turned t u) q refl

scalars_turned : (text words : List ℕ) (t u : Option (List ℕ)) (p r : Bool)
    → (if pointwise nat_eq words text then tag_or u t (quotes_or_anchor r p) else Value)
    ≡ turned_cause (if pointwise nat_eq text words then tag_or t u (quotes_or_anchor p r) else Value)
scalars_turned text words t u p r =
    either_turned (pointwise nat_eq text words) (pointwise nat_eq words text) (tag_or t u (quotes_or_anchor p r)) (tag_or u t (quotes_or_anchor r p)) Value
    (nat_list_eq_equiv.symm words text) (tag_or_turned t u (quotes_or_anchor p r) (quotes_or_anchor r p) (plain_turned p r)) refl

pub cause_turned : (a b : EventBody) → cause_of b a ≡ turned_cause (cause_of a b)
cause_turned (event.document_start v d i) (event.document_start w e j) = refl
cause_turned (event.alias name) (event.alias other) = refl
cause_turned (event.scalar anchor t text p q style) (event.scalar other u words r s as_style) = scalars_turned text words t u p r
cause_turned (event.sequence_start anchor t i style) (event.sequence_start other u j as_style) = tag_or_turned t u Anchor Anchor refl
cause_turned (event.mapping_start anchor t i style) (event.mapping_start other u j as_style) = tag_or_turned t u Anchor Anchor refl
cause_turned event.no event.no = refl
cause_turned (event.stream_start e) (event.stream_start f) = refl
cause_turned event.stream_end event.stream_end = refl
cause_turned (event.document_end i) (event.document_end j) = refl
cause_turned event.sequence_end event.sequence_end = refl
cause_turned event.mapping_end event.mapping_end = refl
cause_turned a b = refl

pub next_turned : (a b : Option EventBody) → next_cause b a ≡ turned_cause (next_cause a b)
next_turned (Some a) (Some b) = cause_turned a b
next_turned (Some a) None = refl
next_turned None (Some b) = refl
next_turned None None = refl
