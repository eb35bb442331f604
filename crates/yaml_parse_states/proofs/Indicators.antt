-- The indicators after which a node may be, and what states refuse.
use Rattle.std.proofs.Common.{◌≡◌, ◌⊎◌, inl, inr, Bool, true, false, if◌then◌else◌, [], ◌∷◌, Some, None, refl, ap, ◌∙◌}
use Rattle.yaml_parse_model.specs.declared.yaml_mark_t.{yaml_mark_t}
use Rattle.yaml_parse_grammar.specs.declared.name.Choice.TheVariants.{Refuse, Take, Leave}
use Rattle.yaml_parse_grammar.specs.declared.name.Brackets.TheVariants as brackets
use Rattle.yaml_parse_grammar.specs.declared.name.Site.{Site}
use Rattle.yaml_parse_grammar.specs.declared.name.Site.TheVariants as site
use Rattle.yaml_parse_grammar.specs.declared.name.Side.{Side}
use Rattle.yaml_parse_grammar.specs.declared.name.Side.TheVariants as side
use Rattle.yaml_parse_grammar.specs.declared.problem.ParseProblem.TheVariants as problem
use Rattle.yaml_parse_grammar.specs.States as grammar
use Rattle.yaml_parse_grammar.specs.declared.name.Brackets.{Brackets}
use Rattle.yaml_parse_grammar.specs.Machine.{choice_at, follows, no_end, no_node, starts_node, wants_of}
use Rattle.yaml_scan_model.specs.declared.kind.Kind.{Kind}
use Rattle.yaml_scan_model.specs.declared.kind.Kind.TheVariants as kind
use Rattle.yaml_scan_model.specs.Kinds.{type_by}
use Rattle.yaml_parse_states.specs.declared.parser.State.{State}
use Rattle.yaml_parse_states.specs.declared.parser.State.TheVariants as state
use Rattle.yaml_parse_states.specs.Views.{side_of}
use Rattle.yaml_parse_states.specs.contracts.parser.State.{the_type}
use denote.Enum.Bare.{sameb}
use Rattle.yaml_parse_states.proofs.Parts.{IsIndicator}
use Rattle.yaml_parse_states.proofs.Places.{end_of}

pub dash_of_entries : (o : yaml_mark_t)
    → IsIndicator (grammar.entries o) kind.BlockEntry site.Entry (grammar.entries o ∷ [])
dash_of_entries o = record { takes = refl; gives = λ t. refl }

pub dash_of_others : (p : Side)
    → IsIndicator (grammar.others p) kind.BlockEntry (site.IndentlessEntry p) (grammar.others p ∷ [])
dash_of_others p = record { takes = refl; gives = λ t. refl }

pub key_of_pairs : (o : yaml_mark_t)
    → IsIndicator (grammar.pairs o) kind.Key (site.BlockPair side.Key)
    (grammar.colon (site.BlockPair side.Value) ∷ grammar.pairs o ∷ [])
key_of_pairs o = record { takes = refl; gives = λ t. refl }

pub colon_of : (p : Site) → IsIndicator (grammar.colon p) kind.Value p []
colon_of p = record { takes = refl; gives = λ t. refl }

pub key_of_items : (o : yaml_mark_t)
    → IsIndicator (grammar.items brackets.Mapping o) kind.Key (site.FlowPair brackets.Mapping side.Key)
    (grammar.colon (site.FlowPair brackets.Mapping side.Value) ∷ grammar.more brackets.Mapping o ∷ [])
key_of_items o = record { takes = refl; gives = λ t. refl }

-- ---- a kind that is one of some

pub one_of_two : (P : Kind → Bool) (b : Bool) (k x y : Kind) → (k ≡ x) ⊎ (k ≡ y)
    → P x ≡ b → P y ≡ b → P k ≡ b
one_of_two P b k x y (inl e) p q = ap P e ∙ p
one_of_two P b k x y (inr e) p q = ap P e ∙ q

pub one_of_three : (P : Kind → Bool) (b : Bool) (k x y z : Kind)
    → (k ≡ x) ⊎ ((k ≡ y) ⊎ (k ≡ z)) → P x ≡ b → P y ≡ b → P z ≡ b → P k ≡ b
one_of_three P b k x y z (inl e) p q r = ap P e ∙ p
one_of_three P b k x y z (inr e) p q r = one_of_two P b k y z e q r

-- ---- and none of some

pub entry_stays : (k : Kind) → (k ≡ kind.BlockEntry → ⊥) → (k ≡ kind.BlockEnd → ⊥)
    → follows site.Entry (type_by k) ≡ false
entry_stays kind.BlockEntry a b = absurd (a refl)
entry_stays kind.BlockEnd a b = absurd (b refl)
entry_stays k a b = refl

pub pair_key_stays : (k : Kind) → (k ≡ kind.Key → ⊥) → (k ≡ kind.Value → ⊥)
    → (k ≡ kind.BlockEnd → ⊥) → follows (site.BlockPair side.Key) (type_by k) ≡ false
pair_key_stays kind.Key a b c = absurd (a refl)
pair_key_stays kind.Value a b c = absurd (b refl)
pair_key_stays kind.BlockEnd a b c = absurd (c refl)
pair_key_stays k a b c = refl

pub pair_value_stays : (k : Kind) → (k ≡ kind.Key → ⊥) → (k ≡ kind.BlockEnd → ⊥)
    → follows (site.BlockPair side.Value) (type_by k) ≡ false
pair_value_stays kind.Key a b = absurd (a refl)
pair_value_stays kind.BlockEnd a b = absurd (b refl)
pair_value_stays k a b = refl

pub entries_refuse : (k : Kind) (o : yaml_mark_t) → (k ≡ kind.BlockEntry → ⊥)
    → (k ≡ kind.BlockEnd → ⊥)
    → choice_at (grammar.entries o) (type_by k) ≡ Refuse problem.NoDash (Some o)
entries_refuse kind.BlockEntry o a b = absurd (a refl)
entries_refuse kind.BlockEnd o a b = absurd (b refl)
entries_refuse k o a b = refl

pub pairs_refuse : (k : Kind) (o : yaml_mark_t) → (k ≡ kind.Key → ⊥) → (k ≡ kind.BlockEnd → ⊥)
    → choice_at (grammar.pairs o) (type_by k) ≡ Refuse problem.NoKey (Some o)
pairs_refuse kind.Key o a b = absurd (a refl)
pairs_refuse kind.BlockEnd o a b = absurd (b refl)
pairs_refuse k o a b = refl

pub colon_leaves : (k : Kind) (p : Site) → (k ≡ kind.Value → ⊥)
    → choice_at (grammar.colon p) (type_by k) ≡ Leave
colon_leaves kind.Value p a = absurd (a refl)
colon_leaves k p a = refl

-- ---- in brackets

pub flow_key_stays : (b : Brackets) (k : Kind) → (k ≡ kind.Value → ⊥) → (k ≡ kind.FlowEntry → ⊥)
    → (k ≡ end_of b → ⊥) → follows (site.FlowPair b side.Key) (type_by k) ≡ false
flow_key_stays b kind.Value u v w = absurd (u refl)
flow_key_stays b kind.FlowEntry u v w = absurd (v refl)
flow_key_stays brackets.Sequence kind.FlowSequenceEnd u v w = absurd (w refl)
flow_key_stays brackets.Mapping kind.FlowMappingEnd u v w = absurd (w refl)
flow_key_stays brackets.Sequence k u v w = refl
flow_key_stays brackets.Mapping k u v w = refl

pub flow_value_stays : (b : Brackets) (k : Kind) → (k ≡ kind.FlowEntry → ⊥) → (k ≡ end_of b → ⊥)
    → follows (site.FlowPair b side.Value) (type_by k) ≡ false
flow_value_stays b kind.FlowEntry v w = absurd (v refl)
flow_value_stays brackets.Sequence kind.FlowSequenceEnd v w = absurd (w refl)
flow_value_stays brackets.Mapping kind.FlowMappingEnd v w = absurd (w refl)
flow_value_stays brackets.Sequence k v w = refl
flow_value_stays brackets.Mapping k v w = refl

pub more_refuse : (b : Brackets) (k : Kind) (o : yaml_mark_t) → (k ≡ kind.FlowEntry → ⊥)
    → (k ≡ end_of b → ⊥) → choice_at (grammar.more b o) (type_by k) ≡ Refuse (no_end b) (Some o)
more_refuse b kind.FlowEntry o v w = absurd (v refl)
more_refuse brackets.Sequence kind.FlowSequenceEnd o v w = absurd (w refl)
more_refuse brackets.Mapping kind.FlowMappingEnd o v w = absurd (w refl)
more_refuse brackets.Sequence k o v w = refl
more_refuse brackets.Mapping k o v w = refl

-- a node is left out where the token may follow it
pub choice_follows : (p : Site) (m : yaml_mark_t) (k : Kind) → follows p (type_by k) ≡ true
    → choice_at (grammar.optional p m) (type_by k) ≡ Leave
choice_follows p m k h = ap (λ z. if z then Leave else if starts_node (wants_of p) (type_by k) then Take else Refuse (no_node (wants_of p)) None) h

-- ---- in a sequence that isn't indented

pub loose_stays : (p : Side) (k : Kind) → (k ≡ kind.BlockEntry → ⊥) → (k ≡ kind.Key → ⊥)
    → (k ≡ kind.BlockEnd → ⊥) → (k ≡ kind.Value → ⊥)
    → follows (site.IndentlessEntry p) (type_by k) ≡ false
loose_stays p kind.BlockEntry a b c d = absurd (a refl)
loose_stays p kind.Key a b c d = absurd (b refl)
loose_stays p kind.BlockEnd a b c d = absurd (c refl)
loose_stays p kind.Value a b c d = absurd (d refl)
loose_stays p k a b c d = refl

-- VALUE follows where it is a key
pub loose_value : (x : State) → follows (site.IndentlessEntry (side_of x)) (type_by kind.Value)
    ≡ sameb the_type x state.BlockMappingValue
loose_value state.BlockMappingValue = refl
loose_value x = refl

pub others_leave : (k : Kind) (p : Side) → (k ≡ kind.BlockEntry → ⊥)
    → choice_at (grammar.others p) (type_by k) ≡ Leave
others_leave kind.BlockEntry p a = absurd (a refl)
others_leave k p a = refl
