-- The properties of a node, one after another.
use Rattle.std.proofs.Common.{◌≡◌, ◌⊎◌, inl, inr, ℕ, ◌+◌, ◌<◌, Bool, true, false, if◌then◌else◌, ◌||◌, List, [], ◌∷◌, Option, Some, None, refl, sym, ap, subst, ◌∙◌, arith}
use Rattle.std.proofs.lemmas.Bool.{false≢true}
use Rattle.yaml_parse_model.specs.declared.yaml_mark_t.{yaml_mark_t}
use Rattle.yaml_parse_model.specs.declared.yaml_token_type_t.TheVariants as type
use Rattle.yaml_parse_model.specs.scan_types.Tokens.{Token}
use Rattle.yaml_parse_model.specs.scan_types.Faults.{Fault}
use Rattle.yaml_parse_model.specs.Source.{front_of, rest_of}
use Rattle.yaml_parse_grammar.specs.declared.name.Choice.TheVariants.{Take, Leave}
use Rattle.yaml_parse_grammar.specs.declared.name.Wants.{Wants}
use Rattle.yaml_parse_grammar.specs.Items.{Properties, Tag}
use Rattle.yaml_parse_grammar.specs.States.{State}
use Rattle.yaml_parse_grammar.specs.States as grammar
use Rattle.yaml_parse_grammar.specs.Machine.{go, joins, starts_content, taken_at, taken}
use Rattle.yaml_parse_grammar.specs.Resolve.{Directives}
use Rattle.yaml_scan_model.specs.declared.kind.Kind.{Kind}
use Rattle.yaml_scan_model.specs.declared.kind.Kind.TheVariants as kind
use Rattle.yaml_scan_model.specs.Kinds.{token_by, type_by}
use Rattle.yaml_scan_model.specs.Shows.{IsNext}
use Rattle.yaml_scan_model.specs.declared.tokens.Tokens.{Ghosts}
use Rattle.yaml_parse_states.specs.declared.event.Slot.{Slot}
use Rattle.yaml_parse_states.specs.declared.parser.Parser.{Parser}
use Rattle.yaml_parse_states.specs.Coming.{read, read_node}
use Rattle.yaml_parse_states.specs.Views.{text_if}
use Rattle.yaml_parse_states.specs.Nodes.{AreProperties, IsTag, joins_in, with_property}
use Rattle.yaml_parse_states.proofs.Reading.{fed_silent}
use Rattle.yaml_parse_states.proofs.Fronts.{node_by, silent}

-- ---- which token is one

anchor_joins : (b : Bool) (x : List ℕ) (t : Option Tag) (from to : yaml_mark_t)
    → joins (record { anchor = text_if b x; tag = t; from = from; to = to }) type.YAML_ANCHOR_TOKEN
    ≡ (if b then false else true)
anchor_joins true x t from to = refl
anchor_joins false x t from to = refl

tag_joins : {T P : Type 0} (g : Ghosts T P) (a : Option (List ℕ)) (t : Option Tag)
    (from to : yaml_mark_t) (p : Parser T P) → IsTag g t p
    → joins (record { anchor = a; tag = t; from = from; to = to }) type.YAML_TAG_TOKEN
    ≡ (if p.event.has_tag then false else true)
tag_joins g a None from to p h = ap (λ b. if b then false else true) (sym h.0)
tag_joins g a (Some t) from to p h = ap (λ b. if b then false else true) (sym h.0)

pub joins_are : {T P : Type 0} (g : Ghosts T P) (q : Properties) (p : Parser T P) (k : Kind)
    → AreProperties g q p → joins q (type_by k) ≡ joins_in k p.event
joins_are g q p kind.Anchor h =
    ap (λ a. joins (record { anchor = a; tag = q.tag; from = q.from; to = q.to }) type.YAML_ANCHOR_TOKEN) h.anchor
    ∙ anchor_joins p.event.has_anchor p.anchor.items q.tag q.from q.to
joins_are g q p kind.Tag h = tag_joins g q.anchor q.tag q.from q.to p h.tag
joins_are g q p k h = refl

-- ---- it is taken

property_taken : (k : Kind) (w : Wants) (q : Properties) (t : Token) → joins q (type_by k) ≡ true
    → taken_at (grammar.with_properties w q) (token_by k t)
    ≡ taken None (grammar.with_properties w (with_property k t q) ∷ [])
property_taken kind.Anchor w q t h = refl
property_taken kind.Tag w q t h = refl
property_taken k w q t h = absurd (false≢true h)

pub property_read : (k : Kind) (w : Wants) (q : Properties) (s : List State) (ts : List Token)
    (f : Option Fault) (ds : Directives) → IsNext k ts → joins q (type_by k) ≡ true
    → read ts f (grammar.with_properties w q ∷ s) ds
    ≡ read (rest_of ts) f (grammar.with_properties w (with_property k (front_of ts) q) ∷ s) ds
property_read k w q s ts f ds n j =
    silent k (grammar.with_properties w q) (grammar.with_properties w (with_property k (front_of ts) q) ∷ []) s ts f ds n
    (ap (λ b. if b || starts_content w (type_by k) then Take else Leave) j)
    (property_taken k w q (front_of ts) j)

-- a node of which nothing came, whose first token is there
abbrev pub none_yet : yaml_mark_t → Properties
none_yet m = record { anchor = None; tag = None; from = m; to = m }

-- the first one
pub first_read : (k : Kind) (w : Wants) (s : List State) (ts : List Token) (f : Option Fault)
    (ds : Directives) → IsNext k ts → (k ≡ kind.Anchor) ⊎ (k ≡ kind.Tag)
    → read_node w ts f s ds
    ≡ read ts f (grammar.with_properties w (none_yet (front_of ts).start_mark) ∷ s) ds
first_read k w s ts f ds n (inl e) =
    let n' : IsNext kind.Anchor ts = subst (λ z. IsNext z ts) e n in
    let q : Properties = none_yet (front_of ts).start_mark in
    node_by kind.Anchor w s ts f ds (go [] (grammar.with_properties w (with_property kind.Anchor (front_of ts) q) ∷ s)) n' refl
    ∙ fed_silent (grammar.with_properties w (with_property kind.Anchor (front_of ts) q) ∷ s) (rest_of ts) f ds
    ∙ sym (property_read kind.Anchor w q s ts f ds n' refl)
first_read k w s ts f ds n (inr e) =
    let n' : IsNext kind.Tag ts = subst (λ z. IsNext z ts) e n in
    let q : Properties = none_yet (front_of ts).start_mark in
    node_by kind.Tag w s ts f ds (go [] (grammar.with_properties w (with_property kind.Tag (front_of ts) q) ∷ s)) n' refl
    ∙ fed_silent (grammar.with_properties w (with_property kind.Tag (front_of ts) q) ∷ s) (rest_of ts) f ds
    ∙ sym (property_read kind.Tag w q s ts f ds n' refl)

-- ---- how many may come

abbrev pub bit : Bool → ℕ
bit true = 1
bit false = 0

abbrev pub missing : {P : Type 0} → Slot P → ℕ
missing s = bit (joins_in kind.Anchor s) + bit (joins_in kind.Tag s)

falls : (a b c d : Bool) → a ≡ true → b ≡ false → (c ≡ false → d ≡ false)
    → bit b + bit d < bit a + bit c
falls a true c d h k n = absurd (false≢true (sym k))
falls false false c d h k n = absurd (false≢true h)
falls true false true true h k n = omega arith
falls true false true false h k n = omega arith
falls true false false true h k n = absurd (false≢true (sym (n refl)))
falls true false false false h k n = omega arith

pub missing_falls : {P : Type 0} (k : Kind) (old new : Slot P) → joins_in k old ≡ true
    → joins_in k new ≡ false → ((l : Kind) → joins_in l old ≡ false → joins_in l new ≡ false)
    → missing new < missing old
missing_falls kind.Anchor old new h n o =
    falls (joins_in kind.Anchor old) (joins_in kind.Anchor new) (joins_in kind.Tag old) (joins_in kind.Tag new) h n (o kind.Tag)
missing_falls kind.Tag old new h n o =
    let l = falls (joins_in kind.Tag old) (joins_in kind.Tag new) (joins_in kind.Anchor old) (joins_in kind.Anchor new) h n (o kind.Anchor) in
    omega (arith, l)
missing_falls k old new h n o = absurd (false≢true h)
