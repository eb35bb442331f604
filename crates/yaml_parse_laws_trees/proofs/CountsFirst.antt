-- What the first token of a spelled tree is.
use Rattle.std.proofs.Common.{◌≡◌, Bool, true, false, List, [], ◌∷◌, ap, sym, subst, ◌∙◌, arith}
use Rattle.yaml_parse_laws_trees.proofs.Words.{yaml_mark_t, yaml_token_type_t, Token, TokenBody, type_of, Wants, Span, token_at, AnchorToken, TagToken, anchor_token, tag_token, PropertyTokens, spell_properties, Node, Content, spell_node, spell_content, starts_node, front_of, rest_of, ends, Ends, ends_apart, Starts, node_starts, false≢true}
use Rattle.yaml_parse_grammar.specs.parse_model.declared.yaml_token_type_t.TheVariants as kind
use Rattle.yaml_parse_grammar.specs.declared.name.Brackets.TheVariants as brackets
use Rattle.yaml_parse_grammar.specs.Trees as tree

-- ---- first tokens

abbrev pub body_of : List Token → TokenBody
body_of ts = (front_of ts).body

abbrev pub kind_of : List Token → yaml_token_type_t
kind_of ts = type_of (body_of ts)

pub apart : (x y : List Token) → x ≡ y → (kind_of x ≡ kind_of y → ⊥) → ⊥
apart x y h d = d (ap kind_of h)

-- what is made of equal parts
pub both : {A B C : Type 0} (g : A → B → C) (a c : A) (b d : B) → a ≡ c → b ≡ d → g a b ≡ g c d
both g a c b d e f = ap (λ z. g z b) e ∙ ap (g c) f

pub three : {A B C D : Type 0} (g : A → B → C → D) (a a' : A) (b b' : B) (c c' : C) → a ≡ a'
    → b ≡ b'
    → c ≡ c' → g a b c ≡ g a' b' c'
three g a a' b b' c c' e f h = ap (λ z. g z b c) e ∙ ap (λ z. g a' z c) f ∙ ap (g a' b') h

pub four : {A B C D E : Type 0} (g : A → B → C → D → E) (a a' : A) (b b' : B) (c c' : C) (d d' : D)
    → a ≡ a' → b ≡ b' → c ≡ c' → d ≡ d' → g a b c d ≡ g a' b' c' d'
four g a a' b b' c c' d d' e f h i = ap (λ z. g z b c d) e ∙ ap (λ z. g a' z c d) f ∙ ap (λ z. g a' b' z d) h ∙ ap (g a' b' c') i

pub same_span : (p q : Span) → p.from ≡ q.from → p.to ≡ q.to → p ≡ q
same_span p q e f = ap (λ (n : yaml_mark_t). record { from = n; to = p.to }) e ∙ ap (λ (n : yaml_mark_t). record { from = q.from; to = n }) f

pub span_same : (b c : TokenBody) (p q : Span) (x y : List Token)
    → token_at b p ∷ x ≡ token_at c q ∷ y
    → p ≡ q
span_same b c p q x y h = same_span p q (ap (λ (ts : List Token). (front_of ts).start_mark) h) (ap (λ (ts : List Token). (front_of ts).end_mark) h)

pub body_same : (b c : TokenBody) (p q : Span) (x y : List Token)
    → token_at b p ∷ x ≡ token_at c q ∷ y
    → b ≡ c
body_same b c p q x y h = ap body_of h

pub rest_same : (t u : Token) (x y : List Token) → t ∷ x ≡ u ∷ y → x ≡ y
rest_same t u x y h = ap rest_of h

-- ---- tokens that end a node begin none

pub not_begun : (w : Wants) (k : yaml_token_type_t) → ends w k ≡ true → starts_node w k ≡ true → ⊥
not_begun w k h s = false≢true (sym (ends_apart w k h) ∙ s)

pub not_both : (w : Wants) (ts : List Token) → Ends w ts → Starts w ts → ⊥
not_both w ts e s = grind (arith, not_begun)

pub no_node : {w : Wants} (n : Node w) (x y : List Token) → Ends w x → x ≡ spell_node n y → ⊥
no_node {w = w} n x y e h = not_both w (spell_node n y) (subst (Ends w) h e) (node_starts n y)

-- ---- properties

abbrev pub is_property : yaml_token_type_t → Bool
is_property kind.YAML_ANCHOR_TOKEN = true
is_property kind.YAML_TAG_TOKEN = true
is_property _ = false

pub property_starts : (w : Wants) (k : yaml_token_type_t) → is_property k ≡ true
    → starts_node w k ≡ true
property_starts w k h = grind (arith, false≢true)

-- the first token is no property
abbrev pub IsPlain : List Token → Type 0
IsPlain ts = is_property (kind_of ts) ≡ true → ⊥

pub ends_plain : (w : Wants) (ts : List Token) → Ends w ts → IsPlain ts
ends_plain w [] e p = e
ends_plain w (t ∷ ts) e p = not_begun w (type_of t.body) e (property_starts w (type_of t.body) p)

pub content_plain : {w : Wants} (c : Content w) (ts : List Token) → IsPlain (spell_content c ts)
content_plain (tree.scalar p v style) ts h = false≢true h
content_plain (tree.flow brackets.Sequence p i) ts h = false≢true h
content_plain (tree.flow brackets.Mapping p i) ts h = false≢true h
content_plain _ ts h = false≢true h

pub not_plain : (x y : List Token) → IsPlain x → x ≡ y → is_property (kind_of y) ≡ true → ⊥
not_plain x y d h p = d (ap (λ ts. is_property (kind_of ts)) h ∙ p)

pub anchor_same : (a b : AnchorToken) (x y : List Token) → anchor_token a ∷ x ≡ anchor_token b ∷ y
    → a ≡ b
anchor_same a b x y h = grind (arith, body_same, span_same)

pub tag_same : (s t : TagToken) (x y : List Token) → tag_token s ∷ x ≡ tag_token t ∷ y → s ≡ t
tag_same s t x y h = grind (arith, body_same, span_same)

pub properties_same : (d e : PropertyTokens) (x y : List Token) → IsPlain x → IsPlain y
    → spell_properties d x ≡ spell_properties e y → (d ≡ e) × (x ≡ y)
properties_same d e x y p q h = grind (arith, anchor_same, rest_same, tag_same, both, not_plain, apart)
