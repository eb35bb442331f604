-- A step of the machine gives items in their right places, and leaves a stack that agrees with what
-- has come.
use Rattle.std.proofs.Common.{◌≡◌, true, List, [], ◌∷◌, ◌++◌, Option, Some, None, refl, sym, ap, subst, ◌∙◌, append_assoc, arith}
use Rattle.yaml_parse_model.specs.declared.yaml_mark_t.{yaml_mark_t}
use Rattle.yaml_parse_model.specs.declared.yaml_token_type_t.{yaml_token_type_t}
use Rattle.yaml_round_content.proofs.Words.{nat_tests, Token, type_of, Wants, Root, Choice, Refuse, Take, Leave, RawEvent, Properties, Shape, item_at, node_at, State, choice_at, taken_at, left_at, Fed, stop, go, with_item, given_by, feed, Due, item_due, key_due, Progress, at_place, inside, behind_node, TokenBody, documents_taken, content_taken, node_taken, wants_of}
use Rattle.yaml_emit_laws.specs.scan_types.Tokens as token
use Rattle.yaml_emit_laws.specs.parse_grammar.declared.Wants.TheVariants.{Flow}
use Rattle.yaml_emit_laws.specs.parse_grammar.declared.Brackets.TheVariants as brackets
use Rattle.yaml_emit_laws.specs.parse_grammar.declared.Choice.TheVariants.{Open}
use Rattle.yaml_emit_laws.specs.parse_grammar.Items as item
use Rattle.yaml_emit_laws.specs.parse_grammar.States as state
use Rattle.yaml_emit_laws.specs.parse_grammar.Machine.{turn}
use Rattle.yaml_emit_laws.specs.emit_layout.declared.Expected.TheVariants as at
use Rattle.yaml_emit_laws.proofs.Rules.{MayLeave, leave_rule, opens_first, was_take}
use Rattle.yaml_round_content.proofs.Stacks.{between, dues, shape_of, node_shape, AreRight, IsPlaced, moved_kind, moved, Leads}

-- ---- taking a token

twice : (ds : List Due) → behind_node (behind_node ds) ≡ ds
twice ds = grind (arith, nat_tests)

-- after a node comes what is expected below
behind : (s : List State) → shape_of s ≡ inside (dues s)
    → inside (behind_node (behind_node (dues s))) ≡ shape_of s
behind s e = ap inside (twice (dues s)) ∙ sym e

opens_items : (s : List State)
    → inside (item_due ∷ behind_node (behind_node (dues s))) ≡ inside (item_due ∷ dues s)
opens_items s = ap (λ ds. inside (item_due ∷ ds)) (twice (dues s))

opens_pairs : (s : List State)
    → inside (key_due ∷ behind_node (behind_node (dues s))) ≡ inside (key_due ∷ dues s)
opens_pairs s = ap (λ ds. inside (key_due ∷ ds)) (twice (dues s))

documents_lead : (from start end : yaml_mark_t) (b : TokenBody) (s : List State)
    → AreRight (state.documents ∷ s)
    → Leads (at_place between) (documents_taken from start end b).item
    ((documents_taken from start end b).above ++ s)
documents_lead from start end b s h = grind (arith, nat_tests)

-- a node in its place, whatever its properties
at_node : (h : Progress) (z : List State) (p : Option Properties) (k : Shape)
    (start end : yaml_mark_t) → h.place ≡ at.Node → moved_kind h k ≡ shape_of z → AreRight z
    → Leads h (Some (node_at p k start end)) z
at_node h z p k start end e f r = grind (arith, nat_tests)

content_leads : (w : Wants) (p : Option Properties) (start end : yaml_mark_t) (b : TokenBody)
    (s : List State) → shape_of s ≡ inside (dues s) → AreRight s
    → Leads (node_shape s) (content_taken w p start end b).item
    ((content_taken w p start end b).above ++ s)
content_leads w p start end b s e r = grind (arith, nat_tests, at_node, behind, opens_items, opens_pairs)

node_leads : (w : Wants) (start end : yaml_mark_t) (b : TokenBody) (s : List State)
    → shape_of s ≡ inside (dues s) → AreRight s
    → Leads (node_shape s) (node_taken w start end b).item ((node_taken w start end b).above ++ s)
node_leads w start end (token.alias n) s e r = (refl, (behind s e, r))
node_leads w start end (token.anchor n) s e r = (refl, (e, r))
node_leads w start end (token.tag x y) s e r = (refl, (e, r))
node_leads w start end b s e r = content_leads w None start end b s e r

-- a node inside brackets, with the states that are below it from then on
part_leads : (start end : yaml_mark_t) (b : TokenBody) (ys s : List State)
    → shape_of (ys ++ s) ≡ inside (dues (ys ++ s)) → AreRight (ys ++ s)
    → Leads (node_shape (ys ++ s)) (node_taken Flow start end b).item
    (((node_taken Flow start end b).above ++ ys) ++ s)
part_leads start end b ys s e r = grind (arith, nat_tests, append_assoc, node_leads)

taken_leads_by : (x : State) (start end : yaml_mark_t) (b : TokenBody) (s : List State)
    → choice_at x (type_of b) ≡ Take → AreRight (x ∷ s)
    → Leads (shape_of (x ∷ s)) (taken_at x (record {
      body = b;
      start_mark = start;
      end_mark = end;
    })).item ((taken_at x (record { body = b; start_mark = start; end_mark = end })).above ++ s)
taken_leads_by state.stream start end (token.stream_start e) s c h = (refl, (refl, h))
taken_leads_by state.first start end b s c h = documents_lead start start end b s h
taken_leads_by state.documents start end b s c h = documents_lead start start end b s h
taken_leads_by (state.directives from) start end b s c h = documents_lead from start end b s h
taken_leads_by (state.optional place before) start end b s c h = node_leads (wants_of place) start end b s h.0 h.1
taken_leads_by state.document_end start end b s c h = (refl, (sym (ap shape_of h.0), h.1))
taken_leads_by (state.entries o) start end token.block_entry s c h = (refl, (refl, h))
taken_leads_by (state.entries o) start end _ s c h = ((refl, refl), (sym h.0, h.1))
taken_leads_by (state.others side) start end b s c h = (refl, (refl, h))
taken_leads_by (state.pairs o) start end token.key s c h = (refl, (refl, (refl, h)))
taken_leads_by (state.pairs o) start end _ s c h = ((refl, refl), (sym h.0, h.1))
taken_leads_by (state.colon place) start end b s c h = (refl, h)
taken_leads_by (state.with_properties w q) start end (token.anchor n) s c h = (refl, (h.0, h.1))
taken_leads_by (state.with_properties w q) start end (token.tag x y) s c h = (refl, (h.0, h.1))
taken_leads_by (state.with_properties w q) start end b s c h = content_leads w (Some q) start end b s h.0 h.1
taken_leads_by (state.items brackets.Sequence o) start end token.key s c h = (refl, (refl, (refl, (refl, (refl, h)))))
taken_leads_by (state.items brackets.Mapping o) start end token.key s c h = (refl, (refl, (refl, h)))
taken_leads_by (state.items brackets.Sequence o) start end token.flow_sequence_end s c h = ((refl, refl), (sym h.0, h.1))
taken_leads_by (state.items brackets.Mapping o) start end token.flow_sequence_end s c h = ((refl, refl), (sym h.0, h.1))
taken_leads_by (state.items brackets.Sequence o) start end token.flow_mapping_end s c h = ((refl, refl), (sym h.0, h.1))
taken_leads_by (state.items brackets.Mapping o) start end token.flow_mapping_end s c h = ((refl, refl), (sym h.0, h.1))
taken_leads_by (state.items brackets.Sequence o) start end b s c h = part_leads start end b (state.more brackets.Sequence o ∷ []) s refl h
taken_leads_by (state.items brackets.Mapping o) start end b s c h = part_leads start end b (state.lone ∷ state.more brackets.Mapping o ∷ []) s refl (refl, h)
taken_leads_by (state.more brackets.Sequence o) start end token.flow_entry s c h = (refl, h)
taken_leads_by (state.more brackets.Mapping o) start end token.flow_entry s c h = (refl, h)
taken_leads_by (state.more brackets.Sequence o) start end _ s c h = ((refl, refl), (sym h.0, h.1))
taken_leads_by (state.more brackets.Mapping o) start end _ s c h = ((refl, refl), (sym h.0, h.1))
taken_leads_by _ start end _ s c h = absurd (was_take _ c)

-- ---- leaving a state

left_leads : (x : State) (k : yaml_token_type_t) (start : yaml_mark_t) (s : List State)
    → MayLeave x k → AreRight (x ∷ s) → Leads (shape_of (x ∷ s)) (Some (left_at x start)) s
left_leads x k start s l h = grind (arith, nat_tests, behind)

-- ---- an implicit document

-- it opens where documents may come
opens_between : (x : State) (k : yaml_token_type_t) (s : List State) → choice_at x k ≡ Open
    → AreRight (x ∷ s) → (shape_of (x ∷ s) ≡ at_place between) × (s ≡ [])
opens_between x k s c h = grind (arith, nat_tests, opens_first)

-- ---- a stack at a token

abbrev pub AllPlaced : Progress → List RawEvent → Type 0
AllPlaced h [] = Unit {0}
AllPlaced h (i ∷ is) = IsPlaced h i.body × AllPlaced (moved h i.body) is

abbrev pub moved_all : Progress → List RawEvent → Progress
moved_all h [] = h
moved_all h (i ∷ is) = moved_all (moved h i.body) is

-- the items come in their right places, and lead to the stack that is left
abbrev pub FedLeads : Progress → Fed → Type 0
FedLeads h (stop is f) = AllPlaced h is
FedLeads h (go is s) = AllPlaced h is × ((moved_all h is ≡ shape_of s) × AreRight s)

with_leads : (h : Progress) (i : RawEvent) (below : Fed) → IsPlaced h i.body
    → FedLeads (moved h i.body) below → FedLeads h (with_item i below)
with_leads h i below p q = grind (arith, nat_tests)

given_leads : (h : Progress) (i : Option RawEvent) (above s : List State) → Leads h i (above ++ s)
    → FedLeads h (given_by (record { item = i; above = above }) s)
given_leads h i above s l = grind (arith, nat_tests)

-- the first token of an implicit document
root_leads : (t : Token) (s : List State) → s ≡ []
    → FedLeads (at_place at.Node) (given_by (taken_at (state.optional Root t.start_mark) t)
    (state.document_end ∷ state.documents ∷ s))
root_leads t s e = grind (arith, nat_tests, given_leads, node_leads)

turn_leads : (c : Choice) (x : State) (t : Token) (s : List State) (below : Fed)
    → choice_at x (type_of t.body) ≡ c → AreRight (x ∷ s) → FedLeads (shape_of s) below
    → FedLeads (shape_of (x ∷ s)) (turn c x t s below)
turn_leads (Refuse p o) x t s below c h k = tt
turn_leads Take x t s below c h k = given_leads (shape_of (x ∷ s)) (taken_at x t).item (taken_at x t).above s (taken_leads_by x t.start_mark t.end_mark t.body s c h)
turn_leads Leave x t s below c h k =
    let l : Leads (shape_of (x ∷ s)) (Some (left_at x t.start_mark)) s = left_leads x (type_of t.body) t.start_mark s (leave_rule x (type_of t.body) c) h in
    with_leads (shape_of (x ∷ s)) (left_at x t.start_mark) below l.0 (subst (λ (z : Progress). FedLeads z below) (sym l.1.0) k)
turn_leads Open x t s below c h k =
    let o : (shape_of (x ∷ s) ≡ at_place between) × (s ≡ []) = opens_between x (type_of t.body) s c h in
    with_leads (shape_of (x ∷ s)) (item_at (item.document true) t.start_mark t.start_mark) (given_by (taken_at (state.optional Root t.start_mark) t) (state.document_end ∷ state.documents ∷ s))
    (ap (λ (z : Progress). z.place) o.0) (root_leads t s o.1)

pub feed_leads : (s : List State) (t : Token) → AreRight s → FedLeads (shape_of s) (feed s t)
unfolding feed
feed_leads [] t r = (tt, (refl, tt))
feed_leads (x ∷ s) t r = turn_leads (choice_at x (type_of t.body)) x t s (feed s t) refl r (feed_leads s t r.1)
