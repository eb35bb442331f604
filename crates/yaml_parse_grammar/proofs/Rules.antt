-- What a state does at a token, by cases on what it does: the one place where each state meets each token.
use Rattle.std.proofs.Common.{◌≡◌, true, ◌||◌, Option, None, subst, sym, arith, rules}
use Rattle.std.proofs.lemmas.Bool.{false≢true}
use Rattle.yaml_parse_grammar.proofs.Words.{yaml_mark_t, yaml_token_type_t, Flow, Block, Choice, Refuse, Take, Leave, Open, ParseProblem, State, starts_content, starts_node, wants_of, closes, parts_documents, follows, no_node, joins, choice_at}
use Rattle.yaml_parse_model.specs.declared.yaml_token_type_t.TheVariants as kind
use Rattle.yaml_parse_grammar.specs.States as state

-- ---- what each choice gives

-- what may be left out; a node only before a token that may follow there
abbrev pub MayLeave : State → yaml_token_type_t → Type 0
MayLeave (state.optional place before) k = follows place k ≡ true
MayLeave state.document_end k = Unit {0}
MayLeave (state.others side) k = Unit {0}
MayLeave (state.colon place) k = Unit {0}
MayLeave (state.with_properties w p) k = Unit {0}
MayLeave state.pair_end k = Unit {0}
MayLeave state.lone k = Unit {0}
MayLeave _ k = ⊥

-- what may come; a token that a node may begin with, or that may be after its properties
abbrev pub MayTake : State → yaml_token_type_t → Type 0
MayTake (state.optional place before) k = starts_node (wants_of place) k ≡ true
MayTake (state.with_properties w p) k = (joins p k || starts_content w k) ≡ true
MayTake state.pair_end k = ⊥
MayTake state.lone k = ⊥
MayTake _ k = Unit {0}

-- a document without `---` is a stream's first, and begins with a node
abbrev pub MayOpen : State → yaml_token_type_t → Type 0
MayOpen state.first k = starts_node (Block None) k ≡ true
MayOpen _ k = ⊥

-- what may always be left out refuses nothing
abbrev pub MayRefuse : State → Type 0
MayRefuse state.document_end = ⊥
MayRefuse (state.others side) = ⊥
MayRefuse (state.colon place) = ⊥
MayRefuse (state.with_properties w p) = ⊥
MayRefuse state.pair_end = ⊥
MayRefuse state.lone = ⊥
MayRefuse _ = Unit {0}

abbrev pub Rule : Choice → State → yaml_token_type_t → Type 0
Rule (Refuse p o) x k = MayRefuse x
Rule Take x k = MayTake x k
Rule Leave x k = MayLeave x k
Rule Open x k = MayOpen x k

-- ---- each state at each token

-- Each state keeps to its rule.
pub rule : (x : State) (k : yaml_token_type_t) → Rule (choice_at x k) x k
rule x k = search (rules, parts_documents, Take, starts_node, Block, Open, Refuse, Rule, follows, Leave, wants_of, no_node, joins, starts_content, closes, Flow)

-- ---- a token that isn't taken: each such arm is answered by computing

abbrev pub IsTake : Choice → Type 0
IsTake Take = Unit {0}
IsTake _ = ⊥

-- A choice that is to take is no other one.
pub was_take : (x : Choice) → x ≡ Take → IsTake x
was_take x e = subst IsTake (sym e) tt

-- no state takes the empty token
pub takes_a_token : (x : State) → choice_at x kind.YAML_NO_TOKEN ≡ Take → ⊥
takes_a_token x h = grind arith

-- ---- the rules inverted

-- A state that is left may be left out there.
pub leave_rule : (x : State) (k : yaml_token_type_t) → choice_at x k ≡ Leave → MayLeave x k
leave_rule x k e = subst (λ (d : Choice). Rule d x k) e (rule x k)

-- A token that is taken may come there.
pub take_rule : (x : State) (k : yaml_token_type_t) → choice_at x k ≡ Take → MayTake x k
take_rule x k e = subst (λ (d : Choice). Rule d x k) e (rule x k)

-- Where a document opens, it is a stream's first, and a node begins.
pub open_rule : (x : State) (k : yaml_token_type_t) → choice_at x k ≡ Open → MayOpen x k
open_rule x k e = subst (λ (d : Choice). Rule d x k) e (rule x k)

-- A state that refuses may not always be left out.
pub refuse_rule : (x : State) (k : yaml_token_type_t) (p : ParseProblem) (o : Option yaml_mark_t)
    → choice_at x k ≡ Refuse p o → MayRefuse x
refuse_rule x k p o e = subst (λ (d : Choice). Rule d x k) e (rule x k)

may_open : (x : State) (k : yaml_token_type_t) → MayOpen x k → x ≡ state.first
may_open x k h = grind arith

-- A document opens at the first state alone.
pub opens_first : (x : State) (k : yaml_token_type_t) → choice_at x k ≡ Open → x ≡ state.first
opens_first x k e = may_open x k (open_rule x k e)

-- A document is opened at what begins a node.
pub opens_node : (x : State) (k : yaml_token_type_t) → choice_at x k ≡ Open
    → starts_node (Block None) k ≡ true
opens_node x k h = subst (λ (y : State). MayOpen y k) (opens_first x k h) (open_rule x k h)

-- No document opens before the empty token.
pub none_opens : (x : State) → choice_at x kind.YAML_NO_TOKEN ≡ Open → ⊥
none_opens x e = false≢true (opens_node x kind.YAML_NO_TOKEN e)
