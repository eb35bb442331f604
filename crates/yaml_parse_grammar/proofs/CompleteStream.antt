-- The machine gives the items of a stream of documents.
use Rattle.std.proofs.Common.{◌≡◌, true, false, List, [], ◌∷◌, length, Option, Some, None, refl, ap, ◌∙◌, arith}
use Rattle.yaml_parse_grammar.proofs.Words.{yaml_mark_t, yaml_token_type_t, Token, type_of, Fault, Block, Root, Open, item_at, State, Span, Given, token_at, spell_node, spell_maybe, next, items_node, items_maybe, items, behind, starts_node, choice_at, taken_at, given_by, feed, finished, run, opened}
use Rattle.yaml_parse_model.specs.scan_types.Tokens as token
use Rattle.yaml_parse_grammar.specs.Items as item
use Rattle.yaml_parse_grammar.specs.States as state
use Rattle.yaml_parse_grammar.specs.Trees.{Documents, First, Stream, Directive, spell_directives, spell_ends, spell_documents, spell_first, spell, start_of}
use Rattle.yaml_parse_grammar.specs.TreeSteps.{items_directives, items_ends, items_documents, items_first}
use Rattle.yaml_parse_grammar.specs.Trees as tree
use Rattle.yaml_parse_grammar.specs.Machine.{initial}
use Rattle.yaml_parse_grammar.proofs.Complete.{giving, one, fed_by, runs_by, Leaves, leaves, Follows, follows_ends, Starts, node_starts, run_node, carry_with_item, step_take, maybe_runs, node_runs}

-- Documents may follow a root that is left out.
pub documents_follow : (d : Documents) (rest : List Token) → Follows Root (spell_documents d rest)
documents_follow (tree.document (tree.version q major minor ∷ ds) p n e d) rest = refl
documents_follow _ rest = refl

-- So may the ends of a document.
pub root_follows : (e : List Span) (d : Documents) (rest : List Token)
    → Follows Root (spell_ends e (spell_documents d rest))
root_follows [] d rest = documents_follow d rest
root_follows (p ∷ e) d rest = refl

document_leaves : (d : Documents) (rest : List Token)
    → Leaves state.document_end (spell_documents d rest)
document_leaves (tree.document (tree.version q major minor ∷ ds) p n e d) rest = refl
document_leaves _ rest = refl

skips_ends : (e : List Span) (rest : List Token) (s : List State) (f : Option Fault)
    → run (spell_ends e rest) (state.documents ∷ s) f ≡ run rest (state.documents ∷ s) f
skips_ends [] rest s f = refl
skips_ends (p ∷ e) rest s f = step_take state.documents _ (spell_ends e rest) s f refl ∙ skips_ends e rest s f

ends_run : (e : List Span) (d : Documents) (rest : List Token) (f : Option Fault)
    → run (spell_ends e (spell_documents d rest)) (state.document_end ∷ state.documents ∷ []) f
    ≡ giving (items_ends e (spell_documents d rest))
    (run (spell_documents d rest) (state.documents ∷ []) f)
ends_run e d rest f = grind (arith, leaves, document_leaves, step_take, giving, one, skips_ends)

abbrev starting : yaml_mark_t → Span → List Token → List Given → List Given
starting from p ts = one (item_at (item.document false) from p.to) (length ts)

directives_run : (ds : List Directive) (from : yaml_mark_t) (p : Span) (ts : List Token)
    (f : Option Fault)
    → run (spell_directives ds (token_at token.document_start p ∷ ts)) (state.directives from ∷ [])
    f
    ≡ giving (items_directives ds (token_at token.document_start p ∷ ts))
    (giving (starting from p ts) (run ts (opened p.to) f))
directives_run [] from p ts f = step_take (state.directives from) _ ts [] f refl
directives_run (tree.version q major minor ∷ ds) from p ts f =
    step_take (state.directives from) _ (spell_directives ds (token_at token.document_start p ∷ ts)) [] f refl ∙ ap (giving (one _ _)) (directives_run ds from p ts f)
directives_run (tree.handle q name prefix ∷ ds) from p ts f =
    step_take (state.directives from) _ (spell_directives ds (token_at token.document_start p ∷ ts)) [] f refl ∙ ap (giving (one _ _)) (directives_run ds from p ts f)

-- the same between documents: there the first token's mark counts
explicit_opens : (ds : List Directive) (p : Span) (ts : List Token) (f : Option Fault)
    → run (spell_directives ds (token_at token.document_start p ∷ ts)) (state.documents ∷ []) f
    ≡ giving (items_directives ds (token_at token.document_start p ∷ ts))
    (giving (starting (start_of ds p) p ts) (run ts (opened p.to) f))
unfolding run feed
explicit_opens ds p ts f = grind (arith, directives_run)

-- Without a state to go on from nothing runs.
pub nothing_runs : (ts : List Token) (f : Option Fault) → run ts [] f ≡ finished
unfolding run feed
nothing_runs [] None = refl
nothing_runs [] (Some f) = refl
nothing_runs (t ∷ ts) f = nothing_runs ts f

documents_run : (d : Documents) (rest : List Token) (f : Option Fault)
    → run (spell_documents d rest) (state.documents ∷ []) f
    ≡ record { items = items_documents d rest; ending = None }
documents_run (tree.end_stream p) rest f =
    step_take state.documents _ rest [] f refl
    ∙ ap (giving (one _ _)) (nothing_runs rest f)
documents_run (tree.document ds p n e d) rest f =
    explicit_opens ds p (spell_maybe n (spell_ends e (spell_documents d rest))) f
    ∙ ap (giving (items_directives ds (token_at token.document_start p ∷ spell_maybe n (spell_ends e (spell_documents d rest)))))
    (ap (giving (starting (start_of ds p) p (spell_maybe n (spell_ends e (spell_documents d rest)))))
    (maybe_runs n Root refl p.to (spell_ends e (spell_documents d rest)) (state.document_end ∷ state.documents ∷ []) f (root_follows e d rest)
    ∙ ap (giving (items_maybe n Root p.to (spell_ends e (spell_documents d rest))))
    (ends_run e d rest f ∙ ap (giving (items_ends e (spell_documents d rest))) (documents_run d rest f))))

-- before the first document
first_without : (d : Documents) (rest : List Token) (f : Option Fault)
    → run (spell_documents d rest) (state.first ∷ []) f
    ≡ run (spell_documents d rest) (state.documents ∷ []) f
unfolding run feed
first_without (tree.document (tree.version q major minor ∷ ds) p n e d) rest f = refl
first_without _ rest f = refl

first_opens_at : (k : yaml_token_type_t) → starts_node (Block None) k ≡ true
    → choice_at state.first k ≡ Open
first_opens_at k h = grind arith

abbrev implicit : List Token → List Given → List Given
implicit ts = one (item_at (item.document true) (next ts) (next ts)) (behind ts)

first_opens : (ts : List Token) (f : Option Fault) → Starts (Block None) ts
    → run ts (state.first ∷ []) f ≡ giving (implicit ts)
    (run_node (Block None) ts (state.document_end ∷ state.documents ∷ []) f)
first_opens [] f h = absurd h
first_opens (t ∷ ts) f h =
    runs_by _ t ts (state.first ∷ []) f (fed_by Open state.first t [] (first_opens_at (type_of t.body) h))
    ∙ carry_with_item (length ts) (item_at (item.document true) t.start_mark t.start_mark)
    (given_by (taken_at (state.optional Root t.start_mark) t) (state.document_end ∷ state.documents ∷ [])) (λ s'. run ts s' f)

first_runs : (x : First) (d : Documents) (rest : List Token) (f : Option Fault)
    → run (spell_first x (spell_documents d rest)) (state.first ∷ []) f
    ≡ giving (items_first x (spell_documents d rest))
    (record { items = items_documents d rest; ending = None })
first_runs x d rest f = grind (arith, first_without, documents_run, first_opens, spell_node, node_starts, giving, implicit, node_runs, follows_ends, Root, root_follows, items_node, ends_run)

-- Of a stream's tokens the machine gives the items of its tree, and no fault, whatever follows.
pub stream_runs : (t : Stream) (rest : List Token) (f : Option Fault)
    → run (spell t rest) initial f ≡ record { items = items t rest; ending = None }
stream_runs t rest f = grind (arith, step_take, giving, one, first_runs)
