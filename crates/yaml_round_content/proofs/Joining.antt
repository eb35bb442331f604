-- The plain reading of an input is what the machine reads.
use Rattle.std.proofs.Common.{◌≡◌, ℕ, List, Option, Some, None, Result, Ok, Err, refl, ap, sym, subst, ◌∙◌, arith}
use Rattle.yaml_round_content.proofs.Words.{nat_tests, yaml_encoding_t, Token, Fault, Given, items, run, initial, Reading, reading, no_directives, BeginsWithSentence, FaultOfTokens, contents, tokens_of, read, events_of, ending_of, Document, stream_says, tree_content, TokensRead, HasContent, InputsRead, ReadingIsOne, RefusedIsRead, ReadIsRefused, SaidIsRead, ReadIsSaid, EventsAreOfTree}
use Rattle.yaml_emit_laws.specs.parse_grammar.Remaining.{reading_of}
use Rattle.yaml_emit_laws.proofs.CompleteStream.{stream_runs}
use Rattle.yaml_emit_laws.proofs.Ending.{ends_in_fault, fault_ends}
use Rattle.yaml_emit_laws.proofs.LawsTreesTurns.{items_given}
use Rattle.yaml_round_content.proofs.Injective.{says_injective}
use Rattle.yaml_emit_laws.proofs.Spelling.{spelled_before}
use Rattle.yaml_round_content.proofs.Placed.{tree_says}
use Rattle.yaml_round_content.proofs.OfText.{plain_reading}

-- ---- tokens

abbrev pub reads : List Token → Option Fault → Reading
reads ts own = reading_of (run ts initial own) no_directives

-- a list that begins with a sentence is read as its tree's items are
pub tree_read : (ts : List Token) (own : Option Fault) (b : BeginsWithSentence ts)
    → reads ts own ≡ reading (items b.tree b.rest) None no_directives
tree_read ts own b = grind (arith, nat_tests, spelled_before, stream_runs)

pub tokens_say : (ts : List Token) (own : Option Fault) (b : BeginsWithSentence ts)
    → contents (reads ts own).events ≡ stream_says (tree_content b.tree)
tokens_say ts own b =
    let p : reads ts own ≡ reading (items b.tree b.rest) None no_directives = tree_read ts own b in
    ap (λ (r : Reading). contents r.events) p ∙ tree_says b.tree b.rest (ap (λ (r : Reading). r.ending) (sym p) ∙ fault_ends ts own None b)

-- a list has a reading, by what the machine ends in
has_reading : (ts : List Token) (own o : Option Fault) → FaultOfTokens ts own o
    → (r : Result (List Document) Fault) × TokensRead ts own r
has_reading ts own None h = (Ok (tree_content h.tree), record { sentence = h; content = refl })
has_reading ts own (Some e) h = (Err e, h)

same_error : (o : Option Fault) (e f : Fault) → o ≡ Some e → o ≡ Some f → e ≡ f
same_error o e f p q = cc

-- ---- inputs

-- The reading of an input is that of its tokens.
pub read_is : (from : yaml_encoding_t) (input : List ℕ)
    → read from input ≡ reads (tokens_of from input).tokens (tokens_of from input).fault
unfolding read
read_is from input = refl

sentence_of : (from : yaml_encoding_t) (input : List ℕ) → ending_of from input ≡ None
    → BeginsWithSentence (tokens_of from input).tokens
sentence_of from input e = grind (arith, nat_tests, read_is, ends_in_fault)

says_of : (from : yaml_encoding_t) (input : List ℕ)
    (b : BeginsWithSentence (tokens_of from input).tokens)
    → contents (events_of from input) ≡ stream_says (tree_content b.tree)
says_of from input b = ap (λ (r : Reading). contents r.events) (read_is from input) ∙ tokens_say (tokens_of from input).tokens (tokens_of from input).fault b

pub inputs_read : InputsRead
inputs_read from input =
    let h : (r : Result (List Document) Fault) × TokensRead (tokens_of from input).tokens (tokens_of from input).fault r =
    has_reading (tokens_of from input).tokens (tokens_of from input).fault (reads (tokens_of from input).tokens (tokens_of from input).fault).ending
    (ends_in_fault (tokens_of from input).tokens (tokens_of from input).fault) in
    (h.0, plain_reading from input h.0 h.1)

pub refused_read : RefusedIsRead
refused_read from input e p =
    plain_reading from input (Err e)
    (subst (λ (o : Option Fault). FaultOfTokens (tokens_of from input).tokens (tokens_of from input).fault o) (ap (λ (r : Reading). r.ending) (sym (read_is from input)) ∙ p)
    (ends_in_fault (tokens_of from input).tokens (tokens_of from input).fault))

pub read_refused : ReadIsRefused
read_refused from input e h =
    ap (λ (r : Reading). r.ending) (read_is from input) ∙ fault_ends (tokens_of from input).tokens (tokens_of from input).fault (Some e) h.of_tokens

pub said_read : SaidIsRead
said_read from input c h =
    let b : BeginsWithSentence (tokens_of from input).tokens = sentence_of from input h.right in
    plain_reading from input (Ok c) (record { sentence = b; content = says_injective c (tree_content b.tree) (sym h.says ∙ says_of from input b) })

pub read_said : ReadIsSaid
read_said from input c h = record {
  right = ap (λ (r : Reading). r.ending) (read_is from input) ∙ fault_ends (tokens_of from input).tokens (tokens_of from input).fault None h.of_tokens.sentence;
  says = says_of from input h.of_tokens.sentence ∙ ap stream_says (sym h.of_tokens.content);
}

pub events_of_tree : EventsAreOfTree
events_of_tree from input b =
    ap (λ (r : Reading). r.events) (read_is from input) ∙ ap (λ (r : Reading). r.events) (tree_read (tokens_of from input).tokens (tokens_of from input).fault b)
    ∙ ap (λ (gs : List Given). (reading gs None no_directives).events) (items_given b.tree b.rest)

pub one_reading : ReadingIsOne
one_reading from input (Ok c) (Ok d) p q =
    let b : HasContent from input c = read_said from input c p in
    let a : HasContent from input d = read_said from input d q in
    ap (λ (z : List Document). Ok z) (says_injective c d (sym b.says ∙ a.says))
one_reading from input (Ok c) (Err e) p q = absurd (q.of_tokens.unfinished p.of_tokens.sentence)
one_reading from input (Err e) (Ok c) p q = absurd (p.of_tokens.unfinished q.of_tokens.sentence)
one_reading from input (Err e) (Err f) p q = ap (λ (z : Fault). Err z) (same_error (ending_of from input) e f (read_refused from input e p) (read_refused from input f q))
