-- Where the dumps of two inputs' documents differ, the documents do, at a place.
use Rattle.std.proofs.Common.{◌≡◌, ◌∙◌, inl, inr, ℕ, ◌+◌, List, [], ◌∷◌, ◌++◌, length, map, Option, Some, None, Ok, refl, sym, ap, subst, arith}
use Rattle.yaml_parse.specs.declared.yaml_encoding_t.{yaml_encoding_t}
use Rattle.yaml_parse.specs.declared.yaml_fault_t.{yaml_fault_t}
use Rattle.yaml_scan_types.specs.Faults.{Fault, fault_of, IsMemoryFault, load_layers}
use Rattle.yaml_scan_model.specs.declared.name.yaml_encoding_t.TheVariants.{YAML_ANY_ENCODING}
use Rattle.yaml_parse.specs.Events.{EventBody}
use Rattle.yaml_parse.specs.Events as event
use Rattle.yaml_parse.specs.Documents.{Document}
use Rattle.yaml_round_content.specs.Input.{events_of, ending_of}
use Rattle.yaml_round_content.specs.Loads.{loads_of, with_implicit_end}
use Rattle.yaml_round_content.specs.Agree.{Agrees}
use Rattle.yaml_round_content.specs.Said as content
use Rattle.yaml_round_content.specs.Said.{documents_say}
use Rattle.yaml_round_content.specs.DumpsEvents.{trees_of_dumps}
use Rattle.yaml_round_content.specs.TreeContent.{tree_content}
use Rattle.yaml_round_content.proofs.Injective.{says_injective}
use Rattle.yaml_round_content.proofs.Walks.{agreeing_said}
use Rattle.yaml_round_content.proofs.Loaded.{faultless_load}
use Rattle.yaml_round_content.proofs.OfText.{plain_reading}
use Rattle.yaml_round_reading.specs.Answers.{IsRight}
use Rattle.yaml_round_reading.specs.Reading.{IsFaultOf}
use Rattle.yaml_round_reading.proofs.Plain.{right_ending}
use Rattle.yaml_round_engine.specs.declared.difference.yaml_difference_t.{yaml_difference_t}
use Rattle.yaml_round_engine.specs.declared.front.Front.{Front}
use Rattle.yaml_round_engine.specs.Places.{StreamPosition, position_says, Path}
use Rattle.yaml_round_engine.specs.Walking.{past, start}
use Rattle.yaml_round_engine.specs.Differences.{TellsOf}
use Rattle.yaml_round_engine.specs.Loaded.{next_of, event_at, SameDocuments, IsDocumentsParting, IsLoadable}
use Rattle.yaml_round_engine.specs.Dumps.{documents_left, IsStarted, PartsBehind, TellsOfInputs}
use Rattle.yaml_round_engine.proofs.Pathing.{position_walked}
use Rattle.yaml_round_engine.proofs.Placing.{placed}

-- ---- what is loaded

abbrev HasLoaded : yaml_encoding_t → List ℕ → Type 0
HasLoaded from input = (loads_of from input).fault ≡ None

-- An input that was loaded is one that loads.
pub loads : (from : yaml_encoding_t) (input : List ℕ) → HasLoaded from input → IsLoadable from input
loads from input h = ((loads_of from input).documents, faultless_load from input h)

-- what loads has no fault that ends its events
reads : (from : yaml_encoding_t) (input : List ℕ) → HasLoaded from input
    → ending_of from input ≡ None
unfolding IsRight
reads from input h =
    let l = faultless_load from input h in
    right_ending from input (tree_content l.of_tokens.sentence.tree, plain_reading from input (Ok (tree_content l.of_tokens.sentence.tree)) (record { sentence = l.of_tokens.sentence; content = refl }))

not_none : (o : Option Fault) (f : Fault) → o ≡ None → o ≡ Some f → ⊥
not_none o f e h = cc

-- so a fault that is met is out of memory
pub short : (from : yaml_encoding_t) (input : List ℕ) (f : yaml_fault_t) → HasLoaded from input
    → IsFaultOf (ending_of from input) (fault_of f) → IsMemoryFault load_layers (fault_of f)
short from input f h e = elim e [ inl m ↦ inr m | inr k ↦ absurd (not_none (ending_of from input) (fault_of f) (reads from input h) k) ]

-- ---- what documents say doesn't hang on how they end

ended_say : (ds : List Document) → documents_left (map with_implicit_end ds) ≡ documents_left ds
ended_say ds = ap (λ (c : List content.Document). documents_say c) (trees ds)
  where
    trees : (es : List Document) → trees_of_dumps (map with_implicit_end es) ≡ trees_of_dumps es
    trees [] = refl
    trees (e ∷ es) = ap (λ (c : List content.Document). trees_of_dumps (e ∷ []) ++ c) (trees es)

-- ---- the same dumps

same_trees : (ds es : List Document) → documents_left ds ≡ documents_left es
    → trees_of_dumps ds ≡ trees_of_dumps es
same_trees ds es e = says_injective (trees_of_dumps ds) (trees_of_dumps es) (ap (λ (x : List EventBody). event.stream_start YAML_ANY_ENCODING ∷ x) e)

-- Inputs whose loads agree are documents that agree.
pub all_agree : (a_from : yaml_encoding_t) (a : List ℕ) (b_from : yaml_encoding_t) (b : List ℕ)
    (ds es : List Document)
    → (trees_of_dumps (loads_of a_from a).documents ≡ trees_of_dumps (loads_of b_from b).documents
    → Agrees (loads_of a_from a).documents (loads_of b_from b).documents)
    → HasLoaded a_from a → HasLoaded b_from b
    → ds ≡ map with_implicit_end (loads_of a_from a).documents
    → es ≡ map with_implicit_end (loads_of b_from b).documents
    → documents_left ds ≡ documents_left es → SameDocuments a_from a b_from b
all_agree a_from a b_from b ds es tell h k p q e =
    let xs = (loads_of a_from a).documents in
    let ys = (loads_of b_from b).documents in
    let same : documents_left xs ≡ documents_left ys =
    sym (ended_say xs) ∙ ap (λ (z : List Document). documents_left z) (sym p) ∙ e ∙ ap (λ (z : List Document). documents_left z) q ∙ ended_say ys in
    record {
      first = xs;
      second = ys;
      first_loads = faultless_load a_from a h;
      second_loads = faultless_load b_from b k;
      agree = tell (same_trees xs ys same);
    }

-- ---- dumps that part

rest_same : (x : EventBody) (ys zs : List EventBody) → x ∷ ys ≡ x ∷ zs → ys ≡ zs
rest_same x ys zs e = cc

behind_same : (xs ys zs : List EventBody) → xs ++ ys ≡ xs ++ zs → ys ≡ zs
behind_same [] ys zs e = e
behind_same (x ∷ xs) ys zs e = behind_same xs ys zs (rest_same x (xs ++ ys) (xs ++ zs) e)

abbrev pub InFront : List EventBody → Type 0
InFront front = (p : StreamPosition) × (front ≡ position_says p [])

in_front : (c d : List content.Document) (before left other_left : List EventBody)
    → documents_say c ≡ before ++ left → documents_say d ≡ before ++ other_left
    → (next_of left ≡ next_of other_left → ⊥)
    → InFront (event.stream_start YAML_ANY_ENCODING ∷ before)
in_front c d before [] [] p q differ = absurd (differ refl)
in_front c d before (x ∷ xs) other_left p q differ =
    placed c (event.stream_start YAML_ANY_ENCODING) before x xs (ap (λ (es : List EventBody). event.stream_start YAML_ANY_ENCODING ∷ es) p)
in_front c d before [] (y ∷ ys) p q differ =
    placed d (event.stream_start YAML_ANY_ENCODING) before y ys (ap (λ (es : List EventBody). event.stream_start YAML_ANY_ENCODING ∷ es) q)

-- that many are before it
counted : (m n : ℕ) (before : List EventBody) → n ≡ 1 → m ≡ n + length before
    → m ≡ length (event.stream_start YAML_ANY_ENCODING ∷ before)
counted m n before p q = omega (arith, p, q)

-- Inputs whose loads differ have the place where these differ.
pub all_part : (a_from : yaml_encoding_t) (a : List ℕ) (b_from : yaml_encoding_t) (b : List ℕ)
    (ds es : List Document) (old new : Front) (d : yaml_difference_t)
    → HasLoaded a_from a → HasLoaded b_from b
    → ds ≡ map with_implicit_end (loads_of a_from a).documents
    → es ≡ map with_implicit_end (loads_of b_from b).documents
    → IsStarted old → PartsBehind (documents_left ds) (documents_left es) old new
    → TellsOfInputs a_from a b_from b new (Ok d) → IsDocumentsParting a_from a b_from b d
all_part a_from a b_from b ds es old new d h k p q s parts t =
    let xs = (loads_of a_from a).documents in
    let ys = (loads_of b_from b).documents in
    let g = parts.past in
    let first_says : documents_left xs ≡ g.before ++ parts.left = sym (ended_say xs) ∙ ap (λ (z : List Document). documents_left z) (sym p) ∙ g.first_events in
    let second_says : documents_left ys ≡ g.before ++ parts.other_left = sym (ended_say ys) ∙ ap (λ (z : List Document). documents_left z) (sym q) ∙ g.second_events in
    let there = in_front (trees_of_dumps xs) (trees_of_dumps ys) g.before parts.left parts.other_left first_says second_says parts.next.differ in
    record {
      first = xs;
      second = ys;
      first_loads = faultless_load a_from a h;
      second_loads = faultless_load b_from b k;
      apart = λ agree. parts.next.differ (ap next_of (behind_same g.before parts.left parts.other_left (sym first_says ∙ ap (λ (c : List content.Document). documents_say c) (agreeing_said xs ys agree) ∙ second_says)));
      before = event.stream_start YAML_ANY_ENCODING ∷ g.before;
      left = parts.left;
      other_left = parts.other_left;
      first_says = ap (λ (x : List EventBody). event.stream_start YAML_ANY_ENCODING ∷ x) first_says;
      second_says = ap (λ (x : List EventBody). event.stream_start YAML_ANY_ENCODING ∷ x) second_says;
      differ = parts.next.differ;
      cause = t.cause ∙ parts.next.cause;
      tells = subst (λ (n : ℕ). TellsOf (event_at (events_of a_from a) n) (event_at (events_of b_from b) n) d) (counted new.events old.events g.before s.events g.events) t.tells;
      place = there.0;
      in_front = there.1;
      path = t.path ∙ g.path ∙ ap (λ (w : Path). past g.before w) s.path ∙ ap (λ (x : List EventBody). past x start) there.1 ∙ position_walked there.0;
    }
