-- Loads that are said by content come to the fault of loading the tokens.
use Rattle.std.proofs.Common.{◌≡◌, ◌∙◌, ◌⊎◌, inl, inr, ℕ, ℤ, pos, List, [], ◌∷◌, Option, Some, None, Result, Ok, refl, sym, ap, subst, arith}
use Rattle.yaml_parse_laws_trees.proofs.Words.{Fault, IsMemoryFault, load_layers, Document, Told, ParserRemaining, Reading, run, initial, reading_of, no_directives, Loading, LoadStep, nothing_loaded, step, FaultOfLoading, next_document, next_fault, next_none, LoadsByContent, one_more, ended, AreLoadsByContent, LoadIsNext, RefusalIsNext, GivesDocument, DocumentContent, document_of}
use Rattle.yaml_parse_laws_trees.specs.NextLoad.{loads_fault}
use Rattle.yaml_parse_laws_trees.specs.parse_grammar.parse_model.Nodes.{Node}
use Rattle.yaml_parse_laws_trees.specs.NextLoad as next
use Rattle.yaml_parse_laws_trees.specs.Laws.{LoadsComeToFault}
use Rattle.yaml_parse_laws_trees.specs.AllLoads.{load_all}
use Rattle.yaml_parse_loader.specs.Numbering.{Content, Numbered, ◌>>=◌}
unfoldable use Rattle.yaml_parse_loader.specs.Numbering.{number, number_items, number_pairs}
use Rattle.yaml_parse_loader.specs.Numbering as content
use Rattle.yaml_parse_laws_trees.proofs.ByStep.{Loads, behind_all, load_on, loads}
use Rattle.yaml_parse_laws_trees.proofs.ByStep as by_step
use Rattle.yaml_parse_laws_trees.proofs.Ends.{unless_rootless, fault_on, fault_of_loads, faults_alike}
use Rattle.yaml_parse_laws_trees.proofs.NextLoads.{load_is}
use Rattle.yaml_parse_laws_trees.proofs.Giving.{events_are_run}
use Rattle.yaml_parse_laws_trees.proofs.Ending.{fault_ends}
use Rattle.yaml_parse_laws_trees.proofs.LoadingEnding.{loads_end_in_fault}

-- ---- one load, and all of them

-- what all loads come to, by what the first one is
abbrev ComesTo : Option Fault → Loads → Option Fault → Type 0
ComesTo own (by_step.document d left n) f = f ≡ unless_rootless d.nodes (fault_of_loads left own nothing_loaded)
ComesTo own (by_step.faulty e) f = f ≡ Some e
ComesTo own by_step.nothing f = f ≡ None

none_left : (own : Option Fault) → ComesTo own (behind_all own) own
none_left own = grind arith

comes_on : (own : Option Fault) (c : LoadStep) (go : Loading → Loads) (k : Loading → Option Fault)
    (rest : List Told) (n : ℕ) → ((l : Loading) → ComesTo own (go l) (k l))
    → k nothing_loaded ≡ fault_of_loads rest own nothing_loaded
    → ComesTo own (load_on c go rest n) (fault_on c k)
comes_on own c go k rest n h e = grind arith

comes_to : (own : Option Fault) (gs : List Told) (l : Loading)
    → ComesTo own (loads gs own l) (fault_of_loads gs own l)
unfolding loads fault_of_loads
comes_to own [] l = none_left own
comes_to own (g ∷ gs) l = comes_on own (step g.0 l) (loads gs own) (fault_of_loads gs own) gs g.1 (λ m. comes_to own gs m) refl

-- ---- a document that is numbered has a root

ok_nodes : (q r : Numbered ℤ)
    → (let a : Result (Numbered ℤ) Fault = Ok q in let b : Result (Numbered ℤ) Fault = Ok r in a ≡ b)
    → q.nodes ≡ r.nodes
ok_nodes q r e = let p : q ≡ r = cc in ap (λ (z : Numbered ℤ). z.nodes) p

same_nodes : (ns ms : List Node) (f : Option Fault) → ns ≡ ms → unless_rootless ns f ≡ f
    → unless_rootless ms f ≡ f
same_nodes ns ms f p h = subst (λ (z : List Node). unless_rootless z f ≡ f) p h

made_rooted : {A : Type 0} (q : Result (Numbered A) Fault) (first : Numbered A → Node)
    (number : ℤ) (r : Numbered ℤ) (f : Option Fault)
    → (q >>= λ (x : Numbered A). Ok (record { number = number; nodes = first x ∷ x.nodes; before = x.before })) ≡ Ok r
    → unless_rootless r.nodes f ≡ f
made_rooted q first h2 r f e = grind (arith, same_nodes, ok_nodes)

rooted_number : (c : Content) (r : Numbered ℤ) (f : Option Fault) → number c 0 [] ≡ Ok r
    → unless_rootless r.nodes f ≡ f
unfolding number
rooted_number (content.alias name at) r f e = absurd cc
rooted_number (content.scalar h value plain quoted style) r f e = same_nodes (content.scalar_node h value style ∷ []) r.nodes f (ok_nodes _ r e) refl
rooted_number (content.sequence h implicit style items at) r f e = made_rooted (number_items items 1 (content.and_node h.anchor (pos 1) [])) (λ x. content.sequence_node h x.number style at.end_mark) (pos 1) r f e
rooted_number (content.mapping h implicit style pairs at) r f e = made_rooted (number_pairs pairs 1 (content.and_node h.anchor (pos 1) [])) (λ x. content.mapping_node h x.number style at.end_mark) (pos 1) r f e

whole_rooted : (d : DocumentContent) (e : Document) (f : Option Fault)
    (q : Result (Numbered ℤ) Fault) → number d.root 0 [] ≡ q → document_of d ≡ Ok e
    → unless_rootless e.nodes f ≡ f
whole_rooted d e f q p h = grind (arith, same_nodes, rooted_number)

rooted : (d : DocumentContent) (e : Document) (f : Option Fault) → document_of d ≡ Ok e
    → unless_rootless e.nodes f ≡ f
rooted d e f h = whole_rooted d e f (number d.root 0 []) refl h

-- ---- load after load

told_by : (own : Option Fault) (gs : List Told) (r : Loads) → loads gs own nothing_loaded ≡ r
    → ComesTo own r (fault_of_loads gs own nothing_loaded)
told_by own gs r h = subst (λ (z : Loads). ComesTo own z (fault_of_loads gs own nothing_loaded)) h (comes_to own gs nothing_loaded)

pub loads_are : (own : Option Fault) (behind : ℕ) (gs : List Told)
    (h : LoadsByContent own behind gs)
    → loads_fault h ≡ fault_of_loads gs own nothing_loaded
loads_are own behind gs (one_more hs left e unasked k more) =
    loads_are own behind left more
    ∙ sym (rooted k.content e (fault_of_loads left own nothing_loaded) k.numbered)
    ∙ sym (told_by own gs (by_step.document e left unasked) (load_is gs own behind (next_document e left unasked) k))
loads_are own behind gs (next.refused hs f unasked k) = sym (told_by own gs (by_step.faulty f) (load_is gs own behind (next_fault f unasked) k).0)
loads_are own behind gs (ended hs k) = sym (told_by own gs by_step.nothing (load_is gs own behind next_none k))

pub loads_come : LoadsComeToFault
loads_come ts own events ending behind p q h =
    let r : Reading = reading_of (run ts initial own) no_directives in
    subst (λ (f : Option Fault). FaultOfLoading ts own f)
    (ap (λ (gs : List Told). (load_all gs r.ending nothing_loaded).fault) (sym (events_are_run ts own events p))
    ∙ ap (λ (f : Option Fault). (load_all events f nothing_loaded).fault) (fault_ends ts own ending q)
    ∙ faults_alike events ending nothing_loaded
    ∙ sym (loads_are ending behind events h))
    (loads_end_in_fault ts own)

-- ---- a call

none_of : (f : Option Fault) → f ≡ None → fault_of_loads [] f nothing_loaded ≡ None
unfolding fault_of_loads
none_of f h = h

nothing_comes : (own : Option Fault) (behind : ℕ) (gs : List Told)
    (h : LoadsByContent own behind gs)
    → gs ≡ [] → own ≡ None → loads_fault h ≡ None
nothing_comes own behind gs h p q = loads_are own behind gs h ∙ ap (λ (xs : List Told). fault_of_loads xs own nothing_loaded) p ∙ none_of own q

left_alike : (old new : ParserRemaining) (left : List Told) (n : ℕ)
    (more : LoadsByContent old.ending old.ending_unasked left) (k : AreLoadsByContent new)
    → GivesDocument left n old new → loads_fault k ≡ loads_fault more
left_alike old new left n more k h = grind (arith, loads_are)

-- The fault that loads come to stays, as a document is loaded.
pub load_stays : (old new : ParserRemaining) (d : Document) (h : AreLoadsByContent old)
    → LoadIsNext old d new → (k : AreLoadsByContent new) → loads_fault k ≡ loads_fault h
load_stays old new d (one_more hs left e unasked m more) n k = left_alike old new left unasked more k (n (next_document e left unasked) m).1
load_stays old new d (next.refused hs f unasked m) n k = absurd (n (next_fault f unasked) m)
load_stays old new d (ended hs m) n k = let g = (n next_none m).1 in nothing_comes new.ending new.ending_unasked new.events k g.finished.events g.finished.ending

same_told : (e f : Fault) → f ≡ e → Some e ≡ Some f
same_told e f p = ap (λ (z : Fault). Some z) (sym p)

-- And is the one that is answered.
pub load_tells : (old new : ParserRemaining) (f : Fault) (h : AreLoadsByContent old)
    → RefusalIsNext old f new → IsMemoryFault load_layers f ⊎ (loads_fault h ≡ Some f)
load_tells old new f (one_more hs left e unasked m more) n = elim (n (next_document e left unasked) m).reason [ inl x ↦ inl x | inr q ↦ absurd q ]
load_tells old new f (next.refused hs g unasked m) n = elim (n (next_fault g unasked) m).reason [ inl x ↦ inl x | inr q ↦ inr (same_told g f q.0) ]
load_tells old new f (ended hs m) n = elim (n next_none m).reason [ inl x ↦ inl x | inr q ↦ absurd q ]
