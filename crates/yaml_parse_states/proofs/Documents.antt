-- The states of documents and directives at their tokens.
use Rattle.std.proofs.Common.{◌≡◌, ◌⊎◌, inl, inr, ◌<◌, Bool, true, false, List, [], ◌∷◌, reverse, length, Option, Some, None, refl, sym, ap, subst, ◌∙◌, arith}
use Rattle.std.proofs.lemmas.Bool.{false≢true}
use Rattle.yaml_parse_model.specs.declared.yaml_mark_t.{yaml_mark_t}
use Rattle.yaml_parse_model.specs.scan_types.Tokens.{Token, zero_mark}
use Rattle.yaml_parse_model.specs.scan_types.Tokens as token
use Rattle.yaml_parse_model.specs.scan_types.Faults.{Fault}
use Rattle.yaml_parse_model.specs.Source.{front_of, rest_of}
use Rattle.yaml_parse_model.specs.Events as event
use Rattle.yaml_parse_grammar.specs.declared.name.Choice.TheVariants.{Refuse, Take, Leave, Open}
use Rattle.yaml_parse_grammar.specs.declared.name.Site.TheVariants.{Root}
use Rattle.yaml_parse_grammar.specs.declared.problem.ParseProblem.TheVariants as problem
use Rattle.yaml_parse_grammar.specs.Items.{RawEvent, item_at}
use Rattle.yaml_parse_grammar.specs.Items as item
use Rattle.yaml_parse_grammar.specs.States.{State}
use Rattle.yaml_parse_grammar.specs.States as grammar
use Rattle.yaml_parse_grammar.specs.Machine.{Fed, feed, given_by, with_item, choice_at, taken_at, taken, follows, parts_documents}
use Rattle.yaml_parse_grammar.specs.Resolve.{Directives, Settled, placed, settle}
use Rattle.yaml_parse_grammar.proofs.Complete.{fed_by, optional_takes}
use Rattle.yaml_parse_grammar.proofs.Rules.{opens_node}
use Rattle.yaml_scan_model.specs.declared.kind.Kind.{Kind}
use Rattle.yaml_scan_model.specs.declared.kind.Kind.TheVariants as kind
use Rattle.yaml_scan_model.specs.Kinds.{body_by, is_fault, token_by, type_by}
use Rattle.yaml_scan_model.specs.Shows.{IsNext, ShowsToken, left_behind}
use Rattle.yaml_scan_model.specs.declared.tokens.Tokens.{Ghosts}
use Rattle.yaml_parse_states.specs.declared.parser.Parser.{Parser}
use Rattle.yaml_parse_states.specs.declared.parser.Turn.{Turn}
use Rattle.yaml_parse_states.specs.declared.parser.Turn.TheVariants as turn
use Rattle.yaml_parse_states.specs.Coming.{Coming, ahead, stopped, read}
use Rattle.yaml_parse_states.specs.Views.{coming_with, directives_of, event_in, stack}
use Rattle.yaml_parse_states.specs.Turned.{IsTaken, Refuses, Turned}
use Rattle.yaml_parse_states.specs.Documents.{Noted, Settles, TakesStart}
use Rattle.yaml_parse_states.specs.Standing.{StandsAfter}
use Rattle.yaml_parse_states.proofs.Reading.{read_by, fed_leaves}
use Rattle.yaml_parse_states.proofs.Fronts.{gives, notes, takes_refused, token_is}
use Rattle.yaml_parse_states.proofs.Founds.{coming_then, taken_unasked}
use Rattle.yaml_parse_states.proofs.Places.{same_place}
use Rattle.yaml_parse_states.proofs.Within.{next_asked}

-- ---- states that do the same at a token

alike : (k : Kind) (x y : State) (s : List State) (ts : List Token) (f : Option Fault)
    (ds : Directives) → IsNext k ts
    → feed (x ∷ s) (token_by k (front_of ts)) ≡ feed (y ∷ s) (token_by k (front_of ts))
    → read ts f (x ∷ s) ds ≡ read ts f (y ∷ s) ds
alike k x y s ts f ds n e =
    let same : front_of ts ≡ token_by k (front_of ts) = token_is k (front_of ts) n.is in
    let fed : feed (x ∷ s) (front_of ts) ≡ feed (y ∷ s) (front_of ts) = ap (feed (x ∷ s)) same ∙ e ∙ ap (feed (y ∷ s)) (sym same) in
    ap (λ z. read z f (x ∷ s) ds) n.same
    ∙ read_by (feed (y ∷ s) (front_of ts)) (front_of ts) (rest_of ts) f (x ∷ s) ds fed
    ∙ sym (read_by (feed (y ∷ s) (front_of ts)) (front_of ts) (rest_of ts) f (y ∷ s) ds refl)
    ∙ ap (λ z. read z f (y ∷ s) ds) (sym n.same)

first_fed : (k : Kind) (s : List State) (t : Token) → parts_documents (type_by k) ≡ true
    → feed (grammar.first ∷ s) (token_by k t) ≡ feed (grammar.documents ∷ s) (token_by k t)
unfolding feed
first_fed kind.StreamEnd s t h = refl
first_fed kind.VersionDirective s t h = refl
first_fed kind.TagDirective s t h = refl
first_fed kind.DocumentStart s t h = refl
first_fed k s t h = absurd (false≢true h)

-- what parts documents is the same for the first one
pub first_read : (k : Kind) (s : List State) (ts : List Token) (f : Option Fault) (ds : Directives)
    → IsNext k ts → parts_documents (type_by k) ≡ true
    → read ts f (grammar.first ∷ s) ds ≡ read ts f (grammar.documents ∷ s) ds
first_read k s ts f ds n h = alike k grammar.first grammar.documents s ts f ds n (first_fed k s (front_of ts) h)

-- a document begins with it, or its directives
abbrev pub begins_document : Kind → Bool
begins_document kind.VersionDirective = true
begins_document kind.TagDirective = true
begins_document kind.DocumentStart = true
begins_document k = false

directives_fed : (k : Kind) (s : List State) (t : Token) → begins_document k ≡ true
    → feed (grammar.documents ∷ s) (token_by k t)
    ≡ feed (grammar.directives t.start_mark ∷ s) (token_by k t)
unfolding feed
directives_fed kind.VersionDirective s t h = refl
directives_fed kind.TagDirective s t h = refl
directives_fed kind.DocumentStart s t h = refl
directives_fed k s t h = absurd (false≢true h)

pub directives_read : (k : Kind) (s : List State) (ts : List Token) (f : Option Fault)
    (ds : Directives) → IsNext k ts → begins_document k ≡ true
    → read ts f (grammar.documents ∷ s) ds
    ≡ read ts f (grammar.directives (front_of ts).start_mark ∷ s) ds
directives_read k s ts f ds n h =
    alike k grammar.documents (grammar.directives (front_of ts).start_mark) s ts f ds n (directives_fed k s (front_of ts) h)

-- ---- a document without `---`

opened_fed : (t : Token) (ts : List Token) (f : Option Fault) (s : List State) (ds : Directives)
    → choice_at grammar.first (token.type_of t.body) ≡ Open
    → read (t ∷ ts) f (grammar.first ∷ s) ds
    ≡ ahead (placed (event.document_start ds.version ds.tags true) (item_at (item.document true) t.start_mark t.start_mark)) (length ts)
    (read (t ∷ ts) f (grammar.optional Root t.start_mark ∷ grammar.document_end ∷ grammar.documents ∷ s) ds)
opened_fed t ts f s ds h =
    let fed : Fed = given_by (taken_at (grammar.optional Root t.start_mark) t) (grammar.document_end ∷ grammar.documents ∷ s) in
    let i : RawEvent = item_at (item.document true) t.start_mark t.start_mark in
    read_by (with_item i fed) t ts f (grammar.first ∷ s) ds (fed_by Open grammar.first t s h)
    ∙ fed_leaves i fed ts f ds ds (event.document_start ds.version ds.tags true) refl
    ∙ ap (ahead (placed (event.document_start ds.version ds.tags true) i) (length ts))
    (sym (read_by fed t ts f (grammar.optional Root t.start_mark ∷ grammar.document_end ∷ grammar.documents ∷ s) ds
    (fed_by Take (grammar.optional Root t.start_mark) t (grammar.document_end ∷ grammar.documents ∷ s) (optional_takes Root t.start_mark (token.type_of t.body) (opens_node grammar.first (token.type_of t.body) h)))))

type_is : (k : Kind) (t : Token) → token.type_of (body_by k t.body) ≡ type_by k
type_is k t = grind arith

pub opened_read : (k : Kind) (s : List State) (ts : List Token) (f : Option Fault)
    (ds : Directives) → IsNext k ts → choice_at grammar.first (type_by k) ≡ Open
    → read ts f (grammar.first ∷ s) ds
    ≡ ahead (placed (event.document_start ds.version ds.tags true) (item_at (item.document true) (front_of ts).start_mark (front_of ts).start_mark)) (left_behind ts)
    (read ts f (grammar.optional Root zero_mark ∷ grammar.document_end ∷ grammar.documents ∷ s) ds)
opened_read k s ts f ds n h =
    let t : Token = front_of ts in
    ap (λ z. read z f (grammar.first ∷ s) ds) n.same
    ∙ opened_fed t (rest_of ts) f s ds (ap (λ b. choice_at grammar.first (token.type_of b)) n.is ∙ ap (choice_at grammar.first) (type_is k t) ∙ h)
    ∙ ap (ahead (placed (event.document_start ds.version ds.tags true) (item_at (item.document true) t.start_mark t.start_mark)) (left_behind ts))
    (ap (λ z. read z f (grammar.optional Root t.start_mark ∷ grammar.document_end ∷ grammar.documents ∷ s) ds) (sym n.same)
    ∙ same_place Root t.start_mark zero_mark (λ z. refl) ts f (grammar.document_end ∷ grammar.documents ∷ s) ds)

-- ---- which kinds do what

pub first_opens : (k : Kind) → (k ≡ kind.Scalar)
    ⊎ ((k ≡ kind.FlowSequenceStart) ⊎ ((k ≡ kind.FlowMappingStart)
    ⊎ ((k ≡ kind.BlockSequenceStart) ⊎ ((k ≡ kind.BlockMappingStart) ⊎ ((k ≡ kind.Alias) ⊎ ((k ≡ kind.Anchor) ⊎ (k ≡ kind.Tag)))))))
    → choice_at grammar.first (type_by k) ≡ Open
first_opens k (inl e) = ap (λ z. choice_at grammar.first (type_by z)) e
first_opens k (inr (inl e)) = ap (λ z. choice_at grammar.first (type_by z)) e
first_opens k (inr (inr (inl e))) = ap (λ z. choice_at grammar.first (type_by z)) e
first_opens k (inr (inr (inr (inl e)))) = ap (λ z. choice_at grammar.first (type_by z)) e
first_opens k (inr (inr (inr (inr (inl e))))) = ap (λ z. choice_at grammar.first (type_by z)) e
first_opens k (inr (inr (inr (inr (inr (inl e)))))) = ap (λ z. choice_at grammar.first (type_by z)) e
first_opens k (inr (inr (inr (inr (inr (inr (inl e))))))) = ap (λ z. choice_at grammar.first (type_by z)) e
first_opens k (inr (inr (inr (inr (inr (inr (inr e))))))) = ap (λ z. choice_at grammar.first (type_by z)) e

pub opens_no_fault : (k : Kind) → choice_at grammar.first (type_by k) ≡ Open → is_fault k ≡ false
opens_no_fault kind.Failed h = cc
opens_no_fault kind.BadTag h = cc
opens_no_fault kind.BadPrefix h = cc
opens_no_fault k h = refl

-- ---- directives

pub noted_by : {T P : Type 0} (g : Ghosts T P) (k : Kind) (i : RawEvent) (s : Settled)
    (from : yaml_mark_t)
    (r : Turn) (old mid new : Parser T P)
    → IsNext k (g.to_come old.tokens) → IsTaken g old.tokens mid.tokens
    → mid ≡ record old { tokens = mid.tokens }
    → choice_at (grammar.directives from) (type_by k) ≡ Take
    → taken_at (grammar.directives from) (token_by k (front_of (g.to_come old.tokens)))
    ≡ taken (Some i) (grammar.directives from ∷ [])
    → settle i (directives_of old.directives) ≡ s
    → Settles g s mid r new
    → Noted g (coming_with g (grammar.directives from ∷ []) old) from old r new
noted_by g k i s from turn.Given old mid new n t same c y e h = (
  notes k (grammar.directives from) i (grammar.directives from ∷ []) [] (g.to_come old.tokens) (g.fault_to_come old.tokens) (directives_of old.directives) (directives_of new.directives) n c y (e ∙ h.0)
      ∙ ap (λ ts. read ts (g.fault_to_come old.tokens) (grammar.directives from ∷ []) (directives_of new.directives)) (sym t.rest)
      ∙ ap (λ f. read (g.to_come mid.tokens) f (grammar.directives from ∷ []) (directives_of new.directives)) (sym t.fault)
      ∙ ap (λ (p : Parser _ _). read (g.to_come p.tokens) (g.fault_to_come p.tokens) (grammar.directives from ∷ []) (directives_of new.directives)) (sym h.1),
  ap (λ (p : Parser _ _). g.mark_of p.tokens) h.1 ∙ t.places,
  ap (λ (p : Parser _ _). g.to_come p.tokens) h.1 ∙ t.rest,
)
noted_by g k i s from turn.Refused old mid new n t same c y e h =
    let u : g.unasked mid.tokens ≡ left_behind (g.to_come old.tokens) = t.unasked ∙ ap length t.rest in
    elim h.reason [
      | inl z ↦ inl (record {
        fault = h.refuses.fault;
        told = h.refuses.told;
        over = h.refuses.over;
        unasked = left_behind (g.to_come old.tokens);
        left = h.refuses.unasked ∙ u;
        reason = inr (takes_refused k (grammar.directives from) i (grammar.directives from ∷ []) [] (g.to_come old.tokens) (g.fault_to_come old.tokens) (directives_of old.directives) h.fault n c y (e ∙ z)
            ∙ ap (λ f. stopped f (left_behind (g.to_come old.tokens))) (sym h.refuses.is));
      })
      | inr m ↦ inr (record {
        fault = h.refuses.fault;
        told = h.refuses.told;
        over = h.refuses.over;
        unasked = left_behind (g.to_come old.tokens);
        left = h.refuses.unasked ∙ u;
        memory = h.refuses.is ∙ m;
        asked = next_asked k (g.to_come old.tokens) (g.fault_to_come old.tokens) (grammar.directives from ∷ []) (directives_of old.directives) n;
      })
    ]
noted_by g k i s from r old mid new n t same c y e h = absurd h

pub refuses_from : {T P : Type 0} (g : Ghosts T P) (f : Fault) (old mid new : Parser T P)
    → mid.tokens ≡ old.tokens → Refuses g f mid new → Refuses g f old new
refuses_from g f old mid new e h = record {
  fault = h.fault;
  told = h.told;
  is = h.is;
  over = h.over;
  unasked = h.unasked ∙ ap (λ z. g.unasked z) e;
}

pub noted_refused : {T P : Type 0} (g : Ghosts T P) (was : Coming) (from : yaml_mark_t) (r : Turn)
    (old new : Parser T P) → Noted g was from old r new → (r ≡ turn.Given → ⊥) → Turned g was r new
noted_refused g was from turn.Given old new h n = absurd (n refl)
noted_refused g was from turn.Refused old new h n = h
noted_refused g was from r old new h n = absurd h

-- ---- fewer tokens are left

pub fewer : (k : Kind) (old new rest : List Token) (f h : Option Fault) → ShowsToken k old f new h
    → (body_by k token.no ≡ token.no → ⊥) → rest ≡ rest_of new → length rest < length old
fewer k [] new rest f h s n e = absurd (n (sym (subst (λ (t : Token). t.body ≡ body_by k t.body) (ap front_of s.front) s.next.is)))
fewer k (t ∷ ts) new rest f h s n e =
    let same : rest ≡ ts = e ∙ ap rest_of s.front in
    let long : length rest ≡ length ts = ap length same in
    omega (arith, long)

-- ---- kinds at the states of documents

pub stream_refuses : (k : Kind) → (k ≡ kind.StreamStart → ⊥)
    → choice_at grammar.stream (type_by k) ≡ Refuse problem.NoStreamStart None
stream_refuses kind.StreamStart n = absurd (n refl)
stream_refuses k n = refl

pub first_parts : (k : Kind) → (k ≡ kind.StreamEnd)
    ⊎ ((k ≡ kind.DocumentStart) ⊎ ((k ≡ kind.VersionDirective) ⊎ (k ≡ kind.TagDirective)))
    → parts_documents (type_by k) ≡ true
first_parts k (inl e) = ap (λ z. parts_documents (type_by z)) e
first_parts k (inr (inl e)) = ap (λ z. parts_documents (type_by z)) e
first_parts k (inr (inr (inl e))) = ap (λ z. parts_documents (type_by z)) e
first_parts k (inr (inr (inr e))) = ap (λ z. parts_documents (type_by z)) e

pub parts_follow : (k : Kind) → parts_documents (type_by k) ≡ true → follows Root (type_by k) ≡ true
parts_follow kind.DocumentEnd h = refl
parts_follow k h = h

pub parts_no_fault : (k : Kind) → follows Root (type_by k) ≡ true → is_fault k ≡ false
parts_no_fault kind.Failed h = absurd (false≢true h)
parts_no_fault kind.BadTag h = absurd (false≢true h)
parts_no_fault kind.BadPrefix h = absurd (false≢true h)
parts_no_fault k h = refl

pub root_follows : (k : Kind) → (k ≡ kind.DocumentEnd)
    ⊎ ((k ≡ kind.StreamEnd) ⊎ ((k ≡ kind.VersionDirective)
    ⊎ ((k ≡ kind.TagDirective) ⊎ (k ≡ kind.DocumentStart))))
    → follows Root (type_by k) ≡ true
root_follows k (inl e) = ap (λ z. follows Root (type_by z)) e
root_follows k (inr (inl e)) = ap (λ z. follows Root (type_by z)) e
root_follows k (inr (inr (inl e))) = ap (λ z. follows Root (type_by z)) e
root_follows k (inr (inr (inr (inl e)))) = ap (λ z. follows Root (type_by z)) e
root_follows k (inr (inr (inr (inr e)))) = ap (λ z. follows Root (type_by z)) e

pub root_stays : (k : Kind) → (k ≡ kind.DocumentEnd → ⊥) → (k ≡ kind.StreamEnd → ⊥)
    → (k ≡ kind.VersionDirective → ⊥) → (k ≡ kind.TagDirective → ⊥) → (k ≡ kind.DocumentStart → ⊥)
    → follows Root (type_by k) ≡ false
root_stays kind.DocumentEnd a b c d e = absurd (a refl)
root_stays kind.StreamEnd a b c d e = absurd (b refl)
root_stays kind.VersionDirective a b c d e = absurd (c refl)
root_stays kind.TagDirective a b c d e = absurd (d refl)
root_stays kind.DocumentStart a b c d e = absurd (e refl)
root_stays k a b c d e = refl

pub end_leaves : (k : Kind) → (k ≡ kind.DocumentEnd → ⊥)
    → choice_at grammar.document_end (type_by k) ≡ Leave
end_leaves kind.DocumentEnd n = absurd (n refl)
end_leaves k n = refl

pub first_refuses : (k : Kind) → (k ≡ kind.Scalar → ⊥) → (k ≡ kind.FlowSequenceStart → ⊥)
    → (k ≡ kind.FlowMappingStart → ⊥) → (k ≡ kind.BlockSequenceStart → ⊥) → (k ≡ kind.BlockMappingStart → ⊥)
    → (k ≡ kind.Alias → ⊥) → (k ≡ kind.Anchor → ⊥) → (k ≡ kind.Tag → ⊥) → (k ≡ kind.StreamEnd → ⊥)
    → (k ≡ kind.DocumentStart → ⊥) → (k ≡ kind.VersionDirective → ⊥) → (k ≡ kind.TagDirective → ⊥)
    → choice_at grammar.first (type_by k) ≡ Refuse problem.NoBlockNode None
first_refuses kind.Scalar a b c d e f g h i j l m = absurd (a refl)
first_refuses kind.FlowSequenceStart a b c d e f g h i j l m = absurd (b refl)
first_refuses kind.FlowMappingStart a b c d e f g h i j l m = absurd (c refl)
first_refuses kind.BlockSequenceStart a b c d e f g h i j l m = absurd (d refl)
first_refuses kind.BlockMappingStart a b c d e f g h i j l m = absurd (e refl)
first_refuses kind.Alias a b c d e f g h i j l m = absurd (f refl)
first_refuses kind.Anchor a b c d e f g h i j l m = absurd (g refl)
first_refuses kind.Tag a b c d e f g h i j l m = absurd (h refl)
first_refuses kind.StreamEnd a b c d e f g h i j l m = absurd (i refl)
first_refuses kind.DocumentStart a b c d e f g h i j l m = absurd (j refl)
first_refuses kind.VersionDirective a b c d e f g h i j l m = absurd (l refl)
first_refuses kind.TagDirective a b c d e f g h i j l m = absurd (m refl)
first_refuses k a b c d e f g h i j l m = refl

pub documents_refuse : (k : Kind) → (k ≡ kind.DocumentEnd → ⊥) → (k ≡ kind.StreamEnd → ⊥)
    → (k ≡ kind.DocumentStart → ⊥) → (k ≡ kind.VersionDirective → ⊥) → (k ≡ kind.TagDirective → ⊥)
    → choice_at grammar.documents (type_by k) ≡ Refuse problem.NoDocumentStart None
documents_refuse kind.DocumentEnd a b c d e = absurd (a refl)
documents_refuse kind.StreamEnd a b c d e = absurd (b refl)
documents_refuse kind.DocumentStart a b c d e = absurd (c refl)
documents_refuse kind.VersionDirective a b c d e = absurd (d refl)
documents_refuse kind.TagDirective a b c d e = absurd (e refl)
documents_refuse k a b c d e = refl

pub directives_refuse : (k : Kind) (from : yaml_mark_t) → (k ≡ kind.VersionDirective → ⊥)
    → (k ≡ kind.TagDirective → ⊥) → (k ≡ kind.DocumentStart → ⊥)
    → choice_at (grammar.directives from) (type_by k) ≡ Refuse problem.NoDocumentStart None
directives_refuse kind.VersionDirective m a b c = absurd (a refl)
directives_refuse kind.TagDirective m a b c = absurd (b refl)
directives_refuse kind.DocumentStart m a b c = absurd (c refl)
directives_refuse k m a b c = refl

pub document_begins : (k : Kind) → (k ≡ kind.DocumentStart)
    ⊎ ((k ≡ kind.VersionDirective) ⊎ (k ≡ kind.TagDirective))
    → begins_document k ≡ true
document_begins k (inl e) = ap begins_document e
document_begins k (inr (inl e)) = ap begins_document e
document_begins k (inr (inr e)) = ap begins_document e

pub begins_no_fault : (k : Kind) → begins_document k ≡ true → is_fault k ≡ false
begins_no_fault kind.Failed h = absurd (false≢true h)
begins_no_fault kind.BadTag h = absurd (false≢true h)
begins_no_fault kind.BadPrefix h = absurd (false≢true h)
begins_no_fault k h = refl

-- ---- a document's start, after directives

pub start_turned : {T P : Type 0} (g : Ghosts T P) (from : yaml_mark_t) (r : Turn)
    (old new : Parser T P) → IsNext kind.DocumentStart (g.to_come old.tokens) → r ≡ turn.Given
    → TakesStart g from old new → Turned g (coming_with g (grammar.directives from ∷ []) old) r new
start_turned g from r old new n is t =
    let u : Token = front_of (g.to_come old.tokens) in
    let ds : Directives = directives_of old.directives in
    let b = event.document_start ds.version ds.tags false in
    let i = item_at (item.document false) from u.end_mark in
    let rest = rest_of (g.to_come old.tokens) in
    let f = g.fault_to_come old.tokens in
    subst (λ z. Turned g (coming_with g (grammar.directives from ∷ []) old) z new) (sym is) (record {
      unasked = left_behind (g.to_come old.tokens);
      left = taken_unasked g old.tokens new.tokens t.token;
      next = gives kind.DocumentStart (grammar.directives from) i b (grammar.optional Root u.end_mark ∷ grammar.document_end ∷ grammar.documents ∷ []) [] (g.to_come old.tokens) f ds ds n refl refl refl
          ∙ ap (λ e. ahead e (left_behind (g.to_come old.tokens)) (read rest f (grammar.optional Root u.end_mark ∷ grammar.document_end ∷ grammar.documents ∷ []) ds)) (sym t.event)
          ∙ ap (ahead (event_in g new) (left_behind (g.to_come old.tokens)))
          (same_place Root u.end_mark zero_mark (λ z. refl) rest f (grammar.document_end ∷ grammar.documents ∷ []) ds
          ∙ sym (coming_then g old new (grammar.optional Root zero_mark ∷ grammar.document_end ∷ grammar.documents ∷ []) ds t.token
          (ap (λ (p : Parser _ _). stack (g.mark_of new.tokens) p.state (reverse new.levels.items)) t.same)
          (ap (λ (p : Parser _ _). directives_of p.directives) t.same)));
    })

pub noted_stands : {T P : Type 0} (g : Ghosts T P) (was : Coming) (from : yaml_mark_t) (r : Turn)
    (old new : Parser T P) → Noted g was from old r new → (r ≡ turn.Given → ⊥) → StandsAfter r new
noted_stands g was from turn.Given old new h n = absurd (n refl)
noted_stands g was from turn.Refused old new h n = tt
noted_stands g was from r old new h n = absurd h
