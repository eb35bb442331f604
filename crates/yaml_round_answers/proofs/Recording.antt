-- A record means the event that it was made of.
use mir.Syntax.{w32}
use mir.Val.{to_z, of_z}
use Rattle.std.proofs.Common.{◌≡◌, ◌∙◌, ap, sym, subst, refl, ℕ, ◌+◌, ℤ, pos, List, [], ◌++◌, length, Bool, true, false, Option, None, Some, Bor, Result, Ok, Err, map, option_map, append_assoc}
use Rattle.std.specs.Prelude.{IfOk}
use Rattle.std.specs.Option.{is_some}
use Rattle.std.proofs.lemmas.List.{append-nil, length-append}
use Rattle.yaml_parse.specs.declared.yaml_encoding_t.{yaml_encoding_t}
use Rattle.yaml_parse.specs.declared.yaml_encoding_t.TheVariants as encoding
use Rattle.yaml_parse.specs.declared.yaml_mark_t.{yaml_mark_t}
use Rattle.yaml_parse.specs.declared.yaml_scalar_style_t.{yaml_scalar_style_t}
use Rattle.yaml_parse.specs.declared.yaml_scalar_style_t.TheVariants as scalar
use Rattle.yaml_parse.specs.declared.yaml_sequence_style_t.{yaml_sequence_style_t}
use Rattle.yaml_parse.specs.declared.yaml_sequence_style_t.TheVariants as sequence
use Rattle.yaml_parse.specs.declared.yaml_mapping_style_t.{yaml_mapping_style_t}
use Rattle.yaml_parse.specs.declared.yaml_mapping_style_t.TheVariants as mapping
use Rattle.yaml_parse.specs.declared.yaml_version_directive_t.{yaml_version_directive_t}
use Rattle.yaml_parse.specs.declared.yaml_tag_directive_t.{yaml_tag_directive_t}
use Rattle.yaml_parse.specs.Events.{EventBody, TagDirective, directive_of}
use Rattle.yaml_parse.specs.Events as event
use Rattle.yaml_parse.specs.declared.EventRef.{EventRef}
use Rattle.yaml_parse.specs.declared.EventRef.TheVariants as borrowed
use Rattle.yaml_parse.specs.Events.{borrowed_body}
use Rattle.yaml_round_answers.specs.declared.record.yaml_c_mark.{yaml_c_mark}
use Rattle.yaml_round_answers.specs.declared.record.yaml_c_span.{yaml_c_span}
use Rattle.yaml_round_answers.specs.declared.record.yaml_c_directive.{yaml_c_directive}
use Rattle.yaml_round_answers.specs.declared.record.yaml_c_event.{yaml_c_event}
use Rattle.yaml_round_answers.specs.declared.listing.Listing.{Listing}
use Rattle.yaml_round_answers.specs.Numbers.{is_set, is_there, flag_told, kind_meant, encoding_meant, scalar_style_meant, sequence_style_meant, mapping_style_meant, encoding_number, scalar_style_number, sequence_style_number, mapping_style_number}
use Rattle.yaml_round_answers.specs.Records.{mark_told, part_at, optional_at, directives_at, bare, body_meant}
use Rattle.yaml_round_answers.specs.Blocks.{optional_text, node_texts, body_texts, body_directives}
use Rattle.yaml_round_answers.specs.Listing.{Grows, span_at, optional_span, with_properties, with_texts, base_record, placed, PutsText, PutsTexts, PutsDirectives, AppendsDirectives, Records}
use Rattle.yaml_round_answers.proofs.Checked.{NoDocument, no_document}
use Rattle.yaml_round_answers.proofs.Placing.{grows_itself, part_stands, put_on}
use Rattle.yaml_round_answers.proofs.Directing.{none_appended}

-- ---- numbers

set_back : (b : Bool) → is_set (flag_told b) ≡ b
unfolding is_set
set_back true = refl
set_back false = refl

encoding_back : (x : yaml_encoding_t) → encoding_meant (encoding_number x) ≡ Some x
unfolding encoding_meant
encoding_back encoding.YAML_ANY_ENCODING = refl
encoding_back encoding.YAML_UTF8_ENCODING = refl
encoding_back encoding.YAML_UTF16LE_ENCODING = refl
encoding_back encoding.YAML_UTF16BE_ENCODING = refl

scalar_back : (y : yaml_scalar_style_t) → scalar_style_meant (scalar_style_number y) ≡ Some y
unfolding scalar_style_meant
scalar_back scalar.YAML_ANY_SCALAR_STYLE = refl
scalar_back scalar.YAML_PLAIN_SCALAR_STYLE = refl
scalar_back scalar.YAML_SINGLE_QUOTED_SCALAR_STYLE = refl
scalar_back scalar.YAML_DOUBLE_QUOTED_SCALAR_STYLE = refl
scalar_back scalar.YAML_LITERAL_SCALAR_STYLE = refl
scalar_back scalar.YAML_FOLDED_SCALAR_STYLE = refl

sequence_back : (y : yaml_sequence_style_t)
    → sequence_style_meant (sequence_style_number y) ≡ Some y
unfolding sequence_style_meant
sequence_back sequence.YAML_ANY_SEQUENCE_STYLE = refl
sequence_back sequence.YAML_BLOCK_SEQUENCE_STYLE = refl
sequence_back sequence.YAML_FLOW_SEQUENCE_STYLE = refl

mapping_back : (y : yaml_mapping_style_t) → mapping_style_meant (mapping_style_number y) ≡ Some y
unfolding mapping_style_meant
mapping_back mapping.YAML_ANY_MAPPING_STYLE = refl
mapping_back mapping.YAML_BLOCK_MAPPING_STYLE = refl
mapping_back mapping.YAML_FLOW_MAPPING_STYLE = refl

-- ---- texts that are somewhere

text_stands : (bytes before after : List ℕ) (n : ℕ) (t : List ℕ)
    → bytes ≡ (before ++ t) ++ after → n ≡ length before → part_at bytes (span_at n t) ≡ Some t
text_stands bytes before after n t e h =
    ap (λ z. part_at z (span_at n t)) e ∙ part_stands before t after (span_at n t) h refl

option_stands : (bytes before after : List ℕ) (n : ℕ) (t : Option (List ℕ))
    → bytes ≡ (before ++ optional_text t) ++ after → n ≡ length before
    → optional_at bytes (flag_told (is_some t)) (optional_span n t) ≡ Some t
unfolding is_set is_there
option_stands bytes before after n None e h = refl
option_stands bytes before after n (Some t) e h = rw (text_stands bytes before after n t e h) refl

-- of two texts the first one, and the second one
first : (o a b m : List ℕ) → (o ++ (a ++ b)) ++ m ≡ (o ++ a) ++ (b ++ m)
first o a b m = ap (λ z. z ++ m) (sym (append_assoc o a b)) ∙ append_assoc (o ++ a) b m

second : (o a b m : List ℕ) → (o ++ (a ++ b)) ++ m ≡ ((o ++ a) ++ b) ++ m
second o a b m = ap (λ z. z ++ m) (sym (append_assoc o a b))

-- ---- what a record means

means_scalar : (bytes : List ℕ) (list : List yaml_c_directive) (r : yaml_c_event)
    (a t : Option (List ℕ)) (v : List ℕ) (p q : Bool)
    (s : yaml_scalar_style_t) → r.kind ≡ pos 6 → optional_at bytes r.has_anchor r.anchor ≡ Some a
    → optional_at bytes r.has_tag r.tag ≡ Some t → part_at bytes r.value ≡ Some v
    → scalar_style_meant r.style ≡ Some s
    → is_set r.implicit ≡ p → is_set r.quoted_implicit ≡ q
    → body_meant bytes list r ≡ Some (event.scalar a t v p q s)
unfolding body_meant kind_meant
means_scalar bytes list r a t v p q s k ha ht hv hs hp hq = rw (k, ha, ht, hv, hs, hp, hq) refl

means_sequence : (bytes : List ℕ) (list : List yaml_c_directive) (r : yaml_c_event)
    (a t : Option (List ℕ)) (i : Bool)
    (s : yaml_sequence_style_t) → r.kind ≡ pos 7 → optional_at bytes r.has_anchor r.anchor ≡ Some a
    → optional_at bytes r.has_tag r.tag ≡ Some t → sequence_style_meant r.style ≡ Some s
    → is_set r.implicit ≡ i → body_meant bytes list r ≡ Some (event.sequence_start a t i s)
unfolding body_meant kind_meant
means_sequence bytes list r a t i s k ha ht hs hi = rw (k, ha, ht, hs, hi) refl

means_mapping : (bytes : List ℕ) (list : List yaml_c_directive) (r : yaml_c_event)
    (a t : Option (List ℕ)) (i : Bool)
    (s : yaml_mapping_style_t) → r.kind ≡ pos 9 → optional_at bytes r.has_anchor r.anchor ≡ Some a
    → optional_at bytes r.has_tag r.tag ≡ Some t → mapping_style_meant r.style ≡ Some s
    → is_set r.implicit ≡ i → body_meant bytes list r ≡ Some (event.mapping_start a t i s)
unfolding body_meant kind_meant
means_mapping bytes list r a t i s k ha ht hs hi = rw (k, ha, ht, hs, hi) refl

-- the record of an event other than a document's start, whose texts are after these bytes
abbrev record_at : List ℕ → EventBody → yaml_c_mark → yaml_c_mark → yaml_c_event
record_at o b s e = with_texts (length o) b (base_record b s e)

means : (o m : List ℕ) (list : List yaml_c_directive) (b : EventBody) (s e : yaml_c_mark)
    → NoDocument b
    → body_meant ((o ++ node_texts b) ++ m) list (record_at o b s e) ≡ Some b
unfolding body_meant kind_meant is_set
means o m list event.no s e h = refl
means o m list (event.stream_start x) s e h = ap (option_map event.stream_start) (encoding_back x)
means o m list event.stream_end s e h = refl
means o m list (event.document_start v ds i) s e h = absurd h
means o m list (event.document_end true) s e h = refl
means o m list (event.document_end false) s e h = refl
means o m list (event.alias a) s e h = ap (option_map event.alias) (text_stands ((o ++ a) ++ m) o m (length o) a refl refl)
means o m list (event.scalar a t v p q y) s e h =
    let A : List ℕ = optional_text a in
    let T : List ℕ = optional_text t in
    let bytes : List ℕ = (o ++ ((A ++ T) ++ v)) ++ m in
    means_scalar bytes list (record_at o (event.scalar a t v p q y) s e) a t v p q y refl
    (option_stands bytes o (T ++ (v ++ m)) (length o) a (first o (A ++ T) v m ∙ first o A T (v ++ m)) refl)
    (option_stands bytes (o ++ A) (v ++ m) (length o + length A) t (first o (A ++ T) v m ∙ second o A T (v ++ m)) (sym (length-append o A)))
    (text_stands bytes (o ++ (A ++ T)) m (length o + length (A ++ T)) v (second o (A ++ T) v m) (sym (length-append o (A ++ T))))
    (scalar_back y) (set_back p) (set_back q)
means o m list (event.sequence_start a t i y) s e h =
    let A : List ℕ = optional_text a in
    let T : List ℕ = optional_text t in
    let bytes : List ℕ = (o ++ (A ++ T)) ++ m in
    means_sequence bytes list (record_at o (event.sequence_start a t i y) s e) a t i y refl
    (option_stands bytes o (T ++ m) (length o) a (first o A T m) refl)
    (option_stands bytes (o ++ A) m (length o + length A) t (second o A T m) (sym (length-append o A)))
    (sequence_back y) (set_back i)
means o m list event.sequence_end s e h = refl
means o m list (event.mapping_start a t i y) s e h =
    let A : List ℕ = optional_text a in
    let T : List ℕ = optional_text t in
    let bytes : List ℕ = (o ++ (A ++ T)) ++ m in
    means_mapping bytes list (record_at o (event.mapping_start a t i y) s e) a t i y refl
    (option_stands bytes o (T ++ m) (length o) a (first o A T m) refl)
    (option_stands bytes (o ++ A) m (length o + length A) t (second o A T m) (sym (length-append o A)))
    (mapping_back y) (set_back i)
means o m list event.mapping_end s e h = refl

-- ---- what it has beside

texts_same : (b : EventBody) → NoDocument b → node_texts b ≡ body_texts b
texts_same (event.document_start v ds i) h = absurd h
texts_same _ h = refl

none_listed : (b : EventBody) → NoDocument b → [] ≡ body_directives b
none_listed (event.document_start v ds i) h = absurd h
none_listed _ h = refl

starts : (o : List ℕ) (b : EventBody) (s e : yaml_c_mark) → NoDocument b
    → (record_at o b s e).start ≡ s
starts o (event.document_start v ds i) s e h = absurd h
starts o _ s e h = refl

ends : (o : List ℕ) (b : EventBody) (s e : yaml_c_mark) → NoDocument b
    → (record_at o b s e).end ≡ e
ends o (event.document_start v ds i) s e h = absurd h
ends o _ s e h = refl

only : (o : List ℕ) (b : EventBody) (s e : yaml_c_mark) → NoDocument b
    → record_at o b s e ≡ bare b (record_at o b s e)
only o (event.document_start v ds i) s e h = absurd h
only o (event.scalar None None v p q y) s e h = refl
only o (event.scalar None (Some t) v p q y) s e h = refl
only o (event.scalar (Some a) None v p q y) s e h = refl
only o (event.scalar (Some a) (Some t) v p q y) s e h = refl
only o (event.sequence_start None None i y) s e h = refl
only o (event.sequence_start None (Some t) i y) s e h = refl
only o (event.sequence_start (Some a) None i y) s e h = refl
only o (event.sequence_start (Some a) (Some t) i y) s e h = refl
only o (event.mapping_start None None i y) s e h = refl
only o (event.mapping_start None (Some t) i y) s e h = refl
only o (event.mapping_start (Some a) None i y) s e h = refl
only o (event.mapping_start (Some a) (Some t) i y) s e h = refl
only o _ s e h = refl

-- an event without texts
pub no_texts : (x : EventRef) (old : List ℕ) (r : yaml_c_event)
    → ((a : _) → x ≡ borrowed.Alias a → ⊥)
    → ((a : _) (t : _) (v : _) (p : _) (q : _) (y : _) → x ≡ borrowed.Scalar a t v p q y → ⊥)
    → ((a : _) (t : _) (i : _) (y : _) → x ≡ borrowed.SequenceStart a t i y → ⊥)
    → ((a : _) (t : _) (i : _) (y : _) → x ≡ borrowed.MappingStart a t i y → ⊥)
    → PutsTexts old (borrowed_body x) r old r
no_texts (borrowed.Alias a) old r ha hs hq hm = absurd (ha a refl)
no_texts (borrowed.Scalar a t v p q y) old r ha hs hq hm = absurd (hs a t v p q y refl)
no_texts (borrowed.SequenceStart a t i y) old r ha hs hq hm = absurd (hq a t i y refl)
no_texts (borrowed.MappingStart a t i y) old r ha hs hq hm = absurd (hm a t i y refl)
no_texts _ old r ha hs hq hm = record { put = sym (append-nil old); is = refl }

-- a flag as the machine keeps it
told_back : (b : Bool) (z : ℤ) → z ≡ flag_told b → to_z w32 (of_z w32 z) ≡ flag_told b
told_back true z e = rw e refl
told_back false z e = rw e refl

pub mapped_some : (o : Option (Bor (List ℕ))) → is_some (option_map (λ t. t.now) o) ≡ is_some o
mapped_some None = refl
mapped_some (Some t) = refl

four : (f : ℤ → yaml_c_span → ℤ → yaml_c_span → yaml_c_event) (m n x y : ℤ) (s t u v : yaml_c_span)
    → m ≡ n → s ≡ t → x ≡ y → u ≡ v → f m s x u ≡ f n t y v
four f m n x y s t u v k p l q = rw (k, p, l, q) refl

-- a node's properties, one after the other
pub properties_told : (old mid : List ℕ) (base : yaml_c_event) (a t : Option (List ℕ)) (x y : ℤ)
    (s u : yaml_c_span) → x ≡ flag_told (is_some a) → y ≡ flag_told (is_some t)
    → s ≡ optional_span (length old) a → mid ≡ old ++ optional_text a
    → u ≡ optional_span (length mid) t
    → record base {
      has_anchor = to_z w32 (of_z w32 x);
      anchor = s;
      has_tag = to_z w32 (of_z w32 y);
      tag = u;
    } ≡ with_properties (length old) a t base
properties_told old mid base a t x y s u hx hy hs put hu =
    four (λ k p l q. record base { has_anchor = k; anchor = p; has_tag = l; tag = q }) _ _ _ _ _ _ _ _ (told_back (is_some a) x hx) hs (told_back (is_some t) y hy)
    (hu ∙ ap (λ n. optional_span n t) (ap length put ∙ length-append old (optional_text a)))

-- a scalar's value after its properties
put_value : (old mid new : List ℕ) (base r : yaml_c_event) (a t : Option (List ℕ))
    (v : List ℕ) (p q : Bool) (y : yaml_scalar_style_t) (d : yaml_c_span)
    → mid ≡ old ++ (optional_text a ++ optional_text t)
    → r ≡ with_properties (length old) a t base → PutsText mid v new d
    → PutsTexts old (event.scalar a t v p q y) base new (record r { value = d })
put_value old mid new base r a t v p q y d put is text =
    let n : length mid ≡ length old + length (optional_text a ++ optional_text t) = ap length put ∙ length-append old (optional_text a ++ optional_text t) in
    record {
      put = put_on old mid new (optional_text a ++ optional_text t) v put text.bytes;
      is = ap (λ (z : yaml_c_event). record z { value = d }) is
          ∙ ap (λ (z : yaml_c_span). record (with_properties (length old) a t base) { value = z }) (text.span ∙ ap (λ k. span_at k v) n);
    }

pub scalar_put : (old mid new : List ℕ) (base r : yaml_c_event) (x : EventRef)
    (a t : Option (Bor (List ℕ))) (v : Bor (List ℕ)) (p q : Bool) (y : yaml_scalar_style_t)
    (d : yaml_c_span) → x ≡ borrowed.Scalar a t v p q y
    → mid ≡ old ++ (optional_text (option_map (λ t. t.now) a) ++ optional_text (option_map (λ t. t.now) t))
    → r ≡ with_properties (length old) (option_map (λ t. t.now) a) (option_map (λ t. t.now) t) base
    → PutsText mid v.now new d → PutsTexts old (borrowed_body x) base new (record r { value = d })
scalar_put old mid new base r x a t v p q y d e put is text =
    subst (λ z. PutsTexts old (borrowed_body z) base new (record r { value = d })) (sym e)
    (put_value old mid new base r (option_map (λ t. t.now) a) (option_map (λ t. t.now) t) v.now p q y d put is text)

-- ---- records

texts_recorded : (l m : Listing) (b : EventBody) (s e : yaml_mark_t) (r : yaml_c_event)
    → PutsTexts l.bytes.items b (base_record b (mark_told s) (mark_told e)) m.bytes.items r
    → NoDocument b → m.directives.items ≡ l.directives.items → m.events.items ≡ l.events.items
    → Records l (placed b s e) m r
texts_recorded l m b s e r p h ds es = record {
  bytes = record { more = node_texts b; is = p.put };
  directives = subst (λ z. Grows l.directives.items z) (sym ds) (grows_itself l.directives.items);
  put = p.put ∙ ap (λ z. l.bytes.items ++ z) (texts_same b h);
  list = subst (λ z. AppendsDirectives m.bytes.items l.directives.items z m.directives.items) (none_listed b h)
      (subst (λ z. AppendsDirectives m.bytes.items l.directives.items [] z) (sym ds) (none_appended m.bytes.items l.directives.items));
  events = es;
  body = λ more others. subst (λ z. body_meant (z ++ more) (m.directives.items ++ others) r ≡ Some b) (sym p.put)
      (subst (λ z. body_meant ((l.bytes.items ++ node_texts b) ++ more) (m.directives.items ++ others) z ≡ Some b) (sym p.is)
      (means l.bytes.items more (m.directives.items ++ others) b (mark_told s) (mark_told e) h));
  start = ap (λ (z : yaml_c_event). z.start) p.is ∙ starts l.bytes.items b (mark_told s) (mark_told e) h;
  end = ap (λ (z : yaml_c_event). z.end) p.is ∙ ends l.bytes.items b (mark_told s) (mark_told e) h;
  alone = p.is ∙ only l.bytes.items b (mark_told s) (mark_told e) h ∙ ap (bare b) (sym p.is);
}

-- that of an event other than a document's start
event_recorded : (l m : Listing) (x : EventRef) (s e : yaml_mark_t) (base r : yaml_c_event)
    → ((v : _) (ds : _) (i : _) → x ≡ borrowed.DocumentStart v ds i → ⊥)
    → base ≡ base_record (borrowed_body x) (mark_told s) (mark_told e)
    → PutsTexts l.bytes.items (borrowed_body x) base m.bytes.items r
    → m.directives.items ≡ l.directives.items → m.events.items ≡ l.events.items
    → Records l (placed (borrowed_body x) s e) m r
event_recorded l m x s e base r h is p ds es =
    texts_recorded l m (borrowed_body x) s e r (subst (λ z. PutsTexts l.bytes.items (borrowed_body x) z m.bytes.items r) is p) (no_document x h) ds es

pub events_recorded : {E : Type 0} (l m : Listing) (x : EventRef) (s e : yaml_mark_t)
    (base : yaml_c_event) (r : Result yaml_c_event E)
    → ((v : _) (ds : _) (i : _) → x ≡ borrowed.DocumentStart v ds i → ⊥)
    → base ≡ base_record (borrowed_body x) (mark_told s) (mark_told e)
    → IfOk r (PutsTexts l.bytes.items (borrowed_body x) base m.bytes.items)
    → m.directives.items ≡ l.directives.items → m.events.items ≡ l.events.items
    → IfOk r (Records l (placed (borrowed_body x) s e) m)
events_recorded l m x s e base (Ok r) h is p ds es = event_recorded l m x s e base r h is p ds es
events_recorded l m x s e base (Err f) h is p ds es = tt

-- ---- a document's start

abbrev document_at : Option yaml_version_directive_t → List TagDirective → Bool → yaml_c_mark
    → yaml_c_mark → yaml_c_span → yaml_c_event
document_at v ts i s e d = record (base_record (event.document_start v ts i) s e) { directives = d }

means_document : (bytes : List ℕ) (list : List yaml_c_directive)
    (v : Option yaml_version_directive_t) (ts : List TagDirective) (i : Bool) (s e : yaml_c_mark)
    (d : yaml_c_span) → directives_at bytes list d ≡ Some ts
    → body_meant bytes list (document_at v ts i s e d) ≡ Some (event.document_start v ts i)
unfolding body_meant kind_meant is_set
means_document bytes list None ts true s e d h = rw h refl
means_document bytes list None ts false s e d h = rw h refl
means_document bytes list (Some v) ts true s e d h = rw h refl
means_document bytes list (Some v) ts false s e d h = rw h refl

document_starts : (v : Option yaml_version_directive_t) (ts : List TagDirective) (i : Bool)
    (s e : yaml_c_mark) (d : yaml_c_span)
    → ((document_at v ts i s e d).start ≡ s) × ((document_at v ts i s e d).end ≡ e)
document_starts None ts i s e d = (refl, refl)
document_starts (Some v) ts i s e d = (refl, refl)

only_document : (v : Option yaml_version_directive_t) (ts : List TagDirective) (i : Bool)
    (s e : yaml_c_mark) (d : yaml_c_span)
    → document_at v ts i s e d ≡ bare (event.document_start v ts i) (document_at v ts i s e d)
only_document None ts i s e d = refl
only_document (Some v) ts i s e d = refl

started : (l m : Listing) (v : Option yaml_version_directive_t)
    (ts : List TagDirective) (i : Bool) (s e : yaml_mark_t) (base : yaml_c_event) (d : yaml_c_span)
    → base ≡ base_record (event.document_start v ts i) (mark_told s) (mark_told e)
    → PutsDirectives l ts m d
    → Records l (placed (event.document_start v ts i) s e) m (record base { directives = d })
started l m v ts i s e base d is p =
    subst (λ (z : yaml_c_event). Records l (placed (event.document_start v ts i) s e) m (record z { directives = d })) (sym is) (record {
      bytes = p.bytes;
      directives = p.directives;
      put = p.put;
      list = p.list;
      events = p.events;
      body = λ more others. means_document (m.bytes.items ++ more) (m.directives.items ++ others) v ts i (mark_told s) (mark_told e) d (p.holds more others);
      start = (document_starts v ts i (mark_told s) (mark_told e) d).0;
      end = (document_starts v ts i (mark_told s) (mark_told e) d).1;
      alone = only_document v ts i (mark_told s) (mark_told e) d;
    })

pub document_recorded : (l m : Listing) (x : EventRef) (v : Option yaml_version_directive_t)
    (ds : Bor (List yaml_tag_directive_t)) (i : Bool) (s e : yaml_mark_t) (base : yaml_c_event)
    (d : yaml_c_span) → x ≡ borrowed.DocumentStart v ds i
    → base ≡ base_record (borrowed_body x) (mark_told s) (mark_told e)
    → PutsDirectives l (map directive_of ds.now) m d
    → Records l (placed (borrowed_body x) s e) m (record base { directives = d })
document_recorded l m x v ds i s e base d is b p =
    let P : EventRef → Type 0 = λ z. base ≡ base_record (borrowed_body z) (mark_told s) (mark_told e)
    → Records l (placed (borrowed_body z) s e) m (record base { directives = d }) in
    subst P (sym is) (λ k. started l m v (map directive_of ds.now) i s e base d k p) b
