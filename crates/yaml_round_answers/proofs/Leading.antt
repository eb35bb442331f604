-- From what an emitter says to what is said of the events that it was given.
use Rattle.std.proofs.Common.{◌≡◌, ◌⊎◌, ◌+◌, ◌<◌, ◌≤◌, inl, inr, get_or, drop, ℕ, Bool, true, false, List, [], ◌∷◌, ◌++◌, length, refl, sym, ap, ◌∙◌, subst, append-nil, Option, None, Some, is_some, Result, Ok, Err, Vec, option_map}
use Rattle.std.specs.Global.{Global}
use Rattle.yaml_parse.specs.declared.yaml_fault_t.{yaml_fault_t}
use Rattle.yaml_parse.specs.scan_types.Faults.{Fault, fault_of, memory_fault, IsMemoryFault, emit_layers, Answers}
use Rattle.yaml_parse.specs.Events.{EventBody}
use Rattle.yaml_emit.specs.Content.{Event, emitter_event}
use Rattle.yaml_emit.specs.Text.{Item, encode, is_deep}
use Rattle.yaml_emit.specs.Progress.{first_progress, first_refusal}
use Rattle.yaml_emit.specs.Judged.{let_out}
use Rattle.yaml_emit.specs.Verdict.{verdict, verdict_by, Writes, WritesBy, IsLetOut, HasLetOut, TellsOutcome}
use Rattle.yaml_emit.specs.Taking.{TakesEvents}
use Rattle.yaml_emit.specs.Within.{Fits}
use Rattle.yaml_emit.specs.Streams.{IsStream}
use Rattle.yaml_emit.specs.Emitter.{Emitter, Completes, CompletesBy, IsLimited, IsWhole, Passes, problem_fault, fault_by, write_error, too_deep, memory_origin}
use Rattle.yaml_emit.specs.emit_layout.declared.Problem.{Problem}
use Rattle.yaml_emit.specs.emit_layout.declared.Encoding.{Encoding}
use Rattle.yaml_emit.specs.emit_layout.declared.Status.{Status}
use Rattle.yaml_emit.specs.emit_layout.declared.Status.TheVariants.{Going, Full, Deep, Starved}
use Rattle.yaml_emit.specs.emit_layout.declared.RequestedSettings.{RequestedSettings}
use Rattle.std.proofs.lemmas.List.{drop_all}
use Rattle.yaml_round_answers.proofs.Checked.{left_cons}
use Rattle.yaml_round_answers.specs.declared.record.yaml_c_directive.{yaml_c_directive}
use Rattle.yaml_round_answers.specs.declared.record.yaml_c_event.{yaml_c_event}
use Rattle.yaml_round_answers.specs.Records.{body_in_front}
use Rattle.yaml_round_answers.specs.Meaning.{event_meant, events_meant}
use Rattle.yaml_round_answers.specs.Written.{refusal, whole_text, text_encoding, text_bytes, IsLong, IsEmittedText, IsEventRefused, IsFault, IsEmitted}
use Rattle.yaml_round_answers.specs.Leading.{bytes_of, all_events, StartsUnder, LeadsEmitter, LeadsOnward, FinishesEmitter}
use Rattle.yaml_emit.proofs.Opened.{none_by}

-- ---- the records that are left

front_some : (b : Option EventBody) (bs : Option (List EventBody))
    → is_some (body_in_front b bs) ≡ true → is_some b ≡ true
front_some None bs h = h
front_some (Some b) bs h = refl

rest_some : (b : Option EventBody) (bs : Option (List EventBody))
    → is_some (body_in_front b bs) ≡ true → is_some bs ≡ true
rest_some None bs h = absurd (cc)
rest_some (Some b) None h = h
rest_some (Some b) (Some bs) h = refl

front_events : (b : EventBody) (bs : Option (List EventBody))
    → is_some (body_in_front (Some b) bs) ≡ true
    → all_events (body_in_front (Some b) bs) ≡ emitter_event b ∷ all_events bs
front_events b None h = absurd (cc)
front_events b (Some bs) h = refl

pub meant_first : (bytes : List ℕ) (list : List yaml_c_directive) (r : yaml_c_event)
    (rs : List yaml_c_event) → is_some (events_meant bytes list (r ∷ rs)) ≡ true
    → is_some (event_meant bytes list r) ≡ true
unfolding events_meant
meant_first bytes list r rs h = front_some (event_meant bytes list r) (events_meant bytes list rs) h

pub meant_rest : (bytes : List ℕ) (list : List yaml_c_directive) (r : yaml_c_event)
    (rs : List yaml_c_event) → is_some (events_meant bytes list (r ∷ rs)) ≡ true
    → is_some (events_meant bytes list rs) ≡ true
unfolding events_meant
meant_rest bytes list r rs h = rest_some (event_meant bytes list r) (events_meant bytes list rs) h

pub meant_events : (bytes : List ℕ) (list : List yaml_c_directive) (r : yaml_c_event)
    (rs : List yaml_c_event) (b : EventBody) → is_some (events_meant bytes list (r ∷ rs)) ≡ true
    → event_meant bytes list r ≡ Some b
    → all_events (events_meant bytes list (r ∷ rs)) ≡ emitter_event b
    ∷ all_events (events_meant bytes list rs)
unfolding events_meant
meant_events bytes list r rs b h is =
    let P : Option EventBody → Type 0 = λ o. is_some (body_in_front o (events_meant bytes list rs)) ≡ true in
    ap (λ o. all_events (body_in_front o (events_meant bytes list rs))) is ∙ front_events b (events_meant bytes list rs) (subst P is h)

abbrev Meant : List ℕ → List yaml_c_directive → List yaml_c_event → Type 0
Meant bytes list rs = is_some (events_meant bytes list rs) ≡ true

pub first_meant : (bytes : List ℕ) (list : List yaml_c_directive) (rs : List yaml_c_event) (i : ℕ)
    (d : yaml_c_event) → i < length rs → is_some (events_meant bytes list (drop i rs)) ≡ true
    → is_some (event_meant bytes list (get_or rs i d)) ≡ true
first_meant bytes list rs i d h m = meant_first bytes list (get_or rs i d) (drop (i + 1) rs) (subst (Meant bytes list) (left_cons rs i d h) m)

pub rest_meant : (bytes : List ℕ) (list : List yaml_c_directive) (rs : List yaml_c_event) (i : ℕ)
    (d : yaml_c_event) (b : EventBody) → i < length rs
    → is_some (events_meant bytes list (drop i rs)) ≡ true
    → event_meant bytes list (get_or rs i d) ≡ Some b
    → is_some (events_meant bytes list (drop (i + 1) rs)) ≡ true
rest_meant bytes list rs i d b h m is = meant_rest bytes list (get_or rs i d) (drop (i + 1) rs) (subst (Meant bytes list) (left_cons rs i d h) m)

pub events_left : (bytes : List ℕ) (list : List yaml_c_directive) (rs : List yaml_c_event) (i : ℕ)
    (d : yaml_c_event) (b : EventBody) → i < length rs
    → is_some (events_meant bytes list (drop i rs)) ≡ true
    → event_meant bytes list (get_or rs i d) ≡ Some b
    → all_events (events_meant bytes list (drop i rs)) ≡ emitter_event b
    ∷ all_events (events_meant bytes list (drop (i + 1) rs))
events_left bytes list rs i d b h m is =
    ap (λ es. all_events (events_meant bytes list es)) (left_cons rs i d h)
    ∙ meant_events bytes list (get_or rs i d) (drop (i + 1) rs) b (subst (Meant bytes list) (left_cons rs i d h) m) is

pub none_left : (bytes : List ℕ) (list : List yaml_c_directive)
    → all_events (events_meant bytes list []) ≡ []
unfolding events_meant
none_left bytes list = refl

-- ---- one more event

pub leads_same : (e : Emitter) (es : List Event) → LeadsOnward e es e es
leads_same e es = record {
  refuses = λ g more. refl;
  writes = λ x more whole h. h;
  completes = λ x more whole h. h;
  going = λ g. g;
  limit = refl;
  requested_settings = refl;
  begun = λ f. (f, refl);
}

-- an event is gone from those that were to come
not_first : (e : Event) → [] ≡ e ∷ [] → ⊥
not_first e h = cc

pub leads_more : (first old new : Emitter) (all : List Event) (x : Event) (rest : List Event)
    → LeadsOnward first all old (x ∷ rest) → TakesEvents old (x ∷ []) new []
    → LeadsOnward first all new rest
leads_more first old new all x rest l t = record {
  refuses = λ on more. t.refuses on (rest ++ more) ∙ l.refuses (t.going on) more;
  writes = λ c more whole h. t.writes c (rest ++ more) whole (l.writes c more whole h);
  completes = λ c more whole h. t.completes c (rest ++ more) whole (l.completes c more whole h);
  going = λ on. l.going (t.going on);
  limit = t.limit ∙ l.limit;
  requested_settings = t.requested_settings ∙ l.requested_settings;
  begun = λ f. absurd (not_first x (t.begun f).1);
}

pub leads_on : (first old new : Emitter) (all es : List Event) (x : Event) (rest : List Event)
    → es ≡ x ∷ rest → LeadsOnward first all old es → TakesEvents old (x ∷ []) new []
    → LeadsOnward first all new rest
leads_on first old new all es x rest is l t = leads_more first old new all x rest (subst (λ (z : List Event). LeadsOnward first all old z) is l) t

pub leads_record : (bytes : List ℕ) (list : List yaml_c_directive) (rs : List yaml_c_event) (i : ℕ)
    (d : yaml_c_event) (b : EventBody) (first old new : Emitter) (all : List Event) → i < length rs
    → is_some (events_meant bytes list (drop i rs)) ≡ true
    → event_meant bytes list (get_or rs i d) ≡ Some b
    → LeadsOnward first all old (all_events (events_meant bytes list (drop i rs)))
    → TakesEvents old (emitter_event b ∷ []) new []
    → LeadsOnward first all new (all_events (events_meant bytes list (drop (i + 1) rs)))
leads_record bytes list rs i d b first old new all h m is l t = leads_on first old new all _ (emitter_event b) _ (events_left bytes list rs i d b h m is) l t

pub leads_end : (bytes : List ℕ) (list : List yaml_c_directive) (rs : List yaml_c_event) (i : ℕ)
    (first new : Emitter) (all : List Event) → length rs ≤ i
    → LeadsOnward first all new (all_events (events_meant bytes list (drop i rs)))
    → LeadsOnward first all new []
leads_end bytes list rs i first new all h l =
    subst (λ (es : List Event). LeadsOnward first all new es) (ap (λ es. all_events (events_meant bytes list es)) (drop_all i rs h) ∙ none_left bytes list) l

-- with nothing more to come
pub leads_whole : (first new : Emitter) (all : List Event) → LeadsOnward first all new []
    → LeadsEmitter first all new []
leads_whole first new all l =
    let same : all ++ [] ≡ all = append-nil all in
    record {
      refuses = λ on. l.refuses on [] ∙ ap (verdict first) same;
      writes = λ x whole h. l.writes x [] whole (subst (λ (es : List Event). Writes first x es whole) (sym same) h);
      completes = λ x whole h. l.completes x [] whole (subst (λ (es : List Event). Completes first x es whole) (sym same) h);
      limit = l.limit;
    }

-- ---- a fresh emitter

starts_verdict : (b : Bool) (e : Emitter) (w : RequestedSettings) (es : List Event) → b ≡ true
    → e.requested_settings ≡ w → verdict_by b e es ≡ refusal w es
starts_verdict b e w es h k = ap (λ (c : Bool). verdict_by c e es) h ∙ ap (λ (v : RequestedSettings). first_refusal v.canonical first_progress (let_out es)) k

pub first_verdict : (e : Emitter) (w : RequestedSettings) (limit : ℕ) (es : List Event)
    → StartsUnder e w limit → verdict e es ≡ refusal w es
unfolding verdict
first_verdict e w limit es s = starts_verdict e.fresh e w es s.fresh s.requested_settings

own_text : (w : RequestedSettings) (es : List Event)
    → IsLetOut w (text_encoding w es) es (whole_text w es)
unfolding whole_text
own_text w es = record { coded = refl; is = refl }

starts_writing : (b : Bool) (e : Emitter) (w : RequestedSettings) (es : List Event) → b ≡ true
    → e.requested_settings ≡ w → WritesBy b e (text_encoding w es) es (whole_text w es)
starts_writing b e w es h k =
    subst (λ (c : Bool). WritesBy c e (text_encoding w es) es (whole_text w es)) (sym h)
    (subst (λ (v : RequestedSettings). IsLetOut v (text_encoding w es) es (whole_text w es)) (sym k) (own_text w es))

pub first_writes : (e : Emitter) (w : RequestedSettings) (limit : ℕ) (es : List Event)
    → StartsUnder e w limit → Writes e (text_encoding w es) es (whole_text w es)
unfolding Writes
first_writes e w limit es s = starts_writing e.fresh e w es s.fresh s.requested_settings

starts_whole : (b : Bool) (e : Emitter) (w : RequestedSettings) (x : Encoding) (es : List Event)
    (whole : List Item) → b ≡ true → e.requested_settings ≡ w → IsStream w x es whole
    → CompletesBy b e x es whole
starts_whole b e w x es whole h k s = subst (λ (c : Bool). CompletesBy c e x es whole) (sym h) (subst (λ (v : RequestedSettings). IsStream v x es whole) (sym k) s)

pub first_whole : (e : Emitter) (w : RequestedSettings) (limit : ℕ) (x : Encoding) (es : List Event)
    (whole : List Item) → StartsUnder e w limit → IsStream w x es whole → Completes e x es whole
unfolding Completes
first_whole e w limit x es whole s k = starts_whole e.fresh e w x es whole s.fresh s.requested_settings k

-- ---- what the emitter reports in the end

pub has_all : (s : Status) (limit : ℕ) (output bytes : List ℕ) (deep : Bool) → s ≡ Going
    → HasLetOut s limit output bytes deep
    → (output ≡ bytes) × ((length output ≤ limit) × (deep ≡ false))
has_all s limit output bytes deep h k = subst (λ (t : Status). HasLetOut t limit output bytes deep) h k

pub fits : (limit : ℕ) (x : Encoding) (whole : List Item) (output : List ℕ)
    → (output ≡ encode x whole) × ((length output ≤ limit) × (is_deep whole ≡ false))
    → Fits limit x whole
fits limit x whole output h = record { size = subst (λ (t : List ℕ). length t ≤ limit) h.0 h.1.0; columns = h.1.1 }

-- The problem is reported where the output goes on; else a limit is passed, or memory was refused.
some_problem : (limit : ℕ) (x : Encoding) (whole : List Item) (output : List ℕ) (p : Option Problem)
    (f : Fault) → option_map problem_fault p ≡ Some f
    → (output ≡ encode x whole) × ((length output ≤ limit) × (is_deep whole ≡ false))
    → (q : Problem) × ((p ≡ Some q) × ((f ≡ problem_fault q) × Fits limit x whole))
some_problem limit x whole output None f h k = absurd (cc)
some_problem limit x whole output (Some q) f h k =
    let is : problem_fault q ≡ f = cc in
    (q, (refl, (sym is, fits limit x whole output k)))

-- what a fault says, by what has become of the output
abbrev pub FaultBy : ℕ → Encoding → List Item → Option Problem → Status → Fault → Type 0
FaultBy limit x whole p s f = ((s ≡ Going) × ((q : Problem) × ((p ≡ Some q) × ((f ≡ problem_fault q) × Fits limit x whole))))
    ⊎ (Passes limit (encode x whole) (is_deep whole) f ⊎ IsMemoryFault emit_layers f)

memory_told : (b : Bool) (f : Fault) → Some (memory_fault (memory_origin b)) ≡ Some f
    → IsMemoryFault emit_layers f
memory_told true f h =
    let is : memory_fault (memory_origin true) ≡ f = cc in
    inl (sym is)
memory_told false f h =
    let is : memory_fault (memory_origin false) ≡ f = cc in
    inr (sym is)

pub some_fault : (s : Status) (b : Bool) (p : Option Problem) (limit : ℕ) (x : Encoding)
    (whole : List Item) (output : List ℕ) (f : Fault) → fault_by s b p ≡ Some f
    → HasLetOut s limit output (encode x whole) (is_deep whole) → FaultBy limit x whole p s f
some_fault Going b p limit x whole output f h k = inl (refl, some_problem limit x whole output p f h k)
some_fault Full b p limit x whole output f h k =
    let is : write_error ≡ f = cc in
    inr (inl (inl (sym is, k.1)))
some_fault Deep b p limit x whole output f h k =
    let is : too_deep ≡ f = cc in
    inr (inl (inr (sym is, k.0)))
some_fault Starved b p limit x whole output f h k = inr (inr (memory_told b f h))

-- ---- the answer

-- what the emitter says of the text of the events that it was given
told_text : (e : Emitter) (first : Emitter) (w : RequestedSettings) (limit : ℕ) (es : List Event)
    → StartsUnder first w limit → LeadsEmitter first es e [] → TellsOutcome e
    → HasLetOut e.status limit e.output (text_bytes w es) (is_deep (whole_text w es))
told_text e first w limit es s l t =
    let k : HasLetOut e.status e.limit e.output (text_bytes w es) (is_deep (whole_text w es)) = t.output (text_encoding w es) (whole_text w es) (l.writes (text_encoding w es) (whole_text w es) (first_writes first w limit es s)) in
    subst (λ (n : ℕ). HasLetOut e.status n e.output (text_bytes w es) (is_deep (whole_text w es))) (l.limit ∙ s.limit) k

whole_answer : (first e : Emitter) (w : RequestedSettings) (limit : ℕ) (es : List Event)
    (text : List ℕ) → StartsUnder first w limit → LeadsEmitter first es e []
    → e.fault ≡ None → text ≡ e.output → TellsOutcome e → IsWhole e text
    → IsEmittedText w limit es text
whole_answer first e w limit es text s l none is t h =
    let on = none_by e.status e.starved (verdict e []) (sym t.fault ∙ none) in
    let k = has_all e.status limit e.output (text_bytes w es) (is_deep (whole_text w es)) on.0 (told_text e first w limit es s l t) in
    record {
      right = sym (first_verdict first w limit es s) ∙ (sym (l.refuses on.0) ∙ on.1);
      is = is ∙ k.0;
      short = fits limit (text_encoding w es) (whole_text w es) e.output k;
      stream = λ x whole c. h none x whole (l.completes x whole (first_whole first w limit x es whole s c));
    }

refusal_or_limit : (first e : Emitter) (w : RequestedSettings) (limit : ℕ) (es : List Event)
    (f : Fault) → StartsUnder first w limit → LeadsEmitter first es e []
    → e.fault ≡ Some f → TellsOutcome e
    → IsMemoryFault emit_layers f ⊎ (IsEventRefused w limit es f ⊎ IsLong w limit es f)
refusal_or_limit first e w limit es f s l is t =
    let k = told_text e first w limit es s l t in
    elim (some_fault e.status e.starved (verdict e []) limit (text_encoding w es) (whole_text w es) e.output f (sym t.fault ∙ is) k) [
      | inl g ↦ inr (inl (record {
        problem = g.1.0;
        is = sym (first_verdict first w limit es s) ∙ (sym (l.refuses g.0) ∙ g.1.1.0);
        told = g.1.1.1.0;
        short = g.1.1.1.1;
      }))
      | inr p ↦ elim p [
        | inl long ↦ inr (inr long)
        | inr memory ↦ inl memory
      ]
    ]

-- a limit that each layout passes
abbrev Past : RequestedSettings → ℕ → List Event → Fault → Type 0
Past w limit es f = (x : Encoding) (whole : List Item) → IsStream w x es whole → Passes limit (encode x whole) (is_deep whole) f

past_limit : (first e : Emitter) (w : RequestedSettings) (limit : ℕ) (es : List Event) (f : Fault)
    → StartsUnder first w limit → LeadsEmitter first es e [] → IsLimited e f
    → IsMemoryFault emit_layers f ⊎ Past w limit es f
past_limit first e w limit es f s l h = elim h [
  | inl m ↦ inl m
  | inr p ↦ inr (λ x whole c. subst (λ (n : ℕ). Passes n (encode x whole) (is_deep whole) f) (l.limit ∙ s.limit) (p x [] whole (l.completes x whole (first_whole first w limit x es whole s c))))
]

fault_answer : (first e : Emitter) (w : RequestedSettings) (limit : ℕ) (es : List Event) (f : Fault)
    → StartsUnder first w limit → LeadsEmitter first es e []
    → e.fault ≡ Some f → TellsOutcome e → IsLimited e f
    → IsMemoryFault emit_layers f ⊎ IsFault w limit es f
fault_answer first e w limit es f s l is t h =
    elim (refusal_or_limit first e w limit es f s l is t) [
      | inl m ↦ inl m
      | inr q ↦ elim (past_limit first e w limit es f s l h) [
        | inl m ↦ inl m
        | inr p ↦ inr (record { is = q; stream = p })
      ]
    ]

pub emitter_answer : (first e : Emitter) (w : RequestedSettings) (limit : ℕ) (es : List Event)
    (r : Result (Vec ℕ Global) yaml_fault_t) → StartsUnder first w limit
    → LeadsEmitter first es e [] → FinishesEmitter e r
    → Answers emit_layers bytes_of (IsEmitted w limit es) r
unfolding IsEmitted
emitter_answer first e w limit es (Ok text) s l h = whole_answer first e w limit es text.items s l h.0 h.1 h.2 h.3
emitter_answer first e w limit es (Err f) s l h = fault_answer first e w limit es (fault_of f) s l h.0 h.1 h.2
