-- The law of windows, for a parser.
use Rattle.std.proofs.Common.{◌≡◌, ℕ, false, List, [], ◌∷◌, ◌++◌, map, length, Option, Some, None, refl, sym, ap, subst, ◌∙◌, inl, inr, arith}
use Rattle.std.proofs.lemmas.List.{append-nil, append_assoc, map-append, same_from_push}
use Rattle.std.proofs.lemmas.Option.{same_Some}
use Rattle.yaml_parse_laws_trees.proofs.WindowsWords.{yaml_mark_t, yaml_encoding_t, Token, TokenBody, Event, Fault, RawEvent, item_at, event_at, Directives, no_directives, Settled, refused, gave, noted, settle, placed, State, Fed, stop, go, feed, carry, run, initial, parse_of, events_in, GoOn}
use Rattle.yaml_parse_grammar.specs.scan_types.Tokens as token
use Rattle.yaml_parse_grammar.specs.parse_model.Events.{EventBody}
use Rattle.yaml_parse_grammar.specs.parse_model.Events as event
use Rattle.yaml_parse_grammar.specs.Items as item
use Rattle.yaml_parse_grammar.specs.Trees.{Given}
use Rattle.yaml_parse_grammar.specs.Resolve.{Reading, read_on, reading}
use Rattle.yaml_parse_grammar.specs.States as state
use Rattle.yaml_parse_grammar.specs.Machine.{Outcome}
use Rattle.yaml_parse_laws_trees.specs.Depths.{depth_behind}
use Rattle.yaml_parse_laws_trees.specs.WindowsLaws.{WindowsAreParsed, BracketsAreClosed}
use Rattle.yaml_parse_laws_trees.proofs.Grounding.{Stands}
use Rattle.yaml_parse_laws_trees.proofs.Noting.{with_event, then_through, through, none_some, Fine, stands_feed}
use Rattle.yaml_parse_laws_trees.proofs.WindowsClosing.{opened, IsLevel, feed_level}
use Rattle.yaml_parse_laws_trees.proofs.Parting.{end_at, start_at, begun, Ended, parts}

-- ---- items without numbers

abbrev pub items_of : List Given → List RawEvent
items_of gs = map (λ (g : Given). g.0) gs

pub record Plain : Type 0 where
  pub events : List Event
  pub ending : Option Fault

abbrev pub with_one : Event → Plain → Plain
with_one e p = record { events = e ∷ p.events; ending = p.ending }

abbrev pub with_front : List Event → Plain → Plain
with_front es p = record { events = es ++ p.events; ending = p.ending }

abbrev pub told_by : Settled → RawEvent → (Directives → Plain) → Plain
told_by (refused f) i k = record { events = []; ending = Some f }
told_by (gave body ds) i k = record { events = placed body i ∷ (k ds).events; ending = (k ds).ending }
told_by (noted ds) i k = k ds

abbrev pub plain : List RawEvent → Option Fault → Directives → Plain
plain [] f ds = record { events = []; ending = f }
plain (i ∷ is) f ds = told_by (settle i ds) i (λ z. plain is f z)

abbrev pub seen : Reading → Plain
seen r = record { events = events_in r; ending = r.ending }

reading_plain : (gs : List Given) (f : Option Fault) (ds : Directives)
    → seen (reading gs f ds) ≡ plain (items_of gs) f ds
unfolding reading
reading_plain [] f ds = refl
reading_plain (g ∷ gs) f ds = by (settle g.0 ds) (λ z. reading_plain gs f z)
  where
    by : (y : Settled) → ((z : Directives) → seen (reading gs f z) ≡ plain (items_of gs) f z)
        → seen (read_on y g.0 g.1 (λ z. reading gs f z)) ≡ told_by y g.0 (λ z. plain (items_of gs) f z)
    by (refused x) h = refl
    by (gave body z) h = ap (λ (p : Plain). record { events = placed body g.0 ∷ p.events; ending = p.ending }) (h z)
    by (noted z) h = h z

-- Items that settle without directives pass as their events.
pub plain_through : (is js : List RawEvent) (f : Option Fault) (ds behind : Directives)
    (es : List Event)
    → through is ds ≡ Some (es, behind)
    → plain (is ++ js) f ds ≡ with_front es (plain js f behind)
plain_through [] js f ds behind es h =
    let same = same_Some _ _ h in
    let first : [] ≡ es = ap (λ (x : List Event × Directives). x.0) same in
    let last : ds ≡ behind = ap (λ (x : List Event × Directives). x.1) same in
    ap (λ z. plain js f z) last ∙ ap (λ (z : List Event). with_front z (plain js f behind)) first
plain_through (i ∷ is) js f ds behind es h = by (settle i ds) h (λ z es e. plain_through is js f z behind es e)
  where
    on : (body : EventBody) (o : Option (List Event × Directives)) (z : Directives) → through is z ≡ o
        → with_event (placed body i) o ≡ Some (es, behind)
        → ((z : Directives) (es : List Event) → through is z ≡ Some (es, behind) → plain (is ++ js) f z ≡ with_front es (plain js f behind))
        → with_one (placed body i) (plain (is ++ js) f z) ≡ with_front es (plain js f behind)
    on body None z e k rec = absurd (none_some k)
    on body (Some x) z e k rec =
        let same = same_Some _ _ k in
        let last : x.1 ≡ behind = ap (λ (y : List Event × Directives). y.1) same in
        let told : through is z ≡ Some (x.0, behind) = e ∙ ap (λ y. Some (x.0, y)) last in
        ap (λ (p : Plain). with_one (placed body i) p) (rec z x.0 told)
        ∙ ap (λ (y : List Event × Directives). with_front y.0 (plain js f behind)) same

    by : (y : Settled) → then_through y i (λ z. through is z) ≡ Some (es, behind)
        → ((z : Directives) (es : List Event) → through is z ≡ Some (es, behind) → plain (is ++ js) f z ≡ with_front es (plain js f behind))
        → told_by y i (λ z. plain (is ++ js) f z) ≡ with_front es (plain js f behind)
    by (refused x) k rec = absurd (none_some k)
    by (gave body z) k rec = on body (through is z) z refl k rec
    by (noted z) k rec = rec z es k

-- What is accepted goes through.
pub plain_accepts : (is : List RawEvent) (f : Option Fault) (ds : Directives)
    → (plain is f ds).ending ≡ None
    → (es : List Event) × (behind : Directives) × (through is ds ≡ Some (es, behind)) × (f ≡ None)
plain_accepts [] f ds h = ([], ds, refl, h)
plain_accepts (i ∷ is) f ds h = by (settle i ds) refl h (λ z k. plain_accepts is f z k)
  where
    by : (y : Settled) → settle i ds ≡ y → (told_by y i (λ z. plain is f z)).ending ≡ None
        → ((z : Directives) → (plain is f z).ending ≡ None → (es : List Event) × (behind : Directives) × (through is z ≡ Some (es, behind)) × (f ≡ None))
        → (es : List Event) × (behind : Directives) × (through (i ∷ is) ds ≡ Some (es, behind)) × (f ≡ None)
    by (refused x) e k rec = absurd (none_some (sym k))
    by (gave body z) e k rec =
        let (es, behind, told, none) = rec z k in
        (placed body i ∷ es, behind, ap (λ w. then_through w i (λ x. through is x)) e ∙ ap (with_event (placed body i)) told, none)
    by (noted z) e k rec =
        let (es, behind, told, none) = rec z k in
        (es, behind, ap (λ w. then_through w i (λ x. through is x)) e ∙ told, none)

-- What goes through does so in two parts.
pub through_parts : (is js : List RawEvent) (ds behind : Directives) (es : List Event)
    → through (is ++ js) ds ≡ Some (es, behind)
    → (fs : List Event) × (z : Directives) × (gs : List Event) × (through is ds ≡ Some (fs, z)) × (through js z ≡ Some (gs, behind))
through_parts [] js ds behind es h = ([], ds, es, refl, h)
through_parts (i ∷ is) js ds behind es h = by (settle i ds) refl h (λ z es k. through_parts is js z behind es k)
  where
    by : (y : Settled) → settle i ds ≡ y → then_through y i (λ z. through (is ++ js) z) ≡ Some (es, behind)
        → ((z : Directives) (es : List Event) → through (is ++ js) z ≡ Some (es, behind) → (fs : List Event) × (w : Directives) × (gs : List Event) × (through is z ≡ Some (fs, w)) × (through js w ≡ Some (gs, behind)))
        → (fs : List Event) × (z : Directives) × (gs : List Event) × (through (i ∷ is) ds ≡ Some (fs, z)) × (through js z ≡ Some (gs, behind))
    by (refused x) e k rec = absurd (none_some k)
    by (gave body z) e k rec = on (through (is ++ js) z) refl k
      where
        on : (o : Option (List Event × Directives)) → through (is ++ js) z ≡ o → with_event (placed body i) o ≡ Some (es, behind)
            → (fs : List Event) × (z : Directives) × (gs : List Event) × (through (i ∷ is) ds ≡ Some (fs, z)) × (through js z ≡ Some (gs, behind))
        on None f k = absurd (none_some k)
        on (Some x) f k =
            let last : x.1 ≡ behind = ap (λ (y : List Event × Directives). y.1) (same_Some _ _ k) in
            let (fs, w, gs, told, more) = rec z x.0 (f ∙ ap (λ y. Some (x.0, y)) last) in
            (placed body i ∷ fs, w, gs, ap (λ w. then_through w i (λ x. through is x)) e ∙ ap (with_event (placed body i)) told, more)
    by (noted z) e k rec =
        let (fs, w, gs, told, more) = rec z es k in
        (fs, w, gs, ap (λ w. then_through w i (λ x. through is x)) e ∙ told, more)

-- ---- a list of tokens after others

items_numbered : (n : ℕ) (is : List RawEvent)
    → items_of (map (λ (i : RawEvent). (i, n)) is) ≡ is
items_numbered n [] = refl
items_numbered n (i ∷ is) = ap (λ z. i ∷ z) (items_numbered n is)

-- The first token is fed to the stack, and then the others are.
pub run_step : (t : Token) (ts : List Token) (s : List State) (f : Option Fault)
    → run (t ∷ ts) s f ≡ carry (length ts) (feed s t) (λ z. run ts z f)
unfolding run
run_step t ts s f = refl

carried_items : (n : ℕ) (x : Fed) (is : List RawEvent) (s : List State) (k : List State → Outcome)
    → x ≡ go is s → items_of (carry n x k).items ≡ is ++ items_of (k s).items
carried_items n x is s k e = ap (λ y. items_of (carry n y k).items) e ∙
    (map-append (λ (g : Given). g.0) (map (λ (i : RawEvent). (i, n)) is) (k s).items ∙ ap (λ z. z ++ items_of (k s).items) (items_numbered n is))

-- The items of a token that is taken come before those of the rest.
pub step_items : (t : Token) (ts : List Token) (s z : List State) (f : Option Fault)
    (is : List RawEvent)
    → feed s t ≡ go is z → items_of (run (t ∷ ts) s f).items ≡ is ++ items_of (run ts z f).items
step_items t ts s z f is e = ap (λ y. items_of y.items) (run_step t ts s f) ∙ carried_items (length ts) (feed s t) is z (λ z. run ts z f) e

-- A token that is taken leaves the ending to the rest.
pub step_ending : (t : Token) (ts : List Token) (s z : List State) (f : Option Fault)
    (is : List RawEvent)
    → feed s t ≡ go is z → (run (t ∷ ts) s f).ending ≡ (run ts z f).ending
step_ending t ts s z f is e = ap (λ y. y.ending) (run_step t ts s f) ∙ ap (λ y. (carry (length ts) y (λ z. run ts z f)).ending) e

abbrev pub read_of : Outcome → Directives → Plain
read_of o ds = plain (items_of o.items) o.ending ds

-- What is read where the first token is taken.
pub went : (t : Token) (ts : List Token) (s z : List State) (f : Option Fault) (is : List RawEvent)
    (ds : Directives)
    → feed s t ≡ go is z
    → read_of (run (t ∷ ts) s f) ds ≡ plain (is ++ items_of (run ts z f).items) (run ts z f).ending ds
went t ts s z f is ds e = grind (arith, step_items, step_ending)

-- What is read where it is refused.
pub halted : (t : Token) (ts : List Token) (s : List State) (f : Option Fault) (is : List RawEvent)
    (p : Fault) (ds : Directives)
    → feed s t ≡ stop is p → read_of (run (t ∷ ts) s f) ds ≡ plain (is ++ []) (Some p) ds
halted t ts s f is p ds e =
    ap (λ o. read_of o ds) (run_step t ts s f ∙ ap (λ y. carry (length ts) y (λ z. run ts z f)) e)
    ∙ ap (λ y. plain y (Some p) ds) (items_numbered (length ts) is ∙ sym (append-nil is))

-- what a stack is after tokens that are taken
pub record After (front : List Token) (s : List State) (ds : Directives) : Type 0 where
  pub items : List RawEvent
  pub stack : List State
  pub noted : Directives
  pub events : List Event
  pub told : through items ds ≡ Some (events, noted)
  pub stands : Stands stack noted
  pub level : opened stack ≡ depth_behind front (opened s)
  pub gives : (ts : List Token) (f : Option Fault) → items_of (run (front ++ ts) s f).items ≡ items ++ items_of (run ts stack f).items
  pub ends : (ts : List Token) (f : Option Fault) → (run (front ++ ts) s f).ending ≡ (run ts stack f).ending

-- What settles two lists of items, one after another, settles each in its turn.
pub through_joined : (is js : List RawEvent) (ds w behind : Directives) (fs gs : List Event)
    → through is ds ≡ Some (fs, w) → through js w ≡ Some (gs, behind)
    → through (is ++ js) ds ≡ Some (fs ++ gs, behind)
through_joined [] js ds w behind fs gs one two =
    let same = same_Some _ _ one in
    let first : [] ≡ fs = ap (λ (x : List Event × Directives). x.0) same in
    let last : ds ≡ w = ap (λ (x : List Event × Directives). x.1) same in
    ap (λ z. through js z) last ∙ two ∙ ap (λ (z : List Event). Some (z ++ gs, behind)) first
through_joined (i ∷ is) js ds w behind fs gs one two = by (settle i ds) one (λ z fs e. through_joined is js z w behind fs gs e two)
  where
    on : (body : EventBody) (o : Option (List Event × Directives)) (z : Directives) → through is z ≡ o
        → with_event (placed body i) o ≡ Some (fs, w)
        → ((z : Directives) (fs : List Event) → through is z ≡ Some (fs, w) → through (is ++ js) z ≡ Some (fs ++ gs, behind))
        → with_event (placed body i) (through (is ++ js) z) ≡ Some (fs ++ gs, behind)
    on body None z e k rec = absurd (none_some k)
    on body (Some x) z e k rec =
        let same = same_Some _ _ k in
        let last : x.1 ≡ w = ap (λ (y : List Event × Directives). y.1) same in
        ap (with_event (placed body i)) (rec z x.0 (e ∙ ap (λ y. Some (x.0, y)) last)) ∙ ap (λ (y : List Event × Directives). Some (y.0 ++ gs, behind)) same

    by : (y : Settled) → then_through y i (λ z. through is z) ≡ Some (fs, w)
        → ((z : Directives) (fs : List Event) → through is z ≡ Some (fs, w) → through (is ++ js) z ≡ Some (fs ++ gs, behind))
        → then_through y i (λ z. through (is ++ js) z) ≡ Some (fs ++ gs, behind)
    by (refused x) k rec = absurd (none_some k)
    by (gave body z) k rec = on body (through is z) z refl k rec
    by (noted z) k rec = rec z fs k

-- Tokens before others that are accepted.
pub after : (front : List Token) (s : List State) (ds : Directives) → Stands s ds → GoOn front
    → (ts : List Token)
    → (es : List Event) (behind : Directives)
    → through (items_of (run (front ++ ts) s None).items) ds ≡ Some (es, behind)
    → (run (front ++ ts) s None).ending ≡ None → After front s ds
after [] s ds g goes ts es behind told none = record {
  items = [];
  stack = s;
  noted = ds;
  events = [];
  told = refl;
  stands = g;
  level = refl;
  gives = λ us f. refl;
  ends = λ us f. refl;
}
after (t ∷ front) s ds g goes ts es behind told none = by (feed s t) refl (stands_feed s ds g t goes.0)
    (λ z x y fs w h k. after front z x y goes.1 ts fs w h k)
  where
    by : (x : Fed) → feed s t ≡ x → Fine x ds
        → ((z : List State) (x : Directives) → Stands z x → (fs : List Event) (w : Directives)
        → through (items_of (run (front ++ ts) z None).items) x ≡ Some (fs, w)
        → (run (front ++ ts) z None).ending ≡ None → After front z x) → After (t ∷ front) s ds
    by (stop is f) e fine rec = absurd (none_some (sym (sym (ap (λ y. y.ending) (run_step t (front ++ ts) s None) ∙ ap (λ y. (carry (length (front ++ ts)) y (λ z. run (front ++ ts) z None)).ending) e) ∙ none)))
    by (go is z) e fine rec =
        let items = step_items t (front ++ ts) s z None is e in
        let ending = step_ending t (front ++ ts) s z None is e in
        let (fs, w, gs, one, two) = through_parts is (items_of (run (front ++ ts) z None).items) ds behind es (ap (λ y. through y ds) (sym items) ∙ told) in
        let a = rec z w (fine fs w one) gs behind two (sym ending ∙ none) in
        record {
          items = is ++ a.items;
          stack = a.stack;
          noted = a.noted;
          events = fs ++ a.events;
          told = through_joined is a.items ds w a.noted fs a.events one a.told;
          stands = a.stands;
          level = a.level ∙ ap (depth_behind front) (subst (λ y. IsLevel y t.body (opened s)) e (feed_level s ds g t));
          gives = λ us f. step_items t (front ++ us) s z f is e ∙ ap (λ y. is ++ y) (a.gives us f) ∙ sym (append_assoc is a.items (items_of (run us a.stack f).items));
          ends = λ us f. step_ending t (front ++ us) s z f is e ∙ a.ends us f;
        }

-- ---- the law

run_over : (m e f : yaml_mark_t) (s : List State) (r : Ended s m e f)
    → items_of (run (end_at m e ∷ []) s None).items ≡ r.left ++ event_at event.stream_end m e ∷ []
unfolding run feed
run_over m e f s r = step_items (end_at m e) [] s [] None (r.left ++ event_at event.stream_end m e ∷ []) r.ends ∙ append-nil (r.left ++ event_at event.stream_end m e ∷ [])

stopped : (m e : yaml_mark_t) (s : List State) (is : List RawEvent) (g : Fault)
    → feed s (end_at m e) ≡ stop is g → (run (end_at m e ∷ []) s None).ending ≡ None → ⊥
stopped m e s is g h none = none_some (sym none ∙ ap (λ (y : Outcome). y.ending) (run_step (end_at m e) [] s None) ∙ ap (λ y. (carry 0 y (λ z. run [] z None)).ending) h)

-- the items of tokens after a stream's start
rest_items : (x : yaml_encoding_t) (a c m f : yaml_mark_t) (behind : List Token)
    (own : Option Fault)
    → let first : Token = record { body = token.stream_start x; start_mark = a; end_mark = c } in
    items_of (run (first ∷ start_at m f ∷ behind) initial own).items
    ≡ event_at (event.stream_start x) a c ∷ item_at (item.document false) m f ∷ items_of (run behind (begun f) own).items
unfolding feed
rest_items x a c m f behind own =
    let first : Token = record { body = token.stream_start x; start_mark = a; end_mark = c } in
    step_items first (start_at m f ∷ behind) initial (state.first ∷ []) own (event_at (event.stream_start x) a c ∷ []) refl
    ∙ ap (λ z. event_at (event.stream_start x) a c ∷ z) (step_items (start_at m f) behind (state.first ∷ []) (begun f) own (item_at (item.document false) m f ∷ []) refl)

rest_ending : (x : yaml_encoding_t) (a c m f : yaml_mark_t) (behind : List Token)
    (own : Option Fault)
    → let first : Token = record { body = token.stream_start x; start_mark = a; end_mark = c } in
    (run (first ∷ start_at m f ∷ behind) initial own).ending ≡ (run behind (begun f) own).ending
unfolding feed
rest_ending x a c m f behind own =
    let first : Token = record { body = token.stream_start x; start_mark = a; end_mark = c } in
    step_ending first (start_at m f ∷ behind) initial (state.first ∷ []) own (event_at (event.stream_start x) a c ∷ []) refl
    ∙ step_ending (start_at m f) behind (state.first ∷ []) (begun f) own (item_at (item.document false) m f ∷ []) refl

-- What is after the first is the same where all is.
pub uncons : {A : Type 0} (x y : A) (xs ys : List A) → x ∷ xs ≡ y ∷ ys → xs ≡ ys
uncons x y xs ys e = cc

-- The events of tokens are those of the items that the machine gives.
pub parse_plain : (ts : List Token) (own : Option Fault)
    → seen (parse_of ts own) ≡ plain (items_of (run ts initial own).items) (run ts initial own).ending no_directives
parse_plain ts own = reading_plain (run ts initial own).items (run ts initial own).ending no_directives

-- What equals the same has the same content.
pub inner_pair : {x y : List Event × Directives} → Some x ≡ Some y → x ≡ y
inner_pair e = cc

-- what is given before the end, and the directives there
pub record Front (front : List Token) (m e f : yaml_mark_t) : Type 0 where
  pub taken : After front initial no_directives
  pub ended : Ended taken.stack m e f
  pub events : List Event
  pub told : through ended.left taken.noted ≡ Some (events, no_directives)

fronted : (front : List Token) (m e f : yaml_mark_t) (s : After front initial no_directives)
    → (r : Ended s.stack m e f) → (es : List Event) (z : Directives)
    → through (items_of (run (front ++ end_at m e ∷ []) initial None).items) no_directives ≡ Some (es, z)
    → Front front m e f
fronted front m e f s r es z told =
    let End = event_at event.stream_end m e in
    let items = s.gives (end_at m e ∷ []) None ∙ ap (λ y. s.items ++ y) (run_over m e f s.stack r) in
    let (fs, w, gs, one, two) = through_parts s.items (r.left ++ End ∷ []) no_directives z es (ap (λ y. through y no_directives) (sym items) ∙ told) in
    let same : w ≡ s.noted = ap (λ (y : List Event × Directives). y.1) (inner_pair (sym one ∙ s.told)) in
    let (hs, v, ks, three, four) = through_parts r.left (End ∷ []) w z gs two in
    let there : through r.left s.noted ≡ Some (hs, v) = ap (λ y. through r.left y) (sym same) ∙ three in
    record {
      taken = s;
      ended = r;
      events = hs;
      told = there ∙ ap (λ y. Some (hs, y)) (r.clean s.noted s.stands hs v there);
    }

-- Tokens whose end is accepted are a front: what they give, and where they leave a parser.
pub front_of : (front : List Token) → GoOn front → (m e f : yaml_mark_t)
    → (parse_of (front ++ end_at m e ∷ []) None).ending ≡ None → Front front m e f
front_of front goes m e f none =
    let A = run (front ++ end_at m e ∷ []) initial None in
    let ending : (plain (items_of A.items) A.ending no_directives).ending ≡ None = ap (λ (p : Plain). p.ending) (sym (parse_plain (front ++ end_at m e ∷ []) None)) ∙ none in
    let (es, z, told, quiet) = plain_accepts (items_of A.items) A.ending no_directives ending in
    let s = after front initial no_directives (refl, refl) goes (end_at m e ∷ []) es z told quiet in
    elim (parts s.stack s.noted s.stands m e f) [
      | inr (is, g, stops) ↦ absurd (stopped m e s.stack is g stops (sym (s.ends (end_at m e ∷ []) None) ∙ quiet))
      | inl r ↦ fronted front m e f s r es z told
    ]

-- the events of others after a front
front_plain : (front : List Token) (m e f : yaml_mark_t) → (x : Front front m e f)
    → (is : List RawEvent) (g : Option Fault)
    → plain (x.taken.items ++ (x.ended.left ++ is)) g no_directives
    ≡ with_front (x.taken.events ++ x.events) (plain is g no_directives)
front_plain front m e f x is g =
    plain_through x.taken.items (x.ended.left ++ is) g no_directives x.taken.noted x.taken.events x.taken.told
    ∙ ap (with_front x.taken.events) (plain_through x.ended.left is g x.taken.noted no_directives x.events x.told)
    ∙ ap (λ (y : List Event). record { events = y; ending = (plain is g no_directives).ending }) (sym (append_assoc x.taken.events x.events (plain is g no_directives).events))

-- The events of a front with its end.
pub front_events : (front : List Token) (m e f : yaml_mark_t) → (x : Front front m e f)
    → events_in (parse_of (front ++ end_at m e ∷ []) None)
    ≡ (x.taken.events ++ x.events) ++ placed event.stream_end (event_at event.stream_end m e) ∷ []
front_events front m e f x =
    let A = run (front ++ end_at m e ∷ []) initial None in
    let End = event_at event.stream_end m e in
    let items = x.taken.gives (end_at m e ∷ []) None ∙ ap (λ y. x.taken.items ++ y) (run_over m e f x.taken.stack x.ended) in
    ap (λ (p : Plain). p.events) (parse_plain (front ++ end_at m e ∷ []) None ∙ ap (λ y. plain y A.ending no_directives) items ∙ front_plain front m e f x (End ∷ []) A.ending)

whole_plain : (front : List Token) (m e f : yaml_mark_t) → (x : Front front m e f)
    → (behind : List Token) (own : Option Fault)
    → let B = run behind (begun f) own in
    seen (parse_of (front ++ start_at m f ∷ behind) own)
    ≡ with_front (x.taken.events ++ x.events) (plain (item_at (item.document false) m f ∷ items_of B.items) B.ending no_directives)
whole_plain front m e f x behind own =
    let B = run behind (begun f) own in
    let W = run (front ++ start_at m f ∷ behind) initial own in
    let Doc = item_at (item.document false) m f in
    let left = x.ended.left in
    let items = x.taken.gives (start_at m f ∷ behind) own
    ∙ ap (λ y. x.taken.items ++ y) (step_items (start_at m f) behind x.taken.stack (begun f) own (left ++ Doc ∷ []) x.ended.starts ∙ append_assoc left (Doc ∷ []) (items_of B.items)) in
    let ending = x.taken.ends (start_at m f ∷ behind) own ∙ step_ending (start_at m f) behind x.taken.stack (begun f) own (left ++ Doc ∷ []) x.ended.starts in
    parse_plain (front ++ start_at m f ∷ behind) own
    ∙ ap (λ y. plain y W.ending no_directives) items
    ∙ ap (λ y. plain (x.taken.items ++ (left ++ Doc ∷ items_of B.items)) y no_directives) ending
    ∙ front_plain front m e f x (Doc ∷ items_of B.items) B.ending

rest_plain : (x : yaml_encoding_t) (a c m f : yaml_mark_t) (behind : List Token)
    (own : Option Fault)
    → let first : Token = record { body = token.stream_start x; start_mark = a; end_mark = c } in
    let B = run behind (begun f) own in
    seen (parse_of (first ∷ start_at m f ∷ behind) own)
    ≡ with_one (placed (event.stream_start x) (event_at (event.stream_start x) a c)) (plain (item_at (item.document false) m f ∷ items_of B.items) B.ending no_directives)
rest_plain x a c m f behind own = grind (arith, parse_plain, rest_items, rest_ending)

at_once : (front : List Token) → GoOn front → (m e f : yaml_mark_t)
    → (parse_of (front ++ end_at m e ∷ []) None).ending ≡ None
    → (x : yaml_encoding_t) (a c : yaml_mark_t) (behind : List Token) (own : Option Fault)
    → (before : List Event) (end : Event)
    → events_in (parse_of (front ++ end_at m e ∷ []) None) ≡ before ++ end ∷ []
    → (start : Event) (later : List Event)
    → let first : Token = record { body = token.stream_start x; start_mark = a; end_mark = c } in
    events_in (parse_of (first ∷ start_at m f ∷ behind) own) ≡ start ∷ later
    → (events_in (parse_of (front ++ start_at m f ∷ behind) own) ≡ before ++ later)
    × ((parse_of (front ++ start_at m f ∷ behind) own).ending ≡ (parse_of (first ∷ start_at m f ∷ behind) own).ending)
at_once front goes m e f none x a c behind own before end came start later come =
    let y = front_of front goes m e f none in
    let B = run behind (begun f) own in
    let P = plain (item_at (item.document false) m f ∷ items_of B.items) B.ending no_directives in
    let (same, last) = same_from_push before (y.taken.events ++ y.events) end (placed event.stream_end (event_at event.stream_end m e)) (sym came ∙ front_events front m e f y) in
    let rest = rest_plain x a c m f behind own in
    let whole = whole_plain front m e f y behind own in
    let others : later ≡ P.events = uncons start (placed (event.stream_start x) (event_at (event.stream_start x) a c)) later P.events (sym come ∙ ap (λ (p : Plain). p.events) rest) in (
      ap (λ (p : Plain). p.events) whole ∙ ap (λ (z : List Event). z ++ P.events) (sym same) ∙ ap (λ (z : List Event). before ++ z) (sym others),
      ap (λ (p : Plain). p.ending) whole ∙ sym (ap (λ (p : Plain). p.ending) rest),
    )

-- A token is its body at its place.
pub body_at : (t : Token) (b : TokenBody) (m : yaml_mark_t) → t.body ≡ b → t.start_mark ≡ m
    → t ≡ record { body = b; start_mark = m; end_mark = t.end_mark }
body_at t b m e f = ap (λ (z : TokenBody). record { body = z; start_mark = t.start_mark; end_mark = t.end_mark }) e ∙ ap (λ (z : yaml_mark_t). record { body = b; start_mark = z; end_mark = t.end_mark }) f

pub windows_are_parsed : WindowsAreParsed
windows_are_parsed front last goes ends none mark begins there first x starts behind own before end came start later come =
    let m = last.start_mark in
    let E = body_at last token.stream_end m ends refl in
    let D = body_at mark token.document_start m begins there in
    let S = body_at first (token.stream_start x) first.start_mark starts refl in
    let none_there = ap (λ t. (parse_of (front ++ t ∷ []) None).ending) (sym E) ∙ none in
    let came_there = ap (λ t. events_in (parse_of (front ++ t ∷ []) None)) (sym E) ∙ came in
    let come_there = ap (λ t. events_in (parse_of (t ∷ start_at m mark.end_mark ∷ behind) own)) (sym S) ∙ ap (λ t. events_in (parse_of (first ∷ t ∷ behind) own)) (sym D) ∙ come in
    let (events, ending) = at_once front goes m last.end_mark mark.end_mark none_there x first.start_mark first.end_mark behind own before end came_there start later come_there in (
      ap (λ t. events_in (parse_of (front ++ t ∷ behind) own)) D ∙ events,
      ap (λ t. (parse_of (front ++ t ∷ behind) own).ending) D ∙ ending
          ∙ sym (ap (λ t. (parse_of (first ∷ t ∷ behind) own).ending) D ∙ ap (λ t. (parse_of (t ∷ start_at m mark.end_mark ∷ behind) own).ending) S),
    )

pub brackets_are_closed : BracketsAreClosed
brackets_are_closed front last goes ends none =
    let m = last.start_mark in
    let e = last.end_mark in
    let E = body_at last token.stream_end m ends refl in
    let x = front_of front goes m e e (ap (λ t. (parse_of (front ++ t ∷ []) None).ending) (sym E) ∙ none) in
    let s = x.taken.stack in
    let over : opened [] ≡ opened s = subst (λ y. IsLevel y token.stream_end (opened s)) x.ended.ends (feed_level s x.taken.noted x.taken.stands (end_at m e)) in
    sym x.taken.level ∙ sym over
