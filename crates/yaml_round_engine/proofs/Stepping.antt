-- Two readings beside each other: what each step says of what there was before it.
use Rattle.std.proofs.Common.{◌≡◌, ◌∙◌, ◌<◌, ℕ, List, [], ◌∷◌, ◌++◌, length, Bool, true, false, Option, refl, sym, ap, subst, arith}
use Rattle.yaml_parse.specs.Events.{Event, EventBody}
use Rattle.yaml_parse.specs.Events as event
use Rattle.yaml_parse.specs.Resolve.{Told}
use Rattle.yaml_parse.specs.Remaining.{ParserRemaining}
use Rattle.yaml_parse.specs.declared.yaml_scalar_style_t.{yaml_scalar_style_t}
use Rattle.yaml_round_content.specs.Normalize.{normalize_scalar, is_lone_mark}
use Rattle.yaml_round_content.specs.Content.{content_of}
use Rattle.yaml_round_reading.specs.Reading.{contents, AreReal, GivesNextEvent}
use Rattle.yaml_round_reading.specs.declared.side.yaml_side_t.TheVariants.{First, Second}
use Rattle.yaml_round_reading.specs.ReadingView.{ReadingView}
use Rattle.yaml_round_engine.specs.declared.compare.Next.{Next}
use Rattle.yaml_round_engine.specs.declared.compare.Next.TheVariants.{Same, End, Different, Refused}
use Rattle.yaml_round_engine.specs.declared.trail.Trail.{Trail}
use Rattle.yaml_round_engine.specs.Places.{Path, path_of}
use Rattle.yaml_round_engine.specs.Walking.{past, past_event}
use Rattle.yaml_round_engine.specs.Differences.{saying}
use Rattle.yaml_round_engine.specs.Compare.{JudgesEvents, AreApart, Parted, BothGoOn, StepsBeside, StepsOn}
use Rattle.yaml_round_engine.proofs.Parting.{first_same}
use Rattle.yaml_round_engine.proofs.Placing.{heads}
use Rattle.yaml_round_content.proofs.Injective.{rest_same}

-- ---- paths

scalar_past : (lone : Bool) (anchor tag : Option (List ℕ)) (text : List ℕ) (plain quoted : Bool)
    (style : yaml_scalar_style_t) (p : Path)
    → past_event (event.scalar anchor tag text plain quoted style) p
    ≡ past_event (content_of (normalize_scalar lone anchor tag text plain quoted style)) p
scalar_past true anchor tag text plain quoted style p = refl
scalar_past false anchor tag text plain quoted style p = refl

-- styles, document marks and what is normalized make no difference to the path
said_past : (b : EventBody) (p : Path) → past_event b p ≡ past_event (saying b) p
said_past (event.scalar anchor tag text plain quoted style) p = scalar_past (is_lone_mark tag text) anchor tag text plain quoted style p
said_past (event.document_end implicit) p = refl
said_past event.no p = refl
said_past (event.stream_start encoding) p = refl
said_past event.stream_end p = refl
said_past (event.document_start version directives implicit) p = refl
said_past (event.alias name) p = refl
said_past (event.sequence_start anchor tag implicit style) p = refl
said_past event.sequence_end p = refl
said_past (event.mapping_start anchor tag implicit style) p = refl
said_past event.mapping_end p = refl

-- ---- a step of both

shorter : (xs ys : List Told) (x : Told) → xs ≡ x ∷ ys → length ys < length xs
shorter xs ys x e = subst (λ (zs : List Told). length ys < length zs) (sym e) (omega arith)

goes_on : (first second first_new second_new : ParserRemaining) (e : Event) (x y : Told)
    → first.events ≡ x ∷ first_new.events → second.events ≡ y ∷ second_new.events
    → saying x.0.body ≡ saying y.0.body → e ≡ x.0
    → AreReal first_new.events → AreReal second_new.events → first_new.ending ≡ first.ending
    → second_new.ending ≡ second.ending
    → BothGoOn first second first_new second_new e
goes_on first second first_new second_new e x y p q says n real other_real ending other_ending = record {
  front = x;
  other_front = y;
  first_events = p;
  second_events = q;
  says = says;
  given = n;
  real = (real, other_real);
  less = shorter first.events first_new.events x p;
  first_ending = ending;
  second_ending = other_ending;
  alike = (
    λ z. rest_same (saying x.0.body) (saying y.0.body) (contents first_new.events) (contents second_new.events) (sym (ap contents p) ∙ z ∙ ap contents q),
    λ z. ap contents p ∙ heads (saying x.0.body) (saying y.0.body) (contents first_new.events) (contents second_new.events) says z ∙ sym (ap contents q),
  );
}

-- the first gave that event, and the second is beside it
pub beside : (first first_new second second_new : ReadingView) (r : Next)
    → GivesNextEvent first_new.given first.parser first_new.parser
    → StepsBeside first_new.given second.parser r second_new
    → StepsOn first second r first_new second_new
beside first first_new second second_new Same g b =
    goes_on first.parser second.parser first_new.parser second_new.parser first_new.given (first_new.given, first_new.parser.unasked) b.front
    g.events b.events b.says refl g.real b.real g.ending b.ending
beside first first_new second second_new End g b = absurd b
beside first first_new second second_new (Different k) g b = record {
  contents = record {
    real = (g.real, b.real);
    differ = λ same. b.differ (contents first_new.parser.events) (sym same ∙ ap contents g.events);
    first_ending = g.ending;
    second_ending = b.ending;
  };
  apart = λ d t w. subst (λ (xs : List Told). AreApart xs second.parser.events d) (sym g.events) (b.apart first_new.parser.unasked first_new.parser.events d t w);
}
beside first first_new second second_new (Refused First) g b = absurd b
beside first first_new second second_new (Refused Second) g b = (b, (g.ending, g.real))

-- the second gave that event, and both are judged
pub judged_beside : (e : Event) (second : ParserRemaining) (r : Next) (second_new : ReadingView)
    → GivesNextEvent second_new.given second second_new.parser
    → JudgesEvents e.body second_new.given.body r → StepsBeside e second r second_new
judged_beside e second Same second_new g j =
    record { front = (second_new.given, second_new.parser.unasked); events = g.events; says = j; real = g.real; ending = g.ending }
judged_beside e second End second_new g j = absurd j
judged_beside e second (Different k) second_new g j = record {
  real = g.real;
  ending = g.ending;
  differ = λ rest s. j.0 (first_same (saying e.body) (saying second_new.given.body) rest (contents second_new.parser.events) (sym s ∙ ap contents g.events));
  apart = λ n xs d t w. subst (λ (zs : List Told). AreApart ((e, n) ∷ xs) zs d) (sym g.events) (j.0, record { tells = t; cause = w ∙ j.1 });
}
judged_beside e second (Refused side) second_new g j = absurd j

-- ---- where they differ

pub parted_here : (kept : Bool) (first second : List Told) (old new : Trail)
    → AreApart first second new.place → path_of new.place ≡ path_of old.place
    → Parted kept first second old new
parted_here kept first second old new a p = record {
  before = [];
  other_before = [];
  left = first;
  other_left = second;
  first_events = refl;
  second_events = refl;
  alike = refl;
  apart = a;
  path = λ k. p;
}

longer : (xs ys zs ws : List Told) (x : Told) → xs ≡ x ∷ ys → ys ≡ zs ++ ws → xs ≡ x ∷ zs ++ ws
longer xs ys zs ws x e f = e ∙ ap (λ (vs : List Told). x ∷ vs) f

pub parted_behind : (kept : Bool) (first second : List Told) (rest other_rest : List Told)
    (x y : Told) (b : EventBody) (old middle new : Trail)
    → first ≡ x ∷ rest → second ≡ y ∷ other_rest → saying x.0.body ≡ saying y.0.body
    → b ≡ x.0.body → (kept ≡ true → path_of middle.place ≡ past_event b (path_of old.place))
    → Parted kept rest other_rest middle new → Parted kept first second old new
parted_behind kept first second rest other_rest x y b old middle new p q says n step h = record {
  before = x ∷ h.before;
  other_before = y ∷ h.other_before;
  left = h.left;
  other_left = h.other_left;
  first_events = longer first rest h.before h.left x p h.first_events;
  second_events = longer second other_rest h.other_before h.other_left y q h.second_events;
  alike = heads (saying x.0.body) (saying y.0.body) (contents h.before) (contents h.other_before) says h.alike;
  apart = h.apart;
  path = λ k.
      let walked = step k ∙ ap (λ (e : EventBody). past_event e (path_of old.place)) n ∙ said_past x.0.body (path_of old.place) in
      h.path k ∙ ap (λ (w : Path). past (contents h.before) w) walked;
}
