-- Events are let out one by one, each with its text; the others wait.
use Rattle.yaml_round_laws.proofs.Words.{nat_tests, ◌≤◌, Cursor, Settings, Rest, nothing_more, Problem, Event, or_else, context_of, problem_in, progress_after, first_refusal, State, piece, next, problem_at, opens_empty, top_of, is_ready, let_out, laid, refused_at, shape_of, refusal_from, text_from, refusal_behind, ready_more, same_problem, shape_next, or_none, or_some, unless_none, unless_some, empty_out, open_next, first_out, Stand, added, StandsAreThere}
use Rattle.std.proofs.Common.{◌≡◌, Bool, true, false, List, [], ◌∷◌, ◌++◌, refl, sym, ap, ◌∙◌, append_assoc, Option, Some, None, length, arith, append-nil}
use Rattle.yaml_emit_layout.specs.declared.Expected.TheVariants as at
use Rattle.yaml_emit_machine.proofs.Holding.{ready_empty, few_short}
use Rattle.yaml_round_laws.proofs.Regular.{Written}
use Rattle.yaml_round_laws.proofs.Events.{piece_regular}

-- ---- what is let out

none_out : (e : Event) (es : List Event) → is_ready (e ∷ es) ≡ false → let_out (e ∷ es) ≡ []
unfolding let_out
none_out e es r = rw r refl

-- ---- a right event leads on

first_judged : (canonical : Bool) (st : State) (e : Event) (es : List Event)
    → refused_at st.place ≡ None → is_ready (e ∷ es) ≡ true
    → refusal_from canonical st (e ∷ es)
    ≡ or_else (problem_in canonical (shape_of st) e)
    (first_refusal canonical (progress_after (shape_of st) e) (let_out es))
unfolding first_refusal
first_judged canonical st e es o r = or_none (refused_at st.place) _ o ∙ ap (first_refusal canonical (shape_of st)) (first_out e es r)

-- after a right event the others are judged from where it leads
right_judged : (s : Settings) (st : State) (e : Event) (es : List Event) (empty : Bool) (d : Cursor)
    → refused_at st.place ≡ None → is_ready (e ∷ es) ≡ true → problem_at s st e ≡ None
    → refusal_behind s st (e ∷ es) ≡ refusal_behind s (next s st e empty d) es
unfolding refusal_behind
right_judged s st e es empty d o r p = grind (arith, nat_tests, first_judged, same_problem, shape_next, open_next)

wrong_judged : (s : Settings) (st : State) (e : Event) (es : List Event) (x : Problem)
    → refused_at st.place ≡ None → is_ready (e ∷ es) ≡ true → problem_at s st e ≡ Some x
    → refusal_behind s st (e ∷ es) ≡ Some x
unfolding refusal_behind
wrong_judged s st e es x o r p = first_judged s.canonical st e es o r ∙ or_some _ _ x (sym (same_problem s st e) ∙ p)

-- what comes of a list after its first event
behind : Settings → State → Event → Bool → List Event → Rest
behind s st e empty es d = text_from s (next s st e empty d) es d nothing_more

right_text : (s : Settings) (st : State) (e : Event) (es : List Event) (c : Cursor)
    → refused_at st.place ≡ None → is_ready (e ∷ es) ≡ true → problem_at s st e ≡ None
    → text_from s st (e ∷ es) c nothing_more
    ≡ piece s st e (opens_empty e es) c
    (λ d. laid s (next s st e (opens_empty e es) d) (let_out es) d nothing_more)
unfolding laid
right_text s st e es c o r p = grind (arith, nat_tests, unless_none, first_out, empty_out)

wrong_text : (s : Settings) (st : State) (e : Event) (es : List Event) (c : Cursor) (x : Problem)
    → refused_at st.place ≡ None → is_ready (e ∷ es) ≡ true → problem_at s st e ≡ Some x
    → text_from s st (e ∷ es) c nothing_more ≡ []
unfolding laid
wrong_text s st e es c x o r p = grind (arith, nat_tests, unless_none, first_out, unless_some)

held_text : (s : Settings) (st : State) (xs : List Event) (c : Cursor) → let_out xs ≡ []
    → text_from s st xs c nothing_more ≡ []
unfolding laid
held_text s st xs c h = grind (arith, nat_tests)

-- ---- where a list leads, all of it waiting

pub record Led (s : Settings) (st : State) (c : Cursor) (xs : List Event) : Type 0 where
  pub to : Stand
  pub texts : (more : List Event)
      → text_from s st (xs ++ more) c nothing_more ≡ text_from s st xs c nothing_more
      ++ added s to more
  pub refusals : (more : List Event)
      → refusal_behind s st (xs ++ more) ≡ refusal_behind s to.state (to.held ++ more)
  pub few : length to.held ≤ 3
  pub front : List Event
  pub last : xs ≡ front ++ to.held

-- nothing is let out by now
waiting : (s : Settings) (st : State) (c : Cursor) (xs : List Event) → let_out xs ≡ []
    → length xs ≤ 3 → Led s st c xs
waiting s st c xs h n = record {
  to = record { state = st; cursor = c; held = xs };
  texts = λ more. sym (ap (λ z. z ++ text_from s st (xs ++ more) c nothing_more) (held_text s st xs c h));
  refusals = λ more. refl;
  few = n;
  front = [];
  last = refl;
}

-- after a refusal nothing counts
abbrev refused : Problem → State → State
refused x st = record { place = at.Refused x; levels = st.levels; directives = st.directives }

lost : (s : Settings) (st : State) (c : Cursor) (xs : List Event) (x : Problem)
    → ((more : List Event) → text_from s st (xs ++ more) c nothing_more ≡ [])
    → text_from s st xs c nothing_more ≡ []
    → ((more : List Event) → refusal_behind s st (xs ++ more) ≡ Some x) → Led s st c xs
unfolding refusal_behind
lost s st c xs x all now told = record {
  to = record { state = refused x st; cursor = c; held = [] };
  texts = λ more. all more ∙ sym (ap (λ z. z ++ []) now);
  refusals = λ more. told more;
  few = omega arith;
  front = xs;
  last = sym (append-nil xs);
}

stuck : (s : Settings) (st : State) (c : Cursor) (xs : List Event) (x : Problem)
    → refused_at st.place ≡ Some x → Led s st c xs
unfolding refusal_behind
stuck s st c xs x o =
    lost s st c xs x (λ more. unless_some (refused_at st.place) x _ c nothing_more o) (unless_some (refused_at st.place) x _ c nothing_more o) (λ more. or_some (refused_at st.place) _ x o)

-- the first event is right, and written
goes : (s : Settings) (st : State) (c : Cursor) (e : Event) (es : List Event)
    → refused_at st.place ≡ None → is_ready (e ∷ es) ≡ true → problem_at s st e ≡ None
    → ((st' : State) (d : Cursor) → Led s st' d es) → Led s st c (e ∷ es)
goes s st c e es o r p rest =
    let b : Bool = opens_empty e es in
    let w : Written (piece s st e b) c = piece_regular (context_of s st.directives) st.place (top_of st.levels) e b c in
    let d : Cursor = w.behind in
    let st' : State = next s st e b d in
    let l : Led s st' d es = rest st' d in
    let free : refused_at st'.place ≡ None = open_next s st e b d o in
    let same : (ys : List Event) → laid s st' (let_out ys) d nothing_more ≡ text_from s st' ys d nothing_more = λ ys. sym (unless_none (refused_at st'.place) _ d nothing_more free) in
    let now : text_from s st (e ∷ es) c nothing_more ≡ w.text ++ text_from s st' es d nothing_more =
    right_text s st e es c o r p ∙ (w.is (λ k. laid s (next s st e b k) (let_out es) k nothing_more) ∙ ap (λ z. w.text ++ z) (same es)) in
    let then : (more : List Event) → text_from s st (e ∷ (es ++ more)) c nothing_more ≡ w.text ++ text_from s st' (es ++ more) d nothing_more = λ more.
    right_text s st e (es ++ more) c o (ready_more e es more r) p
    ∙ (ap (λ z. piece s st e z c (λ k. laid s (next s st e z k) (let_out (es ++ more)) k nothing_more)) (ready_empty e es more r)
    ∙ (w.is (λ k. laid s (next s st e b k) (let_out (es ++ more)) k nothing_more) ∙ ap (λ z. w.text ++ z) (same (es ++ more)))) in
    record {
      to = l.to;
      texts = λ more. then more
          ∙ (ap (λ z. w.text ++ z) (l.texts more)
          ∙ (sym (append_assoc w.text (text_from s st' es d nothing_more) (added s l.to more)) ∙ sym (ap (λ z. z ++ added s l.to more) now)));
      refusals = λ more. right_judged s st e (es ++ more) b d o (ready_more e es more r) p ∙ l.refusals more;
      few = l.few;
      front = e ∷ l.front;
      last = ap (λ z. e ∷ z) l.last;
    }

by_problem : (s : Settings) (st : State) (c : Cursor) (e : Event) (es : List Event)
    (q : Option Problem) → refused_at st.place ≡ None → is_ready (e ∷ es) ≡ true
    → problem_at s st e ≡ q
    → ((st' : State) (d : Cursor) → Led s st' d es) → Led s st c (e ∷ es)
by_problem s st c e es None o r p rest = goes s st c e es o r p rest
by_problem s st c e es (Some x) o r p rest =
    lost s st c (e ∷ es) x (λ more. wrong_text s st e (es ++ more) c x o (ready_more e es more r) p) (wrong_text s st e es c x o r p) (λ more. wrong_judged s st e (es ++ more) x o (ready_more e es more r) p)

by_ready : (s : Settings) (st : State) (c : Cursor) (e : Event) (es : List Event) (b : Bool)
    → refused_at st.place ≡ None → is_ready (e ∷ es) ≡ b
    → ((st' : State) (d : Cursor) → Led s st' d es) → Led s st c (e ∷ es)
by_ready s st c e es true o r rest = by_problem s st c e es (problem_at s st e) o r refl rest
by_ready s st c e es false o r rest = waiting s st c (e ∷ es) (none_out e es r) (few_short (e ∷ es) r)

by_place : (s : Settings) (st : State) (c : Cursor) (e : Event) (es : List Event)
    (q : Option Problem) → refused_at st.place ≡ q
    → ((st' : State) (d : Cursor) → Led s st' d es) → Led s st c (e ∷ es)
by_place s st c e es q o rest = grind (arith, nat_tests, by_ready, stuck)

pub led : (s : Settings) (xs : List Event) (st : State) (c : Cursor) → Led s st c xs
unfolding let_out
led s [] st c = waiting s st c [] refl (omega arith)
led s (e ∷ es) st c = by_place s st c e es (refused_at st.place) refl (λ st' d. led s es st' d)

pub there : StandsAreThere
there s a es =
    let l : Led s a.state a.cursor (a.held ++ es) = led s (a.held ++ es) a.state a.cursor in (
      l.to,
      (
        record {
          texts = λ more. ap (λ z. text_from s a.state z a.cursor nothing_more) (sym (append_assoc a.held es more)) ∙ l.texts more;
          refusals = λ more. ap (refusal_behind s a.state) (sym (append_assoc a.held es more)) ∙ l.refusals more;
        },
        record { few = l.few; front = l.front; last = l.last },
      ),
    )
