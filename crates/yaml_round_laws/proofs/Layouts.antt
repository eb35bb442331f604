-- What is written for events that begin a stream is a front of its layout; a wrong event adds nothing.
use Rattle.std.proofs.Common.{◌≡◌, Bool, true, false, not, List, [], ◌∷◌, ◌++◌, refl, sym, ap, ◌∙◌, append_assoc, append-nil, Option, Some, None}
use Rattle.std.proofs.Math.Path.{fun_ext}
use Rattle.yaml_round_laws.proofs.Words.{Cursor, Settings, Item, Rest, start, nothing_more, written, Problem, Document, Event, sequence_start, sequence_end, mapping_start, mapping_end, stream_events, or_else, event_problem, last_problem, place_problem, problem_by, own_problems, stream_layout, context_of, Progress, problem_in, progress_after, first_refusal, State, placed, piece, next, problem_at, opens_empty, top_of, is_ready, let_out, laid, shape_of, same_problem, shape_next, or_none, unless_some, first_out, whole}
use Rattle.yaml_emit_layout.specs.declared.Expected.TheVariants as at
use Rattle.yaml_emit_layout.specs.ToCome.{ToCome, stream, events}
use Rattle.yaml_emit_layout.specs.ToCome as come
use Rattle.yaml_emit_layout.proofs.LeadsOn.{goes}
use Rattle.yaml_emit_machine.proofs.Ending.{nothing_held}
use Rattle.yaml_emit_machine.proofs.Grammatical.{first_right, right_there}
use Rattle.yaml_emit_machine.proofs.LaidOut.{streams_are_laid, laid_on}
use Rattle.yaml_round_laws.specs.Layouts.{all_written, BeginsStream, StreamsAreLayouts, FrontsAreOfLayouts, stays_open, AllIsOfLayouts, WrongAddNothing}
use Rattle.yaml_round_laws.proofs.Regular.{Written}
use Rattle.yaml_round_laws.proofs.Events.{piece_regular}
use Rattle.yaml_round_laws.proofs.Joining.{shown}
use Rattle.yaml_emit_machine.proofs.Finishing.{or_else_none}
use Rattle.yaml_emit_machine.proofs.Opening.{opens_none}

-- ---- whole streams

out_by : (e : Event) (es : List Event) (k : ToCome) (b : Bool) → e ∷ es ≡ events k
    → is_ready (e ∷ es) ≡ b → let_out es ≡ es → let_out (e ∷ es) ≡ e ∷ es
out_by e es k true same r rest = first_out e es r ∙ ap (λ z. e ∷ z) rest
out_by e es k false same r rest = let none : e ∷ es ≡ [] = nothing_held (e ∷ es) k r same in absurd (cc)

-- all events of a stream are let out
all_out : (s : Settings) (es : List Event) (k : ToCome) → es ≡ events k → let_out es ≡ es
unfolding let_out
all_out s [] k same = refl
all_out s (e ∷ es) k same =
    let go = goes s e es k same in
    out_by e es k (is_ready (e ∷ es)) same refl (all_out s es (go.rest start) (go.same start))

laid_there : (s : Settings) (es : List Event) (ds : List Document) → BeginsStream s es [] ds
    → all_written s es ≡ written (stream_layout s ds)
laid_there s es ds b =
    let same : es ≡ stream_events b.encoding ds = sym (append-nil es) ∙ b.same in
    let right : own_problems s.canonical (stream_events b.encoding ds) ≡ None = ap (own_problems s.canonical) (sym b.same) ∙ b.right in
    ap (all_written s) same ∙ streams_are_laid s b.encoding ds right start nothing_more

whole_laid : (s : Settings) (es : List Event) (ds : List Document) → BeginsStream s es [] ds
    → whole s es ≡ all_written s es
unfolding events
whole_laid s es ds b =
    let same : es ≡ stream_events b.encoding ds = sym (append-nil es) ∙ b.same in
    ap (λ z. laid s (placed at.StreamStart) z start nothing_more) (all_out s es (stream b.encoding ds) same)

pub streams_are_layouts : StreamsAreLayouts
streams_are_layouts s es ds b = (whole_laid s es ds b ∙ laid_there s es ds b, laid_there s es ds b)

-- ---- fronts

all_of : (s : Settings) (es more : List Event) (ds : List Document) → BeginsStream s es more ds
    → BeginsStream s (es ++ more) [] ds
all_of s es more ds b = record {
  encoding = b.encoding;
  same = append-nil (es ++ more) ∙ b.same;
  right = ap (own_problems s.canonical) (append-nil (es ++ more)) ∙ b.right;
}

pub fronts_are_of_layouts : FrontsAreOfLayouts
fronts_are_of_layouts s es more ds b =
    let (rest, is) = shown s es more in
    (rest, sym (streams_are_layouts s (es ++ more) ds (all_of s es more ds b)).0 ∙ is)

-- the first of two parts says whether a collection is empty, where it isn't the last event that opens it
opens_by_first : (e f : Event) (es more : List Event)
    → opens_empty e (f ∷ es ++ more) ≡ opens_empty e (f ∷ es)
unfolding opens_empty
opens_by_first (sequence_start p) f es more = refl
opens_by_first _ f es more = refl

not_so : (b : Bool) → not b ≡ true → b ≡ false
not_so true h = cc
not_so false h = refl

opens_alike : (e : Event) (es more : List Event) → stays_open (e ∷ es) more ≡ true
    → opens_empty e (es ++ more) ≡ opens_empty e es
opens_alike e [] more h = not_so (opens_empty e more) h ∙ sym (opens_none e)
opens_alike e (f ∷ es) more h = opens_by_first e f es more

open_on : (e : Event) (es more : List Event) → stays_open (e ∷ es) more ≡ true
    → stays_open es more ≡ true
open_on e [] more h = refl
open_on e (f ∷ es) more h = h

front_by : (s : Settings) (es more : List Event) (k : ToCome) → es ++ more ≡ events k
    → own_problems s.canonical (es ++ more) ≡ None → stays_open es more ≡ true → (c : Cursor)
    → (rest : List Item) × (laid s (come.state_of k) (es ++ more) c nothing_more
    ≡ laid s (come.state_of k) es c nothing_more ++ rest)
unfolding laid
front_by s [] more k same right stays c = (laid s (come.state_of k) more c nothing_more, refl)
front_by s (e ∷ es) more k same right stays c =
    let st : State = come.state_of k in
    let go = goes s e (es ++ more) k same in
    let r = first_right s.canonical e (es ++ more) right in
    let p : problem_at s st e ≡ None = right_there s st e r.0 go.there in
    let b : Bool = opens_empty e (es ++ more) in
    let b' : Bool = opens_empty e es in
    let alike : b ≡ b' = opens_alike e es more stays in
    let w : Written (piece s st e b) c = piece_regular (context_of s st.directives) st.place (top_of st.levels) e b c in
    let d : Cursor = w.behind in
    let (rest, is) = front_by s es more (go.rest d) (go.same d) r.1 (open_on e es more stays) d in
    let all : laid s st (e ∷ es ++ more) c nothing_more ≡ w.text ++ laid s (come.state_of (go.rest d)) (es ++ more) d nothing_more =
    laid_on s st e (es ++ more) c nothing_more p ∙ w.is (λ d. laid s (next s st e b d) (es ++ more) d nothing_more) ∙ ap (λ z. w.text ++ laid s z (es ++ more) d nothing_more) (go.fits d) in
    let some : laid s st (e ∷ es) c nothing_more ≡ w.text ++ laid s (come.state_of (go.rest d)) es d nothing_more =
    laid_on s st e es c nothing_more p ∙ ap (λ z. piece s st e z c (λ d. laid s (next s st e z d) es d nothing_more)) (sym alike)
    ∙ w.is (λ d. laid s (next s st e b d) es d nothing_more) ∙ ap (λ z. w.text ++ laid s z es d nothing_more) (go.fits d) in
    (rest, all ∙ ap (λ z. w.text ++ z) is ∙ sym (append_assoc w.text (laid s (come.state_of (go.rest d)) es d nothing_more) rest) ∙ ap (λ z. z ++ rest) (sym some))

pub all_is_of_layouts : AllIsOfLayouts
unfolding events come.state_of
all_is_of_layouts s es more ds b stays =
    let (rest, is) = front_by s es more (stream b.encoding ds) b.same b.right stays start in
    (rest, sym (laid_there s (es ++ more) ds (all_of s es more ds b)) ∙ is)

-- ---- wrong events

last_some : (p : Option Problem) (x : Problem) → or_else p None ≡ Some x → p ≡ Some x
last_some (Some y) x e = e
last_some None x e = absurd (cc)

-- the end of a collection that was opened just now isn't wrong
end_in_sequence : (canonical : Bool) (h : Progress) (p : _)
    → problem_in canonical (progress_after h (sequence_start p)) sequence_end ≡ None
unfolding problem_by progress_after event_problem last_problem place_problem
end_in_sequence canonical h p = refl

end_in_mapping : (canonical : Bool) (h : Progress) (p : _)
    → problem_in canonical (progress_after h (mapping_start p)) mapping_end ≡ None
unfolding problem_by progress_after event_problem last_problem place_problem
end_in_mapping canonical h p = refl

-- so a wrong event after what opens a collection doesn't close it
wrong_closes_none : (canonical : Bool) (h : Progress) (e f : Event) (more : List Event)
    (x : Problem)
    → problem_in canonical (progress_after h e) f ≡ Some x → opens_empty e (f ∷ more) ≡ false
unfolding opens_empty
wrong_closes_none canonical h (sequence_start p) sequence_end more x w = let right = end_in_sequence canonical h p in absurd (cc)
wrong_closes_none canonical h (mapping_start p) mapping_end more x w = let right = end_in_mapping canonical h p in absurd (cc)
wrong_closes_none canonical h _ f more x w = refl

opens_alike_wrong : (canonical : Bool) (h : Progress) (e : Event) (es : List Event) (f : Event)
    (more : List Event) (x : Problem)
    → first_refusal canonical (progress_after h e) (es ++ f ∷ []) ≡ Some x
    → opens_empty e (es ++ f ∷ more) ≡ opens_empty e es
unfolding first_refusal
opens_alike_wrong canonical h e [] f more x w =
    wrong_closes_none canonical h e f more x (last_some (problem_in canonical (progress_after h e) f) x w) ∙ sym (opens_none e)
opens_alike_wrong canonical h e (g ∷ es) f more x w = opens_by_first e g es (f ∷ more)

stops_by : (s : Settings) (st : State) (es : List Event) (e : Event) (more : List Event)
    (x : Problem)
    → first_refusal s.canonical (shape_of st) es ≡ None
    → first_refusal s.canonical (shape_of st) (es ++ e ∷ []) ≡ Some x → (c : Cursor) (f : Rest)
    → laid s st (es ++ e ∷ more) c f ≡ laid s st es c f
unfolding laid first_refusal
stops_by s st [] e more x right wrong c f =
    unless_some (problem_at s st e) x _ c f (same_problem s st e ∙ last_some (problem_in s.canonical (shape_of st) e) x wrong)
stops_by s st (e ∷ es) g more x right wrong c f =
    let r = or_else_none (problem_in s.canonical (shape_of st) e) (first_refusal s.canonical (progress_after (shape_of st) e) es) right in
    let p : problem_at s st e ≡ None = same_problem s st e ∙ r.0 in
    let w : first_refusal s.canonical (progress_after (shape_of st) e) (es ++ g ∷ []) ≡ Some x = sym (or_none (problem_in s.canonical (shape_of st) e) _ r.0) ∙ wrong in
    let b : Bool = opens_empty e es in
    let alike : opens_empty e (es ++ g ∷ more) ≡ b = opens_alike_wrong s.canonical (shape_of st) e es g more x w in
    let rest : (d : Cursor) → laid s (next s st e b d) (es ++ g ∷ more) d f ≡ laid s (next s st e b d) es d f = λ d.
    stops_by s (next s st e b d) es g more x
    (ap (λ z. first_refusal s.canonical z es) (shape_next s st e b d) ∙ r.1)
    (ap (λ z. first_refusal s.canonical z (es ++ g ∷ [])) (shape_next s st e b d) ∙ w) d f in
    laid_on s st e (es ++ g ∷ more) c f p
    ∙ ap (λ z. piece s st e z c (λ d. laid s (next s st e z d) (es ++ g ∷ more) d f)) alike
    ∙ ap (λ (k : Rest). piece s st e b c k) (fun_ext rest)
    ∙ sym (laid_on s st e es c f p)

pub wrong_add_nothing : WrongAddNothing
wrong_add_nothing s es e more p right wrong = stops_by s (placed at.StreamStart) es e more p right wrong start nothing_more
