-- What is wrong with an event of a node.
use Rattle.std.proofs.Common.{◌≡◌, ℕ, List, Bool, true, false, refl, sym, ◌∙◌, ap}
use Rattle.std.specs.Prelude.{◌||◌, if◌then◌else◌, Option, Some, None}
use Rattle.yaml_emit_layout.specs.declared.settings.Settings.{Settings}
use Rattle.yaml_scan_types.specs.declared.name.yaml_encoding_t.{yaml_encoding_t}
use Rattle.yaml_parse_model.specs.Events.{TagDirective}
use Rattle.yaml_emit_layout.specs.declared.level.Level.{Level as Open}
use Rattle.yaml_emit_layout.specs.declared.problem.Problem.{Problem}
use Rattle.yaml_emit_layout.specs.declared.problem.Problem.TheVariants as problem
use Rattle.yaml_emit_layout.specs.Content as said
use Rattle.yaml_emit_layout.specs.Grammar.{or_else, name_problem, anchor_problem, tag_problem, start_tag, scalar_tag, has, opening_problem, event_problem, place_problem, last_problem, problem_by}
use Rattle.yaml_emit_layout.specs.State.{top_of, problem_at}
use Rattle.yaml_emit_core.specs.declared.level.State.{State}
use Rattle.yaml_emit_core.specs.declared.level.State.TheVariants as state
use Rattle.yaml_emit_core.specs.Levels.{phase_of, level_by, place_of, is_between, opening, ending, state_at, Stack, Stands}
use Rattle.yaml_emit_core.specs.Judged.{misplaced, node_place, end_place, is_start, is_over}

or_none : (o : Option Problem) → or_else o None ≡ o
or_none None = refl
or_none (Some p) = refl

alias_place : (st : State) (u f : Bool) (n : ℕ) (name : List ℕ)
    → node_place st ≡ place_problem (place_of st u) (level_by (phase_of st) f n) (said.alias name)
unfolding place_problem
alias_place state.StreamStart u f n name = refl
alias_place state.FirstDocumentStart u f n name = refl
alias_place state.DocumentStart u f n name = refl
alias_place state.DocumentContent u f n name = refl
alias_place state.FirstItem u f n name = refl
alias_place state.Item u f n name = refl
alias_place state.FirstKey u f n name = refl
alias_place state.Key u f n name = refl
alias_place state.SimpleValue u f n name = refl
alias_place state.Value u f n name = refl
alias_place state.DocumentEnd u f n name = refl
alias_place state.End u f n name = refl

start_place : (st : State) (u f sequence : Bool) (n : ℕ) (q : said.Start)
    → node_place st ≡ place_problem (place_of st u) (level_by (phase_of st) f n)
    (opening sequence q)
unfolding place_problem
start_place state.StreamStart u f true n q = refl
start_place state.StreamStart u f false n q = refl
start_place state.FirstDocumentStart u f true n q = refl
start_place state.FirstDocumentStart u f false n q = refl
start_place state.DocumentStart u f true n q = refl
start_place state.DocumentStart u f false n q = refl
start_place state.DocumentContent u f true n q = refl
start_place state.DocumentContent u f false n q = refl
start_place state.FirstItem u f true n q = refl
start_place state.FirstItem u f false n q = refl
start_place state.Item u f true n q = refl
start_place state.Item u f false n q = refl
start_place state.FirstKey u f true n q = refl
start_place state.FirstKey u f false n q = refl
start_place state.Key u f true n q = refl
start_place state.Key u f false n q = refl
start_place state.SimpleValue u f true n q = refl
start_place state.SimpleValue u f false n q = refl
start_place state.Value u f true n q = refl
start_place state.Value u f false n q = refl
start_place state.DocumentEnd u f true n q = refl
start_place state.DocumentEnd u f false n q = refl
start_place state.End u f true n q = refl
start_place state.End u f false n q = refl

ending_place : (st : State) (u f sequence : Bool) (n : ℕ)
    → end_place sequence st ≡ place_problem (place_of st u) (level_by (phase_of st) f n)
    (ending sequence)
unfolding place_problem
ending_place state.StreamStart u f true n = refl
ending_place state.StreamStart u f false n = refl
ending_place state.FirstDocumentStart u f true n = refl
ending_place state.FirstDocumentStart u f false n = refl
ending_place state.DocumentStart u f true n = refl
ending_place state.DocumentStart u f false n = refl
ending_place state.DocumentContent u f true n = refl
ending_place state.DocumentContent u f false n = refl
ending_place state.FirstItem u f true n = refl
ending_place state.FirstItem u f false n = refl
ending_place state.Item u f true n = refl
ending_place state.Item u f false n = refl
ending_place state.FirstKey u f true n = refl
ending_place state.FirstKey u f false n = refl
ending_place state.Key u f true n = refl
ending_place state.Key u f false n = refl
ending_place state.SimpleValue u f true n = refl
ending_place state.SimpleValue u f false n = refl
ending_place state.Value u f true n = refl
ending_place state.Value u f false n = refl
ending_place state.DocumentEnd u f true n = refl
ending_place state.DocumentEnd u f false n = refl
ending_place state.End u f true n = refl
ending_place state.End u f false n = refl

pub alias_judged : (st : State) (u f : Bool) (n : ℕ) (ls : List Open) (s : Settings)
    (ds : List TagDirective) (name : List ℕ) → level_by (phase_of st) f n ≡ top_of ls
    → or_else (name_problem problem.AliasEmpty problem.AliasCharacters name) (node_place st) ≡ problem_at s (state_at (record { state = st; levels = ls }) u ds) (said.alias name)
unfolding problem_by event_problem last_problem
alias_judged st u f n ls s ds name t =
    ap (or_else (name_problem problem.AliasEmpty problem.AliasCharacters name))
    (alias_place st u f n name ∙ (ap (λ z. place_problem (place_of st u) z (said.alias name)) t ∙ sym (or_none (place_problem (place_of st u) (top_of ls) (said.alias name)))))

pub start_judged : (st : State) (u f sequence : Bool) (n : ℕ) (ls : List Open) (s : Settings)
    (ds : List TagDirective) (q : said.Start) (anchor tag : Option (List ℕ))
    → level_by (phase_of st) f n ≡ top_of ls
    → anchor ≡ q.anchor → tag ≡ start_tag s.canonical q
    → or_else (or_else (anchor_problem anchor) (tag_problem tag)) (node_place st) ≡ problem_at s (state_at (record { state = st; levels = ls }) u ds) (opening sequence q)
unfolding problem_by event_problem last_problem
start_judged st u f true n ls s ds q anchor tag t a g =
    let last = start_place st u f true n q ∙ (ap (λ z. place_problem (place_of st u) z (opening true q)) t ∙ sym (or_none (place_problem (place_of st u) (top_of ls) (opening true q)))) in
    λ i. or_else (or_else (anchor_problem (a i)) (tag_problem (g i))) (last i)
start_judged st u f false n ls s ds q anchor tag t a g =
    let last = start_place st u f false n q ∙ (ap (λ z. place_problem (place_of st u) z (opening false q)) t ∙ sym (or_none (place_problem (place_of st u) (top_of ls) (opening false q)))) in
    λ i. or_else (or_else (anchor_problem (a i)) (tag_problem (g i))) (last i)

pub end_judged : (st : State) (u f sequence : Bool) (n : ℕ) (ls : List Open) (s : Settings)
    (ds : List TagDirective) → level_by (phase_of st) f n ≡ top_of ls
    → end_place sequence st ≡ problem_at s (state_at (record { state = st; levels = ls }) u ds) (ending sequence)
unfolding problem_by event_problem last_problem
end_judged st u f true n ls s ds t = ending_place st u f true n ∙ (ap (λ z. place_problem (place_of st u) z (ending true)) t ∙ sym (or_none (place_problem (place_of st u) (top_of ls) (ending true))))
end_judged st u f false n ls s ds t = ending_place st u f false n ∙ (ap (λ z. place_problem (place_of st u) z (ending false)) t ∙ sym (or_none (place_problem (place_of st u) (top_of ls) (ending false))))

scalar_place : (st : State) (u f : Bool) (n : ℕ) (q : said.Scalar)
    → node_place st ≡ place_problem (place_of st u) (level_by (phase_of st) f n) (said.scalar q)
unfolding place_problem
scalar_place state.StreamStart u f n q = refl
scalar_place state.FirstDocumentStart u f n q = refl
scalar_place state.DocumentStart u f n q = refl
scalar_place state.DocumentContent u f n q = refl
scalar_place state.FirstItem u f n q = refl
scalar_place state.Item u f n q = refl
scalar_place state.FirstKey u f n q = refl
scalar_place state.Key u f n q = refl
scalar_place state.SimpleValue u f n q = refl
scalar_place state.Value u f n q = refl
scalar_place state.DocumentEnd u f n q = refl
scalar_place state.End u f n q = refl

pub scalar_judged : (st : State) (u f : Bool) (n : ℕ) (ls : List Open) (s : Settings)
    (ds : List TagDirective) (q : said.Scalar) (anchor tag : Option (List ℕ)) (flagged : Bool)
    → level_by (phase_of st) f n ≡ top_of ls
    → anchor ≡ q.anchor → tag ≡ scalar_tag s.canonical q → flagged ≡ (has q.tag || (q.plain || q.quoted))
    → or_else (or_else (anchor_problem anchor) (tag_problem tag)) (or_else (node_place st) (if flagged then None else Some problem.NoFlags)) ≡ problem_at s (state_at (record { state = st; levels = ls }) u ds) (said.scalar q)
unfolding problem_by event_problem last_problem
scalar_judged st u f n ls s ds q anchor tag flagged t a g w =
    let here = scalar_place st u f n q ∙ ap (λ z. place_problem (place_of st u) z (said.scalar q)) t in
    λ i. or_else (or_else (anchor_problem (a i)) (tag_problem (g i))) (or_else (here i) (if w i then None else Some problem.NoFlags))

begin_place : (st : State) (u f : Bool) (n : ℕ) (x : yaml_encoding_t)
    → (if is_start st then None else Some (misplaced st)) ≡ place_problem (place_of st u)
    (level_by (phase_of st) f n) (said.stream_start x)
unfolding place_problem
begin_place state.StreamStart u f n x = refl
begin_place state.FirstDocumentStart u f n x = refl
begin_place state.DocumentStart u f n x = refl
begin_place state.DocumentContent u f n x = refl
begin_place state.FirstItem u f n x = refl
begin_place state.Item u f n x = refl
begin_place state.FirstKey u f n x = refl
begin_place state.Key u f n x = refl
begin_place state.SimpleValue u f n x = refl
begin_place state.Value u f n x = refl
begin_place state.DocumentEnd u f n x = refl
begin_place state.End u f n x = refl

pub begin_judged : (st : State) (u f : Bool) (n : ℕ) (ls : List Open) (s : Settings)
    (ds : List TagDirective) (x : yaml_encoding_t) → level_by (phase_of st) f n ≡ top_of ls
    → (if is_start st then None else Some (misplaced st)) ≡ problem_at s (state_at (record { state = st; levels = ls }) u ds) (said.stream_start x)
unfolding problem_by event_problem last_problem
begin_judged st u f n ls s ds x t = begin_place st u f n x ∙ (ap (λ z. place_problem (place_of st u) z (said.stream_start x)) t ∙ sym (or_none (place_problem (place_of st u) (top_of ls) (said.stream_start x))))

stop_place : (st : State) (u f : Bool) (n : ℕ)
    → (if is_between st then None else Some (misplaced st)) ≡ place_problem (place_of st u)
    (level_by (phase_of st) f n) (said.stream_end)
unfolding place_problem
stop_place state.StreamStart u f n = refl
stop_place state.FirstDocumentStart u f n = refl
stop_place state.DocumentStart u f n = refl
stop_place state.DocumentContent u f n = refl
stop_place state.FirstItem u f n = refl
stop_place state.Item u f n = refl
stop_place state.FirstKey u f n = refl
stop_place state.Key u f n = refl
stop_place state.SimpleValue u f n = refl
stop_place state.Value u f n = refl
stop_place state.DocumentEnd u f n = refl
stop_place state.End u f n = refl

pub stop_judged : (st : State) (u f : Bool) (n : ℕ) (ls : List Open) (s : Settings)
    (ds : List TagDirective) → level_by (phase_of st) f n ≡ top_of ls
    → (if is_between st then None else Some (misplaced st)) ≡ problem_at s (state_at (record { state = st; levels = ls }) u ds) (said.stream_end)
unfolding problem_by event_problem last_problem
stop_judged st u f n ls s ds t = stop_place st u f n ∙ (ap (λ z. place_problem (place_of st u) z (said.stream_end)) t ∙ sym (or_none (place_problem (place_of st u) (top_of ls) (said.stream_end))))

over_place : (st : State) (u f : Bool) (n : ℕ) (x : Bool)
    → (if is_over st then None else Some (misplaced st)) ≡ place_problem (place_of st u)
    (level_by (phase_of st) f n) (said.document_end x)
unfolding place_problem
over_place state.StreamStart u f n x = refl
over_place state.FirstDocumentStart u f n x = refl
over_place state.DocumentStart u f n x = refl
over_place state.DocumentContent u f n x = refl
over_place state.FirstItem u f n x = refl
over_place state.Item u f n x = refl
over_place state.FirstKey u f n x = refl
over_place state.Key u f n x = refl
over_place state.SimpleValue u f n x = refl
over_place state.Value u f n x = refl
over_place state.DocumentEnd u f n x = refl
over_place state.End u f n x = refl

pub over_judged : (st : State) (u f : Bool) (n : ℕ) (ls : List Open) (s : Settings)
    (ds : List TagDirective) (x : Bool) → level_by (phase_of st) f n ≡ top_of ls
    → (if is_over st then None else Some (misplaced st)) ≡ problem_at s (state_at (record { state = st; levels = ls }) u ds) (said.document_end x)
unfolding problem_by event_problem last_problem
over_judged st u f n ls s ds x t = over_place st u f n x ∙ (ap (λ z. place_problem (place_of st u) z (said.document_end x)) t ∙ sym (or_none (place_problem (place_of st u) (top_of ls) (said.document_end x))))

open_place : (st : State) (u f : Bool) (n : ℕ) (o : said.Opening)
    → (if is_between st then None else Some (misplaced st)) ≡ place_problem (place_of st u)
    (level_by (phase_of st) f n) (said.document_start o)
unfolding place_problem
open_place state.StreamStart u f n o = refl
open_place state.FirstDocumentStart u f n o = refl
open_place state.DocumentStart u f n o = refl
open_place state.DocumentContent u f n o = refl
open_place state.FirstItem u f n o = refl
open_place state.Item u f n o = refl
open_place state.FirstKey u f n o = refl
open_place state.Key u f n o = refl
open_place state.SimpleValue u f n o = refl
open_place state.Value u f n o = refl
open_place state.DocumentEnd u f n o = refl
open_place state.End u f n o = refl

pub open_judged : (st : State) (u f : Bool) (n : ℕ) (ls : List Open) (s : Settings)
    (ds : List TagDirective) (o : said.Opening) → level_by (phase_of st) f n ≡ top_of ls
    → or_else (if is_between st then None else Some (misplaced st)) (opening_problem o) ≡ problem_at s (state_at (record { state = st; levels = ls }) u ds) (said.document_start o)
unfolding problem_by event_problem last_problem
open_judged st u f n ls s ds o t = ap (λ z. or_else z (opening_problem o)) (open_place st u f n o ∙ ap (λ z. place_problem (place_of st u) z (said.document_start o)) t)

-- a place that is wrong, and one that isn't
pub wrong_place : (st : State) (u f : Bool) (n : ℕ) (ls : List Open) (s : Settings)
    (ds : List TagDirective) (o : said.Opening) (fits : Bool) (p : Problem)
    → level_by (phase_of st) f n ≡ top_of ls
    → fits ≡ is_between st → (if fits then None else Some (misplaced st)) ≡ Some p → Some p ≡ problem_at s (state_at (record { state = st; levels = ls }) u ds) (said.document_start o)
wrong_place st u f n ls s ds o fits p t w e =
    sym (ap (λ z. or_else z (opening_problem o)) e) ∙ (ap (λ z. or_else (if z then None else Some (misplaced st)) (opening_problem o)) w ∙ open_judged st u f n ls s ds o t)

pub right_place : (st : State) (u f : Bool) (n : ℕ) (ls : List Open) (s : Settings)
    (ds : List TagDirective) (o : said.Opening) (fits : Bool) (p : Option Problem)
    → level_by (phase_of st) f n ≡ top_of ls
    → fits ≡ is_between st → (if fits then None else Some (misplaced st)) ≡ None → p ≡ opening_problem o → p ≡ problem_at s (state_at (record { state = st; levels = ls }) u ds) (said.document_start o)
right_place st u f n ls s ds o fits p t w e r =
    r ∙ (sym (ap (λ z. or_else z (opening_problem o)) e) ∙ (ap (λ z. or_else (if z then None else Some (misplaced st)) (opening_problem o)) w ∙ open_judged st u f n ls s ds o t))

pub stands_on : (st : State) (f : Bool) (n : ℕ) (s : Stack) → st ≡ s.state
    → level_by (phase_of st) f n ≡ top_of s.levels → Stands s
stands_on st f n s e h = (f, n, ap (λ z. level_by (phase_of z) f n) (sym e) ∙ h)

-- an event that is none
none_place : (st : State) (u f : Bool) (n : ℕ)
    → Some (misplaced st) ≡ place_problem (place_of st u) (level_by (phase_of st) f n) said.no_event
unfolding place_problem
none_place state.StreamStart u f n = refl
none_place state.FirstDocumentStart u f n = refl
none_place state.DocumentStart u f n = refl
none_place state.DocumentContent u f n = refl
none_place state.FirstItem u f n = refl
none_place state.Item u f n = refl
none_place state.FirstKey u f n = refl
none_place state.Key u f n = refl
none_place state.SimpleValue u f n = refl
none_place state.Value u f n = refl
none_place state.DocumentEnd u f n = refl
none_place state.End u f n = refl

pub none_judged : (st : State) (u f : Bool) (n : ℕ) (ls : List Open) (s : Settings)
    (ds : List TagDirective) → level_by (phase_of st) f n ≡ top_of ls
    → Some (misplaced st) ≡ problem_at s (state_at (record { state = st; levels = ls }) u ds) said.no_event
unfolding problem_by event_problem last_problem
none_judged st u f n ls s ds t = none_place st u f n ∙ (ap (λ z. place_problem (place_of st u) z said.no_event) t ∙ sym (or_none (place_problem (place_of st u) (top_of ls) said.no_event)))
