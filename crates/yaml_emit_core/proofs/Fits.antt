-- An event that was judged right is what its layout asks for.
use Rattle.std.proofs.Common.{◌≡◌, ℕ, ◌<◌, List, [], ◌∷◌, length, Bool, true, false, refl, sym, ◌∙◌, ap, arith}
use Rattle.std.specs.Prelude.{◌||◌, ◌==◌, if◌then◌else◌, Option, Some, None}
use Rattle.std.specs.List.{list_all}
use Rattle.std.specs.Str.{IsAscii}
use Rattle.std.proofs.lemmas.Bool.Decides.{nat_tests}
use Rattle.std.proofs.lemmas.List.Sums.{AllPass-from_list_all}
use Rattle.std.proofs.lemmas.Str.Ascii.{IsAscii-from_all}
use Rattle.yaml_scan_types.specs.Classes.{is_alpha_byte, is_digit_byte}
use Rattle.yaml_emit_layout.specs.declared.settings.Settings.{Settings}
use Rattle.yaml_parse_model.specs.Events.{TagDirective}
use Rattle.yaml_emit_layout.specs.declared.level.Level.{Level as Open}
use Rattle.yaml_emit_layout.specs.declared.problem.Problem.{Problem}
use Rattle.yaml_emit_layout.specs.declared.problem.Problem.TheVariants as problem
use Rattle.yaml_emit_layout.specs.Content as said
use Rattle.yaml_emit_layout.specs.Grammar.{or_else, name_problem, anchor_problem, tag_problem, start_tag, scalar_tag, has, opening_problem}
use Rattle.yaml_emit_layout.specs.State.{top_of, problem_at}
use Rattle.yaml_emit_core.specs.declared.level.State.{State}
use Rattle.yaml_emit_core.specs.declared.level.State.TheVariants as state
use Rattle.yaml_emit_core.specs.Levels.{phase_of, level_by, is_between, awaits_node, may_end, opening, ending, Stack, Stands, state_at}
use Rattle.yaml_emit_core.specs.Names.{IsName}
use Rattle.yaml_emit_core.specs.Judged.{misplaced, node_place, is_start, is_over}
use Rattle.yaml_emit_core.proofs.Problems.{alias_judged, start_judged, scalar_judged, end_judged, open_judged}

or_first : (x y : Option Problem) → or_else x y ≡ None → x ≡ None
or_first None y e = refl
or_first (Some p) y e = absurd (cc e)

or_second : (x y : Option Problem) → or_else x y ≡ None → y ≡ None
or_second None y e = e
or_second (Some p) y e = absurd (cc e)

pub fits : (test : Bool) (p : Problem) → (if test then None else Some p) ≡ None → test ≡ true
fits true p e = refl
fits false p e = absurd (cc e)

-- a name is in ASCII
alpha_low : (b : ℕ) → is_alpha_byte b ≡ true → b < 128
unfolding is_alpha_byte is_digit_byte
alpha_low b h = grind (arith, nat_tests, h)

alphas : (none all : Bool) (p q : Problem)
    → (if none then Some p else if all then None else Some q) ≡ None → all ≡ true
alphas true all p q e = absurd (cc e)
alphas false true p q e = refl
alphas false false p q e = absurd (cc e)

name_fits : (p q : Problem) (name : List ℕ) → name_problem p q name ≡ None → IsAscii name
name_fits p q name e =
    let all = alphas (length name == 0) (list_all is_alpha_byte name) p q e in
    IsAscii-from_all name (λ k d l. alpha_low _ (AllPass-from_list_all is_alpha_byte name all k d l))

anchor_fits : (anchor : Option (List ℕ)) → anchor_problem anchor ≡ None → IsName anchor
anchor_fits None e = tt
anchor_fits (Some name) e = name_fits problem.AnchorEmpty problem.AnchorCharacters name e

pub alias_fits : (st : State) (u f : Bool) (n : ℕ) (ls : List Open) (s : Settings)
    (ds : List TagDirective) (name : List ℕ) → level_by (phase_of st) f n ≡ top_of ls
    → problem_at s (state_at (record { state = st; levels = ls }) u ds) (said.alias name) ≡ None → (awaits_node st ≡ true) × IsAscii name
alias_fits st u f n ls s ds name t e =
    let own = name_problem problem.AliasEmpty problem.AliasCharacters name in
    let none = alias_judged st u f n ls s ds name t ∙ e in
    (fits (awaits_node st) (misplaced st) (or_second own (node_place st) none), name_fits problem.AliasEmpty problem.AliasCharacters name (or_first own (node_place st) none))

pub start_fits : (st : State) (u f sequence : Bool) (n : ℕ) (ls : List Open) (s : Settings)
    (ds : List TagDirective) (q : said.Start) → level_by (phase_of st) f n ≡ top_of ls
    → problem_at s (state_at (record { state = st; levels = ls }) u ds) (opening sequence q) ≡ None → (awaits_node st ≡ true) × IsName q.anchor
start_fits st u f sequence n ls s ds q t e =
    let tag = tag_problem (start_tag s.canonical q) in
    let own = or_else (anchor_problem q.anchor) tag in
    let none = start_judged st u f sequence n ls s ds q q.anchor (start_tag s.canonical q) t refl refl ∙ e in
    (fits (awaits_node st) (misplaced st) (or_second own (node_place st) none), anchor_fits q.anchor (or_first (anchor_problem q.anchor) tag (or_first own (node_place st) none)))

pub scalar_fits : (st : State) (u f : Bool) (n : ℕ) (ls : List Open) (s : Settings)
    (ds : List TagDirective) (q : said.Scalar) → level_by (phase_of st) f n ≡ top_of ls
    → problem_at s (state_at (record { state = st; levels = ls }) u ds) (said.scalar q) ≡ None → (awaits_node st ≡ true) × IsName q.anchor
scalar_fits st u f n ls s ds q t e =
    let tag = tag_problem (scalar_tag s.canonical q) in
    let own = or_else (anchor_problem q.anchor) tag in
    let flagged = has q.tag || (q.plain || q.quoted) in
    let flags : Option Problem = if flagged then None else Some problem.NoFlags in
    let none = scalar_judged st u f n ls s ds q q.anchor (scalar_tag s.canonical q) flagged t refl refl refl ∙ e in
    (fits (awaits_node st) (misplaced st) (or_first (node_place st) flags (or_second own (or_else (node_place st) flags) none)), anchor_fits q.anchor (or_first (anchor_problem q.anchor) tag (or_first own (or_else (node_place st) flags) none)))

pub end_fits : (st : State) (u f sequence : Bool) (n : ℕ) (ls : List Open) (s : Settings)
    (ds : List TagDirective) → level_by (phase_of st) f n ≡ top_of ls
    → problem_at s (state_at (record { state = st; levels = ls }) u ds) (ending sequence) ≡ None → may_end sequence st ≡ true
end_fits st u f sequence n ls s ds t e = fits (may_end sequence st) (misplaced st) (end_judged st u f sequence n ls s ds t ∙ e)

-- ---- outside of collections none is open

top_none : (ls : List Open) → None ≡ top_of ls → ls ≡ []
top_none [] e = refl
top_none (l ∷ ls) e = absurd (cc e)

pub outside_by : (s : Stack) → Stands s → phase_of s.state ≡ None → s.levels ≡ []
outside_by s h p = top_none s.levels (ap (λ z. level_by z h.0 h.1) (sym p) ∙ h.2)

pub between_outside : (st : State) → is_between st ≡ true → phase_of st ≡ None
between_outside state.StreamStart h = refl
between_outside state.FirstDocumentStart h = refl
between_outside state.DocumentStart h = refl
between_outside state.DocumentContent h = refl
between_outside state.FirstItem h = absurd (cc h)
between_outside state.Item h = absurd (cc h)
between_outside state.FirstKey h = absurd (cc h)
between_outside state.Key h = absurd (cc h)
between_outside state.SimpleValue h = absurd (cc h)
between_outside state.Value h = absurd (cc h)
between_outside state.DocumentEnd h = refl
between_outside state.End h = refl

pub start_outside : (st : State) → is_start st ≡ true → phase_of st ≡ None
start_outside state.StreamStart h = refl
start_outside state.FirstDocumentStart h = refl
start_outside state.DocumentStart h = refl
start_outside state.DocumentContent h = refl
start_outside state.FirstItem h = absurd (cc h)
start_outside state.Item h = absurd (cc h)
start_outside state.FirstKey h = absurd (cc h)
start_outside state.Key h = absurd (cc h)
start_outside state.SimpleValue h = absurd (cc h)
start_outside state.Value h = absurd (cc h)
start_outside state.DocumentEnd h = refl
start_outside state.End h = refl

pub over_outside : (st : State) → is_over st ≡ true → phase_of st ≡ None
over_outside state.StreamStart h = refl
over_outside state.FirstDocumentStart h = refl
over_outside state.DocumentStart h = refl
over_outside state.DocumentContent h = refl
over_outside state.FirstItem h = absurd (cc h)
over_outside state.Item h = absurd (cc h)
over_outside state.FirstKey h = absurd (cc h)
over_outside state.Key h = absurd (cc h)
over_outside state.SimpleValue h = absurd (cc h)
over_outside state.Value h = absurd (cc h)
over_outside state.DocumentEnd h = refl
over_outside state.End h = refl

pub open_fits : (t : Stack) (u : Bool) (s : Settings) (ds : List TagDirective) (o : said.Opening)
    → Stands t → problem_at s (state_at t u ds) (said.document_start o) ≡ None
    → (t.levels ≡ []) × (is_between t.state ≡ true)
open_fits t u s ds o h e =
    let place : Option Problem = if is_between t.state then None else Some (misplaced t.state) in
    let b = fits (is_between t.state) (misplaced t.state) (or_first place (opening_problem o) (open_judged t.state u h.0 h.1 t.levels s ds o h.2 ∙ e)) in
    (outside_by t h (between_outside t.state b), b)
