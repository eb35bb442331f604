-- What opens a document, and what ends the stream.
use Rattle.std.proofs.Common.{◌≡◌, ℕ, ◌+◌, ◌<◌, ◌≤◌, List, [], ◌∷◌, length, drop, get_or, map, Bool, true, false, not, refl, sym, subst, ◌∙◌, ap}
use Rattle.std.specs.Prelude.{◌&&◌, ◌||◌}
use Rattle.std.proofs.lemmas.List.{drop_more, drop_all}
use Rattle.yaml_emit_layout.specs.declared.cursor.Cursor.{Cursor}
use Rattle.yaml_emit_layout.specs.declared.settings.Settings.{Settings}
use Rattle.yaml_emit_layout.specs.Layout.{Layout, ◌▹◌, stay, when, keep, choose, order_mark}
use Rattle.yaml_emit_layout.proofs.Sinks.{cond_true, cond_false}
use Rattle.yaml_parse_model.specs.Events.{TagDirective}
use Rattle.yaml_scan_types.specs.declared.name.yaml_encoding_t.{yaml_encoding_t}
use Rattle.yaml_emit_layout.specs.Content as said
use Rattle.yaml_emit_layout.specs.Nodes.{dots, dashes, is_kept, is_directed, version_text, directive_text, directives_text, start_layout, stop_layout}
use Rattle.yaml_emit_layout.specs.State.{start_at, stop_at, text_at, depth_at, piece, next, next_at}
use Rattle.yaml_emit_output.specs.Draft.{Page as Paper, Lays}
use Rattle.yaml_emit_scalars.proofs.LaysLemmas.{lays_is, lays_more, lays_both}
use Rattle.yaml_emit_core.specs.declared.level.State.{State}
use Rattle.yaml_emit_core.specs.declared.level.State.TheVariants as state
use Rattle.yaml_emit_core.specs.Levels.{place_of, is_first, is_between, Stack, state_at}
use Rattle.yaml_emit_core.specs.Pages.{IsOf}

-- it is still of these settings
pub of_still : (s : Settings) (a b : Paper) (x y : Layout) → IsOf s a → Lays a b x y → IsOf s b
of_still s a b x y h p = record { line_break = p.line_break ∙ h.line_break; width = p.width ∙ h.width }

-- by whether the last block scalar keeps its breaks
pub kept_lays : (a b : Paper) (x y : Layout) → is_kept a.output.cursor ≡ true → Lays a b x stay
    → Lays a b (choose is_kept x y) stay
kept_lays a b x y e p = lays_is a b x (choose is_kept x y) (λ rest. cond_true (is_kept a.output.cursor) (x a.output.cursor rest) (y a.output.cursor rest) e) p

pub other_lays : (a b : Paper) (x y : Layout) → is_kept a.output.cursor ≡ false → Lays a b y stay
    → Lays a b (choose is_kept x y) stay
other_lays a b x y e p = lays_is a b y (choose is_kept x y) (λ rest. cond_false (is_kept a.output.cursor) (x a.output.cursor rest) (y a.output.cursor rest) e) p

-- a directive more
pub directives_more : {X : Type 0} (f : X → TagDirective) (s : Settings) (a b c : Paper)
    (xs : List X) (i : ℕ) (y : X) → i < length xs → y ≡ get_or xs i y
    → Lays a b (directives_text s (map f xs)) (directives_text s (map f (drop i xs))) → Lays b c (directive_text s (f y)) stay
    → Lays a c (directives_text s (map f xs)) (directives_text s (map f (drop (i + 1) xs)))
unfolding directives_text
directives_more f s a b c xs i y h is p q =
    let P : List TagDirective → Type 0 = λ t. Lays a b (directives_text s (map f xs)) (directives_text s t) in
    lays_more a b c (directives_text s (map f xs)) (directive_text s (f y)) (directives_text s (map f (drop (i + 1) xs)))
    (subst P (ap (map f) (drop_more xs i y h ∙ ap (λ z. z ∷ drop (i + 1) xs) (sym is))) p) q

pub directives_all : {X : Type 0} (f : X → TagDirective) (s : Settings) (a b : Paper) (xs : List X)
    (i : ℕ) → length xs ≤ i
    → Lays a b (directives_text s (map f xs)) (directives_text s (map f (drop i xs))) → Lays a b (directives_text s (map f xs)) stay
unfolding directives_text
directives_all {X} f s a b xs i h p = let P : List X → Type 0 = λ t. Lays a b (directives_text s (map f xs)) (directives_text s (map f t)) in subst P (drop_all _ _ h) p

-- where a document or the stream's end may come
start_is : (st : State) (u : Bool) (s : Settings) (o : said.Opening) → is_between st ≡ true
    → start_layout s (is_first st) u o ≡ start_at s (place_of st u) o
start_is state.StreamStart u s o e = absurd (cc)
start_is state.FirstDocumentStart u s o e = refl
start_is state.DocumentStart u s o e = refl
start_is state.DocumentContent u s o e = absurd (cc)
start_is state.FirstItem u s o e = absurd (cc)
start_is state.Item u s o e = absurd (cc)
start_is state.FirstKey u s o e = absurd (cc)
start_is state.Key u s o e = absurd (cc)
start_is state.SimpleValue u s o e = absurd (cc)
start_is state.Value u s o e = absurd (cc)
start_is state.DocumentEnd u s o e = absurd (cc)
start_is state.End u s o e = absurd (cc)

stop_is : (st : State) (u : Bool) (s : Settings) → is_between st ≡ true
    → stop_layout s u ≡ stop_at s (place_of st u)
stop_is state.StreamStart u s e = absurd (cc)
stop_is state.FirstDocumentStart u s e = refl
stop_is state.DocumentStart u s e = refl
stop_is state.DocumentContent u s e = absurd (cc)
stop_is state.FirstItem u s e = absurd (cc)
stop_is state.Item u s e = absurd (cc)
stop_is state.FirstKey u s e = absurd (cc)
stop_is state.Key u s e = absurd (cc)
stop_is state.SimpleValue u s e = absurd (cc)
stop_is state.Value u s e = absurd (cc)
stop_is state.DocumentEnd u s e = absurd (cc)
stop_is state.End u s e = absurd (cc)

pub start_lays : (st : State) (old : Stack) (u first directed empty : Bool) (s : Settings)
    (ds : List TagDirective) (o : said.Opening) (a b c d e f : Paper)
    → is_between old.state ≡ true → st ≡ old.state → first ≡ is_first st → directed ≡ is_directed o
    → Lays a b (when (u && directed) (dots s)) stay → Lays b c (keep false) stay → Lays c d (version_text s o.version) stay
    → Lays d e (directives_text s o.directives) stay → Lays e f (when (s.canonical || not (first && (o.implicit && not directed))) (dashes s)) stay
    → Lays a f (piece s (state_at old u ds) (said.document_start o) empty) stay
unfolding text_at depth_at start_layout
start_lays st old u first directed empty s ds o a b c d e f w n k m p1 p2 p3 p4 p5 =
    let x = when (u && directed) (dots s) in
    let z = when (s.canonical || not (first && (o.implicit && not directed))) (dashes s) in
    let all = lays_both a b f x (keep false ▹ (version_text s o.version ▹ (directives_text s o.directives ▹ z))) p1
    (lays_both b c f (keep false) (version_text s o.version ▹ (directives_text s o.directives ▹ z)) p2
    (lays_both c d f (version_text s o.version) (directives_text s o.directives ▹ z) p3
    (lays_both d e f (directives_text s o.directives) z p4 p5))) in
    let firsts : first ≡ is_first old.state = k ∙ ap is_first n in
    let same : (x ▹ (keep false ▹ (version_text s o.version ▹ (directives_text s o.directives ▹ z)))) ≡ start_layout s (is_first old.state) u o =
    λ i. when (u && m i) (dots s) ▹ (keep false ▹ (version_text s o.version ▹ (directives_text s o.directives ▹ when (s.canonical || not (firsts i && (o.implicit && not (m i)))) (dashes s)))) in
    let P : Layout → Type 0 = λ t. Lays a f t stay in
    subst P (same ∙ start_is old.state u s o w) all

pub start_state : (s : Settings) (old new : Stack) (u after empty : Bool) (ds : List TagDirective)
    (o : said.Opening) (behind : Cursor)
    → new ≡ record { state = state.DocumentContent; levels = [] }
    → state_at new after o.directives ≡ next s (state_at old u ds) (said.document_start o) empty behind
unfolding next_at
start_state s old new u after empty ds o behind e = ap (λ (z : Stack). state_at z after o.directives) e

pub stop_lays : (old : Stack) (u empty : Bool) (s : Settings) (ds : List TagDirective)
    (a b : Paper) → is_between old.state ≡ true
    → Lays a b (when u (choose is_kept (dots s) stay)) stay → Lays a b (piece s (state_at old u ds) said.stream_end empty) stay
unfolding text_at depth_at stop_layout
stop_lays old u empty s ds a b w p = let P : Layout → Type 0 = λ t. Lays a b t stay in subst P (stop_is old.state u s w) p

pub stop_state : (s : Settings) (old new : Stack) (u after empty : Bool) (ds : List TagDirective)
    (behind : Cursor) → new ≡ record { state = state.End; levels = [] }
    → state_at new after [] ≡ next s (state_at old u ds) said.stream_end empty behind
unfolding next_at
stop_state s old new u after empty ds behind e = ap (λ (z : Stack). state_at z after []) e

-- the stream's start
pub begin_lays : (old : Stack) (u empty : Bool) (s : Settings) (x : yaml_encoding_t)
    (ds : List TagDirective) (a b : Paper)
    → Lays a b (order_mark s.encoding) stay → Lays a b (piece s (state_at old u ds) (said.stream_start x) empty) stay
unfolding text_at depth_at
begin_lays old u empty s x ds a b p = p

pub begin_state : (s : Settings) (old new : Stack) (u empty : Bool) (x : yaml_encoding_t)
    (ds : List TagDirective) (behind : Cursor)
    → new ≡ record { state = state.FirstDocumentStart; levels = [] }
    → state_at new false [] ≡ next s (state_at old u ds) (said.stream_start x) empty behind
unfolding next_at
begin_state s old new u empty x ds behind e = ap (λ (z : Stack). state_at z false []) e
