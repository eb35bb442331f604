-- What is written for a scalar, and the state after it.
use Rattle.std.proofs.Common.{◌≡◌, ◌≢◌, ℕ, ◌+◌, ◌<◌, ◌≤◌, List, [], ◌∷◌, length, Bool, true, false, refl, sym, subst, ◌∙◌, ap}
use Rattle.std.specs.Prelude.{◌&&◌, ◌||◌, ◌==◌, not, nat_le, Option, Some, None, option_map, if◌then◌else◌}
use Rattle.std.specs.Str.{chars}
use Rattle.yaml_scan_types.specs.Classes.{has_break}
use Rattle.yaml_emit_layout.specs.declared.cursor.Cursor.{Cursor}
use Rattle.yaml_emit_layout.specs.declared.cursor.Status.TheVariants.{Going}
use Rattle.yaml_emit_layout.specs.declared.settings.Settings.{Settings}
use Rattle.yaml_emit_layout.specs.Layout.{Layout, ◌▹◌, stay, when, word, too_deep}
use Rattle.yaml_emit_layout.specs.Sink.{Puts}
use Rattle.yaml_emit_layout.proofs.Sinks.{puts_stopped}
use Rattle.yaml_emit_layout.specs.declared.page.Style.{Style}
use Rattle.yaml_emit_layout.specs.declared.page.Style.TheVariants as style
use Rattle.yaml_emit_layout.specs.Style.{allowed, taken}
use Rattle.yaml_emit_layout.specs.Scalars.{scalar_text}
use Rattle.yaml_emit_layout.specs.Tags.{split_tag}
use Rattle.yaml_parse_model.specs.Events.{TagDirective}
use Rattle.yaml_emit_layout.specs.declared.level.Level.{Level as Open}
use Rattle.yaml_emit_layout.specs.declared.level.NodePosition.{NodePosition}
use Rattle.yaml_emit_layout.specs.Content as said
use Rattle.yaml_emit_layout.specs.Grammar.{has, scalar_tag}
use Rattle.yaml_emit_layout.specs.Nodes.{context_of, MOST, checked, deep_if, deeper, is_simple_part, is_plain, style_of, scalar_layout, properties_size, is_simple_scalar}
use Rattle.yaml_emit_layout.specs.State.{top_of, position_of, before_node, text_at, depth_at, is_simple_event, piece, next, next_at}
use Rattle.yaml_emit_output.specs.Draft.{Page as Paper, Lays}
use Rattle.yaml_emit_scalars.proofs.LaysLemmas.{lays_both}
use Rattle.yaml_emit_core.specs.declared.level.State.{State}
use Rattle.yaml_emit_core.specs.declared.level.State.TheVariants as state
use Rattle.yaml_emit_core.specs.declared.content.Scalar.{Scalar}
use Rattle.yaml_emit_core.specs.Levels.{phase_of, level_by, is_key, awaits_node, Stack, stepped, state_at}
use Rattle.yaml_emit_core.specs.Names.{is_cut, has_tag, names_size, names_text}
use Rattle.yaml_emit_core.specs.Says.{Says, style_by, is_marked, page_by}
use Rattle.yaml_emit_core.proofs.Aliases.{behind_node}
use Rattle.yaml_emit_core.proofs.Depths.{deep_lays, calm_test}
use Rattle.yaml_emit_core.proofs.Opened.{before_same, position_same, size_same, names_same}

-- one that is too deep
pub deep_stops : (sign more : Layout) (n : ℕ) (a b c : Paper) → MOST < n → Lays a b sign stay
    → Puts b.output c.output too_deep
    → (c.line_break ≡ b.line_break) × (c.width ≡ b.width) → c.output.status ≢ Going → Lays a c (sign ▹ (checked n ▹ more)) stay
deep_stops sign more n a b c h p q s g =
    let stopped : Lays c c more stay = record { owes = puts_stopped c.output more g; line_break = refl; width = refl } in
    lays_both a b c sign (checked n ▹ more) p (lays_both b c c (checked n) more (deep_lays n b c h q s) stopped)

calm_is : (n : ℕ) (more : Layout) → n ≤ MOST → more ≡ (checked n ▹ more)
calm_is n more h = λ i c rest. deep_if (sym (calm_test n h) i) (more c rest)

-- one that isn't
pub calm_puts : (sign more : Layout) (n : ℕ) (a b : Paper) → n ≤ MOST → Lays a b (sign ▹ more) stay
    → Lays a b (sign ▹ (checked n ▹ more)) stay
calm_puts sign more n a b h p =
    let P : Layout → Type 0 = λ z. Lays a b (sign ▹ z) stay in
    subst P (calm_is n more h) p

-- a simple key
is_simple_at : (st : State) (flow : Bool) (n : ℕ) (x : Bool)
    → (is_key st && x) ≡ is_simple_part (position_of (level_by (phase_of st) flow n) x).part
is_simple_at state.FirstItem flow n x = refl
is_simple_at state.Item flow n x = refl
is_simple_at state.FirstKey flow n true = refl
is_simple_at state.FirstKey flow n false = refl
is_simple_at state.Key flow n true = refl
is_simple_at state.Key flow n false = refl
is_simple_at state.SimpleValue flow n x = refl
is_simple_at state.Value flow n x = refl
is_simple_at state.StreamStart flow n x = refl
is_simple_at state.FirstDocumentStart flow n x = refl
is_simple_at state.DocumentStart flow n x = refl
is_simple_at state.DocumentContent flow n x = refl
is_simple_at state.DocumentEnd flow n x = refl
is_simple_at state.End flow n x = refl

simple_by : (canonical broken : Bool) (m n : ℕ) → (canonical ≡ false → m ≡ n)
    → (not canonical && (not broken && nat_le m 128)) ≡
    (not canonical && (not broken && nat_le n 128))
simple_by true broken m n h = refl
simple_by false broken m n h = ap (λ z. not broken && nat_le z 128) (h refl)

pub simple_is : (s : Settings) (ds : List TagDirective) (o : Scalar) (q : said.Scalar)
    → Says s ds o q
    → (not s.canonical && (not (has_break o.value.now) && nat_le (names_size o.properties + length o.value.now) 128)) ≡ is_simple_scalar (context_of s ds) q
unfolding is_simple_scalar
simple_is s ds o q a =
    simple_by s.canonical (has_break o.value.now) (names_size o.properties + length o.value.now) (properties_size (context_of s ds) q.anchor (scalar_tag false q) + length o.value.now)
    (λ e. ap (λ z. z + length o.value.now) (size_same (context_of s ds) o.properties q.anchor (scalar_tag s.canonical q) a.names ∙ ap (λ z. properties_size (context_of s ds) q.anchor (scalar_tag z q)) e))
    ∙ ap (λ z. not s.canonical && (not (has_break z) && nat_le (properties_size (context_of s ds) q.anchor (scalar_tag false q) + length z) 128)) a.text

-- its tag
cut_has : (ds : List TagDirective) (t : Option (List ℕ))
    → is_cut (option_map (split_tag ds) t) ≡ has t
cut_has ds None = refl
cut_has ds (Some t) = refl

tag_has : (s : Settings) (ds : List TagDirective) (o : Scalar) (q : said.Scalar) → Says s ds o q
    → has_tag o.properties ≡ has (scalar_tag s.canonical q)
tag_has s ds o q a = ap is_cut a.names.spelling ∙ cut_has ds (scalar_tag s.canonical q)

-- its style
style_cases : (canonical : Bool) (x y : Style) → (canonical ≡ false → x ≡ y)
    → (if canonical then style.Double else x) ≡ (if canonical then style.Double else y)
style_cases true x y h = refl
style_cases false x y h = h refl

pub style_same : (s : Settings) (ds : List TagDirective) (o : Scalar) (q : said.Scalar)
    (at : NodePosition) (flow simple : Bool) → Says s ds o q → flow ≡ at.flow
    → simple ≡ is_simple_part at.part
    → style_by s o flow simple ≡ style_of (context_of s ds) at q
unfolding style_of
style_same s ds o q at flow simple a f e =
    style_cases s.canonical (taken (allowed s.unicode (chars o.value.now)) o.style (has_tag o.properties || o.plain) flow simple (length o.value.now == 0))
    (taken (allowed s.unicode (chars q.value)) q.style (has (scalar_tag false q) || q.plain) at.flow (is_simple_part at.part) (length q.value == 0))
    (λ c. λ i. taken (allowed s.unicode (chars (a.text i))) (a.wanted i) ((tag_has s ds o q a ∙ ap (λ z. has (scalar_tag z q)) c) i || a.untagged i) (f i) (e i) (length (a.text i) == 0))

-- what is written
scalar_is : (s : Settings) (st : State) (u : Bool) (ls : List Open) (ds : List TagDirective)
    (q : said.Scalar) (empty : Bool)
    → (before_node s (top_of ls) (is_simple_scalar (context_of s ds) q) ▹ scalar_layout (context_of s ds) (position_of (top_of ls) (is_simple_scalar (context_of s ds) q)) q)
    ≡ piece s (state_at (record { state = st; levels = ls }) u ds) (said.scalar q) empty
unfolding text_at depth_at is_simple_event
scalar_is s st u ls ds q empty = refl

layout_is : (s : Settings) (ds : List TagDirective) (o : Scalar) (q : said.Scalar)
    (at : NodePosition) (m : ℕ) (flow simple marked : Bool) (chosen : Style) → Says s ds o q
    → flow ≡ at.flow → simple ≡ is_simple_part at.part
    → m ≡ deeper s at.around → chosen ≡ style_by s o flow simple → marked ≡ is_marked o chosen
    → (names_text o.properties ▹ (when marked (word (33 ∷ [])) ▹ (checked m ▹ scalar_text (page_by s m simple) s.indent flow chosen (chars o.value.now)))) ≡ scalar_layout (context_of s ds) at q
unfolding scalar_layout
layout_is s ds o q at m flow simple marked chosen a f e d k w =
    let p = context_of s ds in
    let styles : chosen ≡ style_of p at q = k ∙ style_same s ds o q at flow simple a f e in
    let marks : marked ≡ (not (has (scalar_tag s.canonical q)) && (not q.quoted && not (is_plain (style_of p at q)))) =
    w ∙ (λ i. not (tag_has s ds o q a i) && (not (a.unquoted i) && not (is_plain (styles i)))) in
    λ i. names_same p o.properties q.anchor (scalar_tag s.canonical q) a.names i ▹ (when (marks i) (word (33 ∷ [])) ▹ (checked (d i) ▹ scalar_text (page_by s (d i) (e i)) s.indent (f i) (styles i) (chars (a.text i))))

pub scalar_piece : (st : State) (u : Bool) (ls : List Open) (inside : Bool) (n m : ℕ)
    (s : Settings) (ds : List TagDirective) (o : Scalar) (q : said.Scalar)
    (empty simple flow marked : Bool) (chosen : Style) (a b c d : Paper)
    → Says s ds o q → level_by (phase_of st) inside n ≡ top_of ls
    → simple ≡ (is_key st && (not s.canonical && (not (has_break o.value.now) && nat_le (names_size o.properties + length o.value.now) 128)))
    → flow ≡ (position_of (level_by (phase_of st) inside n) simple).flow → m ≡ deeper s (position_of (level_by (phase_of st) inside n) simple).around
    → chosen ≡ style_by s o flow simple → marked ≡ is_marked o chosen
    → Lays a b (before_node s (level_by (phase_of st) inside n) simple) stay → Lays b c (names_text o.properties) stay
    → Lays c d (when marked (word (33 ∷ [])) ▹ (checked m ▹ scalar_text (page_by s m simple) s.indent flow chosen (chars o.value.now))) stay
    → Lays a d (piece s (state_at (record { state = st; levels = ls }) u ds) (said.scalar q) empty) stay
scalar_piece st u ls inside n m s ds o q empty simple flow marked chosen a b c d h t w f j k v p1 p2 p3 =
    let top = level_by (phase_of st) inside n in
    let x = is_simple_scalar (context_of s ds) q in
    let same : simple ≡ (is_key st && x) = w ∙ ap (λ z. is_key st && z) (simple_is s ds o q h) in
    let at : position_of top simple ≡ position_of top x = ap (position_of top) same ∙ position_same st inside n x in
    let before : before_node s top simple ≡ before_node s top x = ap (before_node s top) same ∙ before_same st inside n s x in
    let inner = when marked (word (33 ∷ [])) ▹ (checked m ▹ scalar_text (page_by s m simple) s.indent flow chosen (chars o.value.now)) in
    let all = lays_both a b d (before_node s top simple) (names_text o.properties ▹ inner) p1 (lays_both b c d (names_text o.properties) inner p2 p3) in
    let layout : (names_text o.properties ▹ inner) ≡ scalar_layout (context_of s ds) (position_of top x) q =
    layout_is s ds o q (position_of top x) m flow simple marked chosen h (f ∙ ap (λ (z : NodePosition). z.flow) at) (same ∙ is_simple_at st inside n x) (j ∙ ap (λ (z : NodePosition). deeper s z.around) at) k v in
    let P : Layout → Type 0 = λ z. Lays a d z stay in
    subst P ((λ i. before i ▹ layout i) ∙ (ap (λ z. before_node s z x ▹ scalar_layout (context_of s ds) (position_of z x) q) t ∙ scalar_is s st u ls ds q empty)) all

-- the state after it
pub scalar_next : (st : State) (u : Bool) (ls : List Open) (inside : Bool) (n : ℕ) (s : Settings)
    (ds : List TagDirective) (o : Scalar) (q : said.Scalar) (empty simple : Bool) (behind : Cursor)
    (new : Stack)
    → Says s ds o q → awaits_node st ≡ true → level_by (phase_of st) inside n ≡ top_of ls
    → simple ≡ (is_key st && (not s.canonical && (not (has_break o.value.now) && nat_le (names_size o.properties + length o.value.now) 128)))
    → new ≡ stepped (record { state = st; levels = ls }) simple
    → state_at new u ds ≡ next s (state_at (record { state = st; levels = ls }) u ds) (said.scalar q) empty behind
unfolding next_at is_simple_event
scalar_next st u ls inside n s ds o q empty simple behind new h w t e m =
    let x = is_simple_scalar (context_of s ds) q in
    let same : simple ≡ (is_key st && x) = e ∙ ap (λ z. is_key st && z) (simple_is s ds o q h) in
    ap (λ (z : Stack). state_at z u ds) (m ∙ ap (stepped (record { state = st; levels = ls })) same) ∙ behind_node st u ls inside n ds x w t
