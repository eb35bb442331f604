-- What is written for the start of a collection, and the state after it.
use Rattle.std.proofs.Common.{◌≡◌, ℕ, ◌+◌, List, ◌∷◌, Bool, true, false, refl, sym, subst, ◌∙◌, ap}
use Rattle.std.proofs.Math.Nat.{add-zero}
use Rattle.std.specs.Prelude.{◌&&◌, ◌||◌, not, nat_le, Option, Some, None, option_map}
use Rattle.yaml_emit_layout.specs.declared.cursor.Cursor.{Cursor}
use Rattle.yaml_emit_layout.specs.declared.settings.Settings.{Settings}
use Rattle.yaml_emit_layout.specs.Layout.{Layout, ◌▹◌, stay, when, opener}
use Rattle.yaml_emit_layout.specs.Tags.{split_tag}
use Rattle.yaml_parse_model.specs.Events.{TagDirective}
use Rattle.yaml_emit_layout.specs.declared.level.Level.{Level as Open}
use Rattle.yaml_emit_layout.specs.declared.level.Phase.TheVariants as phase
use Rattle.yaml_emit_layout.specs.declared.level.Expected.TheVariants as at
use Rattle.yaml_emit_layout.specs.declared.level.NodePosition.{NodePosition}
use Rattle.yaml_emit_layout.specs.Content.{Start}
use Rattle.yaml_emit_layout.specs.Grammar.{start_tag}
use Rattle.yaml_emit_layout.specs.Nodes.{Context, context_of, is_flow, indent_of, indented, checked, anchor_text, tag_text, properties_text, text_size, written_size, properties_size, is_simple_start}
use Rattle.yaml_emit_layout.specs.State.{top_of, position_of, before_node, text_at, depth_at, is_simple_event, piece, next, next_at, levels_behind, State as Standing}
use Rattle.yaml_emit_output.specs.Draft.{Page as Paper, Lays}
use Rattle.yaml_emit_scalars.proofs.LaysLemmas.{lays_is, lays_both}
use Rattle.yaml_emit_core.specs.declared.level.State.{State}
use Rattle.yaml_emit_core.specs.declared.level.State.TheVariants as state
use Rattle.yaml_emit_core.specs.declared.names.Properties.{Properties}
use Rattle.yaml_emit_core.specs.declared.starts.Opener.{Opener}
use Rattle.yaml_emit_core.specs.Levels.{phase_of, level_by, is_key, awaits_node, opening, opener_of, first_of, Stack, stepped, opened, state_at}
use Rattle.yaml_emit_core.specs.Names.{AreOf, cut_size, split_text, names_size, names_text}
use Rattle.yaml_emit_core.specs.Opens.{Opens}
use Rattle.yaml_emit_core.proofs.Aliases.{behind_node}

-- only a key may be simple
pub before_same : (st : State) (flow : Bool) (n : ℕ) (s : Settings) (x : Bool)
    → before_node s (level_by (phase_of st) flow n) (is_key st && x) ≡ before_node s
    (level_by (phase_of st) flow n) x
before_same state.FirstItem flow n s x = refl
before_same state.Item flow n s x = refl
before_same state.FirstKey flow n s true = refl
before_same state.FirstKey flow n s false = refl
before_same state.Key flow n s true = refl
before_same state.Key flow n s false = refl
before_same state.SimpleValue flow n s x = refl
before_same state.Value flow n s x = refl
before_same state.StreamStart flow n s x = refl
before_same state.FirstDocumentStart flow n s x = refl
before_same state.DocumentStart flow n s x = refl
before_same state.DocumentContent flow n s x = refl
before_same state.DocumentEnd flow n s x = refl
before_same state.End flow n s x = refl

pub position_same : (st : State) (flow : Bool) (n : ℕ) (x : Bool)
    → position_of (level_by (phase_of st) flow n) (is_key st && x) ≡ position_of
    (level_by (phase_of st) flow n) x
position_same state.FirstItem flow n x = refl
position_same state.Item flow n x = refl
position_same state.FirstKey flow n true = refl
position_same state.FirstKey flow n false = refl
position_same state.Key flow n true = refl
position_same state.Key flow n false = refl
position_same state.SimpleValue flow n x = refl
position_same state.Value flow n x = refl
position_same state.StreamStart flow n x = refl
position_same state.FirstDocumentStart flow n x = refl
position_same state.DocumentStart flow n x = refl
position_same state.DocumentContent flow n x = refl
position_same state.DocumentEnd flow n x = refl
position_same state.End flow n x = refl

-- names, in the definitions' words
cut_written : (p : Context) (t : Option (List ℕ))
    → cut_size (option_map (split_tag p.directives) t) ≡ written_size p t
cut_written p None = refl
cut_written p (Some t) = refl

tag_written : (p : Context) (t : Option (List ℕ))
    → split_text (option_map (split_tag p.directives) t) ≡ tag_text p t
tag_written p None = refl
tag_written p (Some t) = refl

pub size_same : (p : Context) (o : Properties) (anchor tag : Option (List ℕ))
    → AreOf p.directives o anchor tag → names_size o ≡ properties_size p anchor tag
size_same p o anchor tag a = λ i. text_size (a.name i) + (ap cut_size a.spelling ∙ cut_written p tag) i

pub names_same : (p : Context) (o : Properties) (anchor tag : Option (List ℕ))
    → AreOf p.directives o anchor tag → names_text o ≡ properties_text p anchor tag
names_same p o anchor tag a = λ i. anchor_text (a.name i) ▹ (ap split_text a.spelling ∙ tag_written p tag) i

simple_by : (canonical : Bool) (m n : ℕ) (empty : Bool) → (canonical ≡ false → m ≡ n)
    → (not canonical && (empty && nat_le (m + 0) 128)) ≡ (not canonical && (empty && nat_le n 128))
simple_by true m n empty h = refl
simple_by false m n empty h = ap (λ z. empty && nat_le z 128) (add-zero m ∙ h refl)

pub simple_is : (s : Settings) (ds : List TagDirective) (o : Opener) (q : Start) → Opens s ds o q
    → (not s.canonical && (o.empty && nat_le (names_size o.properties + 0) 128)) ≡ is_simple_start (context_of s ds) q o.empty
unfolding is_simple_start
simple_is s ds o q a = simple_by s.canonical (names_size o.properties) (properties_size (context_of s ds) q.anchor (start_tag false q)) o.empty
    (λ e. size_same (context_of s ds) o.properties q.anchor (start_tag s.canonical q) a.names ∙ ap (λ z. properties_size (context_of s ds) q.anchor (start_tag z q)) e)

-- a collection is flow
pub flow_same : (s : Settings) (at : NodePosition) (ds : List TagDirective) (o : Opener)
    (q : Start) (inside : Bool) → Opens s ds o q → inside ≡ at.flow
    → (s.canonical || (inside || (o.flow || o.empty))) ≡ is_flow s at q o.empty
flow_same s at ds o q inside a e = λ i. s.canonical || (e i || (a.style i || o.empty))

-- what is written
abbrev start_at : Context → Option Open → Bool → Bool → Start → Bool → Layout
start_at p top x sequence q empty =
    (before_node p.settings top x ▹ (properties_text p q.anchor (start_tag p.settings.canonical q) ▹ when (is_flow p.settings (position_of top x) q empty) (opener (opener_of sequence))))
    ▹ indented (indent_of p.settings (position_of top x) sequence (is_flow p.settings (position_of top x) q empty)) checked

start_is : (s : Settings) (st : State) (u : Bool) (ls : List Open) (ds : List TagDirective)
    (sequence : Bool) (q : Start) (empty : Bool)
    → start_at (context_of s ds) (top_of ls) (is_simple_start (context_of s ds) q empty) sequence q empty ≡ piece s (state_at (record { state = st; levels = ls }) u ds) (opening sequence q) empty
unfolding text_at depth_at is_simple_event
start_is s st u ls ds true q empty = refl
start_is s st u ls ds false q empty = refl

pub start_piece : (st : State) (u : Bool) (ls : List Open) (flow : Bool) (n m br : ℕ)
    (s : Settings) (ds : List TagDirective) (o : Opener) (q : Start) (simple f : Bool)
    (a b c d e : Paper)
    → Opens s ds o q → level_by (phase_of st) flow n ≡ top_of ls
    → simple ≡ (is_key st && (not s.canonical && (o.empty && nat_le (names_size o.properties + 0) 128)))
    → f ≡ is_flow s (position_of (level_by (phase_of st) flow n) simple) q o.empty → br ≡ opener_of o.sequence
    → m ≡ indent_of s (position_of (level_by (phase_of st) flow n) simple) o.sequence f d.output.cursor
    → Lays a b (before_node s (level_by (phase_of st) flow n) simple) stay → Lays b c (names_text o.properties) stay → Lays c d (when f (opener br)) stay → Lays d e (checked m) stay
    → Lays a e (piece s (state_at (record { state = st; levels = ls }) u ds) (opening o.sequence q) o.empty) stay
start_piece st u ls flow n m br s ds o q simple f a b c d e h t w v k j p1 p2 p3 p4 =
    let top = level_by (phase_of st) flow n in
    let x = is_simple_start (context_of s ds) q o.empty in
    let same : simple ≡ (is_key st && x) = w ∙ ap (λ z. is_key st && z) (simple_is s ds o q h) in
    let at : position_of top simple ≡ position_of top x = ap (position_of top) same ∙ position_same st flow n x in
    let before : before_node s top simple ≡ before_node s top x = ap (before_node s top) same ∙ before_same st flow n s x in
    let names = names_same (context_of s ds) o.properties q.anchor (start_tag s.canonical q) h.names in
    let flows : f ≡ is_flow s (position_of top x) q o.empty = v ∙ ap (λ z. is_flow s z q o.empty) at in
    let deep = lays_is d e (checked m) (indented (indent_of s (position_of top simple) o.sequence f) checked) (λ rest. ap (λ z. checked z d.output.cursor rest) (sym j)) p4 in
    let all = lays_both a d e (before_node s top simple ▹ (names_text o.properties ▹ when f (opener br))) (indented (indent_of s (position_of top simple) o.sequence f) checked)
    (lays_both a b d (before_node s top simple) (names_text o.properties ▹ when f (opener br)) p1 (lays_both b c d (names_text o.properties) (when f (opener br)) p2 p3)) deep in
    let layouts : ((before_node s top simple ▹ (names_text o.properties ▹ when f (opener br))) ▹ indented (indent_of s (position_of top simple) o.sequence f) checked) ≡ start_at (context_of s ds) top x o.sequence q o.empty =
    λ i. (before i ▹ (names i ▹ when (flows i) (opener (k i)))) ▹ indented (indent_of s (at i) o.sequence (flows i)) checked in
    let P : Layout → Type 0 = λ z. Lays a e z stay in
    subst P (layouts ∙ (ap (λ z. start_at (context_of s ds) z x o.sequence q o.empty) t ∙ start_is s st u ls ds o.sequence q o.empty)) all

-- the state after it
opened_is : (st : State) (u : Bool) (ls : List Open) (f : Bool) (m : ℕ) (s : Settings)
    (ds : List TagDirective) (sequence : Bool) (q : Start) (empty simple : Bool) (c : Cursor)
    → f ≡ is_flow s (position_of (top_of ls) (is_simple_start (context_of s ds) q empty)) q empty
    → m ≡ indent_of s (position_of (top_of ls) (is_simple_start (context_of s ds) q empty)) sequence (is_flow s (position_of (top_of ls) (is_simple_start (context_of s ds) q empty)) q empty) c
    → levels_behind ls simple ≡ levels_behind ls (is_simple_start (context_of s ds) q empty)
    → state_at (opened (stepped (record { state = st; levels = ls }) simple) (record { state = first_of sequence; flow = f; indent = m })) u ds ≡ next s (state_at (record { state = st; levels = ls }) u ds) (opening sequence q) empty c
unfolding next_at is_simple_event
opened_is st u ls f m s ds true q empty simple c v j l = λ i. record { place = at.Node; levels = record { phase = phase.Items true; flow = v i; indent = j i } ∷ l i; directives = ds }
opened_is st u ls f m s ds false q empty simple c v j l = λ i. record { place = at.Node; levels = record { phase = phase.Keys true; flow = v i; indent = j i } ∷ l i; directives = ds }

pub start_next : (st fs : State) (u : Bool) (ls : List Open) (flow : Bool) (n m : ℕ) (s : Settings)
    (ds : List TagDirective) (o : Opener) (q : Start) (simple f : Bool) (c d : Cursor) (new : Stack)
    → Opens s ds o q → awaits_node st ≡ true → level_by (phase_of st) flow n ≡ top_of ls
    → simple ≡ (is_key st && (not s.canonical && (o.empty && nat_le (names_size o.properties + 0) 128)))
    → f ≡ is_flow s (position_of (level_by (phase_of st) flow n) simple) q o.empty → fs ≡ first_of o.sequence
    → m ≡ indent_of s (position_of (level_by (phase_of st) flow n) simple) o.sequence f d → c ≡ d
    → new ≡ opened (stepped (record { state = st; levels = ls }) simple) (record { state = fs; flow = f; indent = m })
    → state_at new u ds ≡ next s (state_at (record { state = st; levels = ls }) u ds) (opening o.sequence q) o.empty c
start_next st fs u ls flow n m s ds o q simple f c d new h a t w v k j e z =
    let top = level_by (phase_of st) flow n in
    let x = is_simple_start (context_of s ds) q o.empty in
    let same : simple ≡ (is_key st && x) = w ∙ ap (λ y. is_key st && y) (simple_is s ds o q h) in
    let at : position_of top simple ≡ position_of (top_of ls) x = ap (position_of top) same ∙ (position_same st flow n x ∙ ap (λ y. position_of y x) t) in
    let flows : f ≡ is_flow s (position_of (top_of ls) x) q o.empty = v ∙ ap (λ y. is_flow s y q o.empty) at in
    let deep : m ≡ indent_of s (position_of (top_of ls) x) o.sequence (is_flow s (position_of (top_of ls) x) q o.empty) c = j ∙ (λ i. indent_of s (at i) o.sequence (flows i) (sym e i)) in
    let behind : levels_behind ls simple ≡ levels_behind ls x = ap (levels_behind ls) same ∙ ap (λ (y : Standing). y.levels) (behind_node st u ls flow n ds x a t) in
    ap (λ (y : Stack). state_at y u ds) (z ∙ ap (λ y. opened (stepped (record { state = st; levels = ls }) simple) (record { state = y; flow = f; indent = m })) k)
    ∙ opened_is st u ls f m s ds o.sequence q o.empty simple c flows deep behind
