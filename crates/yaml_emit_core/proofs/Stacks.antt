-- The open collections.
use Rattle.std.proofs.Common.{◌≡◌, ◌≢◌, ◌<◌, ◌^◌, ℕ, ◌+◌, List, [], ◌∷◌, ◌++◌, reverse, Bool, true, false, refl, sym, subst, ◌∙◌, ap, arith}
use Rattle.std.specs.Prelude.{Option, Some, None, ◌||◌}
use Rattle.std.proofs.lemmas.List.{reverse-append}
use Rattle.yaml_emit_layout.specs.declared.level.Level.{Level as Open}
use Rattle.yaml_emit_layout.specs.declared.level.Phase.{Phase}
use Rattle.yaml_emit_layout.specs.declared.level.Phase.TheVariants as phase
use Rattle.yaml_emit_layout.specs.declared.Settings.{Settings}
use Rattle.yaml_emit_layout.specs.Nodes.{deeper}
use Rattle.yaml_emit_layout.specs.State.{phase_behind, levels_behind, outer_of, top_of, place_at, position_of}
use Rattle.yaml_emit_core.specs.declared.level.State.{State}
use Rattle.yaml_emit_core.specs.declared.level.State.TheVariants as state
use Rattle.yaml_emit_core.specs.declared.level.Level.{Level}
use Rattle.yaml_emit_core.specs.Levels.{phase_of, place_of, level_by, level_of, state_in, state_behind, stack, upon, AreNarrow, IsPlain, Stack, stepped, opened, is_open, is_entry, is_behind_simple}

-- after a node the innermost collection is in the phase after it
pub stack_behind : (s : State) (flow : Bool) (n : ℕ) (simple : Bool) (ls : List Open)
    → stack (level_by (phase_of (state_behind s simple)) flow n) ls ≡ levels_behind (stack (level_by (phase_of s) flow n) ls) simple
unfolding phase_behind
stack_behind state.FirstItem flow n simple ls = refl
stack_behind state.Item flow n simple ls = refl
stack_behind state.FirstKey flow n true ls = refl
stack_behind state.FirstKey flow n false ls = refl
stack_behind state.Key flow n true ls = refl
stack_behind state.Key flow n false ls = refl
stack_behind state.SimpleValue flow n simple ls = refl
stack_behind state.Value flow n simple ls = refl
stack_behind state.StreamStart flow n simple ls = refl
stack_behind state.FirstDocumentStart flow n simple ls = refl
stack_behind state.DocumentStart flow n simple ls = refl
stack_behind state.DocumentContent flow n simple ls = refl
stack_behind state.DocumentEnd flow n simple ls = refl
stack_behind state.End flow n simple ls = refl

-- a node doesn't open one, nor close one
pub behind_none : (s : State) (simple : Bool) → phase_of (state_behind s simple) ≡ None
    → phase_of s ≡ None
behind_none state.FirstItem simple h = absurd (cc h)
behind_none state.Item simple h = absurd (cc h)
behind_none state.FirstKey true h = absurd (cc h)
behind_none state.FirstKey false h = absurd (cc h)
behind_none state.Key true h = absurd (cc h)
behind_none state.Key false h = absurd (cc h)
behind_none state.SimpleValue simple h = absurd (cc h)
behind_none state.Value simple h = absurd (cc h)
behind_none state.StreamStart simple h = refl
behind_none state.FirstDocumentStart simple h = refl
behind_none state.DocumentStart simple h = refl
behind_none state.DocumentContent simple h = refl
behind_none state.DocumentEnd simple h = refl
behind_none state.End simple h = refl

-- a node came
pub step_is : (s b : State) (flow : Bool) (n : ℕ) (simple : Bool) (ls : List Open)
    → b ≡ state_behind s simple
    → record { state = b; levels = stack (level_by (phase_of b) flow n) ls } ≡ stepped (record { state = s; levels = stack (level_by (phase_of s) flow n) ls }) simple
step_is s b flow n simple ls e = rw e (λ i. record { state = state_behind s simple; levels = stack_behind s flow n simple ls i })

pub narrow_none : AreNarrow (reverse [])
unfolding AreNarrow
narrow_none = tt

-- no collection is open
pub none_narrow : (ls : List Open) → ls ≡ [] → AreNarrow (reverse ls)
none_narrow ls e = let P : List Open → Type 0 = λ z. AreNarrow (reverse z) in subst P (sym e) narrow_none

stack_none : (t : Option Open) (ls : List Open) → stack t ls ≡ [] → t ≡ None
stack_none None ls e = refl
stack_none (Some l) ls e = absurd (cc e)

pub level_none : (p : Option Phase) (flow : Bool) (n : ℕ) → level_by p flow n ≡ None → p ≡ None
level_none None flow n e = refl
level_none (Some p) flow n e = absurd (cc e)

pub outside_none : (s : State) (flow : Bool) (n : ℕ) (ls : List Open)
    → stack (level_by (phase_of s) flow n) ls ≡ [] → phase_of s ≡ None
outside_none s flow n ls e = level_none (phase_of s) flow n (stack_none (level_by (phase_of s) flow n) ls e)

pub outside_is : (t : State) (flow : Bool) (n : ℕ) (ls : List Open) → phase_of t ≡ None
    → ◌≡◌ {A = Stack} (record { state = t; levels = stack (level_by (phase_of t) flow n) ls })
    (record { state = t; levels = [] })
outside_is t flow n ls p = λ i. record { state = t; levels = stack (level_by (p i) flow n) ls }

-- one more, or one less
turned_more : (ls : List Open) (t : Open) → reverse (ls ++ t ∷ []) ≡ t ∷ reverse ls
turned_more ls t = reverse-append ls (t ∷ [])

narrow_more : (ls : List Open) (t : Open) → t.indent < 2 ^ 31 → AreNarrow (reverse ls)
    → AreNarrow (t ∷ reverse ls)
unfolding AreNarrow
narrow_more ls t h n = (h, n)

narrow_less : (ls : List Open) (t : Open) → AreNarrow (t ∷ ls) → (t.indent < 2 ^ 31) × AreNarrow ls
unfolding AreNarrow
narrow_less ls t n = n

indent_in : Option Open → ℕ
indent_in None = 0
indent_in (Some o) = o.indent

narrow_of : (p : Option Phase) (flow : Bool) (n : ℕ) (o : Open) → level_by p flow n ≡ Some o
    → n < 2 ^ 31 → o.indent < 2 ^ 31
unfolding indent_in
narrow_of None flow n o e h = absurd (cc e)
narrow_of (Some p) flow n o e h = let i : n ≡ o.indent = ap (λ (z : Option Open). indent_in z) e in rw (← i) h

stack_open : (s : State) (p : Option Phase) (flow : Bool) (n : ℕ) (ls rest : List Open)
    → reverse ls ≡ rest → p ≢ None
    → ◌≡◌ {A = Stack} (record { state = s; levels = stack (level_by p flow n) ls }) (record { state = s; levels = upon (level_by p flow n) rest })
stack_open s None flow n ls rest e h = absurd (h refl)
stack_open s (Some p) flow n ls rest e h = λ i. record { state = s; levels = record { phase = p; flow = flow; indent = n } ∷ e i }

-- a collection is in that phase
in_by : (p : Phase) (flow : Bool) (n : ℕ)
    → level_by (phase_of (state_in p)) flow n ≡ Some (record { phase = p; flow = flow; indent = n })
in_by (phase.Items true) flow n = refl
in_by (phase.Items false) flow n = refl
in_by (phase.Keys true) flow n = refl
in_by (phase.Keys false) flow n = refl
in_by (phase.Value true) flow n = refl
in_by (phase.Value false) flow n = refl

in_some : (p : Phase) → phase_of (state_in p) ≢ None
in_some (phase.Items true) = λ e. absurd (cc e)
in_some (phase.Items false) = λ e. absurd (cc e)
in_some (phase.Keys true) = λ e. absurd (cc e)
in_some (phase.Keys false) = λ e. absurd (cc e)
in_some (phase.Value true) = λ e. absurd (cc e)
in_some (phase.Value false) = λ e. absurd (cc e)

in_place : (p : Phase) (flow : Bool) (n : ℕ) (ls : List Open) (u : Bool)
    → place_of (state_in p) u ≡ place_at
    (top_of (stack (level_by (phase_of (state_in p)) flow n) ls))
in_place (phase.Items true) flow n ls u = refl
in_place (phase.Items false) flow n ls u = refl
in_place (phase.Keys true) flow n ls u = refl
in_place (phase.Keys false) flow n ls u = refl
in_place (phase.Value true) flow n ls u = refl
in_place (phase.Value false) flow n ls u = refl

-- the level round which one is opened is a collection, if it is one
pub push_narrow : (o : Open) (top : Level) (items new : List Open) → new ≡ items ++ o ∷ []
    → level_of top ≡ Some o → top.indent < 2 ^ 31 → AreNarrow (reverse items)
    → AreNarrow (reverse new)
push_narrow o top items new e s h n =
    let P : List Open → Type 0 = λ z. AreNarrow z in
    subst P (sym (ap reverse e ∙ turned_more items o)) (narrow_more items o (narrow_of (phase_of top.state) top.flow top.indent o s h) n)

pub push_levels : (o : Open) (top l : Level) (items new : List Open) → new ≡ items ++ o ∷ []
    → level_of top ≡ Some o → phase_of l.state ≢ None
    → record { state = l.state; levels = stack (level_of l) new } ≡ opened (record { state = top.state; levels = stack (level_of top) items }) l
push_levels o top l items new e s p =
    stack_open l.state (phase_of l.state) l.flow l.indent new (o ∷ reverse items) (ap reverse e ∙ turned_more items o) p
    ∙ ap (λ z. opened (record { state = top.state; levels = stack z items }) l) (sym s)

-- the first one
pub first_levels : (top l : Level) (items : List Open) → level_of top ≡ None → items ≡ []
    → phase_of l.state ≢ None
    → record { state = l.state; levels = stack (level_of l) items } ≡ opened (record { state = top.state; levels = stack (level_of top) items }) l
first_levels top l items n e p =
    stack_open l.state (phase_of l.state) l.flow l.indent items [] (ap reverse e) p
    ∙ ap (λ z. opened (record { state = top.state; levels = stack z items }) l) (sym n)

-- the innermost closes
close_by : (o : Open) (t : Option Open) (items new : List Open) → items ≡ new ++ o ∷ [] → t ≢ None
    → o ∷ reverse new ≡ outer_of (stack t items)
close_by o None items new e n = absurd (n refl)
close_by o (Some l) items new e n = sym (ap reverse e ∙ turned_more new o)

in_is : (o : Open) → level_by (phase_of (state_in o.phase)) o.flow o.indent ≡ Some o
in_is o = in_by o.phase o.flow o.indent

level_some : (p : Option Phase) (flow : Bool) (n : ℕ) → p ≢ None → level_by p flow n ≢ None
level_some None flow n h = absurd (h refl)
level_some (Some p) flow n h = λ e. absurd (cc e)

not_nil : (o : Open) (items new : List Open) → items ≡ new ++ o ∷ [] → items ≢ []
not_nil o items [] e n = absurd (cc (e, n))
not_nil o items (x ∷ new) e n = absurd (cc (e, n))

pub close_levels : (o : Open) (t : Level) (items new : List Open) → items ≡ new ++ o ∷ []
    → (phase_of t.state ≡ None → items ≡ [])
    → stack (level_by (phase_of (state_in o.phase)) o.flow o.indent) new ≡ outer_of (stack (level_of t) items)
close_levels o t items new e h =
    ap (λ z. stack z new) (in_is o) ∙ close_by o (level_of t) items new e (level_some (phase_of t.state) t.flow t.indent (λ n. not_nil o items new e (h n)))

pub close_narrow : (o : Open) (items new : List Open) → items ≡ new ++ o ∷ []
    → AreNarrow (reverse items) → (o.indent < 2 ^ 31) × AreNarrow (reverse new)
close_narrow o items new e n = let P : List Open → Type 0 = λ z. AreNarrow z in narrow_less (reverse new) o (subst P (ap reverse e ∙ turned_more new o) n)

pub close_open : (o : Open) → phase_of (state_in o.phase) ≢ None
close_open o = in_some o.phase

pub close_place : (o : Open) (new : List Open) (u : Bool)
    → place_of (state_in o.phase) u ≡ place_at
    (top_of (stack (level_by (phase_of (state_in o.phase)) o.flow o.indent) new))
close_place o new u = in_place o.phase o.flow o.indent new u

last_by : (t : Option Open) (items : List Open) → items ≡ [] → [] ≡ outer_of (stack t items)
last_by None items e = refl
last_by (Some l) items e = sym (ap reverse e)

pub last_levels : (t : Level) (items : List Open) → items ≡ []
    → [] ≡ outer_of (stack (level_of t) items)
last_levels t items e = last_by (level_of t) items e

outer_by : (t : Option Open) (items : List Open)
    → stack (top_of (stack t items)) items ≡ stack t items
outer_by None items = refl
outer_by (Some l) items = refl

pub outer_is : (t : Level) (items : List Open)
    → stack (top_of (stack (level_of t) items)) items ≡ stack (level_of t) items
outer_is t items = outer_by (level_of t) items

-- those that are handed in
pub resumed_narrow : (o : Open) (ls : List Open) → AreNarrow (stack (Some o) ls)
    → (o.indent < 2 ^ 31) × AreNarrow (reverse ls)
resumed_narrow o ls n = narrow_less (reverse ls) o n

-- a node's surroundings are the innermost level's
flow_by : (p : Option Phase) (flow simple : Bool) (n : ℕ)
    → (p ≡ None → (flow ≡ false) × (n ≡ 0)) → flow ≡ (position_of (level_by p flow n) simple).flow
flow_by None flow simple n h = (h refl).0
flow_by (Some p) flow simple n h = refl

pub flow_is : (l : Level) (simple : Bool) → IsPlain l
    → l.flow ≡ (position_of (level_of l) simple).flow
flow_is l simple h = flow_by (phase_of l.state) l.flow simple l.indent h

deeper_by : (s : Settings) (p : Option Phase) (flow simple : Bool) (n : ℕ)
    → (p ≡ None → (flow ≡ false) × (n ≡ 0))
    → n + s.indent ≡ deeper s (position_of (level_by p flow n) simple).around
deeper_by s None flow simple n h = let e : n ≡ 0 = (h refl).1 in omega arith
deeper_by s (Some p) flow simple n h = refl

pub deeper_is : (s : Settings) (l : Level) (simple : Bool) → IsPlain l
    → l.indent + s.indent ≡ deeper s (position_of (level_of l) simple).around
deeper_is s l simple h = deeper_by s (phase_of l.state) l.flow simple l.indent h

-- inside a collection an entry comes, or the value of a simple key
pub inside_is : (s : State) → (is_entry s || is_behind_simple s) ≡ is_open (phase_of s)
inside_is state.StreamStart = refl
inside_is state.FirstDocumentStart = refl
inside_is state.DocumentStart = refl
inside_is state.DocumentContent = refl
inside_is state.FirstItem = refl
inside_is state.Item = refl
inside_is state.FirstKey = refl
inside_is state.Key = refl
inside_is state.SimpleValue = refl
inside_is state.Value = refl
inside_is state.DocumentEnd = refl
inside_is state.End = refl
