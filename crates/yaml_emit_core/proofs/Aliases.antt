-- An alias is laid out, and the state after it.
use Rattle.std.proofs.Common.{◌≡◌, ℕ, ◌+◌, List, [], ◌∷◌, ◌++◌, length, Bool, true, false, refl, sym, subst, ◌∙◌, ap, append-nil}
use Rattle.std.specs.Prelude.{◌&&◌, not, nat_le, if◌then◌else◌, Option, Some, None}
use Rattle.yaml_emit_layout.specs.declared.cursor.Cursor.{Cursor}
use Rattle.yaml_emit_layout.specs.declared.settings.Settings.{Settings}
use Rattle.yaml_emit_layout.specs.Text.{Item, letter}
use Rattle.yaml_emit_layout.specs.Layout.{Rest, ◌▹◌, stay, when, char, letters, gap, word, after_text}
use Rattle.yaml_parse_model.specs.Events.{TagDirective}
use Rattle.yaml_emit_layout.specs.declared.level.Level.{Level as Open}
use Rattle.yaml_emit_layout.specs.declared.level.Phase.{Phase}
use Rattle.yaml_emit_layout.specs.declared.level.Phase.TheVariants as phase
use Rattle.yaml_emit_layout.specs.declared.level.Expected.TheVariants as at
use Rattle.yaml_emit_layout.specs.Content as said
use Rattle.yaml_emit_layout.specs.Nodes.{alias_layout, is_simple_alias}
use Rattle.yaml_emit_layout.specs.State.{top_of, position_of, before_node, text_at, depth_at, is_simple_event, piece, next, next_at, among, levels_behind, phase_behind}
use Rattle.yaml_emit_output.specs.Draft.{Page as Paper, Lays}
use Rattle.yaml_emit_output.specs.Placed.{sign_bytes, mark_bytes}
use Rattle.yaml_emit_scalars.proofs.LaysLemmas.{lays_is}
use Rattle.yaml_emit_scalars.proofs.Words.{behind_gap}
use Rattle.yaml_emit_core.specs.declared.level.State.{State}
use Rattle.yaml_emit_core.specs.declared.level.State.TheVariants as state
use Rattle.yaml_emit_core.specs.Levels.{phase_of, level_by, is_key, awaits_node, Stack, stepped, state_at}

-- after letters the cursor is after a text
pub ended : (x : ℕ) (xs : List ℕ) (c : Cursor) (rest : Rest)
    → letters (x ∷ xs) c (λ e. after_text e rest) ≡ letters (x ∷ xs) c rest
unfolding letters
ended x [] c rest = refl
ended x (y ∷ ys) c rest = ap (λ (t : List Item). letter x ∷ t) (ended y ys (record { column = c.column + 1; white = false; bare = false; kept = c.kept }) rest)

spaced : (xs : List ℕ) (c : Cursor) (rest : Rest)
    → letters (xs ++ 32 ∷ []) c (λ e. after_text e rest) ≡ letters xs c (λ e. char 32 e rest)
unfolding letters
spaced [] c rest = refl
spaced (x ∷ xs) c rest = ap (λ (t : List Item). letter x ∷ t) (spaced xs (record { column = c.column + 1; white = false; bare = false; kept = c.kept }) rest)

alias_letters : (simple : Bool) (name : List ℕ) (c : Cursor) (rest : Rest)
    → (letters (42 ∷ name) ▹ when simple (char 32)) c rest ≡ (letters (((sign_bytes false ++ mark_bytes 42) ++ name) ++ mark_bytes (if simple then 32 else 0)) ▹ after_text) c rest
alias_letters true name c rest = sym (spaced (42 ∷ name) c rest)
alias_letters false name c rest = sym (ap (λ (z : List ℕ). letters (42 ∷ z) c (λ e. after_text e rest)) (append-nil name) ∙ ended 42 name c rest)

pub alias_lays : (simple : Bool) (m : ℕ) (name : List ℕ) (a b : Paper)
    → m ≡ (if simple then 32 else 0)
    → Lays a b (gap ▹ (letters (((sign_bytes false ++ mark_bytes 42) ++ name) ++ mark_bytes m) ▹ after_text)) stay
    → Lays a b (word (42 ∷ name) ▹ when simple (char 32)) stay
alias_lays simple m name a b e p =
    let P : ℕ → Type 0 = λ z. Lays a b (gap ▹ (letters (((sign_bytes false ++ mark_bytes 42) ++ name) ++ mark_bytes z) ▹ after_text)) stay in
    let w = if simple then 32 else 0 in
    lays_is a b (gap ▹ (letters (((sign_bytes false ++ mark_bytes 42) ++ name) ++ mark_bytes w) ▹ after_text)) (word (42 ∷ name) ▹ when simple (char 32))
    (λ rest. behind_gap (letters (42 ∷ name) ▹ when simple (char 32)) (letters (((sign_bytes false ++ mark_bytes 42) ++ name) ++ mark_bytes w) ▹ after_text) rest a.output.cursor (λ d l. alias_letters simple name d rest))
    (subst P e p)

-- only a key may be simple
alias_text : (st : State) (flow : Bool) (n : ℕ) (s : Settings) (name : List ℕ) (x : Bool)
    (c : Cursor) (rest : Rest) → awaits_node st ≡ true
    → (before_node s (level_by (phase_of st) flow n) x ▹ alias_layout (position_of (level_by (phase_of st) flow n) x) name) c rest
    ≡ (before_node s (level_by (phase_of st) flow n) (is_key st && x) ▹ (word (42 ∷ name) ▹ when (is_key st && x) (char 32))) c rest
unfolding alias_layout
alias_text state.DocumentContent flow n s name x c rest a = refl
alias_text state.FirstItem flow n s name x c rest a = refl
alias_text state.Item flow n s name x c rest a = refl
alias_text state.FirstKey flow n s name true c rest a = refl
alias_text state.FirstKey flow n s name false c rest a = refl
alias_text state.Key flow n s name true c rest a = refl
alias_text state.Key flow n s name false c rest a = refl
alias_text state.SimpleValue flow n s name x c rest a = refl
alias_text state.Value flow n s name x c rest a = refl
alias_text state.StreamStart flow n s name x c rest a = absurd (cc)
alias_text state.FirstDocumentStart flow n s name x c rest a = absurd (cc)
alias_text state.DocumentStart flow n s name x c rest a = absurd (cc)
alias_text state.DocumentEnd flow n s name x c rest a = absurd (cc)
alias_text state.End flow n s name x c rest a = absurd (cc)

-- what is written for an alias
pub alias_piece : (st : State) (u : Bool) (ls : List Open) (flow : Bool) (n : ℕ) (s : Settings)
    (ds : List TagDirective) (name : List ℕ) (empty simple : Bool) (a b : Paper)
    → awaits_node st ≡ true → level_by (phase_of st) flow n ≡ top_of ls → simple ≡ (is_key st && (not s.canonical && nat_le (length name) 128))
    → Lays a b (before_node s (level_by (phase_of st) flow n) simple ▹ (word (42 ∷ name) ▹ when simple (char 32))) stay
    → Lays a b (piece s (state_at (record { state = st; levels = ls }) u ds) (said.alias name) empty) stay
unfolding text_at depth_at is_simple_event is_simple_alias
alias_piece st u ls flow n s ds name empty simple a b w t e p =
    let x = not s.canonical && nat_le (length name) 128 in
    let P : Bool → Type 0 = λ z. Lays a b (before_node s (level_by (phase_of st) flow n) z ▹ (word (42 ∷ name) ▹ when z (char 32))) stay in
    let Q : Option Open → Type 0 = λ z. Lays a b (before_node s z x ▹ alias_layout (position_of z x) name) stay in
    subst Q t (lays_is a b (before_node s (level_by (phase_of st) flow n) (is_key st && x) ▹ (word (42 ∷ name) ▹ when (is_key st && x) (char 32)))
    (before_node s (level_by (phase_of st) flow n) x ▹ alias_layout (position_of (level_by (phase_of st) flow n) x) name)
    (λ rest. alias_text st flow n s name x a.output.cursor rest w) (subst P e p))

-- the state after a node

some_or : Open → Option Open → Open
some_or d None = d
some_or d (Some o) = o

some_is : (a b : Open) → Some a ≡ Some b → a ≡ b
unfolding some_or
some_is a b e = ap (some_or a) e

key_in : Phase → Bool
key_in (phase.Items fresh) = false
key_in (phase.Keys fresh) = true
key_in (phase.Value simple) = false

behind_same : (p : Phase) (k x : Bool) → key_in p ≡ k → phase_behind p (k && x) ≡ phase_behind p x
unfolding phase_behind key_in
behind_same (phase.Items fresh) k x e = refl
behind_same (phase.Keys fresh) true x e = refl
behind_same (phase.Keys fresh) false x e = absurd (cc)
behind_same (phase.Value simple) k x e = refl

pub behind_node : (st : State) (u : Bool) (ls : List Open) (flow : Bool) (n : ℕ)
    (ds : List TagDirective) (x : Bool)
    → awaits_node st ≡ true → level_by (phase_of st) flow n ≡ top_of ls
    → state_at (stepped (record { state = st; levels = ls }) (is_key st && x)) u ds ≡ among ds (levels_behind ls x)
unfolding key_in
behind_node state.DocumentContent u [] flow n ds x a e = refl
behind_node state.DocumentContent u (o ∷ os) flow n ds x a e = absurd (cc e)
behind_node state.FirstItem u [] flow n ds x a e = absurd (cc e)
behind_node state.FirstItem u (o ∷ os) flow n ds x a e =
    let same = behind_same o.phase false x (ap (λ (z : Open). key_in z.phase) (sym (some_is (record { phase = phase.Items true; flow = flow; indent = n }) o e))) in
    λ i. record { place = at.Node; levels = record { phase = same i; flow = o.flow; indent = o.indent } ∷ os; directives = ds }
behind_node state.Item u [] flow n ds x a e = absurd (cc e)
behind_node state.Item u (o ∷ os) flow n ds x a e =
    let same = behind_same o.phase false x (ap (λ (z : Open). key_in z.phase) (sym (some_is (record { phase = phase.Items false; flow = flow; indent = n }) o e))) in
    λ i. record { place = at.Node; levels = record { phase = same i; flow = o.flow; indent = o.indent } ∷ os; directives = ds }
behind_node state.FirstKey u [] flow n ds x a e = absurd (cc e)
behind_node state.FirstKey u (o ∷ os) flow n ds true a e =
    let same = behind_same o.phase true true (ap (λ (z : Open). key_in z.phase) (sym (some_is (record { phase = phase.Keys true; flow = flow; indent = n }) o e))) in
    λ i. record { place = at.Node; levels = record { phase = same i; flow = o.flow; indent = o.indent } ∷ os; directives = ds }
behind_node state.FirstKey u (o ∷ os) flow n ds false a e =
    let same = behind_same o.phase true false (ap (λ (z : Open). key_in z.phase) (sym (some_is (record { phase = phase.Keys true; flow = flow; indent = n }) o e))) in
    λ i. record { place = at.Node; levels = record { phase = same i; flow = o.flow; indent = o.indent } ∷ os; directives = ds }
behind_node state.Key u [] flow n ds x a e = absurd (cc e)
behind_node state.Key u (o ∷ os) flow n ds true a e =
    let same = behind_same o.phase true true (ap (λ (z : Open). key_in z.phase) (sym (some_is (record { phase = phase.Keys false; flow = flow; indent = n }) o e))) in
    λ i. record { place = at.Node; levels = record { phase = same i; flow = o.flow; indent = o.indent } ∷ os; directives = ds }
behind_node state.Key u (o ∷ os) flow n ds false a e =
    let same = behind_same o.phase true false (ap (λ (z : Open). key_in z.phase) (sym (some_is (record { phase = phase.Keys false; flow = flow; indent = n }) o e))) in
    λ i. record { place = at.Node; levels = record { phase = same i; flow = o.flow; indent = o.indent } ∷ os; directives = ds }
behind_node state.SimpleValue u [] flow n ds x a e = absurd (cc e)
behind_node state.SimpleValue u (o ∷ os) flow n ds x a e =
    let same = behind_same o.phase false x (ap (λ (z : Open). key_in z.phase) (sym (some_is (record { phase = phase.Value true; flow = flow; indent = n }) o e))) in
    λ i. record { place = at.Node; levels = record { phase = same i; flow = o.flow; indent = o.indent } ∷ os; directives = ds }
behind_node state.Value u [] flow n ds x a e = absurd (cc e)
behind_node state.Value u (o ∷ os) flow n ds x a e =
    let same = behind_same o.phase false x (ap (λ (z : Open). key_in z.phase) (sym (some_is (record { phase = phase.Value false; flow = flow; indent = n }) o e))) in
    λ i. record { place = at.Node; levels = record { phase = same i; flow = o.flow; indent = o.indent } ∷ os; directives = ds }
behind_node state.StreamStart u ls flow n ds x a e = absurd (cc)
behind_node state.FirstDocumentStart u ls flow n ds x a e = absurd (cc)
behind_node state.DocumentStart u ls flow n ds x a e = absurd (cc)
behind_node state.DocumentEnd u ls flow n ds x a e = absurd (cc)
behind_node state.End u ls flow n ds x a e = absurd (cc)

pub alias_next : (st : State) (u : Bool) (ls : List Open) (flow : Bool) (n : ℕ) (s : Settings)
    (ds : List TagDirective) (name : List ℕ) (empty simple : Bool) (behind : Cursor) (new : Stack)
    → awaits_node st ≡ true → level_by (phase_of st) flow n ≡ top_of ls → simple ≡ (is_key st && (not s.canonical && nat_le (length name) 128))
    → new ≡ stepped (record { state = st; levels = ls }) simple
    → state_at new u ds ≡ next s (state_at (record { state = st; levels = ls }) u ds) (said.alias name) empty behind
unfolding next_at is_simple_event is_simple_alias
alias_next st u ls flow n s ds name empty simple behind new w t e m =
    let x = not s.canonical && nat_le (length name) 128 in
    ap (λ (z : Stack). state_at z u ds) (m ∙ ap (stepped (record { state = st; levels = ls })) e) ∙ behind_node st u ls flow n ds x w t
