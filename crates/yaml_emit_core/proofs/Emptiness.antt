-- Starts of collections that are written the same whether the collections are empty.
use Rattle.std.proofs.Common.{◌≡◌, ◌⊎◌, inl, inr, ℕ, List, [], ◌∷◌, Bool, true, false, refl, sym, ◌∙◌, ap}
use Rattle.std.proofs.lemmas.Bool.{true≢false}
use Rattle.std.specs.Prelude.{◌&&◌, ◌||◌, not, Option, Some, None}
use Rattle.yaml_emit_layout.specs.declared.cursor.Cursor.{Cursor}
use Rattle.yaml_emit_layout.specs.declared.settings.Settings.{Settings}
use Rattle.yaml_emit_layout.specs.Layout.{Layout, ◌▹◌, when, opener}
use Rattle.yaml_parse_model.specs.Events.{TagDirective}
use Rattle.yaml_emit_layout.specs.declared.level.Level.{Level as Open}
use Rattle.yaml_emit_layout.specs.declared.level.Phase.{Phase}
use Rattle.yaml_emit_layout.specs.declared.level.Phase.TheVariants as phase
use Rattle.yaml_emit_layout.specs.declared.level.Expected.TheVariants as at
use Rattle.yaml_emit_layout.specs.declared.level.NodePosition.{NodePosition}
use Rattle.yaml_emit_layout.specs.Content.{Event, Start, sequence_start, mapping_start}
use Rattle.yaml_emit_layout.specs.Grammar.{start_tag}
use Rattle.yaml_emit_layout.specs.Nodes.{Context, context_of, is_flow, indent_of, indented, checked, properties_text, is_simple_start, position}
use Rattle.yaml_emit_layout.specs.State.{top_of, part_at, position_of, before_at, before_node, text_at, depth_at, is_simple_event, piece, next, next_at, phase_behind, levels_behind, State as Standing}
use Rattle.yaml_emit_core.specs.declared.level.State.{State}
use Rattle.yaml_emit_core.specs.declared.level.State.TheVariants as state
use Rattle.yaml_emit_core.specs.Levels.{phase_of, level_by, is_key, opening, opener_of}
use Rattle.yaml_emit_core.specs.Opens.{asks_at, asks_empty}
use Rattle.yaml_emit_core.specs.Steps.{IsSame, opens}

-- ---- a node that is no key is no simple key, whatever is said of that

abbrev keys_in : Phase → Bool
keys_in (phase.Items fresh) = false
keys_in (phase.Keys fresh) = true
keys_in (phase.Value simple) = false

abbrev keys_at : Option Open → Bool
keys_at None = false
keys_at (Some l) = keys_in l.phase

keys_is : (st : State) (flow : Bool) (n : ℕ) → keys_at (level_by (phase_of st) flow n) ≡ is_key st
keys_is state.StreamStart flow n = refl
keys_is state.FirstDocumentStart flow n = refl
keys_is state.DocumentStart flow n = refl
keys_is state.DocumentContent flow n = refl
keys_is state.FirstItem flow n = refl
keys_is state.Item flow n = refl
keys_is state.FirstKey flow n = refl
keys_is state.Key flow n = refl
keys_is state.SimpleValue flow n = refl
keys_is state.Value flow n = refl
keys_is state.DocumentEnd flow n = refl
keys_is state.End flow n = refl

before_phase : (s : Settings) (p : Phase) (flow : Bool) (n : ℕ) (a b : Bool) → keys_in p ≡ false
    → before_at s p flow n a ≡ before_at s p flow n b
before_phase s (phase.Items fresh) flow n a b h = refl
before_phase s (phase.Keys fresh) flow n a b h = absurd (true≢false h)
before_phase s (phase.Value simple) flow n a b h = refl

before_keyless : (s : Settings) (top : Option Open) (a b : Bool) → keys_at top ≡ false
    → before_node s top a ≡ before_node s top b
before_keyless s None a b h = refl
before_keyless s (Some l) a b h = before_phase s l.phase l.flow l.indent a b h

part_phase : (p : Phase) (a b : Bool) → keys_in p ≡ false → part_at p a ≡ part_at p b
part_phase (phase.Items fresh) a b h = refl
part_phase (phase.Keys fresh) a b h = absurd (true≢false h)
part_phase (phase.Value simple) a b h = refl

position_keyless : (top : Option Open) (a b : Bool) → keys_at top ≡ false
    → position_of top a ≡ position_of top b
position_keyless None a b h = refl
position_keyless (Some l) a b h = λ i. position l.flow l.indent (part_phase l.phase a b h i)

behind_phase : (p : Phase) (a b : Bool) → keys_in p ≡ false → phase_behind p a ≡ phase_behind p b
unfolding phase_behind
behind_phase (phase.Items fresh) a b h = refl
behind_phase (phase.Keys fresh) a b h = absurd (true≢false h)
behind_phase (phase.Value simple) a b h = refl

levels_keyless : (ls : List Open) (a b : Bool) → keys_at (top_of ls) ≡ false
    → levels_behind ls a ≡ levels_behind ls b
levels_keyless [] a b h = refl
levels_keyless (l ∷ ls) a b h = λ i. record { phase = behind_phase l.phase a b h i; flow = l.flow; indent = l.indent } ∷ ls

-- ---- a start whose place and style are the same

abbrev start_at : Context → Option Open → Bool → Bool → Start → Bool → Layout
start_at p top x sequence q empty =
    (before_node p.settings top x ▹ (properties_text p q.anchor (start_tag p.settings.canonical q) ▹ when (is_flow p.settings (position_of top x) q empty) (opener (opener_of sequence))))
    ▹ indented (indent_of p.settings (position_of top x) sequence (is_flow p.settings (position_of top x) q empty)) checked

start_is : (s : Settings) (st : Standing) (sequence : Bool) (q : Start) (empty : Bool)
    → start_at (context_of s st.directives) (top_of st.levels) (is_simple_start (context_of s st.directives) q empty) sequence q empty ≡ piece s st (opening sequence q) empty
unfolding text_at depth_at is_simple_event
start_is s st true q empty = refl
start_is s st false q empty = refl

-- where a start is, by whether it is empty
abbrev place_for : Settings → Standing → Start → Bool → NodePosition
place_for s st q v = position_of (top_of st.levels) (is_simple_start (context_of s st.directives) q v)

next_alike : (s : Settings) (st : Standing) (sequence : Bool) (q : Start) (v w : Bool) (c : Cursor)
    → place_for s st q v ≡ place_for s st q w
    → levels_behind st.levels (is_simple_start (context_of s st.directives) q v) ≡ levels_behind st.levels (is_simple_start (context_of s st.directives) q w)
    → is_flow s (place_for s st q v) q v ≡ is_flow s (place_for s st q w) q w
    → next s st (opening sequence q) v c ≡ next s st (opening sequence q) w c
unfolding next_at is_simple_event
next_alike s st true q v w c p l f = λ i. record { place = at.Node; levels = record { phase = phase.Items true; flow = f i; indent = indent_of s (p i) true (f i) c } ∷ l i; directives = st.directives }
next_alike s st false q v w c p l f = λ i. record { place = at.Node; levels = record { phase = phase.Keys true; flow = f i; indent = indent_of s (p i) false (f i) c } ∷ l i; directives = st.directives }

start_alike : (s : Settings) (st : Standing) (sequence : Bool) (q : Start) (v w : Bool)
    → before_node s (top_of st.levels) (is_simple_start (context_of s st.directives) q v) ≡ before_node s (top_of st.levels) (is_simple_start (context_of s st.directives) q w)
    → place_for s st q v ≡ place_for s st q w
    → levels_behind st.levels (is_simple_start (context_of s st.directives) q v) ≡ levels_behind st.levels (is_simple_start (context_of s st.directives) q w)
    → is_flow s (place_for s st q v) q v ≡ is_flow s (place_for s st q w) q w
    → IsSame s st (opening sequence q) v w
start_alike s st sequence q v w e p l f = (
  sym (start_is s st sequence q v) ∙ ((λ i. (e i ▹ (properties_text (context_of s st.directives) q.anchor (start_tag s.canonical q) ▹ when (f i) (opener (opener_of sequence)))) ▹ indented (indent_of s (p i) sequence (f i)) checked) ∙ start_is s st sequence q w),
  λ c. next_alike s st sequence q v w c p l f,
)

-- ---- in canonical form

simple_off : (s : Settings) (ds : List TagDirective) (q : Start) (v : Bool) → s.canonical ≡ true
    → is_simple_start (context_of s ds) q v ≡ false
unfolding is_simple_start
simple_off s ds q v c = rw c refl

same_canonical : (s : Settings) (st : Standing) (sequence : Bool) (q : Start) (v w : Bool)
    → s.canonical ≡ true → IsSame s st (opening sequence q) v w
same_canonical s st sequence q v w c =
    let simple : is_simple_start (context_of s st.directives) q v ≡ is_simple_start (context_of s st.directives) q w = simple_off s st.directives q v c ∙ sym (simple_off s st.directives q w c) in
    let a : is_flow s (place_for s st q v) q v ≡ true = ap (λ z. z || ((place_for s st q v).flow || (q.flow || v))) c in
    let b : is_flow s (place_for s st q w) q w ≡ true = ap (λ z. z || ((place_for s st q w).flow || (q.flow || w))) c in
    start_alike s st sequence q v w (ap (before_node s (top_of st.levels)) simple) (ap (position_of (top_of st.levels)) simple) (ap (levels_behind st.levels) simple) (a ∙ sym b)

-- ---- where it is flow anyway

flow_bits : (c a f v : Bool) → (a || f) ≡ true → (c || (a || (f || v))) ≡ true
flow_bits true a f v h = refl
flow_bits false true f v h = refl
flow_bits false false true v h = refl
flow_bits false false false v h = absurd (true≢false (sym h))

same_keyless : (s : Settings) (st : Standing) (sequence : Bool) (q : Start) (v w : Bool)
    → keys_at (top_of st.levels) ≡ false
    → ((position_of (top_of st.levels) false).flow || q.flow) ≡ true
    → IsSame s st (opening sequence q) v w
same_keyless s st sequence q v w k f =
    let top = top_of st.levels in
    let x = is_simple_start (context_of s st.directives) q v in
    let y = is_simple_start (context_of s st.directives) q w in
    let a : ((place_for s st q v).flow || q.flow) ≡ true = ap (λ (z : NodePosition). z.flow || q.flow) (position_keyless top x false k) ∙ f in
    let b : ((place_for s st q w).flow || q.flow) ≡ true = ap (λ (z : NodePosition). z.flow || q.flow) (position_keyless top y false k) ∙ f in
    start_alike s st sequence q v w (before_keyless s top x y k) (position_keyless top x y k) (levels_keyless st.levels x y k)
    (flow_bits s.canonical (place_for s st q v).flow q.flow v a ∙ sym (flow_bits s.canonical (place_for s st q w).flow q.flow w b))

-- ---- where an emitter doesn't ask

unasked_parts : (c k f : Bool) → (not c && (k || not f)) ≡ false
    → (c ≡ true) ⊎ ((k ≡ false) × (f ≡ true))
unasked_parts true k f h = inl refl
unasked_parts false true f h = absurd (true≢false h)
unasked_parts false false true h = inr (refl, refl)
unasked_parts false false false h = absurd (true≢false h)

start_unasked : (s : Settings) (l : State) (flow : Bool) (n : ℕ) (st : Standing) (sequence : Bool)
    (q : Start) (v w : Bool) → level_by (phase_of l) flow n ≡ top_of st.levels
    → asks_at s.canonical l ((position_of (level_by (phase_of l) flow n) false).flow || q.flow) ≡ false
    → IsSame s st (opening sequence q) v w
start_unasked s l flow n st sequence q v w t h =
    elim (unasked_parts s.canonical (is_key l) ((position_of (level_by (phase_of l) flow n) false).flow || q.flow) h) [
      | inl c ↦ same_canonical s st sequence q v w c
      | inr k ↦ same_keyless s st sequence q v w (ap keys_at (sym t) ∙ (keys_is l flow n ∙ k.0)) (ap (λ (z : Option Open). (position_of z false).flow || q.flow) (sym t) ∙ k.1)
    ]

-- the same of any event
pub event_unasked : (s : Settings) (l : State) (flow : Bool) (n : ℕ) (st : Standing) (e : Event)
    (v w : Bool) → level_by (phase_of l) flow n ≡ top_of st.levels
    → asks_empty s.canonical l (position_of (level_by (phase_of l) flow n) false).flow e ≡ false
    → IsSame s st e v w
unfolding text_at depth_at next_at is_simple_event
event_unasked s l flow n st (sequence_start q) v w t h = start_unasked s l flow n st true q v w t h
event_unasked s l flow n st (mapping_start q) v w t h = start_unasked s l flow n st false q v w t h
event_unasked s l flow n st _ v w t h = (refl, λ d. refl)

asked_bits : (c x : Bool) → (not c && x) ≡ true → (not c && true) ≡ true
asked_bits true x h = absurd (true≢false (sym h))
asked_bits false x h = refl

-- one that asks opens a collection, and the form isn't canonical
pub some_asked : (c : Bool) (l : State) (inside : Bool) (e : Event)
    → asks_empty c l inside e ≡ true → (not c && opens e) ≡ true
some_asked c l inside (sequence_start q) h = asked_bits c (is_key l || not (inside || q.flow)) h
some_asked c l inside (mapping_start q) h = asked_bits c (is_key l || not (inside || q.flow)) h
some_asked c l inside _ h = absurd (true≢false (sym h))
