-- What comes before an entry, on a draft.
use Rattle.std.proofs.Common.{◌≡◌, ℕ, zero, suc, ◌+◌, ◌-◌, ◌≤◌, List, [], ◌∷◌, Bool, true, false, refl, subst, ◌∙◌, ap, arith}
use Rattle.std.specs.Prelude.{◌==◌, if◌then◌else◌}
use Rattle.std.proofs.lemmas.Bool.Decides.{nat_tests}
use Rattle.yaml_emit_layout.specs.declared.cursor.Cursor.{Cursor}
use Rattle.yaml_emit_layout.specs.declared.settings.LineBreak.{LineBreak}
use Rattle.yaml_emit_layout.specs.declared.settings.Settings.{Settings}
use Rattle.yaml_emit_layout.specs.Text.{Item, letter}
use Rattle.yaml_emit_layout.specs.Layout.{Layout, Rest, ◌▹◌, stay, when, char, letters, line, is_past}
use Rattle.yaml_emit_layout.specs.LineStarts.{mark_word}
use Rattle.yaml_emit_layout.proofs.Sinks.{cond_true, cond_false}
use Rattle.yaml_emit_layout.specs.Nodes.{turned, line_at, wrap_at, before_item, before_key, before_value}
use Rattle.yaml_emit_layout.specs.State.{before_node}
use Rattle.yaml_emit_output.specs.Draft.{Page, Lays, line_mark}
use Rattle.yaml_emit_scalars.proofs.LaysLemmas.{lays_is, lays_same}
use Rattle.yaml_emit_core.specs.Pages.{behind_comma, entry, mark_of}
use Rattle.yaml_emit_core.specs.declared.level.State.{State}
use Rattle.yaml_emit_core.specs.declared.level.State.TheVariants as state
use Rattle.yaml_emit_core.specs.Levels.{phase_of, level_by, is_further, is_entry, is_behind_simple}

pub past_here : (comma : Bool) (width : ℕ) (c : Cursor) → comma ≡ false
    → is_past width c ≡ is_past width (behind_comma comma c)
past_here true width c e = absurd (cc)
past_here false width c e = refl

behind : (comma : Bool) (x y : Layout) (c : Cursor) (rest : Rest)
    → x (behind_comma comma c) rest ≡ y (behind_comma comma c) rest
    → (when comma (char 44) ▹ x) c rest ≡ (when comma (char 44) ▹ y) c rest
behind true x y c rest e = ap (λ (t : List Item). letter 44 ∷ t) e
behind false x y c rest e = e

marks_same : (n m : ℕ) (c : Cursor) (rest : Rest) (k : LineBreak)
    → (line k n ▹ mark_word m) c rest ≡ (line k n ▹ line_mark m false) c rest
marks_same n zero c rest k = refl
marks_same n (suc m) c rest k = refl

turned_line : (s : Settings) (n : ℕ) (c : Cursor) (rest : Rest) → s.canonical ≡ true
    → turned s n c rest ≡ line s.line_break n c rest
unfolding turned
turned_line s n c rest e = ap (λ (t : Layout). t c rest) (cond_true s.canonical (line_at s n) (wrap_at s n) e)

turned_wrap : (s : Settings) (n : ℕ) (c : Cursor) (rest : Rest) → s.canonical ≡ false
    → turned s n c rest ≡ (if is_past s.width c then line s.line_break n c rest else rest c)
unfolding turned
turned_wrap s n c rest e = ap (λ (t : Layout). t c rest) (cond_false s.canonical (line_at s n) (wrap_at s n) e)

-- in canonical form
pub entry_canonical : (s : Settings) (a b : Page) (comma : Bool) (n m : ℕ) → s.canonical ≡ true
    → a.line_break ≡ s.line_break
    → Lays a b (when comma (char 44) ▹ (line a.line_break n ▹ line_mark m false)) stay → Lays a b (entry s comma n m) stay
entry_canonical s a b comma n m e k w =
    let c = a.output.cursor in
    let P : LineBreak → Type 0 = λ z. Lays a b (when comma (char 44) ▹ (line z n ▹ line_mark m false)) stay in
    lays_is a b (when comma (char 44) ▹ (line s.line_break n ▹ line_mark m false)) (entry s comma n m)
    (λ rest. behind comma (turned s n ▹ mark_word m) (line s.line_break n ▹ line_mark m false) c rest
    (turned_line s n (behind_comma comma c) (λ d. mark_word m d rest) e ∙ marks_same n m (behind_comma comma c) rest s.line_break))
    (subst P k w)

-- past the width
pub entry_past : (s : Settings) (a b : Page) (comma : Bool) (n m : ℕ) → s.canonical ≡ false
    → a.line_break ≡ s.line_break
    → is_past s.width (behind_comma comma a.output.cursor) ≡ true
    → Lays a b (when comma (char 44) ▹ (line a.line_break n ▹ line_mark m false)) stay → Lays a b (entry s comma n m) stay
entry_past s a b comma n m e k p w =
    let c = a.output.cursor in
    let d = behind_comma comma c in
    let P : LineBreak → Type 0 = λ z. Lays a b (when comma (char 44) ▹ (line z n ▹ line_mark m false)) stay in
    lays_is a b (when comma (char 44) ▹ (line s.line_break n ▹ line_mark m false)) (entry s comma n m)
    (λ rest. behind comma (turned s n ▹ mark_word m) (line s.line_break n ▹ line_mark m false) c rest
    (turned_wrap s n d (λ f. mark_word m f rest) e ∙ cond_true (is_past s.width d) (line s.line_break n d (λ f. mark_word m f rest)) (mark_word m d rest) p ∙ marks_same n m d rest s.line_break))
    (subst P k w)

-- in the same line
pub entry_inline : (s : Settings) (a b : Page) (comma : Bool) (n m : ℕ) → s.canonical ≡ false
    → is_past s.width (behind_comma comma a.output.cursor) ≡ false
    → Lays a b (when comma (char 44) ▹ mark_word m) stay → Lays a b (entry s comma n m) stay
entry_inline s a b comma n m e p w =
    let c = a.output.cursor in
    let d = behind_comma comma c in
    lays_is a b (when comma (char 44) ▹ mark_word m) (entry s comma n m)
    (λ rest. behind comma (turned s n ▹ mark_word m) (mark_word m) c rest
    (turned_wrap s n d (λ f. mark_word m f rest) e ∙ cond_false (is_past s.width d) (line s.line_break n d (λ f. mark_word m f rest)) (mark_word m d rest) p))
    w

-- in flow, what comes before a node is an entry
pub flow_entry : (s : Settings) (at : State) (n : ℕ) (simple : Bool) (c : Cursor) (rest : Rest)
    → is_entry at ≡ true
    → before_node s (level_by (phase_of at) true n) simple c rest ≡ entry s (is_further at) n (mark_of at true simple) c rest
unfolding before_item before_key before_value
flow_entry s state.FirstItem n simple c rest i = refl
flow_entry s state.Item n simple c rest i = refl
flow_entry s state.FirstKey n true c rest i = refl
flow_entry s state.FirstKey n false c rest i = refl
flow_entry s state.Key n true c rest i = refl
flow_entry s state.Key n false c rest i = refl
flow_entry s state.Value n simple c rest i = refl
flow_entry s state.StreamStart n simple c rest i = absurd (cc)
flow_entry s state.FirstDocumentStart n simple c rest i = absurd (cc)
flow_entry s state.DocumentStart n simple c rest i = absurd (cc)
flow_entry s state.DocumentContent n simple c rest i = absurd (cc)
flow_entry s state.SimpleValue n simple c rest i = absurd (cc)
flow_entry s state.DocumentEnd n simple c rest i = absurd (cc)
flow_entry s state.End n simple c rest i = absurd (cc)

-- in block collections, a line and a mark
pub block_entry : (s : Settings) (at : State) (n : ℕ) (simple : Bool) (c : Cursor) (rest : Rest)
    → is_entry at ≡ true
    → before_node s (level_by (phase_of at) false n) simple c rest ≡ (line s.line_break n ▹ line_mark (mark_of at false simple) true) c rest
unfolding before_item before_key before_value
block_entry s state.FirstItem n simple c rest i = refl
block_entry s state.Item n simple c rest i = refl
block_entry s state.FirstKey n true c rest i = refl
block_entry s state.FirstKey n false c rest i = refl
block_entry s state.Key n true c rest i = refl
block_entry s state.Key n false c rest i = refl
block_entry s state.Value n simple c rest i = refl
block_entry s state.StreamStart n simple c rest i = absurd (cc)
block_entry s state.FirstDocumentStart n simple c rest i = absurd (cc)
block_entry s state.DocumentStart n simple c rest i = absurd (cc)
block_entry s state.DocumentContent n simple c rest i = absurd (cc)
block_entry s state.SimpleValue n simple c rest i = absurd (cc)
block_entry s state.DocumentEnd n simple c rest i = absurd (cc)
block_entry s state.End n simple c rest i = absurd (cc)

pub before_flow : (s : Settings) (at : State) (flow : Bool) (n : ℕ) (simple : Bool) (a b : Page)
    → is_entry at ≡ true → flow ≡ true
    → Lays a b (entry s (is_further at) n (mark_of at flow simple)) stay → Lays a b (before_node s (level_by (phase_of at) flow n) simple) stay
before_flow s at false n simple a b i f w = absurd (cc)
before_flow s at true n simple a b i f w = lays_is a b (entry s (is_further at) n (mark_of at true simple)) (before_node s (level_by (phase_of at) true n) simple) (λ rest. flow_entry s at n simple a.output.cursor rest i) w

pub before_block : (s : Settings) (at : State) (flow : Bool) (n : ℕ) (simple : Bool) (a b : Page)
    → is_entry at ≡ true → flow ≡ false → a.line_break ≡ s.line_break
    → Lays a b (when false (char 44) ▹ (line a.line_break n ▹ line_mark (mark_of at flow simple) true)) stay
    → Lays a b (before_node s (level_by (phase_of at) flow n) simple) stay
before_block s at true n simple a b i f k w = absurd (cc)
before_block s at false n simple a b i f k w =
    let P : LineBreak → Type 0 = λ z. Lays a b (line z n ▹ line_mark (mark_of at false simple) true) stay in
    lays_is a b (line s.line_break n ▹ line_mark (mark_of at false simple) true) (before_node s (level_by (phase_of at) false n) simple)
    (λ rest. block_entry s at n simple a.output.cursor rest i) (subst P k w)

-- after a simple key
pub before_simple : (s : Settings) (at : State) (flow : Bool) (n : ℕ) (simple : Bool) (a b : Page)
    → is_behind_simple at ≡ true → Lays a b (letters (58 ∷ [])) stay
    → Lays a b (before_node s (level_by (phase_of at) flow n) simple) stay
unfolding before_value letters
before_simple s state.SimpleValue flow n simple a b e w = lays_is a b (letters (58 ∷ [])) (before_node s (level_by (phase_of state.SimpleValue) flow n) simple) (λ rest. refl) w
before_simple s state.StreamStart flow n simple a b e w = absurd (cc)
before_simple s state.FirstDocumentStart flow n simple a b e w = absurd (cc)
before_simple s state.DocumentStart flow n simple a b e w = absurd (cc)
before_simple s state.DocumentContent flow n simple a b e w = absurd (cc)
before_simple s state.FirstItem flow n simple a b e w = absurd (cc)
before_simple s state.Item flow n simple a b e w = absurd (cc)
before_simple s state.FirstKey flow n simple a b e w = absurd (cc)
before_simple s state.Key flow n simple a b e w = absurd (cc)
before_simple s state.Value flow n simple a b e w = absurd (cc)
before_simple s state.DocumentEnd flow n simple a b e w = absurd (cc)
before_simple s state.End flow n simple a b e w = absurd (cc)

-- outside of collections
pub before_none : (s : Settings) (at : State) (flow : Bool) (n : ℕ) (simple : Bool) (a : Page)
    → is_entry at ≡ false → is_behind_simple at ≡ false
    → Lays a a (before_node s (level_by (phase_of at) flow n) simple) stay
before_none s state.StreamStart flow n simple a e f = lays_same a stay
before_none s state.FirstDocumentStart flow n simple a e f = lays_same a stay
before_none s state.DocumentStart flow n simple a e f = lays_same a stay
before_none s state.DocumentContent flow n simple a e f = lays_same a stay
before_none s state.FirstItem flow n simple a e f = absurd (cc)
before_none s state.Item flow n simple a e f = absurd (cc)
before_none s state.FirstKey flow n simple a e f = absurd (cc)
before_none s state.Key flow n simple a e f = absurd (cc)
before_none s state.SimpleValue flow n simple a e f = absurd (cc)
before_none s state.Value flow n simple a e f = absurd (cc)
before_none s state.DocumentEnd flow n simple a e f = lays_same a stay
before_none s state.End flow n simple a e f = lays_same a stay
