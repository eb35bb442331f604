-- What ends a collection, and the state after it.
use Rattle.std.proofs.Common.{◌≡◌, ◌≢◌, ℕ, zero, suc, ◌+◌, ◌-◌, ◌<◌, List, [], ◌∷◌, Bool, true, false, refl, sym, subst, ◌∙◌, ap, arith}
use Rattle.std.specs.Prelude.{◌&&◌, Option}
use Rattle.yaml_emit_layout.specs.declared.cursor.Cursor.{Cursor}
use Rattle.yaml_emit_layout.specs.declared.settings.LineBreak.{LineBreak}
use Rattle.yaml_emit_layout.specs.declared.settings.Settings.{Settings}
use Rattle.yaml_emit_layout.specs.Text.{Item, letter}
use Rattle.yaml_emit_layout.specs.Layout.{Layout, Rest, ◌▹◌, stay, when, char, letters, line}
use Rattle.yaml_emit_layout.proofs.Lines.{line_lands}
use Rattle.yaml_parse_model.specs.Events.{TagDirective}
use Rattle.yaml_emit_layout.specs.declared.level.Level.{Level as Open}
use Rattle.yaml_emit_layout.specs.declared.level.Expected.{Expected}
use Rattle.yaml_emit_layout.specs.Nodes.{closer, context_of}
use Rattle.yaml_emit_layout.specs.State.{top_of, outer_of, place_at, text_at, depth_at, piece, next, next_at}
use Rattle.yaml_emit_output.specs.Draft.{Page as Paper, line_mark, Lays}
use Rattle.yaml_emit_scalars.proofs.LaysLemmas.{lays_is, lays_same}
use Rattle.yaml_emit_core.specs.declared.level.State.{State}
use Rattle.yaml_emit_core.specs.declared.level.State.TheVariants as state
use Rattle.yaml_emit_core.specs.Levels.{phase_of, level_by, place_of, is_further, may_end, ending, bracket_of, Stack, state_at}
use Rattle.yaml_emit_core.specs.Pages.{closer_by}

marked : (m n : ℕ) (kept : Bool) (rest : Rest)
    → char (suc m) (record { column = n; white = true; bare = true; kept = kept }) rest ≡ line_mark (suc m) false (record { column = n; white = true; bare = true; kept = kept }) rest
unfolding letters
marked m n kept rest = refl

-- the last line
pub last_lays : (k l : LineBreak) (n x : ℕ) (a b : Paper) → 0 < x → k ≡ l
    → Lays a b (when true (char 44) ▹ (line k n ▹ line_mark x false)) stay
    → Lays a b ((char 44 ▹ line l n) ▹ char x) stay
last_lays k l n zero a b h e p = absurd (omega (arith, h))
last_lays k l n (suc m) a b h e p =
    let P : LineBreak → Type 0 = λ z. Lays a b ((char 44 ▹ line z n) ▹ char (suc m)) stay in
    subst P e (lays_is a b (when true (char 44) ▹ (line k n ▹ line_mark (suc m) false)) ((char 44 ▹ line k n) ▹ char (suc m))
    (λ rest. ap (λ (t : List Item). letter 44 ∷ t) (line_lands k n (char (suc m)) (line_mark (suc m) false) rest (λ kept. marked m n kept rest) (record { column = a.output.cursor.column + 1; white = false; bare = false; kept = a.output.cursor.kept }))) p)

pub one_lays : (x : ℕ) (a b : Paper) → Lays a b (letters (x ∷ [])) stay → Lays a b (char x) stay
unfolding letters
one_lays x a b p = p

pub closer_due : (s : Settings) (n x : ℕ) (further : Bool) (k : LineBreak) (a b : Paper)
    → (s.canonical && further) ≡ true → k ≡ s.line_break
    → Lays a b ((char 44 ▹ line k (n - s.indent)) ▹ char x) stay → Lays a b (closer_by s n further x) stay
closer_due s n x further k a b d e p =
    let P : LineBreak → Type 0 = λ z. Lays a b ((char 44 ▹ line z (n - s.indent)) ▹ char x) stay in
    let Q : Bool → Type 0 = λ z. Lays a b (when z (char 44 ▹ line s.line_break (n - s.indent)) ▹ char x) stay in
    subst Q (sym d) (subst P e p)

pub closer_none : (s : Settings) (n x : ℕ) (further : Bool) (a b : Paper)
    → (s.canonical && further) ≡ false
    → Lays a b (char x) stay → Lays a b (closer_by s n further x) stay
closer_none s n x further a b d p =
    let Q : Bool → Type 0 = λ z. Lays a b (when z (char 44 ▹ line s.line_break (n - s.indent)) ▹ char x) stay in
    subst Q (sym d) p

pub flow_due : (flow : Bool) (x : Layout) (a b : Paper) → flow ≡ true → Lays a b x stay
    → Lays a b (when flow x) stay
flow_due flow x a b e p = let P : Bool → Type 0 = λ z. Lays a b (when z x) stay in subst P (sym e) p

pub flow_none : (flow : Bool) (x : Layout) (a : Paper) → flow ≡ false → Lays a a (when flow x) stay
flow_none flow x a e = let P : Bool → Type 0 = λ z. Lays a a (when z x) stay in subst P (sym e) (lays_same a stay)

-- what is written for an end
end_text : (st : State) (sequence flow empty : Bool) (n : ℕ) (s : Settings)
    (ds : List TagDirective) (place : Expected) → may_end sequence st ≡ true
    → when flow (closer_by s n (is_further st) (bracket_of sequence)) ≡ text_at (context_of s ds) place (level_by (phase_of st) flow n) (ending sequence) empty
unfolding text_at closer
end_text state.StreamStart true flow empty n s ds place e = absurd (cc)
end_text state.FirstDocumentStart true flow empty n s ds place e = absurd (cc)
end_text state.DocumentStart true flow empty n s ds place e = absurd (cc)
end_text state.DocumentContent true flow empty n s ds place e = absurd (cc)
end_text state.FirstItem true true empty n s ds place e = refl
end_text state.FirstItem true false empty n s ds place e = refl
end_text state.Item true true empty n s ds place e = refl
end_text state.Item true false empty n s ds place e = refl
end_text state.FirstKey true flow empty n s ds place e = absurd (cc)
end_text state.Key true flow empty n s ds place e = absurd (cc)
end_text state.SimpleValue true flow empty n s ds place e = absurd (cc)
end_text state.Value true flow empty n s ds place e = absurd (cc)
end_text state.DocumentEnd true flow empty n s ds place e = absurd (cc)
end_text state.End true flow empty n s ds place e = absurd (cc)
end_text state.StreamStart false flow empty n s ds place e = absurd (cc)
end_text state.FirstDocumentStart false flow empty n s ds place e = absurd (cc)
end_text state.DocumentStart false flow empty n s ds place e = absurd (cc)
end_text state.DocumentContent false flow empty n s ds place e = absurd (cc)
end_text state.FirstItem false flow empty n s ds place e = absurd (cc)
end_text state.Item false flow empty n s ds place e = absurd (cc)
end_text state.FirstKey false true empty n s ds place e = refl
end_text state.FirstKey false false empty n s ds place e = refl
end_text state.Key false true empty n s ds place e = refl
end_text state.Key false false empty n s ds place e = refl
end_text state.SimpleValue false flow empty n s ds place e = absurd (cc)
end_text state.Value false flow empty n s ds place e = absurd (cc)
end_text state.DocumentEnd false flow empty n s ds place e = absurd (cc)
end_text state.End false flow empty n s ds place e = absurd (cc)

end_depth : (sequence empty : Bool) (s : Settings) (ds : List TagDirective) (top : Option Open)
    → depth_at (context_of s ds) top (ending sequence) empty ≡ stay
unfolding depth_at
end_depth true empty s ds top = refl
end_depth false empty s ds top = refl

pub end_piece : (st : State) (u : Bool) (ls : List Open) (flow : Bool) (n x : ℕ) (s : Settings)
    (ds : List TagDirective) (sequence empty : Bool) (a b : Paper)
    → may_end sequence st ≡ true → level_by (phase_of st) flow n ≡ top_of ls → x ≡ bracket_of sequence
    → Lays a b (when flow (closer_by s n (is_further st) x)) stay
    → Lays a b (piece s (state_at (record { state = st; levels = ls }) u ds) (ending sequence) empty) stay
end_piece st u ls flow n x s ds sequence empty a b w t e p =
    let top = level_by (phase_of st) flow n in
    let place = place_of st u in
    let P : ℕ → Type 0 = λ z. Lays a b (when flow (closer_by s n (is_further st) z)) stay in
    let Q : Layout → Type 0 = λ z. Lays a b z stay in
    let R : Option Open → Type 0 = λ z. Lays a b (text_at (context_of s ds) place z (ending sequence) empty ▹ depth_at (context_of s ds) z (ending sequence) empty) stay in
    let D : Layout → Type 0 = λ z. Lays a b (text_at (context_of s ds) place top (ending sequence) empty ▹ z) stay in
    subst R t (subst D (sym (end_depth sequence empty s ds top)) (subst Q (end_text st sequence flow empty n s ds place w) (subst P e p)))

pub end_next : (st : State) (u : Bool) (ls : List Open) (s : Settings) (ds : List TagDirective)
    (sequence empty : Bool) (behind : Cursor) (new : Stack)
    → new.levels ≡ outer_of ls → place_of new.state u ≡ place_at (top_of new.levels)
    → state_at new u ds ≡ next s (state_at (record { state = st; levels = ls }) u ds) (ending sequence) empty behind
unfolding next_at
end_next st u ls s ds true empty behind new l p = λ i. record { place = (p ∙ ap (λ z. place_at (top_of z)) l) i; levels = l i; directives = ds }
end_next st u ls s ds false empty behind new l p = λ i. record { place = (p ∙ ap (λ z. place_at (top_of z)) l) i; levels = l i; directives = ds }
