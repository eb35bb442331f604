-- An emitter that has laid out nothing.
use Rattle.std.proofs.Common.{◌≡◌, ℕ, ◌<◌, ◌≤◌, ◌^◌, List, [], length, Bool, true, false, IsUtf8, refl, sym, subst, ◌∙◌, ap, arith}
use Rattle.std.specs.Prelude.{Option, Some, None, ℤ, pos, negsuc}
use Rattle.std.proofs.lemmas.Bool.Decides.{nat_tests}
use Rattle.yaml_scan_types.specs.declared.name.yaml_encoding_t.{yaml_encoding_t}
use Rattle.yaml_emit_layout.specs.declared.settings.RequestedSettings.{RequestedSettings}
use Rattle.yaml_emit_layout.specs.Settings.{settled, settled_indent}
use Rattle.std.specs.Str.{chars}
use Rattle.std.proofs.lemmas.List.{take_all}
use Rattle.std.proofs.lemmas.Str.{chars-nil, IsUtf8-from_ascii}
use Rattle.std.proofs.lemmas.Str.Ascii.{IsAscii-nil}
use Rattle.yaml_emit_layout.specs.declared.cursor.Cursor.{Cursor}
use Rattle.yaml_emit_layout.specs.declared.cursor.Status.TheVariants.{Going}
use Rattle.yaml_emit_layout.specs.declared.settings.Encoding.{Encoding}
use Rattle.yaml_emit_layout.specs.declared.settings.Encoding.TheVariants.{Utf8, Utf16Le, Utf16Be}
use Rattle.yaml_emit_layout.specs.declared.settings.Settings.{Settings}
use Rattle.yaml_emit_layout.specs.Sink.{Output}
use Rattle.yaml_emit_layout.specs.declared.level.Level.{Level as Open}
use Rattle.yaml_emit_layout.specs.declared.level.Phase.{Phase}
use Rattle.yaml_emit_layout.specs.declared.level.Phase.TheVariants as phase
use Rattle.yaml_emit_layout.specs.declared.level.Expected.{Expected}
use Rattle.yaml_emit_layout.specs.declared.level.Expected.TheVariants as at
use Rattle.yaml_emit_layout.specs.declared.problem.Problem.{Problem}
use Rattle.yaml_parse_model.specs.Events.{TagDirective}
use Rattle.yaml_emit_output.specs.Draft.{Page as Paper, unlimited}
use Rattle.yaml_emit_output.specs.Sheet.{Sheet, Holds, IsWritten, output_of, bytes_at, spelled}
use Rattle.yaml_emit_core.specs.declared.level.State.{State as Stage}
use Rattle.yaml_emit_core.specs.declared.emitter.resume.yaml_emitter_stand_t.{yaml_emitter_stand_t}
use Rattle.yaml_emit_core.specs.Levels.{Stack, phase_of, place_of, state_in, state_by, stack}
use Rattle.yaml_emit_core.specs.Standing.{IsPlaced, IsStand, Resumes, stage_in, unended_in, refused_in}
use Rattle.yaml_emit_core.specs.Views.{place_by, core_of, IsCore}

pub nothing_at : (x : Encoding) (s : Sheet) → s.encoded ≡ [] → bytes_at x s [] ≡ []
nothing_at Utf8 s e = take_all s.limit [] (omega arith)
nothing_at Utf16Le s e = e
nothing_at Utf16Be s e = e

spelled_none : (x : Encoding) → spelled x (chars []) ≡ []
unfolding spelled
spelled_none x = ap (spelled x) chars-nil

abbrev pub empty_sheet : Encoding → ℕ → Sheet
empty_sheet x limit = record { encoding = x; limit = limit; encoded = []; done = 0; full = false }

abbrev pub empty_text : Cursor → Output
empty_text k = record { bytes = []; limit = unlimited; encoding = Utf8; status = Going; cursor = k }

utf8_none : IsUtf8 []
utf8_none = IsUtf8-from_ascii [] IsAscii-nil

written_none : (x : Encoding) (limit : ℕ) (k : Cursor)
    → IsWritten (empty_sheet x limit) (empty_text k)
written_none x limit k =
    let none : bytes_at x (empty_sheet x limit) [] ≡ [] = nothing_at x (empty_sheet x limit) refl in
    let P : List ℕ → Type 0 = λ z. length z ≤ limit in
    record {
      text = (refl, utf8_none);
      few = omega arith;
      all = none ∙ sym (spelled_none x);
      within = subst P (sym none) (omega arith);
    }

holds_none : (x : Encoding) (limit : ℕ) → Holds (empty_sheet x limit) []
holds_none x limit = record { inside = omega arith; front = utf8_none; encoded = sym (spelled_none x); within = omega arith }

pub fresh_core : (s : Settings) (d : Paper) (o : Sheet) (l : Stack) (u : Bool)
    (ds : List TagDirective) (r : Option Problem) (t : Bool) (limit : ℕ) (k : Cursor)
    → s.indent < 2 ^ 31
    → d.output ≡ empty_text k → (d.line_break ≡ s.line_break) × (d.width ≡ s.width) → o ≡ empty_sheet s.encoding limit
    → IsCore (record { settings = s; draft = d; output = o; levels = l; unended = u; directives = ds; refused = r; starved = t })
fresh_core s d o l u ds r t limit k h e p f =
    let P : Output → Type 0 = λ z. IsWritten o z in
    let Q : Sheet → Type 0 = λ z. IsWritten z (empty_text k) in
    let R : Output → Type 0 = λ z. Holds o z.bytes in
    let S : Sheet → Type 0 = λ z. Holds z [] in
    record {
      on = record { line_break = p.0; width = p.1 };
      encoding = sym (ap (λ (z : Sheet). z.encoding) f);
      step = h;
      written = λ _. subst P (sym e) (subst Q (sym f) (written_none s.encoding limit k));
      holds = λ _. subst R (sym e) (subst S (sym f) (holds_none s.encoding limit));
    }

-- the settings that were settled
indent_small : (z : ℤ) → settled_indent z < 2 ^ 31
indent_small (pos n) = grind (arith, nat_tests)
indent_small (negsuc n) = omega arith

pub settled_step : (w : RequestedSettings) (x : yaml_encoding_t) → (settled w x).indent < 2 ^ 31
settled_step w x = indent_small w.indent

-- ---- one that goes on

in_node : (p : Phase) → place_of (state_in p) false ≡ at.Node
in_node (phase.Items true) = refl
in_node (phase.Items false) = refl
in_node (phase.Keys true) = refl
in_node (phase.Keys false) = refl
in_node (phase.Value true) = refl
in_node (phase.Value false) = refl

place_back : (place : Expected) (innermost : Option Open) → IsPlaced place innermost
    → place_by (refused_in place) (place_of (state_by innermost (stage_in place)) (unended_in place)) ≡ place
place_back at.StreamStart None h = refl
place_back at.StreamStart (Some l) h = absurd (cc h)
place_back (at.Documents true u) None h = refl
place_back (at.Documents false u) None h = refl
place_back (at.Documents true u) (Some l) h = absurd (cc h)
place_back (at.Documents false u) (Some l) h = absurd (cc h)
place_back at.Node None h = refl
place_back at.Node (Some l) h = in_node l.phase
place_back at.DocumentEnd None h = refl
place_back at.DocumentEnd (Some l) h = absurd (cc h)
place_back at.End None h = refl
place_back at.End (Some l) h = absurd (cc h)
place_back (at.Refused p) innermost h = refl

pub stage_outside : (place : Expected) → phase_of (stage_in place) ≡ None
stage_outside at.StreamStart = refl
stage_outside (at.Documents true u) = refl
stage_outside (at.Documents false u) = refl
stage_outside at.Node = refl
stage_outside at.DocumentEnd = refl
stage_outside at.End = refl
stage_outside (at.Refused p) = refl

abbrev pub stood : Option Open → List Open → Stage → Stack
stood innermost outer st = record { state = state_by innermost st; levels = stack innermost outer }

abbrev pub settings_in : Settings → Encoding → Settings
settings_in s x = record { encoding = x; canonical = s.canonical; indent = s.indent; width = s.width; unicode = s.unicode; line_break = s.line_break }

pub resumes : (s : Settings) (limit : ℕ) (stand : yaml_emitter_stand_t) (outer : List Open)
    (ds es : List TagDirective) (d : Paper) (o : Sheet) (l : Stack) (u : Bool) (r : Option Problem)
    → d.output ≡ empty_text stand.cursor → o ≡ empty_sheet stand.encoding limit
    → l ≡ record { state = state_by stand.innermost (stage_in stand.place); levels = stack stand.innermost outer } → IsStand stand outer
    → u ≡ unended_in stand.place → r ≡ refused_in stand.place → es ≡ ds
    → Resumes s limit stand outer ds (core_of (record {
      settings = settings_in s stand.encoding;
      draft = d;
      output = o;
      levels = l;
      unended = u;
      directives = es;
      refused = r;
      starved = false;
    }))
resumes s limit stand outer ds es d o l u r e f g h eu er ed =
    let place =
    ap (λ (z : Option Problem). place_by z (place_of l.state u)) er
    ∙ (ap (λ (z : Bool). place_by (refused_in stand.place) (place_of l.state z)) eu
    ∙ (ap (λ (z : Stack). place_by (refused_in stand.place) (place_of z.state (unended_in stand.place))) g
    ∙ place_back stand.place stand.innermost h.place)) in
    let levels = ap (λ (z : Stack). z.levels) g in
    record {
      settings = ap (λ (z : Sheet). settings_in s z.encoding) f;
      state = λ i. record { place = place i; levels = levels i; directives = ed i };
      output =
          ap (λ (z : Output). output_of o z) e
          ∙ (ap (λ (z : Sheet). output_of z (empty_text stand.cursor)) f
          ∙ ap (λ (z : List ℕ). record { bytes = z; limit = limit; encoding = stand.encoding; status = Going; cursor = stand.cursor }) (nothing_at stand.encoding (empty_sheet stand.encoding limit) refl));
      starved = refl;
    }
