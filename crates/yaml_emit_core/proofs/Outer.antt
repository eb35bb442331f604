-- Events of the stream and of documents' ends.
use Rattle.std.proofs.Common.{◌≡◌, ℕ, List, [], Bool, true, false, refl, sym, ◌∙◌}
use Rattle.std.specs.Prelude.{if◌then◌else◌, Option, Some, None}
use Rattle.std.proofs.lemmas.Bool.{false≢true}
use Rattle.yaml_scan_types.specs.declared.name.yaml_encoding_t.{yaml_encoding_t}
use Rattle.yaml_scan_model.specs.declared.record.yaml_version_directive_t.{yaml_version_directive_t}
use Rattle.yaml_parse_model.specs.Events.{TagDirective, borrowed_body}
use Rattle.yaml_parse_model.specs.declared.event_ref.EventRef.{EventRef}
use Rattle.yaml_parse_model.specs.declared.event_ref.EventRef.TheVariants as body
use Rattle.yaml_emit_layout.specs.declared.settings.Settings.{Settings}
use Rattle.yaml_emit_layout.specs.declared.level.Level.{Level as Open}
use Rattle.yaml_emit_layout.specs.Content as said
use Rattle.yaml_emit_layout.specs.Content.{emitter_event}
use Rattle.yaml_emit_layout.specs.State.{top_of, problem_at}
use Rattle.yaml_emit_core.specs.declared.level.State.{State}
use Rattle.yaml_emit_core.specs.Levels.{phase_of, level_by, Stack, Stands, state_at}
use Rattle.yaml_emit_core.specs.Judged.{misplaced, fits_at}
use Rattle.yaml_emit_core.specs.Steps.{is_outer, is_document_start}
use Rattle.yaml_emit_core.proofs.Problems.{begin_judged, over_judged, stop_judged, none_judged}
use Rattle.yaml_emit_core.proofs.Fits.{fits, outside_by, between_outside, start_outside, over_outside}

pub outer_judged : (e : said.Event) (st : State) (u f : Bool) (n : ℕ) (ls : List Open)
    (s : Settings) (ds : List TagDirective) → is_outer e ≡ true → is_document_start e ≡ false
    → level_by (phase_of st) f n ≡ top_of ls
    → (if fits_at e st then None else Some (misplaced st)) ≡ problem_at s (state_at (record { state = st; levels = ls }) u ds) e
outer_judged said.no_event st u f n ls s ds i k t = none_judged st u f n ls s ds t
outer_judged (said.stream_start x) st u f n ls s ds i k t = begin_judged st u f n ls s ds x t
outer_judged said.stream_end st u f n ls s ds i k t = stop_judged st u f n ls s ds t
outer_judged (said.document_start o) st u f n ls s ds i k t = absurd (false≢true (sym k))
outer_judged (said.document_end x) st u f n ls s ds i k t = over_judged st u f n ls s ds x t
outer_judged (said.alias name) st u f n ls s ds i k t = absurd (false≢true i)
outer_judged (said.scalar q) st u f n ls s ds i k t = absurd (false≢true i)
outer_judged (said.sequence_start q) st u f n ls s ds i k t = absurd (false≢true i)
outer_judged said.sequence_end st u f n ls s ds i k t = absurd (false≢true i)
outer_judged (said.mapping_start q) st u f n ls s ds i k t = absurd (false≢true i)
outer_judged said.mapping_end st u f n ls s ds i k t = absurd (false≢true i)

fits_outside : (e : said.Event) (st : State) → fits_at e st ≡ true → phase_of st ≡ None
fits_outside said.no_event st h = absurd (false≢true h)
fits_outside (said.stream_start x) st h = start_outside st h
fits_outside said.stream_end st h = between_outside st h
fits_outside (said.document_start o) st h = absurd (false≢true h)
fits_outside (said.document_end x) st h = over_outside st h
fits_outside (said.alias name) st h = absurd (false≢true h)
fits_outside (said.scalar q) st h = absurd (false≢true h)
fits_outside (said.sequence_start q) st h = absurd (false≢true h)
fits_outside said.sequence_end st h = absurd (false≢true h)
fits_outside (said.mapping_start q) st h = absurd (false≢true h)
fits_outside said.mapping_end st h = absurd (false≢true h)

-- one that was judged right has its place, outside of collections
pub outer_fits : (t : Stack) (u : Bool) (s : Settings) (ds : List TagDirective) (e : said.Event)
    → is_outer e ≡ true → is_document_start e ≡ false → Stands t → problem_at s (state_at t u ds) e ≡ None
    → (t.levels ≡ []) × (fits_at e t.state ≡ true)
outer_fits t u s ds e i k h p =
    let b = fits (fits_at e t.state) (misplaced t.state) (outer_judged e t.state u h.0 h.1 t.levels s ds i k h.2 ∙ p) in
    (outside_by t h (fits_outside e t.state b), b)

-- no other event has its place there
pub unfit : (e : EventRef) (st : State)
    → ((x : yaml_encoding_t) → e ≡ body.StreamStart x → ⊥) → (e ≡ body.StreamEnd → ⊥)
    → ((x : Bool) → e ≡ body.DocumentEnd x → ⊥) → false ≡ fits_at (emitter_event (borrowed_body e)) st
unfit body.No st a b d = refl
unfit (body.StreamStart x) st a b d = absurd (a x refl)
unfit body.StreamEnd st a b d = absurd (b refl)
unfit (body.DocumentStart v ds x) st a b d = refl
unfit (body.DocumentEnd x) st a b d = absurd (d x refl)
unfit (body.Alias n) st a b d = refl
unfit (body.Scalar n t v p q y) st a b d = refl
unfit (body.SequenceStart n t m y) st a b d = refl
unfit body.SequenceEnd st a b d = refl
unfit (body.MappingStart n t m y) st a b d = refl
unfit body.MappingEnd st a b d = refl

-- one that doesn't open a document
pub no_opening : (e : EventRef)
    → ((v : Option yaml_version_directive_t) (ds : _) (x : Bool) → e ≡ body.DocumentStart v ds x → ⊥)
    → is_document_start (emitter_event (borrowed_body e)) ≡ false
no_opening body.No c = refl
no_opening (body.StreamStart x) c = refl
no_opening body.StreamEnd c = refl
no_opening (body.DocumentStart v ds x) c = absurd (c v ds x refl)
no_opening (body.DocumentEnd x) c = refl
no_opening (body.Alias n) c = refl
no_opening (body.Scalar n t v p q y) c = refl
no_opening (body.SequenceStart n t m y) c = refl
no_opening body.SequenceEnd c = refl
no_opening (body.MappingStart n t m y) c = refl
no_opening body.MappingEnd c = refl
