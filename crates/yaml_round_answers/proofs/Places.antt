-- Emitters at checkpoints, and checkpoints of emitters.
use Rattle.std.proofs.Common.{◌≡◌, ◌<◌, ◌^◌, inl, inr, ℕ, Bool, true, false, List, [], ◌++◌, append-nil, length, refl, sym, ap, ◌∙◌, subst, arith, Option, None, Some, is_some, Result, Ok, Err}
use Rattle.std.specs.Prelude.{nat_lt, option_map, IfOk, IfErr}
use Rattle.std.proofs.lemmas.Bool.{false≢true}
use Rattle.std.proofs.lemmas.Bool.Decides.{nat_tests}
use Rattle.std.proofs.lemmas.List.{reverse-reverse}
use Rattle.yaml_parse.specs.declared.yaml_fault_t.{yaml_fault_t}
use Rattle.yaml_parse.specs.declared.yaml_origin_t.TheVariants as origin
use Rattle.yaml_parse.specs.scan_types.Faults.{fault_of, memory_fault, IsMemoryFault, emit_layers, Answers}
use Rattle.yaml_parse.specs.Events.{TagDirective}
use Rattle.yaml_emit.specs.Content.{Event}
use Rattle.yaml_emit.specs.Emitter.{Emitter, settings_in}
use Rattle.yaml_emit.specs.Judged.{refused_at}
use Rattle.yaml_emit.specs.Resuming.{resumed, StandsWhere}
use Rattle.yaml_emit.specs.emit_layout.declared.Cursor.{Cursor}
use Rattle.yaml_emit.specs.emit_layout.declared.Encoding.{Encoding}
use Rattle.yaml_emit.specs.emit_layout.declared.RequestedSettings.{RequestedSettings}
use Rattle.yaml_emit.specs.emit_layout.declared.Expected.{Expected}
use Rattle.yaml_emit.specs.emit_layout.declared.Level.{Level}
use Rattle.yaml_emit.specs.emit_layout.State.{top_of}
use Rattle.yaml_emit.specs.emit_core.Levels.{stack}
use Rattle.yaml_emit.specs.emit_core.declared.yaml_emitter_stand_t.{yaml_emitter_stand_t}
use Rattle.yaml_round_answers.specs.declared.onward.Onward.{Onward}
use Rattle.yaml_round_answers.specs.declared.listing.Listing.{Listing}
use Rattle.yaml_round_answers.specs.declared.standing.yaml_c_stand.{yaml_c_stand}
use Rattle.yaml_round_answers.specs.declared.record.yaml_c_directive.{yaml_c_directive}
use Rattle.yaml_round_answers.specs.declared.record.yaml_c_span.{yaml_c_span}
use Rattle.yaml_round_answers.specs.Listing.{PutsDirectives}
use Rattle.yaml_round_answers.specs.declared.standing.yaml_c_level.{yaml_c_level}
use Rattle.yaml_round_answers.specs.declared.standing.yaml_c_place.{yaml_c_place}
use Rattle.yaml_round_answers.specs.Numbers.{is_set}
use Rattle.yaml_round_answers.specs.Records.{all_directives}
use Rattle.yaml_round_answers.specs.Blocks.{directive_texts}
use Rattle.yaml_round_answers.specs.Leading.{StartsUnder, TakesAllEvents}
use Rattle.yaml_round_answers.specs.Standing.{At, at_meant, stand_if, stand_meant, levels_meant, place_record, place_told, levels_round, outer_levels, outer_if, directives_of, IsFew}
use Rattle.yaml_round_answers.specs.Onward.{GoesFrom, StartsAt, IsStandBy, TellsStandPlace, TellsStand, TellsAt, GoneOn, IsOnwardAt, onward_of, at_of}
use Rattle.yaml_round_answers.proofs.Stands.{stand_there, some_map, few_at, at_there, cursor_by}
use Rattle.yaml_round_answers.proofs.GoingOn.{onward_answer}

-- ---- an emitter at a checkpoint

goes_at : (w : RequestedSettings) (limit : ℕ) (r : yaml_c_place) (stand : yaml_emitter_stand_t)
    (levels : List Level) (ds : List TagDirective) → IsStandBy r stand
    → GoesFrom (resumed w limit stand levels ds) w limit (record {
      encoding = stand.encoding;
      state = record {
        place = stand.place;
        levels = stack stand.innermost levels;
        directives = ds;
      };
      cursor = cursor_by r;
    })
goes_at w limit r stand levels ds is = record {
  requested_settings = refl;
  limit = refl;
  fresh = refl;
  held = refl;
  output = refl;
  status = refl;
  fault = refl;
  settings = refl;
  state = refl;
  cursor = is.cursor;
}

goes_from : (w : RequestedSettings) (limit : ℕ) (r : yaml_c_place) (ls : List yaml_c_level)
    (list : List yaml_c_directive) (bytes : List ℕ) (stand : yaml_emitter_stand_t)
    (levels : List Level) (ds : List TagDirective) (e : Emitter)
    → e ≡ resumed w limit stand levels ds → IsStandBy r stand → levels_meant ls ≡ Some levels
    → all_directives bytes list ≡ Some ds → r.column < 2 ^ 62
    → StartsAt e w limit (option_map Some (at_meant r ls list bytes))
goes_from w limit r ls list bytes stand levels ds e is by l d few =
    let meant = at_there r ls list bytes stand.encoding stand.place stand.innermost levels ds by.encoding by.place by.innermost l d few in
    let P : Option At → Type 0 = λ o. StartsAt e w limit (option_map Some o) in
    let Q : Emitter → Type 0 = λ z. StartsAt z w limit (option_map Some (Some (record {
      encoding = stand.encoding;
      state = record { place = stand.place; levels = stack stand.innermost levels; directives = ds };
      cursor = cursor_by r;
    }))) in
    subst P (sym meant) (subst Q (sym is) (goes_at w limit r stand levels ds by))

-- where the settings are those that were asked for
goes_asked : (v w : RequestedSettings) (limit : ℕ) (r : yaml_c_place) (ls : List yaml_c_level)
    (list : List yaml_c_directive) (bytes : List ℕ) (stand : yaml_emitter_stand_t)
    (levels : List Level) (ds : List TagDirective) (e : Emitter) → v ≡ w
    → e ≡ resumed v limit stand levels ds → IsStandBy r stand → levels_meant ls ≡ Some levels
    → all_directives bytes list ≡ Some ds → r.column < 2 ^ 62
    → StartsAt e w limit (option_map Some (at_meant r ls list bytes))
goes_asked v w limit r ls list bytes stand levels ds e same is by l d few =
    let P : RequestedSettings → Type 0 = λ z. StartsAt e z limit (option_map Some (at_meant r ls list bytes)) in
    subst P same (goes_from v limit r ls list bytes stand levels ds e is by l d few)

pub stand_few : (r : yaml_c_place) (stand : yaml_emitter_stand_t) → IsStandBy r stand
    → r.column < 2 ^ 62 → stand.cursor.column < 2 ^ 62
stand_few r stand is h = subst (λ (n : ℕ). n < 2 ^ 62) (sym (ap (λ (z : Cursor). z.column) is.cursor)) h

pub only_memory : {X : Type 0} (r : Result X yaml_fault_t)
    → IfErr r (λ f. fault_of f ≡ memory_fault origin.Emitter)
    → IfErr r (λ f. IsMemoryFault emit_layers (fault_of f))
only_memory (Ok x) h = h
only_memory (Err f) h = inl h

first_if : (e : Emitter) (w : RequestedSettings) (limit : ℕ) (b : Bool) (o : Option At)
    → b ≡ false → StartsUnder e w limit → StartsAt e w limit (stand_if b o)
first_if e w limit true o h s = absurd (cc)
first_if e w limit false o h s = s

pub starts_first : (x : Result Emitter yaml_fault_t) (w : RequestedSettings) (limit : ℕ)
    (r : yaml_c_place) (ls : List yaml_c_level) (list : List yaml_c_directive) (bytes : List ℕ)
    (b : Bool) → b ≡ is_set r.encoding → b ≡ false → IfOk x (λ e. StartsUnder e w limit)
    → IfOk x (λ e. StartsAt e w limit (stand_meant r ls list bytes))
unfolding stand_meant
starts_first (Ok e) w limit r ls list bytes b is off s = first_if e w limit (is_set r.encoding) (at_meant r ls list bytes) (sym is ∙ off) s
starts_first (Err f) w limit r ls list bytes b is off s = s

pub starts_on : (x : Result Emitter yaml_fault_t) (w : RequestedSettings) (limit : ℕ)
    (r : yaml_c_place) (ls : List yaml_c_level) (list : List yaml_c_directive) (bytes : List ℕ)
    (b : Bool) → b ≡ is_set r.encoding → b ≡ true
    → IfOk x (λ e. StartsAt e w limit (option_map Some (at_meant r ls list bytes)))
    → IfOk x (λ e. StartsAt e w limit (stand_meant r ls list bytes))
unfolding stand_meant
starts_on (Ok e) w limit r ls list bytes b is on s = subst (StartsAt e w limit) (sym (stand_there (is_set r.encoding) (at_meant r ls list bytes) (sym is ∙ on))) s
starts_on (Err f) w limit r ls list bytes b is on s = s

few_below : (n : ℕ) → nat_lt n (2 ^ 62) ≡ true → n < 2 ^ 62
few_below n h = grind (arith, nat_tests, h)

pub few_stand : (r : yaml_c_place) (ls : List yaml_c_level) (list : List yaml_c_directive)
    (bytes : List ℕ) (b : Bool) → b ≡ is_set r.encoding → b ≡ true
    → is_some (stand_meant r ls list bytes) ≡ true → r.column < 2 ^ 62
unfolding stand_meant
few_stand r ls list bytes b is on m =
    let k : is_some (at_meant r ls list bytes) ≡ true = sym (some_map (at_meant r ls list bytes)) ∙ ap (λ o. is_some o) (sym (stand_there (is_set r.encoding) (at_meant r ls list bytes) (sym is ∙ on))) ∙ m in
    few_below r.column (few_at _ _ _ _ _ r k)

pub goes_ok : (x : Result Emitter yaml_fault_t) (v w : RequestedSettings) (limit : ℕ)
    (r : yaml_c_place) (ls : List yaml_c_level) (list : List yaml_c_directive) (bytes : List ℕ)
    (stand : yaml_emitter_stand_t) (levels : List Level) (ds : List TagDirective) → v ≡ w
    → IfOk x (λ e. e ≡ resumed v limit stand levels ds) → IsStandBy r stand
    → levels_meant ls ≡ Some levels → all_directives bytes list ≡ Some ds → r.column < 2 ^ 62
    → IfOk x (λ e. StartsAt e w limit (option_map Some (at_meant r ls list bytes)))
goes_ok (Ok e) v w limit r ls list bytes stand levels ds same is by l d few = goes_asked v w limit r ls list bytes stand levels ds e same is by l d few
goes_ok (Err f) v w limit r ls list bytes stand levels ds same is by l d few = is

-- ---- the checkpoint of an emitter

told_at : Encoding → Expected → List Level → List TagDirective → Cursor → At
told_at x p ls ds c = record {
  encoding = x;
  state = record { place = p; levels = ls; directives = ds };
  cursor = c;
}

same_at : (e : Emitter) (stand : yaml_emitter_stand_t) (outer : List Level)
    (ds : List TagDirective) (r : yaml_c_place) → StandsWhere e stand
    → stack (top_of e.course.state.levels) outer ≡ e.course.state.levels
    → ds ≡ e.course.state.directives → TellsStandPlace stand r
    → told_at stand.encoding stand.place (stack stand.innermost outer) ds (cursor_by r) ≡ at_of e
unfolding told_at
same_at e stand outer ds r is o d t =
    let levels = stack stand.innermost outer in
    ap (λ z. told_at z stand.place levels ds (cursor_by r)) is.encoding
    ∙ ap (λ z. told_at e.course.settings.encoding z levels ds (cursor_by r)) is.place
    ∙ ap (λ z. told_at e.course.settings.encoding e.course.state.place z ds (cursor_by r)) (ap (λ z. stack z outer) is.innermost ∙ o)
    ∙ ap (λ z. told_at e.course.settings.encoding e.course.state.place e.course.state.levels z (cursor_by r)) d
    ∙ ap (told_at e.course.settings.encoding e.course.state.place e.course.state.levels e.course.state.directives) (sym t.cursor ∙ is.cursor)

pub stands_there : (e : Emitter) (stand : yaml_emitter_stand_t) (outer : List Level)
    (ds : List TagDirective) (r : yaml_c_place) (ls : List yaml_c_level)
    (list : List yaml_c_directive) (bytes : List ℕ) → StandsWhere e stand
    → stack (top_of e.course.state.levels) outer ≡ e.course.state.levels
    → ds ≡ e.course.state.directives → TellsStandPlace stand r → levels_meant ls ≡ Some outer
    → all_directives bytes list ≡ Some ds → refused_at e.course.state.place ≡ None
    → IsFew r.column → stand_meant r ls list bytes ≡ Some (Some (at_of e))
unfolding stand_meant told_at
stands_there e stand outer ds r ls list bytes is o d t l k right few =
    let free : refused_at stand.place ≡ None = ap refused_at is.place ∙ right in
    stand_there (is_set r.encoding) (at_meant r ls list bytes) t.some
    ∙ ap (λ (z : Option At). option_map Some z) (at_there r ls list bytes stand.encoding stand.place stand.innermost outer ds t.encoding (t.place free) t.innermost l k few)
    ∙ ap (λ (z : At). Some (Some z)) (same_at e stand outer ds r is o d t)

-- the listing of a document's directives means them
pub listed_mean : (old new : Listing) (ts : List TagDirective) (s : yaml_c_span)
    → old.directives.items ≡ [] → PutsDirectives old ts new s
    → all_directives new.bytes.items new.directives.items ≡ Some ts
listed_mean old new ts s none p =
    let added : new.directives.items ≡ p.list.added = p.list.is ∙ ap (λ (z : List yaml_c_directive). z ++ p.list.added) none in
    ap (all_directives new.bytes.items) added
    ∙ ap (λ (z : List ℕ). all_directives z p.list.added) (sym (append-nil new.bytes.items)) ∙ p.list.hold []

-- its bytes are their texts
pub listed_texts : (old new : Listing) (ts : List TagDirective) (s : yaml_c_span)
    → old.bytes.items ≡ [] → PutsDirectives old ts new s → new.bytes.items ≡ directive_texts ts
listed_texts old new ts s none p = p.put ∙ ap (λ (z : List ℕ). z ++ directive_texts ts) none

-- the numbers of a place are those of the emitter's checkpoint
same_place : (e : Emitter) (stand : yaml_emitter_stand_t) → StandsWhere e stand
    → place_record stand.encoding stand.place stand.innermost stand.cursor stand.waiting
    ≡ place_told (Some (at_of e)) (length e.held)
same_place e stand is =
    ap (λ z. place_record z stand.place stand.innermost stand.cursor stand.waiting) is.encoding
    ∙ ap (λ z. place_record e.course.settings.encoding z stand.innermost stand.cursor stand.waiting) is.place
    ∙ ap (λ z. place_record e.course.settings.encoding e.course.state.place z stand.cursor stand.waiting) is.innermost
    ∙ ap (λ z. place_record e.course.settings.encoding e.course.state.place (top_of e.course.state.levels) z stand.waiting) is.cursor
    ∙ ap (place_record e.course.settings.encoding e.course.state.place (top_of e.course.state.levels) e.course.cursor) is.waiting

-- the collections round the innermost one
round_these : (top : Option Level) (outer levels : List Level) → stack top outer ≡ levels
    → outer_if top outer ≡ outer_levels levels
round_these None outer levels h = ap outer_levels h
round_these (Some l) outer levels h = sym (reverse-reverse outer) ∙ ap outer_levels h

-- those that aren't round any make no difference
same_stack : (top : Option Level) (outer : List Level)
    → stack top (outer_if top outer) ≡ stack top outer
same_stack None outer = refl
same_stack (Some l) outer = refl

tells_at : (e : Emitter) (s : yaml_c_stand) (stand : yaml_emitter_stand_t) (outer : List Level)
    (ds : List TagDirective) → StandsWhere e stand
    → stack (top_of e.course.state.levels) outer ≡ e.course.state.levels
    → ds ≡ e.course.state.directives → TellsStandPlace stand s.place
    → levels_meant s.levels.now ≡ Some (outer_if stand.innermost outer)
    → all_directives s.bytes.now s.directives.now ≡ Some ds
    → s.bytes.now ≡ directive_texts ds → TellsAt s (Some (at_of e)) (length e.held)
tells_at e s stand outer ds is o d t l k b = record {
  place = t.told ∙ same_place e stand is;
  levels = l ∙ ap (λ (z : List Level). Some z) (ap (λ z. outer_if z outer) is.innermost ∙ round_these (top_of e.course.state.levels) outer e.course.state.levels o);
  directives = k ∙ ap (λ (z : List TagDirective). Some z) d;
  bytes = b ∙ ap directive_texts d;
}

outer_stack : (e : Emitter) (stand : yaml_emitter_stand_t) (outer : List Level)
    → StandsWhere e stand → stack (top_of e.course.state.levels) outer ≡ e.course.state.levels
    → stack (top_of e.course.state.levels) (outer_if stand.innermost outer) ≡ e.course.state.levels
outer_stack e stand outer is o =
    ap (λ z. stack (top_of e.course.state.levels) (outer_if z outer)) is.innermost
    ∙ same_stack (top_of e.course.state.levels) outer ∙ o

told_there : (e : Emitter) (s : yaml_c_stand) (stand : yaml_emitter_stand_t) (outer : List Level)
    (ds : List TagDirective) → e.fresh ≡ false → StandsWhere e stand
    → stack (top_of e.course.state.levels) outer ≡ e.course.state.levels
    → ds ≡ e.course.state.directives → TellsStandPlace stand s.place
    → levels_meant s.levels.now ≡ Some (outer_if stand.innermost outer)
    → all_directives s.bytes.now s.directives.now ≡ Some ds
    → s.bytes.now ≡ directive_texts ds → TellsStand e s
told_there e s stand outer ds off is o d t l k b = record {
  nowhere = λ f. absurd (false≢true (sym off ∙ f));
  somewhere = λ there right. (
    λ few. stands_there e stand (outer_if stand.innermost outer) ds s.place s.levels.now s.directives.now s.bytes.now is (outer_stack e stand outer is o) d t l k right few,
    tells_at e s stand outer ds is o d t l k b,
  );
  forced = λ there. is.forced there ∙ ap (settings_in e.requested_settings) is.encoding;
}

-- the lists of the records are these
pub told_stand : (e : Emitter) (s : yaml_c_stand) (stand : yaml_emitter_stand_t)
    (outer : List Level) (ds : List TagDirective) (levels : List yaml_c_level)
    (list : List yaml_c_directive) (bytes : List ℕ) → e.fresh ≡ false → StandsWhere e stand
    → stack (top_of e.course.state.levels) outer ≡ e.course.state.levels
    → ds ≡ e.course.state.directives → TellsStandPlace stand s.place
    → levels_meant levels ≡ Some (outer_if stand.innermost outer)
    → all_directives bytes list ≡ Some ds → bytes ≡ directive_texts ds → s.levels.now ≡ levels
    → s.directives.now ≡ list → s.bytes.now ≡ bytes → TellsStand e s
told_stand e s stand outer ds levels list bytes off is o d t l k b sl sd sb =
    told_there e s stand outer ds off is o d t (ap levels_meant sl ∙ l)
    (ap (λ (z : List ℕ). all_directives z s.directives.now) sb ∙ ap (all_directives bytes) sd ∙ k) (sb ∙ b)

no_levels : levels_meant [] ≡ Some (levels_round None)
unfolding levels_meant
no_levels = refl

no_directives : all_directives [] [] ≡ Some (directives_of None)
unfolding all_directives
no_directives = refl

no_texts : [] ≡ directive_texts (directives_of None)
unfolding directive_texts
no_texts = refl

-- before any event nothing is said
pub tells_none : (s : yaml_c_stand) → s.place ≡ place_told None 0 → s.levels.now ≡ []
    → s.directives.now ≡ [] → s.bytes.now ≡ [] → TellsAt s None 0
tells_none s p l d b = record {
  place = p;
  levels = ap levels_meant l ∙ no_levels;
  directives = ap (λ z. all_directives s.bytes.now z) d ∙ ap (λ (z : List ℕ). all_directives z []) b ∙ no_directives;
  bytes = b ∙ no_texts;
}

pub means_none : (p : yaml_c_place) (ls : List yaml_c_level) (list : List yaml_c_directive)
    (bytes : List ℕ) → p ≡ place_told None 0 → IsFew p.column
    → stand_meant p ls list bytes ≡ Some None
unfolding stand_meant is_set
means_none p ls list bytes none few = ap (λ z. stand_meant z ls list bytes) none

-- ---- the answer, where a checkpoint is meant

meant_answer : (first e : Emitter) (w : RequestedSettings) (limit : ℕ) (o : Option (Option At))
    (es : List Event) (r : Result Onward yaml_fault_t) → StartsAt first w limit o
    → TakesAllEvents first es e → GoneOn e r → Answers emit_layers onward_of (IsOnwardAt w limit o es) r
meant_answer first e w limit None es (Ok r) s all h = tt
meant_answer first e w limit None es (Err f) s all h = inr tt
meant_answer first e w limit (Some at) es r s all h = onward_answer first e w limit at es r s all h

pub onward_at : (first e : Emitter) (w : RequestedSettings) (n limit : ℕ) (o : Option (Option At))
    (es : List Event) (r : Result Onward yaml_fault_t) → n ≡ limit → StartsAt first w n o
    → TakesAllEvents first es e → GoneOn e r → Answers emit_layers onward_of (IsOnwardAt w limit o es) r
onward_at first e w n limit o es r is s all h = meant_answer first e w limit o es r (subst (λ (k : ℕ). StartsAt first w k o) is s) all h
