-- Once nothing more is laid out, what was held counts for nothing.
use Rattle.std.proofs.Common.{◌≡◌, ◌≢◌, ◌≤◌, ℕ, zero, ◌+◌, ◌-◌, inr, drop, List, [], ◌∷◌, ◌++◌, length, Bool, true, false, refl, sym, subst, ◌∙◌, ap, arith, Some, length-append}
use Rattle.std.proofs.lemmas.List.{drop_all, length-drop}
use Rattle.std.proofs.lemmas.Bool.{false≢true, or_left}
use Rattle.yaml_scan_model.specs.scan_types.Faults.{Fault, memory_fault}
use Rattle.yaml_emit_layout.specs.declared.Status.{Status}
use Rattle.yaml_emit_layout.specs.declared.Status.TheVariants.{Going, Full, Deep, Starved}
use Rattle.yaml_emit_layout.specs.declared.Expected.{Expected}
use Rattle.yaml_emit_layout.specs.declared.Expected.TheVariants as at
use Rattle.yaml_emit_layout.specs.Text.{Item}
use Rattle.yaml_emit_layout.specs.Layout.{stay}
use Rattle.yaml_emit_layout.specs.Sink.{Ends}
use Rattle.yaml_emit_layout.proofs.Sinks.{grows_both}
use Rattle.yaml_emit_layout.specs.Content as said
use Rattle.yaml_emit_layout.specs.Content.{Event}
use Rattle.yaml_emit_core.specs.Steps.{Core, Starves, state_of, settings_of, goes_on, takes_memory}
use Rattle.yaml_emit_core.specs.Finish.{Finishes}
use Rattle.yaml_emit_core.proofs.Noting.{all_there, nothing_blank, noted}
use Rattle.yaml_emit_machine.specs.Held.{is_ready}
use Rattle.yaml_emit_machine.specs.Judged.{refused_at, let_out, refusal_behind, first_wrong, LetsOut, LaysAll, LaysSome, take_memory, first_takes}
use Rattle.yaml_emit_machine.specs.Laying.{LaysOn, LaysEvents}
use Rattle.yaml_emit_machine.specs.Emitter.{write_error, too_deep, problem_fault, memory_origin, refusal_by}
use Rattle.yaml_emit_machine.proofs.Emitting.{stopped_at}
use Rattle.yaml_emit_machine.proofs.Holding.{none_needed}
use Rattle.yaml_emit_machine.proofs.Judging.{going_open, goes_going, some_none, unless_some}
use Rattle.yaml_emit_machine.proofs.Opened.{starved_finishes, starved_all}
use Rattle.yaml_emit_machine.proofs.Taking.{refused_by, stuck_first, stuck_all}

-- ---- the fault of what has stopped

at_stop : (s : Status) (levels : Bool) (p : Expected) → s ≢ Going
    → (f : Fault) × (refusal_by p s levels ≡ Some f)
at_stop Going levels p n = absurd (n refl)
at_stop Full levels p n = (write_error, refl)
at_stop Deep levels p n = (too_deep, refl)
at_stop Starved levels p n = (memory_fault (memory_origin levels), refl)

stop_by : (s : Status) (levels : Bool) (p : Expected) → goes_on s p ≡ false
    → (f : Fault) × (refusal_by p s levels ≡ Some f)
stop_by Going levels (at.Refused x) h = (problem_fault x, refl)
stop_by Going levels _ h = absurd (false≢true (sym h))
stop_by s levels p h = at_stop s levels p (λ g. cc)

stuck_some : (core : Core) (f : Fault) (m n : ℕ) (xs ys : List Event) (whole : List Item)
    → refusal_by core.place core.sink.status core.starved ≡ Some f → core.sink.status ≡ Going
    → LaysSome m (settings_of core) (state_of core) core.sink xs whole
    → LaysSome n (settings_of core) (state_of core) core.sink ys whole
unfolding LaysSome
stuck_some core f m n xs ys whole h g e =
    let r = refused_by core.sink.status core.starved (refused_at core.place) f g h in
    let P : List Item → Type 0 = λ t. Ends core.sink t whole in
    subst P (unless_some (refused_at core.place) r.0 _ _ _ r.1 ∙ sym (unless_some (refused_at core.place) r.0 _ _ _ r.1)) e

-- those that were laid out are no more than there were
few_laid : (n : ℕ) (h held : List Event) (e : Event) → drop n h ≡ held ++ e ∷ [] → n ≤ length h
few_laid n h held e r =
    let a = length-drop n h in
    let b = ap length r ∙ length-append held (e ∷ []) in
    omega (arith, a, b)

-- an event was refused, or the output has stopped
pub on_stuck : (a b : Core) (h held : List Event) (e : Event) → LaysOn a h b (held ++ e ∷ [])
    → goes_on b.sink.status b.place ≡ false → LaysOn a h b []
unfolding Finishes
on_stuck a b h held e p off =
    let k = stop_by b.sink.status b.starved b.place off in
    let x = held ++ e ∷ [] in
    let few = few_laid p.laid h held e p.rest in
    record {
      finishes = λ es whole f. stopped_at b.sink.status (settings_of b) (state_of b) b.sink b.starved k.0 (x ++ es) es whole k.1 (p.finishes es whole f);
      first = λ g es. stuck_first b k.0 es (x ++ es) k.1 g ∙ p.first g es;
      lays = λ es whole f. stuck_all b k.0 (x ++ es) es whole k.1 (p.lays es whole f);
      grows = p.grows;
      going = p.going;
      encoding = p.encoding;
      limit = p.limit;
      memory = p.memory;
      left = λ _. refl;
      laid = length h;
      rest = drop_all (length h) h (omega arith);
      some = λ g m n is es whole f. stuck_some b k.0 ((length h - p.laid) + n) n (x ++ es) es whole k.1 g (p.some g m ((length h - p.laid) + n) (omega (arith, is, few)) es whole f);
      blames = p.blames;
    }

pub lays_stuck : (a b : Core) (h held : List Event) (e : Event) → LaysEvents a h b (held ++ e ∷ [])
    → goes_on b.sink.status b.place ≡ false → LaysEvents a h b []
unfolding refusal_behind first_wrong LetsOut LaysAll
lays_stuck a b h held e p off =
    let k = stop_by b.sink.status b.starved b.place off in
    let x = held ++ e ∷ [] in
    record {
      on = on_stuck a b h held e p.on off;
      refuses = λ g es. stuck_first b k.0 (let_out es) (let_out (x ++ es)) k.1 g ∙ p.refuses g es;
      lets_out = λ es whole f. stuck_all b k.0 (let_out (x ++ es)) (let_out es) whole k.1 (p.lets_out es whole f);
    }

-- ---- memory was refused for an event that has to be held

first_needs : (e : Event) (es : List Event) → is_ready (e ∷ es) ≡ false → takes_memory e ≡ true
first_needs (said.document_start o) es h = refl
first_needs (said.sequence_start q) es h = refl
first_needs (said.mapping_start q) es h = refl
first_needs said.no_event es h = let k = none_needed said.no_event es refl in absurd (false≢true (sym h ∙ k))
first_needs (said.stream_start x) es h = let k = none_needed (said.stream_start x) es refl in absurd (false≢true (sym h ∙ k))
first_needs said.stream_end es h = let k = none_needed said.stream_end es refl in absurd (false≢true (sym h ∙ k))
first_needs (said.document_end x) es h = let k = none_needed (said.document_end x) es refl in absurd (false≢true (sym h ∙ k))
first_needs (said.alias x) es h = let k = none_needed (said.alias x) es refl in absurd (false≢true (sym h ∙ k))
first_needs (said.scalar x) es h = let k = none_needed (said.scalar x) es refl in absurd (false≢true (sym h ∙ k))
first_needs said.sequence_end es h = let k = none_needed said.sequence_end es refl in absurd (false≢true (sym h ∙ k))
first_needs said.mapping_end es h = let k = none_needed said.mapping_end es refl in absurd (false≢true (sym h ∙ k))

-- what waits begins with an event that may take memory
waits_takes : (held : List Event) (e : Event) → is_ready (held ++ e ∷ []) ≡ false
    → (first_takes (held ++ e ∷ []) ≡ true) × (take_memory (held ++ e ∷ []) ≡ true)
waits_takes [] e h = let k = first_needs e [] h in (k, or_left (takes_memory e) (take_memory []) k)
waits_takes (f ∷ fs) e h = let k = first_needs f (fs ++ e ∷ []) h in (k, or_left (takes_memory f) (take_memory (fs ++ e ∷ [])) k)

not_false : (b c : Bool) → (b ≡ false → c ≡ false) → c ≡ true → b ≡ true
not_false true c f h = refl
not_false false c f h = absurd (false≢true (sym (f refl) ∙ h))

pub on_starved : (a b c : Core) (h held : List Event) (e : Event)
    → LaysOn a h b (held ++ e ∷ []) → goes_on b.sink.status b.place ≡ true
    → is_ready (held ++ e ∷ []) ≡ false → Starves b c → LaysOn a h c []
on_starved a b c h held e p on waits s =
    let x = held ++ e ∷ [] in
    let open_still = going_open b.sink.status b.place on in
    let going = goes_going b.sink.status b.place on in
    let takes = waits_takes held e waits in
    record {
      finishes = λ es whole f. starved_finishes b c (x ++ es) es whole s (p.finishes es whole f);
      first = λ g es. absurd (s.stopped g);
      lays = λ es whole f. starved_all b c (x ++ es) es whole s (p.lays es whole f);
      grows = grows_both a.sink.bytes b.sink.bytes c.sink.bytes p.grows (s.text stay).grows;
      going = λ g. absurd (s.stopped g);
      encoding = (s.text stay).encoding ∙ p.encoding;
      limit = (s.text stay).limit ∙ p.limit;
      memory = noted (take_memory h) a c (not_false (take_memory h) (take_memory x) p.left takes.1) (p.going going) s.stopped;
      left = λ _. refl;
      laid = length h;
      rest = drop_all (length h) h (omega arith);
      some = λ g m n is es whole f. absurd (s.stopped g);
      blames = λ _ _. record {
        front = p.laid;
        takes = ap first_takes p.rest ∙ takes.0;
        stands = inr (inr (ap is_ready p.rest ∙ waits), λ es whole f. rw (← p.encoding) (all_there b.sink c.sink [] whole going s.text (nothing_blank b.sink.encoding) (some_none (settings_of b) (state_of b) b.sink (x ++ es) whole open_still (p.some going p.laid zero (omega arith) es whole f))));
      };
    }

pub lays_starved : (a b c : Core) (h held : List Event) (e : Event)
    → LaysEvents a h b (held ++ e ∷ []) → goes_on b.sink.status b.place ≡ true
    → is_ready (held ++ e ∷ []) ≡ false → Starves b c → LaysEvents a h c []
unfolding LetsOut LaysAll
lays_starved a b c h held e p on waits s =
    let x = held ++ e ∷ [] in
    record {
      on = on_starved a b c h held e p.on on waits s;
      refuses = λ g es. absurd (s.stopped g);
      lets_out = λ es whole f. starved_all b c (let_out (x ++ es)) (let_out es) whole s (p.lets_out es whole f);
    }
