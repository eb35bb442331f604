-- Events that are said one after another.
use Rattle.std.proofs.Common.{false, Result, Ok, Err, ◌≡◌, ◌∙◌, ap, sym, subst, refl, ℕ, List, [], ◌∷◌, ◌++◌, append_assoc}
use Rattle.std.proofs.lemmas.List.{append-nil}
use Rattle.std.specs.Result.{IfOk, is_err}
use Rattle.std.specs.declared.alloc.AllocError.{AllocError}
use Rattle.yaml_parse.specs.Events.{Event}
use Rattle.yaml_parse.specs.Resolve.{Told}
use Rattle.yaml_round_answers.specs.declared.record.yaml_c_directive.{yaml_c_directive}
use Rattle.yaml_round_answers.specs.declared.record.yaml_c_event.{yaml_c_event}
use Rattle.yaml_round_answers.specs.declared.listing.Listing.{Listing}
use Rattle.yaml_round_answers.specs.Records.{RecordSays, AllSay, all_directives}
use Rattle.yaml_round_answers.specs.Blocks.{body_texts, body_directives, all_texts, listed_directives}
use Rattle.yaml_round_answers.specs.Listing.{AddsRecord, AreSaid, HoldDirectives, HoldsAll, Collected, StartsEmpty, events_alone}
use Rattle.yaml_round_answers.proofs.Placing.{regrouped}
use Rattle.yaml_round_answers.proofs.Directing.{append_on}

-- one more record says one more event
one_more_says : (bytes : List ℕ) (list : List yaml_c_directive) (rs : List yaml_c_event)
    (es : List Event) (r : yaml_c_event) (e : Event)
    → AllSay bytes list rs es → RecordSays bytes list r e
    → AllSay bytes list (rs ++ r ∷ []) (es ++ e ∷ [])
one_more_says bytes list [] [] r e h s = (s, tt)
one_more_says bytes list [] (x ∷ es) r e h s = absurd h
one_more_says bytes list (y ∷ rs) [] r e h s = absurd h
one_more_says bytes list (y ∷ rs) (x ∷ es) r e h s = (h.0, one_more_says bytes list rs es r e h.1 s)

-- Records that say events say them over equal blocks.
pub say_at : (b c : List ℕ) (d f : List yaml_c_directive) (rs qs : List yaml_c_event)
    (es : List Event) → c ≡ b → f ≡ d → qs ≡ rs
    → AllSay b d rs es → AllSay c f qs es
say_at b c d f rs qs es p q r h =
    subst (λ z. AllSay z f qs es) (sym p) (subst (λ z. AllSay b z qs es) (sym q) (subst (λ z. AllSay b d z es) (sym r) h))

said_on : (old new : Listing) (e : Event) (es : List Event) → AddsRecord old e new → AreSaid old es
    → AreSaid new (es ++ e ∷ [])
said_on old new e es a s more others =
    let bytes : List ℕ = new.bytes.items ++ more in
    let list : List yaml_c_directive = new.directives.items ++ others in
    let before : AllSay bytes list old.events.items es =
    say_at _ bytes _ list _ old.events.items es (regrouped old.bytes.items new.bytes.items more a.bytes)
    (regrouped old.directives.items new.directives.items others a.directives) refl (s (a.bytes.more ++ more) (a.directives.more ++ others)) in
    subst (λ z. AllSay bytes list z (es ++ e ∷ [])) (sym a.events)
    (one_more_says bytes list old.events.items es a.record_of e before record { body = a.body more others; start = a.start; end = a.end; alone = a.alone })

nothing_says : (bytes : List ℕ) (list : List yaml_c_directive) (rs : List yaml_c_event) → rs ≡ []
    → AllSay bytes list rs []
nothing_says bytes list rs e = rw e tt

-- ---- what the blocks hold

texts_snoc : (es : List Event) (e : Event)
    → all_texts (es ++ e ∷ []) ≡ all_texts es ++ body_texts e.body
unfolding all_texts
texts_snoc [] e = append-nil (body_texts e.body)
texts_snoc (x ∷ es) e = ap (λ z. body_texts x.body ++ z) (texts_snoc es e) ∙ sym (append_assoc (body_texts x.body) (all_texts es) (body_texts e.body))

listed_snoc : (es : List Event) (e : Event)
    → listed_directives (es ++ e ∷ []) ≡ listed_directives es ++ body_directives e.body
unfolding listed_directives
listed_snoc [] e = append-nil (body_directives e.body)
listed_snoc (x ∷ es) e =
    ap (λ z. body_directives x.body ++ z) (listed_snoc es e)
    ∙ sym (append_assoc (body_directives x.body) (listed_directives es) (body_directives e.body))

holds_on : (old new : Listing) (e : Event) (es : List Event) → AddsRecord old e new
    → HoldsAll old es → HoldsAll new (es ++ e ∷ [])
holds_on old new e es a h = record {
  bytes = a.put ∙ ap (λ z. z ++ body_texts e.body) h.bytes ∙ sym (texts_snoc es e);
  directives = subst (λ z. HoldDirectives new.bytes.items new.directives.items z) (sym (listed_snoc es e))
      (append_on _ _ old.directives.items _ (listed_directives es) (body_directives e.body) a.bytes h.directives a.list);
}

holds_nothing : (l : Listing) → StartsEmpty l → HoldsAll l []
unfolding all_texts listed_directives all_directives
holds_nothing l e = record { bytes = e.2; directives = λ more. rw e.1 refl }

-- ---- events that are collected

-- before the first event
pub none_collected : (start : List Told) (l : Listing) → StartsEmpty l → Collected start start l
none_collected start l e = record {
  given = [];
  said = λ more others. nothing_says (l.bytes.items ++ more) (l.directives.items ++ others) l.events.items e.0;
  holds = holds_nothing l e;
  split = refl;
}

-- one more event
pub one_collected : (start left rest : List Told) (l m : Listing) (t : Told)
    → Collected start left l → left ≡ t ∷ rest → AddsRecord l t.0 m
    → Collected start rest m
one_collected start left rest l m t c e a = record {
  given = c.given ++ t.0 ∷ [];
  said = said_on l m t.0 c.given a c.said;
  holds = holds_on l m t.0 c.given a c.holds;
  split = c.split ∙ ap (λ z. c.given ++ events_alone z) e ∙ sym (append_assoc c.given (t.0 ∷ []) (events_alone rest));
}

-- what an answer that is no fault says
pub it_holds : (P : Type 0) (r : Result (Unit {0}) AllocError) → IfOk r (λ _. P) → false ≡ is_err r
    → P
it_holds P (Ok x) h e = h
it_holds P (Err x) h e = absurd (cc)
