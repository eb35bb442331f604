-- One more event is said.
use Rattle.std.proofs.Common.{◌≡◌, ◌∙◌, ap, sym, subst, refl}
use Rattle.yaml_parse.specs.Events.{Event, EventBody}
use Rattle.yaml_parse.specs.declared.yaml_mark_t.{yaml_mark_t}
use Rattle.yaml_round_reading.specs.ReadingView.{ReadingView}
use Rattle.yaml_round_answers.specs.Listing.{Collected, AddsRecord, placed}
use Rattle.yaml_round_answers.proofs.Saying.{none_collected, one_collected, it_holds}
use Rattle.yaml_round_answers.proofs.parsing.collect.Goals as goal

same_event : (g : Event) (b : EventBody) (s e : yaml_mark_t) → b ≡ g.body → s ≡ g.start_mark
    → e ≡ g.end_mark → placed b s e ≡ g
same_event g b s e p q r = rw (p, q, r) refl

pub events-init : goal.events-init
events-init c = record { ending = refl; collected = none_collected _ _ c.requires }

pub events-preserved : goal.events-preserved
events-preserved c =
    let same = c.marks.ensures.stays in
    record {
      ending = ap (λ (v : ReadingView). v.parser.ending) same ∙ c.in-Event.ensures.finds.ending ∙ c.events.invariant.ending;
      collected = subst (λ z. Collected c.args.reading.now.parser.events z c.push.new.self) (sym (ap (λ (v : ReadingView). v.parser.events) same))
          (one_collected _ _ _ _ _ _ c.events.invariant.collected c.in-Event.ensures.finds.events
          (subst (λ z. AddsRecord c.events.listing z c.push.new.self)
          (same_event c.find.new.self.given _ _ _ (c.event.ensures ∙ ap (λ (v : ReadingView). v.given.body) same) c.marks.ensures.start c.marks.ensures.end)
          (it_holds _ c.push.result c.push.ensures c.if-is_err.ensures.value)));
    }
