use Rattle.std.proofs.Common.{subst}
use Rattle.yaml_round_answers.specs.Listing.{HoldsText}
use Rattle.yaml_round_answers.proofs.Placing.{put_two, grows_on, puts_grows, puts_holds, holds_on}
use Rattle.yaml_round_answers.proofs.listing.directive_record.Goals as goal

pub returns : goal.returns
returns c =
    let h = c.in_ok-handle.ensures in
    let p = c.in_ok-prefix.ensures in
    record {
      grows = grows_on _ _ _ (puts_grows _ _ _ _ h) (puts_grows _ _ _ _ p);
      put = put_two _ _ _ c.deref.result.now c.deref-2.result.now _ _ h.bytes p.bytes c.deref.ensures.value c.deref-2.ensures.value;
      handle = subst (HoldsText c.push_text-2.new.bytes.items c.in_ok-handle.handle) c.deref.ensures.value
          (holds_on _ _ c.in_ok-handle.handle c.deref.result.now (puts_grows _ _ _ _ p) (puts_holds _ _ _ _ h));
      prefix = subst (HoldsText c.push_text-2.new.bytes.items c.in_ok-prefix.prefix) c.deref-2.ensures.value (puts_holds _ _ _ _ p);
    }
