use Rattle.std.proofs.Common.{refl, sym, subst, ◌∙◌}
use Rattle.yaml_scan_core.specs.Told.{Locates}
use Rattle.yaml_scan_decode.specs.DecodedText.{text_bytes}
use Rattle.yaml_scan.proofs.RestingLemmas.{fills_over, idle_on, locates_over, ready_on}
use Rattle.yaml_scan.proofs.known.ScannedText.fill.Goals as goal

pub take_known-answer-requires : goal.take_known-answer-requires
take_known-answer-requires c =
    let z = c.args.self.scanner in
    let r = c.on-scanner.result in
    let t = text_bytes c.args.self.text in
    let same = c.on-scanner.ensures.same in
    let text = c.on-scanner.ensures.text ∙ c.as_slice.ensures in
    record {
      ready = ready_on z r t same text c.requires.ready;
      idle = idle_on z r t same text c.requires.idle;
      locates = subst (λ n. Locates n c.args.self.locator) (sym text) c.requires.locates;
      none = c.requires.none;
    }

pub returns : goal.returns
returns c =
    let z = c.args.self.scanner in
    let r = c.on-scanner.result in
    let s = c.take_known-answer.new.scanner in
    let q = c.at_rest-scanner.result in
    let t = text_bytes c.args.self.text in
    let ks = c.take_known-answer.new.queue.known.items in
    let text = c.on-scanner.ensures.text ∙ c.as_slice.ensures in
    let e = c.take_known-answer.ensures in
    record {
      text = refl;
      locates = locates_over r s t ks c.take_known-answer.new.locator c.take_known-answer.result text e.fills e.locates;
      taken = e.taken;
      fills = fills_over z r s q t ks c.take_known-answer.result c.on-scanner.ensures.same text c.at_rest-scanner.ensures.same e.fills;
    }
