use Rattle.std.proofs.Common.{subst, sym}
use Rattle.yaml_scan_decode.specs.DecodedText.{text_bytes}
use Rattle.yaml_scan_core.specs.Asked as asked
use Rattle.yaml_scan_core.specs.Scanning.{IsDecoded}
use Rattle.yaml_scan.proofs.BeginLemmas.{refused_memory, starts_there}
use Rattle.yaml_scan.proofs.Spelling.{decoded_is}
use Rattle.yaml_scan.proofs.known.ScannedText.new.Goals as goal

pub new-requires-clause-decoded : goal.new-requires-clause-decoded
new-requires-clause-decoded c = subst IsDecoded (sym c.as_slice.ensures) (decoded_is c.args.setting c.args.input.now (text_bytes c.in_ok-text.text) c.in_ok-text.ensures.spelled)

pub returns-in-Ok : goal.returns-in-Ok
returns-in-Ok c =
    let e = c.stream_encoding-encoding.result in
    let starts : asked.Starts e (text_bytes c.in_ok-text.text) 1 c.in-Ok.scanner = subst (λ t. asked.Starts e t 1 c.in-Ok.scanner) c.as_slice.ensures c.in-Ok.ensures in
    starts_there c.args.setting c.args.input.now record { text = c.in_ok-text.text; scanner = c.at_rest-scanner.result; locator = c.new-locator.result } c.in-Ok.scanner e starts c.in_ok-text.ensures.text c.stream_encoding-encoding.ensures c.at_rest-scanner.ensures.same (c.new-locator.ensures (text_bytes c.in_ok-text.text))

pub returns : goal.returns
returns c = refused_memory c.args.setting c.args.input.now (text_bytes c.in_ok-text.text) _ c.in_ok-text.ensures.text c.yaml_memory_fault.ensures
