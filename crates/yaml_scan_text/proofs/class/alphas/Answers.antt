use Rattle.std.proofs.Common.{◌≡◌, ◌∙◌, false, sym, arith}
use Rattle.yaml_scan_text.proofs.Words.{byte}
use Rattle.yaml_scan_types.specs.Classes.{is_alpha_byte}
use Rattle.yaml_scan_text.proofs.NamesLemmas.{alphas_done, alphas_none, alphas_stop}
use Rattle.yaml_scan_text.proofs.class.alphas.Goals as goal

pub bytes-init : goal.bytes-init
bytes-init c = record { run = alphas_none c.args.text.now c.args.from; inside = c.requires }

pub returns-else-is_alpha : goal.returns-else-is_alpha
returns-else-is_alpha c =
    let stop : is_alpha_byte (byte c.args.text.now c.bytes.at) ≡ false = sym c.is_alpha.ensures ∙ c.if-is_alpha.false in
    alphas_done c.args.text.now c.args.from c.bytes.at c.bytes.invariant.run c.bytes.invariant.inside stop

pub returns-after-bytes : goal.returns-after-bytes
returns-after-bytes c = alphas_done c.args.text.now c.args.from c.bytes.at c.bytes.invariant.run c.bytes.invariant.inside (alphas_stop c.args.text.now c.bytes.at (omega arith))
