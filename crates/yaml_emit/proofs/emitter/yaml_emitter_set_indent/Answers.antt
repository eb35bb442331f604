use Rattle.std.proofs.Common.{rules}
use Rattle.yaml_emit.proofs.Setting.{set_again}
use Rattle.yaml_emit.proofs.emitter.yaml_emitter_set_indent.Goals as goal

pub returns : goal.returns
returns c = set_again (λ s. record s { indent = c.args.indent }) c.args.emitter.now _ c.requested_settings.result (search rules) (search rules) c.set_requested_settings.ensures c.requested_settings.ensures
