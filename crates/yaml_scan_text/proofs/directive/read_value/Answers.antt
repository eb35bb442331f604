use Rattle.std.proofs.lemmas.Result.{err_from_is_err_and}
use Rattle.yaml_scan_text.proofs.DirectiveLemmas.{name_wrong, tagged_read, yaml_read, yaml_wrong}
use Rattle.yaml_scan_text.proofs.directive.read_value.Goals as goal

pub returns-in_err-name-clause-value : goal.returns-in_err-name-clause-value
returns-in_err-name-clause-value c =
    let p = err_from_is_err_and c.from_residual.result c.from_residual.ensures.1 in
    rw (p.1, p.2) (name_wrong c.args.text.now c.args.start c.args.arena.now.items c.args.arena.now.items c.in_err-name.field-0.0 c.in_err-name.ensures)

pub returns-in_err-version-in-Yaml-clause-value : goal.returns-in_err-version-in-Yaml-clause-value
returns-in_err-version-in-Yaml-clause-value c =
    let p = err_from_is_err_and c.from_residual-in_err-version-in-Yaml.result c.from_residual-in_err-version-in-Yaml.ensures.1 in
    rw (p.1, p.2) (yaml_wrong c.args.text.now c.args.start c.args.arena.now.items c.args.arena.now.items c.in_ok-name.name c.in_err-version-in-Yaml.field-0.0 c.requires c.in_ok-name.ensures c.in-Yaml.is c.in_err-version-in-Yaml.ensures)

pub returns-in_ok-version-in-Yaml-clause-value : goal.returns-in_ok-version-in-Yaml-clause-value
returns-in_ok-version-in-Yaml-clause-value c = yaml_read c.args.text.now c.args.start c.args.arena.now.items c.in_ok-name.name c.in_ok-version-in-Yaml.field-0 c.requires c.in_ok-name.ensures c.in-Yaml.is c.in_ok-version-in-Yaml.ensures

pub returns-in-Tag-clause-value : goal.returns-in-Tag-clause-value
returns-in-Tag-clause-value c = tagged_read c.args.text.now c.args.start c.args.arena.now.items c.tag_value.new.arena.items c.in_ok-name.name c.tag_value.result c.requires c.in_ok-name.ensures c.in-Tag.is c.tag_value.ensures.value
