use Rattle.yaml_scan_text.proofs.TagsLemmas.{bare_read, lone_read}
use Rattle.yaml_scan_text.proofs.tag.bare.Goals as goal

pub returns-then-suffix-behind-clause-value : goal.returns-then-suffix-behind-clause-value
returns-then-suffix-behind-clause-value c = lone_read c.args.text.now c.args.start c.args.arena.now.items c.uri_at.new.arena.items c.in_ok-suffix.suffix c.requires c.in_ok-suffix.ensures.value c.if-suffix-behind.true

pub returns-clause-value : goal.returns-clause-value
returns-clause-value c = bare_read c.args.text.now c.args.start c.args.arena.now.items c.uri_at.new.arena.items c.in_ok-suffix.suffix c.requires c.in_ok-suffix.ensures.value c.if-suffix-behind.false
