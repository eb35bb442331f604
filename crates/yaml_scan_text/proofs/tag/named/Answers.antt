use Rattle.yaml_scan_text.proofs.TagsLemmas.{named_read}
use Rattle.yaml_scan_text.proofs.tag.named.Goals as goal

pub returns-clause-value : goal.returns-clause-value
returns-clause-value c = named_read c.args.text.now c.args.start c.args.name c.args.arena.now.items c.some_uri.new.arena.items c.in_ok-suffix.suffix c.requires.mark c.requires.run c.requires.second c.in_ok-suffix.ensures.value
