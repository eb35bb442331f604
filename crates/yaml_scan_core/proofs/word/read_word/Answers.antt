use Rattle.std.proofs.Common.{refl, inl, inr, arith}
use Rattle.yaml_scan_history.specs.declared.kind.Kind.TheVariants as reads
use Rattle.yaml_scan_core.proofs.SpotLemmas.{alias_word, anchor_word, at_kind, at_plain, directive_word, double_word, folded_word, literal_word, plain_read, single_word, tag_word}
use Rattle.yaml_scan_core.proofs.word.read_word.Goals as goal

pub name_word-requires-clause-first : goal.name_word-requires-clause-first
name_word-requires-clause-first c = omega (arith, (at_kind reads.Alias c.args.kind c.args.flow c.args.margin c.args.text.now c.args.spot c.in-Alias.is c.requires.stands))

pub name_word-requires-clause-ascii : goal.name_word-requires-clause-ascii
name_word-requires-clause-ascii c = omega (arith, (at_kind reads.Alias c.args.kind c.args.flow c.args.margin c.args.text.now c.args.spot c.in-Alias.is c.requires.stands))

pub name_word-requires-in-Anchor-clause-first : goal.name_word-requires-in-Anchor-clause-first
name_word-requires-in-Anchor-clause-first c = omega (arith, (at_kind reads.Anchor c.args.kind c.args.flow c.args.margin c.args.text.now c.args.spot c.in-Anchor.is c.requires.stands))

pub name_word-requires-in-Anchor-clause-ascii : goal.name_word-requires-in-Anchor-clause-ascii
name_word-requires-in-Anchor-clause-ascii c = omega (arith, (at_kind reads.Anchor c.args.kind c.args.flow c.args.margin c.args.text.now c.args.spot c.in-Anchor.is c.requires.stands))

pub tag_word-requires-clause-mark : goal.tag_word-requires-clause-mark
tag_word-requires-clause-mark c = (at_kind reads.Tag c.args.kind c.args.flow c.args.margin c.args.text.now c.args.spot c.in-Tag.is c.requires.stands)

pub directive_word-requires-clause-mark : goal.directive_word-requires-clause-mark
directive_word-requires-clause-mark c = (at_kind reads.Directive c.args.kind c.args.flow c.args.margin c.args.text.now c.args.spot c.in-Directive.is c.requires.stands)

pub quoted_word-requires-clause-quote : goal.quoted_word-requires-clause-quote
quoted_word-requires-clause-quote c = inl (refl, (at_kind reads.SingleQuoted c.args.kind c.args.flow c.args.margin c.args.text.now c.args.spot c.in-SingleQuoted.is c.requires.stands))

pub quoted_word-requires-in-DoubleQuoted-clause-quote : goal.quoted_word-requires-in-DoubleQuoted-clause-quote
quoted_word-requires-in-DoubleQuoted-clause-quote c = inr (refl, (at_kind reads.DoubleQuoted c.args.kind c.args.flow c.args.margin c.args.text.now c.args.spot c.in-DoubleQuoted.is c.requires.stands))

pub block_word-requires-clause-mark : goal.block_word-requires-clause-mark
block_word-requires-clause-mark c = inl (refl, (at_kind reads.Literal c.args.kind c.args.flow c.args.margin c.args.text.now c.args.spot c.in-Literal.is c.requires.stands))

pub block_word-requires-in-Folded-clause-mark : goal.block_word-requires-in-Folded-clause-mark
block_word-requires-in-Folded-clause-mark c = inr (refl, (at_kind reads.Folded c.args.kind c.args.flow c.args.margin c.args.text.now c.args.spot c.in-Folded.is c.requires.stands))

pub plain_word-requires-clause-word : goal.plain_word-requires-clause-word
plain_word-requires-clause-word c = at_plain c.args.kind c.args.flow c.args.margin c.args.text.now c.args.spot c.in-Plain.is c.requires.stands

pub returns-in-Alias-clause-value : goal.returns-in-Alias-clause-value
returns-in-Alias-clause-value c = rw (c.in-Alias.is, alias_word c.args.flow c.args.margin c.args.text.now c.args.spot.at) (c.name_word.ensures _)

pub returns-in-Anchor-clause-value : goal.returns-in-Anchor-clause-value
returns-in-Anchor-clause-value c = rw (c.in-Anchor.is, anchor_word c.args.flow c.args.margin c.args.text.now c.args.spot.at) (c.name_word-in-Anchor.ensures _)

pub returns-in-Tag-clause-value : goal.returns-in-Tag-clause-value
returns-in-Tag-clause-value c = rw (c.in-Tag.is, tag_word c.args.flow c.args.margin c.args.text.now c.args.spot.at) c.tag_word.ensures.value

pub returns-in-Directive-clause-value : goal.returns-in-Directive-clause-value
returns-in-Directive-clause-value c = rw (c.in-Directive.is, directive_word c.args.flow c.args.margin c.args.text.now c.args.spot.at) c.directive_word.ensures.value

pub returns-in-SingleQuoted-clause-value : goal.returns-in-SingleQuoted-clause-value
returns-in-SingleQuoted-clause-value c = rw (c.in-SingleQuoted.is, single_word c.args.flow c.args.margin c.args.text.now c.args.spot.at (at_kind reads.SingleQuoted c.args.kind c.args.flow c.args.margin c.args.text.now c.args.spot c.in-SingleQuoted.is c.requires.stands)) c.quoted_word.ensures.value

pub returns-in-DoubleQuoted-clause-value : goal.returns-in-DoubleQuoted-clause-value
returns-in-DoubleQuoted-clause-value c = rw (c.in-DoubleQuoted.is, double_word c.args.flow c.args.margin c.args.text.now c.args.spot.at (at_kind reads.DoubleQuoted c.args.kind c.args.flow c.args.margin c.args.text.now c.args.spot c.in-DoubleQuoted.is c.requires.stands)) c.quoted_word-in-DoubleQuoted.ensures.value

pub returns-in-Literal-clause-value : goal.returns-in-Literal-clause-value
returns-in-Literal-clause-value c = rw (c.in-Literal.is, literal_word c.args.flow c.args.margin c.args.text.now c.args.spot.at (at_kind reads.Literal c.args.kind c.args.flow c.args.margin c.args.text.now c.args.spot c.in-Literal.is c.requires.stands)) c.block_word.ensures.value

pub returns-in-Folded-clause-value : goal.returns-in-Folded-clause-value
returns-in-Folded-clause-value c = rw (c.in-Folded.is, folded_word c.args.flow c.args.margin c.args.text.now c.args.spot.at (at_kind reads.Folded c.args.kind c.args.flow c.args.margin c.args.text.now c.args.spot c.in-Folded.is c.requires.stands)) c.block_word-in-Folded.ensures.value

pub returns-in-Plain-clause-value : goal.returns-in-Plain-clause-value
returns-in-Plain-clause-value c = rw (c.in-Plain.is, plain_read c.args.flow c.args.margin c.args.text.now c.args.spot.at) c.plain_word.ensures.value
