use Rattle.std.proofs.Common.{◌∙◌, refl, sym, ap, subst}
use Rattle.yaml_parse_model.specs.Source.{front_of}
use Rattle.yaml_parse_model.specs.scan_types.Tokens.{Token}
use Rattle.yaml_parse_grammar.specs.Items.{item_at}
use Rattle.yaml_parse_grammar.specs.Items as item
use Rattle.yaml_parse_grammar.specs.Resolve.{Directives}
use Rattle.yaml_scan_model.specs.declared.kind.Kind.TheVariants as kind
use Rattle.yaml_scan_model.specs.Texts.{AreTextsOf, handle_in, suffix_in}
use Rattle.yaml_parse_states.specs.Views.{directives_of}
use Rattle.yaml_parse_states.specs.Turned.{IsTaken}
use Rattle.yaml_parse_states.proofs.Parts.{with_tokens}
use Rattle.yaml_parse_states.proofs.Documents.{noted_by}
use Rattle.yaml_parse_grammar.specs.Resolve.{directive_for, with_tag}
use Rattle.yaml_parse_grammar.proofs.Utf8.{settled_utf8}
use Rattle.yaml_parse_states.proofs.TextsKept.{directive_texts, settles_utf8}
use Rattle.yaml_parse_states.proofs.parser.Parser.tag_directive.Goals as goal

pub returns-clause-notes : goal.returns-clause-notes
returns-clause-notes g c = λ from.
    let t = g.T.Tokens in
    let old = c.args.self.now in
    let u : Token = front_of (t.to_come old.tokens) in
    let ds : Directives = directives_of old.directives in
    let i = item_at (item.tag_directive (handle_in u.body) (suffix_in u.body)) u.start_mark u.end_mark in
    let texts = subst (λ z. AreTextsOf z (t.texts c.skip.new.self)) c.requires.kind.is c.skip.ensures.texts in
    let taken : IsTaken t old.tokens c.skip.new.self = record { rest = c.skip.ensures.rest; fault = c.skip.ensures.fault; texts = c.skip.ensures.texts; unasked = c.skip.ensures.unasked; places = c.skip.ensures.places } in
    noted_by t kind.TagDirective i _ from c.note_tag.result old (with_tokens old c.skip.new.self) c.note_tag.new.self c.requires.kind taken refl refl refl
    (ap (λ h. with_tag (directive_for h ds.tags) ds h (suffix_in u.body) u.start_mark) (sym texts.0)
    ∙ ap (λ p. with_tag (directive_for (t.texts c.skip.new.self).handle ds.tags) ds (t.texts c.skip.new.self).handle p u.start_mark) (sym texts.1)
    ∙ ap (with_tag (directive_for (t.texts c.skip.new.self).handle ds.tags) ds (t.texts c.skip.new.self).handle (t.texts c.skip.new.self).suffix) (sym (ap (λ at. at c.start-start.result) c.skip.ensures.places ∙ c.start-start.ensures)))
    c.note_tag.ensures

pub returns-clause-utf8 : goal.returns-clause-utf8
returns-clause-utf8 g c = λ h.
    let t = g.T.Tokens in
    let old = c.args.self.now in
    let u = t.texts c.skip.new.self in
    settles_utf8 t _ (with_tokens old c.skip.new.self) c.note_tag.new.self c.note_tag.result c.note_tag.ensures
    (settled_utf8 (item.tag_directive u.handle u.suffix) _ (directives_of old.directives)
    (directive_texts (front_of (t.to_come old.tokens)).body u c.requires.kind.is c.skip.ensures.texts (h.next c.requires.tells)) h.tags) c.skip.ensures.utf8
