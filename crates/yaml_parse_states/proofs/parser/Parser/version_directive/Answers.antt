use mir.Syntax.{w32}
use mir.Val.{SFits, to_z, of_z}
use Rattle.std.proofs.lemmas.Int.{to_z-of_z}
use Rattle.std.proofs.Common.{rules, ◌∙◌, refl, sym, ap, subst}
use Rattle.yaml_parse_model.specs.Source.{front_of}
use Rattle.yaml_parse_model.specs.scan_types.Tokens.{Token}
use Rattle.yaml_parse_grammar.specs.Items.{item_at}
use Rattle.yaml_parse_grammar.specs.Items as item
use Rattle.yaml_parse_grammar.specs.Resolve.{Directives}
use Rattle.yaml_scan_model.specs.declared.kind.Kind.TheVariants as kind
use Rattle.yaml_scan_model.specs.Texts.{AreTextsOf, major_in, minor_in}
use Rattle.yaml_parse_states.specs.Views.{directives_of}
use Rattle.yaml_parse_states.specs.Turned.{IsTaken}
use Rattle.yaml_parse_states.proofs.Parts.{with_tokens}
use Rattle.yaml_parse_states.proofs.Documents.{noted_by}
use Rattle.yaml_parse_grammar.specs.Resolve.{with_version}
use Rattle.yaml_parse_grammar.proofs.Utf8.{settled_utf8}
use Rattle.yaml_parse_states.proofs.TextsKept.{settles_utf8}
use Rattle.yaml_parse_states.proofs.parser.Parser.version_directive.Goals as goal

pub returns-clause-notes : goal.returns-clause-notes
returns-clause-notes g c = λ from.
    let t = g.T.Tokens in
    let old = c.args.self.now in
    let u : Token = front_of (t.to_come old.tokens) in
    let ds : Directives = directives_of old.directives in
    let i = item_at (item.version_directive (major_in u.body) (minor_in u.body)) u.start_mark u.end_mark in
    let texts = subst (λ z. AreTextsOf z (t.texts c.skip.new.self)) c.requires.kind.is c.skip.ensures.texts in
    let fits : SFits w32 c.version-major.result.0 = search rules in
    let fits' : SFits w32 c.version-major.result.1 = search rules in
    let major = to_z-of_z w32 c.version-major.result.0 fits in
    let minor = to_z-of_z w32 c.version-major.result.1 fits' in
    let taken : IsTaken t old.tokens c.skip.new.self = record { rest = c.skip.ensures.rest; fault = c.skip.ensures.fault; texts = c.skip.ensures.texts; unasked = c.skip.ensures.unasked; places = c.skip.ensures.places } in
    noted_by t kind.VersionDirective i _ from c.note_version.result old (with_tokens old c.skip.new.self) c.note_version.new.self c.requires.kind taken refl refl refl
    (ap (λ a. with_version ds.version ds.tags a (minor_in u.body) u.start_mark) (sym (major ∙ c.version-major.ensures.major ∙ texts.0))
    ∙ ap (λ b. with_version ds.version ds.tags (to_z w32 (of_z w32 c.version-major.result.0)) b u.start_mark) (sym (minor ∙ c.version-major.ensures.minor ∙ texts.1))
    ∙ ap (with_version ds.version ds.tags (to_z w32 (of_z w32 c.version-major.result.0)) (to_z w32 (of_z w32 c.version-major.result.1))) (sym (ap (λ at. at c.start-start.result) c.skip.ensures.places ∙ c.start-start.ensures)))
    c.note_version.ensures

pub returns-clause-utf8 : goal.returns-clause-utf8
returns-clause-utf8 g c = λ h.
    settles_utf8 g.T.Tokens _ (with_tokens c.args.self.now c.skip.new.self) c.note_version.new.self c.note_version.result c.note_version.ensures
    (settled_utf8 (item.version_directive _ _) _ (directives_of c.args.self.now.directives) tt h.tags) c.skip.ensures.utf8
