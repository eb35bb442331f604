use Rattle.std.proofs.Common.{◌∙◌, inl, inr, refl, sym, ap, subst}
use Rattle.yaml_parse_grammar.specs.Resolve.{Directives}
use Rattle.yaml_parse_grammar.specs.declared.problem.ParseProblem.TheVariants as problem
use Rattle.yaml_parse_states.specs.Views.{directives_of}
use Rattle.yaml_parse_grammar.specs.Resolve.{directive_for, with_tag}
use Rattle.yaml_parse_grammar.specs.Problems.{parser_fault}
use Rattle.yaml_parse_model.specs.scan_types.Faults.{memory_fault}
use Rattle.yaml_parse_model.specs.declared.yaml_origin_t.TheVariants.{Parser as ParserLayer}
use Rattle.yaml_parse_states.specs.declared.parser.Parser.{Parser}
use Rattle.yaml_parse_states.specs.Documents.{Settles}
use Rattle.yaml_parse_states.proofs.Documents.{refuses_from}
use Rattle.yaml_parse_states.proofs.parser.Parser.note_tag.Goals as goal

pub returns-in-Some : goal.returns-in-Some
returns-in-Some g c =
    let t = g.T.Tokens in
    let old = c.args.self.now in
    let ds : Directives = directives_of old.directives in
    let u = t.texts old.tokens in
    let m = t.mark_of old.tokens c.args.at in
    subst (λ z. Settles t (with_tag (directive_for u.handle ds.tags) ds u.handle u.suffix m) old z c.refuse_at.new.self) (sym c.refuse_at.ensures.refused) (record {
      fault = parser_fault problem.DuplicateHandle m m;
      reason = inl (ap (λ o. with_tag o ds u.handle u.suffix m) (ap (λ h. directive_for h ds.tags) (sym c.handle.ensures) ∙ sym c.in-Some.ensures));
      refuses = c.refuse_at.ensures.refuses;
    })

pub returns-in-Err : goal.returns-in-Err
returns-in-Err g c =
    let t = g.T.Tokens in
    let old = c.args.self.now in
    let ds : Directives = directives_of old.directives in
    let u = t.texts old.tokens in
    let m = t.mark_of old.tokens c.args.at in
    subst (λ z. Settles t (with_tag (directive_for u.handle ds.tags) ds u.handle u.suffix m) old z c.lack_memory.new.self) (sym c.lack_memory.ensures.refused) (record {
      fault = memory_fault ParserLayer;
      reason = inr refl;
      refuses = refuses_from t (memory_fault ParserLayer) old c.push_tag.new.self c.lack_memory.new.self (ap (λ (p : Parser _ _). p.tokens) c.push_tag.ensures.same) c.lack_memory.ensures.refuses;
    })
