use Rattle.yaml_parse_states.specs.Members.{members_of}
use Rattle.yaml_parse_states.specs.Coming.{Coming}
use Rattle.yaml_parse_states.specs.Views.{coming_of}
use Rattle.yaml_parse_laws_trees.proofs.LoadsCome.{loads_come}
use Rattle.yaml_parse.proofs.Begins.{begins, fault_of_tokens, told_with, tokens_events, tree_comes}
use Rattle.yaml_parse.proofs.parser.yaml_parser_initialize.Goals as goal

pub returns-clause-tree : goal.returns-clause-tree
returns-clause-tree g c = λ t rest h.
    let ts = g.S.yaml_token_source_t.to_come c.args.source in
    let f = g.S.yaml_token_source_t.fault_to_come c.args.source in
    let come : Coming = coming_of (members_of g.S.yaml_token_source_t.to_come g.S.yaml_token_source_t.fault_to_come) c.new-2.result in
    tree_comes ts f come t rest (begins ts _ f _ come c.new-2.ensures.coming c.new.ensures.to_come c.new.ensures.fault) h

pub returns-clause-events : goal.returns-clause-events
returns-clause-events g c =
    let ts = g.S.yaml_token_source_t.to_come c.args.source in
    let f = g.S.yaml_token_source_t.fault_to_come c.args.source in
    let come : Coming = coming_of (members_of g.S.yaml_token_source_t.to_come g.S.yaml_token_source_t.fault_to_come) c.new-2.result in
    tokens_events ts f come (begins ts _ f _ come c.new-2.ensures.coming c.new.ensures.to_come c.new.ensures.fault)

pub returns-clause-fault : goal.returns-clause-fault
returns-clause-fault g c =
    let ts = g.S.yaml_token_source_t.to_come c.args.source in
    let f = g.S.yaml_token_source_t.fault_to_come c.args.source in
    let come : Coming = coming_of (members_of g.S.yaml_token_source_t.to_come g.S.yaml_token_source_t.fault_to_come) c.new-2.result in
    fault_of_tokens ts f come (begins ts _ f _ come c.new-2.ensures.coming c.new.ensures.to_come c.new.ensures.fault)

pub returns-clause-told : goal.returns-clause-told
returns-clause-told g c = λ e.
    let ts = g.S.yaml_token_source_t.to_come c.args.source in
    let f = g.S.yaml_token_source_t.fault_to_come c.args.source in
    let come : Coming = coming_of (members_of g.S.yaml_token_source_t.to_come g.S.yaml_token_source_t.fault_to_come) c.new-2.result in
    told_with ts f come e (begins ts _ f _ come c.new-2.ensures.coming c.new.ensures.to_come c.new.ensures.fault)

pub returns-clause-loading : goal.returns-clause-loading
returns-clause-loading g c = λ h.
    let ts = g.S.yaml_token_source_t.to_come c.args.source in
    let f = g.S.yaml_token_source_t.fault_to_come c.args.source in
    let come : Coming = coming_of (members_of g.S.yaml_token_source_t.to_come g.S.yaml_token_source_t.fault_to_come) c.new-2.result in
    loads_come ts f come.events come.ending come.ending_unasked (tokens_events ts f come (begins ts _ f _ come c.new-2.ensures.coming c.new.ensures.to_come c.new.ensures.fault)) (fault_of_tokens ts f come (begins ts _ f _ come c.new-2.ensures.coming c.new.ensures.to_come c.new.ensures.fault)) h

pub invariant_of-result : goal.invariant_of-result
invariant_of-result g c = (c.new-2.ensures.stands, c.new-2.ensures.utf8 c.new.ensures.utf8)
