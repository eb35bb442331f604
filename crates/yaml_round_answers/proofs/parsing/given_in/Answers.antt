-- What is before the end is what C receives.
use Rattle.yaml_round_answers.proofs.Handing.{all_given, refused_gives, kind_given, refused_none}
use Rattle.yaml_round_answers.proofs.parsing.given_in.Goals as goal

pub returns-in-Ok-clause-told : goal.returns-in-Ok-clause-told
returns-in-Ok-clause-told c =
    let e = rw c.in-Ok.is at c.fronted-end.ensures in
    all_given c.args.whole c.args.from c.args.input.now _ _ _ _ _ _ c.is_cut_off.ensures c.in-Ok.is c.requires c.blocks_unless.ensures e c.said.ensures

pub returns-in-Ok-clause-none : goal.returns-in-Ok-clause-none
returns-in-Ok-clause-none c = kind_given c.args.whole _ _ c.said.ensures

pub returns-in-Err-clause-told : goal.returns-in-Err-clause-told
returns-in-Err-clause-told c =
    let e = rw c.in-Err.is at c.fronted-end.ensures in
    refused_gives c.args.whole c.args.from c.args.input.now _ _ c.in-Err.fault _ _ _ _ c.is_cut_off.ensures c.in-Err.is c.requires c.blocks_unless.ensures e c.refused_in.ensures

pub returns-in-Err-clause-none : goal.returns-in-Err-clause-none
returns-in-Err-clause-none c = refused_none c.args.whole _ _ c.in-Err.fault _ _ _ _ c.is_cut_off.ensures c.in-Err.is c.blocks_unless.ensures
