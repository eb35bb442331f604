use Rattle.std.proofs.Common.{Ok, Err, refl, subst}
use Rattle.yaml_scan_history.specs.Words.{lexeme_at}
use Rattle.yaml_scan_core.specs.declared.scanner.Scanner.{Scanner}
use Rattle.yaml_scan_core.specs.declared.word.Spot.{Spot}
use Rattle.yaml_scan_core.specs.Scanning.{history_of}
use Rattle.yaml_scan_core.specs.Texts.{word_in}
use Rattle.yaml_scan_core.specs.WordsRead.{GivesWord}
use Rattle.yaml_scan_core.proofs.SpotLemmas.{has_word, stands_there, tells_wrong}
use Rattle.yaml_scan_core.proofs.scanner.Scanner.word.Goals as goal

pub read_word-requires-clause-stands : goal.read_word-requires-clause-stands
read_word-requires-clause-stands c =
    let s = c.args.self.now in
    rw c.in_flow-flow.ensures (stands_there c.args.kind s (history_of s) c.args.ends c.requires.stands)

pub returns-in-Ok-clause-reads : goal.returns-in-Ok-clause-reads
returns-in-Ok-clause-reads c =
    let s = c.args.self.now in
    let spot : Spot = record { at = s.at; line = s.line; wide = s.wide; ends = c.args.ends } in
    let new : Scanner = record s { row = record s.row { arena = c.read_word.new.arena } } in
    let v = subst (λ f. GivesWord s.text.now c.read_word.new.arena.items spot (Ok c.in-Ok.word) (lexeme_at c.args.kind f s.levels.margin s.text.now s.at)) c.in_flow-flow.ensures c.in-Ok.ensures.value in
    let (x, same, has) = has_word c.args.kind c.args.ends s new c.in-Ok.word (word_in c.args.kind s) v refl refl in
    (x, same, has, refl)

pub returns-in-Err-clause-reads : goal.returns-in-Err-clause-reads
returns-in-Err-clause-reads c =
    let s = c.args.self.now in
    let spot : Spot = record { at = s.at; line = s.line; wide = s.wide; ends = c.args.ends } in
    let v = subst (λ f. GivesWord s.text.now c.read_word.new.arena.items spot (Err c.in-Err.refusal) (lexeme_at c.args.kind f s.levels.margin s.text.now s.at)) c.in_flow-flow.ensures c.in-Err.ensures.value in
    rw c.fault_told-self.ensures (tells_wrong s.text.now c.read_word.new.arena.items spot s.at c.in-Err.refusal (word_in c.args.kind s) c.requires.stands.behind.place.inside v)
