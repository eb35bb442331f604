use Rattle.std.proofs.Common.{◌≡◌, ◌∙◌, [], List, ap, false, refl}
use Rattle.yaml_scan_core.specs.Candidates.{KeyStack, opened, stack_of}
use Rattle.yaml_scan_core.specs.Rows.{RowView, pushed}
use Rattle.yaml_scan_core.specs.declared.keys.Keys.{Keys}
use Rattle.yaml_scan_core.specs.declared.keys.SimpleKey.{SimpleKey}
use Rattle.yaml_scan_core.specs.declared.lexeme.Lexeme.{Lexeme}
use Rattle.yaml_scan_core.proofs.AskedLemmas.{starts}
use Rattle.yaml_scan_core.proofs.RestsLemmas.{empty_row, starts_going}
use Rattle.yaml_scan_core.proofs.scanner.Scanner.new.Goals as goal

pub returns : goal.returns
returns c =
    let row = ap (λ (r : RowView). record r { settled = 1 }) (c.in_ok-push.ensures.ok ∙ ap (λ (r : RowView). pushed c.new-2.result r) c.new-row.ensures ∙ ap (λ (x : Lexeme). pushed x empty_row) c.new-2.ensures) in
    let none : stack_of c.new-keys.result ≡ record { levels = []; passed = 0; required = false } = ap (λ (k : Keys). stack_of k) c.new-keys.ensures ∙ ap (λ (ls : List SimpleKey). record { levels = ls; passed = 0; required = false }) c.new.ensures.items in
    let keys = c.open.ensures ∙ ap (λ (k : KeyStack). opened k) (c.reserve.ensures.same ∙ none) in
    starts _ row c.requires.some (starts_going _ row c.in_ok-push.ensures.more keys c.new-3.ensures refl refl refl refl refl refl c.requires.long c.requires.decoded)
