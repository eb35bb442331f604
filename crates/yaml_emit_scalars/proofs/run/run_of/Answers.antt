use Rattle.std.proofs.Common.{ap, length, arith}
use Rattle.yaml_emit_scalars.proofs.RunLemmas.{begins_free, begins_far}
use Rattle.yaml_emit_scalars.proofs.run.run_of.Goals as goal

pub returns-then-first-free : goal.returns-then-first-free
returns-then-first-free c =
    let is = c.as_bytes-bytes.ensures.value in
    begins_free c.args.body c.args.cuts _ _ c.free_of-free.result _ _ c.run_between-first.result.wide c.utf8.text (rw is at c.free_of-free.ensures.inside) c.free_of-free.ensures.free
    (rw is at c.run_between-first.ensures.run) (λ more. absurd (omega (arith, more, c.if-first-free.true))) (rw is at c.run_between-first.ensures.narrow)

pub returns-then-free-bytes : goal.returns-then-free-bytes
returns-then-free-bytes c =
    let is = c.as_bytes-bytes.ensures.value in
    begins_free c.args.body c.args.cuts _ _ c.free_of-free.result _ _ c.run_between-first.result.wide c.utf8.text (rw is at c.free_of-free.ensures.inside) c.free_of-free.ensures.free
    (rw is at c.run_between-first.ensures.run) (λ more. omega (arith, c.if-free-bytes.true, ap length is)) (rw is at c.run_between-first.ensures.narrow)

pub returns : goal.returns
returns c =
    let is = c.as_bytes-bytes.ensures.value in
    begins_far c.args.body c.args.cuts _ _ c.free_of-free.result c.run_between-first.result.end _ _ c.run_between-first.result.wide c.word_from-rest.result.wide c.utf8.text c.free_of-free.ensures.free
    (rw is at c.run_between-first.ensures.run) (omega (arith, c.if-first-free.false)) (rw is at c.word_from-rest.ensures.run)
    (rw is at c.run_between-first.ensures.narrow) (rw is at c.word_from-rest.ensures.narrow)
