use Rattle.std.proofs.Common.{◌<◌, ◌-◌, sym, ◌∙◌, subst, arith}
use Rattle.std.proofs.lemmas.Bool.{ltb-true}
use Rattle.nr_dump.proofs.Outside.{last_below_all, none_below_all}
use Rattle.audit_tests.proofs.dump.is_above.Goals as goal

pub returns-then-count-eq0 : goal.returns-then-count-eq0
returns-then-count-eq0 c = λ _. none_below_all c.args.dump.now.frames c.args.number (sym c.count-count.ensures.reads ∙ c.if-count-eq0.true)

pub returns : goal.returns
returns c = λ above.
    let less : c.number-last.result < c.args.number = ltb-true c.number-last.result c.args.number above in
    last_below_all c.args.dump.now.frames (c.count-count.result - 1) c.args.number (omega (arith, c.count-count.ensures.reads, c.if-count-eq0.false))
    (subst (λ n. n < c.args.number) c.number-last.ensures less)
