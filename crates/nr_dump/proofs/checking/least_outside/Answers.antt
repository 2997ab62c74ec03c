use Rattle.std.proofs.Common.{ap, sym, subst, ◌∙◌, arith, Contains, below_more, length}
use Rattle.nr_dump.proofs.Outside.{none_outside, least_outside, none_by_count}
use Rattle.nr_dump.proofs.checking.least_outside.Goals as goal

pub returns-then-as_slice-count-clause-none : goal.returns-then-as_slice-count-clause-none
returns-then-as_slice-count-clause-none c =
    none_by_count c.args.dump.now.frames c.args.numbers.now c.as_slice.ensures.rising c.requires
    (ap length (sym c.as_slice.ensures.is) ∙ c.if-as_slice-count.true ∙ c.count.ensures.reads)

pub returns-then-not-contains-clause-some : goal.returns-then-not-contains-clause-some
returns-then-not-contains-clause-some c =
    rw c.number-number.ensures (least_outside c.args.dump.now.frames c.args.numbers.now c.loop-k.k c.loop-k.invariant
    (omega (arith, c.count-k-end.ensures.reads))
    (λ has. let no = c.if-not-contains.ensures.1 (subst (Contains c.args.numbers.now) (sym c.number-number.ensures) has) in cc))

pub loop-k-preserved : goal.loop-k-preserved
loop-k-preserved c =
    below_more _ _ c.loop-k.invariant (subst (Contains c.args.numbers.now) c.number-number.ensures (c.contains.ensures.0 c.if-not-contains.false))

pub returns-clause-none : goal.returns-clause-none
returns-clause-none c = none_outside c.args.dump.now.frames c.args.numbers.now (λ j within. c.loop-k.invariant j (omega (arith, c.count-k-end.ensures.reads)))
