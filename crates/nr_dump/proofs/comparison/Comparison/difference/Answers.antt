use Rattle.std.proofs.Common.{None, sym, subst}
use Rattle.nr_dump.specs.inside.Comparing.{AreTaken, IsCompared}
use Rattle.nr_dump.proofs.Taking.{ends_equal, ends_before}
use Rattle.nr_dump.proofs.comparison.Comparison.difference.Goals as goal

pub returns-in_err-next-in-None : goal.returns-in_err-next-in-None
returns-in_err-next-in-None c = λ pages taken are.
    subst (IsCompared taken pages) (sym c.from_residual.ensures)
    (ends_equal pages taken (subst (λ left. AreTaken pages left None taken) c.in_err-next-in-None.ensures.steps.0
    (subst (λ difference. AreTaken pages c.args.self.pages difference taken) c.in-None.is are)))

pub returns-in_ok-next-in-None : goal.returns-in_ok-next-in-None
returns-in_ok-next-in-None c = λ pages taken are.
    ends_before pages c.next.new.self taken c.in_ok-next-in-None.field-0 (subst (λ left. AreTaken pages left None taken) c.in_ok-next-in-None.ensures.steps
    (subst (λ difference. AreTaken pages c.args.self.pages difference taken) c.in-None.is are))
