use Rattle.std.proofs.Common.{subst}
use Rattle.nr_explain.specs.ChainExplanation.{FeedsReader}
use Rattle.audit_numbers.specs.Chains.{IsTelling}
use Rattle.audit_numbers.proofs.Pieces.{found_told, more_told, still_told}
use Rattle.audit_numbers.proofs.telling.Telling.take.Goals as goal

pub returns-in-More : goal.returns-in-More
returns-in-More c = λ bytes told.
    more_told bytes c.args.piece.now c.in-Reading.reader c.in-More.next
    (λ came seen. subst (FeedsReader came c.in-Reading.reader c.args.piece.now) c.in-More.is (c.in_ok-next-in-Reading.ensures came seen))
    (subst (IsTelling bytes) c.in-Reading.is told)

pub returns-in-Found : goal.returns-in-Found
returns-in-Found c = λ bytes told.
    found_told bytes c.args.piece.now c.in-Reading.reader c.in-Found.explanation
    (λ came seen. subst (FeedsReader came c.in-Reading.reader c.args.piece.now) c.in-Found.is (c.in_ok-next-in-Reading.ensures came seen))
    (subst (IsTelling bytes) c.in-Reading.is told)

pub returns-in-Explained : goal.returns-in-Explained
returns-in-Explained c = λ bytes told.
    still_told bytes c.args.piece.now c.in-Explained.explanation (subst (IsTelling bytes) c.in-Explained.is told)
