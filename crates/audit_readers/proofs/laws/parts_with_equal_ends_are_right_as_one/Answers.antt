use Rattle.audit_readers.proofs.PagesLaws.{ends_as_one, right_as_one, same_ends}
use Rattle.audit_readers.proofs.laws.parts_with_equal_ends_are_right_as_one.Goals as goal

pub returns-clause-spaces : goal.returns-clause-spaces
returns-clause-spaces c = same_ends

pub returns-clause-right : goal.returns-clause-right
returns-clause-right c = λ as_ranges front back text status same others end start layout settled behind.
    right_as_one as_ranges front back text status same end start layout settled others behind

pub returns-clause-ends : goal.returns-clause-ends
returns-clause-ends c = λ as_ranges front back text last status same end start layout settled behind.
    ends_as_one as_ranges front back text status same end start layout settled last behind
