use Rattle.nr_touch.proofs.QuietPages.{quiet_answers, quiet_looks, right_in_time}
use Rattle.nr_touch.proofs.laws.touches_of_quiet_pages_are_of_the_present.Goals as goal

pub returns-clause-looks : goal.returns-clause-looks
returns-clause-looks c = λ start trace touch m n quiet keeps first then. quiet_looks start trace touch quiet keeps m n first then

pub returns-clause-answers : goal.returns-clause-answers
returns-clause-answers c = λ start trace touch n clean quiet right caught keeps present.
    quiet_answers start trace touch n clean quiet keeps (right_in_time start trace touch caught right) present
