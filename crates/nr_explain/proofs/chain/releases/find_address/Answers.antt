use Rattle.nr_explain.proofs.Reaching.{no_tail, tail_of}
use Rattle.std.proofs.Common.{Option, subst}
use Rattle.nr_explain.specs.Progress.{IsSeenOf}
use Rattle.nr_explain.specs.inside.Reading.{all_states}
use Rattle.nr_explain.specs.declared.chain.progress.Progress.{Progress}
use Rattle.nr_explain.specs.Progress.{run_in}
use Rattle.nr_explain.proofs.chain.releases.find_address.Goals as goal

pub returns-in-Some : goal.returns-in-Some
returns-in-Some c = λ came kept goes_on clean.
    c.reached.ensures (run_in came)
    (tail_of came c.in-Some.came (subst (λ (l : Option Progress). IsSeenOf came (all_states l)) c.in-Some.is kept)) goes_on clean

pub returns-in-None : goal.returns-in-None
returns-in-None c = λ came kept goes_on clean.
    c.reached-in-None.ensures (run_in came)
    (no_tail came c.none.result (subst (λ (l : Option Progress). IsSeenOf came (all_states l)) c.in-None.is kept) c.none.ensures.none) goes_on clean
