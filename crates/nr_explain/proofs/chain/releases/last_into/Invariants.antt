use Rattle.nr_explain.proofs.LeadingMoments.{FindsLookBelow}
use Rattle.nr_explain.proofs.chain.releases.last_into.Given as goal

abbrev pub invariant-loop-look : goal.invariant-loop-look
invariant-loop-look l = FindsLookBelow l.given l.looks l.look-index l.found
