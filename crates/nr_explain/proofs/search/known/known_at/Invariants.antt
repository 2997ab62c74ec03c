use Rattle.std.proofs.Common.{◌≡◌}
use Rattle.nr_audit.specs.Touches.{known_at}
use Rattle.nr_explain.specs.ChainFacts.{IsShownBy}
use Rattle.nr_explain.proofs.search.known.known_at.Given as goal

abbrev pub invariant-loop-index : goal.invariant-loop-index
invariant-loop-index l = record {
  known : l.known ≡ known_at l.trace l.replica l.index;
  shown : IsShownBy l.trace l.replica l.index l.known l.shown;
}
