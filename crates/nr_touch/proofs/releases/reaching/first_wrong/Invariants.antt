use Rattle.nr_touch.specs.Releases.{NoneWrongBelow}
use Rattle.nr_touch.specs.inside.Joined.{Behind}
use Rattle.nr_touch.specs.inside.Indexed.{HaveQuiet}
use Rattle.nr_touch.specs.inside.Listed.{AreListed}
use Rattle.nr_touch.specs.inside.Overs.{AreKnown}
use Rattle.nr_touch.specs.inside.Reached.{IsOpen}
use Rattle.nr_touch.proofs.releases.reaching.first_wrong.Given as goal

abbrev pub invariant-loop-index : goal.invariant-loop-index
invariant-loop-index l = record {
  none : (b : Behind l.joined) → HaveQuiet l.joined l.reach.quiet
      → AreListed (IsOpen b 0) l.reach.lingering l.fn.gone → NoneWrongBelow b.before b.start b.segment l.releases l.index;
  known : (b : Behind l.joined) → AreKnown b l.reach.changed l.overs;
  listed : (b : Behind l.joined) → AreListed (IsOpen b 0) l.reach.lingering l.fn.gone → AreListed (IsOpen b l.last) l.reach.lingering l.gone;
}
