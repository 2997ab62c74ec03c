use Rattle.nr_audit.proofs.histories.met.met_of.Goals as goal

pub returns : goal.returns
returns c = λ before start are excused near. record {
  meetings = c.in_ok-overlapping.ensures;
  near = near;
  touches = c.args.touches.now;
  are = are;
  list = c.args.excuses.now;
  excused = excused;
  since_open = c.count_open.ensures;
  since_kept = c.count_kept.ensures;
  since_lagging = c.count_lagging.ensures;
  repeated = c.in_ok-repeated.ensures;
}
