use Rattle.std.proofs.Common.{◌≡◌, ◌+◌, ◌-◌, ◌*◌, ◌++◌, [], ◌∷◌, length, map, replicate}
use Rattle.std.specs.List.{range_with_len}
use Rattle.nr_ring.specs.Pass.{new_pass}
use Rattle.nr_ring.specs.inside.Held.{new_view, nothing_stored}
use Rattle.nr_ring.proofs.ring.ring_log.RingLog.with_places.Given as goal

abbrev pub invariant-loop-replica : goal.invariant-loop-replica
invariant-loop-replica g l = let log = l.log-inside.cell in record {
  cell : l.first.cell ≡ log;
  value : l.first.value ≡ nothing_stored;
  view : l.first.view ≡ new_view (range_with_len l.replica (g.J.LogName.replicas - l.replica)) (g.J.LogName.passes - l.replica);
  from : l.first.from ≡ 32 * l.replica;
  own : length l.first.own ≡ 32 * (g.J.LogName.passes - l.replica);
  passes : l.passes.items ≡ map (λ r. new_pass log (r ∷ [])) (range_with_len 0 l.replica);
}

abbrev pub invariant-loop-other : goal.invariant-loop-other
invariant-loop-other g l = let log = l.log-inside.cell in record {
  cell : l.first.cell ≡ log;
  value : l.first.value ≡ nothing_stored;
  view : l.first.view ≡ new_view [] (g.J.LogName.passes - (g.J.LogName.replicas + l.other));
  from : l.first.from ≡ 32 * (g.J.LogName.replicas + l.other);
  own : length l.first.own ≡ 32 * (g.J.LogName.passes - (g.J.LogName.replicas + l.other));
  passes : l.passes.items ≡ map (λ r. new_pass log (r ∷ [])) (range_with_len 0 g.J.LogName.replicas) ++ replicate l.other (new_pass log []);
}
