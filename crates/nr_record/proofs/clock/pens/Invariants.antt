use Rattle.std.proofs.Common.{◌≡◌, [], drop, take}
use Rattle.std.specs.Prelude.{sum}
use Rattle.nr_record.specs.Pen.{clock_of, new_pens}
use Rattle.nr_record.proofs.clock.pens.Given as goal

abbrev pub ghosts-pen : goal.ghosts-pen
ghosts-pen a = record { quota = a.quota }

abbrev pub invariant-loop-thread : goal.invariant-loop-thread
invariant-loop-thread l = record {
  word : l.first.table_id ≡ l.clock-inside.table.shared.table_id;
  config : l.first.me.0.plan.config ≡ l.fn.config;
  calls : l.first.me.0.plan.calls ≡ sum l.quotas;
  key : l.clock-inside.table.shared.key ≡ l.first.me.0.plan;
  quota : l.first.me.0.quota ≡ sum (drop l.thread l.quotas);
  fresh : l.first.me.0.stamps ≡ [];
  pens : l.pens.items ≡ new_pens (clock_of l.clock-inside.table.shared.table_id l.first.me.0.plan) 0 (take l.thread l.quotas);
}
