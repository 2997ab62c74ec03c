use Rattle.std.proofs.Common.{refl, arith}
use Rattle.nrvs_plan_c.proofs.EndsTold.{first_set}
use Rattle.nrvs_plan_c.proofs.records.written.write_store.Goals as goal

pub returns-clause-store : goal.returns-clause-store
returns-clause-store c = record {
  reply = refl;
  bits = refl;
  fills = refl;
  store_count = refl;
  stores = first_set c.args.plan.now.stores _ (omega arith);
  flush = refl;
  flush_size = refl;
  flush_base = refl;
  unlinked_count = refl;
}
