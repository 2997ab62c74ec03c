-- Plans of at most one store, in numbers.
use Rattle.std.specs.Prelude.{◌≡◌, ◌∷◌, ℕ, [], take}
use Rattle.vs_plan.specs.declared.plans.plan.Store.{Store}
use Rattle.nrvs_plan_c.specs.declared.end.End.{End}
use Rattle.nrvs_plan_c.specs.declared.records.kept.Plan.{Plan}
use Rattle.nrvs_plan_c.specs.declared.records.told.Reply.{Reply}

-- what is answered, and that nothing is to be done
pub record HasNone (answer : Reply) (attributes : ℕ) (plan : Plan) : Type 0 where
  pub reply : plan.reply ≡ answer
  pub bits : plan.bits ≡ attributes
  pub fills : plan.fills ≡ 0
  pub store_count : plan.store_count ≡ 0
  pub flush : plan.flush ≡ 0
  pub flush_size : plan.flush_size ≡ 0
  pub flush_base : plan.flush_base ≡ 0
  pub unlinked_count : plan.unlinked_count ≡ 0

-- the store of another word at the end of a way
abbrev pub store_of : End → ℕ → Store
store_of end new = record { frame = end.number; index = end.index; old = end.word; new = new }

-- what is answered, and that this store is to be made, with this flush
pub record HasStore (end : End) (new : ℕ) (answer : Reply) (attributes kind base : ℕ) (plan : Plan) : Type 0 where
  pub reply : plan.reply ≡ answer
  pub bits : plan.bits ≡ attributes
  pub fills : plan.fills ≡ 0
  pub store_count : plan.store_count ≡ 1
  pub stores : take 1 plan.stores ≡ store_of end new ∷ []
  pub flush : plan.flush ≡ kind
  pub flush_size : plan.flush_size ≡ 0
  pub flush_base : plan.flush_base ≡ base
  pub unlinked_count : plan.unlinked_count ≡ 0
