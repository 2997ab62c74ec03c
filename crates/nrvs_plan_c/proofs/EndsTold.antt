-- The numbers of a plan of at most one store are those of this plan.
use Rattle.std.proofs.Common.{◌≡◌, ℕ, ◌≤◌, List, [], ◌∷◌, length, None, take, refl, ap, ◌∙◌, arith}
use Rattle.std.specs.Prelude.{slice_set}
use Rattle.vs_walk.specs.Memory.{Memory}
use Rattle.vs_plan.specs.declared.plans.plan.Flush.{Flush}
use Rattle.vs_plan.specs.declared.plans.plan.Flush.TheVariants as flushes
use Rattle.vs_plan.specs.declared.plans.plan.Plan as plans
use Rattle.vs_plan.specs.declared.plans.plan.Reply as outcomes
use Rattle.vs_plan.specs.declared.plans.plan.Store.{Store}
use Rattle.vs_plan.specs.declared.plans.request.Request.{Request}
use Rattle.vs_plan.specs.declared.plans.target.Target.{Target}
use Rattle.nrvs_plan_c.specs.declared.end.End.{End}
use Rattle.nrvs_plan_c.specs.declared.records.kept.Plan.{Plan}
use Rattle.nrvs_plan_c.specs.declared.records.told.Reply.{Reply}
use Rattle.nrvs_plan_c.specs.Next.{IsPlanned}
use Rattle.nrvs_plan_c.specs.Told.{IsTold, bits_told, flush_numbers, reply_numbers}
use Rattle.nrvs_plan_c.specs.inside.Written.{HasNone, HasStore, store_of}
use Rattle.nrvs_plan_c.proofs.Keeping.{RightFor}

-- the first of some stores, once it is written
pub first_set : (stores : List Store) (store : Store) → 1 ≤ length stores → take 1 (slice_set stores 0 store) ≡ store ∷ []
first_set [] store some = absurd (omega (arith, some))
first_set (first ∷ rest) store some = refl

-- the plan with these parts
abbrev pub made : outcomes.Reply → ℕ → List Store → Flush → plans.Plan
made reply bits stores flush = record {
  reply = reply;
  bits = bits;
  fill = None;
  stores = record { items = stores };
  flush = flush;
  unlinked = record { items = [] };
}

module _ {plan : Plan} {answer : Reply} {attributes : ℕ} {reply : outcomes.Reply} {bits : ℕ} (answer_is : answer ≡ reply_numbers reply)
    (attributes_are : attributes ≡ bits) (plain : bits ≡ bits_told reply bits) where
  told_none : HasNone answer attributes plan → IsTold plan (made reply bits [] flushes.Nothing)
  told_none is = record {
    reply = is.reply ∙ answer_is;
    bits = is.bits ∙ attributes_are ∙ plain;
    fill = is.fills;
    store_count = is.store_count;
    stores = ap (λ n. take n plan.stores) is.store_count;
    flush = λ i. (is.flush i, is.flush_base i, is.flush_size i);
    unlinked_count = is.unlinked_count;
    unlinked = ap (λ n. take n plan.unlinked) is.unlinked_count;
  }

  told_store : {end : End} {new word number base : ℕ} {flush : Flush} → HasStore end new answer attributes number base plan → new ≡ word
      → (number, base, 0) ≡ flush_numbers flush → IsTold plan (made reply bits (store_of end word ∷ []) flush)
  told_store {end} is written same = record {
    reply = is.reply ∙ answer_is;
    bits = is.bits ∙ attributes_are ∙ plain;
    fill = is.fills;
    store_count = is.store_count;
    stores = ap (λ n. take n plan.stores) is.store_count ∙ is.stores ∙ ap (λ w. store_of end w ∷ []) written;
    flush = (λ i. (is.flush i, is.flush_base i, is.flush_size i)) ∙ same;
    unlinked_count = is.unlinked_count;
    unlinked = ap (λ n. take n plan.unlinked) is.unlinked_count;
  }

  module _ {target : Target} {request : Request} {memory : Memory} where
    pub planned_none : HasNone answer attributes plan → RightFor memory [] (made reply bits [] flushes.Nothing) target request
        → IsPlanned target request memory plan []
    planned_none is right = λ space premise. (made reply bits [] flushes.Nothing, right space premise, told_none is)

    pub planned_store : {end : End} {new word number base : ℕ} {flush : Flush} → HasStore end new answer attributes number base plan → new ≡ word
        → (number, base, 0) ≡ flush_numbers flush → RightFor memory [] (made reply bits (store_of end word ∷ []) flush) target request
        → IsPlanned target request memory plan []
    planned_store {end} {new} {word} {number} {base} {flush} is written same right =
        λ space premise. (made reply bits (store_of end word ∷ []) flush, right space premise, told_store is written same)
