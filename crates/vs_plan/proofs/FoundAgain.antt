-- A plan whose store found a word with other flags.
use Rattle.std.proofs.Common.{◌≡◌, ℕ, ◌<◌, List, length, take, drop, get_or, Option, refl, sym, ap, ◌∙◌, arith}
use Rattle.std.specs.Prelude.{slice_set}
use Rattle.std.specs.List.{refill}
use Rattle.std.proofs.lemmas.List.{length-set, get_or_default, take-append-le}
use Rattle.std.proofs.Math.Seq.{take-length}
use Rattle.vs_plan.specs.declared.plans.plan.Fill.{Fill}
use Rattle.vs_plan.specs.declared.plans.plan.Plan.{Plan}
use Rattle.vs_plan.specs.declared.plans.plan.Store.{Store}
use Rattle.vs_plan.specs.Again.{IsPlanAgain, bits_again, fill_again, new_again, told_again}
use Rattle.vs_types.specs.Bits.{HasFlagsSet}

-- stores written back whole
written_back : (xs ws : List Store) → length ws ≡ length xs → refill (length xs) xs ws ≡ ws
written_back xs ws same =
    take-append-le (length xs) ws (drop (length ws) xs) (omega (arith, same)) ∙ ap (λ n. take n ws) (sym same) ∙ take-length ws

module _ (plan : Plan) (index word : ℕ) (d : Store) (seen back : List Store) (seen_is : seen ≡ plan.stores.items) (back_is : back ≡ plan.stores.items)
    (within : index < length plan.stores.items) (flags : HasFlagsSet (get_or seen index d).old word) where
  abbrev old : Store
  old = get_or seen index d

  pub plan_again : (new bits : ℕ) (fill : Option Fill) → new ≡ new_again plan.fill plan.unlinked.items word old.new
      → bits ≡ told_again plan.reply (bits_again index plan.unlinked.items word old.new plan.bits) plan.bits → fill ≡ fill_again word plan.fill
      → IsPlanAgain plan index word (record plan {
        bits = bits;
        fill = fill;
        stores = record {
          items = refill (length plan.stores.items) plan.stores.items
              (slice_set back index (record { frame = old.frame; index = old.index; old = word; new = new }));
        };
      })
  plan_again new bits fill new_is bits_is fill_is = record {
    store = old;
    within = within;
    there = ap (λ xs. get_or xs index d) seen_is ∙ get_or_default plan.stores.items index d old within;
    flags = flags;
    stores = written_back plan.stores.items _ (length-set back index _ ∙ ap length back_is)
        ∙ ap (λ xs. slice_set xs index (record { frame = old.frame; index = old.index; old = word; new = new })) back_is
        ∙ ap (λ n. slice_set plan.stores.items index (record { frame = old.frame; index = old.index; old = word; new = n })) new_is;
    fill = fill_is;
    bits = bits_is;
    reply = refl;
    flush = refl;
    unlinked = refl;
  }
