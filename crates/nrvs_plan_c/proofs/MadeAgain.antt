-- The plan that found a word with other flags, in numbers.
use Rattle.std.proofs.Common.{◌≡◌, ℕ, zero, suc, ◌<◌, List, [], ◌∷◌, length, false, Option, Some, None, refl, sym, ap, subst, ◌∙◌, arith}
use Rattle.std.specs.Prelude.{◌&&◌, ◌||◌, not, nat_eq, slice_index_or, slice_set, if◌then◌else◌}
use Rattle.std.proofs.Math.Seq.{take-set-lt}
use Rattle.std.proofs.lemmas.Bool.{ne_eqb}
use Rattle.std.proofs.lemmas.List.{get_or-take, get_or_default, length-set}
use Rattle.vs_types.specs.declared.requests.answer.Answer.TheVariants as answers
use Rattle.vs_plan.specs.declared.plans.plan.Fill.{Fill}
use Rattle.vs_plan.specs.declared.plans.plan.Plan as plans
use Rattle.vs_plan.specs.declared.plans.plan.Reply as outcomes
use Rattle.vs_plan.specs.declared.plans.plan.Reply.TheVariants as replies
use Rattle.vs_plan.specs.declared.plans.plan.Store.{Store}
use Rattle.vs_plan.specs.Again.{IsPlanAgain, new_again, told_again, bits_again as bits_made, fill_again as fill_made}
use Rattle.vs_types.specs.Bits.{HasFlagsSet, flags_into, with_flags_of}
use Rattle.vs_plan.specs.Answered.{Changes}
use Rattle.nrvs_plan_c.specs.declared.records.kept.Plan.{Plan}
use Rattle.nrvs_plan_c.specs.declared.records.told.Reply.{Reply}
use Rattle.nrvs_plan_c.specs.Told.{IsFillTold, IsTold, bits_told, plan_again, reply_numbers, store_again, store_at}

-- the bits of a plan with a store are said as they are
plain_bits : (reply : outcomes.Reply) (stores : List Store) → 0 < length stores → ((Changes reply → ⊥) → stores ≡ []) → (bits : ℕ) → bits_told reply bits ≡ bits
plain_bits (replies.Reserved number index) stores some nothing bits = absurd (omega (arith, some, ap length (nothing (λ none. none))))
plain_bits (replies.Empty number address) stores some nothing bits = absurd (omega (arith, some, ap length (nothing (λ none. none))))
plain_bits _ stores some nothing bits = refl

-- a list that isn't empty has no length of 0
some_count : (count number : ℕ) (numbers : List ℕ) → count ≡ length (number ∷ numbers) → nat_eq count 0 ≡ false
some_count count number numbers is = ne_eqb count 0 (λ none. omega (arith, none, is))

bits_same : (index count : ℕ) (unlinked : List ℕ) (found new bits : ℕ) → count ≡ length unlinked
    → (if nat_eq index 0 && (nat_eq count 0 || nat_eq new 0) then flags_into found bits else bits) ≡ bits_made index unlinked found new bits
bits_same zero count [] found new bits is =
    subst (λ n. (if nat_eq zero 0 && (nat_eq n 0 || nat_eq new 0) then flags_into found bits else bits) ≡ flags_into found bits) (sym is) refl
bits_same zero count (number ∷ numbers) found new bits is =
    subst (λ b. (if nat_eq zero 0 && (b || nat_eq new 0) then flags_into found bits else bits)
    ≡ (if nat_eq new 0 then flags_into found bits else bits)) (sym (some_count count number numbers is)) refl
bits_same (suc index) count unlinked found new bits is =
    subst (λ b. (if b && (nat_eq count 0 || nat_eq new 0) then flags_into found bits else bits) ≡ bits)
    (sym (ne_eqb (suc index) 0 (λ none. omega (arith, none)))) refl

-- the bits that stay where it is only done
done_same : (made : outcomes.Reply) (reply : Reply) (found bits : ℕ) → reply ≡ reply_numbers made
    → (if nat_eq reply.code 0 then bits else found) ≡ told_again made found bits
done_same (replies.Answer answers.Done) reply found bits is = ap (λ (r : Reply). if nat_eq r.code 0 then bits else found) is
done_same (replies.Answer answer) reply found bits is = ap (λ (r : Reply). if nat_eq r.code 0 then bits else found) is
done_same _ reply found bits is = ap (λ (r : Reply). if nat_eq r.code 0 then bits else found) is

fill_same : (fills found : ℕ) (fill : Fill) (made : Option Fill) → IsFillTold fills fill made
    → IsFillTold fills (if nat_eq fills 0 then fill else record fill { first = flags_into found fill.first }) (fill_made found made)
fill_same fills found fill None is = is
fill_same fills found fill (Some table) is = (
  is.0,
  ap (λ n. if nat_eq n 0 then fill else record fill { first = flags_into found fill.first }) is.0
      ∙ ap (λ (f : Fill). record f { first = flags_into found f.first }) is.1,
)

-- whether a frame is filled, as a number
abbrev filling : Option Fill → ℕ
filling None = 0
filling (Some fill) = 1

filling_is : (fills : ℕ) (fill : Fill) (made : Option Fill) → IsFillTold fills fill made → fills ≡ filling made
filling_is fills fill None is = is
filling_is fills fill (Some table) is = is.0

new_same : (fills count : ℕ) (made : Option Fill) (unlinked : List ℕ) (found new : ℕ) → fills ≡ filling made → count ≡ length unlinked
    → (if not (nat_eq fills 0) || not (nat_eq count 0) then new else with_flags_of found new) ≡ new_again made unlinked found new
new_same fills count None [] found new a b =
    subst (λ m. (if not (nat_eq m 0) || not (nat_eq count 0) then new else with_flags_of found new) ≡ with_flags_of found new) (sym a)
    (subst (λ n. (if not (nat_eq 0 0) || not (nat_eq n 0) then new else with_flags_of found new) ≡ with_flags_of found new) (sym b) refl)
new_same fills count None (number ∷ numbers) found new a b =
    subst (λ m. (if not (nat_eq m 0) || not (nat_eq count 0) then new else with_flags_of found new) ≡ new) (sym a)
    (subst (λ t. (if not (nat_eq 0 0) || not t then new else with_flags_of found new) ≡ new) (sym (some_count count number numbers b)) refl)
new_same fills count (Some table) unlinked found new a b =
    subst (λ m. (if not (nat_eq m 0) || not (nat_eq count 0) then new else with_flags_of found new) ≡ new) (sym a) refl

module _ (plan : Plan) (index found : ℕ) (within : index < plan.store_count) (flags : HasFlagsSet (store_at plan index).old found)
    (made : plans.Plan) (is : IsTold plan made) (nothing : (Changes made.reply → ⊥) → made.stores.items ≡ []) where
  abbrev store : Store
  store = store_at plan index

  abbrev again : plans.Plan
  again = record made {
    stores = record {
      items = slice_set made.stores.items index (record store { old = found; new = new_again made.fill made.unlinked.items found store.new });
    };
    fill = fill_made found made.fill;
    bits = told_again made.reply (bits_made index made.unlinked.items found store.new made.bits) made.bits;
  }

  low : index < length made.stores.items
  low = omega (arith, within, is.store_count)

  there : store ≡ slice_index_or made.stores.items index store
  there =
      sym (get_or-take plan.store_count plan.stores index (record { frame = 0; index = 0; old = 0; new = 0 }) within)
      ∙ ap (λ (ss : List Store). slice_index_or ss index (record { frame = 0; index = 0; old = 0; new = 0 })) is.stores
      ∙ get_or_default made.stores.items index (record { frame = 0; index = 0; old = 0; new = 0 }) store low

  plain : (bits : ℕ) → bits_told made.reply bits ≡ bits
  plain = plain_bits made.reply made.stores.items (omega (arith, low)) nothing

  new_is : (store_again plan store found).new ≡ new_again made.fill made.unlinked.items found store.new
  new_is = new_same plan.fills plan.unlinked_count made.fill made.unlinked.items found store.new (filling_is plan.fills plan.fill made.fill is.fill)
      is.unlinked_count

  pub made_again : (next : plans.Plan) × IsPlanAgain made index found next × IsTold (plan_again plan index found) next
  made_again = (
    again,
    record {
      store = store;
      within = low;
      there = there;
      flags = flags;
      stores = refl;
      fill = refl;
      bits = refl;
      reply = refl;
      flush = refl;
      unlinked = refl;
    },
    record {
      reply = is.reply;
      bits = ap (λ b. if nat_eq plan.reply.code 0 then plan.bits else b)
          (bits_same index plan.unlinked_count made.unlinked.items found store.new plan.bits is.unlinked_count)
          ∙ done_same made.reply plan.reply (bits_made index made.unlinked.items found store.new plan.bits) plan.bits is.reply
          ∙ ap (λ b. told_again made.reply (bits_made index made.unlinked.items found store.new b) b) (is.bits ∙ plain made.bits)
          ∙ sym (plain (told_again made.reply (bits_made index made.unlinked.items found store.new made.bits) made.bits));
      fill = fill_same plan.fills found plan.fill made.fill is.fill;
      store_count = is.store_count
          ∙ sym (length-set made.stores.items index (record store { old = found; new = new_again made.fill made.unlinked.items found store.new }));
      stores = take-set-lt plan.store_count plan.stores index (store_again plan store found) within
          ∙ ap (λ (ss : List Store). slice_set ss index (store_again plan store found)) is.stores
          ∙ ap (λ n. slice_set made.stores.items index (record store { old = found; new = n })) new_is;
      flush = is.flush;
      unlinked_count = is.unlinked_count;
      unlinked = is.unlinked;
    },
  )
