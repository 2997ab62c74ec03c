use Rattle.std.proofs.Common.{ℕ, sym, subst, refl}
use Rattle.vs_space.specs.Flags.{AreSameButFlags}
use Rattle.vs_space.specs.Held.{with_word}
use Rattle.vs_plan.proofs.FillsAgain.{join_flags, same_fills, split_again}
use Rattle.vs_plan.proofs.OtherFlags.{bits_after, flags_kept, protect_again, remap_again, same_stored, same_translations}
use Rattle.vs_plan.proofs.flags.flags_keep_plans_safe.Goals as goal

pub returns-clause-translations : goal.returns-clause-translations
returns-clause-translations c = λ depth root old new space is translates. same_translations is depth root space translates

pub returns-clause-stores : goal.returns-clause-stores
returns-clause-stores c = λ old new store again is used same.
    let old_after = with_word old store.frame store.index store.new in
    subst (λ (n : ℕ). AreSameButFlags old_after (with_word new n again.index again.new)) (sym same.frame)
    (subst (λ (i : ℕ). AreSameButFlags old_after (with_word new store.frame i again.new)) (sym same.index)
    (same_stored is store.frame store.index store.new again.new used same.new))

pub returns-clause-again : goal.returns-clause-again
returns-clause-again c = λ store word is. record { frame = refl; index = refl; new = flags_kept word store.new }

pub returns-clause-protects : goal.returns-clause-protects
returns-clause-protects c = λ old word rights is. protect_again word old rights is

pub returns-clause-remaps : goal.returns-clause-remaps
returns-clause-remaps c = λ size old word phys rights at is. remap_again size word old phys rights at is

pub returns-clause-bits : goal.returns-clause-bits
returns-clause-bits c = λ size old word is. bits_after size word old is

pub returns-clause-fills : goal.returns-clause-fills
returns-clause-fills c = λ old new fill word is odd even. same_fills is fill word odd even

pub returns-clause-splits : goal.returns-clause-splits
returns-clause-splits c = λ page size old word at is. split_again page size old word at is

pub returns-clause-joins : goal.returns-clause-joins
returns-clause-joins c = λ page size first word number at. join_flags page size first at
