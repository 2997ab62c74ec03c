-- Flags that a processor sets in an entry between the moment when its table is shown and the store: bits 5 and 6, accessed and dirty (Intel
-- SDM volume 3A, chapter "Paging": accessed and dirty flags).
use Rattle.std.specs.Prelude.{◌≡◌, ℕ, zero, suc, ◌<◌, List, [], ◌∷◌, length, slice_index_or, slice_set, Option, Some, None, nat_eq}
use Rattle.std.specs.Prelude.{if◌then◌else◌}
use Rattle.vs_types.specs.Bits.{HasFlagsSet, flags_into, with_flags_of}
use Rattle.vs_types.specs.declared.requests.answer.Answer.TheVariants as answers
use Rattle.vs_space.specs.Flags.{IsSameButFlags}
use Rattle.vs_plan.specs.declared.plans.plan.Fill.{Fill}
use Rattle.vs_plan.specs.declared.plans.plan.Plan.{Plan}
use Rattle.vs_plan.specs.declared.plans.plan.Reply.{Reply}
use Rattle.vs_plan.specs.declared.plans.plan.Reply.TheVariants as replies
use Rattle.vs_plan.specs.declared.plans.plan.Store.{Store}
use Rattle.vs_plan.specs.declared.plans.request.Request.{Request}
use Rattle.vs_plan.specs.declared.plans.request.Request.TheVariants.{Map, Unmap, Protect, Ask, Remap, Split, Join, Prune, UnmapPart, Collapse}

-- a store of a word that may have other flags
pub record IsAgain (store again : Store) : Type 0 where
  pub frame : again.frame ≡ store.frame
  pub index : again.index ≡ store.index
  pub new : IsSameButFlags store.new again.new

-- ---- a whole plan

-- a fill with the flags of a word, if there is one
abbrev pub fill_again : ℕ → Option Fill → Option Fill
fill_again word None = None
fill_again word (Some fill) = Some (record fill { first = flags_into word fill.first })

-- what a store writes that found this word: an entry with its flags; but the link to a table that is filled, and what is written in the
-- place of the link to a table, stay
abbrev pub new_again : Option Fill → List ℕ → ℕ → ℕ → ℕ
new_again None [] word new = with_flags_of word new
new_again None (number ∷ numbers) word new = new
new_again (Some fill) unlinked word new = new

-- the bits of the page's entry, once the store at an index found this word: those of the first store, but not where it writes
-- an entry in the place of the link to a table
abbrev pub bits_again : ℕ → List ℕ → ℕ → ℕ → ℕ → ℕ
bits_again zero [] word new bits = flags_into word bits
bits_again zero (number ∷ numbers) word new bits = if nat_eq new 0 then flags_into word bits else bits
bits_again (suc index) unlinked word new bits = bits

-- the bits that are answered then: where the reply is only that it is done, none are
abbrev pub told_again : Reply → ℕ → ℕ → ℕ
told_again (replies.Answer answers.Done) found bits = bits
told_again reply found bits = found

-- the requests whose store writes a page's entry in the place of the link to a table
abbrev pub TakesTable : Request → Type 0
TakesTable (Map page bits) = ⊥
TakesTable (Unmap base) = ⊥
TakesTable (Protect base rights) = ⊥
TakesTable (Ask address) = ⊥
TakesTable (Remap base phys rights) = ⊥
TakesTable (Split base) = ⊥
TakesTable (Join base) = Unit {0}
TakesTable (Prune address) = ⊥
TakesTable (UnmapPart base first count) = ⊥
TakesTable (Collapse base phys rights) = Unit {0}

-- a plan whose store at an index found this word, which differs from the one that was shown in flags alone
pub record IsPlanAgain (plan : Plan) (index word : ℕ) (again : Plan) : Type 0 where
  pub store : Store
  pub within : index < length plan.stores.items
  pub there : store ≡ slice_index_or plan.stores.items index store
  pub flags : HasFlagsSet store.old word
  pub stores : again.stores.items ≡ slice_set plan.stores.items index
      (record store { old = word; new = new_again plan.fill plan.unlinked.items word store.new })
  pub fill : again.fill ≡ fill_again word plan.fill
  pub bits : again.bits ≡ told_again plan.reply (bits_again index plan.unlinked.items word store.new plan.bits) plan.bits
  pub reply : again.reply ≡ plan.reply
  pub flush : again.flush ≡ plan.flush
  pub unlinked : again.unlinked ≡ plan.unlinked
