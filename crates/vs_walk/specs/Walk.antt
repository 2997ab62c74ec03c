-- How an address is translated (Intel SDM volume 3A, chapter "Paging": linear-address translation, and the rights of
-- an access by all the entries that a translation uses).
use Rattle.std.specs.Prelude.{◌≡◌, ℕ, zero, suc, ◌+◌, ◌%◌, List, Option, Some, None, slice_index}
use Rattle.std.specs.FinMap as finite
use Rattle.vs_types.specs.Depth.{levels, entry_bytes, index_at, IsCanonical}
use Rattle.vs_types.specs.Page.{intersection}
use Rattle.vs_types.specs.Space.{Space}
use Rattle.vs_types.specs.Step.{look}
use Rattle.vs_types.specs.Entry.{meaning, size_at}
pub use Rattle.vs_types.specs.Entry.{all_rights}
use Rattle.vs_types.specs.declared.addresses.depth.Depth.{Depth}
use Rattle.vs_types.specs.declared.addresses.page.Rights.{Rights}
use Rattle.vs_types.specs.declared.entries.entry.Meaning.{Meaning}
use Rattle.vs_types.specs.declared.entries.entry.Meaning.TheVariants as entry
use Rattle.vs_types.specs.declared.requests.answer.Answer.{Answer}
use Rattle.vs_types.specs.declared.requests.answer.Answer.TheVariants as answers
use Rattle.vs_walk.specs.Memory.{Memory}
use Rattle.vs_walk.specs.declared.walk.Walk.{Walk}
use Rattle.vs_walk.specs.declared.walk.Walk.TheVariants.{NotMapped, Reserved, Missing, Mapped}

-- the walk at an entry of a table of this level, where the entries above it allow these rights; below goes on in the next table
abbrev pub walk_entry : ℕ → Rights → ℕ → (ℕ → Rights → Walk) → Meaning → Walk
walk_entry level rights address below entry.Absent = NotMapped
walk_entry level rights address below entry.Reserved = Reserved
walk_entry level rights address below (entry.Leaf phys own) = Mapped (phys + address % entry_bytes level) (size_at level) (intersection rights own)
walk_entry level rights address below (entry.Table number own) = below number (intersection rights own)

abbrev pub walk_words : Option (List ℕ) → (List ℕ → Walk) → Walk
walk_words None go = Missing
walk_words (Some words) go = go words

-- the walk from the frame of this number on, the table of a level
unfoldable pub walk_from : Memory → ℕ → ℕ → Rights → ℕ → Walk
walk_from memory zero number rights address = Missing
walk_from memory (suc level) number rights address =
    walk_words (finite.get memory number) (λ words.
    walk_entry (suc level) rights address (λ next own. walk_from memory level next own address)
    (meaning (suc level) (slice_index words (index_at (suc level) address))))

-- the walk from the root on
abbrev pub walk : Depth → Memory → ℕ → ℕ → Walk
walk depth memory root address = walk_from memory (levels depth) root all_rights address

-- the answer of a resolve, as a walk that ends so
abbrev pub as_walk : Answer → Walk
as_walk (answers.Mapped phys size rights) = Mapped phys size rights
as_walk _ = NotMapped

-- the memory translates as the space: each canonical address is walked to what it looks like in the space
abbrev pub TranslatesAs : Depth → Memory → ℕ → Space → Type 0
TranslatesAs depth memory root space = (address : ℕ) → IsCanonical depth address → walk depth memory root address ≡ as_walk (look space address)
