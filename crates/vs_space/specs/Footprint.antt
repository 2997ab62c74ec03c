-- What an operation leaves of a memory: all but the tables on the path of one address, and their entries for it.
use Rattle.std.specs.Prelude.{◌≡◌, ◌≢◌, ◌⊎◌, ℕ, Some, IsSome}
use Rattle.std.specs.FinMap as finite
use Rattle.vs_types.specs.Depth.{levels, index_at}
use Rattle.vs_types.specs.declared.addresses.depth.Depth.{Depth}
use Rattle.vs_types.specs.declared.requests.op.Action.{Action}
use Rattle.vs_types.specs.declared.requests.op.Action.TheVariants.{Map, Unmap, Protect}
use Rattle.vs_types.specs.declared.addresses.page.Rights.{Rights}
use Rattle.vs_types.specs.declared.requests.answer.Answer.{Answer}
use Rattle.vs_types.specs.declared.requests.answer.Answer.TheVariants as answers
use Rattle.vs_types.specs.declared.entries.entry.Meaning.TheVariants as entry
use Rattle.vs_walk.specs.Memory.{Memory}
use Rattle.vs_types.specs.Bits.{flags_in}
use Rattle.vs_space.specs.Held.{word_at}
use Rattle.vs_space.specs.Path.{found_at, table_at}

-- the frame is a table on the path of the address
pub record IsTableOnPath (depth : Depth) (memory : Memory) (root address number : ℕ) : Type 0 where
  pub level : ℕ
  pub reached : table_at (levels depth) memory root level address ≡ Some number

-- the index is that of the address in a table on its path
pub record IsEntryOnPath (depth : Depth) (memory : Memory) (root address number index : ℕ) : Type 0 where
  pub level : ℕ
  pub reached : table_at (levels depth) memory root level address ≡ Some number
  pub is : index ≡ index_at level address

-- that entry is one of a page
pub record IsPageOnPath (depth : Depth) (memory : Memory) (root address number index : ℕ) : Type 0 where
  pub at : IsEntryOnPath depth memory root address number index
  pub phys : ℕ
  pub own : Rights
  pub page : found_at at.level memory number address ≡ Some (entry.Leaf phys own)

-- a word of a frame that isn't 0
pub record HasEntry (memory : Memory) (number index word : ℕ) : Type 0 where
  pub there : word_at memory number index ≡ Some word
  pub some : word ≢ 0

-- the second memory has the frames and the entries of the first, and what it has more are tables on the path of the address, and entries for it
pub record HasMoreOnPath (depth : Depth) (root address : ℕ) (less more : Memory) : Type 0 where
  pub frames : (number : ℕ) → IsSome (finite.get less number) → IsSome (finite.get more number)
  pub entries : (number index word : ℕ) → HasEntry less number index word → HasEntry more number index word
  pub tables : (number : ℕ) → IsSome (finite.get more number) → IsSome (finite.get less number) ⊎ IsTableOnPath depth more root address number
  pub on_path : (number index word : ℕ) → HasEntry more number index word
      → HasEntry less number index word ⊎ IsEntryOnPath depth more root address number index

-- the same frames have the same words, but for that of the address's page
pub record ChangesPageOnPath (depth : Depth) (root address : ℕ) (old new : Memory) : Type 0 where
  pub frames : (number : ℕ) → finite.contains_key new number ≡ finite.contains_key old number
  pub words : (number index : ℕ) → (word_at new number index ≡ word_at old number index) ⊎ IsPageOnPath depth old root address number index

-- a map adds to the path of its page's base, an unmap takes away from that of its base, and a protect changes the word of its page
abbrev pub KeepsRest : Depth → ℕ → Action → Memory → Memory → Type 0
KeepsRest depth root (Map page) old new = HasMoreOnPath depth root page.base old new
KeepsRest depth root (Unmap base) old new = HasMoreOnPath depth root base new old
KeepsRest depth root (Protect base rights) old new = ChangesPageOnPath depth root base old new

-- the entry of the address's page has neither the accessed nor the dirty flag now
pub record IsPageCleared (depth : Depth) (root address : ℕ) (old new : Memory) : Type 0 where
  pub number : ℕ
  pub index : ℕ
  pub page : IsPageOnPath depth old root address number index
  pub word : ℕ
  pub there : word_at new number index ≡ Some word
  pub clear : flags_in word ≡ 0

-- a protect that gave its page other rights cleared the two flags of its entry
abbrev pub ClearsPage : Depth → ℕ → Action → Answer → Memory → Memory → Type 0
ClearsPage depth root (Protect base rights) (answers.Changed before) old new = IsPageCleared depth root base old new
ClearsPage depth root action answer old new = Unit {0}
