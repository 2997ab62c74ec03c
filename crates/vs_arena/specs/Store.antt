-- Stores of page-table frames: the frames in use, each with its 512 words and its note, under its index.
use Rattle.std.specs.Prelude.{◌≡◌, ℕ, ◌+◌, ◌^◌, ◌<◌, ◌≤◌, List, [], replicate, unwrap_or, Some, None, IsSome}
use Rattle.std.specs.FinMap as finite
use Rattle.std.specs.Ordering.{nat_cmp}
use Rattle.vs_types.specs.declared.addresses.frame.TheConstants.{FRAME_WORDS}
use Rattle.vs_types.specs.declared.limits.TheConstants.{TABLES}
use Rattle.vs_types.specs.Frame.{IsFrame}

-- the frames in use, by index, each with its words
abbrev pub Store : Type 0
Store = finite.FinMap nat_cmp (List ℕ)

-- the frame of this index is in use
abbrev pub IsInUse : Store → ℕ → Type 0
IsInUse store index = IsSome (finite.get store index)

-- the frame of this index isn't in use
abbrev pub IsFree : Store → ℕ → Type 0
IsFree store index = finite.get store index ≡ None

-- the words of a frame in use
abbrev pub words_of : Store → ℕ → List ℕ
words_of store index = unwrap_or (finite.get store index) []

-- what its owner keeps with each frame in use: a small number
abbrev pub Notes : Type 0
Notes = finite.FinMap nat_cmp ℕ

-- the note of a frame in use
abbrev pub note_of : Notes → ℕ → ℕ
note_of notes index = unwrap_or (finite.get notes index) 0

-- the ghost names of the references by which a store was lent its memory, none where the memory is its own
abbrev pub Lenders : Type 0
Lenders = List ℕ

-- the place of a store: the number of frame 0, how many frames there are, in use or not, and who lent it its memory
pub record StorePlace : Type 0 where
  pub base : ℕ
  pub size : ℕ
  pub lenders : Lenders

-- a frame of zeros
abbrev pub zeros : List ℕ
zeros = replicate FRAME_WORDS 0

-- the frames in use of a store with this base frame number and this capacity
pub record IsStore (base size : ℕ) (store : Store) : Type 0 where
  pub few_frames : size ≤ TABLES
  pub numbers_fit : base + size ≤ 2 ^ 40
  pub within : (index : ℕ) → IsInUse store index → index < size
  pub frames : (index : ℕ) (words : List ℕ) → finite.get store index ≡ Some words → IsFrame words
  pub counted : finite.len store ≤ size
