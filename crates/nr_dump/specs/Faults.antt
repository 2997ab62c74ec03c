-- What is wrong with a dump beside a space, as statements, which comes first, and what is so of a dump with nothing wrong.
use Rattle.std.specs.Prelude.{ℕ, ◌<◌, nat_eq}
use Rattle.std.specs.List.{IsDistinct}
use Rattle.vs_types.specs.Space.{Space}
use Rattle.vs_types.specs.declared.addresses.depth.Depth.{Depth}
use Rattle.vs_walk.specs.Walk.{TranslatesAs}
use Rattle.vs_walk.specs.Traversal.{traversal, reached}
use Rattle.vs_walk.specs.Differences.{IsStray, HasMissingFrame, HasSharedFrame, HasReservedBit, HasStrayFrame, HasDifference}
use Rattle.vs_walk.specs.Dump.{Image}
use Rattle.nr_dump.specs.declared.fault.DumpFault.{DumpFault}
use Rattle.nr_dump.specs.declared.fault.DumpFault.TheVariants.{MissingFrame, SharedFrame, ReservedBit, StrayFrame, Differs}

-- what each fault says of a dump and of the space that it is to translate as
abbrev pub HoldsOfDump : Depth → Image → Space → DumpFault → Type 0
HoldsOfDump depth dump space (MissingFrame number) = HasMissingFrame depth dump number
HoldsOfDump depth dump space (SharedFrame number) = HasSharedFrame depth dump number
HoldsOfDump depth dump space (ReservedBit number index) = HasReservedBit depth dump number index
HoldsOfDump depth dump space (StrayFrame number) = HasStrayFrame depth dump number
HoldsOfDump depth dump space (Differs address) = HasDifference depth dump space address

-- the first fault of the traversal comes first, then a stray frame, then a translation that differs
abbrev pub rank_in_dump : DumpFault → ℕ
rank_in_dump (MissingFrame number) = 1
rank_in_dump (SharedFrame number) = 1
rank_in_dump (ReservedBit number index) = 1
rank_in_dump (StrayFrame number) = 2
rank_in_dump (Differs address) = 3

-- the fault holds of the dump, and no earlier one does
pub record IsFirstOfDump (depth : Depth) (dump : Image) (space : Space) (fault : DumpFault) : Type 0 where
  pub holds : HoldsOfDump depth dump space fault
  pub none_earlier : (other : DumpFault) → HoldsOfDump depth dump space other → rank_in_dump other < rank_in_dump fault → ⊥

-- no fault holds of the dump
abbrev pub HasNoFault : Depth → Image → Space → Type 0
HasNoFault depth dump space = (fault : DumpFault) → HoldsOfDump depth dump space fault → ⊥

-- the dump translates as the space, its tables lead to no frame twice, and they lead to each of its frames
pub record FitsSpace (depth : Depth) (dump : Image) (space : Space) : Type 0 where
  pub translates : TranslatesAs depth dump.frames dump.root space
  pub once : IsDistinct nat_eq (reached (traversal depth dump.frames dump.root))
  pub none_stray : (number : ℕ) → IsStray depth dump.frames dump.root number → ⊥
