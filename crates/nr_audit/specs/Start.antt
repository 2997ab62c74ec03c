-- The space with which a segment begins, and what is wrong with its start.
use Rattle.std.specs.Prelude.{◌≡◌, ℕ, ◌+◌, ◌<◌, List, map, Contains, Option, Some, None, option_map}
use Rattle.std.specs.FinMap as finite
use Rattle.std.specs.Ordering.{nat_cmp}
use Rattle.vs_types.specs.Page.{bytes_of}
use Rattle.vs_types.specs.Space.{Space, no_pages}
use Rattle.vs_types.specs.declared.addresses.depth.Depth.{Depth}
use Rattle.vs_types.specs.declared.addresses.page.Page.{Page}
use Rattle.vs_types.specs.declared.addresses.page.TheConstants.Page.{PHYS_END}
use Rattle.vs_walk.specs.Differences.{IsLeast, HasMissingFrame, HasSharedFrame, HasReservedBit, HasStrayFrame, HasDifference}
use Rattle.vs_walk.specs.Dump.{Image}
use Rattle.vs_walk.specs.Traversal.{found_in}
use Rattle.nr_trace.specs.Recording.{Recording}
use Rattle.nr_trace.specs.Faults.{Earlier}
use Rattle.nr_trace.specs.declared.refusals.fault.Fault.{Fault}
use Rattle.nr_trace.specs.Run.{Run, end_of}
use Rattle.nr_trace.specs.declared.refusals.fault.Fault.TheVariants.{StartMissing, StartShared, StartReserved, StartStray, StartBeyond, StartDiffers}

-- the space of some pages
abbrev pub space_of_pages : List Page → Space
space_of_pages found = finite.from_entries {R = nat_cmp} (map (λ page. (page.base, page)) found)

-- the space of the pages of a start, or no pages where there is none
abbrev pub start_space : Depth → Option Image → Space
start_space depth None = no_pages
start_space depth (Some start) = space_of_pages (found_in depth start)

-- the space with which a segment begins: the one after the segment before it; of the first segment that of its start
abbrev pub first_space : Option Space → Recording → Space
first_space None segment = start_space segment.layout.depth segment.start
first_space (Some before) segment = before

-- the space after a run, if there is one
abbrev pub space_before : Option Run → Option Space
space_before before = option_map end_of before

-- the space with which a segment behind a run begins
abbrev pub begins_in : Option Run → Recording → Space
begins_in before segment = first_space (space_before before) segment

-- a page that is found begins there, and ends above the physical addresses that a page may have
abbrev pub HasPageBeyond : Depth → Image → ℕ → Type 0
HasPageBeyond depth start base =
    (page : Page) × Contains (found_in depth start) page × (page.base ≡ base) × (PHYS_END < page.phys + bytes_of page.size)

-- what each fault of a start says of it, where that is the space before it, or no segment is
abbrev pub HoldsOfStart : Depth → Option Space → Image → Fault → Type 0
HoldsOfStart depth before start (StartMissing number) = HasMissingFrame depth start number
HoldsOfStart depth before start (StartShared number) = HasSharedFrame depth start number
HoldsOfStart depth before start (StartReserved number index) = HasReservedBit depth start number index
HoldsOfStart depth before start (StartStray number) = HasStrayFrame depth start number
HoldsOfStart depth before start (StartBeyond base) = IsLeast (HasPageBeyond depth start) base
HoldsOfStart depth before start (StartDiffers address) = (space : Space) × (before ≡ Some space) × HasDifference depth start space address
HoldsOfStart depth before start fault = ⊥

-- a segment has a start with the fault
abbrev pub HasStartFault : Option Space → Recording → Fault → Type 0
HasStartFault before segment fault =
    (start : Image) × (segment.start ≡ Some start) × HoldsOfStart segment.layout.depth before start fault

-- a segment begins with no fault of its start, or with one, which is the first
abbrev pub BeginsRight : Option Space → Recording → Type 0
BeginsRight before segment = (fault : Fault) → HasStartFault before segment fault → ⊥

-- the segment has a start with this fault, and with none that is earlier
pub record BeginsWrong (before : Option Space) (segment : Recording) (fault : Fault) : Type 0 where
  pub holds : HasStartFault before segment fault
  pub none_earlier : (other : Fault) → HasStartFault before segment other → Earlier segment other fault → ⊥
