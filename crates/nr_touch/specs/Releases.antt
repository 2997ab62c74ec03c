-- Memory that is given to somebody else, and whether an access that begins then can reach it.
use Rattle.std.specs.Prelude.{◌≡◌, ℕ, ◌+◌, ◌<◌, ◌≤◌, ◌⊎◌, false, List, slice_get, Option, Some, None, Contains}
use Rattle.vs_types.specs.Page.{bytes_of}
use Rattle.vs_types.specs.Space.{Space}
use Rattle.vs_types.specs.declared.requests.answer.Answer.TheVariants.{Allowed}
use Rattle.nr_trace.specs.Recording.{IsMemory, Recording}
use Rattle.nr_trace.specs.Run.{Run}
use Rattle.nr_touch.specs.Touches.{IsRightBehind}
use Rattle.nr_touch.specs.declared.releases.release.Release.{Release}
use Rattle.nr_touch.specs.declared.touches.touch.Touch.{Touch}

-- the memory of a release has the physical address
abbrev pub HasPhys : Release → ℕ → Type 0
HasPhys release phys = (release.phys ≤ phys) × (phys < release.phys + bytes_of release.size)

-- each release is of memory of its size
abbrev pub AreMemory : List Release → Type 0
AreMemory releases = (release : Release) → Contains releases release → IsMemory release.size release.phys

-- the memory of a release can be reached: a touch that is made and answered at its event, and finds the memory, would be right
pub record IsReachable (before : Option Run) (start : Space) (segment : Recording) (release : Release) : Type 0 where
  pub touch : Touch
  pub made : touch.made ≡ release.made
  pub answered : touch.answered ≡ release.made
  pub phys : ℕ
  pub finds : touch.answer ≡ Allowed phys
  pub within : HasPhys release phys
  pub right : IsRightBehind before start segment touch

-- an address from which the memory of a release can be reached: a touch of it that is made and answered at the release's event, and finds
-- the memory, would be right
pub record IsReachedFrom (before : Option Run) (start : Space) (segment : Recording) (release : Release) (address : ℕ) : Type 0 where
  pub touch : Touch
  pub made : touch.made ≡ release.made
  pub answered : touch.answered ≡ release.made
  pub of_it : touch.address ≡ address
  pub phys : ℕ
  pub finds : touch.answer ≡ Allowed phys
  pub within : HasPhys release phys
  pub right : IsRightBehind before start segment touch

-- the least of these addresses
pub record IsLeastReached (before : Option Run) (start : Space) (segment : Recording) (release : Release) (address : ℕ) : Type 0 where
  pub from : IsReachedFrom before start segment release address
  pub least : (other : ℕ) → IsReachedFrom before start segment release other → address ≤ other

-- the least address from which the memory of a release can be reached, or none where it can't
abbrev pub FindsReached : Option Run → Space → Recording → Release → Option ℕ → Type 0
FindsReached before start segment release None = IsReachable before start segment release → ⊥
FindsReached before start segment release (Some address) = IsLeastReached before start segment release address

-- a wrong release: its memory can be reached, or it is answered otherwise than by Done
abbrev pub IsWrongRelease : Option Run → Space → Recording → Release → Type 0
IsWrongRelease before start segment release = (release.is_done ≡ false) ⊎ IsReachable before start segment release

-- no release below an index is wrong
abbrev pub NoneWrongBelow : Option Run → Space → Recording → List Release → ℕ → Type 0
NoneWrongBelow before start segment releases end =
    (index : ℕ) (release : Release) → index < end → slice_get releases index ≡ Some release → IsWrongRelease before start segment release → ⊥

-- the first wrong release, or none where none is wrong
abbrev pub FindsReachable : Option Run → Space → Recording → List Release → Option ℕ → Type 0
FindsReachable before start segment releases None =
    (index : ℕ) (release : Release) → slice_get releases index ≡ Some release → IsWrongRelease before start segment release → ⊥
FindsReachable before start segment releases (Some index) =
    (release : Release) × (slice_get releases index ≡ Some release) × IsWrongRelease before start segment release
    × NoneWrongBelow before start segment releases index
