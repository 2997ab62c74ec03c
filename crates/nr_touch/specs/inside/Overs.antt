-- Stays that are over for the memory of a release: no later release of it is compared with them. No public clause cites this file.
use Rattle.std.specs.Prelude.{◌≡◌, ℕ, ◌+◌, ◌*◌, ◌<◌, ◌≤◌, ◌⊎◌, List, slice_get, slice_index, Some, Contains}
use Rattle.std.specs.BTreeMap.{get}
use Rattle.vs_types.specs.Page.{bytes_of}
use Rattle.vs_types.specs.declared.addresses.page.Page.{Page}
use Rattle.nr_touch.specs.Releases.{HasPhys}
use Rattle.nr_touch.specs.inside.Columns.{Covers}
use Rattle.nr_touch.specs.inside.Indexed.{row_cmp}
use Rattle.nr_touch.specs.inside.Joined.{Behind}
use Rattle.nr_touch.specs.inside.Reached.{LeadsBy}
use Rattle.nr_touch.specs.declared.changes.change.PlacedChange.{PlacedChange}
use Rattle.nr_touch.specs.declared.releases.changed.Changed.{Changed}
use Rattle.nr_touch.specs.declared.releases.overs.Over.{Over}
use Rattle.nr_touch.specs.declared.releases.overs.Overs.{Overs}
use Rattle.nr_touch.specs.declared.releases.release.Release.{Release}
use Rattle.nr_touch.specs.declared.releases.stays.Stay.{Stay}
use Rattle.nr_touch.specs.declared.touches.joined.Joined.{Joined}

-- the later release is of the same memory as the first one, and not made before it
pub record IsAgain (release later : Release) : Type 0 where
  pub size : later.size ≡ release.size
  pub phys : later.phys ≡ release.phys
  pub made : release.made ≤ later.made

-- one release is of the memory of another
pub record IsOfMemory (release other : Release) : Type 0 where
  pub size : other.size ≡ release.size
  pub phys : other.phys ≡ release.phys

-- what was noted of the memory of a release, and of a block
pub record IsNoted (overs : Overs) (release : Release) (block : ℕ) (over : Over) : Type 0 where
  pub key : ℕ × ℕ
  pub has : get row_cmp overs.known key ≡ Some over
  pub of_block : over.block ≡ block
  pub memory : IsOfMemory over.release release

-- nothing was noted
abbrev pub KnowsNothing : Overs → Type 0
KnowsNothing overs = (key : ℕ × ℕ) (over : Over) → get row_cmp overs.known key ≡ Some over → ⊥

-- one note more, in the place of what had its key
abbrev pub AddsNote : Overs → Release → ℕ → ℕ → Overs → Type 0
AddsNote old release block rows new = (key : ℕ × ℕ) (over : Over) → get row_cmp new.known key ≡ Some over
    → (get row_cmp old.known key ≡ Some over) ⊎ ((over.release ≡ release) × (over.block ≡ block) × (over.rows ≡ rows))

-- of each address at which the page has memory of the release, the changes before the place were made by the release
abbrev pub IsSettled : List PlacedChange → Release → Page → ℕ → Type 0
IsSettled changes release page place = (frame : ℕ) (c : PlacedChange) → frame * 4096 < bytes_of page.size → HasPhys release (page.phys + frame * 4096)
    → Contains changes c → Covers (page.base + frame * 4096) c → c.place < place → c.made ≤ release.made

-- from the release on the stay leads no release of its memory there
abbrev pub IsOver : {joined : Joined} → Behind joined → Release → Stay → Type 0
IsOver b release stay = (later : Release) → IsAgain release later → later.made ≤ stay.until → LeadsBy b later stay.page stay.place → ⊥

-- so of the rows of a block from an index up to another
abbrev pub AreOver : {joined : Joined} → Behind joined → Changed → Release → ℕ → ℕ → ℕ → Type 0
AreOver b changed release block begin end = (k : ℕ) (stay : Stay) → begin ≤ k → k < end
    → slice_index changed.lives.blocks.items k ≡ block → slice_get changed.stays.items (slice_index changed.lives.rows.items k) ≡ Some stay
    → IsOver b release stay

-- so of all that was noted
abbrev pub AreKnown : {joined : Joined} → Behind joined → Changed → Overs → Type 0
AreKnown b changed overs = (key : ℕ × ℕ) (over : Over) → get row_cmp overs.known key ≡ Some over → AreOver b changed over.release over.block 0 over.rows
