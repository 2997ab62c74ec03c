-- What the laws of `src/laws.rt` say of two spaces.
use Rattle.std.specs.Prelude.{◌≡◌, ◌≢◌, ℕ, ◌+◌, ◌-◌, ◌<◌, ◌≤◌, Bool, true, false, IsTrue, IsFalse, ◌↔◌}
use Rattle.vs_types.specs.declared.requests.answer.Answer.{Answer}
use Rattle.vs_types.specs.declared.requests.answer.Answer.TheVariants.{Done, Overlap, Full, Removed, NotMapped, Inside, Changed, Mapped, Allowed, Fault}
use Rattle.vs_types.specs.declared.addresses.page.Page.{Page}
use Rattle.vs_types.specs.declared.addresses.page.Rights.{Rights}
use Rattle.vs_types.specs.Page.{covers, overlaps}
use Rattle.vs_types.specs.Space.{Space, Holds}
use Rattle.vs_types.specs.Step.{look}

-- how an address of a page looks
abbrev pub as_in : Page → ℕ → Answer
as_in page address = Mapped (page.phys + (address - page.base)) page.size page.rights

-- each address of the page looks as `inside` says of it, and each other address as before
pub record LooksChanged (page : Page) (inside : ℕ → Answer) (before after : Space) : Type 0 where
  pub there : (address : ℕ) → IsTrue (covers page address) → look after address ≡ inside address
  pub elsewhere : (address : ℕ) → IsFalse (covers page address) → look after address ≡ look before address

-- the same pages, but for these rights of this one
pub record HasNewRights (page : Page) (rights : Rights) (before after : Space) : Type 0 where
  pub held : Holds before page
  pub changed : Holds after (record page { rights = rights })
  pub others : (other : Page) → other.base ≢ page.base → Holds after other ↔ Holds before other

-- the base of a page that this page overlaps, and no page that it overlaps begins below
pub record IsLeastOverlapped (space : Space) (page : Page) (base : ℕ) : Type 0 where
  pub overlapped : (q : Page) × Holds space q × (q.base ≡ base) × IsTrue (overlaps page q)
  pub none_below : (q : Page) → Holds space q → IsTrue (overlaps page q) → base ≤ q.base

-- the base of a page that has the address and begins below it
pub record IsInside (space : Space) (address base : ℕ) : Type 0 where
  pub covered : (q : Page) × Holds space q × (q.base ≡ base) × IsTrue (covers q address)
  pub below : base < address

-- whether an answer says that the space has changed
abbrev pub changes : Answer → Bool
changes Done = true
changes (Overlap base) = false
changes (Full need) = false
changes (Removed phys size rights) = true
changes NotMapped = false
changes (Inside base) = false
changes (Changed rights) = true
changes (Mapped phys size rights) = false
changes (Allowed phys) = false
changes (Fault code) = false
