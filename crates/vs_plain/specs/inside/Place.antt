-- What is at an address of a space.
use Rattle.std.specs.Prelude.{◌≡◌, ℕ, Option, Some, None, IsTrue}
use Rattle.vs_types.specs.Page.{covers, IsPage}
use Rattle.vs_types.specs.Space.{Space, page_at}
use Rattle.vs_types.specs.declared.addresses.depth.Depth.{Depth}
use Rattle.vs_types.specs.declared.addresses.page.Page.{Page}
use Rattle.vs_types.specs.declared.requests.answer.Answer.{Answer}
use Rattle.vs_types.specs.declared.requests.answer.Answer.TheVariants.{NotMapped, Inside}
use Rattle.vs_plain.specs.declared.place.Place.{Place}
use Rattle.vs_plain.specs.declared.place.Place.TheVariants.{Covered, Free}
use Rattle.vs_plain.specs.inside.PageMap.{IsLastUpTo}

-- the page that covers the address, or none does, and this is the last page up to it
abbrev pub IsPlaceOf : Depth → Space → ℕ → Place → Type 0
IsPlaceOf depth space address (Covered page) = (page_at space address ≡ Some page) × IsTrue (covers page address) × IsPage depth page
IsPlaceOf depth space address (Free below) = (page_at space address ≡ None) × IsLastUpTo space address below

-- what a call is answered that names an address at which no page begins, by the page that covers it
abbrev pub no_page : Option Page → Answer
no_page None = NotMapped
no_page (Some page) = Inside page.base
