-- The releases of a segment, and which are wrong.
use Rattle.std.specs.Prelude.{◌≡◌, ◌↔◌, ℕ, Option, Some, IsTrue}
use Rattle.vs_types.specs.Space.{Space, page_at}
use Rattle.vs_types.specs.declared.requests.answer.Answer.TheVariants.{Done}
use Rattle.vs_types.specs.declared.addresses.page.Page.{Page}
use Rattle.nr_trace.specs.Recording.{Recording}
use Rattle.nr_trace.specs.Calls.{released_of, Response, reply_of}
use Rattle.nr_trace.specs.Run.{Run, end_of}
use Rattle.nr_touch.specs.Releases.{IsWrongRelease}
use Rattle.nr_touch.specs.Tails.{Lingers}
use Rattle.nr_touch.specs.inside.Reached.{IsSamePlace}
use Rattle.nr_touch.specs.declared.releases.release.Release.{Release}

-- a call is answered by nothing but Done
abbrev pub IsDoneOrOpen : Recording → ℕ → Type 0
IsDoneOrOpen segment call = (index : ℕ) (reply : Response) → reply_of segment index ≡ Some reply → reply.call ≡ call → reply.answer ≡ Done

-- the segment has this release: its event gives this memory away; and it is answered by nothing but Done, if it says so
pub record HasRelease (segment : Recording) (release : Release) : Type 0 where
  pub gives : released_of segment release.made ≡ Some (record { size = release.size; phys = release.phys })
  pub done : IsTrue release.is_done ↔ IsDoneOrOpen segment release.made

-- no release of a segment behind a run is wrong, where the segment begins with this space
abbrev pub HasRightReleases : Option Run → Space → Recording → Type 0
HasRightReleases before start segment = (release : Release) → HasRelease segment release → IsWrongRelease before start segment release → ⊥

-- the call of this number is a release that is wrong
abbrev pub IsWrongAt : Option Run → Space → Recording → ℕ → Type 0
IsWrongAt before start segment call =
    (release : Release) × HasRelease segment release × (release.made ≡ call) × IsWrongRelease before start segment release

-- behind the run each page that may still be found at an address leads to the memory of the page that is there at its end, whatever their rights
abbrev pub IsSettled : Run → Type 0
IsSettled run = (address : ℕ) (page : Page) → Lingers run.start run.trace address (Some page)
    → (own : Page) × (page_at (end_of run) address ≡ Some own) × IsSamePlace page own

-- where the segment gives memory away, the run before it is settled
abbrev pub HasSettledReleases : Run → Recording → Type 0
HasSettledReleases run segment = (release : Release) → HasRelease segment release → IsSettled run
