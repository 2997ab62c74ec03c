-- The numbers of entries after which an answer would be right, as they are looked for. No public clause cites this file.
use Rattle.std.specs.Prelude.{◌≡◌, ℕ, ◌+◌, ◌-◌, ◌<◌, ◌≤◌, ◌==◌, ◌&&◌, nat_le, nat_lt, Bool, IsTrue, Option, Some, None, if◌then◌else◌}
use Rattle.vs_types.specs.Space.{Space}
use Rattle.vs_types.specs.Page.{covers}
use Rattle.vs_types.specs.Step.{step, look, allow}
use Rattle.vs_types.specs.declared.requests.answer.Answer.{Answer}
use Rattle.vs_types.specs.declared.addresses.page.Page.{Page}
use Rattle.vs_types.specs.declared.requests.request.Query.{Query}
use Rattle.vs_types.specs.declared.requests.request.Query.TheVariants.{Update, Resolve, Access}
use Rattle.vs_plain.specs.Plain.{BoundedSpace}
use Rattle.nr_trace.specs.Recording.{Recording}
use Rattle.nr_explain.specs.Nearest.{IsFirstStretch, IsLastStretch, IsRightAfter}
use Rattle.nr_explain.specs.declared.trace.nearby.RightAfter.{RightAfter}
use Rattle.nr_explain.specs.declared.trace.nearby.Stretch.{Stretch}

-- the space answers the request so
abbrev pub IsToldIn : BoundedSpace → Query → Answer → Type 0
IsToldIn space (Update action) told = told ≡ (step space.depth space.limit space.space action).answer
IsToldIn space (Resolve address) told = told ≡ look space.space address
IsToldIn space (Access address mode access) told = told ≡ allow space.space address mode access

-- one number
abbrev pub alone : ℕ → Stretch
alone n = record { first = n; last = n }

-- the last stretch with a number behind it: with the stretch where that ends right before it
abbrev pub prolonged : Option Stretch → ℕ → Stretch
prolonged None n = alone n
prolonged (Some stretch) n = if stretch.last + 1 == n then record { first = stretch.first; last = n } else alone n

-- the first stretch with a number behind it: longer where it ends right before that
abbrev pub begun : Option Stretch → ℕ → Stretch
begun None n = alone n
begun (Some stretch) n = if stretch.last + 1 == n then record { first = stretch.first; last = n } else stretch

-- the last stretch below a number with one more, after which the answer is right or is not
abbrev pub last_with : Option Stretch → ℕ → ℕ → Bool → Option Stretch
last_with last below n is = if is && nat_lt n below then Some (prolonged last n) else last

-- the first stretch above a number and not below another with one more, after which the answer is right or is not
abbrev pub first_with : Option Stretch → ℕ → ℕ → ℕ → Bool → Option Stretch
first_with first below above n is = if is && (nat_lt above n && nat_le below n) then Some (begun first n) else first

-- what is found with a number more, after which the answer is right or is not
abbrev pub tried : RightAfter → ℕ → ℕ → ℕ → Bool → RightAfter
tried right below above n is = record {
  before = last_with right.before below n is;
  behind = first_with right.behind below above n is;
  places = right.places;
}

-- of the numbers below an end these are found
pub record IsNearestBelow (start : Space) (trace : Recording) (request : Query) (told : Answer) (below above end : ℕ) (right : RightAfter) : Type 0 where
  pub before : IsLastStretch (λ n. (n < below) × IsRightAfter start trace request told n) end right.before
  pub behind : IsFirstStretch (λ n. (above < n) × (below ≤ n) × IsRightAfter start trace request told n) end right.behind

-- the page has the address, and translates it to this physical address
pub record LeadsTo (page : Page) (address phys : ℕ) : Type 0 where
  pub covered : IsTrue (covers page address)
  pub leads : page.phys + (address - page.base) ≡ phys
