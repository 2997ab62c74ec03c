-- Touches of a trace whose space begins with a start: which are right.
use Rattle.std.specs.Prelude.{◌≡◌, ◌≢◌, ℕ, ◌+◌, ◌<◌, ◌≤◌, ◌⊎◌, false, true, length, take, Option, None, Some}
use Rattle.vs_types.specs.Access.{fault_code}
use Rattle.vs_types.specs.Space.{Space, page_at}
use Rattle.vs_types.specs.Step.{allow}
use Rattle.vs_types.specs.declared.requests.answer.Answer.TheVariants.{Fault}
use Rattle.vs_types.specs.declared.addresses.page.Page.{Page}
use Rattle.vs_types.specs.declared.addresses.page.Rights.{Rights}
use Rattle.nr_trace.specs.Recording.{Recording}
use Rattle.nr_trace.specs.Calls.{Answers}
use Rattle.nr_trace.specs.Faults.{HasPlaced}
use Rattle.nr_trace.specs.Orders.{space_from, floor}
use Rattle.nr_trace.specs.Joined.{joined_traces}
use Rattle.nr_trace.specs.Run.{Run}
use Rattle.nr_touch.specs.declared.touches.touch.Touch.{Touch}

-- the page that covers an address after the first entries of the log, this many
abbrev pub page_after : Space → Recording → ℕ → ℕ → Option Page
page_after start trace address n = page_at (space_from start trace (take n trace.log)) address

-- the update of a place changes how an address looks: another page covers it after its place than before
abbrev pub ChangesLook : Space → Recording → ℕ → ℕ → Type 0
ChangesLook start trace address place = page_after start trace address place ≢ page_after start trace address (place + 1)

-- the log has at the place a call that is answered before an event
abbrev pub IsAnsweredBefore : Recording → ℕ → ℕ → Type 0
IsAnsweredBefore trace place event = HasPlaced trace place (λ call. (reply : ℕ) × (reply < event) × Answers trace reply call)

-- the log has at the place a call that is made after an event
abbrev pub IsMadeAfter : Recording → ℕ → ℕ → Type 0
IsMadeAfter trace place event = HasPlaced trace place (λ call. event < call)

-- rights that have each of others
pub record Includes (old new : Rights) : Type 0 where
  pub write : old.write ≡ true → new.write ≡ true
  pub user : old.user ≡ true → new.user ≡ true
  pub exec : old.exec ≡ true → new.exec ≡ true

-- an address still has a page: one of equal base, size and physical address, with every right that it had
pub record StillHas (page : Page) (after : Option Page) : Type 0 where
  pub rights : Rights
  pub is : after ≡ Some (record page { rights = rights })
  pub more : Includes page.rights rights

-- a page covered the address, and it no longer has that page, or not with every right
pub record IsTaken (before after : Option Page) : Type 0 where
  pub page : Page
  pub was : before ≡ Some page
  pub gone : StillHas page after → ⊥

-- the update of a place takes away from an address: a page covered it, and afterwards it no longer has that page, or not with every right
abbrev pub TakesAway : Space → Recording → ℕ → ℕ → Type 0
TakesAway start trace address place = IsTaken (page_after start trace address place) (page_after start trace address (place + 1))

-- how an address looks changes from before to after, and this ends that it is found to look so. A page is kept until something is taken away from the
-- address. That no page is there is kept by nobody
abbrev pub Ends : Option Page → Option Page → Option Page → Type 0
Ends None before after = before ≢ after
Ends (Some page) before after = IsTaken before after

-- the answer of the update of a place ends that the address is found to look so
abbrev pub EndsLook : Space → Recording → ℕ → Option Page → ℕ → Type 0
EndsLook start trace address page place = Ends page (page_after start trace address place) (page_after start trace address (place + 1))

-- a touch may be answered from the first entries of the log, this many. They have each update that was answered before it was made and ends that
-- its address is found to look as after them. They have none that changes how it looks and was made after the touch was answered
pub record IsAllowedPrefix (start : Space) (trace : Recording) (touch : Touch) (n : ℕ) : Type 0 where
  pub within : n ≤ length trace.log
  pub flushed : (place : ℕ) → EndsLook start trace touch.address (page_after start trace touch.address n) place
      → IsAnsweredBefore trace place touch.made → place < n
  pub not_foreseen : (place : ℕ) → ChangesLook start trace touch.address place → IsMadeAfter trace place touch.answered → n ≤ place

-- the touch is answered as the space after so many entries answers
abbrev pub IsAnsweredAt : Space → Recording → Touch → ℕ → Type 0
IsAnsweredAt start trace touch n = touch.answer ≡ allow (space_from start trace (take n trace.log)) touch.address touch.mode touch.access

-- the touch is answered as after some prefix that is allowed
abbrev pub IsAnsweredInTime : Space → Recording → Touch → Type 0
IsAnsweredInTime start trace touch = (n : ℕ) × IsAllowedPrefix start trace touch n × IsAnsweredAt start trace touch n

-- the touch is answered by a page fault since no page has its address: bit 0 of the code is clear
abbrev pub IsFaultOfNone : Touch → Type 0
IsFaultOfNone touch = touch.answer ≡ Fault (fault_code false touch.mode touch.access)

-- the table of the touch's replica may lag at so many entries. They have all that it was known to have applied when the touch was made.
-- They have none that changes how the address looks and was made after the touch was answered, and no page has the address after them
pub record IsLagging (start : Space) (trace : Recording) (touch : Touch) (m : ℕ) : Type 0 where
  pub within : m ≤ length trace.log
  pub known : touch.known ≤ m
  pub not_foreseen : (place : ℕ) → ChangesLook start trace touch.address place → IsMadeAfter trace place touch.answered → m ≤ place
  pub absent : page_after start trace touch.address m ≡ None

-- the touch faults by a table that lags
abbrev pub IsFaultOfLagging : Space → Recording → Touch → Type 0
IsFaultOfLagging start trace touch = IsFaultOfNone touch × (m : ℕ) × IsLagging start trace touch m

-- a right touch: it is answered as after some prefix that is allowed, or faults by a table that lags
abbrev pub IsRightTouch : Space → Recording → Touch → Type 0
IsRightTouch start trace touch = IsAnsweredInTime start trace touch ⊎ IsFaultOfLagging start trace touch

-- a touch behind so many events and entries: at a cut all replicas have caught up
abbrev pub touch_behind : ℕ → ℕ → Touch → Touch
touch_behind events places touch = record touch { made = events + touch.made; answered = events + touch.answered; known = places + touch.known }

-- a right touch of a segment, which begins with this space where no run comes before: behind a run it is right in the run with the segment
abbrev pub IsRightBehind : Option Run → Space → Recording → Touch → Type 0
IsRightBehind None start segment touch = IsRightTouch start segment touch
IsRightBehind (Some run) start segment touch =
    IsRightTouch run.start (joined_traces run.trace segment) (touch_behind (length run.trace.events) (length run.trace.log) touch)

-- no update changes how the address looks while the touch is open, and none that changes it is open when the touch is made
abbrev pub IsOfQuietPage : Space → Recording → Touch → Type 0
IsOfQuietPage start trace touch = (place : ℕ) → ChangesLook start trace touch.address place
    → IsAnsweredBefore trace place touch.made ⊎ IsMadeAfter trace place touch.answered

-- after so many entries an access would be answered that is made and answered as the touch is. They have all that is known by a reply
-- before it was made, and no update that was made after it was answered
pub record IsOfThePresent (trace : Recording) (touch : Touch) (n : ℕ) : Type 0 where
  pub within : n ≤ length trace.log
  pub known : floor trace touch.made ≤ n
  pub not_foreseen : (place : ℕ) → place < n → IsMadeAfter trace place touch.answered → ⊥

-- if no page having its address is why the touch faults, its replica was known to have applied each update that changes how the address looks and
-- was answered before the touch was made
abbrev pub LagsInNothing : Space → Recording → Touch → Type 0
LagsInNothing start trace touch = IsFaultOfNone touch → (place : ℕ) → ChangesLook start trace touch.address place
    → IsAnsweredBefore trace place touch.made → place < touch.known

-- each prefix that is allowed has each update that changes how the address looks and was answered before the touch was made
abbrev pub KeepsNothing : Space → Recording → Touch → Type 0
KeepsNothing start trace touch = (n place : ℕ) → IsAllowedPrefix start trace touch n → ChangesLook start trace touch.address place
    → IsAnsweredBefore trace place touch.made → place < n
