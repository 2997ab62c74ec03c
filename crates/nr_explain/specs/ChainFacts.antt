-- Facts of a segment that evidence is made of, from the space on with which it begins.
use Rattle.std.specs.Prelude.{◌≡◌, ◌≢◌, ℕ, ◌+◌, ◌-◌, ◌<◌, ◌≤◌, Bool, false, true, length, slice_get, Option, Some, None}
use Rattle.vs_types.specs.Access.{fault_code}
use Rattle.vs_types.specs.Page.{bytes_of}
use Rattle.vs_types.specs.Space.{Space, no_pages}
use Rattle.vs_types.specs.Step.{look}
use Rattle.vs_types.specs.declared.requests.answer.Answer.{Answer}
use Rattle.vs_types.specs.declared.requests.answer.Answer.TheVariants as answers
use Rattle.nr_trace.specs.Recording.{Recording}
use Rattle.nr_trace.specs.declared.recordings.event.Asked.{Asked}
use Rattle.nr_trace.specs.declared.recordings.event.Asked.TheVariants.{Touch}
use Rattle.nr_touch.specs.Touches.{ChangesLook, IsAnsweredBefore, TakesAway}
use Rattle.nr_audit.specs.Touches.{known_at, known_to}
use Rattle.nr_explain.specs.Facts.{looks_from, response, IsCallOf, IsFirstReplyTo, IsReplyOf}
use Rattle.nr_explain.specs.declared.chain.evidence.Lag.{Lag}
use Rattle.nr_explain.specs.declared.chain.evidence.OpenUpdate.{OpenUpdate}
use Rattle.nr_explain.specs.declared.chain.evidence.Given.{Given}
use Rattle.nr_explain.specs.declared.trace.evidence.RecordedCall.{RecordedCall}
use Rattle.nr_explain.specs.declared.trace.evidence.RecordedReply.{RecordedReply}
use Rattle.nr_explain.specs.declared.chain.evidence.Origin.{Origin}
use Rattle.nr_explain.specs.declared.chain.evidence.Origin.TheVariants.{Nothing, Start, Earlier}

-- after so many places, some, the address looks otherwise than after one less
pub record IsChangedAt (start : Space) (segment : Recording) (address places : ℕ) : Type 0 where
  pub some : 0 < places
  pub changed : looks_from start segment address (places - 1) ≢ looks_from start segment address places

-- the space with which a chain begins, that of its start or no pages
abbrev pub first_of : Option Space → Space
first_of None = no_pages
first_of (Some space) = space

-- whether an address looks in a space as where the chain begins
abbrev pub IsOrigin : Option Space → Space → ℕ → Origin → Type 0
IsOrigin began now address Nothing = (began ≡ None) × (look now address ≡ look no_pages address)
IsOrigin began now address Start = (space : Space) × (began ≡ Some space) × (look now address ≡ look space address)
IsOrigin began now address Earlier = look now address ≢ look (first_of began) address

-- ---- tables that lag

-- the answer is the page fault of a touch that finds no page
abbrev pub IsFaultOfNoPage : Asked → Answer → Type 0
IsFaultOfNoPage (Touch address mode access) answer = answer ≡ answers.Fault (fault_code false mode access)
IsFaultOfNoPage asked answer = ⊥

-- just so many entries is a replica known to have applied by the replies before an event, and this is the first that shows so many; or none are
-- known
abbrev pub IsShownBy : Recording → ℕ → ℕ → ℕ → Option RecordedReply → Type 0
IsShownBy segment replica event known None = known ≡ 0
IsShownBy segment replica event known (Some reply) =
    IsReplyOf segment reply × (reply.event < event) × (known_to segment replica (response reply) ≡ known)
    × (known_at segment replica reply.event < known)

-- how far the table of a touch's replica may lag, where the touch finds no page
abbrev pub IsLagOf : Recording → RecordedCall → Answer → Option Lag → Type 0
IsLagOf segment call answer None = IsFaultOfNoPage call.asked answer → ⊥
IsLagOf segment call answer (Some lag) =
    IsFaultOfNoPage call.asked answer × (lag.known ≡ known_at segment call.replica call.event)
    × IsShownBy segment call.replica call.event lag.known lag.shown

-- ---- what ends that an address is found so

-- whether a page covers an address that looks so
abbrev pub is_mapped : Answer → Bool
is_mapped (answers.Mapped phys size rights) = true
is_mapped look = false

-- the update of a place ends that an address is found with a page, as it takes away from it; or without one, as it changes how it looks
abbrev pub EndsFinding : Space → Recording → ℕ → Bool → ℕ → Type 0
EndsFinding start segment address true place = TakesAway start segment address place
EndsFinding start segment address false place = ChangesLook start segment address place

-- it does so, and isn't answered before an event
abbrev pub IsOpenEnd : Space → Recording → ℕ → ℕ → Bool → ℕ → Type 0
IsOpenEnd start segment address made with_page place =
    EndsFinding start segment address with_page place × (IsAnsweredBefore segment place made → ⊥)

-- ---- memory that is given away

-- the memory has the physical address
abbrev pub IsIn : Given → ℕ → Type 0
IsIn given phys = (given.phys ≤ phys) × (phys < given.phys + bytes_of given.size)

-- an address that looks so leads into the memory
abbrev pub LeadsInto : Given → Answer → Type 0
LeadsInto given (answers.Mapped phys size rights) = IsIn given phys
LeadsInto given look = ⊥

-- from a number of entries on the address leads into the memory after each number of them up to a place, and no longer behind that; and how the
-- update of the place is answered first. Or it leads there up to the end of the log
abbrev pub IsTakenFrom : Space → Recording → ℕ → Given → ℕ → Option OpenUpdate → Type 0
IsTakenFrom start segment address given entries None =
    (n : ℕ) → entries ≤ n → n ≤ length segment.log → LeadsInto given (looks_from start segment address n)
IsTakenFrom start segment address given entries (Some taken) =
    (entries ≤ taken.update.place) × IsCallOf segment taken.update.call
    × (slice_get segment.log taken.update.place ≡ Some taken.update.call.event)
    × ((n : ℕ) → entries ≤ n → n ≤ taken.update.place → LeadsInto given (looks_from start segment address n))
    × (LeadsInto given (looks_from start segment address (taken.update.place + 1)) → ⊥)
    × IsFirstReplyTo segment taken.update.call.event taken.reply
