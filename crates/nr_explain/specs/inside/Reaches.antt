-- From where the memory of a release may be reached, as it is looked for. No public clause cites this file.
use Rattle.std.specs.Prelude.{◌≡◌, ◌≢◌, ℕ, ◌+◌, ◌<◌, ◌≤◌, true, IfSome, List, Contains, Option, Some, None}
use Rattle.vs_types.specs.Space.{Space}
use Rattle.vs_types.specs.declared.requests.answer.Answer.{Answer}
use Rattle.vs_types.specs.declared.requests.answer.Answer.TheVariants.{Done}
use Rattle.nr_trace.specs.Recording.{Recording}
use Rattle.nr_touch.specs.Looks.{IsLookLeft}
use Rattle.nr_touch.specs.declared.touches.tail.Left.{Left}
use Rattle.nr_explain.specs.ChainEvidence.{IsReach}
use Rattle.nr_explain.specs.ChainFacts.{IsTakenFrom, LeadsInto}
use Rattle.nr_explain.specs.Facts.{looks_from, IsFirstReplyTo}
use Rattle.nr_explain.specs.Progress.{Seen}
use Rattle.nr_explain.specs.inside.Firsts.{IsLeastSeen, IsReachLeft}
use Rattle.nr_explain.specs.inside.Reading.{left_seen}
use Rattle.nr_explain.specs.inside.Windows.{IsWindowOf}
use Rattle.nr_explain.specs.declared.chain.evidence.Leading.TheVariants.{Within, Earlier}
use Rattle.nr_explain.specs.declared.chain.evidence.Moment.{Moment}
use Rattle.nr_explain.specs.declared.chain.evidence.Reach.{Reach}
use Rattle.nr_explain.specs.declared.chain.evidence.OpenUpdate.{OpenUpdate}
use Rattle.nr_explain.specs.declared.chain.evidence.WhyWrong.{WhyWrong}
use Rattle.nr_explain.specs.declared.chain.evidence.WhyWrong.TheVariants.{Otherwise, Reached}
use Rattle.nr_explain.specs.declared.chain.windows.Window.{Window}
use Rattle.nr_explain.specs.declared.chain.evidence.Given.{Given}
use Rattle.nr_explain.specs.declared.trace.evidence.RecordedReply.{RecordedReply}

-- after none of the entries from the first number of them on and below an end the address leads into the memory
abbrev pub NothingLeads : Space → Recording → ℕ → ℕ → ℕ → Given → Type 0
NothingLeads start segment address first end given =
    (n : ℕ) → first ≤ n → n < end → LeadsInto given (looks_from start segment address n) → ⊥

-- of the numbers of entries below an end, the last one from the first on after which the address leads into the memory, and how it looks then; or none
abbrev pub FindsLeadingBelow : Space → Recording → ℕ → ℕ → ℕ → Given → Option Moment → Type 0
FindsLeadingBelow start segment address first end given None = NothingLeads start segment address first end given
FindsLeadingBelow start segment address first end given (Some found) =
    (first ≤ found.entries) × (found.entries < end) × (found.look ≡ looks_from start segment address found.entries) × LeadsInto given found.look
    × ((k : ℕ) → found.entries < k → k < end → LeadsInto given (looks_from start segment address k) → ⊥)

-- the same of a window, with its last number
abbrev pub FindsLeading : Space → Recording → ℕ → ℕ → ℕ → Given → Option Moment → Type 0
FindsLeading start segment address first last given found = FindsLeadingBelow start segment address first (last + 1) given found

-- how an address leads there after so many entries, and what takes that away
pub record IsReachWithin (start : Space) (segment : Recording) (address : ℕ) (window : Window) (given : Given) (moment : Moment) (reach : Reach) : Type 0 where
  pub taken : Option OpenUpdate
  pub is : reach ≡ record {
    address = address;
    first = window.first;
    last = window.last;
    look = moment.look;
    leading = Within moment.entries taken;
  }
  pub takes : IsTakenFrom start segment address given moment.entries taken

-- how it leads there in its segment, or that it doesn't
abbrev pub FindsWithin : Space → Recording → ℕ → Window → Given → Option Reach → Type 0
FindsWithin start segment address window given None = NothingLeads start segment address window.first (window.last + 1) given
FindsWithin start segment address window given (Some reach) =
    (moment : Moment) × FindsLeading start segment address window.first window.last given (Some moment)
    × IsReachWithin start segment address window given moment reach

-- a look of these that leads into the memory, or none
abbrev pub FindsLook : Given → List Answer → Option Answer → Type 0
FindsLook given looks None = (look : Answer) → Contains looks look → LeadsInto given look → ⊥
FindsLook given looks (Some look) = Contains looks look × LeadsInto given look

-- how it leads there behind the segments before, or that it doesn't
pub record IsReachBefore (changes : List Left) (address : ℕ) (window : Window) (given : Given) (reach : Reach) : Type 0 where
  pub none : window.first ≡ 0
  pub seen : Answer
  pub is : reach ≡ record { address = address; first = window.first; last = window.last; look = seen; leading = Earlier }
  pub left : IsLookLeft changes address seen
  pub leads : LeadsInto given seen

abbrev pub FindsBefore : List Left → ℕ → Window → Given → Option Reach → Type 0
FindsBefore changes address window given None =
    window.first ≡ 0 → (look : Answer) → IsLookLeft changes address look → LeadsInto given look → ⊥
FindsBefore changes address window given (Some reach) = IsReachBefore changes address window given reach

-- from the address no access that is made and answered at the event finds the memory: neither in its segment nor by what is left
pub record LeadsNowhere (changes : List Left) (start : Space) (segment : Recording) (event : ℕ) (given : Given) (address : ℕ) : Type 0 where
  pub window : Window
  pub is : IsWindowOf start segment address event event true window
  pub within : NothingLeads start segment address window.first (window.last + 1) given
  pub earlier : window.first ≡ 0 → (look : Answer) → IsLookLeft changes address look → LeadsInto given look → ⊥

-- what is found is a reach of the memory
pub record IsReachOf (changes : List Left) (start : Space) (segment : Recording) (event : ℕ) (given : Given) (reach : Reach) : Type 0 where
  pub is : IsReach start segment event given reach
  pub left : IsReachLeft changes reach

-- how an address leads into the memory of a release, or that it doesn't
abbrev pub FindsReach : List Left → Space → Recording → ℕ → Given → ℕ → Option Reach → Type 0
FindsReach changes start segment event given address None = LeadsNowhere changes start segment event given address
FindsReach changes start segment event given address (Some reach) =
    IsReachOf changes start segment event given reach × (reach.address ≡ address)

-- what is found is a reach of the memory from the least address
pub record IsLeastReach (seen : Option Seen) (start : Space) (segment : Recording) (event : ℕ) (given : Given) (reach : Reach) : Type 0 where
  pub of_it : IsReachOf (left_seen seen) start segment event given reach
  pub least : IsLeastSeen seen start segment event given reach.address

-- a reply that says otherwise than Done, or none where it doesn't or there is no reply
abbrev pub FindsOtherwise : Option RecordedReply → Option RecordedReply → Type 0
FindsOtherwise reply None = IfSome reply (λ it. it.answer ≡ Done)
FindsOtherwise reply (Some other) = (reply ≡ Some other) × (other.answer ≢ Done)

-- a release of this number is wrong as its first reply says otherwise, or as its memory may be reached
abbrev pub IsWhyOf : Option Seen → Space → Recording → ℕ → Given → WhyWrong → Type 0
IsWhyOf seen start segment call given (Otherwise reply) = IsFirstReplyTo segment call (Some reply) × (reply.answer ≢ Done)
IsWhyOf seen start segment call given (Reached reply reach) =
    IsFirstReplyTo segment call reply × IfSome reply (λ it. it.answer ≡ Done) × IsLeastReach seen start segment call given reach
