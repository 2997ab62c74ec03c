-- The calls of a trace: what they ask, how they are answered, and which was answered before another was made.
use Rattle.std.specs.Prelude.{◌≡◌, ℕ, ◌<◌, ◌==◌, ◌⊎◌, slice_get, filter_map, Option, Some, None, option_and_then, IsSome, if◌then◌else◌}
use Rattle.vs_types.specs.declared.requests.answer.Answer.{Answer}
use Rattle.vs_types.specs.declared.addresses.page.Size.{Size}
use Rattle.vs_types.specs.declared.requests.op.Action.{Action}
use Rattle.vs_types.specs.declared.requests.request.Query.{Query}
use Rattle.vs_types.specs.declared.requests.request.Query.TheVariants.{Update, Resolve, Access}
use Rattle.nr_trace.specs.Recording.{Recording}
use Rattle.nr_trace.specs.declared.recordings.event.Event.{Event}
use Rattle.nr_trace.specs.declared.recordings.event.Event.TheVariants.{Call, Reply}
use Rattle.nr_trace.specs.declared.recordings.event.Asked.{Asked}
use Rattle.nr_trace.specs.declared.recordings.event.Asked.TheVariants.{Request, Release}

-- the maker of a call, its replica, and what it asks
pub record Invocation : Type 0 where
  pub replica : ℕ
  pub thread : ℕ
  pub asked : Asked

abbrev pub made_by : Event → Option Invocation
made_by (Call replica thread asked) = Some (record { replica = replica; thread = thread; asked = asked })
made_by event = None

-- the call of this number
abbrev pub call_of : Recording → ℕ → Option Invocation
call_of trace call = option_and_then made_by (slice_get trace.events call)

-- what is asked of the address space, in its place in an order: a request. What asks anything else has no place in an order, as a touch, which
-- is an access that a processor made through its TLB, and a release
abbrev pub request_in : Asked → Option Query
request_in (Request request) = Some request
request_in asked = None

abbrev pub unordered_in : Asked → Option Asked
unordered_in (Request request) = None
unordered_in asked = Some asked

abbrev pub operation_in : Query → Option Action
operation_in (Update action) = Some action
operation_in (Resolve address) = None
operation_in (Access address mode access) = None

abbrev pub read_address : Query → Option ℕ
read_address (Update action) = None
read_address (Resolve address) = Some address
read_address (Access address mode access) = Some address

-- the request of an update or a read: of a call that is no touch or release
abbrev pub request_of : Recording → ℕ → Option Query
request_of trace call = option_and_then (λ made. request_in made.asked) (call_of trace call)

-- the operation of an update, and the address of a read: a resolve or an access
abbrev pub operation_of : Recording → ℕ → Option Action
operation_of trace call = option_and_then operation_in (request_of trace call)

abbrev pub address_of : Recording → ℕ → Option ℕ
address_of trace call = option_and_then read_address (request_of trace call)

-- what a touch or a release asks
abbrev pub touch_of : Recording → ℕ → Option Asked
touch_of trace call = option_and_then (λ made. unordered_in made.asked) (call_of trace call)

-- memory that is given to somebody else: of a size, from a physical address on
pub record Released : Type 0 where
  pub size : Size
  pub phys : ℕ

-- the memory that a release gives away; None of what asks anything else
abbrev pub released_in : Asked → Option Released
released_in (Release size phys) = Some (record { size = size; phys = phys })
released_in asked = None

-- the memory that the call of this number gives away, if it is a release
abbrev pub released_of : Recording → ℕ → Option Released
released_of trace call = option_and_then (λ made. released_in made.asked) (call_of trace call)

abbrev pub IsCall : Recording → ℕ → Type 0
IsCall trace call = IsSome (call_of trace call)

abbrev pub IsUpdate : Recording → ℕ → Type 0
IsUpdate trace call = IsSome (operation_of trace call)

abbrev pub IsRead : Recording → ℕ → Type 0
IsRead trace call = IsSome (address_of trace call)

abbrev pub IsTouch : Recording → ℕ → Type 0
IsTouch trace call = IsSome (touch_of trace call)

-- a call that has a place in an order: an update or a read
abbrev pub IsOrdered : Recording → ℕ → Type 0
IsOrdered trace call = IsUpdate trace call ⊎ IsRead trace call

-- what a reply says of its call
pub record Response : Type 0 where
  pub call : ℕ
  pub at : ℕ
  pub answer : Answer

abbrev pub reply_in : Event → Option Response
reply_in (Reply call at answer) = Some (record { call = call; at = at; answer = answer })
reply_in event = None

-- the reply that the event of this index is
abbrev pub reply_of : Recording → ℕ → Option Response
reply_of trace index = option_and_then reply_in (slice_get trace.events index)

abbrev names : ℕ → Response → Option Response
names call reply = if reply.call == call then Some reply else None

-- the first reply to a call
abbrev pub reply_to : Recording → ℕ → Option Response
reply_to trace call = slice_get (filter_map (λ event. option_and_then (names call) (reply_in event)) trace.events) 0

abbrev pub IsAnswered : Recording → ℕ → Type 0
IsAnswered trace call = IsSome (reply_to trace call)

-- the event of this index is a reply to the call
abbrev pub Answers : Recording → ℕ → ℕ → Type 0
Answers trace index call = IsSome (option_and_then (names call) (reply_of trace index))

-- a reply to the first call comes before the second call is made
abbrev pub Precedes : Recording → ℕ → ℕ → Type 0
Precedes trace first second = IsCall trace second × (index : ℕ) × (index < second) × Answers trace index first

-- the events are those of threads that wait for each reply. Every reply answers an earlier call, a call has one reply at most, and of two
-- calls of one thread a reply to the first comes before the second
pub record IsWellFormedHistory (trace : Recording) : Type 0 where
  pub of_calls : (index : ℕ) (reply : Response) → reply_of trace index ≡ Some reply → (reply.call < index) × IsCall trace reply.call
  pub once : (first second call : ℕ) → Answers trace first call → Answers trace second call → first ≡ second
  pub one_open : (first second : ℕ) (made next : Invocation) → first < second → call_of trace first ≡ Some made → call_of trace second ≡ Some next
      → made.thread ≡ next.thread → Precedes trace first second
