-- What contracts see of a clock and of its pens.
use Rattle.std.specs.Prelude.{◌≡◌, ℕ, ◌+◌, ◌%◌, List, [], ◌∷◌, ◌++◌, All, map, Option, Some, None, Bool, true, false}
use Rattle.std.specs.List.{count_by, range_with_len, sum_by}
use Rattle.atomic_table.specs.Seated.{TableId}
use Rattle.vs_types.specs.Config.{Layout}
use Rattle.vs_types.specs.declared.requests.answer.Answer.{Answer}
use Rattle.vs_types.specs.declared.requests.request.Query.{Query}
use Rattle.nr_trace.specs.declared.recordings.event.Event.{Event}
use Rattle.nr_trace.specs.declared.recordings.event.Event.TheVariants.{Call, Reply}
use Rattle.nr_trace.specs.declared.recordings.event.Asked.TheVariants as askeds
use Rattle.nr_record.specs.declared.view.Plan.{Plan}
use Rattle.nr_record.specs.declared.stamped.Stamped.{Stamped}

-- which clock it is, how the service is laid out, and how many calls the pens of the clock may make in all
pub record ClockId : Type 0 where
  pub word : TableId
  pub layout : Layout
  pub calls : ℕ

abbrev pub clock_of : TableId → Plan → ClockId
clock_of word plan = record { word = word; layout = plan.config; calls = plan.calls }

-- the clock that a pen is of, the thread that it records, how many calls it may make, and the call that waits for its reply; and what the
-- pen was given, each with its stamp, in order
pub record PenState : Type 0 where
  pub clock : ClockId
  pub thread : ℕ
  pub quota : ℕ
  pub waiting : Option ℕ
  pub made : List Stamped

-- the replica at which a thread works
abbrev pub home_of : Layout → ℕ → ℕ
home_of layout thread = thread % layout.replicas

-- an event with its stamp
abbrev pub stamped : ℕ → Event → Stamped
stamped stamp event = record { stamp = stamp; event = event }

-- a thread makes a call
abbrev pub call_by : Layout → ℕ → Query → Event
call_by layout thread request = Call (home_of layout thread) thread (askeds.Request request)

-- whether an event is a call, a touch or a release
abbrev pub is_call : Event → Bool
is_call (Call replica thread asked) = true
is_call event = false

-- how many calls there are among what a pen was given
abbrev pub calls_in : List Stamped → ℕ
calls_in made = count_by (λ item. is_call item.event) made

-- the stamps that a pen has drawn
abbrev pub stamps_of : PenState → List ℕ
stamps_of pen = map (λ item. item.stamp) pen.made

-- a pen that was given nothing yet
abbrev pub new_pen : ClockId → ℕ → ℕ → PenState
new_pen clock thread quota = record { clock = clock; thread = thread; quota = quota; waiting = None; made = [] }

-- the pens of a new clock, one for each quota, from this thread on
abbrev pub new_pens : ClockId → ℕ → List ℕ → List PenState
new_pens clock thread [] = []
new_pens clock thread (quota ∷ quotas) = new_pen clock thread quota ∷ new_pens clock (thread + 1) quotas

-- the pen has drawn this stamp for a call of its thread, at the thread's replica
abbrev pub with_call : PenState → ℕ → Query → PenState
with_call pen stamp request = record {
  clock = pen.clock;
  thread = pen.thread;
  quota = pen.quota;
  waiting = Some stamp;
  made = pen.made ++ stamped stamp (call_by pen.clock.layout pen.thread request) ∷ [];
}

-- the pen has drawn this stamp for the reply to a call
abbrev pub with_reply : PenState → ℕ → ℕ → ℕ → Answer → PenState
with_reply pen stamp call at answer = record {
  clock = pen.clock;
  thread = pen.thread;
  quota = pen.quota;
  waiting = None;
  made = pen.made ++ stamped stamp (Reply call at answer) ∷ [];
}

-- all pens of a clock, by thread
pub record AreAllPens (clock : ClockId) (pens : List PenState) : Type 0 where
  pub of_clock : All (λ pen. pen.clock ≡ clock) pens
  pub threads : map (λ pen. pen.thread) pens ≡ range_with_len 0 clock.layout.threads
  pub quotas : sum_by (λ pen. pen.quota) pens ≡ clock.calls
