-- Orders of the calls of a trace: which are legal, which a dump fits, and the one that the trace records.
use Rattle.std.specs.Prelude.{◌≡◌, ℕ, zero, suc, ◌+◌, ◌≤◌, ◌==◌, ◌&&◌, ◌⊎◌, List, [], ◌∷◌, ◌++◌, length, take, slice_get, filter, filter_map, flat_map, map}
use Rattle.std.specs.Prelude.{Contains, Some, option_to_list, is_some, false, max, nat_eq}
use Rattle.std.specs.Option.{option_map_or}
use Rattle.std.specs.List.{IsDistinct, before_first, fold}
use Rattle.vs_types.specs.Config.{Layout}
use Rattle.vs_types.specs.Space.{Space, no_pages}
use Rattle.vs_types.specs.Step.{step, look, allow, after_all}
use Rattle.vs_types.specs.declared.requests.answer.Answer.{Answer}
use Rattle.vs_types.specs.declared.requests.op.Action.{Action}
use Rattle.vs_types.specs.declared.requests.request.Query.{Query}
use Rattle.vs_types.specs.declared.requests.request.Query.TheVariants.{Update, Resolve, Access}
use Rattle.vs_walk.specs.Walk.{TranslatesAs}
use Rattle.vs_walk.specs.Dump.{Image}
use Rattle.nr_trace.specs.Recording.{Recording}
use Rattle.nr_trace.specs.Calls.{Invocation, call_of, request_of, operation_of, address_of, touch_of, IsOrdered}
use Rattle.nr_trace.specs.Calls.{IsUpdate, IsRead, Response, reply_in, reply_to, IsAnswered}
use Rattle.nr_trace.specs.Calls.{Precedes}

-- the members of an order that come before a call
abbrev pub before : ℕ → List ℕ → List ℕ
before call order = before_first (λ other. other == call) order

-- the updates among some calls, and their operations
abbrev pub updates : Recording → List ℕ → List ℕ
updates trace calls = filter (λ call. is_some (operation_of trace call)) calls

abbrev pub operations : Recording → List ℕ → List Action
operations trace calls = filter_map (operation_of trace) calls

-- the one sequential space of a trace that begins with a start, after the updates among these calls, in their order
abbrev pub space_from : Space → Recording → List ℕ → Space
space_from start trace calls = after_all trace.layout.depth trace.layout.tables start (operations trace calls)

-- the one sequential space of a trace after the updates among these calls, in their order, from no pages on
abbrev pub space_after : Recording → List ℕ → Space
space_after trace calls = space_from no_pages trace calls

-- what a request is answered in a space
abbrev pub answer_in : Layout → Space → Query → Answer
answer_in layout space (Update action) = (step layout.depth layout.tables space action).answer
answer_in layout space (Resolve address) = look space address
answer_in layout space (Access address mode access) = allow space address mode access

-- the order has distinct updates and reads: all that are answered, and some unanswered updates
pub record HasItsCalls (trace : Recording) (order : List ℕ) : Type 0 where
  pub once : IsDistinct nat_eq order
  pub calls : (call : ℕ) → Contains order call → IsOrdered trace call
  pub answered : (call : ℕ) → IsOrdered trace call → IsAnswered trace call → Contains order call
  pub others : (call : ℕ) → Contains order call → IsAnswered trace call ⊎ IsUpdate trace call

-- a member that was answered before another was made comes before it
abbrev pub KeepsPrecedence : Recording → List ℕ → Type 0
KeepsPrecedence trace order = (first second : ℕ) → Contains order first → Contains order second → Precedes trace first second
    → Contains (before second order) first

-- each answer to a request is what the space gives after the updates that come before
abbrev pub HasAnswersFrom : Space → Recording → List ℕ → Type 0
HasAnswersFrom start trace order = (call : ℕ) (request : Query) (reply : Response) → request_of trace call ≡ Some request
    → reply_to trace call ≡ Some reply → reply.answer ≡ answer_in trace.layout (space_from start trace (before call order)) request

abbrev pub HasTheAnswers : Recording → List ℕ → Type 0
HasTheAnswers trace order = HasAnswersFrom no_pages trace order

-- a legal order: a linearization of the calls
pub record IsLegalFrom (start : Space) (trace : Recording) (order : List ℕ) : Type 0 where
  pub members : HasItsCalls trace order
  pub precedence : KeepsPrecedence trace order
  pub answers : HasAnswersFrom start trace order

-- a legal order from no pages on
abbrev pub IsLegalOrder : Recording → List ℕ → Type 0
IsLegalOrder trace order = IsLegalFrom no_pages trace order

-- the dump of a replica fits an order. It translates as the space after the first updates, as many as it has applied, and among these are
-- all on which an answer given at the replica rests
pub record FitsFrom (start : Space) (trace : Recording) (order : List ℕ) (replica : ℕ) (dump : Image) : Type 0 where
  pub enough : dump.applied ≤ length (updates trace order)
  pub translates : TranslatesAs trace.layout.depth dump.frames dump.root (space_from start trace (take dump.applied (updates trace order)))
  pub own_updates : (call : ℕ) (made : Invocation) → call_of trace call ≡ Some made → made.replica ≡ replica → IsUpdate trace call → IsAnswered trace call
      → Contains (take dump.applied (updates trace order)) call
  pub own_reads : (call earlier : ℕ) (made : Invocation) → call_of trace call ≡ Some made → made.replica ≡ replica → IsRead trace call → IsAnswered trace call
      → IsUpdate trace earlier → Contains (before call order) earlier → Contains (take dump.applied (updates trace order)) earlier

-- the dump of a replica fits the order, which begins with no pages
abbrev pub FitsOrder : Recording → List ℕ → ℕ → Image → Type 0
FitsOrder trace order replica dump = FitsFrom no_pages trace order replica dump

-- the numbers below one
abbrev pub below : ℕ → List ℕ
below zero = []
below (suc n) = below n ++ n ∷ []

-- the answered reads that saw just this many entries, by call number
abbrev pub reads_at : Recording → ℕ → List ℕ
reads_at trace n = filter (λ call. is_some (address_of trace call) && option_map_or (λ reply. reply.at == n) (reply_to trace call) false)
    (below (length trace.events))

-- the recorded order: updates by place, and each answered read after the entries that it saw
abbrev pub recorded_order : Recording → List ℕ
recorded_order trace = flat_map (λ n. reads_at trace n ++ option_to_list (slice_get trace.log n)) (below (length trace.log + 1))

-- how many entries are known by a reply: those up to the update's own, or those that the read saw; by one to a touch none
abbrev pub known_by : Recording → Response → ℕ
known_by trace reply =
    option_map_or (λ action. reply.at + 1) (operation_of trace reply.call) (option_map_or (λ touch. 0) (touch_of trace reply.call) reply.at)

-- the floor of a call: the most entries that are known by a reply before it was made
abbrev pub floor : Recording → ℕ → ℕ
floor trace call = fold max 0 (map (known_by trace) (filter_map reply_in (take call trace.events)))
