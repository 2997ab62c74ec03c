-- A run that can be recorded to its end.
use Rattle.std.specs.Prelude.{List, [], ◌∷◌, ◌++◌, map}
use Rattle.vs_types.specs.Config.{Layout}
use Rattle.vs_types.specs.declared.requests.answer.Answer.TheVariants.{NotMapped}
use Rattle.vs_types.specs.declared.addresses.depth.Depth.TheVariants.{Four}
use Rattle.vs_types.specs.declared.log_entry.LogEntry.{LogEntry}
use Rattle.vs_types.specs.declared.requests.op.Action.TheVariants.{Unmap}
use Rattle.vs_types.specs.declared.requests.request.Query.TheVariants as queries
use Rattle.nr_trace.specs.declared.recordings.event.Event.{Event}
use Rattle.nr_trace.specs.declared.recordings.event.Event.TheVariants as events
use Rattle.nr_trace.specs.declared.recordings.event.Asked.TheVariants as askeds
use Rattle.nr_machine.specs.declared.words.Update.{Update}
use Rattle.nr_machine.specs.World.{Act}
use Rattle.nr_machine.specs.World.Act.{Begins}
use Rattle.nr_machine.specs.Examples.{one_appends, one_catches_up, one_ends, one_update, other_appends, other_ends, other_is_late, other_stores, two_updates}
use Rattle.nr_machine_runs.specs.Recorded.{Note}
use Rattle.nr_machine_runs.specs.Recorded.Note.{Calls, Takes, Reads, Replies}

abbrev pub two_nodes : Layout
two_nodes = record { depth = Four; replicas = 2; threads = 3; tables = 4 }

-- the first word of an update is the number of its call, and each unmaps address 0
abbrev pub unmaps : Update → LogEntry
unmaps update = record { call = update.first; op = Unmap 0 }

-- steps of a schedule, without a call or a reply between
abbrev pub taken : List Act → List Note
taken acts = map (λ (act : Act). Takes act) acts

-- three threads call, two of them at node 1, whose machine is given both updates in one call
abbrev pub three_call : List Note
three_call =
    Calls 0 1 (queries.Update (Unmap 0)) ∷ Calls 1 1 (queries.Update (Unmap 0)) ∷ Calls 2 0 (queries.Update (Unmap 0))
    ∷ Takes (Begins 1 two_updates) ∷ Takes (Begins 0 one_update) ∷ []

-- node 1 appends, the exchange of node 0 fails, it appends then, and its call ends
abbrev pub both_append : List Act
both_append = other_stores ++ (one_appends ++ (other_is_late ++ (other_appends ++ other_ends)))

-- the thread of node 0 is answered
abbrev pub other_replies : List Note
other_replies = Replies 2 2 2 NotMapped ∷ []

-- both threads of node 1 are answered, and one of them asks for the address there
abbrev pub both_reply : List Note
both_reply = Replies 0 0 0 NotMapped ∷ Replies 1 1 1 NotMapped ∷ Calls 0 1 (queries.Resolve 0) ∷ Reads 1 6 ∷ []

-- it is answered too
abbrev pub one_replies : List Note
one_replies = Replies 0 6 3 NotMapped ∷ []

-- the schedule of the machines' example, with its calls and replies: three unmaps, two of them in one call, which are answered that nothing
-- was mapped; then a read
abbrev pub example : List Note
example = three_call ++ (taken both_append ++ (other_replies ++ (taken one_ends ++ (both_reply ++ (taken one_catches_up ++ one_replies)))))

abbrev pub its_events : List Event
its_events = events.Call 1 0 (askeds.Request (queries.Update (Unmap 0))) ∷ events.Call 1 1 (askeds.Request (queries.Update (Unmap 0)))
    ∷ events.Call 0 2 (askeds.Request (queries.Update (Unmap 0))) ∷ events.Reply 2 2 NotMapped ∷ events.Reply 0 0 NotMapped ∷ events.Reply 1 1 NotMapped
    ∷ events.Call 1 0 (askeds.Request (queries.Resolve 0)) ∷ events.Reply 6 3 NotMapped ∷ []
