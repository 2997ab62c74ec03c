-- The recordings of the worked examples.
use Rattle.std.specs.Prelude.{ℕ, ◌-◌, ◌++◌, List, [], ◌∷◌, None, replicate}
use Rattle.std.specs.FinMap as finite
use Rattle.vs_types.specs.declared.addresses.depth.Depth.TheVariants.{Four}
use Rattle.vs_types.specs.declared.addresses.page.Size.TheVariants.{K4}
use Rattle.vs_types.specs.declared.requests.op.Action.{Action}
use Rattle.vs_types.specs.declared.requests.op.Action.TheVariants.{Map, Unmap}
use Rattle.vs_types.specs.declared.requests.request.Query.{Query}
use Rattle.vs_types.specs.declared.requests.request.Query.TheVariants.{Update, Resolve, Access}
use Rattle.vs_types.specs.declared.addresses.access.Mode.TheVariants.{User}
use Rattle.vs_types.specs.declared.addresses.access.Access.TheVariants.{Write}
use Rattle.vs_types.specs.declared.requests.answer.Answer.{Answer}
use Rattle.vs_types.specs.declared.requests.answer.Answer.TheVariants.{Done, NotMapped, Mapped, Allowed, Fault}
use Rattle.vs_walk.specs.Examples.{one_word, one_table, three_tables, one_empty_frame, two_empty_frames}
use Rattle.vs_walk.specs.Memory.{Memory}
use Rattle.vs_walk.specs.Walk.{all_rights}
use Rattle.vs_walk.specs.Dump.{Image}
use Rattle.nr_trace.specs.Recording.{Recording}
use Rattle.nr_trace.specs.declared.formats.version.Version.TheVariants.{V1, V2, Segment}
use Rattle.nr_trace.specs.declared.recordings.event.Event.{Event}
use Rattle.nr_trace.specs.declared.recordings.event.Event.TheVariants.{Call, Reply}
use Rattle.nr_trace.specs.declared.recordings.event.Asked.TheVariants.{Request, Touch}

-- a frame with this word at this index, and else zeros
abbrev pub frame_with : ℕ → ℕ → List ℕ
frame_with index word = replicate index 0 ++ word ∷ replicate (511 - index) 0

-- a page of 4 KiB is mapped, an address in it is resolved, and how it looks then
abbrev pub map_page : Action
map_page = Map (record { base = 0x400000; size = K4; phys = 0x1000; rights = all_rights })

abbrev pub map_it : Query
map_it = Update map_page

abbrev pub resolve_it : Query
resolve_it = Resolve 0x400123

abbrev pub looks_mapped : Answer
looks_mapped = Mapped 0x1123 K4 all_rights

-- the page table of a space with that page alone
abbrev pub frames_of_page : Memory
frames_of_page = finite.from_sorted ((1, frame_with 0 0x2007) ∷ (2, frame_with 0 0x3007) ∷ (3, frame_with 2 0x4007) ∷ (4, frame_with 0 0x1007) ∷ [])

abbrev pub dump_of_page : Image
dump_of_page = record { applied = 1; root = 1; frames = frames_of_page }

-- one thread maps, and then resolves
abbrev pub map_then_resolve : Recording
map_then_resolve = record {
  version = V1;
  layout = record { depth = Four; replicas = 1; threads = 1; tables = 4 };
  start = None;
  log = 0 ∷ [];
  events = Call 0 0 (Request map_it) ∷ Reply 0 0 Done ∷ Call 0 0 (Request resolve_it) ∷ Reply 2 1 looks_mapped ∷ [];
  dumps = dump_of_page ∷ [];
}

-- how the recording is spelled, up to the frames: magic, version, counts, log, four events, and the head of the dump
abbrev pub map_then_resolve_bytes : List ℕ
map_then_resolve_bytes =
    (0x4e ∷ 0x52 ∷ 0x56 ∷ 0x54 ∷ [])
    ++ (0x00 ∷ 0x01 ∷ [])
    ++ (0x04 ∷ 0x01 ∷ 0x00 ∷ 0x01 ∷ 0x00 ∷ 0x04 ∷ 0x00 ∷ 0x00 ∷ 0x00 ∷ 0x01 ∷ 0x00 ∷ 0x00 ∷ 0x00 ∷ 0x04 ∷ [])
    ++ (0x00 ∷ 0x00 ∷ 0x00 ∷ 0x00 ∷ [])
    ++ (0x00 ∷ 0x00 ∷ 0x00 ∷ 0x00 ∷ 0x00 ∷ 0x00 ∷ 0x07 ∷ 0x00 ∷ 0x00 ∷ 0x00 ∷ 0x00 ∷ 0x00 ∷ 0x00 ∷ 0x40 ∷ 0x00 ∷ 0x00 ∷ 0x00 ∷ 0x00 ∷ 0x00 ∷ 0x00 ∷ 0x00
    ∷ 0x00 ∷ 0x10 ∷ 0x00 ∷ [])
    ++ (0x01 ∷ 0x00 ∷ 0x00 ∷ 0x00 ∷ 0x00 ∷ 0x00 ∷ 0x00 ∷ 0x00 ∷ 0x00 ∷ 0x00 ∷ 0x00 ∷ 0x00 ∷ 0x00 ∷ 0x00 ∷ 0x00 ∷ 0x00 ∷ 0x00 ∷ 0x00 ∷ 0x00 ∷ 0x00 ∷ 0x00
    ∷ 0x00 ∷ 0x00 ∷ 0x00 ∷ [])
    ++ (0x00 ∷ 0x00 ∷ 0x00 ∷ 0x00 ∷ 0x03 ∷ 0x00 ∷ 0x00 ∷ 0x00 ∷ 0x00 ∷ 0x00 ∷ 0x00 ∷ 0x00 ∷ 0x00 ∷ 0x40 ∷ 0x01 ∷ 0x23 ∷ 0x00 ∷ 0x00 ∷ 0x00 ∷ 0x00 ∷ 0x00
    ∷ 0x00 ∷ 0x00 ∷ 0x00 ∷ [])
    ++ (0x01 ∷ 0x07 ∷ 0x00 ∷ 0x07 ∷ 0x00 ∷ 0x00 ∷ 0x00 ∷ 0x02 ∷ 0x00 ∷ 0x00 ∷ 0x00 ∷ 0x01 ∷ 0x00 ∷ 0x00 ∷ 0x00 ∷ 0x00 ∷ 0x00 ∷ 0x00 ∷ 0x00 ∷ 0x00 ∷ 0x00
    ∷ 0x00 ∷ 0x11 ∷ 0x23 ∷ [])
    ++ (0x00 ∷ 0x00 ∷ 0x00 ∷ 0x01 ∷ 0x00 ∷ 0x00 ∷ 0x00 ∷ 0x04 ∷ 0x00 ∷ 0x00 ∷ 0x00 ∷ 0x00 ∷ 0x00 ∷ 0x00 ∷ 0x00 ∷ 0x01 ∷ [])

-- two reads, one of which saw the page and one did not, beside the call that maps it
abbrev pub read_before_and_after : Recording
read_before_and_after = record {
  version = V1;
  layout = record { depth = Four; replicas = 1; threads = 3; tables = 4096 };
  start = None;
  log = 0 ∷ [];
  events = Call 0 0 (Request map_it) ∷ Call 0 1 (Request resolve_it) ∷ Call 0 2 (Request resolve_it)
      ∷ Reply 0 0 Done ∷ Reply 1 1 looks_mapped ∷ Reply 2 0 NotMapped ∷ [];
  dumps = dump_of_page ∷ [];
}

-- a read that does not see the page is made when another replica has shown it already
abbrev pub stale_read : Recording
stale_read = record {
  version = V1;
  layout = record { depth = Four; replicas = 2; threads = 3; tables = 4096 };
  start = None;
  log = 0 ∷ [];
  events = Call 0 0 (Request map_it) ∷ Call 0 1 (Request resolve_it) ∷ Reply 1 1 looks_mapped ∷ Call 1 2 (Request resolve_it) ∷ Reply 3 0 NotMapped ∷ [];
  dumps = dump_of_page ∷ dump_of_page ∷ [];
}

-- an update that was never answered is placed before one that was answered before it was made
abbrev pub unanswered_too_early : Recording
unanswered_too_early = record {
  version = V1;
  layout = record { depth = Four; replicas = 1; threads = 2; tables = 4096 };
  start = None;
  log = 2 ∷ 0 ∷ [];
  events = Call 0 0 (Request map_it) ∷ Reply 0 1 Done ∷ Call 0 1 (Request (Update (Unmap 0x500000))) ∷ [];
  dumps = dump_of_page ∷ [];
}

-- an update that was never answered nor placed
abbrev pub unanswered_left_out : Recording
unanswered_left_out = record {
  version = V1;
  layout = record { depth = Four; replicas = 1; threads = 3; tables = 4096 };
  start = None;
  log = 0 ∷ [];
  events = Call 0 0 (Request map_it) ∷ Call 0 1 (Request resolve_it) ∷ Call 0 2 (Request (Update (Unmap 0x400000))) ∷ Reply 1 1 looks_mapped ∷ [];
  dumps = dump_of_page ∷ [];
}

-- `map_then_resolve` with another log, with other replies, without the first reply, with more events, and with a dump that says
-- another prefix
abbrev pub with_log : List ℕ → Recording
with_log log = record map_then_resolve { log = log }

abbrev pub with_replies : ℕ → ℕ → ℕ → ℕ → Recording
with_replies place call entries phys =
    record map_then_resolve {
      events = Call 0 0 (Request map_it) ∷ Reply 0 place Done ∷ Call 0 0 (Request resolve_it) ∷ Reply call entries (Mapped phys K4 all_rights) ∷ [];
    }

abbrev pub without_first_reply : Recording
without_first_reply = record map_then_resolve { events = Call 0 0 (Request map_it) ∷ Call 0 0 (Request resolve_it) ∷ Reply 1 1 looks_mapped ∷ [] }

abbrev pub with_more : List Event → Recording
with_more events = record map_then_resolve { events = map_then_resolve.events ++ events }

abbrev pub with_applied : ℕ → Recording
with_applied applied = record map_then_resolve { dumps = record dump_of_page { applied = applied } ∷ [] }

-- `map_then_resolve` as a trace of version 2
abbrev pub as_version_2 : Recording
as_version_2 = record map_then_resolve { version = V2 }

-- the same thread asks, in place of the resolve, whether a user may write at that address
abbrev pub access_it : Query
access_it = Access 0x400123 User Write

abbrev pub with_access : Answer → Recording
with_access answer = record as_version_2 { events = Call 0 0 (Request map_it) ∷ Reply 0 0 Done ∷ Call 0 0 (Request access_it) ∷ Reply 2 1 answer ∷ [] }

abbrev pub map_then_access : Recording
map_then_access = with_access (Allowed 0x1123)

abbrev pub access_refused : Recording
access_refused = with_access (Fault 7)

-- the read is answered again, otherwise
abbrev pub answered_again : Recording
answered_again = with_more (Reply 2 1 NotMapped ∷ [])

-- nothing is recorded, and the one dump has these frames, from root 1 on
abbrev pub dump_of : Memory → Image
dump_of frames = record { applied = 0; root = 1; frames = frames }

abbrev pub nothing_with : Memory → Recording
nothing_with frames = record {
  version = V1;
  layout = record { depth = Four; replicas = 1; threads = 1; tables = 1 };
  start = None;
  log = [];
  events = [];
  dumps = dump_of frames ∷ [];
}

-- the root leads to a frame that isn't there, and to itself; a word of frame 3 has a reserved bit set; frame 2 isn't reached
abbrev pub missing_frame : Recording
missing_frame = nothing_with (one_table 0x2007)

abbrev pub shared_frame : Recording
shared_frame = nothing_with (one_table 0x1007)

abbrev pub reserved_bit : Recording
reserved_bit = nothing_with (three_tables 0x202087)

abbrev pub stray_frame : Recording
stray_frame = nothing_with two_empty_frames

-- the dump maps a page of 2 MiB at 0, which no space without updates has
abbrev pub page_at_zero : Memory
page_at_zero = finite.from_entries ((1, one_word 0 0x2007) ∷ (2, one_word 0 0x3007) ∷ (3, one_word 0 0x87) ∷ [])

abbrev pub unmapped_page : Recording
unmapped_page = nothing_with page_at_zero

-- the page table is empty, as the space is
abbrev pub empty_dump : Image
empty_dump = dump_of one_empty_frame

abbrev pub nothing_recorded : Recording
nothing_recorded = nothing_with one_empty_frame

-- a segment: a page is mapped, and then a processor touches it; what its reply says of a place means nothing, and no dump is there
abbrev pub no_dump : Image
no_dump = record { applied = 0; root = 0; frames = finite.from_sorted [] }

abbrev pub map_then_touch : Recording
map_then_touch = record {
  version = Segment;
  layout = record { depth = Four; replicas = 1; threads = 2; tables = 4 };
  start = None;
  log = 0 ∷ [];
  events = Call 0 0 (Request map_it) ∷ Reply 0 0 Done ∷ Call 0 1 (Touch 0x400123 User Write) ∷ Reply 2 9 (Allowed 0x1123) ∷ [];
  dumps = no_dump ∷ [];
}

-- how it is spelled: magic, version, counts, log, four events, and the head of a dump that is not there
abbrev pub map_then_touch_bytes : List ℕ
map_then_touch_bytes =
    (0x4e ∷ 0x52 ∷ 0x56 ∷ 0x53 ∷ [])
    ++ (0x00 ∷ 0x01 ∷ [])
    ++ (0x04 ∷ 0x01 ∷ 0x00 ∷ 0x02 ∷ 0x00 ∷ 0x04 ∷ 0x00 ∷ 0x00 ∷ 0x00 ∷ 0x01 ∷ 0x00 ∷ 0x00 ∷ 0x00 ∷ 0x04 ∷ 0x00 ∷ 0x00 ∷ 0x00 ∷ 0x00 ∷ [])
    ++ (0x00 ∷ 0x00 ∷ 0x00 ∷ 0x00 ∷ [])
    ++ (0x00 ∷ 0x00 ∷ 0x00 ∷ 0x00 ∷ 0x00 ∷ 0x00 ∷ 0x07 ∷ 0x00 ∷ 0x00 ∷ 0x00 ∷ 0x00 ∷ 0x00 ∷ 0x00 ∷ 0x40 ∷ 0x00 ∷ 0x00 ∷ 0x00 ∷ 0x00 ∷ 0x00 ∷ 0x00 ∷ 0x00
    ∷ 0x00 ∷ 0x10 ∷ 0x00 ∷ [])
    ++ (0x01 ∷ 0x00 ∷ 0x00 ∷ 0x00 ∷ 0x00 ∷ 0x00 ∷ 0x00 ∷ 0x00 ∷ 0x00 ∷ 0x00 ∷ 0x00 ∷ 0x00 ∷ 0x00 ∷ 0x00 ∷ 0x00 ∷ 0x00 ∷ 0x00 ∷ 0x00 ∷ 0x00 ∷ 0x00 ∷ 0x00
    ∷ 0x00 ∷ 0x00 ∷ 0x00 ∷ [])
    ++ (0x00 ∷ 0x00 ∷ 0x00 ∷ 0x01 ∷ 0x05 ∷ 0x01 ∷ 0x01 ∷ 0x00 ∷ 0x00 ∷ 0x00 ∷ 0x00 ∷ 0x00 ∷ 0x00 ∷ 0x40 ∷ 0x01 ∷ 0x23 ∷ 0x00 ∷ 0x00 ∷ 0x00 ∷ 0x00 ∷ 0x00
    ∷ 0x00 ∷ 0x00 ∷ 0x00 ∷ [])
    ++ (0x01 ∷ 0x08 ∷ 0x00 ∷ 0x00 ∷ 0x00 ∷ 0x00 ∷ 0x00 ∷ 0x02 ∷ 0x00 ∷ 0x00 ∷ 0x00 ∷ 0x09 ∷ 0x00 ∷ 0x00 ∷ 0x00 ∷ 0x00 ∷ 0x00 ∷ 0x00 ∷ 0x00 ∷ 0x00 ∷ 0x00
    ∷ 0x00 ∷ 0x11 ∷ 0x23 ∷ [])
    ++ (0x00 ∷ 0x00 ∷ 0x00 ∷ 0x00 ∷ 0x00 ∷ 0x00 ∷ 0x00 ∷ 0x00 ∷ 0x00 ∷ 0x00 ∷ 0x00 ∷ 0x00 ∷ 0x00 ∷ 0x00 ∷ 0x00 ∷ 0x00 ∷ [])
