-- The runs of the worked examples.
use Rattle.std.specs.Prelude.{[], ◌∷◌}
use Rattle.vs_types.specs.declared.requests.answer.Answer.TheVariants.{Done}
use Rattle.nr_trace.specs.Examples.{map_it, resolve_it, looks_mapped, dump_of_page, map_then_resolve}
use Rattle.nr_trace.specs.declared.recordings.event.Event.TheVariants.{Call, Reply}
use Rattle.nr_trace.specs.declared.recordings.event.Asked.TheVariants.{Request}
use Rattle.nr_chain.specs.Joined.{Segment}
use Rattle.vs_walk.specs.Dump.{Image}

-- one thread maps a page, and no dump is taken
abbrev pub maps_it : Segment
maps_it = record {
  trace = record map_then_resolve { events = Call 0 0 (Request map_it) ∷ Reply 0 0 Done ∷ []; dumps = [] };
  order = 0 ∷ [];
}

-- it resolves an address of the page; the dump has applied none of this segment's updates, since there are none
abbrev pub dump_of_none_more : Image
dump_of_none_more = record { applied = 0; root = dump_of_page.root; frames = dump_of_page.frames }

abbrev pub resolves_it : Segment
resolves_it = record {
  trace = record map_then_resolve { log = []; events = Call 0 0 (Request resolve_it) ∷ Reply 0 0 looks_mapped ∷ []; dumps = dump_of_none_more ∷ [] };
  order = 0 ∷ [];
}

-- its call has no reply, and it makes another
abbrev pub maps_without_a_reply : Segment
maps_without_a_reply = record {
  trace = record map_then_resolve { events = Call 0 0 (Request map_it) ∷ []; dumps = [] };
  order = 0 ∷ [];
}
