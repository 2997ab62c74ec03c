-- How many touches were open while an update of their page was.
use Rattle.std.specs.Prelude.{ℕ, ◌+◌, ◌==◌, ◌&&◌, not, Bool, true, false, length, take, slice_index, count_by, Option, Some, None, option_and_then}
use Rattle.std.specs.List.{list_any}
use Rattle.std.specs.Option.{option_eq, option_map_or}
use Rattle.vs_types.specs.Page.{level_of}
use Rattle.vs_types.specs.Space.{Space}
use Rattle.vs_types.specs.declared.addresses.page.Page.{Page}
use Rattle.vs_types.specs.declared.addresses.page.Rights.{Rights}
use Rattle.nr_trace.specs.Recording.{Recording}
use Rattle.nr_trace.specs.Calls.{call_of}
use Rattle.nr_trace.specs.Orders.{below}
use Rattle.nr_trace.specs.declared.recordings.event.Event.{Event}
use Rattle.nr_trace.specs.declared.recordings.event.Event.TheVariants.{Reply}
use Rattle.nr_trace.specs.declared.recordings.event.Asked.{Asked}
use Rattle.nr_trace.specs.declared.recordings.event.Asked.TheVariants.{Touch}
use Rattle.nr_touch.specs.Touches.{page_after}

-- whether an event is a reply to the call
abbrev pub is_reply_to : ℕ → Event → Bool
is_reply_to call (Reply other at answer) = other == call
is_reply_to call event = false

-- whether a reply to the call comes before the event
abbrev pub is_over : Recording → ℕ → ℕ → Bool
is_over trace call event = list_any (is_reply_to call) (take event trace.events)

-- whether neither of two calls is over when the other one is made
abbrev pub are_open_at_once : Recording → ℕ → ℕ → Bool
are_open_at_once trace call other = not (is_over trace call other) && not (is_over trace other call)

-- the address of a touch
abbrev pub touched_in : Asked → Option ℕ
touched_in (Touch address mode access) = Some address
touched_in asked = None

-- the address of the call of this number, if it is a touch
abbrev pub touched : Recording → ℕ → Option ℕ
touched trace call = option_and_then (λ made. touched_in made.asked) (call_of trace call)

-- ---- how an address looks

-- whether two tests answer alike
abbrev pub is_alike : Bool → Bool → Bool
is_alike true other = other
is_alike false other = not other

-- whether two pages' rights are the same
abbrev pub has_same_rights : Rights → Rights → Bool
has_same_rights one other = is_alike one.write other.write && (is_alike one.user other.user && is_alike one.exec other.exec)

-- whether two pages are the same
abbrev pub is_same_page : Page → Page → Bool
is_same_page one other =
    (one.base == other.base) && ((level_of one.size == level_of other.size) && ((one.phys == other.phys) && has_same_rights one.rights other.rights))

-- whether the update of a place changes how the address looks: another page covers it after its place than before
abbrev pub changes_look : Space → Recording → ℕ → ℕ → Bool
changes_look start trace address place =
    not (option_eq is_same_page (page_after start trace address place) (page_after start trace address (place + 1)))

-- ---- touches beside updates

-- whether the update of a place changes how the address looks, and is open while the call is
abbrev pub is_open_beside : Space → Recording → ℕ → ℕ → ℕ → Bool
is_open_beside start trace address call place =
    changes_look start trace address place && are_open_at_once trace call (slice_index trace.log place)

-- whether the call is answered, and open while an update is that changes how the address looks
abbrev pub meets_update : Space → Recording → ℕ → ℕ → Bool
meets_update start trace call address =
    is_over trace call (length trace.events) && list_any (is_open_beside start trace address call) (below (length trace.log))

-- whether it is an answered touch that was open while an update of its page was
abbrev pub is_beside : Space → Recording → ℕ → Bool
is_beside start trace call = option_map_or (meets_update start trace call) (touched trace call) false

-- how many of the touches are
abbrev pub beside : Space → Recording → ℕ
beside start trace = count_by (is_beside start trace) (below (length trace.events))
