-- How many answered calls of a trace were open while another one was.
use Rattle.std.specs.Prelude.{ℕ, ◌&&◌, ◌||◌, not, nat_lt, Bool, length, count_by, is_some}
use Rattle.std.specs.List.{list_any}
use Rattle.nr_trace.specs.Recording.{Recording}
use Rattle.nr_trace.specs.Orders.{below}
use Rattle.nr_touch.specs.Beside.{is_over}
use Rattle.nr_trace.specs.Calls.{request_of}

-- whether it is the number of an update or a read
abbrev pub is_asked : Recording → ℕ → Bool
is_asked trace call = is_some (request_of trace call)

-- whether the first of two calls is made first, and is still open as the second is made
abbrev pub is_open_at : Recording → ℕ → ℕ → Bool
is_open_at trace first second = nat_lt first second && not (is_over trace first second)

-- whether the other call is an update or a read, and one of the two is made while the other is open
abbrev pub overlaps : Recording → ℕ → ℕ → Bool
overlaps trace call other = is_asked trace other && (is_open_at trace call other || is_open_at trace other call)

-- whether it is an update or a read that is answered, and overlaps another one
abbrev pub meets : Recording → ℕ → Bool
meets trace call =
    is_asked trace call && (is_over trace call (length trace.events) && list_any (overlaps trace call) (below (length trace.events)))

-- how many do
abbrev pub overlapping : Recording → ℕ
overlapping trace = count_by (meets trace) (below (length trace.events))
