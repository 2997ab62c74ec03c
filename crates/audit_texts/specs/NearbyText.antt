-- The texts and the JSON of what is near a wrong answer.
use Rattle.std.specs.Prelude.{ℕ, ◌==◌, ◌++◌, List, codes, decimal, if◌then◌else◌, Option, Some, None}
use Rattle.serde_json.specs.Data.{Data, member, no_members, null, object, string}
use Rattle.vs_text.specs.Words.{hexadecimal}
use Rattle.nr_explain.specs.declared.chain.evidence.MissedUpdate.{MissedUpdate}
use Rattle.nr_explain.specs.declared.chain.evidence.OpenUpdate.{OpenUpdate}
use Rattle.nr_explain.specs.declared.trace.evidence.PlacedUpdate.{PlacedUpdate}
use Rattle.nr_explain.specs.declared.trace.nearby.NamedMemory.{NamedMemory}
use Rattle.nr_explain.specs.declared.trace.nearby.RightAfter.{RightAfter}
use Rattle.nr_explain.specs.declared.trace.nearby.Stretch.{Stretch}
use Rattle.audit_texts.specs.EvidenceJson.{call_data, number_data, reply_data, taken_data}
use Rattle.audit_texts.specs.EvidenceText.{call_line, own_line, reply_line}

-- some numbers of entries, of a log that has so many
unfoldable pub stretch_text : ℕ → Stretch → List ℕ
stretch_text places stretch =
    if stretch.last == places then decimal stretch.first ++ codes " on"
    else if stretch.first == stretch.last then decimal stretch.first
    else decimal stretch.first ++ (codes " to " ++ decimal stretch.last)

-- the numbers of entries nearest to a call's, if there are any
unfoldable pub stretches_text : ℕ → Option Stretch → Option Stretch → List ℕ
stretches_text places None None = codes "none"
stretches_text places (Some before) None = stretch_text places before
stretches_text places None (Some behind) = stretch_text places behind
stretches_text places (Some before) (Some behind) = stretch_text places before ++ (codes ", and " ++ stretch_text places behind)

-- after how many entries, nearest to those that a call had, its answer is the space's
abbrev pub right_text : RightAfter → List ℕ
right_text right = stretches_text right.places right.before right.behind

-- where the memory is, to the end of the line
unfoldable pub address_words : Option ℕ → List ℕ
address_words None = codes "nowhere\n"
address_words (Some address) = codes "at " ++ (hexadecimal address ++ codes "\n")

-- the line of the memory that an answer names, if it names any
unfoldable pub memory_line : Option NamedMemory → List ℕ
memory_line None = codes ""
memory_line (Some memory) = hexadecimal memory.phys ++ (codes " is mapped " ++ address_words memory.address)

-- the update that a touch should have seen, if there is one, to the end of its reply's line
unfoldable pub missed_lines : Option MissedUpdate → List ℕ
missed_lines None = codes "should have seen: none\n"
missed_lines (Some missed) =
    codes "should have seen place " ++ (decimal missed.update.place ++ (codes ", " ++ (call_line missed.update.call ++ reply_line missed.reply)))

-- the update that was still open then, if there is one, to the end of its reply's line
unfoldable pub open_lines : Option OpenUpdate → List ℕ
open_lines None = codes ""
open_lines (Some found) =
    codes "still open then: place " ++ (decimal found.update.place ++ (codes ", " ++ (call_line found.update.call ++ own_line found.reply)))

-- the update that was called later, if there is one
unfoldable pub later_line : Option PlacedUpdate → List ℕ
later_line None = codes ""
later_line (Some update) = codes "called later: place " ++ (decimal update.place ++ (codes ", " ++ call_line update.call))

-- some numbers of entries, or null
abbrev pub stretch_data : Option Stretch → Data
stretch_data None = null
stretch_data (Some stretch) = object
    (member (codes "first") (number_data stretch.first)
    (member (codes "last") (number_data stretch.last) no_members))

-- those nearest to a call's
abbrev pub right_data : RightAfter → Data
right_data right = object
    (member (codes "before") (stretch_data right.before)
    (member (codes "behind") (stretch_data right.behind) no_members))

-- an address, or null
abbrev pub address_data : Option ℕ → Data
address_data None = null
address_data (Some address) = string (hexadecimal address)

-- the memory that an answer names, or null
abbrev pub memory_data : Option NamedMemory → Data
memory_data None = null
memory_data (Some memory) = object
    (member (codes "address") (address_data memory.address)
    (member (codes "phys") (string (hexadecimal memory.phys)) no_members))

-- the update that a touch should have seen, or null
abbrev pub missed_data : Option MissedUpdate → Data
missed_data None = null
missed_data (Some missed) = object
    (member (codes "call") (call_data missed.update.call)
    (member (codes "place") (number_data missed.update.place)
    (member (codes "reply") (reply_data missed.reply) no_members)))

-- the update that was still open then, or null
abbrev pub open_data : Option OpenUpdate → Data
open_data None = null
open_data (Some found) = taken_data found
