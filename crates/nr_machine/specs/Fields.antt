-- The meaning of the numbers of a node's struct.
use Rattle.std.specs.Prelude.{ℕ, ◌≤◌, nat_eq, take, if◌then◌else◌, List, Option, Some, None}
use Rattle.nr_machine.specs.declared.asked.Reply.{Reply}
use Rattle.nr_machine.specs.declared.node.Node.{Node}
use Rattle.nr_machine.specs.declared.phase.Phase.{Phase}
use Rattle.nr_machine.specs.declared.phase.Phase.TheVariants.{Rest, Looks, Scans, Lags, StoresFirst, StoresSecond, Swaps, LoadsFirst, LoadsSecond, Raises, Applies, Flushes, Checks, Publishes, Broken}
use Rattle.nr_machine.specs.declared.words.Update.{Update}

-- the number of a phase
abbrev pub number_of : Phase → ℕ
number_of Rest = 0
number_of Looks = 1
number_of Scans = 2
number_of Lags = 3
number_of StoresFirst = 4
number_of StoresSecond = 5
number_of Swaps = 6
number_of LoadsFirst = 7
number_of LoadsSecond = 8
number_of Raises = 9
number_of Applies = 10
number_of Flushes = 11
number_of Checks = 12
number_of Publishes = 13
number_of Broken = 14

-- the phase of a number
abbrev pub phase_in : ℕ → Phase
phase_in number =
    if nat_eq number 0 then Rest
    else if nat_eq number 1 then Looks
    else if nat_eq number 2 then Scans
    else if nat_eq number 3 then Lags
    else if nat_eq number 4 then StoresFirst
    else if nat_eq number 5 then StoresSecond
    else if nat_eq number 6 then Swaps
    else if nat_eq number 7 then LoadsFirst
    else if nat_eq number 8 then LoadsSecond
    else if nat_eq number 9 then Raises
    else if nat_eq number 10 then Applies
    else if nat_eq number 11 then Flushes
    else if nat_eq number 12 then Checks
    else if nat_eq number 13 then Publishes
    else Broken

-- a number that there is where the first one is 1
abbrev pub option_in : ℕ → ℕ → Option ℕ
option_in has number = if nat_eq has 1 then Some number else None

-- what a machine waits for
abbrev pub phase_of : Node → Phase
phase_of node = phase_in node.phase

-- the updates of its call
abbrev pub batch_of : Node → List Update
batch_of node = take node.batch_count node.batch

-- from which place on they are in the log
abbrev pub standing_of : Node → Option ℕ
standing_of node = option_in node.stands node.first

-- the first word of the entry whose second word it loads next
abbrev pub half_of : Node → Option ℕ
half_of node = option_in node.has_half node.half

-- the entries that it has, the last of them first
abbrev pub got_of : Node → List Update
got_of node = take node.got_count node.got

-- the replies to the updates of its call so far
abbrev pub replies_of : Node → List Reply
replies_of node = take node.reply_count node.replies

-- no list is longer than its array
abbrev pub AreFew : Node → Type 0
AreFew node = (node.batch_count ≤ 16) × (node.got_count ≤ 16) × (node.reply_count ≤ 16)
