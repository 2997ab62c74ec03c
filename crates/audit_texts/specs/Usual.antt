-- What a fault most often is, in words; the same words for traces and for chains.
use Rattle.std.specs.Prelude.{ℕ, ◌++◌, List, codes}
use Rattle.nr_trace.specs.declared.refusals.fault.Fault.{Fault}
use Rattle.nr_trace.specs.declared.refusals.fault.Fault.TheVariants as faults

-- what a fault most often is
unfoldable pub usual_text : Fault → List ℕ
usual_text (faults.Format fault) = codes "a file of another kind, a file that was cut off, or a mistake of what wrote it"
usual_text (faults.ThreadOpen index) = codes "a mistake of the hook: a thread has two calls open"
usual_text (faults.NoSuchCall index) = codes "a mistake of the hook: a reply to a call that wasn't made"
usual_text (faults.AnsweredTwice index) = codes "a reply that is sent again, as when a request is retried whose answer was only late"
usual_text (faults.NotAnUpdate place) = codes "a mistake of the hook: a read is given a place"
usual_text (faults.PlacedTwice place) = codes "a mistake of the hook: a place is given twice"
usual_text (faults.NotPlaced index) = codes "a reply that went out with a place which another update got"
usual_text (faults.PastLog index) = codes "a mistake of the hook: a read says that it saw more than there is"
usual_text (faults.Early call) = codes "a read of a replica that lags, or a stamp drawn outside of its call"
usual_text (faults.WrongAnswer call) =
    codes "an update that was lost, a translation that was kept, or places taken in another order than the work"
usual_text (faults.PrefixPastLog replica) = codes "an applied count that isn't the dump's"
usual_text (faults.PrefixShort replica) = codes "an applied count that isn't the dump's"
usual_text (faults.MissingFrame replica number) = codes "a table that was freed while its parent's entry stayed"
usual_text (faults.SharedFrame replica number) = codes "a table that is linked at two entries: an alias that nobody mapped"
usual_text (faults.ReservedBit replica number index) =
    codes "a large page made of a frame that isn't its first: bits below its size are set"
usual_text (faults.StrayFrame replica number) = codes "a table that was unlinked, and not freed"
usual_text (faults.Differs replica address) = codes "tables with other pages or rights than the answers say"
usual_text (faults.StartMissing number) =
    codes "a table that was freed while its parent's entry stayed, or a start that was copied while a thread changed the tables"
usual_text (faults.StartShared number) = codes "a table that is linked at two entries, on purpose or not"
usual_text (faults.StartReserved number index) =
    codes "a large page made of a frame that isn't its first, or a start that isn't the page table's"
usual_text (faults.StartStray number) = codes "a table that was unlinked, and not freed"
usual_text (faults.StartBeyond base) = codes "a page at memory that the processor doesn't have"
usual_text (faults.StartDiffers address) =
    codes "a start that was copied while a thread still changed the tables, or updates that weren't recorded"
usual_text (faults.Stale call) = codes "an update that was answered before the TLBs were flushed"
usual_text (faults.Reachable call) = codes "memory that was freed before the TLBs were flushed"

-- the line that says so
unfoldable pub usual_line : Fault → List ℕ
usual_line fault = codes "Most often this is " ++ (usual_text fault ++ codes ".\n")
