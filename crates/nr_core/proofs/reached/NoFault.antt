-- No list of steps makes a fault.
use Rattle.std.proofs.Common.{ℕ, List}
use Rattle.vs_walk.specs.Dump.{Image}
use Rattle.nr_trace.specs.Recording.{Recording}
use Rattle.nr_trace.specs.Faults.{IsFirstOf}
use Rattle.nr_trace.specs.Laws.{HasCleanLog, IsFaultless}
use Rattle.nr_trace.specs.Spelling.{Spells}
use Rattle.nr_trace.specs.declared.refusals.fault.Fault.{Fault}
use Rattle.nr_trace.specs.declared.refusals.fault.Fault.TheVariants.{ThreadOpen, NoSuchCall, AnsweredTwice, NotAnUpdate, PlacedTwice, NotPlaced, PastLog, Early}
use Rattle.nr_trace.specs.declared.refusals.fault.Fault.TheVariants.{WrongAnswer, PrefixPastLog, PrefixShort, MissingFrame, SharedFrame, ReservedBit, StrayFrame}
use Rattle.nr_trace.specs.declared.refusals.fault.Fault.TheVariants.{Differs}
use Rattle.nr_trace.specs.declared.formats.version.Version.{Version}
use Rattle.nr_trace.proofs.LawsOfFaults.{none_of_faultless}
use Rattle.nr_core.specs.State.{State}
use Rattle.nr_core.specs.Faultless.{IsRecordingOfSteps}
use Rattle.nr_core.specs.inside.Reached.{IsReached}
use Rattle.nr_core.proofs.reached.CleanLog.{clean_log}
use Rattle.nr_core.proofs.reached.Dumps.{AreDumps, none_past_log, none_short, none_in_walk, none_stray, none_differs}
use Rattle.nr_core.proofs.reached.InTime.{none_early}
use Rattle.nr_core.proofs.reached.RightAnswers.{none_wrong}
use Rattle.nr_core.proofs.reached.Recorded.{recording, of_recording}
use Rattle.nr_core.proofs.reached.Runs.{reached_by_steps}

-- of a recording of a reached state
faultless : (state : State) (version : Version) (dumps : List Image) → IsReached state → AreDumps state dumps
    → IsFaultless (recording state version dumps)
faultless state version dumps reached are (ThreadOpen index) h = (clean_log state version dumps reached).no_thread_open index h
faultless state version dumps reached are (NoSuchCall index) h = (clean_log state version dumps reached).no_such_call index h
faultless state version dumps reached are (AnsweredTwice index) h = (clean_log state version dumps reached).none_twice index h
faultless state version dumps reached are (NotAnUpdate place) h = (clean_log state version dumps reached).updates_alone place h
faultless state version dumps reached are (PlacedTwice place) h = (clean_log state version dumps reached).placed_once place h
faultless state version dumps reached are (NotPlaced index) h = (clean_log state version dumps reached).all_placed index h
faultless state version dumps reached are (PastLog index) h = (clean_log state version dumps reached).none_past_log index h
faultless state version dumps reached are (Early call) h = none_early state version dumps call reached h
faultless state version dumps reached are (WrongAnswer call) h = none_wrong state version dumps call reached h
faultless state version dumps reached are (PrefixPastLog r) h = none_past_log state version dumps r reached are h
faultless state version dumps reached are (PrefixShort r) h = none_short state version dumps r reached are h
faultless state version dumps reached are (MissingFrame r number) h = none_in_walk state dumps r _ are h
faultless state version dumps reached are (SharedFrame r number) h = none_in_walk state dumps r _ are h
faultless state version dumps reached are (ReservedBit r number index) h = none_in_walk state dumps r _ are h
faultless state version dumps reached are (StrayFrame r number) h = none_stray state version dumps r number are h
faultless state version dumps reached are (Differs r address) h = none_differs state version dumps r address reached are h
faultless state version dumps reached are _ h = h

-- ---- of a state that steps reach

pub well_formed_of_steps : (trace : Recording) → IsRecordingOfSteps trace → HasCleanLog trace
well_formed_of_steps trace (state, reachable, is) =
    of_recording HasCleanLog state trace is (λ version dumps are. clean_log state version dumps (reached_by_steps state reachable))

pub none_of_steps : (trace : Recording) → IsRecordingOfSteps trace → IsFaultless trace
none_of_steps trace (state, reachable, is) =
    of_recording IsFaultless state trace is (λ version dumps are. faultless state version dumps (reached_by_steps state reachable) are)

pub none_of_bytes : (trace : Recording) (bytes : List ℕ) (fault : Fault) → IsRecordingOfSteps trace → Spells bytes trace → IsFirstOf bytes fault → ⊥
none_of_bytes trace bytes fault is spells first = none_of_faultless bytes trace fault spells (none_of_steps trace is) first
