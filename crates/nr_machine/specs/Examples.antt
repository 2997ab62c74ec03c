-- A schedule that can be played to its end.
use Rattle.std.specs.Prelude.{List, [], ◌∷◌, ◌++◌}
use Rattle.nr_machine.specs.declared.words.Operation.TheVariants.{Load, Store, Exchange, Max}
use Rattle.nr_machine.specs.declared.words.Word.TheVariants.{Head, Completed, Local, Done, First, Second}
use Rattle.nr_machine.specs.declared.words.Update.{Update}
use Rattle.nr_machine.specs.World.{Act, Event}
use Rattle.nr_machine.specs.World.Act.{Begins, Does, Applies, Ends, ReadBegins, ReadEnds}
use Rattle.nr_machine.specs.World.Event.{Began, Ended}

-- the updates of the calls at node 1 and at node 0
abbrev pub two_updates : List Update
two_updates = record { first = 0; second = 3 } ∷ (record { first = 1; second = 4 } ∷ [])

abbrev pub one_update : List Update
one_update = record { first = 2; second = 5 } ∷ []

-- node 0 stores the words of its update
abbrev pub other_stores : List Act
other_stores = Does 0 (Load Head) ∷ Does 0 (Store (First 0 0) 2) ∷ Does 0 (Store (Second 0 0) 640) ∷ []

-- node 1 stores its own, and appends them
abbrev pub one_appends : List Act
one_appends =
    Does 1 (Load Head) ∷ Does 1 (Store (First 1 0) 0) ∷ Does 1 (Store (Second 1 0) 384) ∷ Does 1 (Store (First 1 1) 1)
    ∷ Does 1 (Store (Second 1 1) 513) ∷ Does 1 (Exchange Head 0 257) ∷ []

-- the exchange of node 0 fails: it takes and applies the entries
abbrev pub other_is_late : List Act
other_is_late =
    Does 0 (Exchange Head 0 128) ∷ Does 0 (Load (First 1 1)) ∷ Does 0 (Load (Second 1 1)) ∷ Does 0 (Load (First 1 0))
    ∷ Does 0 (Load (Second 1 0)) ∷ Does 0 (Store (Local 0) 2) ∷ Applies 0 ∷ Applies 0 ∷ Does 0 (Store (Done 0) 2) ∷ []

-- it looks how many entries each node has taken, appends its update, and takes it
abbrev pub other_appends : List Act
other_appends =
    Does 0 (Load Head) ∷ Does 0 (Load (Local 0)) ∷ Does 0 (Load (Local 1)) ∷ Does 0 (Store (First 0 2) 2)
    ∷ Does 0 (Store (Second 0 2) 641) ∷ Does 0 (Exchange Head 257 384) ∷ Does 0 (Load (First 0 2)) ∷ Does 0 (Load (Second 0 2))
    ∷ Does 0 (Store (Local 0) 3) ∷ []

-- it applies it, says that it is completed, and its call ends
abbrev pub other_ends : List Act
other_ends =
    Applies 0 ∷ Does 0 (Store (Done 0) 3) ∷ Does 0 (Load Completed) ∷ Does 0 (Max Completed 3) ∷ Ends 0 ∷ []

-- node 1 takes and applies its own updates, which are completed already, and its call ends
abbrev pub one_ends : List Act
one_ends =
    Does 1 (Load (First 1 1)) ∷ Does 1 (Load (Second 1 1)) ∷ Does 1 (Load (First 1 0)) ∷ Does 1 (Load (Second 1 0))
    ∷ Does 1 (Store (Local 1) 2) ∷ Applies 1 ∷ Applies 1 ∷ Does 1 (Store (Done 1) 2) ∷ Does 1 (Load Completed) ∷ Ends 1 ∷ []

-- where a read waits, it catches up, and the read ends
abbrev pub one_catches_up : List Act
one_catches_up =
    Does 1 (Load Head) ∷ Does 1 (Load (First 0 2)) ∷ Does 1 (Load (Second 0 2)) ∷ Does 1 (Store (Local 1) 3) ∷ Applies 1
    ∷ Does 1 (Store (Done 1) 3) ∷ Does 1 (Load Completed) ∷ ReadEnds 2 ∷ []

-- it sees whether all are done
abbrev pub one_looks : List Act
one_looks = Does 1 (Load (Done 0)) ∷ Does 1 (Load (Done 1)) ∷ []

-- all kinds of steps: a call of two updates, an exchange that fails, loads of how many entries nodes have taken, a read
abbrev pub example : List Act
example = Begins 1 two_updates ∷ (Begins 0 one_update ∷ (other_stores ++ (one_appends ++ (other_is_late ++ (other_appends ++ (other_ends
    ++ (one_ends ++ (ReadBegins 1 ∷ (one_catches_up ++ one_looks)))))))))

abbrev pub its_events : List Event
its_events = Ended 2 3 3 ∷ (Began 2 ∷ (Ended 0 0 2 ∷ (Ended 1 2 3 ∷ (Began 1 ∷ (Began 0 ∷ [])))))
