-- Calls of machines in which a node lags, and is waited for.
use Rattle.std.specs.Prelude.{ℕ, List, [], ◌∷◌, ◌++◌, replicate}
use Rattle.nr_machine.specs.declared.asked.Reply.{Reply}
use Rattle.nr_machine.specs.declared.node.Node.{Node}
use Rattle.nr_machine.specs.declared.words.Update.{Update}
use Rattle.nr_machine.specs.Calls.{Given, Move}
use Rattle.nr_machine.specs.Calls.Given.{Updates, Value, Replied}
use Rattle.nr_machine.specs.Calls.Move.{Gives}

-- each update, and each reply
abbrev pub update : Update
update = record { first = 1; second = 2 }

abbrev pub reply : Reply
reply = record { first = 0; second = 0 }

-- a new machine of one of two nodes. What its arrays have behind their counts doesn't matter
abbrev pub new_machine : ℕ → Node
new_machine n = record {
  applied = 0;
  reply_count = 0;
  replies = replicate 16 reply;
  nodes = 2;
  number = n;
  phase = 0;
  taken = 0;
  published = 0;
  asked = 2;
  least = 0;
  next = 0;
  seen = 0;
  last = 0;
  firsts = 0;
  seconds = 0;
  from = 0;
  ring = 0;
  stands = 0;
  first = 0;
  has_half = 0;
  half = 0;
  batch_count = 0;
  batch = replicate 16 update;
  got_count = 0;
  got = replicate 16 update;
}

-- at node 1 one update is appended: the call begins, the head is loaded, both words are stored, the head is exchanged
abbrev one_begins : Node
one_begins = record (new_machine 1) { batch_count = 1; phase = 1 }

abbrev one_looked : Node
one_looked = record one_begins { phase = 4 }

abbrev one_stored : Node
one_stored = record one_looked { firsts = 1; phase = 5 }

abbrev one_linked : Node
one_linked = record one_stored { seconds = 1; phase = 6 }

abbrev one_appended : Node
one_appended =
    record one_begins { stands = 1; seen = 1; last = 1; from = 1; ring = 1; phase = 7 }

abbrev pub one_appends : List Move
one_appends =
    Gives 1 (Updates (update ∷ [])) one_begins ∷ Gives 1 (Value 0) one_looked ∷ Gives 1 (Value 0) one_stored
    ∷ Gives 1 (Value 0) one_linked ∷ Gives 1 (Value 0) one_appended ∷ []

-- then a call of 16 updates begins at node 0, which takes that entry and applies it
abbrev other_begins : Node
other_begins = record (new_machine 0) { batch_count = 16; phase = 1 }

abbrev other_looked : Node
other_looked = record other_begins { seen = 1; last = 1; from = 1; ring = 1; phase = 7 }

abbrev other_loaded : Node
other_loaded = record other_looked { has_half = 1; half = 1; phase = 8 }

abbrev other_got : Node
other_got = record other_looked { from = 0; ring = 0; got_count = 1; phase = 9 }

abbrev other_took : Node
other_took = record other_got { taken = 1; phase = 10 }

abbrev other_applied : Node
other_applied = record other_took { applied = 1; from = 1; got_count = 0; phase = 11 }

abbrev other_flushed : Node
other_flushed = record other_applied { phase = 1 }

abbrev pub other_takes : List Move
other_takes =
    Gives 0 (Updates (replicate 16 update)) other_begins ∷ Gives 0 (Value 129) other_looked ∷ Gives 0 (Value 1) other_loaded
    ∷ Gives 0 (Value 256) other_got ∷ Gives 0 (Value 0) other_took ∷ Gives 0 (Replied reply) other_applied
    ∷ Gives 0 (Value 0) other_flushed ∷ []

-- it loads the head again, and how many entries each node has taken: node 1 lags
abbrev other_scans : Node
other_scans = record other_flushed { ring = 1; phase = 2 }

abbrev other_scanned : Node
other_scanned = record other_scans { asked = 1; least = 1; next = 1 }

abbrev other_waits : Node
other_waits = record other_scanned { asked = 2; least = 0; phase = 3 }

abbrev pub one_lags : List Move
one_lags = Gives 0 (Value 129) other_scans ∷ Gives 0 (Value 1) other_scanned ∷ Gives 0 (Value 0) other_waits ∷ []

-- node 1 takes its entry
abbrev one_loaded : Node
one_loaded = record one_appended { has_half = 1; half = 1; phase = 8 }

abbrev one_got : Node
one_got = record one_appended { from = 0; ring = 0; got_count = 1; phase = 9 }

abbrev one_took : Node
one_took = record one_got { taken = 1; phase = 10 }

abbrev pub one_takes : List Move
one_takes = Gives 1 (Value 1) one_loaded ∷ Gives 1 (Value 256) one_got ∷ Gives 1 (Value 0) one_took ∷ []

-- node 0 learns that, and looks: there is room
abbrev other_looks : Node
other_looks = record other_waits { phase = 1 }

abbrev other_scans_again : Node
other_scans_again = record other_waits { next = 0; phase = 2 }

abbrev other_stores : Node
other_stores = record other_scanned { asked = 2; phase = 4 }

abbrev pub other_goes_on : List Move
other_goes_on =
    Gives 0 (Value 0) other_looks ∷ Gives 0 (Value 129) other_scans_again ∷ Gives 0 (Value 1) other_scanned
    ∷ Gives 0 (Value 1) other_stores ∷ []

-- up to where the node is said to lag, and what comes then
abbrev pub until_one_lags : List Move
until_one_lags = one_appends ++ (other_takes ++ one_lags)

abbrev pub lagging : List Move
lagging = until_one_lags ++ (one_takes ++ other_goes_on)
