-- The code of the value of the cell: one number that determines the tails and the ring of the last entry, and that each event raises.
use Rattle.std.specs.Prelude.{ℕ, zero, suc, ◌+◌, ◌-◌, ◌*◌, ◌/◌, ◌%◌, ◌^◌, max, Bool, nat_le, if◌then◌else◌, List, [], ◌∷◌, length, slice_index}
use Rattle.nr_ring.specs.LogHistory.{Log, local_of, log_after, tail}
use Rattle.nr_ring.specs.Words.{last_ring}
use Rattle.vs_types.specs.declared.limits.TheConstants.{REPLICAS, RING}
use Rattle.nr_ring.specs.declared.cells.words.TheConstants.{LAST_WORD, LOCAL_WORDS, RINGS}
use Rattle.nr_ring.specs.declared.cells.stored.Stored.{Stored}

-- how many entries fewer than the ring holds a replica has still to take; 0 for one that is absent
abbrev pub room_of : ℕ → ℕ → Bool → ℕ
room_of tail local present = if present then local + RING - tail else 0

-- the rooms of replicas with these local tails, from the one of a number on, of which so many are there
abbrev pub rooms_of : ℕ → List ℕ → ℕ → ℕ → List ℕ
rooms_of tail [] number count = []
rooms_of tail (local ∷ locals) number count = room_of tail local (nat_le (number + 1) count) ∷ rooms_of tail locals (number + 1) count

-- a number, and after it fields of five bits
abbrev pub packed : ℕ → List ℕ → ℕ
packed number [] = number
packed number (field ∷ fields) = packed (number * 32 + field) fields

-- what is before the last fields of a packed number, so many
abbrev pub above : ℕ → ℕ → ℕ
above code fields = code / 2 ^ (5 * fields)

-- the tail, the room of each replica, and how many replicas there are
abbrev pub code_of : ℕ → List ℕ → ℕ → ℕ
code_of tail locals count = packed tail (rooms_of tail locals 0 count) * 8 + count

-- a value for each replica, from the one of a number on, so many
abbrev pub for_each : (ℕ → ℕ) → ℕ → ℕ → List ℕ
for_each of number zero = []
for_each of number (suc more) = of number ∷ for_each of (number + 1) more

-- the local tails that a head has
abbrev pub locals_in : List ℕ → List ℕ
locals_in head = for_each (λ replica. slice_index head (LOCAL_WORDS + replica)) 0 REPLICAS

-- the code of a log: of its tail, of the local tails of its replicas, and of how many these are
abbrev pub code_of_log : Log → ℕ
code_of_log log = code_of (tail log) (for_each (local_of log) 0 REPLICAS) (length log.locals)

-- and then the ring of the last entry
abbrev pub code_in : ℕ → Stored → ℕ
code_in replicas stored = code_of_log (log_after replicas stored.history) * RINGS + last_ring stored

-- the local tail of a replica that a code determines
abbrev pub local_in : ℕ → ℕ → ℕ
local_in code replica =
    if nat_le (replica + 1) (code % 8) then above (code / 8) REPLICAS + above (code / 8) (REPLICAS - (replica + 1)) % 32 - RING else 0

-- the greatest of those of the first replicas, so many
abbrev pub most_in : ℕ → ℕ → ℕ
most_in code zero = 0
most_in code (suc replica) = max (most_in code replica) (local_in code replica)

-- what a code of tails says at a place: the tail, the completed tail, the local tails, and the number of replicas
abbrev pub tails_word : ℕ → ℕ → ℕ
tails_word code zero = above (code / 8) REPLICAS
tails_word code (suc zero) = most_in code REPLICAS
tails_word code (suc (suc replica)) = if nat_le (replica + 1) REPLICAS then local_in code replica else code % 8

-- what a code says at a place: the tails, and then the ring of the last entry
abbrev pub word_in : ℕ → ℕ → ℕ
word_in code place = if nat_le (place + 1) LAST_WORD then tails_word (code / RINGS) place else code % RINGS
