-- The histories of the worked examples.
use Rattle.std.specs.Prelude.{ℕ, ◌+◌, zero, suc, List, [], ◌∷◌, replicate}
use Rattle.vs_types.specs.Examples.{map_all}
use Rattle.vs_types.specs.declared.log_entry.LogEntry.{LogEntry}
use Rattle.vs_types.specs.declared.addresses.page.Size.TheVariants.{K4}
use Rattle.nr_ring.specs.declared.ring.log_event.LogEvent.{LogEvent}
use Rattle.nr_ring.specs.declared.ring.log_event.LogEvent.TheVariants.{Append, Advance}

-- call 0 maps a small page
abbrev pub a_map : LogEntry
a_map = record { call = 0; op = map_all 0x400000 K4 0x1000 }

abbrev pub batch_of : ℕ → List LogEntry
batch_of n = replicate n a_map

-- two replicas: 16 entries are appended
abbrev pub filled : List LogEvent
filled = Append (batch_of 16) ∷ []

-- then replica 0 takes them all
abbrev pub half_freed : List LogEvent
half_freed = Append (batch_of 16) ∷ Advance 0 16 ∷ []

-- then replica 1 takes one
abbrev pub freed : List LogEvent
freed = Append (batch_of 16) ∷ Advance 0 16 ∷ Advance 1 1 ∷ []

-- so many rounds of one replica from a place on, each an append of 16 entries and an advance past them
unfoldable pub rounds : ℕ → ℕ → List LogEvent
rounds zero place = []
rounds (suc n) place = Append (batch_of 16) ∷ Advance 0 (place + 16) ∷ rounds n (place + 16)
