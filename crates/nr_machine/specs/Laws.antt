-- What the laws say of every schedule.
use Rattle.std.specs.Prelude.{◌≡◌, ℕ, ◌+◌, ◌%◌, ◌<◌, ◌≤◌, List, ◌∷◌, ◌++◌}
use Rattle.nr_machine.specs.Words.{packed}
use Rattle.nr_machine.specs.World.{Act, Event, World, maker}
use Rattle.nr_machine.specs.World.Event.{Began, Ended}

-- the words are in order, no node is more than a ring behind, and what one knows to be completed is
abbrev pub StandInOrder : ℕ → World → Type 0
StandInOrder nodes w = (w.words.head ≡ packed w.log.tail (w.log.link w.log.tail)) × (w.words.completed ≤ w.log.tail)
    × ((n : ℕ) → n < nodes → (w.words.done n ≤ (w.actor n).applied) × ((w.actor n).applied ≤ w.words.local n)
    × (w.words.local n ≤ w.log.tail) × (w.log.tail ≤ w.words.local n + 16) × ((w.actor n).published ≤ w.words.completed))

-- each entry that a node hasn't taken yet lies at its index of the ring of the node that appended it, beside who appended the one before it
abbrev pub IsWritten : World → ℕ → Type 0
IsWritten w p = (w.words.first (maker w.log p) (p % 16) ≡ (w.log.entry p).first)
    × (w.words.second (maker w.log p) (p % 16) ≡ packed (w.log.entry p).second (w.log.link p))

-- each entry that some node hasn't taken yet is written so
abbrev pub AreWritten : ℕ → World → Type 0
AreWritten nodes w = (r p : ℕ) → r < nodes → w.words.local r ≤ p → p < w.log.tail → IsWritten w p

-- if a call ended before another began, all that the first reached is before the position of the second
abbrev pub KeepsPrecedence : List Event → Type 0
KeepsPrecedence events = (later during between earlier : List Event) (first place reach second position end : ℕ)
    → events ≡ later ++ (Ended second position end ∷ (during ++ (Began second ∷ (between ++ (Ended first place reach ∷ earlier)))))
    → reach ≤ position

-- every node has applied and flushed the entry at this place
abbrev pub Everywhere : ℕ → World → ℕ → Type 0
Everywhere nodes w p = (n : ℕ) → n < nodes → p < w.words.done n

-- every node has applied the entry at this place of the log
abbrev pub AllApplied : ℕ → World → ℕ → Type 0
AllApplied nodes w p = (n : ℕ) → n < nodes → p < (w.actor n).applied
