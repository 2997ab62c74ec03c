-- The words that nodes share, and what an operation on one of them does.
use Rattle.std.specs.Prelude.{ℕ, ◌+◌, ◌*◌, ◌==◌, max, if◌then◌else◌}
use Rattle.nr_machine.specs.declared.words.Operation.{Operation}
use Rattle.nr_machine.specs.declared.words.Operation.TheVariants.{Load, Store, Exchange, Max}
use Rattle.nr_machine.specs.declared.words.Word.{Word}
use Rattle.nr_machine.specs.declared.words.Word.TheVariants.{Head, Completed, Local, Done, First, Second}

-- the words of all nodes: how many entries each has taken and applied, and the rings of entries, by node and index
pub record Words : Type 0 where
  pub head : ℕ
  pub completed : ℕ
  pub local : ℕ → ℕ
  pub done : ℕ → ℕ
  pub first : ℕ → ℕ → ℕ
  pub second : ℕ → ℕ → ℕ

-- two numbers in one word; the lower is below 128
abbrev pub packed : ℕ → ℕ → ℕ
packed high low = 128 * high + low

-- the function with another value at one number
abbrev pub with_at : {A : Type 0} → (ℕ → A) → ℕ → A → ℕ → A
with_at f n x m = if m == n then x else f m

-- rings with another word at one index of one of them
abbrev pub with_word : (ℕ → ℕ → ℕ) → ℕ → ℕ → ℕ → ℕ → ℕ → ℕ
with_word rings node index value m i = if m == node then (if i == index then value else rings m i) else rings m i

-- what a load of a word gives
abbrev pub loaded : Words → Word → ℕ
loaded words Head = words.head
loaded words Completed = words.completed
loaded words (Local node) = words.local node
loaded words (Done node) = words.done node
loaded words (First node index) = words.first node index
loaded words (Second node index) = words.second node index

-- the words after a store of one
abbrev pub stored : Words → Word → ℕ → Words
stored words Head value = record words { head = value }
stored words Completed value = record words { completed = value }
stored words (Local node) value = record words { local = with_at words.local node value }
stored words (Done node) value = record words { done = with_at words.done node value }
stored words (First node index) value = record words { first = with_word words.first node index value }
stored words (Second node index) value = record words { second = with_word words.second node index value }

-- what an operation gives the one who carries it out: the word as it was before
abbrev pub told_by : Words → Operation → ℕ
told_by words (Load word) = loaded words word
told_by words (Store word value) = loaded words word
told_by words (Exchange word old new) = loaded words word
told_by words (Max word value) = loaded words word

-- the words after an operation
abbrev pub carried_out : Words → Operation → Words
carried_out words (Load word) = words
carried_out words (Store word value) = stored words word value
carried_out words (Exchange word old new) = if loaded words word == old then stored words word new else words
carried_out words (Max word value) = stored words word (max (loaded words word) value)
