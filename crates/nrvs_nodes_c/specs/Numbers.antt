-- What a machine asks for, in numbers, and the numbers of refusals.
use Rattle.std.specs.Prelude.{ℕ}
use Rattle.nr_machine.specs.declared.asked.Asked.{Asked}
use Rattle.nr_machine.specs.declared.asked.Asked.TheVariants as asks
use Rattle.nr_machine.specs.declared.asked.Refusal.{Refusal}
use Rattle.nr_machine.specs.declared.asked.Refusal.TheVariants.{Busy, Empty, TooMany, TooLarge}
use Rattle.nr_machine.specs.declared.words.Operation.{Operation}
use Rattle.nr_machine.specs.declared.words.Operation.TheVariants.{Load, Store, Exchange, Max}
use Rattle.nr_machine.specs.declared.words.Word.{Word}
use Rattle.nr_machine.specs.declared.words.Word.TheVariants.{Head, Completed, Local, Done, First, Second}
use Rattle.nr_machine.specs.Actor.{no_update}
use Rattle.nrvs_nodes_c.specs.declared.numbers.Numbers.{Numbers}

-- the numbers of a word alone
abbrev numbered : ℕ → ℕ → ℕ → Numbers
numbered word node index = record { code = 0; word = word; node = node; index = index; value = 0; new_value = 0; entry = no_update }

-- the numbers of a word
abbrev pub numbers_of_word : Word → Numbers
numbers_of_word Head = numbered 0 0 0
numbers_of_word Completed = numbered 1 0 0
numbers_of_word (Local node) = numbered 2 node 0
numbers_of_word (Done node) = numbered 3 node 0
numbers_of_word (First node index) = numbered 4 node index
numbers_of_word (Second node index) = numbered 5 node index

-- the numbers of an operation: its code, its word and its values
abbrev pub numbers_of_operation : Operation → Numbers
numbers_of_operation (Load word) = record (numbers_of_word word) { code = 1 }
numbers_of_operation (Store word value) = record (numbers_of_word word) { code = 2; value = value }
numbers_of_operation (Exchange word value new_value) = record (numbers_of_word word) { code = 3; value = value; new_value = new_value }
numbers_of_operation (Max word value) = record (numbers_of_word word) { code = 4; value = value }

-- the numbers of what a machine asks for
abbrev pub numbers_of : Asked → Numbers
numbers_of (asks.Carry operation) = numbers_of_operation operation
numbers_of (asks.Apply entry) = record (numbered 0 0 0) { code = 5; entry = entry }
numbers_of (asks.Lags node) = record (numbered 0 0 0) { code = 6; node = node }
numbers_of asks.Done = numbered 0 0 0
numbers_of asks.Broken = record (numbered 0 0 0) { code = 7 }

-- the status of a refusal
abbrev pub refusal_code : Refusal → ℕ
refusal_code Busy = 16
refusal_code Empty = 17
refusal_code TooMany = 18
refusal_code TooLarge = 19
