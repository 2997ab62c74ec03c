use Rattle.std.proofs.Common.{◌++◌, None}
use Rattle.nr_chain.proofs.ByteParts.{comes_as_one, comes_orderly, comes_to_some, goes_on_as_one}
use Rattle.nr_chain.proofs.FoundChains.{right_chain}
use Rattle.nr_chain.proofs.byte_laws.parts_of_bytes_are_right_as_one.Goals as goal

pub returns-clause-comes : goal.returns-clause-comes
returns-clause-comes c = comes_to_some

pub returns-clause-goes_on : goal.returns-clause-goes_on
returns-clause-goes_on c = λ before front back orders others end orderly well comes behind follow.
    goes_on_as_one end (comes_orderly before front orders comes.0 end orderly well comes.1) back follow before front orders others comes.0 well comes.1 behind

pub returns-clause-ends : goal.returns-clause-ends
returns-clause-ends c = λ before front back end last comes behind follow.
    comes_as_one end back follow before front comes.0 last comes.1 behind

pub returns-clause-right : goal.returns-clause-right
returns-clause-right c = λ front back orders others end well comes behind follow.
    right_chain (front ++ back) (orders ++ others)
    (goes_on_as_one end (comes_orderly None front orders comes.0 end tt well comes.1) back follow None front orders others comes.0 well comes.1 behind)
