use Rattle.std.proofs.Common.{arith}
use Rattle.nr_script.proofs.Numbers.{digits_of_number, length_of_number}
use Rattle.nr_script.proofs.number.parse_number.Goals as goal

pub returns-in_default : goal.returns-in_default
returns-in_default c = λ n h.
    let few = length_of_number n c.args.word.now (digits_of_number n c.args.word.now h.0 h.1) in
    omega arith

pub returns-in_default-2 : goal.returns-in_default-2
returns-in_default-2 c = λ n h.
    let few = length_of_number n c.args.word.now (digits_of_number n c.args.word.now h.0 h.1) in
    omega arith
