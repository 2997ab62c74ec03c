use Rattle.std.proofs.Common.{ℕ, ◌/◌, ◌%◌, ◌^◌, ◌≤◌, ap, arith}
use Rattle.vs_types.proofs.ReservedBits.{high_reserved, low_reserved}
use Rattle.vs_types.proofs.entries.entry.reserved_bit.Goals as goal

pub returns-then-level-gt3 : goal.returns-then-level-gt3
returns-then-level-gt3 c = high_reserved c.args.level c.args.word (omega (arith, c.if-level-gt3.true)) c.requires.reserved

pub returns : goal.returns
returns c =
    let level : ℕ = c.args.level in
    let word : ℕ = c.args.word in
    let few : level ≤ 3 = omega (arith, c.if-level-gt3.false) in
    low_reserved level word (word % c.entry_bytes.result / 2 ^ 13) few c.requires.reserved
    (ap (λ (bytes : ℕ). word % bytes / 2 ^ 13) c.entry_bytes.ensures.is)
