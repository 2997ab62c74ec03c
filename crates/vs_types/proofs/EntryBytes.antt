-- What an entry of a level represents, in bytes.
use Rattle.std.proofs.Common.{ℕ, suc, ◌+◌, ◌*◌, ◌%◌, ◌^◌, ◌≤◌, arith}

-- the bytes of an entry, as they are shifted
pub shifted_most : (level : ℕ) → level ≤ 5 → 1 * 2 ^ (3 + 9 * level) % 18446744073709551616 ≤ 2 ^ 48
shifted_most (suc (suc (suc (suc (suc (suc level)))))) few = absurd (omega (arith, few))
shifted_most _ few = omega arith
