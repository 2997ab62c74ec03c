-- What is known of an input that is read whole, in blocks.
use Rattle.std.proofs.Common.{◌≡◌, ℕ, ◌+◌, ◌≤◌, List, ◌++◌, length, Option, Some, None, refl, ap, arith}
use Rattle.std.specs.Io.KnownBytes.{Consumes}
use Rattle.std.proofs.KnownBytes.{Consumes-trans}
use Rattle.std.proofs.lemmas.List.{length-append}
use Rattle.nrvs.specs.Simulation.{HasReadAtMost, IsTooLong}

-- these bytes are what the reader has lost, and so many more may be read
pub record IsTakenIn (known left : Option (List ℕ)) (bytes : List ℕ) (room : ℕ) : Type 0 where
  pub consumed : Consumes known left bytes
  pub counted : length bytes + room ≡ 16777217

pub took_a_block : (known left new : Option (List ℕ)) (bytes piece : List ℕ) (room : ℕ) → IsTakenIn known left bytes room → Consumes left new piece
    → length piece ≤ room → HasReadAtMost 16777217 known new
took_a_block known left new bytes piece room taken lost fits = record {
  bytes = bytes ++ piece;
  read = Consumes-trans known left new bytes piece taken.consumed lost;
  few = omega (arith, taken.counted, length-append bytes piece);
}

-- more bytes than a script may have were read
pub too_long : (known left : Option (List ℕ)) (bytes : List ℕ) (room : ℕ) → IsTakenIn known left bytes room → room ≡ 0 → IsTooLong known
too_long None left bytes room taken none = record { input = bytes; is_read = tt; long = omega (arith, taken.counted) }
too_long (Some whole) None bytes room taken none = absurd taken.consumed
too_long (Some whole) (Some left) bytes room taken none = record {
  input = whole;
  is_read = refl;
  long = omega (arith, taken.counted, ap length taken.consumed, length-append bytes left);
}
