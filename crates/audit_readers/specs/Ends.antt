-- The ends of an engine: when an input can't be read, and what is written of a text where that fails.
use Rattle.std.specs.Prelude.{◌≡◌, ◌≤◌, ◌⊎◌, ◌++◌, ℕ, List, length, Option, None, Result, IfErr}
use Rattle.std.specs.Io.KnownBytes.{Appends, Consumes}
use Rattle.audit_readers.specs.declared.fault.ProgFault.{ProgFault}
use Rattle.audit_readers.specs.declared.fault.ProgFault.TheVariants.{CannotRead}

-- the last read gave an error; or so many bytes were read, which are more than can be judged
abbrev pub IsUnreadable : ℕ → Option (List ℕ) → Option (List ℕ) → Option ℕ → Type 0
IsUnreadable most old new last = (last ≡ None) ⊎ ((read : List ℕ) × Consumes old new read × (most ≤ length read))

-- `cannot read` is answered only then
abbrev pub RefusesUnreadable : {A : Type 0} → ℕ → Option (List ℕ) → Option (List ℕ) → Option ℕ → Result A ProgFault → Type 0
RefusesUnreadable most old new last result = IfErr result (λ fault. fault ≡ CannotRead → IsUnreadable most old new last)

-- a part of a text was written, from its beginning on, and nothing else
pub record AppendsPart (old new : Option (List ℕ)) (text : List ℕ) : Type 0 where
  pub part : List ℕ
  pub rest : List ℕ
  pub parts : text ≡ part ++ rest
  pub written : Appends old new part
