-- Stamps: numbers that several draw, each number once.
use Rattle.std.specs.Prelude.{◌≡◌, ℕ, ◌<◌, ◌==◌, nat_lt, if◌then◌else◌, List, [], ◌∷◌, All, ⊤}
use Rattle.std.specs.List.{count_by}

-- how often a stamp is in a list
abbrev pub times : ℕ → List ℕ → ℕ
times stamp stamps = count_by (λ other. other == stamp) stamps

-- once for a number below n, and never for another
abbrev pub once_below : ℕ → ℕ → ℕ
once_below n stamp = if nat_lt stamp n then 1 else 0

-- the stamps are the numbers below n, each once
abbrev pub AreBelow : ℕ → List ℕ → Type 0
AreBelow n stamps = (stamp : ℕ) → times stamp stamps ≡ once_below n stamp

-- each stamp is above those before it
abbrev pub Rise : List ℕ → Type 0
Rise [] = ⊤
Rise (stamp ∷ stamps) = All (λ later. stamp < later) stamps × Rise stamps
