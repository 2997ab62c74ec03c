-- What a call gives that looks for a value.
use Rattle.std.specs.Prelude.{Option, MatchOption}

-- a value that has the property, or none where no value has it
abbrev pub Finds : {A : Type 0} → (A → Type 0) → Option A → Type 0
Finds {A} P found = MatchOption found ((value : A) → P value → ⊥) P
