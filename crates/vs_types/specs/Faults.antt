-- What a call gives that makes a value or names the first fault.
use Rattle.std.specs.Prelude.{◌≡◌, Option, Some, None, Result, MatchResult}

-- the value where there is no fault, and else that fault
abbrev pub GivesUnless : {A E : Type 0} → Option E → A → Result A E → Type 0
GivesUnless fault value result = MatchResult result (λ given. (fault ≡ None) × (given ≡ value)) (λ named. fault ≡ Some named)
