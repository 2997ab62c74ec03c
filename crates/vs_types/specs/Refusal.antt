-- Why a call that allocates gave no answer.
use Rattle.std.specs.Prelude.{⊤}
use Rattle.vs_types.specs.declared.requests.refusal.Fail.{Fail}
use Rattle.vs_types.specs.declared.requests.refusal.Fail.TheVariants.{Memory, Refused}

-- a refusal of the call's own has the property
abbrev pub IfRefused : {E : Type 0} → (E → Type 0) → Fail E → Type 0
IfRefused P Memory = ⊤
IfRefused P (Refused fault) = P fault
