-- How a chain ends at some bytes.
use Rattle.std.proofs.Common.{◌≡◌, ℕ, List, [], Option, Some, None, is_some, true, false, refl, sym, subst, lit<, inl}
use Rattle.nr_trace.specs.FirstFault.{HasFaultAs}
use Rattle.nr_trace.specs.declared.refusals.fault.Format.TheVariants.{Truncated}
use Rattle.nr_trace.specs.declared.refusals.refusal.TraceUnit.TheVariants as units
use Rattle.nr_trace.specs.declared.formats.version.Form.{Form}
use Rattle.nr_trace.specs.declared.refusals.fault.Fault.{Fault}
use Rattle.nr_trace.specs.Run.{Run}
use Rattle.nr_chain.specs.Bytes.{EndsWith, IsFirstNext}

-- no bytes are too few
pub none_is_short : (form : Form) → HasFaultAs form [] Truncated
none_is_short form = (units.Magic, 0, inl (lit< tt, refl))

pub ends_well : (behind : Option Run) (bytes : List ℕ) → is_some behind ≡ true → bytes ≡ [] → EndsWith behind bytes None
ends_well None bytes some none = absurd (let wrong : false ≡ true = some in cc)
ends_well (Some behind) bytes some none = subst (λ bytes. EndsWith (Some behind) bytes None) (sym none) refl

-- the first fault of the next segment, where there is a byte or it is the first one
pub ends_first : (behind : Option Run) (bytes : List ℕ) (fault : Fault) → (is_some behind ≡ true → bytes ≡ [] → ⊥) → IsFirstNext behind bytes fault
    → EndsWith behind bytes (Some fault)
ends_first (Some behind) [] fault some first = absurd (some refl refl)
ends_first _ _ fault some first = first
