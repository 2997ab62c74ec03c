-- What a verdict says of a trace, and of bytes: yes with the recorded order where no fault holds, else no with the first.
use Rattle.std.specs.Prelude.{◌≡◌, ℕ, List, None, ⊤}
use Rattle.vs_types.specs.Config.{Layout}
use Rattle.vs_types.specs.Space.{Space}
use Rattle.vs_plain.specs.Plain.{BoundedSpace}
use Rattle.nr_trace.specs.Recording.{Recording, IsRecording}
use Rattle.nr_trace.specs.Versions.{IsVersionOf}
use Rattle.nr_trace.specs.declared.formats.version.Form.TheVariants as forms
use Rattle.nr_trace.specs.Spelling.{Spells}
use Rattle.nr_trace.specs.Faults.{IsFirstOf}
use Rattle.nr_trace.specs.Laws.{IsFaultless}
use Rattle.nr_trace.specs.Orders.{recorded_order}
use Rattle.nr_audit.specs.Faults.{IsFirstAfter, IsSoundAfter}
use Rattle.nr_audit.specs.declared.verdicts.verdict.Verdict.{Verdict}
use Rattle.nr_audit.specs.declared.verdicts.verdict.Verdict.TheVariants.{Yes, No}

-- a space with the depth and the limit of a layout
abbrev pub space_of : Layout → Space → BoundedSpace
space_of layout space = record { depth = layout.depth; limit = layout.tables; space = space }

-- all is in the range of its version, which is one of traces, and not that of segments
pub record IsTrace (trace : Recording) : Type 0 where
  pub in_range : IsRecording trace
  pub of_form : IsVersionOf forms.Trace trace.version

-- the verdict on a trace, or on a segment that is the first of its chain
abbrev pub IsVerdictOn : Recording → Verdict → Type 0
IsVerdictOn trace (Yes order) = IsSoundAfter None trace × (order ≡ recorded_order trace)
IsVerdictOn trace (No fault) = IsFirstAfter None trace fault

-- the verdict on bytes
abbrev pub IsVerdictOf : List ℕ → Verdict → Type 0
IsVerdictOf bytes (Yes order) = (trace : Recording) × Spells bytes trace × IsFaultless trace × (order ≡ recorded_order trace)
IsVerdictOf bytes (No fault) = IsFirstOf bytes fault

-- if the verdict is yes, its order has the property
abbrev pub IfYes : (List ℕ → Type 0) → Verdict → Type 0
IfYes P (Yes order) = P order
IfYes P (No fault) = ⊤

-- 0 where the trace is right, else 1
abbrev pub verdict_status : Verdict → ℕ
verdict_status (Yes order) = 0
verdict_status (No fault) = 1
