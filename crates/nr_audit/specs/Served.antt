-- What an update or a read does to a plain space, and how it is answered.
use Rattle.std.specs.Prelude.{◌≡◌}
use Rattle.vs_types.specs.Step.{step, look, allow}
use Rattle.vs_types.specs.declared.requests.answer.Answer.{Answer}
use Rattle.vs_types.specs.declared.requests.answer.Answer.TheVariants.{Done}
use Rattle.vs_types.specs.declared.requests.request.Query.{Query}
use Rattle.vs_types.specs.declared.requests.request.Query.TheVariants.{Update, Resolve, Access}
use Rattle.vs_plain.specs.Plain.{BoundedSpace, IsPlainStep}

-- an update does its operation; a read is answered and changes nothing
abbrev pub Serves : BoundedSpace → Query → Answer → BoundedSpace → Type 0
Serves old (Update action) answer new = IsPlainStep old action answer new
Serves old (Resolve address) answer new = (answer ≡ look old.space address) × (new ≡ old)
Serves old (Access address mode access) answer new = (answer ≡ allow old.space address mode access) × (new ≡ old)

-- an update adds a page where it is a map that is done; a read adds none
abbrev pub AddsPage : BoundedSpace → Query → Type 0
AddsPage old (Update action) = (step old.depth old.limit old.space action).answer ≡ Done
AddsPage old (Resolve address) = ⊥
AddsPage old (Access address mode access) = ⊥
