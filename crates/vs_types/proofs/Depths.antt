-- What is well formed with four levels is so with five: its addresses are canonical there too.
use Rattle.std.proofs.Common.{ℕ, ⊎_elim, inl, inr, arith}
use Rattle.vs_types.specs.Depth.{IsCanonical}
use Rattle.vs_types.specs.LogEntry.{IsLogEntry}
use Rattle.vs_types.specs.Operation.{IsAction}
use Rattle.vs_types.specs.Query.{IsQuery}
use Rattle.vs_types.specs.declared.addresses.depth.Depth.{Depth}
use Rattle.vs_types.specs.declared.addresses.depth.Depth.TheVariants.{Four, Five}
use Rattle.vs_types.specs.declared.log_entry.LogEntry.{LogEntry}
use Rattle.vs_types.specs.declared.requests.op.Action.{Action}
use Rattle.vs_types.specs.declared.requests.op.Action.TheVariants.{Map, Unmap, Protect}
use Rattle.vs_types.specs.declared.requests.request.Query.{Query}
use Rattle.vs_types.specs.declared.requests.request.Query.TheVariants.{Update, Resolve, Access}
use Rattle.vs_types.proofs.Pages.{canonical_means}

pub canonical_in_five : (address : ℕ) → IsCanonical Four address → IsCanonical Five address
canonical_in_five address is =
    (canonical_means Five address).1 (⊎_elim (λ low. inl (omega arith)) (λ high. inr (omega arith, high.1)) ((canonical_means Four address).0 is))

pub action_in_five : (action : Action) → IsAction Four action → IsAction Five action
action_in_five (Map page) is =
    record { canonical = canonical_in_five page.base is.canonical; aligned = is.aligned; phys_aligned = is.phys_aligned; phys_range = is.phys_range }
action_in_five (Unmap base) is = record { canonical = canonical_in_five base is.canonical; aligned = is.aligned }
action_in_five (Protect base rights) is = record { canonical = canonical_in_five base is.canonical; aligned = is.aligned }

pub entry_in_five : (depth : Depth) (entry : LogEntry) → IsLogEntry depth entry → IsLogEntry Five entry
entry_in_five Four entry is = record { well_formed = action_in_five entry.op is.well_formed; in_range = is.in_range }
entry_in_five Five entry is = is

pub query_in_five : (query : Query) → IsQuery Four query → IsQuery Five query
query_in_five (Update action) is = action_in_five action is
query_in_five (Resolve address) is = canonical_in_five address is
query_in_five (Access address mode access) is = canonical_in_five address is
