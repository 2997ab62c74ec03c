-- What is written of a run is written of what it has to show.
use Rattle.std.proofs.Common.{◌≡◌, ℕ, Bool, List, Option, inl, inr, refl}
use Rattle.vs_types.specs.Config.{Layout}
use Rattle.vs_types.specs.declared.addresses.depth.Depth.{Depth}
use Rattle.vs_types.specs.declared.requests.request.Query.{Query}
use Rattle.nr_serve.specs.Run.{IfRunRefused, IfVerified, IsRefusedRun, IsVerifiedRun}
use Rattle.nr_serve.specs.declared.endings.outcome.Outcome.{Outcome}
use Rattle.nr_serve.specs.declared.endings.outcome.Outcome.TheVariants.{Verified, Refused}
use Rattle.nrvs.specs.ServedRun.{HasRunnable, IsRunEnd, IsRunFault, TellsRun, outcome_status, told_of}
use Rattle.audit_readers.specs.declared.fault.ProgFault.{ProgFault}
use Rattle.audit_readers.specs.declared.fault.ProgFault.TheVariants.{BadAddress, NotCanonical, NoSuchReplica, InputTooLong, BadLine, NoThread}
use Rattle.audit_readers.specs.declared.fault.ProgFault.TheVariants.{CannotRead, CannotWrite, Memory}

-- what is written of an outcome is written of the run
pub tells_run : {J : Type 0} (layout : Layout) (scripts : List (List Query)) (as_trace : Bool) (outcome : Outcome J) (status : ℕ)
    → IfVerified (IsVerifiedRun layout scripts) outcome → IfRunRefused (IsRefusedRun layout scripts) outcome → status ≡ outcome_status outcome
    → TellsRun layout scripts as_trace (told_of as_trace outcome) status
tells_run layout scripts as_trace (Verified answers trace order passes) status shown refused same = inl (record {
  answers = answers;
  trace = trace;
  order = order;
  passes = passes;
  verified = shown;
  text_is = refl;
  status_is = same;
})
tells_run layout scripts as_trace (Refused trace fault) status shown refused same = inr (record {
  trace = trace;
  fault = fault;
  refused = refused;
  text_is = refl;
  status_is = same;
})

-- why a run of a script with no steps is not written
pub fault_of_end : (depth : Depth) (known : Option (List ℕ)) (fault : ProgFault) → HasRunnable depth known → IsRunEnd fault → IsRunFault depth known fault
fault_of_end depth known NoThread has end = has
fault_of_end depth known CannotWrite has end = has
fault_of_end depth known Memory has end = tt
fault_of_end depth known BadAddress has end = absurd end
fault_of_end depth known NotCanonical has end = absurd end
fault_of_end depth known NoSuchReplica has end = absurd end
fault_of_end depth known InputTooLong has end = absurd end
fault_of_end depth known (BadLine number) has end = absurd end
fault_of_end depth known CannotRead has end = absurd end
