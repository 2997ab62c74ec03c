-- What is said of each dump beside the first fault of the trace: the first fault of the dump itself, or that it has none.
use Rattle.std.specs.Prelude.{◌≡◌, ℕ, ◌==◌, Bool, true, not, List, [], length, filter, map, All, Option, Some, None, IsSome}
use Rattle.nr_trace.specs.Recording.{Recording}
use Rattle.nr_trace.specs.Spelling.{Spells}
use Rattle.nr_trace.specs.Orders.{below}
use Rattle.nr_trace.specs.Faults.{HasFault, Earlier}
use Rattle.nr_trace.specs.declared.refusals.fault.Fault.{Fault}
use Rattle.nr_trace.specs.declared.refusals.fault.Fault.TheVariants.{PrefixPastLog, PrefixShort, MissingFrame, SharedFrame, ReservedBit, StrayFrame, Differs}
use Rattle.nr_explain.specs.Evidence.{IsEvidence}
use Rattle.nr_explain.specs.Explanation.{IsExplanationOf}
use Rattle.nr_explain.specs.declared.trace.evidence.Evidence.TheVariants as evidence
use Rattle.nr_explain.specs.declared.trace.explaining.Explanation.{Explanation}
use Rattle.nr_explain.specs.declared.trace.explaining.Explanation.TheVariants.{Yes, No}
use Rattle.nr_explain.specs.declared.trace.all_dumps.DumpExplanation.{DumpExplanation}
use Rattle.nr_explain.specs.declared.trace.all_dumps.DumpExplanation.TheVariants.{Sound, Faulty}
use Rattle.nr_explain.specs.declared.trace.all_dumps.FullExplanation.{FullExplanation}

-- the replica whose dump the fault is of, where it is one of a dump
abbrev pub replica_of : Fault → Option ℕ
replica_of (PrefixPastLog replica) = Some replica
replica_of (PrefixShort replica) = Some replica
replica_of (MissingFrame replica number) = Some replica
replica_of (SharedFrame replica number) = Some replica
replica_of (ReservedBit replica number index) = Some replica
replica_of (StrayFrame replica number) = Some replica
replica_of (Differs replica address) = Some replica
replica_of _ = None

-- the fault of a dump holds of the trace, and no earlier one of the same dump does
pub record IsFirstOfItsDump (trace : Recording) (fault : Fault) : Type 0 where
  pub of_dump : IsSome (replica_of fault)
  pub holds : HasFault trace fault
  pub none_earlier : (other : Fault) → replica_of other ≡ replica_of fault → HasFault trace other → Earlier trace other fault → ⊥

-- no fault of the replica's dump holds
abbrev pub HasSoundDump : Recording → ℕ → Type 0
HasSoundDump trace replica = (fault : Fault) → replica_of fault ≡ Some replica → HasFault trace fault → ⊥

-- what is said of a replica's dump: nothing is wrong with it; or which fault of it is the first, and the evidence of that
abbrev pub IsToldOfDump : Recording → DumpExplanation → Type 0
IsToldOfDump trace (Sound replica) = HasSoundDump trace replica
IsToldOfDump trace (Faulty replica fault shown) = (replica_of fault ≡ Some replica) × IsFirstOfItsDump trace fault × IsEvidence trace fault shown

-- the replica whose dump it is
abbrev pub told_replica : DumpExplanation → ℕ
told_replica (Sound replica) = replica
told_replica (Faulty replica fault shown) = replica

-- the replica is not that one, if one is given
abbrev pub is_other : Option ℕ → ℕ → Bool
is_other None replica = true
is_other (Some own) replica = not (replica == own)

-- something is said of each dump but the one of the replica, if one is given, in the order of the replicas
pub record AreToldOfDumps (trace : Recording) (own : Option ℕ) (dumps : List DumpExplanation) : Type 0 where
  pub replicas : map told_replica dumps ≡ filter (is_other own) (below (length trace.dumps))
  pub told : All (IsToldOfDump trace) dumps

-- where the first fault is one of the trace that the bytes spell, of each dump but the one that it is of; else of none
abbrev pub AreDumpsOf : List ℕ → Explanation → List DumpExplanation → Type 0
AreDumpsOf bytes (Yes order counts) dumps = dumps ≡ []
AreDumpsOf bytes (No fault (evidence.Format bad)) dumps = dumps ≡ []
AreDumpsOf bytes (No fault shown) dumps = (trace : Recording) × Spells bytes trace × AreToldOfDumps trace (replica_of fault) dumps

-- an explanation of the bytes, and of their dumps
pub record IsFullExplanationOf (bytes : List ℕ) (full : FullExplanation) : Type 0 where
  pub explanation : IsExplanationOf bytes full.explanation
  pub dumps : AreDumpsOf bytes full.explanation full.dumps.items
