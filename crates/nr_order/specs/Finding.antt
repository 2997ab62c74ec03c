-- What is found of bytes whose log and `at`s are not looked at.
use Rattle.std.specs.Prelude.{◌≡◌, ℕ, List, None, ⊤}
use Rattle.nr_trace.specs.Recording.{Recording}
use Rattle.nr_trace.specs.Faults.{Earlier, HasFault}
use Rattle.nr_trace.specs.FirstFault.{HasFormatFault}
use Rattle.nr_trace.specs.Orders.{recorded_order}
use Rattle.nr_trace.specs.Spelling.{Spells}
use Rattle.nr_trace.specs.declared.refusals.fault.Fault.{Fault}
use Rattle.nr_trace.specs.declared.refusals.fault.Fault.TheVariants as faults
use Rattle.nr_audit.specs.Faults.{IsSoundAfter}
use Rattle.nr_audit.specs.Headline.{AreRightWith}
use Rattle.nr_audit.specs.Segments.{IsRightAfter}
use Rattle.nr_order.specs.WithOrder.{with_order}
use Rattle.nr_order.specs.declared.finding.Finding.{Finding}
use Rattle.nr_order.specs.declared.finding.Finding.TheVariants.{Right, Wrong, NoVerdict}
use Rattle.nr_order.specs.declared.judging.Ordered.{Ordered}

-- what is ordered is the trace with some order as its log; it is right, and its order is the one that it records
pub record IsOrderedOf (trace : Recording) (ordered : Ordered) : Type 0 where
  pub order : List ℕ
  pub placed : ordered.trace ≡ with_order trace order
  pub sound : IsSoundAfter None ordered.trace
  pub recorded : ordered.order ≡ recorded_order ordered.trace
  pub right : IsRightAfter None ordered.trace ordered.order

-- the bytes are right with the order of what is ordered, which is the trace that they spell with some order as its log
pub record AreRightAsOrdered (bytes : List ℕ) (ordered : Ordered) : Type 0 where
  pub right : AreRightWith bytes ordered.order
  pub trace : Recording
  pub spelled : Spells bytes trace
  pub is_ordered : IsOrderedOf trace ordered

-- a fault of a trace that needs no order: of the events by themselves, or of the tables of a dump by themselves
abbrev pub NeedsNoOrder : Fault → Type 0
NeedsNoOrder (faults.ThreadOpen index) = ⊤
NeedsNoOrder (faults.NoSuchCall index) = ⊤
NeedsNoOrder (faults.AnsweredTwice index) = ⊤
NeedsNoOrder (faults.MissingFrame replica number) = ⊤
NeedsNoOrder (faults.SharedFrame replica number) = ⊤
NeedsNoOrder (faults.ReservedBit replica number index) = ⊤
NeedsNoOrder (faults.StrayFrame replica number) = ⊤
NeedsNoOrder fault = ⊥

-- no such fault holds of the trace
abbrev pub HasNoneByItself : Recording → Type 0
HasNoneByItself trace = (fault : Fault) → NeedsNoOrder fault → HasFault trace fault → ⊥

-- the fault is the first of these that holds
pub record IsFirstByItself (trace : Recording) (fault : Fault) : Type 0 where
  pub needs_none : NeedsNoOrder fault
  pub holds : HasFault trace fault
  pub none_earlier : (other : Fault) → NeedsNoOrder other → HasFault trace other → Earlier trace other fault → ⊥

-- the first fault of bytes that needs no order: of their format, or of the trace that they spell
abbrev pub IsFirstAlone : List ℕ → Fault → Type 0
IsFirstAlone bytes (faults.Format fault) = HasFormatFault bytes fault
IsFirstAlone bytes fault = (trace : Recording) × Spells bytes trace × IsFirstByItself trace fault

-- what is found of a recording, which has no start if it is a trace. Where there is no verdict, it has at least no such fault
abbrev pub IsFindingOn : Recording → Finding → Type 0
IsFindingOn trace (Right ordered) = IsOrderedOf trace ordered
IsFindingOn trace (Wrong fault) = IsFirstByItself trace fault
IsFindingOn trace NoVerdict = trace.start ≡ None → HasNoneByItself trace

-- what is found of bytes
abbrev pub IsFindingOf : List ℕ → Finding → Type 0
IsFindingOf bytes (Right ordered) = AreRightAsOrdered bytes ordered
IsFindingOf bytes (Wrong fault) = IsFirstAlone bytes fault
IsFindingOf bytes NoVerdict = (trace : Recording) × Spells bytes trace × HasNoneByItself trace
