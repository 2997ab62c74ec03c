use Rattle.nr_trace.proofs.LawsOfLists.{Contains-from_in, in_from_Contains}
use Rattle.nr_trace.proofs.LawsOfCalls.{answered_stands, reply_is_first, stands_once}
use Rattle.nr_trace.proofs.LawsOfOrder.{member_stands, space_before, standing_is_member, updates_of_order}
use Rattle.nr_trace.specs.Orders.{recorded_order}
use Rattle.nr_trace.proofs.laws.recorded_order_by_entries.Goals as goal

pub returns-clause-members : goal.returns-clause-members
returns-clause-members c = λ trace call clean. (
  (λ m. member_stands trace call clean (in_from_Contains call (recorded_order trace) m)),
  (λ s. Contains-from_in call (recorded_order trace) (standing_is_member trace s.0 call s.1 s.2)),
)

pub returns-clause-once : goal.returns-clause-once
returns-clause-once c = stands_once

pub returns-clause-answered : goal.returns-clause-answered
returns-clause-answered c = answered_stands

pub returns-clause-first : goal.returns-clause-first
returns-clause-first c = reply_is_first

pub returns-clause-updates : goal.returns-clause-updates
returns-clause-updates c = updates_of_order

pub returns-clause-space : goal.returns-clause-space
returns-clause-space c = λ start trace call n clean l h. space_before start trace n call clean l h
