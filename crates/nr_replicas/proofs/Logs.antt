-- What was answered in a log is so in each later one; and what a pass hears of another.
use Rattle.std.proofs.Common.{◌≡◌, ℕ, ap, sym, subst, ◌∙◌, arith}
use Rattle.std.proofs.lemmas.Option.{slice_get_within}
use Rattle.vs_types.specs.Space.{Space}
use Rattle.vs_types.specs.declared.requests.answer.Answer.{Answer}
use Rattle.vs_types.specs.declared.addresses.depth.Depth.{Depth}
use Rattle.vs_types.specs.declared.log_entry.LogEntry.{LogEntry}
use Rattle.vs_types.specs.declared.requests.op.Op.{Op}
use Rattle.nr_ring.specs.Calls.{HasLooked, copy_of, joint_view}
use Rattle.nr_ring.specs.Laws.{HasGoneOn}
use Rattle.nr_ring.specs.LogHistory.{Log, log_after, tail}
use Rattle.nr_ring.specs.Pass.{tails_of}
use Rattle.nr_ring.specs.View.{StartsWith}
use Rattle.nr_ring.specs.declared.ring.tails.Tails.{Tails}
use Rattle.nr_ring.specs.declared.ring.view.View.{View}
use Rattle.nr_ring.proofs.Histories.{beginning_goes_on, tail_rises}
use Rattle.nr_node.proofs.LaterLogs.{same_answer, same_entry, same_space}
use Rattle.nr_replicas.specs.Replicas.{HasHeard, IsAnsweredAt, IsReadAt}
use Rattle.nr_replicas.proofs.Hearing.{heard_on, looked_heard}

pub answer_stays : (depth : Depth) (tables from : ℕ) (p q : Log) (entry : LogEntry) (place : ℕ) (answer : Answer) → HasGoneOn p q
    → IsAnsweredAt depth tables from p entry place answer → IsAnsweredAt depth tables from q entry place answer
answer_stays depth tables from p q entry place answer on is = record {
  fresh = is.fresh;
  stands = same_entry p q place entry on is.stands;
  answered = is.answered ∙ sym (same_answer depth tables place entry.op p q on (omega (arith, slice_get_within p.entries place entry is.stands)));
}

pub read_stays : (depth : Depth) (tables from : ℕ) (p q : Log) (answer_in : Space → Answer) (at : ℕ) (answer : Answer) → HasGoneOn p q
    → IsReadAt depth tables from p answer_in at answer → IsReadAt depth tables from q answer_in at answer
read_stays depth tables from p q answer_in at answer on is = record {
  fresh = is.fresh;
  known = omega (arith, is.known, tail_rises p q on);
  answered = is.answered ∙ ap answer_in (sym (same_space depth tables at p q on is.known));
}

-- an update that is not placed below the tail that a pass found when it looked is not placed below the one that it had seen before
pub answered_since : {depth : Depth} {replicas tables place call c : ℕ} {op o : Op} {before after : View} {found : Tails} {log : Log} {wanted : LogEntry}
    {answer : Answer} → HasLooked depth replicas before after → found ≡ tails_of (log_after replicas after.seen)
    → wanted ≡ record { call = c; op = o } → c ≡ call → o ≡ op → IsAnsweredAt depth tables found.tail log wanted place answer
    → IsAnsweredAt depth tables (tail (log_after replicas before.seen)) log (record { call = call; op = op }) place answer
answered_since {depth} {replicas} {tables} {place} {call} {c} {op} {o} {before} {after} {found} {log} {wanted} {answer} looked tails asked calls ops is =
    let on = heard_on depth replicas before after (looked_heard looked) in
    let Is : LogEntry → Type 0 = λ e. IsAnsweredAt depth tables found.tail log e place answer in
    let here = subst Is (asked ∙ (λ i. record { call = calls i; op = ops i })) is in
    record {
      fresh = omega (arith, here.fresh, tail_rises _ _ on, ap (λ (t : Tails). t.tail) tails);
      stands = here.stands;
      answered = here.answered;
    }

-- a pass that was given what another had seen, and then looked, has heard of more
pub told_heard : (depth : Depth) (replicas : ℕ) (before other after : View) → HasLooked depth replicas (joint_view before (copy_of other)) after
    → HasHeard depth replicas before after
told_heard depth replicas before other after is = record {
  is_history = is.is_history;
  seen = is.seen;
  advances = is.advances;
  mine = is.mine;
  owns = is.owns;
  rights = omega (arith, is.rights);
}

-- its log has gone on from that of the other
pub told_goes_on : (depth : Depth) (replicas : ℕ) (before other after : View) → HasLooked depth replicas (joint_view before (copy_of other)) after
    → StartsWith after.seen other.seen → HasGoneOn (log_after replicas other.seen) (log_after replicas after.seen)
told_goes_on depth replicas before other after is begins = beginning_goes_on depth replicas after.seen other.seen is.is_history begins
