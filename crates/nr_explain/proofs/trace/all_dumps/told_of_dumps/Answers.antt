use Rattle.std.proofs.Common.{◌+◌, List, Vec, Global, ap, subst, sym, ◌∙◌}
use Rattle.nr_explain.specs.declared.trace.all_dumps.DumpExplanation.{DumpExplanation}
use Rattle.nr_explain.proofs.DumpsTold.{AreToldBelow, one_told, own_left}
use Rattle.nr_explain.proofs.trace.all_dumps.told_of_dumps.Goals as goal
use Rattle.nr_explain.proofs.trace.all_dumps.told_of_dumps.Goals.{then-is_other+in_ok-told+in_ok-push, else-is_other}

pub loop-replica-preserved : goal.loop-replica-preserved
loop-replica-preserved c =
    let trace = c.args.trace.now in
    let own = c.args.own in
    let replica = c.loop-replica.replica in
    let dumps = c.loop-replica.dumps.items in
    let are = c.loop-replica.invariant in
    elim c.if-is_other.branch [
      | then-is_other+in_ok-told+in_ok-push w ↦
          subst (λ (items : List DumpExplanation). AreToldBelow trace own (replica + 1) items)
          (sym (ap (λ (v : Vec DumpExplanation Global). v.items) w.dumps-is ∙ w.in_ok-push.ensures.items))
          (one_told trace own replica dumps w.in_ok-told.told (sym c.is_other.ensures ∙ w.if-is_other.true) w.in_ok-told.ensures.replica
          w.in_ok-told.ensures.told are)
      | else-is_other w ↦
          subst (λ (v : Vec DumpExplanation Global). AreToldBelow trace own (replica + 1) v.items) (sym w.dumps-is)
          (own_left trace own replica dumps (sym c.is_other.ensures ∙ w.if-is_other.false) are)
    ]
