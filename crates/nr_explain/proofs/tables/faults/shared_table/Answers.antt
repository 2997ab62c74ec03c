use Rattle.std.proofs.Common.{◌≢◌, Vec, Global, subst, sym}
use Rattle.nr_explain.specs.Evidence.{StepsLeadTo}
use Rattle.nr_explain.specs.declared.trace.evidence.TableEntry.{TableEntry}
use Rattle.nr_explain.proofs.Dumped.{shared_is_visited}
use Rattle.nr_explain.proofs.TwoWays.{shared_has_two}
use Rattle.nr_explain.proofs.Ways.{way_to_frame}
use Rattle.nr_explain.proofs.tables.faults.shared_table.Goals as goal

pub way_to_frame-requires : goal.way_to_frame-requires
way_to_frame-requires c =
    let image = c.args.image.now in
    way_to_frame c.args.depth image.frames image.root c.args.frame (shared_is_visited c.args.depth image c.args.frame c.requires)

pub another_way-requires : goal.another_way-requires
another_way-requires c = shared_has_two c.args.depth c.args.image.now.frames c.args.image.now.root c.args.frame c.requires

pub returns-clause-is : goal.returns-clause-is
returns-clause-is c =
    let other = c.in_ok-first-2.ensures.second in
    let same = sym c.in_ok-first-2.ensures.first in (
      subst (λ (v : Vec TableEntry Global). StepsLeadTo c.args.depth c.args.image.now c.args.frame v.items) same c.in_ok-first.ensures,
      (other.0, other.1),
      subst (λ (v : Vec TableEntry Global). c.in_ok-first-2.second.items ≢ v.items) same other.2,
    )
