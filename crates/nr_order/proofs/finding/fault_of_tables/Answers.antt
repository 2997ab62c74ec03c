use Rattle.std.proofs.Common.{◌≡◌, ◌∙◌, List, slice_get, None, Some, ap, arith, subst, sym}
use Rattle.std.proofs.lemmas.Option.{slice_get-get_or}
use Rattle.vs_types.specs.Config.{Layout}
use Rattle.vs_walk.specs.Dump.{Image}
use Rattle.nr_audit.specs.inside.Search.{IsFirstAmong}
use Rattle.nr_order.specs.inside.ByThemselves.{IsFoundAlone, IsOfTables}
use Rattle.nr_order.proofs.FirstFaults.{first_found, none_found}
use Rattle.nr_order.proofs.finding.fault_of_tables.Goals as goal

pub returns-in-None : goal.returns-in-None
returns-in-None c =
    let trace = c.args.trace.now in
    let is : slice_get trace.dumps c.args.replica ≡ Some c.in-Some.dump.now =
    ap (λ (dumps : List Image). slice_get dumps c.args.replica) (sym c.dumps.ensures.reads)
    ∙ slice_get-get_or c.dumps.result.now c.args.replica c.in-Some.dump.now c.in-Some.ensures.lookup.3.0 ∙ ap Some (sym c.in-Some.ensures.lookup.1) in
    none_found trace c.args.replica c.in-Some.dump.now is
    (subst (λ (layout : Layout). IsFoundAlone layout.depth c.in-Some.dump.now None) c.layout.ensures.reads
    (subst (IsFoundAlone c.layout.result.depth c.in-Some.dump.now) c.in-None.is c.in_ok-fault_of_dump.ensures))

pub returns-in-Some-2 : goal.returns-in-Some-2
returns-in-Some-2 c =
    let trace = c.args.trace.now in
    let is : slice_get trace.dumps c.args.replica ≡ Some c.in-Some.dump.now =
    ap (λ (dumps : List Image). slice_get dumps c.args.replica) (sym c.dumps.ensures.reads)
    ∙ slice_get-get_or c.dumps.result.now c.args.replica c.in-Some.dump.now c.in-Some.ensures.lookup.3.0 ∙ ap Some (sym c.in-Some.ensures.lookup.1) in
    subst (IsFirstAmong (IsOfTables c.args.replica) trace) (sym c.fault_at.ensures)
    (first_found trace c.args.replica c.in-Some.dump.now is c.in-Some-2.fault (omega (arith, c.count.ensures.reads, c.if-count-eq0.false))
    (subst (λ (layout : Layout). IsFoundAlone layout.depth c.in-Some.dump.now (Some c.in-Some-2.fault)) c.layout.ensures.reads
    (subst (IsFoundAlone c.layout.result.depth c.in-Some.dump.now) c.in-Some-2.is c.in_ok-fault_of_dump.ensures)))
