use Rattle.std.proofs.Common.{◌≡◌, ℕ, ◌+◌, ◌<◌, List, Option, length, sym, ap, subst, ◌∙◌, arith}
use Rattle.std.proofs.Math.Seq.{take-length}
use Rattle.std.proofs.lemmas.Result.{err_from_is_err_and}
use Rattle.vs_types.specs.Space.{Space}
use Rattle.vs_plain.specs.Plain.{BoundedSpace}
use Rattle.nr_dump.specs.declared.fault.DumpFault.{DumpFault}
use Rattle.nr_trace.specs.Recording.{Recording}
use Rattle.nr_trace.specs.Orders.{space_from}
use Rattle.nr_audit.specs.Verdict.{space_of}
use Rattle.nr_audit.specs.inside.Dumps.{AreCompared, AreFound, IsServed}
use Rattle.nr_audit.specs.inside.Search.{HasNoneFrom, IsFirstAmongFrom}
use Rattle.nr_audit.specs.inside.Passes.{IsDumpFault, IsDumpFaultAt}
use Rattle.nr_audit.proofs.ComparedDumps.{found_more}
use Rattle.nr_audit.proofs.Ranks.{more_from, refused_as}
use Rattle.nr_audit.proofs.DumpFaults.{first_dump_fault, no_dump_fault}
use Rattle.nr_audit.proofs.checks.dumps.check_dumps.Goals as goal

-- the dumps of the whole log as well
all_found : (start : Space) (trace : Recording) (space : BoundedSpace) (applied : ℕ) (old new : List (Option DumpFault)) → applied ≡ length trace.log
    → IsServed start trace space old → AreCompared trace space applied (length trace.dumps) old new → AreFound start trace (length trace.log + 1) new
all_found start trace space applied old new whole served are =
    found_more start trace space (length trace.log) old new
    (served.whole ∙ ap (λ (xs : List ℕ). space_of trace.layout (space_from start trace xs)) (sym (take-length trace.log))) served.found
    (subst (λ n. AreCompared trace space n (length trace.dumps) old new) whole are)

pub loop-replica-preserved : goal.loop-replica-preserved
loop-replica-preserved c = λ start found.
    more_from start IsDumpFaultAt c.args.trace.now c.loop-replica.replica (c.loop-replica.invariant start found) (c.in_ok-check_dump.ensures.clean start found)

pub returns-in_err-check_dump-clause-first : goal.returns-in_err-check_dump-clause-first
returns-in_err-check_dump-clause-first c = λ start served.
    let trace = c.args.trace.now in
    let found = all_found start trace c.args.space.now _ c.args.faults.now c.compare_dumps.new.faults (ap length c.log.ensures.reads) served
    c.in_ok-compare_dumps.ensures in
    let p = err_from_is_err_and c.from_residual-in_err-check_dump.result c.from_residual-in_err-check_dump.ensures.1 in
    rw (p.1, p.2) (refused_as (IsFirstAmongFrom start (IsDumpFaultAt c.loop-replica.replica) trace) (IsFirstAmongFrom start IsDumpFault trace) _
    (λ fault first. first_dump_fault start trace c.loop-replica.replica fault (c.loop-replica.invariant start found) first)
    (c.in_err-check_dump.ensures.first start found))

pub returns-clause-clean : goal.returns-clause-clean
returns-clause-clean c = λ start served.
    let trace = c.args.trace.now in
    let found = all_found start trace c.args.space.now _ c.args.faults.now c.compare_dumps.new.faults (ap length c.log.ensures.reads) served
    c.in_ok-compare_dumps.ensures in
    let at_end : c.loop-replica.replica ≡ length trace.dumps = omega (arith, ap length c.dumps-replica-end.ensures.reads) in
    no_dump_fault start trace (subst (λ n. (lower : ℕ) → lower < n → HasNoneFrom start (IsDumpFaultAt lower) trace) at_end
    (c.loop-replica.invariant start found))
