use Rattle.std.proofs.Common.{◌≤◌, length, sym, ap, subst, arith}
use Rattle.nr_audit.specs.inside.Dumps.{IsFoundIn}
use Rattle.nr_audit.specs.inside.Search.{IsFirstAmongFrom}
use Rattle.nr_audit.specs.inside.Passes.{IsDumpFaultAt}
use Rattle.nr_audit.proofs.DumpFaults.{read_dump, none_absent, first_past_log, first_short, none_of_replica, first_of_replica}
use Rattle.nr_audit.proofs.checks.dumps.check_dump.Goals as goal

pub returns-then-count-eq0-clause-clean : goal.returns-then-count-eq0-clause-clean
returns-then-count-eq0-clause-clean c = λ start found.
    let is = read_dump c.dumps.result.now c.args.trace.now.dumps c.args.replica c.index-dumps-replica.result c.dumps.ensures.reads c.requires.replica
    c.index-dumps-replica.is in
    none_absent start c.args.trace.now c.args.replica c.index-dumps-replica.result is (λ there. omega (arith, c.count.ensures.reads, c.if-count-eq0.true))

-- src/dumps.rt:78:9
pub returns-then-applied-log-clause-first : goal.returns-then-applied-log-clause-first
returns-then-applied-log-clause-first c = λ start found.
    let is = read_dump c.dumps.result.now c.args.trace.now.dumps c.args.replica c.index-dumps-replica.result c.dumps.ensures.reads c.requires.replica
    c.index-dumps-replica.is in
    first_past_log start c.args.trace.now c.args.replica c.index-dumps-replica.result is (omega (arith, c.count.ensures.reads, c.if-count-eq0.false))
    (omega (arith, c.if-applied-log.true, c.applied-applied.ensures, ap length c.log.ensures.reads))

-- src/dumps.rt:81:9
pub returns-then-applied-needed-clause-first : goal.returns-then-applied-needed-clause-first
returns-then-applied-needed-clause-first c = λ start found.
    let is = read_dump c.dumps.result.now c.args.trace.now.dumps c.args.replica c.index-dumps-replica.result c.dumps.ensures.reads c.requires.replica
    c.index-dumps-replica.is in
    first_short start c.args.trace.now c.args.replica c.index-dumps-replica.result is (omega (arith, c.count.ensures.reads, c.if-count-eq0.false))
    (omega (arith, c.if-applied-log.false, c.applied-applied.ensures, ap length c.log.ensures.reads))
    c.args.needed.now c.requires.needed (omega (arith, c.if-applied-needed.true, c.applied-applied.ensures))

-- src/dumps.rt:85:9
pub returns-in-None-clause-clean : goal.returns-in-None-clause-clean
returns-in-None-clause-clean c = λ start found.
    let trace = c.args.trace.now in
    let dump = c.index-dumps-replica.result in
    let is = read_dump c.dumps.result.now trace.dumps c.args.replica dump c.dumps.ensures.reads c.requires.replica c.index-dumps-replica.is in
    let within : dump.applied ≤ length trace.log = omega (arith, c.if-applied-log.false, c.applied-applied.ensures, ap length c.log.ensures.reads) in
    let here = found.each c.args.replica dump is (omega arith) in
    none_of_replica start trace c.args.replica dump is (omega (arith, c.count.ensures.reads, c.if-count-eq0.false)) within c.args.needed.now c.requires.needed
    (omega (arith, c.if-applied-needed.false, c.applied-applied.ensures))
    (subst (λ o. IsFoundIn start trace dump o) c.in-None.is here)

-- src/dumps.rt:87:48
pub returns-in-Some-clause-first : goal.returns-in-Some-clause-first
returns-in-Some-clause-first c = λ start found.
    let trace = c.args.trace.now in
    let dump = c.index-dumps-replica.result in
    let is = read_dump c.dumps.result.now trace.dumps c.args.replica dump c.dumps.ensures.reads c.requires.replica c.index-dumps-replica.is in
    let within : dump.applied ≤ length trace.log = omega (arith, c.if-applied-log.false, c.applied-applied.ensures, ap length c.log.ensures.reads) in
    let here = found.each c.args.replica dump is (omega arith) in
    subst (λ fault. IsFirstAmongFrom start (IsDumpFaultAt c.args.replica) trace fault) (sym c.fault_at.ensures)
    (first_of_replica start trace c.args.replica dump is (omega (arith, c.count.ensures.reads, c.if-count-eq0.false)) within c.args.needed.now c.requires.needed
    (omega (arith, c.if-applied-needed.false, c.applied-applied.ensures)) c.in-Some.fault
    (subst (λ o. IsFoundIn start trace dump o) c.in-Some.is here))
