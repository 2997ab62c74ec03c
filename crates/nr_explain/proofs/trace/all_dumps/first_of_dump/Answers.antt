use Rattle.std.proofs.Common.{◌≡◌, ℕ, ◌≤◌, Option, Some, None, length, take, sym, ap, subst, ◌∙◌, arith}
use Rattle.vs_plain.specs.Plain.{BoundedSpace}
use Rattle.vs_walk.specs.Dump.{Image}
use Rattle.nr_trace.specs.Recording.{IsThere, Recording}
use Rattle.nr_trace.specs.Orders.{space_after}
use Rattle.nr_trace.specs.declared.refusals.fault.Fault.{Fault}
use Rattle.nr_dump.specs.declared.fault.DumpFault.{DumpFault}
use Rattle.nr_audit.specs.Verdict.{space_of}
use Rattle.nr_audit.specs.Dumps.{IsFoundBeside}
use Rattle.nr_audit.proofs.DumpFaults.{read_dump}
use Rattle.nr_explain.specs.inside.Searches.{IsFoundOfDump, IsResting, RestsNowhere}
use Rattle.nr_explain.proofs.DumpsFound.{found_absent, found_past_log, found_short, found_sound, found_in_tables}
use Rattle.nr_explain.proofs.trace.all_dumps.first_of_dump.Goals as goal

pub returns-then-count-eq0 : goal.returns-then-count-eq0
returns-then-count-eq0 c =
    let is = read_dump c.dumps.result.now c.args.trace.now.dumps c.args.replica c.index-dumps-replica.result c.dumps.ensures.reads c.requires
    c.index-dumps-replica.is in
    found_absent c.args.trace.now c.args.replica c.index-dumps-replica.result is (λ there. omega (arith, c.count.ensures.reads, c.if-count-eq0.true))

pub returns-then-applied-places : goal.returns-then-applied-places
returns-then-applied-places c =
    let is = read_dump c.dumps.result.now c.args.trace.now.dumps c.args.replica c.index-dumps-replica.result c.dumps.ensures.reads c.requires
    c.index-dumps-replica.is in
    found_past_log c.args.trace.now c.args.replica c.index-dumps-replica.result is (omega (arith, c.count.ensures.reads, c.if-count-eq0.false))
    (omega (arith, c.if-applied-places.true, c.applied-applied.ensures, c.places.ensures))

pub returns-in-Some : goal.returns-in-Some
returns-in-Some c =
    let trace = c.args.trace.now in
    let dump = c.index-dumps-replica.result in
    let is = read_dump c.dumps.result.now trace.dumps c.args.replica dump c.dumps.ensures.reads c.requires c.index-dumps-replica.is in
    let there : IsThere dump = omega (arith, c.count.ensures.reads, c.if-count-eq0.false) in
    let few : dump.applied ≤ length trace.log = omega (arith, c.if-applied-places.false, c.applied-applied.ensures, c.places.ensures) in
    found_short trace c.args.replica dump is there c.dumps.ensures.in_range few c.in-Some.field-0
    (subst (λ (n : ℕ). IsResting trace c.args.replica n c.in-Some.field-0) c.applied-applied.ensures c.in-Some.ensures.0)

-- what is found beside the space after what the dump has applied
beside : (trace : Recording) (dump : Image) (applied : ℕ) (space : BoundedSpace) (found : Option DumpFault) → applied ≡ dump.applied
    → space ≡ space_of trace.layout (space_after trace (take applied trace.log)) → IsFoundBeside dump space found
    → IsFoundBeside dump (space_of trace.layout (space_after trace (take dump.applied trace.log))) found
beside trace dump applied space found same is =
    subst (λ (s : BoundedSpace). IsFoundBeside dump s found)
    (is ∙ ap (λ (n : ℕ). space_of trace.layout (space_after trace (take n trace.log))) same)

pub returns-in-None : goal.returns-in-None
returns-in-None c =
    let trace = c.args.trace.now in
    let dump = c.index-dumps-replica.result in
    let is = read_dump c.dumps.result.now trace.dumps c.args.replica dump c.dumps.ensures.reads c.requires c.index-dumps-replica.is in
    let there : IsThere dump = omega (arith, c.count.ensures.reads, c.if-count-eq0.false) in
    let few : dump.applied ≤ length trace.log = omega (arith, c.if-applied-places.false, c.applied-applied.ensures, c.places.ensures) in
    let rests = subst (λ (n : ℕ). RestsNowhere trace c.args.replica n (length trace.events)) c.applied-applied.ensures c.in_default.ensures in
    found_sound trace c.args.replica dump is there c.dumps.ensures.in_range few rests
    (beside trace dump c.applied-applied.result c.in_ok-space.space None c.applied-applied.ensures c.in_ok-space.ensures
    (subst (IsFoundBeside dump c.in_ok-space.space) c.in-None.is c.in_ok-table_fault.ensures))

pub returns : goal.returns
returns c =
    let trace = c.args.trace.now in
    let dump = c.index-dumps-replica.result in
    let fault = c.in-Some-2.fault in
    let is = read_dump c.dumps.result.now trace.dumps c.args.replica dump c.dumps.ensures.reads c.requires c.index-dumps-replica.is in
    let there : IsThere dump = omega (arith, c.count.ensures.reads, c.if-count-eq0.false) in
    let few : dump.applied ≤ length trace.log = omega (arith, c.if-applied-places.false, c.applied-applied.ensures, c.places.ensures) in
    let rests = subst (λ (n : ℕ). RestsNowhere trace c.args.replica n (length trace.events)) c.applied-applied.ensures c.in_default.ensures in
    subst (λ (f : Fault). IsFoundOfDump trace c.args.replica (Some f)) (sym c.fault_at.ensures)
    (found_in_tables trace c.args.replica dump is there c.dumps.ensures.in_range few rests fault
    (beside trace dump c.applied-applied.result c.in_ok-space.space (Some fault) c.applied-applied.ensures c.in_ok-space.ensures
    (subst (IsFoundBeside dump c.in_ok-space.space) c.in-Some-2.is c.in_ok-table_fault.ensures)))
