use Rattle.std.proofs.Common.{◌≡◌, ℕ, List, length, take, ap, ◌∙◌, arith}
use Rattle.std.proofs.Math.Seq.{take-length}
use Rattle.vs_types.specs.Config.{Layout}
use Rattle.vs_types.specs.Space.{pages}
use Rattle.vs_plain.specs.Plain.{BoundedSpace}
use Rattle.nr_trace.specs.Orders.{space_after}
use Rattle.nr_audit.specs.Verdict.{space_of}
use Rattle.nr_explain.proofs.Counting.{all_placed}
use Rattle.nr_explain.proofs.trace.counts.count.Goals as goal

pub overflow_sub-reads : goal.overflow_sub-reads
overflow_sub-reads c =
    let order = ap length (c.calls-calls.ensures ∙ c.requires) in
    let log = ap length c.log-updates.ensures.reads in
    let few = all_placed c.args.trace.now in
    omega (arith, order, log, few)

pub returns : goal.returns
returns c =
    let trace = c.args.trace.now in
    let order = ap length (c.calls-calls.ensures ∙ c.requires) in
    let log = ap length c.log-updates.ensures.reads in
    let few = all_placed trace in
    let whole : c.in_ok-space.space ≡ space_of trace.layout (space_after trace trace.log) =
    c.in_ok-space.ensures ∙ ap (λ (n : ℕ). space_of trace.layout (space_after trace (take n trace.log))) c.places.ensures
    ∙ ap (λ (calls : List ℕ). space_of trace.layout (space_after trace calls)) (take-length trace.log) in
    record {
      calls = order;
      updates = log;
      reads = omega (arith, order, log, few);
      replicas = c.replicas.ensures.reads ∙ ap (λ (l : Layout). l.replicas) c.layout.ensures.reads;
      pages = c.len.ensures ∙ c.in_ok-pages.pages.ok.0 ∙ ap length (c.in_ok-pages.ensures.lists ∙ ap (λ (s : BoundedSpace). pages s.space) whole);
      overlapping = c.in_ok-meeting.ensures;
    }
