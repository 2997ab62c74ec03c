use Rattle.std.proofs.Common.{◌≡◌, ℕ, ◌+◌, cond, length, ap, ◌∙◌, arith}
use Rattle.std.specs.Prelude.{count_by}
use Rattle.nr_trace.specs.Orders.{below}
use Rattle.nr_touch.specs.Beside.{is_beside}
use Rattle.nr_touch.proofs.Overs.{count_more, no_more, one_more}
use Rattle.nr_touch.proofs.touches.beside.count_beside.Goals as goal
use Rattle.nr_touch.proofs.touches.beside.count_beside.Goals.{then-is_beside, else-is_beside}

pub is_beside-requires-clause-few : goal.is_beside-requires-clause-few
is_beside-requires-clause-few c = let all = ap length c.events.ensures.reads in omega (arith, all, c.events.ensures.in_range)

pub loop-call-preserved : goal.loop-call-preserved
loop-call-preserved c =
    let trace = c.args.segment.now in
    let call = c.loop-call.call in
    let old = c.loop-call.invariant in
    let sum : c.if-is_beside.count ≡ c.loop-call.count + cond c.is_beside.result 1 0 = elim c.if-is_beside.branch [
      | then-is_beside w ↦ one_more c.is_beside.result c.loop-call.count c.if-is_beside.count w.if-is_beside.true w.count-is
      | else-is_beside w ↦ no_more c.is_beside.result c.loop-call.count c.if-is_beside.count w.if-is_beside.false w.count-is
    ] in
    record {
      counted = λ start clean are.
          let is : c.is_beside.result ≡ is_beside start trace call =
          c.is_beside.ensures start c.args.changes.now clean are c.requires c.in_ok-updates.ensures.columns in
          let more = count_more (is_beside start trace) call in
          let same : ◌≡◌ {A = ℕ} (cond c.is_beside.result 1 0) (cond (is_beside start trace call) 1 0) = ap (λ b. cond {A = ℕ} b 1 0) is in
          let before = old.counted start clean are in
          omega (arith, sum, more, same, before);
      few = elim c.if-is_beside.branch [
        | then-is_beside w ↦ (let one = w.count-is in let before = old.few in omega (arith, one, before))
        | else-is_beside w ↦ (let one = w.count-is in let before = old.few in omega (arith, one, before))
      ];
    }

pub returns : goal.returns
returns c = λ start clean are.
    let all = ap length c.events.ensures.reads in
    let end : c.loop-call.call ≡ length c.args.segment.now.events = omega (arith, all, c.loop-call-test.false, c.loop-call.auto.call-end) in
    c.loop-call.invariant.counted start clean are ∙ ap (λ (n : ℕ). count_by (is_beside start c.args.segment.now) (below n)) end
