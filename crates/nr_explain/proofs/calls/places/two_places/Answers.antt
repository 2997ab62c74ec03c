use Rattle.std.proofs.Common.{ℕ, Some, sym, ap, ◌∙◌}
use Rattle.nr_trace.proofs.LawsOfCalls.{update_is_call}
use Rattle.nr_explain.proofs.FirstFaults.{twice_is_update}
use Rattle.nr_explain.proofs.Places.{placed_so}
use Rattle.nr_explain.proofs.calls.places.two_places.Goals as goal

pub call_at-requires : goal.call_at-requires
call_at-requires c =
    let trace = c.args.trace.now in
    let holds = c.requires.holds in
    let placed = placed_so trace c.log.result.now c.args.second holds.0 c.log.ensures.reads holds.1 in
    update_is_call trace _ (twice_is_update trace c.args.second _ c.requires placed)

pub unreachable-requires : goal.unreachable-requires
unreachable-requires c =
    let trace = c.args.trace.now in
    let holds = c.requires.holds in
    let placed = placed_so trace c.log.result.now c.args.second holds.0 c.log.ensures.reads holds.1 in
    let earlier = holds.2 in
    c.in-None.ensures earlier.0 earlier.1 (earlier.2 ∙ sym holds.1 ∙ placed)

pub returns-clause-are : goal.returns-clause-are
returns-clause-are c =
    let trace = c.args.trace.now in
    let holds = c.requires.holds in
    let placed = placed_so trace c.log.result.now c.args.second holds.0 c.log.ensures.reads holds.1 in
    let first = c.in-Some.ensures in
    let event = c.call_at.ensures.event in
    record {
      call = c.call_at.ensures.is;
      first = first.1 ∙ ap (λ (n : ℕ). Some n) (sym event);
      second = placed ∙ ap (λ (n : ℕ). Some n) (sym event);
      earlier = first.0;
      none_before = λ place lt there. first.2 place lt (there ∙ ap (λ (n : ℕ). Some n) event);
    }
