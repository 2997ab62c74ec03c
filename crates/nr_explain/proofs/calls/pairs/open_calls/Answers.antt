use Rattle.std.proofs.Common.{ℕ, ◌<◌, sym, subst}
use Rattle.nr_explain.specs.inside.Searches.{IsOpenBelow}
use Rattle.nr_explain.proofs.FirstFaults.{last_is_open, some_last}
use Rattle.nr_explain.proofs.Lasts.{thread_told}
use Rattle.nr_explain.proofs.calls.pairs.open_calls.Goals as goal

pub unreachable-requires : goal.unreachable-requires
unreachable-requires c =
    let trace = c.args.trace.now in
    let second = c.call_at-second.result in
    some_last trace c.args.index second.thread c.requires
    (thread_told trace c.args.index second c.call_at-second.ensures.is c.call_at-second.ensures.event) c.in-None.ensures

pub returns-clause-are : goal.returns-clause-are
returns-clause-are c =
    let trace = c.args.trace.now in
    let second = c.call_at-second.result in
    let first = c.in-Some.first in
    let is = c.in-Some.ensures in
    let at = c.call_at-second.ensures.event in
    record {
      first = is.0;
      second = c.call_at-second.ensures.is;
      earlier = subst (λ (n : ℕ). first.event < n) (sym at) is.2;
      same_thread = is.1;
      not_answered = subst (λ (n : ℕ). IsOpenBelow trace first.event n) (sym at)
          (last_is_open trace c.args.index second.thread first c.requires (thread_told trace c.args.index second c.call_at-second.ensures.is at) is);
    }
