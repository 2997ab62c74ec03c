use Rattle.std.proofs.Common.{arith}
use Rattle.nr_explain.specs.inside.Reading.{all_states, left_seen}
use Rattle.nr_explain.proofs.EarlierLooks.{all_earlier, none_earlier}
use Rattle.nr_explain.proofs.chain.touches.earlier_looks.Goals as goal

pub returns-then-first-gt0 : goal.returns-then-first-gt0
returns-then-first-gt0 c =
    none_earlier (left_seen (all_states c.args.last.now)) c.args.address c.args.first c.args.with_page _ c.if-first-gt0.true c.new.ensures.items

pub returns : goal.returns
returns c =
    all_earlier (left_seen (all_states c.args.last.now)) c.args.address c.args.first c.args.with_page _ _ (omega (arith, c.if-first-gt0.false))
    c.in_ok-looks.ensures c.keep_found.ensures
