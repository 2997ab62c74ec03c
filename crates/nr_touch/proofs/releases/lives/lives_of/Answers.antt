use Rattle.std.proofs.Common.{◌+◌, List, sym, subst, arith}
use Rattle.nr_touch.specs.declared.releases.lives.Life.{Life}
use Rattle.nr_touch.proofs.LivesFound.{all_lives, no_lives, one_page_more, HaveLivesTo}
use Rattle.nr_touch.proofs.releases.lives.lives_of.Goals as goal

pub loop-row-init : goal.loop-row-init
loop-row-init c = no_lives c.args.stays.now c.new-lives.result.items

pub loop-row-preserved : goal.loop-row-preserved
loop-row-preserved c =
    subst (λ (lives : List Life). HaveLivesTo c.args.stays.now lives (c.loop-row.row + 1)) (sym c.in_ok-put_lives.ensures)
    (one_page_more c.args.stays.now c.loop-row.lives.items c.loop-row.row _ c.loop-row-test.true c.loop-row.invariant)

pub returns : goal.returns
returns c = all_lives c.args.stays.now c.loop-row.lives.items c.loop-row.row (omega (arith, c.loop-row-test.false)) c.loop-row.invariant
