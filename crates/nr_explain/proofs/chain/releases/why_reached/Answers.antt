use Rattle.nr_explain.proofs.Reaching.{done_or_open}
use Rattle.nr_explain.proofs.chain.releases.why_reached.Goals as goal

pub reach_in-requires-clause-done : goal.reach_in-requires-clause-done
reach_in-requires-clause-done c =
    done_or_open c.args.segment.now c.args.index c.args.reply c.requires.show.clean c.requires.reply c.requires.done

pub returns : goal.returns
returns c = (c.requires.reply, c.requires.done, c.in_ok-reach.ensures)
