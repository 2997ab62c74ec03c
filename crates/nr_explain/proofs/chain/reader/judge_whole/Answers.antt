use Rattle.nr_chain.proofs.Wholes.{not_refused}
use Rattle.nr_explain.proofs.Wholes.{fits_segment, follows_last, whole_judged}
use Rattle.nr_explain.proofs.chain.reader.judge_whole.Goals as goal

pub unreachable-requires : goal.unreachable-requires
unreachable-requires c = not_refused c.args.feed c.in-Err.field-0 c.requires.whole c.in-Err.ensures

pub judge_next-requires : goal.judge_next-requires
judge_next-requires c = record {
  fits = fits_segment c.args.last c.args.feed c.in-Ok.segment c.requires.behind c.requires.fits c.requires.whole c.in-Ok.ensures;
  follows = follows_last c.args.last c.args.feed c.in-Ok.segment c.requires.behind c.requires.whole c.in-Ok.ensures;
  twice = c.requires.twice;
  known = c.requires.known;
}

pub returns : goal.returns
returns c = λ came seen.
    whole_judged came c.args.last c.args.bytes.now c.args.feed c.in-Ok.segment c.args.count c.judge_next.result seen c.requires.taken c.requires.behind
    c.requires.whole c.in-Ok.ensures (c.judge_next.ensures came seen)
