use Rattle.std.proofs.Common.{arith}
use Rattle.vs_range.proofs.Seeing.{absent_next, few_levels}
use Rattle.vs_range.proofs.Taking.{absent_links, absent_takes}
use Rattle.vs_range.proofs.planner.RangePlanner.see_absent.Goals as goal

pub returns-clause-next : goal.returns-clause-next
returns-clause-next g c = λ memory shown got.
    absent_next memory c.args.self.now c.requires.awaits c.requires.phase shown (g.W.FrameWords.words c.args.words.now) got c.index_at-index.result
    c.count_alike-alike.result.count c.entry_bytes-bytes.result c.requires.kind c.index_at-index.ensures.is c.count_alike-alike.ensures.some
    (omega (arith, c.count_alike-alike.ensures.most, c.index_at-index.ensures.low)) c.count_alike-alike.ensures.alike c.count_alike-alike.ensures.ends
    c.entry_bytes-bytes.ensures.is
    (omega (arith, c.requires.awaits.words.few, few_levels c.args.self.now.planner.target.depth))

pub returns-clause-entry : goal.returns-clause-entry
returns-clause-entry g c = record {
  taken = absent_takes c.args.self.now (g.W.FrameWords.words c.args.words.now) _ c.requires.kind c.requires.absent;
  leads = λ next own phase low link within.
      absurd (absent_links c.args.self.now (g.W.FrameWords.words c.args.words.now) c.requires.absent next own link);
}
