use Rattle.std.proofs.Common.{sym, subst, arith, rules}
use Rattle.vs_range.specs.Planner.{IsAsk, IsHarvestNext, IsMap, harvest_run}
use Rattle.vs_types.specs.Page.{bytes_of}
use Rattle.vs_plan.specs.declared.plans.request.Request.TheVariants.{Ask}
use Rattle.vs_range.proofs.Harvesting.{harvest_next}
use Rattle.vs_range.proofs.Seeing.{beyond_next, ends_here, harvest_of, longest_as}
use Rattle.vs_range.proofs.Taking.{none_takes, beyond_takes, run_takes}
use Rattle.vs_range.proofs.planner.RangePlanner.see_harvest.Goals as goal

pub returns-then-self-bytes-clause-next : goal.returns-then-self-bytes-clause-next
returns-then-self-bytes-clause-next g c = λ memory shown got.
    beyond_next memory c.args.self.now c.requires.entry.awaits c.requires.entry.phase shown (g.W.FrameWords.words c.args.words.now) got c.args.word
    c.bytes.result c.in-Some.size (λ map. subst IsMap c.requires.request map) c.requires.entry.read c.in-Some.ensures c.bytes.ensures
    (omega (arith, c.if-self-bytes.true))

pub returns-clause-next : goal.returns-clause-next
returns-clause-next g c = λ memory shown got.
    subst (IsHarvestNext memory c.args.self.now) (sym c.run_of_harvest.ensures)
    (harvest_next memory c.args.self.now (g.W.FrameWords.words c.args.words.now) c.in-Some.size c.index_at-index.result c.count_pages-found.result.count
    (subst IsAsk (sym c.requires.request) tt)
    (harvest_of memory c.args.self.now c.requires.entry.awaits c.requires.entry.phase shown (g.W.FrameWords.words c.args.words.now) got c.in-Some.size
    c.args.word c.index_at-index.result c.count_pages-found.result.count c.requires.request c.in-Some.ensures c.index_at-index.ensures.is) got
    c.count_pages-found.ensures.some (c.most_here.ensures.within c.count_pages-found.result.count c.count_pages-found.ensures.most)
    c.count_pages-found.ensures.pages
    (longest_as memory c.args.self.now (g.W.FrameWords.words c.args.words.now)
    (harvest_run c.in-Some.size c.args.self.now.base c.count_pages-found.result.count c.args.self.now.planner.number c.index_at-index.result)
    (Ask c.args.self.now.base) c.requires.request got
    (ends_here c.index_at-index.result c.count_pages-found.result.count c.most_here.result c.args.self.now.bytes (bytes_of c.in-Some.size)
    c.count_pages-found.ensures.most c.count_pages-found.ensures.ends c.most_here.ensures.most)))

pub returns-in_default-clause-entry : goal.returns-in_default-clause-entry
returns-in_default-clause-entry g c = record {
  taken = none_takes c.args.self.now _ c.args.word _ (λ map. subst IsMap c.requires.request map) c.requires.entry.read c.in_default.ensures;
  leads = search rules;
}

pub returns-then-self-bytes-clause-entry : goal.returns-then-self-bytes-clause-entry
returns-then-self-bytes-clause-entry g c = beyond_takes c.args.self.now (g.W.FrameWords.words c.args.words.now) c.args.word c.bytes.result c.in-Some.size
    (λ map. subst IsMap c.requires.request map) c.requires.entry.read c.in-Some.ensures c.bytes.ensures (omega (arith, c.if-self-bytes.true)) _

pub returns-clause-entry : goal.returns-clause-entry
returns-clause-entry g c = run_takes c.args.self.now (g.W.FrameWords.words c.args.words.now) c.args.word c.in-Some.size c.requires.entry.read c.in-Some.ensures
    (omega (arith, c.if-self-bytes.false, c.bytes.ensures)) _ _ tt
