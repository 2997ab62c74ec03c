use Rattle.std.proofs.Common.{sym, subst, arith, rules}
use Rattle.vs_types.specs.Page.{bytes_of}
use Rattle.vs_range.specs.Planner.{IsMap, IsRunNext}
use Rattle.vs_range.proofs.Seeing.{beyond_next, ends_here, protect_next}
use Rattle.vs_range.specs.Planner.{IsInRun}
use Rattle.vs_plan.specs.declared.plans.request.Request.{Request}
use Rattle.vs_range.proofs.Taking.{none_takes, beyond_takes, refused_takes, run_takes}
use Rattle.vs_range.proofs.planner.RangePlanner.see_protect.Goals as goal

pub returns-then-self-bytes-clause-next : goal.returns-then-self-bytes-clause-next
returns-then-self-bytes-clause-next g c = λ memory shown got.
    beyond_next memory c.args.self.now c.requires.entry.awaits c.requires.entry.phase shown (g.W.FrameWords.words c.args.words.now) got c.args.word
    c.bytes.result c.in-Some.size (λ map. subst IsMap c.requires.request map) c.requires.entry.read c.in-Some.ensures c.bytes.ensures
    (omega (arith, c.if-self-bytes.true))

pub returns-clause-next : goal.returns-clause-next
returns-clause-next g c = λ memory shown got.
    subst (IsRunNext memory c.args.self.now) (sym c.run_of_protect.ensures)
    (protect_next memory c.args.self.now c.requires.entry.awaits c.requires.entry.phase shown (g.W.FrameWords.words c.args.words.now) got c.in-Some.size
    c.args.rights c.args.word c.index_at-index.result c.count_pages-found.result.count c.requires.request c.in-Some.ensures
    (c.permits.ensures.all c.if-not-permits.false) c.index_at-index.ensures.is c.count_pages-found.ensures.some
    (omega (arith, c.most_here.ensures.room, c.count_pages-found.ensures.most))
    (c.most_here.ensures.within c.count_pages-found.result.count c.count_pages-found.ensures.most) c.count_pages-found.ensures.pages
    (ends_here c.index_at-index.result c.count_pages-found.result.count c.most_here.result c.args.self.now.bytes (bytes_of c.in-Some.size)
    c.count_pages-found.ensures.most c.count_pages-found.ensures.ends c.most_here.ensures.most))

pub returns-in_default-clause-entry : goal.returns-in_default-clause-entry
returns-in_default-clause-entry g c = record {
  taken = none_takes c.args.self.now _ c.args.word _ (λ map. subst IsMap c.requires.request map) c.requires.entry.read c.in_default.ensures;
  leads = search rules;
}

pub returns-then-self-bytes-clause-entry : goal.returns-then-self-bytes-clause-entry
returns-then-self-bytes-clause-entry g c = beyond_takes c.args.self.now (g.W.FrameWords.words c.args.words.now) c.args.word c.bytes.result c.in-Some.size
    (λ map. subst IsMap c.requires.request map) c.requires.entry.read c.in-Some.ensures c.bytes.ensures (omega (arith, c.if-self-bytes.true)) _

pub returns-then-not-permits-clause-entry : goal.returns-then-not-permits-clause-entry
returns-then-not-permits-clause-entry g c = record {
  taken = refused_takes c.args.self.now (g.W.FrameWords.words c.args.words.now) c.args.word c.in-Some.size _
      (λ map. subst IsMap c.requires.request map) c.in-Some.ensures
      (omega (arith, c.if-self-bytes.false, c.bytes.ensures))
      (λ run. c.permits.ensures.less c.if-not-permits.true
      (subst (λ (q : Request). IsInRun c.args.self.now (g.W.FrameWords.words c.args.words.now) q) c.requires.request run));
  leads = search rules;
}

pub returns-clause-entry : goal.returns-clause-entry
returns-clause-entry g c = run_takes c.args.self.now (g.W.FrameWords.words c.args.words.now) c.args.word c.in-Some.size c.requires.entry.read c.in-Some.ensures
    (omega (arith, c.if-self-bytes.false, c.bytes.ensures)) _ _ tt
