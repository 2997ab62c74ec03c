use Rattle.std.proofs.Common.{◌≡◌, true, false, ◌∙◌, ℕ, ◌+◌, ◌<◌, ◌≤◌, ◌⊎◌, List, sym, subst, arith, rules}
use Rattle.std.specs.Prelude.{slice_index}
use Rattle.vs_types.specs.Page.{bytes_of}
use Rattle.std.proofs.lemmas.Bool.{lt-ltb}
use Rattle.vs_range.specs.Planner.{IsMap, IsRunNext, IsPageWord, HasOther}
use Rattle.vs_range.proofs.Seeing.{alone_fewer, beyond_next, unmap_ends, unmap_next, stays_above, last_word}
use Rattle.vs_range.specs.Planner.{IsInRun}
use Rattle.vs_plan.specs.declared.plans.request.Request.{Request}
use Rattle.vs_range.proofs.Taking.{page_links, none_takes, beyond_takes, refused_takes, run_takes, lone_page}
use Rattle.vs_range.proofs.planner.RangePlanner.see_unmap.Goals as goal

pub returns-then-self-bytes-clause-next : goal.returns-then-self-bytes-clause-next
returns-then-self-bytes-clause-next g c = λ memory shown got.
    beyond_next memory c.args.self.now c.requires.entry.awaits c.requires.entry.phase shown (g.W.FrameWords.words c.args.words.now) got c.args.word
    c.bytes.result c.in-Some.size (λ map. subst IsMap c.requires.request map) c.requires.entry.read c.in-Some.ensures c.bytes.ensures
    (omega (arith, c.if-self-bytes.true))

pub returns-then-count-eq0-clause-step : goal.returns-then-count-eq0-clause-step
returns-then-count-eq0-clause-step g c = record {
  same = search rules;
  awaits = search rules;
  fewer = alone_fewer c.args.self.now.planner.level c.args.self.now.alone c.if-self.false;
  given = search rules;
  room = search rules;
}

pub removed-count-requires-clause-last : goal.removed-count-requires-clause-last
removed-count-requires-clause-last g c =
    last_word (g.W.FrameWords.words c.count_pages-pages.new.words) (g.W.FrameWords.words c.args.words.now) c.args.self.now.planner.level
    c.index_at-index.result c.count_pages-pages.result.count c.count_pages-pages.ensures.same c.count_pages-pages.ensures.some
    c.count_pages-pages.ensures.pages

pub returns-clause-next : goal.returns-clause-next
returns-clause-next g c = λ memory shown got.
    subst (IsRunNext memory c.args.self.now) (sym c.run_of_unmap.ensures)
    (unmap_next memory c.args.self.now c.requires.entry.awaits c.requires.entry.phase shown (g.W.FrameWords.words c.args.words.now) got c.in-Some.size
    c.args.word c.index_at-index.result c.removed-count.result c.requires.request c.in-Some.ensures
    c.index_at-index.ensures.is (omega (arith, c.if-count-eq0.false))
    (omega (arith, c.most_here.ensures.room, c.count_pages-pages.ensures.most, c.removed-count.ensures.few))
    (c.most_here.ensures.within c.removed-count.result (omega (arith, c.count_pages-pages.ensures.most, c.removed-count.ensures.few)))
    (λ k lt. c.count_pages-pages.ensures.pages k (omega (arith, lt, c.removed-count.ensures.few)))
    (λ low. subst (λ ws. HasOther ws c.index_at-index.result c.removed-count.result) c.count_pages-pages.ensures.same
    (c.removed-count.ensures.other
    (lt-ltb c.args.self.now.planner.level c.args.self.now.planner.stop
    (stays_above memory c.args.self.now c.requires.entry.awaits c.requires.entry.phase shown (g.W.FrameWords.words c.args.words.now) got c.args.self.now.base
    c.requires.request low))))
    (unmap_ends (λ n. IsPageWord c.args.self.now.planner.level (slice_index (g.W.FrameWords.words c.args.words.now) (c.index_at-index.result + n)) → ⊥)
    (g.W.FrameWords.words c.args.words.now) c.index_at-index.result c.removed-count.result c.count_pages-pages.result.count
    c.most_here.result c.args.self.now.bytes (bytes_of c.in-Some.size) c.removed-count.ensures.few c.removed-count.ensures.least
    c.count_pages-pages.ensures.most c.count_pages-pages.ensures.ends c.most_here.ensures.most
    (subst (λ (ws : List ℕ). c.removed-count.result < c.count_pages-pages.result.count → (i : ℕ) → i < 512
    → (i < c.index_at-index.result) ⊎ (c.index_at-index.result + c.count_pages-pages.result.count ≤ i) → slice_index ws i ≡ 0)
    c.count_pages-pages.ensures.same c.removed-count.ensures.alone)))

pub returns-in_default-clause-entry : goal.returns-in_default-clause-entry
returns-in_default-clause-entry g c = record {
  taken = none_takes c.args.self.now _ c.args.word _ (λ map. subst IsMap c.requires.request map) c.requires.entry.read c.in_default.ensures;
  leads = search rules;
}

pub returns-then-self-bytes-clause-entry : goal.returns-then-self-bytes-clause-entry
returns-then-self-bytes-clause-entry g c = beyond_takes c.args.self.now (g.W.FrameWords.words c.args.words.now) c.args.word c.bytes.result c.in-Some.size
    (λ map. subst IsMap c.requires.request map) c.requires.entry.read c.in-Some.ensures c.bytes.ensures (omega (arith, c.if-self-bytes.true)) _

pub returns-then-self-clause-entry : goal.returns-then-self-clause-entry
returns-then-self-clause-entry g c = record {
  taken = refused_takes c.args.self.now (g.W.FrameWords.words c.args.words.now) c.args.word c.in-Some.size _
      (λ map. subst IsMap c.requires.request map) c.in-Some.ensures
      (omega (arith, c.if-self-bytes.false, c.bytes.ensures))
      (λ run. let both : true ≡ false = sym c.if-self.true
      ∙ (subst (λ (q : Request). IsInRun c.args.self.now (g.W.FrameWords.words c.args.words.now) q) c.requires.request run).0 in cc);
  leads = search rules;
}

pub returns-then-count-eq0-clause-entry : goal.returns-then-count-eq0-clause-entry
returns-then-count-eq0-clause-entry g c = record {
  taken = refused_takes c.args.self.now (g.W.FrameWords.words c.args.words.now) c.args.word c.in-Some.size _
      (λ map. subst IsMap c.requires.request map) c.in-Some.ensures
      (omega (arith, c.if-self-bytes.false, c.bytes.ensures))
      (λ run. lone_page (g.W.FrameWords.words c.args.words.now) (g.W.FrameWords.words c.count_pages-pages.new.words) c.index_at-index.result _
      c.removed-count.result
      c.count_pages-pages.result.count c.count_pages-pages.ensures.same c.index_at-index.ensures.is (omega (arith, c.if-count-eq0.true))
      c.removed-count.ensures.least c.count_pages-pages.ensures.some c.removed-count.ensures.alone
      (subst (λ (q : Request). IsInRun c.args.self.now (g.W.FrameWords.words c.args.words.now) q) c.requires.request run).1);
  leads = page_links c.args.self.now (g.W.FrameWords.words c.args.words.now) c.args.word c.in-Some.size c.requires.entry.read c.in-Some.ensures
      (record c.args.self.now { alone = true }) _;
}

pub returns-clause-entry : goal.returns-clause-entry
returns-clause-entry g c = run_takes c.args.self.now (g.W.FrameWords.words c.args.words.now) c.args.word c.in-Some.size c.requires.entry.read c.in-Some.ensures
    (omega (arith, c.if-self-bytes.false, c.bytes.ensures)) _ _ tt
