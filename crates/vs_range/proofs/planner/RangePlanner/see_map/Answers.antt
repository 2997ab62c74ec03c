use Rattle.std.proofs.Common.{◌≡◌, ◌+◌, ◌*◌, ◌^◌, ◌<◌, ◌⊎◌, min, sym, ap, subst, arith, rules}
use Rattle.vs_types.specs.Page.{bytes_of}
use Rattle.vs_plan.specs.Request.{lowest_of}
use Rattle.vs_range.specs.Planner.{IsRunNext}
use Rattle.vs_range.proofs.Seeing.{map_next, map_ends}
use Rattle.vs_range.proofs.Taking.{none_maps, run_maps}
use Rattle.vs_range.proofs.planner.RangePlanner.see_map.Goals as goal

pub returns-clause-next : goal.returns-clause-next
returns-clause-next g c = λ memory shown got.
    subst (IsRunNext memory c.args.self.now) (sym c.run_of_map.ensures)
    (map_next memory c.args.self.now c.requires.entry.awaits c.requires.entry.phase shown (g.W.FrameWords.words c.args.words.now) got c.args.page c.args.bits
    c.args.word c.index_at-index.result c.count_alike-alike.result.count c.most_mapped-most.result c.requires.request
    (c.most_mapped-most.ensures.room (omega (arith, c.if-most-eq0.false))) c.index_at-index.ensures.is c.count_alike-alike.ensures.some
    c.count_alike-alike.ensures.most c.count_alike-alike.ensures.alike
    (map_ends c.index_at-index.result c.count_alike-alike.result.count c.most_mapped-most.result c.args.self.now.bytes (bytes_of c.args.page.size)
    c.args.page.phys (2 ^ min c.args.self.now.planner.target.phys_bits 51) c.count_alike-alike.ensures.most c.count_alike-alike.ensures.ends
    (subst (λ i. (i + c.most_mapped-most.result ≡ 512)
    ⊎ ((c.args.self.now.bytes < (c.most_mapped-most.result + 1) * bytes_of c.args.page.size)
    ⊎ (2 ^ min c.args.self.now.planner.target.phys_bits 51 < c.args.page.phys + (c.most_mapped-most.result + 1) * bytes_of c.args.page.size)))
    (sym c.index_at-index.ensures.is) (c.most_mapped-most.ensures.most (omega (arith, c.if-most-eq0.false))))))

pub returns-then-most-eq0-clause-entry : goal.returns-then-most-eq0-clause-entry
returns-then-most-eq0-clause-entry g c = record {
  taken = none_maps c.args.self.now (g.W.FrameWords.words c.args.words.now) c.args.page c.args.bits c.args.word _
      c.requires.request c.requires.entry.read (c.most_mapped-most.ensures.none (omega (arith, c.if-most-eq0.true)));
  leads = search rules;
}

pub returns-clause-entry : goal.returns-clause-entry
returns-clause-entry g c = record {
  taken = run_maps c.args.self.now (g.W.FrameWords.words c.args.words.now) c.args.page c.args.bits _ c.requires.request tt;
  leads = λ next own phase low link within.
      let room = c.most_mapped-most.ensures.room (omega (arith, c.if-most-eq0.false)) in
      absurd (omega (arith, low, room.level, ap lowest_of c.requires.request));
}
