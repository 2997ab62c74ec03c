use Rattle.std.proofs.Common.{◌≡◌, map, ap, ◌∙◌}
use Rattle.vs_plain.specs.inside.Listed.{page_of}
use Rattle.vs_plain.proofs.Listed.{pages_listed, bases_rise}
use Rattle.vs_plain.proofs.page_map.PageMap.iter.Goals as goal

pub returns-clause-lists : goal.returns-clause-lists
returns-clause-lists c =
    rw (← c.self.view_is) (c.new.ensures ∙ ap (map page_of) c.iter.ensures.rest ∙ pages_listed c.self.inside.by_base.entries c.self.invariant)

pub returns-clause-rising : goal.returns-clause-rising
returns-clause-rising c =
    let all : c.new.result ≡ map page_of c.self.inside.by_base.entries = c.new.ensures ∙ ap (map page_of) c.iter.ensures.rest in
    rw all (bases_rise c.self.inside.by_base.entries c.self.invariant)
