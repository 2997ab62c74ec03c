use Rattle.std.proofs.Common.{◌≡◌, ◌∙◌, None, Some, ap}
use Rattle.vs_types.specs.Space.{pages}
use Rattle.vs_walk.specs.Traversal.{traversal, found, walk_fault}
use Rattle.vs_walk.proofs.LawsOfDumps.{dump_is_whole}
use Rattle.nr_dump.specs.declared.comparison.Comparison.{Comparison}
use Rattle.nr_dump.specs.inside.Comparing.{IsCompared}
use Rattle.nr_dump.proofs.Taking.{compared}
use Rattle.nr_dump.proofs.Fitting.{AreReached, reached_are_held, none_are_stray, least_stray, moved, unmarked, fits_by_pages, fits_faultless, stray_first}
use Rattle.nr_dump.proofs.Fitting.{difference_first}
use Rattle.nr_dump.proofs.checking.check.Goals as goal

pub least_outside-requires : goal.least_outside-requires
least_outside-requires c = reached_are_held c.depth.result c.args.dump.now.frames c.root.result c.in-Ok.reached c.in-Ok.ensures.faultless
    c.in-Ok.ensures.reached

pub returns-in-Some-clause-first : goal.returns-in-Some-clause-first
returns-in-Some-clause-first c =
    let frames = c.args.dump.now.frames in
    let way = moved (λ depth root. walk_fault depth frames root ≡ None) c.depth.ensures c.root.ensures c.in-Ok.ensures.faultless in
    let are = moved (λ depth root. AreReached depth frames root c.in-Ok.reached) c.depth.ensures c.root.ensures c.in-Ok.ensures.reached in
    stray_first c.args.space.now.depth c.args.dump.now c.args.space.now.space c.in-Some.number way
    (least_stray c.args.space.now.depth frames c.args.dump.now.root c.in-Ok.reached c.in-Some.number are c.in-Some.ensures.some)

pub returns-in-None-clause-fits : goal.returns-in-None-clause-fits
returns-in-None-clause-fits c =
    let frames = c.args.dump.now.frames in
    let way = moved (λ depth root. walk_fault depth frames root ≡ None) c.depth.ensures c.root.ensures c.in-Ok.ensures.faultless in
    let are = moved (λ depth root. AreReached depth frames root c.in-Ok.reached) c.depth.ensures c.root.ensures c.in-Ok.ensures.reached in
    let same = compared (pages c.args.space.now.space) c.new-comparison.result.pages c.traverse.new.visitor.pages
    c.new-comparison.result.difference c.traverse.new.visitor.difference
    (found (traversal c.depth.result frames c.root.result)) None (unmarked c.iter.ensures.apart)
    (ap (λ (x : Comparison). x.pages) c.new-comparison.ensures ∙ c.iter.ensures.lists) (ap (λ (x : Comparison). x.difference) c.new-comparison.ensures)
    c.in-Ok.ensures.pages c.in-None.ensures in
    fits_by_pages c.args.space.now.depth c.args.dump.now c.args.space.now.space (dump_is_whole c.args.dump.now c.in_default.ensures.is_dump)
    way (none_are_stray c.args.space.now.depth c.args.dump.now c.in-Ok.reached are c.in_default.ensures.none)
    (moved (λ depth root. IsCompared (found (traversal depth frames root)) (pages c.args.space.now.space) None) c.depth.ensures c.root.ensures same)

pub returns-in-None-clause-faultless : goal.returns-in-None-clause-faultless
returns-in-None-clause-faultless c =
    fits_faultless c.args.space.now.depth c.args.dump.now c.args.space.now.space (dump_is_whole c.args.dump.now c.in_default.ensures.is_dump)
    (returns-in-None-clause-fits c)

pub returns-clause-first : goal.returns-clause-first
returns-clause-first c =
    let frames = c.args.dump.now.frames in
    let depth = c.args.space.now.depth in
    let way = moved (λ depth root. walk_fault depth frames root ≡ None) c.depth.ensures c.root.ensures c.in-Ok.ensures.faultless in
    let are = moved (λ depth root. AreReached depth frames root c.in-Ok.reached) c.depth.ensures c.root.ensures c.in-Ok.ensures.reached in
    let same = compared (pages c.args.space.now.space) c.new-comparison.result.pages c.traverse.new.visitor.pages
    c.new-comparison.result.difference c.traverse.new.visitor.difference
    (found (traversal c.depth.result frames c.root.result)) (Some c.in-Some-difference.address) (unmarked c.iter.ensures.apart)
    (ap (λ (x : Comparison). x.pages) c.new-comparison.ensures ∙ c.iter.ensures.lists) (ap (λ (x : Comparison). x.difference) c.new-comparison.ensures)
    c.in-Ok.ensures.pages c.in-Some-difference.ensures in
    difference_first depth c.args.dump.now c.args.space.now.space c.in-Some-difference.address (dump_is_whole c.args.dump.now c.in_default.ensures.is_dump)
    c.iter.ensures.apart way (none_are_stray depth c.args.dump.now c.in-Ok.reached are c.in_default.ensures.none)
    (moved (λ depth root. IsCompared (found (traversal depth frames root)) (pages c.args.space.now.space) (Some c.in-Some-difference.address)) c.depth.ensures
    c.root.ensures same)
