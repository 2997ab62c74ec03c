use Rattle.std.proofs.Common.{◌≡◌, Option, Some, IfSome, subst}
use Rattle.nr_touch.specs.Tails.{HasNoEnd, IsLeft}
use Rattle.nr_touch.specs.inside.Indexed.{HasPages}
use Rattle.nr_touch.specs.inside.Listed.{AreListed, HasRoom}
use Rattle.nr_touch.specs.declared.releases.lingering.Indexes.{Indexes}
use Rattle.nr_touch.proofs.ListedPages.{with_own}
use Rattle.nr_touch.proofs.releases.lingering.indexes_after.Goals as goal

-- what holds of the indexes that there are
of_some : (P : Indexes → Type 0) (index : Option Indexes) (indexes : Indexes) → index ≡ Some indexes → IfSome index P → P indexes
of_some P index indexes is has = subst (λ (o : Option Indexes). IfSome o P) is has

pub returns-then-is_worn-clause-pages : goal.returns-then-is_worn-clause-pages
returns-then-is_worn-clause-pages c = λ space has.
    rw c.in_ok-fresh.ensures.pages (of_some (λ i. HasPages i.pages space) c.args.index c.in-Some.indexes c.in-Some.is has)

pub returns-clause-pages : goal.returns-clause-pages
returns-clause-pages c = λ space has. of_some (λ i. HasPages i.pages space) c.args.index c.in-Some.indexes c.in-Some.is has

pub returns-clause-room : goal.returns-clause-room
returns-clause-room c = λ room.
    c.in_ok-note_all.ensures.room (of_some (λ i. HasRoom i.lingering) c.args.index c.in-Some.indexes c.in-Some.is room)

pub returns-clause-listed : goal.returns-clause-listed
returns-clause-listed c = λ old keep has.
    let indexes = c.in-Some.indexes in
    let own = c.args.own.now in
    let was = of_some (λ i. AreListed (λ address page. IsLeft old address page × HasNoEnd own address page) i.lingering i.gone) c.args.index indexes
    c.in-Some.is has in
    with_own old own c.args.changes.now indexes.lingering c.note_all.new.self indexes.gone keep was (c.in_ok-note_all.ensures.others indexes.gone)
    (c.in_ok-note_all.ensures.own indexes.gone was.within)
