use Rattle.nr_touch.proofs.IndexedPages.{present_as}
use Rattle.nr_touch.proofs.releases.reaching.index_after.Goals as goal

pub returns-clause-pages : goal.returns-clause-pages
returns-clause-pages c = λ start has stayed. c.in_ok-pages.ensures c.args.joined.now (c.in_ok-quiet.ensures.quiet start has stayed)
    (present_as c.args.joined.now _ _ _ c.deref.ensures.value c.deref-2.ensures.value c.in_ok-present.ensures.all)

pub returns-clause-listed : goal.returns-clause-listed
returns-clause-listed c = λ has. c.in_ok-quiet.ensures.listed has

pub returns-clause-room : goal.returns-clause-room
returns-clause-room c = λ has. c.in_ok-quiet.ensures.room has
