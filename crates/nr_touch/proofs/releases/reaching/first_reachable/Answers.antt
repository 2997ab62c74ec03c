use Rattle.std.proofs.Common.{ℕ, List, Contains, subst, arith}
use Rattle.vs_types.specs.declared.addresses.page.Page.{Page}
use Rattle.vs_types.proofs.Spaces.{holds_listed}
use Rattle.nr_touch.specs.Tails.{IsLeft}
use Rattle.nr_touch.specs.inside.Listed.{AreListed}
use Rattle.nr_touch.specs.inside.Reached.{IsOpen}
use Rattle.nr_touch.proofs.FirstWrong.{none_at_all}
use Rattle.nr_touch.proofs.IndexedPages.{present_as}
use Rattle.nr_touch.proofs.SeenPages.{roomy_pages}
use Rattle.nr_touch.proofs.cuts.Listed.{if_so, listed_open}
use Rattle.nr_touch.proofs.releases.reaching.first_reachable.Goals as goal

pub returns-then-many-eq0-clause-finds : goal.returns-then-many-eq0-clause-finds
returns-then-many-eq0-clause-finds c = λ b has listed stayed. none_at_all b.before b.start b.segment c.args.releases.now (omega (arith, c.if-many-eq0.true))

pub returns-then-many-eq0-clause-listed : goal.returns-then-many-eq0-clause-listed
returns-then-many-eq0-clause-listed c = λ b listed.
    let left = c.args.left.now in
    if_so (λ i. AreListed (IsLeft left) i.lingering i.gone) (λ i. (event : ℕ) × AreListed (IsOpen b event) i.lingering i.gone) c.in_ok-index.index
    (λ i has. (0, listed_open left b c.requires.levels 0 i.lingering i.gone has)) (c.in_ok-index.ensures.listed listed)

pub returns-then-many-eq0-clause-room : goal.returns-then-many-eq0-clause-room
returns-then-many-eq0-clause-room c = c.in_ok-index.ensures.room c.requires.room

pub of-requires-clause-roomy : goal.of-requires-clause-roomy
of-requires-clause-roomy c = λ page has.
    let is_space = c.requires.built.is_space in
    roomy_pages is_space page
    ((holds_listed is_space page).1 (c.in_ok-present.ensures.only page (subst (λ (xs : List Page). Contains xs page) c.deref-2.ensures.value has)))

pub first_wrong-requires-clause-met : goal.first_wrong-requires-clause-met
first_wrong-requires-clause-met c = record {
  present = c.deref-2.result.now;
  all = present_as c.args.joined.now _ _ _ c.deref.ensures.value c.deref-2.ensures.value c.in_ok-present.ensures.all;
  seen = c.in_ok-changed.ensures.seen;
  rows = c.in_ok-changed.ensures.rows;
}

pub first_wrong-requires-clause-room : goal.first_wrong-requires-clause-room
first_wrong-requires-clause-room c = c.in_ok-begun.ensures.room c.requires.room

pub returns-clause-finds : goal.returns-clause-finds
returns-clause-finds c = λ b has listed stayed.
    let begun = c.in_ok-begun.begun in
    c.in_ok-found.ensures.finds b (c.in_ok-begun.ensures.quiet b.start has stayed)
    (listed_open c.args.left.now b c.requires.levels 0 begun.lingering begun.gone (c.in_ok-begun.ensures.listed listed))

pub returns-clause-index : goal.returns-clause-index
returns-clause-index c = λ start has stayed. c.in_ok-pages.ensures c.args.joined.now (c.in_ok-begun.ensures.quiet start has stayed)
    (present_as c.args.joined.now _ _ _ c.deref.ensures.value c.deref-3.ensures.value c.in_ok-present.ensures.all)

pub returns-clause-listed : goal.returns-clause-listed
returns-clause-listed c = λ b listed.
    let begun = c.in_ok-begun.begun in
    c.in_ok-found.ensures.listed b (listed_open c.args.left.now b c.requires.levels 0 begun.lingering begun.gone (c.in_ok-begun.ensures.listed listed))

pub returns-clause-room : goal.returns-clause-room
returns-clause-room c = c.in_ok-begun.ensures.room c.requires.room
