use Rattle.std.proofs.Common.{◌≡◌, ℕ, List, Contains, length, ap, sym, ◌∙◌, subst}
use Rattle.vs_types.specs.declared.addresses.page.Page.{Page}
use Rattle.nr_touch.specs.Tails.{AreSound}
use Rattle.nr_touch.specs.inside.Levels.{left_in, AreLevels}
use Rattle.nr_touch.specs.inside.Reached.{AreSeen}
use Rattle.nr_touch.specs.declared.changes.change.PlacedChange.{PlacedChange}
use Rattle.nr_touch.specs.declared.releases.seen.Seen.{Seen}
use Rattle.nr_touch.specs.declared.touches.joined.Joined.{Joined}
use Rattle.nr_touch.specs.declared.touches.tail.Left.{Left}
use Rattle.nr_touch.proofs.cuts.Levels.{ladder, levels_permuted}
use Rattle.nr_touch.proofs.cuts.Tails.{of_run}
use Rattle.nr_touch.proofs.SeenPages.{roomy_pages}
use Rattle.nr_touch.proofs.Walked.{permuted}
use Rattle.nr_touch.proofs.releases.reaching.reached.Goals as goal

pub one_level-requires : goal.one_level-requires
one_level-requires c = subst (λ (xs : List Left). AreSound xs) (sym c.deref.ensures.value) c.requires.sound

pub seen_of-requires-clause-built : goal.seen_of-requires-clause-built
seen_of-requires-clause-built c = record {
  own = c.in_ok-history.ensures.columns;
  earlier = ladder c.deref.result.now c.in_ok-earlier.earlier.items c.in_ok-earlier.ensures;
  is_space = c.pages_are_a_space.ensures;
}

pub address_of-requires-clause-built : goal.address_of-requires-clause-built
address_of-requires-clause-built c = record {
  own = c.in_ok-history.ensures.columns;
  earlier = ladder c.deref.result.now c.in_ok-earlier.earlier.items c.in_ok-earlier.ensures;
  is_space = c.pages_are_a_space.ensures;
}

pub seen_of-requires-clause-roomy : goal.seen_of-requires-clause-roomy
seen_of-requires-clause-roomy c = λ page has.
    roomy_pages c.pages.ensures.apart page
    (subst (λ (xs : List Page). Contains xs page) (c.deref-2.ensures.value ∙ c.in_ok-present.ensures.lists) has)

-- the same pages, listed elsewhere
same_seen : (joined : Joined) (earlier : List PlacedChange) (present all : List Page) (seen listed : List Seen) → present ≡ all → listed ≡ seen
    → AreSeen joined earlier present seen → AreSeen joined earlier all listed
same_seen joined earlier present all seen listed same is are =
    subst (λ (xs : List Page). AreSeen joined earlier xs listed) same (subst (AreSeen joined earlier present) (sym is) are)

pub address_of-requires-clause-seen : goal.address_of-requires-clause-seen
address_of-requires-clause-seen c = same_seen _ _ _ _ _ _ (c.deref-2.ensures.value ∙ c.in_ok-present.ensures.lists) c.deref-3.ensures.value c.in_ok-seen.ensures

pub returns : goal.returns
returns c = λ run of_tail goes_on clean.
    let start = c.args.start.space in
    let segment = c.args.segment.now in
    let columns = c.in_ok-earlier.earlier.items in
    let levels = subst (λ (xs : List Left). AreLevels xs columns) c.deref.ensures.value c.in_ok-earlier.ensures in
    c.address_of.ensures (record {
      before = run;
      start = start;
      segment = segment;
      goes_on = goes_on;
      own = permuted start segment c.in_ok-changes.changes.items c.in_ok-history.history.changes.items c.in_ok-history.ensures.same
          (c.in_ok-changes.ensures.changes clean);
      earlier = of_run run c.args.tail.now levels.placed (left_in columns) of_tail levels.are (levels_permuted levels.placed columns levels.cover);
      space = c.in_ok-changes.ensures.space clean;
      places = ap length c.log.ensures.reads;
    })
