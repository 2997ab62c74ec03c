use Rattle.std.proofs.Common.{◌≡◌, ℕ, ◌<◌, List, ◌++◌, Option, IfSome, length, map, refl, sym, ap, ◌∙◌, subst, arith}
use Rattle.std.specs.List.Sorted.{IsPermutation}
use Rattle.std.proofs.lemmas.List.Sorted.{Contains-permutation}
use Rattle.vs_types.specs.Space.{Space, Holds}
use Rattle.nr_trace.specs.Orders.{space_from}
use Rattle.nr_trace.specs.Recording.{Recording}
use Rattle.nr_trace.specs.Run.{Run}
use Rattle.vs_types.specs.declared.addresses.page.Page.{Page}
use Rattle.vs_plain.specs.Plain.{BoundedSpace}
use Rattle.vs_types.specs.declared.addresses.depth.Depth.{Depth}
use Rattle.nr_trace.proofs.Orderly.{clean_is_orderly}
use Rattle.nr_touch.specs.declared.changes.change.Change.{Change}
use Rattle.nr_touch.specs.declared.changes.change.PlacedChange.{PlacedChange}
use Rattle.nr_touch.specs.inside.Changes.{AreChanges}
use Rattle.nr_touch.specs.inside.Joined.{Behind}
use Rattle.nr_touch.specs.inside.Levels.{left_in, AreLevels}
use Rattle.nr_touch.specs.Tails.{GoesOn, HasIndexes, IsLeft, IsTailOf}
use Rattle.nr_touch.specs.inside.Indexed.{HasOwn, HasPages}
use Rattle.nr_touch.specs.inside.Lefts.{left_of, KeepLooks}
use Rattle.nr_touch.specs.inside.Listed.{AreListed}
use Rattle.nr_touch.specs.declared.changes.history.History.{History}
use Rattle.nr_touch.specs.declared.touches.tail.Left.{Left}
use Rattle.nr_touch.specs.declared.touches.tail.Tail.{Tail}
use Rattle.nr_touch.specs.inside.Undo.{LeadsTo}
use Rattle.nr_touch.proofs.IndexedPages.{still_there}
use Rattle.nr_touch.proofs.cuts.Levels.{ladder, levels_permuted}
use Rattle.nr_touch.proofs.cuts.Listed.{if_both, indexes_left, listed_of, pages_of}
use Rattle.nr_touch.proofs.cuts.Tails.{index_of_tail, of_run, tail_with}
use Rattle.nr_touch.proofs.cuts.Thinned.{sound_lefts}
use Rattle.nr_touch.proofs.Sighted.{map_contains}
use Rattle.nr_touch.proofs.Undone.{same_bounded}
use Rattle.nr_touch.proofs.Walked.{permuted}
use Rattle.nr_touch.proofs.touches.stale.follow.Goals as goal

-- the changes that are listed lead from the start to the space that the replay has reached
led : (depth own : Depth) (start : Space) (changes : List PlacedChange) (listed : List Change) (now : Space) → own ≡ depth
    → listed ≡ map (λ (each : PlacedChange). each.change) changes
    → LeadsTo depth start (map (λ (each : PlacedChange). each.change) changes) now → LeadsTo own start listed now
led depth own start changes listed now same are leads =
    subst (λ d. LeadsTo d start listed now) (sym same) (subst (λ (cs : List Change). LeadsTo depth start cs now) (sym are) leads)

-- the columns of what was left
pub excuses_of-requires : goal.excuses_of-requires
excuses_of-requires c = record {
  own = c.in_ok-history.ensures.columns;
  earlier = ladder c.args.tail.changes.items c.args.tail.levels.items c.requires.sound.1;
  is_space = c.pages_are_a_space.ensures;
}

pub first_reachable-requires-clause-built : goal.first_reachable-requires-clause-built
first_reachable-requires-clause-built c = record {
  own = c.in_ok-history.ensures.columns;
  earlier = ladder c.args.tail.changes.items c.args.tail.levels.items c.requires.sound.1;
  is_space = c.pages_are_a_space.ensures;
}

pub first_reachable-requires-clause-levels : goal.first_reachable-requires-clause-levels
first_reachable-requires-clause-levels c = rw c.deref-4.ensures.value c.requires.sound.1

pub first_reachable-requires-clause-sound : goal.first_reachable-requires-clause-sound
first_reachable-requires-clause-sound c = rw c.deref-4.ensures.value c.requires.sound.0

pub first_reachable-requires-clause-room : goal.first_reachable-requires-clause-room
first_reachable-requires-clause-room c = c.requires.sound.2

pub indexes_after-requires-clause-changes : goal.indexes_after-requires-clause-changes
indexes_after-requires-clause-changes c = rw c.deref-6.ensures.value c.in_ok-changes.ensures.sound.each

pub indexes_after-requires-clause-own : goal.indexes_after-requires-clause-own
indexes_after-requires-clause-own c =
    rw (c.deref-7.ensures.value, c.in_ok-lefts.ensures, c.deref-2.ensures.value)
    (sound_lefts c.in_ok-own.own.items c.in_ok-own.ensures.numbered)

pub left_after-requires-clause-own : goal.left_after-requires-clause-own
left_after-requires-clause-own c = rw (c.deref-5.ensures.value, c.in_ok-lefts.ensures, c.deref-2.ensures.value)
    (sound_lefts c.in_ok-own.own.items c.in_ok-own.ensures.numbered)

pub undo_all-requires : goal.undo_all-requires
undo_all-requires c =
    let listed = c.deref-8.ensures.value ∙ c.in_ok-done.ensures ∙ ap (map (λ (each : PlacedChange). each.change)) c.deref.ensures.value in (
      c.args.start.space,
      led c.args.start.depth c.in_ok-own.space.depth c.args.start.space c.in_ok-own.own.items c.deref-8.result.now
          c.in_ok-own.space.space c.in_ok-own.ensures.depth listed c.in_ok-own.ensures.leads,
    )

-- a page at whose base no change begins was there at the start
stayed : (depth : Depth) (start space : Space) (own sorted : List PlacedChange) → IsPermutation own sorted
    → LeadsTo depth start (map (λ (each : PlacedChange). each.change) own) space → (page : Page)
    → Holds space page → (HasOwn sorted page → ⊥) → Holds start page
stayed depth start space own sorted same leads page holds none =
    still_there depth start (map (λ (each : PlacedChange). each.change) own) space leads page
    (λ change has begins.
    let (placed, listed, is) = map_contains (λ (each : PlacedChange). each.change) own change has in
    none (placed, Contains-permutation own sorted placed same listed, ap (λ (one : Change). one.page.base) is ∙ begins))
    holds

-- the columns are those of a segment that goes on behind a run, and those of what the run left
abbrev behind : (run : Option Run) {start : Space} {segment : Recording} {own : List PlacedChange} {places : ℕ} (tail : Tail) (history : History)
    (space : BoundedSpace) → IsTailOf run tail → GoesOn run segment start → AreChanges start segment own → IsPermutation own history.changes.items
    → AreLevels tail.changes.items tail.levels.items → space.space ≡ space_from start segment segment.log → places ≡ length segment.log
    → Behind (record { history = history; earlier = tail.levels; space = space; places = places })
behind run {start} {segment} {own} tail history space of_tail goes_on are same left whole many = record {
  before = run;
  start = start;
  segment = segment;
  goes_on = goes_on;
  own = permuted start segment own history.changes.items same are;
  earlier = of_run run tail left.placed (left_in tail.levels.items) of_tail left.are (levels_permuted left.placed tail.levels.items left.cover);
  space = whole;
  places = many;
}

pub returns-clause-finds : goal.returns-clause-finds
returns-clause-finds c = λ run of_tail goes_on clean. c.in_ok-stale.ensures.finds
    (behind run c.args.tail c.in_ok-history.history c.in_ok-own.space of_tail goes_on (c.in_ok-own.ensures.changes clean) c.in_ok-history.ensures.same
    c.requires.sound.1 (c.in_ok-own.ensures.space clean) (ap length c.log.ensures.reads))

pub returns-clause-excuses : goal.returns-clause-excuses
returns-clause-excuses c = λ run of_tail goes_on clean. c.in_ok-stale.ensures.excuses
    (behind run c.args.tail c.in_ok-history.history c.in_ok-own.space of_tail goes_on (c.in_ok-own.ensures.changes clean) c.in_ok-history.ensures.same
    c.requires.sound.1 (c.in_ok-own.ensures.space clean) (ap length c.log.ensures.reads))

pub beside_if-requires : goal.beside_if-requires
beside_if-requires c = rw c.deref-3.ensures.value c.in_ok-own.ensures.numbered

pub returns-clause-reaches : goal.returns-clause-reaches
returns-clause-reaches c = λ run of_tail goes_on clean. c.in_ok-reachable.ensures.finds
    (behind run c.args.tail c.in_ok-history.history c.in_ok-own.space of_tail goes_on (c.in_ok-own.ensures.changes clean) c.in_ok-history.ensures.same
    c.requires.sound.1 (c.in_ok-own.ensures.space clean) (ap length c.log.ensures.reads))
    (pages_of c.args.tail c.args.start.space (index_of_tail run c.args.start.space c.args.segment.now c.args.tail goes_on of_tail))
    (listed_of c.args.tail c.args.start.space c.deref-4.result.now c.deref-4.ensures.value
    (index_of_tail run c.args.start.space c.args.segment.now c.args.tail goes_on of_tail))
    (stayed c.args.start.depth c.args.start.space c.in_ok-own.space.space c.in_ok-own.own.items c.in_ok-history.history.changes.items
    c.in_ok-history.ensures.same c.in_ok-own.ensures.leads)

pub returns-clause-tail : goal.returns-clause-tail
returns-clause-tail c = λ run of_tail goes_on clean.
    let start = c.args.start.space in
    let segment = c.args.segment.now in
    let tail = c.args.tail in
    let own = c.in_ok-own.own.items in
    let found : Tail =
    record { changes = c.in_ok-changes.changes; levels = c.in_ok-changes.levels; index = c.in_ok-index.index; kept = c.in_ok-changes.kept } in
    let few : length segment.events < 4294967295 = let most = c.log.ensures.in_range.few_events in omega (arith, most) in
    let rises = c.in_ok-own.ensures.by_place in
    let are = c.in_ok-own.ensures.changes clean in
    let lefts : c.deref-5.result.now ≡ map left_of own = c.deref-5.ensures.value ∙ c.in_ok-lefts.ensures ∙ ap (map left_of) c.deref-2.ensures.value in
    let then : c.deref-7.result.now ≡ map left_of own = c.deref-7.ensures.value ∙ c.in_ok-lefts.ensures ∙ ap (map left_of) c.deref-2.ensures.value in
    let looks = subst (λ (xs : List Left). KeepLooks (tail.changes.items ++ xs) found.changes.items) lefts c.in_ok-changes.ensures.looks in
    let has = index_of_tail run start segment tail goes_on of_tail in
    let b = behind run tail c.in_ok-history.history c.in_ok-own.space of_tail goes_on are c.in_ok-history.ensures.same c.requires.sound.1
    (c.in_ok-own.ensures.space clean) (ap length c.log.ensures.reads) in
    let open_so = c.in_ok-reachable.ensures.listed b (listed_of tail start c.deref-4.result.now c.deref-4.ensures.value has) in
    let left_so = indexes_left tail.changes.items b c.requires.sound.1 own are rises few c.deref-7.result.now then c.in_ok-reachable.index open_so in
    let kept = subst (λ (xs : List Left). KeepLooks (tail.changes.items ++ c.deref-7.result.now) xs) (sym c.deref-6.ensures.value)
    (subst (λ (xs : List Left). KeepLooks (tail.changes.items ++ xs) found.changes.items) (sym then) looks) in
    let listed = subst (λ (xs : List Left). IfSome c.in_ok-index.index (λ i. AreListed (IsLeft xs) i.lingering i.gone)) c.deref-6.ensures.value
    (c.in_ok-index.ensures.listed tail.changes.items kept left_so) in
    let pages = c.in_ok-index.ensures.pages c.in_ok-own.space.space (c.in_ok-reachable.ensures.index start (pages_of tail start has)
    (stayed c.args.start.depth start c.in_ok-own.space.space own c.in_ok-history.history.changes.items c.in_ok-history.ensures.same
    c.in_ok-own.ensures.leads)) in
    let indexed = subst (HasIndexes found) (c.in_ok-own.ensures.space clean)
    (if_both (λ i. HasPages i.pages c.in_ok-own.space.space) (λ i. AreListed (IsLeft found.changes.items) i.lingering i.gone)
    c.in_ok-index.index pages listed) in
    tail_with start segment (clean_is_orderly segment clean) own are rises few run tail found indexed of_tail goes_on looks

pub returns-clause-start : goal.returns-clause-start
returns-clause-start c =
    let start = c.args.start in
    let space = c.in_ok-own.space in
    let listed = c.deref-8.ensures.value ∙ c.in_ok-done.ensures ∙ ap (map (λ (each : PlacedChange). each.change)) c.deref.ensures.value in
    c.in_ok-start.ensures start.space (led start.depth space.depth start.space c.in_ok-own.own.items c.deref-8.result.now space.space
    c.in_ok-own.ensures.depth listed c.in_ok-own.ensures.leads)
    ∙ same_bounded (record space { space = start.space }) start c.in_ok-own.ensures.depth c.in_ok-own.ensures.limit refl

pub returns-clause-sound : goal.returns-clause-sound
returns-clause-sound c =
    (c.in_ok-changes.ensures.sound, c.in_ok-changes.ensures.levels, c.in_ok-index.ensures.room c.in_ok-reachable.ensures.room)

pub returns-clause-changes : goal.returns-clause-changes
returns-clause-changes c = c.in_ok-changes.ensures.kept
