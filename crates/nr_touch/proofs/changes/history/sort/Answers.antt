use Rattle.std.proofs.lemmas.List.Sorted.{answers_always, ties_still_rise, IsNonDecreasingBy-from_sort_by_key}
use Rattle.std.proofs.Common.{rules}
use Rattle.nr_touch.proofs.Found.{rising_from, sorted_by}
use Rattle.nr_touch.proofs.changes.history.sort.Goals as goal

pub returns-clause-rising : goal.returns-clause-rising
returns-clause-rising c =
    let new = c.sort_by_key.new.self.items in
    rising_from (λ each. each.number) (λ each. each.place) new
    (IsNonDecreasingBy-from_sort_by_key (λ each. each.number) new c.in_ok-sort_by_key.ensures.sorted (λ a r q k. search rules))
    (ties_still_rise (λ each. each.place) (λ each. each.number) c.args.changes.now.items new
    (sorted_by (λ each. each.place) c.args.changes.now.items c.requires)
    (c.in_ok-sort_by_key.ensures.stable (λ each. each.number) (answers_always _ _ _ (λ f a r g h. search rules))))
