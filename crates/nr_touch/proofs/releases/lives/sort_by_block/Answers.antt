use Rattle.std.proofs.Common.{rules}
use Rattle.std.proofs.lemmas.List.Sorted.{answers_always, ties_still_rise, IsNonDecreasingBy-from_sort_by_key}
use Rattle.nr_touch.proofs.Found.{rising_from, sorted_by}
use Rattle.nr_touch.proofs.releases.lives.sort_by_block.Goals as goal

pub returns-clause-rising : goal.returns-clause-rising
returns-clause-rising c =
    let new = c.sort_by_key.new.self.items in
    rising_from (λ each. each.block) (λ each. each.from) new
    (IsNonDecreasingBy-from_sort_by_key (λ each. each.block) new c.in_ok-sort_by_key.ensures.sorted (λ a r q k. search rules))
    (ties_still_rise (λ each. each.from) (λ each. each.block) c.args.lives.now.items new (sorted_by (λ each. each.from) c.args.lives.now.items c.requires)
    (c.in_ok-sort_by_key.ensures.stable (λ each. each.block) (answers_always _ _ _ (λ f a r g h. search rules))))
