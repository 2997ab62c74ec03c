use Rattle.std.proofs.Common.{◌≡◌, ◌<◌, true, false, get_or, length, sym, ◌∙◌, arith, rules}
use Rattle.std.proofs.lemmas.Bool.{true_from_ne_false}
use Rattle.std.proofs.lemmas.List.{get_or_default}
use Rattle.std.proofs.lemmas.List.Sorted.{IsPartitionPoint-from_clause}
use Rattle.std.specs.List.Sorted.{IsPartitionPoint}
use Rattle.nr_touch.proofs.Found.{element}
use Rattle.nr_touch.proofs.Sighted.{at_place, before, before_tested, has_found, none_at_end, none_found, partitioned}
use Rattle.nr_touch.proofs.Tests.{no}
use Rattle.nr_touch.proofs.changes.sights.has.Goals as goal

pub returns-then-next-sights : goal.returns-then-next-sights
returns-then-next-sights c =
    let found : IsPartitionPoint (λ s. before s c.args.from ≡ true) (λ s. before s c.args.from ≡ false) c.args.sights.now c.partition_point-next.result =
    IsPartitionPoint-from_clause (λ s. before s c.args.from) c.args.sights.now _ c.partition_point-next.ensures.partitioned
    (partitioned c.args.sights.now c.requires c.args.from) (λ a r q k. search (rules, before_tested)) in
    no (none_at_end c.args.sights.now c.requires c.args.from c.args.last c.partition_point-next.result found c.if-next-sights.true)

pub returns : goal.returns
returns c =
    let sights = c.args.sights.now in
    let from = c.args.from in
    let next = c.partition_point-next.result in
    let found : IsPartitionPoint (λ s. before s from ≡ true) (λ s. before s from ≡ false) sights next =
    IsPartitionPoint-from_clause (λ s. before s from) sights next c.partition_point-next.ensures.partitioned (partitioned sights c.requires from)
    (λ a r q k. search (rules, before_tested)) in
    let there : next < length sights = omega (arith, c.partition_point-next.ensures.bound, c.if-next-sights.false) in
    let (s, at) = element sights next there in
    let read : get_or sights next (record { number = 0; phys = 0; kind = 0; place = 0 }) ≡ s = get_or_default sights next _ s there ∙ at in
    let tested : c.lt.result ≡ before s (at_place from c.args.last) =
    rw read at (before_tested (get_or sights next (record { number = 0; phys = 0; kind = 0; place = 0 })) (at_place from c.args.last)
    c.lt.result c.lt.ensures) in (
      λ t. has_found sights c.requires from c.args.last next found s there at (sym tested ∙ t),
      λ some. true_from_ne_false c.lt.result (λ other. none_found sights c.requires from c.args.last next found s there at (sym tested ∙ other) some),
    )
