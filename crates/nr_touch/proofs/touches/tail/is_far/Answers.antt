use Rattle.std.proofs.Common.{◌≡◌, false, ℕ, List, Contains, nat_cmp, sym, ◌∙◌, subst, arith}
use Rattle.std.proofs.lemmas.Cmp.{nat_cmp_total}
use Rattle.std.proofs.lemmas.Map.Lookups.{exact_unsigned}
use Rattle.std.specs.BTreeSet.{contains}
use Rattle.vs_types.proofs.Lists.{not_in_nil}
use Rattle.nr_touch.proofs.IndexRows.{key_found, no_greater}
use Rattle.nr_touch.proofs.cuts.Thinned.{far_from}
use Rattle.nr_touch.proofs.touches.tail.is_far.Goals as goal

pub returns : goal.returns
returns c = λ changes noted sound t.
    let numbers = c.args.numbers.now in
    let left = c.args.left.now in
    let none = sym (c.loop.invariant ∙ c.into_iter-iterator.ensures.into_iter_gives) ∙ c.in-None.ensures.steps.0 in
    far_from changes numbers left sound.each c.requires noted
    (subst (λ (n : ℕ). contains nat_cmp numbers n ≡ false) c.number_at-large.ensures (sym c.contains.ensures ∙ c.if-contains.false))
    (subst (λ (n : ℕ). contains nat_cmp numbers n ≡ false) c.number_at-huge.ensures (sym c.contains-2.ensures ∙ c.if-contains-2.false))
    (λ n low high has. not_in_nil n (subst (λ (xs : List ℕ). Contains xs n) none
    (key_found nat_cmp_total exact_unsigned numbers c.range-items.result c.new.result.start c.new.result.end n
    (c.range-items.ensures.between c.new.ensures.exhausted)
    (no_greater c.new.result.start n (let at = c.new.ensures.start in omega (arith, at, low)))
    (no_greater n c.new.result.end (let at = c.new.ensures.end in let bytes = c.bytes.ensures in omega (arith, at, high, bytes))) has)))
