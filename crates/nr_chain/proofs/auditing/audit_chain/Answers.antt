use Rattle.std.proofs.Common.{◌≡◌, ℕ, ◌-◌, ◌==◌, List, [], true, false, length, refl, ap, sym, ◌∙◌, subst, take, take_all, drop, arith}
use Rattle.std.proofs.Math.Seq.{take-nil}
use Rattle.std.proofs.lemmas.List.{drop_all, length-drop, nil_from_length}
use Rattle.nr_chain.specs.Verdict.{FeedsChain}
use Rattle.nr_chain.proofs.ChainSteps.{leads_begin, leads_end, leads_more, leads_on, leads_wrong}
use Rattle.nr_chain.proofs.FoundChains.{right_chain}
use Rattle.std.proofs.lemmas.Bool.{eqb-true}
use Rattle.nr_chain.proofs.auditing.audit_chain.Goals as goal

pub segments-init : goal.segments-init
segments-init c = leads_begin c.args.bytes.now c.new-chain.result c.new-orders.result.items c.new-chain.ensures c.new-orders.ensures.items

-- nothing lies behind all of a list
none_behind : (xs : List ℕ) (n : ℕ) → n ≡ length xs → take (length xs - n) (drop n xs) ≡ []
none_behind xs n all =
    ap (λ (ys : List ℕ). take (length xs - n) ys) (drop_all n xs (omega (arith, all))) ∙ take-nil (length xs - n)

pub segments-preserved-in-More : goal.segments-preserved-in-More
segments-preserved-in-More c =
    leads_more c.args.bytes.now c.segments.chain c.in-More.next c.segments.orders.items c.segments.rest.now _ c.segments.invariant
    (λ run kept. subst (FeedsChain run c.segments.chain c.segments.rest.now) c.in-More.is (c.in_ok-next.ensures.feeds run kept))
    (none_behind c.segments.rest.now (length c.segments.rest.now) refl)

pub segments-preserved : goal.segments-preserved
segments-preserved c =
    leads_on c.args.bytes.now c.segments.chain c.in-Right.next c.segments.orders.items c.push.new.self.items c.segments.rest.now _ c.in-Right.count
    c.in-Right.order _ c.segments.invariant
    (λ run kept. subst (FeedsChain run c.segments.chain c.segments.rest.now) c.in-Right.is (c.in_ok-next.ensures.feeds run kept))
    c.in_ok-push-in-Right.ensures.items (take_all (length c.segments.rest.now - c.in-Right.count) (drop c.in-Right.count c.segments.rest.now)
    (omega (arith, length-drop c.in-Right.count c.segments.rest.now)))

pub returns-in-Wrong-clause-verdict : goal.returns-in-Wrong-clause-verdict
returns-in-Wrong-clause-verdict c =
    leads_wrong c.args.bytes.now c.segments.chain c.segments.orders.items c.segments.rest.now c.in-Wrong.fault c.segments.invariant
    (λ run kept. subst (FeedsChain run c.segments.chain c.segments.rest.now) c.in-Wrong.is (c.in_ok-next.ensures.feeds run kept))
    (λ none. absurd (
    let zero : length c.segments.rest.now ≡ 0 = ap length none in
    let empty : c.is_empty.result ≡ true = c.is_empty.ensures ∙ ap (λ (n : ℕ). n == 0) zero in
    let some : c.is_empty.result ≡ false = c.segments-test.true in cc))

pub returns-in-None-clause-verdict : goal.returns-in-None-clause-verdict
returns-in-None-clause-verdict c =
    leads_end c.args.bytes.now c.segments.chain c.segments.orders.items c.segments.rest.now _ c.segments.invariant
    (nil_from_length c.segments.rest.now (eqb-true (length c.segments.rest.now) 0 (sym c.is_empty.ensures ∙ c.segments-test.false))) c.in-None.ensures

pub returns-in-None-clause-right : goal.returns-in-None-clause-right
returns-in-None-clause-right c = right_chain c.args.bytes.now c.segments.orders.items (returns-in-None-clause-verdict c)

pub returns-in-Some-clause-verdict : goal.returns-in-Some-clause-verdict
returns-in-Some-clause-verdict c =
    leads_end c.args.bytes.now c.segments.chain c.segments.orders.items c.segments.rest.now _ c.segments.invariant
    (nil_from_length c.segments.rest.now (eqb-true (length c.segments.rest.now) 0 (sym c.is_empty.ensures ∙ c.segments-test.false))) c.in-Some.ensures
