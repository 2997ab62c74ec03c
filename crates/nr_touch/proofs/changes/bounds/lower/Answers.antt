use Rattle.std.proofs.Common.{◌≡◌, ◌≢◌, ℕ, ◌-◌, ◌+◌, ◌<◌, inl, inr, get_or, length, sym, ap, ◌∙◌, subst, arith}
use Rattle.std.proofs.lemmas.List.{get_or-set_same, get_or-set_other}
use Rattle.nr_touch.specs.inside.Bounds.{IsLowered}
use Rattle.nr_touch.proofs.Raised.{lowered_more}
use Rattle.nr_touch.proofs.changes.bounds.lower.Goals as goal
use Rattle.nr_touch.proofs.changes.bounds.lower.Goals.{then-pages-index, else-pages-index}

pub loop-passed-preserved : goal.loop-passed-preserved
loop-passed-preserved c =
    let inv = c.loop-passed.invariant in
    let old = c.args.bounds.now in
    let i = length old - 1 - c.loop-passed.passed in
    let b = c.loop-passed.bounds in
    let new = c.if-pages-index.bounds in
    let test = c.loop-passed-test.true in
    let many = c.loop-passed.auto.bounds in
    let within : i < length b = omega (arith, test, many) in
    let more : i + 1 < length old = let some = c.loop-passed.auto.passed in omega (arith, test, some) in
    let next : length old - c.loop-passed.passed ≡ i + 1 = omega (arith, test) in
    let here : length old - (c.loop-passed.passed + 1) ≡ i = omega (arith, test) in
    let begin : IsLowered c.args.pages.now old b (i + 1) = subst (IsLowered c.args.pages.now old b) next inv.lowered in
    let before : get_or b i 0 ≡ get_or old i 0 = inv.left i (omega (arith, next)) in
    elim c.if-pages-index.branch [
      | then-pages-index w ↦
          let same : (k : ℕ) → k ≢ i → get_or new k 0 ≡ get_or b k 0 =
          λ k other. ap (λ xs. get_or xs k 0) w.bounds-is ∙ get_or-set_other b i k w.min.result 0 other in
          let value : get_or new i 0 ≡ w.min.result = ap (λ xs. get_or xs i 0) w.bounds-is ∙ get_or-set_same b i w.min.result 0 within in
          record {
            lowered = subst (IsLowered c.args.pages.now old new) (sym here)
                (lowered_more c.args.pages.now old b new i more begin c.if-pages-index.auto.bounds same
                (inl (w.if-pages-index.true, omega (arith, value, before, w.min.ensures))));
            left = λ k l. same k (λ e. omega (arith, e, l, here)) ∙ inv.left k (omega (arith, l, here, next));
          }
      | else-pages-index w ↦
          let same : (k : ℕ) → get_or new k 0 ≡ get_or b k 0 = λ k. ap (λ xs. get_or xs k 0) w.bounds-is in
          record {
            lowered = subst (IsLowered c.args.pages.now old new) (sym here)
                (lowered_more c.args.pages.now old b new i more begin c.if-pages-index.auto.bounds (λ k other. same k)
                (inr (w.if-pages-index.false, same i ∙ before)));
            left = λ k l. same k ∙ inv.left k (omega (arith, l, here, next));
          }
    ]
