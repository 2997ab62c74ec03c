use Rattle.std.proofs.Common.{◌≡◌, ◌≢◌, ℕ, ◌<◌, inl, inr, get_or, length, ap, ◌∙◌, arith}
use Rattle.std.proofs.lemmas.List.{get_or-set_same, get_or-set_other}
use Rattle.nr_touch.proofs.Raised.{raised_more}
use Rattle.nr_touch.proofs.changes.bounds.raise.Goals as goal
use Rattle.nr_touch.proofs.changes.bounds.raise.Goals.{then-pages-index, else-pages-index}

pub loop-index-preserved : goal.loop-index-preserved
loop-index-preserved c =
    let inv = c.loop-index.invariant in
    let i = c.loop-index.index in
    let b = c.loop-index.bounds in
    let new = c.if-pages-index.bounds in
    let some = c.loop-index.auto.index in
    let within : i < length b = omega (arith, c.loop-index-test.true, c.loop-index.auto.bounds) in
    let before : get_or b i 0 ≡ get_or c.args.bounds.now i 0 = inv.left i (omega arith) in
    elim c.if-pages-index.branch [
      | then-pages-index w ↦
          let same : (k : ℕ) → k ≢ i → get_or new k 0 ≡ get_or b k 0 =
          λ k other. ap (λ xs. get_or xs k 0) w.bounds-is ∙ get_or-set_other b i k w.max.result 0 other in
          let value : get_or new i 0 ≡ w.max.result = ap (λ xs. get_or xs i 0) w.bounds-is ∙ get_or-set_same b i w.max.result 0 within in
          record {
            raised = raised_more c.args.pages.now c.args.bounds.now b new i (omega (arith, some)) inv.raised c.if-pages-index.auto.bounds same
                (inl (w.if-pages-index.true, omega (arith, value, before, w.max.ensures)));
            left = λ k l. same k (λ e. omega (arith, e, l)) ∙ inv.left k (omega (arith, l));
          }
      | else-pages-index w ↦
          let same : (k : ℕ) → get_or new k 0 ≡ get_or b k 0 = λ k. ap (λ xs. get_or xs k 0) w.bounds-is in
          record {
            raised = raised_more c.args.pages.now c.args.bounds.now b new i (omega (arith, some)) inv.raised c.if-pages-index.auto.bounds (λ k other. same k)
                (inr (w.if-pages-index.false, same i ∙ before));
            left = λ k l. same k ∙ inv.left k (omega (arith, l));
          }
    ]
