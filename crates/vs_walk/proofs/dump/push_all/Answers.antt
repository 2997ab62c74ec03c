use Rattle.std.proofs.Common.{◌≡◌, ℕ, ◌+◌, ◌^◌, ◌<◌, ◌++◌, [], ◌∷◌, length, take, sym, ap, subst, ◌∙◌, arith, append_assoc}
use Rattle.std.specs.Prelude.{All}
use Rattle.std.proofs.lemmas.List.Elements.{All-push}
use Rattle.vs_walk.proofs.Added.{next_taken}
use Rattle.vs_walk.proofs.dump.push_all.Goals as goal

pub loop-index-preserved : goal.loop-index-preserved
loop-index-preserved c =
    let frame = c.args.frame.now in
    let index = c.loop-index.index in
    let one : take (index + 1) frame ≡ take index frame ++ c.word.result ∷ [] =
    next_taken frame index (omega (arith, c.loop-index-test.true, c.len-index-end.ensures.reads))
    ∙ ap (λ w. take index frame ++ w ∷ []) (sym c.word.ensures) in
    record {
      pushed = c.push_reserved.ensures.items ∙ ap (λ l. l ++ c.word.result ∷ []) c.loop-index.invariant.pushed
          ∙ append_assoc c.args.words.now.items (take index frame) (c.word.result ∷ []) ∙ ap (λ l. c.args.words.now.items ++ l) (sym one);
      fit = subst (All (λ w. w < 2 ^ 64)) (sym one) (All-push (λ w. w < 2 ^ 64) (take index frame) c.word.result c.loop-index.invariant.fit c.word.type_inv);
      room = c.push_reserved.ensures.capacity ∙ c.loop-index.invariant.room;
    }
