use Rattle.std.proofs.Common.{ℕ, ◌<◌, List, ◌++◌, length, take, get_or, sym, ap, ◌∙◌, arith}
use Rattle.std.specs.List.{flat_map}
use Rattle.std.specs.Int.{w64, to_be_bytes}
use Rattle.std.proofs.lemmas.List.{flat_map_more, take_more, take_all}
use Rattle.nr_trace.proofs.writing.lists.put_words.Goals as goal

pub loop-index-preserved : goal.loop-index-preserved
loop-index-preserved c =
    let old = c.args.out.now.items in
    let words = c.args.words.now in
    let index = c.loop-index.index in
    let within : index < length words = omega (arith, c.loop-index-test.true, c.len-index-end.ensures.reads) in
    record {
      put = c.in_ok-next.ensures.put
          ∙ ap (λ (l : List ℕ). l ++ to_be_bytes w64 (get_or words index 0)) c.loop-index.invariant.put
          ∙ flat_map_more (to_be_bytes w64) old (take index words) (get_or words index 0)
          ∙ ap (λ (ws : List ℕ). old ++ flat_map (to_be_bytes w64) ws) (sym (take_more words index 0 within));
      zeros = c.in_ok-next.ensures.zeros;
    }

pub returns : goal.returns
returns c =
    c.loop-index.invariant.put ∙ ap (λ (ws : List ℕ). c.args.out.now.items ++ flat_map (to_be_bytes w64) ws)
    (take_all c.loop-index.index c.args.words.now (omega (arith, c.loop-index-test.false, c.len-index-end.ensures.reads)))
