use Rattle.std.proofs.Common.{[]}
use Rattle.nr_explain.specs.ChainExplanation.{Explains, IsExplanationFrom}
use Rattle.nr_explain.proofs.Feeding.{explains_all, own_seen}
use Rattle.std.proofs.lemmas.Result.{IfOk-weaker}
use Rattle.nr_explain.proofs.chain.reader.ChainReader.end.Goals as goal

pub ended-requires : goal.ended-requires
ended-requires c = record {
  taken = c.self.invariant.taken;
  behind = c.self.invariant.behind;
  not_whole = c.self.invariant.not_whole;
}

pub returns : goal.returns
returns c = λ came seen.
    let inside = c.self.inside in
    IfOk-weaker c.ended.result (IsExplanationFrom came inside.bytes.items) (Explains came c.args.self [])
    (λ explanation is. explains_all came inside.last inside.bytes.items c.args.self explanation c.self.view_is is)
    (c.ended.ensures came
    (own_seen inside.last inside.before inside.bytes.items inside.feed inside.feed c.args.self [] c.self.invariant c.self.view_is came seen))
