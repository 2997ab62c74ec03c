use Rattle.std.proofs.Common.{Bool, refl, subst, sym}
use Rattle.std.specs.Io.KnownBytes.{Appends}
use Rattle.std.proofs.KnownBytes.{Appends-nil}
use Rattle.nrvs.specs.ServedChain.{end_line}
use Rattle.nrvs.proofs.runs.served_chain.write_end.Goals as goal

pub returns-then-as_trace : goal.returns-then-as_trace
returns-then-as_trace g c =
    let contents = g.W.Write.contents c.args.writer.now in
    record { ok = (refl, subst (λ (b : Bool). Appends contents contents (end_line b)) (sym c.if-as_trace.true) (Appends-nil contents)); err = tt }
