use Rattle.std.proofs.Common.{subst, sym}
use Rattle.nr_trace.specs.inside.Progress.{BehindFrames, Belongs, HasRead, opened_spelling, whole_of}
use Rattle.nr_trace.specs.declared.reading.reader.Owner.{Owner}
use Rattle.nr_trace.specs.declared.reading.reader.Reader.TheVariants.{Dumps}
use Rattle.nr_trace.proofs.Frames.{dump_put}
use Rattle.nr_trace.proofs.reading.dumps.put_dump.Goals as goal

pub returns-in_ok-parts-in-Replica : goal.returns-in_ok-parts-in-Replica
returns-in_ok-parts-in-Replica c =
    let parts = c.args.parts in
    let dump = c.args.dump in
    let next = c.in_ok-parts-in-Replica.parts in
    let grown = c.in_ok-parts-in-Replica.ensures in
    let given = subst (λ (o : Owner). Belongs parts o dump) c.in-Replica.is c.requires.belongs in
    subst (λ (o : Owner). HasRead parts.form (opened_spelling parts (whole_of o dump)) (BehindFrames parts o) (Dumps next)) (sym c.in-Replica.is)
    (dump_put parts next grown.0 dump grown.1 grown.2 c.requires.in_range given.0 given.1)
