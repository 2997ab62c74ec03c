use Rattle.std.proofs.Common.{arith}
use Rattle.nr_trace.proofs.Framed.{few_fit}
use Rattle.nr_trace.proofs.writing.frames_of.Goals as goal

pub overflow_cast-result : goal.overflow_cast-result
overflow_cast-result c = omega (arith, few_fit c.in-Some.start.now c.count.result c.count.ensures.is_dump c.count.ensures.reads)
