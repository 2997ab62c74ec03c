-- What contracts see of updates that go through slots.
use Rattle.std.specs.Prelude.{ℕ}
use Rattle.vs_types.specs.declared.requests.answer.Answer.{Answer}
use Rattle.vs_types.specs.declared.requests.op.Op.{Op}

-- an update that waits for a combiner: the thread that posted it, the number of its call, and what it does
pub record Waiting : Type 0 where
  pub thread : ℕ
  pub call : ℕ
  pub op : Op

-- an update with its place in the log and what it was answered
pub record Answered : Type 0 where
  pub thread : ℕ
  pub call : ℕ
  pub op : Op
  pub place : ℕ
  pub answer : Answer
