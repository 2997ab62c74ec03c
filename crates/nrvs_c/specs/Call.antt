-- What a call does to the page table of a handle, in the memory lent.
use Rattle.std.specs.Prelude.{◌≡◌, ℕ, List, [], None}
use Rattle.vs_types.specs.Operation.{action_fault}
use Rattle.vs_types.specs.Space.{Space}
use Rattle.vs_types.specs.declared.requests.op.Action.{Action}
use Rattle.vs_types.specs.declared.requests.answer.Answer.{Answer}
use Rattle.vs_arena.specs.declared.mark.FrameMark.{FrameMark}
use Rattle.vs_space.specs.Table.{IsTableOf, IsTableStep}
use Rattle.nrvs_c.specs.Reply.{reply_for}
use Rattle.nrvs_c.specs.Table.{depth_in, lent_table, IsOpen, IsUsable}
use Rattle.nrvs_c.specs.declared.reply.Reply.{Reply}
use Rattle.nrvs_c.specs.declared.table.Table.{Table}

-- if the handle was made over as much memory, its page table is in it
abbrev pub IsSound : Table → List (List ℕ) → List FrameMark → Type 0
IsSound handle words marks = IsUsable handle words marks → IsOpen handle words marks

-- the handle can be used with the memory, and still can; the action is well formed; the page table after the call, and the reply, are those of a step
pub record Steps (old : Table) (words : List (List ℕ)) (marks : List FrameMark) (action : Action) (new : Table) (words' : List (List ℕ))
    (marks' : List FrameMark) (reply : Reply) : Type 0 where
  pub usable : IsUsable old words marks
  pub still_usable : IsUsable new words' marks'
  pub well_formed : action_fault (depth_in old) action ≡ None
  pub answer : Answer
  pub replied : reply ≡ reply_for answer
  pub step : IsTableStep (lent_table [] old words marks) action answer (lent_table [] new words' marks')

-- the handle can be used with the memory, and the reply is what is answered for the space of its page table
pub record Tells (handle : Table) (words : List (List ℕ)) (marks : List FrameMark) (answer : Space → Answer) (reply : Reply) : Type 0 where
  pub usable : IsUsable handle words marks
  pub replied : (space : Space) → IsTableOf (lent_table [] handle words marks) space → reply ≡ reply_for (answer space)
