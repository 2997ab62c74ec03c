-- Who lent a store its memory doesn't matter to the page table in it.
use Rattle.std.proofs.Common.{ap}
use Rattle.vs_types.specs.Space.{Space}
use Rattle.vs_types.specs.declared.requests.op.Action.{Action}
use Rattle.vs_types.specs.declared.requests.answer.Answer.{Answer}
use Rattle.vs_arena.specs.Store.{Lenders}
use Rattle.vs_space.specs.Table.{PageTable, IsTableOf, IsTableStep}
use Rattle.vs_space.specs.Invariant.{IsPageTable}

module _ (lenders : Lenders) where
  abbrev pub lent_by : PageTable → PageTable
  lent_by table = record table { lenders = lenders }

  pub relent_of : {table : PageTable} {space : Space} → IsTableOf table space → IsTableOf (lent_by table) space
  relent_of is = record { is_space = is.is_space; translates = is.translates }

  pub relent_back : {table : PageTable} {space : Space} → IsTableOf (lent_by table) space → IsTableOf table space
  relent_back is = record { is_space = is.is_space; translates = is.translates }

  pub relent : {table : PageTable} → IsPageTable table → IsPageTable (lent_by table)
  relent is = record {
    tree = is.tree;
    filled = is.filled;
    reached = is.reached;
    whole = is.whole;
    root_fits = is.root_fits;
    some_space = (is.some_space.0, record { is_of = relent_of is.some_space.1.is_of; counted = is.some_space.1.counted });
  }

  pub relent_step : {old new : PageTable} {action : Action} {answer : Answer} → IsTableStep old action answer new
      → IsTableStep (lent_by old) action answer (lent_by new)
  relent_step step = record {
    some_space = (step.some_space.0, relent_of step.some_space.1);
    same = ap lent_by step.same;
    unchanged = λ refused. ap lent_by (step.unchanged refused);
    kept = step.kept;
    plain = step.plain;
    cleared = step.cleared;
    steps = λ space of. let done = step.steps space (relent_back of) in (done.0, relent_of done.1);
  }
