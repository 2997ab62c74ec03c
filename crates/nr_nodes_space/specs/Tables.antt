-- The nodes of a machine whose state is an address space: each keeps it as page tables in a memory of its own, and applies an entry by a
-- plan. Processors set the accessed and the dirty flag of entries at any time.
use Rattle.std.specs.Prelude.{◌≡◌, ℕ, ◌<◌, ◌≤◌, List, [], ◌∷◌, take, Option, Some, ⊤}
use Rattle.std.specs.FinMap as finite
use Rattle.vs_types.specs.Space.{Space, no_pages}
use Rattle.vs_types.specs.Step.{look}
use Rattle.vs_types.specs.declared.requests.answer.Answer.{Answer}
use Rattle.vs_arena.specs.Store.{zeros}
use Rattle.vs_walk.specs.Memory.{Memory, AreWhole}
use Rattle.vs_walk.specs.Walk.{as_walk}
use Rattle.vs_walk.specs.declared.walk.Walk.{Walk}
use Rattle.vs_space.specs.Flags.{AreSameButFlags}
use Rattle.vs_plan.specs.declared.plans.plan.Plan.{Plan}
use Rattle.vs_plan.specs.declared.plans.plan.Reply.TheVariants as replies
use Rattle.vs_plan.specs.declared.plans.request.Request.{Request}
use Rattle.vs_plan.specs.declared.plans.target.Target.{Target}
use Rattle.vs_plan.specs.Flushed.{while_stored}
use Rattle.vs_plan.specs.Lived.{AreButFlags}
use Rattle.vs_plan.specs.Processor.{Moment, Is, Flushes}
use Rattle.vs_plan.specs.Request.{IsRequest}
use Rattle.vs_plan.specs.Answered.{space_after}
use Rattle.vs_plan.specs.Right.{IsRight, begun, ended}
use Rattle.vs_plan.specs.Stores.{stored_all}
use Rattle.nr_machine.specs.declared.words.Update.{Update}
use Rattle.nr_machine.specs.Actor.{update_at}
use Rattle.nr_machine.specs.States.{Kind, Nodes, at_first, followed, state_after}
use Rattle.nr_machine.specs.Words.{with_at}
use Rattle.nr_machine.specs.World.{Act, MayAct}
use Rattle.nr_machine.specs.World.Act.{Applies}

-- the nodes, the memory in which each has its tables, and what a processor that walks them has lived through, the latest first
pub record Tables : Type 0 where
  pub nodes : Nodes Space Answer
  pub memory : ℕ → Memory
  pub moments : ℕ → List Moment

-- a step of the schedule by which no entry is applied. Or the next entry is applied at a node: by this plan, and the node's processors
-- flush, after which its memory is this, and one of them has lived through this before the flush. Or a processor sets flags in a node's
-- memory, which is this then
pub data Work : Type 0 where
  Takes : (act : Act) → Work
  CarriesOut : (node : ℕ) → (request : Request) → (offered : List (Option ℕ)) → (plan : Plan) → (now : Memory) → (lived : List Moment) → Work
  SetsFlags : (node : ℕ) → (now : Memory) → Work

-- a step of the schedule applies no entry
abbrev pub AppliesNone : Act → Type 0
AppliesNone (Applies n) = ⊥
AppliesNone act = ⊤

-- the entry that the one at node n applies next
abbrev pub entry_at : Tables → ℕ → Update
entry_at w n = update_at (w.nodes.world.actor n).got 0

-- the plan is right for the node's tables and its space, and makes of the space, and answers, what the entry does. So the node had the frames
-- that it needs: a plan that lacks one answers so
pub record IsPlanFor (target : ℕ → Target) (kind : Kind Space Answer) (w : Tables) (n : ℕ) (request : Request)
    (offered : List (Option ℕ)) (plan : Plan) : Type 0 where
  pub asked : IsRequest (target n) request
  pub right : IsRight (target n) request (w.memory n) (w.nodes.state n) offered plan
  pub same : space_after (target n) request (w.nodes.state n) plan.reply ≡ kind.step (w.nodes.state n) (entry_at w n)
  pub answered : plan.reply ≡ replies.Answer (kind.answer (w.nodes.state n) (entry_at w n))

-- what a processor of the node has lived through once so many stores of the plan are made, if no flag is set meanwhile
abbrev pub moments_after : Tables → ℕ → Plan → ℕ → List Moment
moments_after w n plan done =
    while_stored (begun (w.memory n) plan) (take done plan.stores.items) (Is (begun (w.memory n) plan) ∷ w.moments n)

-- so many stores of the plan are made, the node's memory is this, and a processor has lived through this: flags were set meanwhile, or not
pub record IsMeanwhile (w : Tables) (n : ℕ) (plan : Plan) (done : ℕ) (now : Memory) (lived : List Moment) : Type 0 where
  pub flags : AreSameButFlags (stored_all (begun (w.memory n) plan) (take done plan.stores.items)) now
  pub past : AreButFlags lived (moments_after w n plan done)

-- all stores of the plan are made
pub record IsCarriedOut (w : Tables) (n : ℕ) (plan : Plan) (now : Memory) (lived : List Moment) : Type 0 where
  pub flags : AreSameButFlags (ended (w.memory n) plan) now
  pub past : AreButFlags lived (while_stored (begun (w.memory n) plan) plan.stores.items (Is (begun (w.memory n) plan) ∷ w.moments n))

-- the work may be done: a step of the schedule that applies no entry; an entry by a plan for it; flags, at any time
abbrev pub MayWork : ℕ → (ℕ → Target) → Kind Space Answer → Tables → Work → Type 0
MayWork nodes target kind w (Takes act) = AppliesNone act × MayAct nodes w.nodes.world act
MayWork nodes target kind w (CarriesOut n request offered plan now lived) = MayAct nodes w.nodes.world (Applies n)
    × IsPlanFor target kind w n request offered plan × IsCarriedOut w n plan now lived
MayWork nodes target kind w (SetsFlags n now) = (n < nodes) × AreSameButFlags (w.memory n) now

-- what becomes of the nodes, their memories and their processors by a work
abbrev pub worked : Kind Space Answer → Tables → Work → Tables
worked kind w (Takes act) = record w { nodes = followed kind w.nodes act }
worked kind w (CarriesOut n request offered plan now lived) = record w {
  nodes = followed kind w.nodes (Applies n);
  memory = with_at w.memory n now;
  moments = with_at w.moments n (Flushes plan.flush ∷ lived);
}
worked kind w (SetsFlags n now) = record w {
  memory = with_at w.memory n now;
  moments = with_at w.moments n (Is now ∷ w.moments n);
}

-- each work may be done where it is
abbrev pub Works : ℕ → (ℕ → Target) → Kind Space Answer → Tables → List Work → Type 0
Works nodes target kind w [] = ⊤
Works nodes target kind w (work ∷ works) = MayWork nodes target kind w work × Works nodes target kind (worked kind w work) works

-- what becomes of them by works, one after another
abbrev pub after_works : Kind Space Answer → Tables → List Work → Tables
after_works kind w [] = w
after_works kind w (work ∷ works) = after_works kind (worked kind w work) works

-- at first each node's root is a frame of zeros, and no processor has read anything
pub record AreNew (nodes : ℕ) (target : ℕ → Target) (memory : ℕ → Memory) : Type 0 where
  pub whole : (n : ℕ) → n < nodes → AreWhole (memory n)
  pub clear : (n : ℕ) → n < nodes → finite.get (memory n) (target n).root ≡ Some zeros

-- the nodes before the first work
abbrev pub new_tables : ℕ → Kind Space Answer → (ℕ → Memory) → Tables
new_tables nodes kind memory = record { nodes = at_first nodes kind; memory = memory; moments = λ n. [] }

-- the space after so many entries of the log, and what a walk finds in it
abbrev pub space_of : Kind Space Answer → Tables → ℕ → Space
space_of kind w count = state_after kind w.nodes.world.log.entry count

-- what a walk of an address finds after so many entries
abbrev pub found_in : Kind Space Answer → Tables → ℕ → ℕ → Walk
found_in kind w count address = as_walk (look (space_of kind w count) address)

-- works from new tables on reach this, where the space has no pages at first
pub record AreReached (nodes : ℕ) (target : ℕ → Target) (kind : Kind Space Answer) (w : Tables) : Type 0 where
  pub few : nodes ≤ 64
  pub initial : kind.initial ≡ no_pages
  pub memory : ℕ → Memory
  pub works : List Work
  pub fresh : AreNew nodes target memory
  pub may : Works nodes target kind (new_tables nodes kind memory) works
  pub reached : after_works kind (new_tables nodes kind memory) works ≡ w
