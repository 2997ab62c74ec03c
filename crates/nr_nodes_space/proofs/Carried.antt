-- What holds of the tables of all nodes, whatever is done.
use Rattle.std.proofs.Common.{◌≡◌, ℕ, ◌+◌, ◌<◌, ◌≤◌, List, [], ◌∷◌, length, take, Option, refl, ap, sym, subst, ◌∙◌, ◌⊎◌, inl, inr, arith}
use Rattle.vs_types.specs.Depth.{IsCanonical}
use Rattle.vs_types.specs.Space.{Space}
use Rattle.vs_types.specs.Step.{look}
use Rattle.vs_types.specs.declared.requests.answer.Answer.{Answer}
use Rattle.vs_walk.specs.Memory.{Memory}
use Rattle.vs_walk.specs.Walk.{TranslatesAs, as_walk, walk}
use Rattle.vs_walk.specs.declared.walk.Walk.{Walk}
use Rattle.vs_space.specs.Flags.{AreSameButFlags}
use Rattle.vs_plan.specs.declared.plans.plan.Plan.{Plan}
use Rattle.vs_plan.specs.declared.plans.plan.Reply.TheVariants as replies
use Rattle.vs_plan.specs.declared.plans.request.Request.{Request}
use Rattle.vs_plan.specs.declared.plans.target.Target.{Target}
use Rattle.vs_plan.specs.Flushed.{Suffices, while_stored}
use Rattle.vs_plan.specs.Lived.{AsTold, Next, Flushed}
use Rattle.vs_plan.specs.Premise.{IsPremise}
use Rattle.vs_plan.specs.Processor.{Moment, Is, Flushes, IsUpToDate, MayFind}
use Rattle.vs_plan.specs.Request.{address_of}
use Rattle.vs_plan.specs.Right.{IsRight, begun, ended}
use Rattle.vs_plan.specs.Stores.{stored_all}
use Rattle.vs_plan.proofs.FirstRoots.{premise_again, zeros_are_empty}
use Rattle.vs_plan.proofs.Filled.{walk_as}
use Rattle.vs_plan.proofs.FlagsKept.{flags_premise, lived_finds, lived_up_to_date}
use Rattle.vs_plan.proofs.Given.{filled_same}
use Rattle.vs_plan.proofs.Kept.{finds_walk, stays_up_to_date}
use Rattle.vs_plan.proofs.PlansSuffice.{plan_suffices}
use Rattle.vs_plan.proofs.Unread.{unread_keeps}
use Rattle.nr_machine.specs.Actor.{MayApply}
use Rattle.nr_machine.specs.Laws.{Everywhere}
use Rattle.nr_machine.specs.States.{Kind, Nodes, followed}
use Rattle.nr_machine.specs.World.{Act}
use Rattle.nr_machine.specs.World.Act.{Applies, Begins, Does, Ends, ReadBegins, ReadEnds}
use Rattle.nr_machine.specs.declared.words.Update.{Update}
use Rattle.nr_machine.proofs.Cases.{at_cases, both_cases}
use Rattle.nr_machine.proofs.Run.{acts_state, first_stated}
use Rattle.nr_machine.proofs.Stated.{IsStated, more_state, next_entry}
use Rattle.nr_nodes_space.specs.Tables.{AppliesNone, AreReached, IsMeanwhile, IsPlanFor, MayWork, Tables, Work, Works, after_works, found_in, entry_at, moments_after, new_tables, space_of, worked}
use Rattle.nr_nodes_space.specs.Tables.Work.{CarriesOut, SetsFlags, Takes}

pub record AreKept (nodes : ℕ) (target : ℕ → Target) (kind : Kind Space Answer) (w : Tables) : Type 0 where
  pub stated : IsStated nodes kind w.nodes
  pub premise : (n : ℕ) → n < nodes → (address : ℕ) → IsPremise (target n).depth (w.memory n) (target n).root address (w.nodes.state n)
  pub current : (n : ℕ) → n < nodes → IsUpToDate (target n).depth (target n).root (w.memory n) (w.moments n)

-- a step that applies nothing leaves the states
same_states : (kind : Kind Space Answer) (w : Nodes Space Answer) (act : Act) → AppliesNone act
    → (followed kind w act).state ≡ w.state
same_states kind w (Begins n batch) none = refl
same_states kind w (Does n operation) none = refl
same_states kind w (Applies n) none = absurd none
same_states kind w (Ends n) none = refl
same_states kind w (ReadBegins n) none = refl
same_states kind w (ReadEnds c) none = refl

-- once the table that a plan fills is filled, a processor is up to date still
begun_current : (nodes : ℕ) (target : ℕ
    → Target) (kind : Kind Space Answer) (w : Tables) (n : ℕ) (request : Request)
    (offered : List (Option ℕ)) (plan : Plan) → AreKept nodes target kind w → n < nodes
    → IsRight (target n) request (w.memory n) (w.nodes.state n) offered plan
    → IsUpToDate (target n).depth (target n).root (begun (w.memory n) plan) (Is (begun (w.memory n) plan) ∷ w.moments n)
begun_current nodes target kind w n request offered plan kept lt right =
    unread_keeps (target n).depth (target n).root (w.memory n) (begun (w.memory n) plan)
    (filled_same (target n) request (w.memory n) offered plan.fill plan.stores.items plan.unlinked.items right.put) (w.moments n)
    (kept.current n lt)

suffices : (nodes : ℕ) (target : ℕ → Target) (kind : Kind Space Answer) (w : Tables) (n : ℕ) (request : Request)
    (offered : List (Option ℕ)) (plan : Plan) → AreKept nodes target kind w → n < nodes
    → IsRight (target n) request (w.memory n) (w.nodes.state n) offered plan
    → Suffices (target n).depth (target n).root (begun (w.memory n) plan) plan.stores.items plan.flush plan.unlinked.items
suffices nodes target kind w n request offered plan kept lt right =
    plan_suffices (target n) request (w.memory n) (w.nodes.state n) offered plan (kept.premise n lt (address_of request)) right

-- after the next entry's plan what plans ask of the node's memory holds with the next space
premise_next : (nodes : ℕ) (target : ℕ
    → Target) (kind : Kind Space Answer) (w : Tables) (n : ℕ) (request : Request)
    (offered : List (Option ℕ)) (plan : Plan) → AreKept nodes target kind w → n < nodes → IsPlanFor target kind w n request offered plan
    → (address : ℕ)
    → IsPremise (target n).depth (ended (w.memory n) plan) (target n).root address (kind.step (w.nodes.state n) (entry_at w n))
premise_next nodes target kind w n request offered plan kept lt is address =
    subst (λ (space : Space). IsPremise (target n).depth (ended (w.memory n) plan) (target n).root address space) is.same
    (premise_again (target n) request (w.memory n) (w.nodes.state n) offered plan address is.asked
    (kept.premise n lt (address_of request)) is.right
    (kept.premise n lt address).own)

works_keep : (nodes : ℕ) (target : ℕ → Target) (kind : Kind Space Answer) (w : Tables) (work : Work) → nodes ≤ 64
    → AreKept nodes target kind w → MayWork nodes target kind w work → AreKept nodes target kind (worked kind w work)
works_keep nodes target kind w (Takes act) few kept may = record {
  stated = acts_state nodes kind w.nodes act few kept.stated may.1;
  premise = λ n lt address. subst (λ (states : ℕ → Space). IsPremise (target n).depth (w.memory n) (target n).root address (states n))
      (sym (same_states kind w.nodes act may.0)) (kept.premise n lt address);
  current = kept.current;
}
works_keep nodes target kind w (CarriesOut n request offered plan now lived) few kept may =
    let lt = may.0.0 in
    let is = may.1 in
    let out = may.2 in
    let told = while_stored (begun (w.memory n) plan) plan.stores.items (Is (begun (w.memory n) plan) ∷ w.moments n) in
    record {
      stated = acts_state nodes kind w.nodes (Applies n) few kept.stated may.0;
      premise = λ m there address.
          both_cases (λ (k : ℕ) (memory : Memory) (space : Space). IsPremise (target k).depth memory (target k).root address space)
          w.memory w.nodes.state n now (kind.step (w.nodes.state n) (entry_at w n)) m
          (flags_premise out.flags (target n).depth (target n).root address (kind.step (w.nodes.state n) (entry_at w n))
          (premise_next nodes target kind w n request offered plan kept lt is address))
          (λ apart. kept.premise m there address);
      current = λ m there.
          both_cases (λ (k : ℕ) (memory : Memory) (moments : List Moment). IsUpToDate (target k).depth (target k).root memory moments)
          w.memory w.moments n now (Flushes plan.flush ∷ lived) m
          (lived_up_to_date (target n).depth (target n).root (Flushes plan.flush ∷ lived) (Flushes plan.flush ∷ told)
          (ended (w.memory n) plan) now (Flushed lived told plan.flush out.past) out.flags
          ((suffices nodes target kind w n request offered plan kept lt is.right).after (Is (begun (w.memory n) plan) ∷ w.moments n)
          (begun_current nodes target kind w n request offered plan kept lt is.right)))
          (λ apart. kept.current m there);
    }
works_keep nodes target kind w (SetsFlags n now) few kept may =
    let lt = may.0 in
    let same = may.1 in
    record {
      stated = kept.stated;
      premise = λ m there address.
          at_cases (λ (memory : Memory). IsPremise (target m).depth memory (target m).root address (w.nodes.state m)) w.memory n now m
          (λ e. flags_premise (subst (λ (k : ℕ). AreSameButFlags (w.memory k) now) (sym e) same) (target m).depth (target m).root address
          (w.nodes.state m) (kept.premise m there address))
          (λ apart. kept.premise m there address);
      current = λ m there.
          both_cases (λ (k : ℕ) (memory : Memory) (moments : List Moment). IsUpToDate (target k).depth (target k).root memory moments)
          w.memory w.moments n now (Is now ∷ w.moments n) m
          (lived_up_to_date (target n).depth (target n).root (Is now ∷ w.moments n) (Is (w.memory n) ∷ w.moments n) (w.memory n) now
          (Next (w.moments n) (w.moments n) (w.memory n) now (AsTold (w.moments n)) same) same
          (stays_up_to_date (target n).depth (target n).root (w.memory n) (w.moments n) (kept.current n lt)))
          (λ apart. kept.current m there);
    }

all_works_keep : (nodes : ℕ) (target : ℕ → Target) (kind : Kind Space Answer) (w : Tables) (works : List Work)
    → nodes ≤ 64
    → AreKept nodes target kind w → Works nodes target kind w works → AreKept nodes target kind (after_works kind w works)
all_works_keep nodes target kind w [] few kept may = kept
all_works_keep nodes target kind w (work ∷ works) few kept may =
    all_works_keep nodes target kind (worked kind w work) works few (works_keep nodes target kind w work few kept may.0) may.1

pub kept : (nodes : ℕ) (target : ℕ → Target) (kind : Kind Space Answer) (w : Tables)
    → AreReached nodes target kind w
    → AreKept nodes target kind w
kept nodes target kind w reached =
    subst (λ (v : Tables). AreKept nodes target kind v) reached.reached
    (all_works_keep nodes target kind (new_tables nodes kind reached.memory) reached.works reached.few first reached.may) where
      first : AreKept nodes target kind (new_tables nodes kind reached.memory)
      first = record {
        stated = first_stated nodes kind;
        premise = λ n lt address.
            subst (λ (space : Space). IsPremise (target n).depth (reached.memory n) (target n).root address space) (sym reached.initial)
            (zeros_are_empty (target n).depth (reached.memory n) (target n).root (reached.fresh.clear n lt) address
            (reached.fresh.whole n lt));
        current = λ n lt it held. absurd held;
      }

pub translates : (nodes : ℕ) (target : ℕ → Target) (kind : Kind Space Answer) (w : Tables) (n : ℕ)
    → AreReached nodes target kind w
    → n < nodes → TranslatesAs (target n).depth (w.memory n) (target n).root (space_of kind w (w.nodes.world.actor n).applied)
translates nodes target kind w n reached lt =
    let is = kept nodes target kind w reached in
    subst (λ (space : Space). TranslatesAs (target n).depth (w.memory n) (target n).root space) (is.stated.state n lt)
    (is.premise n lt 0).translates

pub current : (nodes : ℕ) (target : ℕ → Target) (kind : Kind Space Answer) (w : Tables) (n : ℕ)
    → AreReached nodes target kind w
    → n < nodes → IsUpToDate (target n).depth (target n).root (w.memory n) (w.moments n)
current nodes target kind w n reached lt = (kept nodes target kind w reached).current n lt

pub finds_between : (nodes : ℕ) (target : ℕ → Target) (kind : Kind Space Answer) (w : Tables) (n address : ℕ) (end : Walk)
    → AreReached nodes target kind w → n < nodes → IsCanonical (target n).depth address
    → MayFind (target n).depth (target n).root (w.memory n) (Is (w.memory n) ∷ w.moments n) address end
    → end ≡ found_in kind w (w.nodes.world.actor n).applied address
finds_between nodes target kind w n address end reached lt canonical found =
    finds_walk (target n).depth (target n).root (w.memory n) (Is (w.memory n) ∷ w.moments n) address end
    (stays_up_to_date (target n).depth (target n).root (w.memory n) (w.moments n) (current nodes target kind w n reached lt))
    canonical found
    ∙ translates nodes target kind w n reached lt address canonical

-- the space after the next entry is that after one entry more
next_space : (nodes : ℕ) (target : ℕ → Target) (kind : Kind Space Answer) (w : Tables) (n : ℕ)
    → AreKept nodes target kind w
    → n < nodes → MayApply (w.nodes.world.actor n)
    → kind.step (w.nodes.state n) (entry_at w n) ≡ space_of kind w ((w.nodes.world.actor n).applied + 1)
next_space nodes target kind w n is lt may =
    let a = w.nodes.world.actor n in
    let k = is.stated.held.kept.actors n lt in
    more_state kind w.nodes.world.log.entry (w.nodes.state n) (entry_at w n) a.applied (is.stated.state n lt)
    (next_entry w.nodes.world.log.entry a.from a.got k.got may.some ∙ ap w.nodes.world.log.entry may.next)

pub finds_meanwhile : (nodes : ℕ) (target : ℕ → Target) (kind : Kind Space Answer) (w : Tables) (n address done : ℕ) (end : Walk)
    (request : Request) (offered : List (Option ℕ)) (plan : Plan) (now : Memory) (lived : List Moment) → AreReached nodes target kind w
    → n < nodes → MayApply (w.nodes.world.actor n) → IsPlanFor target kind w n request offered plan → done ≤ length plan.stores.items
    → IsMeanwhile w n plan done now lived → IsCanonical (target n).depth address
    → MayFind (target n).depth (target n).root now lived address end
    → (end ≡ found_in kind w (w.nodes.world.actor n).applied address)
    ⊎ (end ≡ found_in kind w ((w.nodes.world.actor n).applied + 1) address)
finds_meanwhile nodes target kind w n address done end request offered plan now lived reached lt may is le meanwhile canonical found =
    either ((suffices nodes target kind w n request offered plan all lt is.right).between (Is (begun (w.memory n) plan) ∷ w.moments n)
    done address end
    (begun_current nodes target kind w n request offered plan all lt is.right) le canonical
    (lived_finds (target n).depth (target n).root lived (moments_after w n plan done)
    (stored_all (begun (w.memory n) plan) (take done plan.stores.items)) now meanwhile.past meanwhile.flags address end found)) where
      all : AreKept nodes target kind w
      all = kept nodes target kind w reached

      either : (end ≡ walk (target n).depth (begun (w.memory n) plan) (target n).root address)
          ⊎ (end ≡ walk (target n).depth (ended (w.memory n) plan) (target n).root address)
          → (end ≡ found_in kind w (w.nodes.world.actor n).applied address)
          ⊎ (end ≡ found_in kind w ((w.nodes.world.actor n).applied + 1) address)
      either (inl before) = inl (before
          ∙ walk_as (target n).depth (target n).root (w.memory n) (begun (w.memory n) plan)
          (filled_same (target n) request (w.memory n) offered plan.fill plan.stores.items plan.unlinked.items is.right.put) address
          ∙ translates nodes target kind w n reached lt address canonical)
      either (inr after) =
          inr (after ∙ (premise_next nodes target kind w n request offered plan all lt is address).translates address canonical
          ∙ ap (λ (space : Space). as_walk (look space address)) (next_space nodes target kind w n all lt may))

-- what a plan answers is what the one log answers at that place
pub answers_next : (nodes : ℕ) (target : ℕ → Target) (kind : Kind Space Answer) (w : Tables) (n : ℕ) (request : Request)
    (offered : List (Option ℕ)) (plan : Plan) → AreReached nodes target kind w → n < nodes → MayApply (w.nodes.world.actor n)
    → IsPlanFor target kind w n request offered plan
    → plan.reply ≡ replies.Answer (kind.answer (space_of kind w (w.nodes.world.actor n).applied)
    (w.nodes.world.log.entry (w.nodes.world.actor n).applied))
answers_next nodes target kind w n request offered plan reached lt may is =
    let all = kept nodes target kind w reached in
    let a = w.nodes.world.actor n in
    let k = all.stated.held.kept.actors n lt in
    let entry : entry_at w n ≡ w.nodes.world.log.entry a.applied =
    next_entry w.nodes.world.log.entry a.from a.got k.got may.some ∙ ap w.nodes.world.log.entry may.next in
    is.answered ∙ ap (λ (space : Space). replies.Answer (kind.answer space (entry_at w n))) (all.stated.state n lt)
    ∙ ap (λ (u : Update). replies.Answer (kind.answer (space_of kind w a.applied) u)) entry

-- what every node is done with, it has applied
applied_past : (nodes : ℕ) (target : ℕ → Target) (kind : Kind Space Answer) (w : Tables) (n place : ℕ)
    → AreReached nodes target kind w
    → n < nodes → Everywhere nodes w.nodes.world place → place < (w.nodes.world.actor n).applied
applied_past nodes target kind w n place reached lt everywhere =
    let one = everywhere n lt in
    let two = (kept nodes target kind w reached).stated.held.done n lt in
    omega (arith, one, two)

pub none_older : (nodes : ℕ) (target : ℕ → Target) (kind : Kind Space Answer) (w : Tables) (n place address : ℕ) (end : Walk)
    → AreReached nodes target kind w → n < nodes → Everywhere nodes w.nodes.world place → IsCanonical (target n).depth address
    → MayFind (target n).depth (target n).root (w.memory n) (Is (w.memory n) ∷ w.moments n) address end
    → (count : ℕ) × (place < count) × (end ≡ found_in kind w count address)
none_older nodes target kind w n place address end reached lt everywhere canonical found = (
  (w.nodes.world.actor n).applied,
  applied_past nodes target kind w n place reached lt everywhere,
  finds_between nodes target kind w n address end reached lt canonical found,
)

pub none_older_meanwhile : (nodes : ℕ) (target : ℕ → Target) (kind : Kind Space Answer) (w : Tables) (n place address done : ℕ)
    (end : Walk) (request : Request) (offered : List (Option ℕ)) (plan : Plan) (now : Memory) (lived : List Moment)
    → AreReached nodes target kind w → n < nodes
    → Everywhere nodes w.nodes.world place → MayApply (w.nodes.world.actor n) → IsPlanFor target kind w n request offered plan
    → done ≤ length plan.stores.items → IsMeanwhile w n plan done now lived → IsCanonical (target n).depth address
    → MayFind (target n).depth (target n).root now lived address end
    → (count : ℕ) × (place < count) × (end ≡ found_in kind w count address)
none_older_meanwhile nodes target kind w n place address done end request offered plan now lived reached lt everywhere may is le meanwhile
    canonical found =
    either (finds_meanwhile nodes target kind w n address done end request offered plan now lived reached lt may is le meanwhile canonical
    found) where
      past : place < (w.nodes.world.actor n).applied
      past = applied_past nodes target kind w n place reached lt everywhere

      either : (end ≡ found_in kind w (w.nodes.world.actor n).applied address)
          ⊎ (end ≡ found_in kind w ((w.nodes.world.actor n).applied + 1) address)
          → (count : ℕ) × (place < count) × (end ≡ found_in kind w count address)
      either (inl before) = ((w.nodes.world.actor n).applied, past, before)
      either (inr after) = ((w.nodes.world.actor n).applied + 1, omega (arith, past), after)
