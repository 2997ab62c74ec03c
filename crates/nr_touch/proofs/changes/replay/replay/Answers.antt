use Rattle.std.proofs.Common.{◌≡◌, ℕ, ◌+◌, ◌<◌, ◌^◌, ◌↔◌, length, get_or, take, Some, None, IsSome, refl, sym, ap, ◌∙◌, subst, arith}
use Rattle.std.proofs.Math.Seq.{take-length}
use Rattle.std.proofs.lemmas.List.{get_or_read}
use Rattle.vs_types.specs.Step.{step}
use Rattle.nr_trace.specs.Calls.{Answers, operation_of}
use Rattle.nr_trace.specs.Orders.{space_from}
use Rattle.nr_trace.proofs.LawsOfCalls.{the_some, call_within, placed_is_update, update_is_call}
use Rattle.vs_types.specs.declared.limits.TheConstants.{LOG_PLACES}
use Rattle.nr_trace.proofs.LawsOfSteps.{space_next}
use Rattle.nr_touch.specs.inside.Changes.{AreChangesBelow, IsChange}
use Rattle.nr_touch.proofs.Replayed.{change_fits, none_listed, none_rise, listed_more, listed_rises, read_log}
use Rattle.nr_touch.proofs.Undone.{listed_leads, listed_numbered}
use Rattle.nr_touch.proofs.changes.replay.replay.Goals as goal

pub loop-place-init : goal.loop-place-init
loop-place-init c =
    let none = c.new-changes.ensures.items in
    record {
      depth = c.requires.depth;
      limit = c.requires.limit;
      leads = rw none refl;
      numbered = λ change (k, l, at). absurd (let empty = ap length none in omega (arith, l, empty));
      rising = none_rise c.new-changes.result.items none;
      clean = λ clean. record {
        reached = refl;
        are = none_listed c.args.start.space c.args.trace.now c.new-changes.result.items none;
      };
    }

pub index-requires : goal.index-requires
index-requires c =
    let trace = c.args.trace.now in
    let call = get_or c.log-call-items.result.now c.loop-place.place 0 in
    let op : operation_of trace call ≡ Some c.in-Some.op = sym c.operation_of.ensures.asks ∙ c.in-Some.is in
    let within = call_within trace call (update_is_call trace call (subst IsSome (sym op) refl)) in
    let many = c.in_ok-replies.ensures.one_each in
    omega (arith, within, many, c.in_ok-replies.replies.ok.0)

pub list-requires : goal.list-requires
list-requires c =
    change_fits c.loop-place.space.depth c.loop-place.space.space c.apply.new.space.space c.in_ok-change.change
    c.in_ok-change.ensures.change

pub loop-place-preserved-in-None : goal.loop-place-preserved-in-None
loop-place-preserved-in-None c =
    let inv = c.loop-place.invariant in
    record {
      depth = inv.depth;
      limit = inv.limit;
      leads = inv.leads;
      numbered = λ change has. let (is, low) = inv.numbered change has in (is, omega (arith, low));
      rising = inv.rising;
      clean = λ clean. absurd (
          let trace = c.args.trace.now in
          let place = c.loop-place.place in
          let call = get_or c.log-call-items.result.now place 0 in
          let placed = read_log trace c.log-call-items.result.now place c.log-call-items.ensures.reads c.loop-place-test.true in
          let op = the_some (operation_of trace call) (placed_is_update trace place call clean placed) in
          let none : operation_of trace call ≡ None = sym c.operation_of.ensures.asks ∙ c.in-None.is in
          let some = op.1 in
          cc);
    }

pub loop-place-preserved : goal.loop-place-preserved
loop-place-preserved c =
    let trace = c.args.trace.now in
    let start = c.args.start.space in
    let place = c.loop-place.place in
    let inv = c.loop-place.invariant in
    let call = get_or c.log-call-items.result.now place 0 in
    let placed = read_log trace c.log-call-items.result.now place c.log-call-items.ensures.reads c.loop-place-test.true in
    let op : operation_of trace call ≡ Some c.in-Some.op = sym c.operation_of.ensures.asks ∙ c.in-Some.is in
    let stepped = c.in_ok-change.ensures.stepped in
    let old = c.loop-place.space in
    let new = c.apply.new.space in
    let depth = trace.layout.depth in
    let limit = trace.layout.tables in
    let change = c.in_ok-change.change in
    let changed : IsChange old.depth old.space new.space change =
    c.in_ok-change.ensures.change in
    let replies = c.in_ok-replies.replies.items in
    let known = c.in_ok-replies.ensures in
    let is_call = call_within trace call (update_is_call trace call (subst IsSome (sym op) refl)) in
    let within : call < length replies = let many = known.one_each in omega (arith, is_call, many) in
    let read = get_or_read replies call c.index.result.now within c.index.ensures 0 in
    let told : (event : ℕ) → event < 2 ^ 32 → (c.index.result.now < event) ↔ ((reply : ℕ) × (reply < event) × Answers trace reply call) =
    rw read (λ event fits. known.first call event within fits) in
    let few : place < LOG_PLACES =
    (let most = c.log-call-items.ensures.in_range.few_places in let same = ap length c.log-call-items.ensures.reads in
    omega (arith, c.loop-place-test.true, most, same)) in
    record {
      depth = ap (λ s. s.depth) stepped ∙ inv.depth;
      limit = ap (λ s. s.limit) stepped ∙ inv.limit;
      leads = rw c.in_ok-list.ensures
          (listed_leads c.args.start.depth start c.loop-place.changes.items old.space new.space change place call c.index.result.now inv.leads
          (rw (inv.depth ∙ sym c.requires.depth) at c.in_ok-change.ensures.leads));
      numbered = rw c.in_ok-list.ensures
          (listed_numbered old.depth old.space new.space c.loop-place.changes.items place change call c.index.result.now few changed inv.numbered);
      rising = rw c.in_ok-list.ensures
          (listed_rises c.loop-place.changes.items place (λ each has. (inv.numbered each has).1) change call c.index.result.now inv.rising);
      clean = λ clean.
          let done = inv.clean clean in
          let before = space_from start trace (take place trace.log) in
          let after : new.space ≡ space_from start trace (take (place + 1) trace.log) =
          ap (λ s. s.space) stepped
          ∙ ap (λ d. (step d old.limit old.space c.in-Some.op).space) inv.depth
          ∙ ap (λ n. (step depth n old.space c.in-Some.op).space) inv.limit
          ∙ ap (λ s. (step depth limit s c.in-Some.op).space) done.reached
          ∙ sym (space_next start trace place call c.in-Some.op placed op) in
          let changes : IsChange depth before (space_from start trace (take (place + 1) trace.log)) change = rw (inv.depth, done.reached, after) at changed in
          record {
            reached = after;
            are = rw c.in_ok-list.ensures
                (listed_more start trace c.loop-place.changes.items place done.are change call c.index.result.now placed told changes);
          };
    }

pub returns-clause-numbered : goal.returns-clause-numbered
returns-clause-numbered c = λ change has. (c.loop-place.invariant.numbered change has).0

pub returns-clause-leads : goal.returns-clause-leads
returns-clause-leads c = c.loop-place.invariant.leads

pub returns-clause-changes : goal.returns-clause-changes
returns-clause-changes c = λ clean.
    let all = ap length c.log-call-items.ensures.reads in
    let end : c.loop-place.place ≡ length c.args.trace.now.log = omega (arith, all, c.loop-place-test.false, c.loop-place.auto.place-end) in
    subst (AreChangesBelow c.args.start.space c.args.trace.now c.loop-place.changes.items) end (c.loop-place.invariant.clean clean).are

pub returns-clause-space : goal.returns-clause-space
returns-clause-space c = λ clean.
    let trace = c.args.trace.now in
    let all = ap length c.log-call-items.ensures.reads in
    let end : c.loop-place.place ≡ length trace.log = omega (arith, all, c.loop-place-test.false, c.loop-place.auto.place-end) in
    (c.loop-place.invariant.clean clean).reached
    ∙ ap (space_from c.args.start.space trace) (ap (λ n. take n trace.log) end ∙ take-length trace.log)
