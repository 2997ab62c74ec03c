use Rattle.std.proofs.Common.{◌≡◌, ℕ, ◌+◌, ◌<◌, List, length, replicate, set, get_or, Some, None, Option, sym, ap, subst, ◌∙◌, arith}
use Rattle.std.specs.Prelude.{slice_get}
use Rattle.std.proofs.lemmas.Bool.{true≢false}
use Rattle.std.proofs.lemmas.List.{get_or_read}
use Rattle.std.proofs.lemmas.Option.{slice_get-get_or}
use Rattle.nr_trace.specs.declared.refusals.fault.Fault.TheVariants.{NotAnUpdate, PlacedTwice}
use Rattle.nr_audit.specs.inside.Search.{HasNone}
use Rattle.nr_audit.specs.inside.Passes.{IsLogFaultAt}
use Rattle.nr_audit.proofs.CallsAndReplies.{read_gone, read_some}
use Rattle.nr_audit.proofs.Ranks.{more_of}
use Rattle.nr_audit.proofs.LogFaults.{ArePlacesBelow, logged_at_start, first_log_fault, no_log_fault, places_at_end, update_within, first_no_update}
use Rattle.nr_audit.proofs.LogFaults.{first_placed_twice, none_at_place, logged_after}
use Rattle.nr_audit.proofs.histories.log.check_log.Goals as goal

-- the call at a place, as it is read from the log
has : (log real : List ℕ) (place : ℕ) → log ≡ real → place < length log → slice_get real place ≡ Some (get_or log place 0)
has log real place same lt = subst (λ (xs : List ℕ). slice_get xs place ≡ Some (get_or log place 0)) same (slice_get-get_or log place 0 lt)

-- src/log.rt:24:5
pub loop-place-init : goal.loop-place-init
loop-place-init c = record {
  logged = logged_at_start c.args.history.now c.in_ok-places.places.items (c.in_ok-places.ensures
      ∙ ap (λ n. replicate {A = Option ℕ} n None) (ap length c.events.ensures.reads));
  none = λ lower lt. absurd (omega arith);
}

-- src/log.rt:26:13
pub returns-then-not-is_update-clause-first : goal.returns-then-not-is_update-clause-first
returns-then-not-is_update-clause-first c =
    first_log_fault c.args.history.now c.loop-place.place (NotAnUpdate c.loop-place.place) c.loop-place.invariant.none
    (first_no_update c.args.history.now c.loop-place.place _ c.loop-place.places.items c.loop-place.invariant.logged
    (has _ _ _ c.log-log.ensures.reads c.loop-place-test.true)
    (λ update. true≢false (sym update ∙ sym c.is_update.ensures ∙ c.if-not-is_update.true)))

-- src/log.rt:28:12
pub index-requires : goal.index-requires
index-requires c =
    let within = update_within c.args.history.now (get_or c.log-log.result.now c.loop-place.place 0) (sym c.is_update.ensures ∙ c.if-not-is_update.false) in
    omega (arith, c.loop-place.invariant.logged.one_each, c.loop-place.places.ok.0)

-- src/log.rt:29:13
pub returns-then-is_some-clause-first : goal.returns-then-is_some-clause-first
returns-then-is_some-clause-first c =
    let update = sym c.is_update.ensures ∙ c.if-not-is_update.false in
    let within = update_within c.args.history.now (get_or c.log-log.result.now c.loop-place.place 0) update in
    let read = get_or_read c.loop-place.places.items (get_or c.log-log.result.now c.loop-place.place 0) c.index.result.now
    (omega (arith, c.loop-place.invariant.logged.one_each)) c.index.ensures None in
    first_log_fault c.args.history.now c.loop-place.place (PlacedTwice c.loop-place.place) c.loop-place.invariant.none
    (first_placed_twice c.args.history.now c.loop-place.place _ c.loop-place.places.items c.loop-place.invariant.logged
    (has _ _ _ c.log-log.ensures.reads c.loop-place-test.true)
    update (read_some _ _ _ (c.get.ensures ∙ read) (sym c.is_some.ensures) c.if-is_some.true))

-- src/log.rt:31:9
pub index_mut-requires : goal.index_mut-requires
index_mut-requires c =
    let within = update_within c.args.history.now (get_or c.log-log.result.now c.loop-place.place 0) (sym c.is_update.ensures ∙ c.if-not-is_update.false) in
    omega (arith, c.loop-place.invariant.logged.one_each, c.loop-place.places.ok.0)

-- src/log.rt:24:5
pub loop-place-preserved : goal.loop-place-preserved
loop-place-preserved c =
    let update = sym c.is_update.ensures ∙ c.if-not-is_update.false in
    let within = update_within c.args.history.now (get_or c.log-log.result.now c.loop-place.place 0) update in
    let read = get_or_read c.loop-place.places.items (get_or c.log-log.result.now c.loop-place.place 0) c.index.result.now
    (omega (arith, c.loop-place.invariant.logged.one_each)) c.index.ensures None in
    let none = read_gone _ _ _ (c.get.ensures ∙ read) (sym c.is_some.ensures) c.if-is_some.false in
    let at = has _ _ _ c.log-log.ensures.reads c.loop-place-test.true in
    record {
      logged = subst (λ o. ArePlacesBelow c.args.history.now (c.loop-place.place + 1)
          (set c.loop-place.places.items (get_or c.log-log.result.now c.loop-place.place 0) o)) (sym c.of.ensures)
          (logged_after c.args.history.now c.loop-place.place _ c.loop-place.places.items c.loop-place.invariant.logged at update none);
      none = more_of IsLogFaultAt c.args.history.now c.loop-place.place c.loop-place.invariant.none
          (none_at_place c.args.history.now c.loop-place.place _ c.loop-place.places.items c.loop-place.invariant.logged at update none);
    }

-- src/log.rt:16:1
pub returns-clause-table : goal.returns-clause-table
returns-clause-table c =
    let at_end : c.loop-place.place ≡ length c.args.history.now.log = omega (arith, ap length c.log-log.ensures.reads) in
    places_at_end c.args.history.now c.loop-place.places.items
    (subst (λ n. ArePlacesBelow c.args.history.now n c.loop-place.places.items) at_end c.loop-place.invariant.logged)

-- src/log.rt:16:1
pub returns-clause-clean : goal.returns-clause-clean
returns-clause-clean c =
    let at_end : c.loop-place.place ≡ length c.args.history.now.log = omega (arith, ap length c.log-log.ensures.reads) in
    no_log_fault c.args.history.now (subst (λ n. (lower : ℕ) → lower < n → HasNone (IsLogFaultAt lower) c.args.history.now) at_end c.loop-place.invariant.none)
