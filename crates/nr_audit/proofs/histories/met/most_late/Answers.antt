use Rattle.std.proofs.Common.{◌≡◌, ◌+◌, ℕ, BTreeMap, get_or, Option, sym, ap, ◌∙◌, subst, arith}
use Rattle.std.specs.Prelude.{unwrap_or}
use Rattle.std.specs.BTreeMap.{get, is_at}
use Rattle.std.specs.Map.{lookup}
use Rattle.std.proofs.lemmas.Option.{slice_get-get_or}
use Rattle.vs_types.specs.declared.addresses.access.Access.TheVariants.{Read}
use Rattle.vs_types.specs.declared.addresses.access.Mode.TheVariants.{Supervisor}
use Rattle.vs_types.specs.declared.requests.answer.Answer.TheVariants.{Done}
use Rattle.nr_touch.specs.inside.Indexed.{row_cmp}
use Rattle.nr_touch.specs.declared.touches.touch.Touch.{Touch}
use Rattle.nr_audit.specs.Met.{is_late_by, late_by, IsMostLate}
use Rattle.nr_audit.proofs.MostLate.{count_few, next_known, next_most, none_yet, same_count, same_most}
use Rattle.nr_audit.proofs.histories.met.most_late.Goals as goal
use Rattle.nr_audit.proofs.histories.met.most_late.Goals.{then-is_late_at+in_ok-insert, else-is_late_at}

pub loop-index-init : goal.loop-index-init
loop-index-init c = record {
  known = λ thread address. ap (λ (o : Option ℕ). unwrap_or o 0) (ap (lookup (is_at (row_cmp (thread, address)))) c.new-known.ensures.empty);
  most = none_yet c.args.segment.now c.args.touches.now c.args.excuses.now;
}

-- what is read where nothing is
abbrev none : Touch
none = record { made = 0; answered = 0; known = 0; address = 0; mode = Supervisor; access = Read; answer = Done }

pub overflow_add-count : goal.overflow_add-count
overflow_add-count c =
    let address = (get_or c.args.touches.now c.loop-index.index none).address in
    let few = count_few (is_late_by c.args.segment.now c.args.touches.now c.args.excuses.now c.thread_at.result address) c.loop-index.index in
    let known = c.count_at-count.ensures ∙ c.loop-index.invariant.known c.thread_at.result address in
    omega (arith, few, known, c.loop-index-test.true, c.loop-index.auto.index-end)

pub loop-index-preserved : goal.loop-index-preserved
loop-index-preserved c =
    let segment = c.args.segment.now in
    let touches = c.args.touches.now in
    let list = c.args.excuses.now in
    let index = c.loop-index.index in
    let touch = get_or touches index none in
    let at = slice_get-get_or touches index none c.loop-index-test.true in
    elim c.if-is_late_at.branch [
      | then-is_late_at+in_ok-insert w ↦
          let late = sym w.if-is_late_at.true ∙ c.is_late_at.ensures in
          let count = w.count_at-count.result in
          let counted : count ≡ late_by segment touches list w.thread_at.result touch.address index =
          w.count_at-count.ensures ∙ c.loop-index.invariant.known w.thread_at.result touch.address in
          record {
            known = λ thread address. subst (λ (m : BTreeMap (ℕ × ℕ) ℕ). unwrap_or (get row_cmp m (thread, address)) 0
                ≡ late_by segment touches list thread address (index + 1)) (sym w.known-is)
                (next_known segment touches list index touch at late w.thread_at.result w.thread_at.ensures count counted thread address _
                (get row_cmp c.loop-index.known (thread, address)) (w.in_ok-insert.ensures.updates.0 (thread, address))
                (c.loop-index.invariant.known thread address));
            most = subst (IsMostLate segment touches list (index + 1)) (sym w.most-is)
                (next_most segment touches list index touch at late w.thread_at.result w.thread_at.ensures count counted c.loop-index.most w.max-most.result
                w.max-most.ensures c.loop-index.invariant.most);
          }
      | else-is_late_at w ↦
          let not_late = sym w.if-is_late_at.false ∙ c.is_late_at.ensures in
          record {
            known = λ thread address. subst (λ (m : BTreeMap (ℕ × ℕ) ℕ). unwrap_or (get row_cmp m (thread, address)) 0
                ≡ late_by segment touches list thread address (index + 1)) (sym w.known-is)
                (c.loop-index.invariant.known thread address ∙ sym (same_count segment touches list index not_late thread address));
            most = subst (IsMostLate segment touches list (index + 1)) (sym w.most-is)
                (same_most segment touches list index not_late c.loop-index.most c.loop-index.invariant.most);
          }
    ]

pub returns : goal.returns
returns c =
    subst (λ (n : ℕ). IsMostLate c.args.segment.now c.args.touches.now c.args.excuses.now n c.loop-index.most)
    (omega (arith, c.loop-index-test.false, c.loop-index.auto.index-end)) c.loop-index.invariant.most
