use Rattle.std.proofs.Common.{ℕ, ◌-◌, ◌<◌, inl, inr, List, length, slice_get, sym, ap, ◌∙◌, subst, arith}
use Rattle.std.proofs.lemmas.Bool.{cases_lt, false≢true}
use Rattle.std.proofs.lemmas.List.{get_or_read}
use Rattle.nr_touch.specs.inside.Stays.{AreRoomy}
use Rattle.nr_touch.specs.declared.releases.stays.Stay.{Stay}
use Rattle.nr_touch.specs.inside.Overs.{AreOver}
use Rattle.nr_touch.proofs.ChangedRows.{none_begun, one_more, other_block, stretch_more, NoneLeadsFrom}
use Rattle.nr_touch.proofs.OverRows.{all_over, ended_over, none_of_block, over_from, row_over, settled_over, stretch_over}
use Rattle.nr_touch.proofs.StretchRows.{begins_before}
use Rattle.nr_touch.proofs.releases.changed.leads_in_rows.Goals as goal

pub loop-end-init : goal.loop-end-init
loop-end-init c =
    let found = c.begun-end.ensures.found in
    record {
      within = found.within;
      most = found.before;
      none = λ b. none_begun b c.args.release.now c.args.changed.now.stays.items c.args.changed.now.lives c.args.block c.begun-end.result found;
      over = λ b known. over_from b c.args.changed.now c.args.release.now c.args.block c.begun-end.result c.args.before known;
    }

pub index-own-requires : goal.index-own-requires
index-own-requires c = let within = c.loop-end.invariant.within in omega (arith, within, c.loop-end-test.true, c.args.changed.now.lives.blocks.ok.0)

-- a row of another block: none of this one lies before it
pub returns-then-own-block-clause-whole : goal.returns-then-own-block-clause-whole
returns-then-own-block-clause-whole c = λ b stay known has of from until leads.
    let lives = c.args.changed.now.lives in
    let inv = c.loop-end.invariant in
    let last = c.loop-end.end - 1 in
    let test : 0 < c.loop-end.end = omega (arith, c.loop-end-test.true) in
    let within : last < length lives.blocks.items = let w = inv.within in omega (arith, test, w) in
    let value = get_or_read lives.blocks.items last c.index-own.result.now within c.index-own.ensures 0 in
    absurd (none_of_block b c.args.changed.now c.args.release.now c.args.block c.requires.rows.rows c.args.before c.loop-end.end (λ k past low own.
    other_block lives c.requires.rows.lives c.args.block last within (inv.most last (omega (arith, test))) (λ e. c.if-own-block.true (value ∙ e)) k
    (omega (arith, low, test)) own) known (inv.none b) stay has of from until leads)

pub returns-then-own-block-clause-over : goal.returns-then-own-block-clause-over
returns-then-own-block-clause-over c = λ b known is.
    let lives = c.args.changed.now.lives in
    let inv = c.loop-end.invariant in
    let last = c.loop-end.end - 1 in
    let test : 0 < c.loop-end.end = omega (arith, c.loop-end-test.true) in
    let within : last < length lives.blocks.items = let w = inv.within in omega (arith, test, w) in
    let value = get_or_read lives.blocks.items last c.index-own.result.now within c.index-own.ensures 0 in
    all_over b c.args.changed.now c.args.release.now c.args.block c.args.before c.loop-end.end c.loop-end.over (λ k past low own.
    other_block lives c.requires.rows.lives c.args.block last within (inv.most last (omega (arith, test))) (λ e. c.if-own-block.true (value ∙ e)) k
    (omega (arith, low, test)) own) known (inv.over b known)

pub index-until-requires : goal.index-until-requires
index-until-requires c =
    let within = c.loop-end.invariant.within in
    let many = c.requires.rows.lives.rows in
    let lasts = c.requires.rows.stretches.lasts in
    omega (arith, within, many, lasts, c.loop-end-test.true, c.args.changed.now.stretches.until.ok.0)

pub index-end-requires : goal.index-end-requires
index-end-requires c =
    let within = c.loop-end.invariant.within in
    let many = c.requires.rows.lives.rows in
    let firsts = c.requires.rows.stretches.firsts in
    omega (arith, within, many, firsts, c.loop-end-test.true, c.args.changed.now.stretches.since.ok.0)

pub loop-end-smaller-then-until-made : goal.loop-end-smaller-then-until-made
loop-end-smaller-then-until-made c =
    let within = c.loop-end.invariant.within in
    let many = c.requires.rows.lives.rows in
    (begins_before c.requires.rows.stretches c.loop-end.end c.index-end.result.now (omega (arith, c.loop-end-test.true)) (omega (arith, within, many))
    c.index-end.ensures).1

pub loop-end-preserved-then-until-made : goal.loop-end-preserved-then-until-made
loop-end-preserved-then-until-made c =
    let lives = c.args.changed.now.lives in
    let stays = c.args.changed.now.stays.items in
    let stretches = c.args.changed.now.stretches in
    let inv = c.loop-end.invariant in
    let last = c.loop-end.end - 1 in
    let test : 0 < c.loop-end.end = omega (arith, c.loop-end-test.true) in
    let w = inv.within in
    let many = c.requires.rows.lives.rows in
    let lasts = c.requires.rows.stretches.lasts in
    let within : last < length lives.rows.items = omega (arith, test, w, many) in
    let (value, low) = begins_before c.requires.rows.stretches c.loop-end.end c.index-end.result.now test (omega (arith, w, many)) c.index-end.ensures in
    let ends = get_or_read stretches.until.items last c.index-until.result.now (omega (arith, within, lasts)) c.index-until.ensures 0 in
    record {
      within = omega (arith, low, w);
      most = λ k less. inv.most k (omega (arith, less, low));
      none = λ b. subst (NoneLeadsFrom b c.args.release.now stays lives c.args.block) (sym value)
          (stretch_more b c.args.release.now stays lives c.args.block stretches.since.items stretches.until.items
          c.requires.rows.stretches last c.loop-end.end (omega (arith, test)) within (omega (arith, ends, c.if-until-made.true)) (inv.none b));
      over = λ b known.
          subst (λ (begin : ℕ). AreOver b c.args.changed.now c.args.release.now c.args.block begin c.loop-end.over) (sym value)
          (stretch_over b c.args.changed.now c.args.release.now c.args.block c.requires.rows.stretches last
          c.loop-end.end c.loop-end.over (omega (arith, test)) within (omega (arith, ends, c.if-until-made.true)) (inv.over b known));
    }

pub index-row-requires : goal.index-row-requires
index-row-requires c =
    let within = c.loop-end.invariant.within in
    let many = c.requires.rows.lives.rows in
    omega (arith, within, many, c.loop-end-test.true, c.args.changed.now.lives.rows.ok.0)

pub leads_in_row-requires-clause-roomy : goal.leads_in_row-requires-clause-roomy
leads_in_row-requires-clause-roomy c = subst AreRoomy (sym c.deref.ensures.value) c.requires.rows.roomy

pub returns-then-leads_in_row-clause-sound : goal.returns-then-leads_in_row-clause-sound
returns-then-leads_in_row-clause-sound c = λ b t. c.leads_in_row.ensures.sound b c.if-leads_in_row.true

pub loop-end-preserved : goal.loop-end-preserved
loop-end-preserved c =
    let lives = c.args.changed.now.lives in
    let stays = c.args.changed.now.stays.items in
    let inv = c.loop-end.invariant in
    let last = c.loop-end.end - 1 in
    let test : 0 < c.loop-end.end = omega (arith, c.loop-end-test.true) in
    let within : last < length lives.rows.items = let w = inv.within in let many = c.requires.rows.lives.rows in omega (arith, test, w, many) in
    let row = get_or_read lives.rows.items last c.index-row.result.now within c.index-row.ensures 0 in
    record {
      within = let w = inv.within in omega (arith, test, w);
      most = λ k low. inv.most k (omega (arith, low, test));
      none = λ b. one_more b c.args.release.now stays lives c.args.block last c.loop-end.end (omega (arith, test))
          (λ stay at until leads. false≢true (sym c.if-leads_in_row.false ∙ c.leads_in_row.ensures.whole b stay
          (ap (λ (xs : List Stay). slice_get xs c.index-row.result.now) c.deref.ensures.value ∙ ap (slice_get stays) row ∙ at) until leads)) (inv.none b);
      over = λ b known. row_over b c.args.changed.now c.args.release.now c.args.block last c.loop-end.end c.loop-end.over
          c.is_row_over-is_over.result c.over_with-over.result (omega (arith, test)) c.over_with-over.ensures
          (λ is stay at. elim (c.is_row_over-is_over.ensures is stay
          (ap (λ (xs : List Stay). slice_get xs c.index-row.result.now) c.deref-else-until-made.ensures.value ∙ ap (slice_get stays) row ∙ at)) [
            | inl ended ↦ ended_over b c.args.release.now stay ended
            | inr settled ↦ elim (cases_lt stay.until c.args.release.now.made) [
              | inr there ↦ settled_over b c.args.release.now stay settled (λ leads. false≢true (sym c.if-leads_in_row.false
                  ∙ c.leads_in_row.ensures.whole b stay
                  (ap (λ (xs : List Stay). slice_get xs c.index-row.result.now) c.deref.ensures.value ∙ ap (slice_get stays) row ∙ at) there leads))
              | inl ended ↦ ended_over b c.args.release.now stay ended
            ]
          ]) (inv.over b known);
    }

pub is_row_over-is_over-requires-clause-roomy : goal.is_row_over-is_over-requires-clause-roomy
is_row_over-is_over-requires-clause-roomy c = subst AreRoomy (sym c.deref-else-until-made.ensures.value) c.requires.rows.roomy

pub returns-clause-whole : goal.returns-clause-whole
returns-clause-whole c = λ b stay known has of from until leads.
    let test = c.loop-end-test.false in
    absurd (none_of_block b c.args.changed.now c.args.release.now c.args.block c.requires.rows.rows c.args.before
    c.loop-end.end (λ k past low own. omega (arith, past, low, test)) known (c.loop-end.invariant.none b) stay has of from until leads)

pub returns-clause-over : goal.returns-clause-over
returns-clause-over c = λ b known is.
    let test = c.loop-end-test.false in
    all_over b c.args.changed.now c.args.release.now c.args.block c.args.before c.loop-end.end c.loop-end.over
    (λ k past low own. omega (arith, past, low, test)) known (c.loop-end.invariant.over b known)
