use Rattle.std.proofs.Common.{◌≡◌, ◌++◌, ◌≤◌, List, drop, length, take, ap, sym, ◌∙◌, arith}
use Rattle.std.proofs.lemmas.Bool.{ne_eqb}
use Rattle.std.proofs.lemmas.List.{length-take-le, take-append-le, take_all}
use Rattle.nr_touch.specs.declared.touches.tail.Left.{Left}
use Rattle.nr_touch.proofs.cuts.Levels.{levels_more}
use Rattle.nr_touch.proofs.cuts.Thinned.{merged_looks, merged_sound, sound_rows}
use Rattle.nr_touch.proofs.touches.tail.left_after.Goals as goal

pub thinned-requires : goal.thinned-requires
thinned-requires c =
    rw (c.deref-4.ensures.value, c.in_ok-rows.ensures, c.deref-3.ensures.value) (record {
      few =
          let many = rw c.deref-3.ensures.value at (ap length c.in_ok-rows.ensures) in
          let few = c.if-len-start.false in
          omega (arith, many, few, c.len.ensures, c.in_ok-rows.rows.ok.0);
      each = sound_rows c.args.changes.items c.args.own.now c.merged-keep.result.1 c.requires.changes.each c.requires.own;
    })

pub placed-requires-clause-each : goal.placed-requires-clause-each
placed-requires-clause-each c = rw c.deref-5.ensures.value c.in_ok-kept.ensures.sound.each

pub returns-clause-looks : goal.returns-clause-looks
returns-clause-looks c =
    let rows = c.deref-4.ensures.value ∙ c.in_ok-rows.ensures
    ∙ ap (λ (xs : List Left). drop c.merged-keep.result.1 xs ++ c.args.own.now) c.deref-3.ensures.value in
    rw (c.in_ok-extend_from_slice.ensures.items, c.truncate-2.ensures.items, c.deref-6.ensures.value)
    (merged_looks c.args.changes.items c.args.own.now c.merged-keep.result.1 c.in_ok-kept.kept.items (rw rows at c.in_ok-kept.ensures.looks)
    (λ some. rw rows at (c.in_ok-kept.ensures.ends (ne_eqb c.merged-keep.result.1 0 (λ none. omega (arith, some, none))))))

pub returns-clause-sound : goal.returns-clause-sound
returns-clause-sound c =
    let rows = c.deref-4.ensures.value ∙ c.in_ok-rows.ensures
    ∙ ap (λ (xs : List Left). drop c.merged-keep.result.1 xs ++ c.args.own.now) c.deref-3.ensures.value in
    let many : length c.in_ok-rows.rows.items ≡ length (drop c.merged-keep.result.1 c.args.changes.items ++ c.args.own.now) =
    ap length (sym c.deref-4.ensures.value ∙ rows) in
    let few = c.if-len-start.false in
    rw (c.in_ok-extend_from_slice.ensures.items, c.truncate-2.ensures.items, c.deref-6.ensures.value)
    (merged_sound c.args.changes.items c.args.own.now c.merged-keep.result.1 c.in_ok-kept.kept.items c.requires.changes c.in_ok-kept.ensures.sound
    (rw c.deref.ensures.value at c.merged-keep.ensures.within) (rw rows at c.in_ok-kept.ensures.fewer)
    (omega (arith, few, many, c.len.ensures, c.in_ok-rows.rows.ok.0)))

pub returns-clause-levels : goal.returns-clause-levels
returns-clause-levels c =
    let start = c.merged-keep.result.1 in
    let within : start ≤ length c.args.changes.items = rw c.deref.ensures.value at c.merged-keep.ensures.within in
    let placed = rw (c.deref-5.ensures.value, sym (length-take-le start c.args.changes.items within)) at c.in_ok-placed.ensures.each in
    rw (c.in_ok-extend_from_slice.ensures.items, c.truncate-2.ensures.items, c.deref-6.ensures.value, c.in_ok-push.ensures.items, c.truncate.ensures.items)
    (levels_more (take start c.args.changes.items) c.in_ok-kept.kept.items (take c.merged-keep.result.0 c.args.levels.items) c.in_ok-placed.field-0.items
    c.in_ok-of.field-0 (rw (c.deref.ensures.value, c.deref-2.ensures.value) at c.merged-keep.ensures.levels) placed c.in_ok-of.ensures.same
    c.in_ok-of.ensures.columns)

pub returns-clause-kept : goal.returns-clause-kept
returns-clause-kept c =
    let start = c.merged-keep.result.1 in
    let front = take start c.args.changes.items in
    let within : start ≤ length c.args.changes.items = rw c.deref.ensures.value at c.merged-keep.ensures.within in
    let many : length front ≡ start = length-take-le start c.args.changes.items within in
    rw (c.in_ok-extend_from_slice.ensures.items, c.truncate-2.ensures.items, c.deref-6.ensures.value)
    (take-append-le start front c.in_ok-kept.kept.items (omega (arith, many)) ∙ take_all start front (omega (arith, many)))
