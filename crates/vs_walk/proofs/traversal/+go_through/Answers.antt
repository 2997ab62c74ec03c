use Rattle.std.proofs.Common.{◌≡◌, ◌+◌, ◌<◌, [], ◌∷◌, Some, None, sym, ap, ◌∙◌, subst, refl, get_or, length, arith, Contains}
use Rattle.std.proofs.lemmas.Result.{err_from_is_err_and}
use Rattle.std.specs.FinMap as finite
use Rattle.vs_types.specs.declared.entries.kind.EntryKind.TheVariants as entry
use Rattle.vs_walk.specs.InFormat.{table_visits_in}
use Rattle.vs_walk.specs.Traversal.{OfFrame, OfLeaf}
use Rattle.vs_walk.specs.inside.Traversed.{GoesOn, Stops, TakesFound, table_at}
use Rattle.vs_walk.specs.declared.walk.WalkFault.TheVariants.{Missing, Shared, Reserved}
use Rattle.vs_walk.proofs.TraversalVisits.{stops_before, takes_none, none_on, finds_on, meets_stops, missing_stops, shared_stops, new_on}
use Rattle.vs_walk.proofs.TraversalWords.{missing_is, begun, all_met, means, leads_below, refused_at, goes_to_next, takes_to_next, stops_at_word, zeros_met}
use Rattle.vs_walk.proofs.traversal.+go_through.Goals.{in-Absent, in-Leaf+in_ok-visit-in-Leaf, in-Table+in_ok-go_through-in-Table}
use Rattle.vs_walk.proofs.traversal.+go_through.Goals as goal

pub returns-in_default-clause-stops : goal.returns-in_default-clause-stops
returns-in_default-clause-stops g t c =
    let f = g.E.EntryFormat.format c.args.format in
    let memory = g.F.Frames.memory c.args.frames.now in
    let none : finite.get memory c.args.place.number ≡ None = sym c.in_default.ensures in
    subst (λ ms. Stops memory c.args.marks.now ms (Missing c.args.place.number))
    (sym (missing_is f memory c.args.place.level (table_at c.args.place) c.requires.fits.lowest none))
    (missing_stops memory c.args.marks.now c.args.place.number none)

pub returns-then-not-branch-clause-stops : goal.returns-then-not-branch-clause-stops
returns-then-not-branch-clause-stops g t c =
    let f = g.E.EntryFormat.format c.args.format in
    let memory = g.F.Frames.memory c.args.frames.now in
    let words = c.in-Some.words in
    let some : finite.get memory c.args.place.number ≡ Some words = sym c.in-Some.ensures in
    let held : Contains c.args.marks.now c.args.place.number = c.in_ok-add.ensures.new.0 (rw c.if-not-branch.true refl) in
    subst (λ ms. Stops memory c.args.marks.now ms (Shared c.args.place.number))
    (sym (begun f memory c.args.place.level (table_at c.args.place) words c.requires.fits.lowest some))
    (stops_before memory c.args.marks.now (OfFrame c.args.place.number ∷ []) _ (Shared c.args.place.number)
    (shared_stops memory c.args.marks.now c.args.place.number words some held))

pub loop-next-init : goal.loop-next-init
loop-next-init g t c =
    let f = g.E.EntryFormat.format c.args.format in
    let memory = g.F.Frames.memory c.args.frames.now in
    let words = c.in-Some.words in
    let some : finite.get memory c.args.place.number ≡ Some words = sym c.in-Some.ensures in
    let passed = zeros_met f c.requires.format memory c.args.place.level (table_at c.args.place) words 0 c.next_word-next.result.index
    c.next_word-next.ensures.next.behind
    (omega (arith, c.next_word-next.ensures.next.within, c.next_word-next.ensures.whole)) c.next_word-next.ensures.next.zeros in
    record {
      word = c.next_word-next.ensures.next.word;
      goes_on = subst (GoesOn memory c.args.marks.now c.add.new.self) (sym passed)
          (new_on memory c.args.marks.now c.add.new.self c.in_ok-add.field-0 c.args.place.number words some c.in_ok-add.ensures.new c.if-not-branch.false
          c.in_ok-add.ensures.added);
      takes = subst (TakesFound (g.V.VisitorOf.HasVisited c.args.visitor.now) (g.V.VisitorOf.HasVisited c.args.visitor.now)) (sym passed)
          (takes_none g.V.VisitorOf.HasVisited c.args.visitor.now (OfFrame c.args.place.number ∷ []) refl);
    }

pub returns-in-Reserved-clause-stops : goal.returns-in-Reserved-clause-stops
returns-in-Reserved-clause-stops g t c =
    let f = g.E.EntryFormat.format c.args.format in
    let memory = g.F.Frames.memory c.args.frames.now in
    let words = c.in-Some.words in
    let table = table_at c.args.place in
    let some : finite.get memory c.args.place.number ≡ Some words = sym c.in-Some.ensures in
    let is : f.kind c.args.place.level (get_or words c.loop-next.next.index 0) ≡ entry.Reserved =
    ap (f.kind c.args.place.level) (sym c.loop-next.invariant.word)
    ∙ sym c.kind.ensures ∙ c.in-Reserved.is in
    stops_at_word f memory c.args.place.level table words c.loop-next.next.index c.args.marks.now c.loop-next.marks _
    (Reserved c.args.place.number c.loop-next.next.index)
    c.requires.fits.lowest some (omega (arith, c.loop-next-test.true, c.next_word-next.ensures.whole))
    (means f memory c.args.place.level table c.loop-next.next.index (get_or words c.loop-next.next.index 0) entry.Reserved is)
    c.loop-next.invariant.goes_on
    (meets_stops memory c.loop-next.marks c.args.place.number c.loop-next.next.index)

pub below-lower-requires-clause-lower : goal.below-lower-requires-clause-lower
below-lower-requires-clause-lower g t c =
    c.requires.format.table_level c.args.place.level c.loop-next.next.word c.in-Table.number c.in-Table.own c.requires.fits.lowest
    (sym c.kind.ensures ∙ c.in-Table.is)

pub go_through-requires : goal.go_through-requires
go_through-requires g t c κs within = (
  let less = c.below-lower.ensures.level in let now = c.decreases in let some = c.requires.fits.lowest in
      omega arith,
  (within.0, (within.1.0, (within.1.1.0, (within.1.1.1.0, (within.1.1.1.1, (c.requires.format, c.below-lower.ensures.fits)))))),
)

pub returns-in_err-go_through-in-Table-clause-stops :
    goal.returns-in_err-go_through-in-Table-clause-stops
returns-in_err-go_through-in-Table-clause-stops g t c =
    let f = g.E.EntryFormat.format c.args.format in
    let memory = g.F.Frames.memory c.args.frames.now in
    let words = c.in-Some.words in
    let table = table_at c.args.place in
    let index = c.loop-next.next.index in
    let some : finite.get memory c.args.place.number ≡ Some words = sym c.in-Some.ensures in
    let p = err_from_is_err_and c.from_residual-in_err-go_through-in-Table.result c.from_residual-in_err-go_through-in-Table.ensures.1 in
    rw (p.1, p.2)
    (refused_at c.in_err-go_through-in-Table.field-0.0 (λ fault stops.
    stops_at_word f memory c.args.place.level table words index c.args.marks.now c.loop-next.marks
    (table_visits_in f memory c.below-lower.result.level (table_at c.below-lower.result)) fault
    c.requires.fits.lowest some (omega (arith, c.loop-next-test.true, c.next_word-next.ensures.whole))
    (leads_below f memory c.args.place c.below-lower.result index (get_or words index 0) c.in-Table.number c.in-Table.own
    (ap (f.kind c.args.place.level) (sym c.loop-next.invariant.word) ∙ sym c.in-Table.ensures) c.below-lower.ensures.level
    c.below-lower.ensures.stands)
    c.loop-next.invariant.goes_on stops)
    c.in_err-go_through-in-Table.ensures.stops)

pub loop-next-preserved : goal.loop-next-preserved
loop-next-preserved g t c =
    let f = g.E.EntryFormat.format c.args.format in
    let memory = g.F.Frames.memory c.args.frames.now in
    let words = c.in-Some.words in
    let table = table_at c.args.place in
    let index = c.loop-next.next.index in
    let within : index < length words = omega (arith, c.loop-next-test.true, c.next_word-next.ensures.whole) in
    let read : f.kind c.args.place.level (get_or words index 0) ≡ c.kind.result =
    ap (f.kind c.args.place.level) (sym c.loop-next.invariant.word) ∙ sym c.kind.ensures in
    let next = c.next_word-next-in-loop-next.result.index in
    let passed = zeros_met f c.requires.format memory c.args.place.level table words (index + 1) next c.next_word-next-in-loop-next.ensures.next.behind
    (omega (arith, c.next_word-next-in-loop-next.ensures.next.within, c.next_word-next.ensures.whole)) c.next_word-next-in-loop-next.ensures.next.zeros in
    let goes = goes_to_next f memory c.args.place.level table words index next c.args.marks.now c.loop-next.marks in
    let takes = takes_to_next g.V.VisitorOf.HasVisited f memory c.args.place.level table words index next c.args.visitor.now c.loop-next.visitor in
    elim c.match-kind.branch [
      | in-Absent w ↦
          let met = means f memory c.args.place.level table index (get_or words index 0) entry.Absent (read ∙ w.in-Absent.is) in
          rw (w.marks-is, w.visitor-is) record {
            word = c.next_word-next-in-loop-next.ensures.next.word;
            goes_on = goes c.loop-next.marks [] within passed met c.loop-next.invariant.goes_on (none_on memory c.loop-next.marks);
            takes = takes c.loop-next.visitor []
                within passed met c.loop-next.invariant.takes (takes_none g.V.VisitorOf.HasVisited c.loop-next.visitor [] refl);
          }
      | in-Leaf+in_ok-visit-in-Leaf w ↦
          let met = means f memory c.args.place.level table index (get_or words index 0) (entry.Leaf w.in-Leaf.phys w.in-Leaf.own)
          (read ∙ w.in-Leaf.is) ∙ ap (λ page. OfLeaf page ∷ []) (sym w.page_at.ensures) in
          rw (w.marks-is, w.visitor-is) record {
            word = c.next_word-next-in-loop-next.ensures.next.word;
            goes_on = goes c.loop-next.marks (OfLeaf w.page_at.result ∷ []) within passed met c.loop-next.invariant.goes_on
                (finds_on memory c.loop-next.marks w.page_at.result);
            takes = takes w.visit.new.self (OfLeaf w.page_at.result ∷ []) within passed met c.loop-next.invariant.takes w.in_ok-visit-in-Leaf.ensures;
          }
      | in-Table+in_ok-go_through-in-Table w ↦
          let below = w.below-lower.result in
          let met = leads_below f memory c.args.place below index (get_or words index 0) w.in-Table.number w.in-Table.own
          (read ∙ w.in-Table.is) w.below-lower.ensures.level w.below-lower.ensures.stands in
          rw (w.marks-is, w.visitor-is) record {
            word = c.next_word-next-in-loop-next.ensures.next.word;
            goes_on = goes w.go_through.new.marks (table_visits_in f memory below.level (table_at below))
                within passed met c.loop-next.invariant.goes_on
                w.in_ok-go_through-in-Table.ensures.goes_on;
            takes = takes w.go_through.new.visitor (table_visits_in f memory below.level (table_at below))
                within passed met c.loop-next.invariant.takes
                w.in_ok-go_through-in-Table.ensures.pages;
          }
    ]

pub returns-clause-pages : goal.returns-clause-pages
returns-clause-pages g t c =
    let f = g.E.EntryFormat.format c.args.format in
    let memory = g.F.Frames.memory c.args.frames.now in
    let words = c.in-Some.words in
    let some : finite.get memory c.args.place.number ≡ Some words = sym c.in-Some.ensures in
    subst (TakesFound (g.V.VisitorOf.HasVisited c.args.visitor.now) (g.V.VisitorOf.HasVisited c.loop-next.visitor))
    (sym (all_met f memory c.args.place.level (table_at c.args.place) words c.loop-next.next.index c.requires.fits.lowest some
    (omega (arith, c.loop-next-test.false, c.next_word-next.ensures.whole))))
    c.loop-next.invariant.takes

pub returns-clause-goes_on : goal.returns-clause-goes_on
returns-clause-goes_on g t c =
    let f = g.E.EntryFormat.format c.args.format in
    let memory = g.F.Frames.memory c.args.frames.now in
    let words = c.in-Some.words in
    let some : finite.get memory c.args.place.number ≡ Some words = sym c.in-Some.ensures in
    subst (GoesOn memory c.args.marks.now c.loop-next.marks)
    (sym (all_met f memory c.args.place.level (table_at c.args.place) words c.loop-next.next.index c.requires.fits.lowest some
    (omega (arith, c.loop-next-test.false, c.next_word-next.ensures.whole))))
    c.loop-next.invariant.goes_on
