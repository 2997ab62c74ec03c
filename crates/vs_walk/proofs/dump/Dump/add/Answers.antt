use Rattle.std.proofs.Common.{◌≡◌, ℕ, ◌-◌, ◌<◌, List, ◌++◌, [], ◌∷◌, length, map, sym, ap, subst, ◌∙◌, arith, length-append}
use Rattle.std.specs.Prelude.{All}
use Rattle.std.specs.FinMap as finite
use Rattle.std.specs.Ordering.{nat_cmp}
use Rattle.vs_types.specs.declared.limits.TheConstants.{FRAMES}
use Rattle.vs_walk.specs.Dump.{Image}
use Rattle.vs_walk.specs.inside.Kept.{IsAdded, AreKept, paired}
use Rattle.vs_walk.specs.declared.dump.Span.{Span}
use Rattle.vs_walk.proofs.Dumps.{entries_stand, numbers_push, count_push}
use Rattle.vs_walk.proofs.Kept.{added_kept, added_frames, kept_closed, frames_closed}
use Rattle.vs_walk.proofs.dump.Dump.add.Goals as goal

abbrev places : (c : goal.After-push_reserved-2) → List ℕ
places c = c.push_frame-span.new.places.items

abbrev words : (c : goal.After-push_reserved-2) → List ℕ
words c = c.push_frame-span.new.words.items

abbrev span : (c : goal.After-push_reserved-2) → Span
span c = c.push_frame-span.result

added : (c : goal.After-push_reserved-2) → IsAdded c.self.inside.places.items c.self.inside.words.items (places c) (words c) (span c) c.args.words.now
added c =
    subst (λ l. IsAdded l c.self.inside.words.items (places c) (words c) (span c) c.args.words.now) c.in_ok-reserve-3.ensures.items
    (subst (λ l. IsAdded c.reserve-3.new.self.items l (places c) (words c) (span c) c.args.words.now) c.in_ok-reserve-4.ensures.items
    c.push_frame-span.ensures)

kept : (c : goal.After-push_reserved-2) → AreKept c.self.inside.applied c.self.inside.root c.self.inside.numbers.items c.self.inside.spans.items
    (places c) (words c)
kept c =
    added_kept c.self.inside.numbers.items c.self.inside.spans.items c.self.inside.places.items c.self.inside.words.items (places c) (words c)
    c.self.invariant (added c)

frames : (c : goal.After-push_reserved-2) → paired c.self.inside.numbers.items c.self.inside.spans.items (places c) (words c)
    ≡ paired c.self.inside.numbers.items c.self.inside.spans.items c.self.inside.places.items c.self.inside.words.items
frames c =
    added_frames c.self.inside.numbers.items c.self.inside.spans.items c.self.inside.places.items c.self.inside.words.items (places c) (words c)
    c.self.invariant (added c)

held : (c : goal.After-push_reserved-2) → finite.entries c.args.self.now.frames
    ≡ paired c.self.inside.numbers.items c.self.inside.spans.items (places c) (words c)
held c = ap (λ d. finite.entries d.frames) (sym c.self.view_is) ∙ entries_stand _ c.self.invariant.parts.rising ∙ sym (frames c)

above : (c : goal.After-push_reserved-2) → All (λ n. n < c.args.number)
    (map (λ e. e.0) (paired c.self.inside.numbers.items c.self.inside.spans.items (places c) (words c)))
above c = subst (λ es. All (λ n. n < c.args.number) (map (λ e. e.0) es)) (held c) c.requires.above

room : (c : goal.After-push_reserved-2) → length (paired c.self.inside.numbers.items c.self.inside.spans.items (places c) (words c)) < FRAMES
room c = subst (λ es. length es < FRAMES) (held c) (subst (λ n. n < FRAMES) (finite.len-entries c.args.self.now.frames) c.requires.room)

numbers_are : (c : goal.After-push_reserved-2) → c.push_reserved.new.self.items ≡ c.self.inside.numbers.items ++ c.args.number ∷ []
numbers_are c = c.push_reserved.ensures.items ∙ ap (λ ns. ns ++ c.args.number ∷ []) c.in_ok-reserve.ensures.items

spans_are : (c : goal.After-push_reserved-2) → c.push_reserved-2.new.self.items ≡ c.self.inside.spans.items ++ span c ∷ []
spans_are c = c.push_reserved-2.ensures.items ∙ ap (λ ss. ss ++ span c ∷ []) c.in_ok-reserve-2.ensures.items

pub invariant_of-self-2 : goal.invariant_of-self-2
invariant_of-self-2 c =
    rw (numbers_are c, spans_are c)
    (kept_closed c.self.inside.numbers.items c.self.inside.spans.items (places c) (words c) c.args.number (span c) (kept c) (added c).is_span (above c)
    c.requires.in_range (room c))

pushed : (c : goal.After-push_reserved-2) → finite.from_sorted {R = nat_cmp}
    (paired c.push_reserved.new.self.items c.push_reserved-2.new.self.items (places c) (words c))
    ≡ finite.insert c.args.self.now.frames c.args.number c.args.words.now
pushed c =
    ap (λ ns. finite.from_sorted {R = nat_cmp} (paired ns c.push_reserved-2.new.self.items (places c) (words c))) (numbers_are c)
    ∙ ap (λ ss. finite.from_sorted {R = nat_cmp} (paired (c.self.inside.numbers.items ++ c.args.number ∷ []) ss (places c) (words c))) (spans_are c)
    ∙ frames_closed c.self.inside.numbers.items c.self.inside.spans.items (places c) (words c) c.args.number (span c) c.args.words.now (kept c) (added c).is
    (above c)
    ∙ ap (λ es. finite.insert (finite.from_sorted {R = nat_cmp} es) c.args.number c.args.words.now) (frames c)
    ∙ ap (λ (image : Image). finite.insert image.frames c.args.number c.args.words.now) c.self.view_is

pub returns-clause-ok : goal.returns-clause-ok
returns-clause-ok c = λ i. record { applied = (c.self.view_is i).applied; root = (c.self.view_is i).root; frames = pushed c i }

pub returns-clause-numbers : goal.returns-clause-numbers
returns-clause-numbers c = ap finite.keys (pushed c) ∙ numbers_push c.args.self.now.frames c.args.number c.args.words.now c.requires.above

pub returns-clause-count : goal.returns-clause-count
returns-clause-count c = ap finite.len (pushed c) ∙ count_push c.args.self.now.frames c.args.number c.args.words.now c.requires.above
