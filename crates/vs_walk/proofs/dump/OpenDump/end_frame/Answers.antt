use Rattle.std.proofs.Common.{◌≡◌, ℕ, ◌<◌, List, ◌++◌, [], ◌∷◌, length, map, sym, ap, subst, ◌∙◌}
use Rattle.std.specs.Prelude.{All}
use Rattle.std.specs.FinMap as finite
use Rattle.std.specs.Ordering.{nat_cmp}
use Rattle.vs_types.specs.declared.limits.TheConstants.{FRAMES}
use Rattle.vs_walk.specs.Dump.{OpenImage}
use Rattle.vs_walk.specs.declared.dump.Span.{Span}
use Rattle.vs_walk.specs.inside.Kept.{IsAdded, AreKept, paired}
use Rattle.vs_walk.proofs.Dumps.{entries_stand, numbers_push, count_push}
use Rattle.vs_walk.proofs.Kept.{added_kept, added_frames, kept_closed, frames_closed}
use Rattle.vs_walk.proofs.dump.OpenDump.end_frame.Goals as goal

abbrev places : (c : goal.After-push_reserved-2) → List ℕ
places c = c.push_frame-span.new.places.items

abbrev words : (c : goal.After-push_reserved-2) → List ℕ
words c = c.push_frame-span.new.words.items

abbrev span : (c : goal.After-push_reserved-2) → Span
span c = c.push_frame-span.result

added : (c : goal.After-push_reserved-2)
    → IsAdded c.self.inside.places.items c.self.inside.words.items (places c) (words c) (span c) c.args.self.coming
added c = subst (IsAdded c.self.inside.places.items c.self.inside.words.items (places c) (words c) (span c))
    (c.lent.ensures ∙ c.deref.ensures.value ∙ ap (λ (d : OpenImage). d.coming) c.self.view_is) c.push_frame-span.ensures

kept : (c : goal.After-push_reserved-2) → AreKept c.self.inside.applied c.self.inside.root c.self.inside.numbers.items c.self.inside.spans.items
    (places c) (words c)
kept c =
    added_kept c.self.inside.numbers.items c.self.inside.spans.items c.self.inside.places.items c.self.inside.words.items (places c) (words c)
    c.self.invariant.open_for.before (added c)

same : (c : goal.After-push_reserved-2) → paired c.self.inside.numbers.items c.self.inside.spans.items (places c) (words c)
    ≡ paired c.self.inside.numbers.items c.self.inside.spans.items c.self.inside.places.items c.self.inside.words.items
same c =
    added_frames c.self.inside.numbers.items c.self.inside.spans.items c.self.inside.places.items c.self.inside.words.items (places c) (words c)
    c.self.invariant.open_for.before (added c)

above_held : (c : goal.After-push_reserved-2) → All (λ held. held < c.self.inside.number)
    (map (λ e. e.0) (paired c.self.inside.numbers.items c.self.inside.spans.items (places c) (words c)))
above_held c = subst (λ es. All (λ held. held < c.self.inside.number) (map (λ e. e.0) es)) (sym (same c)) c.self.invariant.open_for.above

pub invariant_of-result : goal.invariant_of-result
invariant_of-result c =
    rw (c.push_reserved.ensures.items, c.push_reserved-2.ensures.items)
    (kept_closed c.self.inside.numbers.items c.self.inside.spans.items (places c) (words c) c.self.inside.number (span c) (kept c) (added c).is_span
    (above_held c) c.self.invariant.open_for.in_range (subst (λ es. length es < FRAMES) (sym (same c)) c.self.invariant.open_for.one_more))

frames : (c : goal.After-push_reserved-2) → finite.from_sorted {R = nat_cmp}
    (paired c.push_reserved.new.self.items c.push_reserved-2.new.self.items (places c) (words c))
    ≡ finite.insert c.args.self.dump.frames c.args.self.number c.args.self.coming
frames c =
    ap (λ ns. finite.from_sorted {R = nat_cmp} (paired ns c.push_reserved-2.new.self.items (places c) (words c))) c.push_reserved.ensures.items
    ∙ ap (λ ss. finite.from_sorted {R = nat_cmp} (paired (c.self.inside.numbers.items ++ c.self.inside.number ∷ []) ss (places c) (words c)))
    c.push_reserved-2.ensures.items
    ∙ frames_closed c.self.inside.numbers.items c.self.inside.spans.items (places c) (words c) c.self.inside.number (span c) c.args.self.coming
    (kept c) (added c).is (above_held c)
    ∙ ap (λ es. finite.insert (finite.from_sorted {R = nat_cmp} es) c.self.inside.number c.args.self.coming) (same c)
    ∙ ap (λ (d : OpenImage). finite.insert d.dump.frames d.number c.args.self.coming) c.self.view_is

above : (c : goal.After-push_reserved-2) → All (λ held. held < c.args.self.number) (finite.keys c.args.self.dump.frames)
above c = subst (λ (d : OpenImage). All (λ held. held < d.number) (finite.keys d.dump.frames)) c.self.view_is
    (subst (λ es. All (λ held. held < c.self.inside.number) (map (λ e. e.0) es))
    (sym (entries_stand _ c.self.invariant.open_for.before.parts.rising)) c.self.invariant.open_for.above)

pub returns-clause-made : goal.returns-clause-made
returns-clause-made c = λ i. record { applied = (c.self.view_is i).dump.applied; root = (c.self.view_is i).dump.root; frames = frames c i }

pub returns-clause-numbers : goal.returns-clause-numbers
returns-clause-numbers c = ap finite.keys (frames c) ∙ numbers_push c.args.self.dump.frames c.args.self.number c.args.self.coming (above c)

pub returns-clause-count : goal.returns-clause-count
returns-clause-count c = ap finite.len (frames c) ∙ count_push c.args.self.dump.frames c.args.self.number c.args.self.coming (above c)
