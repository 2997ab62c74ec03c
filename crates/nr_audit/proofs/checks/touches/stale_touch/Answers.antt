use Rattle.std.proofs.Common.{IfSome, Some, List, length, slice_get, option_map, option_and_then, ap, sym, ◌∙◌, subst}
use Rattle.vs_types.specs.Space.{IsSpace}
use Rattle.vs_types.specs.declared.addresses.depth.Depth.{Depth}
use Rattle.vs_plain.specs.Plain.{BoundedSpace}
use Rattle.nr_trace.specs.Run.{run_with}
use Rattle.nr_touch.specs.Releases.{AreMemory}
use Rattle.nr_touch.specs.declared.releases.release.Release.{Release}
use Rattle.nr_touch.specs.declared.touches.touch.Touch.{Touch}
use Rattle.nr_touch.specs.Excuses.{AreExcusedBy}
use Rattle.nr_audit.specs.Met.{AreTouchesOf, HasMet}
use Rattle.nr_audit.specs.inside.Begun.{AreReleasesBelow, AreTouchesBelow}
use Rattle.nr_audit.proofs.Judgements.{no_touches}
use Rattle.nr_audit.proofs.Pasts.{left_quiet}
use Rattle.nr_audit.proofs.ReleaseLists.{no_releases, none_found as releases_found, some_found as reached_found}
use Rattle.nr_audit.proofs.TouchLists.{all_touches, none_found, some_found, where_none}
use Rattle.nr_audit.proofs.checks.touches.stale_touch.Goals as goal

-- `deref` and `deref-2` are the lists that are followed, `deref-3` and `deref-4` those in which the numbers are looked up

pub returns-clause-none : goal.returns-clause-none
returns-clause-none c = λ run of_tail goes_on clean.
    let segment = c.args.segment.now in
    let all = c.deref.result.now in
    let are = subst (AreTouchesBelow segment (length segment.events)) (sym c.deref.ensures.value) c.in_ok-touches.ensures in
    none_found run c.args.start.space segment all are c.in_ok-followed.followed.stale c.number_in-stale.result
    (c.in_ok-followed.ensures.finds run of_tail goes_on clean) (c.number_in-stale.ensures
    ∙ ap (λ (ts : List Touch). option_map (λ (t : Touch). t.made) (option_and_then (slice_get ts) c.in_ok-followed.followed.stale))
    (c.deref-3.ensures.value ∙ sym c.deref.ensures.value))

pub returns-clause-some : goal.returns-clause-some
returns-clause-some c = λ run of_tail goes_on clean.
    let segment = c.args.segment.now in
    let all = c.deref.result.now in
    let are = subst (AreTouchesBelow segment (length segment.events)) (sym c.deref.ensures.value) c.in_ok-touches.ensures in
    some_found run c.args.start.space segment all are c.in_ok-followed.followed.stale c.number_in-stale.result
    (c.in_ok-followed.ensures.finds run of_tail goes_on clean) (c.number_in-stale.ensures
    ∙ ap (λ (ts : List Touch). option_map (λ (t : Touch). t.made) (option_and_then (slice_get ts) c.in_ok-followed.followed.stale))
    (c.deref-3.ensures.value ∙ sym c.deref.ensures.value))

pub follow-requires-clause-memory : goal.follow-requires-clause-memory
follow-requires-clause-memory c = subst (λ (rs : List Release). AreMemory rs) (sym c.deref-2.ensures.value) c.in_ok-releases.ensures.memory

pub returns-clause-released : goal.returns-clause-released
returns-clause-released c = λ run of_tail goes_on clean.
    let segment = c.args.segment.now in
    let all = c.deref-2.result.now in
    let are = subst (AreReleasesBelow segment (length segment.events)) (sym c.deref-2.ensures.value) c.in_ok-releases.ensures.below in
    releases_found run c.args.start.space segment all are c.in_ok-followed.followed.reachable c.release_number-reachable.result
    (c.in_ok-followed.ensures.reaches run of_tail goes_on clean)
    (c.release_number-reachable.ensures
    ∙ ap (λ (rs : List Release). option_map (λ (r : Release). r.made) (option_and_then (slice_get rs) c.in_ok-followed.followed.reachable))
    (c.deref-4.ensures.value ∙ sym c.deref-2.ensures.value))

pub returns-clause-reaches : goal.returns-clause-reaches
returns-clause-reaches c = λ run of_tail goes_on clean.
    let segment = c.args.segment.now in
    let all = c.deref-2.result.now in
    let are = subst (AreReleasesBelow segment (length segment.events)) (sym c.deref-2.ensures.value) c.in_ok-releases.ensures.below in
    reached_found run c.args.start.space segment all are c.in_ok-followed.followed.reachable c.release_number-reachable.result
    (c.in_ok-followed.ensures.reaches run of_tail goes_on clean)
    (c.release_number-reachable.ensures
    ∙ ap (λ (rs : List Release). option_map (λ (r : Release). r.made) (option_and_then (slice_get rs) c.in_ok-followed.followed.reachable))
    (c.deref-4.ensures.value ∙ sym c.deref-2.ensures.value))

pub returns-clause-tail : goal.returns-clause-tail
returns-clause-tail c = λ run of_tail goes_on clean. c.in_ok-followed.ensures.tail run of_tail goes_on clean

pub returns-clause-met : goal.returns-clause-met
returns-clause-met c = λ run of_tail goes_on clean.
    let segment = c.args.segment.now in
    let start = c.args.start.space in
    let all = c.deref.result.now in
    let listed = c.deref.ensures.value in
    let are = subst (λ (ts : List Touch). AreTouchesOf segment ts) (sym c.deref-5.ensures.value) (all_touches segment _ c.in_ok-touches.ensures) in
    where_none run start segment all c.in_ok-followed.followed.stale c.number_in-stale.result
    (AreExcusedBy run start segment all c.in_ok-followed.followed.excuses.items) (IfSome c.in_ok-met-2.met (HasMet run start segment))
    (λ excused. c.in_ok-met-2.ensures.met run start are
    (rw (c.deref-5.ensures.value, c.deref-6.ensures.value, ← listed) excused) (c.in_ok-followed.ensures.beside clean))
    (c.in_ok-followed.ensures.finds run of_tail goes_on clean)
    (c.number_in-stale.ensures ∙ ap (λ (ts : List Touch). option_map (λ (t : Touch). t.made) (option_and_then (slice_get ts) c.in_ok-followed.followed.stale))
    (c.deref-3.ensures.value ∙ sym c.deref.ensures.value))
    (c.in_ok-followed.ensures.excuses run of_tail goes_on clean)

-- nothing is replayed

pub untouched-requires : goal.untouched-requires
untouched-requires c = (c.is_quiet.ensures c.if-is_quiet.true).untouched

pub returns-then-is_quiet-clause-none : goal.returns-then-is_quiet-clause-none
returns-then-is_quiet-clause-none c = λ run of_tail goes_on clean.
    no_touches run c.args.start.space c.args.segment.now (c.is_quiet.ensures c.if-is_quiet.true).untouched

pub returns-then-is_quiet-clause-some : goal.returns-then-is_quiet-clause-some
returns-then-is_quiet-clause-some c = λ run of_tail goes_on clean. tt

pub returns-then-is_quiet-clause-released : goal.returns-then-is_quiet-clause-released
returns-then-is_quiet-clause-released c = λ run of_tail goes_on clean.
    no_releases run c.args.start.space c.args.segment.now (c.is_quiet.ensures c.if-is_quiet.true).untouched

pub returns-then-is_quiet-clause-reaches : goal.returns-then-is_quiet-clause-reaches
returns-then-is_quiet-clause-reaches c = λ run of_tail goes_on clean. tt

pub returns-then-is_quiet-clause-tail : goal.returns-then-is_quiet-clause-tail
returns-then-is_quiet-clause-tail c = λ run of_tail goes_on clean.
    let quiet = c.is_quiet.ensures c.if-is_quiet.true in
    c.unchanged.ensures.tail (Some (run_with run c.args.start.space c.args.segment.now))
    (left_quiet run c.args.start.space c.args.segment.now c.args.tail of_tail goes_on clean quiet
    (subst (λ (depth : Depth). IsSpace depth c.args.start.space) (ap (λ (s : BoundedSpace). s.depth) c.requires.start) c.pages_are_a_space.ensures))

pub returns-then-is_quiet-clause-sound : goal.returns-then-is_quiet-clause-sound
returns-then-is_quiet-clause-sound c = c.unchanged.ensures.sound c.requires.sound
