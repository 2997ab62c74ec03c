-- A run that is cut in two has right releases just where the two have.
use Rattle.std.proofs.Common.{◌≡◌, ℕ, ◌+◌, ◌<◌, ◌⊎◌, inl, inr, length, Option, Some, None, option_and_then, option_map}
use Rattle.std.proofs.Common.{refl, ap, sym, ◌∙◌, subst, arith}
use Rattle.vs_types.specs.Space.{Space}
use Rattle.vs_types.specs.declared.requests.answer.Answer.TheVariants.{Done}
use Rattle.nr_trace.specs.Recording.{Recording}
use Rattle.nr_trace.specs.Calls.{Invocation, released_in, released_of, Response, reply_of}
use Rattle.nr_trace.specs.Laws.{HasCleanLog}
use Rattle.nr_trace.specs.Orders.{space_from}
use Rattle.nr_trace.proofs.LawsOfCalls.{reply_below}
use Rattle.nr_trace.specs.Joined.{joined_traces}
use Rattle.nr_trace.specs.Run.{Run, run_with, IsOrderly}
use Rattle.nr_trace.proofs.Associated.{joined_associate}
use Rattle.nr_trace.proofs.Lists.{split_at}
use Rattle.nr_trace.proofs.Orderly.{clean_is_orderly, orderly_both}
use Rattle.nr_trace.proofs.Parts.{call_left, call_right, reply_behind, reply_left, reply_right, reply_from_right}
use Rattle.nr_touch.specs.Releases.{IsReachable, IsWrongRelease}
use Rattle.nr_touch.specs.Touches.{IsRightTouch}
use Rattle.nr_touch.specs.declared.releases.release.Release.{Release}
use Rattle.nr_touch.specs.declared.touches.touch.Touch.{Touch}
use Rattle.nr_audit.specs.Releases.{HasRelease, HasRightReleases, IsDoneOrOpen}
use Rattle.nr_audit.proofs.ReleaseLists.{release_within}
use Rattle.nr_chain.specs.Headline.{release_behind}
use Rattle.nr_audit.proofs.ReleasesBehind.{found_in_time}
use Rattle.nr_chain.proofs.Touched.{in_time_as, in_time_back, right_front}
use Rattle.chain_cuts.specs.Cut.{MayCome}
use Rattle.nr_trace.proofs.Lengths.{many_events}
use Rattle.chain_cuts.proofs.TouchesApart.{behind, same_touch}

-- ---- what is given away, and how it is answered

module _ (first second : Recording) (clean : HasCleanLog first) where
  abbrev whole : Recording
  whole = joined_traces first second

  abbrev shifted : Release → Release
  shifted release = release_behind (length first.events) release

  released_left : (call : ℕ) → call < length first.events → released_of whole call ≡ released_of first call
  released_left call l = ap (option_and_then (λ (made : Invocation). released_in made.asked)) (call_left first second call l)

  released_right : (call : ℕ) → released_of whole (length first.events + call) ≡ released_of second call
  released_right call = ap (option_and_then (λ (made : Invocation). released_in made.asked)) (call_right first second call)

  lower : (index : ℕ) (reply : Response) → reply_of first index ≡ Some reply → reply.call < index
  lower = (clean_is_orderly first clean).earlier

  done_left : (call : ℕ) → IsDoneOrOpen whole call → IsDoneOrOpen first call
  done_left call done index reply is names =
      done index reply (reply_left first second index (reply_below first index reply is) ∙ is) names

  done_from_left : (call : ℕ) → call < length first.events → IsDoneOrOpen first call → IsDoneOrOpen whole call
  done_from_left call l done index reply is names = by_side (split_at (length first.events) index) where
    by_side : (index < length first.events) ⊎ ((k : ℕ) × (index ≡ length first.events + k)) → reply.answer ≡ Done
    by_side (inl inside) = done index reply (sym (reply_left first second index inside) ∙ is) names
    by_side (inr (k, e)) =
        let (own, own_is, same) = reply_from_right first second k reply (subst (λ (i : ℕ). reply_of whole i ≡ Some reply) e is) in
        let number : length first.events + own.call ≡ reply.call = ap (λ (r : Response). r.call) same in
        absurd (omega (arith, l, number, names))

  done_right : (call : ℕ) → IsDoneOrOpen whole (length first.events + call) → IsDoneOrOpen second call
  done_right call done index reply is names =
      done (length first.events + index) (reply_behind (length first.events) (length first.log) reply)
      (reply_right first second index ∙ ap (option_map (reply_behind (length first.events) (length first.log))) is)
      (ap (λ (n : ℕ). length first.events + n) names)

  done_from_right : (call : ℕ) → IsDoneOrOpen second call → IsDoneOrOpen whole (length first.events + call)
  done_from_right call done index reply is names = by_side (split_at (length first.events) index) where
    by_side : (index < length first.events) ⊎ ((k : ℕ) × (index ≡ length first.events + k)) → reply.answer ≡ Done
    by_side (inl inside) =
        let low = lower index reply (sym (reply_left first second index inside) ∙ is) in
        absurd (omega (arith, inside, low, names))
    by_side (inr (k, e)) =
        let (own, own_is, same) = reply_from_right first second k reply (subst (λ (i : ℕ). reply_of whole i ≡ Some reply) e is) in
        let number : length first.events + own.call ≡ reply.call = ap (λ (r : Response). r.call) same in
        let answer : own.answer ≡ reply.answer = ap (λ (r : Response). r.answer) same in
        sym answer ∙ done k own own_is (omega (arith, number, names))

  has_front : (release : Release) → HasRelease first release → HasRelease whole release
  has_front release has =
      let l = release_within first release has in
      record {
        gives = released_left release.made l ∙ has.gives;
        done = (
          λ told. done_from_left release.made l (has.done.0 told),
          λ done. has.done.1 (done_left release.made done),
        );
      }

  has_rest : (release : Release) → HasRelease second release → HasRelease whole (shifted release)
  has_rest release has = record {
    gives = released_right release.made ∙ has.gives;
    done = (
      λ told. done_from_right release.made (has.done.0 told),
      λ done. has.done.1 (done_right release.made done),
    );
  }

  -- every release is of one of them
  abbrev OfOne : Release → Type 0
  OfOne release = ((release.made < length first.events) × HasRelease first release)
      ⊎ ((mine : Release) × HasRelease second mine × (shifted mine ≡ release))

  of_one : (release : Release) → HasRelease whole release → OfOne release
  of_one release has = by_side (split_at (length first.events) release.made) where
    by_side : (release.made < length first.events) ⊎ ((k : ℕ) × (release.made ≡ length first.events + k)) → OfOne release
    by_side (inl l) = inl (
      l,
      record {
        gives = sym (released_left release.made l) ∙ has.gives;
        done = (
          λ told. done_left release.made (has.done.0 told),
          λ done. has.done.1 (done_from_left release.made l done),
        );
      },
    )
    by_side (inr (k, e)) = inr (
      record release { made = k },
      record {
        gives = sym (released_right k) ∙ ap (released_of whole) (sym e) ∙ has.gives;
        done = (
          λ told. done_right k (subst (IsDoneOrOpen whole) e (has.done.0 told)),
          λ done. has.done.1 (subst (IsDoneOrOpen whole) (sym e) (done_from_right k done)),
        );
      },
      (λ i. record release { made = sym e i }),
    )

-- ---- what can be reached

module _ (start : Space) (first second : Recording) (same_layout : second.layout ≡ first.layout) (clean : HasCleanLog first) where
  abbrev between : Space
  between = space_from start first first.log

  abbrev both : Recording
  both = joined_traces first second

  orderly : IsOrderly first
  orderly = clean_is_orderly first clean

  -- of the first, in both, and the other way round
  reached_whole : (before : Option Run) → MayCome before first.layout → (release : Release) → HasRelease first release → IsReachable before start first release
      → IsReachable before start both release
  reached_whole None may release has it =
      let l = release_within first release has in
      record {
        touch = it.touch;
        made = it.made;
        answered = it.answered;
        phys = it.phys;
        finds = it.finds;
        within = it.within;
        right =
            right_front start first second same_layout orderly it.touch (let own = it.made in omega (arith, l, own)) it.right;
      }
  reached_whole (Some run) (run_orderly, layout) release has it =
      let l = release_within first release has in
      let front_orderly = orderly_both run.trace first run_orderly orderly in
      record {
        touch = it.touch;
        made = it.made;
        answered = it.answered;
        phys = it.phys;
        finds = it.finds;
        within = it.within;
        right = subst (λ (r : Recording). IsRightTouch run.start r (behind run.trace it.touch)) (joined_associate run.trace first second)
            (right_front run.start (joined_traces run.trace first) second (same_layout ∙ layout) front_orderly (behind run.trace it.touch)
            (let own = it.made in let long = many_events run.trace first in omega (arith, l, own, long)) it.right);
      }

  reached_first : (before : Option Run) → MayCome before first.layout → (release : Release) → release.made < length first.events
      → IsReachable before start both release → IsReachable before start first release
  reached_first None may release l it = record {
    touch = it.touch;
    made = it.made;
    answered = it.answered;
    phys = it.phys;
    finds = it.finds;
    within = it.within;
    right = inl
        (in_time_back start first second same_layout orderly it.touch (let own = it.answered in omega (arith, l, own))
        (found_in_time start both it.touch it.phys it.finds it.right));
  }
  reached_first (Some run) (run_orderly, layout) release l it =
      let front_orderly = orderly_both run.trace first run_orderly orderly in
      let there : IsRightTouch run.start (joined_traces (joined_traces run.trace first) second) (behind run.trace it.touch) =
      subst (λ (r : Recording). IsRightTouch run.start r (behind run.trace it.touch)) (sym (joined_associate run.trace first second)) it.right in
      record {
        touch = it.touch;
        made = it.made;
        answered = it.answered;
        phys = it.phys;
        finds = it.finds;
        within = it.within;
        right = inl
            (in_time_back run.start (joined_traces run.trace first) second (same_layout ∙ layout) front_orderly
            (behind run.trace it.touch) (let own = it.answered in let long = many_events run.trace first in omega (arith, l, own, long))
            (found_in_time run.start (joined_traces (joined_traces run.trace first) second) (behind run.trace it.touch) it.phys it.finds there));
      }

  -- of the second, in both, and the other way round
  reached_both : (before : Option Run) (release : Release) → IsReachable (Some (run_with before start first)) between second release
      → IsReachable before start both (release_behind (length first.events) release)
  reached_both None release it = record {
    touch = behind first it.touch;
    made = ap (λ (n : ℕ). length first.events + n) it.made;
    answered = ap (λ (n : ℕ). length first.events + n) it.answered;
    phys = it.phys;
    finds = it.finds;
    within = it.within;
    right = it.right;
  }
  reached_both (Some run) release it = record {
    touch = behind first it.touch;
    made = ap (λ (n : ℕ). length first.events + n) it.made;
    answered = ap (λ (n : ℕ). length first.events + n) it.answered;
    phys = it.phys;
    finds = it.finds;
    within = it.within;
    right = subst (λ (r : Recording). IsRightTouch run.start r (behind run.trace (behind first it.touch))) (joined_associate run.trace first second)
        (subst (IsRightTouch run.start (joined_traces (joined_traces run.trace first) second)) (sym (same_touch run.trace first it.touch)) it.right);
  }

  abbrev own_touch : Release → Touch → Touch
  own_touch release touch = record touch { made = release.made; answered = release.made; known = 0 }

  reached_second : (before : Option Run) (release : Release) → IsReachable before start both (release_behind (length first.events) release)
      → IsReachable (Some (run_with before start first)) between second release
  reached_second None release it = record {
    touch = own_touch release it.touch;
    made = refl;
    answered = refl;
    phys = it.phys;
    finds = it.finds;
    within = it.within;
    right = inl
        (in_time_as start both it.touch (length first.events + release.made) (length first.events + release.made) (length first.log + 0) it.made it.answered
        (found_in_time start both it.touch it.phys it.finds it.right));
  }
  reached_second (Some run) release it =
      let front : Recording = joined_traces run.trace first in
      let there : IsRightTouch run.start (joined_traces front second) (behind run.trace it.touch) =
      subst (λ (r : Recording). IsRightTouch run.start r (behind run.trace it.touch)) (sym (joined_associate run.trace first second)) it.right in
      let number : (n : ℕ) → n ≡ length first.events + release.made → length run.trace.events + n ≡ length front.events + release.made =
      λ n e. omega (arith, e, many_events run.trace first) in
      record {
        touch = own_touch release it.touch;
        made = refl;
        answered = refl;
        phys = it.phys;
        finds = it.finds;
        within = it.within;
        right = inl
            (in_time_as run.start (joined_traces front second) (behind run.trace it.touch) (length front.events + release.made)
            (length front.events + release.made) (length front.log + 0) (number it.touch.made it.made) (number it.touch.answered it.answered)
            (found_in_time run.start (joined_traces front second) (behind run.trace it.touch) it.phys it.finds there));
      }

  -- ---- right releases

  pub releases_apart : (before : Option Run) → MayCome before first.layout → HasRightReleases before start both
      → HasRightReleases before start first × HasRightReleases (Some (run_with before start first)) between second
  releases_apart before may right = (of_first, of_second) where
    of_first : HasRightReleases before start first
    of_first release has wrong = right release (has_front first second clean release has) (in_both wrong) where
      in_both : IsWrongRelease before start first release → IsWrongRelease before start both release
      in_both (inl undone) = inl undone
      in_both (inr it) = inr (reached_whole before may release has it)

    of_second : HasRightReleases (Some (run_with before start first)) between second
    of_second release has wrong =
        right (release_behind (length first.events) release) (has_rest first second clean release has) (in_both wrong) where
          in_both : IsWrongRelease (Some (run_with before start first)) between second release
              → IsWrongRelease before start both (release_behind (length first.events) release)
          in_both (inl undone) = inl undone
          in_both (inr it) = inr (reached_both before release it)

  pub releases_as_one : (before : Option Run) → MayCome before first.layout
      → HasRightReleases before start first × HasRightReleases (Some (run_with before start first)) between second → HasRightReleases before start both
  releases_as_one before may (front, rest) release has wrong = by_side (of_one first second clean release has) where
    in_first : release.made < length first.events → IsWrongRelease before start both release → IsWrongRelease before start first release
    in_first l (inl undone) = inl undone
    in_first l (inr it) = inr (reached_first before may release l it)

    in_second : (mine : Release) → IsWrongRelease before start both (release_behind (length first.events) mine)
        → IsWrongRelease (Some (run_with before start first)) between second mine
    in_second mine (inl undone) = inl undone
    in_second mine (inr it) = inr (reached_second before mine it)

    by_side : OfOne first second clean release → ⊥
    by_side (inl (l, of_first)) = front release of_first (in_first l wrong)
    by_side (inr (mine, of_second, same)) =
        rest mine of_second (in_second mine (subst (λ (r : Release). IsWrongRelease before start both r) (sym same) wrong))
