-- Parts of the bytes of a chain, one behind the other.
use Rattle.std.proofs.Common.{◌≡◌, ◌⊎◌, inl, inr, ℕ, ◌+◌, List, [], ◌∷◌, ◌++◌, length, Option, Some, None, option_map, refl, sym, ap, subst, ◌∙◌, arith}
use Rattle.std.specs.Prelude.{IfSome}
use Rattle.std.proofs.lemmas.List.{append_assoc}
use Rattle.std.proofs.lemmas.Option.{same_Some}
use Rattle.vs_types.specs.Config.{Layout}
use Rattle.vs_types.specs.Space.{Space}
use Rattle.vs_types.specs.Step.{allow_in_page}
use Rattle.vs_types.specs.declared.addresses.page.Page.{Page}
use Rattle.nr_trace.specs.Recording.{Recording}
use Rattle.nr_trace.specs.Orders.{space_from}
use Rattle.nr_trace.specs.Laws.{IsFaultlessFrom}
use Rattle.nr_trace.specs.Joined.{joined_traces}
use Rattle.nr_trace.specs.Run.{Run, end_of, IsOrderly}
use Rattle.nr_trace.proofs.Lengths.{many_events, many_places}
use Rattle.nr_trace.proofs.Associated.{joined_associate}
use Rattle.nr_trace.proofs.Orderly.{clean_is_orderly, orderly_both, space_of_both}
use Rattle.nr_touch.specs.Releases.{IsReachable, IsWrongRelease}
use Rattle.nr_touch.specs.Tails.{Lingers}
use Rattle.nr_touch.specs.Touches.{touch_behind, IsAnsweredInTime, IsRightTouch}
use Rattle.nr_touch.specs.inside.Earlier.{EndsNowhere}
use Rattle.nr_touch.specs.inside.Reached.{probe_at}
use Rattle.nr_touch.specs.declared.releases.release.Release.{Release}
use Rattle.nr_touch.specs.declared.touches.touch.Touch.{Touch}
use Rattle.nr_touch.proofs.cuts.Behind.{in_time_parts, right_rest}
use Rattle.nr_audit.specs.Faults.{IsSoundAfter}
use Rattle.nr_audit.specs.Segments.{run_after}
use Rattle.nr_audit.specs.Releases.{HasRightReleases, HasSettledReleases, IsSettled}
use Rattle.nr_audit.specs.Start.{BeginsRight}
use Rattle.nr_audit.proofs.Judgements.{begins_of, clean_of, faultless_of, releases_of, sound_by}
use Rattle.nr_audit.proofs.ReleasesBehind.{found_in_time, settled_reach}
use Rattle.nr_trace.specs.Versions.{Follows}
use Rattle.nr_trace.specs.declared.formats.version.Form.TheVariants as forms
use Rattle.nr_chain.specs.Bytes.{layout_before, BeginsWith, EndsWith, GoesOnSo, SpellAll}
use Rattle.nr_chain.specs.Parts.{run_behind, ComesTo, HaveReleases, MayFollow, SpellUpTo}
use Rattle.nr_chain.proofs.OneChain.{begins_some, one_front}
use Rattle.nr_chain.proofs.Restarts.{behind_any}

-- with bytes behind it
begins_longer : (before : Option Layout) (bytes : List ℕ) (segment : Recording) (rest more : List ℕ) → BeginsWith before bytes segment rest
    → BeginsWith before (bytes ++ more) segment (rest ++ more)
begins_longer before bytes segment rest more begins = record {
  own = begins.own;
  is = ap (λ (b : List ℕ). b ++ more) begins.is ∙ append_assoc begins.own rest more;
  spelled = begins.spelled;
}

-- behind a segment of the same layout
begins_behind : (layout : Layout) (bytes : List ℕ) (segment : Recording) (rest : List ℕ) → segment.layout ≡ layout → BeginsWith None bytes segment rest
    → BeginsWith (Some layout) bytes segment rest
begins_behind layout bytes segment rest same begins = record {
  own = begins.own;
  is = begins.is;
  spelled = record {
    of_form = begins.spelled.of_form;
    follows = sym same;
    in_range = begins.spelled.in_range;
    spelled = begins.spelled.spelled;
  };
}

-- a chain ends well behind a segment alone, whatever came before that
pub ended : (before : Option Run) (bytes : List ℕ) → EndsWith before bytes None → bytes ≡ []
ended (Some run) [] end = refl
ended _ _ end = absurd end

ends_alike : (run other : Run) (bytes : List ℕ) → EndsWith (Some run) bytes None → EndsWith (Some other) bytes None
ends_alike run other [] ends = refl
ends_alike run other (x ∷ bytes) ends = absurd ends

-- ---- a run behind another

-- a run behind another goes on alike
later_after : (end run : Run) (segment : Recording) → run_behind end (run_after (Some run) segment) ≡ run_after (Some (run_behind end run)) segment
later_after end run segment =
    ap (λ (trace : Recording). let it : Run = record { start = end.start; trace = trace } in it) (sym (joined_associate end.trace run.trace segment))

spelled_later : (end run last : Run) (bytes : List ℕ) (segments : List Recording) → run.trace.layout ≡ end.trace.layout
    → SpellUpTo (Some run) bytes segments last → SpellUpTo (Some (run_behind end run)) bytes segments (run_behind end last)
spelled_later end run last bytes [] same (none, is) = (none, ap (λ (r : Option Run). option_map (run_behind end) r) is)
spelled_later end run last bytes (segment ∷ more) same (rest, begins, next) = (
  rest,
  subst (λ (l : Layout). BeginsWith (Some l) bytes segment rest) same begins,
  subst (λ (r : Run). SpellUpTo (Some r) rest more (run_behind end last)) (later_after end run segment)
      (spelled_later end (run_after (Some run) segment) last rest more same next),
)

module _ (end : Run) (orderly : IsOrderly end.trace) (run : Run) (own : IsOrderly run.trace) (leads : run.start ≡ end_of end)
    (same_layout : run.trace.layout ≡ end.trace.layout) where
  same_end : end_of (run_behind end run) ≡ end_of run
  same_end =
      space_of_both end.start end.trace run.trace same_layout orderly
      ∙ ap (λ (s : Space). space_from s run.trace run.trace.log) (sym leads)

  abbrev behind_end : Touch → Touch
  behind_end touch = touch_behind (length end.trace.events) (length end.trace.log) touch

  abbrev behind_run : Touch → Touch
  behind_run touch = touch_behind (length run.trace.events) (length run.trace.log) touch

  abbrev behind_both : Touch → Touch
  behind_both touch = touch_behind (length (joined_traces end.trace run.trace).events) (length (joined_traces end.trace run.trace).log) touch

  same_touch : (touch : Touch) → behind_end (behind_run touch) ≡ behind_both touch
  same_touch touch =
      let number : (k : ℕ) → length end.trace.events + (length run.trace.events + k) ≡ length (joined_traces end.trace run.trace).events + k =
      λ k. omega (arith, many_events end.trace run.trace) in
      let places : length end.trace.log + (length run.trace.log + touch.known) ≡ length (joined_traces end.trace run.trace).log + touch.known =
      omega (arith, many_places end.trace run.trace) in
      λ i. record touch { made = number touch.made i; answered = number touch.answered i; known = places i }

  -- a touch of a segment that is right behind the one is right behind both; and one that is answered in time behind both is so behind the
  -- one, where the first is settled
  right_later : (segment : Recording) (touch : Touch) → IsRightTouch run.start (joined_traces run.trace segment) (behind_run touch)
      → IsRightTouch end.start (joined_traces (joined_traces end.trace run.trace) segment) (behind_both touch)
  right_later segment touch right =
      subst (λ (t : Touch). IsRightTouch end.start (joined_traces (joined_traces end.trace run.trace) segment) t) (same_touch touch)
      (subst (λ (r : Recording). IsRightTouch end.start r (behind_end (behind_run touch))) (sym (joined_associate end.trace run.trace segment))
      (right_rest end.start end.trace (joined_traces run.trace segment) same_layout orderly
      (behind_run touch) (subst (λ (s : Space). IsRightTouch s (joined_traces run.trace segment) (behind_run touch)) leads right)))

  reached_before : IsSettled end → (segment : Recording) (release : Release)
      → IsReachable (Some (run_behind end run)) (end_of (run_behind end run)) segment release → IsReachable (Some run) (end_of run) segment release
  reached_before settled segment release it =
      by (in_time_parts end.start end.trace whole same_layout orderly (behind_run it.touch) there) where
        whole : Recording
        whole = joined_traces run.trace segment

        there : IsAnsweredInTime end.start (joined_traces end.trace whole) (behind_end (behind_run it.touch))
        there =
            subst (λ (r : Recording). IsAnsweredInTime end.start r (behind_end (behind_run it.touch))) (joined_associate end.trace run.trace segment)
            (subst (λ (t : Touch). IsAnsweredInTime end.start (joined_traces (joined_traces end.trace run.trace) segment) t) (sym (same_touch it.touch))
            (found_in_time end.start (joined_traces (joined_traces end.trace run.trace) segment) (behind_both it.touch) it.phys it.finds it.right))

        by_page : (page : Option Page) → EndsNowhere (end_of end) whole it.touch.address page (behind_run it.touch).made
            → Lingers end.start end.trace it.touch.address page → it.touch.answer ≡ allow_in_page it.touch.address it.touch.mode it.touch.access page
            → IsReachable (Some run) (end_of run) segment release
        by_page None none lingers answered = absurd (let both = sym it.finds ∙ answered in cc)
        by_page (Some page) none lingers answered =
            let (own, at, same) = settled it.touch.address page lingers in
            record {
              touch = probe_at release.made it.touch.address it.phys;
              made = refl;
              answered = refl;
              phys = it.phys;
              finds = refl;
              within = it.within;
              right = inl (subst (λ (s : Space). IsAnsweredInTime s whole (behind_run (probe_at release.made it.touch.address it.phys))) (sym leads)
                  (settled_reach (end_of end) whole (behind_run it.touch) it.phys page own it.finds answered at same none
                  (length run.trace.events + release.made) (length run.trace.log + 0) (ap (λ (n : ℕ). length run.trace.events + n) it.made)));
            }

        by : IsAnsweredInTime (end_of end) whole (behind_run it.touch)
            ⊎ ((page : Option Page) × EndsNowhere (end_of end) whole it.touch.address page (behind_run it.touch).made
            × Lingers end.start end.trace it.touch.address page × (it.touch.answer ≡ allow_in_page it.touch.address it.touch.mode it.touch.access page))
            → IsReachable (Some run) (end_of run) segment release
        by (inl own_time) = record {
          touch = it.touch;
          made = it.made;
          answered = it.answered;
          phys = it.phys;
          finds = it.finds;
          within = it.within;
          right = inl (subst (λ (s : Space). IsAnsweredInTime s whole (behind_run it.touch)) (sym leads) own_time);
        }
        by (inr (page, none, lingers, answered)) = by_page page none lingers answered

  released_later : (segment : Recording) → HasSettledReleases end segment → HasRightReleases (Some run) (end_of run) segment
      → HasRightReleases (Some (run_behind end run)) (end_of (run_behind end run)) segment
  released_later segment settled right release has wrong = right release has (before wrong) where
    before : IsWrongRelease (Some (run_behind end run)) (end_of (run_behind end run)) segment release
        → IsWrongRelease (Some run) (end_of run) segment release
    before (inl undone) = inl undone
    before (inr it) = inr (reached_before (settled release has) segment release it)

  -- a segment that is sound behind the one is sound behind both
  sound_later : (segment : Recording) → HasSettledReleases end segment → IsSoundAfter (Some run) segment → IsSoundAfter (Some (run_behind end run)) segment
  sound_later segment settled sound =
      sound_by (Some (run_behind end run)) segment
      (subst (λ (s : Space). BeginsRight (Some s) segment) (sym same_end) (begins_of (Some run) segment sound.faultless))
      (subst (λ (s : Space). IsFaultlessFrom s segment) (sym same_end) (faultless_of (Some run) segment sound.faultless))
      (λ touch is. right_later segment touch (sound.touches touch is))
      (released_later segment settled (releases_of (Some run) segment sound))

-- ---- what a chain that goes on well spells, and what it gives away

-- the layout before the next segment
layout_next : (before : Option Run) (segment : Recording) → Follows (forms.Segment (layout_before before)) segment.layout
    → segment.layout ≡ (run_after before segment).trace.layout
layout_next None segment follows = refl
layout_next (Some run) segment follows = sym follows

spelled_all : (before : Option Run) (bytes : List ℕ) (orders : List (List ℕ)) → GoesOnSo before bytes orders None
    → (segments : List Recording) × SpellAll (layout_before before) bytes segments
spelled_all None bytes [] ends = absurd ends
spelled_all (Some run) bytes [] ends = ([], ended (Some run) bytes ends)
spelled_all before bytes (order ∷ more) (segment, rest, begins, sound, same, next) =
    let (segments, spelled) = spelled_all (Some (run_after before segment)) rest more next in (
      segment ∷ segments,
      (rest, begins, subst (λ (l : Layout). SpellAll (Some l) rest segments) (sym (layout_next before segment begins.spelled.follows)) spelled),
    )

-- where the bytes give memory away, the run before them is settled
abbrev AreSettled : Run → Option Layout → List ℕ → Type 0
AreSettled end before bytes = (segments : List Recording) → SpellAll before bytes segments → HaveReleases segments → IsSettled end

module _ (end : Run) (before : Option Run) (bytes : List ℕ) (segment : Recording) (rest : List ℕ)
    (begins : BeginsWith (layout_before before) bytes segment rest) (settled : AreSettled end (layout_before before) bytes) where
  abbrev next_layout : Layout
  next_layout = (run_after before segment).trace.layout

  settled_rest : AreSettled end (Some next_layout) rest
  settled_rest segments spelled gives =
      settled (segment ∷ segments) (
        rest,
        begins,
        subst (λ (l : Layout). SpellAll (Some l) rest segments) (sym (layout_next before segment begins.spelled.follows)) spelled,
      ) (inr gives)

  settled_first : (orders : List (List ℕ)) → GoesOnSo (Some (run_after before segment)) rest orders None → HasSettledReleases end segment
  settled_first orders next release has =
      let (segments, spelled) = spelled_all (Some (run_after before segment)) rest orders next in
      settled (segment ∷ segments) (
        rest,
        begins,
        subst (λ (l : Layout). SpellAll (Some l) rest segments) (sym (layout_next before segment begins.spelled.follows)) spelled,
      ) (inl (release, has))

module _ (end : Run) (orderly : IsOrderly end.trace) where
  goes_on_later : (run : Run) (bytes : List ℕ) (orders : List (List ℕ)) → IsOrderly run.trace → run.start ≡ end_of end
      → run.trace.layout ≡ end.trace.layout → AreSettled end (Some run.trace.layout) bytes
      → GoesOnSo (Some run) bytes orders None → GoesOnSo (Some (run_behind end run)) bytes orders None
  goes_on_later run bytes [] own leads same settled ends = ends_alike run (run_behind end run) bytes ends
  goes_on_later run bytes (order ∷ more) own leads same settled (segment, rest, begins, sound, is, next) =
      let clean = clean_is_orderly segment (clean_of (Some run) segment sound) in (
        segment,
        rest,
        subst (λ (l : Layout). BeginsWith (Some l) bytes segment rest) same begins,
        sound_later end orderly run own leads same segment (settled_first end (Some run) bytes segment rest begins settled more next) sound,
        is,
        subst (λ (r : Run). GoesOnSo (Some r) rest more None) (later_after end run segment)
            (goes_on_later (run_after (Some run) segment) rest more (orderly_both run.trace segment own clean) leads same
            (settled_rest end (Some run) bytes segment rest begins settled) next),
      )

module _ (end : Run) (orderly : IsOrderly end.trace) (back : List ℕ) (follow : MayFollow end back) where
  goes_on_behind : (others : List (List ℕ)) → GoesOnSo None back others None → GoesOnSo (Some end) back others None
  goes_on_behind [] ends = absurd ends
  goes_on_behind (order ∷ more) (segment, rest, begins, sound, same, next) =
      let (own_rest, is) = one_front None back follow.first segment follow.rest rest follow.begins begins in
      let own_sound : IsSoundAfter None follow.first = subst (IsSoundAfter None) (sym is) sound in
      let behind : IsSoundAfter (Some end) follow.first =
      behind_any follow.first follow.begins.spelled.in_range own_sound end orderly follow.layout follow.pages
      (subst (HasSettledReleases end) (sym is) (settled_first end None back segment rest begins follow.settled more next)) in
      let clean = clean_is_orderly follow.first (clean_of None follow.first own_sound) in
      let there : GoesOnSo (Some (run_after None follow.first)) rest more None =
      subst (λ (s : Recording). GoesOnSo (Some (run_after None s)) rest more None) (sym is) next in
      let later : GoesOnSo (Some (run_after (Some end) follow.first)) rest more None =
      goes_on_later end orderly (run_after None follow.first) rest more clean follow.pages follow.layout
      (subst (λ (s : Recording). AreSettled end (Some s.layout) rest) (sym is) (settled_rest end None back segment rest begins follow.settled)) there in (
        segment,
        rest,
        begins_behind end.trace.layout back segment rest (ap (λ (r : Recording). r.layout) (sym is) ∙ follow.layout) begins,
        subst (IsSoundAfter (Some end)) is behind,
        same,
        subst (λ (s : Recording). GoesOnSo (Some (run_after (Some end) s)) rest more None) is later,
      )

  -- the segments at the front, and what comes behind them
  pub goes_on_as_one : (before : Option Run) (front : List ℕ) (orders others : List (List ℕ)) (segments : List Recording)
      → GoesOnSo before front orders None → SpellUpTo before front segments end → GoesOnSo None back others None
      → GoesOnSo before (front ++ back) (orders ++ others) None
  goes_on_as_one before front [] others [] ends (none, is) behind =
      subst (λ (b : List ℕ). GoesOnSo before (b ++ back) others None) (sym none)
      (subst (λ (r : Option Run). GoesOnSo r back others None) (sym is) (goes_on_behind others behind))
  goes_on_as_one before front [] others (segment ∷ segments) ends (rest, begins, next) behind =
      absurd (begins_some (layout_before before) front segment rest begins (ended before front ends))
  goes_on_as_one before front (order ∷ more) others [] (segment, rest, begins, sound, same, next) (none, is) behind =
      absurd (begins_some (layout_before before) front segment rest begins none)
  goes_on_as_one before front (order ∷ more) others (other ∷ segments) (segment, rest, begins, sound, same, next) (last, starts, spelled) behind =
      let (is_rest, is) = one_front (layout_before before) front other segment last rest starts begins in
      let those : SpellUpTo (Some (run_after before segment)) rest segments end =
      subst (λ (s : Recording). SpellUpTo (Some (run_after before s)) rest segments end) is
      (subst (λ (b : List ℕ). SpellUpTo (Some (run_after before other)) b segments end) is_rest spelled) in (
        segment,
        rest ++ back,
        begins_longer (layout_before before) front segment rest back begins,
        sound,
        same,
        goes_on_as_one (Some (run_after before segment)) rest more others segments next those behind,
      )

-- the run that is come to is orderly, where the one before is
pub comes_orderly : (before : Option Run) (front : List ℕ) (orders : List (List ℕ)) (segments : List Recording) (end : Run)
    → IfSome before (λ (run : Run). IsOrderly run.trace) → GoesOnSo before front orders None → SpellUpTo before front segments end → IsOrderly end.trace
comes_orderly (Some run) front [] [] end orderly ends (none, is) = subst (λ (r : Run). IsOrderly r.trace) (same_Some run end is) orderly
comes_orderly None front [] [] end orderly ends (none, is) = absurd ends
comes_orderly before front [] (segment ∷ segments) end orderly ends (rest, begins, next) =
    absurd (begins_some (layout_before before) front segment rest begins (ended before front ends))
comes_orderly before front (order ∷ more) [] end orderly (segment, rest, begins, sound, same, next) (none, is) =
    absurd (begins_some (layout_before before) front segment rest begins none)
comes_orderly before front (order ∷ more) (other ∷ segments) end orderly (segment, rest, begins, sound, same, next) (last, starts, spelled) =
    let (is_rest, is) = one_front (layout_before before) front other segment last rest starts begins in
    let those : SpellUpTo (Some (run_after before segment)) rest segments end =
    subst (λ (s : Recording). SpellUpTo (Some (run_after before s)) rest segments end) is
    (subst (λ (b : List ℕ). SpellUpTo (Some (run_after before other)) b segments end) is_rest spelled) in
    comes_orderly (Some (run_after before segment)) rest more segments end
    (with_one before segment orderly (clean_is_orderly segment (clean_of before segment sound))) next those where
      with_one : (before : Option Run) (segment : Recording) → IfSome before (λ (run : Run). IsOrderly run.trace) → IsOrderly segment
          → IsOrderly (run_after before segment).trace
      with_one None segment old new = new
      with_one (Some run) segment old new = orderly_both run.trace segment old new

-- what goes on well comes to something
pub comes_to_some : (before : Option Run) (bytes : List ℕ) (orders : List (List ℕ)) → GoesOnSo before bytes orders None → (end : Run) × ComesTo before bytes end
comes_to_some None bytes [] ends = absurd ends
comes_to_some (Some run) bytes [] ends = (run, ([], (ended (Some run) bytes ends, refl)))
comes_to_some before bytes (order ∷ more) (segment, rest, begins, sound, same, next) =
    let (end, (segments, spelled)) = comes_to_some (Some (run_after before segment)) rest more next in
    (end, (segment ∷ segments, (rest, begins, spelled)))

-- what two parts come to, as one
module _ (end : Run) (back : List ℕ) (follow : MayFollow end back) where
  comes_behind : (last : Run) → ComesTo None back last → ComesTo (Some end) back (run_behind end last)
  comes_behind last ([], ends) = absurd (let none : None ≡ Some last = ends.1 in cc)
  comes_behind last (segment ∷ more, (rest, begins, next)) =
      let (own_rest, is) = one_front None back follow.first segment follow.rest rest follow.begins begins in
      let layout = ap (λ (r : Recording). r.layout) (sym is) ∙ follow.layout in (
        segment ∷ more,
        (rest, begins_behind end.trace.layout back segment rest layout begins, spelled_later end (run_after None segment) last rest more layout next),
      )

  pub comes_as_one : (before : Option Run) (front : List ℕ) (segments : List Recording) (last : Run) → SpellUpTo before front segments end
      → ComesTo None back last → ComesTo before (front ++ back) (run_behind end last)
  comes_as_one before front [] last (none, is) behind =
      subst (λ (b : List ℕ). ComesTo before (b ++ back) (run_behind end last)) (sym none)
      (subst (λ (r : Option Run). ComesTo r back (run_behind end last)) (sym is) (comes_behind last behind))
  comes_as_one before front (segment ∷ segments) last (rest, begins, next) behind =
      let (more, spelled) = comes_as_one (Some (run_after before segment)) rest segments last next behind in
      (segment ∷ more, (rest ++ back, begins_longer (layout_before before) front segment rest back begins, spelled))
