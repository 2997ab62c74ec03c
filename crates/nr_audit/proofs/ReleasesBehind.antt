-- Releases that are right by themselves are right behind a run that is settled.
use Rattle.std.proofs.Common.{◌≡◌, ℕ, ◌+◌, ◌-◌, ◌⊎◌, inl, inr, Bool, true, false, cond, length, Option, None, Some, refl, sym, ap, ◌∙◌, subst, arith}
use Rattle.vs_types.specs.Access.{allows, fault_code}
use Rattle.vs_types.specs.Space.{Space, page_at}
use Rattle.vs_types.specs.Step.{allow_in_page}
use Rattle.vs_types.specs.declared.addresses.access.Access.{Access}
use Rattle.vs_types.specs.declared.addresses.access.Access.TheVariants.{Read}
use Rattle.vs_types.specs.declared.addresses.access.Mode.{Mode}
use Rattle.vs_types.specs.declared.addresses.access.Mode.TheVariants.{Supervisor}
use Rattle.vs_types.specs.declared.requests.answer.Answer.TheVariants.{Allowed, Fault}
use Rattle.vs_types.specs.declared.addresses.page.Page.{Page}
use Rattle.nr_trace.specs.Recording.{Recording}
use Rattle.nr_trace.specs.Joined.{joined_traces}
use Rattle.nr_trace.specs.Run.{Run, end_of, IsOrderly}
use Rattle.nr_touch.specs.Releases.{IsReachable, IsWrongRelease}
use Rattle.nr_touch.specs.Tails.{Lingers}
use Rattle.nr_touch.specs.Touches.{touch_behind, EndsLook, IsAnsweredInTime, IsRightTouch}
use Rattle.nr_touch.specs.inside.Earlier.{EndsNowhere}
use Rattle.nr_touch.specs.inside.Reached.{probe_at, IsSamePlace}
use Rattle.nr_touch.specs.declared.releases.release.Release.{Release}
use Rattle.nr_touch.specs.declared.touches.touch.Touch.{Touch}
use Rattle.nr_touch.proofs.cuts.Behind.{in_time_parts}
use Rattle.nr_audit.specs.Releases.{HasRightReleases, HasSettledReleases, IsSettled}

-- a touch that finds memory is answered in time, where it is right
pub found_in_time : (start : Space) (trace : Recording) (touch : Touch) (phys : ℕ) → touch.answer ≡ Allowed phys → IsRightTouch start trace touch
    → IsAnsweredInTime start trace touch
found_in_time start trace touch phys finds (inl in_time) = in_time
found_in_time start trace touch phys finds (inr (fault, m, it)) = absurd (let both = sym finds ∙ fault in cc)

-- where an access of a page finds memory
found_in_page : (phys a : ℕ) (mode : Mode) (access : Access) (page : Page) → Allowed phys ≡ allow_in_page a mode access (Some page)
    → phys ≡ page.phys + (a - page.base)
found_in_page phys a mode access page e = by (allows page.rights mode access) e where
  by : (b : Bool) → Allowed phys ≡ cond b (Allowed (page.phys + (a - page.base))) (Fault (fault_code true mode access)) → phys ≡ page.phys + (a - page.base)
  by true e = cc
  by false e = absurd (cc)

-- a read that a page of the start answers is in time, where no update before it took anything away there
found_anew : (start : Space) (trace : Recording) (touch : Touch) (own : Page) → page_at start touch.address ≡ Some own
    → touch.answer ≡ allow_in_page touch.address touch.mode touch.access (Some own) → EndsNowhere start trace touch.address (Some own) touch.made
    → IsAnsweredInTime start trace touch
found_anew start trace touch own at answered nowhere = (
  0,
  record {
    within = omega arith;
    flushed = λ place ends early. absurd (nowhere place (subst (λ (o : Option Page). EndsLook start trace touch.address o place) at ends) early);
    not_foreseen = λ place changes late. omega arith;
  },
  answered ∙ ap (allow_in_page touch.address touch.mode touch.access) (sym at),
)

-- the memory that a page that lingers led to is found in the page that is there at the start
pub settled_reach : (start : Space) (trace : Recording) (touch : Touch) (phys : ℕ) (page own : Page) → touch.answer ≡ Allowed phys
    → touch.answer ≡ allow_in_page touch.address touch.mode touch.access (Some page) → page_at start touch.address ≡ Some own → IsSamePlace page own
    → EndsNowhere start trace touch.address (Some page) touch.made → (made known : ℕ) → touch.made ≡ made
    → IsAnsweredInTime start trace (record {
      made = made;
      answered = made;
      known = known;
      address = touch.address;
      mode = Supervisor;
      access = Read;
      answer = Allowed phys;
    })
settled_reach start trace touch phys page own finds answered at same nowhere made known is =
    found_anew start trace (record {
      made = made;
      answered = made;
      known = known;
      address = touch.address;
      mode = Supervisor;
      access = Read;
      answer = Allowed phys;
    }) own at
    (ap Allowed (let there = found_in_page phys touch.address touch.mode touch.access page (sym finds ∙ answered) in
    let base = same.base in let frame = same.phys in omega (arith, there, base, frame)))
    (subst (EndsNowhere start trace touch.address (Some page)) is nowhere)

module _ (run : Run) (segment : Recording) (orderly : IsOrderly run.trace) (same_layout : segment.layout ≡ run.trace.layout) where
  reached_alone : IsSettled run → (release : Release) → IsReachable (Some run) (end_of run) segment release
      → IsReachable None (end_of run) segment release
  reached_alone settled release it =
      by (in_time_parts run.start run.trace segment same_layout orderly it.touch
      (found_in_time run.start (joined_traces run.trace segment) (touch_behind (length run.trace.events) (length run.trace.log) it.touch) it.phys it.finds
      it.right)) where
        by_page : (page : Option Page) → EndsNowhere (end_of run) segment it.touch.address page it.touch.made
            → Lingers run.start run.trace it.touch.address page → it.touch.answer ≡ allow_in_page it.touch.address it.touch.mode it.touch.access page
            → IsReachable None (end_of run) segment release
        by_page None none lingers answered = absurd (let both = sym it.finds ∙ answered in cc)
        by_page (Some page) none lingers answered =
            let (own, at, same) = settled it.touch.address page lingers in
            record {
              touch = probe_at release.made it.touch.address it.phys;
              made = refl;
              answered = refl;
              phys = it.phys;
              finds = refl;
              within = it.within;
              right = inl (settled_reach (end_of run) segment it.touch it.phys page own it.finds answered at same none release.made 0 it.made);
            }

        by : IsAnsweredInTime (end_of run) segment it.touch ⊎ ((page : Option Page) × EndsNowhere (end_of run) segment it.touch.address page it.touch.made
            × Lingers run.start run.trace it.touch.address page × (it.touch.answer ≡ allow_in_page it.touch.address it.touch.mode it.touch.access page))
            → IsReachable None (end_of run) segment release
        by (inl alone) = record {
          touch = it.touch;
          made = it.made;
          answered = it.answered;
          phys = it.phys;
          finds = it.finds;
          within = it.within;
          right = inl alone;
        }
        by (inr (page, none, lingers, answered)) = by_page page none lingers answered

  pub released_behind : HasSettledReleases run segment → HasRightReleases None (end_of run) segment → HasRightReleases (Some run) (end_of run) segment
  released_behind settled right release has wrong = right release has (alone wrong) where
    alone : IsWrongRelease (Some run) (end_of run) segment release → IsWrongRelease None (end_of run) segment release
    alone (inl undone) = inl undone
    alone (inr it) = inr (reached_alone (settled release has) release it)
