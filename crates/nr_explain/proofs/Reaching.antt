-- An address from which the memory of a release could be reached leads there: in its segment, or by what is left behind the segments before.
use Rattle.std.proofs.Common.{◌≡◌, ◌↔◌, ℕ, ◌+◌, ◌-◌, ◌<◌, ◌≤◌, ◌⊎◌, inl, inr, Bool, true, false, cond, List, length, take, Option, Some, None, refl, sym, ap}
use Rattle.std.proofs.Common.{subst}
use Rattle.std.proofs.Common.{◌∙◌, arith}
use Rattle.std.specs.Prelude.{option_and_then, IfSome, IsSome}
use Rattle.std.proofs.lemmas.Bool.{false≢true}
use Rattle.std.proofs.lemmas.Option.{none-some, same_Some}
use Rattle.vs_types.specs.Page.{bytes_of}
use Rattle.vs_types.specs.Access.{allows, fault_code}
use Rattle.vs_types.specs.Space.{Space, page_at}
use Rattle.vs_types.specs.Step.{allow, allow_in_page, look_in_page}
use Rattle.vs_types.specs.declared.addresses.access.Access.{Access}
use Rattle.vs_types.specs.declared.addresses.access.Mode.{Mode}
use Rattle.vs_types.specs.declared.requests.answer.Answer.TheVariants.{Allowed, Done, Fault}
use Rattle.vs_types.specs.declared.addresses.page.Page.{Page}
use Rattle.nr_trace.specs.Recording.{Recording}
use Rattle.nr_trace.specs.Calls.{Invocation, IsCall, Released, Response, call_of, released_in, released_of, reply_of}
use Rattle.nr_trace.specs.declared.recordings.event.Asked.{Asked}
use Rattle.nr_trace.specs.declared.recordings.event.Asked.TheVariants as askeds
use Rattle.nr_trace.specs.Laws.{HasCleanLog}
use Rattle.nr_trace.specs.Orders.{space_from}
use Rattle.nr_trace.specs.Joined.{joined_traces}
use Rattle.nr_trace.specs.Run.{end_of}
use Rattle.nr_touch.specs.Looks.{IsLookLeft}
use Rattle.nr_touch.specs.Releases.{IsReachable, IsReachedFrom}
use Rattle.nr_touch.specs.Tails.{GoesOn, IsTailOf, Lingers}
use Rattle.nr_touch.specs.Touches.{page_after, touch_behind, EndsLook, IsAllowedPrefix, IsAnsweredBefore, IsAnsweredInTime, IsRightTouch}
use Rattle.nr_touch.specs.declared.releases.release.Release as releases
use Rattle.nr_touch.specs.declared.touches.tail.Left.{Left}
use Rattle.nr_touch.specs.declared.touches.tail.Tail.{Tail}
use Rattle.nr_touch.specs.declared.touches.touch.Touch.{Touch}
use Rattle.nr_touch.proofs.cuts.Behind.{in_time_parts}
use Rattle.nr_audit.specs.Releases.{HasRelease, IsDoneOrOpen}
use Rattle.nr_audit.proofs.ReleasesBehind.{found_in_time}
use Rattle.nr_explain.specs.ChainEvidence.{release_at, IsReach, IsWrongSo}
use Rattle.nr_explain.specs.ChainFacts.{EndsFinding, IsIn, LeadsInto}
use Rattle.nr_explain.specs.Facts.{IsCallOf, IsFirstReplyTo, released, response}
use Rattle.nr_explain.specs.Progress.{ChainState, Seen, run_in, IsSeen, IsSeenOf}
use Rattle.nr_explain.specs.inside.Firsts.{IsLeastSeen, IsReleaseToShow, ShowsReachLeft}
use Rattle.nr_explain.specs.inside.Reaches.{FindsBefore, FindsReach, FindsWithin, IsReachBefore}
use Rattle.nr_explain.specs.inside.Reaches.{IsWhyOf, LeadsNowhere, NothingLeads}
use Rattle.nr_explain.specs.inside.Reading.{left_seen, state_of}
use Rattle.nr_explain.specs.inside.Windows.{IsWindowOf}
use Rattle.nr_explain.specs.declared.chain.evidence.Reach.{Reach}
use Rattle.nr_explain.specs.declared.chain.progress.Progress.{Progress}
use Rattle.nr_explain.specs.declared.chain.windows.Window.{Window}
use Rattle.nr_explain.specs.declared.chain.evidence.WhyWrong.{WhyWrong}
use Rattle.nr_explain.specs.declared.chain.evidence.WhyWrong.TheVariants.{Otherwise, Reached}
use Rattle.nr_explain.specs.declared.chain.evidence.Given.{Given}
use Rattle.nr_explain.specs.declared.trace.evidence.RecordedCall.{RecordedCall}
use Rattle.nr_explain.specs.declared.trace.evidence.RecordedReply.{RecordedReply}
use Rattle.nr_explain.proofs.Answering.{one_answer, answers_of}
use Rattle.nr_explain.proofs.Windows.{ends_kind, window_is}
use Rattle.nr_trace.proofs.LawsOfCalls.{answers_from}

-- ---- what an access finds

-- an access that is allowed finds a page
page_found : (a phys : ℕ) (mode : Mode) (access : Access) (page : Option Page) → Allowed phys ≡ allow_in_page a mode access page → IsSome page
page_found a phys mode access None e = absurd (cc)
page_found a phys mode access (Some own) e = refl

-- a page in which an access finds the memory leads into it
finds_into : (given : Given) (a phys : ℕ) (mode : Mode) (access : Access) (page : Option Page) → IsIn given phys
    → Allowed phys ≡ allow_in_page a mode access page → LeadsInto given (look_in_page a page)
finds_into given a phys mode access None within e = absurd (cc)
finds_into given a phys mode access (Some own) within e = by (allows own.rights mode access) e where
  by : (b : Bool) → Allowed phys ≡ cond b (Allowed (own.phys + (a - own.base))) (Fault (fault_code true mode access))
      → IsIn given (own.phys + (a - own.base))
  by true e = subst (IsIn given) (let same : phys ≡ own.phys + (a - own.base) = cc in same) within
  by false e = absurd (cc)

-- ---- from an address that leads nowhere

module _ (changes : List Left) (start : Space) (segment : Recording) (event : ℕ) (given : Given) (address : ℕ)
    (nowhere : LeadsNowhere changes start segment event given address) where
  in_time : (touch : Touch) (phys : ℕ) → touch.address ≡ address → touch.made ≡ event → touch.answered ≡ event → touch.answer ≡ Allowed phys
      → IsIn given phys → IsAnsweredInTime start segment touch → ⊥
  in_time touch phys at made answered finds within (n, allowed, told) =
      let page = page_found touch.address phys touch.mode touch.access (page_after start segment touch.address n) (sym finds ∙ told) in
      let both = (window_is start segment address event event true touch nowhere.window at made answered nowhere.is n page).0 allowed in
      let low = both.0 in
      let high = both.1 in
      nowhere.within n low (omega (arith, high))
      (finds_into given address phys touch.mode touch.access (page_at (space_from start segment (take n segment.log)) address) within
      (subst (λ (a : ℕ). Allowed phys ≡ allow (space_from start segment (take n segment.log)) a touch.mode touch.access) at (sym finds ∙ told)))

  of_segment : (touch : Touch) (phys : ℕ) → touch.address ≡ address → touch.made ≡ event → touch.answered ≡ event → touch.answer ≡ Allowed phys
      → IsIn given phys → IsRightTouch start segment touch → ⊥
  of_segment touch phys at made answered finds within right =
      in_time touch phys at made answered finds within (found_in_time start segment touch phys finds right)

  -- nothing that was taken away was flushed, so the window begins with the segment
  none_flushed : (touch : Touch) (page : Option Page) → IsSome page → touch.address ≡ address → touch.made ≡ event
      → ((place : ℕ) → EndsLook start segment touch.address page place → IsAnsweredBefore segment place touch.made → ⊥) → nowhere.window.first ≡ 0
  none_flushed touch page some at made none = elim nowhere.is.reached [
    | inl zero_so ↦ zero_so
    | inr place ↦ absurd (none place.0
        ((ends_kind start segment touch.address true page place.0 some).1
        (subst (λ (a : ℕ). EndsFinding start segment a true place.0) (sym at) place.3.0))
        (subst (IsAnsweredBefore segment place.0) (sym made) place.3.1))
  ]

  behind_run : (came : ChainState) (seen : Seen) → IsSeen came seen → start ≡ end_of came.run → segment.layout ≡ came.run.trace.layout
      → changes ≡ seen.tail.changes.items → IsReachedFrom (Some came.run) start segment (release_at event given) address → ⊥
  behind_run came seen kept ends layout same reached =
      by_part (in_time_parts came.run.start came.run.trace segment layout kept.tail.orderly reached.touch
      (found_in_time came.run.start (joined_traces came.run.trace segment)
      (touch_behind (length came.run.trace.events) (length came.run.trace.log) reached.touch) reached.phys reached.finds reached.right)) where
        by_part : IsAnsweredInTime (end_of came.run) segment reached.touch
            ⊎ ((page : Option Page)
            × ((place : ℕ) → EndsLook (end_of came.run) segment reached.touch.address page place → IsAnsweredBefore segment place reached.touch.made → ⊥)
            × Lingers came.run.start came.run.trace reached.touch.address page
            × (reached.touch.answer ≡ allow_in_page reached.touch.address reached.touch.mode reached.touch.access page)) → ⊥
        by_part (inl own) =
            in_time reached.touch reached.phys reached.of_it reached.made reached.answered reached.finds reached.within
            (subst (λ (s : Space). IsAnsweredInTime s segment reached.touch) (sym ends) own)
        by_part (inr (page, none, lingers, told)) =
            let some = page_found reached.touch.address reached.phys reached.touch.mode reached.touch.access page (sym reached.finds ∙ told) in
            nowhere.earlier
            (none_flushed reached.touch page some reached.of_it reached.made
            (subst (λ (s : Space). (place : ℕ) → EndsLook s segment reached.touch.address page place → IsAnsweredBefore segment place reached.touch.made → ⊥)
            (sym ends) none))
            (look_in_page address page)
            (subst (λ (cs : List Left). IsLookLeft cs address (look_in_page address page)) (sym same)
            (page, (kept.tail.left address page).1 (subst (λ (a : ℕ). Lingers came.run.start came.run.trace a page) reached.of_it lingers), refl))
            (finds_into given address reached.phys reached.touch.mode reached.touch.access page reached.within
            (subst (λ (a : ℕ). Allowed reached.phys ≡ allow_in_page a reached.touch.mode reached.touch.access page) reached.of_it (sym reached.finds ∙ told)))

  pub unreached : (came : Option ChainState) (seen : Option Seen) → IsSeenOf came seen → GoesOn (run_in came) segment start → changes ≡ left_seen seen
      → IsReachedFrom (run_in came) start segment (release_at event given) address → ⊥
  unreached None None kept goes_on same reached =
      of_segment reached.touch reached.phys reached.of_it reached.made reached.answered reached.finds reached.within reached.right
  unreached (Some came) (Some seen) kept (ends, layout) same reached = behind_run came seen kept ends layout same reached
  unreached None (Some seen) kept goes_on same reached = kept
  unreached (Some came) None kept goes_on same reached = kept

-- ---- what is found from an address

module _ (changes : List Left) (start : Space) (segment : Recording) (event : ℕ) (given : Given) (address : ℕ) (window : Window)
    (is : IsWindowOf start segment address event event true window) where
  allowed_so : (touch : Touch) → touch.address ≡ address → touch.made ≡ event → touch.answered ≡ event → (n : ℕ)
      → IsSome (page_after start segment touch.address n) → IsAllowedPrefix start segment touch n ↔ ((window.first ≤ n) × (n ≤ window.last))
  allowed_so touch at made answered n page = window_is start segment address event event true touch window at made answered is n page

  pub reach_within : (found : Reach) → FindsWithin start segment address window given (Some found)
      → FindsReach changes start segment event given address (Some found)
  reach_within found (moment, (low, below, looks, leads, later), it) = subst (λ (r : Reach). FindsReach changes start segment event given address (Some r))
      (sym it.is) (
        record {
          is = record {
            window = allowed_so;
            leads = leads;
            leading = (low, omega (arith, below), looks, (λ n past high more. later n past (omega (arith, high)) more), it.takes);
          };
          left = tt;
        },
        refl,
      )

  reach_before : (found : Reach) → NothingLeads start segment address window.first (window.last + 1) given
      → IsReachBefore changes address window given found → FindsReach changes start segment event given address (Some found)
  reach_before found nothing it = subst (λ (r : Reach). FindsReach changes start segment event given address (Some r)) (sym it.is) (
    record {
      is = record {
        window = allowed_so;
        leads = it.leads;
        leading = let none = it.none in (none, (λ n high more. nothing n (omega (arith, none)) (omega (arith, high)) more));
      };
      left = it.left;
    },
    refl,
  )

  pub reach_so : (found : Option Reach) → NothingLeads start segment address window.first (window.last + 1) given
      → FindsBefore changes address window given found → FindsReach changes start segment event given address found
  reach_so None nothing before = record { window = window; is = is; within = nothing; earlier = before }
  reach_so (Some found) nothing before = reach_before found nothing before

-- ---- the release

-- a release is a call
pub release_is_call : (segment : Recording) (release : releases.Release) → HasRelease segment release → IsCall segment release.made
release_is_call segment release has = by (call_of segment release.made) has.gives where
  by : (o : Option Invocation) → option_and_then (λ (made : Invocation). released_in made.asked) o ≡ Some (record { size = release.size; phys = release.phys })
      → IsSome o
  by None e = absurd (none-some _ e)
  by (Some made) e = refl

gives_itself : (asked : Asked) (memory : Released) → released_in asked ≡ Some memory → asked ≡ askeds.Release memory.size memory.phys
gives_itself (askeds.Request request) memory e = absurd (none-some memory e)
gives_itself (askeds.Touch address mode access) memory e = absurd (none-some memory e)
gives_itself (askeds.Release size phys) memory e =
    ap (λ (m : Released). askeds.Release m.size m.phys) (same_Some (record { size = size; phys = phys }) memory e)

pub release_asks : (segment : Recording) (call : RecordedCall) (release : releases.Release) → IsCallOf segment call → HasRelease segment release
    → release.made ≡ call.event → call.asked ≡ askeds.Release release.size release.phys
release_asks segment call release is has made =
    gives_itself call.asked (record { size = release.size; phys = release.phys })
    (sym (ap (option_and_then (λ (m : Invocation). released_in m.asked)) is) ∙ ap (released_of segment) (sym made) ∙ has.gives)

-- no reply says otherwise than Done
pub done_or_open : (segment : Recording) (call : ℕ) (reply : Option RecordedReply) → HasCleanLog segment → IsFirstReplyTo segment call reply
    → IfSome reply (λ (it : RecordedReply). it.answer ≡ Done) → IsDoneOrOpen segment call
done_or_open segment call None clean none done index reply is names = absurd (none index (answers_from segment index call reply is names))
done_or_open segment call (Some own) clean first done index reply is names =
    let same = one_answer segment index own.event call clean (answers_from segment index call reply is names) (answers_of segment call own first.0 first.1) in
    ap (λ (r : Response). r.answer) (same_Some reply (response own) (sym is ∙ ap (reply_of segment) same ∙ first.0)) ∙ done

pub is_reachable : (seen : Option Seen) (start : Space) (segment : Recording) (call : ℕ) (given : Given) (show : IsReleaseToShow seen start segment call)
    → released_of segment call ≡ Some (released given) → IsDoneOrOpen segment call
    → IsReachable (run_in show.came) start segment (release_at call given)
is_reachable seen start segment call given show gives done = by show.wrong where
  same : record { size = show.release.size; phys = show.release.phys } ≡ released given
  same = same_Some _ (released given) (sym show.has.gives ∙ ap (released_of segment) show.made ∙ gives)

  by : (show.release.is_done ≡ false) ⊎ IsReachable (run_in show.came) start segment show.release
      → IsReachable (run_in show.came) start segment (release_at call given)
  by (inl other) = absurd (false≢true (sym other ∙ show.has.done.1 (subst (IsDoneOrOpen segment) (sym show.made) done)))
  by (inr can) = record {
    touch = can.touch;
    made = can.made ∙ show.made;
    answered = can.answered ∙ show.made;
    phys = can.phys;
    finds = can.finds;
    within = subst (λ (memory : Released). (memory.phys ≤ can.phys) × (can.phys < memory.phys + bytes_of memory.size)) same can.within;
    right = can.right;
  }

-- why it is wrong
pub wrong_so : (seen : Option Seen) (start : Space) (segment : Recording) (index : ℕ) (call : RecordedCall) (given : Given) (why : WhyWrong)
    → call.event ≡ index → call.asked ≡ askeds.Release given.size given.phys → IsWhyOf seen start segment index given why
    → IsWrongSo start segment call why
wrong_so seen start segment index call given (Otherwise reply) at gives (first, other) =
    (subst (λ (n : ℕ). IsFirstReplyTo segment n (Some reply)) (sym at) first, other)
wrong_so seen start segment index call given (Reached reply reach) at gives (first, done, found) = (
  subst (λ (n : ℕ). IsFirstReplyTo segment n reply) (sym at) first,
  done,
  given,
  gives,
  subst (λ (n : ℕ). IsReach start segment n given reach) (sym at) found.of_it.is,
)

pub left_so : (seen : Option Seen) (start : Space) (segment : Recording) (index : ℕ) (call : RecordedCall) (given : Given) (why : WhyWrong)
    → call.event ≡ index → call.asked ≡ askeds.Release given.size given.phys → IsWhyOf seen start segment index given why
    → ShowsReachLeft seen start segment call why
left_so seen start segment index call given (Otherwise reply) at gives of_it = tt
left_so seen start segment index call given (Reached reply reach) at gives (first, done, found) = (
  found.of_it.left,
  λ other same. subst (λ (n : ℕ). IsLeastSeen seen start segment n other reach.address) (sym at)
      (subst (λ (m : Released). IsLeastSeen seen start segment index (record { size = m.size; phys = m.phys }) reach.address)
      (same_Some (released given) (released other) (ap released_in (sym gives ∙ same))) found.least),
)

-- ---- what is kept of a run

pub tail_of : (came : Option ChainState) (last : Progress) → IsSeenOf came (Some (state_of last)) → IsTailOf (run_in came) last.tail
tail_of None last kept = absurd kept
tail_of (Some came) last kept = kept.tail

pub no_tail : (came : Option ChainState) (tail : Tail) → IsSeenOf came None → IsTailOf None tail → IsTailOf (run_in came) tail
no_tail None tail kept none = none
no_tail (Some came) tail kept none = absurd kept
