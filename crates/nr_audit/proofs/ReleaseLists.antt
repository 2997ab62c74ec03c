-- The releases of a segment, as a list, and what a search of them finds.
use Rattle.std.proofs.Common.{◌≡◌, ℕ, ◌+◌, ◌<◌, ◌↔◌, inl, inr, Bool, true, false, List, [], ◌∷◌, ◌++◌, length, get_or, slice_get, Option, Some, None}
use Rattle.std.proofs.Common.{option_and_then, option_map, IsTrue, IfSome, refl, sym, ap, ◌∙◌, subst, arith}
use Rattle.std.specs.Prelude.{IfNone, IsSome}
use Rattle.std.specs.List.{AllPairs}
use Rattle.std.proofs.lemmas.Bool.{cases_lt}
use Rattle.std.proofs.lemmas.List.{length-append}
use Rattle.std.proofs.lemmas.Option.{get_or_from_slice_get, none-some, same_Some, slice_get_within, slice_get-get_or}
use Rattle.vs_types.specs.Space.{Space}
use Rattle.vs_types.specs.declared.requests.answer.Answer.{Answer}
use Rattle.vs_types.specs.declared.requests.answer.Answer.TheVariants.{Done}
use Rattle.nr_trace.specs.Recording.{IsEvent, IsMemory, IsRecording, Recording}
use Rattle.nr_trace.specs.Calls.{made_by, released_in, released_of, unordered_in, Answers, Invocation, IsTouch, Released, Response, reply_of}
use Rattle.nr_trace.specs.declared.recordings.event.Event.{Event}
use Rattle.nr_trace.specs.declared.recordings.event.Event.TheVariants as events
use Rattle.nr_trace.specs.declared.recordings.event.Asked.TheVariants as askeds
use Rattle.nr_trace.proofs.LawsOfCalls.{answers_from, reply_below, reply_that_answers}
use Rattle.nr_trace.specs.Run.{Run}
use Rattle.nr_touch.specs.Releases.{AreMemory, FindsReachable}
use Rattle.nr_touch.specs.declared.releases.release.Release.{Release}
use Rattle.nr_audit.specs.Releases.{HasRelease, HasRightReleases, IsDoneOrOpen, IsWrongAt}
use Rattle.nr_audit.specs.inside.Begun.{release_by, AreReleasesBelow, HasSomeTouch, IsFirstWrong, IsReleaseAt}
use Rattle.nr_audit.specs.inside.Tables.{IsReplyBelow}
use Rattle.nr_audit.proofs.TouchLists.{pushed_cases, pushed_new, pushed_old}

-- ---- an event that gives memory away

record IsGiving (event : Option Event) (memory : Released) : Type 0 where
  pub replica : ℕ
  pub thread : ℕ
  pub is : event ≡ Some (events.Call replica thread (askeds.Release memory.size memory.phys))

abbrev given_in : Option Event → Option Released
given_in event = option_and_then (λ (made : Invocation). released_in made.asked) (option_and_then made_by event)

giving : (event : Option Event) (memory : Released) → given_in event ≡ Some memory → IsGiving event memory
giving (Some (events.Call replica thread (askeds.Release size phys))) memory e =
    let same : record { size = size; phys = phys } ≡ memory = same_Some (record { size = size; phys = phys }) memory e in
    record { replica = replica; thread = thread; is = ap (λ (m : Released). Some (events.Call replica thread (askeds.Release m.size m.phys))) same }
giving _ memory e = absurd (none-some memory e)

abbrev memory_in : Release → Released
memory_in release = record { size = release.size; phys = release.phys }

gives : (segment : Recording) (release : Release) → HasRelease segment release → IsGiving (slice_get segment.events release.made) (memory_in release)
gives segment release has = giving (slice_get segment.events release.made) (memory_in release) has.gives

pub release_within : (segment : Recording) (release : Release) → HasRelease segment release → release.made < length segment.events
release_within segment release has =
    let it = gives segment release has in
    slice_get_within segment.events release.made (events.Call it.replica it.thread (askeds.Release release.size release.phys)) it.is

abbrev of_event : Option Event → Type 0
of_event event = IsSome (option_and_then (λ (made : Invocation). unordered_in made.asked) (option_and_then made_by event))

abbrev is_event : Recording → Event → Type 0
is_event segment event = IsEvent segment.version segment.layout event

pub release_is_touch : (segment : Recording) (release : Release) → HasRelease segment release → IsTouch segment release.made
release_is_touch segment release has =
    let it = gives segment release has in
    subst (λ (event : Option Event). of_event event) (sym it.is) refl

-- its memory is one of its size
pub memory_of : (segment : Recording) → IsRecording segment → (release : Release) → HasRelease segment release → IsMemory release.size release.phys
memory_of segment in_range release has =
    let it = gives segment release has in
    let event = events.Call it.replica it.thread (askeds.Release release.size release.phys) in
    let within = slice_get_within segment.events release.made event it.is in
    let fits = in_range.events release.made event within in
    (subst (is_event segment) (get_or_from_slice_get segment.events release.made event event it.is) fits).2

-- ---- answered by Done, or not at all

pub done_so : (segment : Recording) (call : ℕ) (reply : Option ℕ) → IsReplyBelow segment (length segment.events) call reply
    → IfSome reply (λ (index : ℕ). IfSome (option_map (λ (r : Response). r.answer) (reply_of segment index)) (λ (answer : Answer). answer ≡ Done))
    → IsDoneOrOpen segment call
done_so segment call None none told index reply is names =
    absurd (none index (reply_below segment index reply is) (answers_from segment index call reply is names))
done_so segment call (Some own) (low, answers, only) told index reply is names =
    let same : index ≡ own = only index (reply_below segment index reply is) (answers_from segment index call reply is names) in
    subst (λ (o : Option Response). IfSome (option_map (λ (r : Response). r.answer) o) (λ (answer : Answer). answer ≡ Done))
    (ap (reply_of segment) (sym same) ∙ is) told

pub so_done : (segment : Recording) (call own : ℕ) → Answers segment own call → IsDoneOrOpen segment call
    → IfSome (option_map (λ (r : Response). r.answer) (reply_of segment own)) (λ (answer : Answer). answer ≡ Done)
so_done segment call own answers done =
    let (reply, is, names) = reply_that_answers segment own call answers in
    subst (λ (o : Option Response). IfSome (option_map (λ (r : Response). r.answer) o) (λ (answer : Answer). answer ≡ Done)) (sym is)
    (done own reply is names)

-- ---- the release of an event

same_test : {P : Type 0} (a b : Bool) → IsTrue a ↔ P → IsTrue b ↔ P → a ≡ b
same_test true true f g = refl
same_test false false f g = refl
same_test true false f g = sym (g.1 (f.0 refl))
same_test false true f g = f.1 (g.0 refl)

one_release : (segment : Recording) (first second : Release) → HasRelease segment first → HasRelease segment second → first.made ≡ second.made → first ≡ second
one_release segment first second has also made =
    let memory : memory_in first ≡ memory_in second =
    same_Some (memory_in first) (memory_in second) (sym has.gives ∙ ap (released_of segment) made ∙ also.gives) in
    let done : first.is_done ≡ second.is_done =
    same_test first.is_done second.is_done has.done (subst (λ (call : ℕ). IsTrue second.is_done ↔ IsDoneOrOpen segment call) (sym made) also.done) in
    λ i. record { made = made i; size = (memory i).size; phys = (memory i).phys; is_done = done i }

not_there : (segment : Recording) (made : ℕ) → released_of segment made ≡ None → (release : Release) → HasRelease segment release → release.made ≡ made → ⊥
not_there segment made none release has same =
    none-some (memory_in release) (sym none ∙ ap (released_of segment) (sym same) ∙ has.gives)

none_there : (segment : Recording) (made : ℕ) (found : Option Release) → released_of segment made ≡ None → found ≡ None → IsReleaseAt segment made found
none_there segment made found none is =
    subst (λ (o : Option Release). IsReleaseAt segment made o) (sym is) (not_there segment made none)

pub released_there : (segment : Recording) (made : ℕ) (done : Bool) (found : Option Release) → IsTrue done ↔ IsDoneOrOpen segment made
    → found ≡ release_by made done (slice_get segment.events made) → IsReleaseAt segment made found
released_there segment made done found told is = by (slice_get segment.events made) refl where
  by : (event : Option Event) → slice_get segment.events made ≡ event → IsReleaseAt segment made found
  by (Some (events.Call replica thread (askeds.Release size phys))) e =
      let release : Release = record { made = made; size = size; phys = phys; is_done = done } in
      let has : HasRelease segment release = record { gives = ap given_in e; done = told } in
      subst (λ (o : Option Release). IsReleaseAt segment made o) (sym (is ∙ ap (release_by made done) e))
      (has, refl, λ other also same. one_release segment other release also has same)
  by _ e = none_there segment made found (ap given_in e) (is ∙ ap (release_by made done) e)

-- ---- the list

-- none yet
pub none_below : (segment : Recording) → AreReleasesBelow segment 0 []
none_below segment = record {
  each = λ index release at. absurd (let none : None ≡ Some release = at in cc);
  all = λ release has lt. absurd (omega arith);
  rising = λ i j d less lt. absurd (omega arith);
}

-- no release more
pub no_more : (segment : Recording) (end : ℕ) (releases : List Release) → ((release : Release) → HasRelease segment release → release.made ≡ end → ⊥)
    → AreReleasesBelow segment end releases → AreReleasesBelow segment (end + 1) releases
no_more segment end releases none are = record {
  each = λ index release at. let has = are.each index release at in (has.0, omega (arith, has.1));
  all = λ release has lt. elim (cases_lt release.made end) [
    | inl low ↦ are.all release has low
    | inr same ↦ absurd (none release has (omega arith))
  ];
  rising = are.rising;
}

-- one release more
pub one_more_release : (segment : Recording) (end : ℕ) (releases : List Release) (release : Release) → HasRelease segment release → release.made ≡ end
    → ((other : Release) → HasRelease segment other → other.made ≡ end → other ≡ release)
    → AreReleasesBelow segment end releases → AreReleasesBelow segment (end + 1) (releases ++ release ∷ [])
one_more_release segment end releases release has made only are = record { each = each; all = all; rising = rising } where
  each : (index : ℕ) (other : Release) → slice_get (releases ++ release ∷ []) index ≡ Some other → HasRelease segment other × (other.made < end + 1)
  each index other at = elim (pushed_cases releases release index other at) [
    | inl old ↦ (let own = are.each index other old in (own.0, omega (arith, own.1)))
    | inr new ↦ (subst (HasRelease segment) new has, let same = ap (λ (t : Release). t.made) new in omega (arith, made))
  ]

  all : (other : Release) → HasRelease segment other → other.made < end + 1 → (index : ℕ) × (slice_get (releases ++ release ∷ []) index ≡ Some other)
  all other own lt = elim (cases_lt other.made end) [
    | inl low ↦ (let there = are.all other own low in (there.0, pushed_old releases release there.0 other there.1))
    | inr high ↦ (let one = only other own (omega arith) in (length releases, pushed_new releases release ∙ ap Some (sym one)))
  ]

  rising : AllPairs (λ first second. first.made < second.made) (releases ++ release ∷ [])
  rising i j d less lt =
      let n : j < length releases + 1 = omega (arith, length-append releases (release ∷ [])) in
      elim (cases_lt j (length releases)) [
        | inl low ↦
            subst (λ (t : Release). t.made < (get_or (releases ++ release ∷ []) j d).made) (sym (old_at i (omega arith)))
            (subst (λ (t : Release). (get_or releases i d).made < t.made) (sym (old_at j low)) (are.rising i j d less low))
        | inr high ↦ (
            let last : j ≡ length releases = omega arith in
            let new : get_or (releases ++ release ∷ []) j d ≡ release =
            ap (λ k. get_or (releases ++ release ∷ []) k d) last
            ∙ get_or_from_slice_get (releases ++ release ∷ []) (length releases) release d (pushed_new releases release) in
            let own = are.each i (get_or releases i d) (slice_get-get_or releases i d (omega arith)) in
            subst (λ (t : Release). t.made < (get_or (releases ++ release ∷ []) j d).made) (sym (old_at i (omega arith)))
            (subst (λ (t : Release). (get_or releases i d).made < t.made) (sym new) (omega (arith, own.1, made))))
      ]
    where
      old_at : (k : ℕ) → k < length releases → get_or (releases ++ release ∷ []) k d ≡ get_or releases k d
      old_at k low = get_or_from_slice_get (releases ++ release ∷ []) k (get_or releases k d) d
          (pushed_old releases release k (get_or releases k d) (slice_get-get_or releases k d low))

-- ---- what the search finds

pub all_right : (before : Option Run) (start : Space) (segment : Recording) (releases : List Release)
    → AreReleasesBelow segment (length segment.events) releases
    → FindsReachable before start segment releases None → HasRightReleases before start segment
all_right before start segment releases are finds release has bad =
    let there = are.all release has (release_within segment release has) in
    finds there.0 release there.1 bad

pub first_of_list : (before : Option Run) (start : Space) (segment : Recording) (releases : List Release) (index : ℕ) (d : Release)
    → AreReleasesBelow segment (length segment.events) releases
    → FindsReachable before start segment releases (Some index) → IsFirstWrong before start segment (get_or releases index d).made
first_of_list before start segment releases index d are (release, at, wrong, below) =
    let is = get_or_from_slice_get releases index release d at in
    subst (λ (t : Release). IsFirstWrong before start segment t.made) (sym is)
    record { wrong = (release, (are.each index release at).0, refl, wrong); none_lower = none } where
      none : (lower : ℕ) → lower < release.made → IsWrongAt before start segment lower → ⊥
      none lower less (other, has, made, bad) =
          let there = are.all other has (release_within segment other has) in
          elim (cases_lt there.0 index) [
            | inl earlier ↦ below there.0 other earlier there.1 bad
            | inr behind ↦ elim (cases_lt index there.0) [
              | inl later ↦ (
                  let rises = are.rising index there.0 other later (slice_get_within releases there.0 other there.1) in
                  let low : release.made < other.made = subst (λ (t : Release). t.made < other.made) (get_or_from_slice_get releases index release other at)
                  (subst (λ (t : Release). (get_or releases index other).made < t.made) (get_or_from_slice_get releases there.0 other other there.1) rises) in
                  omega (arith, made))
              | inr same ↦ (
                  let one : index ≡ there.0 = omega arith in
                  let them : release ≡ other = sym (get_or_from_slice_get releases index release release at)
                  ∙ ap (λ i. get_or releases i release) one ∙ get_or_from_slice_get releases there.0 other release there.1 in
                  let mades : release.made ≡ other.made = ap (λ (t : Release). t.made) them in
                  omega (arith, made))
            ]
          ]

-- what is found, by its call number
module _ (before : Option Run) (start : Space) (segment : Recording) (releases : List Release)
    (are : AreReleasesBelow segment (length segment.events) releases) where
  abbrev number_of : Option ℕ → Option ℕ
  number_of found = option_map (λ (release : Release). release.made) (option_and_then (slice_get releases) found)

  pub none_found : (found number : Option ℕ) → FindsReachable before start segment releases found → number ≡ number_of found
      → IfNone number (HasRightReleases before start segment)
  none_found None number finds is =
      subst (λ (o : Option ℕ). IfNone o (HasRightReleases before start segment)) (sym is)
      (all_right before start segment releases are finds)
  none_found (Some index) number finds is =
      let some : number ≡ Some finds.0.made = is ∙ ap (option_map (λ (t : Release). t.made)) finds.1 in
      subst (λ (o : Option ℕ). IfNone o (HasRightReleases before start segment)) (sym some) tt

  pub some_found : (found number : Option ℕ) → FindsReachable before start segment releases found → number ≡ number_of found
      → IfSome number (IsFirstWrong before start segment)
  some_found None number finds is = subst (λ (o : Option ℕ). IfSome o (IsFirstWrong before start segment)) (sym is) tt
  some_found (Some index) number finds is =
      let some : number ≡ Some finds.0.made = is ∙ ap (option_map (λ (t : Release). t.made)) finds.1 in
      let first = first_of_list before start segment releases index finds.0 are finds in
      subst (λ (o : Option ℕ). IfSome o (IsFirstWrong before start segment)) (sym some)
      (subst (λ (t : Release). IsFirstWrong before start segment t.made) (get_or_from_slice_get releases index finds.0 finds.0 finds.1) first)

-- a segment without a touch or a release has right releases
pub no_releases : (before : Option Run) (start : Space) (segment : Recording) → (HasSomeTouch segment → ⊥) → HasRightReleases before start segment
no_releases before start segment none release has wrong = none (release.made, release_is_touch segment release has)

-- each of them is of memory of its size
pub all_memory : (segment : Recording) → IsRecording segment → (releases : List Release) → AreReleasesBelow segment (length segment.events) releases
    → AreMemory releases
all_memory segment in_range releases are release has =
    let (k, l, at) = has in
    let own = are.each k release (subst (λ (r : Release). slice_get releases k ≡ Some r) at (slice_get-get_or releases k release l)) in
    memory_of segment in_range release own.0
