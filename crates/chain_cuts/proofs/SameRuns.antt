-- Runs that are the same but for dumps that are not there have the same faults, and the same right touches.
use Rattle.std.proofs.Common.{◌≡◌, ℕ, inl, inr, List, [], length, slice_get, Option, Some, None, refl, sym, subst}
use Rattle.std.proofs.lemmas.Option.{none-some}
use Rattle.vs_types.specs.Space.{Space}
use Rattle.vs_walk.specs.Dump.{Image}
use Rattle.nr_trace.specs.Recording.{IsThere, Recording}
use Rattle.nr_trace.specs.Faults.{HasFaultFrom, IsWrongFrom, OpensTwice, RestsOnMore}
use Rattle.nr_trace.specs.Laws.{IsFaultlessFrom}
use Rattle.nr_trace.specs.declared.refusals.fault.Fault.{Fault}
use Rattle.nr_trace.specs.declared.refusals.fault.Fault.TheVariants.{ThreadOpen, WrongAnswer, PrefixPastLog, PrefixShort, MissingFrame, SharedFrame, ReservedBit}
use Rattle.nr_trace.specs.declared.refusals.fault.Fault.TheVariants.{StrayFrame, Differs}
use Rattle.nr_trace.specs.Run.{Run}
use Rattle.nr_trace.specs.Joined.{joined_traces}
use Rattle.nr_touch.specs.Releases.{IsWrongRelease}
use Rattle.nr_touch.specs.Touches.{touch_behind, IsAllowedPrefix, IsAnsweredAt, IsLagging, IsRightBehind, IsRightTouch}
use Rattle.nr_touch.specs.declared.touches.touch.Touch.{Touch}
use Rattle.nr_audit.specs.Start.{begins_in}
use Rattle.nr_audit.specs.Releases.{HasRelease, HasRightReleases}
use Rattle.nr_audit.specs.Touches.{HasTouch, HasRightTouches}
use Rattle.nr_audit.specs.Faults.{IsSoundAfter}
use Rattle.nr_audit.proofs.Judgements.{begins_of, faultless_of, releases_of, sound_by}
use Rattle.chain_cuts.specs.Cut.{without_dumps, HasNoDumps, IsSameRun}

-- the dumps that are there among some are among others
abbrev AreAmong : List Image → List Image → Type 0
AreAmong some others = (replica : ℕ) (dump : Image) → IsThere dump → slice_get some replica ≡ Some dump → slice_get others replica ≡ Some dump

right_as : (start : Space) (one other : Recording) (touch : Touch)
    → ((n : ℕ) → IsAllowedPrefix start one touch n → IsAllowedPrefix start other touch n)
    → ((n : ℕ) → IsAnsweredAt start one touch n → IsAnsweredAt start other touch n)
    → ((m : ℕ) → IsLagging start one touch m → IsLagging start other touch m) → IsRightTouch start one touch → IsRightTouch start other touch
right_as start one other touch allows answers lags (inl (n, allowed, answered)) = inl (n, allows n allowed, answers n answered)
right_as start one other touch allows answers lags (inr (fault, m, it)) = inr (fault, m, lags m it)

-- a right touch is right with other dumps
right_without : (trace : Recording) (some others : List Image) (before : Option Run) (start : Space) (touch : Touch)
    → IsRightBehind before start (record trace { dumps = some }) touch → IsRightBehind before start (record trace { dumps = others }) touch
right_without trace some others None start touch right =
    right_as start (record trace { dumps = some }) (record trace { dumps = others }) touch
    (λ n is. record { within = is.within; flushed = is.flushed; not_foreseen = is.not_foreseen }) (λ n is. is)
    (λ m is. record { within = is.within; known = is.known; not_foreseen = is.not_foreseen; absent = is.absent }) right
right_without trace some others (Some run) start touch right =
    right_as run.start (joined_traces run.trace (record trace { dumps = some })) (joined_traces run.trace (record trace { dumps = others }))
    (touch_behind (length run.trace.events) (length run.trace.log) touch)
    (λ n is. record { within = is.within; flushed = is.flushed; not_foreseen = is.not_foreseen }) (λ n is. is)
    (λ m is. record { within = is.within; known = is.known; not_foreseen = is.not_foreseen; absent = is.absent }) right

module _ (trace : Recording) (some others : List Image) where
  abbrev with_some : Recording
  with_some = record trace { dumps = some }

  abbrev with_others : Recording
  with_others = record trace { dumps = others }

  pub same_open : (index : ℕ) → OpensTwice with_some index → OpensTwice with_others index
  same_open index opens = record {
    made = opens.made;
    is_made = opens.is_made;
    earlier = opens.earlier;
    earlier_made = opens.earlier_made;
    is_earlier = opens.is_earlier;
    is_earlier_made = opens.is_earlier_made;
    same_thread = opens.same_thread;
    not_answered = opens.not_answered;
  }

  same_wrong : (start : Space) (call : ℕ) → IsWrongFrom start with_some call → IsWrongFrom start with_others call
  same_wrong start call wrong = record {
    request = wrong.request;
    asks = wrong.asks;
    reply = wrong.reply;
    is_reply = wrong.is_reply;
    differs = wrong.differs;
  }

  same_rest : (replica : ℕ) (dump : Image) → RestsOnMore with_some replica dump → RestsOnMore with_others replica dump
  same_rest replica dump rests = record {
    index = rests.index;
    reply = rests.reply;
    is_reply = rests.is_reply;
    made = rests.made;
    is_made = rests.is_made;
    here = rests.here;
    more = rests.more;
  }

  same_fault : (start : Space) → AreAmong some others → (fault : Fault) → HasFaultFrom start with_some fault → HasFaultFrom start with_others fault
  same_fault start among (ThreadOpen index) h = same_open index h
  same_fault start among (WrongAnswer call) h = same_wrong start call h
  same_fault start among (PrefixPastLog replica) (dump, is, there, h) = (dump, among replica dump there is, there, h)
  same_fault start among (PrefixShort replica) (dump, is, there, h) = (dump, among replica dump there is, there, same_rest replica dump h)
  same_fault start among (MissingFrame replica number) (dump, is, there, h) = (dump, among replica dump there is, there, h)
  same_fault start among (SharedFrame replica number) (dump, is, there, h) = (dump, among replica dump there is, there, h)
  same_fault start among (ReservedBit replica number index) (dump, is, there, h) = (dump, among replica dump there is, there, h)
  same_fault start among (StrayFrame replica number) (dump, is, there, h) = (dump, among replica dump there is, there, h)
  same_fault start among (Differs replica address) (dump, is, there, h) = (dump, among replica dump there is, there, h)
  same_fault start among fault h = h

  same_touches : (before : Option Run) (start : Space) → HasRightTouches before start with_some → HasRightTouches before start with_others
  same_touches before start right touch has = right_without trace some others before start touch (right touch own) where
    own : HasTouch with_some touch
    own = record { asks = has.asks; reply = has.reply; is_reply = has.is_reply; of_it = has.of_it; answer = has.answer; known = has.known }

  same_releases : (before : Option Run) (start : Space) → HasRightReleases before start with_some → HasRightReleases before start with_others
  same_releases before start right release has wrong = right release own (as_wrong wrong) where
    own : HasRelease with_some release
    own = record { gives = has.gives; done = has.done }

    as_wrong : IsWrongRelease before start with_others release → IsWrongRelease before start with_some release
    as_wrong (inl undone) = inl undone
    as_wrong (inr it) = inr (record {
      touch = it.touch;
      made = it.made;
      answered = it.answered;
      phys = it.phys;
      finds = it.finds;
      within = it.within;
      right = right_without trace others some before start it.touch it.right;
    })

  same_begin : (before : Option Run) → begins_in before with_some ≡ begins_in before with_others
  same_begin None = refl
  same_begin (Some run) = refl

same_sound : (before : Option Run) (trace : Recording) (some others : List Image) → AreAmong others some
    → IsSoundAfter before (record trace { dumps = some }) → IsSoundAfter before (record trace { dumps = others })
same_sound before trace some others among sound =
    sound_by before (record trace { dumps = others }) (begins_of before (record trace { dumps = some }) sound.faultless) clean touches releases where
      start : Space
      start = begins_in before (record trace { dumps = some })

      begin : start ≡ begins_in before (record trace { dumps = others })
      begin = same_begin trace some others before

      touches : HasRightTouches before (begins_in before (record trace { dumps = others })) (record trace { dumps = others })
      touches =
          subst (λ (space : Space). HasRightTouches before space (record trace { dumps = others })) begin
          (same_touches trace some others before start sound.touches)

      releases : HasRightReleases before (begins_in before (record trace { dumps = others })) (record trace { dumps = others })
      releases =
          subst (λ (space : Space). HasRightReleases before space (record trace { dumps = others })) begin
          (same_releases trace some others before start (releases_of before (record trace { dumps = some }) sound))

      clean : IsFaultlessFrom (begins_in before (record trace { dumps = others })) (record trace { dumps = others })
      clean fault h =
          faultless_of before (record trace { dumps = some }) sound.faultless fault
          (same_fault trace others some start among fault (subst (λ (space : Space). HasFaultFrom space (record trace { dumps = others }) fault) (sym begin) h))

-- the same run is sound
pub sound_as_same : (before : Option Run) (first second : Recording) → IsSameRun first second → IsSoundAfter before first → IsSoundAfter before second
sound_as_same before first second alike sound =
    subst (λ (trace : Recording). IsSoundAfter before (record trace { dumps = second.dumps })) alike.same
    (same_sound before first first.dumps second.dumps (λ replica dump there. (alike.dumps replica dump there).1) sound)

pub same_back : (first second : Recording) → IsSameRun first second → IsSameRun second first
same_back first second alike = record {
  same = sym alike.same;
  dumps = λ replica dump there. ((alike.dumps replica dump there).1, (alike.dumps replica dump there).0);
}

-- a run of which no dump is there has the faults that it has without dumps
pub faultless_without : (start : Space) (trace : Recording) → HasNoDumps trace → IsFaultlessFrom start (without_dumps trace) → IsFaultlessFrom start trace
faultless_without start trace none faultless fault h =
    faultless fault (same_fault trace trace.dumps [] start (λ replica dump there is. absurd (none replica dump is there)) fault h)

pub without_faultless : (start : Space) (trace : Recording) → IsFaultlessFrom start trace → IsFaultlessFrom start (without_dumps trace)
without_faultless start trace faultless fault h =
    faultless fault (same_fault trace [] trace.dumps start (λ replica dump there is. absurd (none-some dump is)) fault h)
