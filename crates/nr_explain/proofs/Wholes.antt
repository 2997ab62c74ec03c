-- The judgement of a whole segment by a reader that explains a chain.
use Rattle.std.proofs.Common.{◌≡◌, ℕ, List, length, Option, Some, None, Result, Ok, refl, sym, ap, ◌∙◌, subst}
use Rattle.std.specs.Prelude.{IfOk, IfSome}
use Rattle.vs_types.specs.Config.{Layout}
use Rattle.vs_types.specs.Space.{Space}
use Rattle.vs_plain.specs.Plain.{BoundedSpace}
use Rattle.nr_trace.specs.Recording.{Recording}
use Rattle.nr_trace.specs.Laws.{HasCleanLog}
use Rattle.nr_trace.specs.Orders.{space_from}
use Rattle.nr_trace.specs.Spelling.{SpellsSegment}
use Rattle.nr_trace.specs.Feed.{EndsSegment, FedSegment, IsWhole}
use Rattle.nr_trace.specs.Feed.Fed.{Taken}
use Rattle.nr_trace.specs.Versions.{Follows}
use Rattle.nr_trace.specs.declared.formats.version.Form.TheVariants as forms
use Rattle.nr_trace.specs.declared.refusals.fault.Fault.{Fault}
use Rattle.nr_trace.specs.Run.{end_of, IsOrderly}
use Rattle.nr_trace.proofs.Orderly.{space_of_both}
use Rattle.nr_touch.specs.Tails.{AreSound, GoesOn, HasIndexes}
use Rattle.nr_audit.specs.declared.histories.met.Met.{Met}
use Rattle.nr_audit.specs.Verdict.{space_of}
use Rattle.nr_audit.specs.Faults.{IsFirstAfter, IsSoundAfter}
use Rattle.nr_audit.specs.Start.{first_space, BeginsRight}
use Rattle.nr_audit.specs.Segments.{run_after, FitsLayout, FitsPast, IsBehind, IsKept}
use Rattle.nr_audit.specs.declared.histories.past.Past.{Past}
use Rattle.nr_audit.proofs.Judgements.{begins_of, clean_of}
use Rattle.nr_chain.specs.inside.Between.{bytes_in}
use Rattle.nr_chain.proofs.Pieces.{ended}
use Rattle.nr_explain.specs.Progress.{ChainState, layout_in, run_in, space_in, state_after, sums_after, sums_in, IsSeen, IsSeenOf}
use Rattle.nr_explain.specs.inside.Firsts.{IsToShow}
use Rattle.nr_explain.specs.inside.Reading.{all_states, began_seen, layout_seen, space_seen, state_of, sums_seen, AreTwice, BeginsWell, FitsProgress}
use Rattle.nr_explain.specs.inside.Reading.{FitsSegment, IsCopyOf, IsKnown}
use Rattle.nr_explain.specs.inside.Steps.{JudgedTo, JudgesTo}
use Rattle.nr_explain.specs.declared.chain.progress.Progress.{Progress}
use Rattle.nr_explain.specs.declared.chain.progress.Sums.{Sums}
use Rattle.nr_explain.specs.declared.chain.reader.Step.{Step}
use Rattle.nr_explain.proofs.Feeding.{judged_whole}
use Rattle.nr_explain.proofs.Firsts.{to_show}
use Rattle.nr_explain.proofs.Known.{began_alike, layout_alike, space_alike, sums_alike}
use Rattle.std.proofs.lemmas.Result.{IfOk-weaker}

-- what is kept of the last segment fits the next one, which is laid out as that
fits_next : (last : Option Progress) (segment : Recording) → IfSome last FitsProgress → Follows (forms.Segment (layout_seen (all_states last))) segment.layout
    → IfSome last (FitsSegment segment)
fits_next None segment fits follows = tt
fits_next (Some last) segment fits same = record {
  space = record {
    depth = fits.space.depth ∙ ap (λ (l : Layout). l.depth) same;
    limit = fits.space.limit ∙ ap (λ (l : Layout). l.tables) same;
  };
  tail = fits.tail;
}

pub follows_last : (last : Option Progress) (feed : FedSegment) (segment : Recording) → feed.before ≡ layout_seen (all_states last) → IsWhole feed
    → EndsSegment feed (Ok segment) → Follows (forms.Segment (layout_seen (all_states last))) segment.layout
follows_last last feed segment behind whole ends =
    let spelled = subst (λ (b : Option Layout). SpellsSegment b (bytes_in feed.pieces) segment) behind (ended feed segment whole ends) in
    spelled.follows

pub fits_segment : (last : Option Progress) (feed : FedSegment) (segment : Recording) → feed.before ≡ layout_seen (all_states last)
    → IfSome last FitsProgress → IsWhole feed → EndsSegment feed (Ok segment) → IfSome last (FitsSegment segment)
fits_segment last feed segment behind fits whole ends = fits_next last segment fits (follows_last last feed segment behind whole ends)

pub whole_judged : {E : Type 0} (came : Option ChainState) (last : Option Progress) (bytes : List ℕ) (feed : FedSegment) (segment : Recording) (count : ℕ)
    (result : Result Step E) → IsSeenOf came (all_states last) → feed.pieces ≡ Taken bytes → feed.before ≡ layout_seen (all_states last) → IsWhole feed
    → EndsSegment feed (Ok segment) → IfOk result (JudgedTo came segment (length bytes) count) → IfOk result (JudgesTo came bytes count)
whole_judged came last bytes feed segment count result seen taken behind whole ends h =
    let spelled : SpellsSegment (layout_in came) bytes segment =
    subst (λ (b : Option Layout). SpellsSegment b bytes segment) (behind ∙ layout_alike came (all_states last) seen)
    (subst (λ (bs : List ℕ). SpellsSegment feed.before bs segment) (ap bytes_in taken) (ended feed segment whole ends)) in
    IfOk-weaker result (JudgedTo came segment (length bytes) count) (JudgesTo came bytes count)
    (λ step is. judged_whole came bytes segment count step spelled is) h

-- what the judge takes fits the segment
pub fits_before : (last : Option Progress) (segment : Recording) (before : Option Past) → AreTwice last before → IfSome last (FitsSegment segment)
    → IfSome before (FitsPast segment.layout)
fits_before None segment None twice fits = tt
fits_before (Some came) segment (Some past) twice fits = record {
  space = subst (λ (s : BoundedSpace). FitsLayout segment.layout s) (sym twice.space) fits.space;
  tail = twice.sound;
}
fits_before None segment (Some past) twice fits = absurd twice
fits_before (Some came) segment None twice fits = absurd twice

-- the segment comes behind the run of which this is kept
pub is_behind : (came : Option ChainState) (last : Option Progress) (segment : Recording) (before : Option Past) → AreTwice last before
    → Follows (forms.Segment (layout_seen (all_states last))) segment.layout → IsSeenOf came (all_states last) → IsBehind (run_in came) before segment
is_behind None None segment None twice follows seen = tt
is_behind (Some came) (Some last) segment (Some past) twice follows seen = (
  record {
    space = ap (λ (s : BoundedSpace). s.space) twice.space ∙ seen.space;
    tail = twice.tail came.run seen.space seen.tail;
  },
  sym follows ∙ seen.layout,
)
is_behind None None segment (Some past) twice follows seen = absurd twice
is_behind (Some came) (Some last) segment None twice follows seen = absurd twice
is_behind None (Some last) segment before twice follows seen = absurd seen
is_behind (Some came) None segment before twice follows seen = absurd seen

-- it goes on where that ends
pub goes_behind : (came : Option ChainState) (last : Option Progress) (segment : Recording)
    → Follows (forms.Segment (layout_seen (all_states last))) segment.layout → IsSeenOf came (all_states last)
    → GoesOn (run_in came) segment (first_space (space_in came) segment)
goes_behind None None segment follows seen = tt
goes_behind (Some came) (Some last) segment follows seen = (refl, sym follows ∙ seen.layout)
goes_behind None (Some last) segment follows seen = absurd seen
goes_behind (Some came) None segment follows seen = absurd seen

-- ---- what is found of it

module _ (last : Option Progress) (segment : Recording) (before : Option Past) (twice : AreTwice last before)
    (follows : Follows (forms.Segment (layout_seen (all_states last))) segment.layout) where
  pub behind : (came : Option ChainState) → IsSeenOf came (all_states last) → IsBehind (run_in came) before segment
  behind came seen = is_behind came last segment before twice follows seen

  -- the space after the run with the segment
  end_after : (came : Option ChainState) → IsSeenOf came (all_states last)
      → end_of (run_after (run_in came) segment) ≡ space_from (first_space (space_seen (all_states last)) segment) segment segment.log
  end_after came seen =
      own_end came seen ∙ ap (λ (s : Option Space). space_from (first_space s segment) segment segment.log)
      (sym (space_alike came (all_states last) seen)) where
        own_end : (c : Option ChainState) → IsSeenOf c (all_states last)
            → end_of (run_after (run_in c) segment) ≡ space_from (first_space (space_in c) segment) segment segment.log
        own_end None seen = refl
        own_end (Some c) seen = space_of_both c.run.start c.run.trace segment (layout_of last follows seen) (orderly_of last seen) where
          layout_of : (l : Option Progress) → Follows (forms.Segment (layout_seen (all_states l))) segment.layout → IsSeenOf (Some c) (all_states l)
              → segment.layout ≡ c.run.trace.layout
          layout_of None follows seen = absurd seen
          layout_of (Some l) follows seen = sym follows ∙ seen.layout

          orderly_of : (l : Option Progress) → IsSeenOf (Some c) (all_states l) → IsOrderly c.run.trace
          orderly_of None seen = absurd seen
          orderly_of (Some l) seen = seen.tail.orderly

  pub well_behind : IsKnown last → ((came : Option ChainState) → IsBehind (run_in came) before segment → IsSoundAfter (run_in came) segment)
      → BeginsWell last segment
  well_behind known sound =
      subst (λ (s : Option Space). BeginsRight s segment) (sym (space_alike known.0 (all_states last) known.1))
      (begins_of (run_in known.0) segment (sound known.0 (behind known.0 known.1)).faultless)

  pub clean_behind : IsKnown last → ((came : Option ChainState) → IsBehind (run_in came) before segment → IsSoundAfter (run_in came) segment)
      → HasCleanLog segment
  clean_behind known sound = clean_of (run_in known.0) segment (sound known.0 (behind known.0 known.1))

  pub whole_behind : (past : Past) → IsKnown last → FitsPast segment.layout past
      → ((came : Option ChainState) → IsBehind (run_in came) before segment → IsKept (run_after (run_in came) segment) past)
      → past.space ≡ space_of segment.layout (space_from (first_space (space_seen (all_states last)) segment) segment segment.log)
  whole_behind past known fits kept =
      let space = (kept known.0 (behind known.0 known.1)).space ∙ end_after known.0 known.1 in
      λ i. record { depth = fits.space.depth i; limit = fits.space.limit i; space = space i }

  -- the indexes of what the judge leaves have the pages after the segment
  pub index_behind : (past : Past) → IsKnown last
      → ((came : Option ChainState) → IsBehind (run_in came) before segment → IsKept (run_after (run_in came) segment) past)
      → HasIndexes past.tail past.space.space
  index_behind past known kept =
      let is = kept known.0 (behind known.0 known.1) in
      subst (HasIndexes past.tail) (sym is.space) is.tail.index

  -- what is kept with the segment
  pub seen_next : (came : Option ChainState) (next : Progress) (past : Past) (met : Met) (size : ℕ) → IsSeenOf came (all_states last)
      → IsKept (run_after (run_in came) segment) past → next.layout ≡ segment.layout → next.space ≡ past.space
      → IsCopyOf past.tail next.tail → (state_of next).began ≡ began_seen (all_states last) segment
      → next.sums ≡ sums_after (sums_seen (all_states last)) segment met size
      → IsSeen (state_after came segment met size) (state_of next)
  seen_next came next past met size seen kept layout space tail began sums = record {
    layout = layout ∙ layout_after came last follows seen;
    space = ap (λ (s : BoundedSpace). s.space) space ∙ kept.space;
    tail = tail.of_run (run_after (run_in came) segment) kept.tail;
    began = began ∙ began_alike came (all_states last) segment seen;
    sums = sums ∙ ap (λ (s : Sums). sums_after s segment met size) (sums_alike came (all_states last) seen);
  } where
    layout_after : (c : Option ChainState) (l : Option Progress) → Follows (forms.Segment (layout_seen (all_states l))) segment.layout
        → IsSeenOf c (all_states l) → segment.layout ≡ (run_after (run_in c) segment).trace.layout
    layout_after None None follows seen = refl
    layout_after (Some c) (Some l) follows seen = sym follows ∙ seen.layout
    layout_after None (Some l) follows seen = absurd seen
    layout_after (Some c) None follows seen = absurd seen

  pub known_next : (next : Progress) (past : Past) (met : Met) (size : ℕ) → IsKnown last
      → ((came : Option ChainState) → IsBehind (run_in came) before segment → IsKept (run_after (run_in came) segment) past)
      → next.layout ≡ segment.layout → next.space ≡ past.space
      → IsCopyOf past.tail next.tail → (state_of next).began ≡ began_seen (all_states last) segment
      → next.sums ≡ sums_after (sums_seen (all_states last)) segment met size
      → IsKnown (Some next)
  known_next next past met size known kept layout space tail began sums = (
    Some (state_after known.0 segment met size),
    seen_next known.0 next past met size known.1 (kept known.0 (behind known.0 known.1)) layout space tail began sums,
  )

  pub show_behind : (fault : Fault) → IsKnown last
      → ((came : Option ChainState) → IsBehind (run_in came) before segment → IsFirstAfter (run_in came) segment fault)
      → IsToShow (all_states last) segment fault
  show_behind fault known first =
      to_show known.0 (all_states last) segment known.1 (goes_behind known.0 last segment follows known.1) fault (first known.0 (behind known.0 known.1))

-- what is kept fits the layout of the last segment
pub fits_after : (next : Progress) (past : Past) (segment : Recording) → FitsPast segment.layout past → next.layout ≡ segment.layout
    → next.space ≡ past.space → IsCopyOf past.tail next.tail → FitsProgress next
fits_after next past segment fits layout space tail = record {
  space = subst (λ (l : Layout). FitsLayout l next.space) (sym layout)
      (subst (λ (s : BoundedSpace). FitsLayout segment.layout s) (sym space) fits.space);
  tail = subst AreSound (sym tail.left) fits.tail.0;
}
