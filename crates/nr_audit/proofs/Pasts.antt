-- What is kept of a run, and a segment that goes on with it.
use Rattle.std.proofs.Common.{◌≡◌, ◌↔◌, ℕ, false, inl, inr, List, [], length, slice_get, Option, Some, None, option_map, IfSome, refl, sym, ap, ◌∙◌, subst, arith}
use Rattle.std.proofs.lemmas.List.{append-nil}
use Rattle.std.proofs.lemmas.Option.{slice_get_within}
use Rattle.vs_types.specs.Config.{Layout}
use Rattle.vs_types.specs.Space.{IsSpace, Space}
use Rattle.vs_types.specs.declared.requests.op.Action.TheVariants.{Protect}
use Rattle.vs_plain.specs.Plain.{BoundedSpace}
use Rattle.vs_types.proofs.Lists.{not_in_nil}
use Rattle.nr_trace.specs.Recording.{IsRecording, Recording}
use Rattle.nr_trace.specs.Laws.{HasCleanLog}
use Rattle.nr_trace.specs.Orders.{space_from}
use Rattle.nr_trace.specs.Run.{Run, end_of, run_with, IsOrderly}
use Rattle.nr_trace.proofs.Orderly.{clean_is_orderly, space_of_both}
use Rattle.nr_touch.specs.Tails.{GoesOn, HasIndexes, IsLeft, IsSoundTail, IsTailOf, IsTailOfRun}
use Rattle.nr_touch.specs.declared.touches.tail.Left.{Left}
use Rattle.nr_touch.specs.declared.touches.tail.Tail.{Tail}
use Rattle.nr_touch.proofs.cuts.NoProtects.{each_ends, HasNoProtect}
use Rattle.nr_touch.proofs.cuts.Tails.{index_of_tail, nothing_left, tail_with}
use Rattle.nr_audit.specs.Segments.{pages_before, run_after, FitsLayout, FitsPast, IsBehind, IsKept}
use Rattle.nr_audit.specs.Start.{begins_in, first_space, space_before, BeginsRight}
use Rattle.nr_audit.specs.Verdict.{space_of}
use Rattle.nr_audit.specs.declared.histories.past.Past.{Past}
use Rattle.nr_audit.specs.inside.Begun.{is_protect, ArePlacesPlain, IsQuiet}

tail_behind : (run : Option Run) (past : Option Past) (segment : Recording) (tail : Tail) → IsBehind run past segment
    → IfSome past (λ (p : Past). tail ≡ p.tail) → (past ≡ None → IsTailOf None tail) → IsTailOf run tail
tail_behind None None segment tail behind is none = none refl
tail_behind (Some run) (Some past) segment tail (kept, same) is none = subst (IsTailOfRun run) (sym is) kept.tail
tail_behind _ _ segment tail behind is none = absurd behind

pub spaces_behind : (run : Option Run) (past : Option Past) (segment : Recording) → IsBehind run past segment
    → pages_before (option_map (λ (p : Past). p.space) past) ≡ space_before run
spaces_behind None None segment behind = refl
spaces_behind (Some run) (Some past) segment (kept, same) = ap Some kept.space
spaces_behind _ _ segment behind = absurd behind

on_behind : (run : Option Run) (past : Option Past) (segment : Recording) (start : Space) → IsBehind run past segment → start ≡ begins_in run segment
    → GoesOn run segment start
on_behind None None segment start behind is = tt
on_behind (Some run) (Some past) segment start (kept, same) is = (is, same)
on_behind _ _ segment start behind is = absurd behind

-- a segment begins behind a run
pub record Begins (run : Option Run) (segment : Recording) (tail : Tail) (start : Space) : Type 0 where
  pub of_tail : IsTailOf run tail
  pub goes_on : GoesOn run segment start
  pub same : start ≡ begins_in run segment
  pub begins : BeginsRight (space_before run) segment

pub begun : (run : Option Run) (past : Option Past) (segment : Recording) (space : Option BoundedSpace) (tail : Tail) (start : BoundedSpace)
    → IsBehind run past segment → space ≡ option_map (λ (p : Past). p.space) past → IfSome past (λ (p : Past). tail ≡ p.tail)
    → (past ≡ None → IsTailOf None tail) → start ≡ space_of segment.layout (first_space (pages_before space) segment)
    → BeginsRight (pages_before space) segment → Begins run segment tail start.space
begun run past segment space tail start behind space_is tail_is none start_is right =
    let spaces : pages_before space ≡ space_before run = ap pages_before space_is ∙ spaces_behind run past segment behind in
    let same : start.space ≡ begins_in run segment =
    ap (λ (s : BoundedSpace). s.space) start_is ∙ ap (λ (before : Option Space). first_space before segment) spaces in
    record {
      of_tail = tail_behind run past segment tail behind tail_is none;
      goes_on = on_behind run past segment start.space behind same;
      same = same;
      begins = subst (λ (before : Option Space). BeginsRight before segment) spaces right;
    }

-- the space after a run with a segment more
end_after : (run : Option Run) (segment : Recording) (tail : Tail) (start : Space) → Begins run segment tail start
    → space_from start segment segment.log ≡ end_of (run_after run segment)
end_after None segment tail start b = ap (λ (s : Space). space_from s segment segment.log) b.same
end_after (Some run) segment tail start b =
    ap (λ (s : Space). space_from s segment segment.log) b.same
    ∙ sym (space_of_both run.start run.trace segment b.goes_on.1 b.of_tail.orderly)

pub kept_after : (run : Option Run) (segment : Recording) (tail : Tail) (start : Space) (past : Past) → Begins run segment tail start
    → past.space ≡ space_of segment.layout (space_from start segment segment.log) → IsTailOf (Some (run_with run start segment)) past.tail
    → IsKept (run_after run segment) past
kept_after run segment tail start past b space left = record {
  space = ap (λ (s : BoundedSpace). s.space) space ∙ end_after run segment tail start b;
  tail = subst (λ (s : Space). IsTailOf (Some (run_with run s segment)) past.tail) b.same left;
}

pub fits_after : (layout : Layout) (space : Space) (past : Past) → past.space ≡ space_of layout space → IsSoundTail past.tail → FitsPast layout past
fits_after layout space past is sound = record {
  space = record { depth = ap (λ (s : BoundedSpace). s.depth) is; limit = ap (λ (s : BoundedSpace). s.limit) is };
  tail = sound;
}

-- what fits has a space that fits, and a tail that is sound
pub space_fits : (layout : Layout) (past : Option Past) (space : Option BoundedSpace) → IfSome past (FitsPast layout)
    → space ≡ option_map (λ (p : Past). p.space) past → IfSome space (FitsLayout layout)
space_fits layout past space fits is = subst (λ (s : Option BoundedSpace). IfSome s (FitsLayout layout)) (sym is) (of past fits) where
  of : (past : Option Past) → IfSome past (FitsPast layout) → IfSome (option_map (λ (p : Past). p.space) past) (FitsLayout layout)
  of None fits = fits
  of (Some past) fits = fits.space

pub tail_sound : (layout : Layout) (past : Option Past) (tail : Tail) → IfSome past (FitsPast layout) → IfSome past (λ (p : Past). tail ≡ p.tail)
    → (past ≡ None → IsSoundTail tail) → IsSoundTail tail
tail_sound layout None tail fits is none = none refl
tail_sound layout (Some past) tail fits is none = subst IsSoundTail (sym is) fits.tail

no_protect : (segment : Recording) → ArePlacesPlain segment → HasNoProtect segment
no_protect segment plain place call base rights placed is =
    let none = plain place (slice_get_within segment.log place call placed) call placed in
    absurd (let both : is_protect (Some (Protect base rights)) ≡ false = sym (ap is_protect is) ∙ none in cc)

-- a segment with an empty log leaves what was left
left_empty : (run : Option Run) (start : Space) (segment : Recording) (tail : Tail) → IsTailOf run tail → GoesOn run segment start
    → IsOrderly segment → IsRecording segment → segment.log ≡ [] → IsTailOf (Some (run_with run start segment)) tail
left_empty run start segment tail of_tail goes_on orderly in_range empty =
    tail_with start segment orderly [] (record {
      each = λ c has. absurd (not_in_nil c has);
      all = λ place address less. absurd (let none = ap length empty in omega (arith, less, none));
    }) (λ i j d low less. absurd (omega (arith, less))) (let most = in_range.few_events in omega (arith, most)) run tail tail
    (subst (λ (calls : List ℕ). HasIndexes tail (space_from start segment calls)) (sym empty)
    (index_of_tail run start segment tail goes_on of_tail)) of_tail goes_on
    (λ address page. subst (λ (changes : List Left). IsLeft tail.changes.items address page ↔ IsLeft changes address page)
    (sym (append-nil tail.changes.items)) ((λ it. it), λ it. it))

-- a segment that need not be replayed leaves what was left
pub left_quiet : (run : Option Run) (start : Space) (segment : Recording) (tail : Tail) → IsTailOf run tail → GoesOn run segment start
    → HasCleanLog segment → IsQuiet segment tail → IsSpace segment.layout.depth start → IsTailOf (Some (run_with run start segment)) tail
left_quiet run start segment tail of_tail goes_on clean quiet is = elim quiet.leaves [
  | inl empty ↦ left_empty run start segment tail of_tail goes_on (clean_is_orderly segment clean) quiet.in_range empty
  | inr nothing ↦ nothing_left segment (λ place call at. nothing.answered place (slice_get_within segment.log place call at) call at)
      run start tail of_tail nothing.none goes_on (clean_is_orderly segment clean)
      (each_ends segment quiet.in_range clean (no_protect segment nothing.plain) start is)
]
