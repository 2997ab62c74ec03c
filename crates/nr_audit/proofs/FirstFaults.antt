-- At most one fault of a segment is the first.
use Rattle.std.proofs.Common.{◌≡◌, ◌<◌, Option, get_or, refl, ap, ◌∙◌, arith}
use Rattle.std.specs.FinMap as finite
use Rattle.std.specs.Ordering.{nat_cmp, ordering_reverse}
use Rattle.std.specs.Cmp.Lexicographic.{slice_cmp}
use Rattle.std.specs.declared.cmp.Ordering.{Ordering}
use Rattle.std.specs.declared.cmp.Ordering.TheVariants.{Less, Equal, Greater}
use Rattle.std.proofs.lemmas.Cmp.{nat_list_cmp_total}
use Rattle.nr_trace.specs.Recording.{Recording}
use Rattle.nr_trace.specs.Faults.{rank, HasFaultFrom, IsFirstFrom}
use Rattle.nr_trace.specs.declared.refusals.fault.Fault.{Fault}
use Rattle.nr_trace.specs.declared.refusals.fault.Fault.TheVariants.{StartMissing, StartShared, StartReserved, StartStray, StartBeyond, StartDiffers, Stale, Reachable}
use Rattle.nr_trace.proofs.LawsOfFaults.{number_of, one_first}
use Rattle.nr_trace.specs.Run.{Run}
use Rattle.nr_audit.specs.Start.{begins_in, space_before}
use Rattle.nr_audit.specs.Faults.{HasFaultAfter, IsFirstAfter}
use Rattle.nr_audit.proofs.Starts.{one_start}

-- ---- the faults that a trace may have too

-- a fault of the trace, from the space on with which the segment begins, is one of the segment
pub within : (before : Option Run) (segment : Recording) (fault : Fault) → HasFaultFrom (begins_in before segment) segment fault
    → HasFaultAfter before segment fault
within before segment (StartMissing number) h = absurd h
within before segment (StartShared number) h = absurd h
within before segment (StartReserved number index) h = absurd h
within before segment (StartStray number) h = absurd h
within before segment (StartBeyond base) h = absurd h
within before segment (StartDiffers address) h = absurd h
within before segment (Stale call) h = absurd h
within before segment (Reachable call) h = absurd h
within before segment _ h = h

-- and those below number 18 are such
own : (before : Option Run) (segment : Recording) (fault : Fault) → number_of segment fault < 18 → HasFaultAfter before segment fault
    → HasFaultFrom (begins_in before segment) segment fault
own before segment (StartMissing number) lt h = absurd (omega arith)
own before segment (StartShared number) lt h = absurd (omega arith)
own before segment (StartReserved number index) lt h = absurd (omega arith)
own before segment (StartStray number) lt h = absurd (omega arith)
own before segment (StartBeyond base) lt h = absurd (omega arith)
own before segment (StartDiffers address) lt h = absurd (omega arith)
own before segment (Stale call) lt h = absurd (omega arith)
own before segment (Reachable call) lt h = absurd (omega arith)
own before segment _ lt h = h

pub first_within : (before : Option Run) (segment : Recording) (fault : Fault) → number_of segment fault < 18 → IsFirstAfter before segment fault
    → IsFirstFrom (begins_in before segment) segment fault
first_within before segment fault lt first = record {
  holds = own before segment fault lt first.holds;
  none_earlier = λ other h less. first.none_earlier other (within before segment other h) less;
}

-- ---- faults of one rank

same_rank : (before : Option Run) (segment : Recording) (f g : Fault) → IsFirstAfter before segment f → IsFirstAfter before segment g
    → rank segment f ≡ rank segment g → f ≡ g
same_rank before segment (StartMissing a) (StartMissing b) x y e = one_start (space_before before) segment _ _ x.holds y.holds refl
same_rank before segment (StartShared a) (StartShared b) x y e = one_start (space_before before) segment _ _ x.holds y.holds refl
same_rank before segment (StartReserved a i) (StartReserved b j) x y e = one_start (space_before before) segment _ _ x.holds y.holds refl
same_rank before segment (StartStray a) (StartStray b) x y e = one_start (space_before before) segment _ _ x.holds y.holds refl
same_rank before segment (StartBeyond a) (StartBeyond b) x y e = one_start (space_before before) segment _ _ x.holds y.holds refl
same_rank before segment (StartDiffers a) (StartDiffers b) x y e = one_start (space_before before) segment _ _ x.holds y.holds refl
same_rank before segment (Stale a) (Stale b) x y e = ap Stale (ap (λ ns. get_or ns 1 0) e)
same_rank before segment (Reachable a) (Reachable b) x y e = ap Reachable (ap (λ ns. get_or ns 1 0) e)
same_rank before segment f g x y e =
    let number : number_of segment f ≡ number_of segment g = ap (λ ns. get_or ns 2 0) e in
    let low : number_of segment f < 18 = omega arith in
    let also : number_of segment g < 18 = omega arith in
    one_first (begins_in before segment) segment f g (first_within before segment f low x) (first_within before segment g also y)

pub one_first_after : (before : Option Run) (segment : Recording) (first second : Fault) → IsFirstAfter before segment first
    → IsFirstAfter before segment second → first ≡ second
one_first_after before segment first second x y = by_order (slice_cmp nat_cmp (rank segment first) (rank segment second)) refl where
  by_order : (r : Ordering) → slice_cmp nat_cmp (rank segment first) (rank segment second) ≡ r → first ≡ second
  by_order Less e = absurd (y.none_earlier first x.holds e)
  by_order Equal e = same_rank before segment first second x y
      (finite.slice_cmp-IsAntisymmetric finite.nat_cmp-IsAntisymmetric (rank segment first) (rank segment second) e)
  by_order Greater e =
      absurd (x.none_earlier second y.holds (nat_list_cmp_total.antisymm (rank segment second) (rank segment first) ∙ ap ordering_reverse e))
