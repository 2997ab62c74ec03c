-- A dump that translates otherwise than the space, from the space on with which a segment begins.
use Rattle.std.proofs.Common.{◌≡◌, ℕ, ◌≤◌, inl, inr, Some, length, slice_get, refl, sym, subst, ◌∙◌, arith}
use Rattle.std.proofs.lemmas.Bool.{cases_lt}
use Rattle.std.proofs.lemmas.Option.{same_Some}
use Rattle.vs_types.specs.Space.{Space}
use Rattle.vs_walk.specs.Dump.{Image}
use Rattle.nr_trace.specs.Recording.{IsThere, Recording}
use Rattle.nr_trace.specs.Faults.{IsFirstFrom}
use Rattle.nr_trace.specs.declared.refusals.fault.Fault.TheVariants.{Differs, PrefixPastLog}
use Rattle.nr_trace.proofs.LawsOfFaults.{less_from_below}

-- it has applied no more than the log has
pub few_applied : (start : Space) (trace : Recording) (replica address : ℕ) (dump : Image) → IsFirstFrom start trace (Differs replica address)
    → slice_get trace.dumps replica ≡ Some dump → dump.applied ≤ length trace.log
few_applied start trace replica address dump first there = elim (cases_lt (length trace.log) dump.applied) [
  | inl past ↦ absurd (first.none_earlier (PrefixPastLog replica)
      (dump, there, subst IsThere (same_Some first.holds.0 dump (sym first.holds.1 ∙ there)) first.holds.2, past)
      (less_from_below 7 replica 11 7 replica 17 (inr (inr (refl, refl, omega arith)))))
  | inr few ↦ few
]
