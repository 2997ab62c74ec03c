-- What is read of the log, and of a touch.
use Rattle.std.proofs.Common.{◌≡◌, ℕ, List, Some, get_or, slice_get, sym, subst}
use Rattle.std.proofs.lemmas.Option.{slice_get-get_or, slice_get_within}
use Rattle.nr_trace.specs.Recording.{Recording}

-- the log has at a place what is read there
pub placed_so : (trace : Recording) (log : List ℕ) (place call : ℕ) → log ≡ trace.log → slice_get trace.log place ≡ Some call
    → slice_get trace.log place ≡ Some (get_or log place 0)
placed_so trace log place call same is =
    subst (λ (xs : List ℕ). slice_get trace.log place ≡ Some (get_or xs place 0)) (sym same)
    (slice_get-get_or trace.log place 0 (slice_get_within trace.log place call is))
