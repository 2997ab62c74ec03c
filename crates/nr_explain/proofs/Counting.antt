-- The recorded order has at least as many calls as the log has entries.
use Rattle.std.proofs.Common.{◌≡◌, ℕ, zero, suc, ◌+◌, ◌<◌, ◌≤◌, [], ◌∷◌, length, slice_get, option_to_list, refl, ap, ◌∙◌, arith}
use Rattle.std.specs.Prelude.{flat_map}
use Rattle.std.proofs.lemmas.List.{length-append}
use Rattle.std.proofs.lemmas.List.Concat.{flat_map-append}
use Rattle.std.proofs.lemmas.Option.{slice_get-get_or}
use Rattle.nr_trace.specs.Recording.{Recording}
use Rattle.nr_trace.specs.Orders.{below, reads_at, recorded_order}
use Rattle.nr_trace.proofs.LawsOfLists.{below_split}
use Rattle.nr_trace.proofs.LawsOfOrder.{block, blocks}

own : (trace : Recording) (n : ℕ) → n < length trace.log → 1 ≤ length (block trace n)
own trace n lt =
    let long = length-append (reads_at trace n) (option_to_list (slice_get trace.log n)) in
    let one : length (option_to_list (slice_get trace.log n)) ≡ 1 = rw (slice_get-get_or trace.log n 0 lt) refl in
    omega (arith, long, one)

placed : (trace : Recording) (n : ℕ) → n ≤ length trace.log → n ≤ length (blocks trace n)
placed trace zero le = omega arith
placed trace (suc n) le =
    let parts = ap length (flat_map-append (block trace) (below n) (n ∷ [])) in
    let long = length-append (blocks trace n) (flat_map (block trace) (n ∷ [])) in
    let last = length-append (block trace n) [] in
    let here = own trace n (omega arith) in
    let before = placed trace n (omega arith) in
    omega (arith, parts, long, last, here, before)

pub all_placed : (trace : Recording) → length trace.log ≤ length (recorded_order trace)
all_placed trace =
    let places = length trace.log in
    let (later, is) = below_split places (places + 1) (omega arith) in
    let parts = ap length (ap (flat_map (block trace)) is ∙ flat_map-append (block trace) (below places) (places ∷ later)) in
    let long = length-append (blocks trace places) (flat_map (block trace) (places ∷ later)) in
    let before = placed trace places (omega arith) in
    omega (arith, parts, long, before)
