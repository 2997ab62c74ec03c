-- The passes of a new log: those of its replicas, and then those of its threads.
use Rattle.std.proofs.Common.{◌≡◌, ℕ, ◌≤◌, [], ◌∷◌, ◌++◌, All, length, map, take, drop, replicate, get_or, refl, sym, subst, arith}
use Rattle.std.specs.List.{range_with_len}
use Rattle.std.proofs.Math.ListN.{length-append}
use Rattle.std.proofs.Math.Seq.{take-append_seam, drop-append_seam}
use Rattle.std.proofs.lemmas.List.Elements.{All-map}
use Rattle.std.proofs.lemmas.List.FromFn.{length-map-range_with_len}
use Rattle.nr_ring.specs.Pass.{Known, TableId, new_pass, new_passes}
use Rattle.nr_replicas.specs.inside.Replicas.{IsNewPass}

abbrev owner : TableId → ℕ → Known
owner log replica = new_pass log (replica ∷ [])

owners_are_new : (log : TableId) (replicas : ℕ) → All (IsNewPass log) (map (owner log) (range_with_len 0 replicas))
owners_are_new log replicas =
    All-map (IsNewPass log) (owner log) (range_with_len 0 replicas) (λ k d lt. (get_or (range_with_len 0 replicas) k d, refl))

owners_count : (log : TableId) (replicas : ℕ) → length (map (owner log) (range_with_len 0 replicas)) ≡ replicas
owners_count log replicas = length-map-range_with_len (owner log) 0 replicas

pub enough : (log : TableId) (replicas others : ℕ) → replicas ≤ length (new_passes log replicas others)
enough log replicas others =
    omega (
      arith,
      owners_count log replicas,
      length-append (map (owner log) (range_with_len 0 replicas)) (replicate others (new_pass log [])),
    )

first_are : (log : TableId) (replicas others : ℕ) → take replicas (new_passes log replicas others) ≡ map (owner log) (range_with_len 0 replicas)
first_are log replicas others =
    let first = map (owner log) (range_with_len 0 replicas) in
    let rest = replicate others (new_pass log []) in
    subst (λ n. take n (first ++ rest) ≡ first) (owners_count log replicas) (take-append_seam first rest)

pub first_are_new : (log : TableId) (replicas others : ℕ) → All (IsNewPass log) (take replicas (new_passes log replicas others))
first_are_new log replicas others = subst (All (IsNewPass log)) (sym (first_are log replicas others)) (owners_are_new log replicas)

pub rest_are : (log : TableId) (replicas others : ℕ) → drop replicas (new_passes log replicas others) ≡ replicate others (new_pass log [])
rest_are log replicas others =
    let first = map (owner log) (range_with_len 0 replicas) in
    let rest = replicate others (new_pass log []) in
    subst (λ n. drop n (first ++ rest) ≡ rest) (owners_count log replicas) (drop-append_seam first rest)
