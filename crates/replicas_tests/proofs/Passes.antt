-- The passes of a new log.
use Rattle.std.proofs.Common.{◌≡◌, ℕ, List, [], ◌∷◌, ◌++◌, All, length, map, take, drop, replicate, refl}
use Rattle.std.specs.List.{range_with_len}
use Rattle.std.proofs.lemmas.List.Elements.{All-append, All-drop, All-map, All-replicate, All-take}
use Rattle.nr_ring.specs.Pass.{Known, TableId, new_pass, new_passes}

-- a pass is of a log
abbrev pub IsOf : TableId → Known → Type 0
IsOf log pass = pass.log ≡ log

pub new_are_of : (log : TableId) (replicas others : ℕ) → All (IsOf log) (new_passes log replicas others)
new_are_of log replicas others =
    let owner : ℕ → Known = λ replica. new_pass log (replica ∷ []) in
    All-append (IsOf log) (map owner (range_with_len 0 replicas)) (replicate others (new_pass log []))
    (All-map (IsOf log) owner (range_with_len 0 replicas) (λ k d lt. refl)) (All-replicate (IsOf log) others (new_pass log []) refl)

-- passes of a log into which passes of it were written are of it
pub still_of : (log : TableId) (n : ℕ) (new items : List Known) → All (IsOf log) new → All (IsOf log) items
    → All (IsOf log) (take n (new ++ drop (length new) items))
still_of log n new items all before =
    All-take (IsOf log) n (new ++ drop (length new) items)
    (All-append (IsOf log) new (drop (length new) items) all (All-drop (IsOf log) (length new) items before))
