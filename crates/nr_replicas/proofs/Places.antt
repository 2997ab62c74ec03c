-- The slots of a replica are enough for its threads.
use Rattle.std.proofs.Common.{ℕ, suc, ◌+◌, ◌-◌, ◌*◌, ◌/◌, ◌<◌, ◌≤◌, arith}
use Rattle.std.proofs.Math.Nat.{div-mul-le_self, suc-mul}
use Rattle.std.proofs.lemmas.Nat.{le-div}
use Rattle.vs_types.specs.Config.{Layout}
use Rattle.nr_replicas.specs.inside.Replicas.{slots_each}

pub enough_slots : (layout : Layout) (thread : ℕ) → 1 ≤ layout.replicas → thread < layout.threads → thread / layout.replicas < slots_each layout
enough_slots layout thread some below =
    let r : ℕ = layout.replicas in
    let q : ℕ = thread / r in
    let t : ℕ = layout.threads in
    let least : q * r ≤ thread = div-mul-le_self thread r in
    let reach : suc q * r ≤ t + (r - 1) = omega (arith, suc-mul q r, least, below, some) in
    le-div (suc q) (t + (r - 1)) r (omega (arith, some)) reach
