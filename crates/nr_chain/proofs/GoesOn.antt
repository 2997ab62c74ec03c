-- A thread whose call has no reply makes another.
use Rattle.std.proofs.Common.{ℕ, zero, suc, ◌<◌, refl, arith}
use Rattle.nr_trace.specs.Calls.{Answers, IsWellFormedHistory}
use Rattle.nr_trace.specs.Examples.{map_it, resolve_it}
use Rattle.nr_trace.specs.declared.recordings.event.Asked.TheVariants.{Request}
use Rattle.nr_chain.specs.Examples.{maps_without_a_reply, resolves_it}
use Rattle.nr_chain.specs.Joined.{both}

not_answered : (index : ℕ) → index < 1 → Answers (both maps_without_a_reply resolves_it).trace index 0 → ⊥
not_answered zero l h = cc
not_answered (suc n) l h = omega arith

pub no_history : IsWellFormedHistory (both maps_without_a_reply resolves_it).trace → ⊥
no_history history =
    let between = history.one_open 0 1 (record { replica = 0; thread = 0; asked = Request map_it })
    (record { replica = 0; thread = 0; asked = Request resolve_it })
    (omega arith) refl refl refl in
    not_answered between.1 between.2 between.3
