-- What a pass has to which another was joined.
use Rattle.std.proofs.Common.{◌≡◌, ℕ, ◌+◌, [], Option, refl, arith}
use Rattle.version_cell.specs.Passes.{CellPass}
use Rattle.vs_types.specs.declared.addresses.depth.Depth.{Depth}
use Rattle.nr_ring.specs.Calls.{HasLooked, Looks, joint_view}
use Rattle.nr_ring.specs.View.{StartsWith}
use Rattle.nr_ring.specs.declared.cells.stored.Stored.{Stored}
use Rattle.nr_ring.specs.declared.ring.view.View.{View}
use Rattle.nr_ring.specs.inside.Held.{Remembers}
use Rattle.nr_ring.proofs.Passes.{look_remembers_from}

pub met : (depth : Depth) (replicas : ℕ) (told other after : View) → HasLooked depth replicas (joint_view told other) after
    → StartsWith after.seen other.seen × StartsWith after.seen told.seen
met depth replicas told other after looked = (looked.told 0 [] (omega arith), looked.seen)

pub met_remembers : (depth : Depth) (replicas passes places : ℕ) (replica : Option ℕ) (ring : ℕ) (told after : CellPass View Stored) (other : View)
    → Remembers depth replicas passes places replica ring told → other.rights ≡ 0
    → after.from ≡ told.from → after.own ≡ told.own → Looks depth replicas passes places after.value (joint_view told.view other) after.view
    → Remembers depth replicas passes places replica ring after
met_remembers depth replicas passes places replica ring told after other is none from own looks =
    let rights : told.view.rights + other.rights ≡ told.view.rights = omega (arith, none) in
    look_remembers_from depth replicas passes places replica ring told after (joint_view told.view other) is refl rights refl
    (met depth replicas told.view other after.view looks.looked).1 from own looks
