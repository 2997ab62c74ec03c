-- The entry of the log that two words determine.
use Rattle.std.specs.Prelude.{ℕ, zero, suc, ◌-◌, ◌*◌, ◌/◌, ◌%◌, ◌^◌, Bool, true, false, List, slice_index}
use Rattle.vs_types.specs.declared.log_entry.LogEntry.{LogEntry}
use Rattle.vs_types.specs.declared.requests.op.Action.{Action}
use Rattle.vs_types.specs.declared.requests.op.Action.TheVariants.{Map, Unmap, Protect}
use Rattle.vs_types.specs.declared.addresses.page.Rights.{Rights}
use Rattle.vs_types.specs.declared.addresses.page.Size.{Size}
use Rattle.vs_types.specs.declared.addresses.page.Size.TheVariants.{K4, M2, G1}

unfoldable pub size_in : ℕ → Size
size_in zero = K4
size_in (suc zero) = M2
size_in (suc (suc n)) = G1

unfoldable pub is_one : ℕ → Bool
is_one zero = false
is_one (suc n) = true

unfoldable pub rights_in : ℕ → Rights
rights_in code = record { write = is_one (code % 2); user = is_one (code / 2 % 2); exec = is_one (code / 4) }

-- the operation of this kind with these fields
unfoldable pub action_in : ℕ → ℕ → ℕ → ℕ → ℕ → Action
action_in zero size rights address physical = Map (record { base = address; size = size_in size; phys = physical; rights = rights_in rights })
action_in (suc zero) size rights address physical = Unmap address
action_in (suc (suc kind)) size rights address physical = Protect address (rights_in rights)

-- the entry that two words determine: the one that they spell, if they spell one
unfoldable pub entry_in : List ℕ → LogEntry
entry_in words =
    let operation = slice_index words 0 in
    let rest = slice_index words 1 in
    record {
      call = rest / 2 ^ 39;
      op = action_in (operation % 4096 % 4) (operation % 4096 / 4 % 4) (operation % 4096 / 16) (operation - operation % 4096) (rest % 2 ^ 39 * 4096);
    }
