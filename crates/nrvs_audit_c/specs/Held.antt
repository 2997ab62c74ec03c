-- What C keeps of a box.
use base.Fml.{Fml, ftrue}
use denote.RawPtr.{Ptr}
use Rattle.std.specs.Prelude.{Option, Some, None}
use Rattle.std.specs.Box.Ownership.{box_owns}
use Rattle.std.specs.declared.alloc.Global.{Global}
use Rattle.std.specs.contracts.impls.GlobalAllocator.TheImpl.{ghosts}
use Rattle.audit_numbers.specs.contracts.judging.Judging as judging
use Rattle.audit_numbers.specs.declared.judging.Judging.{Judging}

-- ownership of the value at a pointer, and the right to free its block, if there is a value
abbrev pub owned_at : Global → Ptr → Option Judging → Fml
owned_at alloc p None = ftrue
owned_at alloc p (Some x) = box_owns (ghosts.dealloc_token alloc) judging.the_row p x
