use Rattle.std.specs.Prelude.{take}
use Rattle.vs_types.proofs.Computing.{at_both, answers_compute, allow_computes}
use Rattle.vs_types.specs.Examples.{written_then_run}
use Rattle.vs_types.specs.declared.addresses.access.Access.TheVariants.{Read, Write, Fetch}
use Rattle.vs_types.specs.declared.addresses.access.Mode.TheVariants.{Supervisor, User}
use Rattle.vs_types.specs.declared.addresses.depth.Depth.TheVariants.{Four, Five}
use Rattle.vs_types.proofs.examples.accesses_ask_for_rights.Goals as goal

pub returns-clause-answers : goal.returns-clause-answers
returns-clause-answers c = at_both _
    (answers_compute Four 4096 written_then_run)
    (answers_compute Five 4096 written_then_run)

pub returns-clause-supervisor_write : goal.returns-clause-supervisor_write
returns-clause-supervisor_write c = at_both _
    (allow_computes Four 4096 (take 1 written_then_run) 0x400123 Supervisor Write)
    (allow_computes Five 4096 (take 1 written_then_run) 0x400123 Supervisor Write)

pub returns-clause-user_read : goal.returns-clause-user_read
returns-clause-user_read c = at_both _
    (allow_computes Four 4096 (take 1 written_then_run) 0x400123 User Read)
    (allow_computes Five 4096 (take 1 written_then_run) 0x400123 User Read)

pub returns-clause-user_write : goal.returns-clause-user_write
returns-clause-user_write c = at_both _
    (allow_computes Four 4096 (take 1 written_then_run) 0x400123 User Write)
    (allow_computes Five 4096 (take 1 written_then_run) 0x400123 User Write)

pub returns-clause-supervisor_fetch : goal.returns-clause-supervisor_fetch
returns-clause-supervisor_fetch c = at_both _
    (allow_computes Four 4096 (take 1 written_then_run) 0x400123 Supervisor Fetch)
    (allow_computes Five 4096 (take 1 written_then_run) 0x400123 Supervisor Fetch)

pub returns-clause-user_fetch : goal.returns-clause-user_fetch
returns-clause-user_fetch c = at_both _
    (allow_computes Four 4096 (take 1 written_then_run) 0x400123 User Fetch)
    (allow_computes Five 4096 (take 1 written_then_run) 0x400123 User Fetch)

pub returns-clause-read_of_nothing : goal.returns-clause-read_of_nothing
returns-clause-read_of_nothing c = at_both _
    (allow_computes Four 4096 (take 1 written_then_run) 0x401000 Supervisor Read)
    (allow_computes Five 4096 (take 1 written_then_run) 0x401000 Supervisor Read)

pub returns-clause-user_write_of_nothing : goal.returns-clause-user_write_of_nothing
returns-clause-user_write_of_nothing c = at_both _
    (allow_computes Four 4096 (take 1 written_then_run) 0x401000 User Write)
    (allow_computes Five 4096 (take 1 written_then_run) 0x401000 User Write)

pub returns-clause-user_fetch_of_nothing : goal.returns-clause-user_fetch_of_nothing
returns-clause-user_fetch_of_nothing c = at_both _
    (allow_computes Four 4096 (take 1 written_then_run) 0x401000 User Fetch)
    (allow_computes Five 4096 (take 1 written_then_run) 0x401000 User Fetch)

pub returns-clause-write_refused_after : goal.returns-clause-write_refused_after
returns-clause-write_refused_after c = at_both _
    (allow_computes Four 4096 written_then_run 0x400123 Supervisor Write)
    (allow_computes Five 4096 written_then_run 0x400123 Supervisor Write)

pub returns-clause-fetch_allowed_after : goal.returns-clause-fetch_allowed_after
returns-clause-fetch_allowed_after c = at_both _
    (allow_computes Four 4096 written_then_run 0x400123 Supervisor Fetch)
    (allow_computes Five 4096 written_then_run 0x400123 Supervisor Fetch)
