use Rattle.std.proofs.Common.{◌≡◌, ◌+◌, ◌<◌}
use Rattle.vs_types.specs.Access.{allows}
use Rattle.vs_types.specs.Codes.{rights_code}
use Rattle.vs_types.specs.declared.addresses.page.Rights.{Rights}
use Rattle.nr_touch.specs.inside.Sights.{HasSight}
use Rattle.nr_touch.proofs.changes.sights.has_rights.Given as goal

abbrev pub invariant-loop-code : goal.invariant-loop-code
invariant-loop-code l =
    (rights : Rights) → rights_code rights < l.code → allows rights l.touch.mode l.touch.access ≡ l.allowed
    → HasSight l.sights (record l.from { kind = rights_code rights + 1 }) l.last → ⊥
