use Rattle.std.proofs.Common.{◌≡◌, length, map, take}
use Rattle.nr_serve.proofs.threading.running.quotas_of.Given as goal

abbrev pub invariant-loop-script : goal.invariant-loop-script
invariant-loop-script l = l.quotas.items ≡ map (λ script. length script.items) (take l.script-index l.scripts)
