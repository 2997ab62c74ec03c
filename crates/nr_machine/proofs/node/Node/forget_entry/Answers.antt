use Rattle.std.proofs.Common.{◌+◌, List, ap}
use Rattle.nr_machine.specs.declared.words.Update.{Update}
use Rattle.nr_machine.specs.Actor.{no_update}
use Rattle.nr_machine.specs.Machine.{actor_of}
use Rattle.nr_machine.proofs.Loaded.{less}
use Rattle.nr_machine.proofs.node.Node.forget_entry.Goals as goal

pub returns-clause-actor : goal.returns-clause-actor
returns-clause-actor c = let old = c.args.self.now in
    ap (λ (us : List Update). record (actor_of old) { applied = old.applied + 1; from = old.from + 1; got = us })
    (less no_update old.got old.got_count c.requires.some c.requires.few)
