-- The parts of a state that the fields of a core are.
use Rattle.nr_core.specs.declared.states.state.Core.TheInside.{Inside}
use Rattle.nr_core.specs.inside.Parts.{Parts}

abbrev pub parts_in : Inside → Parts
parts_in core = record {
  layout = core.config;
  events = core.events.items;
  log = core.log.items;
  completed = core.completed;
  replicas = core.replicas.items;
  threads = core.threads.items;
}
