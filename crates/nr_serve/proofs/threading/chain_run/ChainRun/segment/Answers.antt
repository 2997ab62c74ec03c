use Rattle.std.proofs.Common.{List, map, ap, sym, subst}
use Rattle.std.specs.Prelude.{IfOk}
use Rattle.vs_types.specs.Config.{Layout}
use Rattle.vs_types.specs.Query.{AreScripts}
use Rattle.vs_types.specs.declared.requests.request.Query.{Query}
use Rattle.nr_serve.specs.ChainOfRun.{IsOutcomeOf}
use Rattle.nr_serve.specs.RunState.{RunState}
use Rattle.nr_serve.proofs.threading.chain_run.ChainRun.segment.Goals as goal

pub serve_on-requires-clause-run : goal.serve_on-requires-clause-run
serve_on-requires-clause-run g c = λ lifetimes bounds. c.self.invariant

pub serve_on-requires-clause-scripts : goal.serve_on-requires-clause-scripts
serve_on-requires-clause-scripts g c = λ lifetimes bounds.
    let scripts : List (List Query) = map (λ script. script.items) c.args.scripts.items in
    subst (λ (l : Layout). AreScripts l scripts) (sym (ap (λ (s : RunState). s.layout) c.self.view_is)) c.requires

pub returns : goal.returns
returns g c =
    let scripts : List (List Query) = map (λ script. script.items) c.args.scripts.items in
    subst (λ (s : RunState). IfOk c.serve_on.result (IsOutcomeOf s scripts)) c.self.view_is c.serve_on.ensures
