use Rattle.std.proofs.Common.{◌≡◌, ◌≤◌, ℕ, List, All, length, map, sum, ap, sym, subst, ◌∙◌}
use Rattle.std.proofs.lemmas.List.{length-map}
use Rattle.std.specs.Prelude.{IfOk}
use Rattle.vs_types.specs.Config.{Layout}
use Rattle.vs_types.specs.declared.limits.TheConstants.{LOG_PLACES}
use Rattle.vs_types.specs.declared.requests.request.Query.{Query}
use Rattle.nr_ring.specs.Pass.{Known, TableId}
use Rattle.nr_record.specs.Pen.{AreAllPens}
use Rattle.nr_serve.specs.ChainOfRun.{IsOutcomeOf}
use Rattle.nr_serve.specs.RunState.{RunState}
use Rattle.nr_serve.specs.declared.endings.call_outcome.CallOutcome.{CallOutcome}
use Rattle.nr_serve.specs.inside.Calls.{WorkerState, since}
use Rattle.nr_serve.proofs.Segments.{comes_of, same_state}
use Rattle.nr_serve.proofs.Teams.{all_few, all_of_log, all_pens, quotas_of_scripts}
use Rattle.nr_serve.proofs.threading.serving.serve_on.Goals as goal

pub quotas_of-requires : goal.quotas_of-requires
quotas_of-requires g c =
    subst (All (λ script. length script.items ≤ LOG_PLACES)) (sym c.deref.ensures.value)
    (all_few (λ script. script.items) c.args.scripts.items LOG_PLACES c.requires.scripts.few)

pub serve_all-requires-clause-of_log : goal.serve_all-requires-clause-of_log
serve_all-requires-clause-of_log g c = λ lifetimes bounds.
    subst (λ (log : TableId). All (λ (pass : Known). pass.log ≡ log) c.args.between.passes.items) c.requires.log.0 c.requires.run.of_log

pub segment_ending-requires : goal.segment_ending-requires
segment_ending-requires g c =
    let clock = c.in_ok-clock.clock in
    let scripts = c.args.scripts.items in
    let run = c.requires.run in
    let parts = c.in_ok-parts-in-Ok.ensures in
    let served = c.in-Ok.ensures.served in
    let one_each = c.requires.scripts.one_each ∙ ap (λ (l : Layout). l.threads) (sym c.in_ok-clock.ensures.clock.0) in
    let calls = c.in_ok-clock.ensures.clock.1 ∙ ap (λ (ns : List ℕ). sum ns) (quotas_of_scripts (λ script. script.items) scripts _ _ _
    c.deref-2.ensures.value c.in_ok-quotas.ensures c.deref.ensures.value) in
    record {
      run = record {
        opened_is = c.in_ok-replicas.ensures ∙ run.opened_is;
        depth_is = run.depth_is;
        replicas_are = run.replicas_are;
        one_each = ap (λ (ps : List Known). length ps) parts.passes ∙ length-map c.in-Ok.workers.items (λ (w : WorkerState). w.pass) ∙ served.one_each
            ∙ c.requires.scripts.one_each;
        of_log = subst (All (λ (pass : Known). pass.log ≡ g.K.ReplicasName.log)) (sym parts.passes) (all_of_log _ _ _ _ served);
        past_fits = run.past_fits;
      };
      of_clock = sym c.in_ok-clock.ensures.clock.0;
      all_pens = subst (AreAllPens clock) (sym parts.pens) (all_pens _ _ _ _ served one_each calls);
    }

pub returns-in-Ok : goal.returns-in-Ok
returns-in-Ok g c =
    let of = since g.K.ReplicasName.log g.K.ReplicasName.base in
    let between = c.args.between in
    let before = between.passes.items in
    let scripts : List (List Query) = map (λ script. script.items) c.args.scripts.items in
    let parts = c.in_ok-parts-in-Ok.ensures in
    let handed_back = c.in_ok-parts-in-Ok.parts in
    let answers : List (List CallOutcome) = map (λ said. said.items) handed_back.answers.items in
    subst (λ (state : RunState). IfOk c.segment_ending.result (IsOutcomeOf state scripts))
    (same_state of (since between.opened.log between.opened.base) before between.config between.past (sym c.requires.log.0) (sym c.requires.log.1))
    (comes_of c.segment_ending.result c.in_ok-clock.clock of between.config between.past handed_back.pens.items handed_back.passes.items answers before
    scripts c.segment_ending.ensures (record {
      workers = c.in-Ok.workers.items;
      served = c.in-Ok.ensures.served;
      heard = c.in-Ok.ensures.heard;
      pens_are = parts.pens;
      passes_are = parts.passes;
      answers_are = parts.answers;
      one_each = c.requires.scripts.one_each ∙ ap (λ (l : Layout). l.threads) (sym c.in_ok-clock.ensures.clock.0);
    }))
