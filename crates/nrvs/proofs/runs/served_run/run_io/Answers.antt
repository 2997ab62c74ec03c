use Rattle.std.proofs.Common.{ap, inr, subst}
use Rattle.std.proofs.lemmas.Result.{IfErr-weaker, IfOk-weaker}
use Rattle.vs_types.specs.Config.{Layout}
use Rattle.vs_types.specs.Query.{AreScripts}
use Rattle.nrvs.specs.ServedRun.{HasRunnable, IsRunEnd, IsRunFault, TellsRun, scripts_of}
use Rattle.nrvs.proofs.ServedRuns.{fault_of_end}
use Rattle.nrvs.proofs.runs.served_run.run_io.Goals as goal

pub returns-in-Some-clause-err : goal.returns-in-Some-clause-err
returns-in-Some-clause-err g c =
    let has = c.in_ok-script.ensures.ok in
    inr (record {
      input = has.input;
      is_read = has.is_read;
      short = has.short;
      script = c.in_ok-script.script;
      is_script = has.is_script;
      first = c.in-Some.is;
    })

pub run_named-requires-clause-scripts : goal.run_named-requires-clause-scripts
run_named-requires-clause-scripts g c κs lives =
    let is = c.in-Ok.ensures.1 in
    let scripts = c.in_ok-script.ensures.scripts c.in-Ok.config (ap (λ (l : Layout). l.depth) is) (ap (λ (l : Layout). l.threads) is) in
    let made : AreScripts c.in-Ok.config (scripts_of c.in_ok-script.script) =
    record { one_each = scripts.one_each; few = scripts.few; well_formed = scripts.well_formed } in
    made

pub returns-clause-ok : goal.returns-clause-ok
returns-clause-ok g c =
    let has = c.in_ok-script.ensures.ok in
    let script = c.in_ok-script.script in
    let as_trace = c.args.as_trace in
    IfOk-weaker c.run_named.result _ _
    (λ status h. record {
      input = has.input;
      is_read = has.is_read;
      text = h.0;
      is_report = record {
        script = script;
        runnable = record { short = has.short; is_script = has.is_script; no_step = c.in_default.is };
        told = subst (λ (l : Layout). TellsRun l (scripts_of script) as_trace h.0 status) c.in-Ok.ensures.1 h.1;
      };
      written = h.2;
    })
    c.run_named.ensures.ok

pub returns-clause-err : goal.returns-clause-err
returns-clause-err g c =
    let has = c.in_ok-script.ensures.ok in
    let known = g.R.Read.remaining c.args.reader.now in
    let depth = c.args.setup.depth in
    let runnable : HasRunnable depth known = record {
      input = has.input;
      is_read = has.is_read;
      script = c.in_ok-script.script;
      runnable = record { short = has.short; is_script = has.is_script; no_step = c.in_default.is };
    } in
    IfErr-weaker c.run_named.result IsRunEnd (IsRunFault depth known) (λ fault end. fault_of_end depth known fault runnable end) c.run_named.ensures.err
