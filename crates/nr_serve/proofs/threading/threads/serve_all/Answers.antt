use Rattle.std.proofs.lemmas.Simd.{map-map}
use Rattle.std.proofs.Common.{◌≡◌, List, All, length, map, ap, sym, subst, ◌∙◌, arith}
use Rattle.std.proofs.Math.ListN.{length-map}
use Rattle.std.specs.List.{AllZip}
use Rattle.vs_types.specs.declared.requests.request.Query.{Query}
use Rattle.nr_record.specs.Pen.{PenState, new_pens}
use Rattle.nr_serve.specs.inside.Working.{IsDone, IsReadyJob, JobState, jobs_from}
use Rattle.nr_serve.specs.inside.Calls.{since}
use Rattle.nr_serve.proofs.Jobs.{all_heard, all_served, jobs_ready, pens_count}
use Rattle.nr_serve.proofs.threading.threads.serve_all.Goals as goal

pub jobs_of-requires-clause-few : goal.jobs_of-requires-clause-few
jobs_of-requires-clause-few g c =
    let scripts = c.args.scripts.items in
    omega (arith, length-map scripts (λ script. script.items), c.requires.scripts.one_each, c.requires.few)

pub jobs_of-requires-clause-pens : goal.jobs_of-requires-clause-pens
jobs_of-requires-clause-pens g c =
    let scripts = c.args.scripts.items in
    let lengths = map (λ script. length script.items) scripts in
    omega (
      arith,
      ap (λ (l : List PenState). length l) c.requires.pens,
      pens_count c.args.team.now.clock.now 0 lengths,
      length-map scripts (λ script. length script.items),
    )

pub run_all-requires-clause-ready : goal.run_all-requires-clause-ready
run_all-requires-clause-ready g c =
    let clock = c.args.team.now.clock.now in
    let log = g.K.ReplicasName.log in
    let scripts = map (λ script. script.items) c.args.scripts.items in
    let passes = c.args.passes.items in
    let lengths : map (λ (script : List Query). length script) scripts ≡ map (λ script. length script.items) c.args.scripts.items =
    map-map (λ (script : List Query). length script) (λ script. script.items) c.args.scripts.items in
    let pens : c.args.pens.items ≡ new_pens clock 0 (map (λ (script : List Query). length script) scripts) =
    c.requires.pens ∙ ap (new_pens clock 0) (sym lengths) in
    let all = jobs_ready clock log 0 scripts passes c.requires.scripts.well_formed c.requires.of_log
    (omega (arith, c.requires.scripts.one_each)) in
    let ready : All (IsReadyJob clock log) c.in_ok-jobs.jobs.items =
    subst (λ (l : List JobState). All (IsReadyJob clock log) l)
    (sym (c.in_ok-jobs.ensures ∙ ap (λ (l : List PenState). jobs_from 0 scripts l passes) pens)) all in
    λ lifetimes bounds. ready

pub returns-in-Some : goal.returns-in-Some
returns-in-Some g c =
    let clock = c.args.team.now.clock.now in
    let of = since g.K.ReplicasName.log g.K.ReplicasName.base in
    let scripts = map (λ script. script.items) c.args.scripts.items in
    let pens = c.args.pens.items in
    let passes = c.args.passes.items in
    let workers = c.in-Some.workers.items in
    let lengths = map (λ script. length script.items) c.args.scripts.items in
    let long = length-map c.args.scripts.items (λ script. script.items) in
    let pens_long : length pens ≡ length scripts =
    omega (
      arith,
      ap (λ (l : List PenState). length l) c.requires.pens,
      pens_count clock 0 lengths,
      length-map c.args.scripts.items (λ script. length script.items),
      long,
    )
    in
    let passes_long : length passes ≡ length scripts = omega (arith, c.requires.passes, long) in
    let each : AllZip (IsDone clock of) (jobs_from 0 scripts pens passes) workers =
    subst (λ (l : List JobState). AllZip (IsDone clock of) l workers) c.in_ok-jobs.ensures c.in-Some.ensures in
    record {
      served = all_served clock of scripts pens passes workers pens_long passes_long each;
      heard = all_heard clock of 0 scripts pens passes workers pens_long passes_long each;
    }
