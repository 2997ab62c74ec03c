use Rattle.std.proofs.Common.{◌≡◌, ◌∙◌, inl, ap, sym, subst, slice_get, string_bytes, Some}
use Rattle.std.proofs.lemmas.Option.{slice_get-get_or}
use Rattle.vs_types.specs.Config.{Layout}
use Rattle.audit_readers.proofs.Inputs.{trace_read}
use Rattle.audit_readers.specs.PagesAnswers.{ShowsDump}
use Rattle.audit_readers.proofs.pages.pages_read.Goals as goal

pub returns-in_ok-report-in-Ok : goal.returns-in_ok-report-in-Ok
returns-in_ok-report-in-Ok c = λ bytes h.
    let depth_is : c.depth-depth.result ≡ c.in-Ok.trace.layout.depth = c.depth-depth.ensures ∙ ap (λ (l : Layout). l.depth) c.layout.ensures.reads in
    let report = c.in_ok-report-in-Ok.report in
    inl record {
      trace = c.in-Ok.trace;
      spelled = trace_read bytes c.args.read c.in-Ok.trace c.in-Ok.is h;
      dump = c.in-Some.dump.now;
      is_dump = ap (λ xs. slice_get xs c.args.replica) (sym c.dumps.ensures.reads)
          ∙ slice_get-get_or c.dumps.result.now c.args.replica c.in-Some.dump.now c.in-Some.ensures.lookup.3.0 ∙ ap Some (sym c.in-Some.ensures.lookup.1);
      shown = subst (λ depth. ShowsDump c.args.as_ranges c.args.replica depth c.in-Some.dump.now (string_bytes report.text) report.status) depth_is
          c.in_ok-report-in-Ok.ensures;
    }
