use Rattle.std.proofs.Common.{◌≡◌, ◌∙◌, inl, refl, ap, sym, subst, slice_get, Some}
use Rattle.std.proofs.lemmas.Option.{slice_get-get_or}
use Rattle.vs_types.specs.Depth.{IsCanonical}
use Rattle.vs_types.specs.declared.addresses.depth.Depth.{Depth}
use Rattle.vs_types.specs.Config.{Layout}
use Rattle.audit_readers.specs.Answers.{walk_lines}
use Rattle.audit_readers.proofs.resolve.walk_report.Goals as goal

pub returns : goal.returns
returns c = λ bytes spelled.
    let depth_is : c.depth-depth.result ≡ c.args.trace.now.layout.depth = c.depth-depth.ensures ∙ ap (λ (l : Layout). l.depth) c.layout.ensures.reads in
    inl record {
      trace = c.args.trace.now;
      spelled = spelled;
      canonical = subst (λ d. IsCanonical d c.args.address) depth_is (sym c.is_canonical.ensures ∙ c.if-not-is_canonical.false);
      dump = c.in-Some.dump.now;
      is_dump = ap (λ xs. slice_get xs c.args.replica) (sym c.dumps.ensures.reads)
          ∙ slice_get-get_or c.dumps.result.now c.args.replica c.in-Some.dump.now c.in-Some.ensures.lookup.3.0 ∙ ap Some (sym c.in-Some.ensures.lookup.1);
      text_is = c.in_ok-text.ensures ∙ ap (λ (d : Depth). walk_lines c.args.with_steps d c.in-Some.dump.now c.args.address) depth_is;
      status_is = refl;
    }
