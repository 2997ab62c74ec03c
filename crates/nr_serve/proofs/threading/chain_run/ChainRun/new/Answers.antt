use Rattle.std.proofs.Common.{◌≡◌, List, [], All, length, refl, ap, sym, subst, ◌∙◌}
use Rattle.std.proofs.lemmas.List.{length-replicate}
use Rattle.std.proofs.lemmas.List.Elements.{All-replicate}
use Rattle.nr_ring.specs.Pass.{Known, new_pass}
use Rattle.nr_serve.proofs.Segments.{new_state}
use Rattle.nr_serve.proofs.threading.chain_run.ChainRun.new.Goals as goal

pub invariant_of-run : goal.invariant_of-run
invariant_of-run g c =
    let opened = c.in_ok-opened.opened in
    let made = c.in_ok-opened.ensures in
    let threads = c.args.config.threads in
    record {
      opened_is = made.layout;
      depth_is = c.requires.depth;
      replicas_are = c.requires.replicas;
      one_each = ap (λ (passes : List Known). length passes) made.passes ∙ length-replicate threads (new_pass opened.log []);
      of_log = subst (All (λ (pass : Known). pass.log ≡ opened.log)) (sym made.passes)
          (All-replicate (λ (pass : Known). pass.log ≡ opened.log) threads (new_pass opened.log []) refl);
      past_fits = tt;
    }

pub returns : goal.returns
returns g c = new_state c.args.config c.in_ok-opened.opened c.in_ok-opened.passes.items c.in_ok-opened.ensures.base c.in_ok-opened.ensures.passes
