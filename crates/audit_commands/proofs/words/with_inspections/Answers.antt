use Rattle.std.proofs.Common.{◌∙◌, ap}
use Rattle.std.proofs.lemmas.Result.{IfOk-weaker}
use Rattle.clap.specs.Words.{App, with_subcommand}
use Rattle.audit_commands.specs.Words.{audit_app, explain_app, order_app, pages_app, resolve_app}
use Rattle.audit_commands.proofs.CommandLines.{both}
use Rattle.audit_commands.proofs.words.with_inspections.Goals as goal

pub returns : goal.returns
returns c =
    let one_is = c.in_ok-line.ensures audit_app (both _ _ c.audit.result c.audit.ensures.app c.audit.ensures.local) in
    let two_is = c.in_ok-line-2.ensures explain_app (both _ _ c.explain.result c.explain.ensures.app c.explain.ensures.local)
    ∙ ap (λ (a : App). with_subcommand a explain_app.top) one_is in
    let three_is = c.in_ok-line-3.ensures order_app (both _ _ c.order.result c.order.ensures.app c.order.ensures.local)
    ∙ ap (λ (a : App). with_subcommand a order_app.top) two_is in
    let four_is = c.in_ok-line-4.ensures resolve_app (both _ _ c.resolve.result c.resolve.ensures.app c.resolve.ensures.local)
    ∙ ap (λ (a : App). with_subcommand a resolve_app.top) three_is in
    record {
      app = IfOk-weaker c.with_command-5.result _ _ (λ whole is. is ∙ ap (λ (a : App). with_subcommand a pages_app.top) four_is)
          (c.with_command-5.ensures pages_app (both _ _ c.pages.result c.pages.ensures.app c.pages.ensures.local));
    }
