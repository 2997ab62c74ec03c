use Rattle.std.proofs.Common.{subst}
use Rattle.vs_text.specs.inside.Named.{IsNamed}
use Rattle.vs_text.specs.Words.{texts}
use Rattle.vs_text.specs.declared.name.Name.{Name}
use Rattle.vs_text.specs.declared.name.Name.TheVariants as names
use Rattle.vs_text.proofs.ByName.{access_kind, protect_kind, unread}
use Rattle.vs_text.proofs.request.parse_named.Goals as goal

pub returns-in_err-base-in-Protect : goal.returns-in_err-base-in-Protect
returns-in_err-base-in-Protect c =
    let words = texts c.args.words.now in
    rw c.from_residual-in_err-base-in-Protect.ensures (λ query named.
    unread c.args.depth names.Protect words (protect_kind words) (λ it spelled. c.in_err-base-in-Protect.ensures it spelled) query
    (subst (λ (name : Name). IsNamed c.args.depth name words query) c.in-Protect.is named))

pub returns-in_err-address-in-Access : goal.returns-in_err-address-in-Access
returns-in_err-address-in-Access c =
    let words = texts c.args.words.now in
    rw c.from_residual-in_err-address-in-Access.ensures (λ query named.
    unread c.args.depth names.Access words (access_kind words) (λ it spelled. c.in_err-address-in-Access.ensures it spelled) query
    (subst (λ (name : Name). IsNamed c.args.depth name words query) c.in-Access.is named))
