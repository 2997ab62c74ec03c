use Rattle.std.proofs.Common.{ℕ, ◌/◌, ◌%◌, ap, sym, ◌∙◌, arith}
use Rattle.vs_types.specs.inside.Telling.{action_in}
use Rattle.vs_types.specs.declared.requests.op.Action.TheVariants.{Map, Protect}
use Rattle.vs_types.proofs.Telling.{protect_above}
use Rattle.vs_types.proofs.log_entry.action_in.Goals as goal

pub returns-in-0 : goal.returns-in-0
unfolding action_in
returns-in-0 c =
    let a = c.args in
    (λ i. Map (record { base = a.address; size = c.size_in.ensures i; phys = a.physical; rights = c.rights_in.ensures i }))
    ∙ sym (ap (λ (k : ℕ). action_in k (a.codes / 4 % 4) (a.codes / 16) a.address a.physical) c.in-0.is)

pub returns-in-1 : goal.returns-in-1
unfolding action_in
returns-in-1 c =
    let a = c.args in
    sym (ap (λ (k : ℕ). action_in k (a.codes / 4 % 4) (a.codes / 16) a.address a.physical) c.in-1.is)

pub returns-in_default : goal.returns-in_default
returns-in_default c =
    let a = c.args in
    ap (Protect a.address) c.rights_in-in_default.ensures
    ∙ protect_above (a.codes % 4) (a.codes / 4 % 4) (a.codes / 16) a.address a.physical (omega (arith, c.in_default))
