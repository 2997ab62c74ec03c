use Rattle.std.proofs.Common.{sym, subst, ◌∙◌}
use Rattle.vs_types.specs.Operation.{IsAction}
use Rattle.vs_types.proofs.LogWords.{finds_again}
use Rattle.vs_types.proofs.OneEntry.{told_op}
use Rattle.vs_types.proofs.log_entry.entry_of.Goals as goal

pub of-requires : goal.of-requires
of-requires c =
    let depth = c.requires.0 in
    let entry = c.requires.1 in
    let is = c.requires.2 in
    (depth, subst (IsAction depth) (sym (c.action_in-action.ensures ∙ told_op depth c.args.words entry is)) is.is_entry.well_formed)

pub returns : goal.returns
returns c depth entry is =
    let call = (finds_again depth c.args.words entry is).call in
    let op = c.of.ensures ∙ c.action_in-action.ensures ∙ told_op depth c.args.words entry is in
    λ i. record { call = call i; op = op i }
