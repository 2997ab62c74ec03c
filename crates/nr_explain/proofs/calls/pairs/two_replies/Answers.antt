use Rattle.std.proofs.Common.{◌≡◌, ℕ, Some, subst}
use Rattle.nr_trace.specs.Calls.{reply_of}
use Rattle.nr_explain.specs.Facts.{response}
use Rattle.nr_explain.proofs.FirstFaults.{twice_names_call}
use Rattle.nr_explain.proofs.calls.pairs.two_replies.Goals as goal

pub call_at-call-requires : goal.call_at-call-requires
call_at-call-requires c =
    let trace = c.args.trace.now in
    let second = c.reply_at-second.result in
    (twice_names_call trace c.args.index (response second) c.requires
    (subst (λ (i : ℕ). reply_of trace i ≡ Some (response second)) c.reply_at-second.ensures.event c.reply_at-second.ensures.is)).1
