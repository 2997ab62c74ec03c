use Rattle.std.proofs.Common.{◌≡◌, option_map, sym, ◌∙◌, subst}
use Rattle.nr_trace.specs.Calls.{call_of, Invocation}
use Rattle.nr_trace.specs.Recording.{Recording}
use Rattle.nr_audit.proofs.KnownEntries.{known_is, known_when_at, known_when_none}
use Rattle.nr_audit.proofs.checks.touches.known_of.Goals as goal

pub returns-in-Some : goal.returns-in-Some
returns-in-Some c =
    let segment = c.args.segment.now in
    let made = subst (λ (s : Recording). c.replica.result ≡ option_map (λ (made : Invocation). made.replica) (call_of s c.args.call)) c.requires.same
    c.replica.ensures.made in
    known_is segment c.args.call c.args.needed.now c.requires.needs c.in-Some.replica
    ∙ sym (known_when_at segment c.args.call c.in-Some.replica (sym made ∙ c.in-Some.is))

pub returns-in-None : goal.returns-in-None
returns-in-None c =
    let segment = c.args.segment.now in
    let made = subst (λ (s : Recording). c.replica.result ≡ option_map (λ (made : Invocation). made.replica) (call_of s c.args.call)) c.requires.same
    c.replica.ensures.made in
    sym (known_when_none segment c.args.call (sym made ∙ c.in-None.is))
