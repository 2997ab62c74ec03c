use Rattle.std.proofs.KnownBytes.{Appends-trans}
use Rattle.std.proofs.lemmas.Result.{on_ok_weaker}
use Rattle.audit_commands.proofs.tap.write_plan.Goals as goal

pub returns-clause-ok : goal.returns-clause-ok
returns-clause-ok g c =
    on_ok_weaker c.write_text-2.result
    (λ last. Appends-trans _ _ _ _ _ c.in_ok-write_text.ensures.ok (Appends-trans _ _ _ _ _ c.in_ok-write_number.ensures.ok last))
    c.write_text-2.ensures.ok
