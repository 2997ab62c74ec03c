use Rattle.std.proofs.Common.{◌≡◌, ℕ, suc, ◌<◌, refl, arith}
use Rattle.vs_types.specs.Codes.{rights_code}
use Rattle.nr_trace.proofs.LawsOfUnits.{rights_from}
use Rattle.vs_types.proofs.LogWords.{rights_code_low}
use Rattle.nr_touch.proofs.Tests.{no, yes}
use Rattle.nr_touch.proofs.changes.sights.has_rights.Goals as goal

pub loop-code-init : goal.loop-code-init
loop-code-init c = λ rights low. absurd (omega (arith, low))

-- rights of each code
coded : (code : ℕ) → code < 8 → code ≡ rights_code (rights_from code)
coded (suc (suc (suc (suc (suc (suc (suc (suc n)))))))) l = absurd (omega arith)
coded _ l = refl

pub returns-then-has : goal.returns-then-has
returns-then-has c =
    let code = c.loop-code.code in
    let is = coded code c.loop-code-test.true in
    yes (rights_from code, (c.is_so.ensures (rights_from code) is).0 c.if-is_so.true, rw is at (c.has.ensures.0 c.if-has.true))

pub returns : goal.returns
returns c = no (λ (rights, so, some).
    let few = rights_code_low rights in c.loop-code.invariant rights (omega (arith, few, c.loop-code-test.false)) so some)
