use Rattle.std.proofs.Common.{subst, sym, ◌∙◌}
use Rattle.nr_machine.specs.inside.Told.{IsTold}
use Rattle.nr_machine.proofs.Heads.{told_head}
use Rattle.nr_machine.proofs.Told.{told_check, told_first, told_flushed, told_half, told_lags, told_publish, told_raised, told_second}
use Rattle.nr_machine.proofs.node.Node.take.Goals as goal

pub returns-in-Looks : goal.returns-in-Looks
returns-in-Looks c = let e = c.see.ensures in
    told_head c.args.self.now c.see.new.self c.args.value (sym c.of.ensures ∙ c.in-Looks.is)
    (record { sound = e.sound; learned = e.learned; fits = e.fits; names = e.names; same = e.same; batch = e.batch; spent = e.spent })

pub returns-in-Lags : goal.returns-in-Lags
returns-in-Lags c = subst (λ n. IsTold c.args.self.now c.args.value n) (sym c.look_again.ensures)
    (told_lags c.args.self.now c.args.value c.requires (sym c.of.ensures ∙ c.in-Lags.is))

pub returns-in-StoresFirst : goal.returns-in-StoresFirst
returns-in-StoresFirst c =
    subst (λ n. IsTold c.args.self.now c.args.value n) (sym c.stored_first.ensures)
    (told_first c.args.self.now c.args.value c.requires (sym c.of.ensures ∙ c.in-StoresFirst.is))

pub returns-in-StoresSecond : goal.returns-in-StoresSecond
returns-in-StoresSecond c =
    subst (λ n. IsTold c.args.self.now c.args.value n) (sym c.stored_second.ensures)
    (told_second c.args.self.now c.args.value c.requires (sym c.of.ensures ∙ c.in-StoresSecond.is))

pub returns-in-LoadsFirst : goal.returns-in-LoadsFirst
returns-in-LoadsFirst c =
    subst (λ n. IsTold c.args.self.now c.args.value n) (sym c.load_first.ensures)
    (told_half c.args.self.now c.args.value c.requires (sym c.of.ensures ∙ c.in-LoadsFirst.is))

pub returns-in-Raises : goal.returns-in-Raises
returns-in-Raises c = subst (λ n. IsTold c.args.self.now c.args.value n) (sym c.raised.ensures)
    (told_raised c.args.self.now c.args.value c.requires (sym c.of.ensures ∙ c.in-Raises.is))

pub returns-in-Flushes : goal.returns-in-Flushes
returns-in-Flushes c =
    subst (λ n. IsTold c.args.self.now c.args.value n) (sym c.flushed.ensures)
    (told_flushed c.args.self.now c.args.value c.requires (sym c.of.ensures ∙ c.in-Flushes.is))

pub returns-in-Checks : goal.returns-in-Checks
returns-in-Checks c = subst (λ n. IsTold c.args.self.now c.args.value n) (sym c.check.ensures)
    (told_check c.args.self.now c.args.value c.requires (sym c.of.ensures ∙ c.in-Checks.is))

pub returns-in-Publishes : goal.returns-in-Publishes
returns-in-Publishes c =
    subst (λ n. IsTold c.args.self.now c.args.value n) (sym c.publish.ensures)
    (told_publish c.args.self.now c.args.value c.requires (sym c.of.ensures ∙ c.in-Publishes.is))
