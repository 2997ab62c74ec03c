-- What a machine makes of a value that it is given, as its calls' clauses say.
use Rattle.std.proofs.Common.{◌≡◌, ℕ, true, refl, ap, sym, ◌∙◌}
use Rattle.nr_machine.specs.declared.asked.Asked.{Asked}
use Rattle.nr_machine.specs.declared.asked.Asked.TheVariants.{Carry, Apply, Lags, Done, Broken}
use Rattle.nr_machine.specs.declared.node.Node.{Node}
use Rattle.nr_machine.specs.Calls.{Learns}
use Rattle.nr_machine.specs.Machine.{asked_by}
use Rattle.nr_machine.specs.inside.Told.{IsTold}
use Rattle.nr_machine.proofs.Told.{carries, is_lagging}

-- what it learns from a value
learns_by : (old new : Node) (value : ℕ) (q : Asked) → asked_by old ≡ q → IsTold old value new → Learns q old value new
learns_by old new value (Carry operation) is told = λ fit. (
  told.learned operation is (told.fits operation is fit),
  told.fits operation is fit,
)
learns_by old new value (Lags r) is told = let it = told.lags r is in (it.1, it.0)
learns_by old new value (Apply update) is told =
    told.others (λ op asked. let e : carries (Apply update) ≡ true = ap carries (sym is ∙ asked) in absurd (cc))
    (λ r asked. let e : is_lagging (Apply update) ≡ true = ap is_lagging (sym is ∙ asked) in absurd (cc))
learns_by old new value Done is told =
    told.others (λ op asked. let e : carries Done ≡ true = ap carries (sym is ∙ asked) in absurd (cc))
    (λ r asked. let e : is_lagging Done ≡ true = ap is_lagging (sym is ∙ asked) in absurd (cc))
learns_by old new value Broken is told =
    told.others (λ op asked. let e : carries Broken ≡ true = ap carries (sym is ∙ asked) in absurd (cc))
    (λ r asked. let e : is_lagging Broken ≡ true = ap is_lagging (sym is ∙ asked) in absurd (cc))

pub learns : (old new : Node) (value : ℕ) → IsTold old value new → Learns (asked_by old) old value new
learns old new value told = learns_by old new value (asked_by old) refl told
