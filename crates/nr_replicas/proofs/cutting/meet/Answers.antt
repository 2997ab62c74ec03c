use Rattle.std.proofs.Common.{◌≡◌, All, sym, ◌∙◌}
use Rattle.nr_ring.specs.Pass.{Known}
use Rattle.nr_replicas.proofs.Rests.{first_and_rest}
use Rattle.nr_replicas.proofs.cutting.meet.Goals as goal

pub meet_passes-count-requires-clause-log : goal.meet_passes-count-requires-clause-log
meet_passes-count-requires-clause-log g c =
    let passes = c.in_ok-passes in
    let Of : Known → Type 0 = λ pass. pass.log ≡ c.args.log.now in
    first_and_rest Of c.args.passes.now passes.others.now passes.first.now passes.ensures.cases.0 (λ k d lt. c.requires.passes k d lt ∙ sym c.requires.log)
