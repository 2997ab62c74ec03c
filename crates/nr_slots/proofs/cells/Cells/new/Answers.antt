use Rattle.std.proofs.Common.{◌∙◌}
use Rattle.nr_slots.proofs.Keeps.{begins}
use Rattle.nr_slots.proofs.cells.Cells.new.Goals as goal

pub new-requires : goal.new-requires
new-requires g c =
    begins _ _ _ _ _ (c.as_slice.ensures.value ∙ c.in_ok-words.ensures.items_if_clones_equal (λ y same. same))
    (c.in_ok-slots.ensures.items_if_clones_equal (λ y same. same))
