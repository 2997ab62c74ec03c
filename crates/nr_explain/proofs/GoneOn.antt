-- What a reader that explains a chain has come to with a segment more.
use Rattle.std.proofs.Common.{◌≡◌, ℕ, sym, ap, ◌∙◌}
use Rattle.vs_types.specs.Space.{Space}
use Rattle.vs_plain.specs.Plain.{BoundedSpace}
use Rattle.nr_trace.specs.Recording.{Recording}
use Rattle.nr_trace.specs.Orders.{space_from}
use Rattle.nr_audit.specs.Verdict.{space_of}

-- the space behind the segment is the one that the judge leaves
pub same_end : (segment : Recording) (begun : Space) (first end after : BoundedSpace) → first ≡ space_of segment.layout begun
    → end.space ≡ space_from first.space segment segment.log → end.depth ≡ first.depth → end.limit ≡ first.limit
    → after ≡ space_of segment.layout (space_from begun segment segment.log) → end ≡ after
same_end segment begun first end after begins space depth limit judged =
    let own_depth = depth ∙ ap (λ (s : BoundedSpace). s.depth) begins in
    let own_limit = limit ∙ ap (λ (s : BoundedSpace). s.limit) begins in
    let own_space = space ∙ ap (λ (s : BoundedSpace). space_from s.space segment segment.log) begins in
    let whole : end ≡ space_of segment.layout (space_from begun segment segment.log) =
    λ i. record { depth = own_depth i; limit = own_limit i; space = own_space i } in
    whole ∙ sym judged
