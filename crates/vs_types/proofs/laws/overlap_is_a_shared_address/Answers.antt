use Rattle.vs_types.proofs.Pages.{overlaps_shares}
use Rattle.vs_types.proofs.laws.overlap_is_a_shared_address.Goals as goal

pub returns : goal.returns
returns c = overlaps_shares
