use Rattle.nr_audit.proofs.StartSpaces.{sound_behind, start_is_whole}
use Rattle.nr_audit.proofs.laws.segments_go_on_from_their_starts.Goals as goal

pub returns : goal.returns
returns c = λ segment start run recording orderly same is leads settled.
    sound_behind segment start run orderly same is (start_is_whole segment start recording is) leads settled
