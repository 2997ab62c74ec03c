-- Where the look of an address comes from.
use Rattle.std.proofs.Common.{◌≡◌, Option, Some, None, option_map, sym, ap, ◌∙◌}
use Rattle.vs_types.specs.Space.{Space}
use Rattle.vs_plain.specs.Plain.{BoundedSpace}
use Rattle.vs_walk.specs.Dump.{Image}
use Rattle.nr_trace.specs.Recording.{Recording}
use Rattle.nr_audit.specs.Start.{first_space, start_space}
use Rattle.nr_explain.specs.inside.Reading.{all_states, began_seen, space_seen}
use Rattle.nr_explain.specs.declared.chain.progress.Progress.{Progress}

abbrev pub space_in_it : Option BoundedSpace → Option Space
space_in_it o = option_map (λ (s : BoundedSpace). s.space) o

-- a chain that begins with this segment begins with the space of its start
pub begun_start : (last : Option Progress) (segment : Recording) (start : Image) (first : Space) → last ≡ None → segment.start ≡ Some start
    → first ≡ first_space (space_seen (all_states last)) segment → began_seen (all_states last) segment ≡ Some first
begun_start last segment start first none is same =
    ap (λ (l : Option Progress). began_seen (all_states l) segment) none
    ∙ ap (λ (o : Option Image). option_map (λ (s : Image). start_space segment.layout.depth (Some s)) o) is
    ∙ ap Some (sym (same ∙ ap (λ (l : Option Progress). first_space (space_seen (all_states l)) segment) none ∙ ap (start_space segment.layout.depth) is))
