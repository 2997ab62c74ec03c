-- How the recording of `map_then_resolve` is spelled: its front, and then four frames.
use Rattle.std.proofs.Common.{◌≡◌, ℕ, List, [], ◌∷◌, ◌++◌, length, take, refl, ap, ◌∙◌}
use Rattle.std.specs.Prelude.{flat_map}
use Rattle.std.specs.FinMap as finite
use Rattle.std.specs.Ordering.{nat_cmp}
use Rattle.nr_trace.specs.Spelling.{spelling, frame_number, frame_words}
use Rattle.nr_trace.specs.Examples.{map_then_resolve, map_then_resolve_bytes, frames_of_page, frame_with}

abbrev frames : List (ℕ × List ℕ)
frames = (1, frame_with 0 0x2007) ∷ (2, frame_with 0 0x3007) ∷ (3, frame_with 2 0x4007) ∷ (4, frame_with 0 0x1007) ∷ []

pub entries_of_page : finite.entries frames_of_page ≡ frames
entries_of_page = finite.entries-from_sorted nat_cmp frames tt

pub len_of_page : finite.len frames_of_page ≡ 4
len_of_page = finite.len-entries frames_of_page ∙ ap length entries_of_page

abbrev behind : List ℕ
behind = flat_map (λ frame. frame_number frame.0 ++ frame_words frame.1) frames

whole_bytes : spelling map_then_resolve ≡ map_then_resolve_bytes ++ behind
whole_bytes = rw (len_of_page, entries_of_page) refl

pub front : take 136 (spelling map_then_resolve) ≡ map_then_resolve_bytes
front = ap (take 136) whole_bytes

pub whole : length (spelling map_then_resolve) ≡ 16552
whole = ap length whole_bytes
