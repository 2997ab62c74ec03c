-- The frames of a dump by index, and their spellings.
use Rattle.std.proofs.Common.{◌≡◌, ℕ, ◌+◌, ◌<◌, ◌≤◌, List, [], ◌∷◌, ◌++◌, length, take, get_or, Option, Some, None, refl, sym, ap, ◌∙◌, arith}
use Rattle.std.specs.Prelude.{slice_index, IsSome}
use Rattle.std.specs.FinMap as finite
use Rattle.std.specs.List.{flat_map}
use Rattle.std.proofs.lemmas.List.{get_or-map, flat_map_more, take_more, take_all}
use Rattle.vs_walk.specs.Dump.{Image, IsDump}
use Rattle.vs_walk.specs.Memory.{Memory}
use Rattle.vs_walk.proofs.Dumps.{find_at}
use Rattle.nr_trace.specs.Spelling.{frame_number, frame_words, dump_head, head_of, dump, frames}
use Rattle.nr_trace.specs.declared.formats.fields.DumpHead.{DumpHead}
use Rattle.nr_trace.proofs.Written.{then}

abbrev nothing : ℕ × List ℕ
nothing = (0, [])

-- the frame of this index
abbrev pub frame_at : Memory → ℕ → ℕ × List ℕ
frame_at frames k = get_or (finite.entries frames) k nothing

number_at : (frames : Memory) (k : ℕ) → k < finite.len frames → slice_index (finite.keys frames) k ≡ (frame_at frames k).0
number_at frames k lt = get_or-map (λ (e : ℕ × List ℕ). e.0) (finite.entries frames) k nothing 0 (omega (arith, lt, finite.len-entries frames))

-- a frame is held under its number
pub is_held : (image : Image) (k number : ℕ) → IsDump image → k < finite.len image.frames → number ≡ slice_index (finite.keys image.frames) k
    → finite.get image.frames number ≡ Some (frame_at image.frames k).1
is_held image k number parts lt is =
    finite.get-entries image.frames number
    ∙ find_at (finite.entries image.frames) number k nothing parts.rising (omega (arith, lt, finite.len-entries image.frames))
    (sym (number_at image.frames k lt) ∙ sym is)

abbrev pub frame : ℕ × List ℕ → List ℕ
frame held = frame_number held.0 ++ frame_words held.1

some : (found : Option (List ℕ)) (words : List ℕ) → found ≡ Some words → IsSome found
some None words e = absurd cc
some (Some held) words e = refl

pub is_some : (image : Image) (k number : ℕ) (found : Option (List ℕ)) → IsDump image → k < finite.len image.frames
    → number ≡ slice_index (finite.keys image.frames) k
    → found ≡ finite.get image.frames number → IsSome found
is_some image k number found parts lt is e = some found (frame_at image.frames k).1 (e ∙ is_held image k number parts lt is)

-- one frame more
pub frame_put : (image : Image) (k number : ℕ) (words old before new : List ℕ) → IsDump image → k < finite.len image.frames
    → number ≡ slice_index (finite.keys image.frames) k
    → finite.get image.frames number ≡ Some words
    → before ≡ old ++ flat_map frame (take k (finite.entries image.frames))
    → new ≡ before ++ (frame_number number ++ frame_words words)
    → new ≡ old ++ flat_map frame (take (k + 1) (finite.entries image.frames))
frame_put image k number words old before new parts lt is found so_far put =
    let same_words : words ≡ (frame_at image.frames k).1 = let both : Some words ≡ Some (frame_at image.frames k).1 =
    sym found ∙ is_held image k number parts lt is in cc in
    let same_number : number ≡ (frame_at image.frames k).0 = is ∙ number_at image.frames k lt in
    put ∙ ap (λ (l : List ℕ). l ++ (frame_number number ++ frame_words words)) so_far
    ∙ ap (λ (n : ℕ). (old ++ flat_map frame (take k (finite.entries image.frames))) ++ (frame_number n ++ frame_words words)) same_number
    ∙ ap (λ (ws : List ℕ). (old ++ flat_map frame (take k (finite.entries image.frames))) ++
    (frame_number (frame_at image.frames k).0 ++ frame_words ws)) same_words
    ∙ flat_map_more frame old (take k (finite.entries image.frames)) (frame_at image.frames k)
    ∙ ap (λ (es : List (ℕ × List ℕ)). old ++ flat_map frame es)
    (sym (take_more (finite.entries image.frames) k nothing (omega (arith, lt, finite.len-entries image.frames))))

-- all frames
pub frames_put : (image : Image) (count k : ℕ) (old new : List ℕ) → count ≡ finite.len image.frames → count ≤ k
    → new ≡ old ++ flat_map frame (take k (finite.entries image.frames)) → new ≡ old ++ frames image
frames_put image count k old new all past is_new =
    is_new ∙ ap (λ (es : List (ℕ × List ℕ)). old ++ flat_map frame es)
    (take_all k (finite.entries image.frames) (omega (arith, past, all, finite.len-entries image.frames)))

pub dump_put : (image : Image) (applied count root : ℕ) (old head new : List ℕ) → count ≡ finite.len image.frames → applied ≡ image.applied
    → root ≡ image.root → head ≡ old ++ dump_head (record { applied = applied; frames = count; root = root }) → new ≡ head ++ frames image
    → new ≡ old ++ dump image
dump_put image applied count root old head new all is_applied is_root is_head is_new =
    let same : record { applied = applied; frames = count; root = root } ≡ head_of image =
    λ i. record { applied = is_applied i; frames = all i; root = is_root i } in
    then old (dump_head (head_of image)) head (frames image) new (is_head ∙ ap (λ (head : DumpHead). old ++ dump_head head) same) is_new

pub few_fit : (image : Image) (count : ℕ) → IsDump image → count ≡ finite.len image.frames → count ≤ 65535
few_fit image count parts all = omega (arith, parts.few, all, finite.len-entries image.frames)

-- one dump more
pub next_put : (dumps : List Image) (i : ℕ) (one : Image) (old before new : List ℕ) → i < length dumps → one ≡ get_or dumps i one
    → before ≡ old ++ flat_map dump (take i dumps) → new ≡ before ++ dump one → new ≡ old ++ flat_map dump (take (i + 1) dumps)
next_put dumps i one old before new lt is so_far put =
    put ∙ ap (λ (l : List ℕ). l ++ dump one) so_far ∙ flat_map_more dump old (take i dumps) one
    ∙ ap (λ (d : Image). old ++ flat_map dump (take i dumps ++ d ∷ [])) is
    ∙ ap (λ (ds : List Image). old ++ flat_map dump ds) (sym (take_more dumps i one lt))
