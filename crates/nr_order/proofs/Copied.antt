-- A dump of which some first frames are copied.
use Rattle.std.proofs.Common.{◌≡◌, ℕ, ◌+◌, ◌<◌, ◌≤◌, ◌^◌, List, [], ◌∷◌, ◌++◌, length, map, take, get_or, Some, All, ap, sym, subst, ◌∙◌, arith}
use Rattle.std.specs.FinMap as finite
use Rattle.std.proofs.lemmas.List.{get_or-map, get_or-take, length-map, length-take-le, take_more, take_all}
use Rattle.vs_types.specs.declared.limits.TheConstants.{FRAMES}
use Rattle.vs_walk.specs.Dump.{Image, IsDump}
use Rattle.vs_walk.specs.Memory.{Memory}
use Rattle.vs_walk.proofs.Dumps.{find_at, numbers_rise}
use Rattle.nr_trace.proofs.Frames.{entries_more}

abbrev no_frame : ℕ × List ℕ
no_frame = (0, [])

module _ (dump : Image) (is : IsDump dump) (index number : ℕ) (within : index < finite.len dump.frames)
    (named : number ≡ get_or (finite.keys dump.frames) index 0) where
  abbrev frames : List (ℕ × List ℕ)
  frames = finite.entries dump.frames

  within_frames : index < length frames
  within_frames = subst (λ (n : ℕ). index < n) (finite.len-entries dump.frames) within

  its_number : number ≡ (get_or frames index no_frame).0
  its_number = named ∙ get_or-map (λ (frame : ℕ × List ℕ). frame.0) frames index no_frame 0 within_frames

  -- the next frame is there
  pub is_found : finite.get dump.frames number ≡ Some (get_or frames index no_frame).1
  is_found = finite.get-entries dump.frames number ∙ find_at frames number index no_frame is.rising within_frames (sym its_number)

  pub in_range : number < 2 ^ 40
  in_range = subst (λ (n : ℕ). n < 2 ^ 40) (sym its_number) (is.in_range index no_frame within_frames)

  module _ (copy : Memory) (copied : finite.entries copy ≡ take index frames) where
    pub room : finite.len copy < FRAMES
    room =
        let few = is.few in
        let long : length (take index frames) ≡ index = length-take-le index frames (let le : index ≤ length frames = omega (arith, within_frames) in le) in
        omega (arith, few, within_frames, finite.len-entries copy, ap length copied, long)

    pub above : All (λ held. held < number) (finite.keys copy)
    above = subst (λ (es : List (ℕ × List ℕ)). All (λ held. held < number) (map (λ (frame : ℕ × List ℕ). frame.0) es)) (sym copied) lower where
      lower : (k d : ℕ) → k < length (map (λ (frame : ℕ × List ℕ). frame.0) (take index frames))
          → get_or (map (λ (frame : ℕ × List ℕ). frame.0) (take index frames)) k d < number
      lower k d lt =
          let long : length (take index frames) ≡ index = length-take-le index frames (let le : index ≤ length frames = omega (arith, within_frames) in le) in
          let below : k < index = omega (arith, lt, long, length-map (take index frames) (λ (frame : ℕ × List ℕ). frame.0)) in
          let short : k < length (take index frames) = omega (arith, below, long) in
          let own : get_or (map (λ (frame : ℕ × List ℕ). frame.0) (take index frames)) k d ≡ (get_or frames k no_frame).0 =
          get_or-map (λ (frame : ℕ × List ℕ). frame.0) (take index frames) k no_frame d short
          ∙ ap (λ (frame : ℕ × List ℕ). frame.0) (get_or-take index frames k no_frame below) in
          let rises = numbers_rise frames k index no_frame is.rising below within_frames in
          omega (arith, own, rises, its_number)

    -- one frame more
    pub more : (words : List ℕ) → finite.get dump.frames number ≡ Some words
        → finite.entries (finite.insert copy number words) ≡ take (index + 1) frames
    more words found =
        let own : (number, words) ≡ get_or frames index no_frame = pair number words (get_or frames index no_frame) its_number (same words found) in
        entries_more copy number words above
        ∙ ap (λ (es : List (ℕ × List ℕ)). es ++ (number, words) ∷ []) copied
        ∙ ap (λ (frame : ℕ × List ℕ). take index frames ++ frame ∷ []) own
        ∙ sym (take_more frames index no_frame within_frames) where
          pair : (n : ℕ) (ws : List ℕ) (frame : ℕ × List ℕ) → n ≡ frame.0 → ws ≡ frame.1 → (n, ws) ≡ frame
          pair n ws frame a b = λ i. (a i, b i)

          same : (ws : List ℕ) → finite.get dump.frames number ≡ Some ws → ws ≡ (get_or frames index no_frame).1
          same ws found = let there = is_found in cc

-- all of them
pub whole : (dump copy : Image) (n : ℕ) → copy.applied ≡ dump.applied → copy.root ≡ dump.root
    → finite.entries copy.frames ≡ take n (finite.entries dump.frames) → finite.len dump.frames ≤ n → copy ≡ dump
whole dump copy n applied root copied all =
    let frames : copy.frames ≡ dump.frames =
    finite.same_entries_map copy.frames dump.frames
    (copied ∙ take_all n (finite.entries dump.frames) (subst (λ (k : ℕ). k ≤ n) (finite.len-entries dump.frames) all)) in
    λ i. record { applied = applied i; root = root i; frames = frames i }
