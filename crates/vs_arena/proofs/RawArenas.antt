-- Arenas in one region: the first places have the frames that were ever taken.
use Rattle.std.proofs.Common.{◌≡◌, ℕ, zero, suc, ◌+◌, ◌-◌, ◌<◌, ◌≤◌, ◌^◌, Bool, true, List, [], ◌∷◌, ◌++◌, map, length, get_or, set, replicate, refl, sym, ap}
use Rattle.std.proofs.Common.{◌∙◌, arith}
use Rattle.std.specs.Prelude.{Option, Some, None}
use Rattle.std.proofs.lemmas.List.{length-set, length-replicate, length-append, length_push, get_or_append_left}
use Rattle.vs_types.specs.declared.limits.TheConstants.{TABLES}
use Rattle.vs_types.specs.Frame.{IsFrame}
use Rattle.vs_arena.specs.Store.{zeros}
use Rattle.vs_arena.specs.Marked.{IsArena}
use Rattle.vs_arena.specs.inside.Region.{IsFilled}
use Rattle.vs_arena.specs.inside.RawArena.{values, IsRawArena}
use Rattle.vs_arena.proofs.MarkedFrames.{IsMarked, IsArena-write, IsArena-first, IsArena-new}

module _ {X : Type 0} where
  values-laid : (xs : List X) (k : ℕ) → values (map Some xs ++ replicate k None) ≡ xs
  values-laid [] zero = refl
  values-laid [] (suc k) = values-laid [] k
  values-laid (x ∷ xs) k = ap (λ l. x ∷ l) (values-laid xs k)

  get_or-map : (xs : List X) (i : ℕ) (d : X) → i < length xs → get_or (map Some xs) i None ≡ Some (get_or xs i d)
  get_or-map [] i d lt = absurd (omega arith)
  get_or-map (x ∷ xs) zero d lt = refl
  get_or-map (x ∷ xs) (suc i) d lt = get_or-map xs i d (omega arith)

  set-laid : (xs : List X) (rest : List (Option X)) (i : ℕ) (w : X) → i < length xs → set (map Some xs ++ rest) i (Some w) ≡ map Some (set xs i w) ++ rest
  set-laid [] rest i w lt = absurd (omega arith)
  set-laid (x ∷ xs) rest zero w lt = refl
  set-laid (x ∷ xs) rest (suc i) w lt = ap (λ l. Some x ∷ l) (set-laid xs rest i w (omega arith))

  get-next : (xs : List X) (rest : List (Option X)) → get_or (map Some xs ++ None ∷ rest) (length xs) None ≡ None
  get-next [] rest = refl
  get-next (x ∷ xs) rest = get-next xs rest

  set-next : (xs : List X) (rest : List (Option X)) (w : X) → set (map Some xs ++ None ∷ rest) (length xs) (Some w) ≡ map Some (xs ++ w ∷ []) ++ rest
  set-next [] rest w = refl
  set-next (x ∷ xs) rest w = ap (λ l. Some x ∷ l) (set-next xs rest w)

  length_map : (xs : List X) → length (map Some xs) ≡ length xs
  length_map [] = refl
  length_map (x ∷ xs) = ap suc (length_map xs)

  some_same : (x y : X) → Some x ≡ Some y → x ≡ y
  some_same x y e = ap (λ o. from o) e where
    from : Option X → X
    from None = x
    from (Some z) = z

  -- places of which the first are filled
  module _ (size : ℕ) (places : List (Option X)) (laid : places ≡ map Some (values places) ++ replicate (size - length (values places)) None) where
    filled_at : (i : ℕ) (d : X) → i < length (values places) → get_or places i None ≡ Some (get_or (values places) i d)
    filled_at i d lt =
        ap (λ l. get_or l i None) laid
        ∙ get_or_append_left (map Some (values places)) (replicate (size - length (values places)) None) None i (omega (arith, length_map (values places), lt))
        ∙ get_or-map (values places) i d lt

    pub IsFilled-within : (i : ℕ) (d : X) → i < length (values places) → IsFilled places i
    IsFilled-within i d lt = (get_or (values places) i d, filled_at i d lt)

    -- what was read at an index is the value there
    pub value_at : (i : ℕ) (d x : X) → i < length (values places) → get_or places i None ≡ Some x → x ≡ get_or (values places) i d
    value_at i d x lt e = some_same x _ (sym e ∙ filled_at i d lt)

    set_at : (i : ℕ) (w : X) → i < length (values places) → set places i (Some w)
        ≡ map Some (set (values places) i w) ++ replicate (size - length (set (values places) i w)) None
    set_at i w lt = ap (λ l. set l i (Some w)) laid ∙ set-laid (values places) _ i w lt
        ∙ ap (λ n. map Some (set (values places) i w) ++ replicate (size - n) None) (sym (length-set (values places) i w))

    pub values-set : (i : ℕ) (w : X) → i < length (values places) → values (set places i (Some w)) ≡ set (values places) i w
    values-set i w lt = ap values (set_at i w lt) ∙ values-laid (set (values places) i w) _

    pub length-laid : length (values places) ≤ size → length places ≡ size
    length-laid le = ap length laid ∙ length-append (map Some (values places)) _
        ∙ (let sum : length (map Some (values places)) + length (replicate {A = Option X} (size - length (values places)) None) ≡ size =
        omega (arith, le, length_map (values places), length-replicate {A = Option X} (size - length (values places)) None) in sum)

    -- the next place is empty
    module _ (room : length (values places) < size) where
      one_none : places ≡ map Some (values places) ++ None ∷ replicate (size - (length (values places) + 1)) None
      one_none =
          let more : size - length (values places) ≡ suc (size - (length (values places) + 1)) = omega (arith, room) in
          laid ∙ ap (λ k. map Some (values places) ++ replicate k None) more

      pub next_empty : get_or places (length (values places)) None ≡ None
      next_empty = ap (λ l. get_or l (length (values places)) None) one_none ∙ get-next (values places) _

      pushed : (w : X) → set places (length (values places)) (Some w)
          ≡ map Some (values places ++ w ∷ []) ++ replicate (size - length (values places ++ w ∷ [])) None
      pushed w = ap (λ l. set l (length (values places)) (Some w)) one_none ∙ set-next (values places) _ w
          ∙ ap (λ n. map Some (values places ++ w ∷ []) ++ replicate (size - n) None) (sym (length_push (values places) w))

      pub values-push : (w : X) → values (set places (length (values places)) (Some w)) ≡ values places ++ w ∷ []
      values-push w = ap values (pushed w) ∙ values-laid (values places ++ w ∷ []) _

-- an arena of such places
made : {base size : ℕ} {places : List (Option (List ℕ))} {marks : List Bool} {notes free : List ℕ} (words : List (List ℕ))
    → places ≡ map Some words ++ replicate (size - length words) None → IsArena base size words marks notes free → IsRawArena base size places marks notes free
made {size = size} {places} words laid arena =
    let same : values places ≡ words = ap values laid ∙ values-laid words _ in
    record {
      arena = rw same arena;
      laid = laid ∙ ap (λ (ws : List (List ℕ)). map Some ws ++ replicate (size - length ws) None) (sym same);
    }

module _ {base size : ℕ} {places : List (Option (List ℕ))} {marks : List Bool} {notes free : List ℕ} (raw : IsRawArena base size places marks notes free) where
  pub IsRawArena-write : {index : ℕ} (own : List ℕ) → IsFrame own → IsMarked marks (values places) index
      → IsRawArena base size (set places index (Some own)) marks notes free
  IsRawArena-write {index} own own_frame is_marked =
      let within : index < length (values places) = omega (arith, is_marked.in_marks, raw.arena.words_for_each) in
      made (set (values places) index own) (set_at size places raw.laid index own within) (IsArena-write raw.arena own own_frame is_marked)

  -- what is kept of the frames changes, and their words stay
  pub IsRawArena-kept : {marks' : List Bool} {notes' free' : List ℕ} → IsArena base size (values places) marks' notes' free'
      → IsRawArena base size places marks' notes' free'
  IsRawArena-kept arena = record { arena = arena; laid = raw.laid }

  pub IsRawArena-first : (index note : ℕ) → index ≡ length marks → length marks < size
      → IsRawArena base size (set places index (Some zeros)) (marks ++ true ∷ []) (notes ++ note ∷ []) free
  IsRawArena-first index note is room =
      let next : length (values places) < size = omega (arith, raw.arena.words_for_each, room) in
      let at : index ≡ length (values places) = is ∙ sym raw.arena.words_for_each in
      rw at (made (values places ++ zeros ∷ []) (pushed size places raw.laid next zeros) (IsArena-first raw.arena note room))

pub IsRawArena-new : (base size : ℕ) {places : List (Option (List ℕ))} → size ≤ TABLES → base + size ≤ 2 ^ 40 → places ≡ replicate size None
    → IsRawArena base size places [] [] []
IsRawArena-new base size few fit empty =
    made [] (empty ∙ ap (λ k. replicate k None) (let same : size ≡ size - 0 = omega arith in same)) (IsArena-new base size few fit)
