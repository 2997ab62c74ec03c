-- Frames taken one after another from a rising list of their numbers.
use Rattle.std.proofs.Common.{◌≡◌, ◌≢◌, ℕ, ◌+◌, ◌^◌, ◌<◌, ◌≤◌, ◌⊎◌, Bool, true, false, cond, List, [], ◌∷◌, Some, None, length, take, get_or, refl, sym, ap}
use Rattle.std.proofs.Common.{subst, ◌∙◌, ⊎_elim, arith, add-one, IsTrue, Contains, nat_eq, eqb-true}
use Rattle.std.specs.Prelude.{All}
use Rattle.std.specs.FinMap as finite
use Rattle.std.specs.List.{AllPairs}
use Rattle.std.specs.Cmp.{nat_cmp_total, unsigned_tied, nat_eq_equiv}
use Rattle.std.specs.Set.{is_member}
use Rattle.std.proofs.Math.Seq.{take-suc}
use Rattle.std.proofs.lemmas.Bool.{eq-eqb, false≢true}
use Rattle.std.proofs.lemmas.Bool.Decides.{Decides-eqb}
use Rattle.std.proofs.lemmas.List.{get_or-take, get_or_default, length-take, length-map}
use Rattle.std.proofs.lemmas.List.Elements.{Contains-append_cases, All-contains, All-map}
use Rattle.std.proofs.lemmas.Map.Made.{length-le_from_is_member, is_member-Decides, IsDistinct-from_AllPairs}
use Rattle.std.proofs.lemmas.Map.Views.{Contains-from_any}
use Rattle.vs_types.proofs.Lists.{Contains-cases, not_in_nil}
use Rattle.vs_types.specs.declared.limits.TheConstants.{FRAMES}
use Rattle.vs_types.specs.declared.addresses.depth.Depth.{Depth}
use Rattle.vs_walk.specs.Dump.{Image, IsDump}
use Rattle.vs_walk.specs.Memory.{Memory}
use Rattle.vs_walk.specs.Reached.{AreJust}
use Rattle.vs_walk.specs.Traversal.{traversal, reached, walk_fault}
use Rattle.vs_walk.proofs.LawsOfTraversals.{reached_held, reached_distinct}

-- a rising list of what another list holds is no longer
pub no_longer : (ks ns : List ℕ) → AllPairs (λ a b. a < b) ks → AreJust ks ns → length ks ≤ length ns
no_longer ks ns rising just = length-le_from_is_member nat_eq_equiv ks ns (IsDistinct-from_AllPairs Decides-eqb ks apart) within where
  apart : AllPairs (λ a b. a ≢ b) ks
  apart i j d lt inside is = let less = rising i j d lt inside in omega arith

  within : (q : ℕ) → is_member nat_eq ks q ≡ true → is_member nat_eq ns q ≡ true
  within q m = (is_member-Decides Decides-eqb ns q).1 ((just q).0 ((is_member-Decides Decides-eqb ks q).0 m))

-- those before a place are below the one there
pub below_next : (ks : List ℕ) (index : ℕ) → AllPairs (λ a b. a < b) ks → index < length ks → All (λ held. held < get_or ks index 0) (take index ks)
below_next ks index rising within j d inside =
    let before : j < index = omega (arith, length-take index ks) in
    let less : get_or ks j d < get_or ks index d = rising j index d before within in
    subst (λ n. n < get_or ks index 0) (sym (get_or-take index ks j d before)) (subst (λ n. get_or ks j d < n) (get_or_default ks index d 0 within) less)

-- one frame more
pub held_next : (memory dump : Memory) (ks : List ℕ) (index : ℕ) (words : List ℕ) → index < length ks → finite.get memory (get_or ks index 0) ≡ Some words
    → ((q : ℕ) → Contains (take index ks) q → finite.get dump q ≡ finite.get memory q)
    → (q : ℕ) → Contains (take (index + 1) ks) q → finite.get (finite.insert dump (get_or ks index 0) words) q ≡ finite.get memory q
held_next memory dump ks index words within there held q in_more =
    let k = get_or ks index 0 in
    finite.get-insert nat_cmp_total dump k words q
    ∙ ap (λ b. cond b (Some words) (finite.get dump q)) (unsigned_tied q k)
    ∙ by_same (nat_eq q k) refl (Contains-append_cases (take index ks) (k ∷ []) q
    (subst (λ xs. Contains xs q) (ap (λ n. take n ks) (add-one index) ∙ take-suc ks index 0 within) in_more)) where
      by_same : (b : Bool) → nat_eq q (get_or ks index 0) ≡ b → Contains (take index ks) q ⊎ Contains (get_or ks index 0 ∷ []) q
          → cond b (Some words) (finite.get dump q) ≡ finite.get memory q
      by_same true same either = sym there ∙ ap (finite.get memory) (sym (eqb-true q (get_or ks index 0) same))
      by_same false same either = ⊎_elim (held q) (λ last. ⊎_elim (λ is. absurd (false≢true (sym same ∙ eq-eqb q (get_or ks index 0) (sym is))))
          (λ later. absurd (not_in_nil q later)) (Contains-cases (get_or ks index 0) [] q last)) either

-- what a memory holds is among its numbers
pub held_number : (memory : Memory) (q : ℕ) → IsTrue (finite.contains_key memory q) → Contains (finite.keys memory) q
held_number memory q h =
    Contains-from_any (λ x y same. eqb-true x y (sym (unsigned_tied x y) ∙ same)) q (finite.keys memory) (sym (finite.contains_key-keys memory q) ∙ h)

-- a frame that is reached is there
pub reached_held_at : (memory : Memory) (number : ℕ) (ns : List ℕ) → All (λ n. IsTrue (finite.contains_key memory n)) ns → Contains ns number
    → finite.get memory number ≡ None → ⊥
reached_held_at memory number ns all is none = let there = All-contains (λ n. IsTrue (finite.contains_key memory n)) ns number all is in
    let bad : IsTrue false = rw none at there in cc

-- ---- how many frames are reached

-- without a fault no more frames are reached than the memory has
pub reached_few : (depth : Depth) (memory : Memory) (root : ℕ) → walk_fault depth memory root ≡ None
    → length (reached (traversal depth memory root)) ≤ finite.len memory
reached_few depth memory root none =
    subst (λ n. length (reached (traversal depth memory root)) ≤ n) (length-map (finite.entries memory) (λ e. e.0) ∙ sym (finite.len-entries memory))
    (length-le_from_is_member nat_eq_equiv (reached (traversal depth memory root)) (finite.keys memory) (reached_distinct depth memory root none) within) where
      within : (q : ℕ) → is_member nat_eq (reached (traversal depth memory root)) q ≡ true → is_member nat_eq (finite.keys memory) q ≡ true
      within q m =
          (is_member-Decides Decides-eqb (finite.keys memory) q).1
          (held_number memory q (All-contains (λ n. IsTrue (finite.contains_key memory n)) (reached (traversal depth memory root)) q
          (reached_held depth memory root none) ((is_member-Decides Decides-eqb (reached (traversal depth memory root)) q).0 m)))

-- of a dump
pub dump_few : (dump : Image) (depth : Depth) (root : ℕ) → IsDump dump → walk_fault depth dump.frames root ≡ None
    → length (reached (traversal depth dump.frames root)) ≤ FRAMES
dump_few dump depth root is none =
    let few = reached_few depth dump.frames root none in
    let count = finite.len-entries dump.frames in
    let held : length (finite.entries dump.frames) ≤ FRAMES = is.few in
    omega arith

dump_number : (dump : Image) (q : ℕ) → IsDump dump → Contains (finite.keys dump.frames) q → q < 2 ^ 40
dump_number dump q is held = All-contains (λ n. n < 2 ^ 40) (finite.keys dump.frames) q
    (All-map (λ n. n < 2 ^ 40) (λ e. e.0) (finite.entries dump.frames) is.in_range) held

pub dump_in_range : (dump : Image) (depth : Depth) (root : ℕ) → IsDump dump → walk_fault depth dump.frames root ≡ None
    → All (λ number. number < 2 ^ 40) (reached (traversal depth dump.frames root))
dump_in_range dump depth root is none k d within =
    let number = get_or (reached (traversal depth dump.frames root)) k d in
    dump_number dump number is (held_number dump.frames number (reached_held depth dump.frames root none k d within))
