-- Which frames of a store are in use after a change.
use Rattle.std.proofs.Common.{◌≡◌, ℕ, Bool, true, false, cond, eqb, List, [], refl, sym, ap, subst, ◌∙◌, rules}
use Rattle.std.specs.Prelude.{Option, Some, None, IsSome, unwrap_or}
use Rattle.std.specs.FinMap as finite
use Rattle.std.proofs.lemmas.Bool.{ne_eqb}
use Rattle.vs_types.proofs.Maps.{get-insert, get-remove, get-insert_same}
use Rattle.vs_arena.specs.Store.{Store, IsInUse, words_of}

-- what is in use has words
pub get_in_use : (store : Store) (index : ℕ) → IsInUse store index → finite.get store index ≡ Some (words_of store index)
get_in_use store index h = some_words (finite.get store index) h where
  some_words : (o : Option (List ℕ)) → IsSome o → o ≡ Some (unwrap_or o [])
  some_words (Some words) h = refl
  some_words None h = absurd (search rules)

some_is : (o : Option (List ℕ)) (words : List ℕ) → o ≡ Some words → IsSome o
some_is o words e = subst IsSome (sym e) (search rules)

-- a frame that was put in is in use
pub IsInUse-insert_same : (store : Store) (index : ℕ) (words : List ℕ) → IsInUse (finite.insert store index words) index
IsInUse-insert_same store index words = some_is _ words (get-insert_same store index words)

-- a frame in use stays in use when one is put in
pub IsInUse-insert : (store : Store) (index : ℕ) (words : List ℕ) (q : ℕ) → IsInUse store q → IsInUse (finite.insert store index words) q
IsInUse-insert store index words q used = some_is _ _ (get-insert store index words q ∙ chosen (eqb q index)) where
  chosen : (b : Bool) → cond b (Some words) (finite.get store q) ≡ Some (cond b words (words_of store q))
  chosen true = refl
  chosen false = get_in_use store q used

-- a frame in use stays in use when another is taken away
pub IsInUse-remove : (store : Store) (index q : ℕ) → (q ≡ index → ⊥) → IsInUse store q → IsInUse (finite.remove store index) q
IsInUse-remove store index q other used =
    some_is _ _ (get-remove store index q ∙ ap (λ b. cond b None (finite.get store q)) (ne_eqb q index other) ∙ get_in_use store q used)

pub ruleset in_use = (IsInUse-insert_same, IsInUse-insert, IsInUse-remove)
