-- The rule holds of a new log, whose first pass has seen nothing.
use Rattle.std.proofs.Common.{◌≡◌, ℕ, zero, suc, ◌<◌, List, [], ◌∷◌, ◌++◌, All, refl, ap, sym, ◌∙◌, arith}
use Rattle.std.proofs.lemmas.List.{append-nil}
use mathlib.Core.Option.{some, some-injective, some-ne-none}
use lib.ListN.{get_elem?}
use Rattle.vs_types.specs.declared.addresses.depth.Depth.{Depth}
use Rattle.nr_ring.specs.Words.{Needs}
use Rattle.nr_ring.specs.View.{IsTrueOf}
use Rattle.nr_ring.specs.Rule.{IsKept}
use Rattle.nr_ring.specs.declared.ring.view.View.{View}
use Rattle.nr_ring.specs.inside.Held.{nothing_stored}

-- a new log needs no word
pub no_needs : (replicas at word : ℕ) → Needs replicas nothing_stored at word → ⊥
no_needs replicas at word needs = absurd (cc (needs.1.there))

only_first : (v : View) (pass : ℕ) (u : View) → get_elem? (v ∷ []) pass ≡ some u → (pass ≡ 0) × (v ≡ u)
only_first v zero u e = (refl, some-injective v u e)
only_first v (suc pass) u e = absurd (some-ne-none u (sym e))

pub new_kept : (depth : Depth) (replicas places : ℕ) (v : View) → v.seen ≡ [] → v.mine ≡ [] → v.told ≡ []
    → IsKept depth replicas v.rights places nothing_stored (v ∷ [])
new_kept depth replicas places v seen mine told = record {
  makers = [];
  is_history = tt;
  each_ring = refl;
  rings_below = λ k d lt. absurd (omega arith);
  ends = omega arith;
  each_made = refl;
  by_passes = λ k d lt. absurd (omega arith);
  each_view = λ pass u there.
      let first = only_first v pass u there in
      let nothing : [] ≡ v.seen ++ [] = sym seen ∙ sym (append-nil v.seen) in
      let T : View → Type 0 = λ z. IsTrueOf [] [] z in
      Rattle.std.proofs.Common.subst T first.1 (record {
        seen = ([], nothing);
        told = rw told (λ k d lt. absurd (omega arith));
        owns = λ k d lt. ([], nothing, λ i e l. absurd (omega arith));
        mine = mine;
      });
  one_owner = λ p q a b replica pa qb ha hb. (only_first v p a pa).0 ∙ sym (only_first v q b qb).0;
  all_rights = omega arith;
  makers_right = λ pass u there none. ap (λ (z : View). z.mine) (sym (only_first v pass u there).1) ∙ mine;
}
