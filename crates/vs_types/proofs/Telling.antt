-- What words determine, as it is computed.
use Rattle.std.proofs.Common.{◌≡◌, ◌≤◌, ℕ, zero, suc, nat_eq, not, ap, refl, arith}
use Rattle.std.proofs.Math.Dec.{eqb-suc-zero}
use Rattle.vs_types.specs.inside.Telling.{action_in, is_one, rights_in, size_in}
use Rattle.vs_types.specs.declared.requests.op.Action.TheVariants.{Protect}
use Rattle.vs_types.specs.declared.addresses.page.Size.TheVariants.{G1}

pub size_above : (n : ℕ) → 2 ≤ n → G1 ≡ size_in n
unfolding size_in
size_above (suc (suc n)) le = refl
size_above _ le = absurd (omega (arith, le))

pub not_zero : (n : ℕ) → not (nat_eq n 0) ≡ is_one n
unfolding is_one
not_zero zero = refl
not_zero (suc n) = ap not (eqb-suc-zero n)

pub protect_above : (n size rights address physical : ℕ) → 2 ≤ n → Protect address (rights_in rights) ≡ action_in n size rights address physical
unfolding action_in
protect_above (suc (suc n)) size rights address physical le = refl
protect_above _ size rights address physical le = absurd (omega (arith, le))
