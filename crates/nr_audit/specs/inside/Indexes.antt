-- An index or none as a number: one more than the index, and 0 for none. No public clause cites this file.
use Rattle.std.specs.Prelude.{◌≡◌, ℕ, zero, suc, Option, Some, None}
use Rattle.std.proofs.Common.{refl, ap}
use Rattle.nr_audit.specs.declared.checks.tables.MaybeIndex.TheInside.{Inside}

abbrev pub predecessor : ℕ → Option ℕ
predecessor zero = None
predecessor (suc index) = Some index

abbrev pub successor_of : Option ℕ → ℕ
successor_of None = 0
successor_of (Some index) = suc index

same : (number : ℕ) → successor_of (predecessor number) ≡ number
same zero = refl
same (suc index) = refl

pub same_successor : (i : Inside) → ◌≡◌ {A = Inside} (record { successor = successor_of (predecessor i.successor) }) i
same_successor i = ap (λ n. let inside : Inside = record { successor = n } in inside) (same i.successor)
