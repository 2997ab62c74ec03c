-- Which accesses are allowed by what two sets of rights have in common, and what a fault's code says.
use Rattle.std.proofs.Common.{◌≡◌, ℕ, ◌/◌, ◌%◌, zero, suc, Bool, true, false, ◌&&◌, IsTrue, ◌↔◌, refl, ap, sym, ◌∙◌}
use Rattle.vs_types.specs.Access.{allows, fault_code}
use Rattle.vs_types.specs.Page.{intersection}
use Rattle.vs_types.specs.declared.addresses.page.Rights.{Rights}
use Rattle.vs_types.specs.declared.addresses.access.Access.{Access}
use Rattle.vs_types.specs.declared.addresses.access.Access.TheVariants.{Read, Write, Fetch}
use Rattle.vs_types.specs.declared.addresses.access.Mode.{Mode}
use Rattle.vs_types.specs.declared.addresses.access.Mode.TheVariants.{Supervisor, User}

-- the two parts of the first and of the second, in another order
pairs : (p q r s : Bool) → IsTrue ((p && q) && (r && s)) ↔ (IsTrue (p && r) × IsTrue (q && s))
pairs true true true s = (λ t. (refl, t), λ t. t.1)
pairs true false r s = (λ t. cc, λ t. t.1)
pairs _ _ _ s = (λ t. cc, λ t. t.0)

pub both_allow : (a b : Rights) (mode : Mode) (access : Access)
    → IsTrue (allows (intersection a b) mode access) ↔ (IsTrue (allows a mode access) × IsTrue (allows b mode access))
both_allow a b Supervisor Read = pairs true true true true
both_allow a b Supervisor Write = pairs true true a.write b.write
both_allow a b Supervisor Fetch = pairs true true a.exec b.exec
both_allow a b User Read = pairs a.user b.user true true
both_allow a b User Write = pairs a.user b.user a.write b.write
both_allow a b User Fetch = pairs a.user b.user a.exec b.exec

-- what a code says, bit by bit
is_one : ℕ → Bool
is_one zero = false
is_one (suc n) = true

mode_of : ℕ → Mode
mode_of zero = Supervisor
mode_of (suc n) = User

access_of : ℕ → ℕ → Access
access_of zero zero = Read
access_of (suc n) fetch = Write
access_of zero (suc n) = Fetch

-- the page, the mode and the access of a code
record Told : Type 0 where
  present : Bool
  mode : Mode
  access : Access

told : ℕ → Told
told code = record { present = is_one (code % 2); mode = mode_of (code / 4 % 2); access = access_of (code / 2 % 2) (code / 16) }

told_back : (p : Bool) (m : Mode) (a : Access) → told (fault_code p m a) ≡ record { present = p; mode = m; access = a }
unfolding told is_one mode_of access_of
told_back true Supervisor Read = refl
told_back true Supervisor Write = refl
told_back true Supervisor Fetch = refl
told_back true User Read = refl
told_back true User Write = refl
told_back true User Fetch = refl
told_back false Supervisor Read = refl
told_back false Supervisor Write = refl
told_back false Supervisor Fetch = refl
told_back false User Read = refl
told_back false User Write = refl
told_back false User Fetch = refl

pub codes_apart : (p q : Bool) (m n : Mode) (a b : Access) → fault_code p m a ≡ fault_code q n b → (p ≡ q) × (m ≡ n) × (a ≡ b)
codes_apart p q m n a b e =
    let same = sym (told_back p m a) ∙ ap told e ∙ told_back q n b in
    (ap (λ (t : Told). t.present) same, ap (λ (t : Told). t.mode) same, ap (λ (t : Told). t.access) same)
