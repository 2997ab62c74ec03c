-- Of two values, the later one.
use Rattle.std.proofs.Common.{◌≡◌, ◌<◌, ◌≤◌, ℕ, true, false, if◌then◌else◌, nat_le, ⊎_elim, inl, inr, ap}
use Rattle.std.proofs.lemmas.Bool.Decides.{leb_tells}
use Rattle.version_cell.specs.Meetings.{HaveComeFurther}

pub come_further : {X : Type 0} (code : X → ℕ) (x y : X) → HaveComeFurther code x y (if nat_le (code y) (code x) then x else y)
come_further code x y = ⊎_elim
    (λ (t : (nat_le (code y) (code x) ≡ true) × (code y ≤ code x)). inr (t.1, ap (λ c. if c then x else y) t.0))
    (λ (t : (nat_le (code y) (code x) ≡ false) × (code x < code y)). inl (t.1, ap (λ c. if c then x else y) t.0))
    (leb_tells (code y) (code x))
