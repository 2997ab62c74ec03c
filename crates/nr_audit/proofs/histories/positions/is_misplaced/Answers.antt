use Rattle.std.proofs.Common.{ℕ, ◌≡◌, Bool, true, false, not, List, Some, refl, sym, subst, ◌∙◌, ◌↔◌}
use Rattle.std.specs.Prelude.{slice_get}
use Rattle.std.proofs.lemmas.Bool.{true≢false, false≢true}
use Rattle.nr_trace.specs.Calls.{IsUpdate}
use Rattle.nr_audit.proofs.histories.positions.is_misplaced.Goals as goal

stands_not : (told : Bool) (U E : Type 0) → U → ((told ≡ true) ↔ E) → (not told ≡ true) ↔ (U × (E → ⊥))
stands_not true U E update tells = (λ e. absurd (false≢true e), λ h. absurd (h.1 (tells.0 refl)))
stands_not false U E update tells = (λ e. (update, λ here. false≢true (tells.1 here)), λ h. refl)

-- src/positions.rt:23:9
pub returns-then-not-is_update : goal.returns-then-not-is_update
returns-then-not-is_update c = (λ e. absurd (false≢true e), λ h. absurd (true≢false (sym h.0 ∙ sym c.is_update.ensures ∙ c.if-not-is_update.true)))

-- src/positions.rt:19:1
pub returns : goal.returns
returns c =
    stands_not c.stands_at.result (IsUpdate c.args.history.now c.args.call) (slice_get c.args.history.now.log c.args.place ≡ Some c.args.call)
    (sym c.is_update.ensures ∙ c.if-not-is_update.false)
    (subst (λ (xs : List ℕ). (c.stands_at.result ≡ true) ↔ (slice_get xs c.args.place ≡ Some c.args.call)) c.log.ensures.reads c.stands_at.ensures)
