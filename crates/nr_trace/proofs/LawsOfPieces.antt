-- Pieces that are fed one after another end as their bytes joined.
use Rattle.std.proofs.Common.{◌≡◌, ◌≢◌, ℕ, List, [], ◌∷◌, ◌++◌, Result, Ok, Err, refl, sym, ap, subst, append_assoc}
use Rattle.std.specs.List.{concat}
use Rattle.std.proofs.lemmas.List.{append-nil}
use Rattle.vs_types.specs.Refusal.{IfRefused}
use Rattle.vs_types.specs.declared.requests.refusal.Fail.{Fail}
use Rattle.vs_types.specs.declared.requests.refusal.Fail.TheVariants.{Memory, Refused}
use Rattle.nr_trace.specs.Recording.{Recording}
use Rattle.nr_trace.specs.Spelling.{Spells}
use Rattle.nr_trace.specs.FirstFault.{HasFormatFault}
use Rattle.nr_trace.specs.Feed.{Fed, HasLastingFault, Feeds, FeedsAll, Ends, Reads}
use Rattle.nr_trace.specs.Feed.Fed.{Taken, Stopped}
use Rattle.nr_trace.specs.declared.refusals.fault.Format.{Format}
use Rattle.nr_trace.specs.declared.refusals.fault.Format.TheVariants.{Truncated}
use Rattle.nr_trace.proofs.LawsOfFormat.{no_fault, one_fault}
use Rattle.nr_trace.proofs.LawsOfSpelling.{one_trace}
use Rattle.nr_trace.proofs.OnlySpelled.{settled_now}
use Rattle.nr_trace.specs.declared.formats.version.Form.TheVariants as forms

-- what a feed has come to is that of these bytes
abbrev IsOf : List ℕ → Fed → Type 0
IsOf bytes (Taken taken) = taken ≡ bytes
IsOf bytes (Stopped fail) = IfRefused (HasLastingFault bytes) fail

settled_on : (bytes more : List ℕ) (fail : Fail Format) → IfRefused (HasLastingFault bytes) fail → IfRefused (HasLastingFault (bytes ++ more)) fail
settled_on bytes more Memory h = tt
settled_on bytes more (Refused fault) h =
    λ (rest : List ℕ). subst (λ (l : List ℕ). HasFormatFault l fault) (sym (append_assoc bytes more rest)) (h (more ++ rest))

piece_fed : (bytes piece : List ℕ) (old new : Fed) (result : Result (Unit {0}) (Fail Format)) → IsOf bytes old → Feeds old piece new result
    → IsOf (bytes ++ piece) new
piece_fed bytes piece (Taken taken) new (Ok done) is h = subst (IsOf (bytes ++ piece)) (sym h.0) (ap (λ (l : List ℕ). l ++ piece) is)
piece_fed bytes piece (Taken taken) new (Err fail) is h =
    subst (IsOf (bytes ++ piece)) (sym h.0) (subst (λ (l : List ℕ). IfRefused (HasLastingFault (l ++ piece)) fail) is h.1)
piece_fed bytes piece (Stopped fail) new result is h = subst (IsOf (bytes ++ piece)) (sym h.0) (settled_on bytes piece fail is)

pieces_fed : (bytes : List ℕ) (pieces : List (List ℕ)) (old new : Fed) → IsOf bytes old → FeedsAll old pieces new → IsOf (bytes ++ concat pieces) new
pieces_fed bytes [] old new is h = subst (IsOf (bytes ++ [])) (sym h) (subst (λ (l : List ℕ). IsOf l old) (sym (append-nil bytes)) is)
pieces_fed bytes (piece ∷ more) old new is h =
    subst (λ (l : List ℕ). IsOf l new) (append_assoc bytes piece (concat more))
    (pieces_fed (bytes ++ piece) more h.0 new (piece_fed bytes piece old h.0 h.1 is h.2) h.3)

ended : (bytes : List ℕ) (fed : Fed) (result : Result Recording (Fail Format)) → IsOf bytes fed → Ends fed result → Reads bytes result
ended bytes (Taken taken) (Ok trace) is h = subst (λ (l : List ℕ). Spells l trace) is h
ended bytes (Taken taken) (Err fail) is h =
    subst (λ f. IfRefused (HasFormatFault bytes) f) (sym h.0) (subst (λ (l : List ℕ). HasFormatFault l Truncated) is h.1)
ended bytes (Stopped fail) result is h = subst (Reads bytes) (sym h) (settled_now bytes fail is)

pub pieces_read : (pieces : List (List ℕ)) (fed : Fed) (result : Result Recording (Fail Format)) → FeedsAll (Taken []) pieces fed → Ends fed result
    → Reads (concat pieces) result
pieces_read pieces fed result h ends = ended (concat pieces) fed result (pieces_fed [] pieces (Taken []) fed refl h) ends

pub one_reading : (bytes : List ℕ) (first second : Result Recording (Fail Format)) → Reads bytes first → Reads bytes second
    → first ≢ Err Memory → second ≢ Err Memory → first ≡ second
one_reading bytes (Ok one) (Ok other) h k m n = ap Ok (one_trace bytes one other h k)
one_reading bytes (Ok one) (Err (Refused fault)) h k m n = absurd (no_fault forms.Trace bytes one fault h k)
one_reading bytes (Err Memory) second h k m n = absurd (m refl)
one_reading bytes (Err (Refused fault)) (Ok other) h k m n = absurd (no_fault forms.Trace bytes other fault k h)
one_reading bytes (Err (Refused fault)) (Err (Refused other)) h k m n = ap (λ f. Err (Refused f)) (one_fault forms.Trace bytes fault other h k)
one_reading bytes _ (Err Memory) h k m n = absurd (n refl)
