-- What is read where the bytes spell a trace.
use Rattle.std.proofs.Common.{◌≡◌, ℕ, List, [], Result, Ok, Err, MatchResult, refl, subst}
use Rattle.std.proofs.lemmas.List.{append-nil}
use Rattle.vs_types.specs.declared.requests.refusal.Fail.{Fail}
use Rattle.vs_types.specs.declared.requests.refusal.Fail.TheVariants.{Memory, Refused}
use Rattle.nr_trace.specs.Recording.{Recording}
use Rattle.nr_trace.specs.Spelling.{Spells}
use Rattle.nr_trace.specs.FirstFault.{HasFormatFault}
use Rattle.nr_trace.specs.Feed.{Fed, HasLastingFault, Feeds, Ends}
use Rattle.nr_trace.specs.Feed.Fed.{Taken}
use Rattle.vs_types.specs.Refusal.{IfRefused}
use Rattle.nr_trace.specs.declared.refusals.fault.Format.{Format}
use Rattle.nr_trace.specs.declared.formats.version.Form.TheVariants as forms
use Rattle.nr_trace.specs.declared.refusals.fault.Format.TheVariants.{Truncated}
use Rattle.nr_trace.proofs.LawsOfFormat.{no_fault}
use Rattle.nr_trace.proofs.LawsOfSpelling.{one_trace}

-- what is settled is so where nothing comes after
pub settled_now : (bytes : List ℕ) (fail : Fail Format) → IfRefused (HasLastingFault bytes) fail → IfRefused (HasFormatFault bytes) fail
settled_now bytes Memory h = tt
settled_now bytes (Refused fault) h = subst (λ (l : List ℕ). HasFormatFault l fault) (append-nil bytes) (h [])

-- a first piece that is refused
pub first_refused : (bytes : List ℕ) (old new : Fed) (fail : Fail Format) → old ≡ Taken [] → Feeds old bytes new (Err fail)
    → IfRefused (HasFormatFault bytes) fail
first_refused bytes old new fail first h =
    let here : Feeds (Taken []) bytes new (Err fail) = subst (λ f. Feeds f bytes new (Err fail)) first h in
    settled_now bytes fail here.1

pub only_memory : (bytes : List ℕ) (fail : Fail Format) (trace : Recording) → IfRefused (HasFormatFault bytes) fail → Spells bytes trace → fail ≡ Memory
only_memory bytes Memory trace h spells = refl
only_memory bytes (Refused fault) trace h spells = absurd (no_fault forms.Trace bytes trace fault spells h)

-- a first piece that was taken
pub first_taken : (bytes : List ℕ) (old new : Fed) → old ≡ Taken [] → Feeds old bytes new (Ok tt) → new ≡ Taken bytes
first_taken bytes old new first h =
    let here : Feeds (Taken []) bytes new (Ok tt) = subst (λ f. Feeds f bytes new (Ok tt)) first h in
    here.0

pub only_spelled : (bytes : List ℕ) (result : Result Recording (Fail Format)) (trace : Recording) → Ends (Taken bytes) result → Spells bytes trace
    → MatchResult result (λ given. given ≡ trace) (λ fail. fail ≡ Memory)
only_spelled bytes (Ok given) trace h spells = one_trace bytes given trace h spells
only_spelled bytes (Err fail) trace h spells = absurd (no_fault forms.Trace bytes trace Truncated spells h.1)
