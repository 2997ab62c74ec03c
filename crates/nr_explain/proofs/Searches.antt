-- The search for a way, table by table.
use Rattle.std.proofs.Common.{◌≡◌, ℕ, ◌-◌, ◌<◌, List, [], ◌∷◌, ◌++◌, Some, None, length, get_or, take, sym, ap, subst, ◌∙◌}
use Rattle.std.proofs.Common.{append_assoc}
use Rattle.std.proofs.Math.Seq.{take-append_seam}
use Rattle.std.proofs.lemmas.List.{append-nil}
use Rattle.std.proofs.lemmas.Option.{same_Some, none-some}
use Rattle.std.specs.FinMap as finite
use Rattle.vs_types.specs.Entry.{meaning}
use Rattle.vs_types.specs.declared.entries.entry.Meaning.TheVariants as entry
use Rattle.vs_types.specs.declared.addresses.page.Rights.{Rights}
use Rattle.vs_walk.specs.Memory.{Memory}
use Rattle.nr_explain.specs.Facts.{IsPath, LeadsOn}
use Rattle.nr_explain.specs.inside.Ways.{GoesNowhere, IsMet}
use Rattle.nr_explain.specs.declared.trace.evidence.TableEntry.{TableEntry}
use Rattle.nr_explain.specs.declared.tables.paths.Target.{Target}

-- the entry of a table at an index
abbrev pub entry_of : ℕ → ℕ → List ℕ → ℕ → TableEntry
entry_of level number words index = record { level = level; frame = number; index = index; word = get_or words index 0 }

-- what is looked for is not here
abbrev pub IsNotHere : Memory → Target → ℕ → ℕ → List TableEntry → Type 0
IsNotHere memory target level number way = number ≡ target.frame → IsMet memory target level way → ⊥

not_at_end : (memory : Memory) (target : Target) (level number end : ℕ) (begun way : List TableEntry) → IsNotHere memory target level number begun
    → way ≡ begun ++ [] → level ≡ end → number ≡ target.frame → IsMet memory target end way → ⊥
not_at_end memory target level number end begun way none goes same here met =
    none here (subst (λ l. IsMet memory target l begun) (sym same) (subst (λ w. IsMet memory target end w) (goes ∙ append-nil begun) met))

nothing_missing : (memory : Memory) (target : Target) (level number end : ℕ) (begun way rest : List TableEntry) → finite.get memory number ≡ None
    → IsNotHere memory target level number begun → way ≡ begun ++ rest → IsPath memory level number end target.frame rest → IsMet memory target end way → ⊥
nothing_missing memory target level number end begun way [] gone none goes leads met =
    not_at_end memory target level number end begun way none goes leads.0 leads.1 met
nothing_missing memory target level number end begun way (step ∷ rest) gone none goes leads met =
    let on = leads.2.1 in
    none-some on.words (sym gone ∙ ap (finite.get memory) (sym leads.1) ∙ on.there)

-- nothing goes on from a frame that is missing
pub nowhere_from_missing : (memory : Memory) (target : Target) (level number : ℕ) (begun : List TableEntry) → finite.get memory number ≡ None
    → IsNotHere memory target level number begun → GoesNowhere memory target level number begun
nowhere_from_missing memory target level number begun gone none way goes =
    nothing_missing memory target level number goes.end begun way goes.rest gone none goes.goes_on goes.leads goes.met

-- nothing goes on from an entry
abbrev pub IsPassed : Memory → Target → ℕ → ℕ → List TableEntry → List ℕ → ℕ → Type 0
IsPassed memory target level number begun words index = (next : ℕ) (own : Rights) → meaning level (get_or words index 0) ≡ entry.Table next own
    → GoesNowhere memory target (level - 1) next (begun ++ entry_of level number words index ∷ [])

nothing_below : (memory : Memory) (target : Target) (level number end : ℕ) (begun way rest : List TableEntry) (words : List ℕ)
    → finite.get memory number ≡ Some words → IsNotHere memory target level number begun
    → ((index : ℕ) → index < length words → IsPassed memory target level number begun words index)
    → way ≡ begun ++ rest → IsPath memory level number end target.frame rest → IsMet memory target end way → ⊥
nothing_below memory target level number end begun way [] words is none passed goes leads met =
    not_at_end memory target level number end begun way none goes leads.0 leads.1 met
nothing_below memory target level number end begun way (step ∷ rest) words is none passed goes leads met =
    let next : ℕ = leads.2.0 in
    let on : LeadsOn memory step next = leads.2.1 in
    let same : on.words ≡ words = same_Some on.words words (sym on.there ∙ ap (finite.get memory) leads.1 ∙ is) in
    let read : step.word ≡ get_or words step.index 0 = sym on.read ∙ ap (λ (ws : List ℕ). get_or ws step.index 0) same in
    let level_is : step.level ≡ level = leads.0 in
    let frame_is : step.frame ≡ number = leads.1 in
    let one : step ≡ entry_of level number words step.index = (λ t. record { level = level_is t; frame = frame_is t; index = step.index; word = read t }) in
    let means : meaning level (get_or words step.index 0) ≡ entry.Table next on.own =
    ap (λ w. meaning level w) (sym read) ∙ ap (λ l. meaning l step.word) (sym level_is) ∙ on.leads in
    passed step.index (subst (λ (ws : List ℕ). step.index < length ws) same on.within) next on.own means way (record {
      rest = rest;
      end = end;
      goes_on = goes ∙ ap (λ (s : TableEntry). begun ++ s ∷ rest) one ∙ sym (append_assoc begun (entry_of level number words step.index ∷ []) rest);
      leads = leads.2.2;
      met = met;
    })

-- nothing goes on from a table, where nothing does from any entry
pub nowhere_from_table : (memory : Memory) (target : Target) (level number : ℕ) (begun : List TableEntry) (words : List ℕ)
    → finite.get memory number ≡ Some words → IsNotHere memory target level number begun
    → ((index : ℕ) → index < length words → IsPassed memory target level number begun words index)
    → GoesNowhere memory target level number begun
nowhere_from_table memory target level number begun words is none passed way goes =
    nothing_below memory target level number goes.end begun way goes.rest words is none passed goes.goes_on goes.leads goes.met

-- what is left of a way when its last step is taken off
pub front_left : (begun left : List TableEntry) (step : TableEntry) (n : ℕ) → n ≡ length begun → left ≡ take n (begun ++ step ∷ []) → left ≡ begun
front_left begun left step n e is = is ∙ ap (λ k. take k (begun ++ step ∷ [])) e ∙ take-append_seam begun (step ∷ [])
