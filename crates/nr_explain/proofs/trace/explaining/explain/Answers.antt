use Rattle.std.proofs.Common.{◌≡◌, inl, inr, refl, subst, sym}
use Rattle.std.specs.Prelude.{IsSome}
use Rattle.nr_trace.specs.declared.refusals.fault.Fault.{Fault}
use Rattle.nr_explain.specs.Dumps.{replica_of}
use Rattle.nr_explain.proofs.FirstFaults.{first_of_its_dump}
use Rattle.nr_explain.proofs.trace.explaining.explain.Goals as goal

of_dump : (fault other : Fault) → fault ≡ other → IsSome (replica_of other) → IsSome (replica_of fault)
of_dump fault other same = subst (λ (f : Fault). IsSome (replica_of f)) (sym same)

pub explain_dump-requires : goal.explain_dump-requires
explain_dump-requires c =
    let fault = c.args.fault in
    let some : IsSome (replica_of fault) = elim c.in-PrefixPastLog.is [
      | inl h ↦ of_dump fault _ h.1 refl
      | inr h ↦ elim h [
        | inl h ↦ of_dump fault _ h.1 refl
        | inr h ↦ elim h [
          | inl h ↦ of_dump fault _ h.2 refl
          | inr h ↦ elim h [
            | inl h ↦ of_dump fault _ h.2 refl
            | inr h ↦ elim h [
              | inl h ↦ of_dump fault _ h.3 refl
              | inr h ↦ elim h [
                | inl h ↦ of_dump fault _ h.2 refl
                | inr h ↦ of_dump fault _ h.2 refl
              ]
            ]
          ]
        ]
      ]
    ] in
    first_of_its_dump c.args.trace.now fault some c.requires
