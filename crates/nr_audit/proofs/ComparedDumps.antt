-- What is found in the dumps, as they are compared one after another.
use Rattle.std.proofs.Common.{◌≡◌, ◌≢◌, ℕ, ◌+◌, ◌<◌, ◌≤◌, inl, inr, List, length, replicate, set, slice_get, take, get_or, Some, None, Option, sym, ap}
use Rattle.std.proofs.Common.{subst, ◌∙◌, arith, get_or-set_other, get_or-set_same}
use Rattle.std.proofs.lemmas.Bool.{cases_lt, cases_eq}
use Rattle.std.proofs.lemmas.List.{length-set, length-replicate}
use Rattle.std.proofs.lemmas.Option.{slice_get_within, same_Some}
use Rattle.vs_types.specs.Space.{Space}
use Rattle.vs_plain.specs.Plain.{BoundedSpace}
use Rattle.vs_walk.specs.Dump.{Image}
use Rattle.nr_dump.specs.declared.fault.DumpFault.{DumpFault}
use Rattle.nr_trace.specs.Recording.{Recording}
use Rattle.nr_trace.specs.Orders.{space_from}
use Rattle.nr_audit.specs.Verdict.{space_of}
use Rattle.nr_audit.specs.Dumps.{IsFoundBeside}
use Rattle.nr_audit.specs.inside.Dumps.{IsFoundIn, AreFound, AreCompared}

module _ (trace : Recording) (space : BoundedSpace) (applied end : ℕ) (old new : List (Option DumpFault)) (dump : Image)
    (here : slice_get trace.dumps end ≡ Some dump)
    (are : AreCompared trace space applied end old new) where
  same_dump : (replica : ℕ) (other : Image) → replica ≡ end → slice_get trace.dumps replica ≡ Some other → other ≡ dump
  same_dump replica other same is = same_Some other dump (sym is ∙ ap (slice_get trace.dumps) same ∙ here)

  -- the dump of another prefix is left
  pub compared_without : dump.applied ≢ applied → AreCompared trace space applied (end + 1) old new
  compared_without apart = record {
    as_many = are.as_many;
    found = λ replica other low is same. elim (cases_lt replica end) [
      | inl before ↦ are.found replica other before is same
      | inr now ↦ absurd (apart (sym (ap (λ (d : Image). d.applied) (same_dump replica other (let it : replica ≡ end = omega arith in it) is)) ∙ same))
    ];
    kept = λ replica other is left. are.kept replica other is (elim left [
      | inl past ↦ inl (let it : end ≤ replica = omega arith in it)
      | inr different ↦ inr different
    ]);
  }

  -- what is found in the dump of this prefix is kept under its replica
  pub compared_with : (found : Option DumpFault) → dump.applied ≡ applied → end < length new → IsFoundBeside dump space found
      → AreCompared trace space applied (end + 1) old (set new end found)
  compared_with found same within is_found = record {
    as_many = length-set new end found ∙ are.as_many;
    found = λ replica other low is prefix. elim (cases_eq replica end) [
      | inl now ↦
          subst (λ r. IsFoundBeside other space (get_or (set new end found) r None)) (sym now)
          (subst (λ o. IsFoundBeside other space o) (sym (get_or-set_same new end found None within))
          (subst (λ d. IsFoundBeside d space found) (sym (same_dump replica other now is)) is_found))
      | inr apart ↦
          subst (λ o. IsFoundBeside other space o) (sym (get_or-set_other new end replica found None apart))
          (are.found replica other (let it : replica < end = omega arith in it) is prefix)
    ];
    kept = λ replica other is left. elim (cases_eq replica end) [
      | inl now ↦ absurd (elim left [
        | inl past ↦ omega arith
        | inr different ↦ different (ap (λ (d : Image). d.applied) (same_dump replica other now is) ∙ same)
      ])
      | inr apart ↦ get_or-set_other new end replica found None apart ∙ are.kept replica other is (elim left [
        | inl past ↦ inl (let it : end ≤ replica = omega arith in it)
        | inr different ↦ inr different
      ])
    ];
  }

-- nothing is found before the first entry
pub none_found : (start : Space) (trace : Recording) (faults : List (Option DumpFault)) → faults ≡ replicate {A = Option DumpFault} 4 None
    → AreFound start trace 0 faults
none_found start trace faults none = record {
  four = ap length none ∙ length-replicate {A = Option DumpFault} 4 None;
  each = λ replica dump is low. absurd (omega arith);
}

-- what is found in the dumps of one prefix more
pub found_more : (start : Space) (trace : Recording) (space : BoundedSpace) (place : ℕ) (old new : List (Option DumpFault))
    → space ≡ space_of trace.layout (space_from start trace (take place trace.log)) → AreFound start trace place old
    → AreCompared trace space place (length trace.dumps) old new → AreFound start trace (place + 1) new
found_more start trace space place old new same were are = record {
  four = are.as_many ∙ were.four;
  each = λ replica dump is compared. elim (cases_eq dump.applied place) [
    | inl now ↦
        subst (λ (s : BoundedSpace). IsFoundBeside dump s (get_or new replica None))
        (same ∙ ap (λ n. space_of trace.layout (space_from start trace (take n trace.log))) (sym now))
        (are.found replica dump (slice_get_within trace.dumps replica dump is) is now)
    | inr apart ↦
        subst (λ o. IsFoundIn start trace dump o) (sym (are.kept replica dump is (inr apart)))
        (were.each replica dump is (let it : dump.applied < place = omega arith in it))
  ];
}
