use Rattle.std.proofs.Common.{◌≡◌, ℕ, ◌+◌, true, List, ◌++◌, inl, inr, length, sym, ap, ◌∙◌, arith}
use Rattle.std.specs.Prelude.{Some}
use Rattle.nr_trace.specs.Versions.{Follows}
use Rattle.nr_trace.specs.FirstFault.{IsCounts, and_then, counts_bytes, counts_unit, refusal_of_counts}
use Rattle.nr_trace.specs.Spelling.{counts, magic, version_word}
use Rattle.nr_trace.specs.inside.Progress.{Ahead}
use Rattle.nr_trace.specs.declared.reading.reader.Reader.TheVariants.{Header}
use Rattle.nr_trace.specs.declared.refusals.refusal.Refusal.{Refusal}
use Rattle.nr_trace.specs.declared.refusals.fault.Format.TheVariants.{BadChain, BadCount}
use Rattle.nr_trace.proofs.LawsOfFormat.{BehindCounts}
use Rattle.nr_trace.proofs.Units.{goes_on, passed, refused, refused_by, size_of_counts}
use Rattle.nr_trace.proofs.reading.header.take_header.Goals as goal

pub returns-then-not-follows : goal.returns-then-not-follows
returns-then-not-follows c =
    let form = c.args.form in
    let version = c.args.version in
    let numbers = c.in-Some.counts in
    let spells = c.in-Some.ensures in
    let otherwise : Follows form numbers.layout → ⊥ = λ is.
    let yes : c.follows.result ≡ true = c.follows.ensures.1 is in
    absurd cc in
    let unit = c.args.unit.now in
    let refusal = c.bad_counts.result in
    let counted : (rest : List ℕ) → and_then rest refusal ≡ refusal_of_counts version rest BadChain = λ rest.
    ap (and_then rest) c.bad_counts.ensures
    ∙ ap (λ (n : ℕ). let refusal : Refusal = record { fault = BadChain; unit = counts_unit version; left = n + length rest }
    in refusal) c.requires.whole in
    refused_by (Ahead (Header c.args.alloc form version)) (counts_unit version) unit BadChain refusal
    (omega (arith, c.requires.whole, size_of_counts version)) c.bad_counts.ensures
    (λ rest.
    passed (counts_bytes version) (counts_unit version) (Some BadCount) (IsCounts version) (counts version) (BehindCounts form version)
    (and_then rest refusal) unit rest numbers spells.in_range spells.spelled (inl (otherwise, counted rest)))

pub returns-else-not-follows : goal.returns-else-not-follows
returns-else-not-follows c =
    let form = c.args.form in
    let version = c.args.version in
    let numbers = c.in-Some.counts in
    let unit = c.args.unit.now in
    let spells = c.in-Some.ensures in
    let is : Follows form numbers.layout = c.follows.ensures.0 cc in
    goes_on form c.at_start.result _ _ _ _ c.at_start.ensures
    (ap (λ (l : List ℕ). (magic version ++ version_word version) ++ l) (sym spells.spelled))
    (λ rest fault h. passed (counts_bytes version) (counts_unit version) (Some BadCount) (IsCounts version) (counts version) (BehindCounts form version)
    fault unit rest numbers
    spells.in_range spells.spelled (inr (is, h)))

pub returns-in-None : goal.returns-in-None
returns-in-None c =
    let version = c.args.version in
    let unit = c.args.unit.now in
    let refusal = c.bad_counts-in-None.result in
    let is = c.bad_counts-in-None.ensures in
    refused_by (Ahead (Header c.args.alloc c.args.form version)) (counts_unit version) unit BadCount refusal
    (omega (arith, c.requires.whole, size_of_counts version)) is (λ rest.
    refused (counts_bytes version) (counts_unit version) BadCount (IsCounts version) (counts version) (BehindCounts c.args.form version) unit rest
    refusal is c.requires.whole (λ numbers fits e. c.in-None.ensures numbers (record { in_range = fits; spelled = e })))
