-- A right verdict is the only one, and where it is yes the bytes are right with its order.
use Rattle.std.proofs.Common.{◌≡◌, ℕ, IfOk, IfErr, List, None, Result, Ok, Err, refl, sym, ap, subst, ◌∙◌}
use Rattle.vs_types.specs.Space.{Space, no_pages}
use Rattle.vs_types.specs.Refusal.{IfRefused}
use Rattle.vs_types.specs.declared.requests.refusal.Fail.{Fail}
use Rattle.nr_trace.specs.Feed.{Reads}
use Rattle.nr_trace.specs.Recording.{Recording}
use Rattle.nr_trace.specs.Spelling.{Spells}
use Rattle.nr_trace.specs.Calls.{IsWellFormedHistory}
use Rattle.nr_trace.specs.FirstFault.{HasFormatFault}
use Rattle.nr_trace.specs.Orders.{recorded_order, HasItsCalls, KeepsPrecedence, HasTheAnswers, IsLegalFrom}
use Rattle.nr_trace.specs.Faults.{IsFirst, IsFirstOf}
use Rattle.nr_trace.specs.Laws.{IsFaultless, IsFaultlessFrom}
use Rattle.nr_trace.specs.declared.refusals.fault.Fault.{Fault}
use Rattle.nr_trace.specs.declared.refusals.fault.Fault.TheVariants.{Format}
use Rattle.nr_trace.specs.declared.refusals.fault.Format.{Format as FormatFault}
use Rattle.nr_trace.proofs.LawsOfSpelling.{one_trace}
use Rattle.nr_trace.proofs.LawsOfFaults.{none_of_faultless, one_first_of}
use Rattle.nr_trace.proofs.LawsOfHistories.{history_if_faultless}
use Rattle.nr_trace.proofs.LawsOfDumps.{dump_is_there, legal_if_faultless, fits_if_faultless}
use Rattle.nr_audit.specs.Verdict.{IsTrace, IsVerdictOn, IsVerdictOf, IfYes}
use Rattle.nr_audit.specs.Headline.{SpellsAlone, HasDumpsFrom, HasFittingDumps, IsSpelledWith, AreRightWith}
use Rattle.nr_audit.specs.declared.verdicts.verdict.Verdict.{Verdict}
use Rattle.nr_audit.specs.declared.verdicts.verdict.Verdict.TheVariants.{Yes, No}
use Rattle.nr_audit.proofs.FirstFaults.{one_first_after}
use Rattle.nr_audit.proofs.Traces.{faultless_trace, first_of_trace}

-- ---- what holds of a trace without faults from a start on, with its recorded order

module _ (start : Space) (trace : Recording) (order : List ℕ) (faultless : IsFaultlessFrom start trace) (is : order ≡ recorded_order trace) where
  pub legal_order : IsLegalFrom start trace order
  legal_order = subst (IsLegalFrom start trace) (sym is) (legal_if_faultless start trace faultless)

  pub dumps_of_order : HasDumpsFrom start trace order
  dumps_of_order = subst (HasDumpsFrom start trace) (sym is) (λ replica dump at there. fits_if_faultless start trace replica dump faultless at there)

-- ---- verdicts on a trace

pub same_on : (trace : Recording) (a b : Verdict) → IsVerdictOn trace a → IsVerdictOn trace b → a ≡ b
same_on trace (Yes order) (Yes other) h k = ap Yes (h.1 ∙ sym k.1)
same_on trace (Yes order) (No fault) h k = absurd (h.0.faultless fault k.holds)
same_on trace (No fault) (Yes order) h k = absurd (k.0.faultless fault h.holds)
same_on trace (No fault) (No other) h k = ap No (one_first_after None trace fault other h k)

-- ---- verdicts on bytes

first_of_spelled : (bytes : List ℕ) (trace : Recording) (fault : Fault) → Spells bytes trace → IsFirst trace fault → IsFirstOf bytes fault
first_of_spelled bytes trace (Format fault) spelled first = absurd first.holds
first_of_spelled bytes trace _ spelled first = (trace, spelled, first)

pub is_trace : {bytes : List ℕ} {trace : Recording} → Spells bytes trace → IsTrace trace
is_trace spelled = record { in_range = spelled.in_range; of_form = spelled.of_form }

pub of_spelled : (bytes : List ℕ) (trace : Recording) (verdict : Verdict) → Spells bytes trace → IsVerdictOn trace verdict → IsVerdictOf bytes verdict
of_spelled bytes trace (Yes order) spelled is = (trace, spelled, faultless_trace trace (is_trace spelled) is.0.faultless, is.1)
of_spelled bytes trace (No fault) spelled is = first_of_spelled bytes trace fault spelled (first_of_trace trace (is_trace spelled) fault is)

pub same_of : (bytes : List ℕ) (a b : Verdict) → IsVerdictOf bytes a → IsVerdictOf bytes b → a ≡ b
same_of bytes (Yes order) (Yes other) (t, spelled, none, is) (u, also, nothing, same) =
    ap Yes (is ∙ ap recorded_order (one_trace bytes t u spelled also) ∙ sym same)
same_of bytes (Yes order) (No fault) (t, spelled, none, is) k = absurd (none_of_faultless bytes t fault spelled none k)
same_of bytes (No fault) (Yes order) h (t, spelled, none, is) = absurd (none_of_faultless bytes t fault spelled none h)
same_of bytes (No fault) (No other) h k = ap No (one_first_of bytes fault other h k)

pub yes_of : (bytes : List ℕ) (trace : Recording) (verdict : Verdict) → IsVerdictOf bytes verdict → Spells bytes trace → IsFaultless trace
    → verdict ≡ Yes (recorded_order trace)
yes_of bytes trace verdict is spelled faultless = same_of bytes verdict (Yes (recorded_order trace)) is (trace, spelled, faultless, refl)

pub no_of : (bytes : List ℕ) (verdict : Verdict) (fault : Fault) → IsVerdictOf bytes verdict → IsFirstOf bytes fault → verdict ≡ No fault
no_of bytes verdict fault is first = same_of bytes verdict (No fault) is first

alone : (bytes : List ℕ) (trace : Recording) → Spells bytes trace → SpellsAlone bytes trace
alone bytes trace spelled = record { spelled = spelled; no_other = λ other also. one_trace bytes other trace also spelled }

pub right_of : (bytes : List ℕ) (verdict : Verdict) → IsVerdictOf bytes verdict → IfYes (AreRightWith bytes) verdict
right_of bytes (No fault) is = tt
right_of bytes (Yes order) (trace, spelled, faultless, is) =
    let legal = legal_order no_pages trace order faultless is in
    record {
      trace = trace;
      spelled = alone bytes trace spelled;
      events = history_if_faultless no_pages trace faultless;
      members = legal.members;
      precedence = legal.precedence;
      answers = legal.answers;
      dumps = λ replica dump at.
          dumps_of_order no_pages trace order faultless is replica dump at (dump_is_there trace replica dump spelled.of_form spelled.in_range at);
    }

-- what is right of the whole is right of each part
part_of : (bytes : List ℕ) (P : List ℕ → Type 0) (verdict : Verdict) → IsVerdictOf bytes verdict
    → ((order : List ℕ) → AreRightWith bytes order → P order) → IfYes P verdict
part_of bytes P (Yes order) is part = part order (right_of bytes (Yes order) is)
part_of bytes P (No fault) is part = tt

pub one_trace_of : (bytes : List ℕ) (verdict : Verdict) → IsVerdictOf bytes verdict → IfYes (λ order. (trace : Recording) × SpellsAlone bytes trace) verdict
one_trace_of bytes verdict is = part_of bytes (λ order. (trace : Recording) × SpellsAlone bytes trace) verdict is (λ order right. (right.trace, right.spelled))

pub events_of : (bytes : List ℕ) (verdict : Verdict) → IsVerdictOf bytes verdict → IfYes (λ order. IsSpelledWith bytes IsWellFormedHistory) verdict
events_of bytes verdict is =
    part_of bytes (λ order. IsSpelledWith bytes IsWellFormedHistory) verdict is (λ order right. (right.trace, right.spelled, right.events))

pub members_of : (bytes : List ℕ) (verdict : Verdict) → IsVerdictOf bytes verdict
    → IfYes (λ order. IsSpelledWith bytes (λ trace. HasItsCalls trace order)) verdict
members_of bytes verdict is =
    part_of bytes (λ order. IsSpelledWith bytes (λ trace. HasItsCalls trace order)) verdict is (λ order right. (right.trace, right.spelled, right.members))

pub precedence_of : (bytes : List ℕ) (verdict : Verdict) → IsVerdictOf bytes verdict
    → IfYes (λ order. IsSpelledWith bytes (λ trace. KeepsPrecedence trace order)) verdict
precedence_of bytes verdict is =
    part_of bytes (λ order. IsSpelledWith bytes (λ trace. KeepsPrecedence trace order)) verdict is
    (λ order right. (right.trace, right.spelled, right.precedence))

pub answers_of : (bytes : List ℕ) (verdict : Verdict) → IsVerdictOf bytes verdict
    → IfYes (λ order. IsSpelledWith bytes (λ trace. HasTheAnswers trace order)) verdict
answers_of bytes verdict is =
    part_of bytes (λ order. IsSpelledWith bytes (λ trace. HasTheAnswers trace order)) verdict is (λ order right. (right.trace, right.spelled, right.answers))

pub dumps_of : (bytes : List ℕ) (verdict : Verdict) → IsVerdictOf bytes verdict
    → IfYes (λ order. IsSpelledWith bytes (λ trace. HasFittingDumps trace order)) verdict
dumps_of bytes verdict is = part_of bytes (λ order. IsSpelledWith bytes (λ trace. HasFittingDumps trace order)) verdict is
    (λ order right. (right.trace, right.spelled, right.dumps))

-- ---- what was read of bytes

pub read_so : (bytes : List ℕ) (read : Result Recording (Fail FormatFault)) → IfOk read (Spells bytes) → IfErr read (IfRefused (HasFormatFault bytes))
    → Reads bytes read
read_so bytes (Ok trace) spelled refused = spelled
read_so bytes (Err fail) spelled refused = refused
