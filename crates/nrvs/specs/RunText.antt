-- What `run` prints: what came of each call, by thread and then by call, and that the run is verified; or that it is refused, and why.
use Rattle.std.specs.Prelude.{ℕ, ◌++◌, List, codes, decimal}
use Rattle.std.specs.List.{enumerate_from, flat_map}
use Rattle.vs_text.specs.Words.{space}
use Rattle.nr_trace.specs.declared.refusals.fault.Fault.{Fault}
use Rattle.nr_serve.specs.declared.endings.call_outcome.CallOutcome.{CallOutcome}
use Rattle.nr_serve.specs.declared.endings.call_outcome.CallOutcome.TheVariants.{Answer as Answered, Stopped}
use Rattle.audit_texts.specs.Text.{answer_text, fault_text, line_end}

-- the answer of a call, or that it was stopped
abbrev pub said_text : CallOutcome → List ℕ
said_text (Answered at answer) = answer_text answer
said_text Stopped = codes "stopped"

-- the line of a call: its thread, and what came of it
abbrev pub said_line : ℕ → CallOutcome → List ℕ
said_line thread said = decimal thread ++ (space ++ (said_text said ++ line_end))

-- the lines of a thread's calls
abbrev pub thread_lines : ℕ × List CallOutcome → List ℕ
thread_lines (thread, said) = flat_map (said_line thread) said

-- the lines of all threads, the first of which is thread 0
abbrev pub said_lines : List (List CallOutcome) → List ℕ
said_lines said = flat_map thread_lines (enumerate_from 0 said)

-- the lines of all threads, and that the run is verified
abbrev pub verified_text : List (List CallOutcome) → List ℕ
verified_text said = said_lines said ++ codes "verified\n"

-- the line of a run that is refused, with the first fault of its trace
abbrev pub refused_text : Fault → List ℕ
refused_text fault = codes "refused " ++ (fault_text fault ++ line_end)
