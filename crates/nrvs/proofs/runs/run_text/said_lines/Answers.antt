use Rattle.std.proofs.Common.{◌≡◌, ℕ, suc, ◌+◌, ◌++◌, List, ap, ap₂, sym, ◌∙◌, get_or, take, arith}
use Rattle.std.specs.List.{flat_map}
use Rattle.nr_serve.specs.declared.endings.call_outcome.CallOutcome.{CallOutcome}
use Rattle.nrvs.specs.RunText.{said_line, thread_lines}
use Rattle.nrvs.proofs.RunTexts.{lines_of, next_lines}
use Rattle.nrvs.proofs.runs.run_text.said_lines.Goals as goal

pub loop-thread-preserved : goal.loop-thread-preserved
loop-thread-preserved c =
    let threads = c.args.threads.now in
    let thread = c.loop-thread.thread in
    let called = c.index-threads-thread.result in
    let before = lines_of (λ said. said.items) 0 (take thread threads) in
    let items_are = c.as_slice.ensures.value ∙ ap (λ said. said.items) c.index-threads-thread.is in
    let counted : thread ≡ 0 + thread = omega arith in
    let more : suc thread ≡ thread + 1 = omega arith in
    let next = next_lines (λ said. said.items) 0 thread threads called c.loop-thread-test.true in
    c.in_ok-push_thread.ensures
    ∙ ap₂ (λ (lines : List ℕ) (said : List CallOutcome). lines ++ flat_map (said_line thread) said) c.loop-thread.invariant items_are
    ∙ ap (λ (k : ℕ). before ++ thread_lines (k, (get_or threads thread called).items)) counted
    ∙ sym next ∙ ap (λ (k : ℕ). lines_of (λ said. said.items) 0 (take k threads)) more
