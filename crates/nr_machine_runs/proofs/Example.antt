-- The notes of the example may come where they are.
use Rattle.std.proofs.Common.{◌≡◌, Bool, true, false, List, [], ◌∷◌, ◌++◌, refl, ap, sym, ◌∙◌, inl, arith, Some}
use Rattle.vs_types.specs.Config.{Layout}
use Rattle.vs_types.specs.Space.{Space, no_pages}
use Rattle.vs_types.specs.Step.{look, step}
use Rattle.vs_types.specs.declared.requests.answer.Answer.{Answer}
use Rattle.vs_types.specs.declared.requests.answer.Answer.TheVariants.{NotMapped}
use Rattle.vs_types.specs.declared.addresses.depth.Depth.TheVariants.{Four}
use Rattle.vs_types.specs.declared.log_entry.LogEntry.{LogEntry}
use Rattle.vs_types.specs.declared.requests.op.Action.TheVariants.{Unmap}
use Rattle.vs_types.specs.declared.requests.request.Query.TheVariants.{Resolve}
use Rattle.vs_types.proofs.Spaces.{look_of_nothing, no_pages_at}
use Rattle.nr_machine.specs.declared.words.Update.{Update}
use Rattle.nr_machine.specs.World.{Act, Plays}
use Rattle.nr_machine.specs.World.Act.{Begins, Does, Applies, Ends, ReadBegins, ReadEnds}
use Rattle.nr_machine.specs.Examples.{one_catches_up, one_ends}
use Rattle.nr_machine.proofs.Tests.{plays}
use Rattle.nr_machine_runs.specs.Examples.{both_append, both_reply, example, one_replies, other_replies, taken, three_call, two_nodes, unmaps}
use Rattle.nr_machine_runs.specs.Recorded.{MayAll, Note, Run, new_run, noted, noted_all}
use Rattle.nr_machine_runs.specs.Recorded.Note.{Takes}

-- where there is no page, an unmap finds none and changes nothing
abbrev unmapped : Space → Space
unmapped space = (step Four 4 space (Unmap 0)).space

answered : (space : Space) → space ≡ no_pages → (step Four 4 space (Unmap 0)).answer ≡ NotMapped
answered space none = ap (λ (s : Space). (step Four 4 s (Unmap 0)).answer) none ∙ at_first where
  at_first : (step Four 4 no_pages (Unmap 0)).answer ≡ NotMapped
  at_first = rw (no_pages_at Four 0) refl

of_nothing : (step Four 4 no_pages (Unmap 0)).space ≡ no_pages
of_nothing = rw (no_pages_at Four 0) refl

once : unmapped no_pages ≡ no_pages
once = of_nothing

twice : unmapped (unmapped no_pages) ≡ no_pages
twice = ap unmapped once ∙ once

looked : NotMapped ≡ look (unmapped (unmapped (unmapped no_pages))) 0
looked = sym (look_of_nothing 0) ∙ ap (λ (space : Space). look space 0) (sym (ap unmapped twice ∙ once))

-- notes, and others after them
may_both : (layout : Layout) (means : Update → LogEntry) (run : Run) (notes more : List Note) → MayAll layout means run notes
    → MayAll layout means (noted_all layout means run notes) more → MayAll layout means run (notes ++ more)
may_both layout means run [] more may rest = rest
may_both layout means run (note ∷ notes) more may rest = (may.0, may_both layout means (noted layout means run note) notes more may.1 rest)

abbrev after : Run → List Note → Run
after run notes = noted_all two_nodes unmaps run notes

-- steps by which no call begins
abbrev goes_on : List Act → Bool
goes_on [] = true
goes_on (Begins n batch ∷ acts) = false
goes_on (ReadBegins n ∷ acts) = false
goes_on (act ∷ acts) = goes_on acts

-- what may be played where no call begins may be noted
taken_may : (run : Run) (acts : List Act) → goes_on acts ≡ true → Plays 2 run.nodes.world acts → MayAll two_nodes unmaps run (taken acts)
taken_may run [] goes may = tt
taken_may run (Begins n batch ∷ acts) goes may = absurd (cc)
taken_may run (ReadBegins n ∷ acts) goes may = absurd (cc)
taken_may run (Does n operation ∷ acts) goes may =
    (may.0, taken_may (noted two_nodes unmaps run (Takes (Does n operation))) acts goes may.1)
taken_may run (Applies n ∷ acts) goes may = (may.0, taken_may (noted two_nodes unmaps run (Takes (Applies n))) acts goes may.1)
taken_may run (Ends n ∷ acts) goes may = (may.0, taken_may (noted two_nodes unmaps run (Takes (Ends n))) acts goes may.1)
taken_may run (ReadEnds c ∷ acts) goes may = (may.0, taken_may (noted two_nodes unmaps run (Takes (ReadEnds c))) acts goes may.1)

abbrev at_three_call : Run
at_three_call = new_run two_nodes unmaps

abbrev at_both_append : Run
at_both_append = after at_three_call three_call

abbrev at_other_replies : Run
at_other_replies = after at_both_append (taken both_append)

abbrev at_one_ends : Run
at_one_ends = after at_other_replies other_replies

abbrev at_both_reply : Run
at_both_reply = after at_one_ends (taken one_ends)

abbrev at_one_catches_up : Run
at_one_catches_up = after at_both_reply both_reply

abbrev at_one_replies : Run
at_one_replies = after at_one_catches_up (taken one_catches_up)

three_call_may : MayAll two_nodes unmaps at_three_call three_call
three_call_may = (
  refl,
  (
    refl,
    (
      refl,
      (
        ((omega arith, (refl, omega arith, omega arith)), ((0, refl), refl, ((1, refl), refl, tt))),
        (((omega arith, (refl, omega arith, omega arith)), ((2, refl), refl, tt)), tt),
      ),
    ),
  ),
)

other_replies_may : MayAll two_nodes unmaps at_other_replies other_replies
other_replies_may = (
  (refl, inl (0, omega arith, refl, refl, ap (λ (a : Answer). Some a) (answered (unmapped (unmapped no_pages)) twice))),
  tt,
)

both_reply_may : MayAll two_nodes unmaps at_both_reply both_reply
both_reply_may = (
  (refl, inl (0, omega arith, refl, refl, ap (λ (a : Answer). Some a) (answered no_pages refl))),
  (
    (refl, inl (1, omega arith, refl, refl, ap (λ (a : Answer). Some a) (answered (unmapped no_pages) once))),
    (refl, ((omega arith, (0, Resolve 0, refl, refl)), tt)),
  ),
)

one_replies_may : MayAll two_nodes unmaps at_one_replies one_replies
one_replies_may = ((refl, inl (refl, refl, 1, 0, Resolve 0, refl, looked)), tt)

pub example_may : MayAll two_nodes unmaps (new_run two_nodes unmaps) example
example_may =
    let last = taken one_catches_up ++ one_replies in
    let ending = taken one_ends ++ (both_reply ++ last) in
    may_both two_nodes unmaps at_three_call three_call (taken both_append ++ (other_replies ++ ending)) three_call_may
    (may_both two_nodes unmaps at_both_append (taken both_append) (other_replies ++ ending)
    (taken_may at_both_append both_append refl ((plays 2 at_both_append.nodes.world both_append).sound refl))
    (may_both two_nodes unmaps at_other_replies other_replies ending other_replies_may
    (may_both two_nodes unmaps at_one_ends (taken one_ends) (both_reply ++ last)
    (taken_may at_one_ends one_ends refl ((plays 2 at_one_ends.nodes.world one_ends).sound refl))
    (may_both two_nodes unmaps at_both_reply both_reply last both_reply_may
    (may_both two_nodes unmaps at_one_catches_up (taken one_catches_up) one_replies
    (taken_may at_one_catches_up one_catches_up refl ((plays 2 at_one_catches_up.nodes.world one_catches_up).sound refl))
    one_replies_may)))))
