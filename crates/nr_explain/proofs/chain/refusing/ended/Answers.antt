use Rattle.std.proofs.Common.{◌≡◌, ℕ, ◌==◌, arith, vec_len, List, [], true, false, Option, Some, None, length, refl, sym, ap, subst, ◌∙◌}
use Rattle.vs_types.specs.Config.{Layout}
use Rattle.nr_trace.specs.FirstFault.{HasRefusalAs}
use Rattle.nr_trace.specs.declared.formats.version.Form.TheVariants as forms
use Rattle.std.proofs.lemmas.List.{nil_from_length}
use Rattle.nr_explain.specs.Progress.{ChainState, layout_in, IsSeenOf}
use Rattle.nr_explain.proofs.Known.{counts_alike, layout_alike, none_seen}
use Rattle.nr_explain.specs.inside.Reading.{all_states, counts_seen, state_of}
use Rattle.nr_explain.specs.declared.chain.progress.Progress.{Progress}
use Rattle.nr_explain.specs.declared.chain.explanation.ChainCounts.{ChainCounts}
use Rattle.nr_explain.specs.declared.chain.explanation.ChainExplanation.TheVariants.{Yes}
use Rattle.nr_explain.specs.ChainExplanation.{IsExplanationFrom}
use Rattle.nr_explain.specs.inside.Steps.{IsRefusalOf}
use Rattle.nr_explain.proofs.Feeding.{ended_whole, refusal_explains}
use Rattle.std.proofs.lemmas.Bool.{eqb-true}
use Rattle.std.proofs.lemmas.Result.{IfOk-weaker}
use Rattle.nr_explain.proofs.chain.refusing.ended.Goals as goal
use Rattle.nr_explain.proofs.chain.refusing.ended.Goals.{then-is_empty+in_default, else-is_empty}

-- all is said of a chain that has come to some segment
counted : (came : Option ChainState) (last : Option Progress) (last_is : Progress) (counts : ChainCounts) (bytes : List ℕ) → last ≡ Some last_is → bytes ≡ []
    → IsSeenOf came (all_states last) → counts ≡ counts_seen (state_of last_is)
    → IsExplanationFrom came bytes (Yes counts)
counted None last last_is counts bytes is none seen h = absurd (subst (λ (l : Option Progress). IsSeenOf None (all_states l)) is seen)
counted (Some came) last last_is counts bytes is none seen h = (
  [],
  came,
  (refl, sym none),
  h ∙ counts_alike came (state_of last_is) (subst (λ (l : Option Progress). IsSeenOf (Some came) (all_states l)) is seen),
)

pub returns-in-Some : goal.returns-in-Some
returns-in-Some c = λ came seen.
    let bytes = c.args.bytes in
    let zero : vec_len bytes ≡ 0 = eqb-true (vec_len bytes) 0 (sym c.is_empty.ensures ∙ c.if-is_empty.true) in
    let none = nil_from_length bytes.items (omega (arith, zero, bytes.ok.0)) in
    counted came c.args.last.now c.in-Some.came _ bytes.items c.in-Some.is none seen c.in_ok-counts.ensures

pub unreachable-requires : goal.unreachable-requires
unreachable-requires c = c.requires.not_whole (ended_whole c.args.feed c.args.bytes.items c.in-Ok.field-0 c.requires.taken c.in-Ok.ensures.ends)

pub refused-requires : goal.refused-requires
refused-requires c =
    let bytes = c.args.bytes.items in
    let given = (rw c.in-Err-Refused.field-0-is at (c.in-Err-Refused.ensures.refused bytes c.requires.taken)) in
    record {
      within = given.within;
      refused = subst (λ (before : Option Layout). HasRefusalAs (forms.Segment before) bytes c.in-Err-Refused.refusal) c.requires.behind given.refused;
    }

pub returns-in-Err-Refused : goal.returns-in-Err-Refused
returns-in-Err-Refused c = λ came seen.
    let bytes = c.args.bytes.items in
    let refusal = c.in-Err-Refused.refusal in
    let given = (rw c.in-Err-Refused.field-0-is at (c.in-Err-Refused.ensures.refused bytes c.requires.taken)) in
    let refused : HasRefusalAs (forms.Segment (layout_in came)) bytes refusal =
    subst (λ (before : Option Layout). HasRefusalAs (forms.Segment before) bytes refusal)
    (c.requires.behind ∙ layout_alike came (all_states c.args.last.now) seen) given.refused in
    IfOk-weaker c.refused.result (IsRefusalOf came bytes refusal.fault) (IsExplanationFrom came bytes)
    (λ explanation is. refusal_explains came bytes refusal.fault explanation is (refusal.unit, refusal.left, refused) (λ some none.
    elim c.if-is_empty.branch [
      | then-is_empty+in_default w ↦ none_seen came (all_states c.args.last.now) seen (ap all_states w.in_default.is) some
      | else-is_empty w ↦ (
          let at_zero : vec_len c.args.bytes ≡ 0 = omega (arith, ap length none, c.args.bytes.ok.0) in
          let empty : c.is_empty.result ≡ true = c.is_empty.ensures ∙ ap (λ (n : ℕ). n == 0) at_zero in
          let other : c.is_empty.result ≡ false = w.if-is_empty.false in cc)
    ]))
    (c.refused.ensures came seen)
