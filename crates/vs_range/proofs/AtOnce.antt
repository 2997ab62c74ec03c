-- A plan that follows at once: no flag was set before it.
use Rattle.std.proofs.Common.{ℕ, List, [], ◌∷◌, refl, sym, subst, ◌∙◌}
use Rattle.std.specs.List.{AllZip}
use Rattle.std.proofs.lemmas.Option.{same_Some}
use Rattle.vs_types.specs.Space.{Space}
use Rattle.vs_walk.specs.Memory.{Memory}
use Rattle.vs_space.specs.Flags.{IsSameButFlags, AreSameButFlags}
use Rattle.vs_plan.specs.declared.plans.target.Target.{Target}
use Rattle.vs_range.specs.Several.{Call, IsRightThen, IsRightButFlags}

same_word : (word : ℕ) → IsSameButFlags word word
same_word word = record { absent = λ none. refl; bits = λ bit apart other. refl }

same_words : (words : List ℕ) → AllZip IsSameButFlags words words
same_words [] = tt
same_words (word ∷ words) = (same_word word, same_words words)

pub same_memory : (memory : Memory) → AreSameButFlags memory memory
same_memory memory = record {
  frames = λ frame. refl;
  words = λ frame before after got had.
      subst (AllZip IsSameButFlags before) (same_Some before after (sym got ∙ had)) (same_words before);
}

pub at_once : {target : Target} {memory : Memory} {space : Space} {gone : List ℕ} {call : Call} → IsRightThen target memory space gone call
    → IsRightButFlags target memory space gone call
at_once {target} {memory} {space} {gone} {call} right = record { flagged = memory; flags = same_memory memory; right = right }
