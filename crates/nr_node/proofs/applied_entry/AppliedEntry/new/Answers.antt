use Rattle.std.proofs.Common.{◌≡◌, ℕ, ◌+◌, ◌*◌, ◌/◌, ◌%◌, ◌^◌, ◌<◌, List, [], ◌∷◌, ap, ◌∙◌, arith}
use Rattle.std.specs.Prelude.{slice_index}
use Rattle.vs_types.specs.LogEntry.{log_words}
use Rattle.vs_types.specs.declared.addresses.depth.Depth.TheVariants.{Five}
use Rattle.vs_types.specs.declared.log_entry.LogEntry.{LogEntry}
use Rattle.vs_types.proofs.OneEntry.{spells_told, tells_it}
use Rattle.nr_ring.proofs.Fetches.{rest_low}
use Rattle.nr_node.specs.inside.AppliedEntry.{answer_in, codes_of, entry_words}
use Rattle.nr_node.proofs.Tellings.{above, answer_again}
use Rattle.nr_node.proofs.applied_entry.AppliedEntry.new.Goals as goal

-- the entry's words lie below the codes
entry_below : (words : List ℕ) (entry : LogEntry) (codes : ℕ) → words ≡ log_words entry → slice_index (log_words entry) 1 < 2 ^ 56
    → entry_words (slice_index words 0 ∷ (slice_index words 1 + codes * 2 ^ 56) ∷ []) ≡ log_words entry
entry_below words entry codes is low =
    let first = ap (λ (l : List ℕ). slice_index l 0) is in
    let second = ap (λ (l : List ℕ). (slice_index l 1 + codes * 2 ^ 56) % 2 ^ 56) is ∙ (above (slice_index (log_words entry) 1) codes low).0 in
    λ i. first i ∷ second i ∷ []

pub overflow_add-result : goal.overflow_add-result
overflow_add-result c =
    let low = rest_low Five c.args.entry c.words-words.ensures.fits in
    omega (arith, low, ap (λ (l : List ℕ). slice_index l 1) c.words-words.ensures.spell, c.codes_of-codes.ensures.low)

pub invariant_of-result : goal.invariant_of-result
invariant_of-result c =
    let low = rest_low Five c.args.entry c.words-words.ensures.fits in
    let are = entry_below c.words-words.result c.args.entry c.codes_of-codes.result c.words-words.ensures.spell low in
    spells_told Five _ c.args.entry c.words-words.ensures.fits are

pub returns : goal.returns
returns c =
    let low = rest_low Five c.args.entry c.words-words.ensures.fits in
    let codes = c.codes_of-codes.result in
    let words = c.words-words.result in
    let are = entry_below words c.args.entry codes c.words-words.ensures.spell low in
    let entry = tells_it Five _ c.args.entry (record { is_entry = c.words-words.ensures.fits; spelled = are }) in
    let high : (slice_index words 1 + codes * 2 ^ 56) / 2 ^ 56 ≡ codes_of c.args.answer =
    ap (λ (l : List ℕ). (slice_index l 1 + codes * 2 ^ 56) / 2 ^ 56) c.words-words.ensures.spell
    ∙ (above (slice_index (log_words c.args.entry) 1) codes low).1 ∙ c.codes_of-codes.ensures.is in
    let answer = (λ i. answer_in (high i) (c.number_of.ensures i)) ∙ answer_again c.args.answer in
    λ i. record { entry = entry i; answer = answer i }
