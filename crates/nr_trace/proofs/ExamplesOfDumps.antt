-- Faults of a dump where nothing is recorded, and none where the page table is empty.
use Rattle.std.proofs.Common.{◌≡◌, ◌≢◌, ℕ, zero, suc, ◌<◌, ◌≤◌, inl, inr, ⊎_elim, List, [], ◌∷◌, get_or, replicate, take, slice_index, Contains}
use Rattle.std.proofs.Common.{Some, None, slice_get, cond, refl, ap, sym, subst, ◌∙◌, arith}
use Rattle.std.specs.Option.{IsSome}
use Rattle.std.specs.FinMap as finite
use Rattle.std.specs.Cmp.{nat_cmp_total}
use Rattle.std.specs.Ordering.{nat_cmp}
use Rattle.std.proofs.lemmas.Bool.{cases_eq, ne_eqb, false≢true}
use Rattle.std.proofs.lemmas.Option.{none-some, same_Some}
use Rattle.vs_types.specs.Depth.{index_at}
use Rattle.vs_types.specs.Entry.{meaning}
use Rattle.vs_types.specs.Space.{no_pages}
use Rattle.vs_types.specs.Step.{look}
use Rattle.vs_types.specs.declared.addresses.depth.Depth.TheVariants.{Four}
use Rattle.vs_types.specs.declared.addresses.page.Size.TheVariants.{M2}
use Rattle.vs_types.specs.declared.entries.entry.Meaning.TheVariants as entry
use Rattle.vs_types.proofs.Lists.{Contains-head, Contains-cases, not_in_nil}
use Rattle.vs_types.proofs.Spaces.{look_of_nothing, same_key}
use Rattle.vs_walk.specs.Walk.{all_rights, as_walk, walk, TranslatesAs}
use Rattle.vs_walk.specs.Traversal.{OfFrame, traversal, reached, first_fault_after, walk_fault}
use Rattle.vs_walk.specs.Differences.{IsStray, TranslatesOtherwise, HasMissingFrame, HasSharedFrame, HasReservedBit, HasStrayFrame}
use Rattle.vs_walk.specs.Dump.{Image}
use Rattle.vs_walk.specs.Memory.{Memory}
use Rattle.vs_walk.specs.Examples.{one_word, no_words, one_empty_frame, two_empty_frames}
use Rattle.vs_walk.specs.declared.walk.Walk.TheVariants.{NotMapped, Mapped}
use Rattle.vs_walk.proofs.Walks.{walk_at}
use Rattle.vs_walk.proofs.ExamplesOfOneWord.{at_word, visits_of_nothing, fine}
use Rattle.vs_walk.proofs.ExamplesOfTables as tables
use Rattle.vs_types.specs.declared.requests.request.Query.{Query}
use Rattle.nr_trace.specs.Calls.{Invocation, Response, call_of, reply_of, request_of}
use Rattle.nr_trace.specs.Examples.{empty_dump, missing_frame, shared_frame, reserved_bit, stray_frame, page_at_zero, unmapped_page, nothing_recorded}
use Rattle.nr_trace.specs.Faults.{HasFault, HasDump}
use Rattle.nr_trace.specs.Laws.{IsFaultless}
use Rattle.nr_trace.specs.Orders.{FitsOrder, space_after}
use Rattle.nr_trace.specs.declared.refusals.fault.Fault.TheVariants.{ThreadOpen, NoSuchCall, AnsweredTwice, NotAnUpdate, PlacedTwice, NotPlaced, PastLog, Early}
use Rattle.nr_trace.specs.declared.refusals.fault.Fault.TheVariants.{WrongAnswer, PrefixPastLog, PrefixShort, MissingFrame, SharedFrame, ReservedBit, StrayFrame}
use Rattle.nr_trace.specs.declared.refusals.fault.Fault.TheVariants.{Differs}

-- what holds a frame is there
there_by : (frames : Memory) (number : ℕ) (words : List ℕ) → finite.get frames number ≡ Some words → 1 ≤ finite.len frames
there_by frames number words is = by_len (finite.len frames) refl where
  by_len : (n : ℕ) → finite.len frames ≡ n → 1 ≤ n
  by_len zero none = absurd
      (none-some words (sym (finite.get-empty nat_cmp number) ∙ ap (λ (m : Memory). finite.get m number) (sym (finite.empty_of_len frames none)) ∙ is))
  by_len (suc n) some = omega arith

-- it has frame 1
begins : (words : List ℕ) (more : List (ℕ × List ℕ)) → 1 ≤ finite.len (finite.from_entries {R = nat_cmp} ((1, words) ∷ more))
begins words more = there_by (finite.from_entries ((1, words) ∷ more)) 1 words (finite.get-from_entries nat_cmp_total ((1, words) ∷ more) 1)

pub missing : HasFault missing_frame (MissingFrame 0 2)
missing = (_, refl, begins (one_word 0 0x2007) [], tables.missing_frame)

pub shared : HasFault shared_frame (SharedFrame 0 1)
shared = (_, refl, begins (one_word 0 0x1007) [], tables.shared_frame)

pub reserved : HasFault reserved_bit (ReservedBit 0 3 1)
reserved = (_, refl, begins (one_word 0 0x2007) ((2, one_word 0 0x3007) ∷ (3, one_word 1 0x202087) ∷ []), tables.reserved_bit)

-- ---- a frame that isn't reached

only_root : reached (traversal Four two_empty_frames 1) ≡ 1 ∷ []
only_root = ap reached tables.stray_visits

not_the_root : Contains {X = ℕ} (1 ∷ []) 2 → ⊥
not_the_root h = ⊎_elim (λ (e : 1 ≡ 2). omega arith) (not_in_nil {X = ℕ} 2) (Contains-cases {X = ℕ} 1 [] 2 h)

second : finite.get two_empty_frames 2 ≡ Some no_words
second = finite.get-from_entries nat_cmp_total ((1, no_words) ∷ (2, no_words) ∷ []) 2

none_at_zero : finite.get two_empty_frames 0 ≡ None
none_at_zero = finite.get-from_entries nat_cmp_total ((1, no_words) ∷ (2, no_words) ∷ []) 0

least_stray : (other : ℕ) → other < 2 → IsStray Four two_empty_frames 1 other → ⊥
least_stray zero l h = false≢true (subst IsSome none_at_zero h.0)
least_stray (suc zero) l h = h.1 (subst (λ (ns : List ℕ). Contains ns 1) (sym only_root) (Contains-head {X = ℕ} 1 []))
least_stray (suc (suc n)) l h = omega arith

pub stray : HasFault stray_frame (StrayFrame 0 2)
stray = (
  _,
  refl,
  begins no_words ((2, no_words) ∷ []),
  ((subst IsSome (sym second) refl, λ h. not_the_root (subst (λ (ns : List ℕ). Contains ns 2) only_root h)), least_stray),
)

-- ---- a page that the space doesn't have

abbrev rows : List (ℕ × List ℕ)
rows = (1, one_word 0 0x2007) ∷ (2, one_word 0 0x3007) ∷ (3, one_word 0 0x87) ∷ []

walked : walk Four page_at_zero 1 0 ≡ Mapped 0 M2 all_rights
walked =
    at_word page_at_zero 3 1 all_rights 0 0 0x2007 (entry.Table 2 all_rights) (finite.get-from_entries nat_cmp_total rows 1) (omega arith) refl refl
    ∙ at_word page_at_zero 2 2 all_rights 0 0 0x3007 (entry.Table 3 all_rights) (finite.get-from_entries nat_cmp_total rows 2) (omega arith) refl refl
    ∙ at_word page_at_zero 1 3 all_rights 0 0 0x87 (entry.Leaf 0 all_rights) (finite.get-from_entries nat_cmp_total rows 3) (omega arith) refl refl

pub differs : HasFault unmapped_page (Differs 0 0)
differs = (_, refl, begins (one_word 0 0x2007) ((2, one_word 0 0x3007) ∷ (3, one_word 0 0x87) ∷ []), ((refl, other), λ o l h. omega arith)) where
  other : walk Four page_at_zero 1 0 ≢ as_walk (look no_pages 0)
  other e = let same : Mapped 0 M2 all_rights ≡ NotMapped = sym walked ∙ e ∙ ap as_walk (look_of_nothing 0) in cc

-- ---- an empty page table

frame : finite.get one_empty_frame 1 ≡ Some no_words
frame = finite.get-from_entries nat_cmp_total ((1, no_words) ∷ []) 1

beside : (n : ℕ) → n ≢ 1 → finite.get one_empty_frame n ≡ None
beside n differs =
    finite.get-from_entries nat_cmp_total ((1, no_words) ∷ []) n ∙ ap (λ b. cond b (Some no_words) None) (same_key n 1 ∙ ne_eqb n 1 differs)

frame_at : (number : ℕ) → IsSome (finite.get one_empty_frame number) → number ≡ 1
frame_at number h =
    ⊎_elim (λ same. same) (λ differs. absurd (false≢true (subst IsSome (beside number differs) h))) (cases_eq number 1)

visits : traversal Four one_empty_frame 1 ≡ OfFrame 1 ∷ []
visits = visits_of_nothing Four one_empty_frame 3 (record { number = 1; start = 0; rights = all_rights }) frame

no_fault : walk_fault Four one_empty_frame 1 ≡ None
no_fault = ap (first_fault_after one_empty_frame []) visits ∙ fine one_empty_frame [] [] 1 _ frame refl

zero_in : (n k : ℕ) → get_or {A = ℕ} (replicate n 0) k 0 ≡ 0
zero_in (suc n) (suc k) = zero_in n k
zero_in _ _ = refl

zero_word : (k : ℕ) → slice_index no_words k ≡ 0
unfolding no_words
zero_word k = zero_in 512 k

pub nowhere : TranslatesAs Four one_empty_frame 1 no_pages
nowhere address canonical =
    walk_at one_empty_frame 3 1 all_rights address no_words entry.Absent frame (ap (meaning 4) (zero_word (index_at 4 address)))
    ∙ sym (ap as_walk (look_of_nothing address))

only_dump : (replica : ℕ) (dump : Image) → slice_get nothing_recorded.dumps replica ≡ Some dump → dump ≡ empty_dump
only_dump zero dump is = same_Some dump empty_dump (sym is)
only_dump (suc n) dump is = cc

of_dump : (P : Image → Type 0) (replica : ℕ) → HasDump nothing_recorded replica P → P empty_dump
of_dump P replica (dump, is, there, h) = subst P (only_dump replica dump is) h

no_reply : (index : ℕ) (reply : Response) → reply_of nothing_recorded index ≡ Some reply → ⊥
no_reply index reply e = cc

no_call : (index : ℕ) (made : Invocation) → call_of nothing_recorded index ≡ Some made → ⊥
no_call index made e = cc

no_request : (call : ℕ) (request : Query) → request_of nothing_recorded call ≡ Some request → ⊥
no_request call request e = cc

no_place : (place call : ℕ) → slice_get nothing_recorded.log place ≡ Some call → ⊥
no_place place call e = cc

no_stray : (number : ℕ) → HasStrayFrame Four empty_dump number → ⊥
no_stray number h = h.0.1 (subst (λ (ns : List ℕ). Contains ns number) (sym (ap reached visits))
    (subst (λ (n : ℕ). Contains (1 ∷ []) n) (sym (frame_at number h.0.0)) (Contains-head {X = ℕ} 1 [])))

pub faultless : IsFaultless nothing_recorded
faultless (ThreadOpen index) h = no_call index h.made h.is_made
faultless (NoSuchCall index) h = no_reply index h.0 h.1
faultless (AnsweredTwice index) h = no_reply index h.0 h.1
faultless (NotAnUpdate place) h = no_place place h.0 h.1
faultless (PlacedTwice place) h = no_place place h.0 h.1
faultless (NotPlaced index) h = no_reply index h.0 h.1
faultless (PastLog index) h = no_reply index h.0 h.1
faultless (Early call) (entries, inl stands, early) = no_place entries call stands.1
faultless (Early call) (entries, inr (read, reply, is, at), early) = cc
faultless (WrongAnswer call) h = no_request call h.request h.asks
faultless (PrefixPastLog replica) h = let less : 0 < 0 = of_dump (λ dump. 0 < dump.applied) replica h in omega arith
faultless (PrefixShort replica) (dump, is, there, rests) = no_reply rests.index rests.reply rests.is_reply
faultless (MissingFrame replica number) h = let e = of_dump (λ dump. HasMissingFrame Four dump number) replica h in none-some _ (sym no_fault ∙ e)
faultless (SharedFrame replica number) h = let e = of_dump (λ dump. HasSharedFrame Four dump number) replica h in none-some _ (sym no_fault ∙ e)
faultless (ReservedBit replica number index) h = let e = of_dump (λ dump. HasReservedBit Four dump number index) replica h in none-some _ (sym no_fault ∙ e)
faultless (StrayFrame replica number) h = no_stray number (of_dump (λ dump. HasStrayFrame Four dump number) replica h)
faultless (Differs replica address) (dump, is, there, differs) = differs_not (only_dump replica dump is) differs.0 where
  differs_not : dump ≡ empty_dump → TranslatesOtherwise Four dump.frames dump.root (space_after nothing_recorded (take dump.applied [])) address → ⊥
  differs_not e h = let same = subst (λ (d : Image). TranslatesOtherwise Four d.frames d.root (space_after nothing_recorded (take d.applied [])) address) e h in
      same.1 (nowhere address same.0)
faultless _ h = h

pub fits : FitsOrder nothing_recorded [] 0 empty_dump
fits = record {
  enough = omega arith;
  translates = nowhere;
  own_updates = λ call made is here update answered. absurd (no_call call made is);
  own_reads = λ call earlier made is here read answered update before. absurd (no_call call made is);
}
