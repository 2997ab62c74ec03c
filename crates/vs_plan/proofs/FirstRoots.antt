-- What a plan asks of a memory holds of a root whose words are all 0, and holds again after a plan.
use Rattle.std.proofs.Common.{◌≡◌, ◌≢◌, ℕ, ◌-◌, ◌≤◌, List, [], ◌∷◌, Option, Some, None, true, ⊎_elim, refl, sym, ap, subst, ◌∙◌, arith}
use Rattle.std.proofs.lemmas.Bool.{cases_eq}
use Rattle.std.specs.FinMap as finite
use Rattle.vs_types.specs.Depth.{levels}
use Rattle.vs_types.specs.Entry.{all_rights}
use Rattle.vs_types.specs.Laws.{changes}
use Rattle.vs_types.specs.Space.{Space, IsSpace, no_pages, table_count}
use Rattle.vs_types.specs.Step.{Stepped}
use Rattle.vs_types.specs.declared.addresses.depth.Depth.{Depth}
use Rattle.vs_types.specs.declared.entries.entry.Meaning.TheVariants as entry
use Rattle.vs_types.specs.declared.requests.op.Action.TheVariants as actions
use Rattle.vs_types.proofs.Spaces.{no_pages_space, look_of_nothing, remove_space, page_at_means}
use Rattle.vs_types.proofs.Steps.{step_space, unmap_cases, protect_cases, protect_space}
use Rattle.vs_arena.specs.Store.{zeros}
use Rattle.vs_walk.specs.Memory.{Memory, AreWhole}
use Rattle.vs_walk.specs.Walk.{as_walk, TranslatesAs}
use Rattle.vs_space.specs.Path.{table_in, table_at}
use Rattle.vs_space.proofs.Links.{found_in_zeros}
use Rattle.vs_space.proofs.Paths.{table_first, reached_within, table_below, none_past}
use Rattle.vs_plan.specs.declared.plans.plan.Plan.{Plan}
use Rattle.vs_plan.specs.declared.plans.plan.Reply.{Reply}
use Rattle.vs_plan.specs.declared.plans.plan.Reply.TheVariants as replies
use Rattle.vs_plan.specs.declared.plans.request.Request.{Request}
use Rattle.vs_plan.specs.declared.plans.request.Request.TheVariants.{Map, Unmap, Protect, Ask, Remap, Split, Join, Prune, UnmapPart, Collapse}
use Rattle.vs_plan.specs.declared.plans.plan.Store.{Store}
use Rattle.vs_plan.specs.declared.plans.target.Target.{Target}
use Rattle.vs_plan.specs.Premise.{IsPremise, HasOwnWay}
use Rattle.vs_plan.specs.Request.{IsRequest, address_of, stepped, refusal}
use Rattle.vs_plan.specs.Changes.{join, join_refusal}
use Rattle.vs_plan.specs.Answered.{IsDue, space_after}
use Rattle.vs_plan.specs.Right.{IsRight, IsPut, Fits, begun, ended}
use Rattle.vs_plan.specs.Stores.{stored_all, filled}
use Rattle.vs_plan.proofs.Changing.{change_here, change_cases}
use Rattle.vs_plan.proofs.Given.{change_begins}
use Rattle.vs_plan.proofs.CollapsedSpace.{collapse_stays_space}
use Rattle.vs_plan.proofs.JoinedParts.{join_stays_space}
use Rattle.vs_plan.proofs.PartsUnmapped.{unmap_part_stays_space}
use Rattle.vs_plan.proofs.PartSpaces.{split_stays_space}
use Rattle.vs_plan.proofs.Remapping.{remap_space}
use Rattle.vs_plan.proofs.UnstoredJoins.{not_unstored}
use Rattle.vs_plan.proofs.Ways.{walk_level}
use Rattle.vs_plan.proofs.OtherRoots.{one_less}
use Rattle.vs_plan.proofs.JoinedSpace.{join_after}

-- ---- a root of zeros

module _ (depth : Depth) (memory : Memory) (root : ℕ) (clear : finite.get memory root ≡ Some zeros) where
  nothing_below : (b level : ℕ) → level ≤ levels depth - 1 → table_at (levels depth) memory root level b ≡ None
  nothing_below b level low =
      none_past (levels depth) root memory (levels depth - 1) level b (omega arith) low
      (table_below (levels depth) root memory (levels depth) (levels depth - 1) b root (one_less depth) (table_first (levels depth) root memory b)
      ∙ ap table_in (found_in_zeros (levels depth) memory root b clear))

  -- no table is reached but the root
  root_alone : (b level number : ℕ) → table_at (levels depth) memory root level b ≡ Some number → level ≡ levels depth
  root_alone b level number at = ⊎_elim
      (λ (same : level ≡ levels depth). same)
      (λ (other : level ≢ levels depth).
      let within = reached_within (levels depth) root memory level b number at in
      let none = nothing_below b level (omega (arith, within, other, one_less depth)) in
      absurd (cc))
      (cases_eq level (levels depth))

  pub zeros_are_empty : (address : ℕ) → AreWhole memory → IsPremise depth memory root address no_pages
  zeros_are_empty address whole = record {
    whole = whole;
    is_space = no_pages_space depth;
    translates = λ b canonical. walk_level memory (levels depth) root all_rights b entry.Absent (omega (arith, one_less depth))
        (found_in_zeros (levels depth) memory root b clear)
        ∙ sym (ap as_walk (look_of_nothing b));
    own = record {
      once = λ level number other b at there.
          let high = root_alone address level number at in
          let same = root_alone b other number there in
          (same ∙ sym high, λ i from to. absurd (omega arith));
    };
  }

-- ---- after a plan

-- a join without a store changes nothing
joined_nothing : (space : Space) (base : ℕ) → (changes (join space base).answer ≡ true → ⊥) → (join space base).space ≡ space
joined_nothing space base nothing = change_cases space base (join_after space) (λ s. s ≡ space) refl (λ page e same.
    absurd (nothing (ap (λ (s : Stepped). changes s.answer) (change_here space base (join_after space) page e same))))

module _ {target : Target} {space : Space} (is : IsSpace target.depth space) where
  stepped_space : (request : Request) (stores : List Store) → IsRequest target request → refusal target space request ≡ None
      → Fits request space stores → (stores ≡ [] → (base : ℕ) → request ≡ Join base → changes (join space base).answer ≡ true → ⊥)
      → IsSpace target.depth (stepped target.depth space request).space
  stepped_space (Map page bits) stores good due fits made =
      step_space (table_count target.depth (finite.insert space page.base page)) is (actions.Map page) good.whole.good
  stepped_space (Unmap base) stores good due fits made = unmap_cases (λ s. IsSpace target.depth s.space) target.depth 0 space base
      (λ e. is) (λ page e same. remove_space is base) (λ page e other. is)
  stepped_space (Protect base rights) stores good due fits made = protect_cases (λ s. IsSpace target.depth s.space) target.depth 0 space base rights
      (λ e. is) (λ page e same. protect_space is page rights ((page_at_means is base page).0 e).0) (λ page e other. is)
  stepped_space (Ask address) stores good due fits made = is
  stepped_space (Prune address) stores good due fits made = is
  stepped_space (Remap base phys rights) stores good due fits made = remap_space is base phys target.phys_bits rights due
  stepped_space (Split base) stores good due fits made = split_stays_space is base due
  stepped_space (UnmapPart base first count) stores good due fits made = unmap_part_stays_space is base first count due
  stepped_space (Collapse base phys rights) stores good due fits made = collapse_stays_space is base phys rights target.phys_bits due
  stepped_space (Join base) [] good due fits made = subst (IsSpace target.depth) (sym (joined_nothing space base (made refl base refl))) is
  stepped_space (Join base) (s ∷ later) good due fits made =
      subst (λ b. join_refusal space b ≡ None → IsSpace target.depth (join space b).space) fits.1
      (λ allowed. join_stays_space is fits.0 fits.2 fits.3 allowed) due

  pub space_again : (request : Request) (reply : Reply) (stores : List Store) → IsRequest target request → IsDue target space request reply
      → Fits request space stores
      → (stores ≡ [] → (base : ℕ) → request ≡ Join base → refusal target space request ≡ None
      → space_after target request space reply ≡ (stepped target.depth space request).space → changes (join space base).answer ≡ true → ⊥)
      → IsSpace target.depth (space_after target request space reply)
  space_again request (replies.Answer answer) stores good due fits made =
      stepped_space request stores good due fits (λ none base is changed. made none base is due refl changed)
  space_again request _ stores good due fits made = is

-- a join that changes something has a store
joins_store : {target : Target} {base : ℕ} {memory : Memory} {space : Space} {offered : List (Option ℕ)} {plan : Plan}
    → IsPremise target.depth memory target.root base space → IsRight target (Join base) memory space offered plan → plan.stores.items ≡ []
    → join_refusal space base ≡ None → space_after target (Join base) space plan.reply ≡ (join space base).space
    → changes (join space base).answer ≡ true → ⊥
joins_store {target} {base} {memory} {space} {offered} {plan} premise right none due after changed =
    not_unstored premise.is_space base (change_begins target.depth space (Join base) refl changed)
    (λ address canonical.
    sym (subst (λ s. TranslatesAs target.depth memory target.root s) after then address canonical) ∙ premise.translates address canonical) due
  where
    no_fill : plan.fill ≡ None
    no_fill = subst (λ (ss : List Store). IsPut target (Join base) memory offered plan.fill ss plan.unlinked.items) none right.put

    same : ended memory plan ≡ memory
    same = ap (stored_all (begun memory plan)) none ∙ ap (filled memory) no_fill

    then : TranslatesAs target.depth memory target.root (space_after target (Join base) space plan.reply)
    then = subst (λ m. TranslatesAs target.depth m target.root (space_after target (Join base) space plan.reply)) same right.safe.done

pub premise_again : (target : Target) (request : Request) (memory : Memory) (space : Space) (offered : List (Option ℕ)) (plan : Plan) (address : ℕ)
    → IsRequest target request → IsPremise target.depth memory target.root (address_of request) space
    → IsRight target request memory space offered plan → HasOwnWay target.depth memory target.root address
    → IsPremise target.depth (ended memory plan) target.root address (space_after target request space plan.reply)
premise_again target request memory space offered plan address good premise right own = record {
  whole = right.whole;
  is_space = space_again premise.is_space request plan.reply plan.stores.items good right.due right.fits (λ none base is due after changed. subst
      (λ r. IsPremise target.depth memory target.root (address_of r) space → IsRight target r memory space offered plan → plan.stores.items ≡ []
      → refusal target space r ≡ None → space_after target r space plan.reply ≡ (stepped target.depth space r).space
      → changes (join space base).answer ≡ true → ⊥)
      (sym is) joins_store premise right none due after changed);
  translates = right.safe.done;
  own = right.own address own;
}
