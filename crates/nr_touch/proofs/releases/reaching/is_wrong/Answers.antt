use Rattle.std.proofs.Common.{inl, inr, [], Contains, IsTrue, refl, sym, ◌∙◌, subst}
use Rattle.std.proofs.lemmas.Bool.{false≢true}
use Rattle.vs_types.specs.Space.{Holds}
use Rattle.vs_types.proofs.Spaces.{holds_listed}
use Rattle.nr_touch.specs.inside.Reached.{seen_before, LeadsSo}
use Rattle.nr_touch.specs.declared.releases.seen.Seen.{Seen}
use Rattle.nr_touch.proofs.ChangedRows.{same_place}
use Rattle.nr_touch.proofs.IndexedPages.{own_or_not, roomy_page}
use Rattle.nr_touch.proofs.ReachedPages.{reachable, reached_so}
use Rattle.nr_touch.proofs.SeenPages.{listed_seen, plain_seen, split}
use Rattle.nr_touch.proofs.Sighted.{map_contains}
use Rattle.nr_touch.proofs.releases.reaching.is_wrong.Goals as goal

pub leads-requires-clause-rows : goal.leads-requires-clause-rows
leads-requires-clause-rows c = c.requires.met.rows

pub returns-then-not-release-clause-wrong : goal.returns-then-not-release-clause-wrong
returns-then-not-release-clause-wrong c = λ b quiet known listed. (λ t. inl c.if-not-release.true, λ wrong. refl)

pub returns-clause-wrong : goal.returns-clause-wrong
returns-clause-wrong c = λ b quiet known listed.
    let own = c.args.joined.now.history.changes.items in
    let release = c.args.release.now in
    let is_space = c.requires.built.is_space in
    let met = c.requires.met in
    let leads = c.in_ok-found.ensures in (
      λ t. let (page, there) = leads.sound b t in inr (reachable b release page there),
      λ wrong. elim wrong [
        | inl not_done ↦ absurd (false≢true (sym not_done ∙ c.if-not-release.false))
        | inr can ↦ elim (reached_so c.requires.built b [] (listed_seen c.args.joined.now) (plain_seen c.requires.built) release c.requires.memory.0
            c.event_fits.ensures can) [
              | inl r ↦
                  let by_stay : Contains met.seen.seen r.s → IsTrue c.in_ok-found.found = λ has.
                  let (stay, has_stay, same, first, last, up) = met.seen.stays r.s release.made has c.event_fits.ensures r.alive in
                  leads.whole b stay.page known listed (inr (inl (record {
                    stay = stay;
                    has = has_stay;
                    same = refl;
                    from = first;
                    until = last;
                    leads = same_place b release stay.page r.s.page r.s.place stay.place same up (r.leads.0, r.leads.2);
                  }))) (met.rows.roomy stay has_stay) in
                  elim (split c.args.joined.now r.s r.has) [
                    | inl before ↦
                        let (change, has, same) = map_contains seen_before own r.s before in
                        by_stay (subst (Contains met.seen.seen) same (met.seen.are.before change has))
                    | inr (page, present, same) ↦
                        let holds : Holds c.args.joined.now.space.space page = (holds_listed is_space page).0 present in
                        elim (own_or_not own page) [
                          | inl has_own ↦ by_stay (subst (Contains met.seen.seen) (sym same) (met.seen.are.present page (met.all page holds has_own)))
                          | inr none ↦ leads.whole b page known listed
                              (inl (holds, quiet page holds none, subst (λ (s : Seen). LeadsSo b release s.page) same r.leads.0))
                              (roomy_page is_space page holds)
                        ]
                  ]
              | inr (page, frame, roomy, there) ↦ leads.whole b page known listed (inr (inr (frame, there))) roomy
            ]
      ],
    )

pub returns-clause-known : goal.returns-clause-known
returns-clause-known c = λ b known. c.in_ok-found.ensures.known b known

pub returns-clause-listed : goal.returns-clause-listed
returns-clause-listed c = λ b listed. c.in_ok-found.ensures.listed b listed
