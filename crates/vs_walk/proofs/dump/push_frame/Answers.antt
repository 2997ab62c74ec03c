use Rattle.std.proofs.Common.{◌++◌, ap, ◌∙◌}
use Rattle.vs_walk.proofs.Added.{whole_added, taken_back}
use Rattle.vs_walk.proofs.dump.push_frame.Goals as goal

pub returns : goal.returns
returns c =
    let places = c.args.places.now.items in
    let words = c.args.words.now.items in
    let frame = c.args.frame.now in
    let added = c.push_nonzero.ensures.added in
    let place = c.len-place.ensures ∙ c.args.places.now.ok.0 in
    let start = c.len-start.ensures ∙ c.args.words.now.ok.0 in
    whole_added places words c.truncate.new.self.items c.push_all.new.words.items frame c.len-start.result
    (c.truncate.ensures.items ∙ taken_back c.push_nonzero.new.places.items places added.places c.len-place.result added.more_places place)
    (c.push_all.ensures.all ∙ ap (λ l. l ++ frame) (c.truncate-2.ensures.items
    ∙ taken_back c.push_nonzero.new.words.items words added.words c.len-start.result added.more_words start))
    c.push_nonzero.ensures.whole c.push_all.ensures.fit start
