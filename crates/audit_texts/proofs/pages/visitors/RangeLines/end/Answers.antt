use Rattle.std.proofs.Common.{ap, subst, string_bytes, ◌∙◌}
use Rattle.audit_texts.specs.inside.Taking.{HasJoined}
use Rattle.audit_texts.proofs.Taking.{last_closed, none_left}
use Rattle.audit_texts.proofs.pages.visitors.RangeLines.end.Goals as goal
use Rattle.audit_texts.proofs.pages.visitors.RangeLines.end.Goals.{in-Some+in_ok-push_range_line, in_default}

pub returns : goal.returns
returns c pages had fits =
    let text = string_bytes c.args.self.text in
    elim c.match-open.branch [
      | in-Some+in_ok-push_range_line w ↦
          ap string_bytes w.text-is
          ∙ last_closed text (string_bytes w.push_range_line.new.text) w.in-Some.range pages w.in_ok-push_range_line.ensures
          (subst (λ open_range. HasJoined text open_range pages) w.in-Some.is had) fits
      | in_default w ↦
          ap string_bytes w.text-is ∙ none_left text pages (subst (λ open_range. HasJoined text open_range pages) w.in_default.is had) fits
    ]
