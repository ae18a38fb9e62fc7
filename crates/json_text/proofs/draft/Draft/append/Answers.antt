-- What finds room is added, and the sum stops at the most that a count can be.
use Rattle.std.proofs.Common.{rules, ◌-◌, ◌^◌, ◌∙◌, ap₂, length}
use Rattle.json_text.specs.Drafts.{onto}
use Rattle.json_text.proofs.Drafts.{made, stops}
use Rattle.json_text.proofs.draft.Draft.append.Goals as goal

pub returns : goal.returns
unfolding onto
returns c =
    let inside = c.self.inside in
    rw (← c.self.view_is)
    (ap₂ (made inside.room) c.add_within_room.ensures.items
    (c.saturating_add-self-inside.ensures ∙ stops (2 ^ 64 - 1) inside.len (length c.args.bytes.now) (search rules)))
