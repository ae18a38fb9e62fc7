-- What holds of the fields of an office and of a pass holds of what is seen of them.
use Rattle.std.proofs.Common.{◌≡◌, List, subst}
use Rattle.venue_types.specs.declared.query.Change.{Change}
use Rattle.venue_types.specs.declared.reply.Reply.{Reply}
use Rattle.venue_hall.specs.Entry.{Entry}
use Rattle.venue_hall.specs.Changes.{Changes}
use Rattle.venue_hall.specs.Facts.{Facts}
use Rattle.shared_hall.specs.Offices.{OfficeFacts}

-- a change of the fields
pub changes_seen : (inside office : OfficeFacts) (within pass : Facts) (asked : Change) (r : Reply) (k : List Entry) → inside ≡ office → within ≡ pass
    → Changes inside.shelf within.worker asked inside.entries r k → Changes office.shelf pass.worker asked office.entries r k
changes_seen inside office within pass asked r k office_is pass_is changes =
    subst (λ (p : Facts). Changes office.shelf p.worker asked office.entries r k) pass_is (subst (λ (o : OfficeFacts). Changes o.shelf within.worker asked o.entries r k) office_is changes)
