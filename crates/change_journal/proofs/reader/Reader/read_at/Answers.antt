use Rattle.std.proofs.Common.{sym, ◌∙◌, subst}
use Rattle.change_journal.specs.Forms.{IsLead}
use Rattle.change_journal.specs.Readers.{IsFoundAt}
use Rattle.change_journal.specs.declared.heads.Lead.{Lead}
use Rattle.change_journal.proofs.Looking.{now_gives, then_looks}
use Rattle.change_journal.proofs.reader.Reader.read_at.Goals as goal

pub published_at-requires-clause-head : goal.published_at-requires-clause-head
published_at-requires-clause-head g c = λ bytes is.
    subst (λ (l : Lead). IsLead c.args.place l bytes) c.in-Published.is (c.in-Ok.ensures.lead bytes (sym c.in-Ok.ensures.told ∙ is))

pub returns-in-Found-clause-found : goal.returns-in-Found-clause-found
returns-in-Found-clause-found g c =
    let old = g.K.Disk.moments c.args.self.now.disk in
    let place = c.args.place in
    now_gives (λ bytes. IsFoundAt place c.in-Found.found bytes) old (λ bytes is.
    subst (λ (l : Lead). IsLead place l bytes) c.in-Found.is (c.in-Ok.ensures.lead bytes is))

pub returns-in-Published-clause-only : goal.returns-in-Published-clause-only
returns-in-Published-clause-only g c =
    let both = then_looks c.in-Ok.ensures.looks c.published_at.ensures.looks in
    both.only c.in-Ok.ensures.kept
