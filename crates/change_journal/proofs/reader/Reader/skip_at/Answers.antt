use Rattle.std.proofs.Common.{sym, ◌∙◌, subst}
use Rattle.change_journal.specs.Forms.{IsLead, IsLeadWithin}
use Rattle.change_journal.specs.Readers.{IsSkippedAt}
use Rattle.change_journal.specs.declared.heads.Lead.{Lead}
use Rattle.change_journal.proofs.Looking.{now_gives, then_looks}
use Rattle.change_journal.proofs.reader.Reader.skip_at.Goals as goal

pub skipped_at-requires-clause-head : goal.skipped_at-requires-clause-head
skipped_at-requires-clause-head g c = λ bytes is.
    subst (λ (l : Lead). IsLead c.args.place l bytes) c.in-Published.is (c.in_ok-found.ensures.lead bytes (sym c.in_ok-found.ensures.told ∙ is))

pub returns-in-Found-clause-skipped : goal.returns-in-Found-clause-skipped
returns-in-Found-clause-skipped g c =
    let old = g.K.Disk.moments c.args.self.now.disk in
    let place = c.args.place in
    now_gives (λ bytes. IsSkippedAt place c.skipped_of.result bytes) old (λ bytes is.
    c.skipped_of.ensures.same place bytes (subst (λ (l : Lead). IsLead place l bytes) c.in-Found.is (c.in_ok-found.ensures.lead bytes is)))

pub returns-in-Found-clause-next : goal.returns-in-Found-clause-next
returns-in-Found-clause-next g c =
    let end = c.args.self.now.length in
    c.skipped_of.ensures.within c.args.place end (subst (λ (l : Lead). IsLeadWithin c.args.place end l) c.in-Found.is c.in_ok-found.ensures.within)

pub returns-in-Published-clause-only : goal.returns-in-Published-clause-only
returns-in-Published-clause-only g c =
    let both = then_looks c.in_ok-found.ensures.looks c.skipped_at.ensures.looks in
    both.only c.in_ok-found.ensures.kept
