-- A history leads to one version.
use Rattle.std.proofs.Common.{◌≡◌, ◌≢◌, List, sym, ◌∙◌, subst}
use Rattle.std.proofs.lemmas.Option.{same_Some}
use Rattle.venue_types.specs.declared.query.Query.{Query}
use Rattle.venue_types.specs.declared.reply.Reply.{Reply}
use Rattle.venue_types.specs.declared.reply.Reply.TheVariants as reply
use Rattle.venue_history.specs.declared.entry.Entry.{Entry}
use Rattle.venue_history.specs.Answers.{Answers}
use Rattle.venue_history.specs.Closed.{Version}
use Rattle.venue_history.specs.Replies.{kind_of}
use Rattle.venue_hall.specs.Facts.{IsAnswered}

-- where at one version a question has one kind of reply, it has one where the same was seen
pub one_kind : ((v : Version) (query : Query) (r s : Reply) → r ≢ reply.OutOfMemory → s ≢ reply.OutOfMemory → Answers v query r → Answers v query s → kind_of r ≡ kind_of s)
    → (seen : List Entry) (query : Query) (r s : Reply) → r ≢ reply.OutOfMemory → s ≢ reply.OutOfMemory
    → IsAnswered seen query r → IsAnswered seen query s → kind_of r ≡ kind_of s
one_kind at seen query r s some other (v, stands, first) (w, leads, second) =
    let same : w ≡ v = same_Some w v (sym leads.leads ∙ stands.leads) in
    at v query r s some other first (subst (λ (u : Version). Answers u query s) same second)
