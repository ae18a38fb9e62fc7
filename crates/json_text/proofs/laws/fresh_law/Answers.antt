-- The laws of a text in a fresh draft, as their lemmas have them.
use Rattle.json_text.proofs.Drafts.{fresh_front, fresh_holds, fresh_counts, fresh_room}
use Rattle.json_text.proofs.laws.fresh_law.Goals as goal

pub returns-clause-front : goal.returns-clause-front
returns-clause-front c = λ n s. fresh_front n s

pub returns-clause-held : goal.returns-clause-held
returns-clause-held c = λ n s within. fresh_holds n s within

pub returns-clause-counted : goal.returns-clause-counted
returns-clause-counted c = λ n s. fresh_counts n s

pub returns-clause-room : goal.returns-clause-room
returns-clause-room c = λ n s. fresh_room n s
