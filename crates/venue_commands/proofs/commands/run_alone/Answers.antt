use Rattle.venue_commands.proofs.commands.run_alone.Goals as goal

pub returns-clause-ends : goal.returns-clause-ends
returns-clause-ends g c = c.answer-status.ensures.ends

pub returns-clause-headline : goal.returns-clause-headline
returns-clause-headline g c words is = c.run_headline_law.ensures words (g.F.Folders.files c.args.folders) _ _ (c.answer-status.ensures.ends words is)

pub returns-clause-files : goal.returns-clause-files
returns-clause-files g c = c.answer-status.ensures.files

pub returns-clause-left : goal.returns-clause-left
returns-clause-left g c = c.answer-status.ensures.left

pub returns-clause-folders_later : goal.returns-clause-folders_later
returns-clause-folders_later g c = c.answer-status.ensures.folders_later

pub returns-clause-console_later : goal.returns-clause-console_later
returns-clause-console_later g c = c.answer-status.ensures.console_later
