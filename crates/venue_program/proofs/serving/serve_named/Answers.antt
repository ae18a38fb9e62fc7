use Rattle.venue_program.proofs.serving.serve_named.Goals as goal

pub returns-clause-counts : goal.returns-clause-counts
returns-clause-counts g c = c.serve_hall.ensures.counts

pub returns-clause-folders : goal.returns-clause-folders
returns-clause-folders g c = c.serve_hall.ensures.folders

pub returns-clause-folders_later : goal.returns-clause-folders_later
returns-clause-folders_later g c = c.serve_hall.ensures.folders_later

pub returns-clause-binds : goal.returns-clause-binds
returns-clause-binds g c = c.serve_hall.ensures.binds

pub returns-clause-bound : goal.returns-clause-bound
returns-clause-bound g c = c.serve_hall.ensures.bound

pub returns-clause-accepted : goal.returns-clause-accepted
returns-clause-accepted g c = c.serve_hall.ensures.accepted

pub returns-clause-sound : goal.returns-clause-sound
returns-clause-sound g c = c.serve_hall.ensures.sound

pub returns-clause-failed : goal.returns-clause-failed
returns-clause-failed g c = c.serve_hall.ensures.failed

pub returns-clause-unserved : goal.returns-clause-unserved
returns-clause-unserved g c = c.serve_hall.ensures.unserved

pub returns-clause-doors_later : goal.returns-clause-doors_later
returns-clause-doors_later g c = c.serve_hall.ensures.doors_later

pub returns-clause-kept : goal.returns-clause-kept
returns-clause-kept g c = c.serve_hall.ensures.kept

pub returns-clause-log_later : goal.returns-clause-log_later
returns-clause-log_later g c = c.serve_hall.ensures.log_later
