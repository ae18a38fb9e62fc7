use Rattle.test_base.proofs.steps.steps_take_no_bytes.Given as goal

abbrev pub ghosts-walk : goal.ghosts-walk
ghosts-walk g a = record { name = a.blank.name; parts = a.blank.parts }
