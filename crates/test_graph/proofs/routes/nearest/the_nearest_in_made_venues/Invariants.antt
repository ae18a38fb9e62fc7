use Rattle.test_graph.proofs.routes.nearest.the_nearest_in_made_venues.Given as goal

abbrev pub ghosts-judge_venues : goal.ghosts-judge_venues
ghosts-judge_venues a b = record { name = b.blank.name; parts = b.blank.parts }
