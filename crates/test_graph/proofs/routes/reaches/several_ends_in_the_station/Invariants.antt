use Rattle.test_graph.proofs.routes.reaches.several_ends_in_the_station.Given as goal

abbrev pub ghosts-judge_rows : goal.ghosts-judge_rows
ghosts-judge_rows a b = record { name = b.blank.name; parts = b.blank.parts }
