use Rattle.writing_law.proofs.laws.writer_law.Goals as goal

pub returns-clause-nothing : goal.returns-clause-nothing
returns-clause-nothing c files features seventeen are none limit = c.rule_law.ensures features (c.fit_law.ensures files features seventeen are none) limit

pub returns-clause-same : goal.returns-clause-same
returns-clause-same c files features seventeen are none limit = c.file_law.ensures features (c.fit_law.ensures files features seventeen are none) limit
