use Rattle.program_run.proofs.runs.write_as_found.Goals as goal

pub returns-in_default-clause-front : goal.returns-in_default-clause-front
returns-in_default-clause-front g c = c.in_default.ensures.front

pub returns-clause-whole : goal.returns-clause-whole
returns-clause-whole g c = c.in-Ok.ensures.whole
