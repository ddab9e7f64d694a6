use Rattle.tdl_score.proofs.due.due_between.Given as goal

abbrev pub ghosts-due_in : goal.ghosts-due_in
ghosts-due_in a = record { name = a.blank.name; parts = a.blank.parts }
