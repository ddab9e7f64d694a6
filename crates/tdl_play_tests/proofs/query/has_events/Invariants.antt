use Rattle.tdl_play_tests.proofs.query.has_events.Given as goal

abbrev pub ghosts-events_in : goal.ghosts-events_in
ghosts-events_in a = record { name = a.blank.name; parts = a.blank.parts }
