use Rattle.tdl_play_tests.proofs.query.begins_as_meant.Given as goal

abbrev pub ghosts-onsets_in : goal.ghosts-onsets_in
ghosts-onsets_in a = record { name = a.blank.name; parts = a.blank.parts }
