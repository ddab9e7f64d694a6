use Rattle.tdl_app.proofs.event_lines.put_events.Given as goal

abbrev pub ghosts-put_batches : goal.ghosts-put_batches
ghosts-put_batches g a = record { name = a.blank.name; parts = a.blank.parts }
