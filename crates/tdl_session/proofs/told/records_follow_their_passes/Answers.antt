use Rattle.tdl_session.proofs.Records.{told_met, told_accepted, told_refused}
use Rattle.tdl_session.proofs.told.records_follow_their_passes.Goals as goal

pub returns-clause-accepted : goal.returns-clause-accepted
returns-clause-accepted g c = λ fixed p q call reply own called told h.
    told_accepted g.M.Chronicle.by g.M.Machine.adds fixed p q told own call reply called h

pub returns-clause-refused : goal.returns-clause-refused
returns-clause-refused g c = λ fixed p q call refusal told own refused h.
    told_refused g.M.Chronicle.by g.M.Machine.adds fixed p q told own (λ es. g.M.Machine.refuses fixed es p.number call refusal) refused h

pub returns-clause-met : goal.returns-clause-met
returns-clause-met g c = λ fixed n numbers history seen told own r h.
    told_met g.M.Chronicle.by g.M.Machine.adds fixed n numbers history seen told own r h
