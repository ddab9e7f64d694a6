use Rattle.tdl_perform.proofs.ports.PortCallerCore.did_law.Goals as goal

pub returns : goal.returns
returns g c = λ tempo number numbers history seen old new end own reads did.
    c.ports_stay.ensures tempo number numbers history seen _ _ end own reads did
