use Rattle.tdl_serve.proofs.ticker.TickerLeaderCore.did_law.Goals as goal

pub returns : goal.returns
returns g c = λ tempo numbers history seen old new end legal own reads did. record {
  beaten = c.beaten_stays.ensures tempo old.length numbers history seen _ _ end legal own reads did.beaten;
  clock = did.clock;
  osc = did.osc;
  midi = did.midi;
}
