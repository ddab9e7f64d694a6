-- What `Ports` ends as where its places are lent.
use Rattle.std.specs.Prelude.{List}
use Rattle.std.specs.Borrow.{Lends, Fml, RattleType, MutBor, Array}
use Rattle.tdl_serve.specs.Places.{Places, with_items}
use Rattle.tdl_perform.specs.declared.ports.Port.{Port}
use Rattle.tdl_perform.specs.contracts.ports.Port.{the_row as port_row}
use Rattle.tdl_serve.specs.contracts.ports.Ports.{the_row}

module _ (S K : RattleType) (ports : MutBor (Places (Port S.Denot K.Denot))) where
  -- once the borrow r ends, the ports are those that r shows last
  abbrev pub lends_places : MutBor (List (Port S.Denot K.Denot)) → Fml
  lends_places r = Lends (the_row S K) (Array (port_row S K) 0) ports r (with_items ports.now)
