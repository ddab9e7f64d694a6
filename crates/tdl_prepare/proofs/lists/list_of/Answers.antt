use Rattle.std.proofs.Common.{sym, ap}
use Rattle.tdl_rows.specs.Lowers.{trees_at}
use Rattle.tdl_rows.proofs.Gained.{LowersTo-same}
use Rattle.tdl_command.specs.declared.names.Shape.{Shape}
use Rattle.tdl_prepare.specs.Built.{list_of}
use Rattle.tdl_prepare.proofs.lists.list_of.Goals as goal

pub returns-in-Stack : goal.returns-in-Stack
returns-in-Stack c =
    LowersTo-same _ _ _ _ c.stack_of.result (ap (λ (s : Shape). list_of s (trees_at c.args.table.now c.args.ids.now)) (sym c.in-Stack.is)) c.stack_of.ensures

pub returns-in-Cat : goal.returns-in-Cat
returns-in-Cat c =
    LowersTo-same _ _ _ _ c.cat_of.result (ap (λ (s : Shape). list_of s (trees_at c.args.table.now c.args.ids.now)) (sym c.in-Cat.is)) c.cat_of.ensures

pub returns-in-Fastcat : goal.returns-in-Fastcat
returns-in-Fastcat c =
    LowersTo-same _ _ _ _ c.fastcat_of.result
    (ap (λ (s : Shape). list_of s (trees_at c.args.table.now c.args.ids.now)) (sym c.in-Fastcat.is)) c.fastcat_of.ensures
