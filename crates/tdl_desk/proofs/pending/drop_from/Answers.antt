use Rattle.std.proofs.Common.{◌∙◌, sym}
use Rattle.std.specs.Prelude.{option_to_list}
use Rattle.tdl_desk.proofs.LaterLists.{last_low, popped_rises, popped_same}
use Rattle.tdl_desk.proofs.pending.drop_from.Goals as goal

pub returns-then-is_from-clause-rises : goal.returns-then-is_from-clause-rises
returns-then-is_from-clause-rises g c =
    popped_rises c.args.pending.now.items c.pop_back.new.self.items (option_to_list c.pop_back.result) c.pop_back.ensures.items c.requires

pub returns-then-is_from-clause-same : goal.returns-then-is_from-clause-same
returns-then-is_from-clause-same g c =
    popped_same c.args.pending.now.items c.pop_back.new.self.items c.pop_back.result c.args.boundary c.pop_back.ensures.items
    (sym c.is_last_from-is_from.ensures ∙ c.if-is_from.true)

pub returns-else-is_from-clause-low : goal.returns-else-is_from-clause-low
returns-else-is_from-clause-low g c = λ none. last_low c.args.pending.now.items c.args.boundary c.requires (sym c.is_last_from-is_from.ensures ∙ none)
