use Rattle.std.proofs.Common.{◌≡◌, List, [], ◌∷◌, Option, Some, ap, sym, subst, rules}
use Rattle.atomic_table.specs.Table.{opening}
use Rattle.tdl_turn.specs.inside.Views.{first_view}
use Rattle.tdl_turn.specs.inside.Rule.{Ruled}
use Rattle.tdl_turn.proofs.Ends.{starts}
use Rattle.tdl_turn.proofs.moves.open.Goals as goal

pub new-requires : goal.new-requires
new-requires g c =
    let history = g.V.Chronicle.history in let fixed = g.V.Chronicle.fixed in let key = fixed c.of-about.result.value in
    let items : c.push.new.self.items ≡ Some c.args.value ∷ [] = search rules in
    subst (λ (xs : List (Option g.row.V.Denot)). Ruled history fixed g.V.Chronicle.by key (opening (0 ∷ 0 ∷ 0 ∷ []) xs (first_view key))) (sym items)
    (starts history fixed g.V.Chronicle.by key c.args.value c.requires (ap fixed (sym c.of-about.ensures)))
