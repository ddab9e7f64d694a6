use Rattle.std.proofs.Common.{arith}
use Rattle.std.proofs.lemmas.Int.{ints}
use Rattle.tdl_rows.proofs.Gained.{LowersTo-same}
use Rattle.tdl_prepare.proofs.Settings.{text_played, text_is, number_is, negative_is}
use Rattle.tdl_prepare.proofs.leaves.setting_row.Goals as goal

pub lower-requires : goal.lower-requires
lower-requires c = rw c.deref.ensures (text_played c.args.key c.args.setting.now c.in-Text.text c.in-Text.is c.requires)

pub returns-in-Text : goal.returns-in-Text
returns-in-Text c =
    LowersTo-same _ _ _ _ c.lower.result (text_is c.args.key c.args.setting.now c.in-Text.text c.in-Text.is c.requires)
    (rw c.deref.ensures at c.lower.ensures)

pub returns-in-Number : goal.returns-in-Number
returns-in-Number c =
    LowersTo-same _ _ _ _ c.number_row.result
    (number_is c.args.key c.args.setting.now c.in-Number.number _ c.in-Number.is (omega (arith, ints))) c.number_row.ensures

pub returns-in-Negative : goal.returns-in-Negative
returns-in-Negative c =
    LowersTo-same _ _ _ _ c.number_row-in-Negative.result
    (negative_is c.args.key c.args.setting.now c.in-Negative.number _ c.in-Negative.is (omega (arith, ints))) c.number_row-in-Negative.ensures
