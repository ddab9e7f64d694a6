-- What a performer's text asks for, as the code holds it.
use Rattle.std.specs.Prelude.{ℕ, List}
use Rattle.tdl_prepare.specs.declared.prepared.Prepared.{Prepared}
use Rattle.tdl_prepare.specs.declared.prepared.Prepared.TheVariants as prepared
use Rattle.tdl_answer.specs.Texts.{IsLook, IsSwapOf, SaysNothing}

-- what `prepare` makes of a text that is read
abbrev pub IsPreparedText : List ℕ → Prepared → Type 0
IsPreparedText text prepared.Nothing = SaysNothing text
IsPreparedText text prepared.Look = IsLook text
IsPreparedText text (prepared.Swap kept every change) = IsSwapOf text kept every change
