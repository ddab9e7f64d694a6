use Rattle.std.proofs.Common.{IsTrue, sym, subst}
use Rattle.tdl_fraction.specs.Rational.{Rational}
use Rattle.tdl_mini_rows.specs.inside.Bounds.{is_rate}
use Rattle.tdl_mini_rows.proofs.Bounded.{is_rate-parts}
use Rattle.tdl_mini_rows.proofs.brackets.finish_of.Goals as goal

pub returns-in-Brace-clause-way : goal.returns-in-Brace-clause-way
returns-in-Brace-clause-way c =
    let P : Rational → Type 0 = λ rate. IsTrue (is_rate rate) in
    subst P (sym c.decimal.ensures) (is_rate-parts c.first_parts.result c.first_parts.ensures.small)
