use Rattle.std.proofs.Common.{IsTrue, not, refl, sym, ap, subst}
use Rattle.tdl_mini_tree.specs.declared.leaves.Kind.{Kind}
use Rattle.tdl_mini_tree.specs.Syntax.{syntax_of}
use Rattle.tdl_mini_rows.specs.Arguments.{is_argument}
use Rattle.tdl_mini_rows.specs.Lowered.{lowered}
use Rattle.tdl_rows.proofs.Gained.{LowersTo-same}
use Rattle.tdl_prepare.proofs.leaves.bools_row.Goals as goal

pub lower-requires : goal.lower-requires
lower-requires c = let P : Kind → Type 0 = λ k. IsTrue (not (is_argument k)) in subst P (sym c.requires) refl

pub returns : goal.returns
returns c = LowersTo-same _ _ _ _ c.lower.result (ap (λ (k : Kind). lowered k (syntax_of c.args.text.now)) c.requires) c.lower.ensures
