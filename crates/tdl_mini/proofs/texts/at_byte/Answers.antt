-- The stage of a token is where its first byte stands.
use Rattle.std.proofs.Common.{ap, sym, subst}
use Rattle.tdl_control.specs.declared.faults.Faulted.{Faulted}
use Rattle.tdl_control.specs.declared.faults.Faulted.TheVariants.{At}
use Rattle.tdl_lexer.specs.declared.signs.Token.{Token}
use Rattle.tdl_mini_tree.specs.declared.faults.MiniKind.{MiniKind}
use Rattle.tdl_mini.specs.inside.LoopView.{IsAtToken}
use Rattle.tdl_mini.proofs.texts.at_byte.Goals as goal

pub returns-in-At : goal.returns-in-At
returns-in-At c =
    subst (λ (f : Faulted MiniKind). IsAtToken c.args.tokens.now f (At c.in-At.kind c.get.result.now.at)) (sym c.in-At.is)
    (λ d. ap (λ (t : Token). At c.in-At.kind t.at) (c.get.ensures d))
