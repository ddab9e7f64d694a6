use Rattle.std.proofs.Common.{◌≡◌, ℕ, List, ◌++◌}
use Rattle.std.proofs.lemmas.Bool.Decides.{Decides-eqb}
use Rattle.std.proofs.lemmas.Slice.Eq.{strip_prefix_is}
use Rattle.tdl_log.proofs.ReadFronts.{none_of, some_of}
use Rattle.tdl_log.proofs.fronts.after.Goals as goal

pub returns-clause-some : goal.returns-clause-some
returns-clause-some c =
    some_of ((left : List ℕ) → c.args.text.now ≡ c.args.front.now ++ left → ⊥) (λ left. c.args.text.now ≡ c.args.front.now ++ left.now) c.strip_prefix.result
    (strip_prefix_is Decides-eqb c.args.text.now c.args.front.now c.strip_prefix.result c.strip_prefix.ensures.cases)

pub returns-clause-none : goal.returns-clause-none
returns-clause-none c =
    none_of ((left : List ℕ) → c.args.text.now ≡ c.args.front.now ++ left → ⊥) (λ left. c.args.text.now ≡ c.args.front.now ++ left.now) c.strip_prefix.result
    (strip_prefix_is Decides-eqb c.args.text.now c.args.front.now c.strip_prefix.result c.strip_prefix.ensures.cases)
