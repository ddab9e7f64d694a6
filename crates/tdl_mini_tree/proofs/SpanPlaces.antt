-- What the spans of finished layers are of.
--     changes_values           changes have no values of their own
--     step_values_of           a step's values are those of its term
--     played_values            and so are those of an element that is a step
--     span_moves               a span is one of the same values
--     fits_place               there is a name for further layers
use Rattle.std.proofs.Common.{◌≡◌, ℕ, ◌<◌, List, [], ◌∷◌, length, refl, ap, ◌∙◌, arith}
use Rattle.std.specs.List.{fold}
use Rattle.tdl_fraction.specs.Rational.{Rational}
use Rattle.tdl_mini_tree.specs.declared.extremes.Extremes.{Extremes}
use Rattle.tdl_mini_tree.specs.declared.tree.Layers.{Layers}
use Rattle.tdl_mini_tree.specs.declared.leaves.Number.{Number}
use Rattle.tdl_mini_tree.specs.declared.tree.Element.{Element}
use Rattle.tdl_mini_tree.specs.declared.tree.Element.TheVariants.{Played}
use Rattle.tdl_mini_tree.specs.declared.tree.MiniStep.{MiniStep}
use Rattle.tdl_mini_tree.specs.declared.tree.Term.{Term}
use Rattle.tdl_mini_tree.specs.declared.tree.StepChange.{StepChange}
use Rattle.tdl_mini_tree.specs.declared.tree.StepChange.TheVariants.{Fast, Slow, Euclid}
use Rattle.std.specs.Prelude.{Option, Some, None, ◌-◌, ◌^◌}
use Rattle.tdl_mini_tree.specs.Tree as tree
use Rattle.tdl_mini_tree.specs.View.{element_of, term_of, changed, step_of, trees_of}
use Rattle.tdl_mini_tree.specs.Values.{step_values, term_values, element_values}
use Rattle.tdl_mini_tree.specs.Extremes.{AreExtremes, ends_of, numerators}
use Rattle.tdl_mini_tree.proofs.ViewPushes.{length-trees_of}

-- ---- values
pub changes_values : (trees : List tree.Layers) (s : tree.MiniStep) (cs : List StepChange) → step_values (fold (changed trees) s cs) ≡ step_values s
changes_values trees s [] = refl
changes_values trees s (Fast o ∷ cs) = changes_values trees (changed trees s (Fast o)) cs
changes_values trees s (Slow o ∷ cs) = changes_values trees (changed trees s (Slow o)) cs
changes_values trees s (Euclid k n None ∷ cs) = changes_values trees (changed trees s (Euclid k n None)) cs
changes_values trees s (Euclid k n (Some r) ∷ cs) = changes_values trees (changed trees s (Euclid k n (Some r))) cs

pub step_values_of : (trees : List tree.Layers) (s : MiniStep) → step_values (step_of trees s) ≡ term_values (term_of trees s.term)
step_values_of trees s = changes_values trees (tree.begins (term_of trees s.term)) s.changes.items

pub played_values : (trees : List tree.Layers) (e : Element) (s : MiniStep) (weight count : Option Number) (term : Term) → e ≡ Played s weight count
    → s.term ≡ term → element_values (element_of trees e) ≡ term_values (term_of trees term)
played_values trees e s weight count term is at =
    ap (λ (x : Element). element_values (element_of trees x)) is
    ∙ (step_values_of trees s ∙ ap (λ (x : Term). term_values (term_of trees x)) at)

-- a span of the same values
pub span_moves : (span : Extremes) (values same : List Rational) → AreExtremes span values → values ≡ same → AreExtremes span same
span_moves span values same h e = h ∙ ap (λ xs. ends_of (numerators xs)) e

-- ---- further layers
pub fits_place : (nests : List Layers) (len : ℕ) → len ≡ length nests → length (trees_of nests) < 2 ^ 32 - 1 → len < 2 ^ 32
fits_place nests len e room = let l = length-trees_of nests in omega arith
