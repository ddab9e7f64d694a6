-- What is open where a number is closed.
--     number_refused    no number may stand alone in it
use Rattle.std.proofs.Common.{Box, Global, ◌≡◌, Option, Some, None, refl}
use Rattle.tdl_line_reader.specs.declared.stages.Hole.{Hole}
use Rattle.tdl_line_reader.specs.declared.stages.Hole.TheVariants as hole
use Rattle.tdl_line_reader.specs.declared.stages.Bracketed.TheVariants as round
use Rattle.tdl_line_machine.specs.declared.calls.RatioCall.{RatioCall}
use Rattle.tdl_line_reader.specs.declared.stages.Spot.{Spot}
use Rattle.tdl_command.specs.declared.tree.Plain.{Plain}
use Rattle.tdl_line_machine.specs.Tokens.{Tok}
use Rattle.tdl_line_machine.specs.Machine.Arguments.{number_hole}
use Rattle.tdl_line_machine.specs.Machine.States.{Core, refused}
use Rattle.tdl_line_reader.specs.ReaderView.{closed_on}

pub number_refused : (t : Tok) (p : Plain) (c : Core) (o : Option Hole) → (o ≡ Some (hole.Bracketed round.Anything) → ⊥)
    → (o ≡ Some (hole.Bracketed round.ExprOrNumber) → ⊥) → (o ≡ Some (hole.Bracketed round.FunOrNumber) → ⊥)
    → ((spot : Spot) (call : RatioCall) → o ≡ Some (hole.Measure spot call) → ⊥)
    → ((from : Option (Box Plain Global)) → o ≡ Some (hole.Bound from) → ⊥) → closed_on c t (number_hole t p) o ≡ refused c t
number_refused t p c None any expr fun measure bound = refl
number_refused t p c (Some (hole.Bracketed round.Anything)) any expr fun measure bound = absurd (any refl)
number_refused t p c (Some (hole.Bracketed round.ExprOrNumber)) any expr fun measure bound = absurd (expr refl)
number_refused t p c (Some (hole.Bracketed round.FunOrNumber)) any expr fun measure bound = absurd (fun refl)
number_refused t p c (Some (hole.Measure spot call)) any expr fun measure bound = absurd (measure spot call refl)
number_refused t p c (Some (hole.Bound from)) any expr fun measure bound = absurd (bound from refl)
number_refused t p c (Some h) any expr fun measure bound = refl
