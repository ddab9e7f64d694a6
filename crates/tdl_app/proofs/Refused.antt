-- From a fault of a part to what it says of the whole query.
--     not_read, not_prepared      the pattern is not read, or not prepared
use Rattle.std.proofs.Common.{◌≡◌, ◌⊎◌, inl, inr, Some, refl, ap}
use Rattle.std.proofs.lemmas.Bool.{false≢true}
use Rattle.tdl_control.specs.declared.faults.Faulted.{Faulted}
use Rattle.tdl_control.specs.declared.faults.Faulted.TheVariants as faulted
use Rattle.tdl_fraction.specs.Arc.{Arc}
use Rattle.tdl_command.specs.Tree.{PatternTree}
use Rattle.tdl_line_machine.specs.declared.faults.LineKind.{LineKind}
use Rattle.tdl_line_texts.specs.Texts.{RefusesPattern}
use Rattle.tdl_prepare.specs.declared.faults.PrepareFault.{PrepareFault}
use Rattle.tdl_prepare.specs.declared.faults.PrepareFault.TheVariants as prepare
use Rattle.tdl_answer.specs.TextFaults.{of_reading, of_preparing}
use Rattle.tdl_answer.proofs.ReadTexts.{is_memory}
use Rattle.tdl_words.specs.Modes.{Query}
use Rattle.tdl_app.specs.Answer.{Asks, pattern_fault, unread, too_large, too_dense, too_fine, too_far}
use Rattle.tdl_app.specs.inside.QueryFaults.{IsFaultOf, of_text}

-- a pattern that is not read
pub not_read : (q : Query) (fault : Faulted LineKind) → RefusesPattern q.pattern fault → IsFaultOf q (of_text (of_reading fault))
not_read q faulted.NoMemory h = tt
not_read q (faulted.At kind at) h = unread kind at h refl

-- a pattern that is not prepared
pub not_prepared : (q : Query) (pattern : PatternTree) (arc : Arc) → Asks q pattern arc → (fault : PrepareFault)
    → (pattern_fault pattern ≡ Some fault) ⊎ (fault ≡ prepare.NoMemory) → IsFaultOf q (of_text (of_preparing fault))
not_prepared q pattern arc asks prepare.NoMemory h = tt
not_prepared q pattern arc asks (prepare.TooLarge rows links) (inl e) = too_large pattern arc asks rows links e refl
not_prepared q pattern arc asks (prepare.TooDense load) (inl e) = too_dense pattern arc asks load e refl
not_prepared q pattern arc asks (prepare.TooFine grid) (inl e) = too_fine pattern arc asks grid e refl
not_prepared q pattern arc asks (prepare.TooFar reach) (inl e) = too_far pattern arc asks reach e refl
not_prepared q pattern arc asks (prepare.TooLarge rows links) (inr e) = absurd (false≢true (ap is_memory e))
not_prepared q pattern arc asks (prepare.TooDense load) (inr e) = absurd (false≢true (ap is_memory e))
not_prepared q pattern arc asks (prepare.TooFine grid) (inr e) = absurd (false≢true (ap is_memory e))
not_prepared q pattern arc asks (prepare.TooFar reach) (inr e) = absurd (false≢true (ap is_memory e))
