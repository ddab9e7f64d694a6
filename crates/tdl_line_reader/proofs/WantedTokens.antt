-- A mark where something begins at a spot.
use Rattle.std.proofs.Common.{◌≡◌, true, refl}
use Rattle.tdl_mini_tree.specs.declared.leaves.Kind.{Kind}
use Rattle.tdl_mini_tree.specs.Reading.{Reading}
use Rattle.tdl_line_machine.specs.declared.marks.Mark.{Mark}
use Rattle.tdl_line_reader.specs.declared.tokens.Tok.{Tok}
use Rattle.tdl_line_reader.specs.declared.tokens.Tok.TheVariants as tok
use Rattle.tdl_line_machine.specs.Machine.Expressions.{wanted, wanted_mark}
use Rattle.tdl_line_machine.specs.Machine.States.{Core, Spot}
use Rattle.tdl_line_reader.specs.ReaderView.{tok_value}

pub marked_wanted : {Q : Type 0} (c : Core) (s : Spot) (readings : Kind → Reading) (t : Tok Q) (m k : Mark) → t ≡ tok.Mark m → m ≡ k
    → wanted true c (tok_value readings t) s ≡ wanted_mark true c (tok_value readings t) s k
marked_wanted c s readings t m k e same = rw (e, same) refl
