-- The program of an expression, or why there is none.
--     prepare_fault     why it is refused, if it is: at the first push that goes above the limits of a table, and then as
--                       `compile` says
--     IsProgramOf       a program whose tree is the expression's and can be played, in a table that has exactly its rows
--     PreparesTo        what a call that prepares an expression answers
--     pattern_built     the tree of a pattern alone
--     IsChangeOf        the change that a line asks for, with a program of its pattern
--     IsPreparedAs      what was prepared is what the line asks for
--     PreparesLine      what a call that prepares a line answers
use Rattle.std.specs.Prelude.{◌≡◌, ◌⊎◌, Option, Some, None, Result, Err, List, ℕ, map, IfOk, IfErr, IfSome}
use Rattle.std.specs.Option.{option_map, option_and_then}
use Rattle.tdl_expr.specs.Rows.{links_of, tree_at}
use Rattle.tdl_expr.specs.Valid.{IsValid, IsWithinLimits}
use Rattle.tdl_compile.specs.Compiled.{Compiled}
use Rattle.tdl_expr.specs.declared.tables.PushFault.{PushFault}
use Rattle.tdl_expr.specs.declared.tables.PushFault.TheVariants as push
use Rattle.tdl_expr.specs.Tree.{Tree}
use Rattle.tdl_compile.specs.declared.faults.CompileFault.{CompileFault}
use Rattle.tdl_compile.specs.declared.faults.CompileFault.TheVariants as compile
use Rattle.tdl_compile.specs.Compiled.{bounds_fault}
use Rattle.tdl_rows.specs.Built.{Built}
use Rattle.tdl_rows.specs.Lowers.{first_overflow}
use Rattle.tdl_mini_tree.specs.declared.leaves.Kind.TheVariants.{Sound}
use Rattle.tdl_mini_rows.specs.Lowered.{lowered}
use Rattle.tdl_desk.specs.declared.changes.Change.{Change}
use Rattle.tdl_desk.specs.declared.changes.Change.TheVariants as change
use Rattle.tdl_command.specs.Tree.{PatternTree, sounds, expression}
use Rattle.tdl_prepare.specs.Built.{built}
use Rattle.tdl_prepare.specs.Asked.{Asked, nothing, look, swap, pattern_asked}
use Rattle.tdl_prepare.specs.declared.prepared.Prepared.{Prepared}
use Rattle.tdl_prepare.specs.declared.prepared.Prepared.TheVariants as prepared
use Rattle.tdl_prepare.specs.declared.faults.PrepareFault.{PrepareFault}
use Rattle.tdl_prepare.specs.declared.faults.PrepareFault.TheVariants.{NoMemory, TooLarge, TooDense, TooFine, TooFar}

abbrev pub pushed : PushFault → PrepareFault
pushed push.NoMemory = NoMemory
pushed (push.TooLarge rows links) = TooLarge rows links

abbrev pub compiled : CompileFault → PrepareFault
compiled compile.NoMemory = NoMemory
compiled (compile.TooDense load) = TooDense load
compiled (compile.TooFine grid) = TooFine grid
compiled (compile.TooFar reach) = TooFar reach

abbrev pub fault_of : Option PushFault → Option CompileFault → Option PrepareFault
fault_of (Some large) later = Some (pushed large)
fault_of None later = option_map compiled later

-- in a table of its own
abbrev pub prepare_fault : Built Tree → Option PrepareFault
prepare_fault built = fault_of (first_overflow 0 0 built.rows) (bounds_fault built.value)

pub record IsProgramOf (built : Built Tree) (program : Compiled) : Type 0 where
  pub tree : tree_at program.nodes program.root ≡ built.value
  pub rows : map links_of program.nodes ≡ built.rows
  pub valid : IsValid (tree_at program.nodes program.root)
  pub limits : IsWithinLimits (tree_at program.nodes program.root)

pub record PreparesTo (built : Built Tree) (result : Result Compiled PrepareFault) : Type 0 where
  pub ok : IfOk result (IsProgramOf built)
  -- what is too large for its limits is refused, or memory runs out before that
  pub refused : IfSome (prepare_fault built) (λ fault. (result ≡ Err fault) ⊎ (result ≡ Err NoMemory))
  pub only : IfErr result (λ fault. (prepare_fault built ≡ Some fault) ⊎ (fault ≡ NoMemory))

abbrev pub pattern_built : PatternTree → Built Tree
pattern_built (sounds ls) = lowered Sound ls
pattern_built (expression e) = built e

abbrev pub IsChangeOf : Change (Built Tree) → Change Compiled → Type 0
IsChangeOf (change.Set orbit pattern) (change.Set o program) = (o ≡ orbit) × IsProgramOf pattern program
IsChangeOf (change.Set orbit pattern) _ = ⊥
IsChangeOf change.Hush c = c ≡ change.Hush
IsChangeOf (change.Mute orbit) c = c ≡ change.Mute orbit
IsChangeOf (change.Unmute orbit) c = c ≡ change.Unmute orbit
IsChangeOf (change.Solo orbit) c = c ≡ change.Solo orbit
IsChangeOf (change.Unsolo orbit) c = c ≡ change.Unsolo orbit
IsChangeOf change.UnmuteAll c = c ≡ change.UnmuteAll
IsChangeOf change.UnsoloAll c = c ≡ change.UnsoloAll

-- a swap has the text of its line
abbrev pub IsPreparedAs : Asked (Built Tree) → List ℕ → Prepared → Type 0
IsPreparedAs nothing text p = p ≡ prepared.Nothing
IsPreparedAs look text p = p ≡ prepared.Look
IsPreparedAs (swap every c) text (prepared.Swap t n d) = (t ≡ text) × (n ≡ every) × IsChangeOf c d
IsPreparedAs (swap every c) text _ = ⊥

abbrev pub line_fault : Asked (Built Tree) → Option PrepareFault
line_fault a = option_and_then prepare_fault (pattern_asked a)

pub record PreparesLine (a : Asked (Built Tree)) (text : List ℕ) (result : Result Prepared PrepareFault) : Type 0 where
  pub ok : IfOk result (IsPreparedAs a text)
  -- a pattern that is too large for its limits is refused, or memory runs out before that
  pub refused : IfSome (line_fault a) (λ fault. (result ≡ Err fault) ⊎ (result ≡ Err NoMemory))
  pub only : IfErr result (λ fault. (line_fault a ≡ Some fault) ⊎ (fault ≡ NoMemory))
