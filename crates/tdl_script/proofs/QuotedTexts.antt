-- What reading a quoted text answers.
--     read_as        a text that is read is this in its kind
--     refused_as     what it is refused for is its fault there
--     near           which stands near its beginning
use Rattle.std.specs.Prelude.{IfOk, IfErr}
use Rattle.std.proofs.Common.{◌≡◌, ℕ, ◌≤◌, List, Result, Ok, Err, length, sym, ap₂, ◌∙◌, arith}
use Rattle.tdl_control.specs.declared.faults.Faulted.{Faulted}
use Rattle.tdl_control.specs.declared.faults.Faulted.TheVariants.{NoMemory, At}
use Rattle.tdl_mini_tree.specs.declared.faults.MiniKind.{MiniKind}
use Rattle.tdl_mini_tree.specs.declared.leaves.Kind.{Kind}
use Rattle.tdl_mini_tree.specs.declared.tree.Tree.{Tree}
use Rattle.tdl_mini_tree.specs.Reading.{Reading, read, unread}
use Rattle.tdl_mini_tree.specs.Syntax.{syntax_of}
use Rattle.tdl_mini_grammar.specs.Readings.{IsReading}
use Rattle.tdl_mini_grammar.specs.Texts.{IsMini, Refuses}
use Rattle.tdl_mini_grammar.proofs.Readings.{refused_within}
use Rattle.tdl_mini_grammar.proofs.TextsRead.{IsMini-unique, IsMini-no_fault, Refuses-unique}
use Rattle.tdl_command.specs.View.{reading_of}
use Rattle.tdl_line_texts.specs.Limits.{max_line}
use Rattle.tdl_line_reader.specs.Quoted.{IsNear, IsRefusal}

tree_as : (kind : Kind) (bytes : List ℕ) (t : Tree) → t.kind ≡ kind → IsMini kind bytes (syntax_of t) → (reading : Reading) → IsReading kind bytes reading
    → reading ≡ reading_of t
tree_as kind bytes t same h (read k ls) is = ap₂ read (is.0 ∙ sym same) (IsMini-unique kind bytes ls (syntax_of t) is.1 h)
tree_as kind bytes t same h (unread k at) is = absurd (IsMini-no_fault kind bytes (syntax_of t) k at h is)

pub read_as : (kind : Kind) (bytes : List ℕ) (result : Result Tree (Faulted MiniKind)) → IfOk result (λ t. t.kind ≡ kind)
    → IfOk result (λ t. IsMini kind bytes (syntax_of t)) → IfOk result (λ t. (reading : Reading) → IsReading kind bytes reading → reading ≡ reading_of t)
read_as kind bytes (Ok t) same h = tree_as kind bytes t same h
read_as kind bytes (Err fault) same h = tt

fault_as : (kind : Kind) (bytes : List ℕ) (k : MiniKind) (at : ℕ) → Refuses kind bytes (At k at) → (reading : Reading) → IsReading kind bytes reading
    → IsRefusal reading (At k at)
fault_as kind bytes k at h (read other ls) is = IsMini-no_fault kind bytes ls k at is.1 h
fault_as kind bytes k at h (unread g n) is = Refuses-unique kind bytes k g at n h is

pub refused_as : (kind : Kind) (bytes : List ℕ) (result : Result Tree (Faulted MiniKind)) → IfErr result (Refuses kind bytes)
    → IfErr result (λ fault. (reading : Reading) → IsReading kind bytes reading → IsRefusal reading fault)
refused_as kind bytes (Ok t) h = tt
refused_as kind bytes (Err NoMemory) h = λ reading is. tt
refused_as kind bytes (Err (At k at)) h = fault_as kind bytes k at h

pub near : (kind : Kind) (bytes : List ℕ) (result : Result Tree (Faulted MiniKind)) → length bytes ≤ max_line → IfErr result (Refuses kind bytes)
    → IfErr result IsNear
near kind bytes (Ok t) short h = tt
near kind bytes (Err NoMemory) short h = tt
near kind bytes (Err (At k at)) short h = omega (arith, short, refused_within kind bytes k at h)
