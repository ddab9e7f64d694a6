-- Which trees the grammar has, sizes and the rules on numbers apart.
--     Formed           its conditions on the layers of a text of a kind inside so many brackets
--     Reads            the tokens of a text, its end too, are spelled by a tree of the grammar
use Rattle.std.specs.Prelude.{ℕ, suc, ◌<◌, Some, None, List, IsTrue}
use Rattle.std.specs.List.{AllZip}
use Rattle.tdl_mini_tree.specs.Limits.{max_depth}
use Rattle.tdl_mini_tree.specs.declared.leaves.Kind.{Kind}
use Rattle.tdl_mini_tree.specs.declared.leaves.Kind.TheVariants.{Count, Ratio}
use Rattle.tdl_mini_machine.specs.Tokens.{Tok}
use Rattle.tdl_mini_grammar.specs.Spelling.{IsTokenOf, spell, terminals}
use Rattle.tdl_mini_tree.specs.Tree.{kind_after}
use Rattle.tdl_mini_tree.specs.Tree as tree
use Rattle.tdl_mini_machine.specs.NumberForms.{is_end, is_sample}

abbrev pub FormedValue : tree.Value → Type 0
FormedValue (tree.sound text None) = Unit {0}
FormedValue (tree.sound text (Some n)) = IsTrue (is_sample n)
FormedValue (tree.name text) = Unit {0}
FormedValue (tree.note n) = Unit {0}
FormedValue (tree.truth b) = Unit {0}
FormedValue (tree.number n) = Unit {0}

-- at least one layer, one group, one element
abbrev pub IsFilled : tree.Layers → Type 0
IsFilled tree.no_layer = ⊥
IsFilled (tree.layer ls s) = Unit {0}

abbrev pub HasGroup : tree.Sequence → Type 0
HasGroup tree.no_group = ⊥
HasGroup (tree.group s g) = Unit {0}

abbrev pub HasElement : tree.Group → Type 0
HasElement tree.no_element = ⊥
HasElement (tree.element g e) = Unit {0}

-- one sequence
abbrev pub IsSingle : tree.Layers → Type 0
IsSingle tree.no_layer = ⊥
IsSingle (tree.layer tree.no_layer s) = Unit {0}
IsSingle (tree.layer (tree.layer ls s) t) = ⊥

abbrev pub HasBrace : tree.Braces → Type 0
HasBrace tree.no_brace = ⊥
HasBrace (tree.brace bs ls) = Unit {0}

-- `_` and `!` do not come first in a group
abbrev pub MayFollow : tree.Group → tree.Element → Type 0
MayFollow g (tree.played s weight times) = Unit {0}
MayFollow g (tree.range a b) = Unit {0}
MayFollow g tree.hold = HasElement g
MayFollow g tree.repeat = HasElement g

-- a number alone is no bracket
abbrev pub IsBracketed : tree.Operand → Type 0
IsBracketed (tree.scaled bs n) = HasBrace bs
IsBracketed (tree.nested bs shape ls) = Unit {0}

-- a bracket has fewer than 16 open ones round it
abbrev mutual
  pub Formed : Kind → ℕ → tree.Layers → Type 0
  Formed kind depth tree.no_layer = Unit {0}
  Formed kind depth (tree.layer ls s) = Formed kind depth ls × HasGroup s × FormedSequence kind depth s

  pub FormedSequence : Kind → ℕ → tree.Sequence → Type 0
  FormedSequence kind depth tree.no_group = Unit {0}
  FormedSequence kind depth (tree.group s g) = FormedSequence kind depth s × FormedGroup kind depth g

  pub FormedGroup : Kind → ℕ → tree.Group → Type 0
  FormedGroup kind depth tree.no_element = Unit {0}
  FormedGroup kind depth (tree.element g e) = FormedGroup kind depth g × MayFollow g e × FormedElement kind depth e

  pub FormedElement : Kind → ℕ → tree.Element → Type 0
  FormedElement kind depth (tree.played s weight times) = FormedStep kind depth s
  FormedElement kind depth (tree.range a b) = IsTrue (is_end kind a) × IsTrue (is_end kind b)
  FormedElement kind depth tree.hold = Unit {0}
  FormedElement kind depth tree.repeat = Unit {0}

  pub FormedStep : Kind → ℕ → tree.MiniStep → Type 0
  FormedStep kind depth (tree.begins t) = FormedTerm kind depth t
  FormedStep kind depth (tree.fast s o) = FormedStep kind depth s × FormedOperand Ratio depth o
  FormedStep kind depth (tree.slow s o) = FormedStep kind depth s × FormedOperand Ratio depth o
  FormedStep kind depth (tree.euclid s k n) =
      FormedStep kind depth s × (depth < max_depth) × IsSingle k × Formed Count (suc depth) k × IsSingle n × Formed Count (suc depth) n
  FormedStep kind depth (tree.euclid_from s k n r) =
      FormedStep kind depth s × (depth < max_depth) × IsSingle k × Formed Count (suc depth) k × IsSingle n × Formed Count (suc depth) n
      × IsSingle r × Formed Count (suc depth) r

  pub FormedTerm : Kind → ℕ → tree.Term → Type 0
  FormedTerm kind depth (tree.value v) = FormedValue v
  FormedTerm kind depth tree.rest = Unit {0}
  FormedTerm kind depth (tree.bracketed o) = IsBracketed o × FormedOperand kind depth o

  pub FormedOperand : Kind → ℕ → tree.Operand → Type 0
  FormedOperand kind depth (tree.scaled bs n) = FormedBraces kind depth bs
  FormedOperand kind depth (tree.nested bs shape ls) =
      FormedBraces kind depth bs × (depth < max_depth) × IsFilled ls × Formed (kind_after kind bs) (suc depth) ls

  pub FormedBraces : Kind → ℕ → tree.Braces → Type 0
  FormedBraces kind depth tree.no_brace = Unit {0}
  FormedBraces kind depth (tree.brace bs ls) = FormedBraces kind depth bs × (depth < max_depth) × IsFilled ls × Formed (kind_after kind bs) (suc depth) ls

pub record Reads (kind : Kind) (tokens : List Tok) (ls : tree.Layers) : Type 0 where
  pub spelled : AllZip IsTokenOf (terminals (spell kind ls)) tokens
  pub filled : IsFilled ls
  pub formed : Formed kind 0 ls
