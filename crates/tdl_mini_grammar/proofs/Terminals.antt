-- What the parts of a tree spell, without the rules.
use Rattle.std.specs.Prelude.{Option, List}
use Rattle.tdl_mini_tree.specs.declared.leaves.Number.{Number}
use Rattle.tdl_mini_tree.specs.declared.leaves.Kind.{Kind}
use Rattle.tdl_mini_grammar.specs.Spelling.{Terminal, terminals, comma_after, dot_after, weight_pieces, layers_pieces, sequence_pieces}
use Rattle.tdl_mini_grammar.specs.Spelling.{group_pieces, element_pieces, step_pieces, operand_pieces, braces_pieces}
use Rattle.tdl_mini_tree.specs.Tree as tree

abbrev pub spell_weight : Option Number → List Terminal
spell_weight weight = terminals (weight_pieces weight)

abbrev pub spell_comma : tree.Layers → List Terminal
spell_comma ls = terminals (comma_after ls)

abbrev pub spell_dot : tree.Sequence → List Terminal
spell_dot s = terminals (dot_after s)

abbrev pub spell_layers : Kind → tree.Layers → List Terminal
spell_layers kind ls = terminals (layers_pieces kind ls)

abbrev pub spell_sequence : Kind → tree.Sequence → List Terminal
spell_sequence kind s = terminals (sequence_pieces kind s)

abbrev pub spell_group : Kind → tree.Sequence → tree.Group → List Terminal
spell_group kind s g = terminals (group_pieces kind s g)

abbrev pub spell_element : Kind → tree.Sequence → tree.Group → tree.Element → List Terminal
spell_element kind s g e = terminals (element_pieces kind s g e)

abbrev pub spell_step : Kind → tree.MiniStep → List Terminal
spell_step kind s = terminals (step_pieces kind s)

abbrev pub spell_operand : Kind → tree.Operand → List Terminal
spell_operand kind o = terminals (operand_pieces kind o)

abbrev pub spell_braces : Kind → tree.Braces → List Terminal
spell_braces kind bs = terminals (braces_pieces kind bs)
