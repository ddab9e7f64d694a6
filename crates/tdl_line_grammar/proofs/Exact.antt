-- The machine reads exactly what the grammar spells, rule by rule.
use Rattle.std.proofs.Common.{◌≡◌, List, ◌∷◌, refl}
use Rattle.tdl_line_machine.specs.declared.marks.Mark.TheVariants as mark
use Rattle.tdl_command.specs.Tree as tree
use Rattle.tdl_command.specs.Tree.{Expr, Exprs, no_expr, further, Parts, no_part, part, Fun, Line, Whole}
use Rattle.tdl_line_machine.specs.Pieces.{Piece}
use Rattle.tdl_line_grammar.specs.Spelling.{sign, fun_pieces}
use Rattle.tdl_line_grammar.proofs.Facts.{paren_tail, NameFact, ArgumentFact, NamedRead, RoundRead, FunFacts, OperandRead, ExprFacts}
use Rattle.tdl_line_grammar.proofs.Functions.{bare_named, bare_argument, ratio_named, count_named, bools_named, layer_named, every_named, cycle_named}
use Rattle.tdl_line_grammar.proofs.Functions.{off_named}
use Rattle.tdl_line_grammar.proofs.Functions.{euclid_named}
use Rattle.tdl_line_grammar.proofs.Functions.{euclid_off_named, within_named, paren_round, shift_round, paren_argument, named_whole, paren_whole, named_single}
use Rattle.tdl_line_grammar.proofs.Functions.{paren_single, chain_whole}
use Rattle.tdl_line_grammar.proofs.Expressions.{silence_operand, control_operand, inside_operand, shifted_operand, called_operand, operand_joined}
use Rattle.tdl_line_grammar.proofs.Expressions.{joined_joined}
use Rattle.tdl_line_grammar.proofs.Expressions.{joined_whole}
use Rattle.tdl_line_grammar.proofs.Expressions.{applied_whole, const_named, untrue}
use Rattle.tdl_line_grammar.proofs.Lists.{section_round, ListFacts, first_in_list, next_in_list, list_operand, PartsFacts, first_part, next_part}
use Rattle.tdl_line_grammar.proofs.Lists.{parts_operand_none, parts_operand}

-- a function with a name
named_facts : (f : Fun) → NamedRead f → ArgumentFact f → FunFacts f
named_facts f read argument = record {
  by_name = λ h. read;
  as_argument = argument;
  as_single = λ h. named_single f read;
  whole = named_whole f read;
}

-- a function in round brackets
paren_facts :
    (f : Fun) (tail : List Piece) → fun_pieces f ≡ sign mark.OpenRound ∷ tail → paren_tail f ≡ tail →
    RoundRead f → NameFact f → FunFacts f
paren_facts f tail e same read name = record {
  by_name = name;
  as_argument = λ h. paren_argument f tail e same read;
  as_single = λ h. paren_single f tail e same read;
  whole = paren_whole f tail e same read;
}

operand_facts : (e : Expr) → OperandRead e → ExprFacts e
operand_facts e read = record {
  as_operand = λ h. read;
  as_joined = λ h. operand_joined e read;
  whole = joined_whole e (operand_joined e read);
}

mutual
  pub expr_facts : (e : Expr) → ExprFacts e
  expr_facts tree.silence = operand_facts tree.silence silence_operand
  expr_facts (tree.control key s) = operand_facts (tree.control key s) (control_operand key s)
  expr_facts (tree.inside e) = operand_facts (tree.inside e) (inside_operand e (expr_facts e).whole)
  expr_facts (tree.shifted r way e) = operand_facts (tree.shifted r way e)
      (λ tested k begin kept spot b formed from. shifted_operand r way e ((expr_facts e).as_operand formed.0) tested k begin kept spot b formed from)
  expr_facts (tree.list shape es) = operand_facts (tree.list shape es) (list_operand shape es (exprs_facts es))
  expr_facts (tree.timecat no_part) = operand_facts (tree.timecat no_part) parts_operand_none
  expr_facts (tree.timecat (part ps w e)) = operand_facts (tree.timecat (part ps w e)) (parts_operand ps w e (parts_facts (part ps w e)))
  expr_facts (tree.called f e) = operand_facts (tree.called f e)
      (λ tested k begin kept spot b formed from.
      called_operand f e ((fun_facts f).by_name formed.0) ((expr_facts e).as_operand formed.2) tested k begin kept spot b formed from)
  expr_facts (tree.joined a operator b) = record {
    as_operand = λ h. absurd (untrue h);
    as_joined = λ h tested k begin kept spot begins s formed from.
        joined_joined a operator b ((expr_facts a).as_joined formed.0) ((expr_facts b).as_operand formed.2) tested k begin kept spot begins s formed from;
    whole = λ tested k begin kept begins s formed from.
        joined_whole (tree.joined a operator b) (λ t k2 begin2 kept2 spot2 begins2 s2 formed2 from2.
        joined_joined a operator b ((expr_facts a).as_joined formed2.0) ((expr_facts b).as_operand formed2.2) t k2 begin2 kept2 spot2 begins2 s2 formed2 from2)
        tested k begin kept begins s formed from;
  }
  expr_facts (tree.applied f e) = record {
    as_operand = λ h. absurd (untrue h);
    as_joined = λ h. absurd (untrue h);
    whole = applied_whole f e (fun_facts f).whole (expr_facts e).whole;
  }

  exprs_facts : (es : Exprs) → ListFacts es
  exprs_facts no_expr = tt
  exprs_facts (further no_expr e) = first_in_list e (expr_facts e).whole
  exprs_facts (further (further es x) e) = next_in_list es x e (exprs_facts (further es x)) (expr_facts e).whole

  parts_facts : (ps : Parts) → PartsFacts ps
  parts_facts no_part = tt
  parts_facts (part no_part w e) = first_part w e (expr_facts e).whole
  parts_facts (part (part ps v x) w e) = next_part ps v x w e (parts_facts (part ps v x)) (expr_facts e).whole

  pub fun_facts : (f : Fun) → FunFacts f
  fun_facts (tree.bare f) = named_facts (tree.bare f) (bare_named f) (λ h. bare_argument f)
  fun_facts (tree.of_ratio f r) = named_facts (tree.of_ratio f r) (ratio_named f r) (λ h. absurd (untrue h))
  fun_facts (tree.every n f) = named_facts (tree.every n f)
      (λ tested k begin kept spot names formed from. every_named n f ((fun_facts f).as_argument formed.0) tested k begin kept spot names formed from)
      (λ h. absurd (untrue h))
  fun_facts (tree.cycle g n o f) = named_facts (tree.cycle g n o f)
      (λ tested k begin kept spot names formed from. cycle_named g n o f ((fun_facts f).as_argument formed.0) tested k begin kept spot names formed from)
      (λ h. absurd (untrue h))
  fun_facts (tree.off r f) = named_facts (tree.off r f)
      (λ tested k begin kept spot names formed from. off_named r f ((fun_facts f).as_argument formed.0) tested k begin kept spot names formed from)
      (λ h. absurd (untrue h))
  fun_facts (tree.layer g f) = named_facts (tree.layer g f)
      (λ tested k begin kept spot names formed from. layer_named g f ((fun_facts f).as_argument formed.0) tested k begin kept spot names formed from)
      (λ h. absurd (untrue h))
  fun_facts (tree.of_count f n) = named_facts (tree.of_count f n) (count_named f n) (λ h. absurd (untrue h))
  fun_facts (tree.of_bools f r) = named_facts (tree.of_bools f r) (bools_named f r) (λ h. absurd (untrue h))
  fun_facts (tree.within a b f) = named_facts (tree.within a b f)
      (λ tested k begin kept spot names formed from. within_named a b f ((fun_facts f).as_argument formed.0) tested k begin kept spot names formed from)
      (λ h. absurd (untrue h))
  fun_facts (tree.euclid h n) = named_facts (tree.euclid h n) (euclid_named h n) (λ h. absurd (untrue h))
  fun_facts (tree.euclid_off h n r) = named_facts (tree.euclid_off h n r) (euclid_off_named h n r) (λ h. absurd (untrue h))
  fun_facts (tree.const e) = named_facts (tree.const e)
      (λ tested k begin kept spot names formed from. const_named e ((expr_facts e).as_operand formed.0) tested k begin kept spot names formed from)
      (λ h. absurd (untrue h))
  fun_facts (tree.paren f) = paren_facts (tree.paren f) _ refl refl (paren_round f (fun_facts f).whole) (λ h. absurd (untrue h))
  fun_facts (tree.section operator e) = paren_facts (tree.section operator e) _ refl refl
      (λ tested k r funs formed from. section_round operator e ((expr_facts e).as_joined formed.0) tested k r funs formed from) (λ h. absurd (untrue h))
  fun_facts (tree.shift r way) = paren_facts (tree.shift r way) _ refl refl (shift_round r way) (λ h. absurd (untrue h))
  fun_facts (tree.chain next f) = record {
    by_name = λ h. absurd (untrue h);
    as_argument = λ h. absurd (untrue h);
    as_single = λ h. absurd (untrue h);
    whole = λ tested k begin kept names formed from.
        chain_whole next f (fun_facts next).whole ((fun_facts f).as_single formed.1) tested k begin kept names formed from;
  }
