-- A grammar whose texts are told by a test.
--     Rules            its parts
--     grammar_of       the grammar
use Rattle.std.specs.Prelude.{Bool, List, IsTrue}
use Rattle.tdl_grammar.specs.Grammar.{Test, Grammar}

pub record Rules (Token Tree Kind Place : Type 0) : Type 0 where
  pub reads : List Token → Tree → Bool
  pub tests : Tree → List (Test Kind Place)
  pub is_joined : Token → Bool
  pub wrong_kind : List Token → Token → Kind
  pub wrong_at : List Token → Token → Place

abbrev pub grammar_of : {Token Tree Kind Place : Type 0} → Rules Token Tree Kind Place → Grammar
grammar_of {Token} {Tree} {Kind} {Place} r = record {
  Token = Token;
  Tree = Tree;
  Kind = Kind;
  Place = Place;
  Reads = λ tokens tree. IsTrue (r.reads tokens tree);
  tests = r.tests;
  is_joined = r.is_joined;
  wrong_kind = r.wrong_kind;
  wrong_at = r.wrong_at;
}
