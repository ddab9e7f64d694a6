-- What texts mean, said of the texts.
--     text                           the text that is one sequence of these elements
--     once, twice_as_long            a step written once, without a weight, and with `@2`
--     alone, pair, turns             the texts `a`, `a b` and `<a b>`
--     tree_of, means                 the tree of a text of a kind, and the pattern that it means
--     in_first_half, in_second_half  a cycle of a pattern, brought into one half of the cycle
--     HasHalves                      a cycle is two patterns' cycles, each in its half
--     later                          events moved by so many cycles
--     AreAlike, HaveOneTree          elements that stand for one another wherever they stand
--     Beat, flat                     a rest or a sound's name; the elements of a text that has these alone
--     AreTokensOf                    the tokens of a text are those of such beats
use Rattle.std.specs.Prelude.{◌≡◌, ℕ, false, None, Some, ℤ, List, [], ◌∷◌, ◌++◌, map}
use Rattle.std.specs.List.{fold}
use Rattle.tdl_control.specs.declared.keys.Key.TheVariants.{S}
use Rattle.tdl_control.specs.declared.leaves.Leaf.TheVariants.{Controls}
use Rattle.tdl_control.specs.Setting.{Spelling}
use Rattle.tdl_event.specs.Event.{Event}
use Rattle.tdl_fraction.specs.Rational.{whole, ◌+ℚ◌}
use Rattle.tdl_expr.specs.Tree.{Tree, Silence, Pure}
use Rattle.tdl_meaning.specs.Pattern.{Pattern, moved, squeezed}
use Rattle.tdl_meaning.specs.Meaning.{cyc}
use Rattle.tdl_mini_tree.specs.declared.leaves.Bracket.TheVariants.{Angle}
use Rattle.tdl_mini_tree.specs.declared.leaves.Kind.{Kind}
use Rattle.tdl_mini_tree.specs.declared.leaves.Number.{Number}
use Rattle.tdl_mini_tree.specs.declared.leaves.Tail.TheVariants.{Whole}
use Rattle.tdl_lexer.specs.declared.signs.Token.{Token}
use Rattle.tdl_lexer.specs.MiniForms.{mini_notation}
use Rattle.tdl_lexer.specs.Tokens.{IsCut}
use Rattle.tdl_mini_machine.specs.declared.marks.Mark.TheVariants as marks
use Rattle.tdl_mini_grammar.specs.Texts.{tok_of}
use Rattle.tdl_mini_machine.specs.Tokens.{Tok, letters, mark, end, has_sharp}
use Rattle.tdl_mini_tree.specs.Tree as tree
use Rattle.tdl_mini_rows.specs.Leaves.{Play}
use Rattle.tdl_mini_rows.specs.Lowered.{Finish, lowered, layers_built}

abbrev pub text : List tree.Element → tree.Layers
text elements = tree.layer tree.no_layer (tree.group tree.no_group (fold tree.element tree.no_element elements))

abbrev pub once : tree.MiniStep → tree.Element
once a = tree.played a None None

abbrev pub two : Number
two = record { is_negative = false; whole = 2; tail = Whole }

abbrev pub twice_as_long : tree.MiniStep → tree.Element
twice_as_long a = tree.played a (Some two) None

abbrev pub alone : tree.MiniStep → List tree.Element
alone a = once a ∷ []

abbrev pub pair : tree.MiniStep → tree.MiniStep → List tree.Element
pair a b = once a ∷ once b ∷ []

abbrev pub turns : tree.MiniStep → tree.MiniStep → List tree.Element
turns a b = alone (tree.begins (tree.bracketed (tree.nested tree.no_brace Angle (text (pair a b)))))

abbrev pub tree_of : Kind → List tree.Element → Tree
tree_of kind elements = (lowered kind (text elements)).value

abbrev pub means : Kind → List tree.Element → Pattern
means kind elements = cyc (tree_of kind elements)

abbrev pub in_first_half : ℤ → Pattern → List Event
in_first_half c p = map (moved (squeezed c 0 1 2)) (p c)

abbrev pub in_second_half : ℤ → Pattern → List Event
in_second_half c p = map (moved (squeezed c 1 1 2)) (p c)

-- of two patterns a cycle has that of the one in its first half and that of the other in its second
abbrev pub HasHalves : Pattern → Pattern → Pattern → ℤ → Type 0
HasHalves both p q c = both c ≡ in_first_half c p ++ in_second_half c q

abbrev pub later : ℤ → List Event → List Event
later cycles events = map (moved (λ t. t +ℚ whole cycles)) events

-- with the one or the other between what is before and what is after, a text is the same tree, by the same
-- rows; so are the layers inside brackets of any shape, and in arguments
pub record AreAlike (xs ys : List tree.Element) : Type 0 where
  pub texts : (kind : Kind) (before after : List tree.Element) →
      lowered kind (text (before ++ (xs ++ after))) ≡ lowered kind (text (before ++ (ys ++ after)))
  pub inside : (play : Play) (finish : Finish) (before after : List tree.Element) →
      layers_built play finish (text (before ++ (xs ++ after))) ≡ layers_built play finish (text (before ++ (ys ++ after)))

-- the same, with perhaps other rows
pub record HaveOneTree (xs ys : List tree.Element) : Type 0 where
  pub texts : (kind : Kind) (before after : List tree.Element) → tree_of kind (before ++ (xs ++ after)) ≡ tree_of kind (before ++ (ys ++ after))
  pub inside : (play : Play) (finish : Finish) (before after : List tree.Element) →
      (layers_built play finish (text (before ++ (xs ++ after)))).value ≡ (layers_built play finish (text (before ++ (ys ++ after)))).value

pub data Beat : Type 0 where
  Rest : Beat
  Named : List ℕ → Beat

abbrev pub beat_step : Beat → tree.MiniStep
beat_step Rest = tree.begins tree.rest
beat_step (Named name) = tree.begins (tree.value (tree.sound name None))

abbrev pub beat_tree : Beat → Tree
beat_tree Rest = Silence
beat_tree (Named name) = Pure (Controls ((S, Spelling name) ∷ []))

abbrev pub flat : List Beat → List tree.Element
flat beats = map (λ b. once (beat_step b)) beats

-- the token of a beat
abbrev pub beat_token : Beat → Tok
beat_token Rest = mark marks.Rest
beat_token (Named name) = letters name false

abbrev pub ArePlain : List Beat → Type 0
ArePlain [] = Unit {0}
ArePlain (Rest ∷ beats) = ArePlain beats
ArePlain (Named name ∷ beats) = (has_sharp name ≡ false) × ArePlain beats

-- the tokens of a text are those of these beats, of which no name has a `#`
pub record AreTokensOf (bytes : List ℕ) (beats : List Beat) : Type 0 where
  pub tokens : List Token
  pub cut : IsCut mini_notation bytes tokens
  pub are : map (tok_of bytes) tokens ≡ map beat_token beats ++ end ∷ []
  pub plain : ArePlain beats
