-- What worked expressions are, each by computing alone: the tree, and how many links each row has, in their order.
use Rattle.std.proofs.Common.{◌≡◌, ℕ, true, false, pos, negsuc, None, List, [], ◌∷◌, codes, refl}
use Rattle.tdl_control.specs.declared.keys.Key.TheVariants as key
use Rattle.tdl_control.specs.declared.leaves.Leaf.TheVariants as leaf
use Rattle.tdl_control.specs.declared.ops.MapOp.TheVariants.{Union}
use Rattle.tdl_control.specs.Setting.{Number as NumberSetting, Spelling}
use Rattle.tdl_euclid.specs.Euclid.{pairs, grouped}
use Rattle.tdl_fraction.specs.Divisor.{gcd, lcm}
use Rattle.tdl_fraction.specs.Rational.{frac, lt_ℚ, neg_ℚ, flip, inverse}
use Rattle.tdl_fraction.specs.Rational as rational
use Rattle.tdl_expr.specs.declared.joinings.Op.TheVariants as op
use Rattle.tdl_expr.specs.declared.joinings.Side.TheVariants.{Left}
use Rattle.tdl_expr.specs.declared.rounds.Test.TheVariants.{Equal}
use Rattle.tdl_expr.specs.Tree.{Tree, Silence, Pure, Fast, TimeCat, Cat, Stack, Rev, Pick, When, Shift, Join, Gate, empty, child, none, step}
use Rattle.tdl_mini_tree.specs.declared.leaves.Bracket.TheVariants.{Angle}
use Rattle.tdl_mini_tree.specs.declared.leaves.Number.{Number}
use Rattle.tdl_mini_tree.specs.declared.leaves.Tail.TheVariants.{Whole, Decimals}
use Rattle.tdl_mini_tree.specs.Tree as mini
use Rattle.tdl_rows.specs.Built.{Built}
use Rattle.tdl_mini_rows.specs.Lowered.{layers_built}
use Rattle.tdl_command.specs.declared.marks.Way.TheVariants.{Earlier, Later}
use Rattle.tdl_command.specs.declared.names.BareFun.TheVariants as bare_name
use Rattle.tdl_command.specs.declared.names.BoolsFun.TheVariants.{Mask}
use Rattle.tdl_command.specs.declared.names.LayerFun.TheVariants.{Jux}
use Rattle.tdl_command.specs.declared.names.RatioFun.TheVariants as ratio_name
use Rattle.tdl_command.specs.declared.names.Shape.TheVariants as shape
use Rattle.tdl_command.specs.declared.tree.Plain.TheVariants.{Bare, Signed, Quotient}
use Rattle.tdl_command.specs.Tree.{Ratio, plain, measured, whole, quoted, numeral, negative, Expr, silence, control, inside}
use Rattle.tdl_mini_tree.specs.Reading.{Reading, read}
use Rattle.tdl_command.specs.Tree.{shifted}
use Rattle.tdl_command.specs.Tree.{list, timecat, called, joined, applied, no_expr, further, no_part, part, Fun, bare, of_ratio, every, off, layer, of_bools}
use Rattle.tdl_command.specs.Tree.{within, euclid, const, paren, section, shift, chain}
use Rattle.tdl_mini_tree.specs.declared.leaves.Kind.TheVariants as kind
use Rattle.tdl_prepare.specs.Built.{built}

-- ---- texts
abbrev n : ℕ → Number
n size = record { is_negative = false; whole = size; tail = Whole }

abbrev plays : mini.Value → mini.Element
plays v = mini.played (mini.begins (mini.value v)) None None

-- of which kind it is says nothing of what is built
abbrev one : mini.Element → Reading
one e = read kind.Sound (mini.layer mini.no_layer (mini.group mini.no_group (mini.element mini.no_element e)))

abbrev two : mini.Element → mini.Element → mini.Layers
two d e = mini.layer mini.no_layer (mini.group mini.no_group (mini.element (mini.element mini.no_element d) e))

-- by turns
abbrev turns : mini.Element → mini.Element → Reading
turns d e = one (mini.played (mini.begins (mini.bracketed (mini.nested mini.no_brace Angle (two d e)))) None None)

abbrev of : ℕ → mini.Element
of size = plays (mini.number (n size))

abbrev bits : Reading
bits = read kind.Bool (two (plays (mini.truth true)) (plays (mini.truth false)))

-- ---- expressions
abbrev bd : Expr
bd = control key.S (quoted (one (plays (mini.sound (codes "bd") None))))

abbrev sn : Expr
sn = control key.S (quoted (one (plays (mini.sound (codes "sn") None))))

abbrev plainly : ℕ → Ratio
plainly size = plain (Bare (n size))

abbrev fast : ℕ → Fun
fast rate = of_ratio ratio_name.Fast (plainly rate)

abbrev rev : Fun
rev = bare bare_name.Rev

-- (# n 1)
abbrev numbered : Fun
numbered = section (record { side = Left; op = Union }) (control key.N (numeral (n 1)))

-- ---- trees
abbrev sounds : List ℕ → Tree
sounds name = Pure (leaf.Controls ((key.S, Spelling name) ∷ []))

abbrev bass : Tree
bass = sounds (codes "bd")

abbrev snare : Tree
snare = sounds (codes "sn")

abbrev one_n : Tree
one_n = Pure (leaf.Controls ((key.N, NumberSetting (pos 1)) ∷ []))

abbrev indices : Tree
indices = Cat (child (Pure (leaf.Index 0)) (child (Pure (leaf.Index 1)) empty))

abbrev panned : ℕ → Tree → Tree
panned pan t = Join Left (op.Controls Union) t (Pure (leaf.Controls ((key.Pan, NumberSetting (pos pan)) ∷ [])))

abbrev made : Tree → List ℕ → Built Tree
made t rows = record { value = t; rows = rows }

-- silence
nothing : built silence ≡ made Silence (0 ∷ [])
nothing = refl

-- s "bd"
text : built bd ≡ made bass (0 ∷ [])
unfolding layers_built rational.whole frac gcd lcm
text = refl

-- note (-3)
negative_note : built (control key.Note (negative (n 3))) ≡ made (Pure (leaf.Controls ((key.Note, NumberSetting (negsuc 2)) ∷ []))) (0 ∷ [])
negative_note = refl

-- s "bd" # n 1
join : built (joined bd (record { side = Left; op = Union }) (control key.N (numeral (n 1))))
    ≡ made (Join Left (op.Controls Union) bass one_n) (0 ∷ 0 ∷ 2 ∷ [])
unfolding layers_built rational.whole frac gcd lcm
join = refl

-- rev . fast 2 $ s "bd"
after : built (applied (chain rev (fast 2)) bd) ≡ made (Rev (Fast (rational.whole (pos 2)) bass)) (0 ∷ 1 ∷ 1 ∷ [])
unfolding layers_built rational.whole lt_ℚ neg_ℚ frac gcd lcm
after = refl

-- fast "<2 3>" . (# n 1) $ s "bd": the texts of the first function, the operand of the second, the text of the
-- sound, the join, and then the choice
texts_first : built (applied (chain (of_ratio ratio_name.Fast (measured (turns (of 2) (of 3)))) numbered) bd)
    ≡ made
    (Pick indices
    (child (Fast (rational.whole (pos 2)) (Join Left (op.Controls Union) bass one_n))
    (child (Fast (rational.whole (pos 3)) (Join Left (op.Controls Union) bass one_n)) empty)))
    (0 ∷ 0 ∷ 2 ∷ 0 ∷ 0 ∷ 2 ∷ 1 ∷ 1 ∷ 3 ∷ [])
unfolding layers_built rational.whole lt_ℚ neg_ℚ frac gcd lcm
texts_first = refl

-- fast "<2 3>" $ (# n 1) $ s "bd": the same tree, and the same rows
one_by_one : built (applied (of_ratio ratio_name.Fast (measured (turns (of 2) (of 3)))) (applied numbered bd))
    ≡ made
    (Pick indices
    (child (Fast (rational.whole (pos 2)) (Join Left (op.Controls Union) bass one_n))
    (child (Fast (rational.whole (pos 3)) (Join Left (op.Controls Union) bass one_n)) empty)))
    (0 ∷ 0 ∷ 2 ∷ 0 ∷ 0 ∷ 2 ∷ 1 ∷ 1 ∷ 3 ∷ [])
unfolding layers_built rational.whole lt_ℚ neg_ℚ frac gcd lcm
one_by_one = refl

-- (# n 1) . fast "<2 3>" $ s "bd": the operand of the first function before the text of the second
operand_first : built (applied (chain numbered (of_ratio ratio_name.Fast (measured (turns (of 2) (of 3))))) bd)
    ≡ made
    (Join Left (op.Controls Union)
    (Pick indices (child (Fast (rational.whole (pos 2)) bass) (child (Fast (rational.whole (pos 3)) bass) empty))) one_n)
    (0 ∷ 0 ∷ 0 ∷ 2 ∷ 0 ∷ 1 ∷ 1 ∷ 3 ∷ 2 ∷ [])
unfolding layers_built rational.whole lt_ℚ neg_ℚ frac gcd lcm
operand_first = refl

-- every 2 (# n 1) $ s "bd"
every_second : built (applied (every (whole 2) (paren numbered)) bd)
    ≡ made (When 2 (Equal 0) (Join Left (op.Controls Union) bass one_n) bass) (0 ∷ 0 ∷ 2 ∷ 2 ∷ [])
unfolding layers_built rational.whole frac gcd lcm
every_second = refl

-- every 0 (# n 1) $ s "bd": the operand is there, and the function is not applied
never : built (applied (every (whole 0) (paren numbered)) bd) ≡ made bass (0 ∷ 0 ∷ [])
unfolding layers_built rational.whole frac gcd lcm
never = refl

-- off 0 rev $ s "bd"
off_0 : built (applied (off (plainly 0) rev) bd)
    ≡ made (Stack (child bass (child (Rev (Shift (rational.whole (pos 0)) bass)) empty))) (0 ∷ 1 ∷ 1 ∷ 2 ∷ [])
unfolding layers_built rational.whole frac gcd lcm
off_0 = refl

-- jux rev $ s "bd"
sides : built (applied (layer Jux rev) bd) ≡ made (Stack (child (panned 0 bass) (child (Rev (panned 1 bass)) empty))) (0 ∷ 0 ∷ 2 ∷ 0 ∷ 2 ∷ 1 ∷ 2 ∷ [])
unfolding layers_built rational.whole frac gcd lcm
sides = refl

-- const (s "sn") $ s "bd": the operand comes first, and the row that it stands for is not used
constant : built (applied (const (inside sn)) bd) ≡ made snare (0 ∷ 0 ∷ [])
unfolding layers_built rational.whole frac gcd lcm
constant = refl

-- 0.25 ~> s "bd"
later : built (shifted (plain (Bare (record { is_negative = false; whole = 0; tail = Decimals 2500 }))) Later bd)
    ≡ made (Shift (frac (pos 1) 4) bass) (0 ∷ 1 ∷ [])
unfolding layers_built rational.whole neg_ℚ frac gcd lcm
later = refl

-- 0 <~ s "bd"
not_moved : built (shifted (plainly 0) Earlier bd) ≡ made bass (0 ∷ [])
unfolding layers_built rational.whole neg_ℚ frac gcd lcm
not_moved = refl

-- (1/4 <~) $ s "bd"
earlier : built (applied (shift (plain (Quotient false (n 1) (n 4))) Earlier) bd) ≡ made (Shift (frac (negsuc 0) 4) bass) (0 ∷ 1 ∷ [])
unfolding layers_built rational.whole neg_ℚ frac gcd lcm
earlier = refl

-- fast (-2) $ s "bd"
turned : built (applied (of_ratio ratio_name.Fast (plain (Signed true (n 2)))) bd) ≡ made (Rev (Fast (rational.whole (pos 2)) bass)) (0 ∷ 1 ∷ 1 ∷ [])
unfolding layers_built rational.whole lt_ℚ neg_ℚ frac gcd lcm
turned = refl

-- mask "t f" $ s "bd"
masked : built (applied (of_bools Mask bits) bd)
    ≡ made (Join Left op.Mask bass (TimeCat (step 1 (Pure (leaf.Truth true)) (step 1 (Pure (leaf.Truth false)) none)))) (0 ∷ 0 ∷ 2 ∷ 0 ∷ 2 ∷ [])
unfolding layers_built rational.whole frac gcd lcm
masked = refl

-- within (0, 0.5) rev $ s "bd"
half : built (applied (within (Bare (n 0)) (Bare (record { is_negative = false; whole = 0; tail = Decimals 5000 })) rev) bd)
    ≡ made
    (Stack
    (child (Gate (rational.whole (pos 0)) (frac (pos 1) 2) true (Rev bass)) (child (Gate (rational.whole (pos 0)) (frac (pos 1) 2) false bass) empty)))
    (0 ∷ 1 ∷ 1 ∷ 1 ∷ 2 ∷ [])
unfolding layers_built rational.whole frac gcd lcm
half = refl

-- euclid 1 2 s "bd"
rhythm : built (called (euclid (whole 1) (whole 2)) bd) ≡ made (TimeCat (step 1 bass (step 1 Silence none))) (0 ∷ 0 ∷ 2 ∷ [])
unfolding layers_built pairs grouped rational.whole frac gcd lcm
rhythm = refl

-- timecat [(3, s "bd"), (1.5, s "sn")]
weights : built (timecat (part (part no_part (n 3) bd) (record { is_negative = false; whole = 1; tail = Decimals 5000 }) sn))
    ≡ made (TimeCat (step 2 bass (step 1 snare none))) (0 ∷ 0 ∷ 2 ∷ [])
unfolding layers_built rational.whole frac gcd lcm
weights = refl

-- cat [s "bd", s "sn"]
turn : built (list shape.Cat (further (further no_expr bd) sn)) ≡ made (Cat (child bass (child snare empty))) (0 ∷ 0 ∷ 2 ∷ [])
unfolding layers_built rational.whole frac gcd lcm
turn = refl

-- stack [s "bd"]
alone : built (list shape.Stack (further no_expr bd)) ≡ made bass (0 ∷ [])
unfolding layers_built rational.whole frac gcd lcm
alone = refl

-- fastcat []
empty_list : built (list shape.Fastcat no_expr) ≡ made Silence (0 ∷ [])
empty_list = refl
