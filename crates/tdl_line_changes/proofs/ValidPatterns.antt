-- The trees of lines that are read can be played.
--     expr_valid      of an expression that is read
--     swap_valid      the pattern of a change
use Rattle.std.specs.Prelude.{IsTrue, IfSome}
use Rattle.std.proofs.Common.{◌≡◌, ℕ, ◌<◌, Bool, not, nat_lt, nat_le, Some, None, List, [], ◌∷◌, refl, subst}
use Rattle.std.proofs.lemmas.Bool.{ltb-true}
use Rattle.tdl_control.specs.declared.keys.Key.{Key}
use Rattle.tdl_control.proofs.KeyLemmas.{each_key}
use Rattle.tdl_expr.specs.Tree.{Tree}
use Rattle.tdl_expr.specs.Valid.{IsValid}
use Rattle.tdl_mini_tree.specs.declared.leaves.Kind.{Kind}
use Rattle.tdl_mini_tree.specs.declared.leaves.Kind.TheVariants.{Bool as Truths, Count as Counts, Ratio as Ratios}
use Rattle.tdl_mini_tree.specs.declared.leaves.Number.{Number}
use Rattle.tdl_mini_tree.specs.Limits.{max_weight}
use Rattle.tdl_mini_tree.specs.Numbers.{is_weight, is_decimal_tail, weight_parts}
use Rattle.tdl_mini_tree.specs.Reading.{Reading, read, unread}
use Rattle.tdl_mini_tree.specs.Tree.{no_layer}
use Rattle.tdl_mini_tree.specs.Valid.{fits_key}
use Rattle.tdl_mini_tree.proofs.ValidParts.{and_four}
use Rattle.tdl_rows.specs.Built.{Built}
use Rattle.tdl_rows.proofs.MadeTrees.{AllValid, AreSteps, HasValid, valid-append, stack-valid, cat-valid, fastcat-valid, timecat-valid}
use Rattle.tdl_mini_rows.specs.Lowered.{lowered}
use Rattle.tdl_mini_rows.proofs.BuiltTrees.{lowered-valid, argument-valid, steps-append}
use Rattle.tdl_combinator.proofs.ValidFuns.{IsValidFun, applied-valid}
use Rattle.tdl_desk.specs.declared.changes.Change.{Change}
use Rattle.tdl_desk.specs.declared.changes.Change.TheVariants as change
use Rattle.tdl_desk.specs.Changes.{map_change, pattern_in}
use Rattle.tdl_command.specs.declared.marks.Way.{Way}
use Rattle.tdl_command.specs.declared.marks.Way.TheVariants.{Earlier, Later}
use Rattle.tdl_command.specs.declared.names.Shape.{Shape}
use Rattle.tdl_command.specs.declared.names.Shape.TheVariants.{Stack, Cat, Fastcat}
use Rattle.tdl_command.specs.declared.names.BareFun.TheVariants as bare_name
use Rattle.tdl_command.specs.declared.names.RatioFun.TheVariants as ratio_name
use Rattle.tdl_command.specs.declared.names.CountFun.TheVariants as count_name
use Rattle.tdl_command.specs.declared.names.BoolsFun.TheVariants as bools_name
use Rattle.tdl_command.specs.declared.names.LayerFun.TheVariants as layer_name
use Rattle.tdl_command.specs.declared.names.CycleFun.TheVariants as cycle_name
use Rattle.tdl_command.specs.declared.names.Order.TheVariants as order
use Rattle.tdl_command.specs.declared.names.Flag.TheVariants as flag
use Rattle.tdl_command.specs.Rules.{kind_of, has_rhythms, has_rhythms_from}
use Rattle.tdl_command.specs.Tree as tree
use Rattle.tdl_command.specs.Tree.{Line}
use Rattle.tdl_mini_tree.specs.declared.faults.MiniKind.TheVariants.{BadEuclid}
use Rattle.tdl_line_machine.specs.declared.faults.LineKind.TheVariants.{Mini}
use Rattle.tdl_line_machine.specs.Pieces.{Piece}
use Rattle.tdl_line_machine.specs.declared.goals.Goal.TheVariants.{Line as a_line}
use Rattle.tdl_line_grammar.specs.Spelling.{rule, text_pieces, plain_pieces, ratio_pieces, count_with, count_pieces, last_count, setting_pieces}
use Rattle.tdl_line_grammar.specs.Spelling.{comma_after, comma_after_parts}
use Rattle.tdl_line_grammar.specs.Spelling.{expr_pieces, exprs_pieces, parts_pieces, fun_pieces, line_pieces}
use Rattle.tdl_line_grammar.specs.inside.Kept.{AllKept}
use Rattle.tdl_line_grammar.proofs.ValidTexts.{left, right}
use Rattle.tdl_line_texts.proofs.KeptTexts.{kept_whole}
use Rattle.tdl_prepare.specs.Numbers.{layers_in, ratio_built, count_built}
use Rattle.tdl_prepare.specs.Built.{setting_built, list_of, shift_fun, built, exprs_built, parts_built, fun_built}
use Rattle.tdl_prepare.specs.Asked.{asked, swap}
use Rattle.tdl_line_changes.specs.Readings.{ReadsSwap}

-- ---- texts
kind_fits : (k : Key) → IsTrue (fits_key (kind_of k))
kind_fits = each_key (λ k. fits_key (kind_of k)) refl

text_valid : (kind : Kind) (text : Reading) → IsTrue (fits_key kind) → AllKept (text_pieces kind text) → IsValid (lowered kind (layers_in text)).value
text_valid kind (read k ls) key h = lowered-valid kind ls (h.0.1 key)
text_valid kind (unread fault at) key h = lowered-valid kind no_layer refl

setting_valid : (k : Key) (s : tree.Setting) → AllKept (setting_pieces (kind_of k) s) → IsValid (setting_built k s).value
setting_valid k (tree.quoted text) h = text_valid (kind_of k) text (kind_fits k) h
setting_valid k (tree.numeral n) h = tt
setting_valid k (tree.negative n) h = tt

-- ---- arguments
ratio_valid : (r : tree.Ratio) → AllKept (ratio_pieces r) → HasValid (ratio_built r).value
ratio_valid (tree.plain p) h = tt
ratio_valid (tree.measured (read k ls)) h = argument-valid Ratios ls (h.0.1 refl)
ratio_valid (tree.measured (unread fault at)) h = argument-valid Ratios no_layer refl

count_valid : (rules : List Piece) (c : tree.Count) → AllKept (count_with rules c) → HasValid (count_built c).value
count_valid rules (tree.whole n) h = tt
count_valid rules (tree.counted (read k ls)) h = argument-valid Counts ls ((right rules _ h).0.1 refl)
count_valid rules (tree.counted (unread fault at)) h = argument-valid Counts no_layer refl

last_valid : (rhythms : Bool) (c : tree.Count) → AllKept (last_count rhythms c) → HasValid (count_built c).value
last_valid rhythms c h = count_valid (rule (Mini BadEuclid) rhythms ∷ []) c h

-- ---- expressions and functions
list_valid : (shape : Shape) (ts : List Tree) → AllValid ts → IsValid (list_of shape ts).value
list_valid Stack ts p = stack-valid ts p
list_valid Cat ts p = cat-valid ts p
list_valid Fastcat ts p = fastcat-valid ts p

shifted_valid : (by : tree.Ratio) (way : Way) → AllKept (ratio_pieces by) → IsValidFun (shift_fun way (ratio_built by).value)
shifted_valid by Earlier h = ratio_valid by h
shifted_valid by Later h = ratio_valid by h

weight_above : (n : Number) → IsTrue (is_weight n) → 0 < weight_parts n
weight_above n h = ltb-true _ _ (and_four (not n.is_negative) (is_decimal_tail n.tail) (nat_lt 0 (weight_parts n)) (nat_le n.whole max_weight) h).2

mutual
  pub expr_valid : (e : tree.Expr) → AllKept (expr_pieces e) → IsValid (built e).value
  expr_valid tree.silence h = tt
  expr_valid (tree.control k to) h = setting_valid k to h.1
  expr_valid (tree.inside e) h = expr_valid e (left (expr_pieces e) _ h.1)
  expr_valid (tree.shifted by way e) h =
      applied-valid (shift_fun way (ratio_built by).value) (built e).value (shifted_valid by way (left (ratio_pieces by) _ h))
      (expr_valid e (right (ratio_pieces by) _ h).1)
  expr_valid (tree.list shape es) h = list_valid shape (exprs_built es).value (exprs_valid es (left (exprs_pieces es) _ h.1.1))
  expr_valid (tree.timecat ps) h = timecat-valid (parts_built ps).value (parts_valid ps (left (parts_pieces ps) _ h.1.1))
  expr_valid (tree.called f e) h =
      applied-valid (fun_built f).value (built e).value (fun_valid f (left (fun_pieces f) _ h)) (expr_valid e (right (fun_pieces f) _ h))
  expr_valid (tree.joined d o e) h = (expr_valid d (left (expr_pieces d) _ h), expr_valid e (right (expr_pieces d) _ h).1)
  expr_valid (tree.applied f e) h =
      applied-valid (fun_built f).value (built e).value (fun_valid f (left (fun_pieces f) _ h)) (expr_valid e (right (fun_pieces f) _ h).1)

  exprs_valid : (es : tree.Exprs) → AllKept (exprs_pieces es) → AllValid (exprs_built es).value
  exprs_valid tree.no_expr h = tt
  exprs_valid (tree.further es e) h =
      valid-append (exprs_built es).value _ (exprs_valid es (left (exprs_pieces es) _ h))
      (expr_valid e (right (comma_after es) _ (right (exprs_pieces es) _ h)), tt)

  parts_valid : (ps : tree.Parts) → AllKept (parts_pieces ps) → AreSteps (parts_built ps).value
  parts_valid tree.no_part h = tt
  parts_valid (tree.part ps n e) h =
      let its = right (comma_after_parts ps) _ (right (parts_pieces ps) _ h) in
      steps-append (parts_built ps).value _ (parts_valid ps (left (parts_pieces ps) _ h))
      (weight_above n its.1.0, expr_valid e (left (expr_pieces e) _ its.1.1.1.1), tt)

  fun_valid : (f : tree.Fun) → AllKept (fun_pieces f) → IsValidFun (fun_built f).value
  fun_valid (tree.bare bare_name.Same) h = tt
  fun_valid (tree.bare bare_name.Rev) h = tt
  fun_valid (tree.bare bare_name.Palindrome) h = tt
  fun_valid (tree.bare bare_name.Brak) h = tt
  fun_valid (tree.of_ratio ratio_name.Fast r) h = ratio_valid r h.1
  fun_valid (tree.of_ratio ratio_name.Slow r) h = ratio_valid r h.1
  fun_valid (tree.of_ratio ratio_name.Earlier r) h = ratio_valid r h.1
  fun_valid (tree.of_ratio ratio_name.Later r) h = ratio_valid r h.1
  fun_valid (tree.every n f) h = (count_valid [] n (left (count_pieces n) _ h.1), fun_valid f (right (count_pieces n) _ h.1))
  fun_valid (tree.cycle cycle_name.EveryAt n at f) h =
      let behind = right (count_pieces n) _ h.1 in (
        count_valid [] n (left (count_pieces n) _ h.1),
        (count_valid [] at (left (count_pieces at) _ behind), fun_valid f (right (count_pieces at) _ behind)),
      )
  fun_valid (tree.cycle cycle_name.WhenMod n at f) h =
      let behind = right (count_pieces n) _ h.1 in (
        count_valid [] n (left (count_pieces n) _ h.1),
        (count_valid [] at (left (count_pieces at) _ behind), fun_valid f (right (count_pieces at) _ behind)),
      )
  fun_valid (tree.off by f) h = (ratio_valid by (left (ratio_pieces by) _ h.1), fun_valid f (right (ratio_pieces by) _ h.1))
  fun_valid (tree.layer layer_name.Superimpose f) h = fun_valid f h.1
  fun_valid (tree.layer layer_name.Jux f) h = fun_valid f h.1
  fun_valid (tree.of_count count_name.Ply n) h = count_valid [] n h.1
  fun_valid (tree.of_count count_name.Segment n) h = count_valid [] n h.1
  fun_valid (tree.of_count count_name.Iter n) h = count_valid [] n h.1
  fun_valid (tree.of_bools bools_name.Struct text) h = text_valid Truths text refl h.1
  fun_valid (tree.of_bools bools_name.Mask text) h = text_valid Truths text refl h.1
  fun_valid (tree.within from to f) h = fun_valid f (right (plain_pieces to) _ (right (plain_pieces from) _ h.1.1).1).1
  fun_valid (tree.euclid k n) h =
      (count_valid [] k (left (count_pieces k) _ h.1), (last_valid (has_rhythms k n) n (right (count_pieces k) _ h.1), tt))
  fun_valid (tree.euclid_off k n r) h =
      let behind = right (count_pieces k) _ h.1 in (
        count_valid [] k (left (count_pieces k) _ h.1),
        (
          count_valid [] n (left (count_pieces n) _ behind),
          last_valid (has_rhythms_from k n r) r (right (count_pieces n) _ behind),
        ),
      )
  fun_valid (tree.const e) h = expr_valid e h.1
  fun_valid (tree.paren f) h = fun_valid f (left (fun_pieces f) _ h.1)
  fun_valid (tree.section o e) h = expr_valid e (left (expr_pieces e) _ h.1.1)
  fun_valid (tree.shift by way) h = shifted_valid by way (left (ratio_pieces by) _ h.1)
  fun_valid (tree.chain f g) h = (fun_valid g (right (fun_pieces f) _ h).1, fun_valid f (left (fun_pieces f) _ h))

-- ---- lines
abbrev IsValidMade : Change (Built Tree) → Type 0
IsValidMade c = IfSome (pattern_in c) (λ (b : Built Tree). IsValid b.value)

same_swap : (n m : ℕ) (c d : Change (Built Tree)) → swap n c ≡ swap m d → c ≡ d
same_swap n m c d e = cc

asked_valid : (l : Line) (n : ℕ) (c : Change (Built Tree)) → AllKept (line_pieces l) → asked l ≡ swap n c → IsValidMade c
asked_valid tree.nothing n c kept e = cc
asked_valid (tree.order order.Look) n c kept e = cc
asked_valid (tree.order order.Hush) n c kept e = subst IsValidMade (same_swap 1 n change.Hush c e) tt
asked_valid (tree.order order.UnmuteAll) n c kept e = subst IsValidMade (same_swap 1 n change.UnmuteAll c e) tt
asked_valid (tree.order order.UnsoloAll) n c kept e = subst IsValidMade (same_swap 1 n change.UnsoloAll c e) tt
asked_valid (tree.flag flag.Mute orbit) n c kept e = subst IsValidMade (same_swap 1 n (change.Mute orbit) c e) tt
asked_valid (tree.flag flag.Unmute orbit) n c kept e = subst IsValidMade (same_swap 1 n (change.Unmute orbit) c e) tt
asked_valid (tree.flag flag.Solo orbit) n c kept e = subst IsValidMade (same_swap 1 n (change.Solo orbit) c e) tt
asked_valid (tree.flag flag.Unsolo orbit) n c kept e = subst IsValidMade (same_swap 1 n (change.Unsolo orbit) c e) tt
asked_valid (tree.play None e) n c kept h = cc
asked_valid (tree.play (Some orbit) e) n c kept h = subst IsValidMade (same_swap 1 n _ c h) (expr_valid e kept.1.1.1)
asked_valid (tree.still None) n c kept h = cc
asked_valid (tree.still (Some orbit)) n c kept h = subst IsValidMade (same_swap 1 n _ c h) tt
asked_valid (tree.jump orbit every e) n c kept h = subst IsValidMade (same_swap every n _ c h) (expr_valid e kept.1.1.1.1.1.1)

made_valid : (c : Change (Built Tree)) → IsValidMade c → IfSome (pattern_in (map_change (λ (b : Built Tree). b.value) c)) IsValid
made_valid (change.Set orbit pattern) h = h
made_valid change.Hush h = tt
made_valid (change.Mute orbit) h = tt
made_valid (change.Unmute orbit) h = tt
made_valid (change.Solo orbit) h = tt
made_valid (change.Unsolo orbit) h = tt
made_valid change.UnmuteAll h = tt
made_valid change.UnsoloAll h = tt

pub swap_valid : (text : List ℕ) (n : ℕ) (c : Change Tree) → ReadsSwap text n c → IfSome (pattern_in c) IsValid
swap_valid text n c h =
    let kept = left (line_pieces h.line) _ (kept_whole a_line text (tree.line h.line) h.read) in
    subst (λ (d : Change Tree). IfSome (pattern_in d) IsValid) h.same (made_valid h.made (asked_valid h.line n h.made kept h.asks))
