-- What functions on patterns make.
--     applied       the tree that a function makes of a child, and the tree's rows. A chosen number gives a
--                   choice among what the function makes with each of its values
use Rattle.tdl_expr.specs.Tree as tree
use Rattle.tdl_rows.specs.Built.{kept, one_row}
use Rattle.tdl_rows.specs.Joined.{choose, choose_both, choose_among, fast_of, slow_of, euclid_of}
use Rattle.tdl_combinator.specs.TreeFun.{TreeFun, Same, Fast, Slow, Rev, Every, EveryAt, WhenMod, Off, Superimpose, Jux, Later, Earlier, Ply, Segment}
use Rattle.tdl_combinator.specs.TreeFun.{Struct, Mask, Within, Iter, Palindrome, Brak, Euclid, Const, Section, Chain}
use Rattle.tdl_combinator.specs.Makings.{Making, when_of, every_round, every_at_round, when_mod_round, later_of, earlier_of, off_of, within_of, iter_of}
use Rattle.tdl_combinator.specs.Makings.{palindrome_of, brak_of, superimpose_of, jux_of, ply_of, segment_of, struct_of, mask_of, section_of, chain_of}

abbrev pub applied : TreeFun → Making
applied Same p = kept p
applied (Fast rate) p = choose rate (λ r. fast_of r p)
applied (Slow rate) p = choose rate (λ r. slow_of r p)
applied Rev p = one_row 1 (tree.Rev p)
applied (Every n f) p = choose n (λ a. when_of (every_round a.num) (applied f) p)
applied (EveryAt n place f) p = choose_both n place (λ a b. when_of (every_at_round a.num b.num) (applied f) p)
applied (WhenMod n from f) p = choose_both n from (λ a b. when_of (when_mod_round a.num b.num) (applied f) p)
applied (Off by f) p = choose by (λ t. off_of t (applied f) p)
applied (Superimpose f) p = superimpose_of (applied f) p
applied (Jux f) p = jux_of (applied f) p
applied (Later by) p = choose by (λ t. later_of t p)
applied (Earlier by) p = choose by (λ t. earlier_of t p)
applied (Ply n) p = choose n (λ a. ply_of a.num p)
applied (Segment n) p = choose n (λ a. segment_of a.num p)
applied (Struct bools) p = struct_of bools p
applied (Mask bools) p = mask_of bools p
applied (Within from to f) p = within_of from to (applied f) p
applied (Iter n) p = choose n (λ a. iter_of a.num p)
applied Palindrome p = palindrome_of p
applied Brak p = brak_of p
applied (Euclid k n r) p = choose_among k n r (euclid_of p)
applied (Const other) p = kept other
applied (Section side op right) p = section_of side op right p
applied (Chain first next) p = chain_of (applied first) (applied next) p
