use Rattle.std.proofs.Common.{arith, rules, length-append, ℕ}
use Rattle.std.proofs.Math.Seq.{take-append_seam}
use Rattle.tdl_control.specs.WordForm.{IsWord}
use Rattle.tdl_control.proofs.WordLemmas.{drop-padded}
use Rattle.tdl_control.proofs.words.Word.of.Goals as goal

-- the bytes are a word, and the room after them holds zeros
pub invariant_of-result : goal.invariant_of-result
invariant_of-result c =
    let is_word : IsWord c.args.bytes.now = search rules in
    rw c.copy_from_slice.ensures.after (record {
      within = omega (arith, length-append {A = ℕ});
      padded = drop-padded c.args.bytes.now;
      is_word = rw take-append_seam is_word;
    })
