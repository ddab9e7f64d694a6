-- What keys are set to.
use Rattle.std.proofs.Common.{Box, Global, ◌≡◌, not, ℤ, neg_ℤ, IsTrue, refl, sym, ap, ◌∙◌, subst}
use Rattle.tdl_control.specs.declared.keys.Key.{Key}
use Rattle.tdl_control.specs.declared.keys.Key.TheVariants as key
use Rattle.tdl_mini_tree.specs.declared.leaves.Kind.{Kind}
use Rattle.tdl_mini_tree.specs.declared.leaves.Number.{Number}
use Rattle.tdl_mini_tree.specs.declared.tree.Tree.{Tree}
use Rattle.tdl_mini_tree.specs.Syntax.{syntax_of}
use Rattle.tdl_mini_tree.specs.Values.{integer_of}
use Rattle.tdl_mini_rows.specs.Arguments.{is_argument}
use Rattle.tdl_mini_rows.specs.Lowered.{lowered}
use Rattle.tdl_command.specs.declared.tree.Setting.{Setting}
use Rattle.tdl_command.specs.declared.tree.Setting.TheVariants as setting
use Rattle.tdl_prepare.specs.Built.{number_built, setting_built}
use Rattle.tdl_command.specs.Rules.{kind_of}
use Rattle.tdl_command.specs.Valid.{IsValidSetting}
use Rattle.tdl_command.specs.View.{setting_of}

-- the texts of keys are played
kind_played : (k : Key) → IsTrue (not (is_argument (kind_of k)))
kind_played key.S = refl
kind_played key.N = refl
kind_played key.Note = refl
kind_played key.Unit = refl
kind_played key.Vowel = refl
kind_played other = refl

module _ (k : Key) (s : Setting) where
  text_kind : (text : Box Tree Global) → s ≡ setting.Text text → IsValidSetting k s → text.value.kind ≡ kind_of k
  text_kind text e valid = subst (IsValidSetting k) e valid

  pub text_played : (text : Box Tree Global) → s ≡ setting.Text text → IsValidSetting k s → IsTrue (not (is_argument text.value.kind))
  text_played text e valid =
      let P : Kind → Type 0 = λ kind. IsTrue (not (is_argument kind)) in
      subst P (sym (text_kind text e valid)) (kind_played k)

  pub text_is : (text : Box Tree Global) → s ≡ setting.Text text → IsValidSetting k s
      → lowered text.value.kind (syntax_of text.value) ≡ setting_built k (setting_of s)
  text_is text e valid =
      ap (λ (kind : Kind). lowered kind (syntax_of text.value)) (text_kind text e valid) ∙ ap (λ (x : Setting). setting_built k (setting_of x)) (sym e)

  pub number_is : (n : Number) (z : ℤ) → s ≡ setting.Number n → z ≡ integer_of n → number_built k z ≡ setting_built k (setting_of s)
  number_is n z e f = ap (number_built k) f ∙ ap (λ (x : Setting). setting_built k (setting_of x)) (sym e)

  pub negative_is : (n : Number) (z : ℤ) → s ≡ setting.Negative n → z ≡ neg_ℤ (integer_of n) → number_built k z ≡ setting_built k (setting_of s)
  negative_is n z e f = ap (number_built k) f ∙ ap (λ (x : Setting). setting_built k (setting_of x)) (sym e)
