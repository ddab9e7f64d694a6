use Rattle.std.proofs.Common.{◌≡◌, List, ◌++◌, ℕ, refl, ap, ◌∙◌}
use Rattle.std.proofs.lemmas.Int.{to_z-of_z}
use Rattle.std.specs.Fmt.{signed_decimal}
use mir.Syntax.{w128}
use Rattle.tdl_fraction.specs.Digits.{digits_bytes}
use Rattle.tdl_fraction.proofs.Printed.{room_behind}
use Rattle.tdl_fraction.proofs.text.written.Goals as goal

pub append-requires-2 : goal.append-requires-2
append-requires-2 c =
    let numerator : c.as_bytes.result.now ≡ signed_decimal c.args.numerator =
    c.as_bytes.ensures.value ∙ c.format.ensures.text ∙ ap signed_decimal (to_z-of_z w128 _ c.ranges.numerator) in
    let whole : digits_bytes c.append-whole.result ≡ signed_decimal c.args.numerator =
    c.append-whole.ensures ∙ ap (λ (t : List ℕ). t ++ c.as_bytes.result.now) c.new.ensures ∙ numerator in
    let denominator = c.as_bytes-2.ensures.value ∙ c.format-2.ensures.text in
    room_behind _ _ _ _ c.args.numerator c.args.denominator whole refl c.append.ensures denominator c.requires.few c.requires.fine
