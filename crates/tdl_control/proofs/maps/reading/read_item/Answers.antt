use Rattle.std.proofs.Common.{refl, ap, sym, subst, List, ℕ, ◌+◌, length, Option, Some}
use Rattle.std.specs.Option.{option_copied}
use Rattle.tdl_control.specs.declared.maps.reading.ItemFault.{ItemFault}
use Rattle.tdl_control.specs.declared.maps.reading.MapKind.TheVariants.{BadValue}
use Rattle.tdl_control.specs.Reading.{IsCutAt, IsItemFault, unknown_key, not_above, bad_value}
use Rattle.tdl_control.proofs.ReadLemmas.{fault_of_form}
use Rattle.tdl_control.proofs.maps.reading.read_item.Goals as goal

-- no `=`
pub returns-in_default-clause-fault : goal.returns-in_default-clause-fault
returns-in_default-clause-fault c =
    subst (λ (fault : ItemFault). IsItemFault c.args.before.now c.args.item.now fault.kind fault.offset) (sym c.at_start.ensures)
    (fault_of_form c.args.before.now c.args.item.now c.cut.result.0.now (option_copied c.cut.result.1) c.cut.ensures (ap option_copied c.in_default.is))

-- no key of this name
pub returns-in_default-of_name-clause-fault : goal.returns-in_default-of_name-clause-fault
returns-in_default-of_name-clause-fault c =
    let cut = subst (λ (rest : Option (List ℕ)). IsCutAt 61 c.args.item.now c.cut.result.0.now rest) (ap option_copied c.in-Some.is) c.cut.ensures in
    subst (λ (fault : ItemFault). IsItemFault c.args.before.now c.args.item.now fault.kind fault.offset) (sym c.at_start-in_default-of_name.ensures)
    (unknown_key c.cut.result.0.now c.in-Some.text.now cut c.in_default-of_name.ensures.unknown)

-- the key is not above the others
pub returns-then-not-is_below-clause-fault : goal.returns-then-not-is_below-clause-fault
returns-then-not-is_below-clause-fault c =
    let cut = subst (λ (rest : Option (List ℕ)). IsCutAt 61 c.args.item.now c.cut.result.0.now rest) (ap option_copied c.in-Some.is) c.cut.ensures in
    subst (λ (fault : ItemFault). IsItemFault c.args.before.now c.args.item.now fault.kind fault.offset) (sym c.at_start-then-not-is_below.ensures)
    (not_above c.in-Some-of_name.key c.in-Some.text.now
    (subst (λ (name : List ℕ). IsCutAt 61 c.args.item.now name (Some c.in-Some.text.now)) (sym c.in-Some-of_name.ensures.known) cut)
    (λ above. let tested = c.if-not-is_below.ensures.1 above in absurd cc))

-- the key takes no such value
pub returns-in-None-clause-fault : goal.returns-in-None-clause-fault
returns-in-None-clause-fault c =
    let cut = subst (λ (rest : Option (List ℕ)). IsCutAt 61 c.args.item.now c.cut.result.0.now rest) (ap option_copied c.in-Some.is) c.cut.ensures in
    subst (λ (name : List ℕ). IsItemFault c.args.before.now c.args.item.now BadValue (length name + 1)) c.in-Some-of_name.ensures.known
    (bad_value c.in-Some-of_name.key c.in-Some.text.now
    (subst (λ (name : List ℕ). IsCutAt 61 c.args.item.now name (Some c.in-Some.text.now)) (sym c.in-Some-of_name.ensures.known) cut)
    (c.if-not-is_below.ensures.0 refl) c.in-None.ensures.none)
