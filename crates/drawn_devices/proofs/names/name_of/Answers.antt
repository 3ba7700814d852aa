use Rattle.std.proofs.Common.{◌≡◌, ◌∙◌, ℕ, false, true, List, length, get_or, Some, refl, sym, ap, subst, arith, eq-eqb}
use Rattle.std.specs.Prelude.{slice_get}
use Rattle.std.proofs.lemmas.Bool.{eqb-true}
use Rattle.std.proofs.lemmas.List.{nil_from_length}
use Rattle.std.proofs.lemmas.Option.{slice_get_within, slice_get-get_or}
use Rattle.cell_hierarchy.specs.Plain.{plain_label}
use Rattle.tech_rules.specs.declared.tech.Device.{Device}
use Rattle.label_binding.specs.LowerCase.{in_lower_case}
use Rattle.drawn_devices.specs.Diffusion.{IsActive}
use Rattle.drawn_devices.proofs.NameLaws.{no_name, unbound_name, bound_name}
use Rattle.drawn_devices.proofs.names.name_of.Goals as goal

pub returns-then-not-is_empty : goal.returns-then-not-is_empty
returns-then-not-is_empty c number are =
    no_name c.args.cell.now.tech.now c.args.cell.now.shapes.now number (plain_label c.args.label.now)
    (λ own off. let clash : false ≡ true = sym c.if-not-is_empty.true ∙ (c.is_empty.ensures ∙ eq-eqb (length c.args.label.now.path.now) 0 (ap length own)) in absurd cc)

pub returns-then-is_active : goal.returns-then-is_active
returns-then-is_active c number are = no_name c.args.cell.now.tech.now c.args.cell.now.shapes.now number (plain_label c.args.label.now) (λ own off. off (rw c.as_slice.ensures at (c.if-is_active.ensures.0 refl)))

pub returns-in_default : goal.returns-in_default
returns-in_default c number are = unbound_name c.args.cell.now number (plain_label c.args.label.now) c.requires c.in_default.ensures

pub returns : goal.returns
returns c number are =
    let off : IsActive c.args.cell.now.tech.now.devices c.args.label.now.layer → ⊥ = λ active.
    let yes = c.if-is_active.ensures.1 (subst (λ (ds : List Device). IsActive ds c.args.label.now.layer) (sym c.as_slice.ensures) active) in
    absurd cc in
    let none : length c.args.label.now.path.now ≡ 0 = eqb-true (length c.args.label.now.path.now) 0 (sym c.is_empty.ensures ∙ c.if-not-is_empty.false) in
    let index = c.in-Some.index in
    let nets = c.args.cell.now.nets in
    let bound = c.in-Some.ensures in
    let inside = slice_get_within c.args.cell.now.bins index bound.shape bound.there in
    let sized = c.requires.numbered.sized in
    let has = subst (λ (ns : List ℕ). slice_get nets index ≡ Some (get_or ns index 0)) (sym c.as_slice-2.ensures) (slice_get-get_or nets index 0 (omega (arith, inside, sized))) in
    bound_name c.args.cell.now number (plain_label c.args.label.now) index _ _ c.requires are (nil_from_length c.args.label.now.path.now none) off bound has
    (c.from_vec.ensures ∙ (c.in_ok-name.ensures.ok ∙ ap in_lower_case c.as_bytes.ensures.value)) refl
