-- The layers of a kit's wires are the first with their numbers.
use Rattle.std.proofs.Common.{◌≡◌, ◌∙◌, inl, inr, ℕ, zero, suc, ◌+◌, ◌<◌, Bool, true, false, cond, not, List, [], ◌∷◌, length, None, Some, refl, ap, subst, arith}
use Rattle.std.specs.Prelude.{slice_get}
use Rattle.std.specs.List.{position_or_len}
use Rattle.std.proofs.lemmas.Bool.{lt-ltb, and_from}
use Rattle.std.specs.Ordering.{int_eq}
use Rattle.std.proofs.lemmas.Bool.Decides.{Decides-int_eq}
use Rattle.std.proofs.lemmas.Option.{same_Some, get_or_from_slice_get, slice_get_within}
use Rattle.std.proofs.lemmas.List.Elements.{All-contains}
use Rattle.leaf_shapes.proofs.PinLaws.{exists_at}
use Rattle.tech_rules.specs.declared.tech.Layer.{Layer}
use Rattle.tech_rules.specs.Facts.{IsLayerIndex}
use Rattle.tech_rules.specs.WireRules.{has_numbers}
use Rattle.element_drawing.specs.OwnShapes.{layer_with_numbers}
use Rattle.leaf_tables.specs.declared.kit.Kit.{Kit}
use Rattle.leaf_tables.specs.Kits.{IsKit}
use Rattle.leaf_tables.proofs.RoleLaws.{layer_at}
use Rattle.floorplan.proofs.DemandLaws.{wire_there}
use Rattle.sram_netlist.specs.Organization.{Organization}
use Rattle.port_lists.specs.Contents.{held_cells}
use Rattle.port_lists.specs.Held.Held.{Stored}
use Rattle.view_cover.proofs.BitLaws.{stored_inside}
use Rattle.view_cover.proofs.KitLaws.{kit_layers}
use Rattle.view_cover.proofs.LayerLaws.{IsFirst}
use Rattle.leaf_shapes.specs.Outline.{IsWireLayer}
use Rattle.leaf_shapes.specs.FirstLayers.{AreFirstLayers}
use Rattle.drawn_memories.proofs.ApartLaws.{place_of}

-- a layer with the numbers is found
found_before : {X : Type 0} (p : X → Bool) (xs : List X) (i : ℕ) (x : X) → slice_get xs i ≡ Some x → p x ≡ true → position_or_len p xs < length xs
found_before p [] i x at is = absurd cc
found_before p (y ∷ ys) zero x at is = here (p y) (ap p (same_Some y x at) ∙ is) where
  here : (b : Bool) → b ≡ true → cond (not b) (1 + position_or_len p ys) 0 < length (y ∷ ys)
  here true e = omega arith
  here false e = absurd cc
found_before p (y ∷ ys) (suc i) x at is = later (p y) (found_before p ys i x at is) where
  later : (b : Bool) → position_or_len p ys < length ys → cond (not b) (1 + position_or_len p ys) 0 < length (y ∷ ys)
  later true lt = omega arith
  later false lt = omega (arith, lt)

own_numbers : (layer : Layer) → has_numbers layer.number layer.datatype layer ≡ true
own_numbers layer = and_from (int_eq layer.number layer.number) (int_eq layer.datatype layer.datatype) ((Decides-int_eq layer.number layer.number).1 refl) ((Decides-int_eq layer.datatype layer.datatype).1 refl)

first_found : (layers : List Layer) (index : ℕ) (layer : Layer) → IsFirst layers index → slice_get layers index ≡ Some layer → layer_with_numbers layers layer.number layer.datatype ≡ Some index
first_found layers index layer first at =
    let p = has_numbers layer.number layer.datatype in
    let lt = found_before p layers index layer at (own_numbers layer) in
    let is : layer_with_numbers layers layer.number layer.datatype ≡ Some (position_or_len p layers) = ap (λ (b : Bool). cond b (Some (position_or_len p layers)) None) (lt-ltb _ _ lt) in
    is ∙ ap (λ (k : ℕ). Some k) (first layer (position_or_len p layers) at is)

module _ (kit : Kit) (is : IsKit kit) where
  all_first : (index : ℕ) → IsWireLayer is.wire index → IsFirst kit.tech.layers index
  all_first index (inl metal) =
      let at = place_of is.wire.metals index metal in
      let lt = slice_get_within is.wire.metals at.0 index at.1 in
      let four = (wire_there kit is).four in
      subst (IsFirst kit.tech.layers) (get_or_from_slice_get is.wire.metals at.0 index 0 at.1) ((kit_layers kit is.wire plan (held_cells kit.tech.roles plan Stored) is is.wired (stored_inside kit is.wire plan is is.wired)).metals at.0 (omega (arith, lt, four)))
    where
      plan : Organization
      plan = record { word_size = 1; write_size = 1; masks = 0; bank_bits = 0; col_bits = 0; groups = [] }
  all_first index (inr cut) =
      let at = place_of is.wire.cuts index cut in
      let lt = slice_get_within is.wire.cuts at.0 index at.1 in
      let three = (wire_there kit is).three in
      subst (IsFirst kit.tech.layers) (get_or_from_slice_get is.wire.cuts at.0 index 0 at.1) ((kit_layers kit is.wire plan (held_cells kit.tech.roles plan Stored) is is.wired (stored_inside kit is.wire plan is is.wired)).cuts at.0 (omega (arith, lt, three)))
    where
      plan : Organization
      plan = record { word_size = 1; write_size = 1; masks = 0; bank_bits = 0; col_bits = 0; groups = [] }

  below : (index : ℕ) → IsWireLayer is.wire index → index < length kit.tech.layers
  below index (inl metal) = All-contains (IsLayerIndex kit.tech.layers) is.wire.metals index (wire_there kit is).metals metal
  below index (inr cut) = All-contains (IsLayerIndex kit.tech.layers) is.wire.cuts index (wire_there kit is).cuts cut

  pub are_first_layers : AreFirstLayers kit.tech.layers is.wire
  are_first_layers = record {
    metals = λ k lt. layer_at is.wire.metals k (let four = (wire_there kit is).four in omega (arith, four, lt));
    cuts = λ k lt. layer_at is.wire.cuts k (let three = (wire_there kit is).three in omega (arith, three, lt));
    first = λ index other layer of at found. all_first index of layer other at found;
    there = λ index of. (let layer = exists_at kit.tech.layers index (below index of) in record { layer = layer.0; there = layer.1; first = first_found kit.tech.layers index layer.0 (all_first index of) layer.1 });
  }
