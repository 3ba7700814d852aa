-- Pins of a kit fit their cells as wires ask.
use Rattle.std.proofs.Common.{◌≡◌, ◌⊎◌, inl, inr, ◌∙◌, ℕ, ℤ, pos, ◌+ℤ◌, ◌-ℤ◌, ◌≤ℤ◌, List, Some, refl, sym, ap, subst, arith}
use Rattle.std.specs.Prelude.{slice_get, slice_index}
use Rattle.std.specs.List.{AllByRecursion}
use Rattle.std.proofs.lemmas.Int.{ints}
use Rattle.std.proofs.lemmas.Option.{slice_get_within}
use Rattle.or_geom.specs.declared.shape.Rect.{Rect}
use Rattle.or_geom.proofs.ListLaws.{all_contained, contained_at}
use Rattle.cell_roles.specs.declared.role.Role.{Role}
use Rattle.cell_roles.specs.declared.role.Role.TheVariants.{Bitcell, Precharge, Mux, Tie, Sense, Write, RowNand2, RowNand3, Driver, Nand2, Nand3, Inv, Dff, Delay}
use Rattle.tech_rules.specs.declared.tech.Wire.{Wire}
use Rattle.channel_router.specs.Apart.{AreSevenLayers}
use Rattle.leaf_shapes.specs.declared.demand.Metal.{Metal}
use Rattle.leaf_shapes.specs.declared.demand.Metal.TheVariants.{M1, M2, M3, M4}
use Rattle.leaf_shapes.specs.declared.fit.CellSize.{CellSize}
use Rattle.leaf_shapes.specs.declared.fit.Fit.{Fit}
use Rattle.leaf_shapes.specs.declared.fit.Fit.TheVariants.{Top, Bottom, TopAndBottom, Left, Right, LeftAndRight, Anywhere, LowerRail, UpperRail}
use Rattle.leaf_shapes.specs.declared.pins.LeafPin.{LeafPin}
use Rattle.leaf_shapes.proofs.PinLaws.{exists_at}
use Rattle.leaf_shapes.specs.Demands.{PinDemand, draw, metal_layer, role_demands}
use Rattle.leaf_shapes.specs.Fits.{IsAcross, FitsCell}
use Rattle.leaf_tables.specs.declared.kit.Kit.{Kit}
use Rattle.leaf_tables.specs.declared.kit.Leaf.{Leaf}
use Rattle.leaf_tables.specs.Alignment.{leaf_in}
use Rattle.leaf_tables.specs.Kits.{IsKit}
use Rattle.leaf_tables.specs.Leaves.{size_of}
use Rattle.macro_layout.specs.LayoutKit.{LayoutKit}
use Rattle.floorplan.specs.LayoutOfKit.{layout_kit, pin_shape}
use Rattle.floorplan.specs.LeafSides.{leaf_width, leaf_height}
use Rattle.floorplan.specs.Demanded.{IsDemandOf}
use Rattle.floorplan.proofs.DemandLaws.{seven_in_kit, pin_is}
use Rattle.view_cover.proofs.KitLaws.{kit_fits}
use Rattle.view_cover.proofs.RoleLaws.{role_leaf, width_is, height_is, IsPinAt, demand_at, pin_inside, square_or, found_pin}
use Rattle.good_wires.specs.Drawn.{PinsFit, HasUprightPins}

-- On the second and the fourth metal each pin is as wide as a wire.

abbrev IsUpright : Fit → Type 0
IsUpright Top = Unit {0}
IsUpright Bottom = Unit {0}
IsUpright TopAndBottom = Unit {0}
IsUpright fit = ⊥

abbrev FitsMetal : Metal → Fit → Type 0
FitsMetal M1 fit = Unit {0}
FitsMetal M2 fit = IsUpright fit
FitsMetal M3 fit = Unit {0}
FitsMetal M4 fit = IsUpright fit

abbrev IsFitting : PinDemand → Type 0
IsFitting d = FitsMetal d.metal d.fit

all_fit : (role : Role) → AllByRecursion IsFitting (role_demands role)
all_fit Bitcell = (tt, (tt, (tt, (tt, (tt, tt)))))
all_fit Precharge = (tt, (tt, (tt, (tt, (tt, tt)))))
all_fit Mux = (tt, (tt, (tt, (tt, (tt, (tt, (tt, tt)))))))
all_fit Tie = (tt, (tt, (tt, (tt, (tt, (tt, tt))))))
all_fit Sense = (tt, (tt, (tt, (tt, (tt, (tt, tt))))))
all_fit Write = (tt, (tt, (tt, (tt, (tt, (tt, tt))))))
all_fit RowNand2 = (tt, (tt, (tt, (tt, (tt, tt)))))
all_fit RowNand3 = (tt, (tt, (tt, (tt, (tt, (tt, tt))))))
all_fit Driver = (tt, (tt, (tt, (tt, (tt, tt)))))
all_fit Nand2 = (tt, (tt, (tt, (tt, (tt, tt)))))
all_fit Nand3 = (tt, (tt, (tt, (tt, (tt, (tt, tt))))))
all_fit Inv = (tt, (tt, (tt, (tt, tt))))
all_fit Dff = (tt, (tt, (tt, (tt, (tt, tt)))))
all_fit Delay = (tt, (tt, (tt, (tt, tt))))

fit_at : (role : Role) (k : ℕ) (d : PinDemand) → slice_get (role_demands role) k ≡ Some d → IsFitting d
fit_at role k d at = all_contained IsFitting (role_demands role) d (all_fit role) (contained_at (role_demands role) k d at)

across_is : (fit : Fit) (w : ℤ) (size : CellSize) (r : Rect) → IsUpright fit → FitsCell fit w size r → IsAcross w r
across_is Top w size r on fits = fits.1
across_is Bottom w size r on fits = fits.1
across_is TopAndBottom w size r on fits = fits.2
across_is Left w size r on fits = absurd on
across_is Right w size r on fits = absurd on
across_is LeftAndRight w size r on fits = absurd on
across_is Anywhere w size r on fits = absurd on
across_is LowerRail w size r on fits = absurd on
across_is UpperRail w size r on fits = absurd on

-- the metal of a demand by its layer
upright_on : (wire : Wire) (m : Metal) (fit : Fit) (metal : ℕ) → AreSevenLayers wire → (metal ≡ 1) ⊎ (metal ≡ 3) → metal_layer wire m ≡ slice_index wire.metals metal → FitsMetal m fit → IsUpright fit
upright_on wire M1 fit metal seven (inl e) on fits = absurd (seven.metals 0 1 (omega arith) (omega arith) (on ∙ ap (slice_index wire.metals) e))
upright_on wire M1 fit metal seven (inr e) on fits = absurd (seven.metals 0 3 (omega arith) (omega arith) (on ∙ ap (slice_index wire.metals) e))
upright_on wire M2 fit metal seven which on fits = fits
upright_on wire M3 fit metal seven (inl e) on fits = absurd (seven.metals 1 2 (omega arith) (omega arith) (sym (on ∙ ap (slice_index wire.metals) e)))
upright_on wire M3 fit metal seven (inr e) on fits = absurd (seven.metals 2 3 (omega arith) (omega arith) (on ∙ ap (slice_index wire.metals) e))
upright_on wire M4 fit metal seven which on fits = fits

-- the first demand of these roles
record HasUpright (role : Role) : Type 0 where
  name : List ℕ
  metal : Metal
  fit : Fit
  at : slice_get (role_demands role) 0 ≡ Some (draw name metal fit)
  fits : IsUpright fit

first_upright : (role : Role) → HasUprightPins role → HasUpright role
first_upright Bitcell up = record { name = _; metal = _; fit = _; at = refl; fits = tt }
first_upright Precharge up = record { name = _; metal = _; fit = _; at = refl; fits = tt }
first_upright Mux up = record { name = _; metal = _; fit = _; at = refl; fits = tt }
first_upright Tie up = record { name = _; metal = _; fit = _; at = refl; fits = tt }
first_upright Sense up = record { name = _; metal = _; fit = _; at = refl; fits = tt }
first_upright Write up = record { name = _; metal = _; fit = _; at = refl; fits = tt }
first_upright RowNand2 up = absurd up
first_upright RowNand3 up = absurd up
first_upright Driver up = absurd up
first_upright Nand2 up = record { name = _; metal = _; fit = _; at = refl; fits = tt }
first_upright Nand3 up = record { name = _; metal = _; fit = _; at = refl; fits = tt }
first_upright Inv up = record { name = _; metal = _; fit = _; at = refl; fits = tt }
first_upright Dff up = record { name = _; metal = _; fit = _; at = refl; fits = tt }
first_upright Delay up = record { name = _; metal = _; fit = _; at = refl; fits = tt }

-- What a layout takes for a demanded pin lies as it was demanded.

module _ (kit : Kit) (is : IsKit kit) where
  abbrev lk : LayoutKit
  lk = layout_kit kit

  pub pin_fits : (role : Role) (port metal k : ℕ) (d : PinDemand) → slice_get (role_demands role) k ≡ Some d → IsDemandOf role port metal k
      → FitsCell d.fit is.wire.width (record { width = pos (leaf_width kit role); height = pos (leaf_height kit role) }) ((layout_kit kit).pin role port metal)
  pin_fits role port metal k d at of =
      let l = role_leaf kit is role in
      let pins = l.has.pins in
      let sized = pins.sized in
      let within = slice_get_within (role_demands role) k d at in
      let pin = exists_at l.leaf.pins k (omega (arith, sized, within)) in
      let drawn = (pins.each k d pin.0 at pin.1).is.has.1 in
      subst (FitsCell d.fit is.wire.width (record { width = pos (leaf_width kit role); height = pos (leaf_height kit role) }))
      (pin_is kit is (seven_in_kit kit is) role l.leaf l.there k pin.0 pin.1 port metal of)
      (sized_as d.fit pin.0.rect l.leaf (width_is kit is role l.leaf l.there) (height_is kit is role l.leaf l.there) drawn)
    where
      sized_as : (fit : Fit) (r : Rect) (leaf : Leaf) → pos (leaf_width kit role) ≡ leaf.width → pos (leaf_height kit role) ≡ leaf.height → FitsCell fit is.wire.width (size_of leaf) r
          → FitsCell fit is.wire.width (record { width = pos (leaf_width kit role); height = pos (leaf_height kit role) }) r
      sized_as fit r leaf w h fits = subst (λ (s : CellSize). FitsCell fit is.wire.width s r) (λ i. record { width = sym w i; height = sym h i }) fits

  across_at : (role : Role) (leaf : Leaf) (there : leaf_in kit.leaves role ≡ Some leaf) (d : PinDemand) (pin : LeafPin) → IsUpright d.fit → IsPinAt kit is role leaf there d pin → (pin.rect.x1 +ℤ is.wire.width) ≤ℤ pos (leaf_width kit role)
  across_at role leaf there d pin up p =
      let across : pin.rect.x2 -ℤ pin.rect.x1 ≡ is.wire.width = across_is d.fit is.wire.width (size_of leaf) pin.rect up p.drawn.is.has.1 in
      let to = (pin_inside kit is role leaf there d pin p).to in
      omega (arith, ints, across, to)

  wide_is : (role : Role) → HasUpright role → (pos 0 +ℤ is.wire.width) ≤ℤ pos (leaf_width kit role)
  wide_is role first =
      let l = role_leaf kit is role in
      let p = demand_at kit is role l.leaf l.there 0 (draw first.name first.metal first.fit) first.at in
      let room = across_at role l.leaf l.there (draw first.name first.metal first.fit) p.0 first.fits p.1 in
      let from = (pin_inside kit is role l.leaf l.there (draw first.name first.metal first.fit) p.0 p.1).from in
      omega (arith, ints, room, from)

  upright_fits : (role : Role) (port metal : ℕ) → HasUprightPins role → (metal ≡ 1) ⊎ (metal ≡ 3) → (((layout_kit kit).pin role port metal).x1 +ℤ is.wire.width) ≤ℤ pos (leaf_width kit role)
  upright_fits role port metal up which = square_or (λ (r : Rect). (r.x1 +ℤ is.wire.width) ≤ℤ pos (leaf_width kit role)) (pin_shape kit role port metal) (wide_is role (first_upright role up)) (λ r e.
      let found = found_pin kit is role port metal r e in
      let fit = fit_at role found.at.k found.demand found.at.demanded in
      subst (λ (q : Rect). (q.x1 +ℤ is.wire.width) ≤ℤ pos (leaf_width kit role)) found.rect
      (across_at role found.leaf found.there found.demand found.pin (upright_on is.wire found.demand.metal found.demand.fit metal (seven_in_kit kit is) which (sym found.at.drawn.is.has.0 ∙ found.on) fit) found.at))

  pub pins_fit : PinsFit (layout_kit kit) is.wire
  pins_fit =
      let fits = kit_fits kit is.wire is is.wired in
      record {
        left = λ role port metal. (fits.inside role port metal).from;
        right = upright_fits;
        end = λ role port metal. (fits.inside role port metal).to;
        low = λ role port metal. (fits.inside role port metal).above;
        high = λ role port metal. (fits.inside role port metal).below;
        cells = fits.tall;
      }
