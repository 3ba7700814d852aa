-- Each port of a leaf cell has a shape on a metal.
use Rattle.std.proofs.Common.{◌≡◌, ℕ, zero, suc, ◌<◌, List, Contains, Some, refl, sym, subst, arith}
use Rattle.std.specs.Prelude.{slice_get, slice_index, codes}
use Rattle.or_geom.specs.declared.shape.Shape.{Shape}
use Rattle.or_geom.proofs.ListLaws.{contained_at}
use Rattle.cell_roles.specs.declared.role.Role.{Role}
use Rattle.cell_roles.specs.declared.role.Role.TheVariants.{Bitcell, Precharge, Mux, Tie, Sense, Write, RowNand2, RowNand3, Driver, Nand2, Nand3, Inv, Dff, Delay}
use Rattle.cell_roles.specs.Roles.{role_ports}
use Rattle.tech_rules.specs.declared.tech.Connect.{Connect}
use Rattle.tech_rules.specs.declared.tech.Wire.{Wire}
use Rattle.tech_rules.specs.Touch.{IsConductor}
use Rattle.cell_hierarchy.specs.Plain.{FlatLists}
use Rattle.leaf_shapes.specs.declared.demand.Metal.{Metal}
use Rattle.leaf_shapes.specs.declared.demand.Metal.TheVariants.{M1, M2, M3, M4}
use Rattle.leaf_shapes.specs.declared.fit.Fit.TheVariants.{Top, Bottom, TopAndBottom, Left, Right, LeftAndRight, Anywhere, LowerRail, UpperRail}
use Rattle.leaf_shapes.specs.declared.pins.LeafPin.{LeafPin}
use Rattle.element_drawing.specs.PlainLabel.{PlainLabel}
use Rattle.label_binding.specs.Binding.{Binds}
use Rattle.label_binding.specs.BoundPlaces.{label_anchor}
use Rattle.leaf_shapes.specs.Candidates.{IsLabelOfPin}
use Rattle.leaf_shapes.specs.Demands.{PinDemand, draw, metal_layer, role_demands}
use Rattle.leaf_shapes.specs.Pins.{CellDrawing, AreLeafPins}
use Rattle.good_nets.proofs.LiftLaws.{of_cut}
use Rattle.joined_nets.specs.Joints.{JoinsWires}
use Rattle.joined_nets.proofs.WireNetLaws.{item_there, place_below}
use Rattle.kit_nets.specs.Bound.{BindsForPort}
use Rattle.std.proofs.lemmas.Option.{same_Some}

-- one of the role's demands is for the port of this name
pub record HasDemand (role : Role) (name : List ℕ) : Type 0 where
  pub place : ℕ
  pub demand : PinDemand
  pub there : slice_get (role_demands role) place ≡ Some demand
  pub of : demand.pin ≡ name

-- Each port of a role has a demand.
pub demand_of : (role : Role) (port : ℕ) (name : List ℕ) → slice_get (role_ports role) port ≡ Some name → HasDemand role name
demand_of Bitcell zero name h = record { place = 0; demand = draw (codes "bl") M2 TopAndBottom; there = refl; of = (let e : codes "bl" ≡ name = same_Some (codes "bl") name h in e) }
demand_of Bitcell (suc zero) name h = record { place = 1; demand = draw (codes "br") M2 TopAndBottom; there = refl; of = (let e : codes "br" ≡ name = same_Some (codes "br") name h in e) }
demand_of Bitcell (suc (suc zero)) name h = record { place = 2; demand = draw (codes "wl") M1 LeftAndRight; there = refl; of = (let e : codes "wl" ≡ name = same_Some (codes "wl") name h in e) }
demand_of Bitcell (suc (suc (suc zero))) name h = record { place = 3; demand = draw (codes "vdd") M1 UpperRail; there = refl; of = (let e : codes "vdd" ≡ name = same_Some (codes "vdd") name h in e) }
demand_of Bitcell (suc (suc (suc (suc zero)))) name h = record { place = 4; demand = draw (codes "gnd") M1 LowerRail; there = refl; of = (let e : codes "gnd" ≡ name = same_Some (codes "gnd") name h in e) }
demand_of Bitcell (suc (suc (suc (suc (suc port))))) name h = absurd cc
demand_of Precharge zero name h = record { place = 0; demand = draw (codes "bl") M2 Bottom; there = refl; of = (let e : codes "bl" ≡ name = same_Some (codes "bl") name h in e) }
demand_of Precharge (suc zero) name h = record { place = 1; demand = draw (codes "br") M2 Bottom; there = refl; of = (let e : codes "br" ≡ name = same_Some (codes "br") name h in e) }
demand_of Precharge (suc (suc zero)) name h = record { place = 2; demand = draw (codes "en_bar") M3 Anywhere; there = refl; of = (let e : codes "en_bar" ≡ name = same_Some (codes "en_bar") name h in e) }
demand_of Precharge (suc (suc (suc zero))) name h = record { place = 3; demand = draw (codes "vdd") M1 UpperRail; there = refl; of = (let e : codes "vdd" ≡ name = same_Some (codes "vdd") name h in e) }
demand_of Precharge (suc (suc (suc (suc zero)))) name h = record { place = 4; demand = draw (codes "gnd") M1 LowerRail; there = refl; of = (let e : codes "gnd" ≡ name = same_Some (codes "gnd") name h in e) }
demand_of Precharge (suc (suc (suc (suc (suc port))))) name h = absurd cc
demand_of Mux zero name h = record { place = 0; demand = draw (codes "bl") M2 Top; there = refl; of = (let e : codes "bl" ≡ name = same_Some (codes "bl") name h in e) }
demand_of Mux (suc zero) name h = record { place = 1; demand = draw (codes "br") M2 Top; there = refl; of = (let e : codes "br" ≡ name = same_Some (codes "br") name h in e) }
demand_of Mux (suc (suc zero)) name h = record { place = 2; demand = draw (codes "blo") M4 Bottom; there = refl; of = (let e : codes "blo" ≡ name = same_Some (codes "blo") name h in e) }
demand_of Mux (suc (suc (suc zero))) name h = record { place = 3; demand = draw (codes "bro") M4 Bottom; there = refl; of = (let e : codes "bro" ≡ name = same_Some (codes "bro") name h in e) }
demand_of Mux (suc (suc (suc (suc zero)))) name h = record { place = 4; demand = draw (codes "sel") M4 Bottom; there = refl; of = (let e : codes "sel" ≡ name = same_Some (codes "sel") name h in e) }
demand_of Mux (suc (suc (suc (suc (suc zero))))) name h = record { place = 5; demand = draw (codes "vdd") M1 LowerRail; there = refl; of = (let e : codes "vdd" ≡ name = same_Some (codes "vdd") name h in e) }
demand_of Mux (suc (suc (suc (suc (suc (suc zero)))))) name h = record { place = 6; demand = draw (codes "gnd") M1 UpperRail; there = refl; of = (let e : codes "gnd" ≡ name = same_Some (codes "gnd") name h in e) }
demand_of Mux (suc (suc (suc (suc (suc (suc (suc port))))))) name h = absurd cc
demand_of Tie zero name h = record { place = 0; demand = draw (codes "bl") M2 Top; there = refl; of = (let e : codes "bl" ≡ name = same_Some (codes "bl") name h in e) }
demand_of Tie (suc zero) name h = record { place = 2; demand = draw (codes "br") M2 Top; there = refl; of = (let e : codes "br" ≡ name = same_Some (codes "br") name h in e) }
demand_of Tie (suc (suc zero)) name h = record { place = 4; demand = draw (codes "vdd") M1 LowerRail; there = refl; of = (let e : codes "vdd" ≡ name = same_Some (codes "vdd") name h in e) }
demand_of Tie (suc (suc (suc zero))) name h = record { place = 5; demand = draw (codes "gnd") M1 UpperRail; there = refl; of = (let e : codes "gnd" ≡ name = same_Some (codes "gnd") name h in e) }
demand_of Tie (suc (suc (suc (suc port)))) name h = absurd cc
demand_of Sense zero name h = record { place = 0; demand = draw (codes "bl") M2 TopAndBottom; there = refl; of = (let e : codes "bl" ≡ name = same_Some (codes "bl") name h in e) }
demand_of Sense (suc zero) name h = record { place = 1; demand = draw (codes "br") M2 TopAndBottom; there = refl; of = (let e : codes "br" ≡ name = same_Some (codes "br") name h in e) }
demand_of Sense (suc (suc zero)) name h = record { place = 2; demand = draw (codes "dout") M4 Bottom; there = refl; of = (let e : codes "dout" ≡ name = same_Some (codes "dout") name h in e) }
demand_of Sense (suc (suc (suc zero))) name h = record { place = 3; demand = draw (codes "en") M3 Anywhere; there = refl; of = (let e : codes "en" ≡ name = same_Some (codes "en") name h in e) }
demand_of Sense (suc (suc (suc (suc zero)))) name h = record { place = 4; demand = draw (codes "vdd") M1 UpperRail; there = refl; of = (let e : codes "vdd" ≡ name = same_Some (codes "vdd") name h in e) }
demand_of Sense (suc (suc (suc (suc (suc zero))))) name h = record { place = 5; demand = draw (codes "gnd") M1 LowerRail; there = refl; of = (let e : codes "gnd" ≡ name = same_Some (codes "gnd") name h in e) }
demand_of Sense (suc (suc (suc (suc (suc (suc port)))))) name h = absurd cc
demand_of Write zero name h = record { place = 0; demand = draw (codes "din") M4 Bottom; there = refl; of = (let e : codes "din" ≡ name = same_Some (codes "din") name h in e) }
demand_of Write (suc zero) name h = record { place = 1; demand = draw (codes "bl") M2 Top; there = refl; of = (let e : codes "bl" ≡ name = same_Some (codes "bl") name h in e) }
demand_of Write (suc (suc zero)) name h = record { place = 2; demand = draw (codes "br") M2 Top; there = refl; of = (let e : codes "br" ≡ name = same_Some (codes "br") name h in e) }
demand_of Write (suc (suc (suc zero))) name h = record { place = 3; demand = draw (codes "en") M4 Bottom; there = refl; of = (let e : codes "en" ≡ name = same_Some (codes "en") name h in e) }
demand_of Write (suc (suc (suc (suc zero)))) name h = record { place = 4; demand = draw (codes "vdd") M1 LowerRail; there = refl; of = (let e : codes "vdd" ≡ name = same_Some (codes "vdd") name h in e) }
demand_of Write (suc (suc (suc (suc (suc zero))))) name h = record { place = 5; demand = draw (codes "gnd") M1 UpperRail; there = refl; of = (let e : codes "gnd" ≡ name = same_Some (codes "gnd") name h in e) }
demand_of Write (suc (suc (suc (suc (suc (suc port)))))) name h = absurd cc
demand_of RowNand2 zero name h = record { place = 0; demand = draw (codes "a") M3 Anywhere; there = refl; of = (let e : codes "a" ≡ name = same_Some (codes "a") name h in e) }
demand_of RowNand2 (suc zero) name h = record { place = 1; demand = draw (codes "b") M3 Anywhere; there = refl; of = (let e : codes "b" ≡ name = same_Some (codes "b") name h in e) }
demand_of RowNand2 (suc (suc zero)) name h = record { place = 2; demand = draw (codes "z") M1 Right; there = refl; of = (let e : codes "z" ≡ name = same_Some (codes "z") name h in e) }
demand_of RowNand2 (suc (suc (suc zero))) name h = record { place = 3; demand = draw (codes "vdd") M1 UpperRail; there = refl; of = (let e : codes "vdd" ≡ name = same_Some (codes "vdd") name h in e) }
demand_of RowNand2 (suc (suc (suc (suc zero)))) name h = record { place = 4; demand = draw (codes "gnd") M1 LowerRail; there = refl; of = (let e : codes "gnd" ≡ name = same_Some (codes "gnd") name h in e) }
demand_of RowNand2 (suc (suc (suc (suc (suc port))))) name h = absurd cc
demand_of RowNand3 zero name h = record { place = 0; demand = draw (codes "a") M3 Anywhere; there = refl; of = (let e : codes "a" ≡ name = same_Some (codes "a") name h in e) }
demand_of RowNand3 (suc zero) name h = record { place = 1; demand = draw (codes "b") M3 Anywhere; there = refl; of = (let e : codes "b" ≡ name = same_Some (codes "b") name h in e) }
demand_of RowNand3 (suc (suc zero)) name h = record { place = 2; demand = draw (codes "c") M3 Anywhere; there = refl; of = (let e : codes "c" ≡ name = same_Some (codes "c") name h in e) }
demand_of RowNand3 (suc (suc (suc zero))) name h = record { place = 3; demand = draw (codes "z") M1 Right; there = refl; of = (let e : codes "z" ≡ name = same_Some (codes "z") name h in e) }
demand_of RowNand3 (suc (suc (suc (suc zero)))) name h = record { place = 4; demand = draw (codes "vdd") M1 UpperRail; there = refl; of = (let e : codes "vdd" ≡ name = same_Some (codes "vdd") name h in e) }
demand_of RowNand3 (suc (suc (suc (suc (suc zero))))) name h = record { place = 5; demand = draw (codes "gnd") M1 LowerRail; there = refl; of = (let e : codes "gnd" ≡ name = same_Some (codes "gnd") name h in e) }
demand_of RowNand3 (suc (suc (suc (suc (suc (suc port)))))) name h = absurd cc
demand_of Driver zero name h = record { place = 0; demand = draw (codes "a") M1 Left; there = refl; of = (let e : codes "a" ≡ name = same_Some (codes "a") name h in e) }
demand_of Driver (suc zero) name h = record { place = 1; demand = draw (codes "en") M3 Anywhere; there = refl; of = (let e : codes "en" ≡ name = same_Some (codes "en") name h in e) }
demand_of Driver (suc (suc zero)) name h = record { place = 2; demand = draw (codes "z") M1 Right; there = refl; of = (let e : codes "z" ≡ name = same_Some (codes "z") name h in e) }
demand_of Driver (suc (suc (suc zero))) name h = record { place = 3; demand = draw (codes "vdd") M1 UpperRail; there = refl; of = (let e : codes "vdd" ≡ name = same_Some (codes "vdd") name h in e) }
demand_of Driver (suc (suc (suc (suc zero)))) name h = record { place = 4; demand = draw (codes "gnd") M1 LowerRail; there = refl; of = (let e : codes "gnd" ≡ name = same_Some (codes "gnd") name h in e) }
demand_of Driver (suc (suc (suc (suc (suc port))))) name h = absurd cc
demand_of Nand2 zero name h = record { place = 0; demand = draw (codes "a") M2 Top; there = refl; of = (let e : codes "a" ≡ name = same_Some (codes "a") name h in e) }
demand_of Nand2 (suc zero) name h = record { place = 1; demand = draw (codes "b") M2 Top; there = refl; of = (let e : codes "b" ≡ name = same_Some (codes "b") name h in e) }
demand_of Nand2 (suc (suc zero)) name h = record { place = 2; demand = draw (codes "z") M2 Top; there = refl; of = (let e : codes "z" ≡ name = same_Some (codes "z") name h in e) }
demand_of Nand2 (suc (suc (suc zero))) name h = record { place = 3; demand = draw (codes "vdd") M1 UpperRail; there = refl; of = (let e : codes "vdd" ≡ name = same_Some (codes "vdd") name h in e) }
demand_of Nand2 (suc (suc (suc (suc zero)))) name h = record { place = 4; demand = draw (codes "gnd") M1 LowerRail; there = refl; of = (let e : codes "gnd" ≡ name = same_Some (codes "gnd") name h in e) }
demand_of Nand2 (suc (suc (suc (suc (suc port))))) name h = absurd cc
demand_of Nand3 zero name h = record { place = 0; demand = draw (codes "a") M2 Top; there = refl; of = (let e : codes "a" ≡ name = same_Some (codes "a") name h in e) }
demand_of Nand3 (suc zero) name h = record { place = 1; demand = draw (codes "b") M2 Top; there = refl; of = (let e : codes "b" ≡ name = same_Some (codes "b") name h in e) }
demand_of Nand3 (suc (suc zero)) name h = record { place = 2; demand = draw (codes "c") M2 Top; there = refl; of = (let e : codes "c" ≡ name = same_Some (codes "c") name h in e) }
demand_of Nand3 (suc (suc (suc zero))) name h = record { place = 3; demand = draw (codes "z") M2 Top; there = refl; of = (let e : codes "z" ≡ name = same_Some (codes "z") name h in e) }
demand_of Nand3 (suc (suc (suc (suc zero)))) name h = record { place = 4; demand = draw (codes "vdd") M1 UpperRail; there = refl; of = (let e : codes "vdd" ≡ name = same_Some (codes "vdd") name h in e) }
demand_of Nand3 (suc (suc (suc (suc (suc zero))))) name h = record { place = 5; demand = draw (codes "gnd") M1 LowerRail; there = refl; of = (let e : codes "gnd" ≡ name = same_Some (codes "gnd") name h in e) }
demand_of Nand3 (suc (suc (suc (suc (suc (suc port)))))) name h = absurd cc
demand_of Inv zero name h = record { place = 0; demand = draw (codes "a") M2 Top; there = refl; of = (let e : codes "a" ≡ name = same_Some (codes "a") name h in e) }
demand_of Inv (suc zero) name h = record { place = 1; demand = draw (codes "z") M2 Top; there = refl; of = (let e : codes "z" ≡ name = same_Some (codes "z") name h in e) }
demand_of Inv (suc (suc zero)) name h = record { place = 2; demand = draw (codes "vdd") M1 UpperRail; there = refl; of = (let e : codes "vdd" ≡ name = same_Some (codes "vdd") name h in e) }
demand_of Inv (suc (suc (suc zero))) name h = record { place = 3; demand = draw (codes "gnd") M1 LowerRail; there = refl; of = (let e : codes "gnd" ≡ name = same_Some (codes "gnd") name h in e) }
demand_of Inv (suc (suc (suc (suc port)))) name h = absurd cc
demand_of Dff zero name h = record { place = 0; demand = draw (codes "d") M2 Top; there = refl; of = (let e : codes "d" ≡ name = same_Some (codes "d") name h in e) }
demand_of Dff (suc zero) name h = record { place = 1; demand = draw (codes "clk") M2 Top; there = refl; of = (let e : codes "clk" ≡ name = same_Some (codes "clk") name h in e) }
demand_of Dff (suc (suc zero)) name h = record { place = 2; demand = draw (codes "q") M2 Top; there = refl; of = (let e : codes "q" ≡ name = same_Some (codes "q") name h in e) }
demand_of Dff (suc (suc (suc zero))) name h = record { place = 3; demand = draw (codes "vdd") M1 UpperRail; there = refl; of = (let e : codes "vdd" ≡ name = same_Some (codes "vdd") name h in e) }
demand_of Dff (suc (suc (suc (suc zero)))) name h = record { place = 4; demand = draw (codes "gnd") M1 LowerRail; there = refl; of = (let e : codes "gnd" ≡ name = same_Some (codes "gnd") name h in e) }
demand_of Dff (suc (suc (suc (suc (suc port))))) name h = absurd cc
demand_of Delay zero name h = record { place = 0; demand = draw (codes "a") M2 Top; there = refl; of = (let e : codes "a" ≡ name = same_Some (codes "a") name h in e) }
demand_of Delay (suc zero) name h = record { place = 1; demand = draw (codes "z") M2 Top; there = refl; of = (let e : codes "z" ≡ name = same_Some (codes "z") name h in e) }
demand_of Delay (suc (suc zero)) name h = record { place = 2; demand = draw (codes "vdd") M1 UpperRail; there = refl; of = (let e : codes "vdd" ≡ name = same_Some (codes "vdd") name h in e) }
demand_of Delay (suc (suc (suc zero))) name h = record { place = 3; demand = draw (codes "gnd") M1 LowerRail; there = refl; of = (let e : codes "gnd" ≡ name = same_Some (codes "gnd") name h in e) }
demand_of Delay (suc (suc (suc (suc port)))) name h = absurd cc

-- each metal of the wires is a conductor
pub metal_conducts : (connections : List Connect) (wire : Wire) → JoinsWires connections wire → (metal : Metal) → IsConductor connections (metal_layer wire metal)
metal_conducts connections wire joins M1 = of_cut connections (slice_index wire.cuts 0) (slice_index wire.metals 0) (joins.below 0 (omega arith))
metal_conducts connections wire joins M2 = of_cut connections (slice_index wire.cuts 1) (slice_index wire.metals 1) (joins.below 1 (omega arith))
metal_conducts connections wire joins M3 = of_cut connections (slice_index wire.cuts 2) (slice_index wire.metals 2) (joins.below 2 (omega arith))
metal_conducts connections wire joins M4 = of_cut connections (slice_index wire.cuts 2) (slice_index wire.metals 3) (joins.above 2 (omega arith))

-- Each port of a leaf cell is bound to a shape on a metal, which is a conductor.
pub port_conducts : (connections : List Connect) (cell : CellDrawing) (lists : FlatLists) (role : Role) (pins : List LeafPin) → JoinsWires connections cell.wire → cell.shapes ≡ lists.shapes → cell.labels ≡ lists.labels → AreLeafPins cell (role_demands role) pins
    → (port : ℕ) (name : List ℕ) → slice_get (role_ports role) port ≡ Some name → (m : Shape) × BindsForPort lists (role_ports role) port m × IsConductor connections m.layer
port_conducts connections cell lists role pins joins shapes labels are port name named =
    let d = demand_of role port name named in
    let lt = place_below (role_demands role) d.place d.demand d.there in
    let pin = item_there pins d.place (subst (λ (n : ℕ). d.place < n) (sym are.sized) lt) in
    let is = (are.each d.place d.demand pin.0 d.there pin.1).is in
    let m : Shape = record { layer = pin.0.layer; rect = pin.0.rect } in
    let b = is.bound in (
      m,
      record {
        pin = name;
        there = named;
        binds = record {
          label = b.label;
          listed = subst (λ (ls : List PlainLabel). Contains ls b.label) labels (contained_at cell.labels is.place b.label b.there);
          of = subst (λ (pin_name : List ℕ). IsLabelOfPin pin_name b.label) d.of b.of;
          binds = subst (λ (ss : List Shape). Binds ss (label_anchor b.label) m) shapes b.binds;
        };
      },
      subst (IsConductor connections) (sym is.has.0) (metal_conducts connections cell.wire joins d.demand.metal),
    )
