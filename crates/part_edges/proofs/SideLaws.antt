-- The edges of one pin more.
use Rattle.std.proofs.Common.{◌≡◌, ℕ, suc, List, [], ◌∷◌, ◌++◌, Bool, true, false, cond, map, append_assoc, refl, ap, sym, ◌∙◌}
use Rattle.std.specs.List.{filter, AllByRecursion}
use Rattle.or_geom.specs.declared.place.Place.{Place}
use Rattle.or_geom.specs.Distance.{IsReachable}
use Rattle.cell_roles.specs.declared.role.Role.{Role}
use Rattle.cell_roles.specs.Roles.{role_ports}
use Rattle.leaf_shapes.specs.Demands.{PinDemand}
use Rattle.leaf_shapes.specs.declared.pins.LeafPin.{LeafPin}
use Rattle.leaf_tables.specs.declared.part.Edge.{Edge}
use Rattle.leaf_tables.specs.NearLeaf.{ArePinsReachable}
use Rattle.part_edges.specs.declared.side.PartSide.{PartSide}
use Rattle.part_edges.specs.PartPins.{PartPin, placed_pin, is_at_side, net_of, side_pins, edge_of, meets, edges_at}

one_edge : (x : PartPin) (m : List PartPin) (t : Bool) → map edge_of (cond t (x ∷ []) []) ++ map edge_of m ≡ map edge_of (cond t (x ∷ m) m)
one_edge x m true = refl
one_edge x m false = refl

-- a pin that is demanded at a side
pub pin_more : (side : PartSide) (role : Role) (nets : List (List ℕ)) (place : Place) (d : PinDemand) (ds : List PinDemand) (p : LeafPin) (ps : List LeafPin) (rest : List PinDemand) (pins : List LeafPin) (now new all : List Edge) (net : List ℕ)
    → rest ≡ d ∷ ds → pins ≡ p ∷ ps → is_at_side d.fit ≡ true → net ≡ net_of (role_ports role) nets d.pin → new ≡ now ++ edges_at side (placed_pin net place p.rect ∷ [])
    → now ++ edges_at side (side_pins role nets place rest pins) ≡ all → new ++ edges_at side (side_pins role nets place ds ps) ≡ all
pin_more side role nets place d ds p ps rest pins now new all net front first at is added before =
    let x = placed_pin net place p.rect in
    let later = side_pins role nets place ds ps in
    let wanted : side_pins role nets place rest pins ≡ x ∷ later =
    (λ i. side_pins role nets place (front i) (first i))
    ∙ (ap (λ (t : Bool). cond t (placed_pin (net_of (role_ports role) nets d.pin) place p.rect ∷ later) later) at
    ∙ ap (λ (n : List ℕ). placed_pin n place p.rect ∷ later) (sym is)) in
    ap (λ (l : List Edge). l ++ edges_at side later) added
    ∙ (append_assoc now (edges_at side (x ∷ [])) (edges_at side later)
    ∙ (ap (λ (l : List Edge). now ++ l) (one_edge x (filter (meets side) later) (meets side x) ∙ sym (ap (edges_at side) wanted)) ∙ before))

pub all_reachable : (pins : List LeafPin) → ArePinsReachable pins → AllByRecursion (λ (pin : LeafPin). IsReachable pin.rect) pins
all_reachable [] near = tt
all_reachable (p ∷ ps) near = (near 0 p refl, all_reachable ps (λ k pin at. near (suc k) pin at))
