-- The lists of edges, as they grow.
use Rattle.std.proofs.Common.{◌≡◌, ℕ, ◌+◌, ℤ, pos, ◌+ℤ◌, List, [], ◌∷◌, ◌++◌, map, cond, ap, subst, ◌∙◌, append_assoc}
use Rattle.std.specs.Ordering.{int_eq}
use Rattle.cell_roles.specs.declared.role.Role.TheVariants.{Precharge}
use Rattle.tech_rules.specs.declared.tech.Wire.{Wire}
use Rattle.sram_netlist.specs.Organization.{Organization}
use Rattle.sram_netlist.specs.InstanceList.{tabulate}
use Rattle.leaf_tables.specs.declared.kit.Kit.{Kit}
use Rattle.leaf_tables.specs.declared.part.Edge.{Edge}
use Rattle.macro_layout.specs.Places.{Floorplan, columns_x}
use Rattle.macro_layout.specs.Floorplan.{line_count}
use Rattle.floorplan.specs.LayoutOfKit.{layout_kit}
use Rattle.part_edges.specs.declared.side.PartSide.TheVariants.{Upper}
use Rattle.part_edges.specs.PartPins.{edges_at, AreInOrder}
use Rattle.bank_layout.specs.BankPart.{pre_pins}
use Rattle.bank_layout.specs.BankEdges.{rail_edge, output_edge, edge_moved, AddsClockEdge, AreTopEdges}

-- the list that grew three times
three_lists : (none one two all xs ys zs : List Edge) → none ≡ [] → one ≡ none ++ xs → two ≡ one ++ ys → all ≡ two ++ zs → all ≡ xs ++ (ys ++ zs)
three_lists none one two all xs ys zs empty first second third =
    third ∙ (ap (λ (l : List Edge). l ++ zs) (second ∙ ap (λ (l : List Edge). l ++ ys) (first ∙ ap (λ (l : List Edge). l ++ xs) empty)) ∙ append_assoc xs ys zs)

pub bottom_as : (n m : ℕ) (wire w : Wire) (ports : List (List ℕ)) (x u : ℤ) (words a b size : ℕ) (by c : ℤ) (lower none one two all edges : List Edge) → none ≡ [] → one ≡ none ++ tabulate n (rail_edge wire ports) → two ≡ one ++ tabulate size (output_edge x words a) → all ≡ two ++ map (edge_moved by) lower
    → AreInOrder all edges → n ≡ m → wire ≡ w → x ≡ u → a ≡ b → by ≡ c → AreInOrder (tabulate m (rail_edge w ports) ++ (tabulate size (output_edge u words b) ++ map (edge_moved c) lower)) edges
bottom_as n m wire w ports x u words a b size by c lower none one two all edges empty first second third order counted drawn at wide moved =
    subst (λ (l : List Edge). AreInOrder l edges)
    (three_lists none one two all _ _ _ empty first second third ∙ (λ i. tabulate (counted i) (rail_edge (drawn i) ports) ++ (tabulate size (output_edge (at i) words (wide i)) ++ map (edge_moved (moved i)) lower))) order

pub top_as : (kit : Kit) (plan : Organization) (wire : Wire) (fl : Floorplan) (n : List ℕ) (ports : List (List ℕ)) (h : ℕ) (by : ℤ) (none clock all columns edges : List Edge) → none ≡ [] → AddsClockEdge kit.leaves wire ports (line_count plan.groups + 2) (pos h) none clock
    → all ≡ clock ++ map (edge_moved by) columns → columns ≡ edges_at (Upper (pos h)) (pre_pins kit plan n) → AreInOrder all edges → h ≡ (layout_kit kit).height Precharge → by ≡ columns_x plan (layout_kit kit) fl → AreTopEdges kit plan wire fl n ports edges
top_as kit plan wire fl n ports h by none clock all columns edges empty adds grown are order high moved = record {
  clock = clock;
  of_clock = record {
    pin = adds.pin;
    is = adds.is;
    adds = adds.adds ∙ (λ i. empty i ++ cond (int_eq (adds.pin.rect.y1 +ℤ wire.width) (pos (high i))) (rail_edge wire ports (line_count plan.groups + 2) ∷ []) []);
  };
  are = subst (λ (l : List Edge). AreInOrder l edges)
      (grown ∙ (λ i. clock ++ map (edge_moved (moved i)) (are i)) ∙ ap (λ (k : ℕ). clock ++ map (edge_moved (columns_x plan (layout_kit kit) fl)) (edges_at (Upper (pos k)) (pre_pins kit plan n))) high) order;
}
