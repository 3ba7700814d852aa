-- A memory of which each small one breaks no rule breaks none.
use Rattle.std.proofs.Common.{◌≡◌, ◌⊎◌, inl, inr, ◌∙◌, ℕ, zero, suc, ◌<◌, ℤ, pos, ◌+ℤ◌, ◌≤ℤ◌, ◌<ℤ◌, List, [], ◌∷◌, length, refl, sym, ap, subst, arith}
use Rattle.std.specs.Prelude.{Contains, slice_get, slice_index}
use Rattle.std.proofs.lemmas.Bool.{cases_eq}
use Rattle.std.proofs.lemmas.Option.{slice_get-get_or, get_or_from_slice_get}
use Rattle.or_geom.specs.declared.shape.Shape.{Shape}
use Rattle.or_geom.proofs.ListLaws.{contains_none, contains_cases, contains_here, contains_later, contained_at}
use Rattle.cell_roles.specs.declared.role.Role.{Role}
use Rattle.tech_rules.specs.declared.tech.Rule.{Rule}
use Rattle.tech_rules.specs.declared.tech.Rule.TheVariants.{Width, Space, Enclose}
use Rattle.tech_rules.specs.declared.tech.Wire.{Wire}
use Rattle.gds_library.specs.declared.library.Structure.{Structure}
use Rattle.tech_rules.specs.declared.tech.Layer.{Layer}
use Rattle.cell_hierarchy.specs.FlatSet.{IsFlatShape}
use Rattle.sram_netlist.specs.Organization.{Organization}
use Rattle.sram_netlist.specs.BitCells.{Alike}
use Rattle.macro_layout.specs.LayoutKit.{LayoutKit}
use Rattle.macro_layout.specs.Places.{Floorplan}
use Rattle.macro_layout.specs.Floorplan.{Tracks}
use Rattle.local_report.specs.Local.{KeepsRule, HasPositiveMinimum}
use Rattle.local_report.proofs.LocalLaws.{report_is_local}
use Rattle.good_places.specs.Leaves.{ReachesNeighboursOnly}
use Rattle.leaf_shapes.specs.Outline.{IsWireLayer}
use Rattle.good_places.specs.Plain.{IsPlain, HasFlatShapes, IsCleanMemory}
use Rattle.good_places.specs.Windows.{IsWindowOf, IsWrittenPlan}
use Rattle.good_places.proofs.PlainLaws.{plain_rules_are_kept}
use Rattle.good_wires.specs.Kept.{Ports, IsAmong, IsCleanDrawing, IsCleanBranched, IsCleanTopped}
use Rattle.good_wires.proofs.KeptLaws.{cut_spaces_are_kept}
use Rattle.good_wires.proofs.SecondKeptLaws.{second_space_is_kept}
use Rattle.good_wires.proofs.FourthKeptLaws.{fourth_space_is_kept}
use Rattle.bar_spaces.proofs.FirstKeptLaws.{first_space_is_kept}
use Rattle.bar_spaces.proofs.FirstCutLaws.{first_cut_space_is_kept}
use Rattle.tap_spaces.proofs.ThirdKeptLaws.{third_space_is_kept}
use Rattle.leaf_margins.specs.Memories.{HasMemoryShapes, IsCleanLayout, IsMetalOrCut}
use Rattle.leaf_margins.proofs.WidthLaws.{wire_layer_widths_are_kept}
use Rattle.leaf_margins.proofs.CutEncloseLaws.{cut_enclosures_are_kept}
use Rattle.leaf_margins.proofs.WireEncloseLaws.{enclosures_by_wires_are_kept}
use Rattle.kept_rules.specs.Allowed.{IsWideEnough, IsAllowed, IsKeptRule}
use Rattle.good_wires.specs.Held.{DoRailsReach}
use Rattle.kept_rules.specs.Kept.{HasSevenLayers, ReportsAreEmpty}

-- a list has a number, or it hasn't
has_or_not : (xs : List ℕ) (x : ℕ) → Contains xs x ⊎ (Contains xs x → ⊥)
has_or_not [] x = inr (λ has. contains_none x has)
has_or_not (y ∷ ys) x = elim (cases_eq x y) [
  | inl e ↦ inl (contains_here y ys x e)
  | inr differs ↦ elim (has_or_not ys x) [
    | inl later ↦ inl (contains_later y ys x later)
    | inr none ↦ inr (λ has. elim (contains_cases y ys x has) [ inl e ↦ differs e | inr later ↦ none later ])
  ]
]

-- a layer of wires, by its place among them
at_place : (xs : List ℕ) (x n : ℕ) → length xs ≡ n → Contains xs x → (k : ℕ) × (k < n) × (x ≡ slice_index xs k)
at_place xs x n long has =
    let at : slice_get xs has.0 ≡ _ = slice_get-get_or xs has.0 x has.1 in
    let lt = has.1 in
    (has.0, omega (arith, lt, long), sym (get_or_from_slice_get xs has.0 x 0 (at ∙ ap (λ (z : ℕ). Rattle.std.specs.Prelude.Some z) has.2)))

module _ (ports tops outs : Ports) (drop : Role → ℕ) (layers : List Layer) (structs : List Structure) (rules : List Rule) (plan : Organization) (kit : LayoutKit) (bit : List ℕ) (wire : Wire) (tracks : Tracks) (f : Floorplan) (by reach : ℤ) (to : List Shape)
    (p : IsWrittenPlan plan) (short : ReachesNeighboursOnly kit wire reach) (over : pos 0 ≤ℤ by) (has : HasMemoryShapes (IsAmong ports) (IsAmong tops) (IsAmong outs) drop (IsFlatShape layers structs) plan kit (Alike bit) wire tracks f by to)
    (reaches : DoRailsReach plan kit wire tracks.column f) (seven : HasSevenLayers wire)
    (inner : by ≤ℤ wire.space) (high : (role : Role) → (wire.width +ℤ wire.width) <ℤ pos (kit.height role))
    (windows : (other : Organization) → IsWindowOf plan other → IsCleanLayout (IsAmong ports) (IsAmong tops) (IsAmong outs) drop (IsFlatShape layers structs) rules other kit (Alike bit) wire by) where
  abbrev Flat : List ℕ → Shape → Type 0
  Flat = IsFlatShape layers structs

  -- a window, as each law asks for it
  memory : (other : Organization) → IsWindowOf plan other → IsCleanMemory (IsFlatShape layers structs) rules other kit (Alike bit) wire by
  memory other is = let w = windows other is in record { floorplan = w.floorplan; shapes = w.shapes; flat = record { laid = w.has.flat.drawn.laid; passes = w.has.flat.passes; leaves = w.has.leaves }; clean = w.clean }

  abbrev drawing : (other : Organization) → IsWindowOf plan other → IsCleanDrawing (IsFlatShape layers structs) rules other kit (Alike bit) wire by
  drawing other is = let w = windows other is in record { tracks = w.tracks; floorplan = w.floorplan; shapes = w.shapes; flat = w.has.flat; clean = w.clean }

  branched : (other : Organization) → IsWindowOf plan other → IsCleanBranched (IsAmong ports) (IsFlatShape layers structs) rules other kit (Alike bit) wire by
  branched other is = record { drawing = drawing other is; branches = (windows other is).has.branches }

  topped : (other : Organization) → IsWindowOf plan other → IsCleanTopped (IsAmong tops) (IsAmong outs) drop (IsFlatShape layers structs) rules other kit (Alike bit) wire by
  topped other is = record { drawing = drawing other is; tops = (windows other is).has.tops }

  flat_shapes : HasFlatShapes (IsFlatShape layers structs) plan kit (Alike bit) wire f by to
  flat_shapes = record { laid = has.flat.drawn.laid; passes = has.flat.passes; leaves = has.leaves }

  metal_there : (k : ℕ) → k < 4 → Contains wire.metals (slice_index wire.metals k)
  metal_there k lt = let four = seven.four in contained_at wire.metals k (slice_index wire.metals k) (slice_get-get_or wire.metals k 0 (omega (arith, lt, four)))

  layer_kind : (layer : ℕ) → IsPlain wire layer ⊎ IsMetalOrCut wire layer
  layer_kind layer = elim (has_or_not wire.metals layer) [
    | inl metal ↦ inr (inl (at_place wire.metals layer 4 seven.four metal))
    | inr none ↦ elim (has_or_not wire.cuts layer) [
      | inl cut ↦ inr (inr (at_place wire.cuts layer 3 seven.three cut))
      | inr neither ↦ inl (λ of. elim of [ inl metal ↦ none metal | inr cut ↦ neither cut ])
    ]
  ]

  cut_there : (k : ℕ) → k < 3 → Contains wire.cuts (slice_index wire.cuts k)
  cut_there k lt = has.flat.drawn.three k lt

  of_wires : (layer : ℕ) → IsMetalOrCut wire layer → IsWireLayer wire layer
  of_wires layer (inl (k, lt, e)) = inl (subst (Contains wire.metals) (sym e) (metal_there k lt))
  of_wires layer (inr (k, lt, e)) = inr (subst (Contains wire.cuts) (sym e) (cut_there k lt))

  abbrev Kept : Rule → Type 0
  Kept rule = KeepsRule rules to rule

  module _ (min : ℤ) (some : pos 1 ≤ℤ min) (near : (min +ℤ (by +ℤ by)) ≤ℤ reach) where
    metal_space : (k : ℕ) → k < 4 → min ≤ℤ wire.space → Contains rules (Space (slice_index wire.metals k) (slice_index wire.metals k) min) → Kept (Space (slice_index wire.metals k) (slice_index wire.metals k) min)
    metal_space zero lt small listed = first_space_is_kept layers structs rules plan kit bit wire tracks f by reach to p short over has.flat (metal_there 0 lt) drawing min some small near listed
    metal_space (suc zero) lt small listed = second_space_is_kept ports layers structs rules plan kit bit wire tracks f by reach to p short over has.flat has.branches (metal_there 1 lt) branched min some small near
    metal_space (suc (suc zero)) lt small listed = third_space_is_kept layers structs rules plan kit bit wire tracks f by reach to p short over has.flat (metal_there 2 lt) drawing min some small near
    metal_space (suc (suc (suc zero))) lt small listed = fourth_space_is_kept tops outs drop layers structs rules plan kit bit wire tracks f by reach to p short over has.flat has.tops (metal_there 3 lt) topped min some small near
    metal_space (suc (suc (suc (suc k)))) lt small listed = absurd (omega (arith, lt))

    cut_space : (k : ℕ) → k < 3 → min ≤ℤ wire.space → Contains rules (Space (slice_index wire.cuts k) (slice_index wire.cuts k) min) → Kept (Space (slice_index wire.cuts k) (slice_index wire.cuts k) min)
    cut_space zero lt small listed = first_cut_space_is_kept layers structs rules plan kit bit wire tracks f by reach to p short has.flat drawing min some small near listed
    cut_space (suc zero) lt small listed = cut_spaces_are_kept layers structs rules plan kit bit wire tracks f by reach to p short has.flat drawing 1 min (inl refl) some small near
    cut_space (suc (suc zero)) lt small listed = cut_spaces_are_kept layers structs rules plan kit bit wire tracks f by reach to p short has.flat drawing 2 min (inr refl) some small near
    cut_space (suc (suc (suc k))) lt small listed = absurd (omega (arith, lt))

    own_space : (layer : ℕ) → IsMetalOrCut wire layer → min ≤ℤ wire.space → Contains rules (Space layer layer min) → Kept (Space layer layer min)
    own_space layer (inl (k, lt, e)) small listed = subst (λ (l : ℕ). Kept (Space l l min)) (sym e) (metal_space k lt small (subst (λ (l : ℕ). Contains rules (Space l l min)) e listed))
    own_space layer (inr (k, lt, e)) small listed = subst (λ (l : ℕ). Kept (Space l l min)) (sym e) (cut_space k lt small (subst (λ (l : ℕ). Contains rules (Space l l min)) e listed))

    width : (layer : ℕ) → (IsWireLayer wire layer → IsWideEnough wire layer min) → Kept (Width layer min)
    width layer allowed = elim (layer_kind layer) [
      | inl plain ↦ plain_rules_are_kept layers structs rules plan kit bit wire f by reach to p short flat_shapes memory (Width layer min) (plain, some, near)
      | inr of ↦ wire_layer_widths_are_kept ports tops outs drop layers structs rules plan kit bit wire tracks f by reach to p short over has metal_there windows layer min of (allowed (of_wires layer of)) some near
    ]

    space : (layer other : ℕ) → Contains rules (Space layer other min) → IsAllowed wire (Space layer other min) → Kept (Space layer other min)
    space layer other listed (inl both) = plain_rules_are_kept layers structs rules plan kit bit wire f by reach to p short flat_shapes memory (Space layer other min) (both.0, both.1, some, near)
    space layer other listed (inr (same, small)) = subst (λ (o : ℕ). Kept (Space layer o min)) same (elim (layer_kind layer) [
      | inl plain ↦ plain_rules_are_kept layers structs rules plan kit bit wire f by reach to p short flat_shapes memory (Space layer layer min) (plain, plain, some, near)
      | inr of ↦ own_space layer of (small (of_wires layer of)) (subst (λ (o : ℕ). Contains rules (Space layer o min)) (sym same) listed)
    ])

    enclosure : (layer : ℕ) (listed : List ℕ) → IsAllowed wire (Enclose layer listed min) → Kept (Enclose layer listed min)
    enclosure layer listed (inl plain) = enclosures_by_wires_are_kept ports tops outs drop layers structs rules plan kit bit wire tracks f by reach to p short over inner has metal_there windows high layer min listed plain some near (λ l one. layer_kind l)
    enclosure layer listed (inr e) = subst (λ (l : ℕ). Kept (Enclose l listed min)) (sym e.is) (cut_enclosures_are_kept ports tops outs drop layers structs rules plan kit bit wire tracks f by reach to p short over has metal_there windows reaches e.index min listed e.below some e.fits near e.by (λ l one. layer_kind l))

  pub kept : (rule : Rule) → Contains rules rule → IsKeptRule wire by reach rule → Kept rule
  kept (Width layer min) listed k = width min k.some k.near layer k.allowed
  kept (Space layer other min) listed k = space min k.some k.near layer other listed k.allowed
  kept (Enclose layer by_layers min) listed k = enclosure min k.some k.near layer by_layers k.allowed

positive : (wire : Wire) (by reach : ℤ) (rule : Rule) → IsKeptRule wire by reach rule → HasPositiveMinimum rule
positive wire by reach (Width layer min) k = k.some
positive wire by reach (Space layer other min) k = k.some
positive wire by reach (Enclose layer listed min) k = k.some

pub reports_are_empty : ReportsAreEmpty
reports_are_empty ports tops outs drop layers structs rules plan kit bit wire tracks f by reach to p short over has reaches seven inner high windows rules_are =
    report_is_local rules to (λ rule listed. positive wire by reach rule (rules_are rule listed))
    (λ rule listed. kept ports tops outs drop layers structs rules plan kit bit wire tracks f by reach to p short over has reaches seven inner high windows rule listed (rules_are rule listed))
