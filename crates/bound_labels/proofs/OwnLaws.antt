-- The nets of the macro's own ports are anchored, by the macro's own labels.
use Rattle.std.proofs.Common.{◌≡◌, inl, inr, ℕ, zero, suc, List, [], ◌∷◌, ◌++◌, map, Some, refl, sym, ap, subst}
use Rattle.std.specs.Prelude.{slice_get}
use Rattle.std.specs.List.{flat_map}
use Rattle.or_geom.specs.declared.shape.Shape.{Shape}
use Rattle.or_geom.proofs.ListLaws.{contained_at}
use Rattle.netlist.specs.declared.rows.RowPin.{RowPin}
use Rattle.tech_rules.specs.declared.tech.Tech.{Tech}
use Rattle.cell_hierarchy.specs.Plain.{FlatLists}
use Rattle.net_extractor.specs.PlainNetLabel.{PlainNetLabel}
use Rattle.net_extractor.specs.Extraction.{AreNetsUnder}
use Rattle.spice_netlist.specs.Numbers.{PinLabel, label_of_row}
use Rattle.sram_netlist.specs.Organization.{Organization}
use Rattle.sram_netlist.specs.Nets.{Net}
use Rattle.sram_netlist.specs.InstanceList.{leaf_instances}
use Rattle.sram_netlist.specs.Names.{net_name}
use Rattle.sram_netlist.specs.Netlist.{supply_nets}
use Rattle.sram_rows.specs.Rows.{macro_nets, port_pin, leaf_pins, netlist_pins, label_of_pin, RowsEqual}
use Rattle.macro_layout.specs.Pins.{port_nets}
use Rattle.row_nets.specs.Rows.{IsRowOfMacro}
use Rattle.row_nets.proofs.RowLaws.{mapped_at, unmapped_at}
use Rattle.kit_nets.specs.StatedParts.{Source}
use Rattle.kit_nets.specs.OuterHubs.{AreOuterHubs}
use Rattle.kit_nets.specs.PathsTell.{DoPathsTell}
use Rattle.kit_nets.proofs.ArrayJoinLaws.{array_hub}
use Rattle.kit_nets.proofs.DataHubLaws.{data_hub}
use Rattle.wired_macros.specs.WiredMacro.{IsWiredMacro}
use Rattle.wired_macros.specs.Texts.{AreLeavesInside, AreFirstTextLayers}
use Rattle.wired_macros.proofs.MacroLabelLaws.{macro_bound, macro_to_hub}
use Rattle.wired_macros.proofs.TopNetLaws.{IsPortNet, macro_nets_are}
use Rattle.label_nets.specs.Anchored.{IsAnchored}

in_front : {X : Type 0} (xs ys : List X) (k : ℕ) (x : X) → slice_get xs k ≡ Some x → slice_get (xs ++ ys) k ≡ Some x
in_front [] ys k x h = absurd cc
in_front (z ∷ zs) ys zero x h = h
in_front (z ∷ zs) ys (suc k) x h = in_front zs ys k x h

behind : {X : Type 0} (xs ys : List X) (k : ℕ) (x : X) → slice_get ys k ≡ Some x → (j : ℕ) × (slice_get (xs ++ ys) j ≡ Some x)
behind [] ys k x h = (k, h)
behind (z ∷ zs) ys k x h = let found = behind zs ys k x h in (suc found.0, found.1)

-- the place of a port's net among the macro's nets
place_of : (plan : Organization) (net : Net) → IsPortNet plan net → (place : ℕ) × (slice_get (macro_nets plan) place ≡ Some net)
place_of plan net is = by is where
  among : (place : ℕ) → slice_get (port_nets plan ++ supply_nets) place ≡ Some net → (place : ℕ) × (slice_get (macro_nets plan) place ≡ Some net)
  among place on = (place, subst (λ (l : List Net). slice_get l place ≡ Some net) (sym (macro_nets_are plan)) on)

  by : IsPortNet plan net → (place : ℕ) × (slice_get (macro_nets plan) place ≡ Some net)
  by (inl signal) = among signal.number (in_front (port_nets plan) supply_nets signal.number net signal.listed)
  by (inr (inl power)) = let at = behind (port_nets plan) supply_nets 0 net (ap (λ (n : Net). Some n) power) in among at.0 at.1
  by (inr (inr ground)) = let at = behind (port_nets plan) supply_nets 1 net (ap (λ (n : Net). Some n) ground) in among at.0 at.1

module _ (tech : Tech) (s : Source) (flat : FlatLists) (d : IsWiredMacro tech s flat) (outer : Net → Shape) (are : AreOuterHubs s d.laid.main outer) (inside : AreLeavesInside s) (texts : AreFirstTextLayers s.layers s.wire) (tell : DoPathsTell s.plan)
    (labels : List PlainNetLabel) (nets : AreNetsUnder tech.connects flat.shapes flat.labels labels) (rows : List RowPin) (equal : RowsEqual rows (netlist_pins s.plan s.kit.cell s.bits)) where
  -- a port of the macro has a row
  macro_row : (net : Net) → IsPortNet s.plan net → (row : RowPin) × IsRowOfMacro s.plan s.kit.cell s.bits rows net row
  macro_row net is =
      let at = place_of s.plan net is in
      let pins = netlist_pins s.plan s.kit.cell s.bits in
      let here = in_front (map (port_pin s.plan) (macro_nets s.plan)) (flat_map (leaf_pins s.plan s.kit.cell s.bits) (leaf_instances s.plan)) at.0 (port_pin s.plan net) (mapped_at (port_pin s.plan) (macro_nets s.plan) at.0 net at.1) in
      let label = mapped_at label_of_pin pins at.0 (port_pin s.plan net) here in
      let found = unmapped_at label_of_row rows at.0 (label_of_pin (port_pin s.plan net)) (subst (λ (ls : List PinLabel). slice_get ls at.0 ≡ Some (label_of_pin (port_pin s.plan net))) (sym equal.labels) label) in (
        found.0,
        record {
          place = at.0;
          on = at.1;
          is = record {
            place = at.0;
            there = found.1;
            pin = port_pin s.plan net;
            here = here;
            path_is = refl;
            name_is = refl;
            net_is = refl;
            row_path = ap (λ (l : PinLabel). l.path) found.2;
            row_name = ap (λ (l : PinLabel). l.pin) found.2;
          };
        },
      )

  -- Its net is anchored.
  pub own_anchored : (net : Net) → IsPortNet s.plan net → IsAnchored tech.connects s flat labels rows (array_hub s (data_hub s outer)) net
  own_anchored net is =
      let row = macro_row net is in
      let bound = macro_bound tech s flat d outer are inside texts tell labels nets rows net row.0 row.1 in
      record {
        row = row.0;
        listed = contained_at rows row.1.is.place row.0 row.1.is.there;
        of = ([], net_name s.plan net, row.1.is);
        bound = bound.0;
        binds = bound.1;
        joined = macro_to_hub tech s flat d outer are inside texts tell labels nets rows net row.0 bound.0 row.1 bound.1;
      }
