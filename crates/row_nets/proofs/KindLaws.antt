-- Each row is that of a port of the macro, or of a leaf instance.
use Rattle.std.proofs.Common.{◌≡◌, ◌⊎◌, inl, inr, ℕ, zero, suc, List, [], ◌∷◌, ◌++◌, Contains, map, Some, refl, sym, ap, subst}
use Rattle.std.specs.Prelude.{slice_get}
use Rattle.std.specs.List.{flat_map}
use Rattle.or_geom.proofs.ListLaws.{contains_none, contains_cases}
use Rattle.netlist.specs.declared.rows.RowPin.{RowPin}
use Rattle.cell_roles.specs.declared.role.Role.{Role}
use Rattle.cell_roles.specs.Roles.{role_ports}
use Rattle.spice_text.specs.Words.{lower}
use Rattle.spice_netlist.specs.Numbers.{PinLabel, label_of_row}
use Rattle.sram_netlist.specs.Organization.{Organization}
use Rattle.sram_netlist.specs.Nets.{Net}
use Rattle.sram_netlist.specs.Instances.{LeafInstance}
use Rattle.sram_netlist.specs.Netlist.{role, ports}
use Rattle.sram_netlist.specs.Names.{leaf_path}
use Rattle.sram_netlist.specs.BitCells.{BitCells}
use Rattle.sram_netlist.specs.InstanceList.{leaf_instances}
use Rattle.sram_netlist.specs.Membership.{IsOneOf}
use Rattle.sram_rows.specs.Rows.{NetlistPin, macro_nets, port_pin, pins_with_nets, cell_at, leaf_pins, netlist_pins, label_of_pin, RowsEqual}
use Rattle.row_nets.specs.Rows.{IsNetlistRowOf, IsRowOfPort, IsRowOfMacro}
use Rattle.row_nets.proofs.RowLaws.{mapped_at, unmapped_at}

pub listed_at : {X : Type 0} (xs : List X) (x : X) → Contains xs x → (k : ℕ) × (slice_get xs k ≡ Some x)
listed_at [] x h = absurd (contains_none x h)
listed_at {X = X} (y ∷ ys) x h = elim (contains_cases y ys x h) [
  | inl first ↦ (0, ap (λ (z : X). Some z) (sym first))
  | inr later ↦ let found = listed_at ys x later in (suc found.0, found.1)
]

from_both : {X : Type 0} (xs ys : List X) (k : ℕ) (x : X) → slice_get (xs ++ ys) k ≡ Some x → (slice_get xs k ≡ Some x) ⊎ ((j : ℕ) × (slice_get ys j ≡ Some x))
from_both [] ys k x h = inr (k, h)
from_both (z ∷ zs) ys zero x h = inl h
from_both (z ∷ zs) ys (suc k) x h = from_both zs ys k x h

from_lists : {X Y : Type 0} (f : X → List Y) (xs : List X) (k : ℕ) (y : Y) → slice_get (flat_map f xs) k ≡ Some y → (x : X) × IsOneOf x xs × (j : ℕ) × (slice_get (f x) j ≡ Some y)
from_lists f [] k y h = absurd cc
from_lists f (x ∷ xs) k y h = elim (from_both (f x) (flat_map f xs) k y h) [
  | inl here ↦ (x, inl refl, k, here)
  | inr there ↦ let found = from_lists f xs there.0 y there.1 in (found.0, inr found.1, found.2, found.3)
]

-- the port and the net of a pin of a leaf instance
record IsPinAt (path cell : List ℕ) (names : List (List ℕ)) (nets : List Net) (k : ℕ) (pin : NetlistPin) : Type 0 where
  name : List ℕ
  net : Net
  named : slice_get names k ≡ Some name
  on : slice_get nets k ≡ Some net
  is : pin ≡ record { path = path; cell = cell; pin = name; net = net }

from_pins : (path cell : List ℕ) (names : List (List ℕ)) (nets : List Net) (k : ℕ) (pin : NetlistPin) → slice_get (pins_with_nets path cell names nets) k ≡ Some pin → IsPinAt path cell names nets k pin
from_pins path cell [] nets k pin h = absurd cc
from_pins path cell (n ∷ ns) [] k pin h = absurd cc
from_pins path cell (n ∷ ns) (x ∷ xs) zero pin h = record { name = n; net = x; named = refl; on = refl; is = cc }
from_pins path cell (n ∷ ns) (x ∷ xs) (suc k) pin h = let p = from_pins path cell ns xs k pin h in record { name = p.name; net = p.net; named = p.named; on = p.on; is = p.is }

module _ (plan : Organization) (cell : Role → List ℕ) (bits : BitCells) (rows : List RowPin) (equal : RowsEqual rows (netlist_pins plan cell bits)) where
  -- the row of a pin that stands where the row stands
  row_is : (k : ℕ) (row : RowPin) (pin : NetlistPin) → slice_get rows k ≡ Some row → slice_get (netlist_pins plan cell bits) k ≡ Some pin → label_of_pin pin ≡ label_of_row row → IsNetlistRowOf plan cell bits rows pin.path pin.pin pin.net row
  row_is k row pin there here same = record {
    place = k;
    there = there;
    pin = pin;
    here = here;
    path_is = refl;
    name_is = refl;
    net_is = refl;
    row_path = ap (λ (l : PinLabel). l.path) (sym same);
    row_name = ap (λ (l : PinLabel). l.pin) (sym same);
  }

  -- Each row is one of a port of the macro, or of a port of a leaf instance.
  pub row_kinds : (row : RowPin) → Contains rows row → ((net : Net) × IsRowOfMacro plan cell bits rows net row) ⊎ ((leaf : LeafInstance) × (port : ℕ) × IsOneOf leaf (leaf_instances plan) × IsRowOfPort plan cell bits rows leaf port row)
  row_kinds row listed =
      let at = listed_at rows row listed in
      let label = mapped_at label_of_row rows at.0 row at.1 in
      let found = unmapped_at label_of_pin (netlist_pins plan cell bits) at.0 (label_of_row row) (subst (λ (ls : List PinLabel). slice_get ls at.0 ≡ Some (label_of_row row)) equal.labels label) in
      let is = row_is at.0 row found.0 at.1 found.1 found.2 in
      elim (from_both (map (port_pin plan) (macro_nets plan)) (flat_map (leaf_pins plan cell bits) (leaf_instances plan)) at.0 found.0 found.1) [
        | inl macro ↦
            let port = unmapped_at (port_pin plan) (macro_nets plan) at.0 found.0 macro in
            inl (port.0, record { place = at.0; on = port.1; is = subst (λ (p : NetlistPin). IsNetlistRowOf plan cell bits rows p.path p.pin p.net row) (sym port.2) is })
        | inr leaves ↦
            let leaf = from_lists (leaf_pins plan cell bits) (leaf_instances plan) leaves.0 found.0 leaves.1 in
            let p = from_pins (leaf_path plan leaf.0) (lower (cell_at plan cell bits leaf.0)) (role_ports (role plan leaf.0)) (ports plan leaf.0) leaf.2 found.0 leaf.3 in
            inr (leaf.0, leaf.2, leaf.1, record { name = p.name; named = p.named; net = p.net; on = p.on; is = subst (λ (q : NetlistPin). IsNetlistRowOf plan cell bits rows q.path q.pin q.net row) p.is is })
      ]
