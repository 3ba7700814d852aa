-- Rows whose nets are named by their keys.
use Rattle.std.proofs.Common.{◌≡◌, ℕ, ◌+◌, List, [], ◌∷◌, ◌++◌, length, map, Bool, true, false, cond, refl, sym, ap, subst, ◌∙◌, arith}
use Rattle.std.proofs.lemmas.List.{map-append, length-map}
use Rattle.netlist.specs.declared.rows.RowPin.{RowPin}
use Rattle.spice_netlist.specs.declared.resolved.ResolvedSubckt.{ResolvedSubckt}
use Rattle.spice_netlist.specs.declared.rows.RowList.{RowList}
use Rattle.spice_netlist.specs.Resolved.{leaf_at}
use Rattle.spice_netlist.specs.Walk.{FlatNet, local, FlatInstance}
use Rattle.spice_netlist.specs.Pins.{InstancePin, pins_from, pins_in, pins_of, NamedPin, pin_row}
use Rattle.spice_netlist.specs.NetKeys.{net_key}
use Rattle.spice_netlist.specs.NetTable.{table_nets}
use Rattle.spice_netlist.specs.Numbers.{PinLabel, label_of_named, IsTableNumbering}
use Rattle.spice_netlist.specs.Rows.{AreRowsOf, AddsRows}

-- the net whose name is the key
abbrev pub own_key : FlatNet → FlatNet
own_key n = local (net_key n)

abbrev pub keyed_visit : FlatInstance → FlatInstance
keyed_visit x = record { path = x.path; of = x.of; nets = map own_key x.nets }

abbrev pub keyed_row : NamedPin → NamedPin
keyed_row r = record { path = r.path; leaf = r.leaf; pin = r.pin; net = own_key r.net }

module _ (subckts : List ResolvedSubckt) where
  keyed_from : (path : List ℕ) (of port : ℕ) (nets : List FlatNet)
      → map (pin_row subckts) (pins_from path of port (map own_key nets)) ≡ map keyed_row (map (pin_row subckts) (pins_from path of port nets))
  keyed_from path of port [] = refl
  keyed_from path of port (n ∷ ns) =
      let me : InstancePin = record { path = path; of = of; port = port; net = own_key n } in
      ap (λ (rows : List NamedPin). pin_row subckts me ∷ rows) (keyed_from path of (port + 1) ns)

  keyed_in : (leaf : Bool) (x : FlatInstance)
      → map (pin_row subckts) (cond leaf (pins_from x.path x.of 0 (map own_key x.nets)) []) ≡ map keyed_row (map (pin_row subckts) (cond leaf (pins_from x.path x.of 0 x.nets) []))
  keyed_in true x = keyed_from x.path x.of 0 x.nets
  keyed_in false x = refl

  keyed_rows : (vs : List FlatInstance) → map (pin_row subckts) (pins_of subckts (map keyed_visit vs)) ≡ map keyed_row (map (pin_row subckts) (pins_of subckts vs))
  keyed_rows [] = refl
  keyed_rows (x ∷ xs) =
      map-append (pin_row subckts) (pins_in subckts (keyed_visit x)) (pins_of subckts (map keyed_visit xs))
      ∙ (λ i. keyed_in (leaf_at subckts x.of) x i ++ keyed_rows xs i)
      ∙ sym (map-append keyed_row (map (pin_row subckts) (pins_in subckts x)) (map (pin_row subckts) (pins_of subckts xs)))
      ∙ ap (map keyed_row) (sym (map-append (pin_row subckts) (pins_in subckts x) (pins_of subckts xs)))

  -- there are as many
  pub length_keyed : (vs : List FlatInstance) → length (pins_of subckts (map keyed_visit vs)) ≡ length (pins_of subckts vs)
  length_keyed vs =
      sym (length-map (pins_of subckts (map keyed_visit vs)) (pin_row subckts))
      ∙ ap length (keyed_rows vs)
      ∙ length-map (map (pin_row subckts) (pins_of subckts vs)) keyed_row
      ∙ length-map (pins_of subckts vs) (pin_row subckts)

-- rows count by their labels and keys alone
same_labels : (rows : List NamedPin) → map label_of_named (map keyed_row rows) ≡ map label_of_named rows
same_labels [] = refl
same_labels (r ∷ rows) = ap (λ (ls : List PinLabel). label_of_named r ∷ ls) (same_labels rows)

same_keys : (rows : List NamedPin) → map (λ (n : NamedPin). net_key n.net) (map keyed_row rows) ≡ map (λ (n : NamedPin). net_key n.net) rows
same_keys [] = refl
same_keys (r ∷ rows) = ap (λ (ks : List (List ℕ)). net_key r.net ∷ ks) (same_keys rows)

rows_by_key : (named rows : List NamedPin) (list : RowList) → AreRowsOf (named ++ map keyed_row rows) list → AreRowsOf (named ++ rows) list
rows_by_key named rows list a = record {
  labels = a.labels
      ∙ map-append label_of_named named (map keyed_row rows)
      ∙ ap (λ (ls : List PinLabel). map label_of_named named ++ ls) (same_labels rows)
      ∙ sym (map-append label_of_named named rows);
  numbers = subst (λ (keys : List (List ℕ)). IsTableNumbering keys (map (λ (r : RowPin). r.net) list.rows.items) (table_nets list.nets)) (
      map-append (λ (n : NamedPin). net_key n.net) named (map keyed_row rows)
      ∙ ap (λ (ks : List (List ℕ)). map (λ (n : NamedPin). net_key n.net) named ++ ks) (same_keys rows)
      ∙ sym (map-append (λ (n : NamedPin). net_key n.net) named rows)
      ) a.numbers;
}

pub adds_by_key : (old new : RowList) (subckts : List ResolvedSubckt) (vs : List FlatInstance)
    → AddsRows old new (map (pin_row subckts) (pins_of subckts (map keyed_visit vs))) → AddsRows old new (map (pin_row subckts) (pins_of subckts vs))
adds_by_key old new subckts vs a =
    let rows = map (pin_row subckts) (pins_of subckts vs) in
    let keyed : AddsRows old new (map keyed_row rows) = subst (AddsRows old new) (keyed_rows subckts vs) a in
    let as_many = length-map rows keyed_row in
    record {
      rows = λ named r. rows_by_key named rows new (keyed.rows named r);
      few = omega (arith, keyed.few, as_many);
    }
