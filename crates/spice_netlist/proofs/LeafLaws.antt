-- The rows of an instance of a leaf, one row more.
use Rattle.std.proofs.Common.{◌≡◌, ℕ, ◌+◌, ◌<◌, List, [], ◌∷◌, ◌++◌, length, map, get_or, drop, Bool, true, cond, refl, sym, ap, ◌∙◌, append_assoc}
use Rattle.std.proofs.lemmas.List.{length-append, length-map}
use Rattle.or_geom.proofs.ListLaws.{rest_at}
use Rattle.spice_netlist.specs.declared.resolved.ResolvedSubckt.{ResolvedSubckt}
use Rattle.spice_netlist.specs.declared.level.LevelNet.{LevelNet}
use Rattle.spice_netlist.specs.declared.rows.RowList.{RowList}
use Rattle.spice_netlist.specs.Resolved.{subckt_name_at, ports_at, leaf_at}
use Rattle.spice_netlist.specs.Pins.{NamedPin, pins_from, pins_in, pin_row}
use Rattle.spice_netlist.specs.Levels.{keyed_net, leaf_rows}
use Rattle.spice_netlist.specs.Rows.{AddsRows}
use Rattle.spice_netlist.proofs.PinLaws.{length_from}
use Rattle.spice_netlist.proofs.RowLaws.{adds_then}

-- the rows of the first so many ports were added
pub record AreLeafRows (leaf : ResolvedSubckt) (path net_path : List ℕ) (nets : List LevelNet) (old new : RowList) (port : ℕ) : Type 0 where
  pub done : List NamedPin
  pub added : AddsRows old new done
  pub long : length done ≡ port
  pub left : done ++ leaf_rows leaf path net_path port (drop port nets) ≡ leaf_rows leaf path net_path 0 nets

module _ (leaf : ResolvedSubckt) (path net_path : List ℕ) (nets : List LevelNet) (old : RowList) where
  pub leaf_next : (new new' : RowList) (port : ℕ) (net : LevelNet) (pin : NamedPin) → port < length nets → net ≡ get_or nets port net → pin ≡ record { path = path; leaf = leaf.name; pin = get_or leaf.ports port []; net = keyed_net net_path net }
      → AddsRows new new' (pin ∷ []) → AreLeafRows leaf path net_path nets old new port → AreLeafRows leaf path net_path nets old new' (port + 1)
  leaf_next new new' port net pin lt is pin_is added h = record {
    done = h.done ++ pin ∷ [];
    added = adds_then old new new' h.done (pin ∷ []) h.added added;
    long = length-append h.done (pin ∷ []) ∙ ap (λ (n : ℕ). n + 1) h.long;
    left =
        append_assoc h.done (pin ∷ []) (leaf_rows leaf path net_path (port + 1) (drop (port + 1) nets))
        ∙ ap (λ (p : NamedPin). h.done ++ p ∷ leaf_rows leaf path net_path (port + 1) (drop (port + 1) nets)) pin_is
        ∙ ap (λ (ns : List LevelNet). h.done ++ leaf_rows leaf path net_path port ns) (sym (rest_at nets port net lt is))
        ∙ h.left;
  }

-- the same rows by the index of the leaf
by_index : (subckts : List ResolvedSubckt) (leaf : ResolvedSubckt) (k : ℕ) (path net_path : List ℕ) → leaf.name ≡ subckt_name_at subckts k → leaf.ports ≡ ports_at subckts k → (port : ℕ) (nets : List LevelNet)
    → leaf_rows leaf path net_path port nets ≡ map (pin_row subckts) (pins_from path k port (map (keyed_net net_path) nets))
by_index subckts leaf k path net_path name ports port [] = refl
by_index subckts leaf k path net_path name ports port (n ∷ ns) = λ i. record { path = path; leaf = name i; pin = get_or (ports i) port []; net = keyed_net net_path n } ∷ by_index subckts leaf k path net_path name ports (port + 1) ns i

module _ (subckts : List ResolvedSubckt) (leaf : ResolvedSubckt) (k : ℕ) (path net_path : List ℕ) (nets : List LevelNet) where
  -- of an instance of a leaf
  pub rows_leaf : leaf.name ≡ subckt_name_at subckts k → leaf.ports ≡ ports_at subckts k → leaf_at subckts k ≡ true
      → leaf_rows leaf path net_path 0 nets ≡ map (pin_row subckts) (pins_in subckts (record { path = path; of = k; nets = map (keyed_net net_path) nets }))
  rows_leaf name ports is =
      by_index subckts leaf k path net_path name ports 0 nets
      ∙ ap (λ (b : Bool). map (pin_row subckts) (cond b (pins_from path k 0 (map (keyed_net net_path) nets)) [])) (sym is)

  pub pins_leaf : leaf_at subckts k ≡ true → length (pins_in subckts (record { path = path; of = k; nets = map (keyed_net net_path) nets })) ≡ length nets
  pins_leaf is =
      ap (λ (b : Bool). length (cond b (pins_from path k 0 (map (keyed_net net_path) nets)) [])) is
      ∙ length_from path k 0 (map (keyed_net net_path) nets)
      ∙ length-map nets (keyed_net net_path)
