-- What an instance of a leaf flattens to.
use Rattle.std.proofs.Common.{◌≡◌, ℕ, ◌<◌, zero, suc, List, [], ◌∷◌, ◌++◌, map, length, true, Option, Some, refl, sym, ap, ◌∙◌}
use Rattle.std.proofs.lemmas.List.{length-map}
use Rattle.netlist.specs.declared.deck.Instance.{Instance}
use Rattle.spice_netlist.specs.declared.resolved.ResolvedSubckt.{ResolvedSubckt}
use Rattle.spice_text.specs.Words.{lower}
use Rattle.spice_netlist.specs.Resolved.{resolved_instance, subckt_name_at, ports_at, leaf_at, instances_at}
use Rattle.spice_netlist.specs.Walk.{FlatNet, local, FlatInstance, visits_in, visits, visits_by}
use Rattle.spice_netlist.specs.Pins.{NamedPin}
use Rattle.row_laws.specs.Flattens.{zip_rows, Flattens}
use Rattle.row_laws.proofs.FlatLaws.{flat_leaf}
use Rattle.sram_netlist.specs.Organization.{Organization, bank_rows, columns_of}
use Rattle.sram_netlist.specs.Instances.{LeafInstance}
use Rattle.cell_roles.specs.declared.role.Role.{Role}
use Rattle.cell_roles.specs.declared.role.Role.TheVariants.{Bitcell}
use Rattle.cell_roles.specs.Roles.{role_ports}
use Rattle.sram_netlist.specs.Netlist.{role, ports}
use Rattle.sram_netlist.specs.Names.{leaf_name, to_leaf, leaf_path, full_name}
use Rattle.sram_netlist.specs.BitCells.{BitCells, bit_cell}
use Rattle.sram_rows.specs.Rows.{cell_at}

-- a leaf of the role among the subcircuits
pub record HasLeaf (subckts : List ResolvedSubckt) (find : List ℕ → Option ℕ) (cell : List ℕ) (r : Role) : Type 0 where
  pub index : ℕ
  pub there : find (lower cell) ≡ Some index
  pub leaf : leaf_at subckts index ≡ true
  pub named : subckt_name_at subckts index ≡ lower cell
  pub ported : ports_at subckts index ≡ role_ports r
  pub bare : instances_at subckts index ≡ []

-- each role's cell, and the cells of the bits
pub record HasLeaves (plan : Organization) (cell : Role → List ℕ) (bits : BitCells) (subckts : List ResolvedSubckt) (find : List ℕ → Option ℕ) : Type 0 where
  pub role_cell : (r : Role) → HasLeaf subckts find (cell r) r
  pub bit : (r c : ℕ) → r < bank_rows plan → c < columns_of plan → HasLeaf subckts find (bit_cell bits r c) Bitcell

-- what is seen of a name
abbrev pub by_name : (FlatNet → List ℕ) → List ℕ → List ℕ
by_name see n = see (local n)

names_seen : (see : FlatNet → List ℕ) (ns : List (List ℕ)) → map see (map local ns) ≡ map (by_name see) ns
names_seen see [] = refl
names_seen see (n ∷ ns) = ap (λ (l : List (List ℕ)). see (local n) ∷ l) (names_seen see ns)

-- the rows of an instance
abbrev pub row_of : Organization → (Role → List ℕ) → BitCells → LeafInstance → List NamedPin
row_of plan cell bits x = zip_rows (leaf_path plan x) (lower (cell_at plan cell bits x)) (role_ports (role plan x)) (map (full_name plan) (ports plan x))

-- the walk below the subcircuit at an index, so many levels deep
abbrev pub below : List ResolvedSubckt → ℕ → ℕ → List FlatInstance
below subckts d k = visits subckts d (instances_at subckts k)

pub bare_below : (subckts : List ResolvedSubckt) (d k : ℕ) → instances_at subckts k ≡ [] → below subckts d k ≡ []
bare_below subckts zero k bare = refl
bare_below subckts (suc d) k bare = ap (visits_by subckts (below subckts d)) bare

-- an instance with the role and the nets of the leaf instance
pub record IsLeafOf (plan : Organization) (cell : Role → List ℕ) (bits : BitCells) (above : List ℕ) (see : FlatNet → List ℕ) (i : Instance) (x : LeafInstance) : Type 0 where
  pub of : i.of ≡ cell_at plan cell bits x
  pub named : lower i.name ≡ leaf_name plan x
  pub there : above ≡ to_leaf plan x
  pub nets : map (by_name see) (map lower i.nodes) ≡ map (full_name plan) (ports plan x)
  pub sized : length (role_ports (role plan x)) ≡ length (ports plan x)

module _ (plan : Organization) (cell : Role → List ℕ) (bits : BitCells) (subckts : List ResolvedSubckt) (find : List ℕ → Option ℕ) where
  pub leaf_flat : (d : ℕ) (above : List ℕ) (see : FlatNet → List ℕ) (i : Instance) (x : LeafInstance) → HasLeaf subckts find (cell_at plan cell bits x) (role plan x) → IsLeafOf plan cell bits above see i x
      → Flattens (row_of plan cell bits) subckts above see (visits_in subckts (below subckts d) (resolved_instance find i) (resolved_instance find i).index) (x ∷ [])
  leaf_flat d above see i x l is =
      let of = lower (cell_at plan cell bits x) in
      flat_leaf (row_of plan cell bits) subckts above see (below subckts d) (resolved_instance find i) l.index x of (role_ports (role plan x)) (map (full_name plan) (ports plan x))
      (ap (λ (c : List ℕ). find (lower c)) is.of ∙ l.there) l.leaf l.named l.ported (bare_below subckts d l.index l.bare) (names_seen see (map lower i.nodes) ∙ is.nets) (is.sized ∙ sym (length-map (ports plan x) (full_name plan)))
      (λ j. zip_rows (sym is.there j ++ sym is.named j) of (role_ports (role plan x)) (map (full_name plan) (ports plan x)))
