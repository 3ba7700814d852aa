-- The resolved subcircuits of the written deck.
use Rattle.std.proofs.Common.{◌≡◌, ◌⊎◌, inl, inr, ℕ, zero, suc, ◌+◌, ◌<◌, List, [], ◌∷◌, ◌++◌, length, map, get_or, Bool, true, false, ◌&&◌, ◌||◌, not, cond, Option, None, Some, is_some, refl, sym, ap, subst, ◌∙◌, arith}
use Rattle.std.specs.Prelude.{codes, Contains}
use Rattle.std.specs.List.{position_from, AllByRecursion}
use Rattle.std.specs.Cmp.Lexicographic.{same_text}
use Rattle.std.proofs.lemmas.List.{map-append, length-map, length-append, get_or-map, get_or_append_left, get_or-append-add}
use Rattle.or_geom.proofs.ListLaws.{contains_none, contains_cases, contains_first, contains_later}
use Rattle.netlist.specs.declared.deck.Subckt.{Subckt}
use Rattle.netlist.specs.declared.deck.Instance.{Instance}
use Rattle.spice_netlist.specs.declared.resolved.ResolvedSubckt.{ResolvedSubckt}
use Rattle.spice_text.specs.Words.{lower}
use Rattle.spice_netlist.specs.Names.{same_name, index_of}
use Rattle.spice_netlist.specs.Resolved.{names_of, resolved_instance, is_bare, is_leaf, resolved_subckt, resolved_subckts, ports_at, instances_at}
use Rattle.or_geom.proofs.NamePlaceLaws.{same_self}
use Rattle.row_laws.proofs.LookLaws.{IsOneOf, all_map, one_map}
use Rattle.sram_netlist.specs.Organization.{Organization, inputs_of, bank_rows, columns_of, IsBuildable}
use Rattle.sram_netlist.specs.Instances.{LogicCell}
use Rattle.cell_roles.specs.declared.role.Role.{Role}
use Rattle.cell_roles.specs.declared.role.Role.TheVariants.{Bitcell}
use Rattle.sram_netlist.specs.BitCells.{BitCells, bit_cell, row_name}
use Rattle.sram_netlist.specs.InstanceList.{tabulate, fixed_cells}
use Rattle.sram_netlist.proofs.Bounds.{bounds}
use Rattle.sram_deck.specs.Deck.{made_subckt, row_subckt, written_subckts, row_ports, row_instances, array_ports, array_instances, pre_ports, pre_instances, data_ports, data_instances, bank_ports, bank_instances, logic_ports, logic_instances, top_ports, top_instances, array_row, pre_column, data_write, data_sense, data_links}
use Rattle.sram_rows.specs.Rows.{HasCellOf, AreLeavesFor}
use Rattle.sram_rows.proofs.DigitLaws.{IsPlain, plain_all, and_false}
use Rattle.sram_rows.proofs.PlainNames.{array_plain, pre_plain, data_plain}
use Rattle.sram_rows.proofs.PlainPorts.{row_plain, bank_plain, logic_plain, top_plain}
use Rattle.sram_rows.proofs.FindLaws.{find_past, find_kept, find_shift, spot, find_none, find_some}
use Rattle.sram_rows.proofs.LeafInstances.{HasLeaf, HasLeaves}
use Rattle.sram_rows.proofs.RowKinds.{row_kind, some_rows, at_all, no_subckt, found_at, names_differ, IsWrittenAt, kinds, written_long, row_at, other_at}
use Rattle.sram_rows.proofs.SubcktInstances.{HasSubckt}
use Rattle.sram_rows.proofs.BankLevel.{BankCells}

bare_each : (n : ℕ) (f : ℕ → Instance) → 0 < n → is_bare (tabulate n f) ≡ false
bare_each zero f some = absurd (omega arith)
bare_each (suc n) f some = refl

bare_front : (xs ys : List Instance) → is_bare xs ≡ false → is_bare (xs ++ ys) ≡ false
bare_front [] ys e = absurd cc
bare_front (x ∷ xs) ys e = refl

bare_behind : (xs ys : List Instance) → is_bare ys ≡ false → is_bare (xs ++ ys) ≡ false
bare_behind [] ys e = e
bare_behind (x ∷ xs) ys e = refl

-- a logic row has cells
bare_logic : (f : LogicCell → Instance) (w : ℕ) (cs : List LogicCell) → is_bare (map f (fixed_cells w ++ cs)) ≡ false
bare_logic f zero cs = refl
bare_logic f (suc w) cs = refl

-- what holds of all that stands in a list
each_contained : {X : Type 0} (P : X → Type 0) (xs : List X) → ((x : X) → Contains xs x → P x) → AllByRecursion P xs
each_contained P [] h = tt
each_contained P (x ∷ xs) h = (h x (contains_first x xs), each_contained P xs (λ y there. h y (contains_later x xs y there)))

one_contained : {X : Type 0} (xs : List X) (x : X) → Contains xs x → IsOneOf x xs
one_contained [] x h = absurd (contains_none x h)
one_contained (y ∷ ys) x h = by (contains_cases y ys x h) (one_contained ys x)
  where
    by : (x ≡ y) ⊎ Contains ys x → (Contains ys x → IsOneOf x ys) → (x ≡ y) ⊎ IsOneOf x ys
    by (inl e) more = inl e
    by (inr later) more = inr (more later)

module _ (plan : Organization) (p : IsBuildable plan) (cell : Role → List ℕ) (bits : BitCells) (ends : List (List ℕ)) (leaves : List Subckt) (n : List ℕ) (kit : AreLeavesFor plan cell bits ends leaves n) (top : List ℕ) (is_top : top ≡ lower n) where
  abbrev pub written : List Subckt
  written = written_subckts plan cell bits n

  abbrev pub deck : List Subckt
  deck = leaves ++ written

  abbrev pub find : List ℕ → Option ℕ
  find = index_of (names_of deck)

  abbrev pub leaf : List ℕ → Option ℕ
  leaf = index_of (map lower ends)

  abbrev pub resolved : Subckt → ResolvedSubckt
  resolved = resolved_subckt top leaf find

  abbrev pub subckts : List ResolvedSubckt
  subckts = resolved_subckts deck top ends

  abbrev pub base : ℕ
  base = length leaves

  -- how many of the rows' subcircuits there are
  abbrev pub count : ℕ
  count = kinds plan p cell bits n

  abbrev pub Place : ℕ → Subckt → Type 0
  Place j s = IsWrittenAt plan p cell bits n j s

  -- what is at an index
  split : {X : Type 0} (f : ResolvedSubckt → X) → map f subckts ≡ map f (map resolved leaves) ++ map f (map resolved written)
  split f = ap (map f) (map-append resolved leaves written) ∙ map-append f (map resolved leaves) (map resolved written)

  leaves_long : {X : Type 0} (f : ResolvedSubckt → X) → length (map f (map resolved leaves)) ≡ base
  leaves_long f = length-map (map resolved leaves) f ∙ length-map leaves resolved

  -- of a written subcircuit
  at_place : {X : Type 0} (f : ResolvedSubckt → X) (j : ℕ) (s : Subckt) (d : X) → Place j s → get_or (map f subckts) (base + j) d ≡ f (resolved s)
  at_place f j s d place =
      let lt = place.within in
      let long = length-map written resolved in
      (λ i. get_or (split f i) (sym (leaves_long f) i + j) d)
      ∙ get_or-append-add (map f (map resolved leaves)) (map f (map resolved written)) j d
      ∙ get_or-map f (map resolved written) j (resolved no_subckt) d (omega (arith, lt, long))
      ∙ ap f (get_or-map resolved written j no_subckt (resolved no_subckt) lt ∙ ap resolved place.is)

  -- of a leaf
  at_leaf : {X : Type 0} (f : ResolvedSubckt → X) (k : ℕ) (d : X) → k < base → get_or (map f subckts) k d ≡ f (resolved (get_or leaves k no_subckt))
  at_leaf f k d lt =
      let long = leaves_long f in
      let long' = length-map leaves resolved in
      ap (λ l. get_or l k d) (split f)
      ∙ get_or_append_left (map f (map resolved leaves)) (map f (map resolved written)) d k (omega (arith, lt, long))
      ∙ get_or-map f (map resolved leaves) k (resolved no_subckt) d (omega (arith, lt, long'))
      ∙ ap f (get_or-map resolved leaves k no_subckt (resolved no_subckt) lt)

  -- a name that is none of the leaves' is none of the cells'
  no_cell : (x : List ℕ) → index_of (names_of leaves) x ≡ None → leaf x ≡ None
  no_cell x free = find_none x 0 (map lower ends) (all_map (λ q. same_name x q ≡ false) lower ends (each_contained (λ name. same_name x (lower name) ≡ false) ends (λ name there. by name there (same_name x (lower name)) refl)))
    where
      by : (name : List ℕ) → Contains ends name → (b : Bool) → same_name x (lower name) ≡ b → same_name x (lower name) ≡ false
      by name there true e =
          let known = kit.known name there in
          let same_one : x ≡ lower name = same_text x (lower name) (sym e) in
          let found : index_of (names_of leaves) x ≡ Some known.0 = ap (index_of (names_of leaves)) same_one ∙ known.1 in
          absurd cc
      by name there false e = e

  name_at : (j : ℕ) (s : Subckt) → Place j s → get_or (names_of written) j [] ≡ lower s.name
  name_at j s place = get_or-map (λ (s : Subckt). lower s.name) written j no_subckt [] place.within ∙ ap (λ (s : Subckt). lower s.name) place.is

  names_long : length (names_of written) ≡ length written
  names_long = length-map written (λ (s : Subckt). lower s.name)

  -- none of the leaves has its name
  free_name : (j : ℕ) (s : Subckt) → Place j s → index_of (names_of leaves) (lower s.name) ≡ None
  free_name j s place =
      let lt = place.within in
      let long = names_long in
      subst (λ (x : List ℕ). index_of (names_of leaves) x ≡ None) (name_at j s place) (at_all (λ x. index_of (names_of leaves) x ≡ None) (names_of written) j [] kit.free (omega (arith, lt, long)))

  -- where it stands
  pub found : (j : ℕ) (s : Subckt) → Place j s → find (lower s.name) ≡ Some (base + j)
  found j s place =
      let x = lower s.name in
      let lt = place.within in
      let long = names_long in
      let there : index_of (names_of written) x ≡ Some (0 + j) =
      subst (λ (y : List ℕ). index_of (names_of written) y ≡ Some (0 + j)) (name_at j s place) (found_at (names_of written) 0 j (names_differ plan p cell bits n) (omega (arith, lt, long))) in
      ap (position_from (same_name x) 0) (map-append (λ (s : Subckt). lower s.name) leaves written)
      ∙ find_past (same_name x) 0 (names_of leaves) (names_of written) (free_name j s place)
      ∙ ap (λ (i : ℕ). position_from (same_name x) i (names_of written)) (let long = length-map leaves (λ (s : Subckt). lower s.name) in omega (arith, long))
      ∙ find_shift (same_name x) base 0 (0 + j) (names_of written) there ∙ ap Some (omega arith)

  -- where a leaf stands
  pub leaf_found : (name : List ℕ) (k : ℕ) → index_of (names_of leaves) (lower name) ≡ Some k → find (lower name) ≡ Some k
  leaf_found name k there =
      ap (position_from (same_name (lower name)) 0) (map-append (λ (s : Subckt). lower s.name) leaves written) ∙ find_kept (same_name (lower name)) 0 k (names_of leaves) (names_of written) there

  pub leaf_below : (name : List ℕ) (k : ℕ) → index_of (names_of leaves) (lower name) ≡ Some k → k < base
  leaf_below name k there =
      let s = spot (lower name) (names_of leaves) 0 k there in
      let at = s.is in
      let long = length-map leaves (λ (s : Subckt). lower s.name) in
      let within = s.within in
      omega (arith, at, within, long)

  pub deck_long : length subckts ≡ base + (count + 6)
  deck_long = length-map deck resolved ∙ length-append leaves written ∙ ap (λ (k : ℕ). base + k) (written_long plan p cell bits n)

  not_leaf : (s : Subckt) → index_of (names_of leaves) (lower s.name) ≡ None → is_bare s.instances ≡ false → is_leaf top leaf s ≡ false
  not_leaf s free bare = (λ i. not (same_name (lower s.name) top) && (is_some (no_cell (lower s.name) free i) || bare i)) ∙ and_false (not (same_name (lower s.name) top))

  -- a written subcircuit
  cell_at : (j : ℕ) (name : List ℕ) (ports : List (List ℕ)) (instances : List Instance) → Place j (made_subckt name ports instances) → is_bare instances ≡ false → AllByRecursion IsPlain ports → HasSubckt subckts find name ports instances
  cell_at j name ports instances place bare low =
      let me = made_subckt name ports instances in
      let off = not_leaf me (free_name j me place) bare in
      record {
        index = base + j;
        there = found j me place;
        no_leaf = at_place (λ b. b.leaf) j me false place ∙ off;
        ported = at_place (λ b. b.ports) j me [] place ∙ plain_all ports low;
        has = at_place (λ b. b.instances) j me [] place ∙ ap (λ (b : Bool). cond b [] (map (resolved_instance find) instances)) off;
      }

  some_columns : 0 < columns_of plan
  some_columns = (bounds plan p).some_columns

  pub row_place : (r : ℕ) → r < bank_rows plan → Place (row_kind bits r) (row_subckt plan cell bits n r)
  row_place r lt = row_at plan p cell bits n r lt

  pub row_cell : (r : ℕ) → r < bank_rows plan → HasSubckt subckts find (row_name bits n r) (row_ports plan) (row_instances plan cell bits r)
  row_cell r lt = cell_at (row_kind bits r) (row_name bits n r) (row_ports plan) (row_instances plan cell bits r) (row_place r lt) refl (row_plain plan p)

  pub array_place : Place (count + 0) (made_subckt (n ++ codes "_array") (array_ports plan) (array_instances plan bits n))
  array_place = other_at plan p cell bits n 0 (made_subckt (n ++ codes "_array") (array_ports plan) (array_instances plan bits n)) (omega arith) refl

  pub array_cell : HasSubckt subckts find (n ++ codes "_array") (array_ports plan) (array_instances plan bits n)
  array_cell = cell_at (count + 0) (n ++ codes "_array") (array_ports plan) (array_instances plan bits n) array_place (bare_each (bank_rows plan) (array_row plan bits n) (some_rows plan)) (array_plain plan p)

  pub pre_place : Place (count + 1) (made_subckt (n ++ codes "_pre") (pre_ports plan) (pre_instances plan cell))
  pre_place = other_at plan p cell bits n 1 (made_subckt (n ++ codes "_pre") (pre_ports plan) (pre_instances plan cell)) (omega arith) refl

  pub pre_cell : HasSubckt subckts find (n ++ codes "_pre") (pre_ports plan) (pre_instances plan cell)
  pre_cell = cell_at (count + 1) (n ++ codes "_pre") (pre_ports plan) (pre_instances plan cell) pre_place (bare_each (columns_of plan) (pre_column cell) some_columns) (pre_plain plan p)

  pub data_place : Place (count + 2) (made_subckt (n ++ codes "_data") (data_ports plan) (data_instances plan cell))
  data_place = other_at plan p cell bits n 2 (made_subckt (n ++ codes "_data") (data_ports plan) (data_instances plan cell)) (omega arith) refl

  pub data_cell : HasSubckt subckts find (n ++ codes "_data") (data_ports plan) (data_instances plan cell)
  data_cell = cell_at (count + 2) (n ++ codes "_data") (data_ports plan) (data_instances plan cell) data_place (bare_behind (tabulate (inputs_of plan) (data_write plan cell)) (tabulate plan.word_size (data_sense plan cell) ++ data_links plan cell plan.col_bits)
      (bare_front (tabulate plan.word_size (data_sense plan cell)) (data_links plan cell plan.col_bits) (bare_each plan.word_size (data_sense plan cell) p.words))) (data_plain plan p)

  pub bank_place : Place (count + 3) (made_subckt (n ++ codes "_bank") (bank_ports plan) (bank_instances plan n))
  bank_place = other_at plan p cell bits n 3 (made_subckt (n ++ codes "_bank") (bank_ports plan) (bank_instances plan n)) (omega arith) refl

  pub bank_cell : HasSubckt subckts find (n ++ codes "_bank") (bank_ports plan) (bank_instances plan n)
  bank_cell = cell_at (count + 3) (n ++ codes "_bank") (bank_ports plan) (bank_instances plan n) bank_place refl (bank_plain plan p)

  pub logic_place : Place (count + 4) (made_subckt (n ++ codes "_logic") (logic_ports plan) (logic_instances plan cell))
  logic_place = other_at plan p cell bits n 4 (made_subckt (n ++ codes "_logic") (logic_ports plan) (logic_instances plan cell)) (omega arith) refl

  pub logic_cell : HasSubckt subckts find (n ++ codes "_logic") (logic_ports plan) (logic_instances plan cell)
  logic_cell = cell_at (count + 4) (n ++ codes "_logic") (logic_ports plan) (logic_instances plan cell) logic_place (bare_logic _ plan.write_size _) (logic_plain plan p)

  pub bank_cells : BankCells plan cell bits n subckts find
  bank_cells = record { row = row_cell; array = array_cell; pre = pre_cell; data_cell = data_cell }

  -- the top
  abbrev top_subckt : Subckt
  top_subckt = made_subckt n (top_ports plan) (top_instances plan n)

  top_place : Place (count + 5) top_subckt
  top_place = other_at plan p cell bits n 5 top_subckt (omega arith) refl

  pub top_there : find top ≡ Some (base + (count + 5))
  top_there = ap find is_top ∙ found (count + 5) top_subckt top_place

  top_not_leaf : is_leaf top leaf top_subckt ≡ false
  top_not_leaf = ap (λ (b : Bool). not b && (is_some (leaf (lower n)) || is_bare (top_instances plan n))) ((λ i. same_name (lower n) (is_top i)) ∙ same_self (lower n))

  pub top_ports_are : ports_at subckts (base + (count + 5)) ≡ top_ports plan
  top_ports_are = at_place (λ b. b.ports) (count + 5) top_subckt [] top_place ∙ plain_all (top_ports plan) (top_plain plan p)

  pub top_has : instances_at subckts (base + (count + 5)) ≡ map (resolved_instance find) (top_instances plan n)
  top_has = at_place (λ b. b.instances) (count + 5) top_subckt [] top_place ∙ ap (λ (b : Bool). cond b [] (map (resolved_instance find) (top_instances plan n))) top_not_leaf

  -- the leaves
  pub leaf_of : (name : List ℕ) (r : Role) → HasCellOf leaves name r → Contains ends name → HasLeaf subckts find name r
  leaf_of name r has ends_there =
      let k = has.index in
      let found = spot (lower name) (names_of leaves) 0 k has.there in
      let at = found.is in
      let lt = leaf_below name k has.there in
      let me : Subckt = get_or leaves k no_subckt in
      let same_place : k ≡ found.at = omega (arith, at) in
      let named : lower me.name ≡ lower name = sym (get_or-map (λ (s : Subckt). lower s.name) leaves k no_subckt [] lt) ∙ ap (λ (i : ℕ). get_or (names_of leaves) i []) same_place ∙ found.name in
      let other : same_name (lower me.name) top ≡ false = differs (lower me.name) k (ap (index_of (names_of leaves)) named ∙ has.there) (same_name (lower me.name) top) refl in
      let some : is_some (leaf (lower me.name)) ≡ true = ap (λ (x : List ℕ). is_some (leaf x)) named ∙ find_some (lower name) 0 (map lower ends) (one_map lower name ends (one_contained ends name ends_there)) in
      let leafy : is_leaf top leaf me ≡ true = λ i. not (other i) && (some i || is_bare me.instances) in
      record {
        index = k;
        there = leaf_found name k has.there;
        leaf = at_leaf (λ b. b.leaf) k false lt ∙ leafy;
        named = at_leaf (λ b. b.name) k [] lt ∙ named;
        ported = at_leaf (λ b. b.ports) k [] lt ∙ ap (map lower) (sym (get_or-map (λ (s : Subckt). s.ports) leaves k no_subckt [] lt)) ∙ has.ported;
        bare = at_leaf (λ b. b.instances) k [] lt ∙ ap (λ (b : Bool). cond b [] (map (resolved_instance find) me.instances)) leafy;
      }
    where
      differs : (x : List ℕ) (k : ℕ) → index_of (names_of leaves) x ≡ Some k → (b : Bool) → same_name x top ≡ b → same_name x top ≡ false
      differs x k there true e =
          let one : x ≡ lower n = same_text x top (sym e) ∙ is_top in
          let missing : index_of (names_of leaves) x ≡ None = ap (index_of (names_of leaves)) one ∙ free_name (count + 5) top_subckt top_place in
          absurd cc
      differs x k there false e = e

  pub has_leaves : HasLeaves plan cell bits subckts find
  has_leaves = record {
    role_cell = λ r. leaf_of (cell r) r (kit.roles r) (kit.ended r);
    bit = λ r c lt_r lt. let of = kit.of_bits r c lt_r lt in leaf_of (bit_cell bits r c) Bitcell of.is of.ends_there;
  }
