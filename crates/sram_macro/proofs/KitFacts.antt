-- What assembling takes of a kit.
use Rattle.std.proofs.Common.{◌≡◌, ◌≢◌, ℕ, suc, ◌+◌, ◌≤◌, ℤ, pos, negsuc, ◌≤ℤ◌, List, [], ◌∷◌, map, length, get_or, Bool, true, false, cond, find, Option, Some, None, option_map, refl, sym, ap, subst, ◌∙◌, arith}
use Rattle.std.specs.Prelude.{IsTrue, ◌&&◌, nat_le, slice_index_or}
use Rattle.std.specs.List.{AllByRecursion, list_all, list_any, position_from}
use Rattle.std.specs.Str.{bytes_eq, str_eq_ignore_ascii_case}
use Rattle.std.specs.Char.{to_ascii_lowercase}
use Rattle.std.proofs.lemmas.Int.{ints}
use Rattle.std.proofs.lemmas.Bool.{leb-true, or_parts}
use Rattle.std.proofs.lemmas.List.Elements.{recursion_from_All}
use Rattle.std.proofs.lemmas.Option.{slice_get-get_or}
use Rattle.std.proofs.lemmas.Slice.Eq.{bytes_eq-Decides}
use Rattle.gds_library.specs.declared.library.Structure.{Structure}
use Rattle.gds_library.specs.Writable.{IsPrintable, IsText}
use Rattle.netlist.specs.declared.deck.Subckt.{Subckt}
use Rattle.tech_rules.specs.declared.tech.RoleName.{RoleName}
use Rattle.tech_rules.specs.Roles.{is_cell_byte, is_cell_name}
use Rattle.cell_roles.specs.declared.role.Role.{Role}
use Rattle.cell_roles.specs.declared.leaf_role.LeafRole.{LeafRole}
use Rattle.cell_roles.specs.declared.leaf_role.LeafRole.TheVariants.{Common}
use Rattle.cell_roles.specs.declared.role.Role.TheVariants.{Bitcell, Precharge, Mux, Tie, Sense, Write, RowNand2, RowNand3, Driver, Nand2, Nand3, Inv, Dff, Delay}
use Rattle.cell_roles.specs.Roles.{role_ports}
use Rattle.cell_roles.specs.LeafRoles.{pin_role, leaf_role_name}
use Rattle.spice_text.specs.Words.{lower}
use Rattle.spice_text.specs.Writable.{lowered_subckt}
use Rattle.spice_text.proofs.ReadDecks.{decks_are_lowered}
use Rattle.spice_netlist.specs.Names.{same_name, index_of}
use Rattle.spice_netlist.specs.Resolved.{names_of}
use Rattle.sram_rows.specs.Rows.{HasCellOf}
use Rattle.port_lists.specs.Cells.{named_cell}
use Rattle.leaf_tables.specs.declared.kit.Kit.{Kit}
use Rattle.leaf_tables.specs.declared.kit.Leaf.{Leaf}
use Rattle.leaf_tables.specs.Leaves.{HasLeaf, cell_named_for, subckt_named}
use Rattle.leaf_tables.specs.Kits.{IsKit, source_of}
use Rattle.leaf_tables.specs.Alignment.{role_number, leaf_in}
use Rattle.leaf_tables.proofs.RoleLaws.{role_below, in_kit}
use Rattle.floorplan.specs.LayoutOfKit.{layout_kit}
use Rattle.floorplan.specs.LeafSides.{side_of}
use Rattle.macro_bounds.specs.Floorplans.{IsSmallKit}
use Rattle.macro_bounds.specs.Complete.{HasFlatLists}
use Rattle.macro_bounds.specs.Library.{AreFreeStructures}
use Rattle.sram_macro.specs.Names.{is_structure_name, is_subckt_name, is_taken, first_taken}
use Rattle.sram_macro.proofs.LayoutLaws.{listed_has}

-- Each role has a leaf

no_leaf : Leaf
no_leaf = record { width = pos 0; height = pos 0; pins = [] }

pub has_leaf : (kit : Kit) (is : IsKit kit) (role : Role) → HasLeaf (source_of kit is.wire) (Common role)
has_leaf kit is role =
    (get_or kit.leaves (role_number role) no_leaf, in_kit kit role (get_or kit.leaves (role_number role) no_leaf) is (slice_get-get_or kit.leaves (role_number role) no_leaf (role_below kit is (role_number role) role refl)))

-- whose sides are small

few_side : (z : ℤ) → z ≤ℤ pos 65536 → side_of (Some z) ≤ 65536
few_side (pos n) few = omega (arith, ints, few)
few_side (negsuc n) few = omega arith

few_found : (found : Option Leaf) (side : Leaf → ℤ) → ((leaf : Leaf) → found ≡ Some leaf → side leaf ≤ℤ pos 65536) → side_of (option_map side found) ≤ 65536
few_found None side each = omega arith
few_found (Some leaf) side each = few_side (side leaf) (each leaf refl)

-- and whose name can be written

both_true : (s t : Bool) → (s && t) ≡ true → (s ≡ true) × (t ≡ true)
both_true true true h = (refl, refl)
both_true true false h = absurd cc
both_true false t h = absurd cc

byte_printable : (b : ℕ) → is_cell_byte b ≡ true → IsPrintable b
byte_printable b h =
    let two = both_true (nat_le 33 b) (nat_le b 126) h in
    let above = leb-true 33 b two.0 in
    let below = leb-true b 126 two.1 in
    record { above = omega (arith, above); below = omega (arith, below) }

all_printable : (text : List ℕ) → list_all is_cell_byte text ≡ true → AllByRecursion IsPrintable text
all_printable [] h = tt
all_printable (b ∷ text) h = let two = both_true (is_cell_byte b) (list_all is_cell_byte text) h in (byte_printable b two.0, all_printable text two.1)

cell_text : (text : List ℕ) → IsTrue (is_cell_name text) → IsText text
cell_text text h =
    let two = both_true (nat_le 1 (length text) && nat_le (length text) 32) (list_all is_cell_byte text) h in
    let sized = both_true (nat_le 1 (length text)) (nat_le (length text) 32) two.0 in
    let some = leb-true 1 (length text) sized.0 in
    let few = leb-true (length text) 32 sized.1 in
    record { some = some; few = omega (arith, few); printable = all_printable text two.1 }

abbrev IsNamed : RoleName → Type 0
IsNamed r = IsTrue (is_cell_name r.cell)

-- the cell that the entries name for a role
abbrev pub cell_for : List RoleName → LeafRole → List ℕ
cell_for entries role = named_cell entries (leaf_role_name role)

named_text : (entries : List RoleName) (role : LeafRole) (cell : List ℕ) → AllByRecursion IsNamed entries → cell_named_for entries role ≡ Some cell → IsText (cell_for entries role)
named_text [] role cell all e = absurd cc
named_text (r ∷ rs) role cell all e = by (bytes_eq r.role (leaf_role_name role)) e (named_text rs role cell all.1) where
  by : (t : Bool) → option_map (λ (entry : RoleName). entry.cell) (cond t (Some r) (find (λ (entry : RoleName). bytes_eq entry.role (leaf_role_name role)) rs)) ≡ Some cell
      → (cell_named_for rs role ≡ Some cell → IsText (cell_for rs role)) → IsText (cond t r.cell (cell_for rs role))
  by true e more = cell_text r.cell all.0
  by false e more = more e

pub leaf_text : (kit : Kit) (is : IsKit kit) (role : LeafRole) → HasLeaf (source_of kit is.wire) role → IsText (cell_for kit.tech.roles role)
leaf_text kit is role leaf = named_text kit.tech.roles role leaf.1.cell (recursion_from_All IsNamed kit.tech.roles is.tech.roles) leaf.1.sized.flat.plays

pub small_kit : (kit : Kit) → IsKit kit → IsSmallKit (layout_kit kit)
small_kit kit is = record {
  names = λ (r : Role). leaf_text kit is (Common r) (has_leaf kit is r);
  widths = λ (r : Role). few_found (leaf_in kit.leaves r) (λ (leaf : Leaf). leaf.width) (λ (leaf : Leaf) there. (in_kit kit r leaf is there).sized.outline.narrow);
  heights = λ (r : Role). few_found (leaf_in kit.leaves r) (λ (leaf : Leaf). leaf.height) (λ (leaf : Leaf) there. (in_kit kit r leaf is there).sized.outline.low);
}

-- None of the names is taken

abbrev IsNew : Kit → List ℕ → Type 0
IsNew kit name = is_taken kit name ≡ false

all_new : (kit : Kit) (names : List (List ℕ)) → first_taken kit names ≡ None → AllByRecursion (IsNew kit) names
all_new kit [] e = tt
all_new kit (n ∷ ns) e = by (is_taken kit n) refl e (all_new kit ns) where
  by : (t : Bool) → is_taken kit n ≡ t → cond t (Some n) (first_taken kit ns) ≡ None → (first_taken kit ns ≡ None → AllByRecursion (IsNew kit) ns) → IsNew kit n × AllByRecursion (IsNew kit) ns
  by true is none more = absurd cc
  by false is none more = (is, more none)

none_passes : {X : Type 0} (test : X → Bool) (xs : List X) → list_any test xs ≡ false → AllByRecursion (λ (x : X). test x ≡ false) xs
none_passes test [] e = tt
none_passes test (x ∷ xs) e = let parts = or_parts (test x) (list_any test xs) e in (parts.0, none_passes test xs parts.1)

texts_differ : (a b : List ℕ) → bytes_eq a b ≡ false → a ≢ b
texts_differ a b fails same = let passes : bytes_eq a b ≡ true = (bytes_eq-Decides a b).1 same in let both : true ≡ false = sym passes ∙ fails in absurd cc

pub free_structures : (kit : Kit) (names : List (List ℕ)) → IsKit kit → first_taken kit names ≡ None → AreFreeStructures kit.lib.structs names
free_structures kit names is none = record {
  writable = is.library.cells;
  differ = is.library.names;
  free = λ (s : Structure) (name : List ℕ) listed named.
      let new : is_taken kit name ≡ false = listed_has (IsNew kit) names name (all_new kit names none) named in
      let parts = or_parts (is_structure_name kit.lib.structs name) (is_subckt_name kit.deck.subckts name) new in
      texts_differ (map to_ascii_lowercase s.name) (map to_ascii_lowercase name)
      (listed_has (λ (other : Structure). str_eq_ignore_ascii_case other.name name ≡ false) kit.lib.structs s (none_passes (λ (other : Structure). str_eq_ignore_ascii_case other.name name) kit.lib.structs parts.0) listed);
}

-- The roles' subcircuits

-- the first subcircuit of the name, by its index
record IsAtIndex (subckts : List Subckt) (name : List ℕ) (subckt : Subckt) (first : ℕ) : Type 0 where
  index : ℕ
  there : position_from (same_name name) first (names_of subckts) ≡ Some (first + index)
  ports : slice_index_or (map (λ s. s.ports) subckts) index [] ≡ subckt.ports

at_first : (s : Subckt) (ss : List Subckt) (name : List ℕ) (first : ℕ) → same_name name (lower s.name) ≡ true → IsAtIndex (s ∷ ss) name s first
at_first s ss name first same =
    let here : first ≡ first + 0 = omega arith in
    record {
      index = 0;
      there = ap (λ (t : Bool). cond t (Some first) (position_from (same_name name) (first + 1) (names_of ss))) same ∙ ap (λ (k : ℕ). Some k) here;
      ports = refl;
    }

at_later : (s : Subckt) (ss : List Subckt) (name : List ℕ) (subckt : Subckt) (first : ℕ) → same_name name (lower s.name) ≡ false → IsAtIndex ss name subckt (first + 1) → IsAtIndex (s ∷ ss) name subckt first
at_later s ss name subckt first other at =
    let here : (first + 1) + at.index ≡ first + suc at.index = omega arith in
    record {
      index = suc at.index;
      there = ap (λ (t : Bool). cond t (Some first) (position_from (same_name name) (first + 1) (names_of ss))) other ∙ (at.there ∙ ap (λ (k : ℕ). Some k) here);
      ports = at.ports;
    }

turned_same : (a b c : List ℕ) → c ≡ a → bytes_eq a b ≡ true → same_name b c ≡ true
turned_same a b c low passes = (bytes_eq-Decides b c).1 (sym ((bytes_eq-Decides a b).0 passes) ∙ sym low)

turned_other : (a b c : List ℕ) → c ≡ a → bytes_eq a b ≡ false → same_name b c ≡ false
turned_other a b c low fails = by (same_name b c) refl where
  by : (t : Bool) → same_name b c ≡ t → t ≡ false
  by true is = absurd (texts_differ a b fails (sym ((bytes_eq-Decides b c).0 is ∙ low)))
  by false is = refl

at_index : (ss : List Subckt) (name : List ℕ) (subckt : Subckt) (first : ℕ) → map lowered_subckt ss ≡ ss → subckt_named ss name ≡ Some subckt → IsAtIndex ss name subckt first
at_index [] name subckt first low e = absurd cc
at_index (s ∷ ss) name subckt first low e =
    let head : lowered_subckt s ≡ s = cc in
    let rest : map lowered_subckt ss ≡ ss = cc in
    let named : lower s.name ≡ s.name = ap (λ (x : Subckt). x.name) head in
    by (bytes_eq s.name name) refl e (turned_same s.name name (lower s.name) named) (turned_other s.name name (lower s.name) named) (at_index ss name subckt (first + 1) rest)
  where
    by : (t : Bool) → bytes_eq s.name name ≡ t → cond t (Some s) (subckt_named ss name) ≡ Some subckt
        → (bytes_eq s.name name ≡ true → same_name name (lower s.name) ≡ true) → (bytes_eq s.name name ≡ false → same_name name (lower s.name) ≡ false)
        → (subckt_named ss name ≡ Some subckt → IsAtIndex ss name subckt (first + 1)) → IsAtIndex (s ∷ ss) name subckt first
    by true is e same other more = let one : s ≡ subckt = cc in subst (λ (x : Subckt). IsAtIndex (s ∷ ss) name x first) one (at_first s ss name first (same is))
    by false is e same other more = at_later s ss name subckt first (other is) (more e)

ports_low : (role : Role) → map lower (role_ports role) ≡ role_ports role
ports_low Bitcell = refl
ports_low Precharge = refl
ports_low Mux = refl
ports_low Tie = refl
ports_low Sense = refl
ports_low Write = refl
ports_low RowNand2 = refl
ports_low RowNand3 = refl
ports_low Driver = refl
ports_low Nand2 = refl
ports_low Nand3 = refl
ports_low Inv = refl
ports_low Dff = refl
ports_low Delay = refl

cell_is : (entries : List RoleName) (role : LeafRole) (cell : List ℕ) → cell_named_for entries role ≡ Some cell → cell_for entries role ≡ cell
cell_is [] role cell e = absurd cc
cell_is (r ∷ rs) role cell e = by (bytes_eq r.role (leaf_role_name role)) e (cell_is rs role cell) where
  by : (t : Bool) → option_map (λ (entry : RoleName). entry.cell) (cond t (Some r) (find (λ (entry : RoleName). bytes_eq entry.role (leaf_role_name role)) rs)) ≡ Some cell
      → (cell_named_for rs role ≡ Some cell → cell_for rs role ≡ cell) → cond t r.cell (cell_for rs role) ≡ cell
  by true e more = cc
  by false e more = more e

pub leaf_flat : (kit : Kit) (is : IsKit kit) (role : LeafRole) → HasLeaf (source_of kit is.wire) role → HasFlatLists kit.tech.layers kit.lib.structs (cell_for kit.tech.roles role)
leaf_flat kit is role leaf = let flat = leaf.1.sized.flat in subst (HasFlatLists kit.tech.layers kit.lib.structs) (sym (cell_is kit.tech.roles role leaf.1.cell flat.plays)) (leaf.1.lists, flat.flat)

pub leaf_subckt : (kit : Kit) (is : IsKit kit) (role : LeafRole) → HasLeaf (source_of kit is.wire) role → HasCellOf kit.deck.subckts (cell_for kit.tech.roles role) (pin_role role)
leaf_subckt kit is role leaf =
    let l = leaf.1 in
    let there : subckt_named kit.deck.subckts (lower (cell_for kit.tech.roles role)) ≡ Some l.ports.subckt =
    ap (λ (cell : List ℕ). subckt_named kit.deck.subckts (lower cell)) (cell_is kit.tech.roles role l.cell l.sized.flat.plays) ∙ l.ports.there in
    let at = at_index kit.deck.subckts (lower (cell_for kit.tech.roles role)) l.ports.subckt 0 (decks_are_lowered kit.text kit.deck is.text) there in
    let here : 0 + at.index ≡ at.index = omega arith in
    record {
      index = at.index;
      there = at.there ∙ ap (λ (k : ℕ). Some k) here;
      ported = ap (map lower) (at.ports ∙ l.ports.ports) ∙ ports_low (pin_role role);
    }

-- and the names that will be written

no_index : (ss : List Subckt) (name : List ℕ) (first : ℕ) → is_subckt_name ss name ≡ false → position_from (same_name (lower name)) first (names_of ss) ≡ None
no_index [] name first e = refl
no_index (s ∷ ss) name first e =
    let parts = or_parts (str_eq_ignore_ascii_case s.name name) (is_subckt_name ss name) e in
    ap (λ (t : Bool). cond t (Some first) (position_from (same_name (lower name)) (first + 1) (names_of ss))) (turned_other (lower s.name) (lower name) (lower s.name) refl parts.0)
    ∙ no_index ss name (first + 1) parts.1

none_there : (kit : Kit) (names : List (List ℕ)) → AllByRecursion (IsNew kit) names → AllByRecursion (λ name. index_of (names_of kit.deck.subckts) name ≡ None) (map lower names)
none_there kit [] all = tt
none_there kit (n ∷ ns) all =
    (no_index kit.deck.subckts n 0 (or_parts (is_structure_name kit.lib.structs n) (is_subckt_name kit.deck.subckts n) all.0).1, none_there kit ns all.1)

pub none_known : (kit : Kit) (names : List (List ℕ)) → first_taken kit names ≡ None → AllByRecursion (λ name. index_of (names_of kit.deck.subckts) name ≡ None) (map lower names)
none_known kit names none = none_there kit names (all_new kit names none)
