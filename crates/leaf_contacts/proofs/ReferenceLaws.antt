-- The references of an element, and of an array's items.
use Rattle.std.proofs.Common.{◌≡◌, ◌⊎◌, inl, inr, ℕ, ◌+◌, ◌<◌, ◌≤◌, pos, ℤ, List, [], ◌∷◌, ◌++◌, length, Some, refl, sym, ap, subst, arith}
use Rattle.std.specs.Prelude.{slice_get}
use Rattle.std.proofs.lemmas.Int.{ints}
use Rattle.std.proofs.lemmas.Bool.{cases_lt}
use Rattle.std.proofs.lemmas.Option.{slice_get_within}
use Rattle.or_geom.specs.declared.shape.Point.{Point}
use Rattle.or_geom.specs.declared.place.Place.{Place}
use Rattle.or_geom.proofs.ListLaws.{one_at}
use Rattle.gds_library.specs.declared.library.Element.{Element}
use Rattle.gds_library.specs.declared.library.Element.TheVariants.{Sref, Aref}
use Rattle.gds_library.specs.declared.library.Prop.{Prop}
use Rattle.gds_library.specs.Writable.{IsWritableArray, IsWritableElement}
use Rattle.cell_chains.specs.Chains.{elements_of}
use Rattle.cell_chains.specs.Hierarchy.{referred_name}
use Rattle.cell_chains.specs.Instances.{item_place}
use Rattle.cell_hierarchy.specs.Below.{SomeBelow}
use Rattle.leaf_contacts.specs.declared.cells.ReachedCells.{ReachedCells}
use Rattle.leaf_contacts.specs.declared.references.Grid.{Grid}
use Rattle.leaf_contacts.specs.declared.stand.Stand.{Stand}
use Rattle.leaf_contacts.specs.declared.stand.ReferenceStep.{ReferenceStep}
use Rattle.leaf_contacts.specs.Chains.{Reference, Refers}
use Rattle.leaf_contacts.specs.Stands.{AddsBelow, CountsAt, HasContent, IsElementAt, IsCellNamed, IsGridOf, IsGridItem, IsLiveBefore, IsLiveFrom, IsLiveReference, IsReferenceAt, IsStandOf}
use Rattle.leaf_contacts.proofs.BelowLaws.{below_none, below_one, below_step}
use Rattle.leaf_contacts.proofs.CellLaws.{name_once}
use Rattle.leaf_contacts.proofs.CountLaws.{refers_named}

-- the element of a live reference of this index
pub live_element : (tree : ReachedCells) (cell index : ℕ) (element : Element) (target : ℕ) (name : List ℕ) (r : Reference) → IsElementAt tree cell index element target → IsCellNamed tree cell name → IsLiveReference tree name index r → Refers element r
live_element tree cell index element target name r at end live =
    let same = name_once tree.structs.now tree.cells.now cell name at.name end at.in_cell in
    let of = live.of in
    let there : slice_get (elements_of tree.structs.now at.name) index ≡ Some of.element =
    subst (λ (n : List ℕ). slice_get (elements_of tree.structs.now n) index ≡ Some of.element) same (subst (λ (k : ℕ). slice_get (elements_of tree.structs.now name) k ≡ Some of.element) live.at of.there) in
    subst (λ (e : Element). Refers e r) (one_at (elements_of tree.structs.now at.name) index of.element element there at.there) of.refers

-- where the target doesn't count, the element has no live reference
pub none_live : (tree : ReachedCells) (cell index : ℕ) (element : Element) (target : ℕ) (name : List ℕ) (r : Reference) → IsElementAt tree cell index element target → IsCellNamed tree cell name → (CountsAt tree.summaries.now target → ⊥) → IsLiveReference tree name index r → ⊥
none_live tree cell index element target name r at end not live =
    not (live.counts target (at.leads r.cell (refers_named element r (live_element tree cell index element target name r at end live))))

-- an element that is no reference has none
pub no_reference : (tree : ReachedCells) (cell index : ℕ) (element other : Element) (target : ℕ) (name : List ℕ) (r : Reference) → IsElementAt tree cell index element target → element ≡ other → (Refers other r → ⊥) → IsCellNamed tree cell name → IsLiveReference tree name index r → ⊥
no_reference tree cell index element other target name r at is none end live = none (subst (λ (e : Element). Refers e r) is (live_element tree cell index element target name r at end live))

abbrev pub reference_to : ℕ → ℕ → ℕ → List ℕ → Place → Reference
reference_to element column row cell place = record { element = element; column = column; row = row; cell = cell; place = place }

-- a reference that is one element
pub single_at : (tree : ReachedCells) (cell index : ℕ) (to : List ℕ) (place : Place) (props : List Prop) (target : ℕ) (element : Element) → IsElementAt tree cell index element target → element ≡ Sref to place props
    → IsReferenceAt tree cell target (record { element = index; column = 0; row = 0 }) place (reference_to index 0 0 to place)
single_at tree cell index to place props target element at is = record {
  name = at.name;
  in_cell = at.in_cell;
  of = record { element = Sref to place props; there = subst (λ (e : Element). slice_get (elements_of tree.structs.now at.name) index ≡ Some e) is at.there; refers = (refl, refl, refl, refl) };
  to = at.leads to (ap referred_name is);
  step_is = refl;
  place_is = refl;
}

pub single_once : (tree : ReachedCells) (cell index : ℕ) (to : List ℕ) (place : Place) (props : List Prop) (target : ℕ) (element : Element) (name : List ℕ) (r : Reference) → IsElementAt tree cell index element target → element ≡ Sref to place props
    → IsCellNamed tree cell name → IsLiveReference tree name index r → r ≡ reference_to index 0 0 to place
single_once tree cell index to place props target element name r at is end live =
    let a = subst (λ (e : Element). Refers e r) is (live_element tree cell index element target name r at end live) in
    let e = live.at in
    λ i. record { element = e i; column = a.0 i; row = a.1 i; cell = a.2 i; place = a.3 i }

-- an item of an array
pub item_at : (tree : ReachedCells) (cell : ℕ) (grid : Grid) (column row : ℕ) (to : List ℕ) → IsGridOf tree cell grid → IsCellNamed tree grid.target to → column < grid.columns → row < grid.rows
    → IsReferenceAt tree cell grid.target (record { element = grid.element; column = column; row = row }) (item_place grid.place column row grid.across grid.down) (reference_to grid.element column row to (item_place grid.place column row grid.across grid.down))
item_at tree cell grid column row to g end in_columns in_rows =
    let same = name_once tree.structs.now tree.cells.now grid.target to g.to end g.target in
    record {
      name = g.name;
      in_cell = g.in_cell;
      of = record { element = Aref g.to grid.place (pos grid.columns) (pos grid.rows) grid.across grid.down g.props; there = g.there; refers = (omega (arith, ints, in_columns), omega (arith, ints, in_rows), same, refl) };
      to = end;
      step_is = refl;
      place_is = refl;
    }

pub item_once : (grid : Grid) (to : List ℕ) (column row : ℕ) (r : Reference) → IsGridItem grid to column row r → r ≡ reference_to grid.element column row to (item_place grid.place column row grid.across grid.down)
item_once grid to column row r i = λ j. record { element = i.element j; column = i.column_is j; row = i.row_is j; cell = i.cell j; place = i.place j }

-- each live reference of an array is one of its items
pub live_item : (tree : ReachedCells) (cell : ℕ) (grid : Grid) (to name : List ℕ) (props : List Prop) (columns rows : ℤ) (element : Element) (r : Reference) → IsElementAt tree cell grid.element element grid.target → element ≡ Aref to grid.place columns rows grid.across grid.down props
    → columns ≡ pos grid.columns → rows ≡ pos grid.rows → IsCellNamed tree cell name → IsLiveReference tree name grid.element r → SomeBelow (λ column. SomeBelow (IsGridItem grid to column) grid.rows) grid.columns r
live_item tree cell grid to name props columns rows element r at is ec er end live =
    let a = subst (λ (e : Element). Refers e r) is (live_element tree cell grid.element element grid.target name r at end live) in
    let in_columns = a.0 in
    let in_rows = a.1 in
    record {
      index = r.column;
      below = omega (arith, ints, ec, in_columns);
      has = record { index = r.row; below = omega (arith, ints, er, in_rows); has = record { element = live.at; column_is = refl; row_is = refl; cell = a.2; place = a.3 } };
    }

-- one item of a column more
pub column_step : (tree : ReachedCells) (cell : ℕ) (grid : Grid) (chain : List Reference) (to : List ℕ) (column row : ℕ) (place : Place) (made : Stand) (old mid new : List Stand) → IsGridOf tree cell grid → IsCellNamed tree grid.target to → column < grid.columns
    → row < grid.rows → place ≡ item_place grid.place column row grid.across grid.down → new ≡ mid ++ made ∷ []
    → ((r : Reference) → IsReferenceAt tree cell grid.target (record { element = grid.element; column = column; row = row }) place r → IsStandOf tree (chain ++ r ∷ []) made) → AddsBelow tree chain (SomeBelow (IsGridItem grid to column) row) old mid
    → AddsBelow tree chain (SomeBelow (IsGridItem grid to column) (row + 1)) old new
column_step tree cell grid chain to column row place made old mid new of end in_columns in_rows is pushed stands before =
    let r = reference_to grid.element column row to (item_place grid.place column row grid.across grid.down) in
    let step : ReferenceStep = record { element = grid.element; column = column; row = row } in
    let at = subst (λ (p : Place). IsReferenceAt tree cell grid.target step p r) (sym is) (item_at tree cell grid column row to of end in_columns in_rows) in
    below_step tree chain (IsGridItem grid to column) row old mid new before (below_one tree chain (IsGridItem grid to column row) mid new r made pushed (stands r at) (λ q has. item_once grid to column row q has))

pub array_writable : (element : Element) (name : List ℕ) (place : Place) (columns rows : ℤ) (across down : Point) (props : List Prop) → IsWritableElement element → element ≡ Aref name place columns rows across down props → IsWritableArray place columns rows across down
array_writable element name place columns rows across down props w is = (subst IsWritableElement is w).body.1

-- the array of an element
pub grid_is : (tree : ReachedCells) (cell index : ℕ) (element : Element) (target : ℕ) (name : List ℕ) (place : Place) (columns rows : ℤ) (across down : Point) (props : List Prop) (m n : ℕ) → IsElementAt tree cell index element target
    → element ≡ Aref name place columns rows across down props → columns ≡ pos m → rows ≡ pos n → IsGridOf tree cell (record { element = index; target = target; place = place; columns = m; rows = n; across = across; down = down })
grid_is tree cell index element target name place columns rows across down props m n at is ec er = record {
  name = at.name;
  in_cell = at.in_cell;
  to = name;
  target = at.leads name (ap referred_name is);
  props = props;
  there = subst (λ (r : ℤ). slice_get (elements_of tree.structs.now at.name) index ≡ Some (Aref name place (pos m) r across down props)) er
      (subst (λ (c : ℤ). slice_get (elements_of tree.structs.now at.name) index ≡ Some (Aref name place c rows across down props)) ec (subst (λ (e : Element). slice_get (elements_of tree.structs.now at.name) index ≡ Some e) is at.there));
  writable = subst (λ (r : ℤ). IsWritableArray place (pos m) r across down) er (subst (λ (c : ℤ). IsWritableArray place c rows across down) ec (array_writable element name place columns rows across down props at.writable is));
}

-- one element more
pub live_more : (tree : ReachedCells) (name : List ℕ) (i : ℕ) (r : Reference) → IsLiveBefore tree name (i + 1) r → IsLiveBefore tree name i r ⊎ IsLiveReference tree name i r
live_more tree name i r live = elim (cases_lt r.element i) [
  | inl less ↦ inl (record { of = live.of; before = less; counts = live.counts })
  | inr ge ↦ let before = live.before in inr (record { of = live.of; at = omega (arith, before, ge); counts = live.counts })
]

pub live_all : (tree : ReachedCells) (cell : ℕ) (elements : List Element) (targets : List ℕ) (name : List ℕ) (i : ℕ) (r : Reference) → HasContent tree cell elements targets → IsCellNamed tree cell name → length elements ≤ i → IsLiveFrom tree name r → IsLiveBefore tree name i r
live_all tree cell elements targets name i r content end over live =
    let same = name_once tree.structs.now tree.cells.now cell content.name name content.in_cell end in
    let are : elements_of tree.structs.now name ≡ elements = subst (λ (n : List ℕ). elements_of tree.structs.now n ≡ elements) same content.are in
    let within = slice_get_within elements r.element live.of.element (subst (λ (es : List Element). slice_get es r.element ≡ Some live.of.element) are live.of.there) in
    record { of = live.of; before = omega (arith, within, over); counts = live.counts }

pub live_none : (tree : ReachedCells) (chain : List Reference) (name : List ℕ) (xs : List Stand) → AddsBelow tree chain (IsLiveBefore tree name 0) xs xs
live_none tree chain name xs = below_none tree chain (IsLiveBefore tree name 0) xs (λ r live. let before = live.before in absurd (omega (arith, before)))
