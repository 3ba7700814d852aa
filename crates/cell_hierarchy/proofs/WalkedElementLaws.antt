-- The elements of a cell that is walked: what they take over, and what is read for them.
use Rattle.std.proofs.Common.{◌≡◌, ℕ, ◌-◌, ◌*◌, ◌^◌, ◌<◌, ℤ, pos, List, length, get_or, Some, refl, sym, ap, subst, ◌∙◌, arith}
use Rattle.std.specs.Prelude.{slice_get, slice_index}
use Rattle.std.proofs.lemmas.Int.{ints}
use Rattle.std.proofs.lemmas.Option.{same_Some, slice_get_within, slice_get_read}
use Rattle.or_geom.specs.declared.shape.Point.{Point}
use Rattle.or_geom.specs.declared.place.Place.{Place}
use Rattle.or_geom.specs.Place.{IsWithin}
use Rattle.gds_library.specs.declared.library.Prop.{Prop}
use Rattle.gds_library.specs.declared.library.Element.{Element}
use Rattle.gds_library.specs.declared.library.Element.TheVariants.{Sref, Aref}
use Rattle.gds_library.specs.declared.library.Structure.{Structure}
use Rattle.gds_library.specs.Writable.{IsWritableElement, IsWritableArray}
use Rattle.cell_chains.specs.declared.cell.Cell.{Cell}
use Rattle.cell_chains.specs.Instances.{Item, HasItem, reference_name, array_name, item_place}
use Rattle.cell_chains.specs.Hierarchy.{IsCellOf, referred_name}
use Rattle.cell_hierarchy.specs.Below.{SomeBelow}
use Rattle.cell_hierarchy.specs.Grid.{array_item}
use Rattle.cell_hierarchy.specs.Things.{Thing, GatheredGrows}
use Rattle.cell_hierarchy.specs.Placed.{IsOfItem, IsPlacedBelow}
use Rattle.cell_hierarchy.specs.Parts.{IsCellTree, IsPlacedAt, IsBelowAt, IsLiveAt, IsElementOf, IsOfCellIn, IsOfElement, IsOfArrayItem}
use Rattle.cell_hierarchy.specs.declared.gathered.Gathered.{Gathered}
use Rattle.cell_hierarchy.specs.declared.placement.Placement.{Placement}
use Rattle.cell_hierarchy.specs.declared.tree.Tree.{Tree}
use Rattle.cell_hierarchy.specs.declared.walk.ArrayBelow.{ArrayBelow}
use Rattle.cell_hierarchy.proofs.BelowLaws.{reference_item, same_item}
use Rattle.cell_hierarchy.proofs.CellLaws.{writable_at, all_got}
use Rattle.cell_hierarchy.proofs.ComposeLaws.{IsItemBelow, item_of_cell, cell_of_item}
use Rattle.cell_hierarchy.proofs.GrowsLaws.{grows_as, grows_none}
use Rattle.cell_hierarchy.proofs.NearLaws.{further}
use Rattle.cell_hierarchy.proofs.NameLaws.{reference_name_some, array_name_some}
use Rattle.cell_hierarchy.proofs.OwnLaws.{same_read}
use Rattle.cell_hierarchy.proofs.WalkLaws.{lower_reach}

-- an element of a cell that is walked
pub record IsElementAt (tree : Tree) (index n : ℕ) (cell : Cell) (structure : Structure) (e : Element) : Type 0 where
  pub is : slice_get tree.cells.now index ≡ Some cell
  pub stands : slice_get tree.structs.now cell.structure ≡ Some structure
  pub there : slice_get structure.elements n ≡ Some e
  pub writable : IsWritableElement e

-- the cell to which it refers
pub record HasTarget (tree : Tree) (index : ℕ) (at : Placement) (target : ℕ) (name : List ℕ) : Type 0 where
  pub before : target < index
  pub below : IsBelowAt tree target at
  pub named : IsCellOf tree.structs.now tree.cells.now target name

pub has_target : (tree : Tree) (index : ℕ) (at : Placement) (n : ℕ) (cell : Cell) (structure : Structure) (e : Element) (name : List ℕ) → IsCellTree tree → IsPlacedAt tree index at → IsElementAt tree index n cell structure e → referred_name e ≡ Some name
    → HasTarget tree index at (slice_index cell.targets n) name
has_target tree index at n cell structure e name t p a refers =
    let c = t.cells.each index cell a.is in
    let one : c.structure ≡ structure = same_Some c.structure structure (sym c.stands ∙ a.stands) in
    let g = c.each n e name (subst (λ (s : Structure). slice_get s.elements n ≡ Some e) (sym one) a.there) refers in
    let same : p.cell ≡ cell = same_Some p.cell cell (sym p.is ∙ a.is) in
    let lower = g.lower in
    let low = c.low in
    record {
      before = g.before;
      below = record {
        cell = g.cell;
        is = g.is;
        low = omega (arith, lower, low);
        near = further ((32 - cell.height) * 2 ^ 33) ((31 - g.cell.height) * 2 ^ 33) at.place.at (lower_reach cell.height g.cell.height lower low) (subst (λ (d : Cell). IsWithin ((32 - d.height) * 2 ^ 33) at.place.at) same p.near);
        ascii = p.ascii;
      };
      named = record { cell = g.cell; is = g.is; structure = g.structure; stands = g.stands; named = g.named };
    }

-- an item of the element, and what it takes over
pub record SomeItem (tree : Tree) (at : Placement) (n : ℕ) (e : Element) (x : Thing) : Type 0 where
  pub item : Item
  pub has : HasItem n e item
  pub taken : IsOfItem tree.layers.now tree.keeps_labels tree.structs.now at item x

pub element_as : (tree : Tree) (index : ℕ) (at : Placement) (n : ℕ) (cell : Cell) (structure : Structure) (e : Element) (P : Thing → Type 0) (old new : Gathered) → IsElementAt tree index n cell structure e
    → ((x : Thing) → P x → SomeItem tree at n e x) → ((x : Thing) → SomeItem tree at n e x → P x) → GatheredGrows old new P → GatheredGrows old new (IsOfElement tree index at n)
element_as tree index at n cell structure e P old new a to from g =
    grows_as old new P (IsOfElement tree index at n)
    (λ x h. let s = to x h in record { cell = cell; is = a.is; structure = structure; stands = a.stands; element = e; there = a.there; item = s.item; has = s.has; taken = s.taken })
    (λ x h.
    let one : h.cell ≡ cell = same_Some h.cell cell (sym h.is ∙ a.is) in
    let two : h.structure ≡ structure = same_Some h.structure structure (sym h.stands ∙ (ap (λ (c : Cell). slice_get tree.structs.now c.structure) one ∙ a.stands)) in
    let three : h.element ≡ e = same_Some h.element e (sym h.there ∙ (ap (λ (s : Structure). slice_get s.elements n) two ∙ a.there)) in
    from x (record { item = h.item; has = subst (λ (f : Element). HasItem n f h.item) three h.has; taken = h.taken }))
    g

pub element_reference : (tree : Tree) (index : ℕ) (at made : Placement) (n : ℕ) (cell : Cell) (structure : Structure) (name : List ℕ) (place : Place) (props : List Prop) (old new : Gathered)
    → IsElementAt tree index n cell structure (Sref name place props) → IsItemBelow tree.keeps_labels at (reference_item n name place props) made → GatheredGrows old new (IsOfCellIn tree made name) → GatheredGrows old new (IsOfElement tree index at n)
element_reference tree index at made n cell structure name place props old new a below g =
    element_as tree index at n cell structure (Sref name place props) (IsOfCellIn tree made name) old new a
    (λ x h. record { item = reference_item n name place props; has = record { named = refl; cell = refl; placed = refl }; taken = item_of_cell tree.layers.now tree.keeps_labels tree.structs.now at (reference_item n name place props) made x below h })
    (λ x h.
    let e : h.item ≡ reference_item n name place props = same_item h.item (reference_item n name place props) h.has.named h.has.cell h.has.placed in
    cell_of_item tree.layers.now tree.keeps_labels tree.structs.now at (reference_item n name place props) made x below (subst (λ (i : Item). IsOfItem tree.layers.now tree.keeps_labels tree.structs.now at i x) e h.taken))
    g

pub element_array : (tree : Tree) (index : ℕ) (at : Placement) (array : ArrayBelow) (cell : Cell) (structure : Structure) (name : List ℕ) (columns rows : ℤ) (props : List Prop) (old new : Gathered)
    → IsElementAt tree index array.n cell structure (Aref name array.grid.place columns rows array.grid.across array.grid.down props) → columns ≡ pos array.grid.columns → rows ≡ pos array.grid.rows
    → GatheredGrows old new (SomeBelow (λ column. SomeBelow (IsOfArrayItem tree at array name column) array.grid.rows) array.grid.columns) → GatheredGrows old new (IsOfElement tree index at array.n)
element_array tree index at array cell structure name columns rows props old new a ec er g =
    element_as tree index at array.n cell structure (Aref name array.grid.place columns rows array.grid.across array.grid.down props) (SomeBelow (λ column. SomeBelow (IsOfArrayItem tree at array name column) array.grid.rows) array.grid.columns) old new a
    (λ x h.
    let lt = h.below in
    let less = h.has.below in
    record {
      item = array_item array.n name array.grid.place array.grid.across array.grid.down h.index h.has.index;
      has = record { column = h.index; row = h.has.index; in_columns = omega (arith, ints, lt, ec); in_rows = omega (arith, ints, less, er); named = refl; cell = refl; placed = refl };
      taken = h.has.has;
    })
    (λ x h.
    let s = h.has in
    let c = s.in_columns in
    let r = s.in_rows in
    let e : h.item ≡ array_item array.n name array.grid.place array.grid.across array.grid.down s.column s.row = same_item h.item (array_item array.n name array.grid.place array.grid.across array.grid.down s.column s.row) s.named s.cell s.placed in
    record {
      index = s.column;
      below = omega (arith, ints, c, ec);
      has = record { index = s.row; below = omega (arith, ints, r, er); has = subst (λ (i : Item). IsOfItem tree.layers.now tree.keeps_labels tree.structs.now at i x) e h.taken };
    })
    g

pub element_none : (tree : Tree) (index : ℕ) (at : Placement) (n : ℕ) (cell : Cell) (structure : Structure) (e : Element) (out : Gathered) → IsElementAt tree index n cell structure e → ((item : Item) → HasItem n e item → ⊥) → GatheredGrows out out (IsOfElement tree index at n)
element_none tree index at n cell structure e out a none =
    element_as tree index at n cell structure e (λ x. ⊥) out out a (λ x h. absurd h) (λ x h. none h.item h.has) (grows_none out (λ x. ⊥) (λ x h. h))

pub item_grows : (tree : Tree) (at made : Placement) (array : ArrayBelow) (name : List ℕ) (column row : ℕ) (old new : Gathered) → IsItemBelow tree.keeps_labels at (array_item array.n name array.grid.place array.grid.across array.grid.down column row) made
    → GatheredGrows old new (IsOfCellIn tree made name) → GatheredGrows old new (IsOfArrayItem tree at array name column row)
item_grows tree at made array name column row old new below g =
    let item = array_item array.n name array.grid.place array.grid.across array.grid.down column row in
    grows_as old new (IsOfCellIn tree made name) (IsOfArrayItem tree at array name column row) (λ x h. item_of_cell tree.layers.now tree.keeps_labels tree.structs.now at item made x below h)
    (λ x h. cell_of_item tree.layers.now tree.keeps_labels tree.structs.now at item made x below h) g

pub element_of : (tree : Tree) (index n : ℕ) (e : Element) (target : ℕ) → IsCellTree tree → (o : IsElementOf tree index n e target) → IsElementAt tree index n o.cell o.structure e
element_of tree index n e target t o = record {
  is = o.is;
  stands = o.stands;
  there = o.there;
  writable = all_got IsWritableElement o.structure.elements n e (writable_at tree.structs.now o.cell.structure o.structure t.writable o.stands) o.there;
}

pub target_of : (tree : Tree) (index : ℕ) (at : Placement) (n : ℕ) (e : Element) (target : ℕ) (name : List ℕ) → IsCellTree tree → IsPlacedAt tree index at → IsElementOf tree index n e target → referred_name e ≡ Some name → HasTarget tree index at target name
target_of tree index at n e target name t p o refers =
    subst (λ (k : ℕ). HasTarget tree index at k name) (sym o.target_is) (has_target tree index at n o.cell o.structure e name t p (element_of tree index n e target t o) refers)

pub element_writable : (tree : Tree) (index n : ℕ) (e d : Element) (target : ℕ) → IsCellTree tree → IsElementOf tree index n e target → e ≡ d → IsWritableElement d
element_writable tree index n e d target t o is = subst IsWritableElement is (element_of tree index n e target t o).writable

-- a reference is walked
pub reference_done : (tree : Tree) (index : ℕ) (at made : Placement) (n : ℕ) (e : Element) (target : ℕ) (name : List ℕ) (place : Place) (props : List Prop) (old new : Gathered) → IsCellTree tree → IsPlacedAt tree index at → IsElementOf tree index n e target
    → e ≡ Sref name place props → IsPlacedBelow tree.keeps_labels at (reference_name n props) place made → ((other : List ℕ) → IsCellOf tree.structs.now tree.cells.now target other → GatheredGrows old new (IsOfCellIn tree made other))
    → GatheredGrows old new (IsOfElement tree index at n)
reference_done tree index at made n e target name place props old new t p o is below grows =
    let w = element_writable tree index n e (Sref name place props) target t o is in
    let a = subst (λ (f : Element). IsElementAt tree index n o.cell o.structure f) is (element_of tree index n e target t o) in
    let h = target_of tree index at n e target name t p o (ap referred_name is) in
    element_reference tree index at made n o.cell o.structure name place props old new a (record { below = below; some = reference_name_some n props w.props }) (grows name h.named)

-- an array is walked
pub array_done : (tree : Tree) (index : ℕ) (at : Placement) (array : ArrayBelow) (e : Element) (name : List ℕ) (columns rows : ℤ) (props : List Prop) (old new : Gathered) → IsCellTree tree → IsPlacedAt tree index at
    → IsElementOf tree index array.n e array.target → e ≡ Aref name array.grid.place columns rows array.grid.across array.grid.down props → columns ≡ pos array.grid.columns → rows ≡ pos array.grid.rows
    → ((other : List ℕ) → IsCellOf tree.structs.now tree.cells.now array.target other → GatheredGrows old new (SomeBelow (λ column. SomeBelow (IsOfArrayItem tree at array other column) array.grid.rows) array.grid.columns))
    → GatheredGrows old new (IsOfElement tree index at array.n)
array_done tree index at array e name columns rows props old new t p o is ec er grows =
    let a = subst (λ (f : Element). IsElementAt tree index array.n o.cell o.structure f) is (element_of tree index array.n e array.target t o) in
    let h = target_of tree index at array.n e array.target name t p o (ap referred_name is) in
    element_array tree index at array o.cell o.structure name columns rows props old new a ec er (grows name h.named)

-- another element takes nothing over
pub other_done : (tree : Tree) (index : ℕ) (at : Placement) (n : ℕ) (e d : Element) (target : ℕ) (out : Gathered) → IsCellTree tree → IsElementOf tree index n e target → e ≡ d → ((item : Item) → HasItem n d item → ⊥) → GatheredGrows out out (IsOfElement tree index at n)
other_done tree index at n e d target out t o is none =
    element_none tree index at n o.cell o.structure d out (subst (λ (f : Element). IsElementAt tree index n o.cell o.structure f) is (element_of tree index n e target t o)) none

-- an item of an array is walked
pub item_done : (tree : Tree) (at made : Placement) (array : ArrayBelow) (column row : ℕ) (old new : Gathered) → IsPlacedBelow tree.keeps_labels at (array_name array.n column row) (item_place array.grid.place column row array.grid.across array.grid.down) made
    → ((other : List ℕ) → IsCellOf tree.structs.now tree.cells.now array.target other → GatheredGrows old new (IsOfCellIn tree made other))
    → (name : List ℕ) → IsCellOf tree.structs.now tree.cells.now array.target name → GatheredGrows old new (IsOfArrayItem tree at array name column row)
item_done tree at made array column row old new below grows name named =
    item_grows tree at made array name column row old new (record { below = below; some = array_name_some array.n column row }) (grows name named)

-- what is read for an element
pub record IsReadAt (tree : Tree) (index n : ℕ) (cell : Cell) : Type 0 where
  pub is : slice_get tree.cells.now index ≡ Some cell
  pub structure : Structure
  pub stands : slice_get tree.structs.now cell.structure ≡ Some structure
  pub within : cell.structure < length tree.structs.now
  pub inside : n < length structure.elements
  pub sized : length cell.targets ≡ length structure.elements

pub index_within : (tree : Tree) (index n : ℕ) → IsLiveAt tree index n → index < length tree.cells.now
index_within tree index n l = slice_get_within tree.cells.now index l.cell l.is

pub read_at : (tree : Tree) (index n : ℕ) (cell : Cell) → IsCellTree tree → IsLiveAt tree index n → cell ≡ get_or tree.cells.now index cell → IsReadAt tree index n cell
read_at tree index n cell t l read =
    let got = slice_get_read tree.cells.now _ index cell refl (index_within tree index n l) read in
    let one : l.cell ≡ cell = same_Some l.cell cell (sym l.is ∙ got) in
    let stands = ap (λ (c : Cell). slice_get tree.structs.now c.structure) (sym one) ∙ l.stands in
    let c = t.cells.each index cell got in
    let two : c.structure ≡ l.structure = same_Some c.structure l.structure (sym c.stands ∙ stands) in
    record {
      is = got;
      structure = l.structure;
      stands = stands;
      within = slice_get_within tree.structs.now cell.structure l.structure stands;
      inside = l.inside;
      sized = c.sized ∙ ap (λ (s : Structure). length s.elements) two;
    }

-- the structure that is read is the cell's
pub structure_read : (tree : Tree) (index n : ℕ) (cell : Cell) (structure : Structure) → (r : IsReadAt tree index n cell) → structure ≡ get_or tree.structs.now cell.structure structure → r.structure ≡ structure
structure_read tree index n cell structure r read = same_Some r.structure structure (sym r.stands ∙ slice_get_read tree.structs.now _ cell.structure structure refl r.within read)

pub cell_read : (tree : Tree) (index n : ℕ) (d : Cell) → IsCellTree tree → IsLiveAt tree index n → IsReadAt tree index n (get_or tree.cells.now index d)
cell_read tree index n d t l = read_at tree index n (get_or tree.cells.now index d) t l (same_read tree.cells.now index d (get_or tree.cells.now index d) (index_within tree index n l))

pub targets_within : (tree : Tree) (index n : ℕ) (cell : Cell) (targets : List ℕ) → IsReadAt tree index n cell → targets ≡ cell.targets → n < length targets
targets_within tree index n cell targets r is =
    let same : length targets ≡ length cell.targets = ap (λ (l : List ℕ). length l) is in
    let sized = r.sized in
    let lt = r.inside in
    omega (arith, same, sized, lt)

elements_read : (tree : Tree) (index n : ℕ) (cell : Cell) (d : Structure) (elements : List Element) → (r : IsReadAt tree index n cell) → elements ≡ (get_or tree.structs.now cell.structure d).elements → r.structure.elements ≡ elements
elements_read tree index n cell d elements r is =
    let one = structure_read tree index n cell (get_or tree.structs.now cell.structure d) r (same_read tree.structs.now cell.structure d (get_or tree.structs.now cell.structure d) r.within) in
    ap (λ (s : Structure). s.elements) one ∙ sym is

pub elements_within : (tree : Tree) (index n : ℕ) (cell : Cell) (d : Structure) (elements : List Element) → IsReadAt tree index n cell → elements ≡ (get_or tree.structs.now cell.structure d).elements → n < length elements
elements_within tree index n cell d elements r is = subst (λ (es : List Element). n < length es) (elements_read tree index n cell d elements r is) r.inside

pub element_read : (tree : Tree) (index n : ℕ) (cell : Cell) (d : Structure) (targets : List ℕ) (elements : List Element) (e : Element) → IsReadAt tree index n cell → targets ≡ cell.targets → elements ≡ (get_or tree.structs.now cell.structure d).elements
    → e ≡ get_or elements n e → IsElementOf tree index n e (slice_index targets n)
element_read tree index n cell d targets elements e r targets_are elements_are read = record {
  cell = cell;
  is = r.is;
  structure = r.structure;
  stands = r.stands;
  there = subst (λ (es : List Element). slice_get es n ≡ Some e) (sym (elements_read tree index n cell d elements r elements_are))
      (slice_get_read elements _ n e refl (elements_within tree index n cell d elements r elements_are) read);
  target_is = ap (λ (ts : List ℕ). slice_index ts n) targets_are;
}

-- a writable array, with its sizes as the code has them
pub array_as : (place : Place) (columns rows : ℤ) (cs rs : ℕ) (across down : Point) → columns ≡ pos cs → rows ≡ pos rs → IsWritableArray place columns rows across down → IsWritableArray place (pos cs) (pos rs) across down
array_as place columns rows cs rs across down ec er w = subst (λ (m : ℤ). IsWritableArray place (pos cs) m across down) er (subst (λ (m : ℤ). IsWritableArray place m rows across down) ec w)
