-- Which cells count, and that every chain to one that counts leads through such cells.
use Rattle.std.proofs.Common.{◌≡◌, inl, inr, ℕ, List, [], ◌∷◌, Some, sym, ap, subst}
use Rattle.std.specs.Prelude.{Contains, slice_get, slice_index}
use Rattle.or_geom.specs.declared.shape.Shape.{Shape}
use Rattle.or_geom.proofs.ListLaws.{contains_none, one_at}
use Rattle.element_drawing.specs.OwnShapes.{AreOwnShapes}
use Rattle.gds_library.specs.declared.library.Element.{Element}
use Rattle.gds_library.specs.declared.library.Element.TheVariants.{Boundary, Path, Sref, Aref, Text}
use Rattle.gds_library.specs.declared.library.Structure.{Structure}
use Rattle.cell_chains.specs.Chains.{elements_of}
use Rattle.cell_chains.specs.Hierarchy.{IsCell, IsCellOf, referred_name}
use Rattle.cell_hierarchy.specs.FlatSet.{IsOwnShape}
use Rattle.cell_hierarchy.proofs.CellLaws.{writable_at}
use Rattle.cell_hierarchy.proofs.OneSetLaws.{one_set}
use Rattle.leaf_contacts.specs.Contact.{leaf_cell_names}
use Rattle.leaf_contacts.specs.declared.cells.CellSummary.{CellSummary}
use Rattle.leaf_contacts.specs.declared.cells.ReachedCells.{ReachedCells}
use Rattle.leaf_contacts.specs.Chains.{Reference, Refers, IsReferenceOf, Leads}
use Rattle.leaf_contacts.specs.Stands.{CountsAt, Counts, AreReachedCells, LeadsToCounted}
use Rattle.leaf_contacts.proofs.CellLaws.{elements_are, has_summary}

-- the element of a reference names its structure
pub refers_named : (e : Element) (r : Reference) → Refers e r → referred_name e ≡ Some r.cell
refers_named (Boundary layer datatype points props) r a = absurd a
refers_named (Path layer datatype kind width points props) r a = absurd a
refers_named (Sref name place props) r a = ap Some (sym a.2)
refers_named (Aref name place columns rows across down props) r a = ap Some (sym a.2)
refers_named (Text layer texttype at string props) r a = absurd a

-- the cell to which a reference leads
pub record HasTarget (tree : ReachedCells) (k : ℕ) (name : List ℕ) (c : IsCellOf tree.structs.now tree.cells.now k name) (r : Reference) : Type 0 where
  pub element : Element
  pub there : slice_get c.structure.elements r.element ≡ Some element
  pub refers : Refers element r
  pub target : IsCellOf tree.structs.now tree.cells.now (slice_index c.cell.targets r.element) r.cell

pub has_target : (tree : ReachedCells) (k : ℕ) (name : List ℕ) (r : Reference) → AreReachedCells tree → (c : IsCellOf tree.structs.now tree.cells.now k name) → IsReferenceOf tree.structs.now name r → HasTarget tree k name c r
has_target tree k name r is c of =
    let there = subst (λ (es : List Element). slice_get es r.element ≡ Some of.element) (elements_are tree k name is c) of.there in
    let cell = is.cells.all k c.cell c.is in
    let own = one_structure tree k name c cell in
    let t = cell.each r.element of.element r.cell (subst (λ (s : Structure). slice_get s.elements r.element ≡ Some of.element) (sym own) there) (refers_named of.element r of.refers) in
    record { element = of.element; there = there; refers = of.refers; target = record { cell = t.cell; is = t.is; structure = t.structure; stands = t.stands; named = t.named } }
  where
    one_structure : (tree : ReachedCells) (k : ℕ) (name : List ℕ) (c : IsCellOf tree.structs.now tree.cells.now k name) (cell : IsCell tree.structs.now tree.cells.now k c.cell) → cell.structure ≡ c.structure
    one_structure tree k name c cell = one_at tree.structs.now c.cell.structure cell.structure c.structure cell.stands c.stands

-- each structure to which a chain leads has a cell
pub record HasCell (tree : ReachedCells) (name : List ℕ) : Type 0 where
  pub index : ℕ
  pub is : IsCellOf tree.structs.now tree.cells.now index name

pub chain_cell : (tree : ReachedCells) (from : List ℕ) (chain : List Reference) (to : List ℕ) → AreReachedCells tree → HasCell tree from → Leads tree.structs.now from chain to → HasCell tree to
chain_cell tree from [] to is c leads = subst (HasCell tree) (sym leads) c
chain_cell tree from (r ∷ chain) to is c leads =
    let t = has_target tree c.index from r is c.is leads.0 in
    chain_cell tree r.cell chain to is (record { index = slice_index c.is.cell.targets r.element; is = t.target }) leads.1

pub top_cell : (tree : ReachedCells) → AreReachedCells tree → HasCell tree tree.top.now
top_cell tree is = record { index = is.cells.before; is = is.cells.last }

-- what draws a shape counts
pub drawn_counts : (tree : ReachedCells) (name : List ℕ) (s : Shape) → AreReachedCells tree → IsOwnShape tree.layers.now (elements_of tree.structs.now name) s → Counts tree name
drawn_counts tree name s is own k c =
    let p = has_summary tree k name is c in
    let writable = writable_at tree.structs.now c.cell.structure c.structure is.writable c.stands in
    let among = one_set tree.layers.now c.structure.elements own.shapes p.summary.shapes.items writable (subst (λ (es : List Element). AreOwnShapes tree.layers.now es own.shapes) (elements_are tree k name is c) own.drawn) p.is.shapes s own.among in
    record { summary = p.summary; there = p.there; counts = p.is.counts.1 (inr (inl (λ none. contains_none s (subst (λ (l : List Shape). Contains l s) none among)))) }

-- a leaf cell counts
pub leaf_counts : (tree : ReachedCells) (name : List ℕ) → AreReachedCells tree → Contains (leaf_cell_names tree.leaves.now) name → Counts tree name
leaf_counts tree name is leaf k c =
    let p = has_summary tree k name is c in
    record { summary = p.summary; there = p.there; counts = p.is.counts.1 (inl (p.is.leaf.1 (subst (Contains (leaf_cell_names tree.leaves.now)) (sym c.named) leaf))) }

leads_counted : (e : Element) (r : Reference) (target : ℕ) (summaries : List CellSummary) → Refers e r → CountsAt summaries target → LeadsToCounted e target summaries
leads_counted (Boundary layer datatype points props) r target summaries a counts = absurd a
leads_counted (Path layer datatype kind width points props) r target summaries a counts = absurd a
leads_counted (Sref name place props) r target summaries a counts = counts
leads_counted (Aref name place columns rows across down props) r target summaries a counts = counts
leads_counted (Text layer texttype at string props) r target summaries a counts = absurd a

-- what refers to a cell that counts does
pub counts_up : (tree : ReachedCells) (name : List ℕ) (r : Reference) → AreReachedCells tree → IsReferenceOf tree.structs.now name r → Counts tree r.cell → Counts tree name
counts_up tree name r is of counts k c =
    let p = has_summary tree k name is c in
    let t = has_target tree k name r is c of in
    let below = counts (slice_index c.cell.targets r.element) t.target in
    record { summary = p.summary; there = p.there; counts = p.is.counts.1 (inr (inr (record { index = r.element; element = t.element; there = t.there; leads = leads_counted t.element r _ tree.summaries.now t.refers below }))) }
