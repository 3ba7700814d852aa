-- The cells of a tree: their names, their summaries, and the elements by which they refer to each other.
use Rattle.std.proofs.Common.{◌≡◌, ◌↔◌, inl, inr, ℕ, ◌<◌, List, [], ◌∷◌, length, Some, refl, sym, ap, subst, ◌∙◌, arith}
use Rattle.std.specs.Prelude.{Contains, slice_get}
use Rattle.std.proofs.lemmas.Option.{slice_get_within}
use Rattle.or_geom.proofs.ListLaws.{contains_cases, contains_here, contains_later, contains_none, one_at}
use Rattle.gds_library.specs.declared.library.Element.{Element}
use Rattle.gds_library.specs.declared.library.Structure.{Structure}
use Rattle.leaf_nets.specs.declared.leaves.LooseLeaf.{LooseLeaf}
use Rattle.or_geom.specs.Gathering.{SomeHas}
use Rattle.cell_chains.specs.declared.cell.Cell.{Cell}
use Rattle.cell_chains.specs.declared.fault.ChainFault.{ChainFault}
use Rattle.cell_chains.specs.declared.fault.ChainFault.TheVariants as chain_fault
use Rattle.cell_chains.specs.Chains.{elements_of, IsSound}
use Rattle.cell_chains.specs.Hierarchy.{IsCellOf, IsChainFault}
use Rattle.cell_hierarchy.proofs.CellLaws.{first_is, structure_stands, targets_sized, there_at, writable_at}
use Rattle.leaf_contacts.specs.Contact.{leaf_cell_names}
use Rattle.leaf_contacts.specs.declared.cells.CellSummary.{CellSummary}
use Rattle.leaf_contacts.specs.declared.cells.ReachedCells.{ReachedCells}
use Rattle.leaf_contacts.specs.Stands.{IsCellSummary, AreReachedCells, IsCellNamed, HasContent}

-- a cell has one name
pub name_once : (structs : List Structure) (cells : List Cell) (k : ℕ) (name other : List ℕ) → IsCellOf structs cells k name → IsCellOf structs cells k other → name ≡ other
name_once structs cells k name other a b =
    let cell = one_at cells k a.cell b.cell a.is b.is in
    let structure = one_at structs b.cell.structure a.structure b.structure (subst (λ (c : Cell). slice_get structs c.structure ≡ Some a.structure) cell a.stands) b.stands in
    sym a.named ∙ (ap (λ (s : Structure). s.name) structure ∙ b.named)

-- the elements of the structure of this name are those of the cell
pub elements_are : (tree : ReachedCells) (k : ℕ) (name : List ℕ) → AreReachedCells tree → (c : IsCellOf tree.structs.now tree.cells.now k name) → elements_of tree.structs.now name ≡ c.structure.elements
elements_are tree k name is c =
    let cell = is.cells.all k c.cell c.is in
    let same = one_at tree.structs.now c.cell.structure cell.structure c.structure cell.stands c.stands in
    subst (λ (n : List ℕ). elements_of tree.structs.now n ≡ c.structure.elements) c.named (subst (λ (s : Structure). elements_of tree.structs.now s.name ≡ s.elements) same cell.first)

-- the summary of a cell
pub record HasSummary (tree : ReachedCells) (k : ℕ) (name : List ℕ) (c : IsCellOf tree.structs.now tree.cells.now k name) : Type 0 where
  pub summary : CellSummary
  pub there : slice_get tree.summaries.now k ≡ Some summary
  pub is : IsCellSummary tree.layers.now (leaf_cell_names tree.leaves.now) c.structure c.cell.targets tree.summaries.now summary

pub has_summary : (tree : ReachedCells) (k : ℕ) (name : List ℕ) → AreReachedCells tree → (c : IsCellOf tree.structs.now tree.cells.now k name) → HasSummary tree k name c
has_summary tree k name is c =
    let sized = is.summaries.sized in
    let inside = slice_get_within tree.cells.now k c.cell c.is in
    let t = there_at tree.summaries.now k (omega (arith, sized, inside)) in
    record { summary = t.item; there = t.is; is = is.summaries.each k c.cell c.structure t.item c.is c.stands t.is }

-- of two cells of one name, one is looked at: they have summaries of one structure
pub summary_at : (tree : ReachedCells) (k : ℕ) (name : List ℕ) (summary : CellSummary) → AreReachedCells tree → (c : IsCellOf tree.structs.now tree.cells.now k name) → slice_get tree.summaries.now k ≡ Some summary → IsCellSummary tree.layers.now (leaf_cell_names tree.leaves.now) c.structure c.cell.targets tree.summaries.now summary
summary_at tree k name summary is c there = is.summaries.each k c.cell c.structure summary c.is c.stands there

-- the names of leaf cells
pub leaf_named : (leaves : List LooseLeaf) (name : List ℕ) → Contains (leaf_cell_names leaves) name → SomeHas (λ (leaf : LooseLeaf). leaf.cell ≡ name) leaves
leaf_named [] name h = contains_none name h
leaf_named (leaf ∷ leaves) name h = elim (contains_cases leaf.cell (leaf_cell_names leaves) name h) [ inl same ↦ inl (sym same) | inr more ↦ inr (leaf_named leaves name more) ]

pub named_leaf : (leaves : List LooseLeaf) (name : List ℕ) → SomeHas (λ (leaf : LooseLeaf). leaf.cell ≡ name) leaves → Contains (leaf_cell_names leaves) name
named_leaf [] name h = absurd h
named_leaf (leaf ∷ leaves) name (inl same) = contains_here leaf.cell (leaf_cell_names leaves) name (sym same)
named_leaf (leaf ∷ leaves) name (inr more) = contains_later leaf.cell (leaf_cell_names leaves) name (named_leaf leaves name more)

-- where all is sound there is no fault but want of memory
pub sound_no_fault : (structs : List Structure) (top : List ℕ) (fault : ChainFault) → IsSound structs top → IsChainFault structs top fault → (fault ≡ chain_fault.Memory → ⊥) → ⊥
sound_no_fault structs top (chain_fault.UnknownStruct name) sound is other = sound.there name is.has
sound_no_fault structs top (chain_fault.Cycle name) sound is other = sound.acyclic name is.1.has
sound_no_fault structs top (chain_fault.TooDeep depth) sound is other =
    let d = is.2 in
    let short = sound.short d.chain d.end d.leads in
    let long = d.long in
    let deep = is.3 in
    omega (arith, short, long, deep)
sound_no_fault structs top chain_fault.Memory sound is other = other refl

-- a cell's structure is there
pub structure_there : (tree : ReachedCells) (k : ℕ) (cell : Cell) → AreReachedCells tree → slice_get tree.cells.now k ≡ Some cell → cell.structure < length tree.structs.now
structure_there tree k cell are at = structure_stands tree.structs.now tree.cells.now k cell (are.cells.all k cell at)

-- and its name is the cell's
pub named_is : (tree : ReachedCells) (k : ℕ) (cell : Cell) (structure : Structure) (name : List ℕ) → slice_get tree.cells.now k ≡ Some cell → slice_get tree.structs.now cell.structure ≡ Some structure → (name ≡ structure.name) ↔ IsCellNamed tree k name
named_is tree k cell structure name at stands = (
  (λ same. record { cell = cell; is = at; structure = structure; stands = stands; named = sym same }),
  (λ c.
      let one = one_at tree.cells.now k c.cell cell c.is at in
      let s = one_at tree.structs.now cell.structure c.structure structure (subst (λ (d : Cell). slice_get tree.structs.now d.structure ≡ Some c.structure) one c.stands) stands in
      sym c.named ∙ ap (λ (t : Structure). t.name) s),
)

-- the elements of a cell, each with its target
pub content_is : (tree : ReachedCells) (k : ℕ) (cell : Cell) (structure : Structure) (elements : List Element) (targets : List ℕ) → AreReachedCells tree → slice_get tree.cells.now k ≡ Some cell → slice_get tree.structs.now cell.structure ≡ Some structure
    → elements ≡ structure.elements → targets ≡ cell.targets → HasContent tree k elements targets
content_is tree k cell structure elements targets are at stands es ts =
    let is = are.cells.all k cell at in
    let named : IsCellOf tree.structs.now tree.cells.now k structure.name = record { cell = cell; is = at; structure = structure; stands = stands; named = refl } in
    let first = first_is tree.structs.now tree.cells.now k cell structure is stands in
    let own : HasContent tree k structure.elements cell.targets = record {
      name = structure.name;
      in_cell = named;
      are = first;
      writable = writable_at tree.structs.now cell.structure structure are.writable stands;
      sized = targets_sized tree.structs.now tree.cells.now k cell is structure stands;
      each = λ index element there to refers.
          let same = one_at tree.structs.now cell.structure structure is.structure stands is.stands in
          let t = is.each index element to (subst (λ (s : Structure). slice_get s.elements index ≡ Some element) same there) refers in
          record { cell = t.cell; is = t.is; structure = t.structure; stands = t.stands; named = t.named };
    } in
    subst (λ (l : List Element). HasContent tree k l targets) (sym es) (subst (λ (l : List ℕ). HasContent tree k structure.elements l) (sym ts) own)
