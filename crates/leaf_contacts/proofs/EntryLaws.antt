-- Entries are the shapes at the ends of chains, each with the instance in which it stands.
use Rattle.std.proofs.Common.{◌≡◌, ℕ, List, ◌++◌, map, Option, Some, None, sym, ap, subst, ◌∙◌, arith}
use Rattle.std.specs.Prelude.{Contains}
use Rattle.std.specs.Option.{option_copied}
use Rattle.std.proofs.lemmas.Option.{same_Some}
use Rattle.or_geom.specs.declared.shape.Shape.{Shape}
use Rattle.or_geom.specs.Place.{placed}
use Rattle.gds_library.specs.declared.library.Element.{Element}
use Rattle.element_drawing.specs.OwnShapes.{AreOwnShapes}
use Rattle.cell_chains.specs.Chains.{elements_of, IsSound}
use Rattle.cell_hierarchy.specs.FlatSet.{IsMoved}
use Rattle.cell_hierarchy.proofs.CellLaws.{writable_at}
use Rattle.leaf_contacts.proofs.FarLaws.{moved_once}
use Rattle.cell_hierarchy.proofs.OneSetLaws.{one_set}
use Rattle.leaf_contacts.specs.Contact.{leaf_cell_names}
use Rattle.leaf_contacts.specs.declared.cells.ReachedCells.{ReachedCells}
use Rattle.leaf_contacts.specs.declared.stand.Stand.{Stand}
use Rattle.leaf_contacts.specs.declared.stand.ReferenceStep.{ReferenceStep}
use Rattle.leaf_contacts.specs.Chains.{Reference, IsMovedAlong, StandsAtEnd, IsInstance, point_along}
use Rattle.leaf_contacts.specs.Marks.{AreAllEntries, ShapeEntry, shape_entry}
use Rattle.leaf_contacts.specs.Stands.{AreStandsBelow, IsInInstance, IsStandOf, AreReachedCells, reference_step}
use Rattle.leaf_contacts.proofs.CellLaws.{elements_are, has_summary, summary_at}
use Rattle.leaf_contacts.proofs.ChainLaws.{chain_once, instance_leads, instance_once, leads_once, no_instance}
use Rattle.leaf_contacts.proofs.CountLaws.{drawn_counts}
use Rattle.leaf_contacts.proofs.ItemLaws.{chain_short, image_as}

-- a shape moved along a chain, and moved to where the chain's end stands
pub along_moved : (tree : ReachedCells) (chain : List Reference) (stand : Stand) (inner s : Shape) → IsStandOf tree chain stand → IsMovedAlong chain inner s → IsMoved stand.place inner s
along_moved tree chain stand inner s is m = record { layer = m.layer; image = image_as (placed stand.place) (point_along chain) inner.rect s.rect is.place m.image }

pub moved_along : (tree : ReachedCells) (chain : List Reference) (stand : Stand) (inner s : Shape) → IsStandOf tree chain stand → IsMoved stand.place inner s → IsMovedAlong chain inner s
moved_along tree chain stand inner s is m = record { layer = m.layer; image = image_as (point_along chain) (placed stand.place) inner.rect s.rect (λ p. sym (is.place p)) m.image }

-- all stands below the top, and the entries of all that is drawn there
pub record IsEntered (tree : ReachedCells) (stands : List Stand) (entries : List ShapeEntry) : Type 0 where
  pub tree_is : AreReachedCells tree
  pub sound : IsSound tree.structs.now tree.top.now
  pub stands_are : AreStandsBelow tree 33 stands
  pub entries_are : AreAllEntries tree stands entries

-- the chain at whose end an entry's shape stands
pub record StandsFor (tree : ReachedCells) (e : ShapeEntry) : Type 0 where
  pub chain : List Reference
  pub stands : StandsAtEnd tree.layers.now tree.structs.now tree.top.now chain e.shape
  pub within : IsInInstance (leaf_cell_names tree.leaves.now) tree.structs.now tree.top.now chain e.instance

pub entry_stands : (tree : ReachedCells) (stands : List Stand) (entries : List ShapeEntry) (e : ShapeEntry) → IsEntered tree stands entries → Contains entries e → StandsFor tree e
entry_stands tree stands entries e all h =
    let i = all.entries_are.each e h in
    let c = all.stands_are.each i.stand i.listed in
    let at = c.1 in
    let summary = summary_at tree i.stand.cell at.name i.summary all.tree_is at.cell i.there in
    record {
      chain = c.0;
      stands = record {
        end = at.name;
        leads = at.leads;
        inner = i.of.inner;
        own = record { shapes = i.summary.shapes.items; drawn = subst (λ (es : List Element). AreOwnShapes tree.layers.now es i.summary.shapes.items) (sym (elements_are tree i.stand.cell at.name all.tree_is at.cell)) summary.shapes; among = i.of.listed };
        moved = moved_along tree c.0 i.stand i.of.inner e.shape at i.of.moved;
      };
      within = subst (IsInInstance (leaf_cell_names tree.leaves.now) tree.structs.now tree.top.now c.0) (sym i.of.is) at.instance;
    }

-- and the other way round
pub record IsEntryFor (tree : ReachedCells) (entries : List ShapeEntry) (chain : List Reference) (s : Shape) : Type 0 where
  pub instance : Option (List ReferenceStep)
  pub listed : Contains entries (shape_entry s instance)
  pub within : IsInInstance (leaf_cell_names tree.leaves.now) tree.structs.now tree.top.now chain instance

pub stands_entry : (tree : ReachedCells) (stands : List Stand) (entries : List ShapeEntry) (chain : List Reference) (s : Shape) → IsEntered tree stands entries → StandsAtEnd tree.layers.now tree.structs.now tree.top.now chain s → IsEntryFor tree entries chain s
stands_entry tree stands entries chain s all at =
    let short = chain_short tree.structs.now tree.top.now chain at.end all.sound at.leads in
    let st = all.stands_are.all chain at.end (omega (arith, short)) at.leads (drawn_counts tree at.end at.inner all.tree_is at.own) in
    let same = leads_once tree.structs.now tree.top.now chain at.end st.is.name at.leads st.is.leads in
    let p = has_summary tree st.stand.cell st.is.name all.tree_is st.is.cell in
    let own : AreOwnShapes tree.layers.now st.is.cell.structure.elements at.own.shapes =
    subst (λ (es : List Element). AreOwnShapes tree.layers.now es at.own.shapes) (ap (elements_of tree.structs.now) same ∙ elements_are tree st.stand.cell st.is.name all.tree_is st.is.cell) at.own.drawn in
    let writable = writable_at tree.structs.now st.is.cell.cell.structure st.is.cell.structure all.tree_is.writable st.is.cell.stands in
    let among = one_set tree.layers.now st.is.cell.structure.elements at.own.shapes p.summary.shapes.items writable own p.is.shapes at.inner at.own.among in
    let e = all.entries_are.all st.stand p.summary at.inner st.listed p.there among in
    let shape = moved_once st.stand.place at.inner e.e.shape s e.moved (along_moved tree chain st.stand at.inner s st.is at.moved) in
    record {
      instance = option_copied st.stand.instance;
      listed = subst (Contains entries) (λ i. record { shape = shape i; instance = e.is i }) e.listed;
      within = st.is.instance;
    }

-- what lies in an instance, by its steps
pub in_instance : (tree : ReachedCells) (chain inner : List Reference) (to : List ℕ) (o : Option (List ReferenceStep)) → IsInstance (leaf_cell_names tree.leaves.now) tree.structs.now tree.top.now inner to → IsInInstance (leaf_cell_names tree.leaves.now) tree.structs.now tree.top.now chain o
    → o ≡ Some (map reference_step inner) → (rest : List Reference) × (chain ≡ inner ++ rest)
in_instance tree chain inner to None instance within same = absurd (cc)
in_instance tree chain inner to (Some steps) instance within same =
    let one = chain_once tree.structs.now tree.top.now within.inner inner within.to to (instance_leads (leaf_cell_names tree.leaves.now) tree.structs.now tree.top.now within.inner within.to within.instance) (instance_leads (leaf_cell_names tree.leaves.now) tree.structs.now tree.top.now inner to instance)
    (sym within.told ∙ same_Some _ _ same) in
    (within.rest, within.is ∙ ap (λ (c : List Reference). c ++ within.rest) one)

-- what goes on from an instance lies in it
pub from_instance : (tree : ReachedCells) (chain inner rest : List Reference) (to : List ℕ) (o : Option (List ReferenceStep)) → IsInstance (leaf_cell_names tree.leaves.now) tree.structs.now tree.top.now inner to → chain ≡ inner ++ rest
    → IsInInstance (leaf_cell_names tree.leaves.now) tree.structs.now tree.top.now chain o → o ≡ Some (map reference_step inner)
from_instance tree chain inner rest to None instance is within = absurd (no_instance (leaf_cell_names tree.leaves.now) tree.structs.now tree.top.now chain inner rest to is within instance)
from_instance tree chain inner rest to (Some steps) instance is within =
    let one = instance_once (leaf_cell_names tree.leaves.now) tree.structs.now tree.top.now within.inner inner within.rest rest within.to to (sym within.is ∙ is) within.instance instance in
    ap Some (within.told ∙ ap (map reference_step) one)
