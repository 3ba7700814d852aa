-- The answer for a whole layout.
use Rattle.std.proofs.Common.{◌≡◌, ◌↔◌, ℕ, List, length, Bool, Option, sym, ap, subst, ◌∙◌}
use Rattle.std.specs.Prelude.{IsTrue}
use Rattle.std.specs.List.{AllByRecursion}
use Rattle.or_geom.specs.declared.shape.Shape.{Shape}
use Rattle.or_geom.specs.Gathering.{SomeHas}
use Rattle.gds_library.specs.declared.library.Structure.{Structure}
use Rattle.gds_library.specs.Writable.{IsWritableCell}
use Rattle.tech_rules.specs.declared.tech.Layer.{Layer}
use Rattle.tech_rules.specs.declared.tech.Tech.{Tech}
use Rattle.cell_chains.specs.declared.cell.Cell.{Cell}
use Rattle.cell_chains.specs.Hierarchy.{AreCells}
use Rattle.cell_hierarchy.specs.FlatLists.{AreFlatShapes}
use Rattle.leaf_contacts.specs.Contact.{HasLooseContact, leaf_cell_names}
use Rattle.leaf_contacts.specs.declared.cells.CellSummary.{CellSummary}
use Rattle.leaf_contacts.specs.declared.cells.ReachedCells.{ReachedCells}
use Rattle.leaf_contacts.specs.declared.contact.MarkedLayout.{MarkedLayout}
use Rattle.leaf_contacts.specs.declared.marks.Mark.{Mark}
use Rattle.leaf_contacts.specs.declared.stand.Stand.{Stand}
use Rattle.leaf_contacts.specs.Marks.{AreAllEntries, AreEntriesIn, AreLayoutEntries, AreMarks, AreStandsIn, HasContactAt, ShapeEntry}
use Rattle.leaf_contacts.specs.Stands.{AreCellSummaries, AreReachedCells, AreStandsBelow}
use Rattle.leaf_contacts.proofs.ContactLaws.{contacts_are}
use Rattle.leaf_contacts.proofs.EntryLaws.{IsEntered}
use Rattle.leaf_contacts.proofs.FlatLaws.{entries_flat, stands_in}

-- the cells of a library below its top, whose flat shapes these are
pub record IsReadOf (tech : Tech) (structs : List Structure) (shapes : List Shape) (tree : ReachedCells) : Type 0 where
  pub layers : tree.layers.now ≡ tech.layers
  pub structs_are : tree.structs.now ≡ structs
  pub reached : AreReachedCells tree
  pub flat : AreFlatShapes tree.layers.now tree.structs.now tree.top.now shapes

pub read_of : (tech : Tech) (structs : List Structure) (shapes : List Shape) (tree : ReachedCells) (cells passed : List Cell) (summaries : List CellSummary) → tree.layers.now ≡ tech.layers → tree.structs.now ≡ structs → tree.cells.now ≡ cells → passed ≡ cells
    → tree.summaries.now ≡ summaries → AllByRecursion IsWritableCell structs → AreCells structs tree.top.now cells → AreCellSummaries tree.layers.now (leaf_cell_names tree.leaves.now) tree.structs.now passed (length passed) summaries
    → AreFlatShapes tech.layers structs tree.top.now shapes → IsReadOf tech structs shapes tree
read_of tech structs shapes tree cells passed summaries layers structs_are cells_are passed_are summaries_are writable below about flat =
    let layer_list = tree.layers.now in
    let names = leaf_cell_names tree.leaves.now in
    let own = tree.structs.now in
    record {
      layers = layers;
      structs_are = structs_are;
      reached = record {
        writable = subst (AllByRecursion IsWritableCell) (sym structs_are) writable;
        cells = subst (λ (ss : List Structure). AreCells ss tree.top.now tree.cells.now) (sym structs_are) (subst (AreCells structs tree.top.now) (sym cells_are) below);
        summaries = subst (λ (l : List CellSummary). AreCellSummaries layer_list names own tree.cells.now (length tree.cells.now) l) (sym summaries_are)
            (subst (λ (cs : List Cell). AreCellSummaries layer_list names own cs (length cs) summaries) (passed_are ∙ sym cells_are) about);
      };
      flat = subst (λ (ls : List Layer). AreFlatShapes ls tree.structs.now tree.top.now shapes) (sym layers) (subst (λ (ss : List Structure). AreFlatShapes tech.layers ss tree.top.now shapes) (sym structs_are) flat);
    }

pub stands_are_in : (tech : Tech) (structs : List Structure) (shapes passed : List Shape) (tree : ReachedCells) (stands list : List Stand) → IsReadOf tech structs shapes tree → AreStandsBelow tree 33 stands → list ≡ stands → passed ≡ shapes → AreStandsIn tree passed list
stands_are_in tech structs shapes passed tree stands list read below listed same =
    subst (λ (l : List Stand). AreStandsIn tree passed l) (sym listed) (subst (λ (l : List Shape). AreStandsIn tree l stands) (sym same) (stands_in tree stands shapes read.reached read.flat.sound below read.flat))

pub answer_is : (layout : MarkedLayout) (structs : List Structure) (passed : List Shape) (stands list other : List Stand) (marks : List (Option Mark)) (found : Bool) → IsReadOf layout.tech.now structs layout.bins.now layout.tree.now → AreStandsBelow layout.tree.now 33 stands
    → list ≡ stands → other ≡ stands → passed ≡ layout.bins.now → layout.marks.now ≡ marks → (entries : List ShapeEntry) × AreAllEntries layout.tree.now list entries × AreMarks passed entries marks
    → ((entries : List ShapeEntry) → AreLayoutEntries layout entries → IsTrue found ↔ SomeHas (HasContactAt layout.tech.now.connects layout.tree.now entries) other) → IsTrue found ↔ HasLooseContact layout.tech.now structs layout.tree.now.top.now layout.tree.now.leaves.now
answer_is layout structs passed stands list other marks found read below listed others same marked made told =
    let entered : IsEntered layout.tree.now stands made.0 = record { tree_is = read.reached; sound = read.flat.sound; stands_are = below; entries_are = subst (λ (l : List Stand). AreAllEntries layout.tree.now l made.0) listed made.1 } in
    let of_layout : AreLayoutEntries layout made.0 = record {
      marks = subst (AreMarks layout.bins.now made.0) (sym marked) (subst (λ (l : List Shape). AreMarks l made.0 marks) same made.2);
      listed = subst (λ (n : ℕ). AreEntriesIn n layout.bins.now made.0) (ap length read.layers) (entries_flat layout.tree.now stands made.0 layout.bins.now entered read.flat);
    } in
    let both = told made.0 of_layout in
    let are = contacts_are layout.tech.now layout.tree.now stands made.0 read.layers entered in (
      λ t. subst (λ (ss : List Structure). HasLooseContact layout.tech.now ss layout.tree.now.top.now layout.tree.now.leaves.now) read.structs_are
          (are.0 (subst (SomeHas (HasContactAt layout.tech.now.connects layout.tree.now made.0)) others (both.0 t))),
      λ h. both.1 (subst (SomeHas (HasContactAt layout.tech.now.connects layout.tree.now made.0)) (sym others)
          (are.1 (subst (λ (ss : List Structure). HasLooseContact layout.tech.now ss layout.tree.now.top.now layout.tree.now.leaves.now) (sym read.structs_are) h))),
    )
