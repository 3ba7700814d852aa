use Rattle.std.proofs.Common.{ap}
use Rattle.std.proofs.lemmas.Result.{on_ok_weaker}
use Rattle.cell_chains.specs.Hierarchy.{referred_name}
use Rattle.cell_hierarchy.specs.Below.{SomeBelow}
use Rattle.leaf_contacts.specs.declared.references.Grid.{Grid}
use Rattle.leaf_contacts.specs.Stands.{IsGridItem, IsLiveReference}
use Rattle.leaf_contacts.proofs.ArrayLaws.{whole_abs}
use Rattle.leaf_contacts.proofs.BelowLaws.{below_as, below_one}
use Rattle.leaf_contacts.proofs.ReferenceLaws.{array_writable, grid_is, live_item, reference_to, single_at, single_once}
use Rattle.leaf_contacts.proofs.references.add_element.Goals as goal

pub returns-in_ok-push-in-Sref : goal.returns-in_ok-push-in-Sref
returns-in_ok-push-in-Sref c chain name is end =
    let element = c.requires.element in
    below_one c.args.tree.now chain (IsLiveReference c.args.tree.now name c.args.entry.now.index) c.args.out.now.items _ (reference_to c.args.entry.now.index 0 0 c.in-Sref.name c.in-Sref.place) c.in_ok-made-in-Sref.made c.in_ok-push-in-Sref.ensures.items
    (c.in_ok-made-in-Sref.ensures chain (reference_to c.args.entry.now.index 0 0 c.in-Sref.name c.in-Sref.place) is
    (single_at c.args.tree.now c.args.outer.now.cell c.args.entry.now.index c.in-Sref.name c.in-Sref.place c.in-Sref.props c.args.entry.now.target c.args.entry.now.element.now element c.in-Sref.is))
    (λ q live. single_once c.args.tree.now c.args.outer.now.cell c.args.entry.now.index c.in-Sref.name c.in-Sref.place c.in-Sref.props c.args.entry.now.target c.args.entry.now.element.now name q element c.in-Sref.is end live)

pub add_array-requires-clause-grid : goal.add_array-requires-clause-grid
add_array-requires-clause-grid c =
    let a = c.in-Aref in
    let element = c.requires.element in
    let w = array_writable c.args.entry.now.element.now a.name a.place a.columns a.rows a.across a.down a.props element.writable a.is in
    grid_is c.args.tree.now c.args.outer.now.cell c.args.entry.now.index c.args.entry.now.element.now c.args.entry.now.target a.name a.place a.columns a.rows a.across a.down a.props _ _ element a.is (whole_abs a.columns _ w.some_columns w.few_columns c.unsigned_abs.ensures.value)
    (whole_abs a.rows _ w.some_rows w.few_rows c.unsigned_abs-in-Aref.ensures.value)

pub returns-else-not-counts_at-2 : goal.returns-else-not-counts_at-2
returns-else-not-counts_at-2 c =
    let a = c.in-Aref in
    let element = c.requires.element in
    let w = array_writable c.args.entry.now.element.now a.name a.place a.columns a.rows a.across a.down a.props element.writable a.is in
    let grid : Grid = record { element = c.args.entry.now.index; target = c.args.entry.now.target; place = a.place; columns = c.unsigned_abs.result; rows = c.unsigned_abs-in-Aref.result; across = a.across; down = a.down } in
    on_ok_weaker c.add_array.result
    (λ adds chain name is end. below_as c.args.tree.now chain (SomeBelow (λ column. SomeBelow (IsGridItem grid a.name column) grid.rows) grid.columns) (IsLiveReference c.args.tree.now name c.args.entry.now.index) c.args.out.now.items _
    (λ q live. live_item c.args.tree.now c.args.outer.now.cell grid a.name name a.props a.columns a.rows c.args.entry.now.element.now q element a.is (whole_abs a.columns _ w.some_columns w.few_columns c.unsigned_abs.ensures.value)
    (whole_abs a.rows _ w.some_rows w.few_rows c.unsigned_abs-in-Aref.ensures.value) end live)
    (adds chain a.name is (element.leads a.name (ap referred_name a.is))))
    c.add_array.ensures
