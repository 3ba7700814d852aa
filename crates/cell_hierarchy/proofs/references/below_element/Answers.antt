-- The target of a reference has counts, and they stand for what each item has.
use Rattle.std.proofs.Common.{◌<◌, length, refl, subst, sym, rules, w16, FitsSigned}
use Rattle.std.proofs.lemmas.Int.{to_z-of_z}
use Rattle.gds_library.specs.declared.library.Element.{Element}
use Rattle.cell_hierarchy.specs.CountsBelow.{IsBelowElement}
use Rattle.cell_hierarchy.specs.Counts.{Total, IsSaturated}
use Rattle.cell_hierarchy.proofs.CountsBelowLaws.{read_saturated}
use Rattle.cell_hierarchy.proofs.references.below_element.Goals as goal

pub offset_bounds-counts-target : goal.offset_bounds-counts-target
offset_bounds-counts-target c = let lt : c.args.target < length c.args.counts.now = c.requires c.in-Sref.name (rw c.in-Sref.is refl) in search rules

pub bounds-counts-target : goal.bounds-counts-target
bounds-counts-target c = c.requires c.in-Sref.name (rw c.in-Sref.is refl)

pub offset_bounds-counts-target-in-Aref : goal.offset_bounds-counts-target-in-Aref
offset_bounds-counts-target-in-Aref c = let lt : c.args.target < length c.args.counts.now = c.requires c.in-Aref.name (rw c.in-Aref.is refl) in search rules

pub bounds-counts-target-in-Aref : goal.bounds-counts-target-in-Aref
bounds-counts-target-in-Aref c = c.requires c.in-Aref.name (rw c.in-Aref.is refl)

pub returns-in-Sref : goal.returns-in-Sref
returns-in-Sref c = λ total h. read_saturated c.args.counts.now c.args.target total _ (subst (λ (e : Element). IsBelowElement c.args.counts.now c.args.target e total) c.in-Sref.is h)

pub returns-in-Aref : goal.returns-in-Aref
returns-in-Aref c = λ total h.
    let fits_columns : FitsSigned w16 c.in-Aref.columns = search rules in
    let fits_rows : FitsSigned w16 c.in-Aref.rows = search rules in
    let known = rw (to_z-of_z w16 c.in-Aref.columns fits_columns, to_z-of_z w16 c.in-Aref.rows fits_rows) at c.array_of.ensures in
    let b = subst (λ (e : Element). IsBelowElement c.args.counts.now c.args.target e total) c.in-Aref.is h in
    subst (λ (t : Total). IsSaturated t c.array_of.result) (sym b.2) (known b.0 (read_saturated c.args.counts.now c.args.target b.0 _ b.1))
