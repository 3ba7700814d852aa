use Rattle.std.proofs.Common.{◌∙◌, sym, subst, ◌^◌, ℤ, w32, FitsSigned}
use Rattle.or_geom.specs.declared.place.Place.{Place}
use Rattle.or_geom.specs.Place.{IsWithin}
use Rattle.cell_hierarchy.proofs.StepLaws.{way_seen, short_seen, end_seen, kept}
use Rattle.leaf_contacts.proofs.ArrayLaws.{across_x, across_y, down_x, down_y, end_x, end_y, near_in, place_is}
use Rattle.leaf_contacts.proofs.references.place_at.Goals as goal

pub end_of-across_x-requires-clause-way : goal.end_of-across_x-requires-clause-way
end_of-across_x-requires-clause-way c = way_seen _ _ (across_x c.args.grid.now c.args.column c.requires.writable c.requires.column)

pub end_of-across_y-requires-clause-way : goal.end_of-across_y-requires-clause-way
end_of-across_y-requires-clause-way c = way_seen _ _ (across_y c.args.grid.now c.args.column c.requires.writable c.requires.column)

pub end_of-x-requires-clause-from : goal.end_of-x-requires-clause-from
end_of-x-requires-clause-from c =
    let e = end_seen c.args.grid.now.place.at.x c.args.column c.args.grid.now.across.x c.end_of-across_x.result c.requires.writable.at.x (across_x c.args.grid.now c.args.column c.requires.writable c.requires.column) c.end_of-across_x.ensures in
    short_seen _ (subst (λ (m : ℤ). FitsSigned w32 m) (sym e) (end_x c.args.grid.now c.args.column c.requires.writable c.requires.column))

pub end_of-x-requires-clause-way : goal.end_of-x-requires-clause-way
end_of-x-requires-clause-way c = way_seen _ _ (down_x c.args.grid.now c.args.row c.requires.writable c.requires.row)

pub end_of-y-requires-clause-from : goal.end_of-y-requires-clause-from
end_of-y-requires-clause-from c =
    let e = end_seen c.args.grid.now.place.at.y c.args.column c.args.grid.now.across.y c.end_of-across_y.result c.requires.writable.at.y (across_y c.args.grid.now c.args.column c.requires.writable c.requires.column) c.end_of-across_y.ensures in
    short_seen _ (subst (λ (m : ℤ). FitsSigned w32 m) (sym e) (end_y c.args.grid.now c.args.column c.requires.writable c.requires.column))

pub end_of-y-requires-clause-way : goal.end_of-y-requires-clause-way
end_of-y-requires-clause-way c = way_seen _ _ (down_y c.args.grid.now c.args.row c.requires.writable c.requires.row)

pub returns : goal.returns
returns c =
    let ax = end_seen c.args.grid.now.place.at.x c.args.column c.args.grid.now.across.x c.end_of-across_x.result c.requires.writable.at.x (across_x c.args.grid.now c.args.column c.requires.writable c.requires.column) c.end_of-across_x.ensures in
    let ay = end_seen c.args.grid.now.place.at.y c.args.column c.args.grid.now.across.y c.end_of-across_y.result c.requires.writable.at.y (across_y c.args.grid.now c.args.column c.requires.writable c.requires.column) c.end_of-across_y.ensures in
    let fx = subst (λ (m : ℤ). FitsSigned w32 m) (sym ax) (end_x c.args.grid.now c.args.column c.requires.writable c.requires.column) in
    let fy = subst (λ (m : ℤ). FitsSigned w32 m) (sym ay) (end_y c.args.grid.now c.args.column c.requires.writable c.requires.column) in
    let x = end_seen c.end_of-across_x.result c.args.row c.args.grid.now.down.x c.end_of-x.result fx (down_x c.args.grid.now c.args.row c.requires.writable c.requires.row) c.end_of-x.ensures in
    let y = end_seen c.end_of-across_y.result c.args.row c.args.grid.now.down.y c.end_of-y.result fy (down_y c.args.grid.now c.args.row c.requires.writable c.requires.row) c.end_of-y.ensures in
    let is = place_is c.args.grid.now c.args.column c.args.row _ _ _ _ ax ay (kept c.end_of-x.result (record { sfits = c.end_of-x.type_inv }) ∙ x) (kept c.end_of-y.result (record { sfits = c.end_of-y.type_inv }) ∙ y) in
    record { is = is; near = subst (λ (p : Place). IsWithin (2 ^ 33) p.at) (sym is) (near_in c.args.grid.now c.args.column c.args.row c.requires.writable c.requires.column c.requires.row) }
