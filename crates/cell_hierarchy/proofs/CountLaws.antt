-- SaturatedCounts of what stands below the top.
use Rattle.std.proofs.Common.{◌≡◌, ℕ, zero, suc, ◌+◌, ◌^◌, ◌≤◌, Bool, List, [], ◌∷◌, ◌++◌, length, get_or, drop, Some, refl, sym, ap, subst, ◌∙◌, append_assoc, arith}
use Rattle.std.specs.Prelude.{min, slice_get}
use Rattle.std.proofs.lemmas.List.{append-nil, drop_all, length-map}
use Rattle.std.proofs.lemmas.Option.{same_Some, slice_get_read, slice_get_within}
use Rattle.or_geom.specs.declared.shape.Point.{Point}
use Rattle.or_geom.proofs.ListLaws.{rest_at}
use Rattle.gds_library.specs.declared.library.Structure.{Structure}
use Rattle.tech_rules.specs.declared.tech.Layer.{Layer}
use Rattle.element_drawing.specs.PlainLabel.{PlainLabel}
use Rattle.element_drawing.specs.OwnLabels.{own_labels}
use Rattle.cell_chains.specs.declared.cell.Cell.{Cell}
use Rattle.cell_hierarchy.specs.declared.counts.SaturatedCounts.{SaturatedCounts}
use Rattle.cell_hierarchy.specs.declared.parts.CellPart.{CellPart}
use Rattle.cell_hierarchy.specs.Counts.{AreOwnCounts, AreAllOwnCounts}
use Rattle.cell_hierarchy.specs.Drawings.{AreAllCells, AreCellParts}
use Rattle.cell_hierarchy.specs.Settled.{AreCountsOf}

-- what a cell draws itself is counted
pub own_counted : (layers : List Layer) (kept : Bool) (structs : List Structure) (cells : List Cell) (parts : List CellPart) (k : ℕ) (cell : Cell) (part : CellPart) (counts : SaturatedCounts) → AreAllCells structs cells
    → AreCellParts layers kept structs cells (length cells) parts → slice_get cells k ≡ Some cell → part ≡ get_or parts k part → AreCountsOf part counts → AreOwnCounts layers structs cell counts
own_counted layers kept structs cells parts k cell part counts all p at read c =
    let is = all.each k cell at in
    let sized = p.sized in
    let lt = slice_get_within cells k cell at in
    let got = slice_get_read parts _ k part refl (omega (arith, lt, sized)) read in
    let d = (p.each k cell is.structure part at is.stands got).drawn in
    let labels = own_labels layers is.structure.elements in
    let same : length part.own.points.items ≡ length labels = ap (λ (ps : List Point). length ps) d.points ∙ length-map labels (λ (label : PlainLabel). label.at) in
    record {
      structure = is.structure;
      stands = is.stands;
      total = record { shapes = length part.own.shapes.items; labels = length labels };
      is = record { shapes = part.own.shapes.items; drawn = d.shapes; shape_count = refl; label_count = refl };
      standing = record { shapes = c.shapes; labels = c.labels ∙ ap (λ (n : ℕ). min n (2 ^ 32)) same };
    }

read_got : {X : Type 0} (xs : List X) (k : ℕ) (x : X) → slice_get xs k ≡ Some x → x ≡ get_or xs k x
read_got [] k x is = absurd cc
read_got (y ∷ ys) zero x is = same_Some x y (sym is)
read_got (y ∷ ys) (suc k) x is = read_got ys k x is

rest_got : {X : Type 0} (xs : List X) (k : ℕ) (x : X) → slice_get xs k ≡ Some x → drop k xs ≡ x ∷ drop (k + 1) xs
rest_got xs k x is = rest_at xs k x (slice_get_within xs k x is) (read_got xs k x is)

-- so far in a loop over the cells
pub record AreOwnCountedTo (layers : List Layer) (structs : List Structure) (cells : List Cell) (i : ℕ) (counts : List SaturatedCounts) : Type 0 where
  pub completes : (more : List SaturatedCounts) → AreAllOwnCounts layers structs (drop i cells) more → AreAllOwnCounts layers structs cells (counts ++ more)

pub counts_begin : (layers : List Layer) (structs : List Structure) (cells : List Cell) (counts : List SaturatedCounts) → counts ≡ [] → AreOwnCountedTo layers structs cells 0 counts
counts_begin layers structs cells counts is = record { completes = λ more a. subst (λ (l : List SaturatedCounts). AreAllOwnCounts layers structs cells (l ++ more)) (sym is) a }

pub counts_go_on : (layers : List Layer) (structs : List Structure) (cells : List Cell) (i : ℕ) (cell : Cell) (own : SaturatedCounts) (counts next : List SaturatedCounts) → slice_get cells i ≡ Some cell → next ≡ counts ++ own ∷ []
    → AreOwnCounts layers structs cell own → AreOwnCountedTo layers structs cells i counts → AreOwnCountedTo layers structs cells (i + 1) next
counts_go_on layers structs cells i cell own counts next is pushed here so_far = record {
  completes = λ more a.
      let cut : drop i cells ≡ cell ∷ drop (i + 1) cells = rest_got cells i cell is in
      let both : AreAllOwnCounts layers structs (cell ∷ drop (i + 1) cells) (own ∷ more) = (here, a) in
      let all = so_far.completes (own ∷ more) (subst (λ (l : List Cell). AreAllOwnCounts layers structs l (own ∷ more)) (sym cut) both) in
      let same : next ++ more ≡ counts ++ (own ∷ more) = ap (λ (l : List SaturatedCounts). l ++ more) pushed ∙ append_assoc counts (own ∷ []) more in
      subst (λ (l : List SaturatedCounts). AreAllOwnCounts layers structs cells l) (sym same) all;
}

pub counts_end : (layers : List Layer) (structs : List Structure) (cells : List Cell) (i : ℕ) (counts : List SaturatedCounts) → length cells ≤ i → AreOwnCountedTo layers structs cells i counts → AreAllOwnCounts layers structs cells counts
counts_end layers structs cells i counts le so_far =
    subst (λ (l : List SaturatedCounts). AreAllOwnCounts layers structs cells l) (append-nil counts)
    (so_far.completes [] (subst (λ (l : List Cell). AreAllOwnCounts layers structs l []) (sym (drop_all i cells le)) tt))
