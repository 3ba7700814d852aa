-- A list of cells is finished as one library.
use Rattle.std.proofs.Common.{◌≡◌, ◌<◌, ◌<ℤ◌, List, [], ◌∷◌, ◌++◌, ℕ, ℤ, refl, sym, ap, subst, ◌∙◌}
use Rattle.std.specs.Cmp.{ranks, int_ranks}
use Rattle.std.specs.Cmp.Lexicographic.{slice_cmp}
use Rattle.std.specs.Ordering.{ordering_then, nat_cmp, int_cmp, MatchOrdering}
use Rattle.std.specs.declared.cmp.Ordering.{Ordering}
use Rattle.std.specs.declared.cmp.Ordering.TheVariants.{Less, Equal, Greater}
use Rattle.or_geom.specs.declared.shape.Rect.{Rect}
use Rattle.or_geom.specs.declared.shape.Shape.{Shape}
use Rattle.or_geom.specs.ShapeOrder.{rect_order, shape_order}
use Rattle.or_geom.proofs.PlaceLaws.{same_rect}
use Rattle.or_geom.proofs.ShapeOrderLaws.{shape_total}
use Rattle.gds_library.specs.declared.library.Structure.{Structure}
use Rattle.gds_library.specs.declared.library.Library.{Library}
use Rattle.tech_rules.specs.declared.tech.Layer.{Layer}
use Rattle.cell_builder.specs.declared.cell.PlacedLabel.{PlacedLabel}
use Rattle.cell_builder.specs.declared.cell.DrawnCell.{DrawnCell}
use Rattle.cell_builder.specs.CellList.{CellList}
use Rattle.cell_builder.specs.Finish.{IsInOrder, AreFinished, IsMade, IsLibraryOf}
use Rattle.cell_builder.specs.LabelOrder.{text_order, text_total}
use Rattle.cell_builder.specs.Structures.{structure_of}
use Rattle.macro_laws.proofs.SortedLaws.{one_in_order}

-- What compares as equal is one thing.

then_equal : (a b : Ordering) → ordering_then a b ≡ Equal → (a ≡ Equal) × (b ≡ Equal)
then_equal Less b e = cc
then_equal Equal b e = (refl, e)
then_equal Greater b e = cc

one_natural : (m n : ℕ) → nat_cmp m n ≡ Equal → m ≡ n
one_natural m n e = subst (λ (o : Ordering). MatchOrdering o (m < n) (m ≡ n) (n < m)) e (ranks m n)

one_integer : (m n : ℤ) → int_cmp m n ≡ Equal → m ≡ n
one_integer m n e = subst (λ (o : Ordering). MatchOrdering o (m <ℤ n) (m ≡ n) (n <ℤ m)) e (int_ranks m n)

one_text : (xs ys : List ℕ) → slice_cmp nat_cmp xs ys ≡ Equal → xs ≡ ys
one_text [] [] e = refl
one_text [] (y ∷ ys) e = cc
one_text (x ∷ xs) [] e = cc
one_text (x ∷ xs) (y ∷ ys) e =
    let both = then_equal (nat_cmp x y) (slice_cmp nat_cmp xs ys) e in
    let first = one_natural x y both.0 in
    let rest = one_text xs ys both.1 in
    λ i. first i ∷ rest i

one_rect : (r s : Rect) → rect_order r s ≡ Equal → r ≡ s
one_rect r s e =
    let a = then_equal (int_cmp r.x1 s.x1) _ e in
    let b = then_equal (int_cmp r.y1 s.y1) _ a.1 in
    let c = then_equal (int_cmp r.x2 s.x2) _ b.1 in
    same_rect r s (one_integer r.x1 s.x1 a.0) (one_integer r.y1 s.y1 b.0) (one_integer r.x2 s.x2 c.0) (one_integer r.y2 s.y2 c.1)

one_shape : (s t : Shape) → shape_order s t ≡ Equal → s ≡ t
one_shape s t e =
    let both = then_equal (nat_cmp s.layer t.layer) (rect_order s.rect t.rect) e in
    let layer = one_natural s.layer t.layer both.0 in
    let rect = one_rect s.rect t.rect both.1 in
    λ i. record { layer = layer i; rect = rect i }

one_label : (a b : PlacedLabel) → text_order a b ≡ Equal → a ≡ b
one_label a b e =
    let first = then_equal (slice_cmp nat_cmp a.text b.text) _ e in
    let second = then_equal (nat_cmp a.layer b.layer) _ first.1 in
    let third = then_equal (int_cmp a.at.x b.at.x) (int_cmp a.at.y b.at.y) second.1 in
    let text = one_text a.text b.text first.0 in
    let layer = one_natural a.layer b.layer second.0 in
    let x = one_integer a.at.x b.at.x third.0 in
    let y = one_integer a.at.y b.at.y third.1 in
    λ i. record { layer = layer i; at = record { x = x i; y = y i }; text = text i }

-- A cell in order is one, and so is the library of a list of cells.

one_order : (cell a b : DrawnCell) → IsInOrder cell a → IsInOrder cell b → a ≡ b
one_order cell a b p q =
    let name = p.name ∙ sym q.name in
    let instances = p.instances ∙ sym q.instances in
    let wires = one_in_order shape_order shape_total one_shape cell.wires a.wires b.wires p.wires_same q.wires_same p.wires_rise q.wires_rise in
    let labels = one_in_order text_order text_total one_label cell.labels a.labels b.labels p.labels_same q.labels_same p.labels_rise q.labels_rise in
    λ i. record { name = name i; instances = instances i; wires = wires i; labels = labels i }

one_finished : (layers : List Layer) (cells : List DrawnCell) (ss ts : List Structure) → AreFinished layers cells ss → AreFinished layers cells ts → ss ≡ ts
one_finished layers [] ss ts p q = p ∙ sym q
one_finished layers (c ∷ cells) [] ts p q = absurd p
one_finished layers (c ∷ cells) (s ∷ ss) [] p q = absurd q
one_finished layers (c ∷ cells) (s ∷ ss) (t ∷ ts) p q =
    let first = p.0.is ∙ ap (structure_of layers) (one_order c p.0.sorted q.0.sorted p.0.order q.0.order) ∙ sym q.0.is in
    let rest = one_finished layers cells ss ts p.1 q.1 in
    λ i. first i ∷ rest i

one_made : (layers : List Layer) (adopted : List Structure) (cells : List DrawnCell) (ss ts : List Structure) → IsMade layers adopted cells ss → IsMade layers adopted cells ts → ss ≡ ts
one_made layers adopted cells ss ts p q = p.parts ∙ ap (λ (made : List Structure). adopted ++ made) (one_finished layers cells p.made q.made p.each q.each) ∙ sym q.parts

pub one_library : (layers : List Layer) (list : CellList) (name : List ℕ) (a b : Library) → IsLibraryOf layers list name a → IsLibraryOf layers list name b → a ≡ b
one_library layers list name a b p q =
    let named = p.named ∙ sym q.named in
    let structs = one_made layers list.adopted list.cells a.structs b.structs p.structs q.structs in
    λ i. record { name = named i; structs = structs i }
