-- A cell of three instances.
use Rattle.std.proofs.Common.{◌≡◌, ℕ, ℤ, List, [], ◌∷◌, ◌++◌, ap, ◌∙◌}
use Rattle.or_geom.specs.declared.shape.Shape.{Shape}
use Rattle.cell_builder.specs.declared.cell.PlacedInstance.{PlacedInstance}
use Rattle.cell_builder.specs.declared.cell.PlacedLabel.{PlacedLabel}
use Rattle.cell_builder.specs.declared.cell.DrawnCell.{DrawnCell}
use Rattle.macro_layout.specs.Cells.{part_at}

abbrev drawn_of : List ℕ → List PlacedInstance → List Shape → List PlacedLabel → DrawnCell
drawn_of name instances wires labels = record { name = name; instances = instances; wires = wires; labels = labels }

pub drawn_is : (n m : List ℕ) (i j : List PlacedInstance) (v w : List Shape) (k l : List PlacedLabel) → n ≡ m → i ≡ j → v ≡ w → k ≡ l → drawn_of n i v k ≡ drawn_of m j w l
drawn_is n m i j v w k l name instances wires labels =
    ap (λ (x : List ℕ). drawn_of x i v k) name ∙ (ap (λ (x : List PlacedInstance). drawn_of m x v k) instances
    ∙ (ap (λ (x : List Shape). drawn_of m j x k) wires ∙ ap (λ (x : List PlacedLabel). drawn_of m j w x) labels))

pub part_same : (i : PlacedInstance) (name of : List ℕ) (x y u v : ℤ) → i ≡ part_at name of x y → x ≡ u → y ≡ v → i ≡ part_at name of u v
part_same i name of x y u v is left low = is ∙ (ap (λ (z : ℤ). part_at name of z y) left ∙ ap (λ (z : ℤ). part_at name of u z) low)

pub three_are : (none one two all : List PlacedInstance) (a b d x y z : PlacedInstance) → none ≡ [] → one ≡ none ++ a ∷ [] → two ≡ one ++ b ∷ [] → all ≡ two ++ d ∷ [] → a ≡ x → b ≡ y → d ≡ z → all ≡ x ∷ y ∷ z ∷ []
three_are none one two all a b d x y z empty first second third is_a is_b is_d =
    third ∙ (ap (λ (l : List PlacedInstance). l ++ d ∷ []) (second ∙ ap (λ (l : List PlacedInstance). l ++ b ∷ []) (first ∙ ap (λ (l : List PlacedInstance). l ++ a ∷ []) empty))
    ∙ (ap (λ (i : PlacedInstance). i ∷ b ∷ d ∷ []) is_a ∙ (ap (λ (i : PlacedInstance). x ∷ i ∷ d ∷ []) is_b ∙ ap (λ (i : PlacedInstance). x ∷ y ∷ i ∷ []) is_d)))
