-- Each structure has a total.
use Rattle.std.proofs.Common.{ℕ, zero, suc, ◌*◌, List, [], ◌∷◌, length, refl}
use Rattle.std.specs.Prelude.{nat_abs}
use Rattle.std.specs.List.{AllByRecursion}
use Rattle.gds_library.specs.declared.library.Element.{Element}
use Rattle.gds_library.specs.declared.library.Element.TheVariants.{Boundary, Path, Sref, Aref, Text}
use Rattle.gds_library.specs.declared.library.Structure.{Structure}
use Rattle.gds_library.specs.Writable.{IsWritableElement, IsWritableCell}
use Rattle.tech_rules.specs.declared.tech.Layer.{Layer}
use Rattle.element_drawing.specs.OwnLabels.{own_labels}
use Rattle.cell_chains.specs.Chains.{elements_of}
use Rattle.cell_chains.proofs.ChainLaws.{writable_elements}
use Rattle.cell_hierarchy.specs.Counts.{Total, none, sum, times, IsOwnTotal, IsBelow, IsTotalWithin}
use Rattle.flat_answers.proofs.DrawnLaws.{shapes_there}

own_total : (layers : List Layer) (es : List Element) → AllByRecursion IsWritableElement es → (total : Total) × IsOwnTotal layers es total
own_total layers es w =
    let drawn = shapes_there layers es w in (
      record { shapes = length drawn.0; labels = length (own_labels layers es) },
      record { shapes = drawn.0; drawn = drawn.1; shape_count = refl; label_count = refl },
    )

below_there : (IsTotal : List ℕ → Total → Type 0) → ((name : List ℕ) → (total : Total) × IsTotal name total) → (es : List Element)
    → (total : Total) × IsBelow IsTotal es total
below_there IsTotal each [] = (none, refl)
below_there IsTotal each (Boundary layer datatype points props ∷ es) = below_there IsTotal each es
below_there IsTotal each (Path layer datatype kind width points props ∷ es) = below_there IsTotal each es
below_there IsTotal each (Sref name place props ∷ es) =
    let one = each name in
    let rest = below_there IsTotal each es in
    (sum one.0 rest.0, (one.0, rest.0, one.1, rest.1, refl))
below_there IsTotal each (Aref name place columns rows across down props ∷ es) =
    let one = each name in
    let rest = below_there IsTotal each es in
    (sum (times (nat_abs columns * nat_abs rows) one.0) rest.0, (one.0, rest.0, one.1, rest.1, refl))
below_there IsTotal each (Text layer texttype at string props ∷ es) = below_there IsTotal each es

pub total_there : (depth : ℕ) (layers : List Layer) (structs : List Structure) (name : List ℕ) → AllByRecursion IsWritableCell structs
    → (total : Total) × IsTotalWithin depth layers structs name total
total_there zero layers structs name w = own_total layers (elements_of structs name) (writable_elements structs name w)
total_there (suc depth) layers structs name w =
    let own = own_total layers (elements_of structs name) (writable_elements structs name w) in
    let below = below_there (IsTotalWithin depth layers structs) (λ cell. total_there depth layers structs cell w) (elements_of structs name) in
    (sum own.0 below.0, (own.0, below.0, own.1, below.1, refl))
