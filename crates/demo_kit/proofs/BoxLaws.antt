-- The boxes and the pins of the demonstration kit.
use Rattle.std.proofs.Common.{◌≡◌, ℕ, pos, ◌+◌, ◌*◌, ◌<◌, ◌≤◌, List, [], ◌∷◌, ◌++◌, map, Bool, true, nat_le, nat_lt, ◌&&◌, refl, arith, rules}
use Rattle.std.proofs.lemmas.Bool.{leb-true}
use Rattle.std.proofs.lemmas.Int.{ints}
use Rattle.std.proofs.Math.Nat.{mul-le-mul_left}
use borrow.Author.Tests.{ltb-true}
use Rattle.std.specs.List.{AllByRecursion, list_all}
use Rattle.or_geom.specs.declared.shape.Rect.{Rect}
use Rattle.gds_records.specs.Values.{IsShort}
use Rattle.gds_library.specs.declared.library.Element.{Element}
use Rattle.cell_roles.specs.declared.role.Role.{Role}
use Rattle.cell_roles.specs.declared.role.Role.TheVariants.{Bitcell, Precharge, Mux, Tie, Sense, Write, RowNand2, RowNand3, Driver, Nand2, Nand3, Inv, Dff, Delay}
use Rattle.demo_kit.specs.declared.drawing.CellBox.{CellBox}
use Rattle.demo_kit.specs.Drawing.{DrawnPin, cell_pins, cell_boxes}
use Rattle.demo_kit.specs.Layout.{scaled_point, box_boundary, pin_label, cell_elements}
use Rattle.demo_kit.proofs.NameLaws.{is_short_name, both_true}

-- positive sides, and no further than 64 from the origin
abbrev pub is_proper : CellBox → Bool
is_proper b = (nat_lt b.x1 b.x2 && nat_lt b.y1 b.y2) && (nat_le b.x2 64 && nat_le b.y2 64)

abbrev pub is_proper_pin : DrawnPin → Bool
is_proper_pin p = is_proper p.shape && is_short_name p.name

pub record IsProper (b : CellBox) : Type 0 where
  pub wide : b.x1 < b.x2
  pub tall : b.y1 < b.y2
  pub right : b.x2 ≤ 64
  pub high : b.y2 ≤ 64

pub proper_is : (b : CellBox) → is_proper b ≡ true → IsProper b
proper_is b e =
    let halves = both_true _ _ e in
    let sides = both_true _ _ halves.0 in
    let ends = both_true _ _ halves.1 in
    record {
      wide = ltb-true b.x1 b.x2 sides.0;
      tall = ltb-true b.y1 b.y2 sides.1;
      right = leb-true b.x2 64 ends.0;
      high = leb-true b.y2 64 ends.1;
    }

pub scaled_less : (scale a b : ℕ) → 1 ≤ scale → a < b → scale * a < scale * b
scaled_less scale a b some less =
    let le : a + 1 ≤ b = omega arith in
    let more = mul-le-mul_left scale le in
    omega (arith, more)

-- a box at a scale
abbrev pub scaled_rect : (scale : ℕ) → 1 ≤ scale → (b : CellBox) → IsProper b → Rect
scaled_rect scale some b h = record {
  x1 = pos (scale * b.x1);
  y1 = pos (scale * b.y1);
  x2 = pos (scale * b.x2);
  y2 = pos (scale * b.y2);
  wide = omega (arith, ints, scaled_less scale b.x1 b.x2 some h.wide);
  tall = omega (arith, ints, scaled_less scale b.y1 b.y2 some h.tall);
}

pub scaled_short : (scale x y : ℕ) → scale ≤ 4 → x ≤ 66 → y ≤ 66 → IsShort (scaled_point scale x y)
scaled_short scale x y few right high =
    let a : scale * x ≤ scale * 66 = mul-le-mul_left scale right in
    let b : scale * y ≤ scale * 66 = mul-le-mul_left scale high in
    record { x = search (rules, a, few); y = search (rules, b, few) }

-- what passes a test has its image pass another
pub all_mapped : {X Y : Type 0} (p : X → Bool) (Q : Y → Type 0) (f : X → Y) → ((x : X) → p x ≡ true → Q (f x))
    → (xs : List X) → list_all p xs ≡ true → AllByRecursion Q (map f xs)
all_mapped p Q f each [] e = tt
all_mapped p Q f each (x ∷ xs) e =
    let parts = both_true (p x) (list_all p xs) e in
    (each x parts.0, all_mapped p Q f each xs parts.1)

pub all_joined : {X : Type 0} (P : X → Type 0) (xs ys : List X) → AllByRecursion P xs → AllByRecursion P ys
    → AllByRecursion P (xs ++ ys)
all_joined P [] ys a b = b
all_joined P (x ∷ xs) ys a b = (a.0, all_joined P xs ys a.1 b)

abbrev is_proper_cell : Role → Bool
is_proper_cell role = list_all is_proper (cell_boxes role) && list_all is_proper_pin (cell_pins role)

cell_proper : (role : Role) → is_proper_cell role ≡ true
cell_proper Bitcell = refl
cell_proper Precharge = refl
cell_proper Mux = refl
cell_proper Tie = refl
cell_proper Sense = refl
cell_proper Write = refl
cell_proper RowNand2 = refl
cell_proper RowNand3 = refl
cell_proper Driver = refl
cell_proper Nand2 = refl
cell_proper Nand3 = refl
cell_proper Inv = refl
cell_proper Dff = refl
cell_proper Delay = refl

-- what holds of a cell's elements, where it holds of boundaries and of labels
pub all_elements : (Q : Element → Type 0) (scale : ℕ) → ((b : CellBox) → is_proper b ≡ true → Q (box_boundary scale b))
    → ((p : DrawnPin) → is_proper_pin p ≡ true → Q (pin_label scale p)) → (role : Role)
    → AllByRecursion Q (cell_elements scale role)
unfolding cell_elements
all_elements Q scale boxes labels role =
    let proper = both_true _ _ (cell_proper role) in
    all_joined Q (map (box_boundary scale) (cell_boxes role)) (map (pin_label scale) (cell_pins role))
    (all_mapped is_proper Q (box_boundary scale) boxes (cell_boxes role) proper.0)
    (all_mapped is_proper_pin Q (pin_label scale) labels (cell_pins role) proper.1)
