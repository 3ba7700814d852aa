-- The cells from the bottom up.
use Rattle.std.proofs.Common.{◌≡◌, ◌⊎◌, inl, inr, ℕ, zero, suc, ◌+◌, ◌<◌, ◌≤◌, List, [], ◌∷◌, ◌++◌, length, Some, refl, sym, ap, subst, ◌∙◌, arith}
use Rattle.std.specs.Prelude.{slice_get}
use Rattle.std.specs.List.{AllByRecursion}
use Rattle.std.proofs.lemmas.List.{length-append}
use Rattle.std.proofs.lemmas.Option.{same_Some, slice_get_within}
use Rattle.gds_library.specs.declared.library.Structure.{Structure}
use Rattle.gds_library.specs.Writable.{IsWritableElement, IsWritableCell}
use Rattle.cell_chains.specs.declared.cell.Cell.{Cell}
use Rattle.cell_chains.specs.Chains.{elements_of}
use Rattle.cell_chains.specs.Hierarchy.{IsCell, AreCells}
use Rattle.cell_hierarchy.specs.Drawings.{AreAllCells}

pub record IsThereAt {Y : Type 0} (ys : List Y) (k : ℕ) : Type 0 where
  pub item : Y
  pub is : slice_get ys k ≡ Some item

pub there_at : {Y : Type 0} (ys : List Y) (k : ℕ) → k < length ys → IsThereAt ys k
there_at [] k lt = absurd (omega arith)
there_at (y ∷ ys) zero lt = record { item = y; is = refl }
there_at (y ∷ ys) (suc k) lt = let r = there_at ys k (omega arith) in record { item = r.item; is = r.is }

pub all_got : {Y : Type 0} (P : Y → Type 0) (ys : List Y) (k : ℕ) (y : Y) → AllByRecursion P ys → slice_get ys k ≡ Some y → P y
all_got P [] k y all is = absurd cc
all_got {Y} P (x ∷ xs) zero y all is = subst P (same_Some x y is) all.0
all_got P (x ∷ xs) (suc k) y all is = all_got P xs k y all.1 is

pub record IsLast {Y : Type 0} (ys : List Y) (y : Y) (k : ℕ) (z : Y) : Type 0 where
  pub place : k ≡ length ys
  pub is : z ≡ y

pub after_push : {Y : Type 0} (ys : List Y) (y : Y) (k : ℕ) (z : Y) → slice_get (ys ++ y ∷ []) k ≡ Some z → (slice_get ys k ≡ Some z) ⊎ IsLast ys y k z
after_push [] y zero z is = inr (record { place = refl; is = same_Some z y (sym is) })
after_push [] y (suc k) z is = absurd cc
after_push (x ∷ xs) y zero z is = inl is
after_push (x ∷ xs) y (suc k) z is = elim (after_push xs y k z is) [ inl h ↦ inl h | inr l ↦ inr (record { place = ap suc l.place; is = l.is }) ]

pub length_pushed : {Y : Type 0} (ys : List Y) (y : Y) (next : List Y) → next ≡ ys ++ y ∷ [] → length next ≡ length ys + 1
length_pushed {Y} ys y next is = ap (λ (l : List Y). length l) is ∙ length-append ys (y ∷ [])

pub structure_stands : (structs : List Structure) (cells : List Cell) (k : ℕ) (cell : Cell) → IsCell structs cells k cell → cell.structure < length structs
structure_stands structs cells k cell is = slice_get_within structs cell.structure is.structure is.stands

pub targets_sized : (structs : List Structure) (cells : List Cell) (k : ℕ) (cell : Cell) → IsCell structs cells k cell → (s : Structure) → slice_get structs cell.structure ≡ Some s → length cell.targets ≡ length s.elements
targets_sized structs cells k cell is s at =
    let one : is.structure ≡ s = same_Some is.structure s (sym is.stands ∙ at) in
    is.sized ∙ ap (λ (t : Structure). length t.elements) one

-- the structure of a cell is the first of its name
pub first_is : (structs : List Structure) (cells : List Cell) (k : ℕ) (cell : Cell) (structure : Structure) → IsCell structs cells k cell → slice_get structs cell.structure ≡ Some structure → elements_of structs structure.name ≡ structure.elements
first_is structs cells k cell structure is stands =
    let one : is.structure ≡ structure = same_Some is.structure structure (sym is.stands ∙ stands) in
    subst (λ (s : Structure). elements_of structs s.name ≡ s.elements) one is.first

pub writable_at : (structs : List Structure) (n : ℕ) (structure : Structure) → AllByRecursion IsWritableCell structs → slice_get structs n ≡ Some structure → AllByRecursion IsWritableElement structure.elements
writable_at structs n structure w at = (all_got IsWritableCell structs n structure w at).elements

pub all_cells : (structs : List Structure) (top : List ℕ) (cells : List Cell) → AreCells structs top cells → AreAllCells structs cells
all_cells structs top cells c = record { each = c.all }

pub some_cell : (structs : List Structure) (top : List ℕ) (cells : List Cell) → AreCells structs top cells → 1 ≤ length cells
some_cell structs top cells c = let e = c.count in omega arith
