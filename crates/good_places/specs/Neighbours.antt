-- Where a role stands in two rows of roles, with what is near it.
use Rattle.std.specs.Prelude.{◌≡◌, ◌⊎◌, ℕ, zero, suc, ◌+◌, ◌≤◌, ℤ, pos, ◌≤ℤ◌, List, [], ◌∷◌, ◌++◌}
use Rattle.cell_roles.specs.declared.role.Role.{Role}
use Rattle.macro_layout.specs.LayoutKit.{LayoutKit}

-- the sum of the widths of leaf cells
abbrev pub role_widths : LayoutKit → List Role → ℕ
role_widths kit [] = 0
role_widths kit (r ∷ rs) = kit.width r + role_widths kit rs

-- so many copies of a list, one behind another
abbrev pub unit_copies : {X : Type 0} → ℕ → List X → List X
unit_copies zero xs = []
unit_copies (suc n) xs = xs ++ unit_copies n xs

-- A row: a beginning, so many units, a middle, and so many other units.
abbrev pub row_with : {X : Type 0} → List X → ℕ → List X → List X → ℕ → List X → List X
row_with begin n unit middle m other = begin ++ (unit_copies n unit ++ (middle ++ unit_copies m other))

-- both are nothing, or what stands between is as wide as a rule reaches
abbrev pub IsFar : ℤ → LayoutKit → List Role → List Role → List Role → Type 0
IsFar reach kit one other between = ((one ≡ []) × (other ≡ [])) ⊎ (reach ≤ℤ pos (role_widths kit between))

-- the role, which stands between `before` and `after`, stands in the other row too, as far as what is near it goes
pub record HasNeighbours (reach : ℤ) (kit : LayoutKit) (before : List Role) (r : Role) (after other : List Role) : Type 0 where
  pub front : List Role
  pub near : List Role
  pub behind : List Role
  pub back : List Role
  pub front2 : List Role
  pub back2 : List Role
  pub before_is : before ≡ front ++ near
  pub after_is : after ≡ behind ++ back
  pub other_is : other ≡ front2 ++ ((near ++ (r ∷ behind)) ++ back2)
  pub left : IsFar reach kit front front2 near
  pub right : IsFar reach kit back back2 behind

-- as many, or at least two and at least three
abbrev pub AreManyAlike : ℕ → ℕ → Type 0
AreManyAlike n m = (n ≡ m) ⊎ ((2 ≤ n) × (3 ≤ m))
