-- Around a point of the logic row a small memory's row has what the memory's has, and nothing else.
use Rattle.std.proofs.Common.{◌≡◌, ◌⊎◌, inl, inr, ◌∙◌, ℕ, ◌+◌, ◌<◌, ◌≤◌, ℤ, pos, ◌+ℤ◌, ◌≤ℤ◌, List, [], ◌∷◌, ◌++◌, refl, sym, ap, subst, arith}
use Rattle.std.proofs.lemmas.Int.{by_lt_z, ints}
use Rattle.std.proofs.lemmas.List.{append_assoc}
use Rattle.sram_netlist.specs.Organization.{Organization}
use Rattle.sram_netlist.specs.Instances.{LogicCell}
use Rattle.sram_netlist.specs.InstanceList.{logic_cells}
use Rattle.sram_netlist.specs.Netlist.{logic_role}
use Rattle.macro_layout.specs.LayoutKit.{LayoutKit}
use Rattle.macro_layout.specs.Places.{total_width}
use Rattle.good_places.proofs.RowLaws.{cut, total_split}

-- Cells of a row near to a point, which lies so far right of the row's beginning

module _ (plan : Organization) (kit : LayoutKit) (by X : ℤ) where
  abbrev W : List LogicCell → ℕ
  W cells = total_width plan kit cells

  abbrev width : LogicCell → ℕ
  width c = kit.width (logic_role plan c)

  pub record IsBy (d : LogicCell) (y : ℕ) : Type 0 where
    pub left : pos y ≤ℤ (X +ℤ by)
    pub right : X ≤ℤ (pos (y + width d) +ℤ by)

  decide_by : (d : LogicCell) (y : ℕ) → IsBy d y ⊎ (IsBy d y → ⊥)
  decide_by d y =
      by_lt_z (X +ℤ by) (pos y) (λ lt. inr (λ h. let l = h.left in omega (arith, ints, lt, l)))
      (λ left. by_lt_z (pos (y + width d) +ℤ by) X (λ lt. inr (λ h. let r = h.right in omega (arith, ints, lt, r)))
      (λ right. inl (record { left = left; right = right })))

  -- nothing stands in front, or a cell that isn't near
  abbrev pub HasFarCell : List LogicCell → Type 0
  HasFarCell front = (front ≡ []) ⊎ ((b : List LogicCell) × (d : LogicCell) × (front ≡ b ++ (d ∷ [])) × (IsBy d (W b) → ⊥))

  -- the first cell that is near
  pub record IsFirstBy (row : List LogicCell) : Type 0 where
    pub front : List LogicCell
    pub cell : LogicCell
    pub back : List LogicCell
    pub is : row ≡ front ++ (cell ∷ back)
    pub near : IsBy cell (W front)
    pub far : HasFarCell front

  no_cells : {Y : Type 0} (y : Y) (ys zs : List Y) → [] ≡ ys ++ (y ∷ zs) → ⊥
  no_cells y [] zs e = cc
  no_cells y (z ∷ ys) zs e = cc

  head_of : {Y : Type 0} (y z : Y) (ys zs : List Y) → (y ∷ ys) ≡ (z ∷ zs) → y ≡ z
  head_of y z ys zs e = cc

  tail_of : {Y : Type 0} (y z : Y) (ys zs : List Y) → (y ∷ ys) ≡ (z ∷ zs) → ys ≡ zs
  tail_of y z ys zs e = cc

  nothing_more : (n : ℕ) → n ≡ n + 0
  nothing_more n = omega arith

  step : (before rest : List LogicCell) (d e : LogicCell) (inner after : List LogicCell) → HasFarCell before
      → ((deep : List LogicCell) → rest ≡ deep ++ (e ∷ after) → IsBy e (W (before ++ (d ∷ [])) + W deep) → HasFarCell (before ++ (d ∷ [])) → IsFirstBy ((before ++ (d ∷ [])) ++ rest))
      → (d ∷ rest) ≡ inner ++ (e ∷ after) → IsBy e (W before + W inner) → IsBy d (W before) ⊎ (IsBy d (W before) → ⊥) → IsFirstBy (before ++ (d ∷ rest))
  step before rest d e inner after far on is near (inl here) = record { front = before; cell = d; back = rest; is = refl; near = here; far = far }
  step before rest d e [] after far on is near (inr away) =
      absurd (away (subst (λ (c : LogicCell). IsBy c (W before)) (sym (head_of d e rest after is)) (subst (IsBy e) (sym (nothing_more (W before))) near)))
  step before rest d e (k ∷ inner) after far on is near (inr away) =
      let same = ap width (sym (head_of d k rest (inner ++ (e ∷ after)) is)) in
      let t = total_split plan kit before (d ∷ []) in
      subst IsFirstBy (append_assoc before (d ∷ []) rest) (on inner (tail_of d k rest (inner ++ (e ∷ after)) is) (subst (IsBy e) (omega (arith, same, t)) near) (inr (before, d, refl, away)))

  -- Of cells of which one is near, one is the first.
  pub first_by : (before rest : List LogicCell) → HasFarCell before → (inner after : List LogicCell) (e : LogicCell) → rest ≡ inner ++ (e ∷ after) → IsBy e (W before + W inner) → IsFirstBy (before ++ rest)
  first_by before [] far inner after e is near = absurd (no_cells e inner after is)
  first_by before (d ∷ rest) far inner after e is near = step before rest d e inner after far (λ deep is2 near2 far2. first_by (before ++ (d ∷ [])) rest far2 deep after e is2 near2) is near (decide_by d (W before))

-- a cell that begins before another ends before it begins
pub ends_before : (plan : Organization) (kit : LayoutKit) (row front back before after : List LogicCell) (l d : LogicCell) → row ≡ front ++ (l ∷ back) → row ≡ before ++ (d ∷ after) → total_width plan kit before < total_width plan kit front → total_width plan kit before + kit.width (logic_role plan d) ≤ total_width plan kit front
ends_before plan kit row front back before after l d one two lt = elim (cut front (l ∷ back) before after d (sym one ∙ two)) [
  | inl h ↦ let s = ap (total_width plan kit) h.is ∙ total_split plan kit before (d ∷ h.rest) in omega (arith, s)
  | inr h ↦ let s = ap (total_width plan kit) h.begins ∙ total_split plan kit front h.inner in absurd (omega (arith, s, lt))
]

-- a point that what ends there is near to is so near to each cell that begins in front of the first
pub before_first : (plan : Organization) (kit : LayoutKit) (by X : ℤ) (f : IsFirstBy plan kit by X (logic_cells plan)) → X ≤ℤ (pos (total_width plan kit f.front) +ℤ by) → 0 < total_width plan kit f.front → ⊥
before_first plan kit by X f right some = elim f.far [
  | inl none ↦ let z = ap (total_width plan kit) none in omega (arith, z, some)
  | inr (b, d, is, away) ↦
      let s = ap (total_width plan kit) is ∙ total_split plan kit b (d ∷ []) in
      let l = f.near.left in
      away (record { left = go (total_width plan kit f.front) (total_width plan kit b) (kit.width (logic_role plan d)) s l; right = og (total_width plan kit f.front) (total_width plan kit b) (kit.width (logic_role plan d)) s right })
] where
  go : (a b w : ℕ) → a ≡ b + (w + 0) → pos a ≤ℤ (X +ℤ by) → pos b ≤ℤ (X +ℤ by)
  go a b w s l = omega (arith, ints, s, l)

  og : (a b w : ℕ) → a ≡ b + (w + 0) → X ≤ℤ (pos a +ℤ by) → X ≤ℤ (pos (b + w) +ℤ by)
  og a b w s r = omega (arith, ints, s, r)
