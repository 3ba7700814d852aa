-- Each leaf instance has a place, and one only.
use Rattle.std.proofs.Common.{◌≡◌, ◌≢◌, inl, inr, ℕ, ◌+ℤ◌, pos, List, [], ◌∷◌, ◌++◌, refl, sym, ap, subst, ◌∙◌}
use Rattle.std.specs.List.{AllByRecursion}
use Rattle.or_geom.specs.declared.place.Place.{Place}
use Rattle.sram_netlist.specs.Organization.{Organization}
use Rattle.sram_netlist.specs.Instances.{LogicCell, LeafInstance, BitAt, NandAt, DriverAt, PrechargeAt, WriteAt, SenseAt, MuxAt, TieAt, LogicAt}
use Rattle.sram_netlist.specs.InstanceList.{logic_cells}
use Rattle.sram_netlist.specs.Membership.{IsOneOf, HasLeafInstance, HasLogicCell}
use Rattle.sram_netlist.specs.Names.{cell_name}
use Rattle.macro_layout.specs.LayoutKit.{LayoutKit}
use Rattle.macro_layout.specs.Places.{Floorplan, IsPlaceOf, total_width, upright}
use Rattle.sram_rows.proofs.DifferLaws.{DifferBy}

-- where an item stands in a list
record Splits {X : Type 0} (xs : List X) (x : X) : Type 0 where
  before : List X
  after : List X
  whole : xs ≡ before ++ (x ∷ after)

split_at : {X : Type 0} (xs : List X) (x : X) → IsOneOf x xs → Splits xs x
split_at [] x none = absurd none
split_at {X = X} (y ∷ ys) x (inl same) = record { before = []; after = ys; whole = ap (λ (z : X). z ∷ ys) same }
split_at {X = X} (y ∷ ys) x (inr later) = let s = split_at ys x later in record { before = y ∷ s.before; after = s.after; whole = ap (λ (zs : List X). y ∷ zs) s.whole }

not_later : {X : Type 0} (name : X → List ℕ) (x : X) (xs : List X) (before after : List X) → AllByRecursion (λ y. name x ≢ name y) xs → xs ≡ before ++ (x ∷ after) → ⊥
not_later name x [] [] after all e = cc
not_later name x [] (b ∷ before) after all e = cc
not_later name x (y ∷ ys) [] after all e = let same : y ≡ x = cc in all.0 (ap name (sym same))
not_later name x (y ∷ ys) (b ∷ before) after all e = not_later name x ys before after all.1 (cc)

-- where names differ an item stands at one place
one_split : {X : Type 0} (name : X → List ℕ) (xs : List X) (x : X) (before after before' after' : List X) → DifferBy name xs → xs ≡ before ++ (x ∷ after) → xs ≡ before' ++ (x ∷ after') → before ≡ before'
one_split name [] x [] after before' after' differ e f = absurd cc
one_split name [] x (b ∷ before) after before' after' differ e f = absurd cc
one_split name (y ∷ ys) x [] after [] after' differ e f = refl
one_split {X = X} name (y ∷ ys) x [] after (b ∷ before') after' differ e f =
    let same : y ≡ x = cc in absurd (not_later name y ys before' after' differ.0 (subst (λ (z : X). ys ≡ before' ++ (z ∷ after')) (sym same) (cc)))
one_split {X = X} name (y ∷ ys) x (b ∷ before) after [] after' differ e f =
    let same : y ≡ x = cc in absurd (not_later name y ys before after differ.0 (subst (λ (z : X). ys ≡ before ++ (z ∷ after)) (sym same) (cc)))
one_split {X = X} name (y ∷ ys) x (b ∷ before) after (b' ∷ before') after' differ e f =
    let rest = one_split name ys x before after before' after' differ.1 (cc) (cc) in
    let first : b ≡ b' = cc in
    λ i. first i ∷ rest i

module _ (plan : Organization) (kit : LayoutKit) (fl : Floorplan) where
  -- A leaf instance stands at one place, since no two cells of the logic row have one name (`cells_differ` of `sram_rows`).
  pub one_place : DifferBy (cell_name plan) (logic_cells plan) → (leaf : LeafInstance) (p q : Place) → IsPlaceOf plan kit fl leaf p → IsPlaceOf plan kit fl leaf q → p ≡ q
  one_place differ (BitAt b r c) p q is too = is ∙ sym too
  one_place differ (NandAt b r) p q is too = is ∙ sym too
  one_place differ (DriverAt b r) p q is too = is ∙ sym too
  one_place differ (PrechargeAt b c) p q is too = is ∙ sym too
  one_place differ (WriteAt b i) p q is too = is ∙ sym too
  one_place differ (SenseAt b i) p q is too = is ∙ sym too
  one_place differ (MuxAt b c) p q is too = is ∙ sym too
  one_place differ (TieAt b c) p q is too = is ∙ sym too
  one_place differ (LogicAt cell) p q is too =
      let same = one_split (cell_name plan) (logic_cells plan) cell is.before is.after too.before too.after differ is.row too.row in
      is.at ∙ (ap (λ (cs : List LogicCell). upright (fl.logic_x +ℤ pos (total_width plan kit cs)) (pos 0)) same ∙ sym too.at)

  -- Each leaf instance has one, where the row lists each cell (`to_cells` of `sram_netlist`).
  pub some_place : ((cell : LogicCell) → HasLogicCell plan cell → IsOneOf cell (logic_cells plan)) → (leaf : LeafInstance) → HasLeafInstance plan leaf → (place : Place) × IsPlaceOf plan kit fl leaf place
  some_place listed (BitAt b r c) has = (_, refl)
  some_place listed (NandAt b r) has = (_, refl)
  some_place listed (DriverAt b r) has = (_, refl)
  some_place listed (PrechargeAt b c) has = (_, refl)
  some_place listed (WriteAt b i) has = (_, refl)
  some_place listed (SenseAt b i) has = (_, refl)
  some_place listed (MuxAt b c) has = (_, refl)
  some_place listed (TieAt b c) has = (_, refl)
  some_place listed (LogicAt cell) has =
      let s = split_at (logic_cells plan) cell (listed cell has) in
      (upright (fl.logic_x +ℤ pos (total_width plan kit s.before)) (pos 0), record { before = s.before; after = s.after; row = s.whole; at = refl })
