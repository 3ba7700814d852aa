-- What stands near a cell of a logic row stands near a cell of another.
use Rattle.std.proofs.Common.{◌≡◌, ◌⊎◌, inl, inr, ◌∙◌, ℕ, ◌+◌, ℤ, pos, ◌+ℤ◌, ◌-ℤ◌, ◌≤ℤ◌, ◌<ℤ◌, List, [], ◌∷◌, ◌++◌, refl, sym, ap, subst, arith}
use Rattle.std.specs.Prelude.{map}
use Rattle.std.proofs.lemmas.Int.{ints}
use Rattle.std.proofs.lemmas.List.{append_assoc}
use Rattle.or_geom.specs.declared.place.Place.{Place}
use Rattle.sram_netlist.specs.Organization.{Organization, banks_of}
use Rattle.sram_netlist.specs.Instances.{LogicCell, LeafInstance, BitAt, NandAt, DriverAt, PrechargeAt, WriteAt, SenseAt, MuxAt, TieAt, LogicAt}
use Rattle.sram_netlist.specs.InstanceList.{logic_cells, tabulate_lists, bank_leaves}
use Rattle.sram_netlist.specs.Netlist.{role, logic_role}
use Rattle.sram_netlist.specs.Membership.{IsOneOf, HasLeafInstance}
use Rattle.sram_netlist.specs.BitCells.{Alike}
use Rattle.sram_netlist.proofs.InstanceLists.{lists_agree, in_front, in_back, to_map}
use Rattle.macro_layout.specs.LayoutKit.{LayoutKit}
use Rattle.macro_layout.specs.Places.{Floorplan, IsPlaceOf, StandsInRow, total_width, leaf_cell}
use Rattle.good_places.specs.Beside.{StandsMoved, moved_place}
use Rattle.good_places.specs.Leaves.{zone_of, AreNearZones}
use Rattle.good_places.specs.Row.{roles_of, AreAlikeParts, IsGuarded, cell_zone, behind, CellsAreNearAlike}
use Rattle.good_places.specs.Neighbours.{role_widths}
use Rattle.good_places.proofs.EdgeLaws.{place_at}
use Rattle.good_places.proofs.LaidLaws.{Numbers, numbers}
use Rattle.good_places.proofs.NearLaws.{logic_far, logic_far_slice}

-- Two ways to cut one list

-- the item stands in the first part, or in the second
pub record IsInFirst {X : Type 0} (first second before : List X) (x : X) (after : List X) : Type 0 where
  pub rest : List X
  pub is : first ≡ before ++ (x ∷ rest)
  pub ends : after ≡ rest ++ second

pub record IsInSecond {X : Type 0} (first second before : List X) (x : X) (after : List X) : Type 0 where
  pub inner : List X
  pub begins : before ≡ first ++ inner
  pub is : second ≡ inner ++ (x ∷ after)

pub head_is : {X : Type 0} (x y : X) (xs ys : List X) → (x ∷ xs) ≡ (y ∷ ys) → x ≡ y
head_is x y xs ys e = cc

pub tail_is : {X : Type 0} (x y : X) (xs ys : List X) → (x ∷ xs) ≡ (y ∷ ys) → xs ≡ ys
tail_is x y xs ys e = cc

pub cut : {X : Type 0} (first second before after : List X) (x : X) → first ++ second ≡ before ++ (x ∷ after) → IsInFirst first second before x after ⊎ IsInSecond first second before x after
cut [] second before after x e = inr (record { inner = before; begins = refl; is = e })
cut (a ∷ first) second [] after x e = let p = head_is a x (first ++ second) after e in let t = tail_is a x (first ++ second) after e in inl (record { rest = first; is = λ i. p i ∷ first; ends = sym t })
cut (a ∷ first) second (y ∷ before) after x e =
    let p = head_is a y (first ++ second) (before ++ (x ∷ after)) e in
    let q = sym p in
    elim (cut first second before after x (tail_is a y (first ++ second) (before ++ (x ∷ after)) e)) [
      | inl h ↦ let r = h.is in inl (record { rest = h.rest; is = λ i. p i ∷ r i; ends = h.ends })
      | inr h ↦ let r = h.begins in inr (record { inner = h.inner; begins = λ i. q i ∷ r i; is = h.is })
    ]

-- Lists of one image

record IsMatched {X Y : Type 0} (F : X → Y) (part : List X) (y : Y) (before : List Y) : Type 0 where
  pub inner : List X
  pub cell : X
  pub rest : List X
  pub is : part ≡ inner ++ (cell ∷ rest)
  pub role : F cell ≡ y
  pub roles : map F inner ≡ before

pub not_empty : {Y : Type 0} (y : Y) (ys : List Y) → [] ≡ y ∷ ys → ⊥
not_empty y ys e = cc

matched : {X Y Z : Type 0} (F : X → Y) (G : Z → Y) (part : List X) (before after : List Z) (z : Z) → map F part ≡ map G (before ++ (z ∷ after)) → IsMatched F part (G z) (map G before)
matched F G [] [] after z e = absurd (not_empty (G z) (map G after) e)
matched F G [] (y ∷ ys) after z e = absurd (not_empty (G y) (map G (ys ++ (z ∷ after))) e)
matched F G (x ∷ xs) [] after z e = record { inner = []; cell = x; rest = xs; is = refl; role = head_is (F x) (G z) (map F xs) (map G after) e; roles = refl }
matched F G (x ∷ xs) (y ∷ ys) after z e =
    let m = matched F G xs ys after z (tail_is (F x) (G y) (map F xs) (map G (ys ++ (z ∷ after))) e) in
    let p = head_is (F x) (G y) (map F xs) (map G (ys ++ (z ∷ after))) e in
    let q = m.roles in
    let r = m.is in
    record { inner = x ∷ m.inner; cell = m.cell; rest = m.rest; is = λ i. x ∷ r i; role = m.role; roles = λ i. p i ∷ q i }

-- Widths of cells

pub widths : (plan : Organization) (kit : LayoutKit) (cells : List LogicCell) → total_width plan kit cells ≡ role_widths kit (roles_of plan cells)
widths plan kit [] = refl
widths plan kit (c ∷ cs) = ap (λ (n : ℕ). kit.width (logic_role plan c) + n) (widths plan kit cs)

pub same_widths : (plan other : Organization) (kit : LayoutKit) (xs ys : List LogicCell) → roles_of plan xs ≡ roles_of other ys → total_width plan kit xs ≡ total_width other kit ys
same_widths plan other kit xs ys e = widths plan kit xs ∙ ap (role_widths kit) e ∙ sym (widths other kit ys)

none_before : (n : ℕ) → n ≡ 0 + n
none_before n = omega arith

pub total_split : (plan : Organization) (kit : LayoutKit) (before cells : List LogicCell) → total_width plan kit (before ++ cells) ≡ total_width plan kit before + total_width plan kit cells
total_split plan kit [] cells = none_before (total_width plan kit cells)
total_split plan kit (c ∷ before) cells = let rest = total_split plan kit before cells in omega (arith, rest)

-- The row

is_there : {X : Type 0} (before after : List X) (x : X) → IsOneOf x (before ++ (x ∷ after))
is_there before after x = in_back x before (x ∷ after) (inl refl)

has_cell : (plan : Organization) (before after : List LogicCell) (cell : LogicCell) → logic_cells plan ≡ before ++ (cell ∷ after) → HasLeafInstance plan (LogicAt cell)
has_cell plan before after cell row =
    (lists_agree plan (LogicAt cell)).0 (in_front (LogicAt cell) (map LogicAt (logic_cells plan)) (tabulate_lists (banks_of plan) (bank_leaves plan)) (to_map LogicAt cell (logic_cells plan) (subst (IsOneOf cell) (sym row) (is_there before after cell))))

module _ (plan other : Organization) (kit : LayoutKit) (bit : List ℕ) (f g : Floorplan) (reach : ℤ) (n : Numbers other kit g reach) (front part back front2 before after back2 : List LogicCell) (cell : LogicCell)
    (parts : AreAlikeParts plan other front part back front2 (before ++ (cell ∷ after)) back2) (guarded : IsGuarded reach other kit front2 before after back2) where
  abbrev total : List LogicCell → ℕ
  total = total_width other kit

  abbrev width : LogicCell → ℕ
  width c = kit.width (logic_role other c)

  abbrev right : ℤ
  right = behind plan kit f front -ℤ behind other kit g front2

  abbrev Found : LeafInstance → Place → Type 0
  Found leaf place = StandsMoved plan kit (Alike bit) f right (pos 0) (role other leaf) (leaf_cell other kit (Alike bit) leaf) place

  abbrev IsNear : LeafInstance → Place → Type 0
  IsNear leaf place = AreNearZones reach (zone_of other kit g leaf place) (cell_zone other kit (behind other kit g (front2 ++ before)) cell)

  never_empty : {X : Type 0} (xs ys : List X) (y : X) → xs ++ (y ∷ ys) ≡ [] → ⊥
  never_empty [] ys y e = not_empty y ys (sym e)
  never_empty (x ∷ xs) ys y e = not_empty x (xs ++ (y ∷ ys)) (sym e)

  -- nothing in front of the part is near
  front_far : (x : ℤ) (w a b c d : ℕ) → a ≡ b + (w + d) → (x +ℤ pos (a + c)) <ℤ (((x +ℤ pos b) +ℤ pos w) +ℤ reach) → reach ≤ℤ pos c → ⊥
  front_far x w a b c d e lt le = omega (arith, ints, e, lt, le)

  in_the_front : (e : LogicCell) (place : Place) (at : StandsInRow other kit g e place) → IsNear (LogicAt e) place → IsInFirst front2 ((before ++ (cell ∷ after)) ++ back2) at.before e at.after → ⊥
  in_the_front e place at near h = elim guarded.left [
    | inl none ↦ never_empty at.before h.rest e (sym h.is ∙ none)
    | inr wide ↦
        let r = near.right in
        let x = ap (λ (p : Place). p.at.x) at.at in
        front_far g.logic_x (width e) (total front2) (total at.before) (total before) (total h.rest) (ap total h.is ∙ total_split other kit at.before (e ∷ h.rest))
        (subst (λ (k : ℕ). (g.logic_x +ℤ pos k) <ℤ (((g.logic_x +ℤ pos (total at.before)) +ℤ pos (width e)) +ℤ reach)) (total_split other kit front2 before) (subst (λ (z : ℤ). (g.logic_x +ℤ pos (total (front2 ++ before))) <ℤ ((z +ℤ pos (width e)) +ℤ reach)) x r)) wide
  ]

  -- nothing behind it is near
  back_far : (x : ℤ) (w a b c d h : ℕ) → h ≡ a + ((b + (w + c)) + d) → (x +ℤ pos h) <ℤ (((x +ℤ pos (a + b)) +ℤ pos w) +ℤ reach) → reach ≤ℤ pos c → ⊥
  back_far x w a b c d h e lt le = omega (arith, ints, e, lt, le)

  sums : (a b c d e : ℕ) → a ≡ b + c → c ≡ d + e → a ≡ b + (d + e)
  sums a b c d e p q = omega (arith, p, q)

  in_the_back : (e : LogicCell) (place : Place) (at : StandsInRow other kit g e place) → IsNear (LogicAt e) place → (inner deep : List LogicCell) → at.before ≡ front2 ++ inner → inner ≡ (before ++ (cell ∷ after)) ++ deep → back2 ≡ deep ++ (e ∷ at.after) → ⊥
  in_the_back e place at near inner deep p q is = elim guarded.right [
    | inl none ↦ never_empty deep at.after e (sym is ∙ none)
    | inr wide ↦
        let l = near.left in
        let x = ap (λ (p : Place). p.at.x) at.at in
        back_far g.logic_x (width cell) (total front2) (total before) (total after) (total deep) (total at.before)
        (sums (total at.before) (total front2) (total inner) (total before + (width cell + total after)) (total deep) (ap total p ∙ total_split other kit front2 inner)
        (ap total q ∙ total_split other kit (before ++ (cell ∷ after)) deep ∙ ap (λ (k : ℕ). k + total deep) (total_split other kit before (cell ∷ after))))
        (subst (λ (k : ℕ). (g.logic_x +ℤ pos (total at.before)) <ℤ (((g.logic_x +ℤ pos k) +ℤ pos (width cell)) +ℤ reach)) (total_split other kit front2 before) (subst (λ (z : ℤ). z <ℤ ((behind other kit g (front2 ++ before) +ℤ pos (width cell)) +ℤ reach)) x l)) wide
  ]

  regroup : (inner rest : List LogicCell) (c : LogicCell) → part ≡ inner ++ (c ∷ rest) → logic_cells plan ≡ (front ++ inner) ++ (c ∷ (rest ++ back))
  regroup inner rest c is = parts.here ∙ ap (λ (l : List LogicCell). front ++ (l ++ back)) is ∙ ap (λ (l : List LogicCell). front ++ l) (append_assoc inner (c ∷ rest) back) ∙ sym (append_assoc front inner (c ∷ (rest ++ back)))

  moved_right : (x y : ℤ) (a b c d : ℕ) → c ≡ d → (x +ℤ pos (a + c)) +ℤ ((y +ℤ pos b) -ℤ (x +ℤ pos a)) ≡ y +ℤ pos (b + d)
  moved_right x y a b c d e = omega (arith, ints, e)

  stays : (y : ℤ) → y +ℤ pos 0 ≡ y
  stays y = omega (arith, ints)

  in_the_part : (e : LogicCell) (place : Place) (at : StandsInRow other kit g e place) (inner : List LogicCell) → at.before ≡ front2 ++ inner → IsInFirst (before ++ (cell ∷ after)) back2 inner e at.after → Found (LogicAt e) place
  in_the_part e place at inner p h =
      let m = matched (logic_role plan) (logic_role other) part inner h.rest e (parts.alike ∙ ap (roles_of other) h.is) in
      let row = regroup m.inner m.rest m.cell m.is in
      record {
        leaf = LogicAt m.cell;
        has = has_cell plan (front ++ m.inner) (m.rest ++ back) m.cell row;
        stands = record {
          before = front ++ m.inner;
          after = m.rest ++ back;
          row = row;
          at = ap (moved_place right (pos 0)) at.at
              ∙ place_at ((g.logic_x +ℤ pos (total at.before)) +ℤ right) (pos 0 +ℤ pos 0) (f.logic_x +ℤ pos (total_width plan kit (front ++ m.inner))) (pos 0)
              (ap (λ (k : ℕ). (g.logic_x +ℤ pos k) +ℤ right) (ap total p ∙ total_split other kit front2 inner)
              ∙ moved_right g.logic_x f.logic_x (total front2) (total_width plan kit front) (total inner) (total_width plan kit m.inner) (sym (same_widths plan other kit m.inner inner m.roles))
              ∙ ap (λ (k : ℕ). f.logic_x +ℤ pos k) (sym (total_split plan kit front m.inner)))
              (stays (pos 0));
        };
        alike = ap kit.cell m.role;
        same_role = m.role;
      }

  pub found : (leaf : LeafInstance) (place : Place) → HasLeafInstance other leaf → IsPlaceOf other kit g leaf place → IsNear leaf place → Found leaf place
  found (LogicAt e) place has at near = elim (cut front2 ((before ++ (cell ∷ after)) ++ back2) at.before at.after e (sym parts.there ∙ at.row)) [
    | inl h ↦ absurd (in_the_front e place at near h)
    | inr h ↦ elim (cut (before ++ (cell ∷ after)) back2 h.inner at.after e h.is) [
      | inl k ↦ in_the_part e place at h.inner h.begins k
      | inr k ↦ absurd (in_the_back e place at near h.inner k.inner h.begins k.begins k.is)
    ]
  ]
  found (BitAt b r c) place has at near = absurd (logic_far other kit g reach n near.low)
  found (NandAt b r) place has at near = absurd (logic_far other kit g reach n near.low)
  found (DriverAt b r) place has at near = absurd (logic_far other kit g reach n near.low)
  found (PrechargeAt b c) place has at near = absurd (logic_far other kit g reach n near.low)
  found (WriteAt b i) place has at near = absurd (logic_far_slice other kit g reach n near.low)
  found (SenseAt b i) place has at near = absurd (logic_far_slice other kit g reach n near.low)
  found (MuxAt b c) place has at near = absurd (logic_far other kit g reach n near.low)
  found (TieAt b c) place has at near = absurd (logic_far other kit g reach n near.low)

pub cells_are_near_alike : CellsAreNearAlike
cells_are_near_alike plan other kit bit wire f g reach laid there short front part back front2 before after back2 cell parts guarded = found plan other kit bit f g reach (numbers other kit wire g reach there short) front part back front2 before after back2 cell parts guarded
