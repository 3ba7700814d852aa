-- A kit is good, or has one first weakness.
use Rattle.std.proofs.Common.{◌≡◌, ◌⊎◌, inl, inr, ℕ, ℤ, pos, ◌≤ℤ◌, ◌-ℤ◌, List, Option, None, Some, refl, sym, ap, subst, ◌∙◌, arith}
use Rattle.std.specs.Prelude.{slice_get, MatchOption, Contains}
use Rattle.std.specs.Int.{int_max}
use Rattle.std.proofs.lemmas.Bool.{cases_lt}
use Rattle.std.proofs.lemmas.Int.{ints}
use Rattle.std.proofs.lemmas.Option.{same_Some}
use Rattle.or_geom.specs.declared.shape.Rect.{Rect}
use Rattle.or_geom.proofs.ListLaws.{one_at, contained_at}
use Rattle.cell_roles.specs.declared.role.Role.{Role}
use Rattle.cell_roles.specs.Roles.{role_name}
use Rattle.tech_rules.specs.declared.tech.Wire.{Wire}
use Rattle.leaf_tables.specs.declared.kit.Kit.{Kit}
use Rattle.leaf_tables.specs.Kits.{IsKit}
use Rattle.kit_rules.specs.First.{EachHas, IsFirstWithout}
use Rattle.kit_rules.specs.WireRules.{IsWireRule}
use Rattle.kit_rules.specs.Joints.{IsWireJoint}
use Rattle.kit_rules.proofs.ReachLaws.{at_least_left}
use Rattle.kit_rules.specs.Reach.{IsOverhang, IsShortReach, passed_by, reach_with}
use Rattle.leaf_nets.specs.Leaves.{HaveRightPins, HasFirstWrongPin}
use Rattle.kit_check.specs.declared.window.Window.{Window}
use Rattle.kit_check.specs.declared.weak.Weak.{Weak}
use Rattle.kit_check.specs.declared.weak.Weak.TheVariants as weak
use Rattle.kit_check.specs.Windows.{all_windows}
use Rattle.kit_check.specs.FreeName.{IsWindowName}
use Rattle.kit_check.specs.Makers.{IsGoodMaker}
use Rattle.kit_check.specs.Good.{Answers, IsOneAnswer, AreRulesGood, AreJointsGood, IsReachGood, IsWindowGood, HasWindowFault, AreWindowsGood, IsFirstFaulty, IsGoodKit, IsFirstWeakness, IsWeakness, window_of}
use Rattle.kit_check.proofs.FreeLaws.{one_window_name}
use Rattle.kit_check.proofs.VerdictLaws.{not_both, one_number}
use Rattle.kit_check.proofs.PinLaws.{one_first_pin, pins_right_or_wrong}

-- the first item without a property

none_without : {X : Type 0} (P : X → Type 0) (xs : List X) (place : ℕ) → EachHas P xs → IsFirstWithout P xs place → ⊥
none_without P xs place each p = p.lacks (each place p.item p.here)

one_without : {X : Type 0} (P : X → Type 0) (xs : List X) (m n : ℕ) → IsFirstWithout P xs m → IsFirstWithout P xs n → m ≡ n
one_without P xs m n p q = elim (cases_lt m n) [
  | inl less ↦ absurd (p.lacks (q.before m p.item less p.here))
  | inr ge ↦ elim (cases_lt n m) [ inl more ↦ absurd (q.lacks (p.before n q.item more q.here)) | inr le ↦ omega (arith, ge, le) ]
]

-- the overhang

passed_above : (width height : ℤ) (r : Rect) (distance : ℤ) → passed_by width height r ≡ distance → pos 0 ≤ℤ distance
passed_above width height r distance e =
    at_least_left (pos 0) (int_max (int_max (pos 0 -ℤ r.x1) (pos 0 -ℤ r.y1)) (int_max (r.x2 -ℤ width) (r.y2 -ℤ height))) distance (sym e)

overhang_above : (kit : Kit) (a : ℤ) → IsOverhang kit a → pos 0 ≤ℤ a
overhang_above kit a p = elim p.reached [
  | inl e ↦ omega (arith, ints, e)
  | inr h ↦ passed_above h.by.leaf.width h.by.leaf.height h.by.shape.rect a h.by.by
]

overhang_below : (kit : Kit) (a b : ℤ) → IsOverhang kit a → IsOverhang kit b → a ≤ℤ b
overhang_below kit a b p q = elim p.reached [
  | inl e ↦ let above = overhang_above kit b q in omega (arith, ints, e, above)
  | inr h ↦ q.most a h
]

pub one_overhang : (kit : Kit) (a b : ℤ) → IsOverhang kit a → IsOverhang kit b → a ≡ b
one_overhang kit a b p q = let le = overhang_below kit a b p q in let ge = overhang_below kit b a q p in omega (arith, ints, le, ge)

-- the windows

module _ (answers : Answers) (kit : Kit) (maker : IsGoodMaker answers kit) (one : IsOneAnswer answers kit) where
  listed_at : (place : ℕ) (w : Window) → slice_get all_windows place ≡ Some w → Contains all_windows w
  listed_at place w here = contained_at all_windows place w here

  clash : (name : List ℕ) (place : ℕ) (w : Window) (number : ℕ) → IsWindowName kit name → slice_get all_windows place ≡ Some w → IsWindowGood answers kit name w → HasWindowFault answers kit name w number → ⊥
  clash name place w number named here good faulty = not_both answers kit name w maker one (listed_at place w here) named.free number good faulty

  good_or_faulty : (w : Window) (number : ℕ) → AreWindowsGood answers kit → IsFirstFaulty answers kit w number → ⊥
  good_or_faulty w number p q =
      let name : p.name ≡ q.name = one_window_name kit p.name q.name p.named q.named in
      clash q.name q.place w number q.named q.here (subst (λ (n : List ℕ). IsWindowGood answers kit n w) name (p.each q.place w q.here)) q.faulty

  record IsOneFault (v w : Window) (m n : ℕ) : Type 0 where
    window : v ≡ w
    number : m ≡ n

  same_place : (v w : Window) (m n : ℕ) (p : IsFirstFaulty answers kit v m) (q : IsFirstFaulty answers kit w n) → q.name ≡ p.name → q.place ≡ p.place → IsOneFault v w m n
  same_place v w m n p q name place =
      let window : w ≡ v = one_at all_windows p.place w v (subst (λ (k : ℕ). slice_get all_windows k ≡ Some w) place q.here) p.here in
      let faulty = subst (λ (x : Window). HasWindowFault answers kit p.name x n) window (subst (λ (s : List ℕ). HasWindowFault answers kit s w n) name q.faulty) in
      record { window = sym window; number = one_number answers kit p.name v maker one (listed_at p.place v p.here) p.named.free m n p.faulty faulty }

  one_faulty : (v w : Window) (m n : ℕ) → IsFirstFaulty answers kit v m → IsFirstFaulty answers kit w n → IsOneFault v w m n
  one_faulty v w m n p q =
      let name : q.name ≡ p.name = one_window_name kit q.name p.name q.named p.named in
      elim (cases_lt p.place q.place) [
        | inl less ↦ absurd (clash p.name p.place v m p.named p.here (subst (λ (s : List ℕ). IsWindowGood answers kit s v) name (q.before p.place v less p.here)) p.faulty)
        | inr ge ↦ elim (cases_lt q.place p.place) [
          | inl more ↦ absurd (clash q.name q.place w n q.named q.here (subst (λ (s : List ℕ). IsWindowGood answers kit s w) (sym name) (p.before q.place w more q.here)) q.faulty)
          | inr le ↦ same_place v w m n p q name (omega (arith, ge, le))
        ]
      ]

  -- one stage after another

  abbrev window_weak : Window → ℕ → Weak
  window_weak w number = weak.Window w.word_size w.write_size w.wpr w.rows w.banks number

  record IsWindowFound (found : Option Weak) : Type 0 where
    w : Window
    number : ℕ
    first : IsFirstFaulty answers kit w number
    is : found ≡ Some (window_weak w number)

  abbrev IsOfWindows : Option Weak → Type 0
  IsOfWindows found = IsWindowFound found ⊎ (AreWindowsGood answers kit × (found ≡ None))

  one_of_windows : (a b : Option Weak) → IsOfWindows a → IsOfWindows b → a ≡ b
  one_of_windows a b (inl p) (inl q) = let same = one_faulty p.w q.w p.number q.number p.first q.first in p.is ∙ ((λ i. Some (window_weak (same.window i) (same.number i))) ∙ sym q.is)
  one_of_windows a b (inl p) (inr q) = absurd (good_or_faulty p.w p.number q.0 p.first)
  one_of_windows a b (inr p) (inl q) = absurd (good_or_faulty q.w q.number p.0 q.first)
  one_of_windows a b (inr p) (inr q) = p.1 ∙ sym q.1

  record IsPinFound (found : Option Weak) : Type 0 where
    role : Role
    pin : List ℕ
    first : HasFirstWrongPin kit role pin
    is : found ≡ Some (weak.Pin (role_name role) pin)

  abbrev IsOfPins : Option Weak → Type 0
  IsOfPins found = IsPinFound found ⊎ (HaveRightPins kit × IsOfWindows found)

  one_of_pins : (a b : Option Weak) → IsOfPins a → IsOfPins b → a ≡ b
  one_of_pins a b (inl p) (inl q) = let same = one_first_pin kit p.role q.role p.pin q.pin p.first q.first in p.is ∙ ((λ i. Some (weak.Pin (role_name (same.role i)) (same.pin i))) ∙ sym q.is)
  one_of_pins a b (inl p) (inr q) = absurd (pins_right_or_wrong kit p.role p.pin q.0 p.first)
  one_of_pins a b (inr p) (inl q) = absurd (pins_right_or_wrong kit q.role q.pin p.0 q.first)
  one_of_pins a b (inr p) (inr q) = one_of_windows a b p.1 q.1

  module _ (is : IsKit kit) where
    record IsReachFound (found : Option Weak) : Type 0 where
      overhang : ℤ
      over : IsOverhang kit overhang
      far : IsShortReach kit is.wire overhang → ⊥
      is_reach : found ≡ Some (weak.Reach (reach_with kit overhang))

    abbrev IsOfReach : Option Weak → Type 0
    IsOfReach found = IsReachFound found ⊎ (IsReachGood kit × IsOfPins found)

    one_of_reach : (a b : Option Weak) → IsOfReach a → IsOfReach b → a ≡ b
    one_of_reach a b (inl p) (inl q) = p.is_reach ∙ (ap (λ (o : ℤ). Some (weak.Reach (reach_with kit o))) (one_overhang kit p.overhang q.overhang p.over q.over) ∙ sym q.is_reach)
    one_of_reach a b (inl p) (inr q) = absurd (p.far (q.0 is.wire p.overhang is.wired p.over))
    one_of_reach a b (inr p) (inl q) = absurd (q.far (p.0 is.wire q.overhang is.wired q.over))
    one_of_reach a b (inr p) (inr q) = one_of_pins a b p.1 q.1

    record IsJointFound (found : Option Weak) : Type 0 where
      connect : ℕ
      first : IsFirstWithout (IsWireJoint is.wire) kit.tech.connects connect
      is_joint : found ≡ Some (weak.Joint connect)

    abbrev IsOfJoints : Option Weak → Type 0
    IsOfJoints found = IsJointFound found ⊎ (AreJointsGood kit × IsOfReach found)

    one_of_joints : (a b : Option Weak) → IsOfJoints a → IsOfJoints b → a ≡ b
    one_of_joints a b (inl p) (inl q) = p.is_joint ∙ (ap (λ (n : ℕ). Some (weak.Joint n)) (one_without (IsWireJoint is.wire) kit.tech.connects p.connect q.connect p.first q.first) ∙ sym q.is_joint)
    one_of_joints a b (inl p) (inr q) = absurd (none_without (IsWireJoint is.wire) kit.tech.connects p.connect (q.0 is.wire is.wired) p.first)
    one_of_joints a b (inr p) (inl q) = absurd (none_without (IsWireJoint is.wire) kit.tech.connects q.connect (p.0 is.wire is.wired) q.first)
    one_of_joints a b (inr p) (inr q) = one_of_reach a b p.1 q.1

    record IsRuleFound (found : Option Weak) : Type 0 where
      rule : ℕ
      first : IsFirstWithout (IsWireRule is.wire) kit.tech.rules rule
      is_rule : found ≡ Some (weak.Layer rule)

    abbrev IsOfRules : Option Weak → Type 0
    IsOfRules found = IsRuleFound found ⊎ (AreRulesGood kit × IsOfJoints found)

    one_of_rules : (a b : Option Weak) → IsOfRules a → IsOfRules b → a ≡ b
    one_of_rules a b (inl p) (inl q) = p.is_rule ∙ (ap (λ (n : ℕ). Some (weak.Layer n)) (one_without (IsWireRule is.wire) kit.tech.rules p.rule q.rule p.first q.first) ∙ sym q.is_rule)
    one_of_rules a b (inl p) (inr q) = absurd (none_without (IsWireRule is.wire) kit.tech.rules p.rule (q.0 is.wire is.wired) p.first)
    one_of_rules a b (inr p) (inl q) = absurd (none_without (IsWireRule is.wire) kit.tech.rules q.rule (p.0 is.wire is.wired) q.first)
    one_of_rules a b (inr p) (inr q) = one_of_joints a b p.1 q.1

    good_is : IsGoodKit answers kit → IsOfRules None
    good_is g = inr (g.wires.rules, inr (g.wires.joints, inr (g.wires.reach, inr (g.pins, inr (g.windows, refl)))))

    same_wire : (wire : Wire) → kit.tech.wire ≡ Some wire → wire ≡ is.wire
    same_wire wire wired = same_Some wire is.wire (sym wired ∙ is.wired)

    weak_is : (it : Weak) → IsFirstWeakness answers kit it → IsOfRules (Some it)
    weak_is (weak.Layer rule) p = inl (record { rule = rule; first = subst (λ (w : Wire). IsFirstWithout (IsWireRule w) kit.tech.rules rule) (same_wire p.wire p.wired) p.first; is_rule = refl })
    weak_is (weak.Joint connect) p =
        inr (p.rules, inl (record { connect = connect; first = subst (λ (w : Wire). IsFirstWithout (IsWireJoint w) kit.tech.connects connect) (same_wire p.wire p.wired) p.first; is_joint = refl }))
    weak_is (weak.Reach reach) p =
        let far = subst (λ (w : Wire). IsShortReach kit w p.overhang → ⊥) (same_wire p.wire p.wired) p.far in
        inr (p.rules, inr (p.joints, inl (record { overhang = p.overhang; over = p.is; far = far; is_reach = ap (λ (r : ℤ). Some (weak.Reach r)) p.reach_is })))
    weak_is (weak.Pin role pin) p =
        inr (p.wires.rules, inr (p.wires.joints, inr (p.wires.reach, inl (record { role = p.of; pin = pin; first = p.wrong; is = ap (λ (r : List ℕ). Some (weak.Pin r pin)) p.named }))))
    weak_is (weak.Window word_size write_size wpr rows banks fault) p =
        inr (p.wires.rules, inr (p.wires.joints, inr (p.wires.reach, inr (p.pins, inl (record { w = window_of word_size write_size wpr rows banks; number = fault; first = p.first; is = refl })))))

    either_is : (found : Option Weak) → MatchOption found (IsGoodKit answers kit) (IsFirstWeakness answers kit) → IsOfRules found
    either_is None good = good_is good
    either_is (Some it) first = weak_is it first

    -- what is found is the only answer
    pub is_weakness : (found : Option Weak) → MatchOption found (IsGoodKit answers kit) (IsFirstWeakness answers kit) → IsWeakness answers kit found
    is_weakness found p = record {
      none = (
        (λ e. subst (λ (o : Option Weak). MatchOption o (IsGoodKit answers kit) (IsFirstWeakness answers kit)) e p),
        (λ good. one_of_rules found None (either_is found p) (good_is good)),
      );
      some = λ it. (
        (λ e. subst (λ (o : Option Weak). MatchOption o (IsGoodKit answers kit) (IsFirstWeakness answers kit)) e p),
        (λ first. one_of_rules found (Some it) (either_is found p) (weak_is it first)),
      );
    }
