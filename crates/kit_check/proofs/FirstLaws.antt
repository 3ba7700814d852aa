-- The first weakness of a kit, from what is found of its wires, of its pins and of its windows.
use Rattle.std.proofs.Common.{◌≡◌, ℕ, ℤ, ◌<◌, List, length, Option, None, Some, refl, sym, subst, ◌∙◌}
use Rattle.std.specs.Prelude.{slice_get, MatchOption}
use Rattle.std.proofs.lemmas.Option.{same_Some, slice_get_within}
use Rattle.or_geom.proofs.ListLaws.{one_at}
use Rattle.cell_roles.specs.declared.role.Role.{Role}
use Rattle.cell_roles.specs.Roles.{role_name}
use Rattle.tech_rules.specs.declared.tech.Connect.{Connect}
use Rattle.tech_rules.specs.declared.tech.Rule.{Rule}
use Rattle.tech_rules.specs.declared.tech.Wire.{Wire}
use Rattle.leaf_tables.specs.declared.kit.Kit.{Kit}
use Rattle.kit_rules.specs.First.{EachHas, IsFirstWithout}
use Rattle.kit_rules.specs.WireRules.{IsWireRule}
use Rattle.kit_rules.specs.Joints.{IsWireJoint}
use Rattle.kit_rules.specs.Reach.{IsOverhang, IsShortReach}
use Rattle.leaf_nets.specs.Leaves.{HaveRightPins, HasFirstWrongPin}
use Rattle.kit_check.specs.declared.share.Found.{Found}
use Rattle.kit_check.specs.declared.window.Window.{Window}
use Rattle.kit_check.specs.declared.weak.Weak.{Weak}
use Rattle.kit_check.specs.declared.weak.Weak.TheVariants as weak
use Rattle.kit_check.specs.Windows.{all_windows}
use Rattle.kit_check.specs.FreeName.{IsWindowName}
use Rattle.kit_check.specs.Good.{Answers, AreRulesGood, AreJointsGood, IsReachGood, AreWiresGood, IsLayerWeak, IsJointWeak, HasWindowFault, AreWindowsGood, IsFirstFaulty, IsGoodKit, IsFirstWeakness, IsWireWeakness, IsWindowWeakness}
use Rattle.kit_check.specs.Shares.{FindsAmong, IsAny}
use Rattle.kit_check.proofs.WeakLaws.{one_overhang}

-- wires

pub rules_good : (kit : Kit) (wire : Wire) (rules : List Rule) → kit.tech.wire ≡ Some wire → rules ≡ kit.tech.rules → EachHas (IsWireRule wire) rules → AreRulesGood kit
rules_good kit wire rules wired same each = λ other wired_other.
    subst (λ (w : Wire). EachHas (IsWireRule w) kit.tech.rules) (same_Some wire other (sym wired ∙ wired_other)) (subst (λ (l : List Rule). EachHas (IsWireRule wire) l) same each)

pub joints_good : (kit : Kit) (wire : Wire) (connects : List Connect) → kit.tech.wire ≡ Some wire → connects ≡ kit.tech.connects → EachHas (IsWireJoint wire) connects → AreJointsGood kit
joints_good kit wire connects wired same each = λ other wired_other.
    subst (λ (w : Wire). EachHas (IsWireJoint w) kit.tech.connects) (same_Some wire other (sym wired ∙ wired_other)) (subst (λ (l : List Connect). EachHas (IsWireJoint wire) l) same each)

pub reach_good : (kit : Kit) (wire : Wire) (overhang : ℤ) → kit.tech.wire ≡ Some wire → IsOverhang kit overhang → IsShortReach kit wire overhang → IsReachGood kit
reach_good kit wire overhang wired is short = λ other far wired_other is_far.
    subst (λ (w : Wire). IsShortReach kit w far) (same_Some wire other (sym wired ∙ wired_other)) (subst (λ (o : ℤ). IsShortReach kit wire o) (one_overhang kit overhang far is is_far) short)

pub layer_weak : (kit : Kit) (wire : Wire) (rules : List Rule) (rule : ℕ) → kit.tech.wire ≡ Some wire → rules ≡ kit.tech.rules → IsFirstWithout (IsWireRule wire) rules rule → IsLayerWeak kit rule
layer_weak kit wire rules rule wired same first = record { wire = wire; wired = wired; first = subst (λ (l : List Rule). IsFirstWithout (IsWireRule wire) l rule) same first }

pub joint_weak : (kit : Kit) (wire : Wire) (connects : List Connect) (connect : ℕ) → kit.tech.wire ≡ Some wire → connects ≡ kit.tech.connects → AreRulesGood kit → IsFirstWithout (IsWireJoint wire) connects connect → IsJointWeak kit connect
joint_weak kit wire connects connect wired same rules first = record { rules = rules; wire = wire; wired = wired; first = subst (λ (l : List Connect). IsFirstWithout (IsWireJoint wire) l connect) same first }

pub first_within : {X : Type 0} (P : X → Type 0) (xs : List X) (n : ℕ) → IsFirstWithout P xs n → n < length xs
first_within P xs n p = slice_get_within xs n p.item p.here

-- windows

pub windows_good : (answers : Answers) (kit : Kit) (name : List ℕ) → IsWindowName kit name → FindsAmong IsAny answers kit name None → AreWindowsGood answers kit
windows_good answers kit name named good = record { name = name; named = named; each = λ place w here. good place tt w here }

pub first_faulty : (answers : Answers) (kit : Kit) (name : List ℕ) (f : Found) (w : Window) → IsWindowName kit name → FindsAmong IsAny answers kit name (Some f) → slice_get all_windows f.index ≡ Some w → IsFirstFaulty answers kit w f.fault
first_faulty answers kit name f w named p here = record {
  name = name;
  named = named;
  place = f.index;
  here = here;
  faulty = subst (λ (x : Window). HasWindowFault answers kit name x f.fault) (one_at all_windows f.index p.faulty.w w p.faulty.here here) p.faulty.faulty;
  before = λ earlier other lt there. p.before earlier tt lt other there;
}

-- all

pub wire_first : (answers : Answers) (kit : Kit) (it : Weak) → IsWireWeakness kit it → IsFirstWeakness answers kit it
wire_first answers kit (weak.Layer rule) p = p
wire_first answers kit (weak.Joint connect) p = p
wire_first answers kit (weak.Reach reach) p = p
wire_first answers kit (weak.Pin role pin) p = absurd p
wire_first answers kit (weak.Window word_size write_size wpr rows banks fault) p = absurd p

pub pin_first : (answers : Answers) (kit : Kit) (role : Role) (pin : List ℕ) (it : Weak) → it ≡ weak.Pin (role_name role) pin → AreWiresGood kit → HasFirstWrongPin kit role pin → IsFirstWeakness answers kit it
pin_first answers kit role pin it is wires wrong = subst (IsFirstWeakness answers kit) (sym is) (record { wires = wires; of = role; named = refl; wrong = wrong })

window_first : (answers : Answers) (kit : Kit) (it : Weak) → AreWiresGood kit → HaveRightPins kit → IsWindowWeakness answers kit it → IsFirstWeakness answers kit it
window_first answers kit (weak.Layer rule) wires pins p = absurd p
window_first answers kit (weak.Joint connect) wires pins p = absurd p
window_first answers kit (weak.Reach reach) wires pins p = absurd p
window_first answers kit (weak.Pin role pin) wires pins p = absurd p
window_first answers kit (weak.Window word_size write_size wpr rows banks fault) wires pins p = record { wires = wires; pins = pins; first = p }

pub windows_first : (answers : Answers) (kit : Kit) (found : Option Weak) → AreWiresGood kit → HaveRightPins kit → MatchOption found (AreWindowsGood answers kit) (IsWindowWeakness answers kit) → MatchOption found (IsGoodKit answers kit) (IsFirstWeakness answers kit)
windows_first answers kit None wires pins good = record { wires = wires; pins = pins; windows = good }
windows_first answers kit (Some it) wires pins p = window_first answers kit it wires pins p
