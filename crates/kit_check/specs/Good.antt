-- Good kits, and the first weakness of one that isn't good.
use Rattle.std.specs.Prelude.{◌≡◌, ◌↔◌, ℕ, ℤ, ◌<◌, List, Option, None, Some, Result, slice_get}
use Rattle.gds_library.specs.declared.library.Library.{Library}
use Rattle.netlist.specs.declared.deck.Deck.{Deck}
use Rattle.tech_rules.specs.declared.tech.Wire.{Wire}
use Rattle.cell_roles.specs.declared.role.Role.{Role}
use Rattle.cell_roles.specs.Roles.{role_name}
use Rattle.leaf_tables.specs.declared.kit.Kit.{Kit}
use Rattle.leaf_tables.specs.declared.part.PartFault.{PartFault}
use Rattle.sram_plan.specs.declared.numbers.Plan.{Plan}
use Rattle.kit_rules.specs.First.{EachHas, IsFirstWithout}
use Rattle.kit_rules.specs.WireRules.{IsWireRule}
use Rattle.kit_rules.specs.Joints.{IsWireJoint}
use Rattle.kit_rules.specs.Reach.{IsOverhang, IsShortReach, reach_with}
use Rattle.leaf_nets.specs.Leaves.{HaveRightPins, HasFirstWrongPin}
use Rattle.kit_check.specs.declared.window.Window.{Window}
use Rattle.kit_check.specs.declared.weak.Weak.{Weak}
use Rattle.kit_check.specs.declared.weak.Weak.TheVariants as weak
use Rattle.kit_check.specs.Windows.{all_windows, plan_of}
use Rattle.kit_check.specs.FreeName.{IsWindowName}
use Rattle.kit_check.specs.Judged.{IsSoundAnswer, IsAnswerFaultNumber}

-- what a maker answers for a kit, a plan and a name
abbrev pub Answers : Type 1
Answers = Kit → Plan → List ℕ → Result (Library × Deck) PartFault → Type 0

-- it has at most one answer for them
abbrev pub IsOneAnswer : Answers → Kit → Type 0
IsOneAnswer answers kit = (plan : Plan) (name : List ℕ) (a b : Result (Library × Deck) PartFault) → answers kit plan name a → answers kit plan name b → a ≡ b

-- the rules, the connections and the reach of leaf cells say of the kit's wires what they may
abbrev pub AreRulesGood : Kit → Type 0
AreRulesGood kit = (wire : Wire) → kit.tech.wire ≡ Some wire → EachHas (IsWireRule wire) kit.tech.rules

abbrev pub AreJointsGood : Kit → Type 0
AreJointsGood kit = (wire : Wire) → kit.tech.wire ≡ Some wire → EachHas (IsWireJoint wire) kit.tech.connects

abbrev pub IsReachGood : Kit → Type 0
IsReachGood kit = (wire : Wire) (overhang : ℤ) → kit.tech.wire ≡ Some wire → IsOverhang kit overhang → IsShortReach kit wire overhang

pub record AreWiresGood (kit : Kit) : Type 0 where
  pub rules : AreRulesGood kit
  pub joints : AreJointsGood kit
  pub reach : IsReachGood kit

-- nothing is wrong with the maker's answer for the window
pub record IsWindowGood (answers : Answers) (kit : Kit) (name : List ℕ) (w : Window) : Type 0 where
  pub answer : Result (Library × Deck) PartFault
  pub is : answers kit (plan_of w) name answer
  pub sound : IsSoundAnswer kit name answer

-- something is, of which this is the number
pub record HasWindowFault (answers : Answers) (kit : Kit) (name : List ℕ) (w : Window) (number : ℕ) : Type 0 where
  pub answer : Result (Library × Deck) PartFault
  pub is : answers kit (plan_of w) name answer
  pub faulty : IsAnswerFaultNumber kit name answer number

-- nothing is wrong with any window that is made under the windows' name
pub record AreWindowsGood (answers : Answers) (kit : Kit) : Type 0 where
  pub name : List ℕ
  pub named : IsWindowName kit name
  pub each : EachHas (IsWindowGood answers kit name) all_windows

-- this is the first window with which something is wrong, and the number of what it is
pub record IsFirstFaulty (answers : Answers) (kit : Kit) (w : Window) (number : ℕ) : Type 0 where
  pub name : List ℕ
  pub named : IsWindowName kit name
  pub place : ℕ
  pub here : slice_get all_windows place ≡ Some w
  pub faulty : HasWindowFault answers kit name w number
  pub before : (earlier : ℕ) (other : Window) → earlier < place → slice_get all_windows earlier ≡ Some other → IsWindowGood answers kit name other

-- A good kit: rules and connections say of wires what they may, leaf cells are felt by neighbours alone, their labels name their
-- pins rightly, and nothing is wrong with any window.
pub record IsGoodKit (answers : Answers) (kit : Kit) : Type 0 where
  pub wires : AreWiresGood kit
  pub pins : HaveRightPins kit
  pub windows : AreWindowsGood answers kit

-- the first rule that says of wires what it may not
pub record IsLayerWeak (kit : Kit) (rule : ℕ) : Type 0 where
  pub wire : Wire
  pub wired : kit.tech.wire ≡ Some wire
  pub first : IsFirstWithout (IsWireRule wire) kit.tech.rules rule

-- no rule does, and this is the first connection that does
pub record IsJointWeak (kit : Kit) (connect : ℕ) : Type 0 where
  pub rules : AreRulesGood kit
  pub wire : Wire
  pub wired : kit.tech.wire ≡ Some wire
  pub first : IsFirstWithout (IsWireJoint wire) kit.tech.connects connect

-- neither does, and leaf cells are felt too far
pub record IsReachWeak (kit : Kit) (reach : ℤ) : Type 0 where
  pub rules : AreRulesGood kit
  pub joints : AreJointsGood kit
  pub wire : Wire
  pub wired : kit.tech.wire ≡ Some wire
  pub overhang : ℤ
  pub is : IsOverhang kit overhang
  pub far : IsShortReach kit wire overhang → ⊥
  pub reach_is : reach ≡ reach_with kit overhang

-- they aren't, and this is the first pin whose labels don't name it rightly
pub record IsPinWeak (kit : Kit) (role pin : List ℕ) : Type 0 where
  pub wires : AreWiresGood kit
  pub of : Role
  pub named : role ≡ role_name of
  pub wrong : HasFirstWrongPin kit of pin

-- all do, and this is the first window with which something is wrong
pub record IsWindowWeak (answers : Answers) (kit : Kit) (w : Window) (number : ℕ) : Type 0 where
  pub wires : AreWiresGood kit
  pub pins : HaveRightPins kit
  pub first : IsFirstFaulty answers kit w number

abbrev pub window_of : ℕ → ℕ → ℕ → ℕ → ℕ → Window
window_of word_size write_size wpr rows banks = record { word_size = word_size; write_size = write_size; wpr = wpr; rows = rows; banks = banks }

-- The first weakness of a kit.
abbrev pub IsFirstWeakness : Answers → Kit → Weak → Type 0
IsFirstWeakness answers kit (weak.Layer rule) = IsLayerWeak kit rule
IsFirstWeakness answers kit (weak.Joint connect) = IsJointWeak kit connect
IsFirstWeakness answers kit (weak.Reach reach) = IsReachWeak kit reach
IsFirstWeakness answers kit (weak.Pin role pin) = IsPinWeak kit role pin
IsFirstWeakness answers kit (weak.Window word_size write_size wpr rows banks fault) = IsWindowWeak answers kit (window_of word_size write_size wpr rows banks) fault

-- None exactly where the kit is good, and a weakness exactly where it is the first.
pub record IsWeakness (answers : Answers) (kit : Kit) (found : Option Weak) : Type 0 where
  pub none : (found ≡ None) ↔ IsGoodKit answers kit
  pub some : (it : Weak) → (found ≡ Some it) ↔ IsFirstWeakness answers kit it

-- what is found of wires alone, of windows alone
abbrev pub IsWireWeakness : Kit → Weak → Type 0
IsWireWeakness kit (weak.Layer rule) = IsLayerWeak kit rule
IsWireWeakness kit (weak.Joint connect) = IsJointWeak kit connect
IsWireWeakness kit (weak.Reach reach) = IsReachWeak kit reach
IsWireWeakness kit it = ⊥

abbrev pub IsWindowWeakness : Answers → Kit → Weak → Type 0
IsWindowWeakness answers kit (weak.Window word_size write_size wpr rows banks fault) = IsFirstFaulty answers kit (window_of word_size write_size wpr rows banks) fault
IsWindowWeakness answers kit it = ⊥
