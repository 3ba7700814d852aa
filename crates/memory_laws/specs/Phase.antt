-- One phase: values of nets that all contributions agree with, and the state after it.
use Rattle.std.specs.Prelude.{◌≡◌, ℕ, List, [], ◌∷◌, map, Bool, true, false, ◌⊎◌}
use Rattle.sram_netlist.specs.Nets.{Net, Clk0, Csb0, Web0, Vdd, Gnd, Control, Addr, Din, Wmask}
use Rattle.sram_netlist.specs.Instances.{LeafInstance}
use Rattle.cell_roles.specs.declared.leaf_role.LeafRole.{LeafRole}
use Rattle.cell_roles.specs.declared.leaf_role.LeafRole.TheVariants.{Common}
use Rattle.cell_roles.specs.declared.role.Role.TheVariants.{Bitcell, Dff, Delay}
use Rattle.cell_roles.specs.Acts.{Drive, Off, Strong, Weak, Act}
use Rattle.cell_roles.specs.LeafRoles.{leaf_act}

-- which instances and nets there are; each instance's role, the nets that it looks at, those that it may drive, and the pairs that it may join
pub record Circuit : Type 1 where
  pub has : LeafInstance → Type 0
  pub knows : Net → Type 0
  pub role : LeafInstance → LeafRole
  pub looks : LeafInstance → List Net
  pub drives : LeafInstance → List Net
  pub joins : LeafInstance → List (Net × Net)

-- the stored bits of each instance, of which a flip-flop has both, and the charge of each net
pub record State : Type 0 where
  pub q : LeafInstance → Bool
  pub p : LeafInstance → Bool
  pub charge : Net → Bool

pub record PortInputs : Type 0 where
  pub clk : Bool
  pub csb : Bool
  pub web : Bool
  pub addr : ℕ → Bool
  pub din : ℕ → Bool
  pub wmask : ℕ → Bool

-- an instance's stored bits
abbrev pub bits : LeafRole → State → LeafInstance → List Bool
bits (Common Bitcell) s leaf = s.q leaf ∷ []
bits (Common Dff) s leaf = s.q leaf ∷ s.p leaf ∷ []
bits (Common Delay) s leaf = s.q leaf ∷ []
bits role s leaf = []

-- what is put on a net from outside
abbrev pub given : PortInputs → Net → Drive
given i Vdd = Strong true
given i Gnd = Strong false
given i (Control Clk0) = Strong i.clk
given i (Control Csb0) = Strong i.csb
given i (Control Web0) = Strong i.web
given i (Addr j) = Strong (i.addr j)
given i (Din j) = Strong (i.din j)
given i (Wmask j) = Strong (i.wmask j)
given i net = Off

-- one of the nets has this drive
abbrev pub IsDriven : Net → Drive → List Net → List Drive → Type 0
IsDriven x d [] ds = ⊥
IsDriven x d (y ∷ ys) [] = ⊥
IsDriven x d (y ∷ ys) (e ∷ es) = ((y ≡ x) × (e ≡ d)) ⊎ IsDriven x d ys es

abbrev pub AreJoinEnds : Net → Net → Net × Net → Type 0
AreJoinEnds x y pair = ((pair.0 ≡ x) × (pair.1 ≡ y)) ⊎ ((pair.0 ≡ y) × (pair.1 ≡ x))

-- one of the pairs is joined
abbrev pub IsPair : Net → Net → List (Net × Net) → List Bool → Type 0
IsPair x y [] bs = ⊥
IsPair x y (pair ∷ pairs) [] = ⊥
IsPair x y (pair ∷ pairs) (b ∷ bs) = (AreJoinEnds x y pair × (b ≡ true)) ⊎ IsPair x y pairs bs

abbrev pub act_at : Circuit → State → (Net → Bool) → LeafInstance → Act
act_at c s v leaf = leaf_act (c.role leaf) (map v (c.looks leaf)) (bits (c.role leaf) s leaf)

-- an instance drives the net
pub record DrivesNet (c : Circuit) (s : State) (v : Net → Bool) (x : Net) (d : Drive) : Type 0 where
  pub leaf : LeafInstance
  pub there : c.has leaf
  pub driven : IsDriven x d (c.drives leaf) (act_at c s v leaf).drives

-- a contribution to the net
abbrev pub Gives : Circuit → State → PortInputs → (Net → Bool) → Net → Drive → Type 0
Gives c s i v x d = (given i x ≡ d) ⊎ DrivesNet c s v x d

-- a closed join of two nets
pub record JoinsNets (c : Circuit) (s : State) (v : Net → Bool) (x y : Net) : Type 0 where
  pub leaf : LeafInstance
  pub there : c.has leaf
  pub pair : IsPair x y (c.joins leaf) (act_at c s v leaf).joins

-- through these nets
abbrev pub AreJoinedThrough : Circuit → State → (Net → Bool) → Net → List Net → Net → Type 0
AreJoinedThrough c s v x [] y = x ≡ y
AreJoinedThrough c s v x (z ∷ zs) y = JoinsNets c s v x z × AreJoinedThrough c s v z zs y

-- one group has both
pub record InGroup (c : Circuit) (s : State) (v : Net → Bool) (x y : Net) : Type 0 where
  pub through : List Net
  pub linked : AreJoinedThrough c s v x through y

-- no contribution of this kind in the group
abbrev pub HasNone : Circuit → State → PortInputs → (Net → Bool) → (Bool → Drive) → Net → Type 0
HasNone c s i v level x = (y : Net) (b : Bool) → InGroup c s v x y → Gives c s i v y (level b) → ⊥

pub record IsPhase (c : Circuit) (s : State) (i : PortInputs) (v : Net → Bool) (next : State) : Type 0 where
  pub strong : (x y : Net) (b : Bool) → InGroup c s v x y → Gives c s i v y (Strong b) → v x ≡ b
  pub weak : (x y : Net) (b : Bool) → InGroup c s v x y → HasNone c s i v Strong x → Gives c s i v y (Weak b) → v x ≡ b
  pub charge : (x y : Net) → c.knows x → InGroup c s v x y → HasNone c s i v Strong x → HasNone c s i v Weak x → v x ≡ s.charge y
  pub stored : (leaf : LeafInstance) → c.has leaf → bits (c.role leaf) next leaf ≡ (act_at c s v leaf).next
  pub charges : (x : Net) → c.knows x → next.charge x ≡ v x
