-- Which subcircuits can be written.
use Rattle.std.specs.Prelude.{◌≡◌, ◌≢◌, ◌⊎◌, ◌<◌, ◌≤◌, ℕ, List, [], ◌∷◌, length, map}
use Rattle.std.specs.List.{AllByRecursion}
use Rattle.netlist.specs.declared.deck.Subckt.{Subckt}
use Rattle.netlist.specs.declared.deck.Instance.{Instance}
use Rattle.spice_text.specs.Words.{lower}

-- 21 to 7E other than `=`
pub record IsNameByte (b : ℕ) : Type 0 where
  pub above : 33 ≤ b
  pub below : b ≤ 126
  pub other : b ≢ 61

-- one or more such bytes
pub record IsName (name : List ℕ) : Type 0 where
  pub some : 0 < length name
  pub bytes : AllByRecursion IsNameByte name

-- it begins with x or X
abbrev pub BeginsWithX : List ℕ → Type 0
BeginsWithX [] = ⊥
BeginsWithX (b ∷ bytes) = (b ≡ 120) ⊎ (b ≡ 88)

-- no two are the same
abbrev pub Differ : List (List ℕ) → Type 0
Differ [] = Unit {0}
Differ (name ∷ names) = AllByRecursion (λ other. name ≢ other) names × Differ names

pub record IsWritableInstance (i : Instance) : Type 0 where
  pub name : IsName i.name
  pub begins : BeginsWithX i.name
  pub nodes : AllByRecursion IsName i.nodes
  pub refers : IsName i.of

abbrev pub instance_name : Instance → List ℕ
instance_name i = lower i.name

pub record IsWritableSubckt (s : Subckt) : Type 0 where
  pub name : IsName s.name
  pub ports : AllByRecursion IsName s.ports
  pub ports_differ : Differ (map lower s.ports)
  pub instances : AllByRecursion IsWritableInstance s.instances
  pub instances_differ : Differ (map instance_name s.instances)
  pub no_raw : s.raw ≡ []

abbrev pub subckt_name : Subckt → List ℕ
subckt_name s = lower s.name

-- without regard to case, names differ
pub record AreWritable (subckts : List Subckt) : Type 0 where
  pub each : AllByRecursion IsWritableSubckt subckts
  pub differ : Differ (map subckt_name subckts)

-- the same with names in lower case
abbrev pub lowered_instance : Instance → Instance
lowered_instance i = record { name = lower i.name; nodes = map lower i.nodes; of = lower i.of }

abbrev pub lowered_subckt : Subckt → Subckt
lowered_subckt s = record { name = lower s.name; ports = map lower s.ports; instances = map lowered_instance s.instances; raw = s.raw }
