-- The names of a cell's nets, which are given by numbers.
use Rattle.std.specs.Prelude.{◌≡◌, ◌≢◌, ℕ, List, Contains}
use Rattle.std.specs.Ordering.{ordering_then}
use Rattle.std.specs.declared.cmp.Ordering.{Ordering}
use Rattle.std.specs.declared.cmp.Ordering.TheVariants.{Less, Greater}
use Rattle.or_geom.specs.Least.{name_order}
use Rattle.drawn_devices.specs.declared.drawn.NetName.{NetName}

-- the net of this number has the name
abbrev pub HasName : List NetName → ℕ → List ℕ → Type 0
HasName names net name = Contains names (record { name = name; net = net })

-- the net of this number has a name
abbrev pub HasSomeName : List NetName → ℕ → Type 0
HasSomeName names net = (name : List ℕ) × HasName names net name

-- the name is on two nets
pub record IsOnTwoNets (names : List NetName) (name : List ℕ) : Type 0 where
  pub one : ℕ
  pub other : ℕ
  pub has : HasName names one name
  pub other_has : HasName names other name
  pub differ : one ≢ other

-- the two names, the lesser first, are on one net
pub record ShareNet (names : List NetName) (first second : List ℕ) : Type 0 where
  pub net : ℕ
  pub has : HasName names net first
  pub other_has : HasName names net second
  pub rise : name_order first second ≡ Less

-- by the first name and then the second, each by its bytes
abbrev pub pair_order : List ℕ × List ℕ → List ℕ × List ℕ → Ordering
pair_order a b = ordering_then (name_order a.0 b.0) (name_order a.1 b.1)

-- the least pair of names on one net
pub record IsLeastPair (names : List NetName) (first second : List ℕ) : Type 0 where
  pub shared : ShareNet names first second
  pub least : (a b : List ℕ) → ShareNet names a b → pair_order (first, second) (a, b) ≢ Greater

-- no name is on two nets
abbrev pub AreNotSplit : List NetName → Type 0
AreNotSplit names = (name : List ℕ) → IsOnTwoNets names name → ⊥

-- no two names are on one net
abbrev pub AreNotJoined : List NetName → Type 0
AreNotJoined names = (first second : List ℕ) → ShareNet names first second → ⊥
