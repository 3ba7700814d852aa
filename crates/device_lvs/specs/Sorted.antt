-- The names of nets in order: by name, or by net.
use Rattle.std.specs.Prelude.{◌≡◌, ◌≢◌, ◌↔◌, ℕ, ◌+◌, ◌<◌, List, [], Contains, slice_get, false, Option, Some, None, option_map, unwrap_or}
use Rattle.std.specs.Ordering.{ordering_then, nat_cmp, is_lt}
use Rattle.std.specs.List.Sorted.{IsSorted}
use Rattle.std.specs.declared.cmp.Ordering.{Ordering}
use Rattle.or_geom.specs.Least.{name_order}
use Rattle.drawn_devices.specs.declared.drawn.NetName.{NetName}
use Rattle.device_lvs.specs.NetNames.{pair_order}
use denote.Ref.{Bor}

-- by name and then net
abbrev pub by_name : NetName → NetName → Ordering
by_name a b = ordering_then (name_order a.name b.name) (nat_cmp a.net b.net)

-- by net and then name
abbrev pub by_net : NetName → NetName → Ordering
by_net a b = ordering_then (nat_cmp a.net b.net) (name_order a.name b.name)

-- the same names, in this order
pub record AreNamesSorted (order : NetName → NetName → Ordering) (names sorted : List NetName) : Type 0 where
  pub rise : IsSorted order sorted
  pub same : (name : NetName) → Contains names name ↔ Contains sorted name

-- the items at the place and at the next one
pub record AreNeighbours (names : List NetName) (place : ℕ) (one other : NetName) : Type 0 where
  pub here : slice_get names place ≡ Some one
  pub next : slice_get names (place + 1) ≡ Some other

-- one name on two nets
pub record AreSplitAt (names : List NetName) (place : ℕ) : Type 0 where
  pub one : NetName
  pub other : NetName
  pub at : AreNeighbours names place one other
  pub named : one.name ≡ other.name
  pub apart : one.net ≢ other.net

-- at none of the places before the bound
abbrev pub AreNotSplitBelow : List NetName → ℕ → Type 0
AreNotSplitBelow names bound = (place : ℕ) → place < bound → AreSplitAt names place → ⊥

-- at this place, and at none before
pub record IsFirstSplit (names : List NetName) (place : ℕ) : Type 0 where
  pub split : AreSplitAt names place
  pub first : AreNotSplitBelow names place

-- one net with two names
pub record AreJoinedAt (names : List NetName) (place : ℕ) : Type 0 where
  pub one : NetName
  pub other : NetName
  pub at : AreNeighbours names place one other
  pub joined : one.net ≡ other.net
  pub apart : one.name ≢ other.name

-- at none of the places before the bound
abbrev pub AreNotJoinedBelow : List NetName → ℕ → Type 0
AreNotJoinedBelow names bound = (place : ℕ) → place < bound → AreJoinedAt names place → ⊥

-- the name at the place
abbrev pub name_at : List NetName → ℕ → List ℕ
name_at names place = unwrap_or (option_map (λ (n : NetName). n.name) (slice_get names place)) []

-- that and the next one
abbrev pub names_at : List NetName → ℕ → List ℕ × List ℕ
names_at names place = (name_at names place, name_at names (place + 1))

-- of the places before the bound where a net has two names, one with the least two
pub record IsLeastJoined (names : List NetName) (bound place : ℕ) : Type 0 where
  pub joined : AreJoinedAt names place
  pub least : (other : ℕ) → other < bound → AreJoinedAt names other → is_lt (pair_order (names_at names other) (names_at names place)) ≡ false

-- there is none, or this one
abbrev pub AreLeastBelow : List NetName → ℕ → Option ℕ → Type 0
AreLeastBelow names bound None = AreNotJoinedBelow names bound
AreLeastBelow names bound (Some place) = IsLeastJoined names bound place

-- a name and its net as they stand in a list in order of names, or of nets
abbrev pub name_first : Bor (List ℕ) × ℕ → NetName
name_first p = record { name = p.0.now; net = p.1 }

abbrev pub net_first : ℕ × Bor (List ℕ) → NetName
net_first p = record { name = p.1.now; net = p.0 }
