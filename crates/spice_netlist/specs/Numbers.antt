-- Nets numbered by first appearance.
use Rattle.std.specs.Prelude.{◌≡◌, ◌⊎◌, ◌↔◌, ℕ, ◌<◌, ◌≤◌, List, [], ◌∷◌, ◌++◌, length, map, slice_index_or, Contains}
use Rattle.netlist.specs.declared.rows.RowPin.{RowPin}
use Rattle.spice_netlist.specs.Walk.{FlatNet, local}
use Rattle.spice_netlist.specs.Pins.{NamedPin}

-- what a row says but the number of its net
pub record PinLabel : Type 0 where
  pub path : List ℕ
  pub leaf : List ℕ
  pub pin : List ℕ

abbrev pub label_of_row : RowPin → PinLabel
label_of_row r = record { path = r.path; leaf = r.leaf; pin = r.pin }

abbrev pub label_of_named : NamedPin → PinLabel
label_of_named n = record { path = n.path; leaf = n.leaf; pin = n.pin }

abbrev pub net_at : List NamedPin → ℕ → FlatNet
net_at named k = slice_index_or (map (λ n. n.net) named) k (local [])

abbrev pub number_at : List RowPin → ℕ → ℕ
number_at rows k = slice_index_or (map (λ r. r.net) rows) k 0

-- a number stands before the index
pub record HasBefore (numbers : List ℕ) (index number : ℕ) : Type 0 where
  pub earlier : ℕ
  pub before : earlier < index
  pub is : slice_index_or numbers earlier 0 ≡ number

-- the named rows with numbers in place of nets: two have one number exactly where they have one net, and of smaller
-- numbers each has stood before
pub record AreNumberedRows (named : List NamedPin) (rows : List RowPin) : Type 0 where
  pub labels : map label_of_row rows ≡ map label_of_named named
  pub one : (j k : ℕ) → j < length named → k < length named
      → (number_at rows j ≡ number_at rows k) ↔ (net_at named j ≡ net_at named k)
  pub first : (k smaller : ℕ) → k < length named → smaller < number_at rows k
      → HasBefore (map (λ r. r.net) rows) k smaller

-- the net stands in the list at the number, and the list is the old one or has the net behind it
pub record IsNumberOf (nets : List (List ℕ)) (net : List ℕ) (number : ℕ) (nets' : List (List ℕ)) : Type 0 where
  pub either : (nets' ≡ nets) ⊎ ((nets' ≡ nets ++ net ∷ []) × (number ≡ length nets) × (Contains nets net → ⊥))
  pub within : number < length nets'
  pub is : slice_index_or nets' number [] ≡ net

-- the numbers are the indices of these nets in the table, whose nets are distinct and have come in this order
pub record IsTableNumbering (nets : List (List ℕ)) (numbers : List ℕ) (table : List (List ℕ)) : Type 0 where
  pub sized : length numbers ≡ length nets
  pub few : length table ≤ length nets
  pub each : (k : ℕ) → k < length nets
      → (slice_index_or numbers k 0 < length table) × (slice_index_or table (slice_index_or numbers k 0) [] ≡ slice_index_or nets k [])
  pub once : (i j : ℕ) → i < length table → j < length table
      → slice_index_or table i [] ≡ slice_index_or table j [] → i ≡ j
  pub had : (number : ℕ) → number < length table → HasBefore numbers (length nets) number
  pub first : (k smaller : ℕ) → k < length nets → smaller < slice_index_or numbers k 0 → HasBefore numbers k smaller
