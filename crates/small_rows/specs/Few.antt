-- Few of many, and the bits of a small memory's word.
use Rattle.std.specs.Prelude.{◌≡◌, ◌⊎◌, ℕ, ◌+◌, ◌<◌, ◌≤◌}
use Rattle.sram_netlist.specs.Organization.{Organization}

-- of n, the one at c, which is so many behind one of the k others; what is near to it is there too, to both sides
pub record IsAmongFew (n k c m : ℕ) : Type 0 where
  pub d : ℕ
  pub sum : c ≡ d + m
  pub inside : d < k
  pub within : k + m ≤ n
  pub next : c + 1 < n → d + 1 < k
  pub left : (m ≡ 0) ⊎ (1 ≤ d)
  pub right : (n ≡ k + m) ⊎ (d + 3 ≤ k)

-- A word of as many bits, but at most four. It is written as a whole where the memory has no masks, else bit by bit.
pub record IsFewBits (plan : Organization) (word write masks : ℕ) : Type 0 where
  pub few : ((word ≡ plan.word_size) × (word ≤ 4)) ⊎ ((word ≡ 4) × (4 ≤ plan.word_size))
  pub written : 0 < write
  pub masks_are : ((plan.masks ≡ 0) × (masks ≡ 0)) ⊎ ((2 ≤ plan.masks) × (2 ≤ masks) × (write ≡ 1) × (masks ≡ word))
