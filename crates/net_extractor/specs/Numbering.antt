-- Numbers of nets, given to their roots.
use Rattle.std.specs.Prelude.{◌≡◌, ◌⊎◌, ℕ, ◌+◌, ◌<◌, List, length, slice_get, slice_set, Some, None}
use Rattle.or_geom.specs.declared.shape.Shape.{Shape}
use Rattle.tech_rules.specs.declared.tech.Connect.{Connect}
use Rattle.net_extractor.specs.declared.numbering.Numbering.{Numbering}
use Rattle.net_extractor.specs.NetRoots.{AreNetRoots}

-- the root has a number
abbrev pub IsGivenTo : Numbering → ℕ → ℕ → Type 0
IsGivenTo numbering root number = slice_get numbering.numbers.items root ≡ Some (Some number)

-- the root of the shape at the place has a number
pub record NetHasNumber (numbering : Numbering) (place number : ℕ) : Type 0 where
  pub root : ℕ
  pub up : slice_get numbering.roots.items place ≡ Some root
  pub is : IsGivenTo numbering root number

-- there is room for a number of each root
pub record AreRootsWithin (numbering : Numbering) : Type 0 where
  pub within : (place root : ℕ) → slice_get numbering.roots.items place ≡ Some root → root < length numbering.numbers.items

-- numbers for some nets, each below the next one, and no two the same
pub record IsNumbering (connections : List Connect) (shapes : List Shape) (numbering : Numbering) : Type 0 where
  pub roots : AreNetRoots connections shapes numbering.roots.items
  pub sized : length numbering.numbers.items ≡ length shapes
  pub below : (root number : ℕ) → IsGivenTo numbering root number → number < numbering.next
  pub one : (root other number : ℕ) → IsGivenTo numbering root number → IsGivenTo numbering other number → root ≡ other

-- the root had the number
pub record HadNumber (old : Numbering) (place number : ℕ) (new : Numbering) : Type 0 where
  pub had : NetHasNumber old place number
  pub same : new ≡ old

-- it had none, and has the next one now
pub record GetsNumber (old : Numbering) (place number : ℕ) (new : Numbering) : Type 0 where
  pub root : ℕ
  pub up : slice_get old.roots.items place ≡ Some root
  pub none : slice_get old.numbers.items root ≡ Some None
  pub is : number ≡ old.next
  pub roots : new.roots.items ≡ old.roots.items
  pub numbers : new.numbers.items ≡ slice_set old.numbers.items root (Some number)
  pub next : new.next ≡ old.next + 1

abbrev pub IsNumberAt : Numbering → ℕ → ℕ → Numbering → Type 0
IsNumberAt old place number new = HadNumber old place number new ⊎ GetsNumber old place number new
