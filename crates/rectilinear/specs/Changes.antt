-- Where the sides of a ring begin and end, from the lowest height up.
use Rattle.std.specs.Prelude.{◌≡◌, ◌≢◌, ◌⊎◌, ℤ, ◌≤ℤ◌, List, [], ◌∷◌, ◌++◌, Bool, false, not, int_le}
use Rattle.rectilinear.specs.declared.changes.Change.{Change}
use Rattle.rectilinear.specs.declared.ends.End.{End}
use Rattle.rectilinear.specs.declared.ring.RingSide.{RingSide}
use Rattle.rectilinear.specs.Slabs.{xor}
use Rattle.rectilinear.specs.Rows.{is_odd, is_odd_to, Rise}

-- each side begins at one height and ends at another
abbrev pub changes_of : List RingSide → List Change
changes_of [] = []
changes_of (s ∷ ss) = record { y = s.a.y; x = s.a.x } ∷ record { y = s.b.y; x = s.a.x } ∷ changes_of ss

-- the heights do not fall, from low on
abbrev pub ClimbFrom : ℤ → List Change → Type 0
ClimbFrom low [] = Unit {0}
ClimbFrom low (c ∷ cs) = (low ≤ℤ c.y) × ClimbFrom c.y cs

abbrev pub Climb : List Change → Type 0
Climb [] = Unit {0}
Climb (c ∷ cs) = ClimbFrom c.y cs

-- one of the changes is at this height
abbrev pub HasChange : List Change → ℤ → Type 0
HasChange [] h = ⊥
HasChange (c ∷ cs) h = (h ≡ c.y) ⊎ HasChange cs h

-- all of them are at this height
abbrev pub AreAtHeight : ℤ → List Change → Type 0
AreAtHeight h [] = Unit {0}
AreAtHeight h (c ∷ cs) = (c.y ≡ h) × AreAtHeight h cs

-- the first of them, if there is one, is at another height
abbrev pub BeginsElsewhere : ℤ → List Change → Type 0
BeginsElsewhere h [] = Unit {0}
BeginsElsewhere h (c ∷ cs) = c.y ≢ h

-- the number of changes is odd
abbrev pub is_odd_count : List Change → Bool
is_odd_count [] = false
is_odd_count (c ∷ cs) = not (is_odd_count cs)

-- an odd number of them lie at or left of x
abbrev pub is_odd_until : List Change → ℤ → Bool
is_odd_until [] x = false
is_odd_until (c ∷ cs) x = xor (int_le c.x x) (is_odd_until cs x)

-- the ends after the changes, each of which adds one or takes one away
pub record TogglesAll (changes : List Change) (old new : List End) : Type 0 where
  pub rise : Rise new
  pub odd : is_odd new ≡ xor (is_odd_count changes) (is_odd old)
  pub same : (x : ℤ) → is_odd_to new x ≡ xor (is_odd_until changes x) (is_odd_to old x)

-- the changes at one height are done, and the rest begins elsewhere
pub record Passes (changes : List Change) (height : ℤ) (old : List End) (rest : List Change) (new : List End) : Type 0 where
  pub passed : List Change
  pub parts : changes ≡ passed ++ rest
  pub level : AreAtHeight height passed
  pub elsewhere : BeginsElsewhere height rest
  pub toggled : TogglesAll passed old new
