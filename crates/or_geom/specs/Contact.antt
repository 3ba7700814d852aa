-- How two spans of one axis lie to each other.
use Rattle.std.specs.Prelude.{◌≡◌, ◌⊎◌, ◌<ℤ◌, Bool, true, false}
use Rattle.or_geom.specs.declared.contact.Contact.{Contact}
use Rattle.or_geom.specs.declared.contact.Contact.TheVariants.{Apart, Touching, Overlapping}
use Rattle.or_geom.specs.declared.span.Span.{Span}

abbrev pub IsContact : Contact → Span → Span → Type 0
IsContact Apart a b = (a.high <ℤ b.low) ⊎ (b.high <ℤ a.low)
IsContact Touching a b = (a.high ≡ b.low) ⊎ (b.high ≡ a.low)
IsContact Overlapping a b = (a.low <ℤ b.high) × (b.low <ℤ a.high)

-- whether rectangles that lie so on the two axes are joined
abbrev pub is_joint_of : Contact → Contact → Bool
is_joint_of Apart y = false
is_joint_of Touching Apart = false
is_joint_of Touching Touching = false
is_joint_of Touching Overlapping = true
is_joint_of Overlapping Apart = false
is_joint_of Overlapping Touching = true
is_joint_of Overlapping Overlapping = true
