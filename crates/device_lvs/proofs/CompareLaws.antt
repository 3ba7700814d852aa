-- What the first difference is, from what is compared.
use Rattle.std.proofs.Common.{◌≡◌, None, Some}
use Rattle.device_lvs.specs.declared.difference.DeviceDiff.{DeviceDiff}
use Rattle.device_lvs.specs.declared.difference.DeviceDiff.TheVariants.{NotBox, Open, Short, Nameless, Absent, Extra}
use Rattle.device_lvs.specs.CompareSteps.{IsDifferenceOfNames}
use Rattle.device_lvs.specs.Difference.{CellPair, AreAllSound, AreApartNets, IsDifferenceIn}

pub names_differ : (c : CellPair) (difference : DeviceDiff) → AreAllSound c → IsDifferenceOfNames c.role c.drawn.names (Some difference) → IsDifferenceIn c difference
names_differ c (NotBox role x y) sound is = absurd is
names_differ c (Open role name) sound is = (is.0, sound, is.1)
names_differ c (Short role first second) sound is = (is.0, record { sound = sound; split = is.1 }, is.2)
names_differ c (Nameless role x y) sound is = absurd is
names_differ c (Absent role model gate low high) sound is = absurd is
names_differ c (Extra role model gate low high) sound is = absurd is

pub names_agree : (c : CellPair) → AreAllSound c → IsDifferenceOfNames c.role c.drawn.names None → AreApartNets c
names_agree c sound is = record { whole = record { sound = sound; split = is.0 }; joined = is.1 }
