-- The first difference of a technology's leaf cells from their subcircuits, or why there is no answer.
use Rattle.std.specs.Prelude.{◌≡◌, ◌≢◌, ℕ, ◌<◌, [], slice_get, Option, Some, None}
use Rattle.tech_rules.specs.declared.tech.RoleName.{RoleName}
use Rattle.device_lvs.specs.declared.difference.DeviceDiff.{DeviceDiff}
use Rattle.device_lvs.specs.declared.fault.DeviceFault.{DeviceFault}
use Rattle.device_lvs.specs.declared.fault.DeviceFault.TheVariants.{NoDevices, Flatten, UnknownSubckt, Nested, BadDevice, Memory}
use Rattle.device_lvs.specs.Difference.{CellPair, IsAlike, IsDifferenceIn}
use Rattle.device_lvs.specs.Roles.{LeafFiles, IsPairOf, IsFaultOfRole}

-- the role can be compared
abbrev pub HasPair : LeafFiles → RoleName → Type 0
HasPair files entry = (c : CellPair) × IsPairOf files entry c

-- the role's cell has the transistors of its subcircuit
abbrev pub IsRoleAlike : LeafFiles → RoleName → Type 0
IsRoleAlike files entry = (c : CellPair) × IsPairOf files entry c × IsAlike c

-- or they differ in this
abbrev pub IsRoleDifference : LeafFiles → RoleName → DeviceDiff → Type 0
IsRoleDifference files entry difference = (c : CellPair) × IsPairOf files entry c × IsDifferenceIn c difference

-- each of the roles before the place has P
abbrev pub AllBefore : LeafFiles → (RoleName → Type 0) → ℕ → Type 0
AllBefore files P place = (earlier : ℕ) (other : RoleName) → earlier < place → slice_get files.tech.roles earlier ≡ Some other → P other

-- each of the roles has P
abbrev pub AllRoles : LeafFiles → (RoleName → Type 0) → Type 0
AllRoles files P = (place : ℕ) (entry : RoleName) → slice_get files.tech.roles place ≡ Some entry → P entry

-- the first role that can't be compared, and why
pub record IsFirstRoleFault (files : LeafFiles) (fault : DeviceFault) : Type 0 where
  pub some : files.tech.devices ≢ []
  pub place : ℕ
  pub entry : RoleName
  pub there : slice_get files.tech.roles place ≡ Some entry
  pub is : IsFaultOfRole files entry fault
  pub before : AllBefore files (HasPair files) place

-- Why there is no answer: the technology has no device; or else the first role that can't be compared.
abbrev pub IsDeviceFault : LeafFiles → DeviceFault → Type 0
IsDeviceFault files NoDevices = files.tech.devices ≡ []
IsDeviceFault files (Flatten fault) = IsFirstRoleFault files (Flatten fault)
IsDeviceFault files (UnknownSubckt name) = IsFirstRoleFault files (UnknownSubckt name)
IsDeviceFault files (Nested role) = IsFirstRoleFault files (Nested role)
IsDeviceFault files (BadDevice role line) = IsFirstRoleFault files (BadDevice role line)
IsDeviceFault files Memory = Unit {0}

-- the technology has a device, and every role can be compared and is alike
pub record AreAlikeDevices (files : LeafFiles) : Type 0 where
  pub some : files.tech.devices ≢ []
  pub alike : AllRoles files (IsRoleAlike files)

-- the technology has a device, every role can be compared, and this is what the first differs in that isn't alike
pub record IsFirstDeviceDiff (files : LeafFiles) (difference : DeviceDiff) : Type 0 where
  pub some : files.tech.devices ≢ []
  pub pairs : AllRoles files (HasPair files)
  pub place : ℕ
  pub entry : RoleName
  pub there : slice_get files.tech.roles place ≡ Some entry
  pub is : IsRoleDifference files entry difference
  pub before : AllBefore files (IsRoleAlike files) place

abbrev pub IsDeviceAnswer : LeafFiles → Option DeviceDiff → Type 0
IsDeviceAnswer files None = AreAlikeDevices files
IsDeviceAnswer files (Some difference) = IsFirstDeviceDiff files difference
