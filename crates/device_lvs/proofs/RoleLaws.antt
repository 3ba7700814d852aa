-- Roles one after another: the first fault, and the first difference.
use Rattle.std.proofs.Common.{◌≡◌, ◌≢◌, inl, inr, ℕ, ◌+◌, ◌<◌, ◌≤◌, ◌==◌, Bool, true, false, List, [], length, Option, None, Some, Result, Ok, Err, IfErr, refl, sym, ap, subst, ◌∙◌, arith}
use Rattle.std.specs.Prelude.{slice_get}
use Rattle.std.specs.List.{find}
use Rattle.std.specs.Option.{option_or}
use Rattle.std.specs.Str.{bytes_eq}
use Rattle.std.proofs.lemmas.Option.{slice_get_within}
use Rattle.or_geom.proofs.ListLaws.{below_or, one_at}
use Rattle.netlist.specs.declared.deck.Subckt.{Subckt}
use Rattle.spice_text.specs.Words.{lower}
use Rattle.tech_rules.specs.declared.tech.RoleName.{RoleName}
use Rattle.tech_rules.specs.declared.tech.Tech.{Tech}
use Rattle.cell_hierarchy.specs.FlatLists.{AreFlatLists}
use Rattle.cell_hierarchy.specs.Plain.{FlatLists}
use Rattle.device_entries.specs.declared.entry.DeviceEntry.{DeviceEntry}
use Rattle.drawn_devices.specs.declared.drawn.DrawnDevices.{DrawnDevices}
use Rattle.drawn_devices.specs.Drawn.{AreDrawnDevices}
use Rattle.device_lvs.specs.declared.difference.DeviceDiff.{DeviceDiff}
use Rattle.device_lvs.specs.declared.fault.DeviceFault.{DeviceFault}
use Rattle.device_lvs.specs.declared.fault.DeviceFault.TheVariants.{NoDevices, Flatten, UnknownSubckt, Nested, BadDevice, Memory}
use Rattle.device_lvs.specs.Answer.{HasPair, IsRoleAlike, AllBefore, AllRoles, IsDeviceFault, IsDeviceAnswer}
use Rattle.device_lvs.specs.CompareSteps.{AreComparedAs}
use Rattle.device_lvs.specs.Difference.{CellPair, IsAlike}
use Rattle.device_lvs.specs.EntrySteps.{HaveDevices}
use Rattle.device_lvs.specs.Roles.{LeafFiles, subckt_of, AreListedEntries, IsFlat, IsPairOf, IsListFault, IsFaultOfRole}
use Rattle.device_lvs.specs.RoleSteps.{HasEarlierCell, IsRoleComparedAs, AreComparedBelow, IsFlattenFault, IsPlainFault}

pub have_devices : (tech : Tech) (lists : FlatLists) (drawn : DrawnDevices) → AreDrawnDevices tech lists.shapes lists.labels drawn → HaveDevices tech.devices drawn.channels
have_devices tech lists drawn are = λ channel there. let of = are.each channel there in slice_get_within tech.devices channel.device of.device of.there

pub role_compared : (files : LeafFiles) (entry : RoleName) (c : CellPair) (difference : Option DeviceDiff) → IsPairOf files entry c → AreComparedAs c difference → IsRoleComparedAs files entry difference
role_compared files entry c None of is = (c, of, is)
role_compared files entry c (Some difference) of is = (c, of, is)

pub flatten_faults : (files : LeafFiles) (entry : RoleName) (fault : DeviceFault) → IsFlattenFault files.tech.layers files.structs entry.cell fault → IsFaultOfRole files entry fault
flatten_faults files entry NoDevices is = absurd is
flatten_faults files entry (Flatten fault) is = is
flatten_faults files entry (UnknownSubckt name) is = absurd is
flatten_faults files entry (Nested role) is = absurd is
flatten_faults files entry (BadDevice role line) is = absurd is
flatten_faults files entry Memory is = tt

pub list_faults : (files : LeafFiles) (entry : RoleName) (fault : DeviceFault) → IsFlat files entry → IsListFault files.subckts entry fault → IsFaultOfRole files entry fault
list_faults files entry NoDevices flat is = absurd is
list_faults files entry (Flatten fault) flat is = absurd is
list_faults files entry (UnknownSubckt name) flat is = (flat, is)
list_faults files entry (Nested role) flat is = (flat, is)
list_faults files entry (BadDevice role line) flat is = (flat, is)
list_faults files entry Memory flat is = tt

has_pair : (files : LeafFiles) (entry : RoleName) (difference : Option DeviceDiff) → IsRoleComparedAs files entry difference → HasPair files entry
has_pair files entry None is = (is.0, is.1)
has_pair files entry (Some difference) is = (is.0, is.1)

all_more : (files : LeafFiles) (P : RoleName → Type 0) (place : ℕ) (entry : RoleName) → slice_get files.tech.roles place ≡ Some entry → AllBefore files P place → P entry → AllBefore files P (place + 1)
all_more files P place entry here so_far one = λ earlier other before there. elim (below_or earlier place before) [
  | inl lt ↦ so_far earlier other lt there
  | inr same ↦ subst P (one_at files.tech.roles place entry other here (subst (λ (k : ℕ). slice_get files.tech.roles k ≡ Some other) same there)) one
]

pub pairs_below : (files : LeafFiles) (place : ℕ) (first : Option DeviceDiff) → AreComparedBelow files place first → AllBefore files (HasPair files) place
pairs_below files place None alike = λ earlier other before there. let a = alike earlier other before there in (a.0, a.1)
pairs_below files place (Some difference) found = found.0

-- one role more
pub compared_more : (files : LeafFiles) (place : ℕ) (entry : RoleName) (first found : Option DeviceDiff) → slice_get files.tech.roles place ≡ Some entry → AreComparedBelow files place first → IsRoleComparedAs files entry found
    → AreComparedBelow files (place + 1) (option_or first found)
compared_more files place entry (Some difference) found here so_far one =
    let f = so_far.1 in
    let below = f.below in (
      all_more files (HasPair files) place entry here so_far.0 (has_pair files entry found one),
      record { place = f.place; below = omega (arith, below); entry = f.entry; there = f.there; is = f.is; before = f.before },
    )
compared_more files place entry None None here so_far one = all_more files (IsRoleAlike files) place entry here so_far one
compared_more files place entry None (Some difference) here so_far one = (
  all_more files (HasPair files) place entry here (pairs_below files place None so_far) (has_pair files entry (Some difference) one),
  record { place = place; below = omega arith; entry = entry; there = here; is = one; before = so_far },
)

-- Roles that have one cell

listed_again : (subckts : List Subckt) (other entry : RoleName) (listed : List DeviceEntry) → other.cell ≡ entry.cell → AreListedEntries subckts other listed → AreListedEntries subckts entry listed
listed_again subckts other entry listed same are = record {
  subckt = are.subckt;
  there = subst (λ (cell : List ℕ). find (λ (subckt : Subckt). bytes_eq subckt.name (lower cell)) subckts ≡ Some are.subckt) same are.there;
  plain = are.plain;
  lines = are.lines;
}

-- what is compared of the one, under the name of the other
abbrev pub renamed : CellPair → RoleName → CellPair
renamed c entry = record { role = entry.role; devices = c.devices; drawn = c.drawn; listed = c.listed }

pair_again : (files : LeafFiles) (other entry : RoleName) (c : CellPair) → other.cell ≡ entry.cell → IsPairOf files other c → IsPairOf files entry (renamed c entry)
pair_again files other entry c same of = record {
  role = refl;
  devices = of.devices;
  lists = of.lists;
  flat = subst (λ (cell : List ℕ). AreFlatLists files.tech.layers files.structs cell of.lists) same of.flat;
  drawn = of.drawn;
  listed = listed_again files.subckts other entry c.listed same of.listed;
}

alike_again : (c : CellPair) (entry : RoleName) → IsAlike c → IsAlike (renamed c entry)
alike_again c entry is =
    let apart = is.comparable.apart in
    let whole = apart.whole in
    record {
      comparable = record { apart = record { whole = record { sound = whole.sound; split = whole.split }; joined = apart.joined }; named = is.comparable.named };
      entries = is.entries;
      are = is.are;
      even = is.even;
    }

-- a role more whose cell an earlier one has
pub compared_again : (files : LeafFiles) (place : ℕ) (first : Option DeviceDiff) → HasEarlierCell files.tech.roles place → AreComparedBelow files place first → AreComparedBelow files (place + 1) first
compared_again files place None again alike =
    let a = alike again.earlier again.other again.before again.there in
    all_more files (IsRoleAlike files) place again.entry again.here alike (renamed a.0 again.entry, pair_again files again.other again.entry a.0 again.cell a.1, alike_again a.0 again.entry a.2)
compared_again files place (Some difference) again found =
    let a = found.0 again.earlier again.other again.before again.there in
    let f = found.1 in
    let below = f.below in (
      all_more files (HasPair files) place again.entry again.here found.0 (renamed a.0 again.entry, pair_again files again.other again.entry a.0 again.cell a.1),
      record { place = f.place; below = omega (arith, below); entry = f.entry; there = f.there; is = f.is; before = f.before },
    )

all_roles : (files : LeafFiles) (P : RoleName → Type 0) (bound : ℕ) → length files.tech.roles ≤ bound → AllBefore files P bound → AllRoles files P
all_roles files P bound past all = λ place entry there. let inside = slice_get_within files.tech.roles place entry there in all place entry (omega (arith, inside, past)) there

-- all roles
pub answers : (files : LeafFiles) (bound : ℕ) (first : Option DeviceDiff) → files.tech.devices ≢ [] → length files.tech.roles ≤ bound → AreComparedBelow files bound first → IsDeviceAnswer files first
answers files bound None some past alike = record { some = some; alike = all_roles files (IsRoleAlike files) bound past alike }
answers files bound (Some difference) some past found = record {
  some = some;
  pairs = all_roles files (HasPair files) bound past found.0;
  place = found.1.place;
  entry = found.1.entry;
  there = found.1.there;
  is = found.1.is;
  before = found.1.before;
}

-- a role that can't be compared, after others that can
pub faults : (files : LeafFiles) (place : ℕ) (entry : RoleName) (first : Option DeviceDiff) (fault : DeviceFault) → files.tech.devices ≢ [] → slice_get files.tech.roles place ≡ Some entry → AreComparedBelow files place first → IsFaultOfRole files entry fault
    → IsDeviceFault files fault
faults files place entry first NoDevices some here so_far is = absurd is
faults files place entry first (Flatten fault) some here so_far is = record { some = some; place = place; entry = entry; there = here; is = is; before = pairs_below files place first so_far }
faults files place entry first (UnknownSubckt name) some here so_far is = record { some = some; place = place; entry = entry; there = here; is = is; before = pairs_below files place first so_far }
faults files place entry first (Nested role) some here so_far is = record { some = some; place = place; entry = entry; there = here; is = is; before = pairs_below files place first so_far }
faults files place entry first (BadDevice role line) some here so_far is = record { some = some; place = place; entry = entry; there = here; is = is; before = pairs_below files place first so_far }
faults files place entry first Memory some here so_far is = tt

-- why the subcircuit that a role has can't be compared
plain_fault : (subckts : List Subckt) (entry : RoleName) (subckt : Subckt) (fault : DeviceFault) → subckt_of subckts entry ≡ Some subckt → IsPlainFault entry.role subckt fault → IsListFault subckts entry fault
plain_fault subckts entry subckt NoDevices there is = absurd is
plain_fault subckts entry subckt (Flatten fault) there is = absurd is
plain_fault subckts entry subckt (UnknownSubckt name) there is = absurd is
plain_fault subckts entry subckt (Nested role) there is = record { named = is.0; subckt = subckt; there = there; some = is.1 }
plain_fault subckts entry subckt (BadDevice role line) there is = record { named = is.0; subckt = subckt; there = there; plain = is.1; first = is.2 }
plain_fault subckts entry subckt Memory there is = tt

pub plain_faults : {X : Type 0} (subckts : List Subckt) (entry : RoleName) (subckt : Subckt) (result : Result X DeviceFault) → subckt_of subckts entry ≡ Some subckt → IfErr result (IsPlainFault entry.role subckt) → IfErr result (IsListFault subckts entry)
plain_faults subckts entry subckt (Ok x) there is = tt
plain_faults subckts entry subckt (Err fault) there is = plain_fault subckts entry subckt fault there is

pub not_empty : {X : Type 0} (xs : List X) (b : Bool) → b ≡ (length xs == 0) → b ≡ false → xs ≢ []
not_empty {X} xs b is fails = λ e.
    let none : (length xs == 0) ≡ true = ap (λ (l : List X). length l == 0) e in
    let clash : false ≡ true = sym fails ∙ is ∙ none in
    cc
