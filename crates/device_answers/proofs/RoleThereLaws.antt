-- Roles can be compared or have a fault, and leaf files have an answer or a fault.
use Rattle.std.proofs.Common.{◌≡◌, ◌≢◌, ◌⊎◌, inl, inr, ℕ, zero, suc, ◌+◌, ◌<◌, ◌≤◌, Bool, true, List, [], ◌∷◌, length, Option, Some, None, refl, sym, subst, ◌∙◌, arith}
use Rattle.std.specs.Prelude.{slice_get, filter, filter_map}
use Rattle.std.specs.List.{AllByRecursion}
use Rattle.std.specs.Option.{option_or}
use Rattle.label_binding.proofs.PlaceLaws.{at_contained}
use Rattle.gds_library.specs.Writable.{IsWritableCell}
use Rattle.netlist.specs.declared.deck.Subckt.{Subckt}
use Rattle.netlist.specs.declared.deck.Instance.{Instance}
use Rattle.spice_text.specs.Words.{lower}
use Rattle.tech_rules.specs.declared.tech.Device.{Device}
use Rattle.tech_rules.specs.declared.tech.RoleName.{RoleName}
use Rattle.cell_hierarchy.specs.Plain.{FlatLists}
use Rattle.device_entries.specs.declared.entry.DeviceEntry.{DeviceEntry}
use Rattle.device_entries.specs.Lines.{is_device_line, entry_in_line, AreLineEntries, IsFirstBadLine}
use Rattle.device_lvs.specs.declared.difference.DeviceDiff.{DeviceDiff}
use Rattle.device_lvs.specs.declared.fault.DeviceFault.{DeviceFault}
use Rattle.device_lvs.specs.declared.fault.DeviceFault.TheVariants.{NoDevices, Flatten, UnknownSubckt, Nested, BadDevice, Memory}
use Rattle.device_lvs.specs.Answer.{HasPair, IsDeviceFault, IsDeviceAnswer}
use Rattle.device_lvs.specs.EntrySteps.{HaveDevices}
use Rattle.device_lvs.specs.Roles.{LeafFiles, subckt_of, AreFlatOf, AreListedEntries, IsListFault, IsFaultOfRole}
use Rattle.device_lvs.specs.RoleSteps.{AreComparedBelow, IsRoleComparedAs}
use Rattle.device_lvs.proofs.RoleLaws.{answers, compared_more, faults, have_devices, list_faults, role_compared}
use Rattle.flat_answers.specs.FlatAnswers.{FlatListsOrFault}
use Rattle.flat_answers.proofs.DecisionLaws.{Decided, decide_bool, decide_both}
use Rattle.net_answers.proofs.DifferThereLaws.{first_or_none}
use Rattle.device_answers.proofs.DrawnThereLaws.{drawn_devices_are_there}
use Rattle.device_answers.proofs.PairThereLaws.{compared}

-- an M line with fewer than six words
abbrev IsBad : List ℕ → Type 0
IsBad line = (is_device_line line ≡ true) × (entry_in_line line ≡ None)

decide_bad : (line : List ℕ) → Decided (IsBad line)
decide_bad line = decide_both (is_device_line line ≡ true) (entry_in_line line ≡ None) (decide_bool (is_device_line line)) (by (entry_in_line line))
  where
    by : (o : Option DeviceEntry) → Decided (o ≡ None)
    by None = inl refl
    by (Some e) = inr (λ is. absurd cc)

lines_or_bad : (lines : List (List ℕ)) → ((entries : List DeviceEntry) × AreLineEntries lines entries) ⊎ ((place : ℕ) × IsFirstBadLine lines place)
lines_or_bad lines = elim (first_or_none IsBad decide_bad lines) [
  | inl f ↦ inr (
    f.0,
    record {
      line = f.1;
      there = f.2.here;
      begins = f.2.has.0;
      short = f.2.has.1;
      before = λ earlier other lt there begins none. f.2.before earlier other lt there (begins, none);
    },
  )
  | inr none ↦ inl (
    filter_map entry_in_line (filter is_device_line lines),
    record { good = λ line h begins short. none h.0 line (at_contained lines line h) (begins, short); are = refl },
  )
]

module _ (files : LeafFiles) where
  -- a fault of a role, and memory isn't the reason
  abbrev HasRoleFault : RoleName → Type 0
  HasRoleFault entry = (fault : DeviceFault) × (fault ≢ Memory) × IsFaultOfRole files entry fault

  -- the transistors of a role's subcircuit, or why they can't be compared
  abbrev HasListed : RoleName → Type 0
  HasListed entry = ((listed : List DeviceEntry) × AreListedEntries files.subckts entry listed) ⊎ ((fault : DeviceFault) × (fault ≢ Memory) × IsListFault files.subckts entry fault)

  listed_or_fault : (entry : RoleName) → HasListed entry
  listed_or_fault entry = by (subckt_of files.subckts entry) refl
    where
      plain : (subckt : Subckt) → subckt_of files.subckts entry ≡ Some subckt → subckt.instances ≡ [] → HasListed entry
      plain subckt there none = elim (lines_or_bad subckt.raw) [
        | inl h ↦ inl (h.0, record { subckt = subckt; there = there; plain = none; lines = h.1 })
        | inr h ↦ inr (BadDevice entry.role h.0, λ e. absurd cc, record { named = refl; subckt = subckt; there = there; plain = none; first = h.1 })
      ]

      by_instances : (subckt : Subckt) → subckt_of files.subckts entry ≡ Some subckt → (instances : List Instance) → subckt.instances ≡ instances → HasListed entry
      by_instances subckt there [] is = plain subckt there is
      by_instances subckt there (i ∷ more) is = inr (
        Nested entry.role,
        λ e. absurd cc,
        record {
          named = refl;
          subckt = subckt;
          there = there;
          some = λ none. let bad : ◌≡◌ {A = List Instance} (i ∷ more) [] = sym is ∙ none in absurd cc;
        },
      )

      by : (o : Option Subckt) → subckt_of files.subckts entry ≡ o → HasListed entry
      by None none = inr (UnknownSubckt (lower entry.cell), λ e. absurd cc, record { named = refl; none = none })
      by (Some subckt) there = by_instances subckt there subckt.instances refl

  drawn_pair : (entry : RoleName) (lists : FlatLists) → AreFlatOf files entry lists → (listed : List DeviceEntry) → AreListedEntries files.subckts entry listed → HasPair files entry
  drawn_pair entry lists flat listed are =
      let drawn = drawn_devices_are_there files.tech lists.shapes lists.labels in
      (record { role = entry.role; devices = files.tech.devices; drawn = drawn.0; listed = listed }, record { role = refl; devices = refl; lists = lists; flat = flat; drawn = drawn.1; listed = are })

  module _ (flat_or_fault : FlatListsOrFault) (writable : AllByRecursion IsWritableCell files.structs) where
    pair_or_fault : (entry : RoleName) → HasPair files entry ⊎ HasRoleFault entry
    pair_or_fault entry = elim (flat_or_fault files.tech.layers files.structs entry.cell writable) [
      | inr f ↦ inr (Flatten f.0, λ e. absurd cc, (f.1, f.2))
      | inl flat ↦ elim (listed_or_fault entry) [
        | inl h ↦ inl (drawn_pair entry flat.0 flat.1 h.0 h.1)
        | inr f ↦ inr (f.0, f.1, list_faults files entry f.0 flat f.2)
      ]
    ]

    role_there : (entry : RoleName) → ((difference : Option DeviceDiff) × IsRoleComparedAs files entry difference) ⊎ HasRoleFault entry
    role_there entry = elim (pair_or_fault entry) [
      | inr f ↦ inr f
      | inl p ↦
          let c = p.0 in
          let of = p.1 in
          let devices : HaveDevices c.devices c.drawn.channels = subst (λ (ds : List Device). HaveDevices ds c.drawn.channels) (sym of.devices) (have_devices files.tech of.lists c.drawn of.drawn) in
          let d = compared c devices in
          inl (d.0, role_compared files entry c d.0 of d.1)
    ]

    module _ (some : files.tech.devices ≢ []) where
      -- the first roles are compared, or one has a fault
      abbrev IsScanned : ℕ → Type 0
      IsScanned place = ((first : Option DeviceDiff) × AreComparedBelow files place first) ⊎ ((fault : DeviceFault) × (fault ≢ Memory) × IsDeviceFault files fault)

      scanned_more : (place : ℕ) (entry : RoleName) → slice_get files.tech.roles place ≡ Some entry → (first : Option DeviceDiff) → AreComparedBelow files place first → IsScanned (place + 1)
      scanned_more place entry there first are = elim (role_there entry) [
        | inl d ↦ inl (option_or first d.0, compared_more files place entry first d.0 there are d.1)
        | inr f ↦ inr (f.0, f.1, faults files place entry first f.0 some there are f.2)
      ]

      scan : (place : ℕ) → place ≤ length files.tech.roles → IsScanned place
      scan zero within = inl (None, λ earlier other lt there. absurd (omega (arith, lt)))
      scan (suc place) within = elim (scan place (omega (arith, within))) [
        | inr f ↦ inr f
        | inl c ↦
            let e = role_at files.tech.roles place (omega (arith, within)) in
            let next : place + 1 ≡ suc place = omega arith in
            subst IsScanned next (scanned_more place e.0 e.1 c.0 c.1)
      ]
        where
          role_at : (roles : List RoleName) (k : ℕ) → k < length roles → (entry : RoleName) × (slice_get roles k ≡ Some entry)
          role_at [] k lt = absurd (omega (arith, lt))
          role_at (r ∷ rs) zero lt = (r, refl)
          role_at (r ∷ rs) (suc k) lt = role_at rs k (omega (arith, lt))

      answer_or_fault : ((answer : Option DeviceDiff) × IsDeviceAnswer files answer) ⊎ ((fault : DeviceFault) × (fault ≢ Memory) × IsDeviceFault files fault)
      answer_or_fault = elim (scan (length files.tech.roles) (omega arith)) [
        | inr f ↦ inr f
        | inl c ↦ inl (c.0, answers files (length files.tech.roles) c.0 some (omega arith) c.1)
      ]

    pub files_answered : ((answer : Option DeviceDiff) × IsDeviceAnswer files answer) ⊎ ((fault : DeviceFault) × (fault ≢ Memory) × IsDeviceFault files fault)
    files_answered = by files.tech.devices refl
      where
        by : (devices : List Device) → files.tech.devices ≡ devices → ((answer : Option DeviceDiff) × IsDeviceAnswer files answer) ⊎ ((fault : DeviceFault) × (fault ≢ Memory) × IsDeviceFault files fault)
        by [] none = inr (NoDevices, λ e. absurd cc, none)
        by (d ∷ ds) is = answer_or_fault (λ none. let bad : ◌≡◌ {A = List Device} (d ∷ ds) [] = sym is ∙ none in absurd cc)
