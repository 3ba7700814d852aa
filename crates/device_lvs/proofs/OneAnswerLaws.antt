-- Leaf files have one answer or one refusal.
use Rattle.std.proofs.Common.{◌≡◌, ◌≢◌, ◌⊎◌, inl, inr, ℕ, ◌<◌, ◌≤◌, [], Option, None, Some, refl, sym, ap, subst, ◌∙◌, arith}
use Rattle.std.specs.Prelude.{slice_get}
use Rattle.std.specs.List.{AllByRecursion}
use Rattle.std.proofs.lemmas.Bool.{cases_lt}
use Rattle.std.proofs.lemmas.Option.{same_Some}
use Rattle.or_geom.proofs.ListLaws.{one_at}
use Rattle.gds_library.specs.Writable.{IsWritableCell}
use Rattle.tech_rules.specs.declared.tech.RoleName.{RoleName}
use Rattle.device_lvs.specs.declared.difference.DeviceDiff.{DeviceDiff}
use Rattle.device_lvs.specs.declared.fault.DeviceFault.{DeviceFault}
use Rattle.device_lvs.specs.declared.fault.DeviceFault.TheVariants.{NoDevices, Flatten, UnknownSubckt, Nested, BadDevice, Memory}
use Rattle.device_lvs.specs.Answer.{HasPair, IsRoleAlike, IsRoleDifference, IsFirstRoleFault, IsDeviceFault, IsFirstDeviceDiff, IsDeviceAnswer}
use Rattle.device_lvs.specs.OneAnswer.{DeviceAnswersAreUnique, DeviceFaultsAreUnique, DeviceFaultsExcludeAnswers}
use Rattle.device_lvs.specs.Roles.{LeafFiles, IsFaultOfRole}
use Rattle.device_lvs.proofs.OneRoleLaws.{role_is_one, one_role_fault, fault_or_pair}

alike_or_differs : (files : LeafFiles) (entry : RoleName) (d : DeviceDiff) → IsRoleAlike files entry → IsRoleDifference files entry d → ⊥
alike_or_differs files entry d a b = let clash : None ≡ Some d = role_is_one files entry a.0 b.0 None (Some d) a.1 b.1 a.2 b.2 in cc

one_difference : (files : LeafFiles) (entry : RoleName) (d e : DeviceDiff) → IsRoleDifference files entry d → IsRoleDifference files entry e → d ≡ e
one_difference files entry d e a b = same_Some d e (role_is_one files entry a.0 b.0 (Some d) (Some e) a.1 b.1 a.2 b.2)

first_difference_one : (files : LeafFiles) (d e : DeviceDiff) → IsFirstDeviceDiff files d → IsFirstDeviceDiff files e → d ≡ e
first_difference_one files d e a b = elim (cases_lt a.place b.place) [
  | inl lt ↦ absurd (alike_or_differs files a.entry d (b.before a.place a.entry lt a.there) a.is)
  | inr ge ↦ elim (cases_lt b.place a.place) [
    | inl lt ↦ absurd (alike_or_differs files b.entry e (a.before b.place b.entry lt b.there) b.is)
    | inr le ↦
        let same : a.place ≡ b.place = omega (arith, ge, le) in
        let one = one_at files.tech.roles b.place a.entry b.entry (subst (λ (k : ℕ). slice_get files.tech.roles k ≡ Some a.entry) same a.there) b.there in
        one_difference files b.entry d e (subst (λ (r : RoleName). IsRoleDifference files r d) one a.is) b.is
  ]
]

pub one_device_answer : DeviceAnswersAreUnique
one_device_answer files None None a b = refl
one_device_answer files None (Some e) a b = absurd (alike_or_differs files b.entry e (a.alike b.place b.entry b.there) b.is)
one_device_answer files (Some d) None a b = absurd (alike_or_differs files a.entry d (b.alike a.place a.entry a.there) a.is)
one_device_answer files (Some d) (Some e) a b = ap (λ (x : DeviceDiff). Some x) (first_difference_one files d e a b)

-- of two faults of roles
faults_one : (files : LeafFiles) (f g : DeviceFault) → AllByRecursion IsWritableCell files.structs → f ≢ Memory → g ≢ Memory → IsFirstRoleFault files f → IsFirstRoleFault files g → f ≡ g
faults_one files f g writable low low_too a b = elim (cases_lt a.place b.place) [
  | inl lt ↦ absurd (fault_or_pair files a.entry writable f low a.is (b.before a.place a.entry lt a.there))
  | inr ge ↦ elim (cases_lt b.place a.place) [
    | inl lt ↦ absurd (fault_or_pair files b.entry writable g low_too b.is (a.before b.place b.entry lt b.there))
    | inr le ↦
        let same : a.place ≡ b.place = omega (arith, ge, le) in
        let one = one_at files.tech.roles b.place a.entry b.entry (subst (λ (k : ℕ). slice_get files.tech.roles k ≡ Some a.entry) same a.there) b.there in
        one_role_fault files b.entry writable f g low low_too (subst (λ (r : RoleName). IsFaultOfRole files r f) one a.is) b.is
  ]
]

-- no device, or a role
by_role : (files : LeafFiles) (f : DeviceFault) → f ≢ Memory → IsDeviceFault files f → ((f ≡ NoDevices) × (files.tech.devices ≡ [])) ⊎ IsFirstRoleFault files f
by_role files NoDevices low is = inl (refl, is)
by_role files (Flatten fault) low is = inr is
by_role files (UnknownSubckt name) low is = inr is
by_role files (Nested role) low is = inr is
by_role files (BadDevice role line) low is = inr is
by_role files Memory low is = absurd (low refl)

pub one_device_fault : DeviceFaultsAreUnique
one_device_fault files f g writable low low_too a b = elim (by_role files f low a) [
  | inl none ↦ elim (by_role files g low_too b) [
    | inl none_too ↦ none.0 ∙ sym none_too.0
    | inr role ↦ absurd (role.some none.1)
  ]
  | inr role ↦ elim (by_role files g low_too b) [
    | inl none ↦ absurd (role.some none.1)
    | inr role_too ↦ faults_one files f g writable low low_too role role_too
  ]
]

-- an answer has a pair for each role, and a device
record IsSome (files : LeafFiles) : Type 0 where
  some : files.tech.devices ≢ []
  pairs : (place : ℕ) (entry : RoleName) → slice_get files.tech.roles place ≡ Some entry → HasPair files entry

of_answer : (files : LeafFiles) (a : Option DeviceDiff) → IsDeviceAnswer files a → IsSome files
of_answer files None a = record { some = a.some; pairs = λ place entry there. let alike = a.alike place entry there in (alike.0, alike.1) }
of_answer files (Some d) a = record { some = a.some; pairs = a.pairs }

pub no_device_answer : DeviceFaultsExcludeAnswers
no_device_answer files f a writable low fault answer =
    let of = of_answer files a answer in
    elim (by_role files f low fault) [
      | inl none ↦ of.some none.1
      | inr role ↦ fault_or_pair files role.entry writable f low role.is (of.pairs role.place role.entry role.there)
    ]
