-- A role is compared in one way, or it can't be for one reason.
use Rattle.std.proofs.Common.{◌≡◌, ◌≢◌, ◌⊎◌, inl, inr, ℕ, ◌<◌, ◌≤◌, Bool, true, List, [], Option, None, Some, refl, sym, ap, subst, ◌∙◌, arith}
use Rattle.std.specs.List.{AllByRecursion}
use Rattle.std.proofs.lemmas.Bool.{cases_lt}
use Rattle.std.proofs.lemmas.Option.{same_Some}
use Rattle.or_geom.proofs.ListLaws.{contained_at}
use Rattle.gds_library.specs.Writable.{IsWritableCell}
use Rattle.netlist.specs.declared.deck.Subckt.{Subckt}
use Rattle.spice_text.specs.Words.{lower}
use Rattle.tech_rules.specs.declared.tech.RoleName.{RoleName}
use Rattle.cell_hierarchy.specs.declared.fault.FlattenFault.{FlattenFault}
use Rattle.cell_hierarchy.specs.declared.fault.FlattenFault.TheVariants as flatten_fault
use Rattle.cell_hierarchy.specs.FlatLists.{IsFault}
use Rattle.cell_hierarchy.specs.Plain.{FlatLists}
use Rattle.cell_hierarchy.proofs.TotalLaws.{one_total}
use Rattle.cell_hierarchy.proofs.OneListsLaws.{one_pair}
use Rattle.cell_hierarchy.proofs.OneFaultLaws.{one_fault, fault_or_lists}
use Rattle.drawn_devices.specs.Drawn.{AreDrawnDevices}
use Rattle.device_entries.specs.declared.entry.DeviceEntry.{DeviceEntry}
use Rattle.device_entries.specs.Lines.{AreLineEntries, IsFirstBadLine}
use Rattle.device_lvs.specs.declared.difference.DeviceDiff.{DeviceDiff}
use Rattle.device_lvs.specs.declared.fault.DeviceFault.{DeviceFault}
use Rattle.device_lvs.specs.declared.fault.DeviceFault.TheVariants.{NoDevices, Flatten, UnknownSubckt, Nested, BadDevice, Memory}
use Rattle.device_lvs.specs.Answer.{HasPair}
use Rattle.device_lvs.specs.CompareSteps.{cell_pair, AreComparedAs}
use Rattle.device_lvs.specs.Difference.{CellPair}
use Rattle.device_lvs.specs.Roles.{LeafFiles, subckt_of, IsFlat, AreListedEntries, IsPairOf, IsFaultOfRole}
use Rattle.device_lvs.proofs.MovedLaws.{moved, no_longer}
use Rattle.device_lvs.proofs.OneStepLaws.{Stops, HasOne, stop_at_one, compared_is_one}

one_listing : (subckts : List Subckt) (entry : RoleName) (a b : List DeviceEntry) → AreListedEntries subckts entry a → AreListedEntries subckts entry b → a ≡ b
one_listing subckts entry a b p q =
    let same : p.subckt ≡ q.subckt = same_Some p.subckt q.subckt (sym p.there ∙ q.there) in
    let lines : AreLineEntries q.subckt.raw a = subst (λ (s : Subckt). AreLineEntries s.raw a) same p.lines in
    lines.are ∙ sym q.lines.are

-- what is compared, with the entries and the role of the files
settled : (files : LeafFiles) (entry : RoleName) (c : CellPair) (listed : List DeviceEntry) (o : Option DeviceDiff) → IsPairOf files entry c → c.listed ≡ listed → AreComparedAs c o → AreComparedAs (cell_pair entry.role files.tech.devices c.drawn listed) o
settled files entry c listed o of same is = subst (λ (x : CellPair). AreComparedAs x o) (λ i. record { role = of.role i; devices = of.devices i; drawn = c.drawn; listed = same i }) is

pub role_is_one : (files : LeafFiles) (entry : RoleName) (c e : CellPair) (o p : Option DeviceDiff) → IsPairOf files entry c → IsPairOf files entry e → AreComparedAs c o → AreComparedAs e p → o ≡ p
role_is_one files entry c e o p of_c of_e is_c is_e =
    let tech = files.tech in
    let lists : of_e.lists ≡ of_c.lists = one_pair tech.layers files.structs entry.cell of_e.lists of_c.lists of_e.flat of_c.flat in
    let drawn : AreDrawnDevices tech of_c.lists.shapes of_c.lists.labels e.drawn = subst (λ (l : FlatLists). AreDrawnDevices tech l.shapes l.labels e.drawn) lists of_e.drawn in
    let listed = one_listing files.subckts entry c.listed e.listed of_c.listed of_e.listed in
    let first = settled files entry c e.listed o of_c listed is_c in
    let second = settled files entry e e.listed p of_e refl is_e in
    let back = no_longer tech of_c.lists.shapes of_c.lists.labels entry.role e.listed e.drawn c.drawn drawn of_c.drawn in
    compared_is_one (cell_pair entry.role tech.devices e.drawn e.listed) o p
    (moved tech of_c.lists.shapes of_c.lists.labels entry.role e.listed c.drawn e.drawn of_c.drawn drawn o back first) second

-- why a role can't be compared, in turn
record AtFlat (files : LeafFiles) (entry : RoleName) (f : DeviceFault) : Type 0 where
  fault : FlattenFault
  is : f ≡ Flatten fault
  some : fault ≢ flatten_fault.Memory
  why : IsFault files.tech.layers files.structs entry.cell fault

record AtName (files : LeafFiles) (entry : RoleName) (f : DeviceFault) : Type 0 where
  is : f ≡ UnknownSubckt (lower entry.cell)
  none : subckt_of files.subckts entry ≡ None

record AtNested (files : LeafFiles) (entry : RoleName) (f : DeviceFault) : Type 0 where
  is : f ≡ Nested entry.role
  subckt : Subckt
  there : subckt_of files.subckts entry ≡ Some subckt
  some : subckt.instances ≢ []

record AtLine (files : LeafFiles) (entry : RoleName) (f : DeviceFault) : Type 0 where
  line : ℕ
  is : f ≡ BadDevice entry.role line
  subckt : Subckt
  there : subckt_of files.subckts entry ≡ Some subckt
  first : IsFirstBadLine subckt.raw line

-- the role has a subcircuit
record HasNamed (files : LeafFiles) (entry : RoleName) : Type 0 where
  subckt : Subckt
  there : subckt_of files.subckts entry ≡ Some subckt

-- and it has no instance
record HasPlain (files : LeafFiles) (entry : RoleName) : Type 0 where
  subckt : Subckt
  there : subckt_of files.subckts entry ≡ Some subckt
  plain : subckt.instances ≡ []

abbrev FromPlain : LeafFiles → RoleName → DeviceFault → Type 0
FromPlain files entry = Stops (AtNested files entry) (HasPlain files entry) (AtLine files entry)

abbrev FromNamed : LeafFiles → RoleName → DeviceFault → Type 0
FromNamed files entry = Stops (AtName files entry) (HasNamed files entry) (FromPlain files entry)

abbrev FaultInTurn : LeafFiles → RoleName → DeviceFault → Type 0
FaultInTurn files entry = Stops (AtFlat files entry) (IsFlat files entry) (FromNamed files entry)

in_turn : (files : LeafFiles) (entry : RoleName) (f : DeviceFault) → f ≢ Memory → IsFaultOfRole files entry f → FaultInTurn files entry f
in_turn files entry NoDevices low is = absurd is
in_turn files entry (Flatten fault) low is = inl (record { fault = fault; is = refl; some = is.0; why = is.1 })
in_turn files entry (UnknownSubckt name) low is = inr (is.0, inl (record { is = ap UnknownSubckt is.1.named; none = is.1.none }))
in_turn files entry (Nested role) low is = inr (is.0, inr (record { subckt = is.1.subckt; there = is.1.there }, inl (record { is = ap Nested is.1.named; subckt = is.1.subckt; there = is.1.there; some = is.1.some })))
in_turn files entry (BadDevice role line) low is =
    inr (
      is.0,
      inr (
        record { subckt = is.1.subckt; there = is.1.there },
        inr (
          record { subckt = is.1.subckt; there = is.1.there; plain = is.1.plain },
          record { line = line; is = ap (λ (r : List ℕ). BadDevice r line) is.1.named; subckt = is.1.subckt; there = is.1.there; first = is.1.first },
        ),
      ),
    )
in_turn files entry Memory low is = absurd (low refl)

first_line_one : (lines : List (List ℕ)) (m n : ℕ) → IsFirstBadLine lines m → IsFirstBadLine lines n → m ≡ n
first_line_one lines m n p q = elim (cases_lt m n) [
  | inl lt ↦ absurd (q.before m p.line lt p.there p.begins p.short)
  | inr ge ↦ elim (cases_lt n m) [
    | inl lt ↦ absurd (p.before n q.line lt q.there q.begins q.short)
    | inr le ↦ omega (arith, ge, le)
  ]
]

module _ (files : LeafFiles) (entry : RoleName) (writable : AllByRecursion IsWritableCell files.structs) where
  flat_one : HasOne (AtFlat files entry)
  flat_one f g a b = a.is ∙ ap Flatten (one_fault one_total files.tech.layers files.structs entry.cell a.fault b.fault writable a.some b.some a.why b.why) ∙ sym b.is

  flat_or_lists : (f : DeviceFault) → AtFlat files entry f → IsFlat files entry → ⊥
  flat_or_lists f a flat = fault_or_lists one_total files.tech.layers files.structs entry.cell flat.0 a.fault writable a.some a.why flat.1

  one_subckt : (s t : Subckt) → subckt_of files.subckts entry ≡ Some s → subckt_of files.subckts entry ≡ Some t → s ≡ t
  one_subckt s t p q = same_Some s t (sym p ∙ q)

  no_subckt : (s : Subckt) → subckt_of files.subckts entry ≡ None → subckt_of files.subckts entry ≡ Some s → ⊥
  no_subckt s p q = let clash : None ≡ Some s = sym p ∙ q in cc

  nested_or_plain : (s t : Subckt) → subckt_of files.subckts entry ≡ Some s → s.instances ≢ [] → subckt_of files.subckts entry ≡ Some t → t.instances ≡ [] → ⊥
  nested_or_plain s t p some q plain = some (ap (λ (x : Subckt). x.instances) (one_subckt s t p q) ∙ plain)

  line_one : HasOne (AtLine files entry)
  line_one f g a b =
      let same = one_subckt a.subckt b.subckt a.there b.there in
      let first : IsFirstBadLine b.subckt.raw a.line = subst (λ (s : Subckt). IsFirstBadLine s.raw a.line) same a.first in
      a.is ∙ ap (λ (n : ℕ). BadDevice entry.role n) (first_line_one b.subckt.raw a.line b.line first b.first) ∙ sym b.is

  plain_one : HasOne (FromPlain files entry)
  plain_one = stop_at_one (AtNested files entry) (HasPlain files entry) (AtLine files entry) (λ f g a b. a.is ∙ sym b.is)
      (λ f a p. nested_or_plain a.subckt p.subckt a.there a.some p.there p.plain) (λ p. line_one)

  named_one : HasOne (FromNamed files entry)
  named_one = stop_at_one (AtName files entry) (HasNamed files entry) (FromPlain files entry) (λ f g a b. a.is ∙ sym b.is) (λ f a p. no_subckt p.subckt a.none p.there) (λ p. plain_one)

  -- a role can't be compared for one reason
  pub one_role_fault : (f g : DeviceFault) → f ≢ Memory → g ≢ Memory → IsFaultOfRole files entry f → IsFaultOfRole files entry g → f ≡ g
  one_role_fault f g low low_too a b =
      stop_at_one (AtFlat files entry) (IsFlat files entry) (FromNamed files entry) flat_one flat_or_lists (λ p. named_one) f g (in_turn files entry f low a) (in_turn files entry g low_too b)

  bad_or_good : (lines : List (List ℕ)) (n : ℕ) (entries : List DeviceEntry) → IsFirstBadLine lines n → AreLineEntries lines entries → ⊥
  bad_or_good lines n entries bad are = are.good bad.line (contained_at lines n bad.line bad.there) bad.begins bad.short

  -- and not for any where it can
  pub fault_or_pair : (f : DeviceFault) → f ≢ Memory → IsFaultOfRole files entry f → HasPair files entry → ⊥
  fault_or_pair NoDevices low is pair = is
  fault_or_pair (Flatten fault) low is pair = flat_or_lists (Flatten fault) (record { fault = fault; is = refl; some = is.0; why = is.1 }) (pair.1.lists, pair.1.flat)
  fault_or_pair (UnknownSubckt name) low is pair = no_subckt pair.1.listed.subckt is.1.none pair.1.listed.there
  fault_or_pair (Nested role) low is pair = nested_or_plain is.1.subckt pair.1.listed.subckt is.1.there is.1.some pair.1.listed.there pair.1.listed.plain
  fault_or_pair (BadDevice role line) low is pair =
      let same = one_subckt is.1.subckt pair.1.listed.subckt is.1.there pair.1.listed.there in
      bad_or_good pair.1.listed.subckt.raw line pair.0.listed (subst (λ (s : Subckt). IsFirstBadLine s.raw line) same is.1.first) pair.1.listed.lines
  fault_or_pair Memory low is pair = low refl
