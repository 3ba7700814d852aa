-- The transistors of a layout and of a subcircuit are alike, or have a first difference.
use Rattle.std.proofs.Common.{◌≡◌, ◌≢◌, ◌⊎◌, inl, inr, ℕ, zero, suc, ◌+◌, ◌<◌, Bool, true, false, cond, List, [], ◌∷◌, length, Option, Some, None, refl, sym, ap, subst, ◌∙◌, arith}
use Rattle.std.specs.Prelude.{Contains, count_by, slice_get}
use Rattle.std.specs.Ordering.{eq_by_cmp, is_eq}
use Rattle.std.specs.declared.cmp.Ordering.{Ordering}
use Rattle.std.specs.declared.cmp.Ordering.TheVariants.{Less, Equal, Greater}
use Rattle.std.proofs.lemmas.Bool.{cases_eq, cases_lt}
use Rattle.std.proofs.lemmas.Cmp.{on_total, then_total, tied_itself}
use Rattle.std.proofs.lemmas.List.Sums.{sum_by-cons}
use Rattle.std.proofs.lemmas.Option.{same_Some}
use Rattle.or_geom.specs.Least.{name_order}
use Rattle.or_geom.proofs.ListLaws.{contains_first, contains_later}
use Rattle.tech_rules.specs.declared.tech.Device.{Device}
use Rattle.spice_text.specs.Words.{lower}
use Rattle.label_binding.proofs.PlaceLaws.{at_contained}
use Rattle.drawn_devices.specs.declared.drawn.DeviceChannel.{DeviceChannel}
use Rattle.drawn_devices.specs.declared.drawn.NetName.{NetName}
use Rattle.drawn_devices.specs.declared.drawn.Terminals.{Terminals}
use Rattle.device_entries.specs.declared.entry.DeviceEntry.{DeviceEntry}
use Rattle.device_entries.specs.Counts.{how_often}
use Rattle.device_entries.specs.Entries.{entry_of}
use Rattle.device_entries.specs.EntryOrder.{entry_order, entry_total}
use Rattle.device_entries.proofs.OrderLaws.{one_entry, ties_are_one}
use Rattle.device_lvs.specs.declared.difference.DeviceDiff.{DeviceDiff}
use Rattle.device_lvs.specs.declared.difference.DeviceDiff.TheVariants.{NotBox, Open, Short, Nameless, Absent, Extra}
use Rattle.device_lvs.specs.ChannelEntries.{IsNotSound, AreNamed, IsNameless, IsEntryOf, AreEntries, IsFirstChannel, HasNoneOf}
use Rattle.device_lvs.specs.CompareSteps.{AreComparedAs}
use Rattle.device_lvs.specs.Difference.{CellPair, AreComparable}
use Rattle.device_lvs.specs.EntrySteps.{HaveDevices}
use Rattle.device_lvs.specs.NetNames.{HasSomeName, IsOnTwoNets, ShareNet, pair_order}
use Rattle.flat_answers.proofs.DecisionLaws.{Decided, decide_as, decide_bool, decide_both, decide_name, decide_not}
use Rattle.flat_answers.proofs.ListedLaws.{IsOrder, Listed, decide_some, listed_as, listed_either, listed_one, listed_over, listed_where}
use Rattle.flat_answers.proofs.ListedLaws.{first_or_none as least_or_none}
use Rattle.flat_answers.proofs.OrderLaws.{equal_parts, names_in_order}
use Rattle.net_answers.proofs.DifferThereLaws.{first_or_none}
use Rattle.device_answers.proofs.CellListLaws.{listed_items}
use Rattle.device_answers.proofs.LinkDecisionLaws.{decide_contained}

-- the first channel that has P, by its least corner
first_channel : (P : DeviceChannel → Type 0) → ((channel : DeviceChannel) → Decided (P channel)) → (channels : List DeviceChannel) → ((channel : DeviceChannel) × IsFirstChannel P channels channel.least.x channel.least.y) ⊎ HasNoneOf P channels
first_channel P decide channels = elim (first_or_none P decide channels) [
  | inl f ↦ inl (f.1, record { place = f.0; channel = f.1; there = f.2.here; has = f.2.has; least = refl; before = f.2.before })
  | inr none ↦ inr (λ channel h. none h.0 channel (at_contained channels channel h))
]

decide_not_sound : (channel : DeviceChannel) → Decided (IsNotSound channel)
decide_not_sound channel = by channel.terminals
  where
    by : (o : Option Terminals) → Decided (o ≡ None)
    by None = inl refl
    by (Some t) = inr (λ e. absurd cc)

device_at : (devices : List Device) (index : ℕ) → index < length devices → (device : Device) × (slice_get devices index ≡ Some device)
device_at [] index inside = absurd (omega (arith, inside))
device_at (d ∷ ds) zero inside = (d, refl)
device_at (d ∷ ds) (suc index) inside = device_at ds index (omega (arith, inside))

module _ (names : List NetName) where
  -- names on two nets, and pairs of names on one
  listed_split : Listed (IsOnTwoNets names)
  listed_split =
      listed_as (λ (name : List ℕ). (a : NetName) × Contains names a × ((b : NetName) × (Contains names b × ((a.name ≡ b.name) × (a.net ≢ b.net))) × (name ≡ a.name))) (IsOnTwoNets names)
      (λ name h.
      let a = h.0 in
      let b = h.2.0 in
      subst (IsOnTwoNets names) (sym h.2.2) (record {
        one = a.net;
        other = b.net;
        has = h.1;
        other_has = subst (λ (n : List ℕ). Contains names (record { name = n; net = b.net })) (sym h.2.1.1.0) h.2.1.0;
        differ = h.2.1.1.1;
      }))
      (λ name s. (record { name = name; net = s.one }, s.has, (record { name = name; net = s.other }, (s.other_has, (refl, s.differ)), refl)))
      (listed_over (Contains names) (λ (a : NetName) (name : List ℕ). (b : NetName) × (Contains names b × ((a.name ≡ b.name) × (a.net ≢ b.net))) × (name ≡ a.name)) (listed_items names)
      (λ a. listed_over (λ (b : NetName). Contains names b × ((a.name ≡ b.name) × (a.net ≢ b.net))) (λ (b : NetName) (name : List ℕ). name ≡ a.name)
      (listed_where (Contains names) (λ (b : NetName). (a.name ≡ b.name) × (a.net ≢ b.net)) (listed_items names)
      (λ b. decide_both (a.name ≡ b.name) (a.net ≢ b.net) (decide_name a.name b.name) (decide_not (a.net ≡ b.net) (cases_eq a.net b.net))))
      (λ b. listed_one a.name)))

  abbrev Shared : List ℕ × List ℕ → Type 0
  Shared pair = ShareNet names pair.0 pair.1

  decide_less : (o : Ordering) → Decided (o ≡ Less)
  decide_less Less = inl refl
  decide_less Equal = inr (λ e. absurd cc)
  decide_less Greater = inr (λ e. absurd cc)

  abbrev IsSharedBy : NetName → NetName → Type 0
  IsSharedBy a b = (a.net ≡ b.net) × (name_order a.name b.name ≡ Less)

  listed_shared : Listed Shared
  listed_shared =
      listed_as (λ (pair : List ℕ × List ℕ). (a : NetName) × Contains names a × ((b : NetName) × (Contains names b × IsSharedBy a b) × (pair ≡ (a.name, b.name)))) Shared
      (λ pair h.
      let a = h.0 in
      let b = h.2.0 in
      subst Shared (sym h.2.2) (record { net = a.net; has = h.1; other_has = subst (λ (n : ℕ). Contains names (record { name = b.name; net = n })) (sym h.2.1.1.0) h.2.1.0; rise = h.2.1.1.1 }))
      (λ pair s. (record { name = pair.0; net = s.net }, s.has, (record { name = pair.1; net = s.net }, (s.other_has, (refl, s.rise)), refl)))
      (listed_over (Contains names) (λ (a : NetName) (pair : List ℕ × List ℕ). (b : NetName) × (Contains names b × IsSharedBy a b) × (pair ≡ (a.name, b.name))) (listed_items names)
      (λ a. listed_over (λ (b : NetName). Contains names b × IsSharedBy a b) (λ (b : NetName) (pair : List ℕ × List ℕ). pair ≡ (a.name, b.name))
      (listed_where (Contains names) (IsSharedBy a) (listed_items names)
      (λ b. decide_both (a.net ≡ b.net) (name_order a.name b.name ≡ Less) (cases_eq a.net b.net) (decide_less (name_order a.name b.name))))
      (λ b. listed_one (a.name, b.name))))

  -- whether the nets of terminals have names
  decide_named_net : (net : ℕ) → Decided (HasSomeName names net)
  decide_named_net net = decide_as ((e : NetName) × (Contains names e × (e.net ≡ net))) (HasSomeName names net)
      (λ h. (h.0.name, subst (λ (n : ℕ). Contains names (record { name = h.0.name; net = n })) h.1.1 h.1.0)) (λ h. (record { name = h.0; net = net }, (h.1, refl)))
      (decide_some (Contains names) (λ (e : NetName). e.net ≡ net) (listed_items names) (λ e among. cases_eq e.net net))

  decide_named : (t : Terminals) → Decided (AreNamed names t)
  decide_named t = decide_as (HasSomeName names t.gate × (HasSomeName names t.first × HasSomeName names t.second)) (AreNamed names t)
      (λ h. record { gate = h.0; first = h.1.0; second = h.1.1 }) (λ n. (n.gate, (n.first, n.second)))
      (decide_both (HasSomeName names t.gate) (HasSomeName names t.first × HasSomeName names t.second) (decide_named_net t.gate)
      (decide_both (HasSomeName names t.first) (HasSomeName names t.second) (decide_named_net t.first) (decide_named_net t.second)))

  decide_nameless : (channel : DeviceChannel) → Decided (IsNameless names channel)
  decide_nameless channel = by channel.terminals refl
    where
      by : (o : Option Terminals) → channel.terminals ≡ o → Decided (IsNameless names channel)
      by None e = inr (λ n. let bad : ◌≡◌ {A = Option Terminals} None (Some n.terminals) = sym e ∙ n.sound in absurd cc)
      by (Some t) e = elim (decide_named t) [
        | inl named ↦ inr (λ n. n.none (subst (AreNamed names) (same_Some t n.terminals (sym e ∙ n.sound)) named))
        | inr fails ↦ inl (record { terminals = t; sound = e; none = fails })
      ]

  -- a sound channel whose terminals have names is a transistor
  entry_there : (devices : List Device) (channel : DeviceChannel) → channel.device < length devices → (IsNotSound channel → ⊥) → (IsNameless names channel → ⊥) → (entry : DeviceEntry) × IsEntryOf devices names channel entry
  entry_there devices channel inside sound named = by channel.terminals refl
    where
      entry_by : (device : Device) → slice_get devices channel.device ≡ Some device → (t : Terminals) → channel.terminals ≡ Some t → AreNamed names t → (entry : DeviceEntry) × IsEntryOf devices names channel entry
      entry_by device there t is n = (
        entry_of (lower device.model) n.gate.0 n.first.0 n.second.0,
        record {
          device = device;
          there = there;
          terminals = t;
          sound = is;
          has = record { gate = n.gate.0; first = n.first.0; second = n.second.0; gate_named = n.gate.1; first_named = n.first.1; second_named = n.second.1; is = refl };
        },
      )

      by : (o : Option Terminals) → channel.terminals ≡ o → (entry : DeviceEntry) × IsEntryOf devices names channel entry
      by None e = absurd (sound e)
      by (Some t) e = elim (decide_named t) [
        | inl n ↦ let d = device_at devices channel.device inside in entry_by d.0 d.1 t e n
        | inr fails ↦ absurd (named (record { terminals = t; sound = e; none = fails }))
      ]

  entries_there : (devices : List Device) (channels : List DeviceChannel) → ((channel : DeviceChannel) → Contains channels channel → (entry : DeviceEntry) × IsEntryOf devices names channel entry) → (entries : List DeviceEntry) × AreEntries devices names channels entries
  entries_there devices [] each = ([], record { as_many = refl; each = λ place channel entry e f. absurd cc })
  entries_there devices (c ∷ cs) each =
      let one = each c (contains_first c cs) in
      let rest = entries_there devices cs (λ channel h. each channel (contains_later c cs channel h)) in
      (one.0 ∷ rest.0, record { as_many = ap suc rest.1.as_many; each = both one.0 rest.0 one.1 rest.1.each })
    where
      both : (first : DeviceEntry) (entries : List DeviceEntry) → IsEntryOf devices names c first
          → ((place : ℕ) (channel : DeviceChannel) (entry : DeviceEntry) → slice_get cs place ≡ Some channel → slice_get entries place ≡ Some entry → IsEntryOf devices names channel entry)
          → (place : ℕ) (channel : DeviceChannel) (entry : DeviceEntry) → slice_get (c ∷ cs) place ≡ Some channel → slice_get (first ∷ entries) place ≡ Some entry → IsEntryOf devices names channel entry
      both first entries is others zero channel entry e f =
          subst (λ (x : DeviceChannel). IsEntryOf devices names x entry) (same_Some c channel e) (subst (IsEntryOf devices names c) (same_Some first entry f) is)
      both first entries is others (suc place) channel entry e f = others place channel entry e f

pairs_in_order : IsOrder pair_order
pairs_in_order = record {
  total = then_total (on_total (λ (p : List ℕ × List ℕ). p.0) names_in_order.total) (on_total (λ (p : List ℕ × List ℕ). p.1) names_in_order.total);
  one = λ a b e. let both = equal_parts (name_order a.0 b.0) (name_order a.1 b.1) e in λ i. (names_in_order.one a.0 b.0 both.0 i, names_in_order.one a.1 b.1 both.1 i);
}

entries_in_order : IsOrder entry_order
entries_in_order = record { total = entry_total; one = one_entry }

decide_entry : (a b : DeviceEntry) → Decided (a ≡ b)
decide_entry a b = decide_as (eq_by_cmp entry_order a b ≡ true) (a ≡ b) (ties_are_one a b)
    (λ e. ap is_eq (subst (λ (x : DeviceEntry). entry_order a x ≡ Equal) e (tied_itself entry_total a))) (decide_bool (eq_by_cmp entry_order a b))

-- what isn't there is counted as never there
uncounted : (p : DeviceEntry → Bool) (xs : List DeviceEntry) → ((x : DeviceEntry) → Contains xs x → p x ≡ false) → count_by p xs ≡ 0
uncounted p [] none = refl
uncounted p (x ∷ xs) none =
    let rest = uncounted p xs (λ y there. none y (contains_later x xs y there)) in
    let first = sum_by-cons (λ y. cond (p y) 1 0) x xs ∙ ap (λ b. cond b 1 0 + count_by p xs) (none x (contains_first x xs)) in
    omega (arith, rest, first)

never : (entry : DeviceEntry) (xs : List DeviceEntry) → (Contains xs entry → ⊥) → how_often entry xs ≡ 0
never entry xs absent = uncounted (eq_by_cmp entry_order entry) xs (λ x there. by x there (eq_by_cmp entry_order entry x) refl)
  where
    by : (x : DeviceEntry) → Contains xs x → (b : Bool) → eq_by_cmp entry_order entry x ≡ b → eq_by_cmp entry_order entry x ≡ false
    by x there true e = absurd (absent (subst (Contains xs) (sym (ties_are_one entry x e)) there))
    by x there false e = e

module _ (drawn listed : List DeviceEntry) where
  abbrev IsUneven : DeviceEntry → Type 0
  IsUneven entry = how_often entry drawn ≢ how_often entry listed

  uneven_there : (entry : DeviceEntry) → IsUneven entry → Contains drawn entry ⊎ Contains listed entry
  uneven_there entry differ = elim (decide_contained decide_entry drawn entry) [
    | inl there ↦ inl there
    | inr absent ↦ elim (decide_contained decide_entry listed entry) [
      | inl there ↦ inr there
      | inr none ↦ absurd (differ (never entry drawn absent ∙ sym (never entry listed none)))
    ]
  ]

  listed_uneven : Listed IsUneven
  listed_uneven = listed_as (λ (entry : DeviceEntry). (Contains drawn entry ⊎ Contains listed entry) × IsUneven entry) IsUneven (λ entry h. h.1) (λ entry differ. (uneven_there entry differ, differ))
      (listed_where (λ (entry : DeviceEntry). Contains drawn entry ⊎ Contains listed entry) IsUneven (listed_either (Contains drawn) (Contains listed) (listed_items drawn) (listed_items listed))
      (λ entry. decide_not (how_often entry drawn ≡ how_often entry listed) (cases_eq (how_often entry drawn) (how_often entry listed))))

module _ (c : CellPair) (devices : HaveDevices c.devices c.drawn.channels) where
  abbrev IsCompared : Type 0
  IsCompared = (difference : Option DeviceDiff) × AreComparedAs c difference

  entries_compared : AreComparable c → (entries : List DeviceEntry) → AreEntries c.devices c.drawn.names c.drawn.channels entries → IsCompared
  entries_compared comparable entries are = elim (least_or_none entry_order (IsUneven entries c.listed) entries_in_order (listed_uneven entries c.listed)) [
    | inl f ↦ by f.0 f.1 f.2
    | inr none ↦ (None, record { comparable = comparable; entries = entries; are = are; even = λ entry. elim (cases_eq (how_often entry entries) (how_often entry c.listed)) [ inl same ↦ same | inr differ ↦ absurd (none entry differ) ] })
  ]
    where
      by : (e : DeviceEntry) → IsUneven entries c.listed e → ((other : DeviceEntry) → IsUneven entries c.listed other → entry_order e other ≢ Greater) → IsCompared
      by e differ least = elim (cases_lt (how_often e entries) (how_often e c.listed)) [
        | inl lt ↦ (Some (Absent c.role e.model e.gate e.low e.high), (refl, record { comparable = comparable; entries = entries; are = are; least = (lt, least) }))
        | inr ge ↦ elim (cases_lt (how_often e c.listed) (how_often e entries)) [
          | inl lt ↦ (Some (Extra c.role e.model e.gate e.low e.high), (refl, record { comparable = comparable; entries = entries; are = are; least = (lt, least) }))
          | inr le ↦ absurd (differ (omega (arith, ge, le)))
        ]
      ]

  pub compared : IsCompared
  compared = elim (first_channel IsNotSound decide_not_sound c.drawn.channels) [
    | inl f ↦ (Some (NotBox c.role f.0.least.x f.0.least.y), (refl, f.1))
    | inr sound ↦ elim (least_or_none name_order (IsOnTwoNets c.drawn.names) names_in_order (listed_split c.drawn.names)) [
      | inl f ↦ (Some (Open c.role f.0), (refl, sound, record { has = f.1; least = f.2 }))
      | inr split ↦ elim (least_or_none pair_order (Shared c.drawn.names) pairs_in_order (listed_shared c.drawn.names)) [
        | inl f ↦ (Some (Short c.role f.0.0 f.0.1), (refl, record { sound = sound; split = split }, record { shared = f.1; least = λ a b s. f.2 (a, b) s }))
        | inr joined ↦ elim (first_channel (IsNameless c.drawn.names) (decide_nameless c.drawn.names) c.drawn.channels) [
          | inl f ↦ (Some (Nameless c.role f.0.least.x f.0.least.y), (refl, record { whole = record { sound = sound; split = split }; joined = λ a b s. joined (a, b) s }, f.1))
          | inr named ↦
              let entries = entries_there c.drawn.names c.devices c.drawn.channels
              (λ channel h. entry_there c.drawn.names c.devices channel (devices channel h) (sound channel h) (named channel h)) in
              entries_compared (record { apart = record { whole = record { sound = sound; split = split }; joined = λ a b s. joined (a, b) s }; named = named }) entries.0 entries.1
        ]
      ]
    ]
  ]
