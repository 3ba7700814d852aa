-- The transistors of channels, one channel after another.
use Rattle.std.proofs.Common.{◌≡◌, ◌≢◌, ◌⊎◌, ◌↔◌, inl, inr, ℕ, zero, suc, ◌+◌, ◌<◌, ◌≤◌, List, [], ◌∷◌, ◌++◌, take, length, get_or, Some, Result, Ok, Err, IfOk, refl, sym, ap, subst, ◌∙◌, arith, length-append}
use Rattle.std.specs.Prelude.{Contains, slice_get}
use Rattle.std.proofs.lemmas.List.{take_more}
use Rattle.std.proofs.lemmas.Option.{same_Some, slice_get_within, slice_get-get_or, get_or_from_slice_get}
use Rattle.or_geom.specs.declared.memory.Memory.{Memory}
use Rattle.or_geom.proofs.ListLaws.{contained_at}
use Rattle.tech_rules.specs.declared.tech.Device.{Device}
use Rattle.drawn_devices.specs.declared.drawn.DeviceChannel.{DeviceChannel}
use Rattle.drawn_devices.specs.declared.drawn.NetName.{NetName}
use Rattle.drawn_devices.specs.declared.drawn.Terminals.{Terminals}
use Rattle.device_entries.specs.declared.entry.DeviceEntry.{DeviceEntry}
use Rattle.device_lvs.specs.declared.entries.ChannelEntries.{ChannelEntries}
use Rattle.device_lvs.specs.declared.entries.ChannelEntries.TheVariants.{All, Nameless}
use Rattle.device_lvs.specs.ChannelEntries.{AreNamed, IsNameless, IsEntryOf, AreEntries, IsFirstChannel, HasNoneOf}
use Rattle.device_lvs.specs.EntrySteps.{AreReadAs}

-- what stands in a list with one more item
snoc_at : {X : Type 0} (xs : List X) (x : X) (k : ℕ) (y : X) → slice_get (xs ++ x ∷ []) k ≡ Some y → ((k < length xs) × (slice_get xs k ≡ Some y)) ⊎ ((k ≡ length xs) × (y ≡ x))
snoc_at [] x zero y is = inr (refl, sym (same_Some x y is))
snoc_at [] x (suc k) y is = absurd cc
snoc_at (z ∷ xs) x zero y is = inl (omega arith, is)
snoc_at (z ∷ xs) x (suc k) y is = elim (snoc_at xs x k y is) [
  | inl before ↦ let lt = before.0 in inl (omega (arith, lt), before.1)
  | inr last ↦ inr (ap suc last.0, last.1)
]

pub taken_at : {X : Type 0} (xs : List X) (k p : ℕ) → p < k → slice_get (take k xs) p ≡ slice_get xs p
taken_at xs zero p lt = absurd (omega arith)
taken_at [] (suc k) p lt = refl
taken_at (x ∷ xs) (suc k) zero lt = refl
taken_at (x ∷ xs) (suc k) (suc p) lt = taken_at xs k p (omega arith)

pub entry_named : (devices : List Device) (names : List NetName) (channel : DeviceChannel) (entry : DeviceEntry) → IsEntryOf devices names channel entry → IsNameless names channel → ⊥
entry_named devices names channel entry of nameless =
    let same : of.terminals ≡ nameless.terminals = same_Some of.terminals nameless.terminals (sym of.sound ∙ nameless.sound) in
    nameless.none (subst (AreNamed names) same (record {
      gate = (of.has.gate, of.has.gate_named);
      first = (of.has.first, of.has.first_named);
      second = (of.has.second, of.has.second_named);
    }))

-- the entry of a channel
pub record EntryAt (devices : List Device) (names : List NetName) (entries : List DeviceEntry) (place : ℕ) (channel : DeviceChannel) : Type 0 where
  pub entry : DeviceEntry
  pub there : slice_get entries place ≡ Some entry
  pub of : IsEntryOf devices names channel entry

no_entry : DeviceEntry
no_entry = record { model = []; gate = []; low = []; high = [] }

pub each_has : (devices : List Device) (names : List NetName) (channels : List DeviceChannel) (entries : List DeviceEntry) (place : ℕ) (channel : DeviceChannel) → AreEntries devices names channels entries → slice_get channels place ≡ Some channel → EntryAt devices names entries place channel
each_has devices names channels entries place channel are there =
    let inside = slice_get_within channels place channel there in
    let many = are.as_many in
    let here = slice_get-get_or entries place no_entry (omega (arith, inside, many)) in
    record { entry = get_or entries place no_entry; there = here; of = are.each place channel (get_or entries place no_entry) there here }

pub entries_more : (devices : List Device) (names : List NetName) (channels : List DeviceChannel) (entries : List DeviceEntry) (k : ℕ) (channel : DeviceChannel) (entry : DeviceEntry) → slice_get channels k ≡ Some channel
    → AreEntries devices names (take k channels) entries → IsEntryOf devices names channel entry → AreEntries devices names (take (k + 1) channels) (entries ++ entry ∷ [])
entries_more devices names channels entries k channel entry here so_far of =
    let inside = slice_get_within channels k channel here in
    let longer : take (k + 1) channels ≡ take k channels ++ channel ∷ [] = take_more channels k channel inside ∙ ap (λ (c : DeviceChannel). take k channels ++ c ∷ []) (get_or_from_slice_get channels k channel channel here) in
    let many = so_far.as_many in
    subst (λ (l : List DeviceChannel). AreEntries devices names l (entries ++ entry ∷ [])) (sym longer) (record {
      as_many = length-append entries (entry ∷ []) ∙ ap (λ (n : ℕ). n + 1) many ∙ sym (length-append (take k channels) (channel ∷ []));
      each = λ place c e c_there e_there. elim (snoc_at (take k channels) channel place c c_there) [
        | inl c_before ↦ elim (snoc_at entries entry place e e_there) [
          | inl e_before ↦ so_far.each place c e c_before.1 e_before.1
          | inr e_last ↦ let lt = c_before.0 in let at = e_last.0 in absurd (omega (arith, lt, at, many))
        ]
        | inr c_last ↦ elim (snoc_at entries entry place e e_there) [
          | inl e_before ↦ let lt = e_before.0 in let at = c_last.0 in absurd (omega (arith, lt, at, many))
          | inr e_last ↦ subst (λ (x : DeviceChannel). IsEntryOf devices names x e) (sym c_last.1) (subst (IsEntryOf devices names channel) (sym e_last.1) of)
        ]
      ];
    })

-- no channel yet
pub no_entries : (devices : List Device) (names : List NetName) (channels : List DeviceChannel) → AreEntries devices names (take 0 channels) []
no_entries devices names channels = record { as_many = refl; each = λ place c e there _. absurd cc }

pub first_nameless : (devices : List Device) (names : List NetName) (channels : List DeviceChannel) (entries : List DeviceEntry) (k : ℕ) (channel : DeviceChannel) → slice_get channels k ≡ Some channel
    → AreEntries devices names (take k channels) entries → IsNameless names channel → IsFirstChannel (IsNameless names) channels channel.least.x channel.least.y
first_nameless devices names channels entries k channel here so_far nameless = record {
  place = k;
  channel = channel;
  there = here;
  has = nameless;
  least = refl;
  before = λ earlier other before at.
      let e = each_has devices names (take k channels) entries earlier other so_far (taken_at channels k earlier before ∙ at) in
      entry_named devices names other e.entry e.of;
}

-- where it stands
pub place_of : {X : Type 0} (xs : List X) (x : X) → (there : Contains xs x) → slice_get xs there.0 ≡ Some x
place_of xs x there = slice_get-get_or xs there.0 x there.1 ∙ ap Some there.2

pub none_nameless : (devices : List Device) (names : List NetName) (channels : List DeviceChannel) (entries : List DeviceEntry) → AreEntries devices names channels entries → HasNoneOf (IsNameless names) channels
none_nameless devices names channels entries are = λ channel there.
    let e = each_has devices names channels entries there.0 channel are (place_of channels channel there) in
    entry_named devices names channel e.entry e.of

-- the same by another list of the same names
abbrev pub AreSameNames : List NetName → List NetName → Type 0
AreSameNames names others = (name : NetName) → Contains names name ↔ Contains others name

named_moved : (names others : List NetName) (terminals : Terminals) → AreSameNames names others → AreNamed names terminals → AreNamed others terminals
named_moved names others terminals same named = record {
  gate = (named.gate.0, (same _).0 named.gate.1);
  first = (named.first.0, (same _).0 named.first.1);
  second = (named.second.0, (same _).0 named.second.1);
}

nameless_moved : (names others : List NetName) (channel : DeviceChannel) → AreSameNames names others → IsNameless others channel → IsNameless names channel
nameless_moved names others channel same nameless = record {
  terminals = nameless.terminals;
  sound = nameless.sound;
  none = λ named. nameless.none (named_moved names others nameless.terminals same named);
}

back : (names others : List NetName) → AreSameNames names others → AreSameNames others names
back names others same = λ name. ((same name).1, (same name).0)

entry_moved : (devices : List Device) (names others : List NetName) (channel : DeviceChannel) (entry : DeviceEntry) → AreSameNames names others → IsEntryOf devices others channel entry → IsEntryOf devices names channel entry
entry_moved devices names others channel entry same of = record {
  device = of.device;
  there = of.there;
  terminals = of.terminals;
  sound = of.sound;
  has = record {
    gate = of.has.gate;
    first = of.has.first;
    second = of.has.second;
    gate_named = (same _).1 of.has.gate_named;
    first_named = (same _).1 of.has.first_named;
    second_named = (same _).1 of.has.second_named;
    is = of.has.is;
  };
}

pub read_moved : (devices : List Device) (names others : List NetName) (channels : List DeviceChannel) (read : ChannelEntries) → AreSameNames names others → AreReadAs devices others channels read → AreReadAs devices names channels read
read_moved devices names others channels (All entries) same are = (
  λ channel there nameless. are.0 channel there (nameless_moved others names channel (back names others same) nameless),
  record { as_many = are.1.as_many; each = λ place c e a b. entry_moved devices names others c e same (are.1.each place c e a b) },
)
read_moved devices names others channels (Nameless least) same first = record {
  place = first.place;
  channel = first.channel;
  there = first.there;
  least = first.least;
  has = nameless_moved names others first.channel same first.has;
  before = λ earlier other before there nameless. first.before earlier other before there (nameless_moved others names other (back names others same) nameless);
}

-- the channel at a place of the list
pub contained_channel : (channels : List DeviceChannel) (k : ℕ) (d : DeviceChannel) → k < length channels → Contains channels (get_or channels k d)
contained_channel channels k d inside = contained_at channels k (get_or channels k d) (slice_get-get_or channels k d inside)

pub ok_moved : (devices : List Device) (names others : List NetName) (channels : List DeviceChannel) (result : Result ChannelEntries Memory) → AreSameNames names others → IfOk result (AreReadAs devices others channels) → IfOk result (AreReadAs devices names channels)
ok_moved devices names others channels (Ok read) same are = read_moved devices names others channels read same are
ok_moved devices names others channels (Err e) same are = tt
