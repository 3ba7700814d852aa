-- A cell and its subcircuit have one first difference, or none.
use Rattle.std.proofs.Common.{◌≡◌, ◌≢◌, ◌⊎◌, inl, inr, ℕ, ℤ, pos, ◌<◌, List, [], ◌∷◌, length, get_or, Option, None, Some, refl, sym, ap, subst, ◌∙◌, arith}
use Rattle.std.specs.Prelude.{slice_get}
use Rattle.std.specs.Ordering.{ordering_then, ordering_reverse}
use Rattle.std.specs.Cmp.{IsTotalOrder, on_total, then_total}
use Rattle.std.specs.Cmp.Lexicographic.{nat_list_cmp_total}
use Rattle.std.specs.declared.cmp.Ordering.{Ordering}
use Rattle.std.specs.declared.cmp.Ordering.TheVariants.{Less, Equal, Greater}
use Rattle.std.proofs.lemmas.Bool.{cases_lt}
use Rattle.std.proofs.lemmas.List.{same_lists}
use Rattle.std.proofs.lemmas.Map.Lookups.{exact_bytes}
use Rattle.std.proofs.lemmas.Option.{same_Some, slice_get-get_or}
use Rattle.or_geom.specs.declared.shape.Point.{Point}
use Rattle.or_geom.specs.Least.{name_order, IsLeast}
use Rattle.or_geom.proofs.LeastLaws.{neither_after, least_is_one}
use Rattle.or_geom.proofs.ListLaws.{contained_at, one_at}
use Rattle.tech_rules.specs.declared.tech.Device.{Device}
use Rattle.spice_text.specs.Words.{lower}
use Rattle.drawn_devices.specs.declared.drawn.DeviceChannel.{DeviceChannel}
use Rattle.drawn_devices.specs.declared.drawn.NetName.{NetName}
use Rattle.drawn_devices.specs.declared.drawn.Terminals.{Terminals}
use Rattle.device_entries.specs.declared.entry.DeviceEntry.{DeviceEntry}
use Rattle.device_entries.specs.declared.uneven.Uneven.{Uneven}
use Rattle.device_entries.specs.declared.uneven.Uneven.TheVariants as uneven
use Rattle.device_entries.specs.Counts.{how_often, AreEven, IsLeastUneven}
use Rattle.device_entries.specs.Entries.{entry_of}
use Rattle.device_entries.specs.EntryOrder.{entry_order, entry_total}
use Rattle.device_entries.proofs.OrderLaws.{one_entry}
use Rattle.device_lvs.specs.declared.difference.DeviceDiff.{DeviceDiff}
use Rattle.device_lvs.specs.declared.difference.DeviceDiff.TheVariants.{NotBox, Open, Short, Nameless, Absent, Extra}
use Rattle.device_lvs.specs.NetNames.{HasName, IsOnTwoNets, pair_order, IsLeastPair, AreNotSplit, AreNotJoined}
use Rattle.device_lvs.specs.ChannelEntries.{IsNotSound, IsNameless, HasEntry, IsEntryOf, AreEntries, IsFirstChannel, HasNoneOf}
use Rattle.device_lvs.specs.CompareSteps.{AreComparedAs, diff_of}
use Rattle.device_lvs.specs.Difference.{CellPair, AreAllSound}

-- one stage stops with a thing, or it is passed and the next one stops
abbrev pub Stops : {D : Type 0} → (D → Type 0) → Type 0 → (D → Type 0) → D → Type 0
Stops A P B x = A x ⊎ (P × B x)

-- at most one thing has it
abbrev pub HasOne : {D : Type 0} → (D → Type 0) → Type 0
HasOne {D} A = (x y : D) → A x → A y → x ≡ y

pub stop_at_one : {D : Type 0} (A : D → Type 0) (P : Type 0) (B : D → Type 0) → HasOne A → ((x : D) → A x → P → ⊥) → (P → HasOne B) → HasOne (Stops A P B)
stop_at_one A P B one never more x y (inl a) (inl b) = one x y a b
stop_at_one A P B one never more x y (inl a) (inr b) = absurd (never x a b.0)
stop_at_one A P B one never more x y (inr a) (inl b) = absurd (never y b a.0)
stop_at_one A P B one never more x y (inr a) (inr b) = more a.0 x y a.1 b.1

-- the first that has P is one
first_is_one : (P : DeviceChannel → Type 0) (channels : List DeviceChannel) (x y z w : ℤ) → IsFirstChannel P channels x y → IsFirstChannel P channels z w → (x ≡ z) × (y ≡ w)
first_is_one P channels x y z w p q =
    let same : p.place ≡ q.place = elim (cases_lt p.place q.place) [
      | inl lt ↦ absurd (q.before p.place p.channel lt p.there p.has)
      | inr ge ↦ elim (cases_lt q.place p.place) [
        | inl lt ↦ absurd (p.before q.place q.channel lt q.there q.has)
        | inr le ↦ omega (arith, ge, le)
      ]
    ] in
    let one : p.channel ≡ q.channel = one_at channels q.place p.channel q.channel (subst (λ (k : ℕ). slice_get channels k ≡ Some p.channel) same p.there) q.there in
    let least : record { x = x; y = y } ≡ record { x = z; y = w } = sym p.least ∙ ap (λ (c : DeviceChannel). c.least) one ∙ q.least in
    (ap (λ (r : Point). r.x) least, ap (λ (r : Point). r.y) least)

first_or_none : (P : DeviceChannel → Type 0) (channels : List DeviceChannel) (x y : ℤ) → IsFirstChannel P channels x y → HasNoneOf P channels → ⊥
first_or_none P channels x y first none = none first.channel (contained_at channels first.place first.channel first.there) first.has

both_equal : (o p : Ordering) → ordering_then o p ≡ Equal → (o ≡ Equal) × (p ≡ Equal)
both_equal Less p e = absurd cc
both_equal Equal p e = (refl, e)
both_equal Greater p e = absurd cc

pair_total : IsTotalOrder pair_order
pair_total = then_total (on_total (λ (p : List ℕ × List ℕ). p.0) nat_list_cmp_total) (on_total (λ (p : List ℕ × List ℕ). p.1) nat_list_cmp_total)

pair_is_one : (names : List NetName) (a b p q : List ℕ) → IsLeastPair names a b → IsLeastPair names p q → (a ≡ p) × (b ≡ q)
pair_is_one names a b p q x y =
    let tie = neither_after pair_order pair_total (a, b) (p, q) (x.least p q y.shared) (y.least a b x.shared) in
    let parts = both_equal (name_order a p) (name_order b q) tie in
    (exact_bytes a p parts.0, exact_bytes b q parts.1)

-- a net has one name, where no two are on one net
name_is_one : (names : List NetName) (net : ℕ) (a b : List ℕ) → AreNotJoined names → HasName names net a → HasName names net b → a ≡ b
name_is_one names net a b apart x y = by (name_order a b) refl where
  by : (o : Ordering) → name_order a b ≡ o → a ≡ b
  by Less is = absurd (apart a b (record { net = net; has = x; other_has = y; rise = is }))
  by Equal is = exact_bytes a b is
  by Greater is =
      let less : name_order b a ≡ Less = nat_list_cmp_total.antisymm b a ∙ ap ordering_reverse is in
      absurd (apart b a (record { net = net; has = y; other_has = x; rise = less }))

entry_is_one : (devices : List Device) (names : List NetName) (channel : DeviceChannel) (e f : DeviceEntry) → AreNotJoined names → IsEntryOf devices names channel e → IsEntryOf devices names channel f → e ≡ f
entry_is_one devices names channel e f apart x y =
    let device : x.device ≡ y.device = same_Some x.device y.device (sym x.there ∙ y.there) in
    let t : x.terminals ≡ y.terminals = same_Some x.terminals y.terminals (sym x.sound ∙ y.sound) in
    let h : HasEntry names x.device y.terminals e = subst (λ (u : Terminals). HasEntry names x.device u e) t x.has in
    let k = y.has in
    let gate = name_is_one names y.terminals.gate h.gate k.gate apart h.gate_named k.gate_named in
    let first = name_is_one names y.terminals.first h.first k.first apart h.first_named k.first_named in
    let second = name_is_one names y.terminals.second h.second k.second apart h.second_named k.second_named in
    h.is ∙ (λ i. entry_of (lower (device i).model) (gate i) (first i) (second i)) ∙ sym k.is

no_entry : DeviceEntry
no_entry = record { model = []; gate = []; low = []; high = [] }

no_channel : DeviceChannel
no_channel = record { device = 0; least = record { x = pos 0; y = pos 0 }; terminals = None }

entries_are_one : (devices : List Device) (names : List NetName) (channels : List DeviceChannel) (es fs : List DeviceEntry) → AreNotJoined names → AreEntries devices names channels es → AreEntries devices names channels fs → es ≡ fs
entries_are_one devices names channels es fs apart x y =
    let long = x.as_many in
    let long_too = y.as_many in
    same_lists es fs (long ∙ sym long_too) (λ k d lt.
    let inside : k < length channels = omega (arith, lt, long) in
    let c = get_or channels k no_channel in
    let there = slice_get-get_or channels k no_channel inside in
    entry_is_one devices names c (get_or es k d) (get_or fs k d) apart (x.each k c (get_or es k d) there (slice_get-get_or es k d lt)) (y.each k c (get_or fs k d) there (slice_get-get_or fs k d (omega (arith, lt, long, long_too)))))

one_least : (a b : DeviceEntry) → entry_order a b ≢ Greater → entry_order b a ≢ Greater → a ≡ b
one_least a b up down = one_entry a b (neither_after entry_order entry_total a b up down)

-- what stands unequally often
odd_less : (m n : ℕ) → m < n → m ≢ n
odd_less m n less = λ e. omega (arith, less, e)

odd_more : (m n : ℕ) → n < m → m ≢ n
odd_more m n less = λ e. omega (arith, less, e)

uneven_is_one : (drawn listed : List DeviceEntry) (u v : Uneven) → IsLeastUneven drawn listed u → IsLeastUneven drawn listed v → u ≡ v
uneven_is_one drawn listed (uneven.Absent a) (uneven.Absent b) p q = ap uneven.Absent (one_least a b (p.1 b (odd_less (how_often b drawn) (how_often b listed) q.0)) (q.1 a (odd_less (how_often a drawn) (how_often a listed) p.0)))
uneven_is_one drawn listed (uneven.Extra a) (uneven.Extra b) p q = ap uneven.Extra (one_least a b (p.1 b (odd_more (how_often b drawn) (how_often b listed) q.0)) (q.1 a (odd_more (how_often a drawn) (how_often a listed) p.0)))
uneven_is_one drawn listed (uneven.Absent a) (uneven.Extra b) p q =
    let same = one_least a b (p.1 b (odd_more (how_often b drawn) (how_often b listed) q.0)) (q.1 a (odd_less (how_often a drawn) (how_often a listed) p.0)) in
    let less : how_often b drawn < how_often b listed = subst (λ (e : DeviceEntry). how_often e drawn < how_often e listed) same p.0 in
    let more = q.0 in
    absurd (omega (arith, less, more))
uneven_is_one drawn listed (uneven.Extra a) (uneven.Absent b) p q =
    let same = one_least a b (p.1 b (odd_less (how_often b drawn) (how_often b listed) q.0)) (q.1 a (odd_more (how_often a drawn) (how_often a listed) p.0)) in
    let less : how_often b listed < how_often b drawn = subst (λ (e : DeviceEntry). how_often e listed < how_often e drawn) same p.0 in
    let more = q.0 in
    absurd (omega (arith, less, more))

even_or_uneven : (drawn listed : List DeviceEntry) (u : Uneven) → AreEven drawn listed → IsLeastUneven drawn listed u → ⊥
even_or_uneven drawn listed (uneven.Absent e) even p = odd_less (how_often e drawn) (how_often e listed) p.0 (even e)
even_or_uneven drawn listed (uneven.Extra e) even p = odd_more (how_often e drawn) (how_often e listed) p.0 (even e)

-- where the comparison stops
record AtNotBox (c : CellPair) (o : Option DeviceDiff) : Type 0 where
  x : ℤ
  y : ℤ
  is : o ≡ Some (NotBox c.role x y)
  first : IsFirstChannel IsNotSound c.drawn.channels x y

record AtOpen (c : CellPair) (o : Option DeviceDiff) : Type 0 where
  name : List ℕ
  is : o ≡ Some (Open c.role name)
  least : IsLeast (IsOnTwoNets c.drawn.names) name

record AtShort (c : CellPair) (o : Option DeviceDiff) : Type 0 where
  one : List ℕ
  two : List ℕ
  is : o ≡ Some (Short c.role one two)
  least : IsLeastPair c.drawn.names one two

record AtNameless (c : CellPair) (o : Option DeviceDiff) : Type 0 where
  x : ℤ
  y : ℤ
  is : o ≡ Some (Nameless c.role x y)
  first : IsFirstChannel (IsNameless c.drawn.names) c.drawn.channels x y

abbrev IsLast : CellPair → List DeviceEntry → Option DeviceDiff → Type 0
IsLast c entries o = ((o ≡ None) × AreEven entries c.listed) ⊎ ((u : Uneven) × (o ≡ Some (diff_of c.role u)) × IsLeastUneven entries c.listed u)

record AtEnd (c : CellPair) (o : Option DeviceDiff) : Type 0 where
  entries : List DeviceEntry
  are : AreEntries c.devices c.drawn.names c.drawn.channels entries
  last : IsLast c entries o

not_box_one : (c : CellPair) → HasOne (AtNotBox c)
not_box_one c o p a b = let e = first_is_one IsNotSound c.drawn.channels a.x a.y b.x b.y a.first b.first in a.is ∙ (λ i. Some (NotBox c.role (e.0 i) (e.1 i))) ∙ sym b.is

open_one : (c : CellPair) → HasOne (AtOpen c)
open_one c o p a b = a.is ∙ ap (λ (n : List ℕ). Some (Open c.role n)) (least_is_one (IsOnTwoNets c.drawn.names) a.name b.name a.least b.least) ∙ sym b.is

short_one : (c : CellPair) → HasOne (AtShort c)
short_one c o p a b = let e = pair_is_one c.drawn.names a.one a.two b.one b.two a.least b.least in a.is ∙ (λ i. Some (Short c.role (e.0 i) (e.1 i))) ∙ sym b.is

nameless_one : (c : CellPair) → HasOne (AtNameless c)
nameless_one c o p a b = let e = first_is_one (IsNameless c.drawn.names) c.drawn.channels a.x a.y b.x b.y a.first b.first in a.is ∙ (λ i. Some (Nameless c.role (e.0 i) (e.1 i))) ∙ sym b.is

last_one : (c : CellPair) (entries : List DeviceEntry) → HasOne (IsLast c entries)
last_one c entries o p (inl a) (inl b) = a.0 ∙ sym b.0
last_one c entries o p (inl a) (inr b) = absurd (even_or_uneven entries c.listed b.0 a.1 b.2)
last_one c entries o p (inr a) (inl b) = absurd (even_or_uneven entries c.listed a.0 b.1 a.2)
last_one c entries o p (inr a) (inr b) = a.1 ∙ ap (λ (u : Uneven). Some (diff_of c.role u)) (uneven_is_one entries c.listed a.0 b.0 a.2 b.2) ∙ sym b.1

end_one : (c : CellPair) → AreNotJoined c.drawn.names → HasOne (AtEnd c)
end_one c apart o p a b =
    let same = entries_are_one c.devices c.drawn.names c.drawn.channels a.entries b.entries apart a.are b.are in
    last_one c b.entries o p (subst (λ (es : List DeviceEntry). IsLast c es o) same a.last) b.last

abbrev FromNames : CellPair → Option DeviceDiff → Type 0
FromNames c = Stops (AtNameless c) (HasNoneOf (IsNameless c.drawn.names) c.drawn.channels) (AtEnd c)

abbrev FromShorts : CellPair → Option DeviceDiff → Type 0
FromShorts c = Stops (AtShort c) (AreNotJoined c.drawn.names) (FromNames c)

abbrev FromOpens : CellPair → Option DeviceDiff → Type 0
FromOpens c = Stops (AtOpen c) (AreNotSplit c.drawn.names) (FromShorts c)

abbrev InTurn : CellPair → Option DeviceDiff → Type 0
InTurn c = Stops (AtNotBox c) (AreAllSound c) (FromOpens c)

in_turn : (c : CellPair) (o : Option DeviceDiff) → AreComparedAs c o → InTurn c o
in_turn c None is =
    let p = is.comparable in
    inr (p.apart.whole.sound, inr (p.apart.whole.split, inr (p.apart.joined, inr (p.named, record { entries = is.entries; are = is.are; last = inl (refl, is.even) }))))
in_turn c (Some (NotBox role x y)) is = inl (record { x = x; y = y; is = ap (λ (r : List ℕ). Some (NotBox r x y)) is.0; first = is.1 })
in_turn c (Some (Open role name)) is = inr (is.1, inl (record { name = name; is = ap (λ (r : List ℕ). Some (Open r name)) is.0; least = is.2 }))
in_turn c (Some (Short role first second)) is = inr (is.1.sound, inr (is.1.split, inl (record { one = first; two = second; is = ap (λ (r : List ℕ). Some (Short r first second)) is.0; least = is.2 })))
in_turn c (Some (Nameless role x y)) is = inr (is.1.whole.sound, inr (is.1.whole.split, inr (is.1.joined, inl (record { x = x; y = y; is = ap (λ (r : List ℕ). Some (Nameless r x y)) is.0; first = is.2 }))))
in_turn c (Some (Absent role model gate low high)) is =
    let p = is.1.comparable in
    let e : DeviceEntry = record { model = model; gate = gate; low = low; high = high } in
    inr (p.apart.whole.sound, inr (p.apart.whole.split, inr (p.apart.joined, inr (p.named, record { entries = is.1.entries; are = is.1.are; last = inr (uneven.Absent e, ap (λ (r : List ℕ). Some (Absent r model gate low high)) is.0, is.1.least) }))))
in_turn c (Some (Extra role model gate low high)) is =
    let p = is.1.comparable in
    let e : DeviceEntry = record { model = model; gate = gate; low = low; high = high } in
    inr (p.apart.whole.sound, inr (p.apart.whole.split, inr (p.apart.joined, inr (p.named, record { entries = is.1.entries; are = is.1.are; last = inr (uneven.Extra e, ap (λ (r : List ℕ). Some (Extra r model gate low high)) is.0, is.1.least) }))))

names_one : (c : CellPair) → AreNotJoined c.drawn.names → HasOne (FromNames c)
names_one c joined =
    stop_at_one (AtNameless c) (HasNoneOf (IsNameless c.drawn.names) c.drawn.channels) (AtEnd c) (nameless_one c)
    (λ o at none. first_or_none (IsNameless c.drawn.names) c.drawn.channels at.x at.y at.first none) (λ none. end_one c joined)

shorts_one : (c : CellPair) → HasOne (FromShorts c)
shorts_one c = stop_at_one (AtShort c) (AreNotJoined c.drawn.names) (FromNames c) (short_one c) (λ o at none. none at.one at.two at.least.shared) (names_one c)

opens_one : (c : CellPair) → HasOne (FromOpens c)
opens_one c = stop_at_one (AtOpen c) (AreNotSplit c.drawn.names) (FromShorts c) (open_one c) (λ o at none. none at.name at.least.has) (λ none. shorts_one c)

-- a cell and a subcircuit differ in one thing first, or in none
pub compared_is_one : (c : CellPair) (o p : Option DeviceDiff) → AreComparedAs c o → AreComparedAs c p → o ≡ p
compared_is_one c o p a b =
    stop_at_one (AtNotBox c) (AreAllSound c) (FromOpens c) (not_box_one c) (λ q at none. first_or_none IsNotSound c.drawn.channels at.x at.y at.first none) (λ none. opens_one c)
    o p (in_turn c o a) (in_turn c p b)
