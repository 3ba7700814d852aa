-- The shapes and labels of a cell draw some channels, and name some nets.
use Rattle.std.proofs.Common.{◌≡◌, ◌⊎◌, inl, inr, ℕ, ◌<◌, ℤ, ◌<ℤ◌, List, [], ◌∷◌, length, Option, Some, None, refl, sym, ap, subst, arith}
use Rattle.std.specs.Prelude.{Contains, slice_get}
use Rattle.std.specs.Ordering.{ordering_then, nat_cmp}
use Rattle.std.specs.List.Sorted.{IsStrictlySortedBy}
use Rattle.std.specs.declared.cmp.Ordering.{Ordering}
use Rattle.std.specs.declared.cmp.Ordering.TheVariants.{Less, Equal, Greater}
use Rattle.std.proofs.lemmas.Cmp.{nat_cmp_total, on_total, then_total}
use Rattle.std.proofs.lemmas.Int.{ints}
use Rattle.std.proofs.lemmas.Option.{same_Some, slice_get_within}
use Rattle.or_geom.specs.declared.shape.Point.{Point}
use Rattle.or_geom.specs.declared.shape.Rect.{Rect}
use Rattle.or_geom.specs.declared.shape.Shape.{Shape}
use Rattle.or_geom.proofs.ListLaws.{all_contained, contains_cases, contains_first, contains_later, contains_none}
use Rattle.shape_bins.proofs.CoverLaws.{shape_over}
use Rattle.tech_rules.specs.declared.tech.Device.{Device}
use Rattle.tech_rules.specs.declared.tech.Tech.{Tech}
use Rattle.tech_rules.proofs.LinkedLaws.{linked_end, linked_itself, linked_map}
use Rattle.element_drawing.specs.PlainLabel.{PlainLabel}
use Rattle.cell_hierarchy.specs.FlatLists.{point_order}
use Rattle.label_binding.specs.Binding.{Binds}
use Rattle.label_binding.specs.BoundPlaces.{label_anchor}
use Rattle.label_binding.specs.LowerCase.{in_lower_case}
use Rattle.drawn_devices.specs.declared.drawn.DeviceChannel.{DeviceChannel}
use Rattle.drawn_devices.specs.declared.drawn.Flow.{Flow}
use Rattle.drawn_devices.specs.declared.drawn.NetName.{NetName}
use Rattle.drawn_devices.specs.declared.drawn.Side.{Side}
use Rattle.drawn_devices.specs.declared.drawn.Terminals.{Terminals}
use Rattle.drawn_devices.specs.Cells.{ShareSide}
use Rattle.drawn_devices.specs.Channels.{IsChannelCell, ChannelOf, IsLeastCell}
use Rattle.drawn_devices.specs.Diffusion.{IsActive, IsDiffusion}
use Rattle.drawn_devices.specs.Drawn.{AreNetNumbers, IsNumberAlong, TerminalsAre, IsListedChannel, IsNetName}
use Rattle.drawn_devices.specs.Nets.{Member, Drawn, Diffused, IsMember, MembersTouch}
use Rattle.drawn_devices.specs.Sides.{IsOpen, first_side, second_side}
use Rattle.drawn_devices.specs.Sound.{IsGateOf, IsSoundChannel}
use Rattle.drawn_devices.proofs.CellLaws.{Has, box_linked}
use Rattle.drawn_devices.proofs.LayerLaws.{decide_active}
use Rattle.flat_answers.proofs.DecisionLaws.{Decided, decide_both, decide_name, decide_not}
use Rattle.flat_answers.proofs.ListedLaws.{IsOrder, Listed, all_by_contained, decide_all, listed_as, listed_below, listed_none, listed_one, listed_ordered, listed_over, listed_where}
use Rattle.flat_answers.proofs.OrderLaws.{equal_number, equal_parts, points_in_order}
use Rattle.net_answers.proofs.ToldLaws.{bound_or_none, one_bound}
use Rattle.device_answers.specs.DeviceAnswers.{DrawnDevicesAreThere}
use Rattle.device_answers.proofs.CellListLaws.{decide_channel, listed_channel_cells, listed_items}
use Rattle.device_answers.proofs.MemberDecisionLaws.{net_numbers}
use Rattle.device_answers.proofs.SoundDecisionLaws.{sound_or_not, strip_there}

-- things of these keys, in the order of their keys
pub record AreChosen {X Y : Type 0} (key : Y → X) (cmp : X → X → Ordering) (R : Y → Type 0) (xs : List X) : Type 0 where
  pub things : List Y
  pub rise : IsStrictlySortedBy (λ (a b : Y). cmp (key a) (key b)) things
  pub each : (y : Y) → Contains things y → R y × Contains xs (key y)
  pub all : (x : X) → Contains xs x → (y : Y) × Contains things y × (key y ≡ x)

chosen : {X Y : Type 0} (key : Y → X) (cmp : X → X → Ordering) (R : Y → Type 0) (xs : List X) → IsStrictlySortedBy cmp xs → ((x : X) → Contains xs x → (y : Y) × (key y ≡ x) × R y) → AreChosen key cmp R xs
unfolding IsStrictlySortedBy
chosen key cmp R [] rise choose = record { things = []; rise = tt; each = λ y h. absurd (contains_none y h); all = λ x h. absurd (contains_none x h) }
chosen {X} {Y} key cmp R (x ∷ xs) rise choose =
    let one = choose x (contains_first x xs) in
    let rest = chosen key cmp R xs rise.1 (λ z h. choose z (contains_later x xs z h)) in
    record {
      things = one.0 ∷ rest.things;
      rise = (
        all_by_contained (λ (y : Y). cmp (key one.0) (key y) ≡ Less) rest.things
            (λ y h. subst (λ (k : X). cmp k (key y) ≡ Less) (sym one.1) (all_contained (λ (k : X). cmp x k ≡ Less) xs (key y) rise.0 (rest.each y h).1)),
        rest.rise,
      );
      each = λ y h. elim (contains_cases one.0 rest.things y h) [
        | inl is ↦ subst (λ (z : Y). R z × Contains (x ∷ xs) (key z)) (sym is) (one.2, subst (Contains (x ∷ xs)) (sym one.1) (contains_first x xs))
        | inr later ↦ let e = rest.each y later in (e.0, contains_later x xs (key y) e.1)
      ];
      all = λ z h. elim (contains_cases x xs z h) [
        | inl is ↦ (one.0, contains_first one.0 rest.things, subst (λ (k : X). key one.0 ≡ k) (sym is) one.1)
        | inr later ↦ let a = rest.all z later in (a.0, contains_later one.0 rest.things a.0 a.1, a.2)
      ];
    }

-- the order of devices and least cells
abbrev key_order : ℕ × Point → ℕ × Point → Ordering
key_order a b = ordering_then (nat_cmp a.0 b.0) (point_order a.1 b.1)

abbrev key_of : DeviceChannel → ℕ × Point
key_of c = (c.device, c.least)

keys_in_order : IsOrder key_order
keys_in_order = record {
  total = then_total (on_total (λ (k : ℕ × Point). k.0) nat_cmp_total) (on_total (λ (k : ℕ × Point). k.1) points_in_order.total);
  one = λ a b e. let both = equal_parts (nat_cmp a.0 b.0) (point_order a.1 b.1) e in λ i. (equal_number a.0 b.0 both.0 i, points_in_order.one a.1 b.1 both.1 i);
}

decide_greater : (o : Ordering) → Decided (o ≡ Greater)
decide_greater Less = inr (λ e. absurd cc)
decide_greater Equal = inr (λ e. absurd cc)
decide_greater Greater = inl refl

module _ (tech : Tech) (shapes : List Shape) where
  -- the least cells of a device's channels
  abbrev ComesFirst : Device → Point → Type 0
  ComesFirst device p = (q : Point) → IsChannelCell shapes device q → ChannelOf shapes device p q × (point_order p q ≡ Greater) → ⊥

  listed_least : (device : Device) → Listed (IsLeastCell shapes device)
  listed_least device = listed_as (λ (p : Point). IsChannelCell shapes device p × ComesFirst device p) (IsLeastCell shapes device)
      (λ p h. record { of = h.0; least = λ q in_channel greater. h.1 q (linked_end (IsChannelCell shapes device) ShareSide p q h.0 in_channel) (in_channel, greater) })
      (λ p l. (l.of, λ q of h. l.least q h.0 h.1))
      (listed_where (IsChannelCell shapes device) (ComesFirst device) (listed_channel_cells shapes device)
      (λ p. decide_all (IsChannelCell shapes device) (λ (q : Point). ChannelOf shapes device p q × (point_order p q ≡ Greater) → ⊥) (listed_channel_cells shapes device)
      (λ q. decide_not (ChannelOf shapes device p q × (point_order p q ≡ Greater))
      (decide_both (ChannelOf shapes device p q) (point_order p q ≡ Greater) (decide_channel shapes device p q) (decide_greater (point_order p q))))))

  -- a device's place, and the least cell of a channel of it
  abbrev IsKeyAt : ℕ → ℕ × Point → Type 0
  IsKeyAt index key = (device : Device) × (slice_get tech.devices index ≡ Some device) × ((p : Point) × IsLeastCell shapes device p × (key ≡ (index, p)))

  abbrev IsKey : ℕ × Point → Type 0
  IsKey key = (index : ℕ) × (index < length tech.devices) × IsKeyAt index key

  listed_key : (index : ℕ) → Listed (IsKeyAt index)
  listed_key index = by (slice_get tech.devices index) refl
    where
      by : (o : Option Device) → slice_get tech.devices index ≡ o → Listed (IsKeyAt index)
      by None none = listed_none (IsKeyAt index) (λ key h. let bad : ◌≡◌ {A = Option Device} None (Some h.0) = subst (λ (o : Option Device). o ≡ Some h.0) none h.1 in absurd cc)
      by (Some device) there = listed_as (λ (key : ℕ × Point). (p : Point) × IsLeastCell shapes device p × (key ≡ (index, p))) (IsKeyAt index)
          (λ key h. (device, there, h))
          (λ key h.
          let one : h.0 ≡ device = same_Some h.0 device (subst (λ (o : Option Device). o ≡ Some device) h.1 there) in
          (h.2.0, subst (λ (d : Device). IsLeastCell shapes d h.2.0) one h.2.1, h.2.2))
          (listed_over (IsLeastCell shapes device) (λ (p : Point) (key : ℕ × Point). key ≡ (index, p)) (listed_least device) (λ p. listed_one (index, p)))

  listed_keys : Listed IsKey
  listed_keys = listed_over (λ (index : ℕ). index < length tech.devices) IsKeyAt (listed_below (length tech.devices)) listed_key

  module _ (number : Member → ℕ) (nets : AreNetNumbers tech shapes number) where
    -- the number of the diffusion along an open side
    along_there : (layer : ℕ) (box : Rect) (side : Side) → IsOpen tech shapes layer box side → (net : ℕ) × IsNumberAlong number layer box side net
    along_there layer box side passable =
        let strip = strip_there side box in
        let r = strip.0 in
        let low : Point = record { x = r.x1; y = r.y1 } in
        let wide : r.x1 <ℤ r.x2 = r.wide in
        let tall : r.y1 <ℤ r.y2 = r.tall in
        let inside : Has r low = record { left = omega (arith, ints); right = wide; low = omega (arith, ints); high = tall } in (
          number (Diffused layer low),
          λ p along. (nets (Diffused layer low) (Diffused layer p) (passable low ((strip.1 low).0 inside)) (passable p along)).1
              (linked_map (IsDiffusion tech.devices shapes layer) ShareSide (IsMember tech shapes) (MembersTouch tech) (λ (q : Point). Diffused layer q) (λ q h. h) (λ q z side_of. (refl, side_of)) low p
              (box_linked (IsDiffusion tech.devices shapes layer) r (λ q has. passable q ((strip.1 q).0 has)) low p inside ((strip.1 p).1 along))),
        )

    gate_member : (device : Device) (box : Rect) (gate : Shape) → (IsActive tech.devices device.gate → ⊥) → IsGateOf shapes device box gate → IsMember tech shapes (Drawn gate)
    gate_member device box gate off of = (of.listed, λ active. off (subst (IsActive tech.devices) of.on active))

    terminals_there : (device : Device) (cell : Point) → IsChannelCell shapes device cell → (terminals : Option Terminals) × TerminalsAre tech shapes number device cell terminals
    terminals_there device cell of = elim (sound_or_not tech shapes device cell of) [
      | inr none ↦ (None, none)
      | inl h ↦ sound_terminals h.0 h.1.0 h.1.1
    ]
      where
        sound_terminals : (box : Rect) (flow : Flow) → IsSoundChannel tech shapes device cell box flow → (terminals : Option Terminals) × TerminalsAre tech shapes number device cell terminals
        sound_terminals box flow sound =
            let over = shape_over device.gate shapes cell.x cell.y of.gate in
            let inside : Has box cell = (sound.is cell).1 (linked_itself (IsChannelCell shapes device) ShareSide cell) in
            let first : IsGateOf shapes device box over.shape = record { listed = over.there; on = over.on; over = record { x = cell.x; y = cell.y; in_a = over.holds; in_b = inside } } in
            let one = along_there device.active box (first_side flow) sound.passed.first_open in
            let other = along_there device.active box (second_side flow) sound.passed.second_open in (
              Some (record { gate = number (Drawn over.shape); first = one.0; second = other.0 }),
              record {
                box = box;
                flow = flow;
                sound = sound;
                gate = λ gate of_gate. (nets (Drawn over.shape) (Drawn gate) (gate_member device box over.shape sound.drawn first) (gate_member device box gate sound.drawn of_gate)).1 (sound.one over.shape gate first of_gate);
                first = one.1;
                second = other.1;
              },
            )

    channel_there : (key : ℕ × Point) → IsKey key → (channel : DeviceChannel) × (key_of channel ≡ key) × IsListedChannel tech shapes number channel
    channel_there key h =
        let device = h.2.0 in
        let least = h.2.2.1 in
        let p = h.2.2.0 in
        let t = terminals_there device p least.of in
        (record { device = h.0; least = p; terminals = t.0 }, sym h.2.2.2, record { device = device; there = h.2.1; least = least; terminals = t.1 })

    -- the names that labels give
    module _ (labels : List PlainLabel) where
      abbrev entry_of : PlainLabel → Shape → NetName
      entry_of label shape = record { name = in_lower_case label.name; net = number (Drawn shape) }

      abbrev GivesEntry : PlainLabel → NetName → Type 0
      GivesEntry label entry = (shape : Shape) × Binds shapes (label_anchor label) shape × (entry ≡ entry_of label shape)

      abbrev IsGiving : PlainLabel → Type 0
      IsGiving label = (label.path ≡ []) × (IsActive tech.devices label.layer → ⊥)

      same_entry : (a b : NetName) → a.name ≡ b.name → a.net ≡ b.net → a ≡ b
      same_entry a b name net = λ i. record { name = name i; net = net i }

      listed_bound : (label : PlainLabel) → Listed (Binds shapes (label_anchor label))
      listed_bound label = elim (bound_or_none shapes (label_anchor label)) [
        | inl b ↦ listed_as (λ (s : Shape). s ≡ b.0) (Binds shapes (label_anchor label)) (λ s e. subst (Binds shapes (label_anchor label)) (sym e) b.1)
            (λ s binds. one_bound shapes (label_anchor label) s b.0 binds b.1) (listed_one b.0)
        | inr none ↦ listed_none (Binds shapes (label_anchor label)) (λ s b. none s b.listed b.under)
      ]

      name_is : (entry : NetName) → ((label : PlainLabel) × (Contains labels label × IsGiving label) × GivesEntry label entry) → IsNetName tech shapes labels number entry
      name_is entry h =
          let label = h.0 in
          let gives = h.2 in
          record {
            shape = gives.0;
            named = record { label = label; listed = h.1.0; own = h.1.1.0; drawn = h.1.1.1; binds = gives.1; is = ap (λ (e : NetName). e.name) gives.2 };
            net = ap (λ (e : NetName). e.net) gives.2;
          }

      listed_names : Listed (IsNetName tech shapes labels number)
      listed_names = listed_as (λ (entry : NetName). (label : PlainLabel) × (Contains labels label × IsGiving label) × GivesEntry label entry) (IsNetName tech shapes labels number) name_is
          (λ entry n. let named = n.named in (named.label, (named.listed, (named.own, named.drawn)), (n.shape, named.binds, same_entry entry (entry_of named.label n.shape) named.is n.net)))
          (listed_over (λ (label : PlainLabel). Contains labels label × IsGiving label) GivesEntry
          (listed_where (Contains labels) IsGiving (listed_items labels) (λ label. decide_both (label.path ≡ []) (IsActive tech.devices label.layer → ⊥) (decide_name label.path [])
          (decide_not (IsActive tech.devices label.layer) (decide_active tech.devices label.layer))))
          (λ label. listed_over (Binds shapes (label_anchor label)) (λ (s : Shape) (entry : NetName). entry ≡ entry_of label s) (listed_bound label) (λ s. listed_one (entry_of label s))))

pub drawn_devices_are_there : DrawnDevicesAreThere
drawn_devices_are_there tech shapes labels =
    let n = net_numbers tech shapes in
    let names = listed_names tech shapes n.0 n.1 labels in
    let keys = listed_ordered key_order (IsKey tech shapes) keys_in_order (listed_keys tech shapes) in
    let channels = chosen key_of key_order (IsListedChannel tech shapes n.0) keys.0 keys.1 (λ key h. channel_there tech shapes n.0 n.1 key ((keys.2 key).0 h)) in (
      record { names = names.0; channels = channels.things },
      record {
        number = n.0;
        nets = n.1;
        names = names.1;
        rise = channels.rise;
        each = λ channel h. (channels.each channel h).0;
        all = λ index device least there is.
            let c = channels.all (index, least) ((keys.2 (index, least)).1 (index, slice_get_within tech.devices index device there, (device, there, (least, is, refl)))) in
            record { channel = c.0; listed = c.1; of = ap (λ (k : ℕ × Point). k.0) c.2; at = ap (λ (k : ℕ × Point). k.1) c.2 };
      },
    )
