-- Devices that have the same layers have the same channels.
use Rattle.std.proofs.Common.{◌≡◌, ◌≢◌, ◌⊎◌, inl, inr, ℕ, zero, suc, ◌+◌, ◌<◌, List, [], ◌∷◌, ◌++◌, length, Option, Some, None, refl, sym, ap, subst, ◌∙◌, append_assoc, append-nil, length-append, get_or, arith}
use Rattle.std.specs.Prelude.{Contains, slice_get}
use Rattle.std.specs.List.{AllByRecursion}
use Rattle.std.specs.List.Sorted.{IsStrictlySortedBy}
use Rattle.std.specs.Ordering.{ordering_then, nat_cmp}
use Rattle.std.specs.declared.cmp.Ordering.{Ordering}
use Rattle.std.specs.declared.cmp.Ordering.TheVariants.{Less, Equal}
use Rattle.std.proofs.lemmas.Cmp.{nat_cmp_total, tied_itself}
use Rattle.std.proofs.lemmas.List.{get_or_append_left}
use Rattle.std.proofs.lemmas.List.Elements.{Contains-append_left, Contains-push, Contains-push_cases}
use Rattle.std.proofs.lemmas.Option.{slice_get_within, slice_get_read, get_or_from_slice_get}
use Rattle.or_geom.specs.declared.shape.Point.{Point}
use Rattle.or_geom.specs.declared.shape.Rect.{Rect}
use Rattle.or_geom.specs.declared.shape.Shape.{Shape}
use Rattle.or_geom.proofs.ListLaws.{below_or, contains_none, contains_cases, contains_first, contains_later, all_contained, one_at}
use Rattle.cell_hierarchy.specs.FlatLists.{point_order}
use Rattle.tech_rules.specs.declared.tech.Device.{Device}
use Rattle.tech_rules.specs.declared.tech.Tech.{Tech}
use Rattle.tech_rules.proofs.LinkedLaws.{linked_map}
use Rattle.drawn_devices.specs.declared.cut_cell.CutCell.{CutCell}
use Rattle.drawn_devices.specs.declared.drawn.DeviceChannel.{DeviceChannel}
use Rattle.drawn_devices.specs.declared.drawn.Flow.{Flow}
use Rattle.drawn_devices.specs.declared.drawn.Terminals.{Terminals}
use Rattle.drawn_devices.specs.Cells.{LiesOn, ShareSide}
use Rattle.drawn_devices.specs.Channels.{IsChannelCell, ChannelOf, IsLeastCell}
use Rattle.drawn_devices.specs.CutCell.{IsCutCell}
use Rattle.drawn_devices.specs.Diffusion.{IsActive}
use Rattle.drawn_devices.specs.Drawn.{TerminalsAre, IsNumberAlong, HasChannelAt, channel_order}
use Rattle.drawn_devices.specs.DrawnChannels.{IsDrawnIn, AreFirstChannels}
use Rattle.drawn_devices.specs.Nets.{Member}
use Rattle.drawn_devices.specs.Numbers.{AreNumbersIn}
use Rattle.drawn_devices.specs.SameLayers.{HaveSameLayers, IsAlikeBefore, IsSameAdded, with_device}
use Rattle.drawn_devices.specs.Sides.{IsPassed, first_side, second_side}
use Rattle.drawn_devices.specs.Sound.{IsGateOf, IsSoundChannel}
use Rattle.drawn_devices.proofs.DeviceLaws.{sorted_push, by_device, by_least}
use Rattle.drawn_devices.proofs.NumberLaws.{number_in, cell_numbers}

-- there is something at a place in a list
pub exists_at : {X : Type 0} (xs : List X) (k : ℕ) → k < length xs → (x : X) × (slice_get xs k ≡ Some x)
exists_at [] k lt = absurd (omega (arith, lt))
exists_at (x ∷ xs) zero lt = (x, refl)
exists_at (x ∷ xs) (suc k) lt = exists_at xs k (omega (arith, lt))

turned : (d e : Device) → HaveSameLayers d e → HaveSameLayers e d
turned d e same = record { gate = sym same.gate; active = sym same.active; by = sym same.by }

channel_cell_same : (shapes : List Shape) (d e : Device) → HaveSameLayers d e → (p : Point) → IsChannelCell shapes d p → IsChannelCell shapes e p
channel_cell_same shapes d e same p cell = record {
  gate = subst (λ (layer : ℕ). LiesOn shapes layer p) same.gate cell.gate;
  active = subst (λ (layer : ℕ). LiesOn shapes layer p) same.active cell.active;
  by = subst (λ (layer : ℕ). LiesOn shapes layer p) same.by cell.by;
}

channel_same : (shapes : List Shape) (d e : Device) → HaveSameLayers d e → (cell p : Point) → ChannelOf shapes d cell p → ChannelOf shapes e cell p
channel_same shapes d e same cell p linked = linked_map (IsChannelCell shapes d) ShareSide (IsChannelCell shapes e) ShareSide (λ (q : Point). q) (channel_cell_same shapes d e same) (λ a b share. share) cell p linked

least_same : (shapes : List Shape) (d e : Device) → HaveSameLayers d e → (cell : Point) → IsLeastCell shapes d cell → IsLeastCell shapes e cell
least_same shapes d e same cell is = record {
  of = channel_cell_same shapes d e same cell is.of;
  least = λ other h. is.least other (channel_same shapes e d (turned d e same) cell other h);
}

gate_same : (shapes : List Shape) (d e : Device) → HaveSameLayers d e → (box : Rect) (gate : Shape) → IsGateOf shapes d box gate → IsGateOf shapes e box gate
gate_same shapes d e same box gate is = record { listed = is.listed; on = is.on ∙ same.gate; over = is.over }

sound_same : (tech : Tech) (shapes : List Shape) (d e : Device) → HaveSameLayers d e → (cell : Point) (box : Rect) (flow : Flow) → IsSoundChannel tech shapes d cell box flow → IsSoundChannel tech shapes e cell box flow
sound_same tech shapes d e same cell box flow is =
    let back = turned d e same in
    record {
      is = λ p. (λ h. channel_same shapes d e same cell p ((is.is p).0 h), λ h. (is.is p).1 (channel_same shapes e d back cell p h));
      passed = subst (λ (layer : ℕ). IsPassed tech shapes layer box flow) same.active is.passed;
      drawn = subst (λ (layer : ℕ). IsActive tech.devices layer → ⊥) same.gate is.drawn;
      one = λ a b of_a of_b. is.one a b (gate_same shapes e d back box a of_a) (gate_same shapes e d back box b of_b);
    }

terminals_same : (tech : Tech) (shapes : List Shape) (number : Member → ℕ) (d e : Device) → HaveSameLayers d e → (least : Point) (terminals : Option Terminals) → TerminalsAre tech shapes number d least terminals → TerminalsAre tech shapes number e least terminals
terminals_same tech shapes number d e same least None none = λ box flow sound. none box flow (sound_same tech shapes e d (turned d e same) least box flow sound)
terminals_same tech shapes number d e same least (Some terminals) are = record {
  box = are.box;
  flow = are.flow;
  sound = sound_same tech shapes d e same least are.box are.flow are.sound;
  gate = λ gate of. are.gate gate (gate_same shapes e d (turned d e same) are.box gate of);
  first = subst (λ (layer : ℕ). IsNumberAlong number layer are.box (first_side are.flow) terminals.first) same.active are.first;
  second = subst (λ (layer : ℕ). IsNumberAlong number layer are.box (second_side are.flow) terminals.second) same.active are.second;
}

-- a channel of the earlier device, as one of the other
drawn_same : (cell : CutCell) (index earlier : ℕ) → IsAlikeBefore cell.tech.now.devices index earlier → (number : Member → ℕ) (channel : DeviceChannel) → channel.device ≡ earlier → IsDrawnIn cell number channel → IsDrawnIn cell number (with_device index channel)
drawn_same cell index earlier alike number channel of drawn =
    let tech = cell.tech.now in
    let shapes = cell.shapes.now in
    let there : slice_get tech.devices earlier ≡ Some drawn.device = subst (λ (k : ℕ). slice_get tech.devices k ≡ Some drawn.device) of drawn.there in
    let own : drawn.device ≡ alike.other = one_at tech.devices earlier drawn.device alike.other there alike.there in
    let least : IsLeastCell shapes alike.other channel.least = subst (λ (d : Device). IsLeastCell shapes d channel.least) own drawn.least in
    let terminals : TerminalsAre tech shapes number alike.other channel.least channel.terminals = subst (λ (d : Device). TerminalsAre tech shapes number d channel.least channel.terminals) own drawn.terminals in
    record {
      device = alike.device;
      there = alike.here;
      least = least_same shapes alike.other alike.device alike.same channel.least least;
      terminals = terminals_same tech shapes number alike.other alike.device alike.same channel.least channel.terminals terminals;
    }

least_rises : (a b : DeviceChannel) → a.device ≡ b.device → channel_order a b ≡ Less → point_order a.least b.least ≡ Less
least_rises a b same less =
    let tied : nat_cmp a.device b.device ≡ Equal = subst (λ (k : ℕ). nat_cmp a.device k ≡ Equal) same (tied_itself nat_cmp_total a.device) in
    subst (λ (o : Ordering). ordering_then o (point_order a.least b.least) ≡ Less) tied less

-- the channels of the first devices, and those of the earlier device as far as the rest, as channels of the device with this index
pub record AreSameTo (cell : CutCell) (index earlier : ℕ) (old rest channels : List DeviceChannel) : Type 0 where
  pub rise : IsStrictlySortedBy channel_order channels
  pub each : (number : Member → ℕ) → AreNumbersIn cell number → (channel : DeviceChannel) → Contains channels channel → (channel.device < index + 1) × IsDrawnIn cell number channel
  pub extra : List DeviceChannel
  pub grown : channels ≡ old ++ extra
  pub left : IsStrictlySortedBy channel_order rest
  pub inside : (channel : DeviceChannel) → Contains rest channel → Contains old channel
  pub behind : (added channel : DeviceChannel) → Contains channels added → added.device ≡ index → Contains rest channel → channel.device ≡ earlier → point_order added.least channel.least ≡ Less
  pub done : (channel : DeviceChannel) → Contains old channel → channel.device ≡ earlier → Contains rest channel ⊎ HasChannelAt channels index channel.least

kept : (cell : CutCell) (index earlier : ℕ) (old rest channels : List DeviceChannel) → AreSameTo cell index earlier old rest channels → (channel : DeviceChannel) → Contains old channel → Contains channels channel
kept cell index earlier old rest channels a channel h = subst (λ (l : List DeviceChannel). Contains l channel) (sym a.grown) (Contains-append_left old a.extra channel h)

pub same_begins : (cell : CutCell) (index earlier : ℕ) (old : List DeviceChannel) → IsCutCell cell → AreFirstChannels cell index old → AreSameTo cell index earlier old old old
same_begins cell index earlier old cut a = record {
  rise = a.rise;
  each = λ number are channel h. let e = a.each number are channel h in let lt = e.0 in (omega (arith, lt), e.1);
  extra = [];
  grown = sym (append-nil old);
  left = a.rise;
  inside = λ channel h. h;
  behind = λ added channel h same r of. let lt = (a.each (number_in cell.bins cell.nets) (cell_numbers cell cut) added h).0 in absurd (omega (arith, lt, same));
  done = λ channel h of. inl h;
}

rest_rises : (c : DeviceChannel) (tail : List DeviceChannel) → IsStrictlySortedBy channel_order (c ∷ tail) → AllByRecursion (λ (z : DeviceChannel). channel_order c z ≡ Less) tail × IsStrictlySortedBy channel_order tail
unfolding IsStrictlySortedBy
rest_rises c tail rise = (rise.0, rise.1)

module _ (cell : CutCell) (index earlier : ℕ) (old : List DeviceChannel) where
  still_listed : (channels more : List DeviceChannel) (added : DeviceChannel) (least : Point) → more ≡ channels ++ added ∷ [] → HasChannelAt channels index least → HasChannelAt more index least
  still_listed channels more added least grown l = record { channel = l.channel; listed = subst (λ (m : List DeviceChannel). Contains m l.channel) (sym grown) (Contains-append_left channels (added ∷ []) l.channel l.listed); of = l.of; at = l.at }

  -- a channel of another device than the earlier one
  other_next : (c : DeviceChannel) (tail channels : List DeviceChannel) → c.device ≢ earlier → AreSameTo cell index earlier old (c ∷ tail) channels → AreSameTo cell index earlier old tail channels
  other_next c tail channels off a = record {
    rise = a.rise;
    each = a.each;
    extra = a.extra;
    grown = a.grown;
    left = (rest_rises c tail a.left).1;
    inside = λ channel h. a.inside channel (contains_later c tail channel h);
    behind = λ added channel h same r of. a.behind added channel h same (contains_later c tail channel r) of;
    done = λ channel h of. elim (a.done channel h of) [
      | inl r ↦ elim (contains_cases c tail channel r) [
        | inl is ↦ absurd (off (subst (λ (x : DeviceChannel). x.device ≡ earlier) is of))
        | inr later ↦ inl later
      ]
      | inr listed ↦ inr listed
    ];
  }

  -- the added channel stands behind all others
  added_behind : (c added : DeviceChannel) (tail channels : List DeviceChannel) → IsCutCell cell → c.device ≡ earlier → added.device ≡ index → added.least ≡ c.least → AreSameTo cell index earlier old (c ∷ tail) channels → (other : DeviceChannel) → Contains channels other → channel_order other added ≡ Less
  added_behind c added tail channels cut of device least a other h =
      let lt = (a.each (number_in cell.bins cell.nets) (cell_numbers cell cut) other h).0 in
      elim (below_or other.device index lt) [
        | inl less ↦ by_device other added (omega (arith, less, device))
        | inr same ↦ by_least other added (same ∙ sym device) (subst (λ (p : Point). point_order other.least p ≡ Less) (sym least) (a.behind other c h same (contains_first c tail) of))
      ]

  -- a channel of the earlier device
  same_next : (c : DeviceChannel) (tail channels more : List DeviceChannel) → IsCutCell cell → IsAlikeBefore cell.tech.now.devices index earlier → c.device ≡ earlier → more ≡ channels ++ with_device index c ∷ [] → AreSameTo cell index earlier old (c ∷ tail) channels
      → AreSameTo cell index earlier old tail more
  same_next c tail channels more cut alike of grown a =
      let added = with_device index c in
      let first : Contains channels c = kept cell index earlier old (c ∷ tail) channels a c (a.inside c (contains_first c tail)) in
      let rises = rest_rises c tail a.left in
      let in_more : (channel : DeviceChannel) → Contains more channel → Contains channels channel ⊎ (added ≡ channel) = λ channel h. Contains-push_cases channels added channel (subst (λ (m : List DeviceChannel). Contains m channel) grown h) in
      record {
        rise = subst (IsStrictlySortedBy channel_order) (sym grown) (sorted_push channel_order channels added a.rise (λ other h. added_behind c added tail channels cut of refl refl a other h));
        each = λ number are channel h. elim (in_more channel h) [
          | inl earlier_one ↦ a.each number are channel earlier_one
          | inr same ↦ subst (λ (x : DeviceChannel). (x.device < index + 1) × IsDrawnIn cell number x) same (omega arith, drawn_same cell index earlier alike number c of (a.each number are c first).1)
        ];
        extra = a.extra ++ added ∷ [];
        grown = grown ∙ ap (λ (l : List DeviceChannel). l ++ added ∷ []) a.grown ∙ append_assoc old a.extra (added ∷ []);
        left = rises.1;
        inside = λ channel h. a.inside channel (contains_later c tail channel h);
        behind = λ one channel h same r on. elim (in_more one h) [
          | inl earlier_one ↦ a.behind one channel earlier_one same (contains_later c tail channel r) on
          | inr is ↦ subst (λ (x : DeviceChannel). point_order x.least channel.least ≡ Less) is (least_rises c channel (of ∙ sym on) (all_contained (λ (z : DeviceChannel). channel_order c z ≡ Less) tail channel rises.0 r))
        ];
        done = λ channel h on. elim (a.done channel h on) [
          | inl r ↦ elim (contains_cases c tail channel r) [
            | inl is ↦ inr (record { channel = added; listed = subst (λ (m : List DeviceChannel). Contains m added) (sym grown) (Contains-push channels added); of = refl; at = ap (λ (x : DeviceChannel). x.least) (sym is) })
            | inr later ↦ inl later
          ]
          | inr listed ↦ inr (still_listed channels more added channel.least grown listed)
        ];
      }

  pub same_more : (place : ℕ) (c : DeviceChannel) (rest tail channels more : List DeviceChannel) → rest ≡ c ∷ tail → IsCutCell cell → IsAlikeBefore cell.tech.now.devices index earlier → IsSameAdded earlier index place channels more → slice_get channels place ≡ Some c
      → AreSameTo cell index earlier old rest channels → AreSameTo cell index earlier old tail more
  same_more place c rest tail channels more begins cut alike step there a =
      let b : AreSameTo cell index earlier old (c ∷ tail) channels = subst (λ (l : List DeviceChannel). AreSameTo cell index earlier old l channels) begins a in
      let is : step.channel ≡ c = one_at channels place step.channel c step.there there in
      elim step.added [
        | inl added ↦ same_next c tail channels more cut alike (subst (λ (x : DeviceChannel). x.device ≡ earlier) is added.0) (subst (λ (x : DeviceChannel). more ≡ channels ++ with_device index x ∷ []) is added.1) b
        | inr none ↦ subst (λ (m : List DeviceChannel). AreSameTo cell index earlier old tail m) (sym none.1) (other_next c tail channels (subst (λ (x : DeviceChannel). x.device ≢ earlier) is none.0) b)
      ]

  -- the next of the old channels stands there still
  pub stands_there : (place : ℕ) (c : DeviceChannel) (rest channels : List DeviceChannel) → slice_get old place ≡ Some c → AreSameTo cell index earlier old rest channels → slice_get channels place ≡ Some c
  stands_there place c rest channels at a =
      let within = slice_get_within old place c at in
      let long = length-append old a.extra in
      let is : c ≡ get_or (old ++ a.extra) place c = sym (get_or_append_left old a.extra c place within ∙ get_or_from_slice_get old place c c at) in
      subst (λ (l : List DeviceChannel). slice_get l place ≡ Some c) (sym a.grown) (slice_get_read (old ++ a.extra) (length (old ++ a.extra)) place c refl (omega (arith, within, long)) is)

  pub same_ends : (rest channels : List DeviceChannel) → rest ≡ [] → IsAlikeBefore cell.tech.now.devices index earlier → AreFirstChannels cell index old → AreSameTo cell index earlier old rest channels → AreFirstChannels cell (index + 1) channels
  same_ends rest channels ends alike first a =
      let devices = cell.tech.now.devices in
      let shapes = cell.shapes.now in
      record {
        rise = a.rise;
        each = a.each;
        all = λ i device least lt at is. elim (below_or i index lt) [
          | inl less ↦
              let l = first.all i device least less at is in
              record { channel = l.channel; listed = kept cell index earlier old rest channels a l.channel l.listed; of = l.of; at = l.at }
          | inr same ↦
              let own : device ≡ alike.device = one_at devices index device alike.device (subst (λ (k : ℕ). slice_get devices k ≡ Some device) same at) alike.here in
              let least_there : IsLeastCell shapes alike.other least = least_same shapes alike.device alike.other (turned alike.other alike.device alike.same) least (subst (λ (d : Device). IsLeastCell shapes d least) own is) in
              let l = first.all earlier alike.other least alike.before alike.there least_there in
              elim (a.done l.channel l.listed l.of) [
                | inl r ↦ absurd (contains_none l.channel (subst (λ (k : List DeviceChannel). Contains k l.channel) ends r))
                | inr listed ↦ record { channel = listed.channel; listed = listed.listed; of = listed.of ∙ sym same; at = listed.at ∙ l.at }
              ]
        ];
      }
