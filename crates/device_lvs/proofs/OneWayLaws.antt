-- Two readings of one cell have the same channels and names, up to the numbers of nets.
use Rattle.std.proofs.Common.{◌≡◌, ◌≢◌, ◌↔◌, ◌⊎◌, ℕ, ◌<◌, ◌≤◌, List, [], ◌∷◌, map, Option, None, Some, refl, sym, ap, subst, ◌∙◌}
use Rattle.std.specs.Prelude.{Contains, slice_get, option_map}
use Rattle.std.specs.Ordering.{ordering_then, nat_cmp}
use Rattle.std.specs.Cmp.{IsTotalOrder, on_total, then_total, nat_cmp_total, int_cmp_total}
use Rattle.std.specs.List.Sorted.{IsStrictlySortedBy}
use Rattle.std.specs.List.{AllByRecursion}
use Rattle.std.specs.declared.cmp.Ordering.{Ordering}
use Rattle.std.specs.declared.cmp.Ordering.TheVariants.{Less}
use Rattle.std.proofs.lemmas.Option.{same_Some, slice_get-map}
use Rattle.or_geom.specs.declared.shape.Point.{Point}
use Rattle.or_geom.specs.declared.shape.Shape.{Shape}
use Rattle.or_geom.proofs.ListLaws.{contained_at, contains_map}
use Rattle.or_geom.proofs.OneListLaws.{one_list}
use Rattle.element_drawing.specs.PlainLabel.{PlainLabel}
use Rattle.tech_rules.specs.declared.tech.Device.{Device}
use Rattle.tech_rules.specs.declared.tech.Tech.{Tech}
use Rattle.cell_hierarchy.specs.FlatLists.{point_order}
use Rattle.drawn_devices.specs.declared.drawn.DeviceChannel.{DeviceChannel}
use Rattle.drawn_devices.specs.declared.drawn.DrawnDevices.{DrawnDevices}
use Rattle.drawn_devices.specs.declared.drawn.Terminals.{Terminals}
use Rattle.drawn_devices.specs.Channels.{IsChannelCell}
use Rattle.drawn_devices.specs.Drawn.{TerminalsAre, IsListedChannel, AreDrawnDevices}
use Rattle.device_entries.specs.declared.entry.DeviceEntry.{DeviceEntry}
use Rattle.device_lvs.specs.ChannelEntries.{IsNotSound, IsNameless, IsEntryOf}
use Rattle.device_lvs.proofs.EntryLaws.{place_of}
use Rattle.device_lvs.proofs.TerminalLaws.{TerminalsMoved, terminals_moved}

all_images : {X Y : Type 0} (P : Y → Type 0) (f : X → Y) (xs : List X) → AllByRecursion (λ x. P (f x)) xs → AllByRecursion P (map f xs)
all_images P f [] all = tt
all_images P f (x ∷ xs) all = (all.0, all_images P f xs all.1)

-- the images of a list in strict order of the images
images_rise : {X Y : Type 0} (cmp : Y → Y → Ordering) (f : X → Y) (xs : List X) → IsStrictlySortedBy (λ a b. cmp (f a) (f b)) xs → IsStrictlySortedBy cmp (map f xs)
unfolding IsStrictlySortedBy
images_rise cmp f [] rising = tt
images_rise cmp f (x ∷ xs) rising = (all_images (λ y. cmp (f x) y ≡ Less) f xs rising.0, images_rise cmp f xs rising.1)

-- what tells channels apart
record ChannelKey : Type 0 where
  device : ℕ
  least : Point

abbrev key_of : DeviceChannel → ChannelKey
key_of channel = record { device = channel.device; least = channel.least }

abbrev key_order : ChannelKey → ChannelKey → Ordering
key_order a b = ordering_then (nat_cmp a.device b.device) (point_order a.least b.least)

key_total : IsTotalOrder key_order
key_total =
    then_total (on_total (λ (k : ChannelKey). k.device) nat_cmp_total)
    (then_total (on_total (λ (k : ChannelKey). k.least.x) int_cmp_total) (on_total (λ (k : ChannelKey). k.least.y) int_cmp_total))

-- what stands in the image of a list
record ImageOf (channels : List DeviceChannel) (key : ChannelKey) : Type 0 where
  channel : DeviceChannel
  there : Contains channels channel
  is : key ≡ key_of channel

image_of : (channels : List DeviceChannel) (key : ChannelKey) → Contains (map key_of channels) key → ImageOf channels key
image_of channels key there = by (slice_get channels there.0) refl where
  by : (o : Option DeviceChannel) → slice_get channels there.0 ≡ o → ImageOf channels key
  by (Some channel) is = record { channel = channel; there = contained_at channels there.0 channel is; is = same_Some key (key_of channel) (sym (place_of (map key_of channels) key there) ∙ slice_get-map key_of channels there.0 ∙ ap (option_map key_of) is) }
  by None is = let clash : Some key ≡ None = sym (place_of (map key_of channels) key there) ∙ slice_get-map key_of channels there.0 ∙ ap (option_map key_of) is in absurd cc

module _ (tech : Tech) (shapes : List Shape) (labels : List PlainLabel) where
  -- each channel of the one is one of the other
  keys_within : (d e : DrawnDevices) → AreDrawnDevices tech shapes labels d → AreDrawnDevices tech shapes labels e → (key : ChannelKey) → Contains (map key_of d.channels) key → Contains (map key_of e.channels) key
  keys_within d e a b key there =
      let image = image_of d.channels key there in
      let of = a.each image.channel image.there in
      let listed = b.all image.channel.device of.device image.channel.least of.there of.least in
      let same : key_of listed.channel ≡ key = (λ i. record { device = listed.of i; least = listed.at i }) ∙ sym image.is in
      subst (Contains (map key_of e.channels)) same (contains_map key_of e.channels listed.channel listed.listed)

  same_keys : (d e : DrawnDevices) → AreDrawnDevices tech shapes labels d → AreDrawnDevices tech shapes labels e → map key_of d.channels ≡ map key_of e.channels
  same_keys d e a b =
      one_list key_order key_total (map key_of d.channels) (map key_of e.channels) (images_rise key_order key_of d.channels a.rise) (images_rise key_order key_of e.channels b.rise)
      (record { there = keys_within d e a b; back = keys_within e d b a })

  -- what holds of a channel by the one reading holds of it by the other
  pub record ChannelMoved (d e : DrawnDevices) (c f : DeviceChannel) : Type 0 where
    pub device : f.device ≡ c.device
    pub least : f.least ≡ c.least
    pub unsound : IsNotSound c → IsNotSound f
    pub nameless : IsNameless d.names c → IsNameless e.names f
    pub entry : (entry : DeviceEntry) → IsEntryOf tech.devices d.names c entry → IsEntryOf tech.devices e.names f entry

  terminals_none : (d e : DrawnDevices) (a : AreDrawnDevices tech shapes labels d) (b : AreDrawnDevices tech shapes labels e) (device : Device) (least : Point) (t u : Option Terminals)
      → TerminalsAre tech shapes a.number device least t → TerminalsAre tech shapes b.number device least u → t ≡ None → u ≡ None
  terminals_none d e a b device least None None s r is = refl
  terminals_none d e a b device least None (Some u) s r is = absurd (s r.box r.flow r.sound)
  terminals_none d e a b device least (Some t) u s r is = absurd cc

  -- the terminals by the other numbering
  record OtherTerminals (d e : DrawnDevices) (a : AreDrawnDevices tech shapes labels d) (b : AreDrawnDevices tech shapes labels e) (t : Terminals) (u : Option Terminals) : Type 0 where
    terminals : Terminals
    is : u ≡ Some terminals
    moved : TerminalsMoved tech shapes labels d e a b t terminals
    back : TerminalsMoved tech shapes labels e d b a terminals t

  other_terminals : (d e : DrawnDevices) (a : AreDrawnDevices tech shapes labels d) (b : AreDrawnDevices tech shapes labels e) (device : Device) (least : Point) (t : Terminals) (u : Option Terminals)
      → IsChannelCell shapes device least → TerminalsAre tech shapes a.number device least (Some t) → TerminalsAre tech shapes b.number device least u → OtherTerminals d e a b t u
  other_terminals d e a b device least t None of s r = absurd (r s.box s.flow s.sound)
  other_terminals d e a b device least t (Some u) of s r = record {
    terminals = u;
    is = refl;
    moved = terminals_moved tech shapes labels d e a b device least t u of s r;
    back = terminals_moved tech shapes labels e d b a device least u t of r s;
  }

  -- one channel by two readings
  channel_moved : (d e : DrawnDevices) (a : AreDrawnDevices tech shapes labels d) (b : AreDrawnDevices tech shapes labels e) (c f : DeviceChannel)
      → IsListedChannel tech shapes a.number c → IsListedChannel tech shapes b.number f → f.device ≡ c.device → f.least ≡ c.least → ChannelMoved d e c f
  channel_moved d e a b c f of_c of_f same_device same_least =
      let one_device : of_f.device ≡ of_c.device = same_Some of_f.device of_c.device (sym of_f.there ∙ ap (slice_get tech.devices) same_device ∙ of_c.there) in
      let r : TerminalsAre tech shapes b.number of_c.device c.least f.terminals =
      subst (λ (x : Device). TerminalsAre tech shapes b.number x c.least f.terminals) one_device (subst (λ (p : Point). TerminalsAre tech shapes b.number of_f.device p f.terminals) same_least of_f.terminals) in
      let others : (t : Terminals) → c.terminals ≡ Some t → OtherTerminals d e a b t f.terminals =
      λ t sound. other_terminals d e a b of_c.device c.least t f.terminals of_c.least.of (subst (TerminalsAre tech shapes a.number of_c.device c.least) sound of_c.terminals) r in
      record {
        device = same_device;
        least = same_least;
        unsound = λ none. terminals_none d e a b of_c.device c.least c.terminals f.terminals of_c.terminals r none;
        nameless = λ nameless.
            let o = others nameless.terminals nameless.sound in
            record {
              terminals = o.terminals;
              sound = o.is;
              none = λ named. nameless.none (record {
                gate = (named.gate.0, o.back.gate named.gate.0 named.gate.1);
                first = (named.first.0, o.back.first named.first.0 named.first.1);
                second = (named.second.0, o.back.second named.second.0 named.second.1);
              });
            };
        entry = λ entry of.
            let o = others of.terminals of.sound in
            let h = of.has in
            record {
              device = of.device;
              there = ap (slice_get tech.devices) same_device ∙ of.there;
              terminals = o.terminals;
              sound = o.is;
              has = record {
                gate = h.gate;
                first = h.first;
                second = h.second;
                is = h.is;
                gate_named = o.moved.gate h.gate h.gate_named;
                first_named = o.moved.first h.first h.first_named;
                second_named = o.moved.second h.second h.second_named;
              };
            };
      }

  -- the channel at a place of the other reading
  pub record ChannelThere (d e : DrawnDevices) (place : ℕ) (c : DeviceChannel) : Type 0 where
    pub channel : DeviceChannel
    pub there : slice_get e.channels place ≡ Some channel
    pub moved : ChannelMoved d e c channel

  pub channel_there : (d e : DrawnDevices) → AreDrawnDevices tech shapes labels d → AreDrawnDevices tech shapes labels e → (place : ℕ) (c : DeviceChannel) → slice_get d.channels place ≡ Some c → ChannelThere d e place c
  channel_there d e a b place c there = by (slice_get e.channels place) refl where
    keyed : option_map key_of (slice_get e.channels place) ≡ Some (key_of c)
    keyed = sym (slice_get-map key_of e.channels place) ∙ ap (λ (l : List ChannelKey). slice_get l place) (sym (same_keys d e a b)) ∙ slice_get-map key_of d.channels place ∙ ap (option_map key_of) there

    by : (o : Option DeviceChannel) → slice_get e.channels place ≡ o → ChannelThere d e place c
    by None is = let clash : None ≡ Some (key_of c) = sym (ap (option_map key_of) is) ∙ keyed in absurd cc
    by (Some f) is =
        let same : key_of f ≡ key_of c = same_Some (key_of f) (key_of c) (sym (ap (option_map key_of) is) ∙ keyed) in
        record {
          channel = f;
          there = is;
          moved = channel_moved d e a b c f (a.each c (contained_at d.channels place c there)) (b.each f (contained_at e.channels place f is)) (ap (λ (k : ChannelKey). k.device) same) (ap (λ (k : ChannelKey). k.least) same);
        }
