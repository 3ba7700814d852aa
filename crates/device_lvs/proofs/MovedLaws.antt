-- What two sides differ in doesn't depend on the numbers of nets.
use Rattle.std.proofs.Common.{◌≡◌, ◌≢◌, inl, inr, ℕ, ℤ, pos, ◌<◌, ◌≤◌, List, length, get_or, Option, None, Some, refl, subst, ◌∙◌, arith}
use Rattle.std.specs.Prelude.{slice_get}
use Rattle.std.proofs.lemmas.Bool.{cases_lt}
use Rattle.std.proofs.lemmas.Option.{slice_get_within, slice_get-get_or}
use Rattle.or_geom.specs.declared.shape.Shape.{Shape}
use Rattle.or_geom.specs.Least.{IsLeast}
use Rattle.or_geom.proofs.ListLaws.{contained_at, one_at}
use Rattle.element_drawing.specs.PlainLabel.{PlainLabel}
use Rattle.tech_rules.specs.declared.tech.Tech.{Tech}
use Rattle.drawn_devices.specs.declared.drawn.DeviceChannel.{DeviceChannel}
use Rattle.drawn_devices.specs.declared.drawn.DrawnDevices.{DrawnDevices}
use Rattle.drawn_devices.specs.Drawn.{AreDrawnDevices}
use Rattle.device_entries.specs.declared.entry.DeviceEntry.{DeviceEntry}
use Rattle.device_lvs.specs.declared.difference.DeviceDiff.{DeviceDiff}
use Rattle.device_lvs.specs.declared.difference.DeviceDiff.TheVariants.{NotBox, Open, Short, Nameless, Absent, Extra}
use Rattle.device_lvs.specs.NetNames.{IsOnTwoNets, IsLeastPair, AreNotSplit, AreNotJoined}
use Rattle.device_lvs.specs.ChannelEntries.{IsNotSound, IsNameless, IsEntryOf, AreEntries, IsFirstChannel, HasNoneOf}
use Rattle.device_lvs.specs.CompareSteps.{cell_pair, AreComparedAs}
use Rattle.device_lvs.specs.Difference.{CellPair, AreWhole, AreApartNets, AreComparable}
use Rattle.device_lvs.proofs.EntryLaws.{place_of}
use Rattle.device_lvs.proofs.TerminalLaws.{split_moved, share_moved}
use Rattle.device_lvs.proofs.OneWayLaws.{ChannelMoved, ChannelThere, channel_there}

-- a channel to look up at
no_channel : DeviceChannel
no_channel = record { device = 0; least = record { x = pos 0; y = pos 0 }; terminals = None }

module _ (tech : Tech) (shapes : List Shape) (labels : List PlainLabel) (role : List ℕ) (listed : List DeviceEntry) (d e : DrawnDevices) (a : AreDrawnDevices tech shapes labels d) (b : AreDrawnDevices tech shapes labels e) where
  -- the channel at a place, by the other reading
  to : (place : ℕ) (c : DeviceChannel) → slice_get d.channels place ≡ Some c → ChannelThere tech shapes labels d e place c
  to = channel_there tech shapes labels d e a b

  from : (place : ℕ) (c : DeviceChannel) → slice_get e.channels place ≡ Some c → ChannelThere tech shapes labels e d place c
  from = channel_there tech shapes labels e d b a

  none_moved : (P Q : DeviceChannel → Type 0) → ((c f : DeviceChannel) → ChannelMoved tech shapes labels e d c f → Q c → P f) → HasNoneOf P d.channels → HasNoneOf Q e.channels
  none_moved P Q back none = λ c there has.
      let f = from there.0 c (place_of e.channels c there) in
      none f.channel (contained_at d.channels there.0 f.channel f.there) (back c f.channel f.moved has)

  first_moved : (P Q : DeviceChannel → Type 0) (x y : ℤ) → ((c f : DeviceChannel) → ChannelMoved tech shapes labels d e c f → P c → Q f) → ((c f : DeviceChannel) → ChannelMoved tech shapes labels e d c f → Q c → P f) → IsFirstChannel P d.channels x y → IsFirstChannel Q e.channels x y
  first_moved P Q x y there back first =
      let f = to first.place first.channel first.there in
      record {
        place = first.place;
        channel = f.channel;
        there = f.there;
        has = there first.channel f.channel f.moved first.has;
        least = f.moved.least ∙ first.least;
        before = λ earlier other before at has. let g = from earlier other at in first.before earlier g.channel before g.there (back other g.channel g.moved has);
      }

  not_split : AreNotSplit d.names → AreNotSplit e.names
  not_split none = λ name two. none name (split_moved tech shapes labels e d b a name two)

  not_joined : AreNotJoined d.names → AreNotJoined e.names
  not_joined none = λ first second shared. none first second (share_moved tech shapes labels e d b a first second shared)

  least_split : (name : List ℕ) → IsLeast (IsOnTwoNets d.names) name → IsLeast (IsOnTwoNets e.names) name
  least_split name least = record { has = split_moved tech shapes labels d e a b name least.has; least = λ other two. least.least other (split_moved tech shapes labels e d b a other two) }

  least_pair : (first second : List ℕ) → IsLeastPair d.names first second → IsLeastPair e.names first second
  least_pair first second least = record {
    shared = share_moved tech shapes labels d e a b first second least.shared;
    least = λ p q shared. least.least p q (share_moved tech shapes labels e d b a p q shared);
  }

  sound : HasNoneOf IsNotSound d.channels → HasNoneOf IsNotSound e.channels
  sound none = none_moved IsNotSound IsNotSound (λ c f m has. m.unsound has) none

  named : HasNoneOf (IsNameless d.names) d.channels → HasNoneOf (IsNameless e.names) e.channels
  named none = none_moved (IsNameless d.names) (IsNameless e.names) (λ c f m has. m.nameless has) none

  pub no_longer : length d.channels ≤ length e.channels
  no_longer = elim (cases_lt (length e.channels) (length d.channels)) [
    | inr le ↦ le
    | inl lt ↦
        let c = get_or d.channels (length e.channels) no_channel in
        let f = to (length e.channels) c (slice_get-get_or d.channels (length e.channels) no_channel lt) in
        let inside = slice_get_within e.channels (length e.channels) f.channel f.there in
        absurd (omega (arith, inside))
  ]

  entries : (all : List DeviceEntry) → length e.channels ≤ length d.channels → AreEntries tech.devices d.names d.channels all → AreEntries tech.devices e.names e.channels all
  entries all back are =
      let many = are.as_many in
      let there = no_longer in
      record {
        as_many = omega (arith, many, there, back);
        each = λ place c entry at one.
            let f = from place c at in
            let g = to place f.channel f.there in
            subst (λ (x : DeviceChannel). IsEntryOf tech.devices e.names x entry) (one_at e.channels place g.channel c g.there at) (g.moved.entry entry (are.each place f.channel entry f.there one));
      }

  abbrev pub one : CellPair
  one = cell_pair role tech.devices d listed

  abbrev pub other : CellPair
  other = cell_pair role tech.devices e listed

  whole : AreWhole one → AreWhole other
  whole w = record { sound = sound w.sound; split = not_split w.split }

  apart : AreApartNets one → AreApartNets other
  apart p = record { whole = whole p.whole; joined = not_joined p.joined }

  comparable : AreComparable one → AreComparable other
  comparable p = record { apart = apart p.apart; named = named p.named }

  pub moved : (difference : Option DeviceDiff) → length e.channels ≤ length d.channels → AreComparedAs one difference → AreComparedAs other difference
  moved None back alike = record { comparable = comparable alike.comparable; entries = alike.entries; are = entries alike.entries back alike.are; even = alike.even }
  moved (Some (NotBox named x y)) back is = (is.0, first_moved IsNotSound IsNotSound x y (λ c f m has. m.unsound has) (λ c f m has. m.unsound has) is.1)
  moved (Some (Open named name)) back is = (is.0, sound is.1, least_split name is.2)
  moved (Some (Short named first second)) back is = (is.0, whole is.1, least_pair first second is.2)
  moved (Some (Nameless named x y)) back is = (is.0, apart is.1, first_moved (IsNameless d.names) (IsNameless e.names) x y (λ c f m has. m.nameless has) (λ c f m has. m.nameless has) is.2)
  moved (Some (Absent named model gate low high)) back is = (is.0, record { comparable = comparable is.1.comparable; entries = is.1.entries; are = entries is.1.entries back is.1.are; least = is.1.least })
  moved (Some (Extra named model gate low high)) back is = (is.0, record { comparable = comparable is.1.comparable; entries = is.1.entries; are = entries is.1.entries back is.1.are; least = is.1.least })
