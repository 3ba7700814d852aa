-- Channels are the maximal connected sets of channel cells.
use Rattle.std.proofs.Common.{IsTrue, List, [], ◌∷◌}
use Rattle.tech_rules.specs.Linked.{LeadsBy, AreLinked}
use Rattle.tech_rules.proofs.LinkedLaws.{linked_itself, linked_on, linked_next, linked_further, linked_carries, linked_map}
use Rattle.drawn_devices.specs.Cells.{ShareSide}
use Rattle.drawn_devices.specs.ChannelSets.{TheseAreChannels, ChannelsAreThese}
use Rattle.drawn_devices.specs.Channels.{IsChannelCell, ChannelOf}
use Rattle.drawn_devices.proofs.ChannelLaws.{channel_back, channel_end, channel_on}

within : {X : Type 0} (P : X → Type 0) (T : X → X → Type 0) (R : X → Type 0) (step : (x y : X) → R x → P y → T x y → R y) (a b : X) (path : List X) → R a → LeadsBy P T a path b → AreLinked R T a b
within P T R step a b [] has leads = record { path = []; leads = leads }
within P T R step a b (next ∷ rest) has leads =
    let here = step a next has leads.0 leads.1 in
    linked_on R T a next b (linked_next R T a next here leads.1) (within P T R step next b rest here leads.2)

-- a list leads within what each step keeps
linked_within : {X : Type 0} (P : X → Type 0) (T : X → X → Type 0) (R : X → Type 0) (step : (x y : X) → R x → P y → T x y → R y) (a b : X) → R a → AreLinked P T a b → AreLinked R T a b
linked_within P T R step a b has linked = within P T R step a b linked.path has linked.leads

pub these : TheseAreChannels
these shapes device cell of = record {
  cell = cell;
  some = linked_itself (IsChannelCell shapes device) ShareSide cell;
  each = λ p h. channel_end shapes device cell p of h;
  connected = λ p q in_p in_q.
      linked_within (IsChannelCell shapes device) ShareSide (ChannelOf shapes device cell) (λ x y h other side. linked_further (IsChannelCell shapes device) ShareSide cell x y h other side) p q in_p
      (channel_on shapes device p cell q (channel_back shapes device cell p of in_p) in_q);
  maximal = λ p q in_p other side. linked_further (IsChannelCell shapes device) ShareSide cell p q in_p other side;
}

pub only_these : ChannelsAreThese
only_these shapes device test cell other channel here = (
  λ there. linked_map (λ p. IsTrue (test p)) ShareSide (IsChannelCell shapes device) ShareSide (λ p. p) (λ p h. channel.each p h) (λ p q side. side) cell other (channel.connected cell other here there),
  λ linked. linked_carries (IsChannelCell shapes device) ShareSide (λ p. IsTrue (test p)) (λ p q h of side. channel.maximal p q h of side) cell other here linked,
)
