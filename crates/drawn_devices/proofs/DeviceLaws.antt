-- The channels of devices, one after another.
use Rattle.std.proofs.Common.{◌≡◌, ◌≢◌, ◌⊎◌, inl, inr, ℕ, ◌+◌, ◌<◌, ◌≤◌, List, [], ◌∷◌, ◌++◌, length, Some, refl, sym, ap, subst, ◌∙◌, arith}
use Rattle.std.specs.Prelude.{Contains, slice_get}
use Rattle.std.specs.List.{AllByRecursion}
use Rattle.std.specs.List.Sorted.{IsStrictlySortedBy}
use Rattle.std.specs.Ordering.{ordering_then, nat_cmp}
use Rattle.std.specs.declared.cmp.Ordering.{Ordering}
use Rattle.std.specs.declared.cmp.Ordering.TheVariants.{Less, Equal, Greater}
use Rattle.std.proofs.lemmas.Cmp.{ranked, nat_cmp_total, tied_itself}
use Rattle.std.proofs.lemmas.Int.{ints}
use Rattle.std.proofs.lemmas.List.Elements.{Contains-append_left, Contains-push, Contains-push_cases}
use Rattle.std.proofs.lemmas.Option.{same_Some, slice_get_within}
use Rattle.or_geom.specs.declared.shape.Point.{Point}
use Rattle.or_geom.specs.declared.shape.Rect.{Rect}
use Rattle.or_geom.specs.declared.shape.Shape.{Shape}
use Rattle.or_geom.proofs.ListLaws.{below_or, contains_none, contains_first, contains_later, one_at}
use Rattle.or_geom.proofs.PlaceLaws.{same_point}
use Rattle.cell_hierarchy.specs.FlatLists.{point_order}
use Rattle.element_drawing.specs.PlainLabel.{PlainLabel}
use Rattle.tech_rules.specs.declared.tech.Device.{Device}
use Rattle.tech_rules.specs.declared.tech.Tech.{Tech}
use Rattle.drawn_devices.specs.declared.cut_cell.CutCell.{CutCell}
use Rattle.drawn_devices.specs.declared.drawn.DeviceChannel.{DeviceChannel}
use Rattle.drawn_devices.specs.declared.drawn.DrawnDevices.{DrawnDevices}
use Rattle.drawn_devices.specs.ChannelBoxes.{AreChannelGroups, low_cell}
use Rattle.drawn_devices.specs.Channels.{ChannelOf, IsLeastCell}
use Rattle.drawn_devices.specs.CutCell.{IsCutCell}
use Rattle.drawn_devices.specs.Drawn.{AreDrawnDevices, HasChannelAt, channel_order}
use Rattle.drawn_devices.specs.DrawnChannels.{IsDrawnIn, IsChannelOf, AreFirstChannels}
use Rattle.drawn_devices.specs.Nets.{Member}
use Rattle.drawn_devices.specs.Numbers.{AreNumbersIn}
use Rattle.drawn_devices.proofs.ChannelLaws.{channel_back}
use Rattle.drawn_devices.proofs.NumberLaws.{number_in, numbers_are, cell_numbers}
use Rattle.drawn_devices.proofs.NameLaws.{AreNamesOf}
use Rattle.drawn_devices.proofs.OrderLaws.{up_from}

all_push : {X : Type 0} (P : X → Type 0) (xs : List X) (y : X) → AllByRecursion P xs → P y → AllByRecursion P (xs ++ y ∷ [])
all_push P [] y all one = (one, tt)
all_push P (x ∷ xs) y all one = (all.0, all_push P xs y all.1 one)

-- something behind all of a list in order
pub sorted_push : {X : Type 0} (cmp : X → X → Ordering) (xs : List X) (y : X) → IsStrictlySortedBy cmp xs → ((x : X) → Contains xs x → cmp x y ≡ Less) → IsStrictlySortedBy cmp (xs ++ y ∷ [])
unfolding IsStrictlySortedBy
sorted_push cmp [] y rise less = (tt, tt)
sorted_push {X} cmp (x ∷ xs) y rise less = (all_push (λ (z : X). cmp x z ≡ Less) xs y rise.0 (less x (contains_first x xs)), sorted_push cmp xs y rise.1 (λ z h. less z (contains_later x xs z h)))

nat_less : (x y : ℕ) (o : Ordering) → nat_cmp x y ≡ o → x < y → o ≡ Less
nat_less x y Less is lt = refl
nat_less x y Equal is lt = let e : x ≡ y = ranked x y Equal (sym is) in absurd (omega (arith, lt, e))
nat_less x y Greater is lt = let gt : y < x = ranked x y Greater (sym is) in absurd (omega (arith, lt, gt))

pub by_device : (a b : DeviceChannel) → a.device < b.device → channel_order a b ≡ Less
by_device a b lt = subst (λ (o : Ordering). ordering_then o (point_order a.least b.least) ≡ Less) (sym (nat_less a.device b.device (nat_cmp a.device b.device) refl lt)) refl

pub by_least : (a b : DeviceChannel) → a.device ≡ b.device → point_order a.least b.least ≡ Less → channel_order a b ≡ Less
by_least a b same less =
    let tied : nat_cmp a.device b.device ≡ Equal = subst (λ (k : ℕ). nat_cmp a.device k ≡ Equal) same (tied_itself nat_cmp_total a.device) in
    subst (λ (o : Ordering). ordering_then o (point_order a.least b.least) ≡ Less) (sym tied) less

-- cells of which neither is behind the other are one
one_cell : (p q : Point) → point_order p q ≢ Greater → point_order q p ≢ Greater → p ≡ q
one_cell p q up down =
    let a = up_from p q up in
    let b = up_from q p down in
    elim a.order [
      | inl lt ↦ elim b.order [ inl gt ↦ absurd (omega (arith, ints, lt, gt)) | inr same ↦ let e = same.0 in absurd (omega (arith, ints, lt, e)) ]
      | inr same ↦ elim b.order [
        | inl gt ↦ let e = same.0 in absurd (omega (arith, ints, gt, e))
        | inr other ↦ let low = same.1 in let high = other.1 in same_point p q same.0 (omega (arith, ints, low, high))
      ]
    ]

-- the channel is that of one of the first groups
pub record IsOfGroup (index : ℕ) (groups : List (List Rect)) (count : ℕ) (channel : DeviceChannel) : Type 0 where
  pub of : channel.device ≡ index
  pub group : ℕ
  pub below : group < count
  pub boxes : List Rect
  pub at : slice_get groups group ≡ Some boxes
  pub first : Rect
  pub rest : List Rect
  pub begins : boxes ≡ first ∷ rest
  pub least : channel.least ≡ low_cell first

-- the channels of earlier devices and those of this one's first groups
pub record AreChannelsTo (cell : CutCell) (index : ℕ) (groups : List (List Rect)) (count : ℕ) (channels : List DeviceChannel) : Type 0 where
  pub rise : IsStrictlySortedBy channel_order channels
  pub order : (channel : DeviceChannel) → Contains channels channel → (channel.device < index) ⊎ IsOfGroup index groups count channel
  pub drawn : (number : Member → ℕ) → AreNumbersIn cell number → (channel : DeviceChannel) → Contains channels channel → IsDrawnIn cell number channel
  pub all : (i : ℕ) (device : Device) (least : Point) → i < index → slice_get cell.tech.now.devices i ≡ Some device → IsLeastCell cell.shapes.now device least → HasChannelAt channels i least
  pub here : (k : ℕ) (boxes rest : List Rect) (first : Rect) → k < count → slice_get groups k ≡ Some boxes → boxes ≡ first ∷ rest → HasChannelAt channels index (low_cell first)

pub channels_begin : (cell : CutCell) (index : ℕ) (groups : List (List Rect)) (channels : List DeviceChannel) → IsCutCell cell → AreFirstChannels cell index channels → AreChannelsTo cell index groups 0 channels
channels_begin cell index groups channels cut a = record {
  rise = a.rise;
  order = λ channel h. inl (a.each (number_in cell.bins cell.nets) (cell_numbers cell cut) channel h).0;
  drawn = λ number are channel h. (a.each number are channel h).1;
  all = a.all;
  here = λ k boxes rest first lt at begins. absurd (omega (arith, lt));
}

longer : (index : ℕ) (groups : List (List Rect)) (count : ℕ) (channel : DeviceChannel) → IsOfGroup index groups count channel → IsOfGroup index groups (count + 1) channel
longer index groups count channel o = let lt = o.below in record { of = o.of; group = o.group; below = omega (arith, lt); boxes = o.boxes; at = o.at; first = o.first; rest = o.rest; begins = o.begins; least = o.least }

still_listed : (channels : List DeviceChannel) (channel : DeviceChannel) (device : ℕ) (least : Point) → HasChannelAt channels device least → HasChannelAt (channels ++ channel ∷ []) device least
still_listed channels channel device least l = record { channel = l.channel; listed = Contains-append_left channels (channel ∷ []) l.channel l.listed; of = l.of; at = l.at }

head_is : (xs : List Rect) (x y : Rect) (rest others : List Rect) → xs ≡ x ∷ rest → xs ≡ y ∷ others → x ≡ y
head_is xs x y rest others one two = let e : x ∷ rest ≡ y ∷ others = sym one ∙ two in cc

module _ (cell : CutCell) (index : ℕ) (device : Device) (groups : List (List Rect)) (are : AreChannelGroups cell.shapes.now device groups) where
  -- the channel of the next group stands behind all earlier ones
  behind_all : (count : ℕ) (boxes rest : List Rect) (first : Rect) (channels : List DeviceChannel) (channel other : DeviceChannel) → AreChannelsTo cell index groups count channels → slice_get groups count ≡ Some boxes → boxes ≡ first ∷ rest
      → channel.device ≡ index → channel.least ≡ low_cell first → Contains channels other → channel_order other channel ≡ Less
  behind_all count boxes rest first channels channel other a at begins of least h = elim (a.order other h) [
    | inl earlier ↦ by_device other channel (omega (arith, earlier, of))
    | inr o ↦
        let less : point_order (low_cell o.first) (low_cell first) ≡ Less = are.rise o.group count o.boxes boxes o.below o.at at o.first first o.rest rest o.begins begins in
        by_least other channel (o.of ∙ sym of) (subst (λ (p : Point). point_order p channel.least ≡ Less) (sym o.least) (subst (λ (p : Point). point_order (low_cell o.first) p ≡ Less) (sym least) less))
  ]

  pub channels_more : (count : ℕ) (boxes rest : List Rect) (first : Rect) (channels more : List DeviceChannel) (channel : DeviceChannel) → slice_get groups count ≡ Some boxes → boxes ≡ first ∷ rest → more ≡ channels ++ channel ∷ [] → channel.device ≡ index
      → channel.least ≡ low_cell first → ((number : Member → ℕ) → AreNumbersIn cell number → IsDrawnIn cell number channel) → AreChannelsTo cell index groups count channels → AreChannelsTo cell index groups (count + 1) more
  channels_more count boxes rest first channels more channel at begins grown of least drawn a = subst (AreChannelsTo cell index groups (count + 1)) (sym grown) (record {
    rise = sorted_push channel_order channels channel a.rise (λ other h. behind_all count boxes rest first channels channel other a at begins of least h);
    order = λ other h. elim (Contains-push_cases channels channel other h) [
      | inl earlier ↦ elim (a.order other earlier) [ inl below ↦ inl below | inr o ↦ inr (longer index groups count other o) ]
      | inr same ↦ inr (subst (IsOfGroup index groups (count + 1)) same (record { of = of; group = count; below = omega arith; boxes = boxes; at = at; first = first; rest = rest; begins = begins; least = least }))
    ];
    drawn = λ number numbers other h. elim (Contains-push_cases channels channel other h) [
      | inl earlier ↦ a.drawn number numbers other earlier
      | inr same ↦ subst (IsDrawnIn cell number) same (drawn number numbers)
    ];
    all = λ i d p lt there is. still_listed channels channel i p (a.all i d p lt there is);
    here = λ k others tail head lt there starts. elim (below_or k count lt) [
      | inl less ↦ still_listed channels channel index (low_cell head) (a.here k others tail head less there starts)
      | inr same ↦
          let one : others ≡ boxes = one_at groups count others boxes (subst (λ (j : ℕ). slice_get groups j ≡ Some others) same there) at in
          let e : first ≡ head = head_is boxes first head rest tail begins (sym one ∙ starts) in
          record { channel = channel; listed = Contains-push channels channel; of = of; at = least ∙ ap low_cell e }
    ];
  })

  -- the channel of the next group
  pub channels_next : (count : ℕ) (boxes : List Rect) (channels more : List DeviceChannel) (channel : DeviceChannel) → slice_get groups count ≡ Some boxes → more ≡ channels ++ channel ∷ [] → IsChannelOf cell index boxes channel
      → AreChannelsTo cell index groups count channels → AreChannelsTo cell index groups (count + 1) more
  channels_next count boxes channels more channel at grown of a =
      let b = are.each count boxes at in
      let same : of.first ≡ b.first = same_Some of.first b.first (sym of.begins ∙ ap (λ (l : List Rect). slice_get l 0) b.is) in
      channels_more count boxes b.rest b.first channels more channel at b.is grown of.device (of.least ∙ ap low_cell same) of.drawn a

  pub channels_end : (count : ℕ) (channels : List DeviceChannel) → slice_get cell.tech.now.devices index ≡ Some device → length groups ≤ count → AreChannelsTo cell index groups count channels → AreFirstChannels cell (index + 1) channels
  channels_end count channels there le a = record {
    rise = a.rise;
    each = λ number numbers channel h. (elim (a.order channel h) [ inl below ↦ omega (arith, below) | inr o ↦ let e = o.of in omega (arith, e) ], a.drawn number numbers channel h);
    all = λ i d p lt at is. elim (below_or i index lt) [
      | inl less ↦ a.all i d p less at is
      | inr same ↦
          let one : d ≡ device = one_at cell.tech.now.devices index d device (subst (λ (j : ℕ). slice_get cell.tech.now.devices j ≡ Some d) same at) there in
          let own : IsLeastCell cell.shapes.now device p = subst (λ (x : Device). IsLeastCell cell.shapes.now x p) one is in
          let in_group = are.all p own.of in
          let group = are.each in_group.0 in_group.1 in_group.2 in
          let within = slice_get_within groups in_group.0 in_group.1 in_group.2 in
          let leads : ChannelOf cell.shapes.now device (low_cell group.first) p = (group.cells p).0 in_group.3 in
          let back = channel_back cell.shapes.now device (low_cell group.first) p group.least.of leads in
          let cell_is : low_cell group.first ≡ p = one_cell (low_cell group.first) p (group.least.least p leads) (own.least (low_cell group.first) back) in
          let listed = a.here in_group.0 in_group.1 group.rest group.first (omega (arith, within, le)) in_group.2 group.is in
          record { channel = listed.channel; listed = listed.listed; of = listed.of ∙ sym same; at = listed.at ∙ cell_is }
    ];
  }

pub no_channels : (cell : CutCell) (channels : List DeviceChannel) → channels ≡ [] → AreFirstChannels cell 0 channels
unfolding IsStrictlySortedBy
no_channels cell channels none = subst (AreFirstChannels cell 0) (sym none) (record {
  rise = tt;
  each = λ number are channel h. absurd (contains_none channel h);
  all = λ i device least lt at is. absurd (omega (arith, lt));
})

own_devices : (cell : CutCell) (labels : List PlainLabel) (drawn : DrawnDevices) → IsCutCell cell → AreNamesOf cell labels drawn.names → AreFirstChannels cell (length cell.tech.now.devices) drawn.channels → AreDrawnDevices cell.tech.now cell.shapes.now labels drawn
own_devices cell labels drawn cut names channels =
    let number = number_in cell.bins cell.nets in
    let are = cell_numbers cell cut in
    record {
      number = number;
      nets = numbers_are cell.tech.now cell.shapes.now cell.bins cell.nets cut;
      names = names number are;
      rise = channels.rise;
      each = λ channel h. (channels.each number are channel h).1;
      all = λ index device least there is. channels.all index device least (slice_get_within cell.tech.now.devices index device there) there is;
    }

-- names and channels of a cell are its drawn devices
pub drawn_are : (cell : CutCell) (tech : Tech) (shapes : List Shape) (labels : List PlainLabel) (drawn : DrawnDevices) → cell.tech.now ≡ tech → cell.shapes.now ≡ shapes → IsCutCell cell → AreNamesOf cell labels drawn.names
    → AreFirstChannels cell (length cell.tech.now.devices) drawn.channels → AreDrawnDevices tech shapes labels drawn
drawn_are cell tech shapes labels drawn same_tech same_shapes cut names channels =
    subst (λ (t : Tech). AreDrawnDevices t shapes labels drawn) same_tech (subst (λ (ss : List Shape). AreDrawnDevices cell.tech.now ss labels drawn) same_shapes (own_devices cell labels drawn cut names channels))
