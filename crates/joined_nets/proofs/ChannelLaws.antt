-- What the router says of a channel under the connections of its wires alone holds under those of a technology, and among more shapes.
use Rattle.std.proofs.Common.{◌≡◌, ◌≢◌, ◌⊎◌, inl, inr, ℕ, zero, suc, ◌+◌, ◌<◌, List, [], ◌∷◌, Contains, refl, sym, subst, arith}
use Rattle.std.specs.Prelude.{slice_index}
use Rattle.or_geom.specs.declared.shape.Shape.{Shape}
use Rattle.or_geom.proofs.ListLaws.{contains_cases, contains_first, contains_later}
use Rattle.tech_rules.specs.declared.tech.Connect.{Connect}
use Rattle.tech_rules.specs.declared.tech.Tech.{Tech}
use Rattle.tech_rules.specs.declared.tech.Wire.{Wire}
use Rattle.wire_drawing.specs.Drawing.{pitch}
use Rattle.tech_rules.specs.Facts.{AreSizes}
use Rattle.tech_rules.specs.Touch.{IsConductor, IsCutTo, Touch, TouchByCut}
use Rattle.tech_rules.specs.Net.{AreOnOneNet}
use Rattle.wire_drawing.specs.Spacing.{AreClose}
use Rattle.channel_router.specs.declared.channel.Channel.{Channel}
use Rattle.channel_router.specs.declared.channel.Interval.{Interval}
use Rattle.channel_router.specs.Apart.{wire_connects, AreSevenLayers}
use Rattle.channel_router.specs.Intervals.{AreIntervals}
use Rattle.channel_router.specs.Routed.{pin_xs}
use Rattle.channel_router.specs.Tracks.{AreTracksBelow, IsAssignment}
use Rattle.channel_router.specs.Wires.{AreWires, IsOfNet, IsWireOf}
use Rattle.channel_router.proofs.OneNetLaws.{one_net}
use Rattle.channel_router.proofs.ApartLaws.{apart}
use Rattle.good_nets.proofs.LiftLaws.{ConnectsToo, net_lifted, by_cut}
use Rattle.joined_nets.specs.Joints.{JoinsWires, JoinsOnlyWires, IsOnWireLayer}

-- the technology with the connections of the wires alone
abbrev wires_alone : Tech → Wire → Tech
wires_alone tech wire = record { layers = tech.layers; outline = tech.outline; rules = tech.rules; connects = wire_connects wire; wire = tech.wire; roles = tech.roles; tables = tech.tables; devices = tech.devices }

one_of_two : (a b layer : ℕ) → Contains (a ∷ b ∷ []) layer → (layer ≡ a) ⊎ (layer ≡ b)
one_of_two a b layer listed = elim (contains_cases a (b ∷ []) layer listed) [
  | inl first ↦ inl first
  | inr later ↦ elim (contains_cases b [] layer later) [ inl second ↦ inr second | inr none ↦ absurd (omega (arith, none.1)) ]
]

beside_too : (connections : List Connect) (wire : Wire) → JoinsWires connections wire → (cut layer i : ℕ) → i < 3 → slice_index wire.cuts i ≡ cut → Contains (slice_index wire.metals i ∷ slice_index wire.metals (i + 1) ∷ []) layer → IsCutTo connections cut layer
beside_too connections wire joins cut layer i lt is to = elim (one_of_two (slice_index wire.metals i) (slice_index wire.metals (i + 1)) layer to) [
  | inl low ↦ subst (λ (c : ℕ). IsCutTo connections c layer) is (subst (λ (l : ℕ). IsCutTo connections (slice_index wire.cuts i) l) (sym low) (joins.below i lt))
  | inr high ↦ subst (λ (c : ℕ). IsCutTo connections c layer) is (subst (λ (l : ℕ). IsCutTo connections (slice_index wire.cuts i) l) (sym high) (joins.above i lt))
]

-- the wires' connections are among the technology's
pub wires_connect_too : (connections : List Connect) (wire : Wire) → JoinsWires connections wire → ConnectsToo (wire_connects wire) connections
wires_connect_too connections wire joins cut layer (inl j) = beside_too connections wire joins cut layer 0 (omega arith) j.by j.to
wires_connect_too connections wire joins cut layer (inr (inl j)) = beside_too connections wire joins cut layer 1 (omega arith) j.by j.to
wires_connect_too connections wire joins cut layer (inr (inr (inl j))) = beside_too connections wire joins cut layer 2 (omega arith) j.by j.to
wires_connect_too connections wire joins cut layer (inr (inr (inr none))) = absurd none

-- The wires of a channel's net are on one net among all shapes, under the technology's connections.
pub channel_joined : (tech : Tech) (wire : Wire) (ch : Channel) (intervals : List Interval) (track : List ℕ) (tracks net : ℕ) (wires shapes : List Shape) (s u : Shape) → JoinsWires tech.connects wire → AreSizes wire → AreIntervals ch intervals → AreTracksBelow track tracks
    → AreWires ch wire intervals track tracks wires → ((v : Shape) → Contains wires v → Contains shapes v) → IsOfNet ch wire intervals track tracks net s → IsOfNet ch wire intervals track tracks net u → AreOnOneNet tech.connects shapes s u
channel_joined tech wire ch intervals track tracks net wires shapes s u joins sizes are below listed more of_s of_u =
    net_lifted (wire_connects wire) tech.connects wires shapes (wires_connect_too tech.connects wire joins) more s u
    (one_net ch wire intervals track tracks wires sizes are below listed (wires_alone tech wire) refl net s u of_s of_u)

-- Wires touch under the technology's connections only as they do under their own

either_listed : (a b layer : ℕ) → (layer ≡ a) ⊎ (layer ≡ b) → Contains (a ∷ b ∷ []) layer
either_listed a b layer (inl low) = subst (Contains (a ∷ b ∷ [])) (sym low) (contains_first a (b ∷ []))
either_listed a b layer (inr high) = subst (Contains (a ∷ b ∷ [])) (sym high) (contains_later a (b ∷ []) b (contains_first b []))

-- the connection of a cut to the metals beside it
beside_cut : (wire : Wire) (i layer : ℕ) → i < 3 → (layer ≡ slice_index wire.metals i) ⊎ (layer ≡ slice_index wire.metals (i + 1)) → IsCutTo (wire_connects wire) (slice_index wire.cuts i) layer
beside_cut wire zero layer lt near = inl (record { by = refl; to = either_listed (slice_index wire.metals 0) (slice_index wire.metals 1) layer near })
beside_cut wire (suc zero) layer lt near = inr (inl (record { by = refl; to = either_listed (slice_index wire.metals 1) (slice_index wire.metals 2) layer near }))
beside_cut wire (suc (suc zero)) layer lt near = inr (inr (inl (record { by = refl; to = either_listed (slice_index wire.metals 2) (slice_index wire.metals 3) layer near })))
beside_cut wire (suc (suc (suc i))) layer lt near = absurd (omega (arith, lt))

-- each metal is a conductor
metal_conducts : (wire : Wire) (i : ℕ) → i < 4 → IsConductor (wire_connects wire) (slice_index wire.metals i)
metal_conducts wire zero lt = inl (either_listed (slice_index wire.metals 0) (slice_index wire.metals 1) (slice_index wire.metals 0) (inl refl))
metal_conducts wire (suc zero) lt = inl (either_listed (slice_index wire.metals 0) (slice_index wire.metals 1) (slice_index wire.metals 1) (inr refl))
metal_conducts wire (suc (suc zero)) lt = inr (inl (either_listed (slice_index wire.metals 1) (slice_index wire.metals 2) (slice_index wire.metals 2) (inr refl)))
metal_conducts wire (suc (suc (suc zero))) lt = inr (inr (inl (either_listed (slice_index wire.metals 2) (slice_index wire.metals 3) (slice_index wire.metals 3) (inr refl))))
metal_conducts wire (suc (suc (suc (suc i)))) lt = absurd (omega (arith, lt))

by_cut_alone : (connections : List Connect) (wire : Wire) → JoinsOnlyWires connections wire → (s u : Shape) → IsOnWireLayer wire s → TouchByCut connections s u → TouchByCut (wire_connects wire) s u
by_cut_alone connections wire only s u (inl metal) touch = absurd (only.no_metal metal.place u.layer metal.below (subst (λ (l : ℕ). IsCutTo connections l u.layer) metal.on touch.connects))
by_cut_alone connections wire only s u (inr cut) touch =
    let near = only.beside cut.place u.layer cut.below (subst (λ (l : ℕ). IsCutTo connections l u.layer) cut.on touch.connects) in
    record { connects = subst (λ (l : ℕ). IsCutTo (wire_connects wire) l u.layer) (sym cut.on) (beside_cut wire cut.place u.layer cut.below near); area = touch.area }

-- Shapes on wires' layers that touch do so under the wires' connections alone.
pub touch_alone : (connections : List Connect) (wire : Wire) → JoinsOnlyWires connections wire → (s u : Shape) → IsOnWireLayer wire s → IsOnWireLayer wire u → Touch connections s u → Touch (wire_connects wire) s u
touch_alone connections wire only s u (inl metal) on_u (inl touch) =
    inl (record { one_layer = touch.one_layer; conductor = subst (IsConductor (wire_connects wire)) (sym metal.on) (metal_conducts wire metal.place metal.below); joined = touch.joined })
touch_alone connections wire only s u (inr cut) on_u (inl touch) =
    let found = by_cut connections s.layer touch.conductor in absurd (only.no_cut found.0 cut.place cut.below (subst (IsCutTo connections found.0) cut.on found.1))
touch_alone connections wire only s u on_s on_u (inr (inl touch)) = inr (inl (by_cut_alone connections wire only s u on_s touch))
touch_alone connections wire only s u on_s on_u (inr (inr touch)) = inr (inr (by_cut_alone connections wire only u s on_u touch))

-- a channel's wires are on wires' layers
pub on_wire_layer : (ch : Channel) (wire : Wire) (intervals : List Interval) (track : List ℕ) (tracks net : ℕ) (s : Shape) → IsOfNet ch wire intervals track tracks net s → IsOnWireLayer wire s
on_wire_layer ch wire intervals track tracks net s of = by of.wires where
  by : IsWireOf ch wire tracks net of.interval of.t s → IsOnWireLayer wire s
  by (inl trunk) = inl (record { place = 2; below = omega arith; on = trunk.on })
  by (inr (inl (x, pin, inl branch))) = inl (record { place = 3; below = omega arith; on = branch.on })
  by (inr (inl (x, pin, inr via))) = inr (record { place = 2; below = omega arith; on = via.on })
  by (inr (inr (x, pin, inl branch))) = inl (record { place = 1; below = omega arith; on = branch.on })
  by (inr (inr (x, pin, inr via))) = inr (record { place = 1; below = omega arith; on = via.on })

-- Wires of two nets of a channel don't touch under the technology's connections.
pub channel_apart : (tech : Tech) (wire : Wire) (ch : Channel) (intervals : List Interval) (track : List ℕ) (tracks i j : ℕ) (s u : Shape) → JoinsOnlyWires tech.connects wire → AreSizes wire → AreSevenLayers wire → AreIntervals ch intervals → IsAssignment (pitch wire) intervals track
    → (AreClose (pitch wire) (pin_xs ch.top) → ⊥) → (AreClose (pitch wire) (pin_xs ch.bottom) → ⊥) → i ≢ j → IsOfNet ch wire intervals track tracks i s → IsOfNet ch wire intervals track tracks j u → Touch tech.connects s u → ⊥
channel_apart tech wire ch intervals track tracks i j s u only sizes layers are assigned none_top none_bottom differ of_i of_j touch =
    apart ch wire intervals track tracks sizes layers are assigned none_top none_bottom (wires_alone tech wire) i j s u refl differ of_i of_j
    (touch_alone tech.connects wire only s u (on_wire_layer ch wire intervals track tracks i s of_i) (on_wire_layer ch wire intervals track tracks j u of_j) touch)
