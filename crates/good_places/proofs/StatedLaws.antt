-- The stated layout of a memory has, on layers without wires, the shapes of its leaf instances alone.
use Rattle.std.proofs.Common.{◌≡◌, inl, inr, ℕ, ◌<◌, List, refl, sym, subst, arith}
use Rattle.std.specs.Prelude.{Contains, slice_index}
use Rattle.or_geom.specs.declared.shape.Shape.{Shape}
use Rattle.tech_rules.specs.declared.tech.Layer.{Layer}
use Rattle.tech_rules.specs.declared.tech.Wire.{Wire}
use Rattle.channel_router.specs.declared.channel.Channel.{Channel}
use Rattle.channel_router.specs.Wires.{IsWireOf}
use Rattle.sram_netlist.specs.Organization.{Organization}
use Rattle.macro_layout.specs.LayoutKit.{LayoutKit}
use Rattle.macro_layout.specs.Places.{Floorplan}
use Rattle.macro_layout.specs.Floorplan.{Tracks}
use Rattle.macro_layout.specs.Channels.{IsChannelWire}
use Rattle.macro_layout.specs.Wires.{IsWireInBank, IsWireInMacro, IsBar}
use Rattle.macro_layout.specs.Stated.{IsOnFirstLayer, IsWireInBanks}
use Rattle.leaf_shapes.specs.Outline.{IsWireLayer}
use Rattle.good_places.specs.Stated.{StatedLeavesAlone, StatedLeavesAndWires}
use Rattle.leaf_shapes.specs.FirstLayers.{AreFirstLayers}

module _ (layers : List Layer) (wire : Wire) (w : AreFirstLayers layers wire) where
  metal : (k : ℕ) (n : ℕ) → k < 4 → n ≡ slice_index wire.metals k → IsWireLayer wire n
  metal k n lt e = inl (subst (Contains wire.metals) (sym e) (w.metals k lt))

  cut : (k : ℕ) (n : ℕ) → k < 3 → n ≡ slice_index wire.cuts k → IsWireLayer wire n
  cut k n lt e = inr (subst (Contains wire.cuts) (sym e) (w.cuts k lt))

  of_net : (ch : Channel) (tracks net : ℕ) (interval : _) (t : ℕ) (s : Shape) → IsWireOf ch wire tracks net interval t s → IsWireLayer wire s.layer
  of_net ch tracks net interval t s (inl trunk) = metal 2 s.layer (omega arith) trunk.on
  of_net ch tracks net interval t s (inr (inl (x, p, inl box))) = metal 3 s.layer (omega arith) box.on
  of_net ch tracks net interval t s (inr (inl (x, p, inr via))) = cut 2 s.layer (omega arith) via.on
  of_net ch tracks net interval t s (inr (inr (x, p, inl box))) = metal 1 s.layer (omega arith) box.on
  of_net ch tracks net interval t s (inr (inr (x, p, inr via))) = cut 1 s.layer (omega arith) via.on

  of_channel : (IsMeant : Channel → Type 0) (tracks : ℕ) (s : Shape) → IsChannelWire IsMeant wire tracks s → IsWireLayer wire s.layer
  of_channel IsMeant tracks s c = of_net c.channel tracks c.net c.drawn.interval c.drawn.t s c.drawn.wires

  of_bar : (trunk x y : _) (s : Shape) → IsBar wire trunk x y s → IsWireLayer wire s.layer
  of_bar trunk x y s (inl box) = metal 0 s.layer (omega arith) box.on
  of_bar trunk x y s (inr via) = cut 0 s.layer (omega arith) via.on

  module _ (plan : Organization) (kit : LayoutKit) (tracks : Tracks) (f : Floorplan) where
    of_bank : (s : Shape) → IsWireInBank plan kit wire tracks f s → IsWireLayer wire s.layer
    of_bank s (inl channel) = of_channel _ tracks.column s channel
    of_bank s (inr (inl tap)) = elim tap.drawn [ inl box ↦ metal 2 s.layer (omega arith) box.on | inr via ↦ cut 2 s.layer (omega arith) via.on ]
    of_bank s (inr (inr (inl rail))) = metal 3 s.layer (omega arith) rail.drawn.on
    of_bank s (inr (inr (inr (inl out)))) = metal 3 s.layer (omega arith) out.drawn.on
    of_bank s (inr (inr (inr (inr (inl joiner))))) = metal 0 s.layer (omega arith) joiner.1.on
    of_bank s (inr (inr (inr (inr (inr joiner))))) = metal 0 s.layer (omega arith) joiner.on

    of_banks : (s : Shape) → IsWireInBanks plan kit wire tracks f s → IsWireLayer wire s.layer
    of_banks s b = subst (IsWireLayer wire) (sym b.shifted.layer) (of_bank b.inner b.is)

    of_macro : (s : Shape) → IsWireInMacro plan kit wire tracks f s → IsWireLayer wire s.layer
    of_macro s (inl channel) = of_channel _ tracks.main s channel
    of_macro s (inr (inl (inl trunk))) = metal 1 s.layer (omega arith) trunk.on
    of_macro s (inr (inl (inr (x, y, at, bar)))) = of_bar _ x y s bar
    of_macro s (inr (inr (inl trunk))) = metal 1 s.layer (omega arith) trunk.on
    of_macro s (inr (inr (inr (x, y, at, bar)))) = of_bar _ x y s bar

    -- a wire stands on its own layer
    pub on_wires : (Drawn : Shape → Type 0) (s : Shape) → ((t : Shape) → Drawn t → IsWireLayer wire t.layer) → IsOnFirstLayer layers Drawn s → IsWireLayer wire s.layer
    on_wires Drawn s each o =
        let own = each o.wire o.drawn in
        subst (IsWireLayer wire) (sym (w.first o.wire.layer s.layer o.layer own o.on o.first)) own

pub stated_leaves_alone : StatedLeavesAlone
stated_leaves_alone layers structs plan kit bits wire tracks f lists w are layer plain s on = (
  λ there. elim ((are.shapes s).0 there) [
    | inl macro ↦ absurd (plain (subst (IsWireLayer wire) on (on_wires layers wire w plan kit tracks f _ s (of_macro layers wire w plan kit tracks f) macro)))
    | inr rest ↦ elim rest [
      | inl banks ↦ absurd (plain (subst (IsWireLayer wire) on (on_wires layers wire w plan kit tracks f _ s (of_banks layers wire w plan kit tracks f) banks)))
      | inr leaf ↦ leaf
    ]
  ],
  λ leaf. (are.shapes s).1 (inr (inr leaf)),
)

-- On layers of wires it has those and the wires.

pub shape_is : (s t : Shape) → s.layer ≡ t.layer → s.rect ≡ t.rect → s ≡ t
shape_is s t l r = λ i. record { layer = l i; rect = r i }

module _ (layers : List Layer) (wire : Wire) (w : AreFirstLayers layers wire) (plan : Organization) (kit : LayoutKit) (tracks : Tracks) (f : Floorplan) (Drawn : Shape → Type 0) (each : (t : Shape) → Drawn t → IsWireLayer wire t.layer) where
  from_first : (s : Shape) → IsOnFirstLayer layers Drawn s → Drawn s
  from_first s o = subst Drawn (shape_is o.wire s (sym (w.first o.wire.layer s.layer o.layer (each o.wire o.drawn) o.on o.first)) (sym o.rect)) o.drawn

  to_first : (s : Shape) → Drawn s → IsOnFirstLayer layers Drawn s
  to_first s d = let t = w.there s.layer (each s d) in record { wire = s; drawn = d; layer = t.layer; on = t.there; first = t.first; rect = refl }

pub stated_leaves_and_wires : StatedLeavesAndWires
stated_leaves_and_wires layers structs plan kit bits wire tracks f lists w are layer own s on = (
  λ there. elim ((are.shapes s).0 there) [
    | inl macro ↦ inl (inl (from_first layers wire w plan kit tracks f (IsWireInMacro plan kit wire tracks f) (of_macro layers wire w plan kit tracks f) s macro))
    | inr rest ↦ elim rest [
      | inl banks ↦ inl (inr (from_first layers wire w plan kit tracks f (IsWireInBanks plan kit wire tracks f) (of_banks layers wire w plan kit tracks f) s banks))
      | inr leaf ↦ inr leaf
    ]
  ],
  λ either. elim either [
    | inl drawn ↦ elim drawn [
      | inl macro ↦ (are.shapes s).1 (inl (to_first layers wire w plan kit tracks f (IsWireInMacro plan kit wire tracks f) (of_macro layers wire w plan kit tracks f) s macro))
      | inr banks ↦ (are.shapes s).1 (inr (inl (to_first layers wire w plan kit tracks f (IsWireInBanks plan kit wire tracks f) (of_banks layers wire w plan kit tracks f) s banks)))
    ]
    | inr leaf ↦ (are.shapes s).1 (inr (inr leaf))
  ],
)
