-- Cells of channels are connected exactly where the boxes are in which they lie.
use Rattle.std.proofs.Common.{inl, inr, ◌↔◌, List, [], ◌∷◌, refl, sym, subst, ◌∙◌}
use Rattle.std.specs.Prelude.{Contains}
use Rattle.or_geom.specs.declared.shape.Point.{Point}
use Rattle.or_geom.specs.declared.shape.Shape.{Shape}
use Rattle.or_geom.specs.Joined.{AreJoined}
use Rattle.or_geom.proofs.ListLaws.{contains_first}
use Rattle.shape_bins.proofs.CoverLaws.{shape_over}
use Rattle.tech_rules.specs.declared.tech.Connect.{Connect}
use Rattle.tech_rules.specs.declared.tech.Device.{Device}
use Rattle.tech_rules.specs.Net.{AreOnOneNet}
use Rattle.tech_rules.specs.Touch.{ShareArea, Touch}
use Rattle.tech_rules.proofs.LinkedLaws.{AreRefined, linked_next, linked_back, linked_on, linked_end, finer_linked, coarser_linked}
use Rattle.drawn_devices.specs.Cells.{ShareSide}
use Rattle.drawn_devices.specs.ChannelBoxes.{AreChannelShapes}
use Rattle.drawn_devices.specs.Channels.{IsChannelCell, ChannelOf}
use Rattle.drawn_devices.specs.Connections.{alone}
use Rattle.drawn_devices.proofs.CellLaws.{Has, side_back, box_linked, joined_meeting, meeting_joined}
use Rattle.drawn_devices.proofs.LayerLaws.{lies_by}

-- one layer that conducts
abbrev pub alone_0 : List Connect
alone_0 = alone 0 ∷ []

module _ (shapes : List Shape) (device : Device) (list : List Shape) (are : AreChannelShapes shapes device list) where
  -- the cells of the shapes are channel cells
  pub cell_of : (s : Shape) (p : Point) → Contains list s → Has s.rect p → IsChannelCell shapes device p
  cell_of s p listed has = (are.cells p).0 (lies_by list 0 p s listed (are.on s listed) has)

  joined_touch : (s t : Shape) → Contains list s → Contains list t → AreJoined s.rect t.rect → Touch alone_0 s t
  joined_touch s t in_s in_t joined = inl (record { one_layer = are.on s in_s ∙ sym (are.on t in_t); conductor = inl (subst (Contains (0 ∷ [])) (sym (are.on s in_s)) (contains_first 0 [])); joined = joined })

  area_joined : (s t : Shape) → ShareArea s.rect t.rect → AreJoined s.rect t.rect
  area_joined s t area = let cell : Point = record { x = area.x; y = area.y } in meeting_joined s.rect t.rect cell cell area.in_a area.in_b (inl refl)

  touch_joined : (s t : Shape) → Touch alone_0 s t → AreJoined s.rect t.rect
  touch_joined s t (inl h) = h.joined
  touch_joined s t (inr (inl h)) = area_joined s t h.area
  touch_joined s t (inr (inr h)) = let j = area_joined t s h.area in record { p = j.p; q = j.q; differ = j.differ; p_in_a = j.p_in_b; p_in_b = j.p_in_a; q_in_a = j.q_in_b; q_in_b = j.q_in_a }

  refined : AreRefined (IsChannelCell shapes device) ShareSide (Contains list) (Touch alone_0) (λ p s. Has s.rect p)
  refined = record {
    some = λ p has. let over = shape_over 0 list p.x p.y ((are.cells p).1 has) in (over.shape, over.there, over.holds);
    meet = λ p q s t of_p of_q in_s in_t has other meet. linked_next (Contains list) (Touch alone_0) s t in_t (joined_touch s t in_s in_t (meeting_joined s.rect t.rect p q has other meet));
    split = λ s t in_s in_t touch.
        let m = joined_meeting s.rect t.rect (touch_joined s t touch) in
        (m.a, m.b, cell_of s m.a in_s m.in_r, cell_of t m.b in_t m.in_s, m.in_r, m.in_s, m.meet);
    whole = λ p q s of_p of_q listed has other. box_linked (IsChannelCell shapes device) s.rect (λ z inside. cell_of s z listed inside) p q has other;
  }

  pub channels_alike : (p q : Point) (s t : Shape) → Contains list s → Contains list t → Has s.rect p → Has t.rect q → ChannelOf shapes device p q ↔ AreOnOneNet alone_0 list s t
  channels_alike p q s t in_s in_t has other = (
    λ linked. coarser_linked (IsChannelCell shapes device) ShareSide (Contains list) (Touch alone_0) (λ z u. Has u.rect z) refined p q s t (cell_of s p in_s has) in_s in_t has other linked,
    λ joint. finer_linked (IsChannelCell shapes device) ShareSide (Contains list) (Touch alone_0) (λ z u. Has u.rect z) refined p q s t (cell_of s p in_s has) (cell_of t q in_t other) in_s has other joint,
  )

-- what a channel cell leads to is a channel cell
pub channel_end : (shapes : List Shape) (device : Device) (p q : Point) → IsChannelCell shapes device p → ChannelOf shapes device p q → IsChannelCell shapes device q
channel_end shapes device p q of linked = linked_end (IsChannelCell shapes device) ShareSide p q of linked

pub channel_back : (shapes : List Shape) (device : Device) (p q : Point) → IsChannelCell shapes device p → ChannelOf shapes device p q → ChannelOf shapes device q p
channel_back shapes device p q of linked = linked_back (IsChannelCell shapes device) ShareSide side_back p q of linked

pub channel_on : (shapes : List Shape) (device : Device) (p q z : Point) → ChannelOf shapes device p q → ChannelOf shapes device q z → ChannelOf shapes device p z
channel_on shapes device p q z one two = linked_on (IsChannelCell shapes device) ShareSide p q z one two
