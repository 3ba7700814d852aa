-- Pins of a bank's instances and wires of its bank stand, moved, in the small memory.
use Rattle.std.proofs.Common.{◌≡◌, ◌⊎◌, inl, inr, ◌∙◌, ℕ, zero, suc, ◌<◌, ℤ, pos, ◌+ℤ◌, ◌*ℤ◌, ◌≤ℤ◌, List, [], ◌∷◌, Some, refl, sym, ap, subst, arith}
use Rattle.std.specs.Prelude.{slice_get, map}
use Rattle.std.proofs.lemmas.Int.{ints}
use Rattle.or_geom.specs.declared.shape.Rect.{Rect}
use Rattle.or_geom.specs.declared.shape.Shape.{Shape}
use Rattle.or_geom.specs.Place.{placed, IsImage}
use Rattle.cell_roles.specs.declared.role.Role.{Role}
use Rattle.tech_rules.specs.declared.tech.Connect.{Connect}
use Rattle.sram_netlist.specs.Organization.{Organization, banks_of}
use Rattle.sram_netlist.specs.Nets.{Net}
use Rattle.sram_netlist.specs.Instances.{LeafInstance}
use Rattle.sram_netlist.specs.Netlist.{ports, role}
use Rattle.macro_layout.specs.Places.{Floorplan}
use Rattle.macro_layout.specs.Pins.{IsPin}
use Rattle.macro_layout.specs.Stated.{IsShifted}
use Rattle.local_report.specs.Moved as moved
use Rattle.local_report.proofs.MovedLaws.{moved_rect}
use Rattle.good_places.specs.Beside.{moved_place}
use Rattle.good_places.specs.Leaves.{Zone}
use Rattle.good_places.proofs.MoveLaws.{moved_image}
use Rattle.good_nets.specs.Ports.{upright_place}
use Rattle.good_nets.proofs.CellLaws.{has_image}
use Rattle.joined_nets.specs.WireNets.{in_bank, IsBankWireOf}
use Rattle.kit_nets.specs.StatedParts.{Source, Standing}
use Rattle.kit_nets.proofs.ChannelDrawnLaws.{moved_is_shifted}
use Rattle.moved_nets.specs.Moved.{slice_net}
use Rattle.moved_nets.proofs.SliceLaws.{slices_move}
use Rattle.seen_pairs.specs.Counterpart.{IsCounterpart}
use Rattle.small_wires.specs.Seen.{CoversThere}
use Rattle.seen_pairs.specs.Window.{IsSeenSource, HasSeenWindow}
use Rattle.seen_pairs.proofs.BankPairLaws.{akin, Counter}
use Rattle.small_wires.proofs.ColumnNetLaws.{in_bank_moved}
use Rattle.seen_pairs.proofs.SeatLaws.{zone_at}
use Rattle.small_wires.proofs.SeenWireLaws.{small, SeenThere, bank_seen}

-- what stands in a list of values stands there for an item
pub unmapped_at : {N : Type 0} {M : Type 0} (h : N → M) (xs : List N) (place : ℕ) (y : M) → slice_get (map h xs) place ≡ Some y → (x : N) × (slice_get xs place ≡ Some x) × (h x ≡ y)
unmapped_at h [] place y e = absurd cc
unmapped_at h (x ∷ xs) zero y e = (x, refl, cc)
unmapped_at h (x ∷ xs) (suc place) y e = unmapped_at h xs place y e

module _ (connections : List Connect) (s : Source) (by reach : ℤ) (is : IsSeenSource connections s by reach) (window : HasSeenWindow connections s) where
  abbrev f : Floorplan
  f = s.floorplan

  abbrev g : Floorplan
  g = window.floorplan

  abbrev there_plan : Organization
  there_plan = (small connections s by reach is window).plan

  -- the pin of the instance that stands for the pin's
  pub record IsPinThere (m : ℕ) (dx dy : ℤ) (there : LeafInstance) (port metal : ℕ) (net : Net) (rect : Rect) : Type 0 where
    pub net2 : Net
    pub named : slice_net s.plan m net2 ≡ net
    pub rect2 : Rect
    pub moved_by : moved.IsMovedBy dx dy rect rect2
    pub pin : IsPin there_plan s.kit g there port metal net2 rect2

  pub pin_there : (m : ℕ) (dx dy : ℤ) (leaf : LeafInstance) (port metal : ℕ) (net : Net) (rect : Rect) (p : IsPin s.plan s.kit f leaf port metal net rect) → (c : IsCounterpart s.plan s.kit g window.word window.write window.masks m dx dy leaf p.place) → IsPinThere m dx dy c.there port metal net rect
  pin_there m dx dy leaf port metal net rect p c =
      let r = moved_rect dx dy rect in
      let on : slice_get (map (slice_net s.plan m) (ports there_plan c.there)) port ≡ Some net =
      ap (λ (ns : List Net). slice_get ns port) (sym (ap (ports s.plan) c.is ∙ slices_move s.plan there_plan m c.there (akin connections s by reach is window).plans c.inside)) ∙ p.on in
      let u = unmapped_at (slice_net s.plan m) (ports there_plan c.there) port net on in
      record {
        net2 = u.0;
        named = u.2;
        rect2 = r.0;
        moved_by = r.1;
        pin = record {
          has = c.has;
          on = u.1;
          place = moved_place dx dy p.place;
          stands = c.stands;
          image = subst (λ (o : Role). IsImage (placed (moved_place dx dy p.place)) (s.kit.pin o port metal) r.0) (sym c.same_role) (moved_image dx dy p.place (s.kit.pin (role s.plan leaf) port metal) rect r.0 p.image r.1);
        };
      }

  abbrev pub q : ℕ → ℤ
  q b = pos b *ℤ s.floorplan.bank_width

  abbrev pub qg : ℕ → ℤ
  qg b = pos b *ℤ window.floorplan.bank_width

  -- a wire of bank 0 there covers in bank b, as far as the zone goes, what one here covers
  pub record CoversInBank (b : ℕ) (dx dy : ℤ) (z : Zone) (inner other : Shape) : Type 0 where
    pub layer : other.layer ≡ inner.layer
    pub left : ((other.rect.x1 +ℤ qg b) ≤ℤ ((inner.rect.x1 +ℤ q b) +ℤ dx)) ⊎ (((other.rect.x1 +ℤ qg b) +ℤ by) ≤ℤ (z.left +ℤ dx))
    pub right : (((inner.rect.x2 +ℤ q b) +ℤ dx) ≤ℤ (other.rect.x2 +ℤ qg b)) ⊎ (((z.right +ℤ dx) +ℤ by) ≤ℤ (other.rect.x2 +ℤ qg b))
    pub low : (other.rect.y1 ≤ℤ (inner.rect.y1 +ℤ dy)) ⊎ ((other.rect.y1 +ℤ by) ≤ℤ (z.low +ℤ dy))
    pub high : ((inner.rect.y2 +ℤ dy) ≤ℤ other.rect.y2) ⊎ (((z.high +ℤ dy) +ℤ by) ≤ℤ other.rect.y2)

  covers_shifted : (b : ℕ) (dx dy : ℤ) (z : Zone) (inner other t u : Shape) → IsShifted (q b) (pos 0) inner t → IsShifted (qg b) (pos 0) other u → CoversInBank b dx dy z inner other → CoversThere by dx dy z t u
  covers_shifted b dx dy z inner other t u a c k = record {
    layer = c.layer ∙ (k.layer ∙ sym a.layer);
    left = elim k.left [ inl h ↦ inl (let p = a.x1 in let r = c.x1 in omega (arith, ints, h, p, r)) | inr h ↦ inr (let r = c.x1 in omega (arith, ints, h, r)) ];
    right = elim k.right [ inl h ↦ inl (let p = a.x2 in let r = c.x2 in omega (arith, ints, h, p, r)) | inr h ↦ inr (let r = c.x2 in omega (arith, ints, h, r)) ];
    low = elim k.low [ inl h ↦ inl (let p = a.y1 in let r = c.y1 in omega (arith, ints, h, p, r)) | inr h ↦ inr (let r = c.y1 in omega (arith, ints, h, r)) ];
    high = elim k.high [ inl h ↦ inl (let p = a.y2 in let r = c.y2 in omega (arith, ints, h, p, r)) | inr h ↦ inr (let r = c.y2 in omega (arith, ints, h, r)) ];
  }

  -- A wire of a bank is seen where the small memory's bank has one that covers as much.
  pub in_bank_seen : (m : ℕ) (dx dy : ℤ) (i : Standing s) → Counter connections s by reach is window m dx dy i → (b : ℕ) → b < banks_of s.plan → (n net net2 : Net) (t inner other : Shape) → n ≡ in_bank b net → slice_net s.plan m net2 ≡ net → IsShifted (q b) (pos 0) inner t
      → IsBankWireOf there_plan s.kit s.wire window.tracks g net2 other → CoversInBank b dx dy (zone_at connections s by reach is i) inner other → SeenThere connections s by reach is window i n t
  in_bank_seen m dx dy i c b lt n net net2 t inner other named moves shifted is_wire covers =
      let u = has_image (upright_place (qg b) (pos 0)) other in
      let sh = moved_is_shifted (qg b) (pos 0) other u.0 u.1 in
      bank_seen connections s by reach is window m dx dy i c n (in_bank b net2) t u.0 (in_bank_moved s.plan m b net2 ∙ (ap (in_bank b) moves ∙ sym named))
      (inr (record { bank = b; below = lt; net = net2; named = refl; inner = other; is = is_wire; shifted = sh }))
      (covers_shifted b dx dy (zone_at connections s by reach is i) inner other t u.0 shifted sh covers)
