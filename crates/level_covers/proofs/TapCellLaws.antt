-- A cell that a tap covers near a zone in one memory is covered by a tap, moved, in another.
use Rattle.std.proofs.Common.{◌≡◌, ◌⊎◌, inl, inr, ◌∙◌, ℕ, ◌+◌, ◌*◌, ◌<◌, ◌≤◌, ℤ, pos, negsuc, ◌+ℤ◌, ◌*ℤ◌, ◌≤ℤ◌, ◌<ℤ◌, sym, ap, subst, arith}
use Rattle.std.specs.Prelude.{slice_index}
use Rattle.std.specs.Int.{int_min}
use Rattle.std.proofs.Math.Nat.{suc-mul}
use Rattle.std.proofs.lemmas.Bool.{cases_lt}
use Rattle.std.proofs.lemmas.Int.{ints, clamps}
use Rattle.or_geom.specs.declared.shape.Shape.{Shape}
use Rattle.or_geom.specs.Covered.{HasCell}
use Rattle.tech_rules.specs.declared.tech.Wire.{Wire}
use Rattle.wire_drawing.specs.Drawing.{pitch}
use Rattle.sram_netlist.specs.Organization.{Organization, columns_of}
use Rattle.macro_layout.specs.LayoutKit.{LayoutKit}
use Rattle.macro_layout.specs.Places.{Floorplan, columns_x, bit_width}
use Rattle.macro_layout.specs.Floorplan.{Tracks}
use Rattle.macro_layout.specs.Wires.{IsTapAt}
use Rattle.good_places.specs.Leaves.{Zone}
use Rattle.good_places.specs.Seen.{IsMovedZone}
use Rattle.good_places.specs.Windows.{with_bits}
use Rattle.good_wires.specs.Drawn.{IsDrawnMemory, IsDrawnWire}
use Rattle.good_wires.proofs.LevelLaws.{Sides, sides}
use Rattle.good_wires.proofs.ClearLaws.{IsBankZone, banks_left}
use Rattle.good_wires.proofs.ThirdLaws.{IsTap, tap_from, tap_to}
use Rattle.tap_spaces.proofs.TapImageLaws.{tap_wire}

-- Numbers

next_offset : (b : ℕ) (q : ℤ) → pos 0 ≤ℤ q → pos (b + 1) *ℤ q ≡ (pos b *ℤ q) +ℤ q
next_offset b (pos w) low = let more = suc-mul b w in omega (arith, ints, more)
next_offset b (negsuc w) low = absurd (omega (arith, ints, low))

no_earlier : (x end x2 v q bank row hl d : ℤ) → x <ℤ x2 → x2 ≡ end +ℤ v → end ≤ℤ bank → (v +ℤ bank) ≤ℤ q → (row +ℤ q) ≤ℤ hl → hl ≤ℤ (x +ℤ d) → d ≤ℤ row → ⊥
no_earlier x end x2 v q bank row hl d a e b c k l o = omega (arith, ints, a, e, b, c, k, l, o)

not_inner : (p tx b1 x v q bank hl hr col d : ℤ) (cu w all : ℕ) → pos 1 ≤ℤ p → p ≤ℤ tx → b1 ≡ tx +ℤ v → b1 ≤ℤ x → (q +ℤ bank) ≤ℤ v → x <ℤ (hr +ℤ d) → hr ≡ hl +ℤ pos w → hl ≡ (col +ℤ pos cu) +ℤ q → d ≤ℤ pos w → bank ≡ col +ℤ pos all → cu + (w + w) ≤ all → ⊥
not_inner p tx b1 x v q bank hl hr col d cu w all one from e le g lt r l wide is inner = omega (arith, ints, one, from, e, le, g, lt, r, l, wide, is, inner)

not_second : (p tx b1 x v u q bank hr row d : ℤ) → pos 1 ≤ℤ p → p ≤ℤ tx → b1 ≡ tx +ℤ v → b1 ≤ℤ x → (u +ℤ bank) ≤ℤ v → u ≡ q +ℤ bank → x <ℤ (hr +ℤ d) → hr ≤ℤ (bank +ℤ q) → d ≤ℤ row → row ≤ℤ bank → ⊥
not_second p tx b1 x v u q bank hr row d one from e le g is lt r near k = omega (arith, ints, one, from, e, le, g, is, lt, r, near, k)

end_moved : (dx hl tl col col2 q q2 v v2 bank bank2 : ℤ) (cu du w all all2 : ℕ) → tl ≡ hl +ℤ dx → hl ≡ (col +ℤ pos cu) +ℤ q → tl ≡ (col2 +ℤ pos du) +ℤ q2 → bank ≡ col +ℤ pos all → bank2 ≡ col2 +ℤ pos all2 → cu + w ≡ all → du + w ≡ all2 → v ≡ q +ℤ bank → v2 ≡ q2 +ℤ bank2 → v2 ≡ v +ℤ dx
end_moved dx hl tl col col2 q q2 v v2 bank bank2 cu du w all all2 m l t b c e g p r = omega (arith, ints, m, l, t, b, c, e, g, p, r)

pub before_rows : (dx x hr d v v2 q bank row end : ℤ) → x <ℤ (hr +ℤ d) → hr ≤ℤ (bank +ℤ q) → d ≤ℤ row → v ≡ q +ℤ bank → v2 ≡ v +ℤ dx → row ≤ℤ end → (x +ℤ dx) <ℤ (end +ℤ v2)
before_rows dx x hr d v v2 q bank row end a b c e m k = omega (arith, ints, a, b, c, e, m, k)

pub row_right : (dx x x2 end v v2 : ℤ) → x <ℤ x2 → x2 ≡ end +ℤ v → v2 ≡ v +ℤ dx → (x +ℤ dx) <ℤ ((end +ℤ pos 0) +ℤ v2)
row_right dx x x2 end v v2 a e m = omega (arith, ints, a, e, m)

pub tail_right : (dx x x2 end v e2 v2 : ℤ) → x <ℤ x2 → x2 ≡ end +ℤ v → int_min ((end +ℤ v) +ℤ dx) ((x +ℤ pos 1) +ℤ dx) ≡ int_min (e2 +ℤ v2) ((x +ℤ pos 1) +ℤ dx) → (x +ℤ dx) <ℤ (e2 +ℤ v2)
tail_right dx x x2 end v e2 v2 a e m = omega (arith, ints, clamps, a, e, m)

pub later_left : (dx x hl tl col col2 q q2 d tx row : ℤ) (du w : ℕ) → hl ≤ℤ (x +ℤ d) → tl ≡ hl +ℤ dx → tl ≡ (col2 +ℤ pos du) +ℤ q2 → w ≤ du → d ≤ℤ pos w → tx ≤ℤ row → row ≤ℤ col2 → (tx +ℤ q2) ≤ℤ (x +ℤ dx)
later_left dx x hl tl col col2 q q2 d tx row du w a m t le wide r c = omega (arith, ints, a, m, t, le, wide, r, c)

pub first_moved : (dx hl tl col col2 q q2 : ℤ) (cu du : ℕ) → tl ≡ hl +ℤ dx → hl ≡ (col +ℤ pos cu) +ℤ q → tl ≡ (col2 +ℤ pos du) +ℤ q2 → col ≡ col2 → cu ≡ 0 → du ≡ 0 → q2 ≡ q +ℤ dx
first_moved dx hl tl col col2 q q2 cu du m l t e a b = omega (arith, ints, m, l, t, e, a, b)

pub too_far : (x x2 hl col q d end : ℤ) (cu w : ℕ) → hl ≤ℤ (x +ℤ d) → hl ≡ (col +ℤ pos cu) +ℤ q → w ≤ cu → d ≤ℤ pos w → x <ℤ x2 → x2 ≡ end +ℤ q → end ≤ℤ col → ⊥
too_far x x2 hl col q d end cu w a l le wide b e c = omega (arith, ints, a, l, le, wide, b, e, c)

module _ (base : Organization) (kit : LayoutKit) (wire : Wire) (w1 r1 m1 w2 r2 m2 : ℕ) (tracks many : Tracks) (f g : Floorplan) (m : IsDrawnMemory (with_bits base w1 r1 m1) kit wire tracks f) (n : IsDrawnMemory (with_bits base w2 r2 m2) kit wire many g) (dx dy d : ℤ) (here there : Zone) (same : IsMovedZone dx dy here there) (low_rows : d ≤ℤ f.row_x) where
  abbrev plan : Organization
  plan = with_bits base w1 r1 m1

  abbrev other : Organization
  other = with_bits base w2 r2 m2

  abbrev Tap : Shape → Type 0
  Tap b = IsTap plan kit wire tracks f m b

  abbrev offset : ℕ → ℤ
  offset b = pos b *ℤ f.bank_width

  abbrev offset_there : ℕ → ℤ
  offset_there b = pos b *ℤ g.bank_width

  s_of : Sides plan kit wire f
  s_of = sides plan kit wire tracks f m.laid.sizes m.stands

  pub record HasTapCell (x y : ℤ) : Type 0 where
    pub image : Shape
    pub drawn : IsDrawnWire other kit wire many g image
    pub on : image.layer ≡ slice_index wire.metals 2
    pub holds : HasCell image.rect x y

  pub put : (b : Shape) (t : Tap b) (x y tap_y end : ℤ) → HasCell b.rect x y → IsTapAt other kit wire many.column g t.x tap_y end → tap_y ≡ t.y +ℤ dy → (t.x +ℤ offset_there t.bank) ≤ℤ (x +ℤ dx) → (x +ℤ dx) <ℤ (end +ℤ offset_there t.bank) → HasTapCell (x +ℤ dx) (y +ℤ dy)
  put b t x y tap_y end has tap at left right =
      let w = tap_wire other kit wire many g n t.bank t.below t.x tap_y end tap (long t.x end (x +ℤ dx) (offset_there t.bank) left right) in
      record {
        image = w.image;
        drawn = w.drawn;
        on = w.box.on;
        holds = record {
          left = subst (λ (z : ℤ). z ≤ℤ (x +ℤ dx)) (sym w.box.left) left;
          right = subst (λ (z : ℤ). (x +ℤ dx) <ℤ z) (sym w.box.right) right;
          low = low w.image.rect.y1 b.rect.y1 tap_y t.y y w.box.low at t.drawn.low has.low;
          high = high w.image.rect.y2 b.rect.y2 tap_y t.y y w.box.high at t.drawn.high has.high;
        };
      }
    where
      long : (x end c q : ℤ) → (x +ℤ q) ≤ℤ c → c <ℤ (end +ℤ q) → x <ℤ end
      long x end c q a b = omega (arith, ints, a, b)

      low : (i b tap t y : ℤ) → i ≡ tap → tap ≡ t +ℤ dy → b ≡ t → b ≤ℤ y → i ≤ℤ (y +ℤ dy)
      low i b tap t y p q r s = omega (arith, ints, p, q, r, s)

      high : (i b tap t y : ℤ) → i ≡ tap +ℤ wire.width → tap ≡ t +ℤ dy → b ≡ t +ℤ wire.width → y <ℤ b → (y +ℤ dy) <ℤ i
      high i b tap t y p q r s = omega (arith, ints, p, q, r, s)

  -- where the bank stands as much further right
  pub put_moved : (b : Shape) (t : Tap b) (x y tap_y end : ℤ) → HasCell b.rect x y → IsTapAt other kit wire many.column g t.x tap_y end → tap_y ≡ t.y +ℤ dy → offset_there t.bank ≡ offset t.bank +ℤ dx → (x +ℤ dx) <ℤ (end +ℤ offset_there t.bank) → HasTapCell (x +ℤ dx) (y +ℤ dy)
  put_moved b t x y tap_y end has tap at moved right = put b t x y tap_y end has tap at (left b.rect.x1 t.x (offset t.bank) (offset_there t.bank) t.drawn.left has.left moved) right where
    left : (b1 tx q v : ℤ) → b1 ≡ tx +ℤ q → b1 ≤ℤ x → v ≡ q +ℤ dx → (tx +ℤ v) ≤ℤ (x +ℤ dx)
    left b1 tx q v e le is = omega (arith, ints, e, le, is)

  -- Where the cell stands

  -- a zone of one of so many that are so wide, side by side in a bank, and the same in the other memory
  pub record IsItem (bank : ℕ) (w cu all du all_there : ℕ) : Type 0 where
    pub zone : IsBankZone plan kit wire tracks f m bank here
    pub left : here.left ≡ (columns_x plan kit f +ℤ pos cu) +ℤ offset bank
    pub right : here.right ≡ here.left +ℤ pos w
    pub left_there : there.left ≡ (columns_x other kit g +ℤ pos du) +ℤ offset_there bank
    pub bank_end : f.bank_width ≡ columns_x plan kit f +ℤ pos all
    pub bank_end_there : g.bank_width ≡ columns_x other kit g +ℤ pos all_there
    pub last : ((cu + w ≡ all) × (du + w ≡ all_there)) ⊎ (cu + (w + w) ≤ all)
    pub first : ((cu ≡ 0) × (du ≡ 0)) ⊎ ((w ≤ cu) × (w ≤ du))
    pub wide : d ≤ℤ pos w

  pub record IsCellNear (x : ℤ) : Type 0 where
    pub from : here.left ≤ℤ (x +ℤ d)
    pub to : x <ℤ (here.right +ℤ d)

  row_end : f.row_x ≤ℤ f.bank_width
  row_end = go f.row_x (columns_x plan kit f) f.bank_width (columns_of plan * bit_width kit) s_of.columns s_of.bank where
    go : (row col bank : ℤ) (k : ℕ) → row ≤ℤ col → bank ≡ col +ℤ pos k → row ≤ℤ bank
    go row col bank k a e = omega (arith, ints, a, e)

  -- a tap that covers it is one of the zone's bank, or of a later one
  pub bank_cases : (bank : ℕ) → IsBankZone plan kit wire tracks f m bank here → (b : Shape) (t : Tap b) (x y : ℤ) → HasCell b.rect x y → IsCellNear x → (t.bank ≡ bank) ⊎ (bank < t.bank)
  bank_cases bank zone b t x y has near = elim (cases_lt t.bank bank) [
    | inl earlier ↦ absurd (no_earlier x t.end b.rect.x2 (offset t.bank) (offset bank) f.bank_width f.row_x here.left d has.right t.drawn.right (tap_to plan kit wire tracks f m t.x t.y t.end t.tap) (banks_left plan kit wire tracks f m t.bank bank earlier) zone.left near.from low_rows)
    | inr ge ↦ elim (cases_lt bank t.bank) [
      | inl later ↦ inr later
      | inr le ↦ inl (omega (arith, ge, le))
    ]
  ]

  pitch_some : pos 1 ≤ℤ pitch wire
  pitch_some = let w = m.laid.sizes.width.from in let s = m.laid.sizes.space.from in omega (arith, ints, w, s)

  -- of a later one: then the zone is its bank's last, and the next bank stands as much further right as the zone
  pub record IsNextBank (bank : ℕ) (b : Shape) (t : Tap b) : Type 0 where
    pub offset_is : offset t.bank ≡ offset bank +ℤ f.bank_width
    pub moved : offset_there t.bank ≡ offset t.bank +ℤ dx

  pub next_bank : (bank w cu all du all_there : ℕ) → IsItem bank w cu all du all_there → (b : Shape) (t : Tap b) (x y : ℤ) → HasCell b.rect x y → IsCellNear x → bank < t.bank → IsNextBank bank b t
  next_bank bank w cu all du all_there item b t x y has near later = elim item.last [
    | inl last ↦
        let here_offset : offset t.bank ≡ offset bank +ℤ f.bank_width = ap offset one_further ∙ next_offset bank f.bank_width s_of.wide in
        let there_offset : offset_there t.bank ≡ offset_there bank +ℤ g.bank_width = ap offset_there one_further ∙ next_offset bank g.bank_width (sides other kit wire many g n.laid.sizes n.stands).wide in
        record {
          offset_is = here_offset;
          moved = end_moved dx here.left there.left (columns_x plan kit f) (columns_x other kit g) (offset bank) (offset_there bank) (offset t.bank) (offset_there t.bank) f.bank_width g.bank_width cu du w all all_there same.left item.left item.left_there item.bank_end item.bank_end_there last.0 last.1 here_offset there_offset;
        }
    | inr inner ↦ absurd (not_inner (pitch wire) t.x b.rect.x1 x (offset t.bank) (offset bank) f.bank_width here.left here.right (columns_x plan kit f) d cu w all pitch_some (tap_from plan kit wire tracks f m t.x t.y t.end t.tap) t.drawn.left has.left (banks_left plan kit wire tracks f m bank t.bank later) near.to item.right item.left item.wide item.bank_end inner)
  ] where
    one_further : t.bank ≡ bank + 1
    one_further = elim (cases_lt (bank + 1) t.bank) [
      | inl second ↦
          absurd (not_second (pitch wire) t.x b.rect.x1 x (offset t.bank) (offset (bank + 1)) (offset bank) f.bank_width here.right f.row_x d pitch_some (tap_from plan kit wire tracks f m t.x t.y t.end t.tap) t.drawn.left has.left (banks_left plan kit wire tracks f m (bank + 1) t.bank second) (next_offset bank f.bank_width s_of.wide) near.to
          item.zone.right low_rows row_end)
      | inr le ↦ omega (arith, later, le)
    ]
