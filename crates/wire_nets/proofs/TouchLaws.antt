-- Wires of a memory that touch, or are one shape, have one net.
use Rattle.std.proofs.Common.{◌≡◌, ◌⊎◌, inl, inr, ◌∙◌, ℕ, zero, suc, ◌+◌, ◌<◌, ℤ, pos, ◌+ℤ◌, ◌≤ℤ◌, ◌<ℤ◌, List, sym, subst, arith}
use Rattle.std.specs.Prelude.{slice_index}
use Rattle.std.proofs.lemmas.Bool.{cases_eq}
use Rattle.std.proofs.lemmas.Int.{ints}
use Rattle.or_geom.specs.declared.shape.Rect.{Rect}
use Rattle.or_geom.specs.declared.shape.Shape.{Shape}
use Rattle.or_geom.specs.Covered.{HasCell}
use Rattle.tech_rules.specs.declared.tech.Connect.{Connect}
use Rattle.tech_rules.specs.declared.tech.Wire.{Wire}
use Rattle.tech_rules.specs.Touch.{IsCutTo, Touch, TouchByCut}
use Rattle.tech_rules.specs.WireRules.{margin}
use Rattle.tech_rules.proofs.WireLaws.{two_margins}
use Rattle.sram_netlist.specs.Organization.{Organization}
use Rattle.sram_netlist.specs.Nets.{Net}
use Rattle.macro_layout.specs.LayoutKit.{LayoutKit}
use Rattle.macro_layout.specs.Places.{Floorplan}
use Rattle.macro_layout.specs.Floorplan.{Tracks}
use Rattle.good_wires.specs.Spaced.{AreApart}
use Rattle.good_wires.specs.Drawn.{IsDrawnMemory}
use Rattle.good_wires.specs.Held.{IsCutHeld, DoRailsReach}
use Rattle.good_wires.proofs.LayerLaws.{cuts_differ, cut_no_metal}
use Rattle.joined_nets.specs.Joints.{JoinsOnlyWires}
use Rattle.joined_nets.specs.WireNets.{IsWireOfNet}
use Rattle.wire_nets.specs.Named.{HasNamedNets, AreToldOn, AreToldApart, AreHighCells}
use Rattle.wire_nets.proofs.ToldLaws.{joined_near, self_near}
use Rattle.wire_nets.proofs.FirstToldLaws.{first_told}
use Rattle.wire_nets.proofs.SecondToldLaws.{second_told}
use Rattle.wire_nets.proofs.ThirdToldLaws.{third_told}
use Rattle.wire_nets.proofs.FourthToldLaws.{fourth_told}
use Rattle.wire_nets.proofs.HeldNetLaws.{cuts_held}
use Rattle.good_nets.proofs.LiftLaws.{by_cut}

-- a wire's space is something
weaker : {A : Type 0} (space : ℤ) (a b : Rect) → pos 1 ≤ℤ space → A ⊎ AreApart space a b → A ⊎ AreApart (pos 1) a b
weaker space a b some (inl one) = inl one
weaker space a b some (inr (inl x)) = inr (inl (omega (arith, ints, some, x)))
weaker space a b some (inr (inr (inl x))) = inr (inr (inl (omega (arith, ints, some, x))))
weaker space a b some (inr (inr (inr (inl y)))) = inr (inr (inr (inl (omega (arith, ints, some, y)))))
weaker space a b some (inr (inr (inr (inr y)))) = inr (inr (inr (inr (omega (arith, ints, some, y)))))

-- a shape goes beyond another on each side
record GoesBeyond (a b : Rect) : Type 0 where
  pub left : a.x1 ≤ℤ b.x1
  pub right : b.x2 ≤ℤ a.x2
  pub low : a.y1 ≤ℤ b.y1
  pub high : b.y2 ≤ℤ a.y2

goes_itself : (a : Rect) → GoesBeyond a a
goes_itself a = record { left = omega (arith, ints); right = omega (arith, ints); low = omega (arith, ints); high = omega (arith, ints) }

-- shapes over others that share a cell aren't apart
cell_near : (a b c d : Rect) (x y : ℤ) → GoesBeyond a c → GoesBeyond b d → HasCell c x y → HasCell d x y → AreApart (pos 1) a b → ⊥
cell_near a b c d x y ga gb hc hd apart =
    let l = ga.left in
    let r = ga.right in
    let o = ga.low in
    let h = ga.high in
    let l' = gb.left in
    let r' = gb.right in
    let o' = gb.low in
    let h' = gb.high in
    let cl = hc.left in
    let cr = hc.right in
    let co = hc.low in
    let ch = hc.high in
    let dl = hd.left in
    let dr = hd.right in
    let do' = hd.low in
    let dh = hd.high in
    elim apart [
      | inl p ↦ omega (arith, ints, p, r, cr, l', dl)
      | inr rest ↦ elim rest [
        | inl p ↦ omega (arith, ints, p, r', dr, l, cl)
        | inr more ↦ elim more [
          | inl p ↦ omega (arith, ints, p, h, ch, o', do')
          | inr p ↦ omega (arith, ints, p, h', dh, o, co)
        ]
      ]
    ]

own_cell : (a : Rect) → HasCell a a.x1 a.y1
own_cell a =
    let w : a.x1 <ℤ a.x2 = a.wide in
    let t : a.y1 <ℤ a.y2 = a.tall in
    record { left = omega (arith, ints); right = omega (arith, ints, w); low = omega (arith, ints); high = omega (arith, ints, t) }

module _ (plan : Organization) (kit : LayoutKit) (wire : Wire) (tracks : Tracks) (f : Floorplan) (m : IsDrawnMemory plan kit wire tracks f) (names : HasNamedNets plan kit wire tracks f m) (tall : AreHighCells plan kit wire) (words : 0 < plan.word_size)
    (tops : DoRailsReach plan kit wire tracks.column f) where
  abbrev Drawn : Net → Shape → Type 0
  Drawn = IsWireOfNet plan kit wire tracks f

  abbrev metal : ℕ → ℕ
  metal k = slice_index wire.metals k

  abbrev cut : ℕ → ℕ
  cut k = slice_index wire.cuts k

  spaced : (layer : ℕ) → AreToldOn plan kit wire tracks f layer → AreToldApart plan kit wire tracks f layer
  spaced layer told n k s u a b on at = weaker wire.space s.rect u.rect m.laid.sizes.space.from (told n k s u a b on at)

  told : (i : ℕ) → i < 4 → AreToldApart plan kit wire tracks f (metal i)
  told zero lt = first_told plan kit wire tracks f m tall
  told (suc zero) lt = spaced (metal 1) (second_told plan kit wire tracks f m names)
  told (suc (suc zero)) lt = spaced (metal 2) (third_told plan kit wire tracks f m names)
  told (suc (suc (suc zero))) lt = spaced (metal 3) (fourth_told plan kit wire tracks f m names)
  told (suc (suc (suc (suc i)))) lt = absurd (omega (arith, lt))

  abbrev IsCut : Net → Shape → Type 0
  IsCut n s = (j : ℕ) × (j < 3) × (s.layer ≡ cut j) × IsCutHeld (Drawn n) wire j s × IsCutHeld (Drawn n) wire (j + 1) s

  abbrev IsMetal : Shape → Type 0
  IsMetal s = (i : ℕ) × (i < 4) × (s.layer ≡ metal i)

  kind : (n : Net) (s : Shape) → Drawn n s → IsCut n s ⊎ IsMetal s
  kind n s is = cuts_held plan kit wire tracks f m words tops n s is

  some_margin : pos 0 ≤ℤ margin wire
  some_margin = let two = two_margins wire m.laid.sizes in go wire.width wire.cut (margin wire) two m.laid.sizes.centred.narrow where
    go : (w c m : ℤ) → w ≡ c +ℤ (m +ℤ m) → c <ℤ w → pos 0 ≤ℤ m
    go w c m e lt = omega (arith, ints, e, lt)

  beyond : (n : Net) (k : ℕ) (s : Shape) (h : IsCutHeld (Drawn n) wire k s) → GoesBeyond h.holder.rect s.rect
  beyond n k s h = let g = some_margin in record { left = let a = h.left in go h.holder.rect.x1 (margin wire) s.rect.x1 g a; right = let a = h.right in go s.rect.x2 (margin wire) h.holder.rect.x2 g a; low = let a = h.low in go h.holder.rect.y1 (margin wire) s.rect.y1 g a; high = let a = h.high in go s.rect.y2 (margin wire) h.holder.rect.y2 g a } where
    go : (a m b : ℤ) → pos 0 ≤ℤ m → (a +ℤ m) ≤ℤ b → a ≤ℤ b
    go a m b g le = omega (arith, ints, g, le)

  one_net : (n k : Net) (s u : Shape) → (AreApart (pos 1) s.rect u.rect → ⊥) → (n ≡ k) ⊎ AreApart (pos 1) s.rect u.rect → n ≡ k
  one_net n k s u near (inl one) = one
  one_net n k s u near (inr apart) = absurd (near apart)

  -- No wire has two nets.
  pub wire_once : (n k : Net) (s : Shape) → Drawn n s → Drawn k s → n ≡ k
  wire_once n k s a b = by (kind n s a) (kind k s b) where
    by : IsCut n s ⊎ IsMetal s → IsCut k s ⊎ IsMetal s → n ≡ k
    by (inr (i, lt, on)) at = one_net n k s s (self_near (pos 1) s.rect (omega (arith, ints))) (told i lt n k s s a b on on)
    by (inl (j, lt, on, under, over)) (inr (i, few, at)) = absurd (cut_no_metal wire j i m.seven lt few (sym on ∙ at))
    by (inl (j, lt, on, under, over)) (inl (i, few, at, below, above)) = elim (cases_eq i j) [
      | inl e ↦
          let own = subst (λ (q : ℕ). IsCutHeld (Drawn k) wire q s) e below in
          one_net n k under.holder own.holder
          (cell_near under.holder.rect own.holder.rect s.rect s.rect s.rect.x1 s.rect.y1 (beyond n j s under) (beyond k j s own) (own_cell s.rect) (own_cell s.rect))
          (told j (omega (arith, lt)) n k under.holder own.holder under.is own.is under.on own.on)
      | inr differ ↦ absurd (cuts_differ wire i j m.seven few lt differ (sym at ∙ on))
    ]

  module _ (connections : List Connect) (only : JoinsOnlyWires connections wire) where
    -- a cut and what it connects
    by_cut_one : (n k : Net) (s u : Shape) → Drawn n s → Drawn k u → TouchByCut connections s u → n ≡ k
    by_cut_one n k s u a b touch = by (kind n s a) where
      held_one : (j i : ℕ) → i < 4 → IsCutHeld (Drawn n) wire i s → u.layer ≡ metal i → n ≡ k
      held_one j i lt h on =
          one_net n k h.holder u (cell_near h.holder.rect u.rect s.rect u.rect touch.area.x touch.area.y (beyond n i s h) (goes_itself u.rect) touch.area.in_a touch.area.in_b) (told i lt n k h.holder u h.is b h.on on)

      by : IsCut n s ⊎ IsMetal s → n ≡ k
      by (inr (i, lt, on)) = absurd (only.no_metal i u.layer lt (subst (λ (l : ℕ). IsCutTo connections l u.layer) on touch.connects))
      by (inl (j, lt, on, under, over)) = elim (only.beside j u.layer lt (subst (λ (l : ℕ). IsCutTo connections l u.layer) on touch.connects)) [
        | inl low ↦ held_one j j (omega (arith, lt)) under low
        | inr high ↦ held_one j (j + 1) (omega (arith, lt)) over high
      ]

    -- Wires that touch have one net.
    pub wires_touch : (n k : Net) (s u : Shape) → Drawn n s → Drawn k u → Touch connections s u → n ≡ k
    wires_touch n k s u a b (inl touch) = by (kind n s a) where
      by : IsCut n s ⊎ IsMetal s → n ≡ k
      by (inr (i, lt, on)) = one_net n k s u (joined_near (pos 1) s.rect u.rect (omega (arith, ints)) touch.joined) (told i lt n k s u a b on (sym touch.one_layer ∙ on))
      by (inl (j, lt, on, under, over)) = let found = by_cut connections s.layer touch.conductor in absurd (only.no_cut found.0 j lt (subst (IsCutTo connections found.0) on found.1))
    wires_touch n k s u a b (inr (inl touch)) = by_cut_one n k s u a b touch
    wires_touch n k s u a b (inr (inr touch)) = sym (by_cut_one k n u s b a touch)
