-- Kinds of wires by where they may end, the count of rails, and the places of pins.
use Rattle.std.proofs.Common.{◌≡◌, ◌≢◌, ◌⊎◌, inl, inr, ℕ, zero, suc, ◌+◌, ◌<◌, ℤ, pos, negsuc, ◌+ℤ◌, ◌*ℤ◌, ◌≤ℤ◌, ◌<ℤ◌, List, [], ◌∷◌, ◌++◌, length, refl, ap, ◌∙◌, arith}
use Rattle.std.specs.Prelude.{slice_index}
use Rattle.std.proofs.lemmas.Int.{ints}
use Rattle.std.proofs.lemmas.List.{length-append, length-map}
use Rattle.std.proofs.lemmas.List.Elements.{Contains-append_cases}
use Rattle.or_geom.specs.declared.shape.Shape.{Shape}
use Rattle.tech_rules.specs.declared.tech.Wire.{Wire}
use Rattle.wire_drawing.specs.Drawing.{IsBox, IsVia}
use Rattle.channel_router.specs.declared.channel.Channel.{Channel}
use Rattle.channel_router.specs.Channel.{IsPinOf, places}
use Rattle.sram_netlist.specs.Organization.{Organization, power_of_two}
use Rattle.sram_netlist.specs.Nets.{Line}
use Rattle.sram_netlist.specs.InstanceList.{numbers_from, tabulate}
use Rattle.macro_layout.specs.Places.{Floorplan, bank_x}
use Rattle.macro_layout.specs.Floorplan.{line_count, choice_count, rail_count}
use Rattle.macro_layout.specs.Pins.{line_nets, choice_nets, rail_nets}
use Rattle.macro_layout.specs.Stated.{IsShifted}
use Rattle.view_cover.specs.Bits.{LiesWithin}
use Rattle.view_cover.proofs.PlaceLaws.{box_within, wider_within, shifted_within}

-- Kinds of wires

-- a wire on a metal other than the second, within these bounds
pub record IsWide (wire : Wire) (left right high : ℤ) (s : Shape) : Type 0 where
  pub metal : ℕ
  pub few : metal < 4
  pub other : metal ≢ 1
  pub on : s.layer ≡ slice_index wire.metals metal
  pub within : LiesWithin left (pos 0) right high s.rect

pub record IsCut (wire : Wire) (s : Shape) : Type 0 where
  pub cut : ℕ
  pub few : cut < 3
  pub on : s.layer ≡ slice_index wire.cuts cut

-- a shape that ends at the right bound, a wire on another metal than the second that may end later, or a cut
abbrev pub IsPlain : Wire → ℤ → ℤ → ℤ → ℤ → Shape → Type 0
IsPlain wire left right later high s = LiesWithin left (pos 0) right high s.rect ⊎ (IsWide wire left later high s ⊎ IsCut wire s)

pub via_cut : (wire : Wire) (cut : ℕ) (x y : ℤ) (s : Shape) → cut < 3 → IsVia wire cut x y s → IsCut wire s
via_cut wire cut x y s lt is = record { cut = cut; few = lt; on = is.on }

pub wide_box : (wire : Wire) (metal : ℕ) (x1 y1 x2 y2 left right high : ℤ) (s : Shape) → metal < 4 → metal ≢ 1 → IsBox (slice_index wire.metals metal) x1 y1 x2 y2 s → left ≤ℤ x1 → pos 0 ≤ℤ y1 → x2 ≤ℤ right → y2 ≤ℤ high → IsWide wire left right high s
wide_box wire metal x1 y1 x2 y2 left right high s lt other is a b c d = record {
  metal = metal;
  few = lt;
  other = other;
  on = is.on;
  within = box_within (slice_index wire.metals metal) x1 y1 x2 y2 left (pos 0) right high s is a b c d;
}

pub not_first : ◌≢◌ {A = ℕ} 0 1
not_first e = absurd (omega (arith, e))

pub not_third : ◌≢◌ {A = ℕ} 2 1
not_third e = absurd (omega (arith, e))

pub not_fourth : ◌≢◌ {A = ℕ} 3 1
not_fourth e = absurd (omega (arith, e))

-- the same further right, within wider bounds
pub plain_shifts : (wire : Wire) (dx left right later high left2 right2 later2 : ℤ) (s t : Shape) → IsShifted dx (pos 0) s t → IsPlain wire left right later high s → left2 ≤ℤ (left +ℤ dx) → (right +ℤ dx) ≤ℤ right2 → (later +ℤ dx) ≤ℤ later2 → IsPlain wire left2 right2 later2 high t
plain_shifts wire dx left right later high left2 right2 later2 s t moved (inl is) a b c = inl (wider_within (left +ℤ dx) (pos 0) (right +ℤ dx) high left2 right2 t.rect (shifted_within dx left (pos 0) right high s t moved is) a b)
plain_shifts wire dx left right later high left2 right2 later2 s t moved (inr (inl is)) a b c = inr (inl (record {
  metal = is.metal;
  few = is.few;
  other = is.other;
  on = moved.layer ∙ is.on;
  within = wider_within (left +ℤ dx) (pos 0) (later +ℤ dx) high left2 later2 t.rect (shifted_within dx left (pos 0) later high s t moved is.within) a c;
}))
plain_shifts wire dx left right later high left2 right2 later2 s t moved (inr (inr is)) a b c = inr (inr (record { cut = is.cut; few = is.few; on = moved.layer ∙ is.on }))

-- Counts of rails

pub count_from : (k n : ℕ) → length (numbers_from k n) ≡ n
count_from k zero = refl
count_from k (suc n) = ap suc (count_from (suc k) n)

pub count_all : {A : Type 0} (n : ℕ) (g : ℕ → A) → length (tabulate n g) ≡ n
count_all n g = length-map (numbers_from 0 n) g ∙ count_from 0 n

lines_count : (bs : List ℕ) (o : ℕ) → length (line_nets bs o) ≡ line_count bs
lines_count [] o = refl
lines_count (b ∷ bs) o =
    let here = count_all (power_of_two b) (Line o b) in
    let rest = lines_count bs (o + b) in
    let both = length-append (tabulate (power_of_two b) (Line o b)) (line_nets bs (o + b)) in
    omega (arith, here, rest, both)

choices_count : (n : ℕ) → length (choice_nets n) ≡ choice_count n
choices_count zero = refl
choices_count (suc n) = count_all (power_of_two (suc n)) (Line 0 (suc n))

joined_count : {A : Type 0} (xs ys : List A) (a b c : A) (m n : ℕ) → length xs ≡ m → length ys ≡ n → length (xs ++ (a ∷ b ∷ c ∷ ys)) ≡ m + (3 + n)
joined_count xs ys a b c m n p q = let both = length-append xs (a ∷ b ∷ c ∷ ys) in omega (arith, both, p, q)

pub rails_count : (plan : Organization) (b : ℕ) → length (rail_nets plan b) ≡ rail_count plan
rails_count plan b = joined_count (line_nets plan.groups plan.col_bits) (choice_nets plan.col_bits) _ _ _ (line_count plan.groups) (choice_count plan.col_bits) (lines_count plan.groups plan.col_bits) (choices_count plan.col_bits)

-- Pins of channels

pub pin_cases : (ch : Channel) (net : ℕ) (x : ℤ) → IsPinOf (places ch) net x → IsPinOf ch.top net x ⊎ (IsPinOf ch.bottom net x ⊎ IsPinOf ch.exits net x)
pin_cases ch net x p = elim (Contains-append_cases (ch.top ++ ch.bottom) ch.exits p.pin p.listed) [
  | inl first ↦ elim (Contains-append_cases ch.top ch.bottom p.pin first) [
    | inl a ↦ inl (record { pin = p.pin; listed = a; at_x = p.at_x; of_net = p.of_net })
    | inr b ↦ inr (inl (record { pin = p.pin; listed = b; at_x = p.at_x; of_net = p.of_net }))
  ]
  | inr c ↦ inr (inr (record { pin = p.pin; listed = c; at_x = p.at_x; of_net = p.of_net }))
]

-- Numbers

pub wire_behind : (x w b : ℤ) → x <ℤ b → (x +ℤ w) ≤ℤ (b +ℤ w)
wire_behind x w b lt = omega (arith, ints, lt)

pub behind_wire : (x w b : ℤ) → (x +ℤ w) ≤ℤ b → pos 1 ≤ℤ w → x <ℤ b
behind_wire x w b le one = omega (arith, ints, le, one)

pub more_right : (x w b : ℤ) → x ≤ℤ b → pos 1 ≤ℤ w → x ≤ℤ (b +ℤ w)
more_right x w b le one = omega (arith, ints, le, one)

pub chain : (a b c : ℤ) → a ≤ℤ b → b ≤ℤ c → a ≤ℤ c
chain a b c p q = omega (arith, ints, p, q)

-- bank 0 stands where it is
zero_times : (w : ℤ) → pos 0 *ℤ w ≡ pos 0
zero_times (pos n) = omega (arith, ints)
zero_times (negsuc n) = omega (arith, ints)

no_further : (x : ℤ) → x +ℤ pos 0 ≡ x
no_further x = omega (arith, ints)

pub home : (f : Floorplan) (x : ℤ) → bank_x f 0 x ≡ x
home f x = ap (λ (z : ℤ). x +ℤ z) (zero_times f.bank_width) ∙ no_further x
