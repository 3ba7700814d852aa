-- Taps, and the list of a bank's taps.
use Rattle.std.proofs.Common.{◌≡◌, ℕ, ℤ, List, [], ◌∷◌, ◌++◌, ap, ◌∙◌, append_assoc}
use Rattle.or_geom.specs.declared.place.Place.{Place}
use Rattle.wire_drawing.specs.declared.route.Tap.{Tap}
use Rattle.tech_rules.specs.declared.tech.Wire.{Wire}
use Rattle.sram_netlist.specs.InstanceList.{tabulate}
use Rattle.leaf_shapes.specs.declared.pins.LeafPin.{LeafPin}
use Rattle.macro_layout.specs.Places.{upright}
use Rattle.row_decoder.specs.RowTaps.{pin_tap}
use Rattle.bank_layout.specs.BankTaps.{choice_tap}

abbrev tap_of : ℕ → ℤ → ℤ → Tap
tap_of rail y end = record { rail = rail; y = y; end = end }

pub same_tap : (rail : ℕ) (y z e f : ℤ) → y ≡ z → e ≡ f → tap_of rail y e ≡ tap_of rail z f
same_tap rail y z e f at ends = ap (λ (u : ℤ). tap_of rail u e) at ∙ ap (λ (u : ℤ). tap_of rail z u) ends

pub leaf_tap_is : (r s : ℕ) (p : Place) (x u y v : ℤ) (pin : LeafPin) (tap : Tap) → tap ≡ pin_tap r p pin → r ≡ s → p ≡ upright x y → x ≡ u → y ≡ v → tap ≡ pin_tap s (upright u v) pin
leaf_tap_is r s p x u y v pin tap is rail place left low =
    is ∙ (ap (λ (n : ℕ). pin_tap n p pin) rail ∙ (ap (λ (q : Place). pin_tap s q pin) place ∙ (ap (λ (z : ℤ). pin_tap s (upright z y) pin) left ∙ ap (λ (z : ℤ). pin_tap s (upright u z) pin) low)))

pub taps_are : (rows one two all : List Tap) (a s b p : Tap) (count n : ℕ) (wire : Wire) (l low : ℤ) (f first : ℕ) (t track : List ℕ)
    → one ≡ rows ++ a ∷ [] → two ≡ one ++ b ∷ [] → all ≡ two ++ tabulate count (choice_tap wire l f t) → a ≡ s → b ≡ p → count ≡ n → l ≡ low → f ≡ first → t ≡ track
    → all ≡ rows ++ (s ∷ p ∷ tabulate n (choice_tap wire low first track))
taps_are rows one two all a s b p count n wire l low f first t track push_one push_two more is_s is_p counted at from on =
    let choices : List Tap = tabulate count (choice_tap wire l f t) in
    more
    ∙ (ap (λ (xs : List Tap). xs ++ choices) (push_two ∙ ap (λ (xs : List Tap). xs ++ b ∷ []) push_one)
    ∙ (ap (λ (xs : List Tap). xs ++ choices) (append_assoc rows (a ∷ []) (b ∷ []))
    ∙ (append_assoc rows (a ∷ b ∷ []) choices
    ∙ (ap (λ (x : Tap). rows ++ (x ∷ b ∷ choices)) is_s
    ∙ (ap (λ (x : Tap). rows ++ (s ∷ x ∷ choices)) is_p
    ∙ (ap (λ (k : ℕ). rows ++ (s ∷ p ∷ tabulate k (choice_tap wire l f t))) counted
    ∙ (ap (λ (z : ℤ). rows ++ (s ∷ p ∷ tabulate n (choice_tap wire z f t))) at
    ∙ (ap (λ (k : ℕ). rows ++ (s ∷ p ∷ tabulate n (choice_tap wire low k t))) from
    ∙ ap (λ (xs : List ℕ). rows ++ (s ∷ p ∷ tabulate n (choice_tap wire low first xs))) on))))))))
