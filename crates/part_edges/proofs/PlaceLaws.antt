-- The first port of a name.
use Rattle.std.proofs.Common.{◌≡◌, ℕ, zero, suc, ◌+◌, ◌<◌, List, [], ◌∷◌, Bool, true, false, Some, length, map, get_or, not, cond, refl, ap, sym, ◌∙◌, arith}
use Rattle.std.specs.Prelude.{◌≢◌, ◌↔◌, slice_get, IsTrue}
use Rattle.std.specs.Str.{bytes_eq}
use Rattle.std.proofs.lemmas.Option.{same_Some, slice_get_within}
use Rattle.std.proofs.lemmas.Slice.Eq.{bytes_eq-Decides}
use Rattle.part_edges.specs.PartPins.{port_place}

other_name : (m pin : List ℕ) → m ≢ pin → bytes_eq m pin ≡ false
other_name m pin differ = by (bytes_eq m pin) refl where
  by : (t : Bool) → bytes_eq m pin ≡ t → t ≡ false
  by true is = absurd (differ ((bytes_eq-Decides m pin).0 is))
  by false is = refl

-- what stands at a place of a list that is mapped
pub mapped_there : {X Y : Type 0} (f : X → Y) (xs : List X) (k : ℕ) (d : X) → k < length xs → slice_get (map f xs) k ≡ Some (f (get_or xs k d))
mapped_there f [] k d lt = absurd (omega (arith, lt))
mapped_there f (x ∷ xs) zero d lt = refl
mapped_there f (x ∷ xs) (suc k) d lt = mapped_there f xs k d (omega (arith, lt))

-- whether the name there is this one
pub named_there : (found : Bool) (there : List (List ℕ)) (place : ℕ) (name pin : List ℕ) → found ≡ bytes_eq name pin → slice_get there place ≡ Some name → IsTrue found ↔ (slice_get there place ≡ Some pin)
named_there found there place name pin tested at = (
  λ holds. at ∙ ap Some ((bytes_eq-Decides name pin).0 (sym tested ∙ holds)),
  λ same. tested ∙ (bytes_eq-Decides name pin).1 (same_Some name pin (sym at ∙ same)),
)

one_more : (n m : ℕ) → n ≡ m → 1 + n ≡ suc m
one_more n m is = omega (arith, is)

-- no port before the place has the name, and the one there has
pub first_there : (ports : List (List ℕ)) (pin : List ℕ) (place : ℕ) → ((k : ℕ) → k < place → slice_get ports k ≢ Some pin) → slice_get ports place ≡ Some pin → port_place ports pin ≡ place
first_there [] pin place before there = let within = slice_get_within [] place pin there in absurd (omega (arith, within))
first_there (p ∷ ps) pin zero before there = ap (λ (t : Bool). cond (not t) (1 + port_place ps pin) 0) ((bytes_eq-Decides p pin).1 (same_Some p pin there))
first_there (p ∷ ps) pin (suc place) before there =
    ap (λ (t : Bool). cond (not t) (1 + port_place ps pin) 0) (other_name p pin (λ e. before 0 (omega arith) (ap Some e)))
    ∙ one_more _ _ (first_there ps pin place (λ k lt e. before (suc k) (omega (arith, lt)) e) there)

-- no port has it
pub none_there : (ports : List (List ℕ)) (pin : List ℕ) → ((k : ℕ) → k < length ports → slice_get ports k ≢ Some pin) → port_place ports pin ≡ length ports
none_there [] pin none = refl
none_there (p ∷ ps) pin none =
    ap (λ (t : Bool). cond (not t) (1 + port_place ps pin) 0) (other_name p pin (λ e. none 0 (omega arith) (ap Some e)))
    ∙ one_more _ _ (none_there ps pin (λ k lt e. none (suc k) (omega (arith, lt)) e))
