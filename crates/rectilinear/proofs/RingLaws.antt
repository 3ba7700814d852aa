-- Rows of a ring.
use Rattle.std.proofs.Common.{◌≡◌, inl, inr, List, [], ◌∷◌, ℤ, ◌≤ℤ◌, ◌<ℤ◌, Bool, true, false, ◌&&◌, refl, ap, sym, ◌∙◌, arith}
use Rattle.std.specs.Prelude.{int_le}
use Rattle.std.proofs.lemmas.Int.{ints, by_lt_z}
use Rattle.or_geom.specs.declared.shape.Point.{Point}
use Rattle.rectilinear.specs.Ring.{sides_on, sides_of}
use Rattle.rectilinear.specs.Slabs.{xor, is_below, is_odd_left, HasHeight, AreNeighbours}
use Rattle.rectilinear.specs.Rows.{is_odd_passed}
use Rattle.rectilinear.specs.Laws.{RingIsClosed}

pub xor_same : (a : Bool) → xor a a ≡ false
xor_same true = refl
xor_same false = refl

xor_chain : (a b c : Bool) → xor (xor a b) (xor b c) ≡ xor a c
xor_chain true true true = refl
xor_chain true true false = refl
xor_chain true false true = refl
xor_chain true false false = refl
xor_chain false true true = refl
xor_chain false true false = refl
xor_chain false false true = refl
xor_chain false false false = refl

xor_last : (a b : Bool) → xor (xor a b) false ≡ xor a b
xor_last true true = refl
xor_last true false = refl
xor_last false true = refl
xor_last false false = refl

passed_on : (p : Point) (qs : List Point) (last : Point) (y : ℤ) → is_odd_passed (sides_on p qs last) y ≡ xor (is_below p y) (is_below last y)
passed_on p [] last y = xor_last (is_below p y) (is_below last y)
passed_on p (q ∷ qs) last y =
    ap (λ (b : Bool). xor (xor (is_below p y) (is_below q y)) b) (passed_on q qs last y) ∙ xor_chain (is_below p y) (is_below q y) (is_below last y)

pub ring_is_closed : RingIsClosed
ring_is_closed [] y = refl
ring_is_closed (p ∷ ps) y = passed_on p ps p y ∙ xor_same (is_below p y)

-- the rows y and low lie on one side of each point
abbrev AllSame : List Point → ℤ → ℤ → Type 0
AllSame [] y low = Unit {0}
AllSame (p ∷ ps) y low = (is_below p y ≡ is_below p low) × AllSame ps y low

left_on : (p : Point) (qs : List Point) (last : Point) (x y low : ℤ) → is_below p y ≡ is_below p low → AllSame qs y low → is_below last y ≡ is_below last low
    → is_odd_left (sides_on p qs last) x y ≡ is_odd_left (sides_on p qs last) x low
left_on p [] last x y low e all f = λ i. xor (xor (e i) (f i) && int_le p.x x) false
left_on p (q ∷ qs) last x y low e all f = λ i. xor (xor (e i) (all.0 i) && int_le p.x x) (left_on q qs last x y low all.0 all.1 f i)

same_below : (h low high y : ℤ) → (low <ℤ h → high ≤ℤ h) → low ≤ℤ y → y <ℤ high → int_le h y ≡ int_le h low
same_below h low high y none ge lt = by_lt_z low h
    (λ above. let far = none above in let a : int_le h y ≡ false = grind (arith, ints, far, lt) in let b : int_le h low ≡ false = grind (arith, ints, above) in a ∙ sym b)
    (λ under. let a : int_le h y ≡ true = grind (arith, ints, under, ge) in let b : int_le h low ≡ true = grind (arith, ints, under) in a ∙ sym b)

all_same : (ps : List Point) (low high y : ℤ) → ((h : ℤ) → HasHeight ps h → low <ℤ h → high ≤ℤ h) → low ≤ℤ y → y <ℤ high → AllSame ps y low
all_same [] low high y none ge lt = tt
all_same (p ∷ ps) low high y none ge lt = (same_below p.y low high y (none p.y (inl refl)) ge lt, all_same ps low high y (λ h has. none h (inr has)) ge lt)

-- between neighbouring heights all rows are as the lowest
pub row_is_uniform : (corners : List Point) (low high x y : ℤ) → AreNeighbours corners low high → low ≤ℤ y → y <ℤ high → is_odd_left (sides_of corners) x y ≡ is_odd_left (sides_of corners) x low
row_is_uniform [] low high x y near ge lt = refl
row_is_uniform (p ∷ ps) low high x y near ge lt =
    let all = all_same (p ∷ ps) low high y near.none ge lt in left_on p ps p x y low all.0 all.1 all.0
