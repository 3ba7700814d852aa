-- What the data of arrays means, as it is divided.
use Rattle.std.proofs.Common.{◌≡◌, inl, inr, ℕ, suc, ◌*◌, ◌-◌, ◌/◌, ◌%◌, ◌≤◌, List, [], ◌∷◌, ℤ, pos, negsuc, ◌≤ℤ◌, ◌+ℤ◌, ◌-ℤ◌, ◌*ℤ◌, true, ◌&&◌, Option, Some, None, refl, sym, ap, subst, ◌∙◌, arith, int_div, int_rem, int_le}
use Rattle.std.proofs.lemmas.Int.{ints, quot-rem}
use Rattle.std.proofs.lemmas.Bool.Decides.{Decides-int_eq}
use Rattle.std.proofs.lemmas.Bool.{and_parts}
use Rattle.std.proofs.lemmas.Option.{cond_some}
use Rattle.std.proofs.Math.IntN.{*ℤ_comm, *ℤ-zero, +ℤ_idr, neg_ℤ}
use Rattle.std.proofs.Math.Nat.{mul-mod_right, mul-div_right}
use Rattle.std.specs.Ordering.{int_eq}
use Rattle.or_geom.specs.declared.shape.Point.{Point}
use Rattle.or_geom.proofs.PlaceLaws.{origin}
use Rattle.gds_records.specs.declared.code.TheConstants.{XY}
use Rattle.gds_records.specs.Record.{is_formed}
use Rattle.gds_records.specs.Values.{Means, points_from, first_point_of, with_point}
use Rattle.gds_records.proofs.PartLaws.{IsMeaning}
use Rattle.gds_records.proofs.PointLists as lists
use Rattle.gds_library.specs.Values.{int16_in, counts_of, displaced, Lattice, IsLattice}
use Rattle.gds_library.specs.ReadElements.{three_more, two_more, one_more, three_points_of, displacement_of, step_of, with_steps, pitch_of, with_pitches, lattice_in, lattice_of}

-- a whole multiple divides
rem_none : (m k : ℕ) → 1 ≤ m → (m * k) % m ≡ 0
rem_none m k some = mul-mod_right m k

div_back : (m k : ℕ) → 1 ≤ m → (m * k) / m ≡ k
div_back m k some = mul-div_right k (omega arith)

-- the same below zero
record DividesTo (m : ℕ) (z a : ℤ) : Type 0 where
  rem : int_rem z (pos m) ≡ pos 0
  div : int_div z (pos m) ≡ a

below : (m t k j : ℕ) → t ≡ suc j → t % m ≡ 0 → t / m ≡ suc k → DividesTo m (neg_ℤ (pos t)) (negsuc k)
below m t k j is r d =
    subst (λ (s : ℕ). DividesTo m (neg_ℤ (pos s)) (negsuc k)) (sym is)
    (record {
      rem = ap (λ (n : ℕ). neg_ℤ (pos n)) (ap (λ (s : ℕ). s % m) (sym is) ∙ r);
      div = ap (λ (n : ℕ). neg_ℤ (pos n)) (ap (λ (s : ℕ). s / m) (sym is) ∙ d);
    })

divides_by : (m : ℕ) (a : ℤ) → 1 ≤ m → DividesTo m (pos m *ℤ a) a
divides_by m (pos k) some = record
    { rem = ap (λ (n : ℕ). pos n) (rem_none m k some); div = ap (λ (n : ℕ). pos n) (div_back m k some) }
divides_by m (negsuc k) some =
    let some_more : m * suc k ≡ suc (m * suc k - 1) = omega arith in
    below m (m * suc k) k (m * suc k - 1) some_more (rem_none m (suc k) some) (div_back m (suc k) some)

divides : (n a : ℤ) → pos 1 ≤ℤ n → (int_rem (n *ℤ a) n ≡ pos 0) × (int_div (n *ℤ a) n ≡ a)
divides (pos m) a some = let d = divides_by m a (omega (arith, ints, some)) in (d.rem, d.div)
divides (negsuc m) a some = absurd (omega (arith, ints, some))

step_there : (n a : ℤ) → pos 1 ≤ℤ n → step_of n (n *ℤ a) ≡ Some a
unfolding step_of
step_there n a some =
    let d = divides n a some in
    let none : int_eq (int_rem (n *ℤ a) n) (pos 0) ≡ true = (Decides-int_eq (int_rem (n *ℤ a) n) (pos 0)).1 d.0 in
    rw none (ap (λ (z : ℤ). Some z) d.1)

step_back : (n d a : ℤ) → step_of n d ≡ Some a → d ≡ n *ℤ a
unfolding step_of
step_back n d a is =
    let both = cond_some (int_eq (int_rem d n) (pos 0)) (int_div d n) a is in
    let none : int_rem d n ≡ pos 0 = (Decides-int_eq (int_rem d n) (pos 0)).0 both.0 in
    sym (quot-rem d n) ∙ ap (λ (r : ℤ). int_div d n *ℤ n +ℤ r) none ∙ +ℤ_idr (int_div d n *ℤ n)
    ∙ *ℤ_comm (int_div d n) n ∙ ap (λ (z : ℤ). n *ℤ z) both.1

both_steps : (x y : Option ℤ) (p : Point) → with_steps x y ≡ Some p → (x ≡ Some p.x) × (y ≡ Some p.y)
both_steps None y p is = absurd cc
both_steps (Some x) None p is = absurd cc
both_steps (Some x) (Some y) p is =
    let e : ◌≡◌ {A = Point} (record { x = x; y = y }) p = cc in
    (ap (λ (q : Point). Some q.x) e, ap (λ (q : Point). Some q.y) e)

moved : (a b d : ℤ) → b -ℤ a ≡ d → b ≡ a +ℤ d
moved a b d is = omega (arith, ints, is)

stays : (a d : ℤ) → (a +ℤ d) -ℤ a ≡ d
stays a d = omega (arith, ints)

pitch_back : (n : ℤ) (p q a : Point) → pitch_of n (displacement_of p q) ≡ Some a → q ≡ displaced p n a
unfolding pitch_of
pitch_back n p q a is =
    let both = both_steps (step_of n (q.x -ℤ p.x)) (step_of n (q.y -ℤ p.y)) a is in
    let x = moved p.x q.x (n *ℤ a.x) (step_back n (q.x -ℤ p.x) a.x both.0) in
    let y = moved p.y q.y (n *ℤ a.y) (step_back n (q.y -ℤ p.y) a.y both.1) in
    λ i. record { x = x i; y = y i }

pitch_there : (n : ℤ) (p a : Point) → pos 1 ≤ℤ n → pitch_of n (displacement_of p (displaced p n a)) ≡ Some a
unfolding pitch_of
pitch_there n p a some =
    let x : step_of n ((p.x +ℤ n *ℤ a.x) -ℤ p.x) ≡ Some a.x = ap (step_of n) (stays p.x (n *ℤ a.x))
    ∙ step_there n a.x some in
    let y : step_of n ((p.y +ℤ n *ℤ a.y) -ℤ p.y) ≡ Some a.y = ap (step_of n) (stays p.y (n *ℤ a.y))
    ∙ step_there n a.y some in
    λ i. with_steps (x i) (y i)

-- the three points, one after the other
third : (p q : Point) (bytes : List ℕ) (r : Option (Point × List ℕ)) (t : Point × (Point × Point))
    → first_point_of bytes ≡ r → three_more p q r ≡ Some t
    → (s : Point) × (points_from bytes ≡ Some (s ∷ [])) × ((p, (q, s)) ≡ t)
unfolding points_from
third p q bytes None t first is = absurd cc
third p q bytes (Some (s, [])) t first is = (s, (lists.one_more bytes [] s first).0, cc)
third p q bytes (Some (s, b ∷ rest)) t first is = absurd cc

second : (p : Point) (bytes : List ℕ) (r : Option (Point × List ℕ)) (t : Point × (Point × Point))
    → first_point_of bytes ≡ r → two_more p r ≡ Some t
    → (q : Point) × (s : Point) × (points_from bytes ≡ Some (q ∷ s ∷ [])) × ((p, (q, s)) ≡ t)
second p bytes None t first is = absurd cc
second p bytes (Some r) t first is =
    let h = third p r.0 r.1 (first_point_of r.1) t refl is in
    (r.0, h.0, (lists.one_more bytes r.1 r.0 first).0 ∙ ap (with_point r.0) h.1, h.2)

all_three : (bytes : List ℕ) (r : Option (Point × List ℕ)) (t : Point × (Point × Point)) → first_point_of bytes ≡ r
    → one_more r ≡ Some t
    → points_from bytes ≡ Some (t.0 ∷ t.1.0 ∷ t.1.1 ∷ [])
all_three bytes None t first is = absurd cc
all_three bytes (Some r) t first is =
    let h = second r.0 r.1 (first_point_of r.1) t refl is in
    (lists.one_more bytes r.1 r.0 first).0 ∙ ap (with_point r.0) h.2
    ∙ ap (λ (u : Point × (Point × Point)). Some (u.0 ∷ u.1.0 ∷ u.1.1 ∷ [])) h.3

three_back : (content : List ℕ) (t : Point × (Point × Point)) → three_points_of content ≡ Some t
    → points_from content ≡ Some (t.0 ∷ t.1.0 ∷ t.1.1 ∷ [])
unfolding three_points_of
three_back content t is = all_three content (first_point_of content) t refl is

no_points : (bytes : List ℕ) → first_point_of bytes ≡ None → (p : Point) (ps : List Point)
    → points_from bytes ≡ Some (p ∷ ps) → ⊥
unfolding points_from
no_points bytes none p ps is = elim (lists.nothing_more bytes none) [
  | inl off ↦ (let both : None ≡ Some (p ∷ ps) = sym off ∙ is in absurd cc)
  | inr empty ↦ (let both : Some [] ≡ Some (p ∷ ps) = ap points_from (sym empty) ∙ is in absurd cc)
]

with_point_some : (q p : Point) (ps : List Point) (read : Option (List Point)) → with_point q read ≡ Some (p ∷ ps)
    → (q ≡ p) × (read ≡ Some ps)
with_point_some q p ps None is = absurd cc
with_point_some q p ps (Some qs) is = (cc, cc)

-- the first of some points, and the others
peel : (bytes : List ℕ) (p : Point) (ps : List Point) (r : Option (Point × List ℕ)) → first_point_of bytes ≡ r
    → points_from bytes ≡ Some (p ∷ ps)
    → (rest : List ℕ) × (first_point_of bytes ≡ Some (p, rest)) × (points_from rest ≡ Some ps)
peel bytes p ps None first is = absurd (no_points bytes first p ps is)
peel bytes p ps (Some r) first is =
    let h = with_point_some r.0 p ps (points_from r.1) (sym (lists.one_more bytes r.1 r.0 first).0 ∙ is) in
    (r.1, first ∙ ap (λ (q : Point). Some (q, r.1)) h.0, h.1)

ended : (bytes : List ℕ) (r : Option (Point × List ℕ)) → first_point_of bytes ≡ r → points_from bytes ≡ Some []
    → bytes ≡ []
ended bytes None first is = elim (lists.nothing_more bytes first) [
  | inl off ↦ (let both : None ≡ Some [] = sym off ∙ is in absurd cc)
  | inr empty ↦ empty
]
ended bytes (Some r) first is = nothing_left r.0 (points_from r.1) (sym (lists.one_more bytes r.1 r.0 first).0 ∙ is) where
  nothing_left : {A : Type 0} (p : Point) (read : Option (List Point)) → with_point p read ≡ Some [] → A
  nothing_left p None e = absurd cc
  nothing_left p (Some ps) e = absurd cc

three_there : (content : List ℕ) (p q s : Point) → points_from content ≡ Some (p ∷ q ∷ s ∷ [])
    → three_points_of content ≡ Some (p, (q, s))
unfolding three_points_of
three_there content p q s is =
    let a = peel content p (q ∷ s ∷ []) (first_point_of content) refl is in
    let b = peel a.0 q (s ∷ []) (first_point_of a.0) refl a.2 in
    let c = peel b.0 s [] (first_point_of b.0) refl b.2 in
    let none : c.0 ≡ [] = ended c.0 (first_point_of c.0) refl c.2 in
    ap one_more a.1 ∙ ap (two_more p) b.1 ∙ ap (three_more p q) (c.1 ∙ ap (λ (l : List ℕ). Some (s, l)) none)

both_pitches : (p : Point) (a b : Option Point) (g : Lattice) → with_pitches p a b ≡ Some g
    → (p ≡ g.0) × (a ≡ Some g.1.0) × (b ≡ Some g.1.1)
both_pitches p None b g is = absurd cc
both_pitches p (Some a) None g is = absurd cc
both_pitches p (Some a) (Some b) g is =
    let e : ◌≡◌ {A = Lattice} (p, (a, b)) g = cc in
    (ap (λ (h : Lattice). h.0) e, ap (λ (h : Lattice). Some h.1.0) e, ap (λ (h : Lattice). Some h.1.1) e)

gives_at : (counts : ℤ × ℤ) (content : List ℕ) (g : Lattice) (t : Option (Point × (Point × Point)))
    → three_points_of content ≡ t → lattice_in counts t ≡ Some g → IsLattice counts g content
gives_at counts content g None three is = absurd cc
gives_at counts content g (Some t) three is =
    let h = both_pitches t.0 (pitch_of counts.0 (displacement_of t.0 t.1.0))
    (pitch_of counts.1 (displacement_of t.0 t.1.1)) g is in
    let across = pitch_back counts.0 t.0 t.1.0 g.1.0 h.1 in
    let down = pitch_back counts.1 t.0 t.1.1 g.1.1 h.2 in
    three_back content t three
    ∙ (λ i. Some (t.0 ∷ across i ∷ down i ∷ []))
    ∙ ap (λ (p : Point). Some (p ∷ displaced p counts.0 g.1.0 ∷ displaced p counts.1 g.1.1 ∷ [])) h.0

lattice_gives : (counts : ℤ × ℤ) (content : List ℕ) (g : Lattice) → lattice_of counts content ≡ Some g
    → IsLattice counts g content
unfolding lattice_of
lattice_gives counts content g is = gives_at counts content g (three_points_of content) refl is

lattice_only : (counts : ℤ × ℤ) → pos 1 ≤ℤ counts.0 → pos 1 ≤ℤ counts.1 → (content : List ℕ) (g : Lattice)
    → IsLattice counts g content → lattice_of counts content ≡ Some g
unfolding lattice_of
lattice_only counts columns rows content g is =
    let three = three_there content g.0 (displaced g.0 counts.0 g.1.0) (displaced g.0 counts.1 g.1.1) is in
    let across = pitch_there counts.0 g.0 g.1.0 columns in
    let down = pitch_there counts.1 g.0 g.1.1 rows in
    ap (lattice_in counts) three ∙ (λ i. with_pitches g.0 (across i) (down i))

zero_times : (n : ℤ) → pos 0 +ℤ n *ℤ pos 0 ≡ pos 0
zero_times n = ap (λ (z : ℤ). pos 0 +ℤ z) (*ℤ-zero n)

nowhere : (n : ℤ) → displaced origin n origin ≡ origin
nowhere n = λ i. record { x = zero_times n i; y = zero_times n i }

pub lattice_meaning : (counts : ℤ × ℤ) → pos 1 ≤ℤ counts.0 → pos 1 ≤ℤ counts.1
    → IsMeaning XY (IsLattice counts) (lattice_of counts)
unfolding is_formed points_from
lattice_meaning counts columns rows = record {
  gives = lattice_gives counts;
  only = lattice_only counts columns rows;
  content = 0 ∷ 0 ∷ 0 ∷ 0 ∷ 0 ∷ 0 ∷ 0 ∷ 0 ∷ 0 ∷ 0 ∷ 0 ∷ 0 ∷ 0 ∷ 0 ∷ 0 ∷ 0 ∷ 0 ∷ 0 ∷ 0 ∷ 0 ∷ 0 ∷ 0 ∷ 0 ∷ 0 ∷ [];
  x = (origin, (origin, origin));
  formed = refl;
  has = λ i. Some (origin ∷ sym (nowhere counts.0) i ∷ sym (nowhere counts.1) i ∷ []);
}

pub least_one : (z : ℤ) → int_le (pos 1) z ≡ true → pos 1 ≤ℤ z
least_one z is = grind (arith, ints)

-- there is one column or more, and one row
one_or_more : (a b c d : ℕ) (counts : ℤ × ℤ) → counts_of (a ∷ b ∷ c ∷ d ∷ []) ≡ Some counts
    → (pos 1 ≤ℤ counts.0) × (pos 1 ≤ℤ counts.1)
one_or_more a b c d counts is =
    let both = cond_some (int_le (pos 1) (int16_in a b) && int_le (pos 1) (int16_in c d)) (int16_in a b, int16_in c d)
    counts is in
    let tests = and_parts (int_le (pos 1) (int16_in a b)) (int_le (pos 1) (int16_in c d)) both.0 in
    subst (λ (n : ℤ × ℤ). (pos 1 ≤ℤ n.0) × (pos 1 ≤ℤ n.1)) both.1
    (least_one (int16_in a b) tests.0, least_one (int16_in c d) tests.1)

pub some_counts : (counts : ℤ × ℤ) (content : List ℕ) → Means counts_of counts content
    → (pos 1 ≤ℤ counts.0) × (pos 1 ≤ℤ counts.1)
some_counts counts (a ∷ b ∷ c ∷ d ∷ []) is = one_or_more a b c d counts is
some_counts counts content is = absurd cc
