-- Two boxes are joined exactly where they overlap in one direction and aren't apart in the other.
use Rattle.std.proofs.Common.{◌≡◌, ◌≢◌, ◌⊎◌, inl, inr, ◌≤ℤ◌, ◌<ℤ◌, ◌↔◌, IsTrue, ap, refl, arith}
use Rattle.std.specs.Int.{int_max, int_min}
use Rattle.std.proofs.lemmas.Int.{ints, clamps}
use Rattle.or_geom.specs.declared.shape.Point.{Point}
use Rattle.or_geom.specs.declared.shape.Rect.{Rect}
use Rattle.or_geom.specs.declared.contact.Contact.{Contact}
use Rattle.or_geom.specs.declared.contact.Contact.TheVariants.{Apart, Touching, Overlapping}
use Rattle.or_geom.specs.Joined.{AreJoined}
use Rattle.or_geom.specs.Contact.{IsContact, is_joint_of}
use Rattle.or_geom.specs.Span.{across, upward}
use Rattle.or_geom.proofs.PlaceLaws.{same_point}

-- the corners of what two boxes have in common
abbrev low_corner : Rect → Rect → Point
low_corner a b = record { x = int_max a.x1 b.x1; y = int_max a.y1 b.y1 }

abbrev high_corner : Rect → Rect → Point
high_corner a b = record { x = int_min a.x2 b.x2; y = int_min a.y2 b.y2 }

-- neither side passes the other
record Meet (a b : Rect) : Type 0 where
  pub left : a.x1 ≤ℤ b.x2
  pub right : b.x1 ≤ℤ a.x2
  pub low : a.y1 ≤ℤ b.y2
  pub high : b.y1 ≤ℤ a.y2

corners_join : (a b : Rect) → Meet a b → low_corner a b ≢ high_corner a b → AreJoined a b
corners_join a b m differ =
    let wide_a : a.x1 <ℤ a.x2 = a.wide in
    let tall_a : a.y1 <ℤ a.y2 = a.tall in
    let wide_b : b.x1 <ℤ b.x2 = b.wide in
    let tall_b : b.y1 <ℤ b.y2 = b.tall in
    record {
      p = low_corner a b;
      q = high_corner a b;
      differ = differ;
      p_in_a = record { left = omega (arith, ints, clamps); right = omega (arith, ints, clamps); low = omega (arith, ints, clamps); high = omega (arith, ints, clamps) };
      p_in_b = record { left = omega (arith, ints, clamps); right = omega (arith, ints, clamps); low = omega (arith, ints, clamps); high = omega (arith, ints, clamps) };
      q_in_a = record { left = omega (arith, ints, clamps); right = omega (arith, ints, clamps); low = omega (arith, ints, clamps); high = omega (arith, ints, clamps) };
      q_in_b = record { left = omega (arith, ints, clamps); right = omega (arith, ints, clamps); low = omega (arith, ints, clamps); high = omega (arith, ints, clamps) };
    }

-- an overlap in x
overlap_x : (a b : Rect) → Meet a b → (a.x1 <ℤ b.x2) × (b.x1 <ℤ a.x2) → AreJoined a b
overlap_x a b m over =
    let wide_a : a.x1 <ℤ a.x2 = a.wide in
    let wide_b : b.x1 <ℤ b.x2 = b.wide in
    corners_join a b m (λ e. let x : int_max a.x1 b.x1 ≡ int_min a.x2 b.x2 = ap (λ (p : Point). p.x) e in omega (arith, ints, clamps))

-- an overlap in y
overlap_y : (a b : Rect) → Meet a b → (a.y1 <ℤ b.y2) × (b.y1 <ℤ a.y2) → AreJoined a b
overlap_y a b m over =
    let tall_a : a.y1 <ℤ a.y2 = a.tall in
    let tall_b : b.y1 <ℤ b.y2 = b.tall in
    corners_join a b m (λ e. let y : int_max a.y1 b.y1 ≡ int_min a.y2 b.y2 = ap (λ (p : Point). p.y) e in omega (arith, ints, clamps))

-- boxes that are joined aren't apart
joined_meet : (a b : Rect) → AreJoined a b → Meet a b
joined_meet a b j = record { left = omega (arith, ints); right = omega (arith, ints); low = omega (arith, ints); high = omega (arith, ints) }

-- nor do they touch in both directions
joined_not_corner : (a b : Rect) → AreJoined a b → (a.x2 ≡ b.x1) ⊎ (b.x2 ≡ a.x1) → (a.y2 ≡ b.y1) ⊎ (b.y2 ≡ a.y1) → ⊥
joined_not_corner a b j x y =
    let wide_a : a.x1 <ℤ a.x2 = a.wide in
    let wide_b : b.x1 <ℤ b.x2 = b.wide in
    let tall_a : a.y1 <ℤ a.y2 = a.tall in
    let tall_b : b.y1 <ℤ b.y2 = b.tall in
    let same_x : j.p.x ≡ j.q.x = elim x [ inl e ↦ omega (arith, ints) | inr e ↦ omega (arith, ints) ] in
    let same_y : j.p.y ≡ j.q.y = elim y [ inl e ↦ omega (arith, ints) | inr e ↦ omega (arith, ints) ] in
    j.differ (same_point j.p j.q same_x same_y)

touch_meet : (a b : Rect) → (a.x2 ≡ b.x1) ⊎ (b.x2 ≡ a.x1) → (a.y1 <ℤ b.y2) × (b.y1 <ℤ a.y2) → Meet a b
touch_meet a b (inl e) over =
    let wide_a : a.x1 <ℤ a.x2 = a.wide in
    let wide_b : b.x1 <ℤ b.x2 = b.wide in
    record { left = omega (arith, ints); right = omega (arith, ints); low = omega (arith, ints); high = omega (arith, ints) }
touch_meet a b (inr e) over =
    let wide_a : a.x1 <ℤ a.x2 = a.wide in
    let wide_b : b.x1 <ℤ b.x2 = b.wide in
    record { left = omega (arith, ints); right = omega (arith, ints); low = omega (arith, ints); high = omega (arith, ints) }

meet_touch : (a b : Rect) → (a.x1 <ℤ b.x2) × (b.x1 <ℤ a.x2) → (a.y2 ≡ b.y1) ⊎ (b.y2 ≡ a.y1) → Meet a b
meet_touch a b over (inl e) =
    let tall_a : a.y1 <ℤ a.y2 = a.tall in
    let tall_b : b.y1 <ℤ b.y2 = b.tall in
    record { left = omega (arith, ints); right = omega (arith, ints); low = omega (arith, ints); high = omega (arith, ints) }
meet_touch a b over (inr e) =
    let tall_a : a.y1 <ℤ a.y2 = a.tall in
    let tall_b : b.y1 <ℤ b.y2 = b.tall in
    record { left = omega (arith, ints); right = omega (arith, ints); low = omega (arith, ints); high = omega (arith, ints) }

pub is_joint_law : (x y : Contact) (a b : Rect) → IsContact x (across a) (across b) → IsContact y (upward a) (upward b) → IsTrue (is_joint_of x y) ↔ AreJoined a b
is_joint_law Apart y a b in_x in_y =
    (λ no. absurd cc, λ j. let m = joined_meet a b j in elim in_x [ inl e ↦ absurd (omega (arith, ints)) | inr e ↦ absurd (omega (arith, ints)) ])
is_joint_law Touching Apart a b in_x in_y =
    (λ no. absurd cc, λ j. let m = joined_meet a b j in elim in_y [ inl e ↦ absurd (omega (arith, ints)) | inr e ↦ absurd (omega (arith, ints)) ])
is_joint_law Touching Touching a b in_x in_y = (λ no. absurd cc, λ j. absurd (joined_not_corner a b j in_x in_y))
is_joint_law Touching Overlapping a b in_x in_y =
    (λ yes. overlap_y a b (elim in_x [ inl e ↦ touch_meet a b (inl e) in_y | inr e ↦ touch_meet a b (inr e) in_y ]) in_y, λ j. refl)
is_joint_law Overlapping Apart a b in_x in_y =
    (λ no. absurd cc, λ j. let m = joined_meet a b j in elim in_y [ inl e ↦ absurd (omega (arith, ints)) | inr e ↦ absurd (omega (arith, ints)) ])
is_joint_law Overlapping Touching a b in_x in_y = (λ yes. overlap_x a b (meet_touch a b in_x in_y) in_x, λ j. refl)
is_joint_law Overlapping Overlapping a b in_x in_y =
    (λ yes. overlap_x a b (record { left = omega (arith, ints, in_x.0); right = omega (arith, ints, in_x.1); low = omega (arith, ints, in_y.0); high = omega (arith, ints, in_y.1) }) in_x, λ j. refl)
