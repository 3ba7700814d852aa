-- A path draws one list of boxes.
use Rattle.std.proofs.Common.{◌≡◌, ◌≢◌, ◌⊎◌, inl, inr, ℤ, ◌+ℤ◌, ◌<ℤ◌, List, [], ◌∷◌, sym, subst, ◌∙◌, arith}
use Rattle.std.proofs.lemmas.Int.{ints, by_lt_z}
use Rattle.or_geom.specs.declared.shape.Point.{Point}
use Rattle.or_geom.specs.declared.shape.Rect.{Rect}
use Rattle.or_geom.proofs.PlaceLaws.{same_rect}
use Rattle.rectilinear.specs.Ring.{side}
use Rattle.rectilinear.specs.Simple.{AllStraight, IsStraight}
use Rattle.gds_library.specs.Values.{segments, segments_from}
use Rattle.element_drawing.specs.Paths.{IsRectOf, IsRightward, IsUpward, IsSegmentBox, AreBoxesFrom, IsEnd, AreBoxes}

one_box : (left bottom right top : ℤ) (r s : Rect) → IsRectOf left bottom right top r → IsRectOf left bottom right top s → r ≡ s
one_box left bottom right top r s a b = same_rect r s (a.x1 ∙ sym b.x1) (a.y1 ∙ sym b.y1) (a.x2 ∙ sym b.x2) (a.y2 ∙ sym b.y2)

one_of_two : (a b : ℤ) → a ≢ b → (a <ℤ b) ⊎ (b <ℤ a)
one_of_two a b ne = by_lt_z a b (λ lt. inl lt) (λ ge. by_lt_z b a (λ lt. inr lt) (λ le. absurd (ne (omega (arith, ints)))))

one_segment : (half before after : ℤ) (p q : Point) (r s : Rect) → IsStraight (side p q) → IsSegmentBox half before after p q r → IsSegmentBox half before after p q s → r ≡ s
one_segment half before after p q r s straight a b =
    elim straight [
      | inl upright ↦
          elim (one_of_two p.y q.y upright.1) [
            | inl up ↦ let w : IsUpward p q = record { level = upright.0; rises = up } in one_box _ _ _ _ r s (a.up w) (b.up w)
            | inr down ↦ let w : IsUpward q p = record { level = sym upright.0; rises = down } in one_box _ _ _ _ r s (a.down w) (b.down w)
          ]
      | inr level ↦
          elim (one_of_two p.x q.x level.1) [
            | inl right ↦ let w : IsRightward p q = record { level = level.0; rises = right } in one_box _ _ _ _ r s (a.right w) (b.right w)
            | inr left ↦ let w : IsRightward q p = record { level = sym level.0; rises = left } in one_box _ _ _ _ r s (a.left w) (b.left w)
          ]
    ]

one_list : (half last before : ℤ) (p : Point) (ps : List Point) (rs ss : List Rect) → AllStraight (segments_from p ps) → AreBoxesFrom half last before p ps rs → AreBoxesFrom half last before p ps ss → rs ≡ ss
one_list half last before p [] rs ss straight a b = a ∙ sym b
one_list half last before p (q ∷ qs) [] ss straight a b = absurd a
one_list half last before p (q ∷ qs) (r ∷ rs) [] straight a b = absurd b
one_list half last before p (q ∷ []) (r ∷ rs) (s ∷ ss) straight a b =
    let first : r ≡ s = one_segment half before last p q r s straight.0 a.0 b.0 in
    let rest : rs ≡ ss = a.1 ∙ sym b.1 in
    cc
one_list half last before p (q ∷ next ∷ qs) (r ∷ rs) (s ∷ ss) straight a b =
    let first : r ≡ s = one_segment half before half p q r s straight.0 a.0 b.0 in
    let rest : rs ≡ ss = one_list half last half q (next ∷ qs) rs ss straight.1 a.1 b.1 in
    cc

one_half : (width a b : ℤ) → width ≡ a +ℤ a → width ≡ b +ℤ b → a ≡ b
one_half width a b e f = omega (arith, ints)

one_end : (kind half a b : ℤ) → IsEnd kind half a → IsEnd kind half b → a ≡ b
one_end kind half a b (inl e) (inl f) = e.1 ∙ sym f.1
one_end kind half a b (inl e) (inr f) = let both = sym e.0 ∙ f.0 in absurd (omega (arith, ints, both))
one_end kind half a b (inr e) (inl f) = let both = sym e.0 ∙ f.0 in absurd (omega (arith, ints, both))
one_end kind half a b (inr e) (inr f) = e.1 ∙ sym f.1

-- the boxes of a path of straight segments
pub one_path : (kind width : ℤ) (points : List Point) (rs ss : List Rect) → AllStraight (segments points) → AreBoxes kind width points rs → AreBoxes kind width points ss → rs ≡ ss
one_path kind width [] rs ss straight a b = a ∙ sym b
one_path kind width (p ∷ ps) rs ss straight a b =
    let halves : b.half ≡ a.half = one_half width b.half a.half b.halves a.halves in
    let ends : b.last ≡ a.last = one_end kind a.half b.last a.last (subst (λ (h : ℤ). IsEnd kind h b.last) halves b.last_is) a.last_is in
    one_list a.half a.last a.last p ps rs ss straight a.boxes
    (subst (λ (h : ℤ). AreBoxesFrom h a.last a.last p ps ss) halves (subst (λ (l : ℤ). AreBoxesFrom b.half l l p ps ss) ends b.boxes))
