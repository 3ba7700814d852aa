-- A role of a row of units stands in another row of such units, with what is near it.
use Rattle.std.proofs.Common.{◌≡◌, ◌⊎◌, inl, inr, ◌∙◌, ◌↔◌, ℕ, zero, suc, ◌+◌, ◌-◌, ◌<◌, ◌≤◌, ℤ, pos, ◌≤ℤ◌, List, [], ◌∷◌, ◌++◌, refl, sym, ap, subst, arith}
use Rattle.std.proofs.lemmas.Bool.{cases_lt}
use Rattle.std.proofs.lemmas.Int.{ints}
use Rattle.std.proofs.lemmas.List.{append_assoc}
use Rattle.cell_roles.specs.declared.role.Role.{Role}
use Rattle.macro_layout.specs.LayoutKit.{LayoutKit}
use Rattle.good_places.specs.Beside.{AreAtOneEdge}
use Rattle.good_places.specs.Neighbours.{role_widths, unit_copies, row_with, IsFar, HasNeighbours, AreManyAlike}
use Rattle.good_places.proofs.RowLaws.{cut, IsInFirst}

-- Numbers at one edge

pub record HasEdge (n c m : ℕ) : Type 0 where
  pub d : ℕ
  pub edge : AreAtOneEdge n c m d

edge_at : (n c m d : ℕ) → c < n → d < m → (c ≡ 0 → d ≡ 0) → (d ≡ 0 → c ≡ 0) → (c + 1 ≡ n → d + 1 ≡ m) → (d + 1 ≡ m → c + 1 ≡ n) → HasEdge n c m
edge_at n c m d a b p q r s = record { d = d; edge = record { here = a; there = b; first = (p, q); last = (r, s) } }

middle_edge : (n c m : ℕ) → 2 ≤ n → 3 ≤ m → 0 < c → c < n → HasEdge n c m
middle_edge n c m two three some lt = elim (cases_lt (c + 1) n) [
  | inl inner ↦ edge_at n c m 1 lt (omega (arith, three)) (λ e. absurd (omega (arith, e, some))) (λ e. absurd (omega (arith, e))) (λ e. absurd (omega (arith, e, inner))) (λ e. absurd (omega (arith, e, three)))
  | inr last ↦ edge_at n c m (m - 1) lt (omega (arith, three)) (λ e. absurd (omega (arith, e, some))) (λ e. absurd (omega (arith, e, three))) (λ e. omega (arith, three)) (λ e. omega (arith, lt, last))
]

pub has_edge : (n c m : ℕ) → AreManyAlike n m → c < n → HasEdge n c m
has_edge n c m (inl same) lt = edge_at n c m c lt (subst (λ (k : ℕ). c < k) same lt) (λ e. e) (λ e. e) (λ e. e ∙ same) (λ e. e ∙ sym same)
has_edge n c m (inr many) lt = elim (cases_lt 0 c) [
  | inl some ↦ middle_edge n c m many.0 many.1 some lt
  | inr none ↦ let two = many.0 in let three = many.1 in edge_at n c m 0 lt (omega (arith, three)) (λ e. refl) (λ e. omega (arith, none)) (λ e. absurd (omega (arith, e, none, two))) (λ e. absurd (omega (arith, e, three)))
]

-- Copies

pub copies_split : {X : Type 0} (unit : List X) (p q : ℕ) → unit_copies (p + q) unit ≡ unit_copies p unit ++ unit_copies q unit
copies_split unit zero q = ap (λ (n : ℕ). unit_copies n unit) (zero_more q) where
  zero_more : (q : ℕ) → 0 + q ≡ q
  zero_more q = omega arith
copies_split unit (suc p) q = ap (λ (n : ℕ). unit_copies n unit) (more p q) ∙ ap (λ (l : List _). unit ++ l) (copies_split unit p q) ∙ sym (append_assoc unit (unit_copies p unit) (unit_copies q unit)) where
  more : (p q : ℕ) → suc p + q ≡ suc (p + q)
  more p q = omega arith

append_none : {X : Type 0} (xs : List X) → xs ++ [] ≡ xs
append_none [] = refl
append_none (x ∷ xs) = ap (λ (l : List _). x ∷ l) (append_none xs)

copies_last : {X : Type 0} (unit : List X) (q : ℕ) → unit_copies (suc q) unit ≡ unit_copies q unit ++ unit
copies_last unit q = ap (λ (n : ℕ). unit_copies n unit) (one q) ∙ copies_split unit q 1 ∙ ap (λ (l : List _). unit_copies q unit ++ l) (append_none unit) where
  one : (q : ℕ) → suc q ≡ q + 1
  one q = omega arith

-- an item of copies stands in one of them
pub record IsInUnit {X : Type 0} (n : ℕ) (unit before : List X) (x : X) (after : List X) : Type 0 where
  pub q : ℕ
  pub k : ℕ
  pub inner : List X
  pub rest : List X
  pub sum : (q + 1) + k ≡ n
  pub unit_is : unit ≡ inner ++ (x ∷ rest)
  pub before_is : before ≡ unit_copies q unit ++ inner
  pub after_is : after ≡ rest ++ unit_copies k unit

not_empty : {X : Type 0} (xs ys : List X) (y : X) → [] ≡ xs ++ (y ∷ ys) → ⊥
not_empty [] ys y e = cc
not_empty (x ∷ xs) ys y e = cc

pub in_unit : {X : Type 0} (n : ℕ) (unit before after : List X) (x : X) → unit_copies n unit ≡ before ++ (x ∷ after) → IsInUnit n unit before x after
in_unit zero unit before after x e = absurd (not_empty before after x e)
in_unit (suc n) unit before after x e = elim (cut unit (unit_copies n unit) before after x e) [
  | inl h ↦ record { q = 0; k = n; inner = before; rest = h.rest; sum = omega arith; unit_is = h.is; before_is = refl; after_is = h.ends }
  | inr h ↦
      let u = in_unit n unit h.inner after x h.is in
      let s = u.sum in
      record {
        q = suc u.q;
        k = u.k;
        inner = u.inner;
        rest = u.rest;
        sum = omega (arith, s);
        unit_is = u.unit_is;
        before_is = h.begins ∙ ap (λ (l : List _). unit ++ l) u.before_is ∙ sym (append_assoc unit (unit_copies u.q unit) u.inner);
        after_is = u.after_is;
      }
]

-- What stands at one side of two rows is alike as far as it is near

widths_more : (kit : LayoutKit) (xs ys : List Role) → role_widths kit (xs ++ ys) ≡ role_widths kit xs + role_widths kit ys
widths_more kit [] ys = omega arith
widths_more kit (x ∷ xs) ys = let rest = widths_more kit xs ys in omega (arith, rest)

module _ (reach : ℤ) (kit : LayoutKit) where
  wide_left : (xs ys : List Role) → reach ≤ℤ pos (role_widths kit xs) → reach ≤ℤ pos (role_widths kit (xs ++ ys))
  wide_left xs ys le = let e = widths_more kit xs ys in omega (arith, ints, le, e)

  wide_right : (xs ys : List Role) → reach ≤ℤ pos (role_widths kit ys) → reach ≤ℤ pos (role_widths kit (xs ++ ys))
  wide_right xs ys le = let e = widths_more kit xs ys in omega (arith, ints, le, e)

  far_left : (f g xs ys : List Role) → IsFar reach kit f g xs → IsFar reach kit f g (xs ++ ys)
  far_left f g xs ys (inl none) = inl none
  far_left f g xs ys (inr wide) = inr (wide_left xs ys wide)

  far_right : (f g xs ys : List Role) → IsFar reach kit f g ys → IsFar reach kit f g (xs ++ ys)
  far_right f g xs ys (inl none) = inl none
  far_right f g xs ys (inr wide) = inr (wide_right xs ys wide)

  record AreAlikeAtLeft (one other : List Role) : Type 0 where
    pub front : List Role
    pub front2 : List Role
    pub near : List Role
    pub one_is : one ≡ front ++ near
    pub other_is : other ≡ front2 ++ near
    pub far : IsFar reach kit front front2 near

  record AreAlikeAtRight (one other : List Role) : Type 0 where
    pub back : List Role
    pub back2 : List Role
    pub near : List Role
    pub one_is : one ≡ near ++ back
    pub other_is : other ≡ near ++ back2
    pub far : IsFar reach kit back back2 near

  same_left : (xs : List Role) → AreAlikeAtLeft xs xs
  same_left xs = record { front = []; front2 = []; near = xs; one_is = refl; other_is = refl; far = inl (refl, refl) }

  same_right : (xs : List Role) → AreAlikeAtRight xs xs
  same_right xs = record { back = []; back2 = []; near = xs; one_is = sym (append_none xs); other_is = sym (append_none xs); far = inl (refl, refl) }

  left_more : (one other xs : List Role) → AreAlikeAtLeft one other → AreAlikeAtLeft (one ++ xs) (other ++ xs)
  left_more one other xs a = record {
    front = a.front;
    front2 = a.front2;
    near = a.near ++ xs;
    one_is = ap (λ (l : List Role). l ++ xs) a.one_is ∙ append_assoc a.front a.near xs;
    other_is = ap (λ (l : List Role). l ++ xs) a.other_is ∙ append_assoc a.front2 a.near xs;
    far = far_left a.front a.front2 a.near xs a.far;
  }

  right_more : (one other xs : List Role) → AreAlikeAtRight one other → AreAlikeAtRight (xs ++ one) (xs ++ other)
  right_more one other xs a = record {
    back = a.back;
    back2 = a.back2;
    near = xs ++ a.near;
    one_is = ap (λ (l : List Role). xs ++ l) a.one_is ∙ sym (append_assoc xs a.near a.back);
    other_is = ap (λ (l : List Role). xs ++ l) a.other_is ∙ sym (append_assoc xs a.near a.back2);
    far = far_right a.back a.back2 xs a.near a.far;
  }

  -- units in front, or behind
  left_units : (xs ys unit : List Role) (q p : ℕ) → reach ≤ℤ pos (role_widths kit unit) → 0 < q → 0 < p → AreAlikeAtLeft (xs ++ unit_copies q unit) (ys ++ unit_copies p unit)
  left_units xs ys unit zero p wide a b = absurd (omega (arith, a))
  left_units xs ys unit (suc q) zero wide a b = absurd (omega (arith, b))
  left_units xs ys unit (suc q) (suc p) wide a b = record {
    front = xs ++ unit_copies q unit;
    front2 = ys ++ unit_copies p unit;
    near = unit;
    one_is = ap (λ (l : List Role). xs ++ l) (copies_last unit q) ∙ sym (append_assoc xs (unit_copies q unit) unit);
    other_is = ap (λ (l : List Role). ys ++ l) (copies_last unit p) ∙ sym (append_assoc ys (unit_copies p unit) unit);
    far = inr wide;
  }

  right_units : (xs ys unit : List Role) (q p : ℕ) → reach ≤ℤ pos (role_widths kit unit) → 0 < q → 0 < p → AreAlikeAtRight (unit_copies q unit ++ xs) (unit_copies p unit ++ ys)
  right_units xs ys unit zero p wide a b = absurd (omega (arith, a))
  right_units xs ys unit (suc q) zero wide a b = absurd (omega (arith, b))
  right_units xs ys unit (suc q) (suc p) wide a b = record {
    back = unit_copies q unit ++ xs;
    back2 = unit_copies p unit ++ ys;
    near = unit;
    one_is = append_assoc unit (unit_copies q unit) xs;
    other_is = append_assoc unit (unit_copies p unit) ys;
    far = inr wide;
  }

  regroup : (front near before behind back : List Role) (r : Role) → (front ++ near) ++ ((before ++ (r ∷ behind)) ++ back) ≡ front ++ ((near ++ before) ++ (r ∷ (behind ++ back)))
  regroup front near before behind back r = append_assoc front near ((before ++ (r ∷ behind)) ++ back)
      ∙ ap (λ (l : List Role). front ++ (near ++ l)) (append_assoc before (r ∷ behind) back) ∙ ap (λ (l : List Role). front ++ l) (sym (append_assoc near before (r ∷ (behind ++ back))))

  -- a role of a middle that both rows have
  in_middle : (one other before behind more more2 : List Role) (r : Role) → AreAlikeAtLeft one other → AreAlikeAtRight more more2 → HasNeighbours reach kit (one ++ before) r (behind ++ more) (other ++ ((before ++ (r ∷ behind)) ++ more2))
  in_middle one other before behind more more2 r l e = record {
    front = l.front;
    near = l.near ++ before;
    behind = behind ++ e.near;
    back = e.back;
    front2 = l.front2;
    back2 = e.back2;
    before_is = ap (λ (x : List Role). x ++ before) l.one_is ∙ append_assoc l.front l.near before;
    after_is = ap (λ (x : List Role). behind ++ x) e.one_is ∙ sym (append_assoc behind e.near e.back);
    other_is = ap (λ (x : List Role). x ++ ((before ++ (r ∷ behind)) ++ more2)) l.other_is ∙ regroup l.front2 l.near before behind more2 r
        ∙ ap (λ (x : List Role). l.front2 ++ ((l.near ++ before) ++ (r ∷ (behind ++ x)))) e.other_is ∙ ap (λ (x : List Role). l.front2 ++ ((l.near ++ before) ++ (r ∷ x))) (sym (append_assoc behind e.near e.back2))
        ∙ ap (λ (x : List Role). l.front2 ++ x) (sym (append_assoc (l.near ++ before) (r ∷ (behind ++ e.near)) e.back2));
    left = far_left l.front l.front2 l.near before l.far;
    right = far_right e.back e.back2 behind e.near e.far;
  }

  -- units in the middle: a role of one of so many, and of so many others
  in_units : (one other unit before after more more2 : List Role) (n m : ℕ) (r : Role) → AreManyAlike n m → (n ≡ m) ⊎ (reach ≤ℤ pos (role_widths kit unit)) → AreAlikeAtLeft one other → AreAlikeAtRight more more2 → unit_copies n unit ≡ before ++ (r ∷ after)
      → HasNeighbours reach kit (one ++ before) r (after ++ more) (other ++ (unit_copies m unit ++ more2))
  in_units one other unit before after more more2 n m r many wide l e is = at (in_unit n unit before after r is) where
    put : (u : IsInUnit n unit before r after) (p j : ℕ) → (p + 1) + j ≡ m → AreAlikeAtLeft (one ++ unit_copies u.q unit) (other ++ unit_copies p unit) → AreAlikeAtRight (unit_copies u.k unit ++ more) (unit_copies j unit ++ more2) → HasNeighbours reach kit (one ++ before) r (after ++ more) (other ++ (unit_copies m unit ++ more2))
    put u p j sum left right =
        let h = in_middle (one ++ unit_copies u.q unit) (other ++ unit_copies p unit) u.inner u.rest (unit_copies u.k unit ++ more) (unit_copies j unit ++ more2) r left right in
        let a : (one ++ unit_copies u.q unit) ++ u.inner ≡ one ++ before = append_assoc one (unit_copies u.q unit) u.inner ∙ ap (λ (x : List Role). one ++ x) (sym u.before_is) in
        let b : u.rest ++ (unit_copies u.k unit ++ more) ≡ after ++ more = sym (append_assoc u.rest (unit_copies u.k unit) more) ∙ ap (λ (x : List Role). x ++ more) (sym u.after_is) in
        let c : (other ++ unit_copies p unit) ++ ((u.inner ++ (r ∷ u.rest)) ++ (unit_copies j unit ++ more2)) ≡ other ++ (unit_copies m unit ++ more2) =
        ap (λ (x : List Role). (other ++ unit_copies p unit) ++ (x ++ (unit_copies j unit ++ more2))) (sym u.unit_is) ∙ append_assoc other (unit_copies p unit) (unit ++ (unit_copies j unit ++ more2))
        ∙ ap (λ (x : List Role). other ++ (unit_copies p unit ++ x)) (sym (append_assoc unit (unit_copies j unit) more2)) ∙ ap (λ (x : List Role). other ++ x) (sym (append_assoc (unit_copies p unit) (unit_copies (suc j) unit) more2))
        ∙ ap (λ (x : List Role). other ++ (x ++ more2)) (sym (copies_split unit p (suc j))) ∙ ap (λ (k : ℕ). other ++ (unit_copies k unit ++ more2)) (next p j m sum) in
        subst (λ (x : List Role). HasNeighbours reach kit x r (after ++ more) (other ++ (unit_copies m unit ++ more2))) a
        (subst (λ (x : List Role). HasNeighbours reach kit ((one ++ unit_copies u.q unit) ++ u.inner) r x (other ++ (unit_copies m unit ++ more2))) b (subst (λ (x : List Role). HasNeighbours reach kit ((one ++ unit_copies u.q unit) ++ u.inner) r (u.rest ++ (unit_copies u.k unit ++ more)) x) c h))
      where
        next : (p j m : ℕ) → (p + 1) + j ≡ m → p + suc j ≡ m
        next p j m e = omega (arith, e)

    as_many : (u : IsInUnit n unit before r after) → n ≡ m → HasNeighbours reach kit (one ++ before) r (after ++ more) (other ++ (unit_copies m unit ++ more2))
    as_many u same = put u u.q u.k (u.sum ∙ same) (left_more one other (unit_copies u.q unit) l) (right_more more more2 (unit_copies u.k unit) e)

    no_copies : (k : ℕ) (xs : List Role) → k ≡ 0 → xs ++ unit_copies k unit ≡ xs
    no_copies k xs z = ap (λ (j : ℕ). xs ++ unit_copies j unit) z ∙ append_none xs

    none_before : (k : ℕ) (xs : List Role) → k ≡ 0 → unit_copies k unit ++ xs ≡ xs
    none_before k xs z = ap (λ (j : ℕ). unit_copies j unit ++ xs) z

    at_left : (q p : ℕ) → ((q ≡ 0) ↔ (p ≡ 0)) → reach ≤ℤ pos (role_widths kit unit) → AreAlikeAtLeft (one ++ unit_copies q unit) (other ++ unit_copies p unit)
    at_left q p same w = elim (cases_lt 0 q) [
      | inl some ↦ elim (cases_lt 0 p) [
        | inl more ↦ left_units one other unit q p w some more
        | inr none ↦ let z = same.1 (omega (arith, none)) in absurd (omega (arith, z, some))
      ]
      | inr none ↦
          let zq : q ≡ 0 = omega (arith, none) in
          let zp = same.0 zq in
          subst (λ (x : List Role). AreAlikeAtLeft x (other ++ unit_copies p unit)) (sym (no_copies q one zq)) (subst (λ (x : List Role). AreAlikeAtLeft one x) (sym (no_copies p other zp)) l)
    ]

    at_right : (q p : ℕ) → ((q ≡ 0) ↔ (p ≡ 0)) → reach ≤ℤ pos (role_widths kit unit) → AreAlikeAtRight (unit_copies q unit ++ more) (unit_copies p unit ++ more2)
    at_right q p same w = elim (cases_lt 0 q) [
      | inl some ↦ elim (cases_lt 0 p) [
        | inl many ↦ right_units more more2 unit q p w some many
        | inr none ↦ let z = same.1 (omega (arith, none)) in absurd (omega (arith, z, some))
      ]
      | inr none ↦
          let zq : q ≡ 0 = omega (arith, none) in
          let zp = same.0 zq in
          subst (λ (x : List Role). AreAlikeAtRight x (unit_copies p unit ++ more2)) (sym (none_before q more zq)) (subst (λ (x : List Role). AreAlikeAtRight more x) (sym (none_before p more2 zp)) e)
    ]

    at : IsInUnit n unit before r after → HasNeighbours reach kit (one ++ before) r (after ++ more) (other ++ (unit_copies m unit ++ more2))
    at u = elim wide [
      | inl same ↦ as_many u same
      | inr w ↦
          let s = u.sum in
          let h = has_edge n u.q m many (omega (arith, s)) in
          let t = h.edge.there in
          put u h.d (m - (h.d + 1)) (omega (arith, t)) (at_left u.q h.d h.edge.first w)
          (at_right u.k (m - (h.d + 1)) (λ z. let l = h.edge.last.0 (omega (arith, s, z)) in omega (arith, l), λ z. let l = h.edge.last.1 (omega (arith, t, z)) in omega (arith, s, l)) w)
    ]

  -- units are as many, or there are some in both and they are wide
  abbrev pub IsWideUnit : List Role → ℕ → ℕ → Type 0
  IsWideUnit unit n m = (n ≡ m) ⊎ ((reach ≤ℤ pos (role_widths kit unit)) × ((0 < n) × (0 < m)))

  width_or : (unit : List Role) (n m : ℕ) → IsWideUnit unit n m → (n ≡ m) ⊎ (reach ≤ℤ pos (role_widths kit unit))
  width_or unit n m (inl same) = inl same
  width_or unit n m (inr w) = inr w.0

  units_right : (unit xs ys : List Role) (n m : ℕ) → IsWideUnit unit n m → AreAlikeAtRight xs ys → AreAlikeAtRight (unit_copies n unit ++ xs) (unit_copies m unit ++ ys)
  units_right unit xs ys n m (inl same) a = subst (λ (k : ℕ). AreAlikeAtRight (unit_copies n unit ++ xs) (unit_copies k unit ++ ys)) same (right_more xs ys (unit_copies n unit) a)
  units_right unit xs ys n m (inr w) a = right_units xs ys unit n m w.0 w.1.0 w.1.1

  units_left : (unit xs ys : List Role) (n m : ℕ) → IsWideUnit unit n m → AreAlikeAtLeft xs ys → AreAlikeAtLeft (xs ++ unit_copies n unit) (ys ++ unit_copies m unit)
  units_left unit xs ys n m (inl same) a = subst (λ (k : ℕ). AreAlikeAtLeft (xs ++ unit_copies n unit) (ys ++ unit_copies k unit)) same (left_more xs ys (unit_copies n unit) a)
  units_left unit xs ys n m (inr w) a = left_units xs ys unit n m w.0 w.1.0 w.1.1

  last_units : (unit : List Role) (n m : ℕ) → IsWideUnit unit n m → AreAlikeAtRight (unit_copies n unit) (unit_copies m unit)
  last_units unit n m w = subst (λ (x : List Role). AreAlikeAtRight x (unit_copies m unit)) (append_none (unit_copies n unit)) (subst (λ (x : List Role). AreAlikeAtRight (unit_copies n unit ++ []) x) (append_none (unit_copies m unit)) (units_right unit [] [] n m w (same_right [])))

  -- A role of a row of units stands in another, with what is near it.
  pub row_neighbours : (begin unit middle other : List Role) (n n2 m m2 : ℕ) (before after : List Role) (r : Role) → AreManyAlike n n2 → AreManyAlike m m2 → IsWideUnit unit n n2 → IsWideUnit other m m2 → row_with begin n unit middle m other ≡ before ++ (r ∷ after)
      → HasNeighbours reach kit before r after (row_with begin n2 unit middle m2 other)
  row_neighbours begin unit middle other n n2 m m2 before after r many many2 wide wide2 is = elim (cut begin (unit_copies n unit ++ (middle ++ unit_copies m other)) before after r is) [
    | inl h ↦ from_begin h
    | inr h ↦ elim (cut (unit_copies n unit) (middle ++ unit_copies m other) h.inner after r h.is) [
      | inl k ↦
          let u = in_units begin begin unit h.inner k.rest (middle ++ unit_copies m other) (middle ++ unit_copies m2 other) n n2 r many (width_or unit n n2 wide) (same_left begin) tail k.is in
          subst (λ (x : List Role). HasNeighbours reach kit x r after (row_with begin n2 unit middle m2 other)) (sym h.begins) (subst (λ (x : List Role). HasNeighbours reach kit (begin ++ h.inner) r x (row_with begin n2 unit middle m2 other)) (sym k.ends) u)
      | inr k ↦ elim (cut middle (unit_copies m other) k.inner after r k.is) [
        | inl j ↦
            let u = in_middle (begin ++ unit_copies n unit) (begin ++ unit_copies n2 unit) k.inner j.rest (unit_copies m other) (unit_copies m2 other) r (units_left unit begin begin n n2 wide (same_left begin)) (last_units other m m2 wide2) in
            let a : (begin ++ unit_copies n unit) ++ k.inner ≡ before = append_assoc begin (unit_copies n unit) k.inner ∙ ap (λ (x : List Role). begin ++ x) (sym k.begins) ∙ sym h.begins in
            let c : (begin ++ unit_copies n2 unit) ++ ((k.inner ++ (r ∷ j.rest)) ++ unit_copies m2 other) ≡ (row_with begin n2 unit middle m2 other) = ap (λ (x : List Role). (begin ++ unit_copies n2 unit) ++ (x ++ unit_copies m2 other)) (sym j.is) ∙ append_assoc begin (unit_copies n2 unit) (middle ++ unit_copies m2 other) in
            subst (λ (x : List Role). HasNeighbours reach kit x r after (row_with begin n2 unit middle m2 other)) a (subst (λ (x : List Role). HasNeighbours reach kit ((begin ++ unit_copies n unit) ++ k.inner) r x (row_with begin n2 unit middle m2 other)) (sym j.ends) (subst (λ (x : List Role). HasNeighbours reach kit ((begin ++ unit_copies n unit) ++ k.inner) r (j.rest ++ unit_copies m other) x) c u))
        | inr j ↦
            let u = in_units ((begin ++ unit_copies n unit) ++ middle) ((begin ++ unit_copies n2 unit) ++ middle) other j.inner after [] [] m m2 r many2 (width_or other m m2 wide2) (left_more (begin ++ unit_copies n unit) (begin ++ unit_copies n2 unit) middle (units_left unit begin begin n n2 wide (same_left begin))) (same_right []) j.is in
            let a : ((begin ++ unit_copies n unit) ++ middle) ++ j.inner ≡ before =
            append_assoc (begin ++ unit_copies n unit) middle j.inner ∙ append_assoc begin (unit_copies n unit) (middle ++ j.inner) ∙ ap (λ (x : List Role). begin ++ (unit_copies n unit ++ x)) (sym j.begins) ∙ ap (λ (x : List Role). begin ++ x) (sym k.begins) ∙ sym h.begins in
            let c : ((begin ++ unit_copies n2 unit) ++ middle) ++ (unit_copies m2 other ++ []) ≡ (row_with begin n2 unit middle m2 other) = ap (λ (x : List Role). ((begin ++ unit_copies n2 unit) ++ middle) ++ x) (append_none (unit_copies m2 other)) ∙ append_assoc (begin ++ unit_copies n2 unit) middle (unit_copies m2 other) ∙ append_assoc begin (unit_copies n2 unit) (middle ++ unit_copies m2 other) in
            subst (λ (x : List Role). HasNeighbours reach kit x r after (row_with begin n2 unit middle m2 other)) a
            (subst (λ (x : List Role). HasNeighbours reach kit (((begin ++ unit_copies n unit) ++ middle) ++ j.inner) r x (row_with begin n2 unit middle m2 other)) (append_none after) (subst (λ (x : List Role). HasNeighbours reach kit (((begin ++ unit_copies n unit) ++ middle) ++ j.inner) r (after ++ []) x) c u))
      ]
    ]
  ]
    where
      tail : AreAlikeAtRight (middle ++ unit_copies m other) (middle ++ unit_copies m2 other)
      tail = right_more (unit_copies m other) (unit_copies m2 other) middle (last_units other m m2 wide2)

      from_begin : IsInFirst begin (unit_copies n unit ++ (middle ++ unit_copies m other)) before r after → HasNeighbours reach kit before r after (row_with begin n2 unit middle m2 other)
      from_begin h =
          let u = in_middle [] [] before h.rest (unit_copies n unit ++ (middle ++ unit_copies m other)) (unit_copies n2 unit ++ (middle ++ unit_copies m2 other)) r (same_left []) (units_right unit (middle ++ unit_copies m other) (middle ++ unit_copies m2 other) n n2 wide tail) in
          subst (λ (x : List Role). HasNeighbours reach kit before r x (row_with begin n2 unit middle m2 other)) (sym h.ends)
          (subst (λ (x : List Role). HasNeighbours reach kit before r (h.rest ++ (unit_copies n unit ++ (middle ++ unit_copies m other))) (x ++ (unit_copies n2 unit ++ (middle ++ unit_copies m2 other)))) (sym h.is) u)
