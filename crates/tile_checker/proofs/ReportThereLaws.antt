-- There is a report: of a list of all that may be in it each is decided, and put into the order.
use Rattle.std.proofs.Common.{◌≡◌, ◌⊎◌, inl, inr, ℕ, zero, suc, ◌<◌, List, [], ◌∷◌, ◌++◌, length, Option, Some, None, refl, sym, ap, subst, ◌∙◌, arith, ◌↔◌, ℤ, ◌<ℤ◌}
use Rattle.std.specs.Prelude.{All, Contains, slice_get}
use Rattle.std.specs.List.{AllByRecursion}
use Rattle.std.specs.List.Sorted.{IsStrictlySortedBy}
use Rattle.std.specs.Cmp.{IsTotalOrder}
use Rattle.std.specs.Ordering.{MatchOrdering, nat_cmp, int_cmp, ordering_then, ordering_reverse}
use Rattle.std.specs.Option.{option_cmp}
use Rattle.std.specs.declared.cmp.Ordering.{Ordering}
use Rattle.std.specs.declared.cmp.Ordering.TheVariants.{Less, Equal, Greater}
use Rattle.std.proofs.lemmas.Cmp.{int_ranked, ranked, tied_itself}
use Rattle.std.proofs.lemmas.Option.{same_Some, slice_get_within}
use Rattle.std.proofs.lemmas.List.Elements.{All-contains, Contains-append_left, Contains-append_right}
use Rattle.or_geom.specs.declared.shape.Rect.{Rect}
use Rattle.or_geom.specs.declared.shape.Shape.{Shape}
use Rattle.or_geom.specs.Reachable.{AreReachable}
use Rattle.or_geom.specs.ShapeOrder.{rect_order, shape_order}
use Rattle.or_geom.proofs.ListLaws.{all_contained, below_or, contained_at, contains_cases, contains_first, contains_here, contains_later, contains_none}
use Rattle.or_geom.proofs.PlaceLaws.{same_rect}
use Rattle.or_geom.proofs.ShapeOrderLaws.{shape_total}
use Rattle.tech_rules.specs.declared.tech.Rule.{Rule}
use Rattle.tile_checker.specs.declared.violation.Violation.{Violation}
use Rattle.tile_checker.specs.Breaks.{Breaks}
use Rattle.tile_checker.specs.Minimum.{HasMinimum}
use Rattle.tile_checker.specs.OneReport.{ReportsAreThere}
use Rattle.tile_checker.specs.RuleReport.{IsLater, IsViolation, violation_order}
use Rattle.tile_checker.proofs.BreakDecisionLaws.{decide_breaks}
use Rattle.tile_checker.proofs.DecisionLaws.{Decided, decide_both}
use Rattle.tile_checker.proofs.OneReportLaws.{violation_total}
use Rattle.tile_checker.proofs.PlaceLaws.{reachable_in}

-- Things that compare as equal are one.
equal_parts : (o p : Ordering) → ordering_then o p ≡ Equal → (o ≡ Equal) × (p ≡ Equal)
equal_parts Less p e = absurd cc
equal_parts Equal p e = (refl, e)
equal_parts Greater p e = absurd cc

equal_number : (x y : ℕ) → nat_cmp x y ≡ Equal → x ≡ y
equal_number x y e = subst (λ (o : Ordering). MatchOrdering o (x < y) (x ≡ y) (y < x)) e (ranked x y (nat_cmp x y) refl)

equal_int : (x y : ℤ) → int_cmp x y ≡ Equal → x ≡ y
equal_int x y e = subst (λ (o : Ordering). MatchOrdering o (x <ℤ y) (x ≡ y) (y <ℤ x)) e (int_ranked x y (int_cmp x y) refl)

equal_rect : (r s : Rect) → rect_order r s ≡ Equal → r ≡ s
equal_rect r s e =
    let a = equal_parts (int_cmp r.x1 s.x1) _ e in
    let b = equal_parts (int_cmp r.y1 s.y1) _ a.1 in
    let c = equal_parts (int_cmp r.x2 s.x2) (int_cmp r.y2 s.y2) b.1 in
    same_rect r s (equal_int r.x1 s.x1 a.0) (equal_int r.y1 s.y1 b.0) (equal_int r.x2 s.x2 c.0) (equal_int r.y2 s.y2 c.1)

equal_shape : (s t : Shape) → shape_order s t ≡ Equal → s ≡ t
equal_shape s t e =
    let both = equal_parts (nat_cmp s.layer t.layer) (rect_order s.rect t.rect) e in
    let layer = equal_number s.layer t.layer both.0 in
    let rect = equal_rect s.rect t.rect both.1 in
    λ i. record { layer = layer i; rect = rect i }

equal_option : (s t : Option Shape) → option_cmp shape_order s t ≡ Equal → s ≡ t
equal_option None None e = refl
equal_option None (Some t) e = absurd cc
equal_option (Some s) None e = absurd cc
equal_option (Some s) (Some t) e = ap (λ (u : Shape). Some u) (equal_shape s t e)

pub equal_violation : (v w : Violation) → violation_order v w ≡ Equal → v ≡ w
equal_violation v w e =
    let a = equal_parts (nat_cmp v.rule w.rule) _ e in
    let b = equal_parts (shape_order v.first w.first) (option_cmp shape_order v.second w.second) a.1 in
    let rule = equal_number v.rule w.rule a.0 in
    let first = equal_shape v.first w.first b.0 in
    let second = equal_option v.second w.second b.1 in
    λ i. record { rule = rule i; first = first i; second = second i }

-- Whether something is a violation is decided.
decide_less : (o : Ordering) → Decided (o ≡ Less)
decide_less Less = inl refl
decide_less Equal = inr (λ e. absurd cc)
decide_less Greater = inr (λ e. absurd cc)

decide_equal : (o : Ordering) → Decided (o ≡ Equal)
decide_equal Less = inr (λ e. absurd cc)
decide_equal Equal = inl refl
decide_equal Greater = inr (λ e. absurd cc)

decide_shape : (s t : Shape) → Decided (s ≡ t)
decide_shape s t = elim (decide_equal (shape_order s t)) [
  | inl e ↦ inl (equal_shape s t e)
  | inr differ ↦ inr (λ e. differ (subst (λ (u : Shape). shape_order s u ≡ Equal) e (tied_itself shape_total s)))
]

decide_contains : (shapes : List Shape) (s : Shape) → Decided (Contains shapes s)
decide_contains [] s = inr (λ h. contains_none s h)
decide_contains (t ∷ ts) s = elim (decide_shape s t) [
  | inl e ↦ inl (contains_here t ts s e)
  | inr differ ↦ elim (decide_contains ts s) [
    | inl h ↦ inl (contains_later t ts s h)
    | inr out ↦ inr (λ h. elim (contains_cases t ts s h) [ inl e ↦ differ e | inr k ↦ out k ])
  ]
]

decide_later : (shapes : List Shape) (a : Shape) (b : Option Shape) → Decided (IsLater shapes a b)
decide_later shapes a None = inl tt
decide_later shapes a (Some b) = decide_both (Contains shapes b) (shape_order a b ≡ Less) (decide_contains shapes b) (decide_less (shape_order a b))

decide_violation : (rules : List Rule) (shapes : List Shape) (v : Violation) → All HasMinimum rules → AreReachable shapes → Decided (IsViolation rules shapes v)
decide_violation rules shapes v minimums reach = by (slice_get rules v.rule) refl
  where
    by : (o : Option Rule) → slice_get rules v.rule ≡ o → Decided (IsViolation rules shapes v)
    by None e = inr (λ w. let both : ◌≡◌ {A = Option Rule} (Some w.rule) None = sym w.numbered ∙ e in absurd cc)
    by (Some rule) e = elim (decide_contains shapes v.first) [
      | inr out ↦ inr (λ w. out w.first)
      | inl first ↦
          let minimum = All-contains HasMinimum rules rule minimums (contained_at rules v.rule rule e) in
          elim (decide_both (IsLater shapes v.first v.second) (Breaks rule shapes v.first v.second) (decide_later shapes v.first v.second) (decide_breaks rule shapes v.first v.second minimum (reachable_in shapes v.first reach first))) [
            | inl h ↦ inl (record { rule = rule; numbered = e; first = first; second = h.0; breaks = h.1 })
            | inr never ↦ inr (λ w. never (w.second, subst (λ (r : Rule). Breaks r shapes v.first v.second) (same_Some w.rule rule (sym w.numbered ∙ e)) w.breaks))
          ]
    ]

-- All possible violations of the rules before a number.
abbrev entry : ℕ → Shape → Option Shape → Violation
entry n a b = record { rule = n; first = a; second = b }

abbrev with_first : ℕ → Shape → List Shape → List Violation
with_first n a [] = entry n a None ∷ []
with_first n a (b ∷ bs) = entry n a (Some b) ∷ with_first n a bs

abbrev of_number : ℕ → List Shape → List Shape → List Violation
of_number n [] shapes = []
of_number n (a ∷ firsts) shapes = with_first n a shapes ++ of_number n firsts shapes

abbrev possible_violations : ℕ → List Shape → List Violation
possible_violations zero shapes = []
possible_violations (suc n) shapes = of_number n shapes shapes ++ possible_violations n shapes

alone_in : (n : ℕ) (a : Shape) (bs : List Shape) → Contains (with_first n a bs) (entry n a None)
alone_in n a [] = contains_first (entry n a None) []
alone_in n a (b ∷ bs) = contains_later (entry n a (Some b)) (with_first n a bs) (entry n a None) (alone_in n a bs)

pair_in : (n : ℕ) (a : Shape) (bs : List Shape) (b : Shape) → Contains bs b → Contains (with_first n a bs) (entry n a (Some b))
pair_in n a [] b h = absurd (contains_none b h)
pair_in n a (c ∷ cs) b h = elim (contains_cases c cs b h) [
  | inl e ↦ contains_here (entry n a (Some c)) (with_first n a cs) (entry n a (Some b)) (ap (λ (s : Shape). entry n a (Some s)) e)
  | inr k ↦ contains_later (entry n a (Some c)) (with_first n a cs) (entry n a (Some b)) (pair_in n a cs b k)
]

second_in : (n : ℕ) (a : Shape) (shapes : List Shape) (b : Option Shape) → IsLater shapes a b → Contains (with_first n a shapes) (entry n a b)
second_in n a shapes None later = alone_in n a shapes
second_in n a shapes (Some b) later = pair_in n a shapes b later.0

first_in : (n : ℕ) (firsts shapes : List Shape) (a : Shape) (v : Violation) → Contains firsts a → Contains (with_first n a shapes) v → Contains (of_number n firsts shapes) v
first_in n [] shapes a v h k = absurd (contains_none a h)
first_in n (c ∷ cs) shapes a v h k = elim (contains_cases c cs a h) [
  | inl e ↦ Contains-append_left (with_first n c shapes) (of_number n cs shapes) v (subst (λ (s : Shape). Contains (with_first n s shapes) v) e k)
  | inr later ↦ Contains-append_right (with_first n c shapes) (of_number n cs shapes) v (first_in n cs shapes a v later k)
]

number_in : (n : ℕ) (shapes : List Shape) (m : ℕ) (v : Violation) → m < n → Contains (of_number m shapes shapes) v → Contains (possible_violations n shapes) v
number_in zero shapes m v lt h = absurd (omega (arith, lt))
number_in (suc n) shapes m v lt h = elim (below_or m n (omega (arith, lt))) [
  | inl less ↦ Contains-append_right (of_number n shapes shapes) (possible_violations n shapes) v (number_in n shapes m v less h)
  | inr same ↦ Contains-append_left (of_number n shapes shapes) (possible_violations n shapes) v (subst (λ (k : ℕ). Contains (of_number k shapes shapes) v) same h)
]

violation_is_possible : (rules : List Rule) (shapes : List Shape) (v : Violation) → IsViolation rules shapes v → Contains (possible_violations (length rules) shapes) v
violation_is_possible rules shapes v w =
    number_in (length rules) shapes v.rule v (slice_get_within rules v.rule w.rule w.numbered)
    (first_in v.rule shapes shapes v.first v w.first (second_in v.rule v.first shapes v.second w.second))

-- A thing is put into a list in strict order.
all_by_contained : {X : Type 0} (P : X → Type 0) (xs : List X) → ((x : X) → Contains xs x → P x) → AllByRecursion P xs
all_by_contained P [] each = tt
all_by_contained P (x ∷ xs) each = (each x (contains_first x xs), all_by_contained P xs (λ y h. each y (contains_later x xs y h)))

turned : {X : Type 0} (cmp : X → X → Ordering) → IsTotalOrder cmp → (x y : X) → cmp x y ≡ Greater → cmp y x ≡ Less
turned cmp total x y e = total.antisymm y x ∙ ap ordering_reverse e

-- the list is in strict order, and has this thing and what the other list has
record IsPut {X : Type 0} (cmp : X → X → Ordering) (x : X) (ys zs : List X) : Type 0 where
  rises : IsStrictlySortedBy cmp zs
  has : (z : X) → Contains zs z ↔ ((z ≡ x) ⊎ Contains ys z)

put : {X : Type 0} (cmp : X → X → Ordering) → IsTotalOrder cmp → ((x y : X) → cmp x y ≡ Equal → x ≡ y) → (x : X) (ys : List X) → IsStrictlySortedBy cmp ys → (zs : List X) × IsPut cmp x ys zs
unfolding IsStrictlySortedBy
put {X} cmp total one x [] rises = (
  x ∷ [],
  record { rises = (tt, tt); has = λ z. (λ h. contains_cases x [] z h, λ h. elim h [ inl e ↦ contains_here x [] z e | inr k ↦ absurd (contains_none z k) ]) },
)
put {X} cmp total one x (y ∷ ys) rises = by (put cmp total one x ys rises.1) (cmp x y) refl
  where
    by : (zs : List X) × IsPut cmp x ys zs → (o : Ordering) → cmp x y ≡ o → (zs : List X) × IsPut cmp x (y ∷ ys) zs
    by rest Less e = (
      x ∷ y ∷ ys,
      record {
        rises = ((e, all_by_contained (λ z. cmp x z ≡ Less) ys (λ z h. total.trans x y z e (all_contained (λ w. cmp y w ≡ Less) ys z rises.0 h))), rises);
        has = λ z. (λ h. contains_cases x (y ∷ ys) z h, λ h. elim h [ inl is ↦ contains_here x (y ∷ ys) z is | inr k ↦ contains_later x (y ∷ ys) z k ]);
      },
    )
    by rest Equal e = (
      y ∷ ys,
      record {
        rises = rises;
        has = λ z. (λ h. inr h, λ h. elim h [ inl is ↦ contains_here y ys z (is ∙ one x y e) | inr k ↦ k ]);
      },
    )
    by rest Greater e =
        let above : (z : X) → Contains rest.0 z → cmp y z ≡ Less = λ z h. elim ((rest.1.has z).0 h) [
          | inl is ↦ subst (λ (w : X). cmp y w ≡ Less) (sym is) (turned cmp total x y e)
          | inr k ↦ all_contained (λ w. cmp y w ≡ Less) ys z rises.0 k
        ] in (
          y ∷ rest.0,
          record {
            rises = (all_by_contained (λ z. cmp y z ≡ Less) rest.0 above, rest.1.rises);
            has = λ z. (
              λ h. elim (contains_cases y rest.0 z h) [
                | inl is ↦ inr (contains_here y ys z is)
                | inr k ↦ elim ((rest.1.has z).0 k) [ inl is ↦ inl is | inr m ↦ inr (contains_later y ys z m) ]
              ],
              λ h. elim h [
                | inl is ↦ contains_later y rest.0 z ((rest.1.has z).1 (inl is))
                | inr k ↦ elim (contains_cases y ys z k) [ inl is ↦ contains_here y rest.0 z is | inr m ↦ contains_later y rest.0 z ((rest.1.has z).1 (inr m)) ]
              ],
            );
          },
        )

-- Of a list, what has P.
record IsSifted (P : Violation → Type 0) (list chosen : List Violation) : Type 0 where
  rises : IsStrictlySortedBy violation_order chosen
  has : (v : Violation) → Contains chosen v ↔ (Contains list v × P v)

sift : (P : Violation → Type 0) → ((v : Violation) → Decided (P v)) → (list : List Violation) → (chosen : List Violation) × IsSifted P list chosen
unfolding IsStrictlySortedBy
sift P decide [] = ([], record { rises = tt; has = λ v. (λ h. absurd (contains_none v h), λ h. absurd (contains_none v h.0)) })
sift P decide (c ∷ cs) =
    let rest = sift P decide cs in
    elim (decide c) [
      | inl p ↦
          let more = put violation_order violation_total equal_violation c rest.0 rest.1.rises in (
            more.0,
            record {
              rises = more.1.rises;
              has = λ v. (
                λ h. elim ((more.1.has v).0 h) [
                  | inl e ↦ (contains_here c cs v e, subst P (sym e) p)
                  | inr k ↦ let both = (rest.1.has v).0 k in (contains_later c cs v both.0, both.1)
                ],
                λ h. (more.1.has v).1 (elim (contains_cases c cs v h.0) [ inl e ↦ inl e | inr k ↦ inr ((rest.1.has v).1 (k, h.1)) ]),
              );
            },
          )
      | inr fails ↦ (
        rest.0,
        record {
          rises = rest.1.rises;
          has = λ v. (
            λ h. let both = (rest.1.has v).0 h in (contains_later c cs v both.0, both.1),
            λ h. elim (contains_cases c cs v h.0) [ inl e ↦ absurd (fails (subst P e h.1)) | inr k ↦ (rest.1.has v).1 (k, h.1) ],
          );
        },
      )
    ]

pub reports_are_there : ReportsAreThere
reports_are_there rules shapes minimums reach =
    let s = sift (IsViolation rules shapes) (λ v. decide_violation rules shapes v minimums reach) (possible_violations (length rules) shapes) in
    (s.0, record { rises = s.1.rises; only = λ v h. ((s.1.has v).0 h).1; each = λ v w. (s.1.has v).1 (violation_is_possible rules shapes v w, w) })
