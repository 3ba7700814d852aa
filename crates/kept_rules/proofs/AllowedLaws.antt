-- The rules of a good kit are ones that wires keep.
use Rattle.std.proofs.Common.{◌≡◌, inl, inr, ◌∙◌, ℕ, ◌==◌, ◌≢◌, ℤ, pos, ◌≤ℤ◌, List, [], ◌∷◌, length, Bool, true, false, cond, not, ◌||◌, ◌&&◌, Option, None, Some, refl, sym, ap, subst, arith}
use Rattle.std.specs.Prelude.{Contains, slice_get, IfSome, All, if◌then◌else◌}
use Rattle.std.specs.List.{find, list_any}
use Rattle.std.specs.Option.{option_or}
use Rattle.std.specs.Ordering.{is_lt, int_cmp}
use Rattle.std.proofs.lemmas.Bool.Decides.{Decides-eqb}
use Rattle.std.proofs.lemmas.Int.{ints}
use Rattle.std.proofs.lemmas.Option.{slice_get-get_or, get_or_from_slice_get}
use Rattle.std.proofs.lemmas.List.Elements.{All-contains}
use Rattle.std.proofs.lemmas.List.Folds.{list_any_at}
use Rattle.or_geom.proofs.ListLaws.{contains_none, contains_cases, contained_at}
use Rattle.tech_rules.specs.declared.tech.Rule.{Rule}
use Rattle.tech_rules.specs.declared.tech.Rule.TheVariants.{Width, Space, Enclose}
use Rattle.tech_rules.specs.declared.tech.Tech.{Tech}
use Rattle.tech_rules.specs.declared.tech.Wire.{Wire}
use Rattle.tech_rules.specs.Facts.{IsWire, IsRule}
use Rattle.tech_rules.specs.WireRules.{margin, metal_sizes, cut_sizes, forbids, encloses_beyond, is_hidden, breaks_cut_rules, joins, is_bad_metal, first_bad_cut, first_bad_index}
use Rattle.leaf_tables.specs.declared.kit.Kit.{Kit}
use Rattle.leaf_tables.specs.Kits.{IsKit}
use Rattle.kit_rules.specs.WireRules.{IsWireRule}
use Rattle.kit_rules.specs.Reach.{minimum_of, reach_with}
use Rattle.kit_check.specs.Good.{AreWiresGood}
use Rattle.good_windows.specs.Short.{HasShortReach}
use Rattle.leaf_shapes.specs.Outline.{IsWireLayer}
use Rattle.kept_rules.specs.Allowed.{IsWideEnough, IsAllowed, IsKeptRule}

-- Tests

not_both : (b : Bool) → b ≡ true → b ≡ false → ⊥
not_both true t f = absurd cc
not_both false t f = absurd cc

or_false : (a b : Bool) → (a || b) ≡ false → (a ≡ false) × (b ≡ false)
or_false true b e = absurd cc
or_false false b e = (refl, e)

false_of : (b : Bool) → (b ≡ true → ⊥) → b ≡ false
false_of true never = absurd (never refl)
false_of false never = refl

none_of : {X : Type 0} (p : X → Bool) (xs : List X) (x : X) → list_any p xs ≡ false → Contains xs x → p x ≡ false
none_of {X} p xs x none has = false_of (p x) (λ t. not_both (list_any p xs) (list_any_at p xs has.0 x has.1 (ap p has.2 ∙ t)) none)

found_none : {X : Type 0} (p : X → Bool) (xs : List X) (x : X) → find p xs ≡ None → Contains xs x → p x ≡ false
found_none {X} p [] x none has = absurd (contains_none x has)
found_none {X} p (y ∷ ys) x none has = by (p y) refl none (λ found later. found_none p ys x found later) where
  by : (b : Bool) → b ≡ p y → cond b (Some y) (find p ys) ≡ None → (find p ys ≡ None → Contains ys x → p x ≡ false) → p x ≡ false
  by true e found rest = absurd cc
  by false e found rest = elim (contains_cases y ys x has) [
    | inl is ↦ ap p is ∙ sym e
    | inr later ↦ rest found later
  ]

neither_or : (a b : Option ℕ) → option_or a b ≡ None → (a ≡ None) × (b ≡ None)
neither_or None b none = (refl, none)
neither_or (Some x) b none = absurd cc

neither : (a b c : Bool) (x : ℕ) (rest : Option ℕ) → (if (a || b) || c then Some x else rest) ≡ None → (b ≡ false) × (rest ≡ None)
neither true b c x rest none = absurd cc
neither false true c x rest none = absurd cc
neither false false true x rest none = absurd cc
neither false false false x rest none = (refl, none)

not_less : (x y : ℤ) → is_lt (int_cmp x y) ≡ false → y ≤ℤ x
not_less x y is = grind (arith, ints)

same_is : (n : ℕ) → (n == n) ≡ true
same_is n = (Decides-eqb n n).1 refl

past : (b c : Bool) → b ≡ true → (b && c) ≡ false → c ≡ false
past true c t e = e
past false c t e = absurd cc

-- no cut of the three breaks a rule
cuts_kept : (tech : Tech) (wire : Wire) (cuts metals : List ℕ) → length cuts ≡ 3 → length metals ≡ 4 → first_bad_cut tech wire cuts metals ≡ None → (cut : ℕ) → Contains cuts cut → breaks_cut_rules tech wire cut ≡ false
cuts_kept tech wire [] metals three four none cut has = absurd (omega (arith, three))
cuts_kept tech wire (a ∷ []) metals three four none cut has = absurd (omega (arith, three))
cuts_kept tech wire (a ∷ b ∷ []) metals three four none cut has = absurd (omega (arith, three))
cuts_kept tech wire (a ∷ b ∷ c ∷ d ∷ cuts) metals three four none cut has = absurd (omega (arith, three))
cuts_kept tech wire (a ∷ b ∷ c ∷ []) [] three four none cut has = absurd (omega (arith, four))
cuts_kept tech wire (a ∷ b ∷ c ∷ []) (m ∷ []) three four none cut has = absurd (omega (arith, four))
cuts_kept tech wire (a ∷ b ∷ c ∷ []) (m ∷ n ∷ []) three four none cut has = absurd (omega (arith, four))
cuts_kept tech wire (a ∷ b ∷ c ∷ []) (m ∷ n ∷ o ∷ []) three four none cut has = absurd (omega (arith, four))
cuts_kept tech wire (a ∷ b ∷ c ∷ []) (m ∷ n ∷ o ∷ p ∷ metals) three four none cut has =
    let one = neither (is_hidden tech.layers a) (breaks_cut_rules tech wire a) (not (list_any (joins a m n) tech.connects)) a (first_bad_cut tech wire (b ∷ c ∷ []) (n ∷ o ∷ p ∷ metals)) none in
    let two = neither (is_hidden tech.layers b) (breaks_cut_rules tech wire b) (not (list_any (joins b n o) tech.connects)) b (first_bad_cut tech wire (c ∷ []) (o ∷ p ∷ metals)) one.1 in
    let three_is = neither (is_hidden tech.layers c) (breaks_cut_rules tech wire c) (not (list_any (joins c o p) tech.connects)) c (first_bad_cut tech wire [] (p ∷ metals)) two.1 in
    elim (contains_cases a (b ∷ c ∷ []) cut has) [
      | inl e ↦ ap (breaks_cut_rules tech wire) e ∙ one.0
      | inr more ↦ elim (contains_cases b (c ∷ []) cut more) [
        | inl e ↦ ap (breaks_cut_rules tech wire) e ∙ two.0
        | inr last ↦ elim (contains_cases c [] cut last) [
          | inl e ↦ ap (breaks_cut_rules tech wire) e ∙ three_is.0
          | inr nothing ↦ absurd (contains_none cut nothing)
        ]
      ]
    ]

module _ (kit : Kit) (is : IsKit kit) (good : AreWiresGood kit) where
  abbrev wire : Wire
  wire = is.wire

  wires : IsWire kit.tech.layers is.wire
  wires = subst (λ (w : Option Wire). IfSome w (IsWire kit.tech.layers)) is.wired is.tech.wire

  allowed : first_bad_index kit.tech is.wire ≡ None
  allowed = subst (λ (w : Option Wire). IfSome w (λ (x : Wire). first_bad_index kit.tech x ≡ None)) is.wired is.tech.allowed

  parts : (find (is_bad_metal kit.tech is.wire) is.wire.metals ≡ None) × (first_bad_cut kit.tech is.wire is.wire.cuts is.wire.metals ≡ None)
  parts = neither_or (find (is_bad_metal kit.tech is.wire) is.wire.metals) (first_bad_cut kit.tech is.wire is.wire.cuts is.wire.metals) allowed

  on_metal : (layer : ℕ) (rule : Rule) → Contains is.wire.metals layer → Contains kit.tech.rules rule → forbids layer (metal_sizes is.wire) rule ≡ false
  on_metal layer rule metal listed = none_of (forbids layer (metal_sizes is.wire)) kit.tech.rules rule (found_none (is_bad_metal kit.tech is.wire) is.wire.metals layer parts.0 metal) listed

  on_cut : (layer : ℕ) (rule : Rule) → Contains is.wire.cuts layer → Contains kit.tech.rules rule → (forbids layer (cut_sizes is.wire) rule ≡ false) × (encloses_beyond layer is.wire rule ≡ false)
  on_cut layer rule cut listed =
      let both = or_false (list_any (forbids layer (cut_sizes is.wire)) kit.tech.rules) (list_any (encloses_beyond layer is.wire) kit.tech.rules) (cuts_kept kit.tech is.wire is.wire.cuts is.wire.metals wires.three wires.four parts.1 layer cut) in
      (none_of (forbids layer (cut_sizes is.wire)) kit.tech.rules rule both.0 listed, none_of (encloses_beyond layer is.wire) kit.tech.rules rule both.1 listed)

  no_cut : (layer : ℕ) → Contains is.wire.metals layer → Contains is.wire.cuts layer → ⊥
  no_cut layer metal cut = All-contains (λ (m : ℕ). layer ≢ m) is.wire.metals layer (All-contains (λ (c : ℕ). All (λ (m : ℕ). c ≢ m) is.wire.metals) is.wire.cuts layer wires.apart cut) metal refl

  width_allowed : (layer : ℕ) (min : ℤ) → Contains kit.tech.rules (Width layer min) → IsWireLayer is.wire layer → IsWideEnough is.wire layer min
  width_allowed layer min listed (inl metal) = inr (not_less is.wire.width min (past (layer == layer) (is_lt (int_cmp is.wire.width min)) (same_is layer) (on_metal layer (Width layer min) metal listed)), no_cut layer metal)
  width_allowed layer min listed (inr cut) = inl (not_less is.wire.cut min (past (layer == layer) (is_lt (int_cmp is.wire.cut min)) (same_is layer) (on_cut layer (Width layer min) cut listed).0))

  own_space : (layer : ℕ) (min : ℤ) → Contains kit.tech.rules (Space layer layer min) → (Contains is.wire.cuts layer → min ≤ℤ is.wire.space) → IsWireLayer is.wire layer → min ≤ℤ is.wire.space
  own_space layer min listed cuts (inl metal) = not_less is.wire.space min (past ((layer == layer) && (layer == layer)) (is_lt (int_cmp is.wire.space min)) (twice (layer == layer) (same_is layer)) (on_metal layer (Space layer layer min) metal listed)) where
    twice : (b : Bool) → b ≡ true → (b && b) ≡ true
    twice true e = refl
    twice false e = absurd cc
  own_space layer min listed cuts (inr cut) = cuts cut

  place_of : (rule : Rule) → Contains kit.tech.rules rule → (k : ℕ) × (slice_get kit.tech.rules k ≡ Some rule)
  place_of rule h = (h.0, slice_get-get_or kit.tech.rules h.0 rule h.1 ∙ ap (λ (z : Rule). Some z) h.2)

  is_wire_rule : (rule : Rule) → Contains kit.tech.rules rule → IsWireRule is.wire rule
  is_wire_rule rule listed = let at = place_of rule listed in good.rules is.wire is.wired at.0 rule at.1

  pub rule_allowed : (rule : Rule) → Contains kit.tech.rules rule → IsAllowed is.wire rule
  rule_allowed (Width layer min) listed = width_allowed layer min listed
  rule_allowed (Space layer other min) listed = by (is_wire_rule (Space layer other min) listed) where
    by : IsWireRule is.wire (Space layer other min) → IsAllowed is.wire (Space layer other min)
    by (inl none) = inl (none.0, none.1)
    by (inr own) = inr (own.one, own_space layer min (subst (λ (o : ℕ). Contains kit.tech.rules (Space layer o min)) (sym own.one) listed) own.cut)
  rule_allowed (Enclose layer by min) listed = go (is_wire_rule (Enclose layer by min) listed) where
    go : IsWireRule is.wire (Enclose layer by min) → IsAllowed is.wire (Enclose layer by min)
    go (inl none) = inl none
    go (inr (index, e)) =
        let cut = contained_at is.wire.cuts index layer e.is in
        inr (record { index = index; below = e.below; is = sym (get_or_from_slice_get is.wire.cuts index layer 0 e.is); by = e.by_metal; fits = not_less (margin is.wire) min (past (layer == layer) (is_lt (int_cmp (margin is.wire) min)) (same_is layer) (on_cut layer (Enclose layer by min) cut listed).1) })

  positive : (rule : Rule) → IsRule kit.tech.layers rule → pos 1 ≤ℤ minimum_of rule
  positive (Width layer min) r = r.min.from
  positive (Space layer other min) r = r.min.from
  positive (Enclose layer by min) r = r.min.from

  -- Each rule is kept by wires, and felt no further than the reach.
  pub is_kept_rule : (overhang : ℤ) → HasShortReach kit is.wire overhang → (rule : Rule) → Contains kit.tech.rules rule → IsKeptRule is.wire overhang (reach_with kit overhang) rule
  is_kept_rule overhang short rule listed = record {
    some = positive rule (All-contains (IsRule kit.tech.layers) kit.tech.rules rule is.tech.rules listed);
    near = short.each rule listed;
    allowed = rule_allowed rule listed;
  }
