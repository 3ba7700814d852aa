-- What stands below the references of a structure, listed once for each item.
use Rattle.std.proofs.Common.{◌≡◌, ◌⊎◌, inl, inr, ℕ, ℤ, pos, negsuc, zero, suc, ◌+◌, ◌*◌, ◌<◌, ◌≤◌, ◌<ℤ◌, List, [], ◌∷◌, length, nat_abs, sym, subst, ap, ◌∙◌, arith}
use Rattle.std.proofs.Math.Nat.{mul_assoc}
use Rattle.std.proofs.lemmas.Int.{ints}
use Rattle.or_geom.specs.declared.shape.Point.{Point}
use Rattle.or_geom.specs.declared.place.Place.{Place}
use Rattle.gds_library.specs.declared.library.Prop.{Prop}
use Rattle.gds_library.specs.declared.library.Element.{Element}
use Rattle.gds_library.specs.declared.library.Element.TheVariants.{Boundary, Path, Sref, Aref, Text}
use Rattle.gds_library.specs.declared.library.Structure.{Structure}
use Rattle.tech_rules.specs.declared.tech.Layer.{Layer}
use Rattle.cell_chains.specs.Instances.{Item, HasItem, IsReferenceItem, IsArrayItem}
use Rattle.cell_chains.specs.Chains.{elements_of, IsItemFrom, IsItemOf}
use Rattle.cell_hierarchy.specs.Grid.{array_item}
use Rattle.cell_hierarchy.specs.Counts.{Total, IsOwnTotal, IsBelow, IsTotalWithin, none, sum, times}
use Rattle.cell_hierarchy.proofs.BelowLaws.{reference_item, same_item}
use Rattle.cell_hierarchy.proofs.ListedLaws.{IsListed, IsMadeOf, IsAtOneOf, nothing_listed, fewer_listed, number_listed, both_listed, images_listed, places_listed}

-- numbers that a total has, which add up as the total does
pub record IsNumber (number : Total → ℕ) : Type 0 where
  pub of_none : number none ≡ 0
  pub of_sum : (a b : Total) → number (sum a b) ≡ number a + number b
  pub of_times : (n : ℕ) (a : Total) → number (times n a) ≡ n * number a

-- x stands below one of the items: it is what `move` makes of a thing in the item's structure
pub record IsBelowItem (X : Type 0) (move : Item → X → X) (Inner : List ℕ → X → Type 0) (IsItem : Item → Type 0) (x : X) : Type 0 where
  pub item : Item
  pub among : IsItem item
  pub inner : X
  pub has : Inner item.cell inner
  pub is : x ≡ move item inner

-- below one item stands what it makes of its structure's things
made_of : (X : Type 0) (move : Item → X → X) (Inner : List ℕ → X → Type 0) (item it : Item) (inner x : X) → item ≡ it → Inner item.cell inner → x ≡ move item inner
    → IsMadeOf X (move it) (Inner it.cell) x
made_of X move Inner item it inner x same has is = record {
  inner = inner;
  has = subst (λ (i : Item). Inner i.cell inner) same has;
  is = is ∙ ap (λ (i : Item). move i inner) same;
}

below_reference : (X : Type 0) (move : Item → X → X) (Inner : List ℕ → X → Type 0) (n : ℕ) (name : List ℕ) (place : Place) (props : List Prop) (number : ℕ)
    → IsListed X number (Inner name) → IsListed X number (IsBelowItem X move Inner (IsReferenceItem n name place props))
below_reference X move Inner n name place props number l =
    let it : Item = reference_item n name place props in
    fewer_listed X number (IsMadeOf X (move it) (Inner name)) (IsBelowItem X move Inner (IsReferenceItem n name place props))
    (λ x h. made_of X move Inner h.item it h.inner x (same_item h.item it h.among.named h.among.cell h.among.placed) h.has h.is)
    (images_listed X number (move it) (Inner name) l)

below_count : (n : ℕ) (z : ℤ) → pos n <ℤ z → n < nat_abs z
below_count n (pos m) lt = omega (arith, ints)
below_count n (negsuc m) lt = absurd (omega (arith, ints))

-- at one of the columns, at one of the rows
abbrev IsInArray : (X : Type 0) (move : Item → X → X) (Inner : List ℕ → X → Type 0) (n : ℕ) (name : List ℕ) (place : Place) (columns rows : ℤ) (across down : Point) → X → Type 0
IsInArray X move Inner n name place columns rows across down =
    IsAtOneOf X (nat_abs columns) (λ column. IsAtOneOf X (nat_abs rows) (λ row. IsMadeOf X (move (array_item n name place across down column row)) (Inner name)))

in_array : (X : Type 0) (move : Item → X → X) (Inner : List ℕ → X → Type 0) (n : ℕ) (name : List ℕ) (place : Place) (columns rows : ℤ) (across down : Point) (x : X)
    → IsBelowItem X move Inner (IsArrayItem n name place columns rows across down) x → IsInArray X move Inner n name place columns rows across down x
in_array X move Inner n name place columns rows across down x h =
    let it : Item = array_item n name place across down h.among.column h.among.row in
    record {
      place = h.among.column;
      before = below_count h.among.column columns h.among.in_columns;
      has = record {
        place = h.among.row;
        before = below_count h.among.row rows h.among.in_rows;
        has = made_of X move Inner h.item it h.inner x (same_item h.item it h.among.named h.among.cell h.among.placed) h.has h.is;
      };
    }

below_array : (X : Type 0) (move : Item → X → X) (Inner : List ℕ → X → Type 0) (n : ℕ) (name : List ℕ) (place : Place) (columns rows : ℤ) (across down : Point) (number : ℕ)
    → IsListed X number (Inner name) → IsListed X (nat_abs columns * (nat_abs rows * number)) (IsBelowItem X move Inner (IsArrayItem n name place columns rows across down))
below_array X move Inner n name place columns rows across down number l =
    fewer_listed X (nat_abs columns * (nat_abs rows * number)) (IsInArray X move Inner n name place columns rows across down) (IsBelowItem X move Inner (IsArrayItem n name place columns rows across down))
    (in_array X move Inner n name place columns rows across down)
    (places_listed X (nat_abs columns) (nat_abs rows * number) (λ column. IsAtOneOf X (nat_abs rows) (λ row. IsMadeOf X (move (array_item n name place across down column row)) (Inner name)))
    (λ column. places_listed X (nat_abs rows) number (λ row. IsMadeOf X (move (array_item n name place across down column row)) (Inner name))
    (λ row. images_listed X number (move (array_item n name place across down column row)) (Inner name) l)))

first_or_later : (X : Type 0) (move : Item → X → X) (Inner : List ℕ → X → Type 0) (n : ℕ) (e : Element) (es : List Element) (x : X) (item : Item) (inner : X)
    → (HasItem n e item ⊎ IsItemFrom (suc n) es item) → Inner item.cell inner → x ≡ move item inner
    → IsBelowItem X move Inner (HasItem n e) x ⊎ IsBelowItem X move Inner (IsItemFrom (suc n) es) x
first_or_later X move Inner n e es x item inner (inl h) has is = inl (record { item = item; among = h; inner = inner; has = has; is = is })
first_or_later X move Inner n e es x item inner (inr h) has is = inr (record { item = item; among = h; inner = inner; has = has; is = is })

below_first : (X : Type 0) (move : Item → X → X) (Inner : List ℕ → X → Type 0) (n : ℕ) (e : Element) (es : List Element) (a b c : ℕ) → c ≡ a + b
    → IsListed X a (IsBelowItem X move Inner (HasItem n e)) → IsListed X b (IsBelowItem X move Inner (IsItemFrom (suc n) es))
    → IsListed X c (IsBelowItem X move Inner (IsItemFrom n (e ∷ es)))
below_first X move Inner n e es a b c whole first rest =
    number_listed X (a + b) c (IsBelowItem X move Inner (IsItemFrom n (e ∷ es))) (sym whole)
    (fewer_listed X (a + b) (λ x. IsBelowItem X move Inner (HasItem n e) x ⊎ IsBelowItem X move Inner (IsItemFrom (suc n) es) x) (IsBelowItem X move Inner (IsItemFrom n (e ∷ es)))
    (λ x h. first_or_later X move Inner n e es x h.item h.inner h.among h.has h.is)
    (both_listed X a b (IsBelowItem X move Inner (HasItem n e)) (IsBelowItem X move Inner (IsItemFrom (suc n) es)) first rest))

-- below an element that is no reference stands nothing
below_other : (X : Type 0) (move : Item → X → X) (Inner : List ℕ → X → Type 0) (n : ℕ) (e : Element) (es : List Element) (number : ℕ) → ((item : Item) → HasItem n e item → ⊥)
    → IsListed X number (IsBelowItem X move Inner (IsItemFrom (suc n) es)) → IsListed X number (IsBelowItem X move Inner (IsItemFrom n (e ∷ es)))
below_other X move Inner n e es number never rest =
    below_first X move Inner n e es 0 number number (omega arith) (nothing_listed X (IsBelowItem X move Inner (HasItem n e)) (λ x h. never h.item h.among)) rest

pub below_listed : (X : Type 0) (move : Item → X → X) (Inner : List ℕ → X → Type 0) (number : Total → ℕ) (IsTotal : List ℕ → Total → Type 0) → IsNumber number
    → ((name : List ℕ) (total : Total) → IsTotal name total → IsListed X (number total) (Inner name))
    → (es : List Element) (n : ℕ) (total : Total) → IsBelow IsTotal es total → IsListed X (number total) (IsBelowItem X move Inner (IsItemFrom n es))
below_listed X move Inner number IsTotal adds each [] n total b =
    number_listed X 0 (number total) (IsBelowItem X move Inner (IsItemFrom n [])) (sym (ap number b ∙ adds.of_none))
    (nothing_listed X (IsBelowItem X move Inner (IsItemFrom n [])) (λ x h. h.among))
below_listed X move Inner number IsTotal adds each (Boundary layer datatype points props ∷ es) n total b =
    below_other X move Inner n (Boundary layer datatype points props) es (number total) (λ item h. h) (below_listed X move Inner number IsTotal adds each es (suc n) total b)
below_listed X move Inner number IsTotal adds each (Path layer datatype kind width points props ∷ es) n total b =
    below_other X move Inner n (Path layer datatype kind width points props) es (number total) (λ item h. h) (below_listed X move Inner number IsTotal adds each es (suc n) total b)
below_listed X move Inner number IsTotal adds each (Sref name place props ∷ es) n total b =
    below_first X move Inner n (Sref name place props) es (number b.0) (number b.1) (number total) (ap number b.4 ∙ adds.of_sum b.0 b.1)
    (below_reference X move Inner n name place props (number b.0) (each name b.0 b.2))
    (below_listed X move Inner number IsTotal adds each es (suc n) b.1 b.3)
below_listed X move Inner number IsTotal adds each (Aref name place columns rows across down props ∷ es) n total b =
    let items : ℕ = nat_abs columns * nat_abs rows in
    let product : number (times items b.0) ≡ nat_abs columns * (nat_abs rows * number b.0) = adds.of_times items b.0 ∙ mul_assoc (nat_abs columns) (nat_abs rows) (number b.0) in
    below_first X move Inner n (Aref name place columns rows across down props) es (nat_abs columns * (nat_abs rows * number b.0)) (number b.1) (number total)
    (ap number b.4 ∙ (adds.of_sum (times items b.0) b.1 ∙ ap (λ (k : ℕ). k + number b.1) product))
    (below_array X move Inner n name place columns rows across down (number b.0) (each name b.0 b.2))
    (below_listed X move Inner number IsTotal adds each es (suc n) b.1 b.3)
below_listed X move Inner number IsTotal adds each (Text layer texttype at string props ∷ es) n total b =
    below_other X move Inner n (Text layer texttype at string props) es (number total) (λ item h. h) (below_listed X move Inner number IsTotal adds each es (suc n) total b)

-- Things of a kind at the ends of chains: those of the structure itself, as many as its own total says; and by an item what
-- `move` makes of things at the ends of shorter chains.
pub record IsByChains (layers : List Layer) (structs : List Structure) (X : Type 0) (By : List ℕ → List Item → X → Type 0) (number : Total → ℕ) (move : Item → X → X) : Type 0 where
  pub adds : IsNumber number
  pub own : (name : List ℕ) (total : Total) → IsOwnTotal layers (elements_of structs name) total → IsListed X (number total) (By name [])
  pub below : (name : List ℕ) (item : Item) (items : List Item) (x : X) → By name (item ∷ items) x → IsBelowItem X move (λ cell. By cell items) (λ i. (i ≡ item) × IsItemOf structs name i) x

-- x stands at the end of a chain of at most so many references
pub record IsWithinDepth (X : Type 0) (By : List ℕ → List Item → X → Type 0) (depth : ℕ) (name : List ℕ) (x : X) : Type 0 where
  pub chain : List Item
  pub short : length chain ≤ depth
  pub stands : By name chain x

empty_chain : (X : Type 0) (By : List ℕ → List Item → X → Type 0) (name : List ℕ) (x : X) (chain : List Item) → length chain ≤ 0 → By name chain x → By name [] x
empty_chain X By name x [] short stands = stands
empty_chain X By name x (item ∷ items) short stands = absurd (omega (arith, short))

own_or_below : (layers : List Layer) (structs : List Structure) (X : Type 0) (By : List ℕ → List Item → X → Type 0) (number : Total → ℕ) (move : Item → X → X)
    → IsByChains layers structs X By number move → (depth : ℕ) (name : List ℕ) (x : X) (chain : List Item) → length chain ≤ suc depth → By name chain x
    → By name [] x ⊎ IsBelowItem X move (IsWithinDepth X By depth) (IsItemOf structs name) x
own_or_below layers structs X By number move by depth name x [] short stands = inl stands
own_or_below layers structs X By number move by depth name x (item ∷ items) short stands =
    let b = by.below name item items x stands in
    inr (record { item = b.item; among = b.among.1; inner = b.inner; has = record { chain = items; short = omega (arith, short); stands = b.has }; is = b.is })

pub within_listed : (layers : List Layer) (structs : List Structure) (X : Type 0) (By : List ℕ → List Item → X → Type 0) (number : Total → ℕ) (move : Item → X → X)
    → IsByChains layers structs X By number move → (depth : ℕ) (name : List ℕ) (total : Total) → IsTotalWithin depth layers structs name total
    → IsListed X (number total) (IsWithinDepth X By depth name)
within_listed layers structs X By number move by zero name total t =
    fewer_listed X (number total) (By name []) (IsWithinDepth X By 0 name) (λ x h. empty_chain X By name x h.chain h.short h.stands) (by.own name total t)
within_listed layers structs X By number move by (suc depth) name total t =
    let below : IsListed X (number t.1) (IsBelowItem X move (IsWithinDepth X By depth) (IsItemOf structs name)) =
    below_listed X move (IsWithinDepth X By depth) number (IsTotalWithin depth layers structs) by.adds (within_listed layers structs X By number move by depth) (elements_of structs name) 0 t.1 t.3 in
    number_listed X (number t.0 + number t.1) (number total) (IsWithinDepth X By (suc depth) name) (sym (ap number t.4 ∙ by.adds.of_sum t.0 t.1))
    (fewer_listed X (number t.0 + number t.1) (λ x. By name [] x ⊎ IsBelowItem X move (IsWithinDepth X By depth) (IsItemOf structs name) x) (IsWithinDepth X By (suc depth) name)
    (λ x h. own_or_below layers structs X By number move by depth name x h.chain h.short h.stands)
    (both_listed X (number t.0) (number t.1) (By name []) (IsBelowItem X move (IsWithinDepth X By depth) (IsItemOf structs name)) (by.own name t.0 t.2) below))
