-- A loop that gathers what the items of a list give: whatever adds what the rest gives makes it all.
use Rattle.std.proofs.Common.{◌≡◌, inl, inr, ℕ, ◌+◌, ◌<◌, List, [], ◌∷◌, length, get_or, drop, sym, subst}
use Rattle.std.specs.Prelude.{Contains}
use Rattle.std.specs.Cmp.{IsTotalOrder}
use Rattle.std.specs.List.Sorted.{IsStrictlySortedBy}
use Rattle.std.specs.declared.cmp.Ordering.{Ordering}
use Rattle.std.specs.declared.cmp.Ordering.TheVariants.{Less}
use Rattle.or_geom.proofs.ListLaws.{contains_none, contains_cases, contains_first, contains_later, rest_at, all_contained}
use Rattle.or_geom.specs.Adds.{Adds}
use Rattle.or_geom.specs.Gathering.{SomeGives, SomePairGives, SomeHas}
use Rattle.or_geom.proofs.AddsLaws.{adds_none, adds_both}
use Rattle.or_geom.proofs.OneListLaws.{not_both}

-- so far in a loop over the items of `all`, of which `rest` are left: now grew from old
pub record IsGathering {X Y : Type 0} (gives : Y → X → Type 0) (all rest : List Y) (old now : List X) : Type 0 where
  pub completes : (new : List X) → Adds now new (SomeGives gives rest) → Adds old new (SomeGives gives all)

pub gather_goes_on : {X Y : Type 0} (gives : Y → X → Type 0) (all rest others : List Y) (first : Y) (old now next : List X) → rest ≡ first ∷ others → IsGathering gives all rest old now → Adds now next (gives first) → IsGathering gives all others old next
gather_goes_on {X = X} {Y = Y} gives all rest others first old now next e way step =
    let w : IsGathering gives all (first ∷ others) old now = subst (λ (r : List Y). IsGathering gives all r old now) e way in
    record { completes = λ new a. w.completes new (adds_both now next new (gives first) (SomeGives gives others) step a) }

-- an item that gives nothing
pub gather_skips : {X Y : Type 0} (gives : Y → X → Type 0) (all rest others : List Y) (first : Y) (old now : List X) → rest ≡ first ∷ others → IsGathering gives all rest old now → ((x : X) → gives first x → ⊥) → IsGathering gives all others old now
gather_skips gives all rest others first old now e way none = gather_goes_on gives all rest others first old now now e way (adds_none now (gives first) none)

pub gather_ends : {X Y : Type 0} (gives : Y → X → Type 0) (all rest : List Y) (old now : List X) → rest ≡ [] → IsGathering gives all rest old now → Adds old now (SomeGives gives all)
gather_ends {X = X} {Y = Y} gives all rest old now e way = way.completes now (adds_none now (SomeGives gives rest) (λ x g. subst (λ (r : List Y). SomeGives gives r x) e g))

-- the same for pairs
pub record ArePairsGathered {X Y : Type 0} (gives : Y → Y → X → Type 0) (all rest : List Y) (old now : List X) : Type 0 where
  pub completes : (new : List X) → Adds now new (SomePairGives gives rest) → Adds old new (SomePairGives gives all)

pub pairs_go_on : {X Y : Type 0} (gives : Y → Y → X → Type 0) (all rest others : List Y) (first : Y) (old now next : List X) → rest ≡ first ∷ others → ArePairsGathered gives all rest old now → Adds now next (SomeGives (gives first) others) → ArePairsGathered gives all others old next
pairs_go_on {X = X} {Y = Y} gives all rest others first old now next e way step =
    let w : ArePairsGathered gives all (first ∷ others) old now = subst (λ (r : List Y). ArePairsGathered gives all r old now) e way in
    record { completes = λ new a. w.completes new (adds_both now next new (SomeGives (gives first) others) (SomePairGives gives others) step a) }

pub pairs_end : {X Y : Type 0} (gives : Y → Y → X → Type 0) (all rest : List Y) (old now : List X) → rest ≡ [] → ArePairsGathered gives all rest old now → Adds old now (SomePairGives gives all)
pairs_end {X = X} {Y = Y} gives all rest old now e way = way.completes now (adds_none now (SomePairGives gives rest) (λ x g. subst (λ (r : List Y). SomePairGives gives r x) e g))

-- who gives, and that he stands in the list
pub giver : {X Y : Type 0} (gives : Y → X → Type 0) (ys : List Y) (x : X) → SomeGives gives ys x → (y : Y) × Contains ys y × gives y x
giver gives [] x g = absurd g
giver gives (y ∷ ys) x (inl g) = (y, contains_first y ys, g)
giver gives (y ∷ ys) x (inr g) = let r = giver gives ys x g in (r.0, contains_later y ys r.0 r.1, r.2)

pub gives_some : {X Y : Type 0} (gives : Y → X → Type 0) (ys : List Y) (x : X) (y : Y) → Contains ys y → gives y x → SomeGives gives ys x
gives_some gives [] x y h g = absurd (contains_none y h)
gives_some {X = X} {Y = Y} gives (z ∷ zs) x y h g = elim (contains_cases z zs y h) [
  | inl e ↦ inl (subst (λ (w : Y). gives w x) e g)
  | inr k ↦ inr (gives_some gives zs x y k g)
]

-- A loop that looks for an item: one that has P stands among those left.
abbrev pub IsAmongLeft : {Y : Type 0} → (Y → Type 0) → List Y → ℕ → Type 0
IsAmongLeft has ys i = SomeHas has ys → SomeHas has (drop i ys)

pub among_goes_on : {Y : Type 0} (has : Y → Type 0) (ys : List Y) (i : ℕ) (y : Y) → i < length ys → y ≡ get_or ys i y → (has y → ⊥) → IsAmongLeft has ys i → IsAmongLeft has ys (i + 1)
among_goes_on {Y} has ys i y lt is none left h =
    elim (subst (λ (l : List Y). SomeHas has l) (rest_at ys i y lt is) (left h)) [ inl b ↦ absurd (none b) | inr k ↦ k ]

pub some_has : {Y : Type 0} (has : Y → Type 0) (ys : List Y) (y : Y) → Contains ys y → has y → SomeHas has ys
some_has has [] y h p = absurd (contains_none y h)
some_has {Y} has (z ∷ zs) y h p = elim (contains_cases z zs y h) [ inl e ↦ inl (subst has e p) | inr k ↦ inr (some_has has zs y k p) ]

pub who_has : {Y : Type 0} (has : Y → Type 0) (ys : List Y) → SomeHas has ys → (y : Y) × Contains ys y × has y
who_has has [] h = absurd h
who_has has (y ∷ ys) (inl p) = (y, contains_first y ys, p)
who_has has (y ∷ ys) (inr h) = let r = who_has has ys h in (r.0, contains_later y ys r.0 r.1, r.2)

pub among_found : {Y : Type 0} (has : Y → Type 0) (ys : List Y) (i : ℕ) (y : Y) → i < length ys → y ≡ get_or ys i y → has y → SomeHas has ys
among_found has ys i y lt is p = some_has has ys y (i, lt, sym is) p

-- in a list in strict order, who stands behind whom
pub pair_of : {X Y : Type 0} (order : Y → Y → Ordering) (gives : Y → Y → X → Type 0) (ys : List Y) (x : X) → IsStrictlySortedBy order ys → SomePairGives gives ys x
    → (a : Y) × (b : Y) × Contains ys a × Contains ys b × (order a b ≡ Less) × gives a b x
unfolding IsStrictlySortedBy
pair_of order gives [] x rises g = absurd g
pair_of order gives (y ∷ ys) x rises (inl g) =
    let r = giver (gives y) ys x g in
    (y, r.0, contains_first y ys, contains_later y ys r.0 r.1, all_contained (λ z. order y z ≡ Less) ys r.0 rises.0 r.1, r.2)
pair_of order gives (y ∷ ys) x rises (inr g) =
    let r = pair_of order gives ys x rises.1 g in
    (r.0, r.1, contains_later y ys r.0 r.2, contains_later y ys r.1 r.3, r.4, r.5)

pub pair_gives : {X Y : Type 0} (order : Y → Y → Ordering) (gives : Y → Y → X → Type 0) (ys : List Y) (x : X) (a b : Y) → IsTotalOrder order → IsStrictlySortedBy order ys → Contains ys a → Contains ys b → order a b ≡ Less → gives a b x → SomePairGives gives ys x
unfolding IsStrictlySortedBy
pair_gives order gives [] x a b total rises in_a in_b before g = absurd (contains_none a in_a)
pair_gives {X = X} {Y = Y} order gives (y ∷ ys) x a b total rises in_a in_b before g =
    elim (contains_cases y ys a in_a) [
      | inl e ↦ elim (contains_cases y ys b in_b) [
        | inl f ↦
            let self : order y y ≡ Less = subst (λ (w : Y). order w y ≡ Less) e (subst (λ (w : Y). order a w ≡ Less) f before) in
            absurd (not_both order total y y self self)
        | inr k ↦ inl (gives_some (gives y) ys x b k (subst (λ (w : Y). gives w b x) e g))
      ]
      | inr h ↦ elim (contains_cases y ys b in_b) [
        | inl f ↦
            let first : order y a ≡ Less = all_contained (λ z. order y z ≡ Less) ys a rises.0 h in
            absurd (not_both order total a y (subst (λ (w : Y). order a w ≡ Less) f before) first)
        | inr k ↦ inr (pair_gives order gives ys x a b total rises.1 h k before g)
      ]
    ]
