-- A walk over the cells that a top reaches.
use Rattle.std.proofs.Common.{◌≡◌, ◌⊎◌, inl, inr, ℕ, ◌+◌, ◌-◌, ◌*◌, ◌^◌, ◌<◌, ◌≤◌, List, [], length, get_or, Some, refl, sym, ap, subst, ◌∙◌, arith}
use Rattle.std.specs.Prelude.{slice_get}
use Rattle.std.specs.List.{AllByRecursion}
use Rattle.std.proofs.lemmas.Option.{same_Some, slice_get_within, slice_get_read}
use Rattle.or_geom.specs.declared.place.Place.{Place}
use Rattle.or_geom.specs.Place.{IsNearPoint, IsWithin}
use Rattle.or_geom.proofs.ListLaws.{below_or}
use Rattle.gds_library.specs.declared.library.Element.{Element}
use Rattle.gds_library.specs.declared.library.Structure.{Structure}
use Rattle.gds_library.specs.Writable.{IsWritableElement}
use Rattle.cell_chains.specs.declared.cell.Cell.{Cell}
use Rattle.cell_chains.specs.Chains.{elements_of}
use Rattle.cell_chains.specs.Hierarchy.{IsCellOf}
use Rattle.cell_hierarchy.specs.Below.{SomeBelow}
use Rattle.cell_hierarchy.specs.Things.{Thing, IsOwnThing, GatheredGrows}
use Rattle.cell_hierarchy.specs.Placed.{IsOfDrawing, IsPlacedBelow}
use Rattle.cell_hierarchy.specs.Drawings.{IsPartOf}
use Rattle.cell_hierarchy.specs.Parts.{IsCellTree, IsPlacedAt, IsBelowAt, IsLiveAt, IsOfCellIn, IsOfElement}
use Rattle.cell_hierarchy.specs.declared.gathered.Gathered.{Gathered}
use Rattle.cell_hierarchy.specs.declared.parts.CellPart.{CellPart}
use Rattle.cell_hierarchy.specs.declared.placement.Placement.{Placement}
use Rattle.cell_hierarchy.specs.declared.tree.Tree.{Tree}
use Rattle.cell_hierarchy.proofs.CellLaws.{writable_at}
use Rattle.cell_hierarchy.proofs.GrowsLaws.{grows_as, grows_both}
use Rattle.cell_hierarchy.proofs.NearLaws.{near_point, further}
use Rattle.cell_hierarchy.proofs.OwnLaws.{same_read}
use Rattle.cell_hierarchy.proofs.PartLaws.{own_is}
use Rattle.cell_hierarchy.proofs.ThingLaws.{flat_thing_cases, taken_thing_is_flat, item_in, in_from}

-- how far a cell may stand from the origin
high_reach : (h : ℕ) → (32 - h) * 2 ^ 33 ≤ 2 ^ 39
high_reach h = omega arith

below_reach : (h : ℕ) → (31 - h) * 2 ^ 33 ≤ 2 ^ 39
below_reach h = omega arith

pub lower_reach : (h t : ℕ) → t < h → h ≤ 32 → (32 - h) * 2 ^ 33 ≤ (31 - t) * 2 ^ 33
lower_reach h t lt le = omega (arith, lt, le)

item_reach : (t : ℕ) → t < 32 → (31 - t) * 2 ^ 33 + 2 ^ 33 ≤ (32 - t) * 2 ^ 33
item_reach t lt = omega (arith, lt)

pub placed_near : (tree : Tree) (index : ℕ) (at : Placement) → IsPlacedAt tree index at → IsNearPoint at.place.at
placed_near tree index at p = near_point at.place.at (further ((32 - p.cell.height) * 2 ^ 33) (2 ^ 39) at.place.at (high_reach p.cell.height) p.near)

pub below_near : (tree : Tree) (target : ℕ) (at : Placement) → IsBelowAt tree target at → IsNearPoint at.place.at
below_near tree target at p = near_point at.place.at (further ((31 - p.cell.height) * 2 ^ 33) (2 ^ 39) at.place.at (below_reach p.cell.height) p.near)

pub item_placed : (tree : Tree) (target : ℕ) (at made : Placement) (name : List ℕ) (place : Place) → IsBelowAt tree target at → IsPlacedBelow tree.keeps_labels at name place made → IsWithin (2 ^ 33) place.at → IsPlacedAt tree target made
item_placed tree target at made name place b p near = record {
  cell = b.cell;
  is = b.is;
  near = further ((31 - b.cell.height) * 2 ^ 33 + 2 ^ 33) ((32 - b.cell.height) * 2 ^ 33) made.place.at (item_reach b.cell.height b.low) (p.bound ((31 - b.cell.height) * 2 ^ 33) (2 ^ 33) b.near near);
  ascii = p.ascii;
}

-- a cell of the walk, with its structure and its part
pub record IsWalkedAt (tree : Tree) (index : ℕ) (part : CellPart) : Type 0 where
  pub cell : Cell
  pub is : slice_get tree.cells.now index ≡ Some cell
  pub structure : Structure
  pub stands : slice_get tree.structs.now cell.structure ≡ Some structure
  pub first : elements_of tree.structs.now structure.name ≡ structure.elements
  pub writable : AllByRecursion IsWritableElement structure.elements
  pub part_is : IsPartOf tree.layers.now tree.keeps_labels tree.structs.now structure part

pub part_within : (tree : Tree) (index : ℕ) (at : Placement) → IsCellTree tree → IsPlacedAt tree index at → index < length tree.parts.now
part_within tree index at t p =
    let lt = slice_get_within tree.cells.now index p.cell p.is in
    let sized = t.parts.sized in
    omega (arith, lt, sized)

pub walked_at : (tree : Tree) (index : ℕ) (at : Placement) (part : CellPart) → IsCellTree tree → IsPlacedAt tree index at → part ≡ get_or tree.parts.now index part → IsWalkedAt tree index part
walked_at tree index at part t p read =
    let c = t.cells.each index p.cell p.is in
    let got = slice_get_read tree.parts.now _ index part refl (part_within tree index at t p) read in
    record {
      cell = p.cell;
      is = p.is;
      structure = c.structure;
      stands = c.stands;
      first = c.first;
      writable = writable_at tree.structs.now p.cell.structure c.structure t.writable c.stands;
      part_is = t.parts.each index p.cell c.structure part p.is c.stands got;
    }

pub walked_read : (tree : Tree) (index : ℕ) (at : Placement) (d : CellPart) → IsCellTree tree → IsPlacedAt tree index at → IsWalkedAt tree index (get_or tree.parts.now index d)
walked_read tree index at d t p =
    walked_at tree index at (get_or tree.parts.now index d) t p (same_read tree.parts.now index d (get_or tree.parts.now index d) (part_within tree index at t p))

pub live_at : (tree : Tree) (index : ℕ) (part : CellPart) (i n : ℕ) → IsWalkedAt tree index part → i < length part.live.items → n ≡ get_or part.live.items i n → IsLiveAt tree index n
live_at tree index part i n w lt read = record { cell = w.cell; is = w.is; structure = w.structure; stands = w.stands; inside = w.part_is.live.inside n (i, lt, sym read) }

-- what the element takes over to which the index i of the list leads
pub record AtLive (tree : Tree) (index : ℕ) (at : Placement) (live : List ℕ) (i : ℕ) (x : Thing) : Type 0 where
  pub n : ℕ
  pub is : slice_get live i ≡ Some n
  pub taken : IsOfElement tree index at n x

-- what a cell has, of whose references the first i were walked
abbrev pub CellSoFar : Tree → ℕ → Placement → CellPart → ℕ → Thing → Type 0
CellSoFar tree index at part i x = IsOfDrawing part.own at x ⊎ SomeBelow (AtLive tree index at part.live.items) i x

pub so_far_begin : (tree : Tree) (index : ℕ) (at : Placement) (part : CellPart) (old now : Gathered) → GatheredGrows old now (IsOfDrawing part.own at) → GatheredGrows old now (CellSoFar tree index at part 0)
so_far_begin tree index at part old now g =
    grows_as old now (IsOfDrawing part.own at) (CellSoFar tree index at part 0) (λ x h. inl h) (λ x h. elim h [ inl own ↦ own | inr b ↦ absurd (let lt = b.below in omega (arith, lt)) ]) g

live_step : (tree : Tree) (index : ℕ) (at : Placement) (live : List ℕ) (i n : ℕ) (now next : Gathered) → i < length live → n ≡ get_or live i n → GatheredGrows now next (IsOfElement tree index at n) → GatheredGrows now next (AtLive tree index at live i)
live_step tree index at live i n now next lt read g =
    let got = slice_get_read live _ i n refl lt read in
    grows_as now next (IsOfElement tree index at n) (AtLive tree index at live i) (λ x h. record { n = n; is = got; taken = h })
    (λ x h. subst (λ (m : ℕ). IsOfElement tree index at m x) (same_Some h.n n (sym h.is ∙ got)) h.taken) g

one_more : (P : Thing → Type 0) (Q : ℕ → Thing → Type 0) (i : ℕ) (x : Thing) → (P x ⊎ SomeBelow Q i x) ⊎ Q i x → P x ⊎ SomeBelow Q (i + 1) x
one_more P Q i x (inl (inl p)) = inl p
one_more P Q i x (inl (inr b)) = inr (record { index = b.index; below = omega (arith, b.below); has = b.has })
one_more P Q i x (inr q) = inr (record { index = i; below = omega arith; has = q })

one_less : (P : Thing → Type 0) (Q : ℕ → Thing → Type 0) (i : ℕ) (x : Thing) → P x ⊎ SomeBelow Q (i + 1) x → (P x ⊎ SomeBelow Q i x) ⊎ Q i x
one_less P Q i x (inl p) = inl (inl p)
one_less P Q i x (inr b) = elim (below_or b.index i b.below) [
  | inl lt ↦ inl (inr (record { index = b.index; below = lt; has = b.has }))
  | inr e ↦ inr (subst (λ (m : ℕ). Q m x) e b.has)
]

pub so_far_on : (tree : Tree) (index : ℕ) (at : Placement) (part : CellPart) (i n : ℕ) (old now next : Gathered) → i < length part.live.items → n ≡ get_or part.live.items i n → GatheredGrows old now (CellSoFar tree index at part i)
    → GatheredGrows now next (IsOfElement tree index at n) → GatheredGrows old next (CellSoFar tree index at part (i + 1))
so_far_on tree index at part i n old now next lt read f g =
    grows_as old next (λ x. CellSoFar tree index at part i x ⊎ AtLive tree index at part.live.items i x) (CellSoFar tree index at part (i + 1))
    (one_more (IsOfDrawing part.own at) (AtLive tree index at part.live.items) i) (one_less (IsOfDrawing part.own at) (AtLive tree index at part.live.items) i)
    (grows_both old now next (CellSoFar tree index at part i) (AtLive tree index at part.live.items i) f (live_step tree index at part.live.items i n now next lt read g))

-- what an element takes over is flat in its structure
element_flat : (tree : Tree) (index : ℕ) (at : Placement) (part : CellPart) (n : ℕ) (x : Thing) → (w : IsWalkedAt tree index part) → IsOfElement tree index at n x → IsOfCellIn tree at w.structure.name x
element_flat tree index at part n x w t =
    let one : t.cell ≡ w.cell = same_Some t.cell w.cell (sym t.is ∙ w.is) in
    let two : t.structure ≡ w.structure = same_Some t.structure w.structure (sym t.stands ∙ (ap (λ (c : Cell). slice_get tree.structs.now c.structure) one ∙ w.stands)) in
    let there : slice_get (elements_of tree.structs.now w.structure.name) n ≡ Some t.element = subst (λ (es : List Element). slice_get es n ≡ Some t.element) (sym w.first) (subst (λ (s : Structure). slice_get s.elements n ≡ Some t.element) two t.there) in
    let stands = in_from n (elements_of tree.structs.now w.structure.name) t.element t.item there t.has in
    record {
      inner = t.taken.middle;
      flat = taken_thing_is_flat tree.layers.now tree.keeps_labels tree.structs.now w.structure.name t.item t.taken.inner t.taken.middle stands t.taken.flat t.taken.moved;
      stands = t.taken.stands;
    }

of_cell : (tree : Tree) (index : ℕ) (at : Placement) (part : CellPart) (i : ℕ) (x : Thing) → (w : IsWalkedAt tree index part) → CellSoFar tree index at part i x → IsOfCellIn tree at w.structure.name x
of_cell tree index at part i x w (inl own) = record {
  inner = own.inner;
  flat = record {
    chain = [];
    stands = subst (λ (es : List Element). IsOwnThing tree.layers.now tree.keeps_labels es own.inner) (sym w.first) ((own_is tree.layers.now tree.keeps_labels w.structure.elements part.own w.writable w.part_is.drawn own.inner).0 own.own);
  };
  stands = own.stands;
}
of_cell tree index at part i x w (inr b) = element_flat tree index at part b.has.n x w b.has.taken

cell_of : (tree : Tree) (index : ℕ) (at : Placement) (part : CellPart) (i : ℕ) (x : Thing) → length part.live.items ≤ i → (w : IsWalkedAt tree index part) → IsOfCellIn tree at w.structure.name x → CellSoFar tree index at part i x
cell_of tree index at part i x le w c =
    elim (flat_thing_cases tree.layers.now tree.keeps_labels tree.structs.now w.structure.name c.inner c.flat.chain c.flat.stands) [
      | inl own ↦ inl (record {
        inner = c.inner;
        own = (own_is tree.layers.now tree.keeps_labels w.structure.elements part.own w.writable w.part_is.drawn c.inner).1
            (subst (λ (es : List Element). IsOwnThing tree.layers.now tree.keeps_labels es c.inner) w.first own);
        stands = c.stands;
      })
      | inr t ↦
          let a = item_in (elements_of tree.structs.now w.structure.name) t.item t.stands in
          let there : slice_get w.structure.elements a.index ≡ Some a.element = subst (λ (es : List Element). slice_get es a.index ≡ Some a.element) w.first a.there in
          let among = w.part_is.live.all a.index a.element t.item t.inner there a.has t.is_there in
          let lt = among.1 in
          inr (record {
            index = among.0;
            below = omega (arith, lt, le);
            has = record {
              n = a.index;
              is = slice_get_read part.live.items _ among.0 a.index refl lt (sym among.2);
              taken = record {
                cell = w.cell;
                is = w.is;
                structure = w.structure;
                stands = w.stands;
                element = a.element;
                there = there;
                item = t.item;
                has = a.has;
                taken = record { inner = t.inner; flat = t.is_there; middle = c.inner; moved = t.moved; stands = c.stands };
              };
            };
          })
    ]

pub cell_done : (tree : Tree) (index : ℕ) (at : Placement) (part : CellPart) (i : ℕ) (old new : Gathered) → IsWalkedAt tree index part → length part.live.items ≤ i → GatheredGrows old new (CellSoFar tree index at part i)
    → (name : List ℕ) → IsCellOf tree.structs.now tree.cells.now index name → GatheredGrows old new (IsOfCellIn tree at name)
cell_done tree index at part i old new w le g name of =
    let one : w.cell ≡ of.cell = same_Some w.cell of.cell (sym w.is ∙ of.is) in
    let two : w.structure ≡ of.structure = same_Some w.structure of.structure (sym w.stands ∙ (ap (λ (c : Cell). slice_get tree.structs.now c.structure) one ∙ of.stands)) in
    let named : w.structure.name ≡ name = ap (λ (s : Structure). s.name) two ∙ of.named in
    subst (λ (m : List ℕ). GatheredGrows old new (IsOfCellIn tree at m)) named
    (grows_as old new (CellSoFar tree index at part i) (IsOfCellIn tree at w.structure.name) (λ x h. of_cell tree index at part i x w h) (λ x h. cell_of tree index at part i x le w h) g)
