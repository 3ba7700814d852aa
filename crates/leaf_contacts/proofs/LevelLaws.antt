-- The stands of one level, and those one reference below them.
use Rattle.std.proofs.Common.{◌≡◌, inl, inr, ℕ, suc, ◌+◌, ◌-◌, ◌*◌, ◌^◌, ◌<◌, ◌≤◌, pos, Bool, true, false, List, [], ◌∷◌, ◌++◌, length, get_or, Some, None, refl, sym, ap, subst, ◌∙◌, length-append, arith}
use Rattle.std.specs.Prelude.{Contains, slice_get}
use Rattle.std.specs.Option.{option_copied}
use Rattle.std.proofs.lemmas.Int.{ints}
use Rattle.std.proofs.lemmas.Bool.{cases_lt}
use Rattle.std.proofs.lemmas.Option.{slice_get-get_or, slice_get_read, slice_get_within}
use Rattle.std.proofs.lemmas.List.Elements.{Contains-append_left, Contains-append_right, Contains-append_cases}
use Rattle.or_geom.specs.declared.place.Place.{Place}
use Rattle.or_geom.specs.declared.place.Orient.TheVariants.{R0}
use Rattle.or_geom.specs.Place.{IsWithin, IsNearPoint, placed}
use Rattle.or_geom.proofs.PlaceLaws.{same_point}
use Rattle.gds_library.specs.declared.library.Structure.{Structure}
use Rattle.cell_chains.specs.Hierarchy.{IsCellOf}
use Rattle.or_geom.proofs.ListLaws.{contained_at, contains_none, contains_cases, contains_first, one_at}
use Rattle.leaf_contacts.proofs.FarLaws.{further, near_point}
use Rattle.leaf_contacts.specs.Contact.{leaf_cell_names}
use Rattle.leaf_contacts.specs.declared.cells.CellSummary.{CellSummary}
use Rattle.leaf_contacts.specs.declared.cells.ReachedCells.{ReachedCells}
use Rattle.leaf_contacts.specs.declared.stand.Stand.{Stand}
use Rattle.leaf_contacts.specs.Chains.{Reference, IsReferenceOf, Leads}
use Rattle.leaf_contacts.specs.Stands.{AddsBelow, AreStandsAt, AreStandsBelow, Counts, HasStandOf, IsCellNamed, IsInInstance, IsLiveFrom, IsStandAt, IsStandOf, AreReachedCells, instance_below}
use Rattle.leaf_contacts.proofs.CellLaws.{summary_at}
use Rattle.leaf_contacts.proofs.ChainLaws.{has_last, inside_itself, last_led, leads_once}
use Rattle.leaf_contacts.proofs.CountLaws.{counts_up}

-- a stand of a chain that is short lies near
pub stand_near : (tree : ReachedCells) (chain : List Reference) (stand : Stand) → length chain ≤ 32 → IsStandOf tree chain stand → IsWithin (2 ^ 39) stand.place.at
stand_near tree chain stand short is = further (length chain * 2 ^ 33) (2 ^ 39) stand.place.at (omega (arith, short)) is.near

pub stand_at_near : (tree : ReachedCells) (depth : ℕ) (stand : Stand) → depth ≤ 32 → IsStandAt tree depth stand → IsNearPoint stand.place.at
stand_at_near tree depth stand low is = let deep = is.deep in near_point stand.place.at (stand_near tree is.chain stand (omega (arith, deep, low)) is.is)

-- So many of the level's stands were gone below.
pub record LevelSoFar (tree : ReachedCells) (depth : ℕ) (level : List Stand) (count : ℕ) (below : List Stand) : Type 0 where
  pub each : (stand : Stand) → Contains below stand → IsStandAt tree (suc depth) stand
  pub done : (k : ℕ) (outer : Stand) (chain : List Reference) (name : List ℕ) (r : Reference) → k < count → slice_get level k ≡ Some outer → IsStandOf tree chain outer → IsCellNamed tree outer.cell name → IsLiveFrom tree name r → HasStandOf tree below (chain ++ r ∷ [])

pub level_begins : (tree : ReachedCells) (depth : ℕ) (level : List Stand) → LevelSoFar tree depth level 0 []
level_begins tree depth level = record {
  each = λ stand h. absurd (contains_none stand h);
  done = λ k outer chain name r lt there is end live. absurd (omega (arith, lt));
}

one_deeper : (tree : ReachedCells) (depth : ℕ) (chain : List Reference) (r : Reference) (stand : Stand) → length chain ≡ depth → IsStandOf tree (chain ++ r ∷ []) stand → IsStandAt tree (suc depth) stand
one_deeper tree depth chain r stand deep is = let long = length-append chain (r ∷ []) in record { chain = chain ++ r ∷ []; deep = omega (arith, long, deep); is = is }

-- what one of the level's stands adds
abbrev pub AddsBelowStand : ReachedCells → Stand → List Stand → List Stand → Type 0
AddsBelowStand tree outer old new = (chain : List Reference) (name : List ℕ) → IsStandOf tree chain outer → IsCellNamed tree outer.cell name → AddsBelow tree chain (IsLiveFrom tree name) old new

pub level_more : (tree : ReachedCells) (depth : ℕ) (level : List Stand) (i : ℕ) (outer : Stand) (old new : List Stand) → slice_get level i ≡ Some outer → IsStandAt tree depth outer → AddsBelowStand tree outer old new
    → LevelSoFar tree depth level i old → LevelSoFar tree depth level (i + 1) new
level_more tree depth level i outer old new here at adds far =
    let added = adds at.chain at.is.name at.is at.is.cell in
    record {
      each = λ stand h. elim (added.only stand h) [ inl before ↦ far.each stand before | inr one ↦ one_deeper tree depth at.chain one.reference stand at.deep one.is ];
      done = λ k other chain name r lt there is end live. elim (cases_lt k i) [
        | inl less ↦ let s = far.done k other chain name r less there is end live in record { stand = s.stand; listed = added.stays s.stand s.listed; is = s.is }
        | inr ge ↦
            let e : k ≡ i = omega (arith, lt, ge) in
            let same : other ≡ outer = one_at level i other outer (subst (λ (j : ℕ). slice_get level j ≡ Some other) e there) here in
            (adds chain name (subst (IsStandOf tree chain) same is) (subst (λ (o : Stand). IsCellNamed tree o.cell name) same end)).each r live
      ];
    }

-- When all are, the stands are those of the next level.
pub level_ends : (tree : ReachedCells) (depth : ℕ) (level : List Stand) (i : ℕ) (below : List Stand) → AreReachedCells tree → AreStandsAt tree depth level → length level ≤ i → LevelSoFar tree depth level i below → AreStandsAt tree (suc depth) below
level_ends tree depth level i below is stands over far = record {
  each = far.each;
  all = λ chain name long leads counts.
      let l = has_last chain depth long in
      let led = last_led tree.structs.now tree.top.now l.before l.last name (subst (λ (c : List Reference). Leads tree.structs.now tree.top.now c name) l.is leads) in
      let counted : Counts tree l.last.cell = subst (Counts tree) led.to_is counts in
      let above = stands.all l.before led.mid l.long led.leads (counts_up tree led.mid l.last is led.of counted) in
      let inside = above.listed.1 in
      let same = leads_once tree.structs.now tree.top.now l.before led.mid above.is.name led.leads above.is.leads in
      let live : IsLiveFrom tree above.is.name l.last = record { of = subst (λ (n : List ℕ). IsReferenceOf tree.structs.now n l.last) same led.of; counts = counted } in
      subst (HasStandOf tree below) (sym l.is) (far.done above.listed.0 above.stand l.before above.is.name l.last (omega (arith, inside, over)) (slice_get_read level _ above.listed.0 above.stand refl inside (sym above.listed.2)) above.is above.is.cell live);
}

-- From the top down: so many levels are gone, and the next is known.
pub record LevelsSoFar (tree : ReachedCells) (depth : ℕ) (level stands : List Stand) : Type 0 where
  pub here : AreStandsAt tree depth level
  pub above : AreStandsBelow tree depth stands

pub top_level : (tree : ReachedCells) (stand : Stand) → IsStandOf tree [] stand → LevelsSoFar tree 0 (stand ∷ []) []
top_level tree stand is = record {
  here = record {
    each = λ other h. elim (contains_cases stand [] other h) [ inl same ↦ record { chain = []; deep = refl; is = subst (IsStandOf tree []) (sym same) is } | inr none ↦ absurd (contains_none other none) ];
    all = λ chain name long leads counts. only_top chain long;
  };
  above = record {
    each = λ other h. absurd (contains_none other h);
    all = λ chain name short leads counts. absurd (omega (arith, short));
  };
}
  where
    only_top : (chain : List Reference) → length chain ≡ 0 → HasStandOf tree (stand ∷ []) chain
    only_top [] long = record { stand = stand; listed = contains_first stand []; is = is }
    only_top (r ∷ chain) long = absurd (omega (arith, long))

pub top_level_of : (tree : ReachedCells) (stand : Stand) (none level stands : List Stand) → none ≡ [] → level ≡ none ++ stand ∷ [] → stands ≡ [] → IsStandOf tree [] stand → LevelsSoFar tree 0 level stands
top_level_of tree stand none level stands empty is start at =
    subst (λ (l : List Stand). LevelsSoFar tree 0 l stands) (sym (is ∙ ap (λ (l : List Stand). l ++ stand ∷ []) empty)) (subst (LevelsSoFar tree 0 (stand ∷ [])) (sym start) (top_level tree stand at))

with_level : (tree : ReachedCells) (depth : ℕ) (level stands : List Stand) → LevelsSoFar tree depth level stands → AreStandsBelow tree (suc depth) (stands ++ level)
with_level tree depth level stands far = record {
  each = λ stand h. elim (Contains-append_cases stands level stand h) [ inl old ↦ far.above.each stand old | inr new ↦ let at = far.here.each stand new in (at.chain, at.is) ];
  all = λ chain name short leads counts. elim (cases_lt (length chain) depth) [
    | inl less ↦ let s = far.above.all chain name less leads counts in record { stand = s.stand; listed = Contains-append_left stands level s.stand s.listed; is = s.is }
    | inr ge ↦ let s = far.here.all chain name (omega (arith, short, ge)) leads counts in record { stand = s.stand; listed = Contains-append_right stands level s.stand s.listed; is = s.is }
  ];
}

pub levels_more : (tree : ReachedCells) (depth : ℕ) (level below stands next : List Stand) → next ≡ stands ++ level → AreStandsAt tree (suc depth) below → LevelsSoFar tree depth level stands → LevelsSoFar tree (depth + 1) below next
levels_more tree depth level below stands next is at far =
    let e : suc depth ≡ depth + 1 = omega arith in
    subst (λ (n : ℕ). LevelsSoFar tree n below next) e (record { here = at; above = subst (AreStandsBelow tree (suc depth)) (sym is) (with_level tree depth level stands far) })

pub levels_end : (tree : ReachedCells) (depth : ℕ) (level stands next : List Stand) → depth ≡ 32 → next ≡ stands ++ level → LevelsSoFar tree depth level stands → AreStandsBelow tree 33 next
levels_end tree depth level stands next last is far =
    let e : suc depth ≡ 33 = omega (arith, last) in
    subst (λ (n : ℕ). AreStandsBelow tree n next) e (subst (AreStandsBelow tree (suc depth)) (sym is) (with_level tree depth level stands far))

-- where the top stands
pub summaries_long : (tree : ReachedCells) → AreReachedCells tree → length tree.cells.now - 1 < length tree.summaries.now
summaries_long tree are =
    let count = are.cells.count in
    let sized = are.summaries.sized in
    omega (arith, count, sized)

pub top_stands : (tree : ReachedCells) (stand : Stand) (summary : CellSummary) → AreReachedCells tree → slice_get tree.summaries.now (length tree.cells.now - 1) ≡ Some summary → stand.cell ≡ length tree.cells.now - 1
    → stand.place ≡ record { orient = R0; at = record { x = pos 0; y = pos 0 } } → stand.steps.now ≡ [] → option_copied stand.instance ≡ instance_below None summary.is_leaf stand.steps.now → IsStandOf tree [] stand
top_stands tree stand summary are there cell place steps instance =
    let cells = leaf_cell_names tree.leaves.now in
    let structs = tree.structs.now in
    let top = tree.top.now in
    let count = are.cells.count in
    let last : are.cells.before ≡ stand.cell = omega (arith, count, cell) in
    let at : IsCellOf structs tree.cells.now stand.cell top = subst (λ (k : ℕ). IsCellOf structs tree.cells.now k top) last are.cells.last in
    let about = summary_at tree stand.cell top summary are at (subst (λ (k : ℕ). slice_get tree.summaries.now k ≡ Some summary) (sym cell) there) in
    record {
      name = top;
      cell = at;
      leads = refl;
      place = λ p. subst (λ (q : Place). placed q p ≡ p) (sym place) (same_point _ p (omega (arith, ints)) (omega (arith, ints)));
      near = subst (λ (q : Place). IsWithin (0 * 2 ^ 33) q.at) (sym place) (record { x_above = omega (arith, ints); x_below = omega (arith, ints); y_above = omega (arith, ints); y_below = omega (arith, ints) });
      steps = steps;
      instance = subst (IsInInstance cells structs top []) (sym (instance ∙ ap (instance_below None summary.is_leaf) steps)) (top_in cells structs top summary.is_leaf (λ h. subst (Contains cells) at.named (about.leaf.0 h)) (λ h. about.leaf.1 (subst (Contains cells) (sym at.named) h)));
    }
  where
    top_in : (cells : List (List ℕ)) (structs : List Structure) (top : List ℕ) (leaf : Bool) → (leaf ≡ true → Contains cells top) → (Contains cells top → leaf ≡ true) → IsInInstance cells structs top [] (instance_below None leaf [])
    top_in cells structs top true is back = inside_itself cells structs top [] top refl (refl, is refl)
    top_in cells structs top false is back = λ h. let t = back h in absurd cc

-- a stand of a list, as a loop reads it
abbrev pub no_stand : Stand
no_stand = record { cell = 0; place = record { orient = R0; at = record { x = pos 0; y = pos 0 } }; steps = record { ref_ptr = (0, 0); now = [] }; instance = None }

pub stand_there : (stands : List Stand) (i : ℕ) → i < length stands → slice_get stands i ≡ Some (get_or stands i no_stand)
stand_there stands i lt = slice_get-get_or stands i no_stand lt

pub outer_at : (tree : ReachedCells) (depth : ℕ) (level : List Stand) (i : ℕ) → AreStandsAt tree depth level → i < length level → IsStandAt tree depth (get_or level i no_stand)
outer_at tree depth level i at lt = at.each (get_or level i no_stand) (contained_at level i (get_or level i no_stand) (stand_there level i lt))

pub outer_cell : (tree : ReachedCells) (depth : ℕ) (stand : Stand) → IsStandAt tree depth stand → stand.cell < length tree.cells.now
outer_cell tree depth stand at = slice_get_within tree.cells.now stand.cell at.is.cell.cell at.is.cell.is
