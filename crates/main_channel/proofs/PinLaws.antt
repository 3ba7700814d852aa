-- Lists of pins that grow, and which pins they have.
use Rattle.std.proofs.Common.{◌≡◌, ◌⊎◌, inl, inr, ℕ, zero, suc, ◌+◌, ◌<◌, ◌≤◌, pos, ℤ, ◌+ℤ◌, ◌≤ℤ◌, to_z, of_z, w64, List, [], ◌∷◌, ◌++◌, map, flat_map, length, get_or, Option, None, Some, refl, ap, sym, subst, ◌∙◌, arith}
use Rattle.std.specs.Prelude.{slice_get}
use Rattle.std.proofs.lemmas.Int.{ints}
use Rattle.std.proofs.lemmas.List.Elements.{All-push}
use Rattle.std.proofs.lemmas.Option.{slice_get_read}
use Rattle.or_geom.proofs.ListLaws.{below_or}
use Rattle.cell_roles.specs.declared.role.Role.{Role}
use Rattle.cell_roles.specs.declared.role.Role.TheVariants.{Bitcell, Precharge, Mux, Tie, Sense, Write, RowNand2, RowNand3, Driver, Nand2, Nand3, Inv, Dff, Delay}
use Rattle.netlist.specs.declared.deck.Instance.{Instance}
use Rattle.channel_router.specs.declared.channel.ChannelPin.{ChannelPin}
use Rattle.channel_router.specs.Channel.{IsPinOf}
use Rattle.leaf_shapes.specs.Demands.{role_demands}
use Rattle.sram_netlist.specs.InstanceList.{numbers_from, tabulate, tabulate_lists}
use Rattle.port_lists.proofs.TabulateLaws.{tabulate_lists_more}
use Rattle.channel_router.proofs.PinListLaws.{pin_first, pin_none, pin_cases, pin_in_both, pin_left, pin_right}
use Rattle.main_channel.specs.Pins.{IsMainPin, AreMainPins, pin_of, numbered_net}
use Rattle.leaf_tables.specs.NearLeaf.{IsLeafLength}
use Rattle.main_channel.specs.Row.{FitRoles}

pub pushed_main : (nets : ℕ) (old new : List ChannelPin) (pin : ChannelPin) → AreMainPins nets old → new ≡ old ++ pin ∷ [] → IsMainPin nets pin → AreMainPins nets new
pushed_main nets old new pin all is here = subst (AreMainPins nets) (sym is) (All-push (IsMainPin nets) old pin all here)

-- One pin

pub record IsThisPin (pin : ChannelPin) (net : ℕ) (x : ℤ) : Type 0 where
  pub number : net ≡ pin.net
  pub here : x ≡ pin.x

pub one_is : (pin : ChannelPin) (net : ℕ) (x : ℤ) → IsPinOf (pin ∷ []) net x → IsThisPin pin net x
one_is pin net x is = by (pin_cases pin [] net x is) where
  by : ((pin.net ≡ net) × (pin.x ≡ x)) ⊎ IsPinOf [] net x → IsThisPin pin net x
  by (inl here) = record { number = sym here.0; here = sym here.1 }
  by (inr none) = absurd (pin_none net x none)

pub this_there : (pin : ChannelPin) (net : ℕ) (x : ℤ) → IsThisPin pin net x → IsPinOf (pin ∷ []) net x
this_there pin net x is = subst (λ (n : ℕ). IsPinOf (pin ∷ []) n x) (sym is.number) (subst (IsPinOf (pin ∷ []) pin.net) (sym is.here) (pin_first pin []))

-- The pin of a name

-- the net of this name, here
pub record IsPinNamed (look : List ℕ → Option ℕ) (name : List ℕ) (at : ℤ) (net : ℕ) (x : ℤ) : Type 0 where
  pub number : look name ≡ Some net
  pub here : x ≡ at

named_as_found : (look : List ℕ → Option ℕ) (name : List ℕ) (at : ℤ) (o : Option ℕ) → look name ≡ o → (net : ℕ) (x : ℤ) → IsPinOf (pin_of o at) net x → IsPinNamed look name at net x
named_as_found look name at None is net x there = absurd (pin_none net x there)
named_as_found look name at (Some number) is net x there =
    let one = one_is (record { x = at; net = number }) net x there in
    record { number = is ∙ ap (λ (n : ℕ). Some n) (sym one.number); here = one.here }

pub named_is : (look : List ℕ → Option ℕ) (name : List ℕ) (at : ℤ) (net : ℕ) (x : ℤ) → IsPinOf (numbered_net look name at) net x → IsPinNamed look name at net x
named_is look name at net x there = named_as_found look name at (look name) refl net x there

pub named_there : (look : List ℕ → Option ℕ) (name : List ℕ) (at : ℤ) (net : ℕ) (x : ℤ) → look name ≡ Some net → x ≡ at → IsPinOf (numbered_net look name at) net x
named_there look name at net x number here = subst (λ (o : Option ℕ). IsPinOf (pin_of o at) net x) (sym number) (this_there (record { x = at; net = net }) net x (record { number = refl; here = here }))

-- Lists one after another

pub lists_suc : {A : Type 0} (n : ℕ) (f : ℕ → List A) → tabulate_lists (suc n) f ≡ tabulate_lists n f ++ f n
lists_suc n f = let e : suc n ≡ n + 1 = omega arith in ap (λ (m : ℕ). tabulate_lists m f) e ∙ tabulate_lists_more n f

pub lists_same : {A : Type 0} (n : ℕ) (f g : ℕ → List A) → ((k : ℕ) → k < n → f k ≡ g k) → tabulate_lists n f ≡ tabulate_lists n g
lists_same zero f g same = refl
lists_same (suc n) f g same =
    lists_suc n f ∙ ((λ i. lists_same n f g (λ k less. same k (omega (arith, less))) i ++ same n (omega arith) i) ∙ sym (lists_suc n g))

-- one of the first lists has the pin
pub record IsInOne (n : ℕ) (f : ℕ → List ChannelPin) (net : ℕ) (x : ℤ) : Type 0 where
  pub at : ℕ
  pub below : at < n
  pub is : IsPinOf (f at) net x

pub in_one : (n : ℕ) (f : ℕ → List ChannelPin) (net : ℕ) (x : ℤ) → IsPinOf (tabulate_lists n f) net x → IsInOne n f net x
in_one zero f net x is = absurd (pin_none net x is)
in_one (suc n) f net x is = elim (pin_in_both (tabulate_lists n f) (f n) net x (subst (λ (l : List ChannelPin). IsPinOf l net x) (lists_suc n f) is)) [
  | inl before ↦ let r = in_one n f net x before in let below = r.below in record { at = r.at; below = omega (arith, below); is = r.is }
  | inr last ↦ record { at = n; below = omega arith; is = last }
]

pub of_one : (n : ℕ) (f : ℕ → List ChannelPin) (net : ℕ) (x : ℤ) (k : ℕ) → k < n → IsPinOf (f k) net x → IsPinOf (tabulate_lists n f) net x
of_one zero f net x k less is = absurd (omega (arith, less))
of_one (suc n) f net x k less is = subst (λ (l : List ChannelPin). IsPinOf l net x) (sym (lists_suc n f)) (elim (below_or k n (omega (arith, less))) [
  | inl lower ↦ pin_left (tabulate_lists n f) (f n) net x (of_one n f net x k lower is)
  | inr e ↦ pin_right (tabulate_lists n f) (f n) net x (subst (λ (m : ℕ). IsPinOf (f m) net x) e is)
])

-- a list of items is one of lists of one item each
singles_from : {A : Type 0} (f : ℕ → A) (ns : List ℕ) → map f ns ≡ flat_map (λ k. f k ∷ []) ns
singles_from f [] = refl
singles_from {A = A} f (n ∷ ns) = ap (λ (l : List A). f n ∷ l) (singles_from f ns)

pub singles : {A : Type 0} (n : ℕ) (f : ℕ → A) → tabulate n f ≡ tabulate_lists n (λ k. f k ∷ [])
singles n f = singles_from f (numbers_from 0 n)

-- The logic row

-- a cell has as many nodes as its role has demands
pub nodes_at : (gates : List Instance) (roles : List Role) (k : ℕ) (gate : Instance) (role : Role) → FitRoles gates roles → k < length gates → gate ≡ get_or gates k gate → role ≡ get_or roles k role → length gate.nodes ≡ length (role_demands role)
nodes_at gates roles k gate role fit less gate_at role_at =
    let each = fit.each in
    let there : slice_get gates k ≡ Some gate = slice_get_read gates (length gates) k gate refl less gate_at in
    let plays : slice_get roles k ≡ Some role = slice_get_read roles (length roles) k role refl (omega (arith, each, less)) role_at in
    fit.ports k gate role there plays

-- and three at least
pub three_demands : (role : Role) → 3 ≤ length (role_demands role)
three_demands Bitcell = omega arith
three_demands Precharge = omega arith
three_demands Mux = omega arith
three_demands Tie = omega arith
three_demands Sense = omega arith
three_demands Write = omega arith
three_demands RowNand2 = omega arith
three_demands RowNand3 = omega arith
three_demands Driver = omega arith
three_demands Nand2 = omega arith
three_demands Nand3 = omega arith
three_demands Inv = omega arith
three_demands Dff = omega arith
three_demands Delay = omega arith

-- a length in a leaf, as it is read
pub in_leaf_read : (z : ℤ) → IsLeafLength z → IsLeafLength (to_z w64 (of_z w64 z))
in_leaf_read z is =
    let a = is.above in
    let b = is.below in
    record { above = omega (arith, ints, a, b); below = omega (arith, ints, a, b) }

-- a width more, as it is read
pub sum_read : (x w : ℤ) → pos 0 ≤ℤ x → x ≤ℤ pos 268435456 → IsLeafLength w → to_z w64 (of_z w64 (x +ℤ to_z w64 (of_z w64 w))) ≡ x +ℤ w
sum_read x w a b is =
    let d = is.above in
    let e = is.below in
    omega (arith, ints, a, b, d, e)

-- two sizes, as they are read and added
pub added_read : (x y : ℤ) → pos 0 ≤ℤ x → x ≤ℤ pos 65536 → pos 0 ≤ℤ y → y ≤ℤ pos 65536 → to_z w64 (of_z w64 (to_z w64 (of_z w64 x) +ℤ to_z w64 (of_z w64 y))) ≡ x +ℤ y
added_read x y a b d e = omega (arith, ints, a, b, d, e)
